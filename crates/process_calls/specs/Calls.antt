-- The calls that a process makes, as text: which one a text spells, and how each is written.
use Rattle.std.specs.Prelude.{ℕ, List, [], ◌∷◌, ◌++◌, ◌+◌, map, Bool, true, false, not, ◌&&◌, ◌||◌, Option, Some, None, Result, Ok, Err, bytes_eq, codes, length, nat_le, nat_lt, if◌then◌else◌}
use Rattle.std.specs.Char.{is_ascii_graphic}
use Rattle.std.specs.Fmt.{decimal}
use Rattle.std.specs.List.{join_with_byte, list_all}
use Rattle.zn_base.specs.Decimals.{decimal_of}
use Rattle.zn_base.specs.Names.{is_letter_or_digit, is_name_byte}
use Rattle.zn_base.specs.Path.{is_path}
use Rattle.zn_base.specs.Text.{is_text, text_of}
use Rattle.zn_base.specs.declared.text.TextFault.{TextFault}
use Rattle.zn_base.specs.declared.text.TextFault.TheVariants.{BadText}
use Rattle.priv_sets.specs.Table.{name_of, number_of, privileges}
use Rattle.kernel_objects.specs.declared.objects.Signal.{Signal}
use Rattle.kernel_objects.specs.declared.objects.Signal.TheVariants.{Kill as KillSignal, Term, Zero}
use Rattle.process_calls.specs.declared.call.Call.{Call}
use Rattle.process_calls.specs.declared.call.Call.TheVariants.{Bootargs, Cons, Datasets, Devices, Drop, Exec, Exit, False, Fork, Kill, Links, Mount, Mounts, Privs, Ps, Read, True, Umount, Write, Zonename}
use Rattle.process_calls.specs.declared.call.CallFault.{CallFault}
use Rattle.process_calls.specs.declared.call.CallFault.TheVariants.{BadWord}
use Rattle.process_calls.specs.declared.call.MountCall.{MountCall}
use Rattle.process_calls.specs.Words.{Word, ◌>>=◌, last, next, words}

-- the call that a text spells, or its first wrong or missing word
abbrev pub Said : Type 0
Said = Result Call CallFault

-- 1 byte to so many, each of a class
abbrev pub is_run : (ℕ → Bool) → ℕ → List ℕ → Bool
is_run class most word = nat_le 1 (length word) && nat_le (length word) most && list_all class word

-- a word that a test takes
abbrev pub taken : (List ℕ → Bool) → List ℕ → Option (List ℕ)
taken test word = if test word then Some word else None

-- NAME
abbrev pub is_process_name : List ℕ → Bool
is_process_name word = is_run is_name_byte 16 word

abbrev pub name_in : List ℕ → Option (List ℕ)
name_in word = taken is_process_name word

-- SIG
abbrev pub signal_in : List ℕ → Option Signal
signal_in word =
    if bytes_eq word (codes "0") then Some Zero
    else if bytes_eq word (codes "9") then Some KillSignal
    else if bytes_eq word (codes "15") then Some Term
    else None

abbrev pub signal_text : Signal → List ℕ
signal_text Zero = codes "0"
signal_text KillSignal = codes "9"
signal_text Term = codes "15"

-- PID
abbrev pub greatest_pid : ℕ
greatest_pid = 4294967295

abbrev pub pid_in : List ℕ → Option ℕ
pid_in word = if bytes_eq word (codes "0") then Some 0 else decimal_of greatest_pid word

-- TYPE, as an fs has it by zonecfg(8)
abbrev pub is_fstype : List ℕ → Bool
is_fstype word = is_run is_letter_or_digit 15 word

-- SPECIAL of a TYPE: a word as long as a text may be, and a path where the type is `lofs`
abbrev pub is_special : List ℕ → List ℕ → Bool
is_special fstype word = is_run is_ascii_graphic 4200 word && (not (bytes_eq fstype (codes "lofs")) || is_path word)

-- DIR and PATH
abbrev pub path_in : List ℕ → Option (List ℕ)
path_in word = taken is_path word

-- `ro`
abbrev pub ro_in : List ℕ → Option Bool
ro_in word = if bytes_eq word (codes "ro") then Some true else None

-- a call that is made of one word more
abbrev pub made : {A : Type 0} → (List ℕ → Option A) → (A → Call) → ℕ → List Word → Said
made read make end ws = do
  a ← last read end ws
  Ok (make a)

-- `SIG PID`
abbrev pub kill_by : ℕ → List Word → Said
kill_by end ws = do
  signal ← next signal_in end ws
  made pid_in (Kill signal.0) end signal.1

-- whether a mount is read-only: `ro` and no more, or nothing
abbrev pub read_only_by : ℕ → List Word → Result Bool CallFault
read_only_by end [] = Ok false
read_only_by end (word ∷ ws) = last ro_in end (word ∷ ws)

-- `TYPE SPECIAL DIR` or `TYPE SPECIAL DIR ro`
abbrev pub mount_by : ℕ → List Word → Said
mount_by end ws = do
  fstype ← next (taken is_fstype) end ws
  special ← next (taken (is_special fstype.0)) end fstype.1
  dir ← next path_in end special.1
  read_only ← read_only_by end dir.1
  Ok (Mount (record { fstype = fstype.0; special = special.0; dir = dir.0; read_only = read_only }))

-- TEXT: the rest of the line behind one space, whatever spaces it has, or nothing
abbrev pub spaced : List Word → List ℕ
spaced ws = join_with_byte 32 (map (λ w. w.bytes) ws)

-- a byte that isn't printable is wrong where it stands
abbrev pub cons_read : ℕ → Result (List ℕ) TextFault → Said
cons_read place (Ok text) = Ok (Cons text)
cons_read place (Err (BadText at)) = Err (BadWord (place + at))
cons_read place (Err fault) = Err (BadWord place)

abbrev pub cons_by : ℕ → List Word → Said
cons_by end [] = Err (BadWord end)
cons_by end (word ∷ ws) = cons_read word.place (text_of (spaced (word ∷ ws)))

-- the calls of one word
abbrev pub bare_call : List ℕ → Option Call
bare_call word =
    if bytes_eq word (codes "exit") then Some Exit
    else if bytes_eq word (codes "ps") then Some Ps
    else if bytes_eq word (codes "privs") then Some Privs
    else if bytes_eq word (codes "mounts") then Some Mounts
    else if bytes_eq word (codes "links") then Some Links
    else if bytes_eq word (codes "datasets") then Some Datasets
    else if bytes_eq word (codes "devices") then Some Devices
    else if bytes_eq word (codes "zonename") then Some Zonename
    else if bytes_eq word (codes "bootargs") then Some Bootargs
    else if bytes_eq word (codes "true") then Some True
    else if bytes_eq word (codes "false") then Some False
    else None

-- by the first word, and the words after it
abbrev pub call_by : ℕ → Word → List Word → Said
call_by end first ws =
    if bytes_eq first.bytes (codes "fork") then made name_in Fork end ws
    else if bytes_eq first.bytes (codes "exec") then made name_in Exec end ws
    else if bytes_eq first.bytes (codes "kill") then kill_by end ws
    else if bytes_eq first.bytes (codes "drop") then made number_of Drop end ws
    else if bytes_eq first.bytes (codes "mount") then mount_by end ws
    else if bytes_eq first.bytes (codes "umount") then made path_in Umount end ws
    else if bytes_eq first.bytes (codes "read") then made path_in Read end ws
    else if bytes_eq first.bytes (codes "write") then made path_in Write end ws
    else if bytes_eq first.bytes (codes "cons") then cons_by end ws
    else last bare_call end (first ∷ ws)

abbrev pub call_of_words : ℕ → List Word → Said
call_of_words end [] = Err (BadWord end)
call_of_words end (first ∷ ws) = call_by end first ws

unfoldable pub call_of : List ℕ → Said
call_of text = call_of_words (length text) (words text)

abbrev pub read_only_text : Bool → List ℕ
read_only_text true = codes " ro"
read_only_text false = []

abbrev pub mount_text : MountCall → List ℕ
mount_text mount = mount.fstype ++ (32 ∷ mount.special ++ (32 ∷ mount.dir ++ read_only_text mount.read_only))

-- a call as it is written
abbrev pub call_text : Call → List ℕ
call_text (Fork name) = codes "fork " ++ name
call_text (Exec name) = codes "exec " ++ name
call_text Exit = codes "exit"
call_text (Kill signal pid) = codes "kill " ++ (signal_text signal ++ (32 ∷ decimal pid))
call_text Ps = codes "ps"
call_text Privs = codes "privs"
call_text (Drop number) = codes "drop " ++ name_of number
call_text (Mount mount) = codes "mount " ++ mount_text mount
call_text (Umount dir) = codes "umount " ++ dir
call_text (Read path) = codes "read " ++ path
call_text (Write path) = codes "write " ++ path
call_text Mounts = codes "mounts"
call_text Links = codes "links"
call_text Datasets = codes "datasets"
call_text Devices = codes "devices"
call_text Zonename = codes "zonename"
call_text Bootargs = codes "bootargs"
call_text (Cons text) = codes "cons " ++ text
call_text True = codes "true"
call_text False = codes "false"

abbrev pub is_mount : MountCall → Bool
is_mount mount = is_fstype mount.fstype && is_special mount.fstype mount.special && is_path mount.dir

-- a call with right names and paths, and with numbers that there are
abbrev pub is_call : Call → Bool
is_call (Fork name) = is_process_name name
is_call (Exec name) = is_process_name name
is_call (Kill signal pid) = nat_le pid greatest_pid
is_call (Drop number) = nat_lt number (length privileges)
is_call (Mount mount) = is_mount mount
is_call (Umount dir) = is_path dir
is_call (Read path) = is_path path
is_call (Cons text) = is_text text
is_call (Write path) = is_path path
is_call Exit = true
is_call Ps = true
is_call Privs = true
is_call Mounts = true
is_call Links = true
is_call Datasets = true
is_call Devices = true
is_call Zonename = true
is_call Bootargs = true
is_call True = true
is_call False = true
