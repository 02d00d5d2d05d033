-- How a line of a session is read, by the words of zonecfg(8), zoneadm(8), zlogin(1) and kill(1).
use Rattle.zone_pools.specs.Firsts.{is_nil, first_of}
use Rattle.process_calls.specs.Calls.{pid_in, signal_in}
use Rattle.kernel_objects.specs.declared.objects.Signal.{Signal}
use Rattle.std.specs.Prelude.{ℕ, suc, zero, List, [], ◌∷◌, ◌++◌, length, drop, filter, Bool, true, false, not, ◌&&◌, ◌||◌, ◌==◌, Option, Some, None, bytes_eq, codes, if◌then◌else◌, position, unwrap_or}
use Rattle.std.specs.Option.{option_map, option_or}
use Rattle.std.specs.List.{list_all, list_any, slice_split}
use Rattle.zn_base.specs.Path.{is_path}
use Rattle.zoneadmd_steps.specs.declared.requests.RequestKind.{RequestKind}
use Rattle.zoneadmd_steps.specs.declared.requests.RequestKind.TheVariants as kind
use Rattle.zoneadmd_steps.specs.declared.requests.Request.{Request}
use Rattle.zoneadmd_steps.specs.declared.requests.Request.TheVariants as request
use Rattle.zone_cases.specs.declared.session.listing.Form.{Form}
use Rattle.zone_cases.specs.declared.session.listing.Options.{Options}
use Rattle.zone_cases.specs.declared.session.listing.Form.TheVariants.{Columns, Fields, Names}

-- what a line asks for
pub data Command : Type 0 where
  Blank : Command
  -- the session edits the zone from now on, by zonecfg(8)
  Edit : Command
  -- these subcommands of zonecfg(8) are said to an editor of their own
  Zonecfg : (text : List ℕ) → Command
  -- the zone's daemon is asked
  Ask : Request → Command
  -- it is asked to make the zone a copy of another, by the word that names that one
  Clone : (source : List ℕ) → Command
  -- it would be asked to uninstall the zone, but `-F` is missing
  Unforced : Command
  -- a signal is sent to the process of a number, whichever zone has it, by kill(1)
  Kill : Signal → (pid : ℕ) → Command
  -- the global zone holds a mount of the zone, or does so no more
  Hold : (dir : List ℕ) → Command
  Release : (dir : List ℕ) → Command
  -- by zlogin(1), the session is logged in, with this escape byte or none
  Login : (escape : Option ℕ) → Command
  -- it has the zone's console
  Console : (escape : Option ℕ) → Command
  -- a process enters the zone, makes this call and goes
  Enter : (text : List ℕ) → Command
  -- it is told what zoneadm(8) can be asked for
  Help : Command
  -- the zone's stored configuration is looked at
  Verify : Command
  -- the zone is told of in this form, and no other
  List_one : Form → Command
  -- the zones are told of that the options say
  List_zones : Options → Command
  Unknown : Command

-- a line, the word that it gives as the name of its zone, and what it asks for where its session is idle
pub record Line : Type 0 where
  pub text : List ℕ
  pub zone : Option (List ℕ)
  pub command : Command

abbrev pub is_space : ℕ → Bool
is_space b = b == 32

-- the words of a text: what stands between its spaces, where that is something
abbrev pub words : List ℕ → List (List ℕ)
words text = filter (λ word. not (is_nil word)) (slice_split is_space text)

-- the word after the first `-z`
abbrev pub word_after_flag : List (List ℕ) → Option (List ℕ)
word_after_flag [] = None
word_after_flag (word ∷ more) = if bytes_eq word (codes "-z") then first_of more else word_after_flag more

-- the first word and those after it
abbrev pub next_word : List (List ℕ) → Option (List ℕ × List (List ℕ))
next_word [] = None
next_word (word ∷ more) = Some (word, more)

-- the words after one that is wanted
abbrev pub after_word : List ℕ → List (List ℕ) → Option (List (List ℕ))
after_word wanted [] = None
after_word wanted (word ∷ more) = if bytes_eq word wanted then Some more else None

-- something, where no word is left
abbrev pub at_end : {A : Type 0} → A → List (List ℕ) → Option A
at_end a ws = if is_nil ws then Some a else None

infixl 10 ◌>>=◌
abbrev pub ◌>>=◌ : {A B : Type 0} → Option A → (A → Option B) → Option B
None >>= f = None
(Some x) >>= f = f x

-- a text from its first word on, and what follows that word
abbrev pub past_spaces : List ℕ → List ℕ
past_spaces text = drop (unwrap_or (position (λ b. not (is_space b)) text) (length text)) text

abbrev pub past_word : List ℕ → List ℕ
past_word text = drop (unwrap_or (position is_space (past_spaces text)) (length (past_spaces text))) (past_spaces text)

-- a text from the word on that has so many words before it
abbrev pub from_word : ℕ → List ℕ → List ℕ
from_word zero text = past_spaces text
from_word (suc n) text = from_word n (past_word text)

-- `zonecfg -z Z`; where some word follows the name of the zone, subcommands: from that word to the end of the line, as it was typed
abbrev pub zonecfg_command : List ℕ → List (List ℕ) → Command
zonecfg_command text [] = Edit
zonecfg_command text (word ∷ more) = Zonecfg text

-- requests that are one word
abbrev pub request_word : List ℕ → Option Request
request_word word =
    if bytes_eq word (codes "install") then Some request.Install
    else if bytes_eq word (codes "attach") then Some request.Attach
    else if bytes_eq word (codes "detach") then Some request.Detach
    else if bytes_eq word (codes "ready") then Some request.Ready
    else if bytes_eq word (codes "halt") then Some request.Halt
    else None

-- `uninstall` wants `-F`
abbrev pub uninstall_command : List (List ℕ) → Option Command
uninstall_command [] = Some Unforced
uninstall_command (word ∷ more) = if bytes_eq word (codes "-F") then at_end (Ask request.Uninstall) more else None

-- `mark incomplete`
abbrev pub mark_command : List (List ℕ) → Option Command
mark_command ws = do
  ws ← after_word (codes "incomplete") ws
  at_end (Ask request.Mark) ws

-- `move PATH`, a path other than `/`
abbrev pub move_path : List ℕ → Option (List ℕ)
move_path word = if is_path word && not (bytes_eq word (codes "/")) then Some word else None

abbrev pub move_command : List (List ℕ) → Option Command
move_command ws = do
  word ← next_word ws
  path ← move_path word.0
  at_end (Ask (request.Move path)) word.1

-- `clone SOURCE`
abbrev pub clone_command : List (List ℕ) → Option Command
clone_command ws = do
  word ← next_word ws
  at_end (Clone word.0) word.1

-- the options of a boot, of which each may come once: `-s`, `-i PATH`, `-m WORD`, by those that may still come
abbrev pub are_args : (s i m : Bool) → List (List ℕ) → Bool
are_args s i m [] = true
are_args s i m (word ∷ []) = s && bytes_eq word (codes "-s")
are_args s i m (word ∷ other ∷ more) =
    if bytes_eq word (codes "-s") then s && are_args false i m (other ∷ more)
    else if bytes_eq word (codes "-i") then i && is_path other && are_args s false m more
    else if bytes_eq word (codes "-m") then m && are_args s i false more
    else false

-- words with a space between two
abbrev pub joined : List (List ℕ) → List ℕ
joined [] = []
joined (word ∷ []) = word
joined (word ∷ other ∷ more) = word ++ 32 ∷ joined (other ∷ more)

-- nothing, or `--` and the options
abbrev pub args_text : List (List ℕ) → Option (List ℕ)
args_text [] = Some []
args_text (word ∷ more) = if bytes_eq word (codes "--") && are_args true true true more then Some (joined more) else None

-- the request that a word and those after it are
abbrev pub request_command : List ℕ → List (List ℕ) → Option Command
request_command word ws =
    if bytes_eq word (codes "boot") then option_map (λ args. Ask (request.Boot args)) (args_text ws)
    else if bytes_eq word (codes "reboot") then option_map (λ args. Ask (request.Reboot args)) (args_text ws)
    else if bytes_eq word (codes "uninstall") then uninstall_command ws
    else if bytes_eq word (codes "mark") then mark_command ws
    else if bytes_eq word (codes "move") then move_command ws
    else if bytes_eq word (codes "clone") then clone_command ws
    else request_word word >>= λ asked. at_end (Ask asked) ws

-- `list`, with `-p` or `-v` or neither
abbrev pub form_word : List ℕ → Option Form
form_word word =
    if bytes_eq word (codes "-p") then Some Fields
    else if bytes_eq word (codes "-v") then Some Columns
    else None

abbrev pub list_one_command : List (List ℕ) → Option Command
list_one_command [] = Some (List_one Names)
list_one_command (word ∷ more) = form_word word >>= λ form. at_end (List_one form) more

-- what only tells something, or a request
abbrev pub subcommand : List ℕ → List (List ℕ) → Option Command
subcommand word ws =
    if bytes_eq word (codes "help") then at_end Help ws
    else if bytes_eq word (codes "verify") then at_end Verify ws
    else if bytes_eq word (codes "list") then list_one_command ws
    else request_command word ws

abbrev pub zoneadm_command : List (List ℕ) → Option Command
zoneadm_command ws = do
  word ← next_word ws
  subcommand word.0 word.1

-- what is asked that has no contents
abbrev pub asks : RequestKind → Command
asks kind.Install = Ask request.Install
asks kind.Uninstall = Ask request.Uninstall
asks kind.Attach = Ask request.Attach
asks kind.Detach = Ask request.Detach
asks kind.Mark = Ask request.Mark
asks kind.Ready = Ask request.Ready
asks kind.Halt = Ask request.Halt
asks _ = Unknown

-- `SIG PID`
abbrev pub kill_command : List (List ℕ) → Option Command
kill_command ws = do
  word ← next_word ws
  signal ← signal_in word.0
  word ← next_word word.1
  pid ← pid_in word.0
  at_end (Kill signal pid) word.1

-- zlogin(1). The escape byte is `~` where no option says otherwise: `-e C` has it be C, one byte, and `-E` has there be none
abbrev pub usual_escape : Option ℕ
usual_escape = Some 126

abbrev pub byte_word : List ℕ → Option ℕ
byte_word (b ∷ []) = Some b
byte_word word = None

abbrev pub escape_byte : List (List ℕ) → Option (Option ℕ × List (List ℕ))
escape_byte ws = do
  word ← next_word ws
  option_map (λ b. (Some b, word.1)) (byte_word word.0)

abbrev pub escape_words : List (List ℕ) → Option (Option ℕ × List (List ℕ))
escape_words [] = Some (usual_escape, [])
escape_words (word ∷ more) =
    if bytes_eq word (codes "-E") then Some (None, more)
    else if bytes_eq word (codes "-e") then escape_byte more
    else Some (usual_escape, word ∷ more)

-- a name, and no more
abbrev pub named : Command → List (List ℕ) → Option Command
named command ws = do
  name ← next_word ws
  at_end command name.1

-- behind `-C`
abbrev pub console_command : List (List ℕ) → Option Command
console_command ws = do
  escape ← escape_words ws
  named (Console escape.0) escape.1

-- behind an option that says the escape byte
abbrev pub attended_by : Option ℕ → List ℕ → List (List ℕ) → Option Command
attended_by escape word more =
    if bytes_eq word (codes "-C") then named (Console escape) more
    else at_end (Login escape) more

abbrev pub attended_command : List (List ℕ) → Option Command
attended_command ws = do
  escape ← escape_words ws
  word ← next_word escape.1
  attended_by escape.0 word.0 word.1

-- behind the name: nothing, or a call, to the end of the line, as it was typed
abbrev pub entered_command : List ℕ → List (List ℕ) → Command
entered_command text [] = Login usual_escape
entered_command text (word ∷ more) = Enter text

abbrev pub is_escape_option : List ℕ → Bool
is_escape_option word = bytes_eq word (codes "-E") || bytes_eq word (codes "-e")

abbrev pub zlogin_by : List ℕ → List ℕ → List (List ℕ) → Option Command
zlogin_by text word more =
    if bytes_eq word (codes "-C") then console_command more
    else if is_escape_option word then attended_command (word ∷ more)
    else Some (entered_command text more)

abbrev pub zlogin_command : List ℕ → List (List ℕ) → Option Command
zlogin_command text ws = do
  word ← next_word ws
  zlogin_by (from_word 2 text) word.0 word.1

-- the word that is the name: the first that is no option, nor the word behind `-e`
abbrev pub zlogin_zone : (is_byte : Bool) → List (List ℕ) → Option (List ℕ)
zlogin_zone is_byte [] = None
zlogin_zone true (word ∷ more) = zlogin_zone false more
zlogin_zone false (word ∷ more) =
    if bytes_eq word (codes "-e") then zlogin_zone true more
    else if bytes_eq word (codes "-C") || bytes_eq word (codes "-E") then zlogin_zone false more
    else Some word

-- the word that a line gives as the name of its zone
abbrev pub zone_word : List (List ℕ) → Option (List ℕ)
zone_word [] = None
zone_word (word ∷ more) = if bytes_eq word (codes "zlogin") then zlogin_zone false more else word_after_flag (word ∷ more)

abbrev pub path_in : List ℕ → Option (List ℕ)
path_in word = if is_path word then Some word else None

-- `DIR`, an absolute path
abbrev pub dir_words : List (List ℕ) → Option (List ℕ)
dir_words ws = do
  word ← next_word ws
  dir ← path_in word.0
  at_end dir word.1

-- by the text after the name of the zone, and its words
abbrev pub tool_command : List ℕ → List ℕ → List (List ℕ) → Option Command
tool_command text tool ws =
    if bytes_eq tool (codes "zonecfg") then Some (zonecfg_command text ws)
    else if bytes_eq tool (codes "zoneadm") then zoneadm_command ws
    else if bytes_eq tool (codes "fhold") then option_map Hold (dir_words ws)
    else if bytes_eq tool (codes "frelease") then option_map Release (dir_words ws)
    else None

-- `zonecfg -z Z`, `zoneadm -z Z`, or one of this project's own `fhold -z Z` and `frelease -z Z`, and what follows
abbrev pub zone_command : List ℕ → List (List ℕ) → Option Command
zone_command text ws = do
  tool ← next_word ws
  ws ← after_word (codes "-z") tool.1
  zone ← next_word ws
  tool_command (from_word 3 text) tool.0 zone.1

-- `list` of all zones takes one word of options: `-`, and letters of `cinpv` in any order, repeated or not
abbrev pub is_option : ℕ → Bool
is_option b = b == 99 || b == 105 || b == 110 || b == 112 || b == 118

abbrev pub are_options : List ℕ → Bool
are_options [] = false
are_options (b ∷ letters) = b == 45 && not (is_nil letters) && list_all is_option letters

abbrev pub has_option : ℕ → List ℕ → Bool
has_option letter word = list_any (λ b. b == letter) word

-- `-p` and `-v` exclude each other
abbrev pub form_by : (p v : Bool) → Option Form
form_by false false = Some Names
form_by true false = Some Fields
form_by false true = Some Columns
form_by true true = None

abbrev pub options_of : List ℕ → Form → Options
options_of word form = record { configured = has_option 99 word; installed = has_option 105 word; no_global = has_option 110 word; form = form }

abbrev pub options_word : List ℕ → Option Options
options_word word = if are_options word then option_map (options_of word) (form_by (has_option 112 word) (has_option 118 word)) else None

abbrev pub list_zones_command : List (List ℕ) → Option Command
list_zones_command [] = Some (List_zones (options_of [] Names))
list_zones_command (word ∷ more) = options_word word >>= λ options. at_end (List_zones options) more

-- `zoneadm help` and `zoneadm list`, which name no zone
abbrev pub general_subcommand : List ℕ → List (List ℕ) → Option Command
general_subcommand word ws =
    if bytes_eq word (codes "help") then at_end Help ws
    else if bytes_eq word (codes "list") then list_zones_command ws
    else None

abbrev pub general_command : List (List ℕ) → Option Command
general_command ws = do
  ws ← after_word (codes "zoneadm") ws
  word ← next_word ws
  general_subcommand word.0 word.1

-- by its first word
abbrev pub command_by : List ℕ → List ℕ → List (List ℕ) → Option Command
command_by text tool more =
    if bytes_eq tool (codes "kill") then kill_command more
    else if bytes_eq tool (codes "zlogin") then zlogin_command text more
    else option_or (general_command (tool ∷ more)) (zone_command text (tool ∷ more))

abbrev pub command_of : List ℕ → List (List ℕ) → Command
command_of text [] = Blank
command_of text (word ∷ more) = unwrap_or (command_by text word more) Unknown

unfoldable pub line_of : List ℕ → Line
line_of text = record { text = text; zone = zone_word (words text); command = command_of text (words text) }
