-- What the code's readers of words give, as the definitions have it.
use Rattle.std.specs.Prelude.{◌≡◌, ℕ, List, [], ◌∷◌, Option, Some, None, ◌<◌, length, get_or, take, drop, false, ◌≤◌}
use Rattle.std.specs.Bool.{IsTrue}
use Rattle.std.specs.Borrow.{Bor}
use Rattle.std.specs.Option.{option_map}
use Rattle.zn_base.specs.Path.{is_path}
use Rattle.zn_base.specs.Text.{is_text}
use Rattle.zone_cases.specs.Session.Lines as lines
use Rattle.zone_cases.specs.Session.Lines.{is_space, past_spaces, past_word, words}
use Rattle.zone_cases.specs.declared.session.lines.Command.{Command}
use Rattle.zone_cases.specs.declared.session.lines.Command.TheVariants.{Blank, Boot, Clone, Console, Edit, Enter, Help, Hold, Kill, ListOne, ListZones, Login, Move, Reboot, Release, Request, Unforced, Unknown, Verify, Zonecfg}
use Rattle.zoneadmd_steps.specs.declared.requests.Request.TheVariants as request
use Rattle.zone_cases.specs.declared.session.lines.Line.{Line}

-- a text begins with a word
pub record IsWordFirst (text : List ℕ) : Type 0 where
  pub some : 0 < length text
  pub other : is_space (get_or text 0 0) ≡ false

-- a text with the same words that begins with a word, or none where there is no word
abbrev pub BeginsWord : Option (Bor (List ℕ)) → List ℕ → Type 0
BeginsWord None text = words text ≡ []
BeginsWord (Some rest) text = (words text ≡ words rest.now) × IsWordFirst rest.now

-- it is what stands from the first word on
abbrev pub GivesSpaceless : Option (Bor (List ℕ)) → List ℕ → Type 0
GivesSpaceless None text = Unit {0}
GivesSpaceless (Some rest) text = rest.now ≡ past_spaces text

-- the word that a text begins with ends there
pub record EndsWord (end : ℕ) (text : List ℕ) : Type 0 where
  pub fits : end ≤ length text
  pub word : words text ≡ take end text ∷ words (drop end text)

-- the first word of some words, and a text of the others
abbrev pub GivesWord : Option (Bor (List ℕ) × Bor (List ℕ)) → List (List ℕ) → Type 0
GivesWord None ws = ws ≡ []
GivesWord (Some r) ws = ws ≡ r.0.now ∷ words r.1.now

-- what follows the first word of a text
abbrev pub GivesPast : Option (Bor (List ℕ) × Bor (List ℕ)) → List ℕ → Type 0
GivesPast None text = Unit {0}
GivesPast (Some r) text = r.1.now ≡ past_word text

-- a text of the words that are left, where some are
abbrev pub GivesRest : Option (Bor (List ℕ)) → Option (List (List ℕ)) → Type 0
GivesRest None rest = rest ≡ None
GivesRest (Some text) rest = rest ≡ Some (words text.now)

abbrev pub as_word : Option (Bor (List ℕ)) → Option (List ℕ)
as_word o = option_map (λ word. word.now) o

-- an escape byte or none, and the words that are left
abbrev pub as_escape : Option ℕ × Bor (List ℕ) → Option ℕ × List (List ℕ)
as_escape r = (r.0, words r.1.now)

abbrev pub as_command : Command → lines.Command
as_command Blank = lines.Blank
as_command Edit = lines.Edit
as_command (Zonecfg text) = lines.Zonecfg text.now
as_command (Request kind) = lines.asks kind
as_command (Boot args) = lines.Ask (request.Boot (lines.joined (words args.now)))
as_command (Reboot args) = lines.Ask (request.Reboot (lines.joined (words args.now)))
as_command (Move path) = lines.Ask (request.Move path.now)
as_command (Clone source) = lines.Clone source.now
as_command Unforced = lines.Unforced
as_command (Kill signal pid) = lines.Kill signal pid
as_command (Hold dir) = lines.Hold dir.now
as_command (Release dir) = lines.Release dir.now
as_command (Login escape) = lines.Login escape
as_command (Console escape) = lines.Console escape
as_command (Enter text) = lines.Enter text.now
as_command Help = lines.Help
as_command Verify = lines.Verify
as_command (ListOne form) = lines.List_one form
as_command (ListZones options) = lines.List_zones options
as_command Unknown = lines.Unknown

-- the contents of a request that a command asks for are such contents
abbrev pub IsRight : lines.Command → Type 0
IsRight (lines.Ask (request.Boot args)) = IsTrue (is_text args)
IsRight (lines.Ask (request.Reboot args)) = IsTrue (is_text args)
IsRight (lines.Ask (request.Move path)) = IsTrue (is_path path)
IsRight (lines.Zonecfg text) = length text ≤ 4200
IsRight _ = Unit {0}

abbrev pub as_line : Line → lines.Line
as_line l = record { text = l.text.now; zone = as_word l.zone; command = as_command l.command }

-- what an idle session asks for is such, and a session that edits can say the line to its editor
abbrev pub IsRightLine : Line → Type 0
IsRightLine l = IsRight (as_command l.command) × (length l.text.now ≤ 4200)
