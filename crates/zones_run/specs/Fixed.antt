-- The texts that are the same in every run.
use Rattle.std.specs.Prelude.{ℕ, List, [], ◌∷◌, ◌++◌, codes}
use Rattle.std.specs.List.{flat_map}

-- lines, each with its newline
abbrev pub text_of_lines : List (List ℕ) → List ℕ
text_of_lines lines = flat_map (λ line. line ++ 10 ∷ []) lines

-- where the words are no form of the command line
abbrev pub usage_text : List ℕ
usage_text = text_of_lines (codes "usage: zones export|script|trace|given|purge ZONE|index|bulk N|live" ∷ [])

abbrev pub version_text : List ℕ
version_text = text_of_lines (codes "zones 0.1.0" ∷ [])

abbrev pub help_text : List ℕ
help_text = text_of_lines (
    codes "usage: zones COMMAND" ∷
    [] ∷
    codes "COMMAND is one of" ∷
    codes "  export     write the export text of the zonecfg(8) subcommands on standard input" ∷
    codes "  trace      write the reply to each event of the trace on standard input" ∷
    codes "  script     the same, and give a zone's daemon its turns after each line that asks it" ∷
    codes "             for something" ∷
    codes "  purge ZONE run the trace, and write in place of replies its lines that are of this zone" ∷
    codes "             or of the whole system, each behind what the pools gave it" ∷
    codes "  given      the same as trace, for lines that state what the pools gave their events, as" ∷
    codes "             purge writes them" ∷
    codes "  bulk N     make N zones, from 1 to 256, by a script that is run as script runs its input," ∷
    codes "             and write how many events were answered and refused, and how many zones run" ∷
    codes "             and are installed then" ∷
    codes "  live       run each session's lines on a thread of its own, with the turns that they wait" ∷
    codes "             for, and write the record: each event behind what it was given, and its reply" ∷
    codes "  index      write a line for each stored zone" ∷
    codes "  --help     write this text" ∷
    codes "  --version  write the version" ∷
    [] ∷
    codes "Zones are kept in the file zones.store, in the current folder." ∷
    [] ∷
    codes "The exit status is 0 where all is done, 1 where a line or the end of the input is" ∷
    codes "refused, 2 for a faulty command line, 3 for a line outside the grammar of a trace, 4" ∷
    codes "for a read fault, 5 for a write fault, 6 for a fault of the disk, 7 where zones.store" ∷
    codes "is no store, 8 for a line above 4096 bytes or more than 200000 lines (4000 of live)," ∷
    codes "and 9 where memory runs out." ∷
    [] ∷
    codes "docs/CODES.md says what each code means, and what to do about it." ∷
    [])
