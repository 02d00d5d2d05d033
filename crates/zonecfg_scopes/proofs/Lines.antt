-- What an editor makes of lines is what they denote.
use Rattle.std.proofs.Common.{◌≡◌, ℕ, List, [], ◌∷◌, ◌++◌, Option, Some, None, Result, Ok, Err, refl, sym, subst, append_assoc}
use Rattle.std.proofs.lemmas.List.{append-nil}
use Rattle.zonecfg_scopes.specs.declared.base.Base.{Base}
use Rattle.zonecfg_scopes.specs.declared.command.Command.{Command}
use Rattle.zonecfg_scopes.specs.declared.fault.EditFault.{EditFault}
use Rattle.zonecfg_scopes.specs.Denotes.{Stands, based}
use Rattle.zonecfg_scopes.specs.Edited.{Edited, IsAfter, after_line, after_lines, after_read, base_config, commands_of, opened_on}
use Rattle.zonecfg_scopes.specs.Forms.{command_of}
use Rattle.zonecfg_scopes.specs.Laws.{LinesDenote}
use Rattle.zonecfg_scopes.proofs.Followed.{spelled, unspelled}
use Rattle.zonecfg_scopes.proofs.Steps.{stands_stepped}

-- an editor of which nothing was asked yet
begun : (name : List ℕ) (base : Option Base) → IsAfter [] (opened_on name base)
begun name None = based
begun name (Some b) = based

-- one more line
one_more : (front : List (List ℕ)) (line : List ℕ) (e : Edited) (read : Result Command EditFault) → command_of line ≡ read → IsAfter front e → IsAfter (front ++ line ∷ []) (after_read read e)
one_more front line e (Ok command) h s =
    let P : List Command → Type 0 = λ cs. Stands (base_config e.base) cs (after_read (Ok command) e).opened in
    subst P (sym (spelled front line command h)) (stands_stepped (base_config e.base) (commands_of front) command e.opened s)
one_more front line e (Err fault) h s =
    let P : List Command → Type 0 = λ cs. Stands (base_config e.base) cs e.opened in
    subst P (sym (unspelled front line fault h)) s

lines_more : (front lines : List (List ℕ)) (e : Edited) → IsAfter front e → IsAfter (front ++ lines) (after_lines lines e)
lines_more front [] e s = let P : List (List ℕ) → Type 0 = λ xs. IsAfter xs e in subst P (sym (append-nil front)) s
lines_more front (line ∷ lines) e s =
    let P : List (List ℕ) → Type 0 = λ xs. IsAfter xs (after_lines lines (after_line line e)) in
    subst P (append_assoc front (line ∷ []) lines) (lines_more (front ++ line ∷ []) lines (after_line line e) (one_more front line e (command_of line) refl s))

pub lines_denote : LinesDenote
lines_denote name base lines = lines_more [] lines (opened_on name base) (begun name base)
