-- What an editor answers and stands for, by what its subcommand made of what was open.
use Rattle.std.proofs.Common.{◌≡◌, ◌⊎◌, inl, inr, ℕ, List, [], ◌∷◌, ◌++◌, Option, Result, Ok, Err, refl, ap, sym, subst, ◌∙◌}
use Rattle.std.proofs.lemmas.List.{append-nil}
use Rattle.zonecfg_scopes.specs.declared.base.Base.{Base}
use Rattle.zonecfg_scopes.specs.declared.command.Command.{Command}
use Rattle.zonecfg_scopes.specs.declared.command.EditReply.{EditReply}
use Rattle.zonecfg_scopes.specs.declared.fault.EditFault.{EditFault}
use Rattle.zonecfg_scopes.specs.declared.fault.EditFault.TheVariants.{Memory}
use Rattle.zonecfg_scopes.specs.Denotes.{Follows, GoesOn, Stands, list_after}
use Rattle.zonecfg_scopes.specs.Edited.{Edited, IsAfter, base_config, commands_of, lines_after, with_command}
use Rattle.zonecfg_scopes.specs.Forms.{command_of}
use Rattle.zonecfg_scopes.specs.Open.{Open}
use Rattle.zonecfg_scopes.proofs.Steps.{goes_on}

shifted : (read : Result Command EditFault) (xs ys : List Command) → with_command read (xs ++ ys) ≡ with_command read xs ++ ys
shifted (Ok command) xs ys = refl
shifted (Err fault) xs ys = refl

-- one more line
commands_of-append : (lines : List (List ℕ)) (line : List ℕ) → commands_of (lines ++ line ∷ []) ≡ commands_of lines ++ with_command (command_of line) []
commands_of-append [] line = refl
commands_of-append (first ∷ lines) line =
    ap (with_command (command_of first)) (commands_of-append lines line) ∙ shifted (command_of first) (commands_of lines) (with_command (command_of line) [])

pub spelled : (lines : List (List ℕ)) (line : List ℕ) (command : Command) → command_of line ≡ Ok command → commands_of (lines ++ line ∷ []) ≡ commands_of lines ++ command ∷ []
spelled lines line command e = commands_of-append lines line ∙ ap (λ r. commands_of lines ++ with_command r []) e

pub unspelled : (lines : List (List ℕ)) (line : List ℕ) (fault : EditFault) → command_of line ≡ Err fault → commands_of (lines ++ line ∷ []) ≡ commands_of lines
unspelled lines line fault e = commands_of-append lines line ∙ ap (λ r. commands_of lines ++ with_command r []) e ∙ append-nil (commands_of lines)

commands_after : (lines : List (List ℕ)) (line : List ℕ) (command : Command) (result : Result EditReply EditFault) → command_of line ≡ Ok command → commands_of (lines_after lines line result) ≡ list_after (commands_of lines) command result
commands_after lines line command (Ok reply) e = spelled lines line command e
commands_after lines line command (Err Memory) e = refl
commands_after lines line command (Err fault) e = spelled lines line command e

-- a line that spells a subcommand
pub stands_by_line : (line : List ℕ) (command : Command) (old new : Edited) (result : Result EditReply EditFault) → command_of line ≡ Ok command → GoesOn command old.opened new.opened result → new.base ≡ old.base
    → (lines : List (List ℕ)) → IsAfter lines old → IsAfter (lines_after lines line result) new
stands_by_line line command old new result e goes same lines s =
    let P : Option Base → Type 0 = λ b. Stands (base_config b) (commands_of (lines_after lines line result)) new.opened in
    let Q : List Command → Type 0 = λ cs. Stands (base_config old.base) cs new.opened in
    subst P (sym same) (subst Q (sym (commands_after lines line command result e)) (goes (base_config old.base) (commands_of lines) s))

refused_unread : (line : List ℕ) (fault : EditFault) (old : Edited) → (fault ≡ Memory) ⊎ (command_of line ≡ Err fault) → (lines : List (List ℕ)) → IsAfter lines old → IsAfter (lines_after lines line (Err fault)) old
refused_unread line Memory old h lines s = s
refused_unread line fault old (inl h) lines s = absurd (cc)
refused_unread line fault old (inr h) lines s =
    let Q : List Command → Type 0 = λ cs. Stands (base_config old.base) cs old.opened in
    subst Q (sym (unspelled lines line fault h)) s

-- a line that spells none
pub stands_unread : (line : List ℕ) (fault : EditFault) (answer : Result EditReply EditFault) (old : Edited) → answer ≡ Err fault → (fault ≡ Memory) ⊎ (command_of line ≡ Err fault)
    → (lines : List (List ℕ)) → IsAfter lines old → IsAfter (lines_after lines line answer) old
stands_unread line fault answer old e h lines s =
    let P : Result EditReply EditFault → Type 0 = λ r. IsAfter (lines_after lines line r) old in
    subst P (sym e) (refused_unread line fault old h lines s)

-- what was done goes on, whatever it is answered
pub goes_done : (command : Command) (old new : Open) (answer : Result EditReply EditFault) (reply : EditReply) (x : Unit {0}) → answer ≡ Ok reply → Follows command old new (Ok x) → GoesOn command old new answer
goes_done command old new answer reply x e f =
    let P : Result EditReply EditFault → Type 0 = λ r. GoesOn command old new r in
    subst P (sym e) (goes_on command old new (Ok x) f)

goes_refused : (command : Command) (old new : Open) (fault : EditFault) → Follows command old new (Err fault) → GoesOn {A = EditReply} command old new (Err fault)
goes_refused command old new Memory f = goes_on command old new (Err Memory) f
goes_refused command old new fault f = goes_on command old new (Err fault) f

-- what was refused goes on
pub goes_failed : (command : Command) (old new : Open) (answer : Result EditReply EditFault) (fault : EditFault) → answer ≡ Err fault → Follows command old new (Err fault) → GoesOn command old new answer
goes_failed command old new answer fault e f =
    let P : Result EditReply EditFault → Type 0 = λ r. GoesOn command old new r in
    subst P (sym e) (goes_refused command old new fault f)
