-- A subcommand that asks the line's caller for something begins with a word that ends a line.
use Rattle.std.proofs.Common.{◌≡◌, ◌||◌, ℕ, List, [], ◌∷◌, Bool, true, false, cond, Option, Some, None, Result, Ok, Err, refl, ap, sym, ◌∙◌}
use Rattle.std.specs.Prelude.{find}
use Rattle.std.specs.Str.{bytes_eq}
use Rattle.config_terms.specs.declared.terms.Kind.{Kind}
use Rattle.zn_base.specs.declared.values.Pair.{Pair}
use Rattle.zn_base.specs.declared.values.Value.{Value}
use Rattle.zonecfg_lex.specs.declared.fault.LexFault.{LexFault}
use Rattle.zonecfg_lex.specs.declared.token.Token.{Token}
use Rattle.zonecfg_lex.specs.Tokens.{is_word, part_tokens_of, text_of}
use Rattle.zonecfg_lex.specs.Value.{value_of}
use Rattle.config_terms.specs.Fields.{kind_named}
use Rattle.zonecfg_scopes.specs.declared.command.Command.{Command}
use Rattle.zonecfg_scopes.specs.declared.command.Command.TheVariants as command
use Rattle.zonecfg_scopes.specs.declared.command.ListProperty.{ListProperty}
use Rattle.zonecfg_scopes.specs.declared.command.Matching.{Matching}
use Rattle.zonecfg_scopes.specs.declared.command.Topic.{Topic}
use Rattle.zonecfg_scopes.specs.declared.fault.EditFault.{EditFault}
use Rattle.zonecfg_scopes.specs.declared.fault.EditFault.TheVariants.{Usage}
use Rattle.zonecfg_scopes.specs.declared.verb.Verb.{Verb}
use Rattle.zonecfg_scopes.specs.declared.verb.Verb.TheVariants as verb
use Rattle.zonecfg_scopes.specs.Commands.{list_named, topic_named, verb_name, verb_named, verbs}
use Rattle.zonecfg_scopes.specs.Forms.{add_by, alone, command_of, form_by, form_of, info_by, matching_of, read_by, remove_by, remove_item_or, remove_matching, select_by, with_force, with_value, force_of}
use Rattle.zonecfg_scopes.specs.Words.{said}
use Rattle.zonecfg_lines.specs.Order.{begins_ending, ends_line, is_ending}

-- the subcommands that ask for something at the end of a line
abbrev pub is_last : Command → Bool
is_last command.Commit = true
is_last (command.Delete force) = true
is_last (command.Exit force) = true
is_last command = false

abbrev is_last_verb : Verb → Bool
is_last_verb verb.Commit = true
is_last_verb verb.Delete = true
is_last_verb verb.Exit = true
is_last_verb v = false

abbrev pub reads_last : Result Command EditFault → Bool
reads_last (Ok command) = is_last command
reads_last (Err fault) = false

alone_not : (ts : List Token) (it : Command) → is_last it ≡ false → reads_last (alone ts it) ≡ false
alone_not [] it h = h
alone_not (t ∷ ts) it h = refl

value_not : (f : Value → Command) (r : Result Value LexFault) → ((v : Value) → is_last (f v) ≡ false) → reads_last (with_value f r) ≡ false
value_not f (Ok v) h = h v
value_not f (Err fault) h = refl

force_not : (f : Bool → Command) (r : Result Bool EditFault) → ((force : Bool) → is_last (f force) ≡ false) → reads_last (with_force f r) ≡ false
force_not f (Ok force) h = h force
force_not f (Err fault) h = refl

add_not : (list : Option ListProperty) (kind : Option Kind) (line : List ℕ) (ts : List Token) → reads_last (add_by list kind line ts) ≡ false
add_not (Some list) kind line ts = value_not (command.Append list) (value_of line ts) (λ v. refl)
add_not None (Some kind) line ts = alone_not ts (command.Add kind) refl
add_not None None line ts = refl

cond_not : (b : Bool) (r : Result Command EditFault) (fault : EditFault) → reads_last r ≡ false → reads_last (cond b r (Err fault)) ≡ false
cond_not true r fault h = h
cond_not false r fault h = refl

info_not : (topic : Option Topic) → reads_last (info_by topic) ≡ false
info_not (Some topic) = refl
info_not None = refl

remove_not : (force : Bool) (m : Result Matching EditFault) → reads_last (remove_by force m) ≡ false
remove_not force (Ok m) = refl
remove_not force (Err fault) = refl

item_not : (list : Option ListProperty) (line : List ℕ) (ts : List Token) (other : Result Command EditFault) → reads_last other ≡ false → reads_last (remove_item_or list line ts other) ≡ false
item_not (Some list) line ts other h = value_not (command.RemoveItem list) (value_of line ts) (λ v. refl)
item_not None line ts other h = h

pairs_not : (m : Matching) (pairs : List Pair) → reads_last (elim pairs [ [] ↦ Err Usage | _ ∷ _ ↦ Ok (command.Select m) ]) ≡ false
pairs_not m [] = refl
pairs_not m (p ∷ ps) = refl

select_not : (m : Result Matching EditFault) → reads_last (select_by m) ≡ false
select_not (Ok m) = pairs_not m m.pairs
select_not (Err fault) = refl

-- no other word begins one
form_not : (v : Verb) (line : List ℕ) (ts : List Token) → is_last_verb v ≡ false → reads_last (form_of v line ts) ≡ false
unfolding form_of
form_not verb.Add line [] h = refl
form_not verb.Add line (t ∷ ts) h = add_not (list_named (said line t)) (kind_named (said line t)) line ts
form_not verb.Cancel line ts h = alone_not ts command.Cancel refl
form_not verb.Clear line [] h = refl
form_not verb.Clear line (t ∷ []) h = cond_not (is_word t.kind) (Ok (command.Clear (text_of line t))) Usage refl
form_not verb.Clear line (t ∷ u ∷ ts) h = refl
form_not verb.Commit line ts h = absurd (cc)
form_not verb.Create line ts h = alone_not _ _ refl
form_not verb.Delete line ts h = absurd (cc)
form_not verb.End line ts h = alone_not ts command.End refl
form_not verb.Exit line ts h = absurd (cc)
form_not verb.Export line ts h = alone_not ts command.Export refl
form_not verb.Help line ts h = alone_not ts command.Help refl
form_not verb.Info line [] h = refl
form_not verb.Info line (t ∷ []) h = info_not (topic_named (said line t))
form_not verb.Info line (t ∷ u ∷ ts) h = refl
form_not verb.Remove line [] h = refl
form_not verb.Remove line (t ∷ ts) h = item_not (list_named (said line t)) line ts (remove_matching line (t ∷ ts)) (remove_not _ _)
form_not verb.Revert line ts h = force_not command.Revert (force_of line ts) (λ force. refl)
form_not verb.Select line ts h = select_not (matching_of line ts)
form_not verb.Set line [] h = refl
form_not verb.Set line (t ∷ []) h = refl
form_not verb.Set line (name ∷ sign ∷ ts) h = cond_not _ _ Usage (value_not (command.Set (text_of line name)) (value_of line ts) (λ v. refl))
form_not verb.Verify line ts h = alone_not ts command.Verify refl

found_true : (p : Verb → Bool) (vs : List Verb) (v : Verb) → find p vs ≡ Some v → p v ≡ true
found_true p [] v h = absurd (cc)
found_true p (x ∷ xs) v h =
    elim (p x) as (λ b. p x ≡ b → cond b (Some x) (find p xs) ≡ Some v → p v ≡ true) [
      | true ↦ λ is e. (let same : x ≡ v = cc in ap p (sym same) ∙ is)
      | false ↦ λ is e. found_true p xs v e
    ] refl h

one_of : (a b c : Bool) → (a ≡ true → (a || b || c) ≡ true) × (b ≡ true → (a || b || c) ≡ true) × (c ≡ true → (a || b || c) ≡ true)
one_of true b c = (λ h. refl, λ h. refl, λ h. refl)
one_of false true c = (λ h. refl, λ h. refl, λ h. refl)
one_of false false true = (λ h. refl, λ h. refl, λ h. refl)
one_of false false false = (λ h. absurd (cc), λ h. absurd (cc), λ h. absurd (cc))

module _ (w : List ℕ) where
  abbrev is_named : Verb → Bool
  is_named v = bytes_eq w (verb_name v)

  -- the words that begin them end a line
  verb_ends : (v : Verb) → is_named v ≡ true → is_last_verb v ≡ true → is_ending w ≡ true
  verb_ends verb.Commit named last = (one_of (is_named verb.Commit) (is_named verb.Delete) (is_named verb.Exit)).0 named
  verb_ends verb.Delete named last = (one_of (is_named verb.Commit) (is_named verb.Delete) (is_named verb.Exit)).1 named
  verb_ends verb.Exit named last = (one_of (is_named verb.Commit) (is_named verb.Delete) (is_named verb.Exit)).2 named
  verb_ends v named last = absurd (cc)

  named_true : (v : Verb) → verb_named w ≡ Some v → is_named v ≡ true
  unfolding verb_named
  named_true v h = found_true is_named verbs v h

  word_ends : (v : Option Verb) (line : List ℕ) (ts : List Token) → verb_named w ≡ v → reads_last (form_by v line ts) ≡ true → is_ending w ≡ true
  word_ends None line ts h is = absurd (cc)
  word_ends (Some v) line ts h is =
      elim (is_last_verb v) as (λ b. is_last_verb v ≡ b → is_ending w ≡ true) [
        | true ↦ λ last. verb_ends v (named_true v h) last
        | false ↦ λ last. absurd (cc (form_not v line ts last))
      ] refl

tokens_end : (text : List ℕ) (read : Result (List Token) LexFault) → reads_last (read_by text read) ≡ true → begins_ending text read ≡ true
tokens_end text (Ok []) h = absurd (cc)
tokens_end text (Ok (t ∷ ts)) h = word_ends (said text t) (verb_named (said text t)) text ts refl h
tokens_end text (Err fault) h = absurd (cc)

-- a text that reads as one ends a line
pub last_ends : (text : List ℕ) → reads_last (command_of text) ≡ true → ends_line text ≡ true
unfolding command_of ends_line
last_ends text h = tokens_end text (part_tokens_of text) h
