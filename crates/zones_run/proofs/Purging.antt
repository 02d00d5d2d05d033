-- The words that purge, what is left where memory runs out for their name, and the numbers that words are.
use Rattle.std.proofs.Common.{◌≡◌, ◌<◌, ◌≤◌, ◌∷◌, [], ℕ, Bool, true, false, cond, IfSome, IsTrue, List, None, Some, Option, ap, arith, get_or, length, map, nat_le, refl, sym}
use Rattle.std.proofs.lemmas.Bool.{and_parts}
use Rattle.std.proofs.lemmas.Bool.Decides.{nat_tests}
use Rattle.brand_hooks.specs.Brands.{Tabled}
use Rattle.commit_journal.specs.declared.records.Commit.{Commit}
use Rattle.zn_base.specs.Decimals.{decimal_of, digits_value, is_counted, is_decimal, is_spelled}
use Rattle.zn_base.specs.Names.{is_name, name_of}
use Rattle.zn_base.proofs.Read_back.{name_of_name}
use Rattle.zn_io.specs.Disk.{IsSound, View}
use Rattle.zone_machine.specs.Machine.Images.{IsStoreOf}
use Rattle.zones_run.specs.Opening.{Found}
use Rattle.zones_run.specs.Output.{Output}
use Rattle.zones_run.specs.Program.{HasAnswered, HasRecorded}
use Rattle.zones_run.specs.Run.{TellsLine, TellsText, fault_status}
use Rattle.zones_run.specs.Words.{Purges, command_for, command_of, purge_for}
use Rattle.zones_run.specs.declared.fault.RunFault.TheVariants.{Memory}
use Rattle.zones_run.specs.declared.words.Command.{Command}
use Rattle.zones_run.specs.declared.words.Mode.TheVariants.{Purged}
use Rattle.zones_run.specs.declared.words.Task.TheVariants.{Run}
use Rattle.zones_run.proofs.Commands.{answers_store, records_store}
use Rattle.zones_run.proofs.Opened.{answers_nothing, keeps_store, records_nothing}
use Rattle.zones_run.proofs.Telling.{if_some, line_failed, text_failed}

-- so do they with the right name of a zone
pub purges : (word : List ℕ) → IsTrue (is_name word) → Purges (purge_for (name_of word))
purges word is = (word, ap purge_for (name_of_name word is).0)

-- more words are no form
pub no_form : {A : Type 0} (f : A → List ℕ) (words : List A) → 3 ≤ length words → None ≡ command_of (map f words)
no_form f [] h = absurd (omega (arith, h))
no_form f (a ∷ []) h = absurd (omega (arith, h))
no_form f (a ∷ b ∷ []) h = absurd (omega (arith, h))
no_form f (a ∷ b ∷ c ∷ words) h = refl

-- two words are what they are for
pub two_words : {A : Type 0} (f : A → List ℕ) (words : List A) (a b : A) → 2 ≤ length words → length words < 3 → a ≡ get_or words 0 a → b ≡ get_or words 1 b → command_of (map f words) ≡ command_for (f a) (f b)
two_words f [] a b h k first second = absurd (omega (arith, h))
two_words f (x ∷ []) a b h k first second = absurd (omega (arith, h))
two_words f (x ∷ y ∷ []) a b h k first second = rw (first, second) refl
two_words f (x ∷ y ∷ z ∷ words) a b h k first second = absurd (omega (arith, k))

-- memory ran out for the name: nothing was taken, written or opened
module _ (brands : List Tabled) (status : ℕ) (is : status ≡ fault_status Memory) where
  pub text_unread : (o : Option Output) (held : Option (List ℕ)) → IfSome o (λ x. TellsText x status held held)
  text_unread o held = if_some _ o (λ x. text_failed x Memory status held held is (λ f. absurd (omega (arith, f, is))))

  pub line_unread : (o : Option Output) (held holds : Option (List ℕ)) (before now : ℕ) → IfSome o (λ x. TellsLine x.err status held holds before now)
  line_unread o held holds before now = if_some _ o (λ x. line_failed x.err Memory status held holds before now is (λ f. absurd (omega (arith, f, is))))

  pub answers_unread : (command : Option Command) → Purges command → (found : Found) (input held : Option (List ℕ)) → HasAnswered brands command found status input input held held
  answers_unread command purges found input held = answers_store brands command found status input input held held (Run (Purged purges.0)) purges.1 (answers_nothing (Run (Purged purges.0)) brands status input held found)

  pub records_unread : (command : Option Command) → Purges command → (R : List Commit) (input held : Option (List ℕ)) (v : View) → IsSound v → IsStoreOf v R → HasRecorded brands command R status input held held v v
  records_unread command purges R input held v sound store =
      records_store brands command R status input held held v v (Run (Purged purges.0)) purges.1 (records_nothing (Run (Purged purges.0)) brands R status input held v v sound (keeps_store R v sound store).any_moment (λ w. absurd (grind (arith, w, is))))

-- a number that is read is no greater than the greatest one
by_decimal : (most : ℕ) (word : List ℕ) (n : ℕ) (b : Bool) → is_decimal most word ≡ b → cond b (Some (digits_value 0 word)) None ≡ Some n → n ≤ most
by_decimal most word n true is said =
    let counted = (and_parts (is_spelled word) (is_counted most (digits_value 0 word)) is).1 in
    let few : nat_le (digits_value 0 word) most ≡ true = (and_parts (nat_le 1 (digits_value 0 word)) (nat_le (digits_value 0 word) most) counted).1 in
    let same : digits_value 0 word ≡ n = cc in
    grind (arith, nat_tests, few, same)
by_decimal most word n false is said = absurd (cc)

pub most_decimal : (most : ℕ) (word : List ℕ) (n : ℕ) → Some n ≡ decimal_of most word → n ≤ most
unfolding decimal_of
most_decimal most word n is = by_decimal most word n (is_decimal most word) refl (sym is)
