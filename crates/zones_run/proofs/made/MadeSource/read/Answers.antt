use Rattle.std.proofs.Common.{◌≡◌, ◌+◌, ◌-◌, ◌++◌, Some, ap, sym, ℕ, List, take, drop, length}
use Rattle.std.proofs.lemmas.List.{take_rest, drop-drop, take-append-drop}
use Rattle.zones_run.proofs.made.MadeSource.read.Goals as goal

-- what is left falls into what was given and what is left then
cut : (at n : ℕ) (xs given : List ℕ) → given ≡ take n (take (length xs - at) (drop at xs)) → drop at xs ≡ given ++ drop (at + n) xs
cut at n xs given e =
    let f : given ≡ take n (drop at xs) = rw take_rest at e in
    rw (f, ← drop-drop n at xs) (sym (take-append-drop n (drop at xs)))

pub returns-clause-bytes : goal.returns-clause-bytes
returns-clause-bytes c =
    let e = rw c.deref.ensures.value at c.copy_front-count.ensures.bytes in
    rw (← c.self.view_is) (ap Some (cut c.self.inside.at c.copy_front-count.result c.self.inside.text.items _ e))
