-- What is known of an answer, from what is known of it already.
use Rattle.std.proofs.Common.{◌≡◌, IfOk, Option, Some, None, Result, Ok, Err, refl}
use Rattle.std.proofs.lemmas.Bool.{true≢false}
use Rattle.std.specs.Prelude.{IfErr, IfSome, IsNone, OnErr, OnOk}

pub if_ok : {A B : Type 0} (r : Result A B) (P Q : A → Type 0) → ((a : A) → P a → Q a) → IfOk r P → IfOk r Q
if_ok (Ok a) P Q f h = f a h
if_ok (Err e) P Q f h = tt

if_some : {A : Type 0} (o : Option A) (P Q : A → Type 0) → ((a : A) → P a → Q a) → IfSome o P → IfSome o Q
if_some (Some a) P Q f h = f a h
if_some None P Q f h = tt

pub if_ok_some : {A B : Type 0} (r : Result (Option A) B) (P Q : A → Type 0) → ((a : A) → P a → Q a) → IfOk r (λ o. IfSome o P) → IfOk r (λ o. IfSome o Q)
if_ok_some r P Q f h = if_ok r (λ o. IfSome o P) (λ o. IfSome o Q) (λ o. if_some o P Q f) h

pub on_err_both : {A B : Type 0} (r : Result A B) (P Q : B → Type 0) (R : Type 0) → ((e : B) → P e → Q e → R) → IfErr r P → IfErr r Q → OnErr r R
on_err_both (Ok a) P Q R f h k = tt
on_err_both (Err e) P Q R f h k = f e h k

pub if_ok_on : {A B : Type 0} (r : Result A B) (P : A → Type 0) (Q : Type 0) (R : A → Type 0) → ((a : A) → P a → Q → R a) → IfOk r P → OnOk r Q → IfOk r R
if_ok_on (Ok a) P Q R f h k = f a h k
if_ok_on (Err e) P Q R f h k = tt

pub on_err : {A B : Type 0} (r : Result A B) (P Q : Type 0) → (P → Q) → OnErr r P → OnErr r Q
on_err (Ok a) P Q f h = tt
on_err (Err e) P Q f h = f h

pub is_none : {A : Type 0} (o : Option A) → IsNone o → o ≡ None
is_none None h = refl
is_none (Some a) h = absurd (true≢false h)
