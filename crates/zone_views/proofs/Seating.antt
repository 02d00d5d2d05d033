-- What holds of what each session does still holds where some end that, and where one does something else from now on.
use Rattle.std.proofs.Common.{◌≡◌, ◌⊎◌, ℕ, Bool, Option, None, Some, true, false, inl, inr, nat_eq, refl, subst, sym}
use Rattle.std.specs.Prelude.{if◌then◌else◌}
use Rattle.zone_cases.specs.State.{At_console, Awaiting, Doing, Editing, Logged_in}
use Rattle.zone_cases.specs.State.Decisions.{ticket_ended}
use Rattle.zone_cases.specs.State.Edits.{at_session, console_gone_world, console_left, login_ended, logins_ended, swept_doing}
use Rattle.zone_cases.specs.State.Worlds.{World}

-- what a session does ends, or stays as it is
abbrev pub Ends : (Doing → Option Doing) → Type 0
Ends f = (d : Doing) → (f d ≡ None) ⊎ (f d ≡ Some d)

at_test : (b : Bool) (d : Doing) → ((if b then None else Some d) ≡ None) ⊎ ((if b then None else Some d) ≡ Some d)
at_test true d = inl refl
at_test false d = inr refl

pub ticket-ends : (t : ℕ) → Ends (ticket_ended t)
ticket-ends t (Awaiting u) = at_test (nat_eq t u) (Awaiting u)
ticket-ends t (Editing e) = inr refl
ticket-ends t (Logged_in pid escape) = inr refl
ticket-ends t (At_console escape) = inr refl

pub login-ends : (pid : ℕ) → Ends (login_ended pid)
login-ends pid (Awaiting t) = inr refl
login-ends pid (Editing e) = inr refl
login-ends pid (Logged_in p escape) = at_test (nat_eq pid p) (Logged_in p escape)
login-ends pid (At_console escape) = inr refl

pub logins-end : Ends logins_ended
logins-end (Awaiting t) = inr refl
logins-end (Editing e) = inr refl
logins-end (Logged_in pid escape) = inl refl
logins-end (At_console escape) = inr refl

console-ends : Ends console_left
console-ends (Awaiting t) = inr refl
console-ends (Editing e) = inr refl
console-ends (Logged_in pid escape) = inr refl
console-ends (At_console escape) = inl refl

module _ (R : Option Doing → Type 0) where
  -- the session k does this from now on
  pub kept-here : (k : ℕ) (d : Option Doing) (sessions : ℕ → Option Doing) → R d → ((j : ℕ) → R (sessions j)) → (j : ℕ) → R (at_session (Some k) j d (sessions j))
  kept-here k d sessions s h j = at_here (nat_eq k j)
    where
      at_here : (b : Bool) → R (if b then d else sessions j)
      at_here true = s
      at_here false = h j

  -- it holds of a session that is idle
  module _ (idle : R None) where
    pub kept-sweep : (f : Doing → Option Doing) → Ends f → (sessions : ℕ → Option Doing) → ((j : ℕ) → R (sessions j)) → (j : ℕ) → R (swept_doing f (sessions j))
    kept-sweep f ends sessions h j = at_doing (sessions j) (h j)
      where
        at_doing : (o : Option Doing) → R o → R (swept_doing f o)
        at_doing None h = h
        at_doing (Some d) h = elim (ends d) [
          | inl none ↦ subst R (sym none) idle
          | inr same ↦ subst R (sym same) h
        ]

    pub kept-gone : (keeps : Bool) (w : World) → ((j : ℕ) → R (w.sessions j)) → (j : ℕ) → R ((console_gone_world keeps w).sessions j)
    kept-gone true w h = h
    kept-gone false w h = kept-sweep console_left console-ends w.sessions h
