-- Each session that types has a number from 1 to 64.
use Rattle.std.proofs.Common.{◌≡◌, ℕ, Bool, List, Some, None, Ok, Err, arith, refl, subst, sym}
use Rattle.std.specs.List.{All}
use Rattle.std.proofs.lemmas.List.Elements.{All-push}
use Rattle.zone_cases.specs.declared.events.Event.{Event}
use Rattle.zone_cases.specs.declared.events.Event.TheVariants.{Process, Restart, Session, System, Turn}
use Rattle.trace_text.specs.Lines.{MayCome, Said}
use Rattle.trace_text.specs.Live.{LiveAreRight, live_of}
use Rattle.live_input.specs.Input.{IsNumbered, Puts}

-- an event that a line can say
may_numbered : (event : Event) → MayCome event → IsNumbered event
may_numbered (Session number text) may = (λ none. absurd (omega (arith, may.0, none)), omega (arith, may.1))
may_numbered (Turn zone) may = tt
may_numbered (Process zone pid call) may = tt
may_numbered (System what) may = tt
may_numbered Restart may = tt

-- an event more, if a line says one
said_numbered : (said : Said) (started now : Bool) (old new : List Event) → ((event : Event) → said ≡ Ok (Some event) → IsNumbered event) → Puts said started now old new → All IsNumbered old → All IsNumbered new
said_numbered (Ok None) started now old new each puts before = subst (All IsNumbered) (sym puts.1) before
said_numbered (Ok (Some e)) started now old new each puts before = subst (All IsNumbered) (sym puts.1) (All-push IsNumbered old e before (each e refl))
said_numbered (Err fault) started now old new each puts before = absurd puts

pub numbered_more : LiveAreRight → (started now : Bool) (line : List ℕ) (old new : List Event) → Puts (live_of started line) started now old new → All IsNumbered old → All IsNumbered new
numbered_more right started now line old new = said_numbered (live_of started line) started now old new (λ event says. may_numbered event (right started line event says).1.may)
