-- What a case of the machine decides, by what it does to the state, and what comes with a grant.
use Rattle.std.specs.Prelude.{ℕ, List, [], ◌∷◌, ◌++◌, map, Option, Some, None, nat_eq, if◌then◌else◌}
use Rattle.zn_base.specs.Names.{Name}
use Rattle.zone_pools.specs.Decisions as decisions
use Rattle.zone_pools.specs.Decisions.{Ask, Just}
use Rattle.zone_pools.specs.declared.grant.Grant.{Grant}
use Rattle.zoneadmd_steps.specs.Arrivals.{Arrival, Comes, arrived}
use Rattle.zone_cases.specs.State.Edits.{Edit, Of_objects, Set_desk, Sweep, comes, comes_world, edits, edits_world}
use Rattle.zone_cases.specs.State.{Awaiting, Doing, State}
use Rattle.zoneadmd_steps.specs.Turns as turns
use Rattle.zone_cases.specs.State.Worlds.{World}
use Rattle.zone_cases.specs.declared.replies.Body.{Body}
use Rattle.zone_cases.specs.declared.replies.Body.TheVariants.{Nothing as No_body}
use Rattle.zone_cases.specs.declared.replies.Head.{Head}
use Rattle.zone_cases.specs.declared.replies.Head.TheVariants.{Ok, Refused, Turned}
use Rattle.zone_cases.specs.declared.replies.Refusal.{Refusal}
use Rattle.zone_cases.specs.declared.replies.Reply.{Reply}

pub record Effect : Type 0 where
  pub edits : List Edit
  pub reply : Reply

abbrev pub Decision : Type 0
Decision = decisions.Decision Comes Effect

abbrev pub Act : Type 0
Act = decisions.Act Arrival Effect

-- what a decision does under a grant
abbrev pub act_of : Decision → Grant → Act
act_of d g = decisions.act_of arrived d g

abbrev pub after_came : Name → Option Arrival → State → State
after_came z None S = S
after_came z (Some a) S = comes z a S

-- an act of an event of z, which is typed in the session n or in none
abbrev pub acts : Name → Option ℕ → Act → State → State
acts z n a S = edits z n a.effect.edits (after_came z a.came S)

abbrev pub after_came_world : Option Arrival → World → World
after_came_world None w = w
after_came_world (Some a) w = comes_world a w

abbrev pub acts_world : Option ℕ → Act → World → World
acts_world n a w = edits_world n a.effect.edits (after_came_world a.came w)

-- effects in few words
abbrev pub says : Head → Reply
says head = record { head = head; body = No_body }

abbrev pub done_saying : List Edit → Head → Effect
done_saying edits head = record { edits = edits; reply = says head }

-- ok, or why it is refused
abbrev pub head_of : Option Refusal → Head
head_of None = Ok
head_of (Some r) = Refused r

abbrev pub refused : Refusal → Effect
refused r = done_saying [] (Refused r)

abbrev pub told : Body → Reply
told body = record { head = Ok; body = body }

-- nothing is done but a reply
abbrev pub answers : Reply → Effect
answers reply = record { edits = []; reply = reply }

abbrev pub tells : Body → Effect
tells body = answers (told body)

-- whoever waits for a ticket that ended is idle again; the others go on
abbrev pub ticket_ended : ℕ → Doing → Option Doing
ticket_ended t (Awaiting u) = if nat_eq t u then None else Some (Awaiting u)
ticket_ended t d = Some d

abbrev pub sweeps : Option ℕ → List Edit
sweeps None = []
sweeps (Some t) = Sweep (ticket_ended t) ∷ []

-- what a turn of the zone's daemon does to the machine
abbrev pub turned : turns.Turned → Effect
turned t = done_saying (map Of_objects t.objects ++ Set_desk t.desk ∷ sweeps t.ended) (Turned t.reply)

-- the same decision, with what f makes of each effect
abbrev pub effects : {E F : Type 0} → (E → F) → decisions.Decision Comes E → decisions.Decision Comes F
effects f (Just e) = Just (f e)
effects f (Ask c asked denied given) = Ask c asked (λ pool. f (denied pool)) (λ n. f (given n))
