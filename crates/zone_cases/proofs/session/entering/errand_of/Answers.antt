use Rattle.std.proofs.Common.{◌∙◌, ap, codes, false, map, refl, sym}
use Rattle.kernel_objects.specs.Kernel.{Kernel, at_limit, entered}
use Rattle.kernel_objects.specs.Processes.{below, row_of}
use Rattle.process_calls.specs.declared.call.Call.{Call}
use Rattle.zone_pools.specs.Decisions.{Just}
use Rattle.zone_pools.specs.Owned_lists.{Put, edited}
use Rattle.zoneadmd_steps.specs.Objects.{kernel_of}
use Rattle.zone_cases.specs.Calls.{calls}
use Rattle.zone_cases.specs.Session.Logins.{alone, call_word, errand, with_newcomer, with_status}
use Rattle.zone_cases.specs.State.Decisions.{tells}
use Rattle.zone_cases.specs.State.Worlds.{objects_of}
use Rattle.zone_cases.specs.declared.replies.Body.TheVariants.{Processes}
use Rattle.zone_cases.proofs.Newcomers.{if_ok, well_done}
use Rattle.zone_cases.proofs.session.entering.errand_of.Goals as goal

pub returns-in-Fork-clause-decides : goal.returns-in-Fork-clause-decides
returns-in-Fork-clause-decides c = λ d v n shows.
    let k = c.args.cell.now.kernel in let p = entered k (codes "fork") false n in
    ap (λ (call : Call). errand v (entered k (call_word call) false n) call) c.in-Fork.is
    ∙ c.fork_errand.ensures.decides n p (at_limit (kernel_of (objects_of (with_newcomer p v).world))) _ (sym c.limit-limit.ensures)

pub returns-in-Exec-clause-decides : goal.returns-in-Exec-clause-decides
returns-in-Exec-clause-decides c = if_ok c.exec_errand.result (λ e h d v n shows.
    let k = c.args.cell.now.kernel in
    ap (λ (call : Call). errand v (entered k (call_word call) false n) call) c.in-Exec.is
    ∙ h n (entered k (codes "exec") false n) (sym c.limit-limit.ensures)) c.exec_errand.ensures.decides

pub returns-in_ok-of-in-Ps-clause-decides : goal.returns-in_ok-of-in-Ps-clause-decides
returns-in_ok-of-in-Ps-clause-decides c = if_ok c.ps_errand.result (λ e h d v n shows.
    let k = c.args.cell.now.kernel in let p = entered k (codes "ps") false n in
    ap (λ (call : Call). errand v (entered k (call_word call) false n) call) c.in-Ps.is
    ∙ (ap (λ (k : Kernel). with_status 0 (alone (Just (tells (Processes (map row_of (edited (Put (below n) p) k.processes))))))) shows.kernel
    ∙ h n p refl refl (sym c.in_ok-of-in-Ps.ensures))) c.ps_errand.ensures.decides

pub returns-in_default : goal.returns-in_default
returns-in_default c = record {
  decides = if_ok c.told_errand.result (λ e h d v n shows.
      let call = c.args.call.now in let p = entered c.args.cell.now.kernel (call_word call) false n in
      ap (λ s. with_status s (alone (calls (with_newcomer p v) n p call))) (well_done call c.in_default.not-False) ∙ h d v n p shows (sym c.limit-limit.ensures))
      c.told_errand.ensures.decides;
  free = c.told_errand.ensures.free;
}
