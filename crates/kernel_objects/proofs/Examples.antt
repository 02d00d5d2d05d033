-- What the definitions say of some zones' processes and devices.
use Rattle.std.proofs.Common.{◌≡◌, ℕ, List, Bool, [], ◌∷◌, Option, Some, None, Ok, Err, true, false, codes, map, refl}
use Rattle.priv_sets.specs.Sets.{has, only, set_of, without}
use Rattle.zone_pools.specs.Pools.{first_free}
use Rattle.zone_pools.specs.declared.grant.Grant.TheVariants.{Number}
use Rattle.kernel_objects.specs.Kernel.{Kernel, enter_answer, entered, fork_answer, with_process}
use Rattle.kernel_objects.specs.Processes.{Process, at_pid, dropping, if_may_exec, if_there, renamed, signalled, with_pid, without_pid}
use Rattle.kernel_objects.specs.Shared.{Shared, declare_answer, next_pid, next_zid}
use Rattle.kernel_objects.specs.declared.faults.Errno.TheVariants.{EAGAIN, EPERM, ESRCH}
use Rattle.kernel_objects.specs.declared.faults.KernelFault.TheVariants.{Duplicate, Refused}
use Rattle.kernel_objects.specs.declared.objects.Signal.TheVariants.{Kill, Term, Zero}

-- a zone with an id and proc_exec, proc_fork (25 and 26) as its limit set, with so many processes at most
abbrev zone : Option ℕ → List Process → Kernel
zone most ps = record { id = Some (record { zid = 1; limit = 25 ∷ 26 ∷ []; most = most; bootargs = []; fs_allowed = [] }); processes = ps; devices = [] }

abbrev process : ℕ → ℕ → Bool → List ℕ → Process
process pid parent first set = record { pid = pid; parent = parent; name = codes "x"; first = first; privileges = set }

-- the first process 2, its child 3, and that one's children 4 and 5
abbrev some : List Process
some = process 2 0 true (25 ∷ 26 ∷ []) ∷ process 3 2 false (25 ∷ 26 ∷ []) ∷ process 4 3 false (26 ∷ []) ∷ process 5 3 false (25 ∷ []) ∷ []

abbrev parents : List Process → List (ℕ × ℕ)
parents ps = map (λ (p : Process). (p.pid, p.parent)) ps

-- children go to the first process, or to none where it is gone
gone : map (λ pid. parents (without_pid pid some)) (2 ∷ 3 ∷ 4 ∷ 9 ∷ []) ≡
    ((3, 0) ∷ (4, 3) ∷ (5, 3) ∷ [])
    ∷ ((2, 0) ∷ (4, 2) ∷ (5, 2) ∷ [])
    ∷ ((2, 0) ∷ (3, 2) ∷ (5, 3) ∷ [])
    ∷ ((2, 0) ∷ (3, 2) ∷ (4, 3) ∷ (5, 3) ∷ [])
    ∷ []
gone = refl

-- the first process ignores what comes from its own zone, and signal 0 ends nothing
signals : map (λ (ps : List Process). parents ps) (signalled true Kill 2 some ∷ signalled true Term 2 some ∷ signalled false Zero 2 some ∷ signalled false Term 2 some ∷ signalled true Kill 4 some ∷ []) ≡
    parents some
    ∷ parents some
    ∷ parents some
    ∷ ((3, 0) ∷ (4, 3) ∷ (5, 3) ∷ [])
    ∷ ((2, 0) ∷ (3, 2) ∷ (5, 3) ∷ [])
    ∷ []
signals = refl

signalled_answers : map (λ pid. if_there (with_pid pid some)) (2 ∷ 3 ∷ 9 ∷ []) ≡ Ok tt ∷ Ok tt ∷ Err ESRCH ∷ []
signalled_answers = refl

-- with one process at most the second is refused
one_at_most : map enter_answer (zone (Some 1) [] ∷ zone (Some 1) (process 2 0 true (26 ∷ []) ∷ []) ∷ zone None some ∷ []) ≡ Ok tt ∷ Err (Refused EAGAIN) ∷ Ok tt ∷ []
one_at_most = refl

-- a fork is refused for want of the parent first, then for its privilege, then for the limit
forks : map (λ parent. fork_answer parent (zone (Some 4) some)) (9 ∷ 5 ∷ 4 ∷ 2 ∷ []) ≡ Err (Refused ESRCH) ∷ Err (Refused EPERM) ∷ Err (Refused EAGAIN) ∷ Err (Refused EAGAIN) ∷ []
unfolding has
forks = refl

forks_below : map (λ parent. fork_answer parent (zone (Some 5) some)) (9 ∷ 5 ∷ 4 ∷ 2 ∷ []) ≡ Err (Refused ESRCH) ∷ Err (Refused EPERM) ∷ Ok tt ∷ Ok tt ∷ []
unfolding has
forks_below = refl

execs : map (λ pid. if_may_exec (with_pid pid some)) (9 ∷ 4 ∷ 5 ∷ []) ≡ Err ESRCH ∷ Err EPERM ∷ Ok tt ∷ []
unfolding has
execs = refl

-- a process comes to its place in order, with the zone's limit set
placed : parents (with_process (entered (zone None some) (codes "login") false 4) (zone None (process 2 0 true [] ∷ process 7 2 false [] ∷ []))).processes ≡ (2, 0) ∷ (4, 0) ∷ (7, 2) ∷ []
placed = refl

entered_set : (entered (zone None some) (codes "login") false 4).privileges ≡ 25 ∷ 26 ∷ []
entered_set = refl

-- exec changes the name alone
after_exec : map (at_pid 3 (renamed (codes "sh"))) some ≡
    process 2 0 true (25 ∷ 26 ∷ []) ∷ record (process 3 2 false (25 ∷ 26 ∷ [])) { name = codes "sh" } ∷ process 4 3 false (26 ∷ []) ∷ process 5 3 false (25 ∷ []) ∷ []
after_exec = refl

after_drop : map (λ (p : Process). p.privileges) (map (at_pid 2 (dropping 26)) some) ≡ (25 ∷ []) ∷ (25 ∷ 26 ∷ []) ∷ (26 ∷ []) ∷ (25 ∷ []) ∷ []
unfolding has only set_of without
after_drop = refl

-- the pools go on above the last number, and then from the lowest
abbrev shared : ℕ → ℕ → Shared
shared last_pid last_zid = record {
  pids = record { entries = (2, codes "a") ∷ (3, codes "b") ∷ []; room = 0 };
  zids = record { entries = (1, codes "a") ∷ []; room = 0 };
  last_pid = last_pid;
  last_zid = last_zid;
  devices = codes "/dev/a" ∷ [];
}

pids : map (λ last. next_pid (shared last 0)) (1 ∷ 2 ∷ 4 ∷ 29998 ∷ 29999 ∷ []) ≡ Number 4 ∷ Number 4 ∷ Number 5 ∷ Number 29999 ∷ Number 4 ∷ []
unfolding first_free
pids = refl

zids : map (λ last. next_zid (shared 1 last)) (0 ∷ 1 ∷ 9998 ∷ 9999 ∷ []) ≡ Number 2 ∷ Number 2 ∷ Number 9999 ∷ Number 2 ∷ []
unfolding first_free
zids = refl

declares : map (λ path. declare_answer path (shared 1 0)) (codes "/dev/a" ∷ codes "/dev/b" ∷ []) ≡ Err Duplicate ∷ Ok tt ∷ []
declares = refl
