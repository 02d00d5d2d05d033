use Rattle.std.proofs.Common.{refl}
use Rattle.kernel_objects.specs.Processes.{at_pid, dropping, renamed}
use Rattle.kernel_objects.proofs.Kept.{at_pid_keeps, holds-change, holds-put, holds-without}
use Rattle.kernel_objects.proofs.laws.numbers_of_processes.Goals as goal

pub returns-clause-come : goal.returns-clause-come
returns-clause-come c = holds-put

pub returns-clause-gone : goal.returns-clause-gone
returns-clause-gone c = holds-without

pub returns-clause-renamed : goal.returns-clause-renamed
returns-clause-renamed c = λ n pid name ps. holds-change n (at_pid pid (renamed name)) (at_pid_keeps pid (renamed name) (λ p. refl)) ps

pub returns-clause-dropped : goal.returns-clause-dropped
returns-clause-dropped c = λ n pid number ps. holds-change n (at_pid pid (dropping number)) (at_pid_keeps pid (dropping number) (λ p. refl)) ps
