-- Shapes of plans.
use Rattle.std.specs.Prelude.{List, [], ◌∷◌, Bool, true, false}
use Rattle.zoneadmd_steps.specs.declared.requests.Step.TheVariants.{Root, Mounted, Claimed, Init, Kill, Unmount, Release}
use Rattle.zoneadmd_steps.specs.declared.requests.Step.{Step}

-- nothing comes any more: neither a process, a mount nor a claim
abbrev pub only_ends : List Step → Bool
only_ends [] = true
only_ends (Root ∷ rest) = false
only_ends (Mounted dir ∷ rest) = false
only_ends (Claimed c ∷ rest) = false
only_ends (Init n ∷ rest) = false
only_ends (Kill n ∷ rest) = false
only_ends (s ∷ rest) = only_ends rest

-- mounts and claims go only after the processes
abbrev pub kills_first : List Step → Bool
kills_first [] = true
kills_first (Kill n ∷ rest) = only_ends rest
kills_first (Unmount dir ∷ rest) = false
kills_first (Release c ∷ rest) = false
kills_first (s ∷ rest) = kills_first rest
