-- Requests of one zone, computed by the definitions.
use Rattle.brand_hooks.specs.Brands.{Tabled}
use Rattle.brand_hooks.specs.Tables.{proceeding}
use Rattle.brand_hooks.specs.declared.change.ChangeKind.TheVariants as change
use Rattle.commit_journal.specs.declared.records.Record.{Record}
use Rattle.config_terms.specs.declared.terms.Fs.{Fs}
use Rattle.config_terms.specs.declared.terms.IpType.TheVariants.{Exclusive}
use Rattle.config_verify.specs.Flaws.{flaws, flaws_of_fs, has_special, flaws_of_net, is_claimed, flaws_of_device, flaws_of_dataset}
use Rattle.datalink_table.specs.declared.claims.ClaimKind.TheVariants.{Dataset, Link}
use Rattle.priv_sets.specs.Limit.{limit_of, judged, set_of_words, words_from, rule_of}
use Rattle.priv_sets.specs.Sets.{default_set, all_of, both, has, set_of, union, without}
use Rattle.priv_sets.specs.Table.{is_of, privileges}
use Rattle.std.proofs.Common.{arith, ◌≡◌, ℕ, zero, suc, List, [], ◌∷◌, ◌++◌, map, Some, None, true, false, refl}
use Rattle.std.specs.Prelude.{codes}
use Rattle.zn_base.specs.declared.state.ZoneState.TheVariants.{Installed, Ready, Running, ShuttingDown, Down}
use Rattle.zn_base.specs.Glob.{glob}
use Rattle.zone_config.specs.Property.{blank}
use Rattle.zone_config.specs.Kinds.{by_kind}
use Rattle.zone_config.specs.Sound.{AreSound, HasSoundResources, count}
use Rattle.config_terms.specs.declared.terms.Kind.{Kind}
use Rattle.config_terms.specs.declared.terms.Kind.TheVariants as of_kind
use Rattle.config_terms.specs.Allowed.{entry_allowed, fields_fit}
use Rattle.config_terms.specs.Rules.{fits, obeys}
use Rattle.zoneadmd_laws.specs.Agreement.{Agrees}
use Rattle.zone_config.specs.declared.terms.Contents.{Contents}
use Rattle.zone_pools.specs.declared.grant.Grant.TheVariants.{Nothing, Number, Yes, Denied}
use Rattle.zone_pools.specs.declared.grant.Grant.{Grant}
use Rattle.zone_pools.specs.declared.grant.Pool.TheVariants.{Links, Zids}
use Rattle.zoneadmd_laws.specs.Afters.{after}
use Rattle.zoneadmd_laws.specs.Turns_left.{turns_left}
use Rattle.zoneadmd_steps.specs.Turns.{Seen, local_turn, turn}
use Rattle.zoneadmd_steps.specs.declared.requests.Outcome.TheVariants as outcome
use Rattle.zoneadmd_steps.specs.declared.requests.Request.TheVariants as request
use Rattle.zoneadmd_steps.specs.declared.requests.Request.{Request}
use Rattle.zoneadmd_steps.specs.declared.requests.RequestKind.TheVariants as kind
use Rattle.zoneadmd_steps.specs.declared.requests.Step.TheVariants as step
use Rattle.zoneadmd_steps.specs.declared.requests.TurnReply.TheVariants.{Idle, Began, Stepped, Failed, Undone, Finished}
use Rattle.zoneadmd_steps.specs.declared.requests.TurnReply.{TurnReply}

abbrev brands : List Tabled
brands = record { name = codes "ipkg"; table = proceeding } ∷ []

abbrev fs : List ℕ → Fs
fs d = record { dir = Some d; special = codes "/export"; raw = []; fstype = codes "lofs"; options = [] }

-- turns under grants, and what they tell
abbrev replies : Seen → List Grant → List TurnReply
replies w [] = []
replies w (g ∷ gs) = let a = after (turn w) g w in a.reply ∷ replies a.seen gs

abbrev ends_in : Seen → List Grant → Seen
ends_in w [] = w
ends_in w (g ∷ gs) = ends_in (after (turn w) g w).seen gs

abbrev config : Contents
config = record blank {
  zonepath = Some (codes "/z");
  brand = codes "ipkg";
  ip = Exclusive;
  fs = fs (codes "/b") ∷ fs (codes "/a") ∷ [];
  device = codes "/dev/d" ∷ [];
  dataset = codes "tank/z" ∷ [];
  net = record { address = []; allowed = []; physical = codes "e0"; defrouter = [] } ∷ [];
}

-- an installed zone, where these requests wait
abbrev waiting : Record → List (ℕ × Request) → Seen
waiting row rs = record {
  desk = record { last = 3; waiting = rs; job = None; active = None };
  objects = record { processes = []; mounts = []; claims = []; devices = []; ids = [] };
  stored = Some (record row { state = Installed; config = config });
  declared = codes "/dev/c" ∷ codes "/dev/d" ∷ [];
  brands = brands;
}

abbrev yes : ℕ → List Grant
yes zero = []
yes (suc n) = Nothing ∷ yes n

-- a boot: its id, two mounts in order, two claims, and its first process
abbrev boot_grants : List Grant
boot_grants = Nothing ∷ Nothing ∷ Number 7 ∷ (yes 5 ++ (Yes ∷ Yes ∷ (yes 3 ++ (Number 42 ∷ yes 3))))

boots : (row : Record) → replies (waiting row ((1, request.Boot []) ∷ [])) boot_grants
    ≡ Began 1 kind.Boot
    ∷ Stepped (step.Hook (record { before = true; kind = change.Ready }))
    ∷ Stepped (step.Zid (Some 7))
    ∷ Stepped step.Limits
    ∷ Stepped (step.Devices (Some 1))
    ∷ Stepped step.Root
    ∷ Stepped (step.Mounted (codes "/a"))
    ∷ Stepped (step.Mounted (codes "/b"))
    ∷ Stepped (step.Claimed (record { kind = Dataset; item = codes "tank/z" }))
    ∷ Stepped (step.Claimed (record { kind = Link; item = codes "e0" }))
    ∷ Stepped (step.State Ready)
    ∷ Stepped (step.Hook (record { before = false; kind = change.Ready }))
    ∷ Stepped (step.Hook (record { before = true; kind = change.Boot }))
    ∷ Stepped (step.Init (Some 42))
    ∷ Stepped (step.State Running)
    ∷ Stepped (step.Hook (record { before = false; kind = change.Boot }))
    ∷ Finished 1 outcome.Done ∷ []
unfolding turn local_turn flaws flaws_of_fs has_special flaws_of_net is_claimed flaws_of_device flaws_of_dataset limit_of judged set_of_words words_from rule_of default_set all_of set_of union without is_of privileges glob has both
boots row = refl

-- and then a halt: the mounts from the last one, the claims from the latest one
halts : (row : Record) → replies (ends_in (waiting row ((1, request.Boot []) ∷ (2, request.Halt) ∷ [])) boot_grants) (yes 16)
    ≡ Began 2 kind.Halt
    ∷ Stepped (step.Hook (record { before = true; kind = change.Halt }))
    ∷ Stepped (step.State ShuttingDown)
    ∷ Stepped (step.Kill (Some 1))
    ∷ Stepped (step.Unmount (Some (codes "/b")))
    ∷ Stepped (step.Unmount (Some (codes "/a")))
    ∷ Stepped (step.Unmount (Some (codes "/")))
    ∷ Stepped (step.Release (Some (record { kind = Link; item = codes "e0" })))
    ∷ Stepped (step.Release (Some (record { kind = Dataset; item = codes "tank/z" })))
    ∷ Stepped step.Clear
    ∷ Stepped (step.State Down)
    ∷ Stepped (step.ZidBack (Some 7))
    ∷ Stepped (step.State Installed)
    ∷ Stepped (step.Hook (record { before = false; kind = change.Halt }))
    ∷ Finished 2 outcome.Done ∷ Idle ∷ []
unfolding turn local_turn flaws flaws_of_fs has_special flaws_of_net is_claimed flaws_of_device flaws_of_dataset limit_of judged set_of_words words_from rule_of default_set all_of set_of union without is_of privileges glob has both
halts row = refl

-- a claim is denied: what was made is undone in reverse
denied : (row : Record) → replies (waiting row ((1, request.Boot []) ∷ [])) (Nothing ∷ Nothing ∷ Number 7 ∷ (yes 5 ++ (Yes ∷ Denied Links ∷ yes 9)))
    ≡ Began 1 kind.Boot
    ∷ Stepped (step.Hook (record { before = true; kind = change.Ready }))
    ∷ Stepped (step.Zid (Some 7))
    ∷ Stepped step.Limits
    ∷ Stepped (step.Devices (Some 1))
    ∷ Stepped step.Root
    ∷ Stepped (step.Mounted (codes "/a"))
    ∷ Stepped (step.Mounted (codes "/b"))
    ∷ Stepped (step.Claimed (record { kind = Dataset; item = codes "tank/z" }))
    ∷ Failed 9 (outcome.Denied Links)
    ∷ Undone (step.Claimed (record { kind = Dataset; item = codes "tank/z" }))
    ∷ Undone (step.Mounted (codes "/b"))
    ∷ Undone (step.Mounted (codes "/a"))
    ∷ Undone step.Root
    ∷ Undone (step.Devices (Some 1))
    ∷ Undone step.Limits
    ∷ Undone (step.Zid (Some 7))
    ∷ Finished 1 (outcome.Denied Links) ∷ Idle ∷ []
unfolding turn local_turn flaws flaws_of_fs has_special flaws_of_net is_claimed flaws_of_device flaws_of_dataset limit_of judged set_of_words words_from rule_of default_set all_of set_of union without is_of privileges glob has both
denied row = refl

-- a reboot begins twice
reboots : (row : Record) → replies (ends_in (waiting row ((1, request.Boot []) ∷ (2, request.Reboot []) ∷ [])) boot_grants) (yes 14 ++ (Nothing ∷ Nothing ∷ Denied Zids ∷ yes 2))
    ≡ replies (ends_in (waiting row ((1, request.Boot []) ∷ (2, request.Reboot []) ∷ [])) boot_grants) (yes 14)
    ++ (Began 2 kind.Boot ∷ Stepped (step.Hook (record { before = true; kind = change.Ready })) ∷ Failed 2 (outcome.Denied Zids) ∷ Finished 2 (outcome.Denied Zids) ∷ Idle ∷ [])
unfolding turn local_turn flaws flaws_of_fs has_special flaws_of_net is_claimed flaws_of_device flaws_of_dataset limit_of judged set_of_words words_from rule_of default_set all_of set_of union without is_of privileges glob has both
reboots row = refl

-- what is left of the turns of that boot and of that halt
left : (row : Record) → map turns_left (waiting row ((1, request.Boot []) ∷ []) ∷ ends_in (waiting row ((1, request.Boot []) ∷ [])) (Nothing ∷ []) ∷ ends_in (waiting row ((1, request.Boot []) ∷ (2, request.Halt) ∷ [])) (boot_grants ++ Nothing ∷ []) ∷ [])
    ≡ 1000000 ∷ 17 ∷ 14 ∷ []
unfolding turn local_turn flaws flaws_of_fs has_special flaws_of_net is_claimed flaws_of_device flaws_of_dataset limit_of judged set_of_words words_from rule_of default_set all_of set_of union without is_of privileges glob has both
left row = refl

-- the agreement holds of such a zone before it boots, and its boot may begin
sound : HasSoundResources config
unfolding fields_fit count entry_allowed fits obeys
sound = record { kinds = sound_of; few = omega arith }
  where
    sound_of : (k : Kind) → by_kind k (λ A row. AreSound row (row.list config))
    sound_of of_kind.Fs = record { each = refl; few_options = refl; once = refl; few = omega arith }
    sound_of of_kind.Net = record { each = refl; few_options = refl; once = refl; few = tt }
    sound_of of_kind.Device = record { each = refl; few_options = refl; once = refl; few = tt }
    sound_of of_kind.Rctl = record { each = refl; few_options = refl; once = refl; few = tt }
    sound_of of_kind.Attr = record { each = refl; few_options = refl; once = refl; few = tt }
    sound_of of_kind.Dataset = record { each = refl; few_options = refl; once = refl; few = tt }

agrees : (row : Record) (rs : List (ℕ × Request)) → Agrees (waiting row rs)
agrees row rs = (record { ids = refl; processes = refl; mounts = refl; claims = refl; devices = refl }, (refl, sound))
