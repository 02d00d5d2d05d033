-- What holds of a configuration without a flaw whose resources are sound: no directory and no claim comes twice.
use Rattle.std.proofs.Common.{is_some, ◌≡◌, ◌⊎◌, ◌≤◌, ◌<◌, ℕ, zero, suc, List, [], ◌∷◌, ◌++◌, map, not, Bool, true, false, ◌||◌, ◌&&◌, bytes_eq, length, Option, Some, None, Ok, ap, sym, refl, ◌∙◌, inl, inr, true≢false, arith, append-nil}
use Rattle.std.specs.List.{after_first, before_first, filter_map, list_any, position_or_len, slice_split}
use Rattle.std.proofs.lemmas.Bool.{eqb-true}
use Rattle.std.proofs.lemmas.List.{take_all}
use Rattle.std.proofs.lemmas.List.Folds.{list_any-append}
use Rattle.std.proofs.lemmas.List.Splits.{slice_split_first}
use Rattle.config_terms.specs.Allowed.{are_distinct}
use Rattle.config_terms.specs.declared.terms.Fs.{Fs}
use Rattle.config_terms.specs.declared.terms.IpType.{IpType}
use Rattle.config_terms.specs.declared.terms.IpType.TheVariants.{Exclusive, Shared}
use Rattle.config_terms.specs.declared.terms.Kind.TheVariants as kind
use Rattle.config_terms.specs.declared.terms.Net.{Net}
use Rattle.config_verify.specs.Flaws.{claimed, dir_flaws, each_behind, first, flaws, flaws_of_fs, flaws_of_net, has_dir, has_form, has_special, is_claimed, needed, needs_address, needs_text, form_flaws, is_unset, unless}
use Rattle.config_verify.specs.Values.{has_prefix, is_address, is_plain_address, without_prefix}
use Rattle.config_verify.specs.declared.flaw.Flaw.{Flaw}
use Rattle.config_terms.specs.declared.fields.Field.TheVariants.{FsDir, FsSpecial, FsType, NetPhysical}
use Rattle.config_terms.specs.declared.fields.Named.TheVariants.{One}
use Rattle.datalink_table.specs.Claims.{same_claim, same_kind}
use Rattle.datalink_table.specs.declared.claims.Claim.{Claim}
use Rattle.datalink_table.specs.declared.claims.ClaimKind.{ClaimKind}
use Rattle.datalink_table.specs.declared.claims.ClaimKind.TheVariants.{Address, Dataset, Link}
use Rattle.zn_base.specs.Path.{is_slash}
use Rattle.zone_config.specs.Sound.{HasSoundResources}
use Rattle.zone_config.specs.declared.terms.Contents.{Contents}
use Rattle.loopback_mounts.proofs.Orders.{bytes_itself}
use Rattle.zoneadmd_laws.proofs.Apart.{any_ordered, bytes_turned, move, ordered_differ, ordered_length, turn_round}
use Rattle.zoneadmd_laws.specs.Lists.{all_differ}
use Rattle.zoneadmd_steps.specs.Configs.{claims_of, dataset_claim, fs_dirs, net_claim, root_dir}

-- a list of nothing
no_front : {A : Type 0} (xs ys : List A) → xs ++ ys ≡ [] → xs ≡ []
no_front [] ys e = refl
no_front (x ∷ xs) ys e = cc

no_back : {A : Type 0} (xs ys : List A) → xs ++ ys ≡ [] → ys ≡ []
no_back [] ys e = e
no_back (x ∷ xs) ys e = cc

no_flaw : (holds : Bool) (flaw : Flaw) → unless holds flaw ≡ [] → holds ≡ true
no_flaw true flaw e = refl
no_flaw false flaw e = cc

none_first : (fs : List Flaw) (u : Unit {0}) → first fs ≡ Ok u → fs ≡ []
none_first [] u e = refl
none_first (f ∷ fs) u e = cc

-- tests
isn't : (b : Bool) → not b ≡ true → b ≡ false
isn't true h = absurd (true≢false (sym h))
isn't false h = refl

both_left : (a b : Bool) → (a && b) ≡ true → a ≡ true
both_left true b h = refl
both_left false b h = h

both_right : (a b : Bool) → (a && b) ≡ true → b ≡ true
both_right true b h = h
both_right false b h = absurd (true≢false (sym h))

new_apart : {A : Type 0} (eq : A → A → Bool) (x : A) (acc : List A) → list_any (eq x) acc ≡ false → all_differ eq acc ≡ true → all_differ eq (x ∷ acc) ≡ true
new_apart eq x acc h k = λ i. not (h i) && k i

-- directories
dirs_in : List Fs → List (List ℕ)
dirs_in fs = filter_map (λ f. f.dir) fs

abbrev Before : List Fs → List (List ℕ) → Type 0
Before before acc = (e : List ℕ) → (bytes_eq e root_dir || list_any (has_dir e) before) ≡ list_any (bytes_eq e) acc

fs_flaw : (before : List Fs) (f : Fs) → flaws_of_fs before f ≡ [] → dir_flaws before f.dir ≡ []
unfolding flaws_of_fs
fs_flaw before f e =
    no_back (needs_text f.fstype kind.Fs (One FsType)) (dir_flaws before f.dir)
    (no_back (needed (has_special f) kind.Fs (One FsSpecial)) (needs_text f.fstype kind.Fs (One FsType) ++ dir_flaws before f.dir)
    (no_back (needed (is_some f.dir) kind.Fs (One FsDir)) (needed (has_special f) kind.Fs (One FsSpecial) ++ (needs_text f.fstype kind.Fs (One FsType) ++ dir_flaws before f.dir)) e))

or_turn3 : (a b c : Bool) → (a || (b || (c || false))) ≡ (c || (a || b))
or_turn3 true true true = refl
or_turn3 true true false = refl
or_turn3 true false true = refl
or_turn3 true false false = refl
or_turn3 false true true = refl
or_turn3 false true false = refl
or_turn3 false false true = refl
or_turn3 false false false = refl

or_none : (a b : Bool) → (a || (b || (false || false))) ≡ (a || b)
or_none true b = refl
or_none false true = refl
or_none false false = refl

fs_differ : (fs before : List Fs) (acc : List (List ℕ)) → all_differ bytes_eq acc ≡ true → Before before acc → each_behind flaws_of_fs before fs ≡ [] → all_differ bytes_eq (filter_map (λ f. f.dir) fs ++ acc) ≡ true
fs_differ [] before acc h r e = h
fs_differ (f ∷ fs) before acc h r e = go f.dir refl (fs_flaw before f (no_front _ _ e)) (λ acc h r. fs_differ fs (before ++ f ∷ []) acc h r (no_back (flaws_of_fs before f) _ e))
  where
    go : (o : Option (List ℕ)) → f.dir ≡ o → dir_flaws before o ≡ []
        → ((acc : List (List ℕ)) → all_differ bytes_eq acc ≡ true → Before (before ++ f ∷ []) acc → all_differ bytes_eq (filter_map (λ f. f.dir) fs ++ acc) ≡ true)
        → all_differ bytes_eq (filter_map (λ f. f.dir) (f ∷ fs) ++ acc) ≡ true
    go None is d more =
        rw is (more acc h (λ k. ap (λ b. bytes_eq k root_dir || b) (list_any-append (has_dir k) before (f ∷ [])) ∙ (rw is (or_none (bytes_eq k root_dir) (list_any (has_dir k) before)) ∙ r k)))
    go (Some dir) is d more =
        let new : list_any (bytes_eq dir) acc ≡ false = sym (r dir) ∙ isn't _ (no_flaw _ _ d) in
        rw is (sym (move bytes_eq bytes_turned dir (filter_map (λ f. f.dir) fs) acc)
        ∙ more (dir ∷ acc) (new_apart bytes_eq dir acc new h) (λ k.
        ap (λ b. bytes_eq k root_dir || b) (list_any-append (has_dir k) before (f ∷ []))
        ∙ (rw is (or_turn3 (bytes_eq k root_dir) (list_any (has_dir k) before) (bytes_eq dir k)) ∙ (λ i. bytes_turned dir k i || r k i))))

all_flaws : (brands : List (List ℕ)) (c : Contents) → flaws brands c ≡ [] → (each_behind flaws_of_fs [] c.fs ≡ []) × (each_behind (flaws_of_net c.ip) [] c.net ≡ [])
unfolding flaws
all_flaws brands c e =
    let x = no_back _ _ (no_back _ _ e) in
    (no_front (each_behind flaws_of_fs [] c.fs) _ x, no_front (each_behind (flaws_of_net c.ip) [] c.net) _ (no_back (each_behind flaws_of_fs [] c.fs) _ x))

root_before : (e : List ℕ) → (bytes_eq e root_dir || false) ≡ (bytes_eq e root_dir || false)
root_before e = refl

pub dirs_differ : (brands : List (List ℕ)) (c : Contents) (u : Unit {0}) → first (flaws brands c) ≡ Ok u → all_differ bytes_eq (root_dir ∷ fs_dirs c) ≡ true
dirs_differ brands c u e =
    let ds = filter_map (λ f. f.dir) c.fs in
    let x : all_differ bytes_eq (ds ++ root_dir ∷ []) ≡ true = fs_differ c.fs [] (root_dir ∷ []) refl (λ k. refl) (all_flaws brands c (none_first _ u e)).0 in
    let y : all_differ bytes_eq (root_dir ∷ ds) ≡ true = ap (λ ds. all_differ bytes_eq (root_dir ∷ ds)) (sym (append-nil ds)) ∙ (sym (move bytes_eq bytes_turned root_dir ds []) ∙ x) in
    (λ i. not (any_ordered (bytes_eq root_dir) ds i) && ordered_differ ds i) ∙ y

some_length : (fs : List Fs) → length (filter_map (λ f. f.dir) fs) ≤ length fs
some_length [] = omega arith
some_length (f ∷ fs) = go f.dir refl (some_length fs)
  where
    go : (o : Option (List ℕ)) → f.dir ≡ o → length (filter_map (λ f. f.dir) fs) ≤ length fs → length (filter_map (λ f. f.dir) (f ∷ fs)) ≤ suc (length fs)
    go None e h = rw e (omega (arith, h))
    go (Some d) e h = rw e (omega (arith, h))

pub dirs_few : (c : Contents) → HasSoundResources c → length (fs_dirs c) ≤ 100
dirs_few c h = omega (arith, ordered_length (filter_map (λ f. f.dir) c.fs), some_length c.fs, (h.kinds kind.Fs).few)

-- claims
kind_self : (k : ClaimKind) → same_kind k k ≡ true
kind_self Link = refl
kind_self Address = refl
kind_self Dataset = refl

kind_turned : (j k : ClaimKind) → same_kind j k ≡ same_kind k j
kind_turned Link Link = refl
kind_turned Link Address = refl
kind_turned Link Dataset = refl
kind_turned Address Link = refl
kind_turned Address Address = refl
kind_turned Address Dataset = refl
kind_turned Dataset Link = refl
kind_turned Dataset Address = refl
kind_turned Dataset Dataset = refl

pub claim_turned : (a b : Claim) → same_claim a b ≡ same_claim b a
claim_turned a b = λ i. kind_turned a.kind b.kind i && bytes_turned a.item b.item i

pub claim_self : (a : Claim) → same_claim a a ≡ true
claim_self a = λ i. kind_self a.kind i && bytes_itself a.item i

datasets_none : (d : List ℕ) (ds : List (List ℕ)) → list_any (same_claim (dataset_claim d)) (map dataset_claim ds) ≡ list_any (λ e. bytes_eq e d) ds
datasets_none d [] = refl
datasets_none d (e ∷ ds) = λ i. bytes_turned d e i || datasets_none d ds i

datasets_differ : (ds : List (List ℕ)) → are_distinct (λ d. d) ds ≡ true → all_differ same_claim (map dataset_claim ds) ≡ true
datasets_differ [] h = refl
datasets_differ (d ∷ ds) h =
    let new = datasets_none d ds ∙ isn't _ (both_left _ _ h) in
    new_apart same_claim (dataset_claim d) (map dataset_claim ds) new (datasets_differ ds (both_right _ _ h))

no_dataset : (ip : IpType) (n : Net) (ds : List (List ℕ)) → list_any (same_claim (net_claim ip n)) (map dataset_claim ds) ≡ false
no_dataset ip n [] = refl
no_dataset Exclusive n (d ∷ ds) = no_dataset Exclusive n ds
no_dataset Shared n (d ∷ ds) = no_dataset Shared n ds

-- an address has something before its prefix
lt_or_le : (a b : ℕ) → (a < b) ⊎ (b ≤ a)
lt_or_le a zero = inr (omega arith)
lt_or_le zero (suc b) = inl (omega arith)
lt_or_le (suc a) (suc b) = go (lt_or_le a b)
  where
    go : (a < b) ⊎ (b ≤ a) → (suc a < suc b) ⊎ (suc b ≤ suc a)
    go (inl h) = inl (omega (arith, h))
    go (inr h) = inr (omega (arith, h))

no_prefix : (parts : List (List ℕ)) → has_prefix ([] ∷ parts) ≡ false
unfolding is_plain_address
no_prefix [] = refl
no_prefix (n ∷ []) = refl
no_prefix (n ∷ m ∷ parts) = refl

unset_is : (xs : List ℕ) → is_unset xs ≡ true → xs ≡ []
unset_is [] h = refl
unset_is (x ∷ xs) h = go (eqb-true (suc (length xs)) 0 h)
  where
    go : suc (length xs) ≡ 0 → x ∷ xs ≡ []
    go e = cc

address_set : (text : List ℕ) → is_unset text ≡ false → is_address text ≡ true → is_unset (without_prefix text) ≡ false
unfolding is_address without_prefix
address_set text set is = go (is_unset (before_first is_slash text)) refl (lt_or_le (position_or_len is_slash text) (length text))
  where
    go : (b : Bool) → is_unset (before_first is_slash text) ≡ b → (position_or_len is_slash text < length text) ⊎ (length text ≤ position_or_len is_slash text) → is_unset (before_first is_slash text) ≡ false
    go false e h = e
    go true e (inr h) = ap is_unset (take_all (position_or_len is_slash text) text h) ∙ set
    go true e (inl h) = absurd (true≢false (sym is ∙ (ap has_prefix (slice_split_first is_slash text 0 h ∙ ap (λ xs. xs ∷ slice_split is_slash (after_first is_slash text)) (unset_is _ e)) ∙ no_prefix _)))

-- nets
net_flaw : (ip : IpType) (before : List Net) (n : Net) → flaws_of_net ip before n ≡ [] → (needs_text n.physical kind.Net (One NetPhysical) ≡ []) × (form_flaws ip before n ≡ []) × (needs_address is_address n.address ≡ [])
unfolding flaws_of_net
net_flaw ip before n e =
    let x = no_back (needs_text n.physical kind.Net (One NetPhysical)) (form_flaws ip before n ++ (needs_address is_address n.address ++ (needs_address is_address n.allowed ++ needs_address is_plain_address n.defrouter))) e in
    let y = no_back (form_flaws ip before n) (needs_address is_address n.address ++ (needs_address is_address n.allowed ++ needs_address is_plain_address n.defrouter)) x in
    (no_front (needs_text n.physical kind.Net (One NetPhysical)) _ e, no_front (form_flaws ip before n) _ x, no_front (needs_address is_address n.address) _ y)

claimed_set : (ip : IpType) (n : Net) → needs_text n.physical kind.Net (One NetPhysical) ≡ [] → has_form ip n ≡ true → needs_address is_address n.address ≡ [] → is_unset (claimed ip n) ≡ false
claimed_set Exclusive n p f a = isn't _ (no_flaw _ _ p)
claimed_set Shared n p f a =
    let set = isn't (is_unset n.address) (both_left _ (is_unset n.allowed) f) in
    address_set n.address set (ap (λ b. b || is_address n.address) (sym set) ∙ no_flaw _ _ a)

claimed_apart : (ip : IpType) (before : List Net) (n : Net) → is_unset (claimed ip n) ≡ false → is_claimed ip before n ≡ false → list_any (λ m. bytes_eq (claimed ip m) (claimed ip n)) before ≡ false
unfolding is_claimed
claimed_apart ip before n set e = ap (λ b. not b && list_any (λ m. bytes_eq (claimed ip m) (claimed ip n)) before) (sym set) ∙ e

abbrev Claimed_before : IpType → List Net → List Claim → Type 0
Claimed_before ip before acc = (n : Net) → list_any (λ m. bytes_eq (claimed ip m) (claimed ip n)) before ≡ list_any (same_claim (net_claim ip n)) acc

same_net : (ip : IpType) (n m : Net) → same_claim (net_claim ip n) (net_claim ip m) ≡ bytes_eq (claimed ip m) (claimed ip n)
same_net Exclusive n m = bytes_turned (claimed Exclusive n) (claimed Exclusive m)
same_net Shared n m = bytes_turned (claimed Shared n) (claimed Shared m)

or_last : (a b : Bool) → (a || (b || false)) ≡ (b || a)
or_last true true = refl
or_last true false = refl
or_last false true = refl
or_last false false = refl

nets_differ : (ip : IpType) (ns before : List Net) (acc : List Claim) → all_differ same_claim acc ≡ true → Claimed_before ip before acc → each_behind (flaws_of_net ip) before ns ≡ [] → all_differ same_claim (map (net_claim ip) ns ++ acc) ≡ true
nets_differ ip [] before acc h r e = h
nets_differ ip (n ∷ ns) before acc h r e =
    let flaw = net_flaw ip before n (no_front _ _ e) in
    let form = no_flaw _ _ flaw.1 in
    let set = claimed_set ip n flaw.0 (both_left _ _ form) flaw.2 in
    let new = sym (r n) ∙ claimed_apart ip before n set (isn't _ (both_right (has_form ip n) _ form)) in
    let more = nets_differ ip ns (before ++ n ∷ []) (net_claim ip n ∷ acc) (new_apart same_claim (net_claim ip n) acc new h)
    (λ k. list_any-append (λ m. bytes_eq (claimed ip m) (claimed ip k)) before (n ∷ []) ∙ (or_last _ _ ∙ (λ i. sym (same_net ip k n) i || r k i)))
    (no_back (flaws_of_net ip before n) _ e) in
    sym (move same_claim claim_turned (net_claim ip n) (map (net_claim ip) ns) acc) ∙ more

pub claims_differ : (brands : List (List ℕ)) (c : Contents) (u : Unit {0}) → HasSoundResources c → first (flaws brands c) ≡ Ok u → all_differ same_claim (claims_of c) ≡ true
claims_differ brands c u s e =
    turn_round same_claim claim_turned (map dataset_claim c.dataset) (map (net_claim c.ip) c.net)
    ∙ nets_differ c.ip c.net [] (map dataset_claim c.dataset) (datasets_differ c.dataset (s.kinds kind.Dataset).once) (λ n. sym (no_dataset c.ip n c.dataset)) (all_flaws brands c (none_first _ u e)).1
