-- Where the resources of each kind stand, and that all of a kind are walked.
use Rattle.std.proofs.Common.{◌≡◌, ◌≤◌, ◌+◌, suc, ℕ, Bool, true, false, List, [], ◌∷◌, ◌++◌, length, length-append, Some, None, refl, ap, sym, subst, ◌∙◌, arith, append_assoc, append-nil}
use Rattle.std.specs.Prelude.{nat_le, nat_lt}
use Rattle.std.specs.List.{flat_map, list_all}
use Rattle.std.proofs.lemmas.Bool.{and_parts}
use Rattle.std.proofs.lemmas.Bool.Decides.{nat_tests}
use Rattle.std.proofs.lemmas.List.Folds.{list_all-append}
use Rattle.config_terms.specs.Allowed.{has_key, is_allowed, is_taken, is_taken_by, are_distinct_in, are_told_apart}
use Rattle.config_terms.specs.Fields.{attr_shown, fs_shown, key_field, kinds, net_shown, rctl_shown}
use Rattle.config_terms.specs.declared.fields.Field.{Field}
use Rattle.config_terms.specs.declared.fields.Field.TheVariants.{DeviceMatch, RctlName, AttrName, DatasetName}
use Rattle.config_terms.specs.declared.terms.Attr as attr
use Rattle.config_terms.specs.declared.terms.Fs as fs
use Rattle.config_terms.specs.declared.terms.Kind.{Kind}
use Rattle.config_terms.specs.declared.terms.Kind.TheVariants as kind
use Rattle.config_terms.specs.declared.terms.Limit.{Limit}
use Rattle.config_terms.specs.declared.terms.Net as net
use Rattle.config_terms.specs.declared.terms.Rctl as rctl
use Rattle.config_terms.specs.declared.terms.Resource.{Resource}
use Rattle.config_terms.specs.declared.terms.Resource.TheVariants.{Fs, Net, Device, Rctl, Attr, Dataset}
use Rattle.config_terms.specs.Edits.{attr_with, dataset_with, device_with, fs_with, net_with, rctl_with}
use Rattle.export_read.proofs.Texts.{text-script, text_of}
use Rattle.export_read.specs.Commands.{entry_commands, kind_commands, property_commands, resource_commands, script}
use Rattle.export_read.specs.declared.command.Command.{Command}
use Rattle.export_read.specs.declared.command.Command.TheVariants.{Create}
use Rattle.zone_config.specs.Export.{export_text}
use Rattle.zone_config.specs.Property.{properties}
use Rattle.zone_config.specs.Sound.{IsSound, count}
use Rattle.zone_config.specs.declared.terms.Contents.{Contents}
use Rattle.export_read.specs.Drafts.{closed}
use Rattle.export_read.specs.Names.{is_used}
use Rattle.export_read.proofs.Forms.{walk_resource}
use Rattle.export_read.proofs.KindShapes.{IsForm, IsPlace}
use Rattle.export_read.proofs.Globals.{without_resources}
use Rattle.export_read.proofs.KindForms.{always_whole, attr_form, dataset_form, dataset_shown, device_form, device_shown, fs_form, fs_options, fs_values, fs_whole, net_form, no_attr, no_fs, no_net, no_options, no_rctl, no_values, rctl_form, rctl_values}
use Rattle.export_read.proofs.Tables.{apart_before}
use Rattle.export_read.proofs.Walks.{Walks, walk-each, walk-then}

-- one of a list of which each passes a test
one_passes : {A : Type 0} (p : A → Bool) (pre post : List A) (x : A) → list_all p (pre ++ x ∷ post) ≡ true → p x ≡ true
one_passes p pre post x h =
    let both : (list_all p pre ≡ true) × (list_all p (x ∷ post) ≡ true) = and_parts _ _ (sym (list_all-append p pre (x ∷ post)) ∙ h) in
    let own : (p x ≡ true) × (list_all p post ≡ true) = and_parts _ _ both.1 in own.0

not_taken_before : {A : Type 0} (shown : A → Field → List ℕ) (k : Kind) (pre post : List A) (x : A) → are_told_apart shown k (pre ++ x ∷ post) ≡ true → is_taken shown k x pre ≡ false
not_taken_before {A} shown k pre post x h =
    elim (key_field k) as (λ o. are_distinct_in shown o (pre ++ x ∷ post) ≡ true → is_taken_by shown o x pre ≡ false) [
      | None ↦ λ _. refl
      | Some f ↦ λ apart. apart_before (λ a. shown a f) pre post x apart
    ] h

module _ {A : Type 0} (k : Kind) (wrap : A → Resource) (shown : A → Field → List ℕ) (options : A → List (List ℕ)) (values : A → List Limit) (put_field : Field → List ℕ → A → A)
    (whole : A → Bool) (nothing : A) (F : IsForm k wrap shown options values put_field whole nothing)
    (c : Contents) (now : List A → Contents) (front behind : List Command) (all : List A) where
  -- all resources of a kind are walked
  walk_kind : IsPlace k wrap shown options (λ a. entry_commands k (shown a) (options a) (values a)) c now front behind all → list_all (λ a. is_allowed (wrap a)) all ≡ true → are_told_apart shown k all ≡ true
      → list_all (λ a. nat_le (length (options a)) 32) all ≡ true
      → Walks front (closed (now [])) (flat_map (λ a. entry_commands k (shown a) (options a) (values a)) all) (closed (now all))
  walk_kind P each once few =
      let W : List Command → Type 0 = λ q. Walks q (closed (now [])) (flat_map (λ a. entry_commands k (shown a) (options a) (values a)) all) (closed (now all)) in
      subst W (append-nil front) (walk-each (λ a. entry_commands k (shown a) (options a) (values a)) (λ xs. closed (now xs)) front all [] all refl
      (λ pre post x at.
      let good = one_passes (λ a. is_allowed (wrap a)) pre post x (ap (list_all (λ a. is_allowed (wrap a))) at ∙ each) in
      let free = not_taken_before shown k pre post x (ap (are_told_apart shown k) at ∙ once) in
      let small = one_passes (λ a. nat_le (length (options a)) 32) pre post x (ap (list_all (λ a. nat_le (length (options a)) 32)) at ∙ few) in
      let less : nat_lt 32 (length (options x)) ≡ false = grind (arith, nat_tests) in
      walk_resource k wrap shown options values put_field whole nothing F c now front behind all P pre post x at (sym (F.judged x) ∙ good) free less))

length_at : {A : Type 0} (pre post all : List A) (x : A) → pre ++ x ∷ post ≡ all → length all ≡ length pre + suc (length post)
length_at pre post all x at = ap length (sym at) ∙ length-append pre (x ∷ post)

-- the commands of resources that are made of a list
abbrev commands_of : {A : Type 0} → (A → Resource) → List A → List Command
commands_of wrap xs = flat_map (λ x. resource_commands (wrap x)) xs

module _ (c : Contents) (sound : IsSound c) where
  abbrev now_fs : List fs.Fs → Contents
  now_fs xs = record (without_resources c) { fs = xs }

  abbrev now_net : List net.Net → Contents
  now_net xs = record (without_resources c) { fs = c.fs; net = xs }

  abbrev now_device : List (List ℕ) → Contents
  now_device xs = record (without_resources c) { fs = c.fs; net = c.net; device = xs }

  abbrev now_rctl : List rctl.Rctl → Contents
  now_rctl xs = record (without_resources c) { fs = c.fs; net = c.net; device = c.device; rctl = xs }

  abbrev now_attr : List attr.Attr → Contents
  now_attr xs = record (without_resources c) { fs = c.fs; net = c.net; device = c.device; rctl = c.rctl; attr = xs }

  abbrev now_dataset : List (List ℕ) → Contents
  now_dataset xs = record c { dataset = xs }

  abbrev H : List Command
  H = Create ∷ flat_map (property_commands c) properties

  abbrev F : List Command
  F = commands_of Fs c.fs

  abbrev N : List Command
  N = commands_of Net c.net

  abbrev D : List Command
  D = commands_of Device c.device

  abbrev R : List Command
  R = commands_of Rctl c.rctl

  abbrev A : List Command
  A = commands_of Attr c.attr

  abbrev S : List Command
  S = commands_of Dataset c.dataset

  all_commands : script c ≡ H ++ (F ++ (N ++ (D ++ (R ++ (A ++ S)))))
  unfolding script
  all_commands = ap (λ l. H ++ (F ++ (N ++ (D ++ (R ++ (A ++ l)))))) (append-nil S)

  whole_text : (q : List Command) → script c ≡ q → export_text c ≡ text_of q
  whole_text q e = sym (text-script c) ∙ ap text_of e

  fs_script : (xs : List fs.Fs) → script (now_fs xs) ≡ H ++ commands_of Fs xs
  unfolding script
  fs_script xs = ap (λ l. H ++ l) (append-nil (commands_of Fs xs))

  net_script : (xs : List net.Net) → script (now_net xs) ≡ (H ++ F) ++ commands_of Net xs
  unfolding script
  net_script xs = ap (λ l. H ++ (F ++ l)) (append-nil (commands_of Net xs)) ∙ sym (append_assoc H F (commands_of Net xs))

  device_script : (xs : List (List ℕ)) → script (now_device xs) ≡ ((H ++ F) ++ N) ++ commands_of Device xs
  unfolding script
  device_script xs = ap (λ l. H ++ (F ++ (N ++ l))) (append-nil (commands_of Device xs)) ∙ four H F N (commands_of Device xs)
    where
      four : (a b c d : List Command) → a ++ (b ++ (c ++ d)) ≡ ((a ++ b) ++ c) ++ d
      four a b c d = simp append_assoc refl

  rctl_script : (xs : List rctl.Rctl) → script (now_rctl xs) ≡ (((H ++ F) ++ N) ++ D) ++ commands_of Rctl xs
  unfolding script
  rctl_script xs = ap (λ l. H ++ (F ++ (N ++ (D ++ l)))) (append-nil (commands_of Rctl xs)) ∙ five H F N D (commands_of Rctl xs)
    where
      five : (a b c d e : List Command) → a ++ (b ++ (c ++ (d ++ e))) ≡ (((a ++ b) ++ c) ++ d) ++ e
      five a b c d e = simp append_assoc refl

  attr_script : (xs : List attr.Attr) → script (now_attr xs) ≡ ((((H ++ F) ++ N) ++ D) ++ R) ++ commands_of Attr xs
  unfolding script
  attr_script xs = ap (λ l. H ++ (F ++ (N ++ (D ++ (R ++ l))))) (append-nil (commands_of Attr xs)) ∙ six H F N D R (commands_of Attr xs)
    where
      six : (a b c d e f : List Command) → a ++ (b ++ (c ++ (d ++ (e ++ f)))) ≡ ((((a ++ b) ++ c) ++ d) ++ e) ++ f
      six a b c d e f = simp append_assoc refl

  seven : (a b c d e f g : List Command) → a ++ (b ++ (c ++ (d ++ (e ++ (f ++ g))))) ≡ (((((a ++ b) ++ c) ++ d) ++ e) ++ f) ++ g
  seven a b c d e f g = simp append_assoc refl

  dataset_script : (xs : List (List ℕ)) → script (now_dataset xs) ≡ (((((H ++ F) ++ N) ++ D) ++ R) ++ A) ++ commands_of Dataset xs
  unfolding script
  dataset_script xs = ap (λ l. H ++ (F ++ (N ++ (D ++ (R ++ (A ++ l)))))) (append-nil (commands_of Dataset xs)) ∙ seven H F N D R A (commands_of Dataset xs)

  few : length c.fs + length c.net + length c.device + length c.rctl + length c.attr + length c.dataset ≤ 256
  unfolding count
  few = omega (arith, sound.resources.few)

  fs_place : IsPlace kind.Fs Fs fs_shown fs_options (λ x. resource_commands (Fs x)) c now_fs H (N ++ (D ++ (R ++ (A ++ S)))) c.fs
  unfolding count
  fs_place = record {
    text = λ xs. sym (text-script (now_fs xs)) ∙ ap text_of (fs_script xs);
    whole = whole_text (H ++ (F ++ (N ++ (D ++ (R ++ (A ++ S)))))) all_commands;
    short = sound.short;
    adds = λ xs a. refl;
    taken = λ xs a. refl;
    used = λ xs f h. absurd (cc);
    room = λ pre post x at. let n = length_at pre post c.fs x at in let m = few in omega (arith, n, m);
    limit = λ pre post x y at less.
        let n = length_at pre post c.fs x at in
        let m = few in
        let k = (sound.resources.kinds kind.Fs).few in
        let all : nat_le 256 (count (now_fs pre)) ≡ false = grind (arith, nat_tests) in
        let own : nat_le 100 (length pre) ≡ false = grind (arith, nat_tests) in
        rw (all, own, less) refl;
  }

  net_place : IsPlace kind.Net Net net_shown no_options (λ x. resource_commands (Net x)) c now_net (H ++ F) (D ++ (R ++ (A ++ S))) c.net
  unfolding count
  net_place = record {
    text = λ xs. sym (text-script (now_net xs)) ∙ ap text_of (net_script xs);
    whole = whole_text ((H ++ F) ++ (N ++ (D ++ (R ++ (A ++ S))))) (all_commands ∙ sym (append_assoc H F (N ++ (D ++ (R ++ (A ++ S))))));
    short = sound.short;
    adds = λ xs a. refl;
    taken = λ xs a. refl;
    used = λ xs f h. absurd (cc);
    room = λ pre post x at. let n = length_at pre post c.net x at in let m = few in omega (arith, n, m);
    limit = λ pre post x y at less.
        let n = length_at pre post c.net x at in
        let m = few in
        let all : nat_le 256 (count (now_net pre)) ≡ false = grind (arith, nat_tests) in
        rw all refl;
  }

  device_place : IsPlace kind.Device Device device_shown no_options (λ x. resource_commands (Device x)) c now_device ((H ++ F) ++ N) (R ++ (A ++ S)) c.device
  unfolding count
  device_place = record {
    text = λ xs. sym (text-script (now_device xs)) ∙ ap text_of (device_script xs);
    whole = whole_text (((H ++ F) ++ N) ++ (D ++ (R ++ (A ++ S)))) (all_commands ∙ four H F N (D ++ (R ++ (A ++ S))));
    short = sound.short;
    adds = λ xs a. refl;
    taken = λ xs a. refl;
    used = λ xs f h. let is : DeviceMatch ≡ f = cc in subst (λ g. is_used g (now_device xs) ≡ (λ n. has_key (λ a. device_shown a g) n xs)) is refl;
    room = λ pre post x at. let n = length_at pre post c.device x at in let m = few in omega (arith, n, m);
    limit = λ pre post x y at less.
        let n = length_at pre post c.device x at in
        let m = few in
        let all : nat_le 256 (count (now_device pre)) ≡ false = grind (arith, nat_tests) in
        rw all refl;
  }
    where
      four : (a b c d : List Command) → a ++ (b ++ (c ++ d)) ≡ ((a ++ b) ++ c) ++ d
      four a b c d = simp append_assoc refl

  rctl_place : IsPlace kind.Rctl Rctl rctl_shown no_options (λ x. resource_commands (Rctl x)) c now_rctl (((H ++ F) ++ N) ++ D) (A ++ S) c.rctl
  unfolding count
  rctl_place = record {
    text = λ xs. sym (text-script (now_rctl xs)) ∙ ap text_of (rctl_script xs);
    whole = whole_text ((((H ++ F) ++ N) ++ D) ++ (R ++ (A ++ S))) (all_commands ∙ five H F N D (R ++ (A ++ S)));
    short = sound.short;
    adds = λ xs a. refl;
    taken = λ xs a. refl;
    used = λ xs f h. let is : RctlName ≡ f = cc in subst (λ g. is_used g (now_rctl xs) ≡ (λ n. has_key (λ a. rctl_shown a g) n xs)) is refl;
    room = λ pre post x at. let n = length_at pre post c.rctl x at in let m = few in omega (arith, n, m);
    limit = λ pre post x y at less.
        let n = length_at pre post c.rctl x at in
        let m = few in
        let all : nat_le 256 (count (now_rctl pre)) ≡ false = grind (arith, nat_tests) in
        rw all refl;
  }
    where
      five : (a b c d e : List Command) → a ++ (b ++ (c ++ (d ++ e))) ≡ (((a ++ b) ++ c) ++ d) ++ e
      five a b c d e = simp append_assoc refl

  attr_place : IsPlace kind.Attr Attr attr_shown no_options (λ x. resource_commands (Attr x)) c now_attr ((((H ++ F) ++ N) ++ D) ++ R) S c.attr
  unfolding count
  attr_place = record {
    text = λ xs. sym (text-script (now_attr xs)) ∙ ap text_of (attr_script xs);
    whole = whole_text (((((H ++ F) ++ N) ++ D) ++ R) ++ (A ++ S)) (all_commands ∙ six H F N D R (A ++ S));
    short = sound.short;
    adds = λ xs a. refl;
    taken = λ xs a. refl;
    used = λ xs f h. let is : AttrName ≡ f = cc in subst (λ g. is_used g (now_attr xs) ≡ (λ n. has_key (λ a. attr_shown a g) n xs)) is refl;
    room = λ pre post x at. let n = length_at pre post c.attr x at in let m = few in omega (arith, n, m);
    limit = λ pre post x y at less.
        let n = length_at pre post c.attr x at in
        let m = few in
        let all : nat_le 256 (count (now_attr pre)) ≡ false = grind (arith, nat_tests) in
        rw all refl;
  }
    where
      six : (a b c d e f : List Command) → a ++ (b ++ (c ++ (d ++ (e ++ f)))) ≡ ((((a ++ b) ++ c) ++ d) ++ e) ++ f
      six a b c d e f = simp append_assoc refl

  dataset_place : IsPlace kind.Dataset Dataset dataset_shown no_options (λ x. resource_commands (Dataset x)) c now_dataset (((((H ++ F) ++ N) ++ D) ++ R) ++ A) [] c.dataset
  unfolding count
  dataset_place = record {
    text = λ xs. sym (text-script (now_dataset xs)) ∙ ap text_of (dataset_script xs);
    whole = whole_text ((((((H ++ F) ++ N) ++ D) ++ R) ++ A) ++ (S ++ [])) (all_commands ∙ seven H F N D R A S ∙ ap (λ l. (((((H ++ F) ++ N) ++ D) ++ R) ++ A) ++ l) (sym (append-nil S)));
    short = sound.short;
    adds = λ xs a. refl;
    taken = λ xs a. refl;
    used = λ xs f h. let is : DatasetName ≡ f = cc in subst (λ g. is_used g (now_dataset xs) ≡ (λ n. has_key (λ a. dataset_shown a g) n xs)) is refl;
    room = λ pre post x at. let n = length_at pre post c.dataset x at in let m = few in omega (arith, n, m);
    limit = λ pre post x y at less.
        let n = length_at pre post c.dataset x at in
        let m = few in
        let all : nat_le 256 (count (now_dataset pre)) ≡ false = grind (arith, nat_tests) in
        rw all refl;
  }

  -- all resources of a configuration are walked, kind by kind
  pub walk_resources : Walks H (closed (without_resources c)) (flat_map (kind_commands c) kinds) (closed c)
  walk_resources =
      let each = sound.resources.kinds in
      let fs = walk_kind kind.Fs Fs fs_shown fs_options fs_values fs_with fs_whole no_fs fs_form c now_fs H (N ++ (D ++ (R ++ (A ++ S)))) c.fs fs_place (each kind.Fs).each (each kind.Fs).once (each kind.Fs).few_options in
      let net = walk_kind kind.Net Net net_shown no_options no_values net_with always_whole no_net net_form c now_net (H ++ F) (D ++ (R ++ (A ++ S))) c.net net_place (each kind.Net).each (each kind.Net).once (each kind.Net).few_options in
      let device = walk_kind kind.Device Device device_shown no_options no_values device_with always_whole [] device_form c now_device ((H ++ F) ++ N) (R ++ (A ++ S)) c.device device_place (each kind.Device).each (each kind.Device).once (each kind.Device).few_options in
      let rctl = walk_kind kind.Rctl Rctl rctl_shown no_options rctl_values rctl_with always_whole no_rctl rctl_form c now_rctl (((H ++ F) ++ N) ++ D) (A ++ S) c.rctl rctl_place (each kind.Rctl).each (each kind.Rctl).once (each kind.Rctl).few_options in
      let attr = walk_kind kind.Attr Attr attr_shown no_options no_values attr_with always_whole no_attr attr_form c now_attr ((((H ++ F) ++ N) ++ D) ++ R) S c.attr attr_place (each kind.Attr).each (each kind.Attr).once (each kind.Attr).few_options in
      let dataset = walk_kind kind.Dataset Dataset dataset_shown no_options no_values dataset_with always_whole [] dataset_form c now_dataset (((((H ++ F) ++ N) ++ D) ++ R) ++ A) [] c.dataset dataset_place (each kind.Dataset).each (each kind.Dataset).once (each kind.Dataset).few_options in
      let W : List Command → Type 0 = λ l. Walks H (closed (without_resources c)) (F ++ (N ++ (D ++ (R ++ (A ++ l))))) (closed c) in
      subst W (sym (append-nil S))
      (walk-then F (N ++ (D ++ (R ++ (A ++ S)))) H (closed (without_resources c)) (closed (now_fs c.fs)) (closed c) fs
      (walk-then N (D ++ (R ++ (A ++ S))) (H ++ F) (closed (now_fs c.fs)) (closed (now_net c.net)) (closed c) net
      (walk-then D (R ++ (A ++ S)) ((H ++ F) ++ N) (closed (now_net c.net)) (closed (now_device c.device)) (closed c) device
      (walk-then R (A ++ S) (((H ++ F) ++ N) ++ D) (closed (now_device c.device)) (closed (now_rctl c.rctl)) (closed c) rctl
      (walk-then A S ((((H ++ F) ++ N) ++ D) ++ R) (closed (now_rctl c.rctl)) (closed (now_attr c.attr)) (closed c) attr dataset)))))
