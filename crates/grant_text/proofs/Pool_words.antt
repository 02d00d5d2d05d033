-- The words of the pools.
use Rattle.std.proofs.Common.{◌≡◌, ◌∙◌, List, ◌∷◌, [], ℕ, true, false, Option, Some, refl, sym, ap}
use Rattle.std.specs.Prelude.{bytes_eq, find, if◌then◌else◌, IfSome}
use Rattle.std.proofs.lemmas.Slice.Eq.{bytes_eq-Decides}
use Rattle.zn_base.specs.Cuts.{lacks}
use Rattle.zone_pools.specs.declared.grant.Pool.{Pool}
use Rattle.zone_pools.specs.declared.grant.Pool.TheVariants.{Pids, Zids, Zones, Paths, Store, Links, Addresses, Datasets, Source}
use Rattle.grant_text.specs.Text.{pool_word}

abbrev pub pools : List Pool
pools = Pids ∷ Zids ∷ Zones ∷ Paths ∷ Store ∷ Links ∷ Addresses ∷ Datasets ∷ Source ∷ []

-- the first pool of a word
abbrev named : List Pool → List ℕ → Option Pool
named ps word = find (λ pool. bytes_eq (pool_word pool) word) ps

-- each pool is found by its word
again : (pool : Pool) → named pools (pool_word pool) ≡ Some pool
again Pids = refl
again Zids = refl
again Zones = refl
again Paths = refl
again Store = refl
again Links = refl
again Addresses = refl
again Datasets = refl
again Source = refl

pub pool_found : (word : List ℕ) (pool : Pool) → word ≡ pool_word pool → named pools word ≡ Some pool
pool_found word pool is = ap (named pools) is ∙ again pool

-- and what is found has the word
pub found_word : (ps : List Pool) (word : List ℕ) → IfSome (named ps word) (λ pool. word ≡ pool_word pool)
found_word [] word = tt
found_word (p ∷ ps) word =
    elim (bytes_eq (pool_word p) word) as (λ b. bytes_eq (pool_word p) word ≡ b → IfSome (if b then Some p else named ps word) (λ pool. word ≡ pool_word pool)) [
      | true ↦ λ e. sym ((bytes_eq-Decides (pool_word p) word).0 e)
      | false ↦ λ e. found_word ps word
    ] refl

same_some : (a b : Pool) → Some a ≡ Some b → a ≡ b
same_some a b e = cc

-- no two pools have one word
pub same_pool : (a b : Pool) → pool_word a ≡ pool_word b → a ≡ b
same_pool a b same = same_some a b (sym (again a) ∙ ap (named pools) same ∙ again b)

-- no word has a space
pub word_lacks : (pool : Pool) → lacks 32 (pool_word pool) ≡ true
word_lacks Pids = refl
word_lacks Zids = refl
word_lacks Zones = refl
word_lacks Paths = refl
word_lacks Store = refl
word_lacks Links = refl
word_lacks Addresses = refl
word_lacks Datasets = refl
word_lacks Source = refl
