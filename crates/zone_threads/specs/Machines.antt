-- A machine of zones: what one zone has, what all share, and what an entry does to each.
use Rattle.std.specs.Prelude.{◌≡◌, ◌≢◌, ℕ, Bool, true}
use Rattle.zone_threads.specs.declared.machine.Said.TheVariants.{Idle}
use Rattle.zone_threads.specs.declared.machine.Told.{Told}

pub record Definitions (State Cell Shared Line Entry Heard : Type 0) : Type 1 where
  pub World : Type 0
  pub Common : Type 0
  -- what the zone of a place has, and what zones share
  pub world : ℕ → State → World
  pub common : State → Common
  -- the state after an entry, and whether the entry is what the machine answers there
  pub one : State → Entry → State
  pub right : State → Entry → Bool
  -- the place of an entry's zone, and what the entry says
  pub by : Entry → ℕ
  pub told : Entry → Told
  -- the place of the zone to which a session's line belongs
  pub place_of : Common → ℕ → Line → ℕ
  -- whether an entry is one of this line
  pub is_line : Line → Entry → Bool
  -- what a zone has after an entry of its own
  pub world_one : World → Entry → World
  -- whether an entry is the next turn of the zone of a place, and needs nothing that zones share
  pub is_local : ℕ → World → Entry → Bool
  -- whether a zone's daemon has something to do
  pub is_busy : World → Bool
  -- whether a shared part may still be used
  pub is_sound : Shared → Bool
  -- what a cell and a shared part stand for. A part that may be used no more may stand for less
  pub cell_of : Cell → World → Type 0
  pub shared_of : Shared → Common → Type 0
  -- whether this is what the hooks of a cell's zone answer
  pub heard : Cell → Heard → Type 0

module _ {State Cell Shared Line Entry Heard : Type 0} (D : Definitions State Cell Shared Line Entry Heard) where
  -- in the state that cell and shared part stood for the entry is right, and they stand for the state after it
  pub record Stepped (p : ℕ) (c : Cell) (m : Shared) (e : Entry) (s : State) : Type 0 where
    pub is_right : D.right s e ≡ true
    pub cell : D.cell_of c (D.world p (D.one s e))
    pub shared : D.shared_of m (D.common (D.one s e))
    pub sound : D.is_sound m ≡ true

  -- in the world that the cell stood for the entry is the next turn, and a local one; the cell stands for the world after it
  pub record Turned (p : ℕ) (c : Cell) (e : Entry) (w : D.World) : Type 0 where
    pub is_next : D.is_local p w e ≡ true
    pub cell : D.cell_of c (D.world_one w e)

  -- an event that wasn't done: the cell stands for what it stood for, unless the shared part may be used no more; and in each state that
  -- both stood for the part stands for what is common
  pub record Unfinished (p : ℕ) (c : Cell) (m : Shared) (d : Cell) (n : Shared) : Type 0 where
    pub cell : D.is_sound n ≡ true → (w : D.World) → D.cell_of c w → D.cell_of d w
    pub shared : (s : State) → D.cell_of c (D.world p s) → D.shared_of m (D.common s) → D.shared_of n (D.common s)

  -- an entry of a turn of the zone of a place
  pub record IsTurnOf (p : ℕ) (e : Entry) : Type 0 where
    pub by : D.by e ≡ p
    pub turn : (D.told e).session ≡ 0

  -- an entry of a session's line, of the zone of a place
  pub record IsLineOf (p s : ℕ) (l : Line) (e : Entry) : Type 0 where
    pub by : D.by e ≡ p
    pub session : (D.told e).session ≡ s
    pub line : D.is_line l e ≡ true

  -- what threads rest on
  pub record Laws : Type 0 where
    -- an entry leaves the worlds of other places as they were
    pub others_stay : (p : ℕ) (s : State) (e : Entry) → D.right s e ≡ true → D.by e ≢ p → D.world p (D.one s e) ≡ D.world p s
    -- what its own place has after it, hangs on the world and the entry alone
    pub own_moves : (s : State) (e : Entry) → D.right s e ≡ true → D.world (D.by e) (D.one s e) ≡ D.world_one (D.world (D.by e) s) e
    -- a local entry is right wherever its place has that world, and leaves what zones share
    pub local_right : (p : ℕ) (s : State) (e : Entry) → D.is_local p (D.world p s) e ≡ true → D.right s e ≡ true
    pub local_common : (p : ℕ) (s : State) (e : Entry) → D.is_local p (D.world p s) e ≡ true → D.common (D.one s e) ≡ D.common s
    -- it is a turn of its place, and not an idle one
    pub local_by : (p : ℕ) (w : D.World) (e : Entry) → D.is_local p w e ≡ true → D.by e ≡ p
    pub local_turn : (p : ℕ) (w : D.World) (e : Entry) → D.is_local p w e ≡ true → (D.told e).session ≡ 0
    pub local_works : (p : ℕ) (w : D.World) (e : Entry) → D.is_local p w e ≡ true → (D.told e).said ≢ Idle
    -- nor is any turn where the daemon has something to do
    pub busy_works : (s : State) (e : Entry) → D.right s e ≡ true → (D.told e).session ≡ 0 → D.is_busy (D.world (D.by e) s) ≡ true → (D.told e).said ≢ Idle
