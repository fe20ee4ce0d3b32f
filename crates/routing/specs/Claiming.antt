-- Claiming the positions of a part, one after another, in a map of owners: what the functions of the check take and leave.
use Rattle.std.specs.Prelude.{ℕ, ◌+◌, ◌≤◌, ◌<◌, ◌≡◌, true, List, length, get_or}
use Rattle.routing.specs.TileKind.{TileKind}
use Rattle.routing.specs.Slots.{Owned, slot_count, slot_at, slot_used, slots_of}

module _ (K : TileKind) (table : List ℕ) where
  -- `own` has the owners among the first m slots of the table
  abbrev pub TableOwned : ℕ → List ℕ → Type 0
  TableOwned m own = Owned K.positions (slots_of K table) m own

  -- the n numbers that the table has from `start` on are the positions of the slots from `slot` on, all of them used
  pub record SlotRun (start n slot : ℕ) : Type 0 where
    pub in_table : start + n ≤ length table
    pub in_slots : slot + n ≤ slot_count K
    pub run_used : (k : ℕ) → k < n → slot_used K table (slot + k) ≡ true
    pub run_at : (k : ℕ) → k < n → slot_at K table (slot + k) ≡ get_or table (start + k) 0
