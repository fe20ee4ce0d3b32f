-- The enabled switches of a block in order of tile and group, and contention (document 01: fight).
use Rattle.std.specs.Prelude.{ℕ, ◌-◌, ◌*◌, ◌/◌, ◌%◌, ◌≤◌, ◌<◌, ◌≡◌, ◌≢◌, Bool, true, not, ◌&&◌, List, eqb, ltb}
use Rattle.ports.specs.declared.size.Block.{Block}
use Rattle.ports.specs.Block.{tiles, tile_port}
use Rattle.fabric.specs.Wire.{wire_of}
use Rattle.routing.specs.TileTables.{kind_of, table_for}
use Rattle.ports.specs.Lengths.{max_groups}
use Rattle.routing.specs.Table.{group_count, destination_of, source_at}
use Rattle.equations.specs.Tiles.{group_of}

-- Switch s of a block is that of group s % 512 of tile s / 512, so the order of numbers is that of tile and group.
abbrev pub tile_of : ℕ → ℕ
tile_of s = s / max_groups

abbrev pub group_in : ℕ → ℕ
group_in s = s % max_groups

abbrev pub switches : Block → ℕ
switches B = max_groups * tiles B

-- "A listed pattern is one enabled switch (the chain is none)": the table has the group, and its setting is not off
unfoldable pub enabled : Block → List ℕ → List ℕ → ℕ → Bool
enabled B t st s =
    ltb (group_in s) (group_count (kind_of B (tile_of s)) (table_for B t (tile_of s))) && not (eqb (group_of st (tile_of s) (group_in s)) 0)

-- the wire that it ends on, and the wire that it comes from
unfoldable pub target : Block → List ℕ → ℕ → ℕ
target B t s = wire_of B (tile_port B (tile_of s) (destination_of (kind_of B (tile_of s)) (table_for B t (tile_of s)) (group_in s)))

unfoldable pub origin : Block → List ℕ → List ℕ → ℕ → ℕ
origin B t st s =
    wire_of B (tile_port B (tile_of s)
    (source_at (kind_of B (tile_of s)) (table_for B t (tile_of s)) (group_in s) (group_of st (tile_of s) (group_in s) - 1)))

module _ (B : Block) (t st : List ℕ) where
  -- s is an enabled switch of the block and ends on wire w
  pub record Ends (s w : ℕ) : Type 0 where
    pub within : s < switches B
    pub on : enabled B t st s ≡ true
    pub onto : target B t s ≡ w

  -- no enabled switch ends on wire w
  abbrev pub NoSwitch : ℕ → Type 0
  NoSwitch w = (s : ℕ) → Ends s w → ⊥

  -- "a fight is refused exactly if two enabled switches end on one wire", also from one source
  abbrev pub Contention : ℕ → Type 0
  Contention w = (s : ℕ) × (r : ℕ) × Ends s w × Ends r w × (s ≢ r)

  -- no wire has a fight
  abbrev pub NoContention : Type 0
  NoContention = (w : ℕ) → Contention w → ⊥

  -- "5: fight: lowest wire"
  pub record LowestContention (w : ℕ) : Type 0 where
    pub here : Contention w
    pub least : (v : ℕ) → Contention v → w ≤ v
