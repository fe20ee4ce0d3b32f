-- Which pins can move which lamp (document 02, W13), over the answers of `build`, what the equations allow, what running a list gives and the values
-- that a step writes. Proved, with no other hypothesis, by `influence` (proofs/InfluenceLaws.antt).
use Rattle.std.specs.Prelude.{ℕ, ◌<◌, ◌≡◌, ◌≢◌, ◌↔◌, List, get_or, Ok}
use Rattle.ports.specs.declared.size.Block.{Block}
use Rattle.ports.specs.Block.{size_of, block}
use Rattle.ports.specs.Lengths.{ports}
use Rattle.fabric.specs.Joins.{Linked}
use Rattle.fabric.specs.Wire.{wire_of}
use Rattle.netlist.specs.declared.row.Row.{Row}
use Rattle.equations.specs.Equations.{OpenWire, Meets, Depends}
use Rattle.equations.specs.RowMeaning.{RowSays}
use Rattle.block.specs.declared.lengths.RoomLent.{RoomLent}
use Rattle.stepper.specs.Settling.{settled_by, port_value}
use Rattle.contention.specs.Entry.{settings_read}
use Rattle.theorem.specs.Calls.{built, list_built, values_stepped}

-- "one state and two sets of lent values"
module _ (B : Block) (t st lent other : List ℕ) where
  -- "a lent wire where the two differ": an open wire whose value is not the same in both
  pub record DifferingPin (d : ℕ) : Type 0 where
    pub open_wire : OpenWire B t st d
    pub differs : get_or lent d 0 ≢ get_or other d 0

  -- "each wire that is no lent wire where the two differ, and depends at any distance on none"
  pub record OutOfReach (w : ℕ) : Type 0 where
    pub itself : DifferingPin w → ⊥
    pub beyond : (d : ℕ) → Depends B t st w d → DifferingPin d → ⊥

-- "of one size and one set of joins": of two blocks of one size, in which the joins link the same ports. What else a block has may differ
pub record SameJoins (B C : Block) : Type 0 where
  pub size_same : size_of B ≡ size_of C
  pub linked_same : (p q : ℕ) → Linked B p q ↔ Linked C p q

-- "two accepted settings", each with its routing table
module _ (B C : Block) (t st u su : List ℕ) where
  -- "both give the same equation to a wire": one row, with kind, operands and table, is what a sentence of document 01 gives it under either. So a copy
  -- is the same if it comes from the same wire, a lookup if table and in wires are the same, a flip-flop if the cell is.
  pub record SameEquation (w : ℕ) : Type 0 where
    pub row : Row
    pub first : RowSays B t st w row
    pub second : RowSays C u su w row

  -- "to a wire and to all it depends on at any distance"
  pub record SameEquations (w : ℕ) : Type 0 where
    pub itself : SameEquation w
    pub beyond : (d : ℕ) → Depends B t st w d → SameEquation d

-- port p, and so its wire, has the same value under settings st of B with lent values `lent`, whose list is `list`, and under su of C with `other`, whose
-- list is `second`: in whatever values meet the equations, in what running the lists gives, and in what a yes of `step` writes where these are lent
-- before
pub record SameValue (B C : Block) (t st list u su second state lent other : List ℕ) (p : ℕ) : Type 0 where
  pub allowed : (x y : List ℕ) → Meets B t st state lent x → Meets C u su state other y → port_value B x p ≡ port_value C y p
  pub run : port_value B (settled_by B list state lent) p ≡ port_value C (settled_by C second state other) p
  pub written : get_or (values_stepped B list state lent) p 0 ≡ get_or (values_stepped C second state other) p 0

pub record Influence : Type 0 where
  -- "For an accepted block, one state and two sets of lent values of 0 and 1: each wire that is no lent wire where the two differ, and depends at any
  -- distance on none, has the same settled value." It holds of lent numbers above 1 too.
  pub pins : (B : Block) (table bits settings : List ℕ) (room : RoomLent) (rows : ℕ) → built B table bits settings room ≡ Ok rows
      → (state lent other : List ℕ) (p : ℕ) → p < ports B → OutOfReach B table (settings_read B table bits) lent other (wire_of B p)
      → SameValue B B table (settings_read B table bits) (list_built B table bits) table (settings_read B table bits) (list_built B table bits) state lent other p
  -- "Take two accepted settings of one size and one set of joins, with one state and one set of lent values: if both give the same equation to a wire and
  -- to all it depends on at any distance, its value is the same under both."
  pub settings : (B : Block) (table bits room-settings : List ℕ) (room : RoomLent) (rows : ℕ) → built B table bits room-settings room ≡ Ok rows
      → (C : Block) (table' bits' room-settings' : List ℕ) (room' : RoomLent) (rows' : ℕ) → built C table' bits' room-settings' room' ≡ Ok rows'
      → SameJoins B C → (state lent : List ℕ) (p : ℕ) → p < ports B
      → SameEquations B C table (settings_read B table bits) table' (settings_read C table' bits') (wire_of B p)
      → SameValue B C table (settings_read B table bits) (list_built B table bits) table' (settings_read C table' bits') (list_built C table' bits') state lent lent p
  -- .. and "all it depends on" is the same under both
  pub same_reach : (B : Block) (table bits room-settings : List ℕ) (room : RoomLent) (rows : ℕ) → built B table bits room-settings room ≡ Ok rows
      → (C : Block) (table' bits' room-settings' : List ℕ) (room' : RoomLent) (rows' : ℕ) → built C table' bits' room-settings' room' ≡ Ok rows'
      → SameJoins B C → (p : ℕ) → p < ports B → SameEquations B C table (settings_read B table bits) table' (settings_read C table' bits') (wire_of B p)
      → (d : ℕ) → Depends B table (settings_read B table bits) (wire_of B p) d ↔ Depends C table' (settings_read C table' bits') (wire_of B p) d
  -- one block has one set of joins, and so have two of one row whose bytes for the east column differ: W2 joins that column's names of two rows
  pub one_block : (B : Block) → SameJoins B B
  pub one_row : (W east east' : ℕ) → SameJoins (block W 1 east) (block W 1 east')
