-- "Each accepted block is turned into a list of rows, one for each wire, in document 01's order."
use Rattle.std.specs.Prelude.{ℕ, ◌<◌, ◌≤◌, ◌≡◌, ◌⊎◌, List}
use Rattle.ports.specs.declared.size.Block.{Block}
use Rattle.ports.specs.Lengths.{ports}
use Rattle.fabric.specs.Wire.{wire_of}
use Rattle.fabric.specs.Count.{wires}
use Rattle.netlist.specs.Rows.{row_at, zero_row}
use Rattle.netlist.specs.Running.{Earlier}
use Rattle.equations.specs.Equations.{ReadsWire}
use Rattle.equations.specs.RowMeaning.{RowSays}

-- `list` has so many rows, those of the block's wires in order
pub record Listing (B : Block) (t st list : List ℕ) (rows : ℕ) : Type 0 where
  -- "The answer has the row count, which is the number of wires."
  pub count : rows ≡ wires B
  -- every wire has a row, and one only
  pub every : (p : ℕ) → p < ports B → (i : ℕ) × (i < rows) × ((row_at list i).wire ≡ wire_of B p)
  pub once : (i j : ℕ) → i < rows → j < rows → (row_at list i).wire ≡ (row_at list j).wire → i ≡ j
  -- "A row is seven 16-bit numbers: kind, wire, four operands, table": each row is the one that its wire's sentence gives
  pub says : (i : ℕ) → i < rows → RowSays B t st (row_at list i).wire (row_at list i)
  -- "The next row is always that of the lowest-numbered wire not yet listed whose dependencies all are": its own are, and a lower wire is listed
  -- or waits for one that is not
  pub reads_earlier : (i : ℕ) → i < rows → (d : ℕ) → ReadsWire B t st (row_at list i).wire d → Earlier list i d
  pub lowest : (i : ℕ) → i < rows → (v : ℕ) → v < (row_at list i).wire → wire_of B v ≡ v
      → Earlier list i v ⊎ ((d : ℕ) × ReadsWire B t st v d × (Earlier list i d → ⊥))
  -- "Unused rows are zeros."
  pub zero_past : (i : ℕ) → rows ≤ i → i < ports B → row_at list i ≡ zero_row
