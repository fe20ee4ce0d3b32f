-- Ground 6, computed from the rows: a disabled cout is read exactly if some row has it as an operand (proofs/CarryReadLaws.antt).
use Rattle.std.specs.Prelude.{ℕ, zero, suc, ◌<◌, Bool, false, not, cond, ◌&&◌, List, eqb, ltb}
use Rattle.lists.specs.Search.{first, some_below}
use Rattle.ports.specs.declared.size.Block.{Block}
use Rattle.ports.specs.Lengths.{ports}
use Rattle.netlist.specs.declared.row.Row.{Row}
use Rattle.netlist.specs.Rows.{operand_of, arity_of}
use Rattle.equations.specs.declared.drives.Drive.{Drive}
use Rattle.equations.specs.declared.drives.Drive.TheVariants.{Nothing, Low, High, CellOut, CellLout, CellCout, CarryMux}
use Rattle.equations.specs.Tiles.{carry_on}
use Rattle.equations.specs.Drives.{drive_of}
use Rattle.equations.specs.WireRows.{row_of}

-- what drives the wire is the cout of a cell whose carry is disabled
abbrev pub is_disabled_carry : List ℕ → Drive → Bool
is_disabled_carry st Nothing = false
is_disabled_carry st Low = false
is_disabled_carry st High = false
is_disabled_carry st (CellOut T i) = false
is_disabled_carry st (CellLout T i) = false
is_disabled_carry st (CellCout T i) = not (carry_on st T i)
is_disabled_carry st (CarryMux T) = false

-- one of the m first operands of a row is w
unfoldable pub row_reads_in : Row → ℕ → ℕ → Bool
row_reads_in row m w = some_below (λ j. eqb (operand_of row j) w) m

abbrev pub row_reads : Row → ℕ → Bool
row_reads row w = row_reads_in row (arity_of row) w

module _ (B : Block) (t st : List ℕ) where
  -- one of the m first rows reads w
  unfoldable pub read_in : ℕ → ℕ → Bool
  read_in m w = some_below (λ u. row_reads (row_of B t st u) w) m

  unfoldable pub carry_read_in : ℕ → ℕ → Bool
  carry_read_in m w = is_disabled_carry st (drive_of B w) && read_in m w

  -- the lowest disabled cout that is read; the number of ports where there is none
  unfoldable pub carry_read_wire : ℕ
  carry_read_wire = first (carry_read_in (ports B)) 0 (ports B)

-- what a row reads are ports of the block
abbrev pub OperandsWithin : Block → Row → Type 0
OperandsWithin B row = (j : ℕ) → j < arity_of row → operand_of row j < ports B

-- ---- the pass over the rows: the lowest so far, and one operand or the m first operands of a row more
module _ (B : Block) (st : List ℕ) where
  unfoldable pub lower_carry : ℕ → ℕ → ℕ
  lower_carry low w = cond (is_disabled_carry st (drive_of B w) && ltb w low) w low

  unfoldable pub lower_carries : Row → ℕ → ℕ → ℕ
  lower_carries row low zero = low
  lower_carries row low (suc m) = lower_carry (lower_carries row low m) (operand_of row m)
