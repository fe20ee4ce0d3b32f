-- The row of each wire, computed. `row_says` (proofs/RowReasons.antt) shows that it is the row that specs/RowMeaning.antt has; proofs/EqualLaws.antt that
-- values solve the rows exactly if they meet the equations.
use Rattle.std.specs.Prelude.{ℕ, ◌+◌, ◌*◌, Bool, cond, ◌&&◌, List, eqb, ltb}
use Rattle.lists.specs.Search.{first}
use Rattle.ports.specs.declared.size.Block.{Block}
use Rattle.ports.specs.Lengths.{ports}
use Rattle.ports.specs.Block.{tile_port}
use Rattle.ports.specs.PortIndex.{carry_in}
use Rattle.fabric.specs.Wire.{wire_of}
use Rattle.netlist.specs.declared.row.Row.{Row}
use Rattle.netlist.specs.Kinds.{lent_kind, zero_kind, one_kind, flip_flop_kind, copy_kind}
use Rattle.netlist.specs.Rows.{zero_row, rows_of}
use Rattle.equations.specs.declared.drives.Drive.{Drive}
use Rattle.equations.specs.declared.drives.Drive.TheVariants.{Nothing, Low, High, CellOut, CellLout, CellCout, CarryMux}
use Rattle.equations.specs.Tiles.{carry_on, flop_on, carry_set, chained}
use Rattle.equations.specs.Switches.{switches, enabled, target, origin}
use Rattle.equations.specs.RowMeaning.{plain_row, lookup_row, majority_row}
use Rattle.equations.specs.Drives.{drive_of}

-- the row of wire w where no switch ends on it; "4 flip-flop (operand 1 is 8t + i)"
unfoldable pub drive_row : Block → List ℕ → ℕ → Drive → Row
drive_row B st w Nothing = plain_row lent_kind w 0
drive_row B st w Low = plain_row zero_kind w 0
drive_row B st w High = plain_row one_kind w 0
drive_row B st w (CellOut T i) = cond (flop_on st T i) (plain_row flip_flop_kind w (8 * T + i)) (lookup_row B st w T i)
drive_row B st w (CellLout T i) = lookup_row B st w T i
drive_row B st w (CellCout T i) = cond (carry_on st T i) (majority_row B w T i) (plain_row zero_kind w 0)
drive_row B st w (CarryMux T) =
    cond (carry_set st T) (plain_row one_kind w 0) (cond (chained st T) (plain_row copy_kind w (wire_of B (tile_port B T carry_in))) (plain_row zero_kind w 0))

module _ (B : Block) (t st : List ℕ) where
  -- switch s is enabled and ends on w
  unfoldable pub ends_on : ℕ → ℕ → Bool
  ends_on w s = enabled B t st s && eqb (target B t s) w

  -- the first of the m first switches that does; m where none does
  abbrev pub driver_in : ℕ → ℕ → ℕ
  driver_in m w = first (ends_on w) 0 m

  abbrev pub driver : ℕ → ℕ
  driver w = driver_in (switches B) w

  -- the row of port number w: that of the wire w, or a row of zeros where w is no wire's number
  unfoldable pub row_of : ℕ → Row
  row_of w =
      cond (eqb (wire_of B w) w)
      (cond (ltb (driver w) (switches B)) (plain_row copy_kind w (origin B t st (driver w))) (drive_row B st w (drive_of B w)))
      zero_row

  -- the rows of a block by wire
  unfoldable pub wire_rows : List ℕ
  wire_rows = rows_of row_of (ports B)
