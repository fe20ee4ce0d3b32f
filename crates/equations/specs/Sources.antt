-- For each wire of a block where its switch comes from, as a map over the ports; the rows by that map; and the lowest wire with two
-- switches. One pass over the switches in their order computes the map and that wire (`Sourced`).
use Rattle.std.specs.Prelude.{ℕ, zero, suc, ◌+◌, ◌-◌, ◌<◌, ◌≡◌, Bool, false, cond, ◌&&◌, ◌||◌, List, eqb, ltb, length, get_or}
use Rattle.lists.specs.Search.{first}
use Rattle.lists.specs.Tables.{tabulate}
use Rattle.ports.specs.declared.size.Block.{Block}
use Rattle.ports.specs.Lengths.{ports}
use Rattle.fabric.specs.Wire.{wire_of}
use Rattle.netlist.specs.declared.row.Row.{Row}
use Rattle.netlist.specs.Kinds.{copy_kind}
use Rattle.netlist.specs.Rows.{zero_row, rows_of}
use Rattle.equations.specs.Switches.{switches, origin}
use Rattle.equations.specs.Drives.{drive_of}
use Rattle.equations.specs.RowMeaning.{plain_row}
use Rattle.equations.specs.WireRows.{drive_row, ends_on, driver_in}

-- the row of port number w, from a map of sources: one more than the wire that a wire's switch comes from, 0 where it has none
unfoldable pub row_from : Block → List ℕ → List ℕ → ℕ → Row
row_from B st sources w =
    cond (eqb (wire_of B w) w)
    (cond (eqb (get_or sources w 0) 0) (drive_row B st w (drive_of B w)) (plain_row copy_kind w (get_or sources w 0 - 1)))
    zero_row

abbrev pub rows_from : Block → List ℕ → List ℕ → List ℕ
rows_from B st sources = rows_of (row_from B st sources) (ports B)

module _ (B : Block) (t st : List ℕ) where
  -- one more than the wire that the first of the m first switches on w comes from; 0 where none of them ends on w
  unfoldable pub source_in : ℕ → ℕ → ℕ
  source_in m w = cond (ltb (driver_in B t st m w) m) (origin B t st (driver_in B t st m w) + 1) 0

  unfoldable pub sources_of : List ℕ
  sources_of = tabulate (source_in (switches B)) 0 (ports B)

  -- two of the m first switches end on w
  unfoldable pub contended_in : ℕ → ℕ → Bool
  contended_in zero w = false
  contended_in (suc m) w = contended_in m w || (ends_on B t st w m && ltb (driver_in B t st m w) m)

  -- the lowest wire on which two switches end; the number of ports where there is none
  unfoldable pub contended_wire : ℕ
  contended_wire = first (contended_in (switches B)) 0 (ports B)

  -- the state of the pass after m switches: the map of sources, and the lowest wire on which two of them end
  pub record Sourced (m : ℕ) (sources : List ℕ) (lowest : ℕ) : Type 0 where
    pub long : length sources ≡ ports B
    pub found : (w : ℕ) → w < ports B → get_or sources w 0 ≡ source_in m w
    pub lowest_is : lowest ≡ first (contended_in m) 0 (ports B)
