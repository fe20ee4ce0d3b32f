-- The wires of a card, computed as the code marks them: a number for each port, not 0 where the wire of that number is marked. proofs/LeavingLaws.antt and
-- proofs/FeedingLaws.antt show that the marks are those of LeavingWire and FeedingWire.
use Rattle.std.specs.Prelude.{ℕ, zero, suc, ◌+◌, ◌*◌, ◌/◌, ◌%◌, ◌<◌, Bool, cond, List, eqb, length, set}
use Rattle.lists.specs.Tables.{zeros}
use Rattle.ports.specs.declared.size.Block.{Block}
use Rattle.ports.specs.Block.{tiles, port_of}
use Rattle.ports.specs.Lengths.{ports}
use Rattle.ports.specs.PortIndex.{clk}
use Rattle.fabric.specs.Wire.{wire_of}
use Rattle.fabric.specs.Count.{wires}
use Rattle.netlist.specs.declared.row.Row.{Row}
use Rattle.netlist.specs.Kinds.{lent_kind}
use Rattle.netlist.specs.Marks.{listed}
use Rattle.netlist.specs.Rows.{Inside, row_at, arity_of, operand_of}
use Rattle.equations.specs.Sources.{sources_of, row_from}
use Rattle.equations.specs.Settling.{block_list}
use Rattle.card.specs.Cells.{flop_cell}

-- the wires of the k ports of tile T from `from` on are marked
unfoldable pub mark_ports : Block → (T from : ℕ) → ℕ → List ℕ → List ℕ
mark_ports B T from zero m = m
mark_ports B T from (suc k) m = set (mark_ports B T from k m) (wire_of B (port_of T (from + k))) 1

-- ---- the ports that go out, side by side

-- in the west column sp4_h_l, sp4_v_b (which is sp4_r_v_b of the tile to the west) and sp12_h_l
unfoldable pub west_marks : Block → ℕ → List ℕ → List ℕ
west_marks B T m = cond (eqb (T % B.w) 0) (mark_ports B T 240 24 (mark_ports B T 144 48 (mark_ports B T 0 48 m))) m

-- in the east column sp4_h_r, sp4_r_v_b and sp12_h_r
unfoldable pub east_marks : Block → ℕ → List ℕ → List ℕ
east_marks B T m = cond (eqb (T % B.w + 1) B.w) (mark_ports B T 264 24 (mark_ports B T 192 48 (mark_ports B T 48 48 m))) m

-- in the bottom row sp4_v_b and sp12_v_b
unfoldable pub south_marks : Block → ℕ → List ℕ → List ℕ
south_marks B T m = cond (eqb (T / B.w) 0) (mark_ports B T 312 24 (mark_ports B T 144 48 m)) m

-- in the top row sp4_v_t and sp12_v_t
unfoldable pub north_marks : Block → ℕ → List ℕ → List ℕ
north_marks B T m = cond (eqb (T / B.w + 1) B.h) (mark_ports B T 288 24 (mark_ports B T 96 48 m)) m

abbrev pub tile_marks : Block → ℕ → List ℕ → List ℕ
tile_marks B T m = north_marks B T (south_marks B T (east_marks B T (west_marks B T m)))

-- those of the first n tiles
unfoldable pub exit_marks : Block → ℕ → List ℕ → List ℕ
exit_marks B zero m = m
exit_marks B (suc n) m = tile_marks B n (exit_marks B n m)

-- ---- marks that pass a test stay

-- that of w
unfoldable pub kept_at : (ℕ → Bool) → ℕ → List ℕ → List ℕ
kept_at p w m = cond (p w) m (set m w 0)

-- those of the numbers below n
unfoldable pub kept_to : (ℕ → Bool) → ℕ → List ℕ → List ℕ
kept_to p zero m = m
kept_to p (suc n) m = kept_at p n (kept_to p n m)

abbrev pub kept : (ℕ → Bool) → List ℕ → List ℕ
kept p m = kept_to p (length m) m

-- by a map of sources: where a switch ends
abbrev pub driven_marks : (sources : List ℕ) → List ℕ → List ℕ
driven_marks sources m = kept (listed sources) m

-- the leaving wires
unfoldable pub leaving_marks : Block → (t st : List ℕ) → List ℕ
leaving_marks B t st = driven_marks (sources_of B t st) (exit_marks B (tiles B) (zeros (ports B)))

-- ---- what leaving wires and flip-flops depend on

-- the in, clk, cen and s_r wires of cell c, if it is a flip-flop: in_0 to in_3 stand one after another, and so do clk, cen and s_r
unfoldable pub flop_mark : Block → (st : List ℕ) → ℕ → List ℕ → List ℕ
flop_mark B st c m = cond (flop_cell st c) (mark_ports B (c / 8) clk 3 (mark_ports B (c / 8) (372 + 4 * (c % 8)) 4 m)) m

-- of the first n cells
unfoldable pub flop_marks : Block → (st : List ℕ) → ℕ → List ℕ → List ℕ
flop_marks B st zero m = m
flop_marks B st (suc n) m = flop_mark B st n (flop_marks B st n m)

-- the first n operands of a row
unfoldable pub read_marks : Row → ℕ → List ℕ → List ℕ
read_marks row zero m = m
read_marks row (suc n) m = set (read_marks row n m) (operand_of row n) 1

-- what a row reads, if its wire is marked
unfoldable pub touched : Row → List ℕ → List ℕ
touched row m = cond (listed m row.wire) (read_marks row (arity_of row) m) m

-- the n first rows of a list, from the last of them down
unfoldable pub reach : List ℕ → ℕ → List ℕ → List ℕ
reach list zero m = m
reach list (suc n) m = reach list n (touched (row_at list n) m)

-- what a row names is among n numbers
abbrev pub ReadsWithin : ℕ → Row → Type 0
ReadsWithin n row = (j : ℕ) → j < arity_of row → operand_of row j < n

pub record Touchable (n : ℕ) (row : Row) : Type 0 where
  pub wire_there : row.wire < n
  pub reads_there : ReadsWithin n row

-- and so is what each of the first rows of a list names
abbrev pub RowsTouchable : List ℕ → (count n : ℕ) → Type 0
RowsTouchable list count n = (i : ℕ) → i < count → Inside list i × Touchable n (row_at list i)

-- the row of w is lent
unfoldable pub open_from : Block → (st sources : List ℕ) → ℕ → Bool
open_from B st sources w = eqb (row_from B st sources w).kind lent_kind

abbrev pub open_marks : Block → (st sources : List ℕ) → List ℕ → List ℕ
open_marks B st sources m = kept (open_from B st sources) m

-- the feeding wires
unfoldable pub feeding_marks : Block → (t st : List ℕ) → List ℕ
feeding_marks B t st =
    open_marks B st (sources_of B t st) (reach (block_list B t st) (wires B) (flop_marks B st (8 * tiles B) (leaving_marks B t st)))
