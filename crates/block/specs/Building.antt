-- What `build` answers and writes ("building [checks] 1 to 8 [..] in these orders").
use Rattle.refusal.specs.declared.Refusal.{Refusal}
use Rattle.std.specs.Prelude.{ℕ, ◌*◌, Bool, List, leb, Result, Ok, Err}
use Rattle.refusal.specs.Grounds.{unless}
use Rattle.refusal.specs.declared.Refusal.TheVariants.{WrongSize, WrongLength, Table, Undecodable, Contention, DisabledCarry, Loop, CellClock}
use Rattle.ports.specs.declared.size.Block.{Block}
use Rattle.ports.specs.Block.{tiles, sized}
use Rattle.ports.specs.Lengths.{ports}
use Rattle.fabric.specs.Count.{wires}
use Rattle.netlist.specs.Rows.{graph_of}
use Rattle.loops.specs.Loops.{loop_wire}
use Rattle.routing.specs.LogicTile.{logic_tile}
use Rattle.routing.specs.TableCheck.{faulty_part, table_ok}
use Rattle.words.specs.Forms.{TileBits}
use Rattle.config.specs.Blocks.{fault_place, decoded}
use Rattle.equations.specs.WireRows.{wire_rows}
use Rattle.equations.specs.Sources.{contended_wire, sources_of}
use Rattle.drivers.specs.CarryReads.{carry_read_wire}
use Rattle.drivers.specs.Clocks.{clocked_tile}

-- a check whose search ran over n places and stopped at `place`: it passes where there is no such place
abbrev pub none : ℕ → ℕ → Bool
none n place = leb n place

-- grounds 5 to 8, of settings that were read; "the row count, which is the number of wires"
unfoldable pub list_answer : Block → List ℕ → List ℕ → Result ℕ Refusal
list_answer B t st =
    unless (none (ports B) (contended_wire B t st)) (Err (Contention (contended_wire B t st)))
    (unless (none (ports B) (carry_read_wire B t st)) (Err (DisabledCarry (carry_read_wire B t st)))
    (unless (none (ports B) (loop_wire (graph_of (wire_rows B t st)) (ports B))) (Err (Loop (loop_wire (graph_of (wire_rows B t st)) (ports B))))
    (unless (none (tiles B) (clocked_tile B st (sources_of B t st))) (Err (CellClock (clocked_tile B st (sources_of B t st))))
    (Ok (wires B)))))

-- grounds 3 to 8
unfoldable pub bits_answer : Block → List ℕ → (ℕ → TileBits) → Result ℕ Refusal
bits_answer B t tile =
    unless (table_ok logic_tile t) (Err (Table (faulty_part logic_tile t)))
    (unless (none (logic_tile.positions * tiles B) (fault_place t tile (tiles B))) (Err (Undecodable (fault_place t tile (tiles B))))
    (list_answer B t (decoded t tile (tiles B))))

-- grounds 1 to 8; `lengths` is whether every lent length is the exact one
unfoldable pub build_answer : Block → List ℕ → (ℕ → TileBits) → Bool → Result ℕ Refusal
build_answer B t tile lengths = unless (sized B) (Err WrongSize) (unless lengths (Err WrongLength) (bits_answer B t tile))
