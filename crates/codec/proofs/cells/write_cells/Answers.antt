-- `write_cells` meets its contract. Invariant: the first i cells are written. Assumes nothing.
use mathlib.Core.Path.{refl, ap, ◌∙◌}
use Prim.Native.Nat.{ℕ}
use borrow.Author.Rules.{rules}
use native.Mathlib.Omega.{arith}
use lib.ListN.{length}
use Rattle.lists.proofs.TableLaws.{zeros_length}
use Rattle.routing.specs.TileKind.{bits_per_cell}
use Rattle.routing.specs.LogicTile.{cell_position}
use Rattle.codec.specs.Bits.{set_bits}
use Rattle.codec.specs.Cells.{write_cells}
use Rattle.ports.specs.Lengths.{tile_numbers}
use Rattle.codec.proofs.CellLaws.{write_cells_turn, write_cells_clear}
use Rattle.codec.proofs.cells.write_cells.Goals as goal

pub loop-i-init : goal.loop-i-init
unfolding write_cells
loop-i-init c = (search rules, ap length c.requires ∙ zeros_length tile_numbers, search rules)

pub write_value-requires : goal.write_value-requires
write_value-requires c = (
  c.loop-i.invariant.1,
  omega arith,
  write_cells_clear c.args.bits.now c.args.cells c.loop-i.bits c.loop-i.i c.requires c.loop-i.invariant.2
      (omega arith),
)

pub loop-i-preserved : goal.loop-i-preserved
loop-i-preserved c = (
  c.loop-i.invariant.0,
  c.write_value.auto.bits ∙ c.loop-i.invariant.1,
  c.write_value.ensures
      ∙ ap (λ (v : ℕ). set_bits c.loop-i.bits (cell_position c.loop-i.i) v bits_per_cell) c.cell_number.ensures
      ∙ write_cells_turn c.args.cells c.loop-i.i _ refl c.args.bits.now c.loop-i.bits c.loop-i.invariant.2,
)
