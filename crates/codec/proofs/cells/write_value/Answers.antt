-- `write_value` meets its contract: with both rows put back, all bits are written (`rows_all`). Assumes nothing.
use Rattle.codec.proofs.RowsLaws.{rows_all}
use Rattle.codec.proofs.SetBitsLaws.{set_bits_clear}
use Rattle.codec.specs.Bits.{set_bits}
use Rattle.routing.specs.LogicTile.{cell_position}
use Rattle.routing.specs.TileKind.{bits_per_cell}
use lib.ListN.{get_or, set}
use native.Mathlib.Omega.{arith}
use Prim.Native.Nat.{ℕ, ◌+◌, ◌*◌, ◌%◌, ◌^◌, ◌<◌}
use mathlib.Core.Path.{sym, ap, ap₂, ◌∙◌, subst}
use Rattle.codec.proofs.cells.write_value.Goals as goal

pub returns-then-value-eq0 : goal.returns-then-value-eq0
returns-then-value-eq0 c =
    sym (ap (λ (v : ℕ). set_bits c.args.bits.now (cell_position c.args.i) v bits_per_cell) c.if-value-eq0.true
    ∙ set_bits_clear c.args.bits.now (cell_position c.args.i) bits_per_cell c.requires.2)

pub overflow_add-bits : goal.overflow_add-bits
overflow_add-bits c =
    let R = rows_all c.args.bits.now c.args.i c.args.value c.requires.0 c.requires.1 c.requires.2
    (omega arith) (omega arith) in
    record { fits = subst (λ (x : ℕ). get_or c.args.bits.now (2 * c.args.i) 0 + (x * 2 ^ 36) % 2 ^ 64 < 2 ^ 64) (sym c.low_ten.ensures) R.first_fits }

pub overflow_add-bits-2 : goal.overflow_add-bits-2
overflow_add-bits-2 c =
    let R = rows_all c.args.bits.now c.args.i c.args.value c.requires.0 c.requires.1 c.requires.2
    (omega arith) (omega arith) in
    record { fits = subst (λ (x : ℕ). get_or c.args.bits.now (2 * c.args.i + 1) 0 + (x * 2 ^ 36) % 2 ^ 64 < 2 ^ 64) (sym c.high_ten.ensures) R.second_fits }

pub returns : goal.returns
returns c =
    let R = rows_all c.args.bits.now c.args.i c.args.value c.requires.0 c.requires.1 c.requires.2
    (omega arith) (omega arith) in
    ap₂ (λ (x y : ℕ). set (set c.args.bits.now (2 * c.args.i) (get_or c.args.bits.now (2 * c.args.i) 0 + (x * 2 ^ 36) % 2 ^ 64))
    (2 * c.args.i + 1) (get_or c.args.bits.now (2 * c.args.i + 1) 0 + (y * 2 ^ 36) % 2 ^ 64))
    c.low_ten.ensures c.high_ten.ensures
    ∙ R.is
