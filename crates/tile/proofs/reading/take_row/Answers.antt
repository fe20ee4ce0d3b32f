-- `take_row` meets its contract. Invariant: the settings have gathered all that they had, and the set digits that are no longer left are taken
-- (`Passed`). Measure: what is left. Assumes nothing.
use mathlib.Core.Path.{refl, ◌∙◌, subst, sym}
use Prim.Native.Nat.{ℕ, ◌<◌}
use native.Mathlib.Omega.{arith}
use Rattle.lists.proofs.CaseLaws.{clash}
use Rattle.digits.proofs.LowestLaws.{lower_lt}
use Rattle.codec.proofs.BitLaws.{bit_of_row}
use Rattle.tile.proofs.TakingLaws.{learned_none, learned_trans, taken_kept}
use Rattle.tile.proofs.CellColumns.{column_taken}
use Rattle.tile.proofs.Passing.{passed_start, passed_turn, column_lt, past_undecodable}
use Rattle.tile.proofs.reading.take_row.Goals as goal

-- a set bit past the columns
pub returns-then-row-ge-PAST_COLUMNS : goal.returns-then-row-ge-PAST_COLUMNS
returns-then-row-ge-PAST_COLUMNS c = record { yes = λ z. clash z refl; no = λ z. past_undecodable c.args.table.now c.args.bits.now c.args.i c.requires.3 c.if-row-ge-PAST_COLUMNS.true }

pub loop-left-init : goal.loop-left-init
loop-left-init c = (
  learned_none c.requires.4,
  passed_start _ _ _ c.without_cell-left.ensures
      (λ k a b. column_taken c.args.table.now c.args.settings.now c.args.i c.requires.3 k a b),
)

pub take_bit-requires : goal.take_bit-requires
take_bit-requires c =
    let k = c.lowest_digit-k.ensures in
    let on = c.loop-left.invariant.1.set _ k.one in
    let inside = column_lt _ c.lowest_digit-k.result (omega (arith, c.if-row-ge-PAST_COLUMNS.false)) on in (
      c.requires.0,
      c.requires.1,
      c.requires.2,
      omega (arith, inside),
      bit_of_row c.args.bits.now c.args.i _ inside ∙ on,
      c.loop-left.invariant.0.gathered,
    )

pub loop-left-smaller : goal.loop-left-smaller
loop-left-smaller c =
    subst (λ (x : ℕ). x < c.loop-left.left) (sym c.without_digit-left.ensures) (lower_lt c.loop-left.left c.lowest_digit-k.result c.lowest_digit-k.ensures.one)

pub loop-left-preserved : goal.loop-left-preserved
loop-left-preserved c =
    let taken = c.take_bit.ensures.yes c.if-not-take_bit.false in (
      learned_trans c.loop-left.invariant.0 taken.0,
      passed_turn _ _ _ _ _ _ c.loop-left.invariant.1 c.without_digit-left.ensures (λ k t. taken_kept taken.0 t) taken.1,
    )
