-- `write_others` meets its contract. Invariant: the digits before the k-th are written, and the positions from it on are clear. Assumes nothing.
use mathlib.Core.Path.{sym, ap, ◌∙◌, subst}
use Prim.Native.Nat.{ℕ, ◌<◌}
use native.Mathlib.Omega.{arith}
use Rattle.digits.specs.Digits.{digit}
use Rattle.routing.specs.Table.{width_of, position_at}
use Rattle.routing.specs.LogicTile.{logic_tile}
use Rattle.codec.specs.Bits.{bit_at}
use Rattle.codec.specs.Held.{with_held}
use Rattle.codec.proofs.TileRunLaws.{group_position_lt}
use Rattle.codec.proofs.SetBitsLaws.{digits_more, clear_more}
use Rattle.codec.proofs.FaultyLaws.{group_position_once}
use Rattle.codec.proofs.groups.write_others.Goals as goal

pub write_digit-next-requires : goal.write_digit-next-requires
write_digit-next-requires c =
    let few = (c.requires.0.0.groups c.args.g c.requires.0.1).few_positions in (
      subst (λ (x : ℕ). x < 864) (sym c.position-p.ensures)
          (group_position_lt c.args.table.now c.requires.0.0 c.args.g c.loop-k.k c.requires.0.1
          (omega (arith, c.width-n.ensures))),
      c.loop-k.invariant.0,
      c.loop-k.invariant.1,
      omega (arith, c.width-n.ensures, few),
      ap (bit_at (with_held c.loop-k.bits c.loop-k.next)) c.position-p.ensures
          ∙ c.loop-k.invariant.2 c.loop-k.k (omega arith) (omega (arith, c.width-n.ensures)),
    )

pub loop-k-preserved : goal.loop-k-preserved
loop-k-preserved c =
    let table = c.args.table.now in
    let g = c.args.g in
    let k = c.loop-k.k in
    let now = with_held c.loop-k.bits c.loop-k.next in
    let v = c.args.pattern in
    let small : digit v k < 2 = omega arith in
    let inside : k < width_of logic_tile table g = omega (arith, c.width-n.ensures) in (
      c.write_digit-next.auto.bits ∙ c.loop-k.invariant.0,
      c.write_digit-next.ensures.row,
      clear_more (position_at logic_tile table g) k (width_of logic_tile table g) _ (digit v k) now _ c.loop-k.invariant.2 small c.position-p.ensures
          c.write_digit-next.ensures.bits
          (λ j a b e. omega (arith, group_position_once table c.requires.0.0 g j k c.requires.0.1 b inside e)),
      digits_more (position_at logic_tile table g) v 1 k _ _ now _ c.loop-k.invariant.3 c.position-p.ensures c.write_digit-next.ensures.bits,
    )
