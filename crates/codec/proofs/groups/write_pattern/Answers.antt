-- `write_pattern` meets its contract: the first digit, then the others. Assumes nothing.
use mathlib.Core.Path.{refl, sym, ap, ◌∙◌, subst}
use Prim.Native.Nat.{ℕ, ◌<◌}
use native.Mathlib.Omega.{arith}
use Rattle.digits.specs.Digits.{digit}
use Rattle.routing.specs.Table.{width_of, position_at}
use Rattle.routing.specs.LogicTile.{logic_tile}
use Rattle.codec.specs.Bits.{bit_at, set_bits}
use Rattle.codec.specs.Held.{with_held}
use Rattle.codec.proofs.TileRunLaws.{group_position_lt}
use Rattle.codec.proofs.SetBitsLaws.{set_bits_turn, clear_more}
use Rattle.codec.proofs.FaultyLaws.{group_position_once}
use Rattle.codec.proofs.groups.write_pattern.Goals as goal

pub write_digit-next-requires : goal.write_digit-next-requires
write_digit-next-requires c =
    let some = (c.requires.0.0.groups c.args.g c.requires.0.1).some_positions in (
      subst (λ (x : ℕ). x < 864) (sym c.position-first.ensures)
          (group_position_lt c.args.table.now c.requires.0.0 c.args.g 0 c.requires.0.1 (omega (arith, some))),
      c.requires.0.2,
      c.requires.1,
      omega arith,
      ap (bit_at (with_held c.args.bits.now c.args.held)) c.position-first.ensures ∙ c.requires.2 0 (omega (arith, some)),
    )

pub write_others-requires : goal.write_others-requires
write_others-requires c =
    let table = c.args.table.now in
    let g = c.args.g in
    let v = c.args.pattern in
    let small : digit v 0 < 2 = omega arith in
    let some = (c.requires.0.0.groups g c.requires.0.1).some_positions in (
      (c.requires.0.0, c.requires.0.1, c.write_digit-next.auto.bits ∙ c.requires.0.2),
      c.write_digit-next.ensures.row,
      clear_more (position_at logic_tile table g) 0 (width_of logic_tile table g) _ (digit v 0) (with_held c.args.bits.now c.args.held) _
          (λ j a b. c.requires.2 j b) small c.position-first.ensures c.write_digit-next.ensures.bits
          (λ j a b e. omega (arith, group_position_once table c.requires.0.0 g j 0 c.requires.0.1 b (omega (arith, some)) e)),
    )

pub returns : goal.returns
unfolding set_bits
returns c =
    let meant = with_held c.args.bits.now c.args.held in
    record {
      row = c.write_others.ensures.row;
      bits = c.write_others.ensures.bits meant
          (c.write_digit-next.ensures.bits
          ∙ set_bits_turn meant (position_at logic_tile c.args.table.now c.args.g) c.args.pattern 0 _ meant refl c.position-first.ensures);
    }
