-- `read_pattern` meets its contract. Invariant: the pattern so far has the first k positions as its digits. Assumes nothing.
use mathlib.Core.Path.{ap, ◌∙◌}
use native.Mathlib.Omega.{arith}
use borrow.Author.Rules.{rules}
use Rattle.digits.specs.Digits.{from_digits}
use Rattle.routing.specs.LogicTile.{logic_tile}
use Rattle.codec.specs.Groups.{group_bit}
use Rattle.codec.specs.Bits.{bit_at}
use Rattle.codec.proofs.SetBitsLaws.{digits_turn, digits_fit}
use Rattle.codec.proofs.BitLaws.{bit_lt}
use Rattle.codec.proofs.groups.read_pattern.Goals as goal

pub loop-k-init : goal.loop-k-init
unfolding from_digits
loop-k-init c = search rules

pub overflow_add-pattern : goal.overflow_add-pattern
overflow_add-pattern c =
    record {
      fits = digits_fit 16 (group_bit logic_tile c.args.table.now (bit_at c.args.bits.now) c.args.g)
          (λ k. bit_lt c.args.bits.now _) _ c.loop-k.k _ c.loop-k.invariant
          (c.from.ensures ∙ c.read_bit.ensures ∙ ap (bit_at c.args.bits.now) c.position-p.ensures)
          (omega (arith, c.width-n.ensures, (c.requires.0.groups c.args.g c.requires.1).few_positions));
    }

pub loop-k-preserved : goal.loop-k-preserved
loop-k-preserved c =
    digits_turn 16 (group_bit logic_tile c.args.table.now (bit_at c.args.bits.now) c.args.g)
    (λ k. bit_lt c.args.bits.now _) _ c.loop-k.k _ c.loop-k.invariant
    (c.from.ensures ∙ c.read_bit.ensures ∙ ap (bit_at c.args.bits.now) c.position-p.ensures)
    (omega (arith, c.width-n.ensures, (c.requires.0.groups c.args.g c.requires.1).few_positions))
