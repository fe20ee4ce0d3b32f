-- `is_owned_fault` meets its contract: one way for each kind of owner, as the ownership map has it. Assumes nothing.
use mathlib.Core.Path.{sym, ap, ◌∙◌}
use Prim.Native.Nat.{ℕ}
use native.Mathlib.Omega.{arith}
use lib.Dec.{eqb}
use Rattle.codec.proofs.FaultLaws.{map_stray, map_carry, map_low, map_group, map_within}
use Rattle.codec.proofs.fault.is_owned_fault.Goals as goal

pub returns-then-code-eq0 : goal.returns-then-code-eq0
returns-then-code-eq0 c =
    ap (λ (x : ℕ). eqb x 1) c.read_bit.ensures
    ∙ sym (map_stray c.args.table.now c.args.bits.now c.args.p c.args.own.now c.requires.1 c.requires.3 (omega arith))

pub returns-then-code-eq-SET_FIELD : goal.returns-then-code-eq-SET_FIELD
returns-then-code-eq-SET_FIELD c =
    c.is_carry_pair.ensures
    ∙ sym (map_carry c.args.table.now c.args.bits.now c.args.p c.args.own.now c.requires.1 c.requires.3 (omega arith))

pub returns-then-code-lt-GROUP_CODES : goal.returns-then-code-lt-GROUP_CODES
returns-then-code-lt-GROUP_CODES c =
    sym (map_low c.args.table.now c.args.bits.now c.args.p c.args.own.now c.requires.1 c.requires.3
    (omega arith) (omega arith) (omega arith))

pub is_group_fault-requires : goal.is_group_fault-requires
is_group_fault-requires c = (
  c.requires.0,
  rw c.from-code.ensures (map_within c.args.table.now c.args.bits.now c.args.p c.args.own.now
      c.requires.1 c.requires.3 (omega arith) (omega arith)),
  c.requires.2,
)

pub returns-else-code-lt-GROUP_CODES : goal.returns-else-code-lt-GROUP_CODES
returns-else-code-lt-GROUP_CODES c =
    c.is_group_fault.ensures
    ∙ rw c.from-code.ensures (sym (map_group c.args.table.now c.args.bits.now c.args.p c.args.own.now c.requires.1 c.requires.3 (omega arith) (omega arith)))
