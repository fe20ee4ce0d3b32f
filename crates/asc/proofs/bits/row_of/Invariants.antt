-- `bits::row_of` meets its contract. Invariant: the first six times i digits are a number (`six_turn`). Assumes nothing.
use Prim.Native.Nat.{◌*◌}
use mathlib.Core.Path.{◌≡◌}
use Rattle.words.specs.Packed.{number_from}
use Rattle.asc.specs.Content.{value_at}
use Rattle.asc.proofs.bits.row_of.Given as goal

abbrev pub invariant-loop-i : goal.invariant-loop-i
invariant-loop-i l = l.word ≡ number_from (6 * l.i) (value_at l.content) l.p
