-- `bits::pack` meets its contract. Invariant: the first i rows are packed (`Filled`). Assumes nothing.
use Prim.Native.Nat.{ℕ, ◌*◌}
use lib.ListN.{length}
use Rattle.lists.specs.Tables.{Filled}
use Rattle.ports.specs.Lengths.{columns}
use Rattle.words.specs.Packed.{number_from}
use Rattle.asc.specs.Content.{value_at}
use Rattle.asc.proofs.bits.pack.Given as goal

abbrev pub invariant-loop-i : goal.invariant-loop-i
invariant-loop-i l = Filled (λ (k : ℕ). number_from columns (value_at l.content) (k * columns)) 0 (length l.initial.bits) l.i l.bits
