-- `listing::put_cells` meets its contract. Invariant: the lines of the first c cells stand there, and the length is the old one. Assumes nothing.
use Rattle.texts.proofs.PutsLaws.{Puts}
use Rattle.lines.specs.Listing.{cell_part}
use Rattle.lists.specs.Parts.{joined}
use lib.ListN.{length}
use mathlib.Core.Path.{◌≡◌}
use Prim.Native.Nat.{◌*◌, ◌≤◌}
use Rattle.lines.proofs.listing.put_cells.Given as goal

abbrev pub invariant-loop-c : goal.invariant-loop-c
invariant-loop-c l = (l.c ≤ 8 * l.n) × (length l.out ≡ length l.initial.out) × Puts l.at (joined (cell_part l.st) l.c) l.initial.out l.next l.out
