-- `listing::put_switches` meets its contract. Invariant: the lines of the first w wires stand there, and the length is the old one. Assumes nothing.
use Rattle.texts.proofs.PutsLaws.{Puts}
use Rattle.lines.specs.Listing.{switch_part}
use Rattle.lists.specs.Parts.{joined}
use lib.ListN.{length}
use mathlib.Core.Path.{◌≡◌}
use Prim.Native.Nat.{◌≤◌}
use Rattle.lines.proofs.listing.put_switches.Given as goal

abbrev pub invariant-loop-w : goal.invariant-loop-w
invariant-loop-w l = (l.w ≤ length l.sources) × (length l.out ≡ length l.initial.out) × Puts l.at (joined (switch_part l.sources) l.w) l.initial.out l.next l.out
