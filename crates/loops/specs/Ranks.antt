-- Ranks: a number for each wire that is not listed. They give ground 7's place, "lowest wire depending on itself", without a search from
-- each wire: if no such wire reads one of a higher rank, then one that reads only lower ranks does not depend on itself
-- (proofs/RankLaws.antt). A listed wire reads only listed ones, so no chain of readings leads back from it. How ranks are found is left
-- open.
use Rattle.std.specs.Prelude.{List, ℕ, ◌+◌, ◌*◌, ◌<◌, ◌≤◌, length, get_or}
use Rattle.netlist.specs.Graph.{Graph, Reads}
use Rattle.netlist.specs.Marks.{Unlisted, unmarked}
use Rattle.loops.specs.declared.ranking.Descent.{Descent}

-- no wire reads one of a higher rank, among those that are not listed; `old` marks the listed ones
abbrev pub Ranked : Graph → List ℕ → List ℕ → Type 0
Ranked g old ranks = (w d : ℕ) → w < length ranks → Unlisted old w → Unlisted old d → Reads g w d → get_or ranks d 0 ≤ get_or ranks w 0

-- w reads only wires of lower ranks, and listed ones
abbrev pub ReadsLower : Graph → List ℕ → List ℕ → ℕ → Type 0
ReadsLower g old ranks w = (d : ℕ) → Unlisted old d → Reads g w d → get_or ranks d 0 < get_or ranks w 0

-- those below w that are not listed read only lower ranks, and w is not listed or the number of indices
pub record FirstLevel (g : Graph) (old ranks : List ℕ) (w : ℕ) : Type 0 where
  pub within : w ≤ length ranks
  pub before : (v : ℕ) → v < w → Unlisted old v → ReadsLower g old ranks v
  pub here : w < length ranks → Unlisted old w

-- what bounds the work room while wires are ranked: each is on the path, held, ranked or without a mark
pub record Descending (marks queue : List ℕ) (at : Descent) : Type 0 where
  pub room : length marks ≤ length queue
  pub left : at.depth + at.held + at.ranks + unmarked marks ≤ length marks
  pub path_lt : (i : ℕ) → i < at.depth → get_or queue i 0 < length marks
  pub held_lt : (i : ℕ) → i < length marks → length marks ≤ i + at.held → get_or queue i 0 < length marks

-- a wire without a mark is still to be entered and left, one on the path to be left
abbrev pub steps_left : List ℕ → Descent → ℕ
steps_left marks at = 2 * unmarked marks + at.depth
