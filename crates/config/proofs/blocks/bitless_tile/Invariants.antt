-- `config::blocks::bitless_tile` meets its contract. Invariant: the search from t on finds what the search from 0 finds. Assumes nothing.
use mathlib.Core.Path.{◌≡◌}
use Prim.Native.Nat.{◌-◌, ◌≤◌}
use Rattle.lists.specs.Search.{first}
use Rattle.config.specs.Blocks.{bitless_at}
use Rattle.config.proofs.blocks.bitless_tile.Given as goal

abbrev pub invariant-loop-t : goal.invariant-loop-t
invariant-loop-t l = (l.t ≤ l.n) × (first (bitless_at l.table l.settings) l.t (l.n - l.t) ≡ first (bitless_at l.table l.settings) 0 l.n)
