-- `chains::chain_tile` meets its contract. Invariant: the groups from g on are in chains, with their rows.. Assumes nothing.
use Rattle.contention.specs.Chains.{Tallied}
use Rattle.ports.specs.Lengths.{max_groups}
use Rattle.routing.specs.LogicTile.{logic_tile}
use Rattle.routing.specs.Table.{group_count}
use Prim.Native.Nat.{◌+◌, ◌*◌}
use mathlib.Core.Path.{◌≡◌}
use Rattle.contention.proofs.chains.chain_tile.Given as goal

abbrev pub invariant-loop-g : goal.invariant-loop-g
invariant-loop-g l = (l.groups ≡ group_count logic_tile l.table) × Tallied l.b l.table l.st (max_groups * l.tile + l.g) l.heads l.nexts l.n
