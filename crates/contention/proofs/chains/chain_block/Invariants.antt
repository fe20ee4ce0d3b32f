-- `chains::chain_block` meets its contract. Invariant: the tiles from `tile` on are in chains, with their rows.. Assumes nothing.
use Rattle.contention.specs.Chains.{Tallied}
use Rattle.ports.specs.Lengths.{max_groups}
use Prim.Native.Nat.{◌*◌}
use Rattle.contention.proofs.chains.chain_block.Given as goal

abbrev pub invariant-loop-tile : goal.invariant-loop-tile
invariant-loop-tile l = Tallied l.b l.table l.st (max_groups * l.tile) l.heads l.nexts l.n
