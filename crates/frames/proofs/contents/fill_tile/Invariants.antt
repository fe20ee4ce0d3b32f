-- `contents::fill_tile` meets its contract. Invariant: the first j bytes are the tile's (`Filled`). Assumes nothing.
use Rattle.ports.specs.Lengths.{tile_bytes}
use Rattle.texts.specs.Hex.{pair_at}
use Rattle.lists.proofs.TableLaws.{Filled}
use Prim.Native.Nat.{◌+◌, ◌*◌}
use Rattle.frames.proofs.contents.fill_tile.Given as goal

abbrev pub invariant-loop-j : goal.invariant-loop-j
invariant-loop-j l = Filled (λ k. pair_at l.s (l.at + 2 + 2 * k)) 0 tile_bytes l.j l.tile
