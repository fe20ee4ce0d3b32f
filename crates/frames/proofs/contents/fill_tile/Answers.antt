-- `contents::fill_tile` meets its contract. Invariant: the first j bytes are the tile's (`Filled`). Assumes nothing.
use Rattle.lists.proofs.TableLaws.{filled_end}
use native.Mathlib.Omega.{arith}
use Rattle.frames.proofs.contents.fill_tile.Goals as goal

pub returns : goal.returns
returns c = filled_end _ _ _ _ _ c.loop-j.invariant (omega arith)
