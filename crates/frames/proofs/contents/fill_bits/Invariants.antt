-- `contents::fill_bits` meets its contract. Invariant: the first t parts are the tiles' bytes, and the length is the old one. Assumes nothing.
use Rattle.ports.specs.Lengths.{tile_bytes}
use Rattle.frames.specs.Contents.{bytes_of_tile}
use Rattle.lists.specs.Parts.{joined}
use lib.ListN.{length, take}
use Prim.Native.Nat.{◌*◌, ◌≤◌}
use mathlib.Core.Path.{◌≡◌}
use Rattle.frames.proofs.contents.fill_bits.Given as goal

abbrev pub invariant-loop-t : goal.invariant-loop-t
invariant-loop-t l = (l.t ≤ l.n) × (length l.bits ≡ tile_bytes * l.n) × (take (tile_bytes * l.t) l.bits ≡ joined (bytes_of_tile l.s) l.t)
