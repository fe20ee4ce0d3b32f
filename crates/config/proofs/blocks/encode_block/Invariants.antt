-- `config::blocks::encode_block` meets its contract. Invariant: the first t parts of the bits are those that were encoded, and the length is
-- the old one. Assumes nothing.
use mathlib.Core.Path.{◌≡◌}
use Prim.Native.Nat.{◌-◌, ◌*◌, ◌≤◌}
use lib.ListN.{length, take}
use Rattle.lists.specs.Parts.{joined}
use Rattle.ports.specs.Lengths.{tile_numbers}
use Rattle.config.specs.Blocks.{encoded_at}
use Rattle.config.proofs.blocks.encode_block.Given as goal

abbrev pub invariant-loop-t : goal.invariant-loop-t
invariant-loop-t l = (l.t ≤ l.n) × (length l.bits ≡ tile_numbers * l.n) × (take (tile_numbers * l.t) l.bits ≡ joined (encoded_at l.table l.settings) l.t)
