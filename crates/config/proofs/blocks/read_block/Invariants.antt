-- `config::blocks::read_block` meets its contract. Invariant: the first t tiles can be decoded, and the first t parts of the settings are those that were
-- decoded. Assumes nothing.
use mathlib.Core.Path.{◌≡◌}
use Prim.Native.Nat.{ℕ, ◌-◌, ◌*◌, ◌<◌, ◌≤◌}
use lib.ListN.{length, take}
use Rattle.lists.specs.Parts.{joined}
use Rattle.ports.specs.Lengths.{settings_length}
use Rattle.codec.specs.Reading.{Decodable}
use Rattle.config.specs.Blocks.{decoded_at, tiles_of}
use Rattle.config.proofs.blocks.read_block.Given as goal

abbrev pub invariant-loop-t : goal.invariant-loop-t
invariant-loop-t l =
    (l.t ≤ l.n) × ((s : ℕ) → s < l.t → Decodable l.table (tiles_of l.bits s)) × (length l.settings ≡ settings_length * l.n) × (take (settings_length * l.t) l.settings ≡ joined (decoded_at l.table (tiles_of l.bits)) l.t)
