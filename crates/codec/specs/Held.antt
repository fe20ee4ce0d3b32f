-- The bits of a tile of which one row is held apart while it is written, and a run of digits that is half written.
use Rattle.std.specs.Prelude.{◌≡◌, List, ℕ, ◌<◌, ◌≤◌, set}
use Rattle.codec.specs.declared.held.HeldRow.{HeldRow}
use Rattle.codec.specs.Bits.{bit_at, set_bits}

-- the bits that are meant: the held row stands for the one in the tile
unfoldable pub with_held : List ℕ → HeldRow → List ℕ
with_held bits h = set bits h.row h.word

-- of the n positions `at`, those from the k-th on are clear
abbrev pub ClearFrom : (ℕ → ℕ) → ℕ → ℕ → List ℕ → Type 0
ClearFrom at k n bits = (j : ℕ) → k ≤ j → j < n → bit_at bits (at j) ≡ 0

-- digits of v go to the positions `at`: where the first k stood before, whatever the bits were without them, the first n stand after. Of other bits
-- before it says nothing
abbrev pub DigitsWritten : (ℕ → ℕ) → ℕ → ℕ → ℕ → (before after : List ℕ) → Type 0
DigitsWritten at v k n before after = (bits : List ℕ) → before ≡ set_bits bits at v k → after ≡ set_bits bits at v n
