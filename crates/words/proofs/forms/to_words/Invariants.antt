-- `to_words` meets its contract. Invariant: the first i words are runs of the bytes' bits (`Filled`, `word_is`). Assumes nothing.
use Rattle.ports.specs.Lengths.{columns, tile_numbers}
use Rattle.words.specs.Forms.{byte_bits}
use Rattle.words.specs.Packed.{bit_in, number_from}
use Rattle.lists.specs.Tables.{Filled}
use Prim.Native.Nat.{ℕ, ◌*◌}
use Rattle.words.proofs.forms.to_words.Given as goal

abbrev pub invariant-loop-i : goal.invariant-loop-i
invariant-loop-i l = Filled (λ (k : ℕ). number_from columns (bit_in byte_bits l.bytes) (k * columns)) 0 (tile_numbers * l.n) l.i l.words
