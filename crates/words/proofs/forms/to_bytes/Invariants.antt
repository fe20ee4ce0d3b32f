-- `to_bytes` meets its contract. Invariant: the first i bytes are runs of the words' bits (`Filled`, `byte_of_two`). Assumes nothing.
use Rattle.ports.specs.Lengths.{columns, tile_bytes}
use Rattle.words.specs.Forms.{byte_bits}
use Rattle.words.specs.Packed.{bit_in, number_from}
use Rattle.lists.specs.Tables.{Filled}
use Prim.Native.Nat.{ℕ, ◌*◌}
use Rattle.words.proofs.forms.to_bytes.Given as goal

abbrev pub invariant-loop-i : goal.invariant-loop-i
invariant-loop-i l = Filled (λ (k : ℕ). number_from byte_bits (bit_in columns l.words) (k * byte_bits)) 0 (tile_bytes * l.n) l.i l.bytes
