-- `eight_bytes` meets its contract. Invariant: the first j bytes are a number_from of 8j bits (`eight_turn`). Assumes nothing.
use Rattle.words.specs.Forms.{byte_bits}
use Rattle.words.specs.Packed.{bit_in, number_from}
use Prim.Native.Nat.{◌*◌}
use mathlib.Core.Path.{◌≡◌}
use Rattle.words.proofs.forms.eight_bytes.Given as goal

abbrev pub invariant-loop-j : goal.invariant-loop-j
invariant-loop-j l = l.eight ≡ number_from (byte_bits * l.j) (bit_in byte_bits l.bytes) (l.at * byte_bits)
