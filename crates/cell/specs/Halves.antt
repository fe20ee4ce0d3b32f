-- The lookup as four choices, each halving what is left (document 02, W3): "in_3 picks eight of sixteen, in_2 four, and so on".
use Rattle.std.specs.Prelude.{◌≡◌, ℕ, ◌+◌, ◌*◌, ◌/◌, ◌%◌, ◌^◌}
use Rattle.digits.specs.Digits.{digit}
use Rattle.cell.specs.Lookup.{lookup_bit}

-- "each halving what is left": of 2n bits a choice of 0 leaves the lower n, and a choice of 1 the upper n
unfoldable pub halved : ℕ → ℕ → ℕ → ℕ
halved bits choice n = bits / 2 ^ (choice * n) % 2 ^ n

-- "after each choice the bit wanted is the one the remaining inputs index among those left": eight, four, two and one are the bits
-- that are left after each choice, and what the remaining inputs index stands on each line's left
pub record ByHalves (table in0 in1 in2 in3 eight four two one : ℕ) : Type 0 where
  -- "in_3 picks eight of sixteen": in_2, in_1 and in_0 remain
  pub after_in3 : digit eight (in2 * 4 + in1 * 2 + in0) ≡ lookup_bit table in0 in1 in2 in3
  -- in_2 picks four of eight: in_1 and in_0 remain
  pub after_in2 : digit four (in1 * 2 + in0) ≡ lookup_bit table in0 in1 in2 in3
  -- in_1 picks two of four: in_0 remains
  pub after_in1 : digit two in0 ≡ lookup_bit table in0 in1 in2 in3
  -- in_0 picks one of two: nothing remains, and this is the bit
  pub after_in0 : one ≡ lookup_bit table in0 in1 in2 in3
