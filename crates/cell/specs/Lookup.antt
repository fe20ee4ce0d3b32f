-- The lookup and the carry of a cell (document 01, 'Cells').
use Rattle.refusal.specs.declared.Refusal.{Refusal}
use Rattle.std.specs.Prelude.{ℕ, ◌+◌, ◌*◌, cond, leb, ltb, Result, Ok, Err}
use Rattle.digits.specs.Digits.{digit}
use Rattle.refusal.specs.Grounds.{number_of, place_of, unless}
use Rattle.refusal.specs.declared.Refusal.TheVariants.{OutOfRange}

-- "The lookup takes the table bit at in_3·8 + in_2·4 + in_1·2 + in_0."
unfoldable pub lookup_bit : ℕ → ℕ → ℕ → ℕ → ℕ → ℕ
lookup_bit table in0 in1 in2 in3 = digit table (in3 * 8 + in2 * 4 + in1 * 2 + in0)

-- what `lookup` answers: "20: a [..] lookup input (0 to 15) out of range", place "that number"
unfoldable pub looked_up : ℕ → ℕ → Result ℕ Refusal
looked_up table inputs = unless (ltb inputs 16) (Err (OutOfRange inputs)) (Ok (digit table inputs))

-- "cout is the majority of in_1, in_2 and carry-in"
unfoldable pub majority : ℕ → ℕ → ℕ → ℕ
majority a b c = cond (leb 2 (a + b + c)) 1 0
