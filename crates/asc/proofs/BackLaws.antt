-- The lines of a written file, one by one: no line feed inside, a row is a row, its digits are the bits. Main laws: `plain_tile`, `row_is`, `row_back`.
use Prim.Native.Nat.{ℕ, ◌+◌, ◌*◌, ◌/◌, ◌%◌, ◌^◌, ◌<◌, ◌≤◌}
use mathlib.Core.Path.{◌≡◌, refl, sym, ap, ◌∙◌}
use mathlib.Core.List.{List, [], ◌∷◌, ◌++◌}
use native.Mathlib.Omega.{arith}
use native.Mathlib.Nat.{mod-lt}
use lib.ListN.{length, get_or}
use Rattle.lists.specs.Search.{all_from}
use Rattle.lists.proofs.TableLaws.{tabulate_length, tabulate_zero}
use Rattle.digits.specs.Digits.{digit}
use Rattle.digits.proofs.DigitLaws.{from_digits_ext}
use Rattle.ports.specs.Lengths.{columns}
use Rattle.words.specs.Packed.{bit_in, number_from}
use Rattle.words.proofs.PackedLaws.{bit_in_lt, number_is}
use Rattle.texts.specs.Decimal.{decimal}
use Rattle.texts.specs.Lines.{Plain}
use Rattle.texts.proofs.PlainLaws.{plain_append, plain_check}
use Rattle.texts.proofs.DecimalLaws.{decimal_digits}
use Rattle.asc.specs.Spelling.{device_line, tile_word, tile_line}
use Rattle.asc.specs.Stages.{DigitRow}
use Rattle.asc.specs.Content.{value_at, row_digits}

-- ---- no line feed inside a line

plain_decimal : (n : ℕ) → n ≤ 255 → Plain (decimal n)
plain_decimal n h k l e = let d = decimal_digits n h k l in omega arith

pub plain_device : Plain device_line
unfolding all_from
plain_device = plain_check device_line refl

pub plain_tile : (X Y : ℕ) → X ≤ 255 → Y ≤ 255 → Plain (tile_line X Y)
unfolding all_from
plain_tile X Y f g =
    plain_append (tile_word ++ (32 ∷ [])) (decimal X ++ (32 ∷ decimal Y)) (plain_check (tile_word ++ (32 ∷ [])) refl)
    (plain_append (decimal X) (32 ∷ decimal Y) (plain_decimal X f) (plain_append (32 ∷ []) (decimal Y) (plain_check (32 ∷ []) refl) (plain_decimal Y g)))

-- ---- bits as digits

pub row_at_lem : (word k : ℕ) → k < 54 → get_or (row_digits word) k 0 ≡ 48 + digit word k
row_at_lem word k l = tabulate_zero (λ c. 48 + digit word c) 0 54 k l

pub row_long : (word : ℕ) → length (row_digits word) ≡ 54
row_long word = tabulate_length (λ c. 48 + digit word c) 0 54

pub row_is : (word : ℕ) → DigitRow (row_digits word)
row_is word = record {
  long = row_long word;
  digits = λ k l. let e = row_at_lem word k l in let b = mod-lt (word / 2 ^ k) {m = 2} (omega arith) in (omega arith, omega arith);
}

pub plain_row : (word : ℕ) → Plain (row_digits word)
plain_row word k l q = let e = row_at_lem word k (let n = row_long word in omega arith) in omega arith

-- the rows of what is read are the block's
pub row_back : (bits c : List ℕ) (i : ℕ) → get_or bits i 0 < 2 ^ columns → ((q : ℕ) → q < 54 * i + 54 → get_or c q 0 ≡ 48 + bit_in columns bits q)
    → get_or bits i 0 ≡ number_from columns (value_at c) (i * columns)
row_back bits c i b h =
    sym (number_is columns (omega arith) bits i b)
    ∙ from_digits_ext (λ (k : ℕ). bit_in columns bits (i * columns + k)) (λ (k : ℕ). value_at c (i * columns + k)) columns
    (λ k l.
    let e = h (i * columns + k) (omega arith) in
    let m = bit_in_lt columns (omega arith) bits (i * columns + k) in
    let n : (48 + bit_in columns bits (i * columns + k)) % 2 ≡ bit_in columns bits (i * columns + k) = omega arith in
    sym (ap (λ (x : ℕ). x % 2) e ∙ n))
