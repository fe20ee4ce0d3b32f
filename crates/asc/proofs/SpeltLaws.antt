-- Lines as the code looks at them. Main laws: `line_x_is`, `line_y_is`; `row_long`, `row_short`.
use Prim.Native.Nat.{ℕ, ◌+◌, ◌-◌, ◌≤◌}
use mathlib.Core.Path.{◌≡◌, sym, ap, ◌∙◌}
use mathlib.Core.Bool.{false}
use mathlib.Core.Logic.{◌≢◌}
use mathlib.Core.List.{List}
use native.Mathlib.Omega.{arith}
use borrow.Author.Tests.{eq-eqb, ne_eqb}
use lib.ListN.{length, take, drop, get_or, length-drop, drop_of_length-le}
use lib.Seq.{take_all}
use Rattle.lists.specs.Search.{all_from}
use Rattle.texts.specs.Decimal.{number}
use Rattle.texts.specs.Lines.{word_length, word}
use Rattle.asc.specs.Spelling.{behind_word, line_x, line_y, is_binary, is_row}

-- the part of a slice from a position on, as the code takes it
pub tail_is : (k : ℕ) (s : List ℕ) → take (length s - k) (drop k s) ≡ drop k s
tail_is k s = take_all (length s - k) (drop k s) (omega (arith, length-drop k s))

module _ (line rest : List ℕ) (r : rest ≡ behind_word line) (n : ℕ) (e : n ≡ word_length rest) where
  pub line_x_is : number (take n rest) ≡ line_x line
  unfolding line_x word
  line_x_is = ap (λ (k : ℕ). number (take k rest)) e ∙ ap (λ (l : List ℕ). number (take (word_length l) l)) r

  pub line_y_is : number (drop (n + 1) rest) ≡ line_y line
  unfolding line_y
  line_y_is = ap (λ (k : ℕ). number (drop (k + 1) rest)) e ∙ ap (λ (l : List ℕ). number (drop (word_length l + 1) l)) r

  -- no second number
  pub line_y_none : length rest ≤ n → 256 ≡ line_y line
  unfolding number
  line_y_none h = ap number (sym (drop_of_length-le rest (let z : length rest ≤ n + 1 = omega arith in z))) ∙ line_y_is

module _ (xs : List ℕ) where
  pub row_long : length xs ≡ 54 → is_row xs ≡ all_from (λ k. is_binary (get_or xs k 0)) 0 (length xs)
  unfolding is_row
  row_long e = rw (eq-eqb (length xs) 54 e)

  pub row_short : length xs ≢ 54 → is_row xs ≡ false
  unfolding is_row
  row_short h = rw (ne_eqb (length xs) 54 h)
