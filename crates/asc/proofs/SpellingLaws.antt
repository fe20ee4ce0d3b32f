-- How lines are spelt, and the numbers that are read from them. Main laws: `line_x_back`, `line_y_back`, `tile_line_word`, `device_word_lem`.
use Prim.Native.Nat.{ℕ, ◌+◌, ◌<◌, ◌≤◌}
use mathlib.Core.Path.{◌≡◌, refl, ap, ◌∙◌}
use mathlib.Core.Logic.{◌≢◌}
use mathlib.Core.List.{[], ◌∷◌, ◌++◌}
use native.Mathlib.Omega.{arith}
use lib.ListN.{length, drop, get_or, length-append}
use lib.Seq.{drop-append-add}
use Rattle.lists.specs.Search.{all_from}
use Rattle.texts.specs.Decimal.{decimal, number}
use Rattle.texts.specs.Lines.{word}
use Rattle.texts.proofs.DecimalLaws.{decimal_digits, number_back}
use Rattle.texts.proofs.WordLaws.{word_length_at, word_at, no_space_check}
use Rattle.asc.specs.Spelling.{device_word, device_line, tile_word, tile_line, line_x, line_y}

pub device_word_lem : word device_line ≡ device_word
unfolding all_from
device_word_lem = word_at device_word (49 ∷ 107 ∷ []) (no_space_check device_word refl)

pub tile_line_word : (X Y : ℕ) → word (tile_line X Y) ≡ tile_word
unfolding all_from
tile_line_word X Y = word_at tile_word (decimal X ++ (32 ∷ decimal Y)) (no_space_check tile_word refl)

module _ (X Y : ℕ) (x_few : X ≤ 255) where
  no_space : (k : ℕ) → k < length (decimal X) → get_or (decimal X) k 0 ≢ 32
  no_space k l e = let d = decimal_digits X x_few k l in omega arith

  pub line_x_back : line_x (tile_line X Y) ≡ X
  unfolding line_x
  line_x_back = ap number (word_at (decimal X) (decimal Y) no_space) ∙ number_back X x_few

  pub line_y_back : Y ≤ 255 → line_y (tile_line X Y) ≡ Y
  unfolding line_y
  line_y_back y_few =
      ap (λ (n : ℕ). number (drop (n + 1) (decimal X ++ (32 ∷ decimal Y)))) (word_length_at (decimal X) (decimal Y) no_space)
      ∙ ap number (drop-append-add (decimal X) (32 ∷ decimal Y) 1) ∙ number_back Y y_few

pub tile_line_length : (X Y : ℕ) → length (tile_line X Y) ≡ 13 + length (decimal X) + length (decimal Y)
tile_line_length X Y = omega (arith, length-append (decimal X) (32 ∷ decimal Y))
