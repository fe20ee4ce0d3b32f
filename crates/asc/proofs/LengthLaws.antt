-- Where tile t stands, and how long the pieces of a file are. Main laws: `tile_of_lem`, `tile_stands`, `tile_text_length`, `written_length`; `Counted` with its start, turn and end.
use Prim.Native.Nat.{ℕ, zero, suc, ◌+◌, ◌*◌, ◌/◌, ◌%◌, ◌<◌, ◌≤◌}
use mathlib.Core.Path.{◌≡◌, refl, sym, ap, ap₂, ◌∙◌}
use mathlib.Core.List.{List, [], ◌∷◌}
use native.Mathlib.Omega.{arith}
use native.Mathlib.Nat.{mod-lt, div-lt_iff_lt-mul, div-add-mod'}
use native.Mathlib.Numerals.{add-one}
use lib.ListN.{length, get_or, length-append}
use Rattle.lists.specs.Parts.{joined}
use Rattle.lists.proofs.TableLaws.{tabulate_length}
use Rattle.lists.proofs.PartLaws.{joined_length}
use Rattle.digits.specs.Digits.{digit}
use Rattle.texts.specs.Decimal.{decimal}
use Rattle.texts.proofs.DecimalLaws.{decimal_length}
use Rattle.texts.proofs.PutsLaws.{joined_long}
use Rattle.asc.specs.Area.{Area, tiles_of}
use Rattle.asc.specs.Spelling.{tile_line}
use Rattle.asc.specs.Content.{row_digits, row_text, rows_length, rows_text, head_text, tile_text, device_text, written, text_length}
use Rattle.asc.proofs.AreaLaws.{Sized}
use Rattle.asc.proofs.SpellingLaws.{tile_line_length}

-- ---- where tile t stands

pub record TileAt (a : Area) (t : ℕ) : Type 0 where
  pub across : t % a.w < a.w
  pub up : t / a.w < a.h
  pub index : t / a.w * a.w + t % a.w ≡ t

pub tile_of_lem : (a : Area) → Sized a → (t : ℕ) → t < tiles_of a → TileAt a t
tile_of_lem a z t l =
    let some = z.w_some in
    let pos : 0 < a.w = omega arith in
    record { across = mod-lt t pos; up = (div-lt_iff_lt-mul pos).1 l; index = div-add-mod' t a.w }

-- its coordinates are 0 to 255
pub tile_stands : (a : Area) → Sized a → (t : ℕ) → t < tiles_of a → (1 ≤ a.w) × ((a.x + t % a.w < 256) × (a.y + t / a.w < 256))
tile_stands a z t l =
    let p = tile_of_lem a z t l in
    (z.w_some, (omega (arith, p.across, z.x_fits), omega (arith, p.up, z.y_fits)))

-- ---- lengths

pub row_text_length : (word : ℕ) → length (row_text word) ≡ 55
row_text_length word = length-append (row_digits word) (10 ∷ []) ∙ ap (λ (n : ℕ). n + 1) (tabulate_length (λ c. 48 + digit word c) 0 54)

abbrev pub row_at : List ℕ → ℕ → ℕ → List ℕ
row_at bits t r = row_text (get_or bits (16 * t + r) 0)

pub rows_long : (bits : List ℕ) (t n : ℕ) → length (joined (λ r. row_at bits t r) n) ≡ 55 * n
rows_long bits t n = joined_length 55 (λ r. row_at bits t r) n (λ r l. row_text_length (get_or bits (16 * t + r) 0))

pub rows_text_length : (bits : List ℕ) (t : ℕ) → length (rows_text bits t) ≡ rows_length
unfolding rows_text
rows_text_length bits t = rows_long bits t 16

pub head_text_length : (a : Area) (t : ℕ) → length (head_text a t) ≡ 14 + length (decimal (a.x + t % a.w)) + length (decimal (a.y + t / a.w))
unfolding head_text
head_text_length a t =
    let l = tile_line_length (a.x + t % a.w) (a.y + t / a.w) in
    omega (arith, length-append (tile_line (a.x + t % a.w) (a.y + t / a.w)) (10 ∷ []))

module _ (a : Area) (bits : List ℕ) where
  pub tile_text_length : (t : ℕ) → length (tile_text a bits t) ≡ 14 + rows_length + length (decimal (a.x + t % a.w)) + length (decimal (a.y + t / a.w))
  tile_text_length t =
      let l = head_text_length a t in
      let r = rows_text_length bits t in
      omega (arith, length-append (head_text a t) (rows_text bits t))

  pub tiles_text_few : (t : ℕ) → length (joined (tile_text a bits) t) ≤ 900 * t
  tiles_text_few t =
      joined_long (tile_text a bits) 900 t
      (λ i. let l = tile_text_length i in let u = decimal_length (a.x + i % a.w) in let v = decimal_length (a.y + i / a.w) in omega arith)

  pub tiles_text_next : (t : ℕ) → length (joined (tile_text a bits) (t + 1)) ≡ length (joined (tile_text a bits) t) + length (tile_text a bits t)
  unfolding joined
  tiles_text_next t = rw (add-one t) (length-append (joined (tile_text a bits) t) (tile_text a bits t))

  -- the bits change no length
  tiles_same : (t : ℕ) → length (joined (tile_text a bits) t) ≡ length (joined (tile_text a []) t)
  unfolding joined
  tiles_same zero = refl
  tiles_same (suc t) =
      length-append (joined (tile_text a bits) t) (tile_text a bits t) ∙ ap₂ ◌+◌ (tiles_same t) (same_tile t) ∙ sym (length-append (joined (tile_text a []) t) (tile_text a [] t))
    where
      same_tile : (t : ℕ) → length (tile_text a bits t) ≡ length (tile_text a [] t)
      same_tile t =
          length-append (head_text a t) (rows_text bits t) ∙ ap (λ (n : ℕ). length (head_text a t) + n) (rows_text_length bits t ∙ sym (rows_text_length [] t))
          ∙ sym (length-append (head_text a t) (rows_text [] t))

  pub written_long : length (written a bits) ≡ 11 + length (joined (tile_text a bits) (tiles_of a))
  unfolding written
  written_long = length-append device_text (joined (tile_text a bits) (tiles_of a))

pub text_length_long : (a : Area) → text_length a ≡ 11 + length (joined (tile_text a []) (tiles_of a))
unfolding text_length
text_length_long a = written_long a []

pub written_length : (a : Area) (bits : List ℕ) → length (written a bits) ≡ text_length a
written_length a bits = written_long a bits ∙ ap (λ (n : ℕ). 11 + n) (tiles_same a bits (tiles_of a)) ∙ sym (text_length_long a)

-- the length, as the code counts it
pub record Counted (a : Area) (t n : ℕ) : Type 0 where
  pub upto : t ≤ tiles_of a
  pub long : n ≡ 11 + length (joined (tile_text a []) t)

pub counted_start : (a : Area) → Counted a 0 11
unfolding joined
counted_start a = record { upto = omega arith; long = refl }

module _ (a : Area) (t n : ℕ) (i : Counted a t n) where
  pub counted_few : n ≤ 11 + 900 * t
  counted_few = let l = i.long in let f = tiles_text_few a [] t in omega arith

  pub counted_turn : t < tiles_of a → (u v : ℕ) → u ≡ length (decimal (a.x + t % a.w)) → v ≡ length (decimal (a.y + t / a.w)) → Counted a (t + 1) (n + (14 + rows_length + u + v))
  counted_turn l u v e f =
      record {
        upto = omega arith;
        long =
            let k = i.long in
            let m = tiles_text_next a [] t in
            let q = tile_text_length a [] t in
            omega arith;
      }

  pub counted_end : tiles_of a ≤ t → n ≡ text_length a
  counted_end l =
      let u = i.upto in
      let e : t ≡ tiles_of a = omega arith in
      i.long ∙ ap (λ (k : ℕ). 11 + length (joined (tile_text a []) k)) e ∙ sym (text_length_long a)
