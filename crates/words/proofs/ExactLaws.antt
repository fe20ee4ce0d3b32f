-- What an answer of the two conversions says fits one answer, and one content of the lent memory, only. Main laws: `words_exact`, `bytes_exact`. Assumes
-- nothing.
use Rattle.std.specs.Prelude.{Result, Ok, Err}
use Prim.Native.Nat.{ℕ, ◌*◌}
use mathlib.Core.Path.{◌≡◌, refl, sym, ap, ◌∙◌}
use mathlib.Core.List.{List}
use native.Mathlib.Omega.{arith}
use lib.ListN.{length}
use Rattle.ports.specs.declared.size.Size.{Size}
use Rattle.ports.specs.Block.{tile_count}
use Rattle.ports.specs.Lengths.{columns, tile_numbers, tile_bytes}
use Rattle.refusal.specs.declared.Refusal.{Refusal}
use Rattle.refusal.specs.declared.Refusal.TheVariants.{Undecodable}
use Rattle.words.specs.Packed.{FitsIn}
use Rattle.words.specs.Forms.{byte_bits, SameBits}
use Rattle.words.specs.Meaning.{BothLong, FormNo, by_size, by_length, WordsSay, BytesNo, by_form, by_stray, BytesSay}
use Rattle.words.proofs.PackedLaws.{bits_in_ext}
use Rattle.words.proofs.StrayLaws.{fits_no_stray, lowest_stray_same}

-- ---- the contents of a yes: bytes have one form as words, and words one as bytes

module _ (n : ℕ) (a b : List ℕ) where
  pub words_one : (bytes : List ℕ) → length a ≡ tile_numbers * n → length b ≡ tile_numbers * n → SameBits n bytes a → SameBits n bytes b → a ≡ b
  words_one bytes la lb x y =
      bits_in_ext columns (omega arith) a b (la ∙ sym lb) x.fits y.fits (λ p l. x.same p (omega arith) ∙ sym (y.same p (omega arith)))

  pub bytes_one : (words : List ℕ) → length a ≡ tile_bytes * n → length b ≡ tile_bytes * n → FitsIn byte_bits a → FitsIn byte_bits b → SameBits n a words
      → SameBits n b words → a ≡ b
  bytes_one words la lb fa fb x y =
      bits_in_ext byte_bits (omega arith) a b (la ∙ sym lb) fa fb (λ p l. sym (x.same p (omega arith)) ∙ y.same p (omega arith))

-- ---- the grounds

module _ (S : Size) (bytes words : ℕ) where
  form_same : {q r : Refusal} → FormNo S bytes words q → FormNo S bytes words r → q ≡ r
  form_same (by_size e) (by_size f) = refl
  form_same (by_size e) (by_length f h) = absurd (e f)
  form_same (by_length e h) (by_size f) = absurd (f e)
  form_same (by_length e h) (by_length f k) = refl

  long_or_no : {A : Type 0} {r : Refusal} → BothLong S bytes words → FormNo S bytes words r → A
  long_or_no l (by_size e) = absurd (e l.right_size)
  long_or_no l (by_length e h) = absurd (h l)

module _ (S : Size) (words : List ℕ) (bytes : ℕ) where
  no_same : {q r : Refusal} → BytesNo S words bytes q → BytesNo S words bytes r → q ≡ r
  no_same (by_form e) (by_form f) = form_same S bytes (length words) e f
  no_same (by_form e) (by_stray l z) = long_or_no S bytes (length words) l e
  no_same (by_stray l z) (by_form e) = long_or_no S bytes (length words) l e
  no_same (by_stray {place = p} l z) (by_stray {place = q} m u) = ap Undecodable (lowest_stray_same words p q z u)

  yes_or_no : {A : Type 0} {r : Refusal} → BothLong S bytes (length words) → FitsIn columns words → BytesNo S words bytes r → A
  yes_or_no l fits (by_form e) = long_or_no S bytes (length words) l e
  yes_or_no l fits (by_stray m z) = absurd (fits_no_stray words fits _ z.here)

-- ---- any two answers

pub words_exact : (S : Size) (bytes before a b : List ℕ) (r q : Result (Unit {0}) Refusal) → WordsSay S bytes before a r → WordsSay S bytes before b q → (r ≡ q) × (a ≡ b)
words_exact S bytes before a b (Ok _) (Ok _) x y =
    (refl, words_one (tile_count S) a b bytes (x.1 ∙ x.0.words_long) (y.1 ∙ y.0.words_long) x.2 y.2)
words_exact S bytes before a b (Ok _) (Err q) x y = long_or_no S (length bytes) (length before) x.0 y.1
words_exact S bytes before a b (Err r) (Ok _) x y = long_or_no S (length bytes) (length before) y.0 x.1
words_exact S bytes before a b (Err r) (Err q) x y = (ap Err (form_same S (length bytes) (length before) x.1 y.1), x.0 ∙ sym y.0)

pub bytes_exact : (S : Size) (words before a b : List ℕ) (r q : Result (Unit {0}) Refusal) → BytesSay S words before a r → BytesSay S words before b q → (r ≡ q) × (a ≡ b)
bytes_exact S words before a b (Ok _) (Ok _) x y =
    (refl, bytes_one (tile_count S) a b words (x.1 ∙ x.0.bytes_long) (y.1 ∙ y.0.bytes_long) x.3 y.3 x.2 y.2)
bytes_exact S words before a b (Ok _) (Err q) x y = yes_or_no S words (length before) x.0 x.2.fits y.1
bytes_exact S words before a b (Err r) (Ok _) x y = yes_or_no S words (length before) y.0 y.2.fits x.1
bytes_exact S words before a b (Err r) (Err q) x y = (ap Err (no_same S words (length before) x.1 y.1), x.0 ∙ sym y.0)
