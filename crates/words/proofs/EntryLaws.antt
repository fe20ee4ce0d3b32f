-- The grounds of the two conversions in their orders: one law for each way through `words_answer` and `bytes_answer`. Assumes nothing.
use Rattle.std.specs.Prelude.{Ok, Err}
use mathlib.Core.Path.{◌≡◌}
use mathlib.Core.Logic.{◌≢◌}
use mathlib.Core.Bool.{false}
use mathlib.Core.List.{List}
use Prim.Native.Nat.{ℕ, ◌<◌, ◌≤◌}
use native.Mathlib.Omega.{arith}
use borrow.Author.Tests.{eq-eqb, ne_eqb}
use lib.ListN.{length}
use Rattle.lists.proofs.SearchLaws.{first_le}
use Rattle.ports.specs.declared.size.Size.{Size}
use Rattle.ports.specs.Block.{Allowed, allowed}
use Rattle.ports.specs.Lengths.{bits_length, bytes_length}
use Rattle.ports.proofs.BlockLaws.{allowed_true}
use Rattle.refusal.specs.declared.Refusal.TheVariants.{WrongSize, WrongLength, Undecodable}
use Rattle.words.specs.Forms.{past_columns}
use Rattle.words.specs.Stray.{first_stray, stray_place}
use Rattle.words.specs.Answers.{words_answer, bytes_answer}

-- ---- bytes to words

module _ (S : Size) (bytes words : ℕ) where
  pub words_size : allowed S ≡ false → Err WrongSize ≡ words_answer S bytes words
  unfolding words_answer
  words_size e = rw e

  module _ (s : Allowed S) where
    pub words_no_bytes : bytes ≢ bytes_length S → Err WrongLength ≡ words_answer S bytes words
    unfolding words_answer
    words_no_bytes n = rw (allowed_true S s, ne_eqb bytes (bytes_length S) n)

    module _ (b : bytes ≡ bytes_length S) where
      pub words_no_words : words ≢ bits_length S → Err WrongLength ≡ words_answer S bytes words
      unfolding words_answer
      words_no_words n = rw (allowed_true S s, eq-eqb bytes (bytes_length S) b, ne_eqb words (bits_length S) n)

      pub words_done : words ≡ bits_length S → (Ok tt) ≡ words_answer S bytes words
      unfolding words_answer
      words_done w = rw (allowed_true S s, eq-eqb bytes (bytes_length S) b, eq-eqb words (bits_length S) w)

-- ---- words to bytes

module _ (S : Size) (words : List ℕ) (bytes : ℕ) where
  pub bytes_size : allowed S ≡ false → Err WrongSize ≡ bytes_answer S words bytes
  unfolding bytes_answer
  bytes_size e = rw e

  module _ (s : Allowed S) where
    pub bytes_no_bytes : bytes ≢ bytes_length S → Err WrongLength ≡ bytes_answer S words bytes
    unfolding bytes_answer
    bytes_no_bytes n = rw (allowed_true S s, ne_eqb bytes (bytes_length S) n)

    module _ (b : bytes ≡ bytes_length S) where
      pub bytes_no_words : length words ≢ bits_length S → Err WrongLength ≡ bytes_answer S words bytes
      unfolding bytes_answer
      bytes_no_words n = rw (allowed_true S s, eq-eqb bytes (bytes_length S) b, ne_eqb (length words) (bits_length S) n)

      -- i is the first stray row, as the code finds it
      module _ (w : length words ≡ bits_length S) (i : ℕ) (e : i ≡ first_stray words) where
        pub bytes_stray : i < length words → (place : ℕ) → place ≡ stray_place i → Err (Undecodable place) ≡ bytes_answer S words bytes
        unfolding bytes_answer
        bytes_stray l place p =
            rw (
              allowed_true S s,
              eq-eqb bytes (bytes_length S) b,
              eq-eqb (length words) (bits_length S) w,
              ne_eqb (first_stray words) (length words) (λ z. omega arith),
              ← e,
              p,
            )

        pub bytes_done : length words ≤ i → (Ok tt) ≡ bytes_answer S words bytes
        unfolding bytes_answer
        bytes_done l =
            let all : first_stray words ≡ length words = omega (arith, first_le (past_columns words) 0 (length words)) in
            rw (
              allowed_true S s,
              eq-eqb bytes (bytes_length S) b,
              eq-eqb (length words) (bits_length S) w,
              eq-eqb (first_stray words) (length words) all,
            )
