-- A file that was read, and is written, reads the same. Main laws: `read_fits` (no bit of what is read is stray), `read_writes`, `read_again`. Assumes nothing.
use Rattle.refusal.specs.declared.Refusal.{Refusal}
use Rattle.std.specs.Prelude.{Result, Ok}
use Prim.Native.Nat.{ℕ, ◌*◌}
use mathlib.Core.Path.{◌≡◌, sym, ap, ◌∙◌, subst}
use mathlib.Core.List.{List}
use lib.ListN.{length}
use Rattle.ports.specs.Lengths.{columns, tile_numbers}
use Rattle.words.specs.Packed.{FitsIn}
use Rattle.refusal.specs.Grounds.{answer_number}
use Rattle.refusal.specs.Memory.{output}
use Rattle.asc.specs.Area.{Area, tiles_of}
use Rattle.asc.specs.Content.{written, text_length}
use Rattle.asc.specs.Meaning.{Lent, YesSays, AscSays}
use Rattle.asc.specs.Answers.{read_answer, bits_read, write_answer}
use Rattle.asc.proofs.AnswerLaws.{answer_says}
use Rattle.asc.proofs.ContentLaws.{rows_packed_fit, rows_packed_length}
use Rattle.asc.proofs.WriteAnswerLaws.{write_yes}
use Rattle.asc.proofs.RoundTrip.{read_written}

module _ (a : Area) (s before : List ℕ) (done : read_answer a s (length before) ≡ (Ok tt)) where
  yes : Lent a (length before) × YesSays a s (bits_read a s)
  yes = subst (λ (r : Result (Unit {0}) Refusal). AscSays a s before (output (answer_number r) before (bits_read a s)) r) done (answer_says a s before)

  -- what is read fits in the columns, and is as long as the block
  pub read_fits : FitsIn columns (bits_read a s)
  read_fits = subst (FitsIn columns) (sym yes.1.bits_are) (rows_packed_fit yes.1.content (tiles_of a))

  pub read_long : length (bits_read a s) ≡ tile_numbers * tiles_of a
  read_long = ap length yes.1.bits_are ∙ rows_packed_length yes.1.content (tiles_of a)

  -- so it can be written
  pub read_writes : (text : List ℕ) → length text ≡ text_length a → write_answer a (bits_read a s) (length text) ≡ (Ok tt)
  read_writes text e = write_yes a (bits_read a s) text (record { right_size = yes.0.right_size; bits_long = read_long; text_long = e }) read_fits

  -- written and read again
  pub read_again : (read_answer a (written a (bits_read a s)) (length before) ≡ (Ok tt)) × (bits_read a (written a (bits_read a s)) ≡ bits_read a s)
  read_again = read_written a (bits_read a s) before yes.0.right_size read_long read_fits yes.0.right_length
