-- Demand 2 by way of an ASCII file (document 02, W1). Main laws: `file_back`, `filed_reads`, `read_files`. Assumes nothing.
use Rattle.refusal.specs.Grounds.{answer_number, number_value}
use Rattle.std.specs.Prelude.{Ok}
use Prim.Native.Nat.{ℕ}
use mathlib.Core.Path.{◌≡◌, sym, ap, subst}
use mathlib.Core.Bool.{true}
use mathlib.Core.List.{List}
use native.Mathlib.Omega.{arith}
use lib.ListN.{length}
use Rattle.refusal.proofs.GroundsLaws.{unless_passed}
use Rattle.ports.specs.declared.size.Size.{Size}
use Rattle.ports.specs.Block.{tile_count}
use Rattle.config.specs.Blocks.{decoded, encoded, tiles_of}
use Rattle.config.specs.Entry.{read_answer, write_answer}
use Rattle.config.proofs.BlocksLaws.{encoded_length, encoded_fits}
use Rattle.config.proofs.PassedLaws as passed
use Rattle.config.proofs.RoundTrip.{written_reads}
use Rattle.asc.specs.Area.{Area, area_at, sized}
use Rattle.asc.specs.Content.{written, text_length}
use Rattle.asc.specs.Answers as files
use Rattle.asc.proofs.WriteAnswerLaws.{write_passed, write_yes}
use Rattle.asc.proofs.RoundTrip.{read_written}
use Rattle.asc.proofs.AgainLaws.{read_writes, read_again}
use Rattle.theorem.specs.Calls.{file_of}

-- a file has a length where its block has a size
length_passed : (a : Area) (n : ℕ) → files.length_answer a ≡ Ok n → (sized a ≡ true) × (n ≡ text_length a)
unfolding files.length_answer
length_passed a n e =
    let s = unless_passed answer_number (sized a) _ (Ok (text_length a)) (Ok n) (λ z. absurd (omega arith)) e in (s.0, sym (ap number_value s.1))

module _ (S : Size) (x y : ℕ) where
  abbrev here : Area
  here = area_at S x y

  -- a block to a file and back
  pub file_back : (bits text : List ℕ) → files.write_answer here bits (length text) ≡ (Ok tt)
      → (files.read_answer here (written here bits) (length bits) ≡ (Ok tt)) × (files.bits_read here (written here bits) ≡ bits)
  file_back bits text filed =
      let p = write_passed here bits text filed in read_written here bits bits p.0.right_size p.0.bits_long p.1 p.0.bits_long

  -- settings to bits to a file, and both read back
  pub filed_reads : (table settings bits text : List ℕ) → write_answer S table settings (length bits) ≡ (Ok tt) → files.length_answer here ≡ Ok (length text)
      → (files.write_answer here (encoded table settings (tile_count S)) (length text) ≡ (Ok tt))
      × (files.read_answer here (file_of S x y table settings) (length bits) ≡ (Ok tt))
      × (read_answer S table (files.bits_read here (file_of S x y table settings)) (length settings) ≡ (Ok tt))
      × (decoded table (tiles_of (files.bits_read here (file_of S x y table settings))) (tile_count S) ≡ settings)
  filed_reads table settings bits text done has =
      let e = encoded table settings (tile_count S) in
      let r = length_passed here (length text) has in
      let fits = encoded_fits table settings (tile_count S) in
      let long = encoded_length table settings (tile_count S) in
      let room = (passed.write_passed S table settings (length bits) done).lengths.bits_long in
      let file = read_written here e bits r.0 long fits room in
      let back = written_reads S table settings (length bits) done in (
        write_yes here e text (record { right_size = r.0; bits_long = long; text_long = r.1 }) fits,
        file.0,
        subst (λ (b : List ℕ). read_answer S table b (length settings) ≡ (Ok tt)) (sym file.1) back.0,
        subst (λ (b : List ℕ). decoded table (tiles_of b) (tile_count S) ≡ settings) (sym file.1) back.1,
      )

  -- a file that was read, and is written, reads the same
  pub read_files : (text bits room : List ℕ) → files.read_answer here text (length bits) ≡ (Ok tt) → files.length_answer here ≡ Ok (length room)
      → (files.write_answer here (files.bits_read here text) (length room) ≡ (Ok tt))
      × (files.read_answer here (written here (files.bits_read here text)) (length bits) ≡ (Ok tt))
      × (files.bits_read here (written here (files.bits_read here text)) ≡ files.bits_read here text)
  read_files text bits room done has =
      let again = read_again here text bits done in
      (read_writes here text bits done room (length_passed here (length room) has).1, again.0, again.1)
