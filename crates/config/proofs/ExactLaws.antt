-- What an answer of `read` and of `write` says fits one answer, and one content of the lent memory, only. Main laws: `read_exact`, `write_exact`. Assumes
-- nothing.
use Rattle.std.specs.Prelude.{Result, Ok, Err}
use Prim.Native.Nat.{ℕ, ◌*◌, ◌<◌}
use mathlib.Core.Path.{◌≡◌, sym, subst, ◌∙◌}
use mathlib.Core.List.{List}
use native.Mathlib.Omega.{arith}
use lib.ListN.{length}
use Rattle.lists.proofs.CaseLaws.{test_false}
use Rattle.refusal.specs.declared.Refusal.{Refusal}
use Rattle.ports.specs.declared.size.Size.{Size}
use Rattle.ports.specs.Block.{tile_count, allowed}
use Rattle.ports.specs.Lengths.{tile_numbers}
use Rattle.ports.proofs.BlockLaws.{allowed_exact}
use Rattle.routing.specs.LogicTile.{logic_tile}
use Rattle.routing.proofs.TableCheckLaws.{faulty_part_exact}
use Rattle.codec.specs.Reading.{HasBits}
use Rattle.config.specs.Blocks.{bits_at, settings_at, decoded, encoded, tiles_of}
use Rattle.config.specs.Entry.{lengths_ok, read_answer, write_answer}
use Rattle.config.specs.Facts.{TilesRead}
use Rattle.config.specs.Meaning.{ReadNo, wrong_size, wrong_length, broken, undecodable, ReadSays}
use Rattle.config.specs.WriteMeaning.{WriteNo, WriteSays}
use Rattle.config.specs.WriteMeaning as writing
use Rattle.config.proofs.EntryLaws.{lengths_exact, read_size, read_length, read_table, read_undecodable, read_done, write_size, write_length, write_table, write_bitless, write_done}
use Rattle.config.proofs.FaultPlaceLaws.{fault_place_exact, decodable_no_fault}
use Rattle.config.proofs.BlocksLaws.{bits_at_length, decoded_is, encoded_is, bitless_is, bits_none}

-- ---- reading

module _ (S : Size) (table bits : List ℕ) where
  -- a no that says so is the answer that is computed
  read_no_told : (settings : ℕ) {refusal : Refusal} → ReadNo S table bits settings refusal → Err refusal ≡ read_answer S table bits settings
  read_no_told n (wrong_size none) = read_size S table bits n (test_false (allowed S) (allowed_exact S).0 none)
  read_no_told n (wrong_length x) =
      read_length S table bits n x.0
      (test_false (lengths_ok S (length table) (length bits) n) (lengths_exact S (length table) (length bits) n).0 x.1)
  read_no_told n (broken part x) =
      let few = x.2.counted in
      read_table S table bits n x.0 x.1 part (sym ((faulty_part_exact logic_tile table part).1 x.2).0) (λ e. absurd (omega arith))
  read_no_told n (undecodable place C low) =
      let e = (fault_place_exact table bits C.rules (tile_count S) place).0 low in
      read_undecodable S table bits n C place e.0 e.1

  read_told : (before after : List ℕ) (r : Result (Unit {0}) Refusal) → ReadSays S table bits before after r → r ≡ read_answer S table bits (length before)
  read_told before after (Ok _) x =
      subst (λ (n : ℕ). (Ok tt) ≡ read_answer S table bits n) x.2
      (read_done S table bits (length after) x.0 _ (decodable_no_fault table bits x.0.rules (tile_count S) x.1.decodable) (omega arith))
  read_told before after (Err refusal) x = read_no_told (length before) x.1

  -- one answer, and one content, only
  pub read_exact : (before a b : List ℕ) (r q : Result (Unit {0}) Refusal) → ReadSays S table bits before a r → ReadSays S table bits before b q → (r ≡ q) × (a ≡ b)
  read_exact before a b r q x y =
      let e : r ≡ q = read_told before a r x ∙ sym (read_told before b q y) in
      (e, same r x (subst (ReadSays S table bits before b) (sym e) y))
    where
      is : (c : List ℕ) → ReadSays S table bits before c (Ok tt) → decoded table (tiles_of bits) (tile_count S) ≡ c
      is c x = decoded_is table bits (tile_count S) x.0.rules c x.0.lengths.settings_long x.1

      same : (r : Result (Unit {0}) Refusal) → ReadSays S table bits before a r → ReadSays S table bits before b r → a ≡ b
      same (Ok _) x y = sym (is a x) ∙ is b y
      same (Err refusal) x y = x.0 ∙ sym y.0

-- ---- writing

module _ (S : Size) (table settings : List ℕ) where
  write_no_told : (bits : ℕ) {refusal : Refusal} → WriteNo S table settings bits refusal → Err refusal ≡ write_answer S table settings bits
  write_no_told n (writing.wrong_size none) = write_size S table settings n (test_false (allowed S) (allowed_exact S).0 none)
  write_no_told n (writing.wrong_length x) =
      write_length S table settings n x.0
      (test_false (lengths_ok S (length table) n (length settings)) (lengths_exact S (length table) n (length settings)).0 x.1)
  write_no_told n (writing.broken part x) =
      let few = x.2.counted in
      write_table S table settings n x.0 x.1 part (sym ((faulty_part_exact logic_tile table part).1 x.2).0) (λ e. absurd (omega arith))
  write_no_told n (writing.bitless tile C low) =
      write_bitless S table settings n C tile (bitless_is table settings (tile_count S) C.rules C.lengths.settings_long tile low) low.within

  -- bits that read to the settings of each tile
  tiles_have : (bits : List ℕ) (n : ℕ) → length bits ≡ tile_numbers * n → TilesRead table (tiles_of bits) settings n → (t : ℕ) → t < n
      → HasBits table (settings_at settings t)
  tiles_have bits n long x t l =
      record { bits = bits_at bits t; long = bits_at_length bits n t long l; decodable = x.decodable t l; reads = x.reads t l }

  write_told : (before after : List ℕ) (r : Result (Unit {0}) Refusal) → WriteSays S table settings before after r → r ≡ write_answer S table settings (length before)
  write_told before after (Ok _) x =
      subst (λ (n : ℕ). (Ok tt) ≡ write_answer S table settings n) x.2
      (write_done S table settings (length after) x.0 _
      (bits_none table settings (tile_count S) x.0.rules x.0.lengths.settings_long
      (tiles_have after (tile_count S) x.0.lengths.bits_long x.1))
      (omega arith))
  write_told before after (Err refusal) x = write_no_told (length before) x.1

  -- one answer, and one content, only
  pub write_exact : (before a b : List ℕ) (r q : Result (Unit {0}) Refusal) → WriteSays S table settings before a r → WriteSays S table settings before b q
      → (r ≡ q) × (a ≡ b)
  write_exact before a b r q x y =
      let e : r ≡ q = write_told before a r x ∙ sym (write_told before b q y) in
      (e, same r x (subst (WriteSays S table settings before b) (sym e) y))
    where
      is : (c : List ℕ) → WriteSays S table settings before c (Ok tt) → encoded table settings (tile_count S) ≡ c
      is c x = encoded_is table settings (tile_count S) x.0.rules c x.0.lengths.bits_long x.1

      same : (r : Result (Unit {0}) Refusal) → WriteSays S table settings before a r → WriteSays S table settings before b r → a ≡ b
      same (Ok _) x y = sym (is a x) ∙ is b y
      same (Err refusal) x y = x.0 ∙ sym y.0
