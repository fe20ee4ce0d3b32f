-- Every answer of `read` and `write` says what specs/Meaning.antt has it say. Main laws: `read_means`, `write_means`. Assumes nothing.
use Rattle.refusal.specs.declared.Refusal.{Refusal}
use Rattle.std.specs.Prelude.{Result}
use mathlib.Core.Path.{◌≡◌, refl, sym, subst, ◌∙◌}
use mathlib.Core.Bool.{true, false}
use mathlib.Core.List.{List}
use Prim.Native.Nat.{ℕ, ◌*◌}
use native.Mathlib.Omega.{arith}
use borrow.Author.Tests.{leb-true, leb-false, not-false}
use lib.Dec.{leb}
use lib.ListN.{length}
use Rattle.lists.proofs.CaseLaws.{clash}
use Rattle.lists.proofs.SearchLaws.{first_before}
use Rattle.refusal.specs.Grounds.{answer_number}
use Rattle.refusal.specs.Memory.{output}
use Rattle.refusal.specs.declared.Refusal.TheVariants.{Undecodable, NoSuchSettings}
use Rattle.ports.specs.declared.size.Size.{Size}
use Rattle.ports.specs.Block.{tile_count, allowed}
use Rattle.ports.proofs.BlockLaws.{allowed_exact, allowed_true}
use Rattle.routing.specs.LogicTile.{logic_tile}
use Rattle.routing.specs.TableCheck.{faulty_part, table_ok}
use Rattle.routing.proofs.TableCheckLaws.{table_broken}
use Rattle.config.specs.Blocks.{fault_place, decoded, bitless_at, bitless_tile, encoded, tiles_of}
use Rattle.config.specs.Entry.{lengths_ok, read_answer, write_answer}
use Rattle.config.specs.Facts.{NoSize, NoLength, NoTable}
use Rattle.config.specs.Meaning.{ReadSays, wrong_size, wrong_length, broken, undecodable}
use Rattle.config.specs.WriteMeaning.{WriteSays}
use Rattle.config.specs.WriteMeaning as writing
use Rattle.config.proofs.EntryLaws.{lengths_exact, lengths_true}
use Rattle.config.proofs.FaultPlaceLaws.{fault_place_lowest, no_fault_decodable}
use Rattle.config.proofs.PassedLaws.{checks_cases, checked_of}
use Rattle.config.proofs.BlocksLaws.{decoded_length, decoded_reads, encoded_length, encoded_reads, bitless_lowest}

-- ---- the grounds that reading and writing share

module _ (S : Size) (table : List ℕ) (bits settings : ℕ) where
  no_size : allowed S ≡ false → NoSize S table bits settings
  no_size s a = clash (allowed_true S a) s

  no_length : allowed S ≡ true → lengths_ok S (length table) bits settings ≡ false → NoLength S table bits settings
  no_length s l = ((allowed_exact S).0 s, λ L. clash (lengths_true S (length table) bits settings L) l)

  no_table : allowed S ≡ true → lengths_ok S (length table) bits settings ≡ true → table_ok logic_tile table ≡ false
      → NoTable S table bits settings (faulty_part logic_tile table)
  no_table s l t = ((allowed_exact S).0 s, (lengths_exact S (length table) bits settings).0 l, table_broken logic_tile table t)

-- ---- reading

module _ (S : Size) (table bits : List ℕ) where
  pub read_means : (settings : List ℕ)
      → ReadSays S table bits settings
      (output (answer_number (read_answer S table bits (length settings))) settings (decoded table (tiles_of bits) (tile_count S)))
      (read_answer S table bits (length settings))
  unfolding read_answer
  read_means settings =
      checks_cases (allowed S) (lengths_ok S (length table) (length bits) (length settings)) (table_ok logic_tile table)
      (leb (logic_tile.positions * tile_count S) (fault_place table (tiles_of bits) (tile_count S))) (faulty_part logic_tile table)
      (Undecodable (fault_place table (tiles_of bits) (tile_count S)))
      (λ (a : Result (Unit {0}) Refusal). ReadSays S table bits settings (output (answer_number a) settings (decoded table (tiles_of bits) (tile_count S))) a)
      (λ s. (refl, wrong_size (no_size S table (length bits) (length settings) s)))
      (λ s l. (refl, wrong_length (no_length S table (length bits) (length settings) s l)))
      (λ s l t. (refl, broken _ (no_table S table (length bits) (length settings) s l t)))
      (λ s l t c.
      let C = checked_of S table (length bits) (length settings) s l t in
      (refl, undecodable _ C (fault_place_lowest table bits C.rules (tile_count S) (leb-false _ _ c))))
      (λ s l t c.
      let C = checked_of S table (length bits) (length settings) s l t in (
        record {
          size = C.size;
          lengths = record {
            table_long = C.lengths.table_long;
            bits_long = C.lengths.bits_long;
            settings_long = decoded_length table bits (tile_count S);
          };
          rules = C.rules;
        },
        decoded_reads table bits (tile_count S) C.rules (no_fault_decodable table bits C.rules (tile_count S) (leb-true _ _ c)),
        decoded_length table bits (tile_count S) ∙ sym C.lengths.settings_long,
      ))

  -- the same over what `read` promises of its answer and of the lent settings
  pub read_says : (before after : List ℕ) (a : Result (Unit {0}) Refusal) → a ≡ read_answer S table bits (length before)
      → after ≡ output (answer_number a) before (decoded table (tiles_of bits) (tile_count S)) → ReadSays S table bits before after a
  read_says before after a e q =
      subst (λ (x : List ℕ). ReadSays S table bits before x a) (sym q)
      (subst (λ (x : Result (Unit {0}) Refusal). ReadSays S table bits before (output (answer_number x) before (decoded table (tiles_of bits) (tile_count S))) x) (sym e) (read_means before))

-- ---- writing

module _ (S : Size) (table settings : List ℕ) where
  pub write_means : (bits : List ℕ)
      → WriteSays S table settings bits
      (output (answer_number (write_answer S table settings (length bits))) bits (encoded table settings (tile_count S)))
      (write_answer S table settings (length bits))
  unfolding write_answer bitless_at
  write_means bits =
      checks_cases (allowed S) (lengths_ok S (length table) (length bits) (length settings)) (table_ok logic_tile table)
      (leb (tile_count S) (bitless_tile table settings (tile_count S))) (faulty_part logic_tile table)
      (NoSuchSettings (bitless_tile table settings (tile_count S)))
      (λ (a : Result (Unit {0}) Refusal). WriteSays S table settings bits (output (answer_number a) bits (encoded table settings (tile_count S))) a)
      (λ s. (refl, writing.wrong_size (no_size S table (length bits) (length settings) s)))
      (λ s l. (refl, writing.wrong_length (no_length S table (length bits) (length settings) s l)))
      (λ s l t. (refl, writing.broken _ (no_table S table (length bits) (length settings) s l t)))
      (λ s l t c.
      let C = checked_of S table (length bits) (length settings) s l t in
      (refl, writing.bitless _ C (bitless_lowest table settings (tile_count S) C.rules C.lengths.settings_long (leb-false (tile_count S) _ c))))
      (λ s l t c.
      let C = checked_of S table (length bits) (length settings) s l t in (
        record {
          size = C.size;
          lengths = record {
            table_long = C.lengths.table_long;
            bits_long = encoded_length table settings (tile_count S);
            settings_long = C.lengths.settings_long;
          };
          rules = C.rules;
        },
        encoded_reads table settings (tile_count S) C.rules C.lengths.settings_long
            (λ i z. not-false _ (first_before (bitless_at table settings) 0 (tile_count S) i (omega arith)
            (omega (arith, leb-true (tile_count S) (bitless_tile table settings (tile_count S)) c)))),
        encoded_length table settings (tile_count S) ∙ sym C.lengths.bits_long,
      ))

  -- the same over what `write` promises of its answer and of the lent bits
  pub write_says : (before after : List ℕ) (a : Result (Unit {0}) Refusal) → a ≡ write_answer S table settings (length before)
      → after ≡ output (answer_number a) before (encoded table settings (tile_count S)) → WriteSays S table settings before after a
  write_says before after a e q =
      subst (λ (x : List ℕ). WriteSays S table settings before x a) (sym q)
      (subst (λ (x : Result (Unit {0}) Refusal). WriteSays S table settings before (output (answer_number x) before (encoded table settings (tile_count S))) x) (sym e) (write_means before))
