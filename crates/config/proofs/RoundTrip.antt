-- Both round trips of a block, of every size. Main laws: `written_reads`: settings that are written are read back the same; `read_writes`: bits
-- that are read are written back the same: what can be decoded has nothing past its columns. Assumes nothing.
use Rattle.std.specs.Prelude.{Ok}
use mathlib.Core.Path.{◌≡◌, sym, ap, ◌∙◌}
use mathlib.Core.Bool.{false, not}
use mathlib.Core.List.{List}
use Prim.Native.Nat.{ℕ, ◌<◌}
use native.Mathlib.Omega.{arith}
use lib.ListN.{length}
use Rattle.lists.proofs.SearchLaws.{first_none}
use Rattle.ports.specs.declared.size.Size.{Size}
use Rattle.ports.specs.Block.{tile_count}
use Rattle.codec.specs.Limits.{settings_fit}
use Rattle.codec.proofs.ReadingLaws.{decode_fits}
use Rattle.config.specs.Blocks.{bits_at, decoded, bitless_at, encoded, tiles_of}
use Rattle.config.specs.Entry.{read_answer, write_answer}
use Rattle.config.specs.Facts.{Checked, TilesRead}
use Rattle.config.proofs.EntryLaws.{read_done, write_done}
use Rattle.config.proofs.FaultPlaceLaws.{decodable_no_fault}
use Rattle.config.proofs.PassedLaws.{read_passed, read_clean, write_passed, write_fit}
use Rattle.config.proofs.BlocksLaws.{decoded_length, decoded_at_lem, decoded_reads, decoded_is, encoded_length, encoded_reads, encoded_is}

-- "Writing settings gives bits that read back the same"
module _ (S : Size) (table settings : List ℕ) (bits : ℕ) (done : write_answer S table settings bits ≡ (Ok tt)) where
  abbrev W : Checked S table bits (length settings)
  W = write_passed S table settings bits done

  abbrev written : List ℕ
  written = encoded table settings (tile_count S)

  back : TilesRead table (tiles_of written) settings (tile_count S)
  back = encoded_reads table settings (tile_count S) W.rules W.lengths.settings_long (write_fit S table settings bits done)

  pub written_reads : (read_answer S table (encoded table settings (tile_count S)) (length settings) ≡ (Ok tt))
      × (decoded table (tiles_of (encoded table settings (tile_count S))) (tile_count S) ≡ settings)
  written_reads = (
    sym (read_done S table written (length settings) (record {
      size = W.size;
      lengths = record {
        table_long = W.lengths.table_long;
        bits_long = encoded_length table settings (tile_count S);
        settings_long = W.lengths.settings_long;
      };
      rules = W.rules;
    })
        _ (decodable_no_fault table written W.rules (tile_count S) back.decodable) (omega arith)),
    decoded_is table written (tile_count S) W.rules settings W.lengths.settings_long back,
  )

-- "bits that were read are written back the same"
module _ (S : Size) (table bits : List ℕ) (settings : ℕ) (done : read_answer S table bits settings ≡ (Ok tt)) where
  abbrev R : Checked S table (length bits) settings
  R = read_passed S table bits settings done

  abbrev taken : List ℕ
  taken = decoded table (tiles_of bits) (tile_count S)

  taken_fits : (t : ℕ) → t < tile_count S → bitless_at table taken t ≡ false
  unfolding bitless_at
  taken_fits t l =
      ap not (ap (settings_fit table) (decoded_at_lem table bits (tile_count S) t l)
      ∙ decode_fits table (bits_at bits t) R.rules (read_clean S table bits settings done t l))

  pub read_writes : (write_answer S table (decoded table (tiles_of bits) (tile_count S)) (length bits) ≡ (Ok tt))
      × (encoded table (decoded table (tiles_of bits) (tile_count S)) (tile_count S) ≡ bits)
  read_writes = (
    sym (write_done S table taken (length bits) (record {
      size = R.size;
      lengths = record {
        table_long = R.lengths.table_long;
        bits_long = R.lengths.bits_long;
        settings_long = decoded_length table bits (tile_count S);
      };
      rules = R.rules;
    })
        (tile_count S) (sym (first_none (bitless_at table taken) (tile_count S) taken_fits)) (omega arith)),
    encoded_is table taken (tile_count S) R.rules bits R.lengths.bits_long
        (decoded_reads table bits (tile_count S) R.rules (read_clean S table bits settings done)),
  )
