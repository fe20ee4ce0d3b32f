-- Both forms carry the same settings and answers (document 02, W7), closed. Main law: `same_forms`. Assumes nothing.
use Rattle.std.specs.Prelude.{Ok}
use Prim.Native.Nat.{ℕ}
use mathlib.Core.Path.{◌≡◌, refl, sym, ap, ap₂, ◌∙◌}
use mathlib.Core.List.{List}
use native.Mathlib.Omega.{arith}
use lib.ListN.{length}
use Rattle.ports.specs.declared.size.Size.{Size}
use Rattle.ports.specs.Block.{size_of, tile_count}
use Rattle.ports.specs.Lengths.{bytes_length}
use Rattle.words.specs.Packed.{FitsIn}
use Rattle.words.specs.Forms.{TileBits, byte_bits, words_of, bytes_of, tiles_of_bytes}
use Rattle.words.specs.Answers.{words_answer, bytes_answer}
use Rattle.words.specs.Meaning.{BothLong}
use Rattle.words.proofs.FormsLaws as forms
use Rattle.words.proofs.StrayLaws.{first_stray_none}
use Rattle.words.proofs.EntryLaws.{words_done, bytes_done}
use Rattle.words.proofs.MeaningLaws.{words_same, words_say, bytes_say}
use Rattle.config.specs.Blocks.{tiles_of, decoded, encoded}
use Rattle.config.specs.Bytes.{read_bytes_answer}
use Rattle.config.proofs.FormsLaws.{settings_same, tiles_read_same, fault_same, read_same, count_same}
use Rattle.config.proofs.RoundTrip.{read_writes}
use Rattle.compare.specs.Entry.{compare_answer}
use Rattle.block.specs.Building.{build_answer}
use Rattle.theorem.specs.Forms.{Converts, SameForms}

-- a yes of a conversion has the exact lengths
converts_long : (S : Size) (bytes : List ℕ) (c : Converts S bytes) → BothLong S (length bytes) (length c.0)
converts_long S bytes c = (words_say S bytes c.0 (Ok tt) (sym c.1) _ refl).0

-- the words' tiles are the bytes' tiles
tiles_of_lem : (S : Size) (bytes : List ℕ) → Converts S bytes → tiles_of (words_of (tile_count S) bytes) ≡ tiles_of_bytes bytes
tiles_of_lem S bytes c = forms.tiles_same (tile_count S) bytes (converts_long S bytes c).bytes_long

back_of_bytes : (S : Size) (bytes : List ℕ) → FitsIn byte_bits bytes → Converts S bytes
    → (bytes_answer S (words_of (tile_count S) bytes) (length bytes) ≡ (Ok tt)) × (bytes_of (tile_count S) (words_of (tile_count S) bytes) ≡ bytes)
back_of_bytes S bytes fits c =
    let long = converts_long S bytes c in
    let words = words_of (tile_count S) bytes in
    let none = first_stray_none words (forms.words_fit (tile_count S) bytes) in (
      sym (bytes_done S words (length bytes) long.right_size long.bytes_long (forms.words_length (tile_count S) bytes) (length words) (sym none) (omega arith)),
      forms.bytes_back (tile_count S) bytes long.bytes_long fits,
    )

back_of_words : (S : Size) (words bytes : List ℕ) → bytes_answer S words (length bytes) ≡ (Ok tt)
    → (words_answer S (length (bytes_of (tile_count S) words)) (length words) ≡ (Ok tt)) × (words_of (tile_count S) (bytes_of (tile_count S) words) ≡ words)
back_of_words S words bytes done =
    let z = bytes_say S words bytes (Ok tt) (sym done) _ refl in
    let long = z.0 in (
      sym (words_done S _ (length words) long.right_size (forms.bytes_length_lem (tile_count S) words) long.words_long),
      forms.words_back (tile_count S) words long.words_long z.2.fits,
    )

module _ (S : Size) (table bytes : List ℕ) (c : Converts S bytes) where
  long : length bytes ≡ bytes_length S
  long = (converts_long S bytes c).bytes_long

  -- what was read is written back, in the other form
  back_of_settings : (settings : ℕ) → read_bytes_answer S table bytes settings ≡ (Ok tt)
      → encoded table (decoded table (tiles_of_bytes bytes) (tile_count S)) (tile_count S) ≡ words_of (tile_count S) bytes
  back_of_settings settings done =
      ap (λ (st : List ℕ). encoded table st (tile_count S)) (sym (settings_same table (tile_count S) bytes long))
      ∙ (read_writes S table (words_of (tile_count S) bytes) settings (read_same S bytes long table settings ∙ done)).1

pub same_forms : SameForms
same_forms = record {
  same_bits = λ S bytes c. words_same (tile_count S) bytes;
  bytes_back = back_of_bytes;
  words_back = back_of_words;
  same_tiles = tiles_of_lem;
  reads_to = λ S table bytes settings c. tiles_read_same table (tile_count S) bytes (converts_long S bytes c).bytes_long settings;
  faults = λ S table bytes place c. fault_same table (tile_count S) bytes (converts_long S bytes c).bytes_long place;
  settings = λ S table bytes c. settings_same table (tile_count S) bytes (converts_long S bytes c).bytes_long;
  writes = λ S table bytes settings c. back_of_settings S table bytes c settings;
  reads = λ S table bytes settings c. read_same S bytes (converts_long S bytes c).bytes_long table settings;
  counts = λ S bytes tile c. count_same S bytes (converts_long S bytes c).bytes_long tile;
  compares = λ A B table first second lengths list c d.
      ap₂ (λ (one other : ℕ → TileBits). compare_answer A B table one other lengths list) (tiles_of_lem A first c) (tiles_of_lem B second d);
  builds = λ B table bytes lengths c. ap (λ (tile : ℕ → TileBits). build_answer B table tile lengths) (tiles_of_lem (size_of B) bytes c);
}
