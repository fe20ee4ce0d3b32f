-- The grounds of a report in their order, and the line that says them. Main law: `report_order`. Assumes nothing.
use Rattle.refusal.specs.declared.Refusal.{Refusal}
use Rattle.std.specs.Prelude.{Result, Ok, Err}
use Prim.Native.Nat.{ℕ, ◌*◌}
use mathlib.Core.Path.{◌≡◌, refl, sym, ap, subst}
use mathlib.Core.Bool.{true}
use mathlib.Core.Logic.{◌≢◌}
use mathlib.Core.List.{List, [], ◌++◌, append_assoc}
use native.Mathlib.Omega.{arith}
use lib.ListN.{length}
use Rattle.lists.specs.Tables.{zeros}
use Rattle.lists.proofs.TableLaws.{zeros_length}
use Rattle.refusal.specs.Grounds.{number_of, place_of}
use Rattle.ports.specs.declared.size.Block.{Block}
use Rattle.ports.specs.Block.{Sized, size_of, tiles}
use Rattle.ports.specs.Lengths.{ports_per_tile, table_length, bits_length, bytes_length, settings_total, ports, list_length}
use Rattle.words.specs.Forms.{TileBits, words_of}
use Rattle.words.proofs.FormsLaws.{words_length, tiles_same}
use Rattle.config.specs.Blocks.{decoded, tiles_of}
use Rattle.equations.specs.Sources.{sources_of}
use Rattle.block.specs.declared.lengths.RoomLent.{RoomLent}
use Rattle.block.specs.declared.lengths.BuildLent.{BuildLent}
use Rattle.block.specs.Lengths.{BuildLong, build_lent}
use Rattle.block.specs.Building.{build_answer}
use Rattle.block.specs.Meaning.{BuildSays}
use Rattle.block.proofs.LengthLaws.{build_long_exact}
use Rattle.block.proofs.MeaningLaws.{build_says}
use Rattle.frames.specs.Contents.{table_of}
use Rattle.frames.specs.Input.{parsed}
use Rattle.frames.specs.Meaning.{ParsedSays}
use Rattle.frames.proofs.ContentsLaws.{table_long, bits_long}
use Rattle.frames.proofs.MeaningLaws.{parsed_says, east_few}
use Rattle.lines.specs.Lines.{answer_line}
use Rattle.lines.specs.Listing.{switch_lines, cell_lines}
use Rattle.reporting.specs.Report.{accepted_lines, built_lines, block_lines, parsed_lines, report_of}
use Rattle.reporting.proofs.ReportLaws.{small_size}
use Rattle.theorem.specs.ReportGrounds.{Taken, block_taken, bytes_taken, tiles_taken, LinesGrounds, ReportSays}
use Rattle.theorem.specs.BlockGrounds.{BitsGrounds}
use Rattle.theorem.proofs.BlockOrder.{bits_no, bits_yes}
use Rattle.theorem.proofs.ParseOrder.{input_no, input_yes}

-- ---- building with exact lengths

-- the lengths of a work room that is as long as building asks
abbrev room_for : Block → RoomLent
room_for B = record { list = list_length B; wires = ports B; sources = ports B; rows = list_length B; marks = ports B; queue = ports B }

abbrev settings_for : Block → List ℕ
settings_for B = zeros (settings_total (size_of B))

module _ (B : Block) (t bits : List ℕ) where
  abbrev lent : BuildLent
  lent = build_lent t bits (settings_for B) (room_for B)

  lent_long : length t ≡ table_length → length bits ≡ bits_length (size_of B) → BuildLong B lent
  lent_long table_is bits_are = record {
    table_long = table_is;
    bits_long = bits_are;
    settings_long = zeros_length (settings_total (size_of B));
    room_long = record { list_long = refl; wires_long = refl; sources_long = refl; rows_long = refl; marks_long = refl; queue_long = refl };
  }

  exact_says : BuildLong B lent → BuildSays B t bits lent (build_answer B t (tiles_of bits) true)
  exact_says L = build_says B t bits (settings_for B) (room_for B) _ (ap (build_answer B t (tiles_of bits)) (sym ((build_long_exact B lent).1 L)))

-- ---- the last line of an accepted block's report

abbrev lines_before : Block → List ℕ → List ℕ → List ℕ
lines_before B t st = switch_lines (sources_of B t st) (ports_per_tile * tiles B) ++ cell_lines st (tiles B)

accepted_last : (B : Block) (t st : List ℕ) → accepted_lines B t st ≡ lines_before B t st ++ answer_line 0 0
unfolding accepted_lines
accepted_last B t st = sym (append_assoc (switch_lines (sources_of B t st) (ports_per_tile * tiles B)) (cell_lines st (tiles B)) (answer_line 0 0))

-- ---- the report

module _ (s : List ℕ) where
  taken_sized : (x : Taken s) → Sized (block_taken x)
  taken_sized x =
      let few = small_size s (Ok (block_taken x)) x.w x.h x.east x.says refl in
      let w = few.w_few in
      let h = few.h_few in
      record { w_some = few.w_some; w_few = omega arith; h_some = few.h_some; h_few = omega arith; east_known = east_few s x.w x.h x.east x.says }

  lengths_exact : (x : Taken s) → (length (table_of s) ≡ table_length) × (length (bytes_taken x) ≡ bytes_length (size_of (block_taken x)))
  lengths_exact x = (table_long s, bits_long s (tiles (block_taken x)))

  module _ (x : Taken s) where
    abbrev B : Block
    B = block_taken x

    abbrev t : List ℕ
    t = table_of s

    -- the words of the frames' bytes, which are what is built
    abbrev words : List ℕ
    words = words_of (tiles B) (bytes_taken x)

    long : BuildLong B (lent B t words)
    long = lent_long B t words (lengths_exact x).0 (words_length (tiles B) (bytes_taken x))

    -- what comes with a yes, and what a report says behind the frames, for tiles in either form
    abbrev GivenOf : (ℕ → TileBits) → List ℕ → ℕ → Type 0
    GivenOf tile report place = (place ≡ 0) × (report ≡ accepted_lines B t (decoded t tile (tiles B)))

    record Said (tile : ℕ → TileBits) (report : List ℕ) : Type 0 where
      number : ℕ
      place : ℕ
      grounds : BitsGrounds B t tile (decoded t tile (tiles B)) (GivenOf tile report) number place
      before : List ℕ
      last_line : report ≡ before ++ answer_line number place
      only_line : number ≢ 0 → before ≡ []

    abbrev lines_for : (ℕ → TileBits) → List ℕ
    lines_for tile = built_lines B t (decoded t tile (tiles B)) (build_answer B t tile true)

    abbrev st : List ℕ
    st = decoded t (tiles_of words) (tiles B)

    built_said : (r : Result ℕ Refusal) → BuildSays B t words (lent B t words) r → Said (tiles_of words) (built_lines B t st r)
    built_said (Ok rows) z = record {
      number = 0;
      place = 0;
      grounds = bits_yes B t words (settings_for B) (room_for B) (GivenOf (tiles_of words) (accepted_lines B t st)) z.0 z.2 0 (refl, refl);
      before = lines_before B t st;
      last_line = accepted_last B t st;
      only_line = λ n. absurd (n refl);
    }
    built_said (Err refusal) z = record {
      number = number_of refusal;
      place = place_of refusal;
      grounds = bits_no B t words (settings_for B) (room_for B) (GivenOf (tiles_of words) (answer_line (number_of refusal) (place_of refusal))) (taken_sized x) long refusal z;
      before = [];
      last_line = refl;
      only_line = λ n. refl;
    }

    -- the bytes' tiles are the words' tiles
    taken_said : Said (tiles_taken x) (lines_for (tiles_taken x))
    taken_said =
        subst (λ (tile : ℕ → TileBits). Said tile (lines_for tile)) (tiles_same (tiles B) (bytes_taken x) (lengths_exact x).1)
        (built_said (build_answer B t (tiles_of words) true) (exact_says B t words long))

    taken_report : ReportSays s (block_lines B t (tiles_taken x))
    unfolding block_lines
    taken_report = record {
      number = taken_said.number;
      place = taken_said.place;
      grounds = input_yes s (LinesGrounds (lines_for (tiles_taken x))) x taken_said.number taken_said.place taken_said.grounds;
      exact = lengths_exact;
      before = taken_said.before;
      last_line = taken_said.last_line;
      only_line = taken_said.only_line;
    }

  parsed_report : (r : Result Block Refusal) → parsed s ≡ r → ReportSays s (parsed_lines s r)
  parsed_report (Ok b) e = taken_report (record { w = b.w; h = b.h; east = b.east; says = subst (ParsedSays s) e (parsed_says s) })
  parsed_report (Err refusal) e = record {
    number = number_of refusal;
    place = place_of refusal;
    grounds = input_no s (LinesGrounds (answer_line (number_of refusal) (place_of refusal))) refusal e;
    exact = lengths_exact;
    before = [];
    last_line = refl;
    only_line = λ n. refl;
  }

  pub report_order : ReportSays s (report_of s)
  unfolding report_of
  report_order = parsed_report (parsed s) refl
