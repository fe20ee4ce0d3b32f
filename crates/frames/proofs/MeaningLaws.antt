-- Every answer to an input says what specs/Meaning.antt has it say. Main laws: `parsed_says`; `east_few`. Assumes nothing.
use Rattle.ports.specs.declared.size.Block.{Block}
use Rattle.refusal.specs.declared.Refusal.{Refusal}
use Rattle.std.specs.Prelude.{Result}
use Prim.Native.Nat.{ℕ, ◌+◌, ◌-◌, ◌<◌, ◌≤◌}
use mathlib.Core.Path.{◌≡◌, refl, sym, subst}
use mathlib.Core.Bool.{true, false, ◌&&◌}
use mathlib.Core.List.{List, [], ◌∷◌, map}
use native.Mathlib.Omega.{arith}
use borrow.Author.Tests.{leb-true, leb-false, eqb-true, eqb-false}
use lib.Dec.{eqb, leb}
use lib.ListN.{length}
use Rattle.lists.proofs.CaseLaws.{clash}
use Rattle.refusal.proofs.GroundsLaws.{unless_cases}
use Rattle.texts.specs.Each.{Each}
use Rattle.texts.proofs.EachLaws.{holds_behind}
use Rattle.frames.specs.Frames.{group, size, tile, Proper, east_of}
use Rattle.frames.specs.Lines.{fields_line, passive_line, size_line}
use Rattle.frames.specs.Input.{group_count, size_at, width, height, east, small, tiles_due, tile_at, tile_count, parsed}
use Rattle.frames.specs.Whole.{Small}
use Rattle.frames.specs.Meaning.{begun, with_fields, with_groups, tiles_left, nothing, LineSays, SizeSays, BlockSays, wrong_size, bad_line, ParsedSays}
use Rattle.frames.proofs.SmallLaws.{small_of, small_passes}
use Rattle.frames.proofs.FrameLaws.{extra_read, east_read, size_reads}
use Rattle.frames.proofs.TurnLaws.{groups_frames_length, tiles_frames_length, group_stops, tile_stops, begins_fields, begins_groups, begins_tiles}
use Rattle.frames.proofs.StuckLaws.{stuck_begun, stuck_fields, stuck_groups, stuck_tiles, stuck_end}
use Rattle.frames.proofs.WholeLaws.{input_read, table_holds, bits_flat, input_whole}

module _ (s : List ℕ) where
  -- ---- each answer

  line_one : fields_line s ≡ false → LineSays s 1
  line_one e = record { frames = []; at = 0; stage = begun; begins = nothing; stuck = stuck_begun s e; place = refl }

  module _ (one : fields_line s ≡ true) where
    line_two : passive_line s ≡ false → LineSays s 2
    line_two e = record { frames = _; at = 15; stage = with_fields; begins = begins_fields s one; stuck = stuck_fields s e; place = refl }

    module _ (two : passive_line s ≡ true) where
      line_size : size_line s (size_at s) ≡ false → LineSays s (3 + group_count s)
      unfolding size_at
      line_size e = record {
        frames = _;
        at = size_at s;
        stage = with_groups (group_count s);
        begins = begins_groups s one two (group_count s) (omega arith);
        stuck = stuck_groups s (size_at s) (group_count s) (group_stops s) e;
        place = omega (arith, groups_frames_length s (group_count s));
      }

      module _ (three : size_line s (size_at s) ≡ true) where
        size_no : small (width s) && small (height s) ≡ false → SizeSays s
        unfolding size_at
        size_no e = record {
          frames = _;
          at = size_at s;
          g = group_count s;
          w = width s;
          h = height s;
          extra = extra_read s (size_at s);
          begins = begins_groups s one two (group_count s) (omega arith);
          proper = (size_reads s (size_at s) three).proper;
          stands = (size_reads s (size_at s) three).spans.stands;
          not_small = λ p. clash (small_passes (width s) (height s) p) e;
        }

        module _ (few : Small (width s) (height s)) where
          line_tile : tile_count s < tiles_due s → LineSays s (4 + group_count s + tile_count s)
          line_tile l = record {
            frames = _;
            at = tile_at s (tile_count s);
            stage = tiles_left (tiles_due s - tile_count s);
            begins = begins_tiles s one two three few (tile_count s) (omega arith);
            stuck = stuck_tiles s (tile_at s (tile_count s)) (tiles_due s - tile_count s) (omega arith) (tile_stops s l);
            place = omega (arith, tiles_frames_length s (tile_count s));
          }

          module _ (all : tiles_due s ≤ tile_count s) where
            line_extra : (length s ≡ tile_at s (tiles_due s) → ⊥) → LineSays s (4 + group_count s + tiles_due s)
            line_extra e = record {
              frames = _;
              at = tile_at s (tiles_due s);
              stage = tiles_left (tiles_due s - tiles_due s);
              begins = begins_tiles s one two three few (tiles_due s) all;
              stuck = stuck_end s (tile_at s (tiles_due s)) (tiles_due s - tiles_due s) (omega arith) (λ q. e (sym q));
              place = omega (arith, tiles_frames_length s (tiles_due s));
            }

            block_yes : length s ≡ tile_at s (tiles_due s) → BlockSays s (width s) (height s) (east s)
            block_yes e = record {
              input = input_read s;
              whole = input_whole s few (tile_at s (tiles_due s)) (tiles_due s - tiles_due s) (begins_tiles s one two three few (tiles_due s) all) e;
              w_is = refl;
              h_is = refl;
              east_is = east_read s (size_at s);
              table = table_holds s two;
              bits = bits_flat s;
            }

  pub parsed_says : ParsedSays s (parsed s)
  unfolding parsed
  parsed_says =
      unless_cases (ParsedSays s) (fields_line s) _ _ (λ e. bad_line _ (line_one e))
      (λ one. unless_cases (ParsedSays s) (passive_line s) _ _ (λ e. bad_line _ (line_two one e))
      (λ two. unless_cases (ParsedSays s) (size_line s (size_at s)) _ _ (λ e. bad_line _ (line_size one two e))
      (λ three. unless_cases (ParsedSays s) (small (width s) && small (height s)) _ _ (λ e. wrong_size (size_no one two three e))
      (λ e. let few = small_of (width s) (height s) e in
      unless_cases (ParsedSays s) (leb (tiles_due s) (tile_count s)) _ _ (λ e. bad_line _ (line_tile one two three few (leb-false (tiles_due s) (tile_count s) e)))
      (λ e. let all = leb-true (tiles_due s) (tile_count s) e in
      unless_cases (ParsedSays s) (eqb (length s) (tile_at s (tiles_due s))) _ _ (λ e. bad_line _ (line_extra one two three few all (eqb-false (length s) (tile_at s (tiles_due s)) e)))
      (λ e. block_yes one two three few all (eqb-true (length s) (tile_at s (tiles_due s)) e)))))))

  -- an answer that is the right one says what it should
  pub says_too : (r : Result Block Refusal) → r ≡ parsed s → (r ≡ parsed s) × ParsedSays s r
  says_too r e = (e, subst (ParsedSays s) (sym e) parsed_says)

-- what a yes says of the column to the east is 0 or 1
pub east_few : (s : List ℕ) (w h e : ℕ) → BlockSays s w h e → e < 2
east_few s w h e says =
    let i = says.input in
    let fit = (holds_behind Proper (map group i.groups) (size i.w i.h i.extra ∷ map tile i.tiles) says.whole.proper.1.1).0 in
    subst (λ (b : ℕ). b < 2) says.east_is (go i.extra fit.2.bits)
  where
    go : (extra : List ℕ) → Each (λ (b : ℕ). b < 2) extra → east_of extra < 2
    go [] few = omega arith
    go (b ∷ rest) few = few.0
