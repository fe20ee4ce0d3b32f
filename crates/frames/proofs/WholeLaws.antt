-- The input that a yes has read: its frames, and that table and bits hold what they say. Main laws: `table_holds`, `bits_flat`, `input_whole`.
use Prim.Native.Nat.{ℕ, ◌+◌, ◌*◌, ◌<◌, ◌≤◌}
use mathlib.Core.Path.{◌≡◌, sym, ap, ◌∙◌, subst}
use mathlib.Core.Bool.{true}
use mathlib.Core.List.{List}
use native.Mathlib.Omega.{arith}
use lib.ListN.{length, get_or, take}
use lib.Seq.{take-length}
use Rattle.lists.proofs.TableLaws.{tabulate_length}
use Rattle.routing.specs.LogicTile.{logic_tile}
use Rattle.routing.specs.Table.{position_at, passive_at}
use Rattle.texts.specs.Hex.{quad_at}
use Rattle.frames.specs.Lines.{passive_count, position_count, entry_count, passive_line}
use Rattle.frames.specs.Input.{group_at, group_count, size_at, width, height, tiles_due, tile_at}
use Rattle.frames.specs.Whole.{Input, Small, Whole, EntryHolds, GroupHolds, Holds, flat}
use Rattle.frames.specs.Contents.{head_number, group_number, table_of, bytes_of_tile, bits_of}
use Rattle.frames.specs.Meaning.{Begins, tiles_left}
use Rattle.texts.proofs.EachLaws.{holds_from_tabulate}
use Rattle.frames.proofs.ListReadLaws.{entry_read, quads_read}
use Rattle.frames.proofs.FrameLaws.{group_read, extra_read, tile_read, passives_reads, group_reads}
use Rattle.frames.proofs.TurnLaws.{groups_read, tiles_read, tiles_frames, counted_group, begins_text, begins_proper}
use Rattle.frames.proofs.BoundLaws.{group_count_le}
use Rattle.frames.proofs.ContentsLaws.{table_head, table_group, passive_number, position_number, pattern_number, source_number, flat_joined}

module _ (s : List ℕ) where
  abbrev pub input_read : Input
  input_read = record {
    a = quad_at s 2;
    b = quad_at s 6;
    c = quad_at s 10;
    passive = quads_read s 19 (passive_count s);
    groups = groups_read s (group_count s);
    w = width s;
    h = height s;
    extra = extra_read s (size_at s);
    tiles = tiles_read s (tiles_due s);
  }

  -- ---- the table

  -- number k of group g
  module _ (g : ℕ) (lg : g < group_count s) where
    at_group : (i k : ℕ) → i ≡ 69 + 75 * g + k → k < 75 → get_or (table_of s) i 0 ≡ group_number s (group_at s g) k
    at_group i k e l = ap (λ (x : ℕ). get_or (table_of s) x 0) e ∙ table_group s g k lg l

    group_holds : GroupHolds (table_of s) g (group_read s (group_at s g))
    unfolding group_number
    group_holds =
        let at = group_at s g in
        let p = position_count s at in
        let m = entry_count s at in
        let few = (group_reads s at (counted_group s g lg)).proper in
        let p-long = tabulate_length (λ (k : ℕ). quad_at s (at + 8 + 4 * k)) 0 p in
        let m-long = tabulate_length (λ (k : ℕ). entry_read s (at + 10 + 4 * p + 6 * k)) 0 m in
        record {
          destination = at_group (69 + 75 * g) 0 (omega arith) (omega arith);
          width = at_group (69 + 75 * g + 1) 1 (omega arith) (omega arith) ∙ sym p-long;
          positions =
              holds_from_tabulate (λ k x. position_at logic_tile (table_of s) g k ≡ x) (λ k. quad_at s (at + 8 + 4 * k)) 0 p
              (λ k _ l. at_group (69 + 75 * g + 2 + k) (2 + k) (omega arith) (omega arith) ∙ position_number s at k (omega arith) (omega arith));
          count = at_group (69 + 75 * g + 10) 10 (omega arith) (omega arith) ∙ sym m-long;
          entries =
              holds_from_tabulate (EntryHolds (table_of s) g) (λ k. entry_read s (at + 10 + 4 * p + 6 * k)) 0 m
              (λ k _ l. record {
                pattern = at_group (69 + 75 * g + 11 + 2 * k) (11 + 2 * k) (omega arith) (omega arith) ∙ pattern_number s at k (omega arith);
                source = at_group (69 + 75 * g + 12 + 2 * k) (12 + 2 * k) (omega arith) (omega arith) ∙ source_number s at k (omega arith);
              });
        }

  pub table_holds : passive_line s ≡ true → Holds (table_of s) input_read
  unfolding head_number
  table_holds two =
      let few = (passives_reads s two).proper.0 in
      let long = tabulate_length (λ (k : ℕ). quad_at s (19 + 4 * k)) 0 (passive_count s) in
      record {
        negclk = table_head s 0 (omega arith);
        carryset = table_head s 1 (omega arith);
        chain = table_head s 2 (omega arith);
        passive_count_lem = table_head s 3 (omega arith) ∙ sym long;
        passives =
            holds_from_tabulate (λ k x. passive_at logic_tile (table_of s) k ≡ x) (λ k. quad_at s (19 + 4 * k)) 0 (passive_count s)
            (λ k _ l. table_head s (4 + k) (omega arith) ∙ passive_number s k (omega arith) (omega arith));
        group_count_lem = table_head s 68 (omega arith) ∙ sym (tabulate_length (λ (g : ℕ). group_read s (group_at s g)) 0 (group_count s));
        groups = holds_from_tabulate (GroupHolds (table_of s)) (λ g. group_read s (group_at s g)) 0 (group_count s) (λ g _ l. group_holds g (omega arith));
      }

  -- ---- the bits

  pub bits_flat : bits_of s (tiles_due s) ≡ flat input_read.tiles
  unfolding bits_of
  bits_flat = flat_joined (bytes_of_tile s) (tiles_due s)

  -- ---- the text

  pub input_whole : Small (width s) (height s) → (at n : ℕ) → Begins s (tiles_frames s (tiles_due s)) at (tiles_left n) → length s ≡ at → Whole s input_read
  input_whole small at n b e = record {
    proper = begins_proper b;
    groups_few = subst (λ (k : ℕ). k ≤ 512) (sym (tabulate_length (λ (g : ℕ). group_read s (group_at s g)) 0 (group_count s))) (group_count_le s);
    small = small;
    tiles_all = tabulate_length (λ (t : ℕ). tile_read s (tile_at s t)) 0 (tiles_due s);
    is = sym (take-length s) ∙ ap (λ (k : ℕ). take k s) e ∙ begins_text b;
  }
