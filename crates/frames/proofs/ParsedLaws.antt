-- What is answered to an input, ground by ground: `parsed` at each of its tests.
use Rattle.ports.specs.Block.{block}
use Rattle.std.specs.Prelude.{Ok, Err}
use mathlib.Core.Path.{◌≡◌}
use mathlib.Core.List.{List}
use mathlib.Core.Bool.{true, false, ◌&&◌}
use mathlib.Core.Logic.{◌≢◌}
use Prim.Native.Nat.{ℕ, ◌+◌, ◌<◌, ◌≤◌}
use native.Mathlib.Nat.{mul-le-mul}
use borrow.Author.Tests.{leb-true, le-leb, lt-leb, eq-eqb, ne_eqb}
use lib.Dec.{leb}
use lib.ListN.{length}
use Rattle.lists.proofs.CaseLaws.{and_left, and_right}
use Rattle.refusal.specs.declared.Refusal.TheVariants.{WrongSize, Line}
use Rattle.frames.specs.Lines.{fields_line, passive_line, size_line}
use Rattle.frames.specs.Input.{group_count, size_at, width, height, east, small, tiles_due, tile_at, tile_count, Opened, parsed}

small_most : (n : ℕ) → small n ≡ true → n ≤ 3
small_most n e = leb-true n 3 (and_right (leb 1 n) (leb n 3) e)

module _ (s : List ℕ) where
  pub parsed_no_fields : fields_line s ≡ false → parsed s ≡ Err (Line 1)
  unfolding parsed
  parsed_no_fields e = rw e

  pub parsed_no_passives : fields_line s ≡ true → passive_line s ≡ false → parsed s ≡ Err (Line 2)
  unfolding parsed
  parsed_no_passives f e = rw (f, e)

  pub parsed_no_size : fields_line s ≡ true → passive_line s ≡ true → size_line s (size_at s) ≡ false → parsed s ≡ Err (Line (3 + group_count s))
  unfolding parsed
  parsed_no_size f p e = rw (f, p, e)

  pub parsed_not_small : fields_line s ≡ true → passive_line s ≡ true → size_line s (size_at s) ≡ true → small (width s) && small (height s) ≡ false → parsed s ≡ Err WrongSize
  unfolding parsed
  parsed_not_small f p z e = rw (f, p, z, e)

module _ (s : List ℕ) (o : Opened s) where
  pub due_le : tiles_due s ≤ 9
  due_le = mul-le-mul (small_most (height s) (and_right (small (width s)) (small (height s)) o.few)) (small_most (width s) (and_left (small (width s)) (small (height s)) o.few))

  pub parsed_no_tile : tile_count s < tiles_due s → parsed s ≡ Err (Line (4 + group_count s + tile_count s))
  unfolding parsed
  parsed_no_tile l = rw (o.fields, o.passives, o.size, o.few, lt-leb (tiles_due s) (tile_count s) l)

  pub parsed_extra : tiles_due s ≤ tile_count s → length s ≢ tile_at s (tiles_due s) → parsed s ≡ Err (Line (4 + group_count s + tiles_due s))
  unfolding parsed
  parsed_extra l n = rw (o.fields, o.passives, o.size, o.few, le-leb (tiles_due s) (tile_count s) l, ne_eqb (length s) (tile_at s (tiles_due s)) n)

  pub parsed_block : tiles_due s ≤ tile_count s → length s ≡ tile_at s (tiles_due s) → parsed s ≡ Ok (block (width s) (height s) (east s))
  unfolding parsed
  parsed_block l e = rw (o.fields, o.passives, o.size, o.few, le-leb (tiles_due s) (tile_count s) l, eq-eqb (length s) (tile_at s (tiles_due s)) e)
