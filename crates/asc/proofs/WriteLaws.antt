-- A block put into a room piece by piece. Main laws: `rows_start`, `-turn`, `-end`; `tiles_start`, `-fit`, `-turn`, `-end`; `head_is`.
use Prim.Native.Nat.{ℕ, ◌+◌, ◌*◌, ◌/◌, ◌%◌, ◌<◌, ◌≤◌}
use mathlib.Core.Path.{◌≡◌, refl, sym, ◌∙◌, subst}
use mathlib.Core.List.{List, [], ◌++◌}
use native.Mathlib.Omega.{arith}
use native.Mathlib.Numerals.{add-one}
use lib.ListN.{length, get_or}
use Rattle.lists.specs.Parts.{joined}
use Rattle.texts.proofs.PutsLaws.{Puts, puts_none, puts_more, puts_turn, puts_long, filled_whole, joined_grows}
use Rattle.asc.specs.Area.{Area, tiles_of}
use Rattle.texts.specs.Pieces.{line_end}
use Rattle.asc.specs.Spelling.{tile_line}
use Rattle.asc.specs.Content.{rows_length, rows_text, head_text, tile_text, device_text, written, text_length}
use Rattle.asc.proofs.LengthLaws.{row_text_length, row_at, rows_long, tiles_text_next, written_length, written_long}

-- ---- the rows of a tile

pub record RowsPut (bits : List ℕ) (t at : ℕ) (old : List ℕ) (r next : ℕ) (out : List ℕ) : Type 0 where
  pub upto : r ≤ 16
  pub room : at + rows_length ≤ length old
  pub put : Puts at (joined (λ i. row_at bits t i) r) old next out

module _ (bits : List ℕ) (t at : ℕ) (old : List ℕ) where
  pub rows_start : at + rows_length ≤ length old → RowsPut bits t at old 0 at old
  unfolding joined
  rows_start h = record { upto = omega arith; room = h; put = puts_none at [] old refl }

  module _ (r next : ℕ) (out : List ℕ) (i : RowsPut bits t at old r next out) where
    pub rows_next : next ≡ at + 55 * r
    rows_next = let e = i.put.0 in let l = rows_long bits t r in omega arith

    pub rows_room : length out ≡ length old
    rows_room = let u = i.upto in let h = i.room in let l = rows_long bits t r in puts_long at (joined (λ i. row_at bits t i) r) old next out i.put (omega arith)

    pub rows_turn : r < 16 → (last : ℕ) (out' : List ℕ) → Puts next (row_at bits t r) out last out' → RowsPut bits t at old (r + 1) last out'
    rows_turn l last out' p =
        let h = i.room in
        let n = rows_next in
        let q = row_text_length (get_or bits (16 * t + r) 0) in
        record { upto = omega arith; room = h; put = puts_turn (λ i. row_at bits t i) at r old next last out out' i.put p (omega arith) }

    pub rows_end : 16 ≤ r → Puts at (rows_text bits t) old next out
    unfolding rows_text
    rows_end l = let u = i.upto in let e : r ≡ 16 = omega arith in subst (λ (k : ℕ). Puts at (joined (λ i. row_at bits t i) k) old next out) e i.put

-- ---- the tiles of a file

pub record TilesPut (a : Area) (bits old : List ℕ) (t next : ℕ) (out : List ℕ) : Type 0 where
  pub upto : t ≤ tiles_of a
  pub room : length old ≡ text_length a
  pub put : Puts 0 (device_text ++ joined (tile_text a bits) t) old next out

module _ (a : Area) (bits old : List ℕ) where
  pub tiles_start : (next : ℕ) (out : List ℕ) → length old ≡ text_length a → Puts 0 device_text old next out → TilesPut a bits old 0 next out
  unfolding joined
  tiles_start next out h p = record { upto = omega arith; room = h; put = p }

  module _ (t next : ℕ) (out : List ℕ) (i : TilesPut a bits old t next out) where
    pub tiles_next : next ≡ 11 + length (joined (tile_text a bits) t)
    tiles_next = let e = i.put.0 in omega arith

    tiles_in : length (joined (tile_text a bits) t) ≤ length (joined (tile_text a bits) (tiles_of a))
    tiles_in = joined_grows (tile_text a bits) t (tiles_of a) i.upto

    pub tiles_room : length out ≡ length old
    tiles_room =
        let h = i.room in
        let w = written_length a bits in
        let v = written_long a bits in
        let g = tiles_in in
        puts_long 0 (device_text ++ joined (tile_text a bits) t) old next out i.put (omega arith)

    -- there is room for one more
    pub tiles_fit : t < tiles_of a → next + length (tile_text a bits t) ≤ length old
    tiles_fit l =
        let h = i.room in
        let w = written_length a bits in
        let v = written_long a bits in
        let n = tiles_next in
        let s = tiles_text_next a bits t in
        let g = joined_grows (tile_text a bits) (t + 1) (tiles_of a) (omega arith) in
        omega arith

    pub tiles_turn : t < tiles_of a → (last : ℕ) (out' : List ℕ) → Puts next (tile_text a bits t) out last out' → TilesPut a bits old (t + 1) last out'
    unfolding joined
    tiles_turn l last out' p =
        record {
          upto = omega arith;
          room = i.room;
          put = rw (add-one t) (puts_more 0 (device_text ++ joined (tile_text a bits) t) (tile_text a bits t) old next last out out' i.put p (tiles_fit l));
        }

    pub tiles_end : tiles_of a ≤ t → out ≡ written a bits
    unfolding written
    tiles_end l =
        let u = i.upto in
        let e : t ≡ tiles_of a = omega arith in
        filled_whole (device_text ++ joined (tile_text a bits) (tiles_of a)) old next out
        (subst (λ (k : ℕ). Puts 0 (device_text ++ joined (tile_text a bits) k) old next out) e i.put)
        (i.room ∙ sym (written_length a bits))

-- the line of tile t, where its coordinates are known
pub head_is : (a : Area) (t x y : ℕ) → x ≡ a.x + t % a.w → y ≡ a.y + t / a.w → head_text a t ≡ tile_line x y ++ line_end
unfolding head_text
head_is a t x y e f = rw (e, f)
