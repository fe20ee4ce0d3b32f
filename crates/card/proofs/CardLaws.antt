-- The computed numbers are a card, where the marks are those of leaving and of feeding wires. Main laws: `card_is`, `numbers_length`; `card_written`, `card_filled`:
-- the card as the code writes it. Assumes nothing.
use Prim.Native.Nat.{ℕ, ◌+◌, ◌-◌, ◌*◌, ◌≤◌, ◌<◌}
use mathlib.Core.Path.{◌≡◌, refl, sym, ap, ap₂, subst, ◌∙◌}
use mathlib.Core.Bool.{true}
use mathlib.Core.Logic.{◌↔◌}
use mathlib.Core.List.{List, [], ◌∷◌, ◌++◌, append_assoc, append-nil}
use native.Mathlib.Omega.{arith}
use lib.ListN.{length, get_or, set, take, drop, length-append}
use borrow.Rule.Slice.PartMut.{put_mid}
use lib.Seq.{sets, take_at, drop-append-add, drop-drop, get_or_at, get_or-drop}
use Rattle.lists.specs.Search.{count_below}
use Rattle.lists.specs.Tables.{zeros}
use Rattle.lists.specs.Listing.{here, Lists, zero_filled}
use Rattle.lists.proofs.CountLaws.{count_le}
use Rattle.lists.proofs.RowLaws.{rows_length_lem, sets_append}
use Rattle.lists.proofs.ListingLaws.{Enumerates, rows_listed, filled_rest, filled_length}
use Rattle.ports.specs.declared.size.Block.{Block}
use Rattle.ports.specs.Block.{tiles}
use Rattle.netlist.specs.Marks.{listed}
use Rattle.netlist.proofs.MarkLaws.{listed_lt}
use Rattle.card.specs.Cells.{used_cell, flop_cell}
use Rattle.card.specs.Leaving.{LeavingWire}
use Rattle.card.specs.Feeding.{FeedingWire}
use Rattle.card.specs.Card.{Wire, wire, Card, wire_row, marked, marked_count, numbers_of, needed}

-- ---- one list of wires

pub marked_length : (m : List ℕ) → length (marked m) ≡ marked_count m
marked_length m = let e : length (marked m) ≡ 1 * marked_count m = rows_length_lem (listed m) wire_row 1 (length m) (λ i l. refl) in omega arith

module _ (Is : ℕ → Type 0) (m : List ℕ) (exact : (w : ℕ) → (listed m w ≡ true) ↔ Is w) where
  every : (row : List ℕ) → Wire Is row → (i : ℕ) × (i < length m) × (listed m i ≡ true) × (wire_row i ≡ row)
  every row (wire w p) = (w, listed_lt m w ((exact w).1 p), (exact w).1 p, refl)

  enumerated : Enumerates (Wire Is) 1 (listed m) wire_row (length m)
  enumerated = record { long = λ i l. refl; rising = λ i j l k. here l; only = λ i l e. wire i ((exact i).0 e); every = every }

  wires_listed : (n : ℕ) → marked_count m ≤ n → Lists (Wire Is) 1 (zero_filled n (marked m)) (marked_count m)
  wires_listed n fits = rows_listed (Wire Is) 1 (listed m) wire_row (length m) enumerated n (omega arith)

pub marked_le : (m : List ℕ) → marked_count m ≤ length m
marked_le m = count_le (listed m) (length m)

pub needed_is : (L F : List ℕ) → needed L F ≡ 6 + marked_count L + marked_count F
unfolding needed
needed_is L F = refl

-- a list that is full has no zeros behind
filled_full : (rows : List ℕ) → zero_filled (length rows) rows ≡ rows
unfolding zero_filled
filled_full rows = ap (λ (k : ℕ). rows ++ zeros k) (let e : length rows - length rows ≡ 0 = omega arith in e) ∙ append-nil rows

-- ---- the whole card

module _ (B : Block) (cells flops : ℕ) (L F : List ℕ) where
  pub numbers_length : length (numbers_of B cells flops L F) ≡ needed L F
  unfolding numbers_of needed
  numbers_length =
      let a = length-append (marked L) (marked_count F ∷ marked F) in
      let b = marked_length L in
      let c = marked_length F in
      omega arith

  module _ (n : ℕ) where
    abbrev rest : List ℕ
    rest = zeros (n - length (numbers_of B cells flops L F))

    behind : drop 5 (zero_filled n (numbers_of B cells flops L F)) ≡ marked L ++ (marked_count F ∷ (marked F ++ rest))
    unfolding zero_filled numbers_of
    behind = append_assoc (marked L) (marked_count F ∷ marked F) rest

    head_at : (k : ℕ) → get_or (zero_filled n (numbers_of B cells flops L F)) (5 + k) 0 ≡ get_or (drop 5 (zero_filled n (numbers_of B cells flops L F))) k 0
    head_at k = sym (get_or-drop 5 (zero_filled n (numbers_of B cells flops L F)) k 0)

    leaving_part : take (marked_count L) (drop 5 (zero_filled n (numbers_of B cells flops L F))) ≡ marked L
    leaving_part = ap (take (marked_count L)) behind ∙ take_at (marked L) _ (marked_count L) (marked_length L)

    feeding_at : get_or (zero_filled n (numbers_of B cells flops L F)) (5 + marked_count L) 0 ≡ marked_count F
    feeding_at = head_at (marked_count L) ∙ ap (λ (x : List ℕ). get_or x (marked_count L) 0) behind ∙ get_or_at (marked L) (marked_count F) _ 0 (marked_count L) (marked_length L)

    feeding_part : needed L F ≤ n → drop (6 + marked_count L) (zero_filled n (numbers_of B cells flops L F)) ≡ zero_filled (n - (6 + marked_count L)) (marked F)
    unfolding zero_filled needed
    feeding_part fits =
        ap (λ (k : ℕ). drop k (zero_filled n (numbers_of B cells flops L F))) (let e : 6 + marked_count L ≡ 5 + (length (marked L) + 1) = omega (arith, marked_length L) in e)
        ∙ sym (drop-drop (length (marked L) + 1) 5 (zero_filled n (numbers_of B cells flops L F)))
        ∙ ap (drop (length (marked L) + 1)) behind
        ∙ drop-append-add (marked L) (marked_count F ∷ (marked F ++ rest)) 1
        ∙ ap (λ (k : ℕ). marked F ++ zeros k)
        (let e : n - length (numbers_of B cells flops L F) ≡ n - (6 + marked_count L) - length (marked F) = omega (arith, numbers_length, marked_length F) in e)

  -- the numbers as the code stores them, one part after another
  card_stored : (card : List ℕ) (at : ℕ) → at ≡ 5 + marked_count L
      → sets (sets (sets (sets card 0 (B.w ∷ B.h ∷ cells ∷ flops ∷ marked_count L ∷ [])) 5 (marked L)) at (marked_count F ∷ [])) (at + 1) (marked F)
      ≡ sets card 0 (numbers_of B cells flops L F)
  unfolding numbers_of
  card_stored card at e =
      ap (λ (k : ℕ). sets (sets (sets (sets card 0 head) 5 (marked L)) k (marked_count F ∷ [])) (k + 1) (marked F)) q
      ∙ sym (sets_append (sets (sets card 0 head) 5 (marked L)) (5 + length (marked L)) (marked_count F ∷ []) (marked F))
      ∙ sym (sets_append (sets card 0 head) 5 (marked L) (marked_count F ∷ marked F))
      ∙ sym (sets_append card 0 head (marked L ++ (marked_count F ∷ marked F)))
    where
      head : List ℕ
      head = B.w ∷ B.h ∷ cells ∷ flops ∷ marked_count L ∷ []

      q : at ≡ 5 + length (marked L)
      q = e ∙ ap (λ (k : ℕ). 5 + k) (sym (marked_length L))

  -- the same, store by store
  pub card_written : (card b c d : List ℕ) (leaving feeding at : ℕ) → leaving ≡ marked_count L → feeding ≡ marked_count F
      → b ≡ sets card 0 (B.w ∷ B.h ∷ cells ∷ flops ∷ leaving ∷ []) → c ≡ sets b 5 (marked L) → at ≡ 5 + marked_count L
      → d ≡ sets (set c at feeding) (at + 1) (marked F) → d ≡ sets card 0 (numbers_of B cells flops L F)
  card_written card b c d leaving feeding at el ef eb ec et ed =
      ed
      ∙ ap₂ (λ (x : List ℕ) (f : ℕ). sets (set x at f) (at + 1) (marked F))
      (ec ∙ ap (λ (x : List ℕ). sets x 5 (marked L)) (eb ∙ ap (λ (l : ℕ). sets card 0 (B.w ∷ B.h ∷ cells ∷ flops ∷ l ∷ [])) el)) ef
      ∙ card_stored card at et

  -- "the rest zeros": what lies behind the numbers was cleared, as the code lends it
  pub card_filled : (old list rest : List ℕ) (end : ℕ) → list ≡ sets old 0 (numbers_of B cells flops L F) → end ≡ needed L F → needed L F ≤ length old
      → rest ≡ zeros (length (take (length old - end) (drop end list))) → put_mid end (length old - end) list rest ≡ zero_filled (length old) (numbers_of B cells flops L F)
  card_filled old list rest end e f h r = filled_rest old list rest (numbers_of B cells flops L F) end e (f ∙ sym numbers_length) (omega (arith, numbers_length)) r

module _ (B : Block) (t st L F : List ℕ) (left : (w : ℕ) → (listed L w ≡ true) ↔ LeavingWire B t st w)
    (fed : (w : ℕ) → (listed F w ≡ true) ↔ FeedingWire B t st w) (n : ℕ) (fits : needed L F ≤ n) where
  abbrev cells : ℕ
  cells = count_below (used_cell st) (8 * tiles B)

  abbrev flops : ℕ
  flops = count_below (flop_cell st) (8 * tiles B)

  leaving_wires : Lists (Wire (LeavingWire B t st)) 1 (take (marked_count L) (drop 5 (zero_filled n (numbers_of B cells flops L F)))) (marked_count L)
  leaving_wires =
      subst (λ (x : List ℕ). Lists (Wire (LeavingWire B t st)) 1 x (marked_count L)) (filled_full (marked L) ∙ sym (leaving_part B cells flops L F n))
      (wires_listed (LeavingWire B t st) L left (length (marked L)) (omega (arith, marked_length L)))

  feeding_wires : Lists (Wire (FeedingWire B t st)) 1 (drop (6 + marked_count L) (zero_filled n (numbers_of B cells flops L F))) (marked_count F)
  unfolding needed
  feeding_wires =
      subst (λ (x : List ℕ). Lists (Wire (FeedingWire B t st)) 1 x (marked_count F)) (sym (feeding_part B cells flops L F n fits))
      (wires_listed (FeedingWire B t st) F fed (n - (6 + marked_count L)) (omega arith))

  pub card_is : Card B t st (zero_filled n (numbers_of B (count_below (used_cell st) (8 * tiles B)) (count_below (flop_cell st) (8 * tiles B)) L F)) (needed L F)
  unfolding zero_filled numbers_of needed
  card_is = record {
    width = refl;
    height = refl;
    cells = refl;
    flip_flops = refl;
    leaving = marked_count L;
    feeding = marked_count F;
    leaving_count = refl;
    leaving_wires = leaving_wires;
    feeding_count = feeding_at B cells flops L F n;
    feeding_wires = feeding_wires;
    numbers_are = refl;
    room = omega (arith, filled_length n (numbers_of B cells flops L F) (omega (arith, numbers_length B cells flops L F)));
  }
