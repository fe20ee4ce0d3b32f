-- "A written file read back at its corner and size gives the same block." Main laws: `asc_back`, `read_written`, `write_read`. Assumes nothing.
use Rattle.refusal.specs.declared.Refusal.{Refusal}
use Rattle.std.specs.Prelude.{Result, Ok}
use Prim.Native.Nat.{ℕ, zero, suc, ◌+◌, ◌-◌, ◌*◌, ◌/◌, ◌%◌, ◌<◌, ◌≤◌}
use mathlib.Core.Path.{◌≡◌, refl, sym, ap, ◌∙◌, subst, subst₂}
use mathlib.Core.Bool.{true, false}
use mathlib.Core.Logic.{⊎_elim, ◌≢◌}
use mathlib.Core.List.{List, ◌++◌, append_assoc, append-nil}
use native.Mathlib.Omega.{arith}
use lib.ListN.{length, get_or, set, length-set}
use lib.Seq.{get_or-set_same, get_or-set_other}
use Rattle.ports.specs.Lengths.{columns, tile_numbers, positions}
use Rattle.words.specs.Packed.{bit_in, number_from, packed, FitsIn}
use Rattle.words.proofs.PackedLaws.{bit_in_number}
use Rattle.lists.specs.Tables.{zeros}
use Rattle.lists.specs.Parts.{joined}
use Rattle.lists.proofs.CaseLaws.{lt_or_le, eq_or_ne}
use Rattle.lists.proofs.TableLaws.{tabulate_is, zeros_length, zeros_at}
use Rattle.texts.specs.Pieces.{placed}
use Rattle.texts.proofs.PlacedLaws.{placed_length, placed_before, placed_inside}
use Rattle.asc.specs.Area.{Area, tiles_of, sized}
use Rattle.asc.specs.Spelling.{tile_line}
use Rattle.asc.specs.Stages.{stage, Turn, the_device, a_tile, a_row, Begins, nothing, one_more, whole}
use Rattle.asc.specs.Content.{value_at, rows_packed, row_digits, row_text, rows_text, head_text, tile_text, device_text, written}
use Rattle.asc.specs.Answers.{read_answer, bits_read, write_answer}
use Rattle.asc.specs.Meaning.{AscSays}
use Rattle.asc.proofs.AreaLaws.{Sized, sized_of}
use Rattle.asc.proofs.LengthLaws.{tile_of_lem, row_at}
use Rattle.asc.proofs.WriteAnswerLaws.{write_passed}
use Rattle.asc.proofs.ExactLaws.{asc_exact}
use Rattle.asc.proofs.AnswerLaws.{read_told}
use Rattle.asc.proofs.BackLaws.{plain_device, plain_row, plain_tile, row_at_lem, row_back, row_is, row_long}

-- ---- reading what was written

-- the lines of a text were read: l rows are due from a place on, k tiles are marked, and the digits before the place are the block's
record Read (a : Area) (bits front : List ℕ) (l place k : ℕ) : Type 0 where
  n : ℕ
  g : List ℕ
  c : List ℕ
  begins : Begins a front n (stage true false l place g c)
  given_long : length g ≡ tiles_of a
  content_long : length c ≡ positions * tiles_of a
  marked : (i : ℕ) → i < k → get_or g i 0 ≡ 1
  unmarked : (i : ℕ) → k ≤ i → get_or g i 0 ≡ 0
  digits : (q : ℕ) → q < place → get_or c q 0 ≡ 48 + bit_in columns bits q

module _ (a : Area) (bits : List ℕ) where
  read_to : {f f' : List ℕ} {l l' p p' k : ℕ} → Read a bits f l p k → f ≡ f' → l ≡ l' → p ≡ p' → Read a bits f' l' p' k
  read_to {f} {f'} {l} {l'} {p} {p'} {k} r e u v =
      subst (λ (f : List ℕ). Read a bits f l' p' k) e (subst₂ (λ (l p : ℕ). Read a bits f l p k) u v r)

  read_device : Read a bits device_text 0 0 0
  read_device = record {
    n = 1;
    g = zeros (tiles_of a);
    c = zeros (positions * tiles_of a);
    begins = one_more nothing plain_device the_device;
    given_long = zeros_length (tiles_of a);
    content_long = zeros_length (positions * tiles_of a);
    marked = λ i l. absurd (omega arith);
    unmarked = λ i l. zeros_at (tiles_of a) i;
    digits = λ q l. absurd (omega arith);
  }

  read_row : (f : List ℕ) (l i k : ℕ) → 54 * i + 54 ≤ positions * tiles_of a → Read a bits f (suc l) (54 * i) k
      → Read a bits (f ++ row_text (get_or bits i 0)) l (54 * i + 54) k
  read_row f l i k h r =
      let word : ℕ = get_or bits i 0 in
      let room = r.content_long in
      let in_room : 54 * i ≤ length r.c = omega arith in
      let long = row_long word in
      record {
        n = suc r.n;
        g = r.g;
        c = placed (54 * i) (row_digits word) r.c;
        begins = one_more r.begins (plain_row word) (a_row (row_is word));
        given_long = r.given_long;
        content_long = placed_length (54 * i) (row_digits word) r.c (omega arith) ∙ r.content_long;
        marked = r.marked;
        unmarked = r.unmarked;
        digits = λ q b.
            ⊎_elim (λ (m : q < 54 * i). placed_before (54 * i) (row_digits word) r.c in_room q m ∙ r.digits q m)
            (λ (m : 54 * i ≤ q).
            let e : 54 * i + (q - 54 * i) ≡ q = omega arith in
            let o : i * columns + (q - 54 * i) ≡ q = omega arith in
            ap (λ (x : ℕ). get_or (placed (54 * i) (row_digits word) r.c) x 0) (sym e)
            ∙ placed_inside (54 * i) (row_digits word) r.c in_room (q - 54 * i) (omega arith)
            ∙ row_at_lem word (q - 54 * i) (omega arith)
            ∙ ap (λ (x : ℕ). 48 + x) (sym (bit_in_number columns (omega arith) bits i (q - 54 * i) (omega arith)) ∙ ap (bit_in columns bits) o))
            (lt_or_le q (54 * i));
      }

  read_rows : (f : List ℕ) (t k r : ℕ) → r ≤ 16 → t < tiles_of a → Read a bits f 16 (positions * t) k
      → Read a bits (f ++ joined (λ i. row_at bits t i) r) (16 - r) (positions * t + 54 * r) k
  unfolding joined
  read_rows f t k zero b l i = read_to i (sym (append-nil f)) refl (let e : positions * t ≡ positions * t + 54 * 0 = omega arith in e)
  read_rows f t k (suc r) b l i =
      let before = read_rows f t k r (omega arith) l i in
      let due : 16 - r ≡ suc (16 - suc r) = omega arith in
      let place : positions * t + 54 * r ≡ 54 * (16 * t + r) = omega arith in
      read_to (read_row (f ++ joined (λ i. row_at bits t i) r) (16 - suc r) (16 * t + r) k (omega arith) (read_to before refl due place))
      (append_assoc f (joined (λ i. row_at bits t i) r) (row_at bits t r)) refl (let e : 54 * (16 * t + r) + 54 ≡ positions * t + 54 * suc r = omega arith in e)

  module _ (size : Sized a) where
    read_head : (f : List ℕ) (t : ℕ) → t < tiles_of a → Read a bits f 0 (positions * t) t → Read a bits (f ++ head_text a t) 16 (positions * t) (suc t)
    unfolding head_text
    read_head f t l r =
        let z = tile_of_lem a size t l in
        let across = z.across in
        let up = z.up in
        let x_fits = size.x_fits in
        let y_fits = size.y_fits in
        let long = r.given_long in
        let turn : Turn a (stage true false 0 (positions * t) r.g r.c) (tile_line (a.x + t % a.w) (a.y + t / a.w)) (stage true false 16 (positions * t) (set r.g t 1) r.c) =
        subst (λ (x : ℕ). Turn a (stage true false 0 (positions * t) r.g r.c) (tile_line (a.x + t % a.w) (a.y + t / a.w)) (stage true false 16 (positions * x) (set r.g x 1) r.c))
        z.index
        (a_tile {i = t % a.w} {j = t / a.w} z.across z.up (ap (λ (x : ℕ). get_or r.g x 0) z.index ∙ r.unmarked t (omega arith))) in
        record {
          n = suc r.n;
          g = set r.g t 1;
          c = r.c;
          begins = one_more r.begins (plain_tile (a.x + t % a.w) (a.y + t / a.w) (omega arith) (omega arith)) turn;
          given_long = length-set r.g t 1 ∙ r.given_long;
          content_long = r.content_long;
          marked = λ i b.
              ⊎_elim (λ (e : i ≡ t). ap (λ (x : ℕ). get_or (set r.g t 1) x 0) e ∙ get_or-set_same r.g t 1 0 (omega arith))
              (λ (h : i ≢ t). get_or-set_other r.g t i 1 0 h ∙ r.marked i (⊎_elim (λ (m : i < t). m) (λ (m : t ≤ i). absurd (h (omega arith))) (lt_or_le i t)))
              (eq_or_ne i t);
          unmarked = λ i b. get_or-set_other r.g t i 1 0 (λ e. absurd (omega arith)) ∙ r.unmarked i (omega arith);
          digits = r.digits;
        }

    read_tile : (f : List ℕ) (t : ℕ) → t < tiles_of a → Read a bits f 0 (positions * t) t → Read a bits (f ++ tile_text a bits t) 0 (positions * suc t) (suc t)
    unfolding rows_text
    read_tile f t l r =
        read_to (read_rows (f ++ head_text a t) t (suc t) 16 (omega arith) l (read_head f t l r)) (append_assoc f (head_text a t) (rows_text bits t)) refl
        (let e : positions * t + 54 * 16 ≡ positions * suc t = omega arith in e)

    read_tiles : (t : ℕ) → t ≤ tiles_of a → Read a bits (device_text ++ joined (tile_text a bits) t) 0 (positions * t) t
    unfolding joined
    read_tiles zero l = read_device
    read_tiles (suc t) l = read_tile (device_text ++ joined (tile_text a bits) t) t (omega arith) (read_tiles t (omega arith))

-- the block's bits, and a yes, are what reading the written file says
module _ (a : Area) (bits before : List ℕ) (size : sized a ≡ true) (long : length bits ≡ tile_numbers * tiles_of a) (fits : FitsIn columns bits)
    (room : length before ≡ tile_numbers * tiles_of a) where
  pub written_says : AscSays a (written a bits) before bits (Ok tt)
  unfolding written rows_packed packed
  written_says =
      let r = read_tiles a bits (sized_of a size) (tiles_of a) (omega arith) in (
        record { right_size = size; right_length = room },
        record {
          content = r.c;
          all_says = record { n = r.n; st = stage true false 0 (positions * tiles_of a) r.g r.c; begins = r.begins; all_there = whole r.marked; digits_are = refl };
          bits_are = tabulate_is (λ (i : ℕ). number_from columns (value_at r.c) (i * columns)) 0 (tile_numbers * tiles_of a) bits long
              (λ i l. row_back bits r.c i (fits i) (λ q m. r.digits q (omega arith)));
        },
      )

  -- and no other answer fits
  pub asc_back : (r : Result (Unit {0}) Refusal) (after : List ℕ) → AscSays a (written a bits) before after r → (r ≡ (Ok tt)) × (after ≡ bits)
  asc_back r after says = asc_exact a (written a bits) before after bits r (Ok tt) says written_says

  -- the same as equations
  pub read_written : (read_answer a (written a bits) (length before) ≡ (Ok tt)) × (bits_read a (written a bits) ≡ bits)
  read_written = let e = read_told a (written a bits) before bits (Ok tt) written_says in (sym e.0, sym e.1.0)

-- Demand 2 over this route: where `write` says yes, `read` of what it wrote, at the same corner and size, says yes and gives the same bits.
pub write_read : (a : Area) (bits text before : List ℕ) → write_answer a bits (length text) ≡ (Ok tt) → length before ≡ length bits → (r : Result (Unit {0}) Refusal) (after : List ℕ)
    → AscSays a (written a bits) before after r → (r ≡ (Ok tt)) × (after ≡ bits)
write_read a bits text before w room r after says =
    let p = write_passed a bits text w in
    let lent = p.0 in
    asc_back a bits before lent.right_size lent.bits_long p.1 (room ∙ lent.bits_long) r after says
