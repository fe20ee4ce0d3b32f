-- An input of any length has the answer of its first 131,072 bytes: a good beginning ends before, and nothing behind it is looked at. Main law:
-- `parsed_prefix`.
use Rattle.ports.specs.Block.{block}
use Rattle.std.specs.Prelude.{Ok, Err}
use Prim.Native.Nat.{ℕ, zero, suc, ◌+◌, ◌*◌, ◌<◌, ◌≤◌}
use mathlib.Core.Path.{◌≡◌, refl, sym, ap, ap₂, ◌∙◌}
use mathlib.Core.Bool.{Bool, true, false, not, cond, ◌&&◌}
use mathlib.Core.Logic.{⊎_elim}
use mathlib.Core.List.{List}
use native.Mathlib.Omega.{arith}
use borrow.Author.Tests.{ne_eqb}
use lib.Dec.{eqb, leb, ltb}
use lib.ListN.{length, take, get_or}
use lib.Seq.{get_or-take, length-take-le, take_all}
use Rattle.lists.specs.Search.{first}
use Rattle.lists.proofs.CaseLaws.{lt_or_le}
use Rattle.lists.proofs.SearchLaws.{first_at, first_none, first_ext}
use Rattle.refusal.specs.Grounds.{unless}
use Rattle.refusal.specs.declared.Refusal.TheVariants.{Line}
use Rattle.texts.specs.Hex.{pair_at}
use Rattle.frames.specs.Lines.{is_line, group_digits, group_line, size_digits, east_at, size_line, tile_line}
use Rattle.frames.specs.Input.{group_at, group_count, size_at, width, height, east, small, tiles_due, tiles_from, tile_at, tile_count, parsed}
use Rattle.texts.proofs.HexLaws.{pair_lt}
use Rattle.frames.proofs.TurnLaws.{counted_group, group_stops}
use Rattle.frames.proofs.BoundLaws.{group_count_le, size_digits_le}
use Rattle.frames.proofs.SmallLaws.{small_of, small_due}
use Rattle.frames.proofs.AgreeLaws.{Agree, pair_same, line_same, passive_same, group_digits_same, group_same, group_digits_le}

unless_same : {A : Type 0} {b c : Bool} {r q x y : A} → b ≡ c → r ≡ q → (b ≡ true → x ≡ y) → unless b r x ≡ unless c q y
unless_same {A} {b} {c} {r} {q} {x} {y} e f h = go b refl ∙ ap (λ (d : Bool). unless d q y) e
  where
    go : (d : Bool) → b ≡ d → unless d r x ≡ unless d q y
    go true k = h k
    go false k = f

-- where a line of a good beginning begins
pub group_at_le : (s : List ℕ) (g : ℕ) → g ≤ group_count s → group_at s g ≤ 1040 + 235 * g
unfolding group_at
group_at_le s zero l = omega (arith, pair_lt s 17)
group_at_le s (suc g) l = omega (arith, group_at_le s g (omega arith), group_digits_le s (group_at s g) (counted_group s g l))

pub size_at_le : (s : List ℕ) → size_at s ≤ 121360
unfolding size_at
size_at_le s = omega (arith, group_at_le s (group_count s) (omega arith), group_count_le s)

-- ---- two inputs that agree so far

module _ (s t : List ℕ) (same : Agree s t 131072) where
  group_at_same : (g : ℕ) → g ≤ group_count s → group_at s g ≡ group_at t g
  unfolding group_at
  group_at_same zero l = ap (λ (c : ℕ). 20 + 4 * c) (pair_same s t 131072 same 17 (omega arith))
  group_at_same (suc g) l =
      let at = group_at s g in
      ap₂ (λ (a d : ℕ). a + (d + 1)) (group_at_same g (omega arith))
      (group_digits_same s t 131072 same at (omega (arith, group_at_le s g (let k : g ≤ group_count s = omega arith in k), group_count_le s))
      ∙ ap (group_digits t) (group_at_same g (omega arith)))

  group_line_same : (g : ℕ) → g ≤ group_count s → group_line s (group_at s g) ≡ group_line t (group_at t g)
  group_line_same g l =
      group_same s t 131072 same (group_at s g) (omega (arith, group_at_le s g l, group_count_le s)) ∙ ap (group_line t) (group_at_same g l)

  -- the first line that is no group is the same
  group_count_same : group_count t ≡ group_count s
  unfolding group_count
  group_count_same = ⊎_elim stops full (lt_or_le (group_count s) 512)
    where
      before : (k : ℕ) → k < group_count s → not (group_line t (group_at t k)) ≡ false
      before k l = ap not (sym (group_line_same k (omega arith)) ∙ counted_group s k l)

      stops : group_count s < 512 → group_count t ≡ group_count s
      stops l =
          first_at (λ g. not (group_line t (group_at t g))) (group_count s) 512 l
          (ap not (sym (group_line_same (group_count s) (omega arith)) ∙ group_stops s l)) before

      full : 512 ≤ group_count s → group_count t ≡ group_count s
      full l =
          let few = group_count_le s in
          first_none (λ g. not (group_line t (group_at t g))) 512 (λ k lk. before k (let q : k < group_count s = omega arith in q)) ∙ (let q : 512 ≡ group_count s = omega arith in q)

  size_at_same : size_at s ≡ size_at t
  unfolding size_at
  size_at_same = group_at_same (group_count s) (omega arith) ∙ ap (group_at t) (sym group_count_same)

  -- the byte that may be left out
  behind_same : get_or s (size_at s + 6) 0 ≡ get_or t (size_at s + 6) 0
  behind_same = same (size_at s + 6) (omega (arith, size_at_le s))

  digits_here : size_digits s (size_at s) ≡ size_digits t (size_at s)
  unfolding size_digits
  digits_here = ap (λ (c : ℕ). cond (eqb c 10) 6 8) behind_same

  east_here : east_at s (size_at s) ≡ east_at t (size_at s)
  unfolding east_at
  east_here = ap₂ (λ (c p : ℕ). cond (eqb c 10) 0 p) behind_same (pair_same s t 131072 same (size_at s + 6) (omega (arith, size_at_le s)))

  size_line_same : size_line s (size_at s) ≡ size_line t (size_at t)
  unfolding size_line
  size_line_same =
      ap₂ (λ (e : ℕ) (l : Bool). ltb e 2 && l) east_here
      (line_same s t 131072 same (size_at s) 4 (size_digits s (size_at s)) (omega (arith, size_at_le s, size_digits_le s (size_at s)))
      ∙ ap (is_line t (size_at s) 4) digits_here)
      ∙ ap (size_line t) size_at_same

  east_same : east s ≡ east t
  east_same = east_here ∙ ap (east_at t) size_at_same

  from_same : tiles_from s ≡ tiles_from t
  from_same = ap₂ (λ (a d : ℕ). a + (d + 1)) size_at_same (digits_here ∙ ap (size_digits t) size_at_same)

  width_same : width s ≡ width t
  width_same = pair_same s t 131072 same (size_at s + 2) (omega (arith, size_at_le s)) ∙ ap (λ (at : ℕ). pair_at t (at + 2)) size_at_same

  height_same : height s ≡ height t
  height_same = pair_same s t 131072 same (size_at s + 4) (omega (arith, size_at_le s)) ∙ ap (λ (at : ℕ). pair_at t (at + 4)) size_at_same

  due_same : tiles_due s ≡ tiles_due t
  due_same = ap₂ (λ (h w : ℕ). h * w) height_same width_same

  module _ (few : tiles_due s ≤ 9) where
    tile_line_same : (k : ℕ) → k < tiles_due s → tile_line s (tile_at s k) ≡ tile_line t (tile_at t k)
    tile_line_same k l =
        line_same s t 131072 same (tile_at s k) 5 218 (omega (arith, size_at_le s, size_digits_le s (size_at s))) ∙ ap (λ (at : ℕ). tile_line t (at + 219 * k)) from_same

    tile_count_same : tile_count s ≡ tile_count t
    unfolding tile_count
    tile_count_same =
        first_ext (λ k. not (tile_line s (tile_at s k))) (λ k. not (tile_line t (tile_at t k))) (tiles_due s) (λ k l. ap not (tile_line_same k l))
        ∙ ap (first (λ k. not (tile_line t (tile_at t k))) 0) due_same

    end_same : tile_at s (tiles_due s) ≡ tile_at t (tiles_due t)
    end_same = ap₂ (λ (at k : ℕ). at + 219 * k) from_same due_same

  -- ---- the answer

  module _ (ends : (p : ℕ) → p < 131072 → eqb (length s) p ≡ eqb (length t) p) where
    pub parsed_same : parsed s ≡ parsed t
    unfolding parsed
    parsed_same =
        unless_same (line_same s t 131072 same 0 1 14 (omega arith)) refl
        (λ one. unless_same (passive_same s t 131072 same (omega arith)) refl
        (λ two. unless_same size_line_same (ap (λ (g : ℕ). Err (Line (3 + g))) (sym group_count_same))
        (λ three. unless_same (ap₂ (λ (w h : ℕ). small w && small h) width_same height_same) refl
        (λ e. let few = small_due (width s) (height s) (small_of (width s) (height s) e) in
        unless_same (ap₂ leb due_same (tile_count_same few)) (ap₂ (λ (g k : ℕ). Err (Line (4 + g + k))) (sym group_count_same) (tile_count_same few))
        (λ all. unless_same (ends (tile_at s (tiles_due s)) (omega (arith, size_at_le s, size_digits_le s (size_at s))) ∙ ap (eqb (length t)) (end_same few))
        (ap₂ (λ (g k : ℕ). Err (Line (4 + g + k))) (sym group_count_same) due_same)
        (λ e. ap₂ (λ (w h : ℕ). Ok (block w h (east s))) width_same height_same ∙ ap (λ (e : ℕ). Ok (block (width t) (height t) e)) east_same))))))

-- "a file of any size must be answered"
pub parsed_prefix : (s : List ℕ) (n : ℕ) → 131072 ≤ n → parsed (take n s) ≡ parsed s
parsed_prefix s n l = parsed_same (take n s) s (λ i li. get_or-take n s i 0 (omega arith)) ends
  where
    ends : (p : ℕ) → p < 131072 → eqb (length (take n s)) p ≡ eqb (length s) p
    ends p lp =
        ⊎_elim
        (λ (g : n < length s).
        let e = length-take-le n s (let q : n ≤ length s = omega arith in q) in
        ne_eqb (length (take n s)) p (λ q. absurd (omega arith)) ∙ sym (ne_eqb (length s) p (λ q. absurd (omega arith))))
        (λ (g : length s ≤ n). ap (λ (x : List ℕ). eqb (length x) p) (take_all n s g)) (lt_or_le n (length s))
