-- Two inputs with one beginning: what looks there only is the same of both. Main laws: `pair_same`, `line_same`, `passive_same`, `group_same`.
use Prim.Native.Nat.{ℕ, zero, suc, ◌+◌, ◌*◌, ◌<◌, ◌≤◌}
use mathlib.Core.Path.{◌≡◌, refl, ap, ap₂, ◌∙◌}
use mathlib.Core.Bool.{Bool, true, false, cond, ◌&&◌}
use mathlib.Core.List.{List}
use native.Mathlib.Omega.{arith}
use borrow.Author.Tests.{leb-true}
use lib.Dec.{eqb, leb}
use lib.ListN.{get_or}
use Rattle.lists.specs.Search.{all_from}
use Rattle.lists.proofs.CaseLaws.{and_left, and_right}
use Rattle.texts.specs.Hex.{is_digit, pair_at}
use Rattle.frames.specs.Lines.{digits_at, is_line, passive_count, passive_line, position_count, entry_count, group_digits, group_line}
use Rattle.texts.proofs.HexLaws.{pair_lt}

abbrev pub Agree : List ℕ → List ℕ → ℕ → Type 0
Agree s t n = (i : ℕ) → i < n → get_or s i 0 ≡ get_or t i 0

all_same : (p q : ℕ → Bool) (i m : ℕ) → ((k : ℕ) → k < i + m → p k ≡ q k) → all_from p i m ≡ all_from q i m
unfolding all_from
all_same p q i zero h = refl
all_same p q i (suc m) h = ap₂ (λ (b c : Bool). cond b c false) (h i (omega arith)) (all_same p q (suc i) m (λ k l. h k (omega arith)))

module _ (s t : List ℕ) (n : ℕ) (same : Agree s t n) where
  pub pair_same : (at : ℕ) → at + 2 ≤ n → pair_at s at ≡ pair_at t at
  unfolding pair_at
  pair_same at l = rw (same at (omega arith), same (at + 1) (omega arith))

  digits_same : (at m : ℕ) → at + m ≤ n → digits_at s at m ≡ digits_at t at m
  digits_same at m l =
      all_same (λ k. is_digit (get_or s (at + k) 0)) (λ k. is_digit (get_or t (at + k) 0)) 0 m (λ k lk. ap is_digit (same (at + k) (omega arith)))

  pub line_same : (at kind m : ℕ) → at + m + 2 ≤ n → is_line s at kind m ≡ is_line t at kind m
  unfolding is_line
  line_same at kind m l =
      ap₂ (λ (x y : Bool). x && y) (ap (λ (x : ℕ). eqb x kind) (pair_same at (omega arith)))
      (ap₂ (λ (x y : Bool). x && y) (ap (λ (x : ℕ). eqb x 10) (same (at + m) (omega arith))) (digits_same at m (omega arith)))

  -- a count is below 256, so that a line of at most so many digits is looked at
  pub passive_same : 1043 ≤ n → passive_line s ≡ passive_line t
  unfolding passive_line
  passive_same l =
      rw (← pair_same 17 (omega arith)) (ap (λ (b : Bool). leb (passive_count s) 64 && b) (line_same 15 2 (4 + 4 * passive_count s) (omega (arith, pair_lt s 17))))

  module _ (at : ℕ) (l : at + 2562 ≤ n) where
    positions_same : position_count s at ≡ position_count t at
    positions_same = pair_same (at + 6) (omega arith)

    entries_same : entry_count s at ≡ entry_count t at
    entries_same =
        pair_same (at + 8 + 4 * position_count s at) (omega (arith, pair_lt s (at + 6)))
        ∙ ap (λ (p : ℕ). pair_at t (at + 8 + 4 * p)) positions_same

    pub group_digits_same : group_digits s at ≡ group_digits t at
    unfolding group_digits
    group_digits_same = ap₂ (λ (p m : ℕ). 10 + 4 * p + 6 * m) positions_same entries_same

    group_digits_lt : group_digits s at ≤ 2560
    unfolding group_digits
    group_digits_lt = omega (arith, pair_lt s (at + 6), pair_lt s (at + 8 + 4 * position_count s at))

    pub group_same : group_line s at ≡ group_line t at
    unfolding group_line
    group_same =
        ap₂ (λ (x y : Bool). x && y) (ap (λ (p : ℕ). leb p 8) positions_same)
        (ap₂ (λ (x y : Bool). x && y) (ap (λ (m : ℕ). leb m 32) entries_same)
        (line_same at 3 (group_digits s at) (omega (arith, group_digits_lt)) ∙ ap (is_line t at 3) group_digits_same))

-- a good line 03 has at most 234 digits
pub group_digits_le : (s : List ℕ) (at : ℕ) → group_line s at ≡ true → group_digits s at ≤ 234
unfolding group_line group_digits
group_digits_le s at e =
    let p = position_count s at in
    let m = entry_count s at in
    let r = and_right (leb p 8) (leb m 32 && is_line s at 3 (10 + 4 * p + 6 * m)) e in
    omega (
      arith,
      leb-true p 8 (and_left (leb p 8) (leb m 32 && is_line s at 3 (10 + 4 * p + 6 * m)) e),
      leb-true m 32 (and_left (leb m 32) (is_line s at 3 (10 + 4 * p + 6 * m)) r),
    )
