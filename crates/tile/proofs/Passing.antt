-- The loops over the set bits of a tile: over the set digits of a row, `Passed` with `passed_start`, `-turn`, `-end`, and over the rows,
-- `TakenRow` with `taken_turn`, `taken_end`. Assumes nothing.
use mathlib.Core.Path.{◌≡◌, sym, ap, ◌∙◌, subst}
use mathlib.Core.Logic.{⊎_elim, ◌≢◌}
use mathlib.Core.List.{List}
use Prim.Native.Nat.{ℕ, ◌+◌, ◌*◌, ◌/◌, ◌%◌, ◌^◌, ◌<◌, ◌≤◌}
use native.Mathlib.Omega.{arith}
use native.Mathlib.Nat.{zero-div}
use borrow.Author.Count.{below_more}
use borrow.Author.Tests.{le-leb}
use lib.ListN.{get_or}
use Rattle.lists.proofs.CaseLaws.{lt_or_le, eq_or_ne}
use Rattle.digits.specs.Digits.{digit, set_digit}
use Rattle.digits.proofs.DigitLaws.{digit_past, digit_set_same, digit_set_other}
use Rattle.words.specs.Packed.{bit_in}
use Rattle.codec.specs.Bits.{unit, bit_at}
use Rattle.ports.specs.Lengths.{columns, tile_numbers}
use Rattle.codec.specs.Reading.{past_columns_lem}
use Rattle.tile.specs.Taking.{Learned, Taken, TakenRow, WithoutCell, Undecodable}
use Rattle.tile.proofs.TakingLaws.{taken_kept}

-- ---- the set digits of a row

-- the digits that are left are set in the row, and P holds of those that are set and no longer left
pub record Passed (P : ℕ → Type 0) (row left : ℕ) : Type 0 where
  pub set : (k : ℕ) → digit left k ≡ 1 → digit row k ≡ 1
  pub passed : (k : ℕ) → k < unit → digit row k ≡ 1 → digit left k ≡ 0 → P k

-- the cell's digits are passed over, as P holds of them
pub passed_start : (P : ℕ → Type 0) (row left : ℕ) → WithoutCell row left → ((k : ℕ) → 36 ≤ k → k < 46 → P k) → Passed P row left
passed_start P row left W cell = record {
  set = λ k e. ⊎_elim (λ (l : k < 36). sym (W.below k l) ∙ e)
      (λ (l : 36 ≤ k). ⊎_elim (λ (m : k < 46). absurd (omega (arith, W.cell k l m))) (λ (m : 46 ≤ k). sym (W.above k m) ∙ e) (lt_or_le k 46)) (lt_or_le k 36);
  passed = λ k h a b. ⊎_elim (λ (l : k < 36). absurd (omega (arith, W.below k l)))
      (λ (l : 36 ≤ k). ⊎_elim (λ (m : k < 46). cell k l m) (λ (m : 46 ≤ k). absurd (omega (arith, W.above k m))) (lt_or_le k 46)) (lt_or_le k 36);
}

-- digit j passed; what P said of those before, Q says too
pub passed_turn : (P Q : ℕ → Type 0) (row left new j : ℕ) → Passed P row left → new ≡ set_digit left j 0 → ((k : ℕ) → P k → Q k) → Q j
    → Passed Q row new
passed_turn P Q row left new j inv e keep here = record {
  set = λ k a. ⊎_elim (λ (q : k ≡ j). absurd (omega (arith, at_j, ap (digit new) q))) (λ (q : k ≢ j). inv.set k (sym (at_other k q) ∙ a)) (eq_or_ne k j);
  passed = λ k l a b. ⊎_elim (λ (q : k ≡ j). subst Q (sym q) here) (λ (q : k ≢ j). keep k (inv.passed k l a (sym (at_other k q) ∙ b))) (eq_or_ne k j);
}
  where
    at_j : digit new j ≡ 0
    at_j = ap (λ (x : ℕ). digit x j) e ∙ digit_set_same left j 0 (omega arith)

    at_other : (k : ℕ) → k ≢ j → digit new k ≡ digit left k
    at_other k q = ap (λ (x : ℕ). digit x k) e ∙ digit_set_other left j 0 (omega arith) k q

pub passed_end : (P : ℕ → Type 0) (row left : ℕ) → Passed P row left → left ≡ 0 → (k : ℕ) → k < unit → digit row k ≡ 1 → P k
passed_end P row left inv e k l a = inv.passed k l a (ap (λ (x : ℕ). digit x k) e ∙ ap (λ (x : ℕ). x % 2) (zero-div (2 ^ k)))

-- a set digit of a row is one of its columns
pub column_lt : (left k : ℕ) → left < 2 ^ unit → digit left k ≡ 1 → k < unit
column_lt left k h d =
    ⊎_elim (λ (l : k < unit). l) (λ (l : unit ≤ k). let z : digit left k ≡ 0 = digit_past left unit k h l in absurd (omega arith)) (lt_or_le k unit)

-- ---- the rows of a tile

-- one row more
pub taken_turn : {table bits before after : List ℕ} {i : ℕ} → ((j : ℕ) → j < i → TakenRow table bits before j) → Learned table bits before after
    → TakenRow table bits after i → (j : ℕ) → j < i + 1 → TakenRow table bits after j
taken_turn {table} {bits} {before} {after} {i} inv L here =
    below_more (TakenRow table bits after) i (λ j l. record { fits = (inv j l).fits; taken = λ k m e. taken_kept L ((inv j l).taken k m e) }) here

-- all rows, and so all positions
pub taken_end : (table bits settings : List ℕ) (n : ℕ) → tile_numbers ≤ n → ((i : ℕ) → i < n → TakenRow table bits settings i)
    → (p : ℕ) → p < 864 → bit_at bits p ≡ 1 → Taken table settings p
unfolding bit_in
taken_end table bits settings n h rows p l e =
    subst (Taken table settings) (let q : unit * (p / unit) + p % unit ≡ p = omega arith in q) ((rows (p / unit) (omega arith)).taken (p % unit) (omega arith) e)

-- a row with a set bit past its columns cannot be decoded
pub past_undecodable : (table bits : List ℕ) (i : ℕ) → i < tile_numbers → 2 ^ unit ≤ get_or bits i 0 → Undecodable table bits
past_undecodable table bits i h l D = D (columns * i + 53) (past_columns_lem i h (le-leb (2 ^ unit) (get_or bits i 0) l))
