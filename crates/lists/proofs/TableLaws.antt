-- `tabulate`, and the loop that fills a slice from the front. Main laws: `tabulate_is`; `filled_start`, `-step`, `-end`.
use mathlib.Core.Path.{◌≡◌, refl, sym, ap, ◌∙◌}
use mathlib.Core.List.{List}
use Prim.Native.Nat.{ℕ, zero, suc, ◌+◌, ◌<◌, ◌≤◌}
use native.Mathlib.Nat.{add-zero}
use native.Mathlib.Omega.{arith}
use borrow.Author.Count.{below_more}
use lib.ListN.{length, get_or, set, length-set}
use lib.Seq.{get_or-set_same, get_or-set_other, ext_get_or}
use Rattle.lists.specs.Tables.{tabulate, zeros}
pub use Rattle.lists.specs.Tables.{Filled}

module _ {A : Type 0} (f : ℕ → A) where
  pub tabulate_length : (i n : ℕ) → length (tabulate f i n) ≡ n
  unfolding tabulate
  tabulate_length i zero = refl
  tabulate_length i (suc n) = ap suc (tabulate_length (suc i) n)

  pub tabulate_at : (d : A) (i n k : ℕ) → k < n → get_or (tabulate f i n) k d ≡ f (i + k)
  unfolding tabulate
  tabulate_at d i zero k h = absurd (omega arith)
  tabulate_at d i (suc n) zero h = ap f (sym (add-zero i))
  tabulate_at d i (suc n) (suc k) h = tabulate_at d (suc i) n k (omega arith) ∙ ap f (let e : suc i + k ≡ i + suc k = omega arith in e)

  pub tabulate_past : (d : A) (i n k : ℕ) → n ≤ k → get_or (tabulate f i n) k d ≡ d
  unfolding tabulate
  tabulate_past d i zero k h = refl
  tabulate_past d i (suc n) zero h = absurd (omega arith)
  tabulate_past d i (suc n) (suc k) h = tabulate_past d (suc i) n k (omega arith)

  -- from 0 on: element k is f k
  pub tabulate_zero : (d : A) (n k : ℕ) → k < n → get_or (tabulate f 0 n) k d ≡ f k
  tabulate_zero d n k h = tabulate_at d 0 n k h ∙ ap f (let e : 0 + k ≡ k = omega arith in e)

  -- a list of n elements that are f's is the table
  pub tabulate_is : (d : A) (n : ℕ) (xs : List A) → length xs ≡ n → ((k : ℕ) → k < n → get_or xs k d ≡ f k) → xs ≡ tabulate f 0 n
  tabulate_is d n xs e h =
      ext_get_or d xs (tabulate f 0 n) (e ∙ sym (tabulate_length 0 n))
      (λ k l. let lk : k < n = omega arith in h k lk ∙ sym (tabulate_zero d n k lk))

pub tabulate_ext : {A : Type 0} (d : A) (f g : ℕ → A) (n : ℕ) → ((k : ℕ) → k < n → f k ≡ g k) → tabulate f 0 n ≡ tabulate g 0 n
tabulate_ext d f g n h = tabulate_is g d n (tabulate f 0 n) (tabulate_length f 0 n) (λ k l. tabulate_zero f d n k l ∙ h k l)

-- ---- a list that is filled from the front

module _ {A : Type 0} (f : ℕ → A) (d : A) (n : ℕ) where
  pub filled_start : (xs : List A) → length xs ≡ n → Filled f d n 0 xs
  filled_start xs e = record { upto = omega arith; long = e; filled = λ k l. absurd (omega arith) }

  pub filled_step : (xs : List A) (i : ℕ) (v : A) → Filled f d n i xs → i < n → v ≡ f i → Filled f d n (i + 1) (set xs i v)
  filled_step xs i v h l e = record {
    upto = omega arith;
    long = length-set xs i v ∙ h.long;
    filled =
        below_more (λ k. get_or (set xs i v) k d ≡ f k) i (λ k lk. get_or-set_other xs i k v d (λ q. absurd (omega arith)) ∙ h.filled k lk)
        (get_or-set_same xs i v d (let lx = h.long in omega arith) ∙ e);
  }

  pub filled_end : (xs : List A) (i : ℕ) → Filled f d n i xs → n ≤ i → xs ≡ tabulate f 0 n
  filled_end xs i h l = tabulate_is f d n xs h.long (λ k lk. h.filled k (omega arith))

-- ---- zeros

pub zeros_length : (n : ℕ) → length (zeros n) ≡ n
zeros_length zero = refl
zeros_length (suc n) = ap suc (zeros_length n)

pub zeros_at : (n k : ℕ) → get_or (zeros n) k 0 ≡ 0
zeros_at zero k = refl
zeros_at (suc n) zero = refl
zeros_at (suc n) (suc k) = zeros_at n k
