-- A slice set to zeros from the front.
use mathlib.Core.Path.{◌≡◌, refl, sym, ◌∙◌}
use mathlib.Core.List.{List}
use Prim.Native.Nat.{ℕ, ◌+◌, ◌<◌, ◌≤◌}
use native.Mathlib.Omega.{arith}
use lib.ListN.{length, set}
use lib.Seq.{ext_get_or}
use Rattle.lists.specs.Tables.{zeros}
use Rattle.lists.proofs.TableLaws.{Filled, filled_start, filled_step, zeros_length, zeros_at}

-- a room of n numbers, of which the first i are 0
abbrev pub Cleared : ℕ → ℕ → List ℕ → Type 0
Cleared n i room = Filled (λ k. 0) 0 n i room

pub cleared_start : (n : ℕ) (room : List ℕ) → length room ≡ n → Cleared n 0 room
cleared_start n room e = filled_start (λ k. 0) 0 n room e

pub cleared_step : (n i : ℕ) (room : List ℕ) → Cleared n i room → i < n → Cleared n (i + 1) (set room i 0)
cleared_step n i room h l = filled_step (λ k. 0) 0 n room i 0 h l refl

pub cleared_end : (n i : ℕ) (room : List ℕ) → Cleared n i room → n ≤ i → room ≡ zeros n
cleared_end n i room h l =
    ext_get_or 0 room (zeros n) (h.long ∙ sym (zeros_length n))
    (λ k lk. let e = h.long in h.filled k (omega arith) ∙ sym (zeros_at n k))
