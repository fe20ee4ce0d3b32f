-- A slice that is filled from the front with what stands in a list, up to its end (`Copied`).
use mathlib.Core.Path.{◌≡◌}
use mathlib.Core.List.{List}
use Prim.Native.Nat.{ℕ, ◌+◌, ◌<◌, ◌≤◌}
use native.Mathlib.Omega.{arith}
use lib.ListN.{length, get_or, set}
use lib.Seq.{ext_get_or}
use Rattle.lists.specs.Tables.{Filled}
use Rattle.lists.proofs.TableLaws.{filled_start, filled_step}

-- the first i numbers of the room are the list's
abbrev pub Copied : List ℕ → ℕ → List ℕ → Type 0
Copied list i room = Filled (λ k. get_or list k 0) 0 (length list) i room

module _ (list room : List ℕ) where
  pub copied_start : length room ≡ length list → Copied list 0 room
  copied_start e = filled_start (λ k. get_or list k 0) 0 (length list) room e

  pub copied_step : (i v : ℕ) → Copied list i room → i < length list → v ≡ get_or list i 0 → Copied list (i + 1) (set room i v)
  copied_step i v h l e = filled_step (λ k. get_or list k 0) 0 (length list) room i v h l e

  pub copied_end : (i : ℕ) → Copied list i room → length list ≤ i → room ≡ list
  copied_end i h l = ext_get_or 0 room list h.long (λ k lk. let e = h.long in h.filled k (omega arith))
