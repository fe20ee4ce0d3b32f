-- The test of W and H is the fact ("programs: 1 to 3"). Main laws: `small_of`, `small_passes`, `small_due`.
use Prim.Native.Nat.{ℕ, ◌*◌, ◌≤◌}
use mathlib.Core.Path.{◌≡◌}
use mathlib.Core.Bool.{true, ◌&&◌}
use native.Mathlib.Nat.{mul-le-mul}
use borrow.Author.Tests.{leb-true, le-leb}
use lib.Dec.{leb}
use Rattle.lists.proofs.CaseLaws.{and_left, and_right, and_true}
use Rattle.frames.specs.Input.{small}
use Rattle.frames.specs.Whole.{Small}

small_is : (n : ℕ) → small n ≡ true → (1 ≤ n) × (n ≤ 3)
small_is n e = (leb-true 1 n (and_left (leb 1 n) (leb n 3) e), leb-true n 3 (and_right (leb 1 n) (leb n 3) e))

pub small_of : (w h : ℕ) → small w && small h ≡ true → Small w h
small_of w h e =
    let p = small_is w (and_left (small w) (small h) e) in
    let q = small_is h (and_right (small w) (small h) e) in
    record { w_some = p.0; w_few = p.1; h_some = q.0; h_few = q.1 }

pub small_passes : (w h : ℕ) → Small w h → small w && small h ≡ true
small_passes w h p =
    and_true (and_true (le-leb 1 w p.w_some) (le-leb w 3 p.w_few)) (and_true (le-leb 1 h p.h_some) (le-leb h 3 p.h_few))

-- at most nine tiles
pub small_due : (w h : ℕ) → Small w h → h * w ≤ 9
small_due w h p = mul-le-mul p.h_few p.w_few
