-- What ground 1 leaves of corner and size (`Sized`). Main law: `sized_of`.
use Prim.Native.Nat.{◌+◌, ◌≤◌}
use mathlib.Core.Path.{◌≡◌}
use mathlib.Core.Bool.{true, false}
use mathlib.Core.Logic.{⊎_elim}
use native.Mathlib.Nat.{mul-le-mul}
use borrow.Author.Tests.{leb-true, le-leb}
use lib.Dec.{leb}
use Rattle.lists.proofs.CaseLaws.{cases, and_left, and_right, and_true}
use Rattle.asc.specs.Area.{Area, tiles_of, sized}

pub record Sized (a : Area) : Type 0 where
  pub w_some : 1 ≤ a.w
  pub w_few : a.w ≤ 8
  pub h_some : 1 ≤ a.h
  pub h_few : a.h ≤ 8
  pub x_fits : a.x + a.w ≤ 256
  pub y_fits : a.y + a.h ≤ 256

pub sized_of : (a : Area) → sized a ≡ true → Sized a
unfolding sized
sized_of a e =
    let r₁ = and_right (leb 1 a.w) _ e in
    let r₂ = and_right (leb a.w 8) _ r₁ in
    let r₃ = and_right (leb 1 a.h) _ r₂ in
    let r₄ = and_right (leb a.h 8) _ r₃ in
    record {
      w_some = leb-true 1 a.w (and_left _ _ e);
      w_few = leb-true a.w 8 (and_left _ _ r₁);
      h_some = leb-true 1 a.h (and_left _ _ r₂);
      h_few = leb-true a.h 8 (and_left _ _ r₃);
      x_fits = leb-true (a.x + a.w) 256 (and_left _ _ r₄);
      y_fits = leb-true (a.y + a.h) 256 (and_right (leb (a.x + a.w) 256) _ r₄);
    }

pub sized_true : (a : Area) → Sized a → sized a ≡ true
unfolding sized
sized_true a z =
    and_true (le-leb 1 a.w z.w_some)
    (and_true (le-leb a.w 8 z.w_few)
    (and_true (le-leb 1 a.h z.h_some)
    (and_true (le-leb a.h 8 z.h_few) (and_true (le-leb (a.x + a.w) 256 z.x_fits) (le-leb (a.y + a.h) 256 z.y_fits)))))

pub sized_not : (a : Area) → (Sized a → ⊥) → sized a ≡ false
sized_not a h = ⊎_elim (λ e. absurd (h (sized_of a e))) (λ e. e) (cases (sized a))

-- at most 64 tiles
pub tiles_few : (a : Area) → Sized a → tiles_of a ≤ 64
tiles_few a z = mul-le-mul z.h_few z.w_few
