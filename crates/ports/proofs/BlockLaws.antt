-- The size of a block. Main laws: `allowed_exact`, `sized_exact` (the tests and the facts), `ports_le` (a block has few ports).
use Prim.Native.Nat.{ℕ, ◌*◌, ◌≤◌, ◌<◌}
use mathlib.Core.Path.{◌≡◌, ◌∙◌}
use mathlib.Core.Bool.{true, false, ◌&&◌, and-false, and-eq-true_iff}
use mathlib.Core.Logic.{◌↔◌}
use native.Mathlib.Omega.{arith}
use native.Mathlib.Nat.{mul-le-mul}
use lib.Dec.{leb, ltb}
use borrow.Author.Tests.{lt-leb, le-leb, leb-true, lt-ltb, le-ltb, ltb-true}
use Rattle.ports.specs.declared.size.Size.{Size}
use Rattle.ports.specs.declared.size.Block.{Block}
use Rattle.ports.specs.Block.{Allowed, allowed, Sized, sized, size_of, tile_count, tiles, port_of}
use Rattle.ports.specs.Lengths.{ports, ports_per_tile}

module _ (S : Size) where
  pub allowed_true : Allowed S → allowed S ≡ true
  allowed_true s = rw (le-leb 1 S.w s.w_some, le-leb S.w 8 s.w_few, le-leb 1 S.h s.h_some, le-leb S.h 8 s.h_few)

  pub allowed_exact : (allowed S ≡ true) ↔ Allowed S
  allowed_exact = (facts, allowed_true)
    where
      facts : allowed S ≡ true → Allowed S
      facts t =
          let both = (and-eq-true_iff (leb 1 S.w && leb S.w 8) (leb 1 S.h && leb S.h 8)).0 t in
          let wide = (and-eq-true_iff (leb 1 S.w) (leb S.w 8)).0 both.0 in
          let high = (and-eq-true_iff (leb 1 S.h) (leb S.h 8)).0 both.1 in
          record {
            w_some = leb-true _ _ wide.0;
            w_few = leb-true _ _ wide.1;
            h_some = leb-true _ _ high.0;
            h_few = leb-true _ _ high.1;
          }

  -- the four ways to be of no size
  pub allowed_w_none : S.w < 1 → allowed S ≡ false
  allowed_w_none h = simp (lt-leb 1 S.w h)

  pub allowed_w_many : 8 < S.w → allowed S ≡ false
  allowed_w_many h = simp (lt-leb S.w 8 h, and-false)

  pub allowed_h_none : S.h < 1 → allowed S ≡ false
  allowed_h_none h = simp (lt-leb 1 S.h h, and-false)

  pub allowed_h_many : 8 < S.h → allowed S ≡ false
  allowed_h_many h = simp (lt-leb S.h 8 h, and-false)

  pub tile_count_le : Allowed S → tile_count S ≤ 64
  tile_count_le s = mul-le-mul s.h_few s.w_few

module _ (B : Block) where
  -- a block of a size that is allowed, and the other way
  pub sized_of_allowed : B.east < 2 → Allowed (size_of B) → Sized B
  sized_of_allowed e a = record { w_some = a.w_some; w_few = a.w_few; h_some = a.h_some; h_few = a.h_few; east_known = e }

  pub sized_allowed : Sized B → Allowed (size_of B)
  sized_allowed s = record { w_some = s.w_some; w_few = s.w_few; h_some = s.h_some; h_few = s.h_few }

  -- where the byte is 0 or 1, the size decides
  pub sized_east : B.east < 2 → sized B ≡ allowed (size_of B)
  sized_east e = rw (lt-ltb B.east 2 e)

  pub sized_not_east : 2 ≤ B.east → sized B ≡ false
  sized_not_east h = rw (le-ltb B.east 2 h)

  pub sized_true : Sized B → sized B ≡ true
  sized_true s = sized_east s.east_known ∙ allowed_true (size_of B) (sized_allowed s)

  pub sized_exact : (sized B ≡ true) ↔ Sized B
  sized_exact = (facts, sized_true)
    where
      facts : sized B ≡ true → Sized B
      facts t =
          let both = (and-eq-true_iff (ltb B.east 2) (allowed (size_of B))).0 t in
          sized_of_allowed (ltb-true _ _ both.0) ((allowed_exact (size_of B)).0 both.1)

  pub tiles_le : Sized B → tiles B ≤ 64
  tiles_le s = tile_count_le (size_of B) (sized_allowed s)

  pub ports_le : Sized B → ports B ≤ ports_per_tile * 64
  ports_le s = omega (arith, tiles_le s)

  pub port_of_lt : (t q : ℕ) → t < tiles B → q < ports_per_tile → port_of t q < ports B
  port_of_lt t q ht hq = omega arith
