-- The value that following gives, case by case.
use mathlib.Core.Path.{◌≡◌, refl}
use mathlib.Core.Logic.{◌≢◌}
use Prim.Native.Nat.{ℕ, zero, suc, ◌+◌}
use native.Mathlib.Omega.{arith}
use Rattle.drivers.specs.declared.follow.Driver.TheVariants.{Open, Constant, Cell, Ring}
use Rattle.capi.specs.Packed.{driver_code}

module _ (wire : ℕ) where
  pub code_open : 65536 + wire ≡ driver_code (Open wire)
  code_open = omega arith

  pub code_zero : (value : ℕ) → value ≡ 0 → 131072 + wire ≡ driver_code (Constant wire value)
  code_zero zero e = omega arith
  code_zero (suc v) e = absurd (omega arith)

  pub code_one : (value : ℕ) → value ≢ 0 → 196608 + wire ≡ driver_code (Constant wire value)
  code_one zero n = absurd (n refl)
  code_one (suc v) n = omega arith

  pub code_cell : 262144 + wire ≡ driver_code (Cell wire)
  code_cell = omega arith

  pub code_ring : 327680 + wire ≡ driver_code (Ring wire)
  code_ring = omega arith
