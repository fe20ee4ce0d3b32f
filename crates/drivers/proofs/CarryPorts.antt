-- Ports before carry_in: none of them has a cout's wire. Main law: `low_port_no_carry`.
use Prim.Native.Nat.{ℕ, zero, suc, ◌+◌, ◌*◌, ◌%◌, ◌<◌}
use mathlib.Core.Path.{◌≡◌, refl}
use mathlib.Core.Bool.{Bool, true, false, cond, ◌&&◌}
use mathlib.Core.List.{List}
use native.Mathlib.Omega.{arith}
use lib.Dec.{ltb}
use Rattle.ports.specs.declared.size.Block.{Block}
use Rattle.ports.specs.declared.Port.{Port}
use Rattle.ports.specs.declared.Port.TheVariants.{Sp4HL, Sp4HR, Sp4VT, Sp4VB, Sp4RVB, Sp12HL, Sp12HR, Sp12VT, Sp12VB, Local, Glb2Local, In, Out, NeighOp, Clk, Cen, SR, GlbNetwk, CarryIn, CarryInMux, Cout, Lout, Ltin}
use Rattle.ports.specs.Lengths.{ports_per_tile}
use Rattle.ports.specs.Ports.{port_at}
use Rattle.ports.specs.PortIndex.{carry_in}
use Rattle.ports.specs.PortNames.{index_of}
use Rattle.ports.proofs.PortLaws.{port_at_back}
use Rattle.equations.specs.declared.drives.Drive.TheVariants.{Nothing, CellOut}
use Rattle.equations.specs.Drives.{output_drive, drive_at, drive_of}
use Rattle.drivers.specs.CarryReads.{is_disabled_carry}

module _ (B : Block) (st : List ℕ) where
  output : (x y i : ℕ) → is_disabled_carry st (output_drive B x y i) ≡ false
  output zero y i = refl
  output (suc x) zero i = refl
  output (suc x) (suc y) i = go (ltb x B.w && ltb y B.h)
    where
      go : (b : Bool) → is_disabled_carry st (cond b (CellOut (y * B.w + x) i) Nothing) ≡ false
      go true = refl
      go false = refl

  no_carry : (x y : ℕ) (P : Port) → index_of P < carry_in → is_disabled_carry st (drive_at B x y P) ≡ false
  unfolding drive_at
  no_carry x y (Sp4HL k) l = refl
  no_carry x y (Sp4HR k) l = refl
  no_carry x y (Sp4VT k) l = refl
  no_carry x y (Sp4VB k) l = refl
  no_carry x y (Sp4RVB k) l = refl
  no_carry x y (Sp12HL k) l = refl
  no_carry x y (Sp12HR k) l = refl
  no_carry x y (Sp12VT k) l = refl
  no_carry x y (Sp12VB k) l = refl
  no_carry x y (Local k) l = refl
  no_carry x y (Glb2Local k) l = refl
  no_carry x y (In i j) l = refl
  no_carry x y (Out i) l = refl
  no_carry x y (NeighOp dx dy i) l = output (x + dx) (y + dy) i
  no_carry x y Clk l = refl
  no_carry x y Cen l = refl
  no_carry x y SR l = refl
  no_carry x y (GlbNetwk n) l = refl
  no_carry x y CarryIn l = absurd (omega arith)
  no_carry x y CarryInMux l = refl
  no_carry x y (Cout i) l = absurd (omega arith)
  no_carry x y (Lout i) l = refl
  no_carry x y Ltin l = absurd (omega arith)

  pub low_port_no_carry : (w : ℕ) → w % ports_per_tile < carry_in → is_disabled_carry st (drive_of B w) ≡ false
  unfolding drive_of
  low_port_no_carry w l = no_carry _ _ (port_at (w % ports_per_tile)) (let e = port_at_back (w % ports_per_tile) (omega arith) in omega arith)
