-- What the code that finds a drive shows: the arms of `output_drive`, `below_drive` and `drive_at` in the code's terms.
use Prim.Native.Nat.{ℕ, zero, suc, ◌+◌, ◌-◌, ◌*◌, ◌≤◌, ◌<◌}
use mathlib.Core.Path.{◌≡◌, refl}
use mathlib.Core.List.{List, [], ◌∷◌}
use native.Mathlib.Omega.{arith}
use native.Mathlib.Nat.{mul-le-mul}
use lib.Dec.{ltb}
use borrow.Author.Tests.{lt-ltb, le-ltb}
use types.Run.{OneOf, miss}
use denote.Enum.Declared.{tag_of}
use Rattle.lists.proofs.CaseLaws.{and_false_right}
use Rattle.ports.specs.declared.size.Block.{Block}
use Rattle.ports.specs.declared.Port.{Port}
use Rattle.ports.specs.declared.Port.TheVariants.{Sp4HL, Sp4HR, Sp4VT, Sp4VB, Sp4RVB, Sp12HL, Sp12HR, Sp12VT, Sp12VB, Local, Glb2Local, In, Out, NeighOp, Clk, Cen, SR, GlbNetwk, CarryIn, CarryInMux, Cout, Lout, Ltin}
use Rattle.ports.specs.Block.{Sized}
use Rattle.ports.specs.contracts.Port.{the_type}
use Rattle.equations.specs.declared.drives.Drive.{Drive}
use Rattle.equations.specs.declared.drives.Drive.TheVariants.{Nothing, CellOut}
use Rattle.equations.specs.Drives.{output_drive, below_drive, drive_at}

module _ (B : Block) where
  -- the tiles of the rows to the south are few
  pub rows_few : Sized B → (y : ℕ) → y ≤ 8 → y * B.w ≤ 64
  rows_few s y h = mul-le-mul h s.w_few

  -- ---- output i of the tile (X - 1, Y - 1)

  module _ (X Y i : ℕ) where
    pub output_south : Y < 1 → Nothing ≡ output_drive B X Y i
    output_south = go X Y
      where
        go : (X Y : ℕ) → Y < 1 → Nothing ≡ output_drive B X Y i
        go zero Y h = refl
        go (suc x) zero h = refl
        go (suc x) (suc y) h = absurd (omega arith)

    pub output_west : X < 1 → Nothing ≡ output_drive B X Y i
    output_west h = let e : X ≡ 0 = omega arith in rw e

    pub output_east : B.w < X → Nothing ≡ output_drive B X Y i
    output_east = go X Y
      where
        go : (X Y : ℕ) → B.w < X → Nothing ≡ output_drive B X Y i
        go zero Y h = refl
        go (suc x) zero h = refl
        go (suc x) (suc y) h = rw (le-ltb x B.w (omega arith))

    pub output_north : B.h < Y → Nothing ≡ output_drive B X Y i
    output_north = go X Y
      where
        go : (X Y : ℕ) → B.h < Y → Nothing ≡ output_drive B X Y i
        go zero Y h = refl
        go (suc x) zero h = refl
        go (suc x) (suc y) h = rw (and_false_right (ltb x B.w) _ (le-ltb y B.h (omega arith)))

    pub output_inside : 1 ≤ X → 1 ≤ Y → X ≤ B.w → Y ≤ B.h → CellOut ((Y - 1) * B.w + (X - 1)) i ≡ output_drive B X Y i
    output_inside a b l k =
        let d : X ≡ suc (X - 1) = omega arith in
        let e : Y ≡ suc (Y - 1) = omega arith in
        go (X - 1) (Y - 1) d e
      where
        go : (x y : ℕ) → X ≡ suc x → Y ≡ suc y → CellOut (y * B.w + x) i ≡ output_drive B X Y i
        go x y d e = rw (d, e, lt-ltb x B.w (omega arith), lt-ltb y B.h (omega arith))

  -- ---- what the tile to the south gives

  module _ (f : ℕ → Drive) (x : ℕ) where
    pub below_none : (y : ℕ) → y < 1 → Nothing ≡ below_drive f B x y
    below_none y h = let e : y ≡ 0 = omega arith in rw e

    pub below_some : (y : ℕ) → 1 ≤ y → f ((y - 1) * B.w + x) ≡ below_drive f B x y
    below_some zero h = absurd (omega arith)
    below_some (suc y) h = let u : suc y - 1 ≡ y = omega arith in rw u

  -- ---- the names that the match leaves over, by their places in the enum: the spans and glb_netwk

  abbrev pub open_names : List ℕ
  open_names = 0 ∷ 1 ∷ 2 ∷ 3 ∷ 4 ∷ 5 ∷ 6 ∷ 7 ∷ 8 ∷ 17 ∷ []

  pub open_names_lem : (x y : ℕ) (P : Port) → OneOf open_names (tag_of the_type P) → Nothing ≡ drive_at B x y P
  unfolding drive_at
  open_names_lem x y (Sp4HL k) h = refl
  open_names_lem x y (Sp4HR k) h = refl
  open_names_lem x y (Sp4VT k) h = refl
  open_names_lem x y (Sp4VB k) h = refl
  open_names_lem x y (Sp4RVB k) h = refl
  open_names_lem x y (Sp12HL k) h = refl
  open_names_lem x y (Sp12HR k) h = refl
  open_names_lem x y (Sp12VT k) h = refl
  open_names_lem x y (Sp12VB k) h = refl
  open_names_lem x y (Local k) h = absurd (miss open_names 9 tt h)
  open_names_lem x y (Glb2Local k) h = absurd (miss open_names 10 tt h)
  open_names_lem x y (In i j) h = absurd (miss open_names 11 tt h)
  open_names_lem x y (Out i) h = absurd (miss open_names 12 tt h)
  open_names_lem x y (NeighOp dx dy i) h = absurd (miss open_names 13 tt h)
  open_names_lem x y Clk h = absurd (miss open_names 14 tt h)
  open_names_lem x y Cen h = absurd (miss open_names 15 tt h)
  open_names_lem x y SR h = absurd (miss open_names 16 tt h)
  open_names_lem x y (GlbNetwk n) h = refl
  open_names_lem x y CarryIn h = absurd (miss open_names 18 tt h)
  open_names_lem x y CarryInMux h = absurd (miss open_names 19 tt h)
  open_names_lem x y (Cout i) h = absurd (miss open_names 20 tt h)
  open_names_lem x y (Lout i) h = absurd (miss open_names 21 tt h)
  open_names_lem x y Ltin h = absurd (miss open_names 22 tt h)
