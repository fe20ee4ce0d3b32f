-- The parts of the clock check: the arms of `clock_ok`, a search for a cell, cell by cell, and what decides of a tile. Laws: `clock_yes`, `clock_no`;
-- `any_turn_hit`, `-skip`, `-end`; `clocked_clock`, `clocked_reset`.
use Prim.Native.Nat.{ℕ, ◌+◌, ◌-◌, ◌≤◌, ◌<◌}
use mathlib.Core.Path.{◌≡◌, refl, sym, ap}
use mathlib.Core.Bool.{Bool, true, false, not, ◌&&◌, ◌||◌}
use mathlib.Core.List.{List, [], ◌∷◌}
use types.Run.{OneOf, miss}
use denote.Enum.Declared.{tag_of}
use Rattle.lists.specs.Search.{all_from}
use Rattle.lists.proofs.SearchLaws.{all_turn_hit, all_turn_skip, all_turn_end}
use Rattle.ports.specs.declared.size.Block.{Block}
use Rattle.ports.specs.PortIndex.{clk, s_r}
use Rattle.equations.specs.Tiles.{flop_on}
use Rattle.drivers.specs.declared.follow.Driver.{Driver}
use Rattle.drivers.specs.declared.follow.Driver.TheVariants.{Open, Constant, Cell, Ring}
use Rattle.drivers.specs.Clocks.{async_flop_on, is_outside, any_cell, driven_outside, clocked_at}
use Rattle.drivers.specs.contracts.follow.Driver.{the_type}

-- an arm of the let-else knows only which variants it may be
pub clock_yes : (d : Driver) → OneOf (0 ∷ 1 ∷ []) (tag_of the_type d) → true ≡ is_outside d
clock_yes (Open u) h = refl
clock_yes (Constant u b) h = refl
clock_yes (Cell u) h = absurd (miss (0 ∷ 1 ∷ []) 2 tt h)
clock_yes (Ring u) h = absurd (miss (0 ∷ 1 ∷ []) 3 tt h)

pub clock_no : (d : Driver) → OneOf (2 ∷ 3 ∷ []) (tag_of the_type d) → false ≡ is_outside d
clock_no (Open u) h = absurd (miss (2 ∷ 3 ∷ []) 0 tt h)
clock_no (Constant u b) h = absurd (miss (2 ∷ 3 ∷ []) 1 tt h)
clock_no (Cell u) h = refl
clock_no (Ring u) h = refl

-- ---- a search for a cell

-- none of the cells before i passes
abbrev pub NoneBefore : (ℕ → Bool) → ℕ → Type 0
NoneBefore p i = all_from (λ j. not (p j)) i (8 - i) ≡ all_from (λ j. not (p j)) 0 8

module _ (p : ℕ → Bool) (i : ℕ) (inv : NoneBefore p i) where
  pub any_turn_hit : i < 8 → p i ≡ true → true ≡ any_cell p
  any_turn_hit l e = ap not (all_turn_hit (λ j. not (p j)) i 8 _ inv l (ap not e))

  pub any_turn_skip : i < 8 → p i ≡ false → NoneBefore p (i + 1)
  any_turn_skip l e = all_turn_skip (λ j. not (p j)) i 8 _ inv l (ap not e)

  pub any_turn_end : 8 ≤ i → false ≡ any_cell p
  any_turn_end l = ap not (all_turn_end (λ j. not (p j)) i 8 _ inv l)

-- ---- a tile

module _ (B : Block) (st sources : List ℕ) (T : ℕ) where
  abbrev clock_from : Bool
  clock_from = any_cell (flop_on st T) && not (driven_outside B st sources T clk)

  abbrev reset_from : Bool
  reset_from = any_cell (async_flop_on st T) && not (driven_outside B st sources T s_r)

  pub clocked_clock : clock_from ≡ true → true ≡ clocked_at B st sources T
  unfolding clocked_at
  clocked_clock e = ap (λ (b : Bool). b || reset_from) (sym e)

  pub clocked_reset : clock_from ≡ false → reset_from ≡ clocked_at B st sources T
  unfolding clocked_at
  clocked_reset e = ap (λ (b : Bool). b || reset_from) (sym e)
