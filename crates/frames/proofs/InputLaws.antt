-- Reading an input line by line: the turns of the loop that counts groups (`Counting` with its start, skip, stop and end), and the tiles met.
use mathlib.Core.Path.{◌≡◌, refl, sym, ap, ap₂, ◌∙◌, subst}
use mathlib.Core.List.{List}
use mathlib.Core.Bool.{Bool, true, false, not}
use Prim.Native.Nat.{ℕ, ◌+◌, ◌*◌, ◌-◌, ◌<◌, ◌≤◌}
use native.Mathlib.Omega.{arith}
use native.Mathlib.Numerals.{add-one}
use native.Mathlib.Nat.{sub-zero}
use Rattle.lists.specs.Search.{first}
use Rattle.lists.proofs.SearchLaws.{first_turn_hit, first_turn_skip, first_turn_end}
use Rattle.frames.specs.Lines.{passive_count, group_digits, group_line, tile_line}
use Rattle.frames.specs.Input.{group_at, group_count, size_at, tiles_due, tiles_from, tile_count}
use Rattle.frames.proofs.BoundLaws.{group_at_le}

-- ---- counting groups

abbrev no_group : List ℕ → ℕ → Bool
no_group s g = not (group_line s (group_at s g))

-- the next group's turn
pub group_at_next : (s : List ℕ) (g : ℕ) → group_at s (g + 1) ≡ group_at s g + (group_digits s (group_at s g) + 1)
unfolding group_at
group_at_next s g = rw (add-one g)

-- g groups were met, and what stands at `at` is looked at next
pub record Counting (s : List ℕ) (at g : ℕ) : Type 0 where
  pub here : at ≡ group_at s g
  pub rest : first (no_group s) g (512 - g) ≡ group_count s

-- all groups were met
pub record Counted (s : List ℕ) (at g : ℕ) : Type 0 where
  pub count : g ≡ group_count s
  pub end : at ≡ size_at s

module _ (s : List ℕ) where
  pub counting_start : Counting s (20 + 4 * passive_count s) 0
  unfolding group_at group_count
  counting_start = record { here = refl; rest = ap (first (no_group s) 0) (sub-zero 512) }

module _ (s : List ℕ) (at g : ℕ) (inv : Counting s at g) where
  pub counting_le : at ≤ 1040 + 2561 * g
  counting_le = omega (arith, inv.here, group_at_le s g)

  pub counting_skip : g < 512 → group_line s at ≡ true → Counting s (at + (group_digits s at + 1)) (g + 1)
  counting_skip l e = record {
    here = ap (λ a. a + (group_digits s a + 1)) inv.here ∙ sym (group_at_next s g);
    rest = first_turn_skip (no_group s) g 512 (group_count s) inv.rest l (ap not (subst (λ a. group_line s a ≡ true) inv.here e));
  }

  counted : g ≡ group_count s → Counted s at g
  unfolding size_at
  counted e = record { count = e; end = inv.here ∙ ap (group_at s) e }

  pub counting_stop : g < 512 → group_line s at ≡ false → Counted s at g
  counting_stop l e = counted (first_turn_hit (no_group s) g 512 (group_count s) inv.rest l (ap not (subst (λ a. group_line s a ≡ false) inv.here e)))

  pub counting_end : 512 ≤ g → Counted s at g
  counting_end l = counted (first_turn_end (no_group s) g 512 (group_count s) inv.rest l)

-- the tiles that the code counts, at the position that it has
pub tiles_are : (s : List ℕ) (from due : ℕ) → from ≡ tiles_from s → due ≡ tiles_due s → first (λ t. not (tile_line s (from + 219 * t))) 0 due ≡ tile_count s
unfolding tile_count
tiles_are s from due e d = ap₂ (λ a n. first (λ t. not (tile_line s (a + 219 * t))) 0 n) e d
