-- How far the positions of an input can reach: all sums of the code fit. Main laws: `group_digits_le`, `group_at_le`, `size_at_le`.
use mathlib.Core.List.{List}
use Prim.Native.Nat.{ℕ, zero, suc, ◌+◌, ◌*◌, ◌<◌, ◌≤◌}
use native.Mathlib.Omega.{arith}
use Rattle.lists.proofs.SearchLaws.{first_le}
use borrow.Author.Tests.{le-ltb}
use mathlib.Core.Path.{◌≡◌}
use Rattle.frames.specs.Lines.{passive_count, position_count, entry_count, group_digits, group_line, size_digits, east_at, size_line}
use Rattle.frames.specs.Input.{group_at, group_count, size_at}
use Rattle.texts.proofs.HexLaws.{pair_lt}
use mathlib.Core.Bool.{Bool, true, false, not, cond}
use lib.Dec.{eqb}
use lib.ListN.{get_or}

module _ (s : List ℕ) where
  pub passive_count_lt : passive_count s < 256
  passive_count_lt = pair_lt s 17

  pub position_count_lt : (at : ℕ) → position_count s at < 256
  position_count_lt at = pair_lt s (at + 6)

  pub entry_count_lt : (at : ℕ) → entry_count s at < 256
  entry_count_lt at = pair_lt s (at + 8 + 4 * position_count s at)

  pub group_digits_le : (at : ℕ) → group_digits s at ≤ 2560
  unfolding group_digits
  group_digits_le at = omega (arith, position_count_lt at, entry_count_lt at)

  pub group_at_le : (g : ℕ) → group_at s g ≤ 1040 + 2561 * g
  unfolding group_at
  group_at_le zero = omega (arith, passive_count_lt)
  group_at_le (suc g) = omega (arith, group_at_le g, group_digits_le (group_at s g))

  pub group_count_le : group_count s ≤ 512
  unfolding group_count
  group_count_le = omega (arith, first_le (λ g. not (group_line s (group_at s g))) 0 512)

  pub size_digits_le : (at : ℕ) → size_digits s at ≤ 8
  unfolding size_digits
  size_digits_le at = go (eqb (get_or s (at + 6) 0) 10)
    where
      go : (t : Bool) → cond t 6 8 ≤ 8
      go true = omega arith
      go false = omega arith

  pub size_at_le : size_at s ≤ 1312272
  unfolding size_at
  size_at_le = omega (arith, group_at_le (group_count s), group_count_le)

  -- "another byte is 11 in the frame": it is no line of a size
  pub size_line_over : (at e : ℕ) → e ≡ east_at s at → 2 ≤ e → false ≡ size_line s at
  unfolding size_line
  size_line_over at e is over = rw (← is, le-ltb e 2 over)

-- what the code's sums need
pub ruleset bounds = (passive_count_lt, position_count_lt, entry_count_lt, group_digits_le, group_count_le, size_digits_le, size_at_le)
