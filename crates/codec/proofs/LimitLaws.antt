-- The largest value of each setting, one law for each way through `limit_at`, the test of all, and what settings that fit keep
-- to. Main laws: `within_fits`, `fit_at`.
-- Assumes nothing.
use mathlib.Core.Path.{◌≡◌, refl, sym, ap, ◌∙◌, subst}
use mathlib.Core.Logic.{◌≢◌}
use mathlib.Core.Bool.{Bool, true, false, not, ◌&&◌}
use mathlib.Core.List.{List}
use Prim.Native.Nat.{ℕ, ◌+◌, ◌-◌, ◌*◌, ◌%◌, ◌<◌, ◌≤◌}
use native.Mathlib.Omega.{arith}
use borrow.Author.Tests.{eq-eqb, ne_eqb, lt-ltb, le-ltb, leb-true}
use lib.Dec.{leb}
use lib.ListN.{get_or}
use Rattle.lists.specs.Search.{all_from}
use Rattle.lists.proofs.CaseLaws.{and_left, and_right}
use Rattle.lists.proofs.TableLaws.{tabulate_zero}
use Rattle.lists.proofs.SearchLaws.{all_at, all_ext}
use Rattle.routing.specs.LogicTile.{logic_tile}
use Rattle.ports.specs.Lengths.{max_passives, max_groups, settings_length}
use Rattle.routing.specs.Table.{passive_count, group_count, entry_count}
use Rattle.codec.specs.Settings.{field_setting, passive_setting, group_setting, groups_from, cells_from, cell_table, cell_flags}
use Rattle.codec.specs.Limits.{limit_at, within_limit, limits_of, within_at, both_carries, settings_fit, fits_within}

module _ (table : List ℕ) (n : ℕ) where
  pub limit_field : n < 3 → limit_at table n ≡ 1
  unfolding limit_at
  limit_field h = rw (lt-ltb n 3 h)

  module _ (a : 3 ≤ n) (b : n < groups_from logic_tile) where
    pub limit_passive : n - 3 < passive_count logic_tile table → limit_at table n ≡ 1
    unfolding limit_at
    limit_passive h = rw (le-ltb n 3 a, lt-ltb n (groups_from logic_tile) b, lt-ltb (n - 3) (passive_count logic_tile table) h)

    pub limit_passive_rest : passive_count logic_tile table ≤ n - 3 → limit_at table n ≡ 0
    unfolding limit_at
    limit_passive_rest h = rw (le-ltb n 3 a, lt-ltb n (groups_from logic_tile) b, le-ltb (n - 3) (passive_count logic_tile table) h)

  module _ (a : groups_from logic_tile ≤ n) (b : n < cells_from logic_tile) where
    pub limit_group : n - groups_from logic_tile < group_count logic_tile table → limit_at table n ≡ entry_count logic_tile table (n - groups_from logic_tile)
    unfolding limit_at
    limit_group h =
        rw (
          le-ltb n 3 (omega arith),
          le-ltb n (groups_from logic_tile) a,
          lt-ltb n (cells_from logic_tile) b,
          lt-ltb (n - groups_from logic_tile) (group_count logic_tile table) h,
        )

    pub limit_group_rest : group_count logic_tile table ≤ n - groups_from logic_tile → limit_at table n ≡ 0
    unfolding limit_at
    limit_group_rest h =
        rw (
          le-ltb n 3 (omega arith),
          le-ltb n (groups_from logic_tile) a,
          lt-ltb n (cells_from logic_tile) b,
          le-ltb (n - groups_from logic_tile) (group_count logic_tile table) h,
        )

  module _ (a : cells_from logic_tile ≤ n) where
    pub limit_table : (n - cells_from logic_tile) % 2 ≡ 0 → limit_at table n ≡ 65535
    unfolding limit_at
    limit_table e = rw (
      le-ltb n 3 (omega arith),
      le-ltb n (groups_from logic_tile) (omega arith),
      le-ltb n (cells_from logic_tile) a,
      eq-eqb
          ((n - cells_from logic_tile) % 2) 0 e,
    )

    pub limit_flags : (n - cells_from logic_tile) % 2 ≢ 0 → limit_at table n ≡ 15
    unfolding limit_at
    limit_flags e = rw (
      le-ltb n 3 (omega arith),
      le-ltb n (groups_from logic_tile) (omega arith),
      le-ltb n (cells_from logic_tile) a,
      ne_eqb
          ((n - cells_from logic_tile) % 2) 0 e,
    )

-- ---- settings held against the largest values, as the code does it

module _ (limits settings : List ℕ) where
  pub within_carry_pair : both_carries settings ≡ true → false ≡ fits_within limits settings
  unfolding fits_within
  within_carry_pair e = rw e

  pub within_all : both_carries settings ≡ false → all_from (within_at limits settings) 0 settings_length ≡ fits_within limits settings
  unfolding fits_within
  within_all e = rw e

-- against the limits of a table
pub within_fits : (table limits settings : List ℕ) → limits ≡ limits_of table → fits_within limits settings ≡ settings_fit table settings
unfolding fits_within settings_fit
within_fits table limits settings e =
    ap (◌&&◌ (not (both_carries settings)))
    (all_ext (within_at limits settings) (within_limit table settings) 0 settings_length
    (λ k a l. ap (leb (get_or settings k 0))
    (ap (λ (x : List ℕ). get_or x k 0) e ∙ tabulate_zero (limit_at table) 0 settings_length k (omega arith))))

-- ---- settings that fit

module _ (table settings : List ℕ) (fit : settings_fit table settings ≡ true) where
  -- the code's view of a number: one of the settings, at most its limit
  pub fit_at : (n : ℕ) → n < settings_length → get_or settings n 0 ≤ limit_at table n
  unfolding settings_fit
  fit_at n h =
      leb-true (get_or settings n 0) (limit_at table n)
      (all_at (within_limit table settings) 0 settings_length n (and_right (not (both_carries settings)) _ fit) (omega arith) (omega arith))

  pub fit_carries : both_carries settings ≡ false
  unfolding settings_fit
  fit_carries = off (both_carries settings) (and_left (not (both_carries settings)) _ fit)
    where
      off : (b : Bool) → not b ≡ true → b ≡ false
      off true e = sym e
      off false e = refl

  pub fit_field : (f : ℕ) → f < 3 → field_setting settings f < 2
  fit_field f h = omega (arith, fit_at f (omega arith), limit_field table f h)

  pub fit_passive : (j : ℕ) → j < max_passives → j < passive_count logic_tile table → passive_setting logic_tile settings j < 2
  fit_passive j a h = omega (arith, fit_at (3 + j) (omega arith), limit_passive table (3 + j) (omega arith) (omega arith) (omega arith))

  pub fit_passive_rest : (j : ℕ) → j < max_passives → passive_count logic_tile table ≤ j → passive_setting logic_tile settings j ≡ 0
  fit_passive_rest j a h = omega (arith, fit_at (3 + j) (omega arith), limit_passive_rest table (3 + j) (omega arith) (omega arith) (omega arith))

  pub fit_group : (g : ℕ) → g < max_groups → g < group_count logic_tile table → group_setting logic_tile settings g ≤ entry_count logic_tile table g
  fit_group g a h =
      let e : groups_from logic_tile + g - groups_from logic_tile ≡ g = omega arith in
      subst (λ (x : ℕ). group_setting logic_tile settings g ≤ entry_count logic_tile table x) e
      (subst (λ (x : ℕ). group_setting logic_tile settings g ≤ x) (limit_group table (groups_from logic_tile + g) (omega arith) (omega arith) (omega arith))
      (fit_at (groups_from logic_tile + g) (omega arith)))

  pub fit_group_rest : (g : ℕ) → g < max_groups → group_count logic_tile table ≤ g → group_setting logic_tile settings g ≡ 0
  fit_group_rest g a h =
      omega (
        arith,
        fit_at (groups_from logic_tile + g) (omega arith),
        limit_group_rest table (groups_from logic_tile + g) (omega arith) (omega arith)
            (omega arith),
      )

  pub fit_table : (i : ℕ) → i < 8 → cell_table logic_tile settings i < 65536
  fit_table i h = omega (arith, fit_at (cells_from logic_tile + 2 * i) (omega arith), limit_table table (cells_from logic_tile + 2 * i) (omega arith) (omega arith))

  pub fit_flags : (i : ℕ) → i < 8 → cell_flags logic_tile settings i < 16
  fit_flags i h =
      omega (
        arith,
        fit_at (cells_from logic_tile + 2 * i + 1) (omega arith),
        limit_flags table (cells_from logic_tile + 2 * i + 1) (omega arith)
            (λ z. omega arith),
      )
