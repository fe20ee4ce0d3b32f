-- Ground 9 for one tile, computed: each setting has a largest value, and CarryInSet does not go with the chain switch.
use Rattle.std.specs.Prelude.{ℕ, ◌-◌, ◌%◌, Bool, cond, not, ◌&&◌, List, eqb, ltb, leb, get_or}
use Rattle.lists.specs.Search.{all_from}
use Rattle.lists.specs.Tables.{tabulate}
use Rattle.routing.specs.LogicTile.{logic_tile, carry_in_set, carry_chain}
use Rattle.routing.specs.Table.{passive_count, group_count, entry_count}
use Rattle.codec.specs.Settings.{field_setting, groups_from, cells_from}
use Rattle.ports.specs.Lengths.{settings_length}

-- the largest value of setting n: a field or a listed passive bit is a bit, a group has its entries, a lookup table has 16 bits and a cell
-- 4 flags; what is past the table's counts is 0
unfoldable pub limit_at : List ℕ → ℕ → ℕ
limit_at table n =
    cond (ltb n logic_tile.fields) 1
    (cond (ltb n (groups_from logic_tile)) (cond (ltb (n - logic_tile.fields) (passive_count logic_tile table)) 1 0)
    (cond (ltb n (cells_from logic_tile)) (cond (ltb (n - groups_from logic_tile) (group_count logic_tile table)) (entry_count logic_tile table (n - groups_from logic_tile)) 0)
    (cond (eqb ((n - cells_from logic_tile) % 2) 0) 65535 15)))

-- the largest values of all settings
abbrev pub limits_of : List ℕ → List ℕ
limits_of table = tabulate (limit_at table) 0 settings_length

-- setting n against a list of largest values
abbrev pub within_at : List ℕ → List ℕ → ℕ → Bool
within_at limits settings n = leb (get_or settings n 0) (get_or limits n 0)

unfoldable pub both_carries : List ℕ → Bool
both_carries settings = eqb (field_setting settings carry_in_set) 1 && eqb (field_setting settings carry_chain) 1

abbrev pub within_limit : List ℕ → List ℕ → ℕ → Bool
within_limit table settings n = leb (get_or settings n 0) (limit_at table n)

unfoldable pub settings_fit : List ℕ → List ℕ → Bool
settings_fit table settings = not (both_carries settings) && all_from (within_limit table settings) 0 settings_length

-- the same against a list of largest values
unfoldable pub fits_within : List ℕ → List ℕ → Bool
fits_within limits settings = not (both_carries settings) && all_from (within_at limits settings) 0 settings_length
