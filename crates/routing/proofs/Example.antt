-- The sample table of document 01, 'Frames and one whole run', passes the check. Assumes nothing.
use mathlib.Core.Path.{◌≡◌, refl}
use mathlib.Core.Bool.{true}
use mathlib.Core.List.{List, [], ◌∷◌, ◌++◌}
use Prim.Native.Nat.{ℕ}
use native.Mathlib.Omega.{arith}
use lib.ListN.{length}
use Rattle.lists.specs.Search.{first, all_from}
use Rattle.lists.specs.Tables.{zeros}
use Rattle.lists.proofs.TableLaws.{zeros_length}
use Rattle.ports.specs.Lengths.{table_length}
use Rattle.routing.specs.Slots.{slot_at, slot_used}
use Rattle.routing.specs.LogicTile.{cell_position, is_destination, is_source, logic_tile}
use Rattle.routing.specs.Rules.{TableRules}
use Rattle.routing.proofs.TableCheckLaws.{table_exact}
use Rattle.routing.specs.TableCheck.{position_ok, entry_ok, group_alone_ok, fields_ok, passives_ok, group_ok, part_ok, table_ok}

-- "01000000680067", "0200", "03015005000E004400450046004701110194", "03017405001A005000510052005301100150": fields 0, 104, 103; no passive
-- position; local_g0_0 from positions 14, 68 to 71 with one entry, lutff_0/in_0 from 26, 80 to 83 with one entry
abbrev pub sample_table : List ℕ
sample_table =
    (0 ∷ 104 ∷ 103 ∷ []) ++ zeros 65 ++ (2 ∷ [])
    ++ (336 ∷ 5 ∷ 14 ∷ 68 ∷ 69 ∷ 70 ∷ 71 ∷ 0 ∷ 0 ∷ 0 ∷ 1 ∷ 17 ∷ 404 ∷ []) ++ zeros 62
    ++ (372 ∷ 5 ∷ 26 ∷ 80 ∷ 81 ∷ 82 ∷ 83 ∷ 0 ∷ 0 ∷ 0 ∷ 1 ∷ 16 ∷ 336 ∷ []) ++ zeros 38312

pub sample_passes : table_ok logic_tile sample_table ≡ true
unfolding first all_from slot_at slot_used cell_position is_destination is_source position_ok entry_ok group_alone_ok fields_ok passives_ok group_ok part_ok
sample_passes = refl

sample_long : length sample_table ≡ table_length
sample_long = omega (arith, zeros_length 38312)

-- so it keeps every rule, and claims no position twice
pub sample_rules : TableRules logic_tile sample_table
sample_rules = (table_exact logic_tile sample_table sample_long).0 sample_passes
