-- `tiles::list_tile` meets its contract: the rows of each kind stand behind those of the kinds before it. Assumes nothing.
use mathlib.Core.Path.{refl}
use native.Mathlib.Omega.{arith}
use Rattle.lists.proofs.Storing.{stored_start}
use Rattle.ports.specs.Lengths.{field_count, max_groups, max_passives}
use Rattle.routing.specs.LogicTile.{logic_tile}
use Rattle.codec.specs.Settings.{groups_from}
use Rattle.compare.specs.Places.{group_places, cell_places, passive_places}
use Rattle.compare.proofs.TileLaws.{TileStored, cut_length, fields_shown, groups_shown, cells_shown, passives_shown, field_kinds, group_kinds, cell_kinds, passive_kinds, kind_stored, kind_room}
use Rattle.compare.proofs.tiles.list_tile.Goals as goal
use Rattle.compare.proofs.tiles.list_tile.Goals.{After-list_changed-groups, After-list_changed-cells, After-list_cells-passives}

-- ---- the rows that are stored when a kind is listed

fields : (c : After-list_changed-groups)
    → TileStored c.args.tile c.args.old.now c.args.new.now c.args.from c.args.list.now group_places c.list_changed-groups.result c.list_changed-groups.new.list
fields c =
    let old = c.args.old.now in
    let new = c.args.new.now in
    kind_stored old new 0 field_count _ _ (fields_shown old c.requires.0) (fields_shown new c.requires.1) c.args.tile 1 field_kinds c.args.from c.args.list.now
    (stored_start _ _ _ _ _) _ (cut_length 0 field_count old (omega arith)) _ _ c.list_changed-groups.ensures.list c.list_changed-groups.ensures.end

groups : (c : After-list_changed-cells)
    → TileStored c.args.tile c.args.old.now c.args.new.now c.args.from c.args.list.now group_places c.list_changed-groups.result c.list_changed-groups.new.list
    → TileStored c.args.tile c.args.old.now c.args.new.now c.args.from c.args.list.now cell_places c.list_changed-cells.result c.list_changed-cells.new.list
groups c stored =
    let old = c.args.old.now in
    let new = c.args.new.now in
    kind_stored old new group_places max_groups _ _ (groups_shown old c.requires.0) (groups_shown new c.requires.1) c.args.tile 2 group_kinds c.args.from c.args.list.now
    stored _ (cut_length (groups_from logic_tile) max_groups old (omega arith)) _ _ c.list_changed-cells.ensures.list c.list_changed-cells.ensures.end

cells : (c : After-list_cells-passives)
    → TileStored c.args.tile c.args.old.now c.args.new.now c.args.from c.args.list.now cell_places c.list_changed-cells.result c.list_changed-cells.new.list
    → TileStored c.args.tile c.args.old.now c.args.new.now c.args.from c.args.list.now passive_places c.list_cells-passives.result c.list_cells-passives.new.list
cells c stored =
    let old = c.args.old.now in
    let new = c.args.new.now in
    kind_stored old new cell_places logic_tile.cells _ _ (cells_shown old _ c.cells_of-olds.ensures) (cells_shown new _ c.cells_of-news.ensures) c.args.tile 3 cell_kinds
    c.args.from c.args.list.now stored _ refl _ _ c.list_cells-passives.ensures.list c.list_cells-passives.ensures.end

-- ---- what each kind is lent has room for its rows

pub list_changed-groups-requires : goal.list_changed-groups-requires
list_changed-groups-requires c =
    let old = c.args.old.now in
    let new = c.args.new.now in
    let long = cut_length 0 field_count old (omega arith) in
    let long' = cut_length 0 field_count new (omega arith) in (
      omega arith,
      omega arith,
      kind_room old new 0 field_count _ _ (fields_shown old c.requires.0) (fields_shown new c.requires.1) c.args.tile 1 field_kinds c.args.from c.args.list.now
          (stored_start _ _ _ _ _) _ long (omega arith) c.requires.2,
    )

pub list_changed-cells-requires : goal.list_changed-cells-requires
list_changed-cells-requires c =
    let old = c.args.old.now in
    let new = c.args.new.now in
    let long = cut_length (groups_from logic_tile) max_groups old (omega arith) in
    let long' = cut_length (groups_from logic_tile) max_groups new (omega arith) in
    let at = goal.at.list_changed-cells-requires c in (
      omega arith,
      omega arith,
      kind_room old new group_places max_groups _ _ (groups_shown old c.requires.0) (groups_shown new c.requires.1) c.args.tile 2 group_kinds c.args.from c.args.list.now
          (fields at.After-list_changed-groups) _ long (omega arith) c.requires.2,
    )

pub list_cells-passives-requires : goal.list_cells-passives-requires
list_cells-passives-requires c =
    let old = c.args.old.now in
    let new = c.args.new.now in
    let at = goal.at.list_cells-passives-requires c in
    kind_room old new cell_places logic_tile.cells _ _ (cells_shown old _ c.cells_of-olds.ensures) (cells_shown new _ c.cells_of-news.ensures) c.args.tile 3 cell_kinds
    c.args.from c.args.list.now (groups at.After-list_changed-cells (fields at.After-list_changed-groups)) _ refl (omega arith) c.requires.2

pub list_changed-requires : goal.list_changed-requires
list_changed-requires c =
    let old = c.args.old.now in
    let new = c.args.new.now in
    let long = cut_length logic_tile.fields max_passives old (omega arith) in
    let long' = cut_length logic_tile.fields max_passives new (omega arith) in
    let at = goal.at.list_changed-requires c in
    let stored = cells at.After-list_cells-passives (groups at.After-list_changed-cells (fields at.After-list_changed-groups)) in (
      omega arith,
      omega arith,
      kind_room old new passive_places max_passives _ _ (passives_shown old c.requires.0) (passives_shown new c.requires.1) c.args.tile 4 passive_kinds c.args.from c.args.list.now
          stored _ long (omega arith) c.requires.2,
    )

pub returns : goal.returns
returns c =
    let old = c.args.old.now in
    let new = c.args.new.now in
    let long = cut_length logic_tile.fields max_passives old (omega arith) in
    let at = goal.at.returns c in
    let stored = cells at.After-list_cells-passives (groups at.After-list_changed-cells (fields at.After-list_changed-groups)) in
    let all =
    kind_stored old new passive_places max_passives _ _ (passives_shown old c.requires.0) (passives_shown new c.requires.1) c.args.tile 4 passive_kinds c.args.from c.args.list.now
    stored _ long _ _ c.list_changed.ensures.list c.list_changed.ensures.end in
    record { end = all.end; list = all.stored }
