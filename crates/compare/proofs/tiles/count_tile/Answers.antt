-- `tiles::count_tile` meets its contract: the four kinds together are all places. Assumes nothing.
use Prim.Native.Nat.{ℕ, ◌+◌, ◌≤◌}
use mathlib.Core.Path.{sym, ◌∙◌}
use native.Mathlib.Omega.{arith}
use Rattle.ports.specs.Lengths.{field_count, max_groups, max_passives}
use Rattle.routing.specs.LogicTile.{logic_tile}
use Rattle.codec.specs.Settings.{groups_from}
use Rattle.codec.specs.Cells.{cell_number}
use Rattle.compare.specs.Places.{group_places, cell_places, passive_places, places_per_tile}
use Rattle.lists.proofs.RowLaws.{count_none_yet}
use Rattle.compare.proofs.TileLaws.{cut_length, cells_length, fields_shown, groups_shown, cells_shown, passives_shown, kind_count, changed_count, changed_le}
use Rattle.compare.proofs.tiles.count_tile.Goals as goal
use Rattle.compare.proofs.tiles.count_tile.Goals.{After-count_changed-passives}

-- a tile has few
few : (c : After-count_changed-passives) → c.count_changed-fields.result + c.count_changed-groups.result + c.count_cells-cells.result + c.count_changed-passives.result ≤ places_per_tile
few c =
    let old = c.args.old.now in
    let new = c.args.new.now in
    let f = cut_length 0 field_count in
    let g = cut_length (groups_from logic_tile) max_groups in
    let p = cut_length logic_tile.fields max_passives in
    let k = cells_length old _ c.cells_of-olds.ensures in
    omega (
      arith,
      f old (omega arith),
      g old (omega arith),
      p old (omega arith),
      k,
      changed_le (λ (n : ℕ). n) _ _ (f new (omega arith) ∙ sym (f old (omega arith))) _ c.count_changed-fields.ensures,
      changed_le (λ (n : ℕ). n) _ _ (g new (omega arith) ∙ sym (g old (omega arith))) _ c.count_changed-groups.ensures,
      changed_le cell_number _ _ (cells_length new _ c.cells_of-news.ensures ∙ sym k) _ c.count_cells-cells.ensures,
      changed_le (λ (n : ℕ). n) _ _ (p new (omega arith) ∙ sym (p old (omega arith))) _ c.count_changed-passives.ensures,
    )

pub overflow_add-result : goal.overflow_add-result
overflow_add-result c = let l = few (goal.at.overflow_add-result c).After-count_changed-passives in omega arith

pub overflow_add-result-2 : goal.overflow_add-result-2
overflow_add-result-2 c = let l = few (goal.at.overflow_add-result-2 c).After-count_changed-passives in omega arith

pub overflow_add-result-3 : goal.overflow_add-result-3
overflow_add-result-3 c = let l = few (goal.at.overflow_add-result-3 c).After-count_changed-passives in omega arith

pub returns : goal.returns
returns c =
    let old = c.args.old.now in
    let new = c.args.new.now in
    let f = cut_length 0 field_count in
    let g = cut_length (groups_from logic_tile) max_groups in
    let p = cut_length logic_tile.fields max_passives in
    let olds = cells_length old _ c.cells_of-olds.ensures in
    let news = cells_length new _ c.cells_of-news.ensures in
    let fields =
    changed_count (λ (n : ℕ). n) _ _ (f new (omega arith) ∙ sym (f old (omega arith))) _ c.count_changed-fields.ensures field_count (f old (omega arith)) in
    let groups =
    changed_count (λ (n : ℕ). n) _ _ (g new (omega arith) ∙ sym (g old (omega arith))) _ c.count_changed-groups.ensures max_groups (g old (omega arith)) in
    let cells = changed_count cell_number _ _ (news ∙ sym olds) _ c.count_cells-cells.ensures logic_tile.cells olds in
    let passives =
    changed_count (λ (n : ℕ). n) _ _ (p new (omega arith) ∙ sym (p old (omega arith))) _ c.count_changed-passives.ensures max_passives (p old (omega arith)) in
    let one = kind_count old new 0 field_count _ _ (fields_shown old c.requires.0) (fields_shown new c.requires.1) 0 _ (count_none_yet _) fields in
    let two = kind_count old new group_places max_groups _ _ (groups_shown old c.requires.0) (groups_shown new c.requires.1) _ _ one groups in
    let three =
    kind_count old new cell_places logic_tile.cells _ _ (cells_shown old _ c.cells_of-olds.ensures) (cells_shown new _ c.cells_of-news.ensures) _ _ two cells in
    let all = kind_count old new passive_places max_passives _ _ (passives_shown old c.requires.0) (passives_shown new c.requires.1) _ _ three passives in
    omega (arith, all)
