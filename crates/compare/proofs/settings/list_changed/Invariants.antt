-- `settings::list_changed` meets its contract. Invariant: the rows of the settings before i that differ are stored (`StoredRows`). Assumes nothing.
use Rattle.std.specs.Prelude.{map}
use Rattle.lists.proofs.Storing.{StoredRows}
use Rattle.compare.specs.Places.{row_length, number_apart, number_row, kind_number}
use Rattle.compare.proofs.settings.list_changed.Given as goal

abbrev pub invariant-loop-i : goal.invariant-loop-i
invariant-loop-i g l =
    let olds = map g.S.Setting.number l.olds in
    let news = map g.S.Setting.number l.news in
    StoredRows (number_apart 0 olds news) (number_row l.tile (kind_number l.kind) 0 olds news) row_length l.from l.initial.list l.i l.at l.list
