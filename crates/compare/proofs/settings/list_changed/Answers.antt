-- `settings::list_changed` meets its contract. Invariant: the rows of the settings before i that differ are stored (`StoredRows`). Assumes nothing.
use Prim.Native.Nat.{◌+◌, ◌≤◌}
use mathlib.Core.Path.{refl, sym, ap, ◌∙◌}
use mathlib.Core.Bool.{not}
use native.Mathlib.Omega.{arith}
use borrow.Author.Rules.{rules}
use lib.ListN.{length}
use Rattle.std.specs.Prelude.{map}
use Rattle.lists.proofs.Storing.{stored_start, stored_hit, stored_skip, stored_room}
use Rattle.compare.specs.Places.{row_length, number_row, kind_number}
use Rattle.compare.proofs.KindLaws.{number_at, changed_is, number_row_is, number_row_length}
use Rattle.compare.proofs.settings.list_changed.Goals as goal
use Rattle.compare.proofs.settings.list_changed.Goals.{Then-not-is_same, then-not-is_same, else-not-is_same}
use Rattle.compare.proofs.settings.list_changed.Given.{Over}

pub loop-i-init : goal.loop-i-init
loop-i-init g c = stored_start _ _ _ _ _

-- there is room for one row more
room : (g : Over) (c : Then-not-is_same g) → c.loop-i.at + row_length ≤ length c.loop-i.list
room g c =
    let number = g.S.Setting.number in
    let olds = map number c.args.olds.now in
    let news = map number c.args.news.now in
    let i = c.loop-i.i in
    let old = number_at number c.args.olds.now i _ _ c.loop-i-test.true c.index-olds-i.is refl in
    let new = number_at number c.args.news.now i _ _ (omega arith) c.index-news-i.is refl in
    let row = number_row c.args.tile (kind_number c.args.kind) 0 olds news in
    stored_room {row = row} c.loop-i.invariant (number_row_length c.args.tile (kind_number c.args.kind) 0 olds news) (length c.args.olds.now) (omega arith)
    (changed_is 0 olds news i _ _ old new ∙ ap not (sym c.is_same.ensures ∙ c.if-not-is_same.true)) c.requires.2

pub put_row-requires : goal.put_row-requires
put_row-requires g c = room g (goal.at.put_row-requires g c).Then-not-is_same

pub overflow_add-at : goal.overflow_add-at
overflow_add-at g c = let l = room g (goal.at.overflow_add-at g c).Then-not-is_same in search rules

pub loop-i-preserved : goal.loop-i-preserved
loop-i-preserved g c =
    let number = g.S.Setting.number in
    let olds = map number c.args.olds.now in
    let news = map number c.args.news.now in
    let tile = c.args.tile in
    let kind = kind_number c.args.kind in
    let i = c.loop-i.i in
    let old = number_at number c.args.olds.now i _ _ c.loop-i-test.true c.index-olds-i.is refl in
    let new = number_at number c.args.news.now i _ _ (omega arith) c.index-news-i.is refl in
    let row = number_row tile kind 0 olds news in
    let long = number_row_length tile kind 0 olds news in
    elim c.if-not-is_same.branch [
      | then-not-is_same w ↦ stored_hit {row = row} c.loop-i.invariant long _ _
          (number_row_is 0 olds news i _ _ (w.number.ensures ∙ old) (w.number-then-not-is_same.ensures ∙ new) tile kind _ _ _ _ w.from.ensures (w.list-is ∙ w.put_row.ensures)) w.at-is
          (changed_is 0 olds news i _ _ old new ∙ ap not (sym c.is_same.ensures ∙ w.if-not-is_same.true))
      | else-not-is_same w ↦ stored_skip {row = row} c.loop-i.invariant long _ _ w.list-is w.at-is (changed_is 0 olds news i _ _ old new ∙ ap not (sym c.is_same.ensures ∙ w.if-not-is_same.false))
    ]
