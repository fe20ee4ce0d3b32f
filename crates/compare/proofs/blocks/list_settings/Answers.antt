-- `blocks::list_settings` meets its contract: the rows are counted, and where they fit they are stored and the rest is cleared. Assumes nothing.
use Prim.Native.Nat.{ℕ, ◌-◌}
use mathlib.Core.Path.{◌≡◌, refl, sym, subst}
use native.Mathlib.Omega.{arith}
use lib.ListN.{length, take, drop}
use borrow.Rule.Slice.PartMut.{put_mid}
use Rattle.lists.specs.Tables.{zeros}
use Rattle.compare.specs.Entry.{rows_list}
use Rattle.compare.proofs.EntryLaws.{rows_short, rows_told}
use Rattle.compare.proofs.ListLaws.{rows_few, list_filled}
use Rattle.compare.proofs.blocks.list_settings.Goals as goal

pub overflow_mul-rows : goal.overflow_mul-rows
overflow_mul-rows c =
    omega (arith, rows_few c.args.before.now c.args.after.now c.args.n _ c.count_block-rows.ensures c.requires.0)

pub overflow_cast-result : goal.overflow_cast-result
overflow_cast-result c =
    omega (arith, rows_few c.args.before.now c.args.after.now c.args.n _ c.count_block-rows.ensures c.requires.0)

-- the list is too short
pub returns-then-len-rows : goal.returns-then-len-rows
returns-then-len-rows c = record {
  answer = rows_short c.args.before.now c.args.after.now c.args.n (length c.args.list.now) _
      c.count_block-rows.ensures c.if-len-rows.true;
  list = refl;
}

pub overflow_cast-result-2 : goal.overflow_cast-result-2
overflow_cast-result-2 c =
    omega (arith, rows_few c.args.before.now c.args.after.now c.args.n _ c.count_block-rows.ensures c.requires.0)

-- the rows are stored, and the rest is zeros
pub returns : goal.returns
returns c =
    let old = c.args.before.now in
    let new = c.args.after.now in
    let n = c.args.n in
    let list = c.args.list.now in
    let end = c.list_block-end.result in
    let stored = c.list_block-end.new.list in
    let rest = c.fill.new.self in
    let cleared =
    subst (λ (m : ℕ). rest ≡ zeros (length (take (m - end) (drop end stored)))) c.list_block-end.auto.list (c.fill.ensures.after (λ y e. e)) in
    record {
      answer = rows_told old new n (length list) _ c.count_block-rows.ensures c.if-len-rows.false;
      list = subst (λ (m : ℕ). put_mid end (m - end) stored rest ≡ rows_list old new n (length list)) (sym c.list_block-end.auto.list)
          (list_filled old new n list stored rest end (omega (arith, c.count_block-rows.ensures, c.if-len-rows.false)) c.list_block-end.ensures.list
          c.list_block-end.ensures.end cleared);
    }
