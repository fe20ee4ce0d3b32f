-- `contents::fill_table` meets its contract: the head, and behind it the groups. Assumes nothing.
use Rattle.frames.proofs.FillLaws.{put_to_end}
use Rattle.frames.specs.Contents.{table_of}
use lib.Seq.{length-take-le}
use lib.ListN.{drop}
use native.Mathlib.Omega.{arith}
use mathlib.Core.List.{◌++◌}
use mathlib.Core.Path.{sym, ap₂, ◌∙◌}
use Rattle.frames.proofs.contents.fill_table.Goals as goal

pub slice_bounds-fill_head-end-2 : goal.slice_bounds-fill_head-end-2
slice_bounds-fill_head-end-2 c = sym (length-take-le 69 c.args.table.now (omega arith))

pub returns : goal.returns
unfolding table_of
returns c =
    let table = c.args.table.now in
    put_to_end 69 c.fill_head.new.head (drop 69 table) c.fill_groups.new.rest (c.fill_head.auto.head ∙ length-take-le 69 table (omega arith))
    ∙ ap₂ ◌++◌ c.fill_head.ensures c.fill_groups.ensures
