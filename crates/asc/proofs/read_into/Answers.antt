-- `read_into` meets its contract: the first line at fault, or the digits packed. Assumes nothing.
use mathlib.Core.Path.{refl, ap, ◌∙◌}
use lib.ListN.{length}
use Rattle.ports.specs.Lengths.{columns}
use Rattle.words.specs.Packed.{packed}
use Rattle.asc.specs.Site.{area_of}
use Rattle.asc.specs.Content.{value_at, rows_packed}
use Rattle.asc.specs.Meaning.{Lent, by_line}
use Rattle.asc.proofs.read_into.Goals as goal

pub returns-in-Err : goal.returns-in-Err
returns-in-Err c =
    let lent : Lent (area_of c.args.site) (length c.args.bits.now) = record { right_size = c.args.site.is_sized; right_length = c.requires.0 } in
    (refl, by_line lent (record { n = c.in-Err.n; says = c.in-Err.ensures; place_is = c.line_number.ensures }))

pub returns-in-Ok : goal.returns-in-Ok
unfolding rows_packed
returns-in-Ok c =
    let content = c.scan.new.content in
    let lent : Lent (area_of c.args.site) (length c.args.bits.now) = record { right_size = c.args.site.is_sized; right_length = c.requires.0 } in
    (lent, record { content = content; all_says = c.in-Ok.ensures; bits_are = c.pack.ensures ∙ ap (packed columns (value_at content)) c.requires.0 })
