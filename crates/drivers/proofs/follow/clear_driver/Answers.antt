-- `follow::clear_driver` meets its contract: an end that the short walk meets is the end of the whole walk, and no mark was set. Assumes nothing.
use Rattle.drivers.proofs.Tracing.{driver_trace}
use Rattle.drivers.specs.Following.{end_driver}
use Rattle.drivers.specs.declared.follow.Trace.TheVariants.{End}
use mathlib.Core.Path.{sym, ap, ◌∙◌}
use Rattle.drivers.proofs.follow.clear_driver.Goals as goal

pub returns-then-sources-u-eq0 : goal.returns-then-sources-u-eq0
returns-then-sources-u-eq0 c =
    let a = c.args in
    let u = c.short_walk-u.result in
    record {
      answer = c.end_driver.ensures ∙ ap (end_driver u) c.drive_of.ensures
          ∙ driver_trace a.sources.now a.wire a.b (End u) (sym (c.short_walk-u.ensures.end c.if-sources-u-eq0.true));
      marks = c.requires.4;
    }
