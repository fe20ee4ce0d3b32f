-- `follow::walk` meets its contract. Invariant: the walk from here on is the whole walk (`Tracing`). Measure: the wires that are not marked.
-- Assumes nothing.
use native.Mathlib.Omega.{arith}
use Rattle.drivers.proofs.Tracing.{Tracing, tracing_start, tracing_step, tracing_less, tracing_end, tracing_again}
use Rattle.netlist.proofs.MarkLaws.{listed_true, listed_false}
use Rattle.lists.specs.Tables.{zeros}
use lib.ListN.{set}
use mathlib.Core.List.{List}
use mathlib.Core.Path.{sym, ap, subst, ◌∙◌}
use Prim.Native.Nat.{ℕ}
use Rattle.drivers.proofs.follow.walk.Goals as goal

pub loop-source-init : goal.loop-source-init
loop-source-init c = subst (λ (x : List ℕ). Tracing c.args.sources.now c.args.start x c.args.start) (sym (c.fill.ensures.after (λ y e. e) ∙ ap zeros c.requires.3)) (tracing_start c.args.sources.now c.args.start c.requires.0)

pub returns-in_default : goal.returns-in_default
returns-in_default c =
    let s = c.args.sources.now in
    let end = tracing_end s c.args.start c.loop-source.marks c.loop-source.u c.loop-source.invariant (omega (arith, c.in_default.ensures)) in
    record { answer = end.0; marks = end.1 }

pub returns-then-marks-u-ne0 : goal.returns-then-marks-u-ne0
returns-then-marks-u-ne0 c =
    let s = c.args.sources.now in
    let marks = c.loop-source.marks in
    let u = c.loop-source.u in
    let again =
    tracing_again s c.args.start marks u c.loop-source.invariant (λ e. omega (arith, c.in-Some.ensures)) (listed_true marks u c.if-marks-u-ne0.true) in
    record { answer = again.0; marks = again.1 }

pub loop-source-smaller : goal.loop-source-smaller
loop-source-smaller c =
    let marks = c.loop-source.marks in
    let u = c.loop-source.u in
    tracing_less c.args.sources.now c.args.start marks u c.loop-source.invariant (listed_false marks u c.if-marks-u-ne0.false)

pub loop-source-preserved : goal.loop-source-preserved
loop-source-preserved c =
    let s = c.args.sources.now in
    let marks = c.loop-source.marks in
    let u = c.loop-source.u in
    subst (Tracing s c.args.start (set marks u 1)) (sym (c.from-u.ensures ∙ c.in-Some.ensures.1))
    (tracing_step s c.args.start marks u c.loop-source.invariant c.requires.2 (λ e. omega (arith, c.in-Some.ensures))
    (listed_false marks u c.if-marks-u-ne0.false))
