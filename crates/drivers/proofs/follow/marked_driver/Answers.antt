-- `follow::marked_driver` meets its contract: what stands at the end of the walk, or the lowest wire of the ring that it came to. Assumes nothing.
use Rattle.drivers.proofs.Tracing.{trace_lt, driver_trace, ring_lowest_le}
use Rattle.drivers.specs.Following.{end_driver, ring_lowest, trace_driver}
use Rattle.drivers.specs.declared.follow.Driver.TheVariants.{Ring}
use Rattle.ports.proofs.BlockLaws.{ports_le}
use native.Mathlib.Omega.{arith}
use mathlib.Core.Logic.{inl, inr}
use mathlib.Core.Path.{sym, ap, ◌∙◌}
use Rattle.drivers.proofs.follow.marked_driver.Goals as goal

pub drive_of-requires : goal.drive_of-requires
drive_of-requires c =
    let a = c.args in
    let s = a.sources.now in
    let n = c.requires.1 in
    let few = ports_le a.b c.requires.0 in
    let l = c.requires.3 in
    let m = c.requires.4 in
    (c.requires.0, let k = trace_lt s a.wire c.requires.2 (omega arith) _ c.walk.ensures.answer c.in-End.u (inl c.in-End.is) in omega arith)

pub ring_lowest-requires : goal.ring_lowest-requires
ring_lowest-requires c =
    let a = c.args in
    let s = a.sources.now in
    let n = c.requires.1 in
    let few = ports_le a.b c.requires.0 in
    let l = c.requires.3 in
    let m = c.requires.4 in
    (let k = trace_lt s a.wire c.requires.2 (omega arith) _ c.walk.ensures.answer c.in-Again.u (inr c.in-Again.is) in let e = c.from.ensures in omega arith, omega arith, c.requires.2, omega arith)

pub overflow_cast-result : goal.overflow_cast-result
overflow_cast-result c =
    let a = c.args in
    let s = a.sources.now in
    let n = c.requires.1 in
    let few = ports_le a.b c.requires.0 in
    let l = c.requires.3 in
    let m = c.requires.4 in
    let k = ring_lowest_le s a.wire c.from.result in
    let e = c.ring_lowest.ensures.answer in
    omega arith

pub returns-in-End : goal.returns-in-End
returns-in-End c =
    let a = c.args in
    let s = a.sources.now in
    let m = c.requires.4 in
    c.end_driver.ensures ∙ ap (end_driver c.in-End.u) c.drive_of.ensures ∙ ap (trace_driver a.b s) (sym c.in-End.is) ∙ driver_trace s a.wire a.b _ c.walk.ensures.answer

pub returns-in-Again : goal.returns-in-Again
returns-in-Again c =
    let a = c.args in
    let s = a.sources.now in
    let m = c.requires.4 in
    ap Ring (c.ring_lowest.ensures.answer ∙ ap (ring_lowest s) c.from.ensures) ∙ ap (trace_driver a.b s) (sym c.in-Again.is) ∙ driver_trace s a.wire a.b _ c.walk.ensures.answer
