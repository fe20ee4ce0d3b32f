-- `scan::scan` meets its contract. Invariant: the lines before `at` are in order and lead to the scan and the rooms (`Going`). Measure: the bytes left. Assumes nothing.
use Rattle.std.proofs.Common.{rules, Some, None, Err, false}
use mathlib.Core.Path.{◌≡◌, sym, ap, ◌∙◌}
use native.Mathlib.Omega.{arith}
use Rattle.lists.specs.Tables.{zeros}
use Rattle.texts.proofs.LineEndLaws.{line_to, none_left}
use Rattle.asc.proofs.ScanLaws.{going_start, going_turned, going_open, going_fault, going_missing, going_all}
use Rattle.asc.proofs.AreaLaws.{sized_of}
use Rattle.asc.proofs.scan.scan.Goals as goal

pub loop-at-init : goal.loop-at-init
loop-at-init c =
    let begun : c.default-s.result ≡ record { device = false; skipping = false; left = 0; place = 0 } = search rules in
    rw begun
    (going_start _ _ _ _ (omega arith) (c.fill.ensures.after (λ y e. e) ∙ ap zeros c.requires.0) (c.fill-2.ensures.after (λ y e. e) ∙ ap zeros c.requires.1))

-- the last line has no line feed
pub returns-then-end-text : goal.returns-then-end-text
returns-then-end-text c =
    going_open _ _ _ _ _ _ _ c.loop-at.invariant c.loop-at-test.true
    (none_left c.args.text.now c.loop-at.at c.line_end-end.result c.loop-at.invariant.upto c.line_end-end.ensures c.if-end-text.true)

pub slice_bounds-turn-count : goal.slice_bounds-turn-count
slice_bounds-turn-count c =
    let line = line_to c.args.text.now c.loop-at.at c.line_end-end.result c.loop-at.invariant.upto c.line_end-end.ensures c.if-end-text.false in
    omega (arith, line.from)

pub slice_bounds-turn-start : goal.slice_bounds-turn-start
slice_bounds-turn-start c =
    let line = line_to c.args.text.now c.loop-at.at c.line_end-end.result c.loop-at.invariant.upto c.line_end-end.ensures c.if-end-text.false in
    omega (arith, line.from)

pub slice_bounds-turn-end : goal.slice_bounds-turn-end
slice_bounds-turn-end c =
    let line = line_to c.args.text.now c.loop-at.at c.line_end-end.result c.loop-at.invariant.upto c.line_end-end.ensures c.if-end-text.false in
    omega (arith, line.to)

-- a line that is not of the shape due
pub returns-in_err-s : goal.returns-in_err-s
returns-in_err-s c =
    let line = line_to c.args.text.now c.loop-at.at c.line_end-end.result c.loop-at.invariant.upto c.line_end-end.ensures c.if-end-text.false in
    let none : c.turn.result ≡ None = search rules in
    let stuck : c.from_residual.result ≡ Err c.loop-at.n = search rules in
    rw stuck
    (going_fault _ _ _ _ _ _ _ c.loop-at.invariant (sized_of _ c.args.site.is_sized) c.line_end-end.result line _ c.turn.new.given c.turn.new.content c.turn.ensures none)

pub loop-at-smaller : goal.loop-at-smaller
loop-at-smaller c =
    let line = line_to c.args.text.now c.loop-at.at c.line_end-end.result c.loop-at.invariant.upto c.line_end-end.ensures c.if-end-text.false in
    omega (arith, line.from, line.to)

pub loop-at-preserved : goal.loop-at-preserved
loop-at-preserved c =
    let line = line_to c.args.text.now c.loop-at.at c.line_end-end.result c.loop-at.invariant.upto c.line_end-end.ensures c.if-end-text.false in
    let next : c.turn.result ≡ Some c.in_ok-s.s = search rules in
    going_turned _ _ _ _ _ _ _ c.loop-at.invariant c.line_end-end.result line _ _ _ _ c.turn.ensures next

-- all is there
pub returns-then-is_whole : goal.returns-then-is_whole
returns-then-is_whole c =
    going_all _ _ _ _ _ _ _ c.loop-at.invariant c.loop-at-test.false (sym c.is_whole.ensures ∙ c.if-is_whole.true)

-- something is missing
pub returns-else-is_whole : goal.returns-else-is_whole
returns-else-is_whole c =
    going_missing _ _ _ _ _ _ _ c.loop-at.invariant c.loop-at-test.false (sym c.is_whole.ensures ∙ c.if-is_whole.false)
