-- `input::parse` meets its contract: each return is a law of ParsedLaws, with what the tests before it showed. Assumes nothing.
use Rattle.std.specs.Prelude.{Err}
use Rattle.frames.proofs.ParsedLaws.{parsed_no_fields, parsed_no_passives, parsed_no_size, parsed_not_small}
use Rattle.frames.proofs.MeaningLaws.{says_too}
use Rattle.frames.specs.Input.{width, height, small}
use Rattle.frames.specs.Lines.{size_line}
use Rattle.texts.specs.Hex.{pair_at}
use Rattle.refusal.specs.declared.Refusal.TheVariants.{Line}
use Rattle.lists.proofs.CaseLaws.{and_false_left, and_false_right}
use Prim.Native.Nat.{◌+◌}
use mathlib.Core.Bool.{false, ◌&&◌}
use mathlib.Core.Path.{◌≡◌, sym, ap, ◌∙◌}
use Rattle.frames.proofs.input.parse.Goals as goal
use Rattle.frames.proofs.input.parse.Goals.{then-not-is_small-via-then-not-is_small, then-not-is_small-via-else-not-is_small+then-not-is_small-2}

-- line 1
pub returns-then-not-fields_line : goal.returns-then-not-fields_line
returns-then-not-fields_line c =
    let says = says_too _ _ (c.line.ensures ∙ sym (parsed_no_fields _ (sym c.fields_line.ensures ∙ c.if-not-fields_line.true))) in
    record { answer = says.0; says = says.1 }

-- line 2
pub returns-then-not-passive_line : goal.returns-then-not-passive_line
returns-then-not-passive_line c =
    let says =
    says_too _ _
    (c.line-then-not-passive_line.ensures
    ∙ sym (parsed_no_passives _ (sym c.fields_line.ensures ∙ c.if-not-fields_line.false) (sym c.passive_line.ensures ∙ c.if-not-passive_line.true))) in
    record { answer = says.0; says = says.1 }

-- neither a group nor the size
pub returns-then-not-size_line : goal.returns-then-not-size_line
returns-then-not-size_line c =
    let s = c.args.s.now in
    let bad = ap (size_line s) (sym c.count_groups-g.ensures.end) ∙ sym c.size_line.ensures ∙ c.if-not-size_line.true in
    let says =
    says_too _ _
    (c.line-then-not-size_line.ensures ∙ ap (λ n. Err (Line (3 + n))) c.count_groups-g.ensures.count
    ∙ sym (parsed_no_size s (sym c.fields_line.ensures ∙ c.if-not-fields_line.false) (sym c.passive_line.ensures ∙ c.if-not-passive_line.false) bad)) in
    record { answer = says.0; says = says.1 }

-- W or H
pub returns-then-not-is_small : goal.returns-then-not-is_small
returns-then-not-is_small c =
    let s = c.args.s.now in
    let size = ap (size_line s) (sym c.count_groups-g.ensures.end) ∙ sym c.size_line.ensures ∙ c.if-not-size_line.false in
    let w : c.pair-w.result ≡ width s = c.pair-w.ensures ∙ ap (λ a. pair_at s (a + 2)) c.count_groups-g.ensures.end in
    let h : c.pair-h.result ≡ height s = c.pair-h.ensures ∙ ap (λ a. pair_at s (a + 4)) c.count_groups-g.ensures.end in
    let bad : small (width s) && small (height s) ≡ false =
    elim c.then-not-is_small.branch [
      | then-not-is_small-via-then-not-is_small t ↦ and_false_left (small (width s)) (small (height s)) (ap small (sym w) ∙ sym c.is_small.ensures ∙ t.if-not-is_small.true)
      | then-not-is_small-via-else-not-is_small+then-not-is_small-2 t ↦ and_false_right (small (width s)) (small (height s)) (ap small (sym h) ∙ sym t.is_small-else-not-is_small.ensures ∙ t.if-not-is_small-2.true)
    ] in
    let says =
    says_too _ _
    (sym (parsed_not_small s (sym c.fields_line.ensures ∙ c.if-not-fields_line.false) (sym c.passive_line.ensures ∙ c.if-not-passive_line.false) size bad)) in
    record { answer = says.0; says = says.1 }

pub returns : goal.returns
returns c = let says = says_too _ _ c.parse_tiles.ensures in record { answer = says.0; says = says.1 }
