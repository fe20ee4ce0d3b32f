-- `input::parse_tiles` meets its contract: a tile that is missing, something behind the last one, a block. Assumes nothing.
use Rattle.ports.specs.Block.{block}
use Rattle.std.specs.Prelude.{Ok, Err}
use Rattle.frames.proofs.ParsedLaws.{parsed_no_tile, parsed_extra, parsed_block}
use Rattle.frames.proofs.InputLaws.{tiles_are}
use Rattle.frames.specs.Input.{width, height, tiles_due, tile_at}
use Rattle.refusal.specs.declared.Refusal.TheVariants.{Line}
use Rattle.lists.proofs.BelowLaws.{below_some, below_none}
use native.Mathlib.Omega.{arith}
use Prim.Native.Nat.{ℕ, ◌+◌, ◌*◌}
use mathlib.Core.Path.{◌≡◌, sym, ap, ap₂, ◌∙◌}
use Rattle.frames.proofs.input.parse_tiles.Goals as goal

-- a tile is missing
pub returns-in-Some : goal.returns-in-Some
returns-in-Some c =
    let s = c.args.s.now in
    let due = c.from-due.ensures ∙ ap₂ ◌*◌ c.requires.4 c.requires.3 in
    let count = tiles_are s c.args.from c.from-due.result c.requires.2 due in
    let t = below_some _ _ _ (sym c.in-Some.ensures) in
    c.line.ensures ∙ ap₂ (λ g t. Err (Line (4 + g + t))) c.requires.1 (t.0 ∙ count)
    ∙ sym (parsed_no_tile s c.requires.0 (omega (arith, count, due, t.1)))

-- something stands behind the last tile
pub returns-then-s-from : goal.returns-then-s-from
returns-then-s-from c =
    let s = c.args.s.now in
    let due = c.from-due.ensures ∙ ap₂ ◌*◌ c.requires.4 c.requires.3 in
    let count = tiles_are s c.args.from c.from-due.result c.requires.2 due in
    let all = below_none _ _ (sym c.in_default.ensures) in
    let end : c.args.from + 219 * c.from-due.result ≡ tile_at s (tiles_due s) = ap₂ (λ a n. a + 219 * n) c.requires.2 due in
    c.line-then-s-from.ensures ∙ ap₂ (λ g t. Err (Line (4 + g + t))) c.requires.1 due
    ∙ sym (parsed_extra s c.requires.0 (omega (arith, count, due, all)) (λ e. absurd (omega arith)))

-- a block
pub returns : goal.returns
returns c =
    let s = c.args.s.now in
    let due = c.from-due.ensures ∙ ap₂ ◌*◌ c.requires.4 c.requires.3 in
    let count = tiles_are s c.args.from c.from-due.result c.requires.2 due in
    let all = below_none _ _ (sym c.in_default.ensures) in
    let end : c.args.from + 219 * c.from-due.result ≡ tile_at s (tiles_due s) = ap₂ (λ a n. a + 219 * n) c.requires.2 due in
    ap₂ (λ (w h : ℕ). Ok (block w h c.from-3.result)) (c.from.ensures ∙ c.requires.3) (c.from-2.ensures ∙ c.requires.4)
    ∙ ap (λ (e : ℕ). Ok (block (width s) (height s) e)) (c.from-3.ensures ∙ c.requires.5)
    ∙ sym (parsed_block s c.requires.0 (omega (arith, count, due, all)) (omega arith))
