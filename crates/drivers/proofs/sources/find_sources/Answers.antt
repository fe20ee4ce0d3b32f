-- `sources::find_sources` meets its contract. Invariant: the pass has taken the switches of the tiles before `tile` (`Sourced`). Assumes nothing.
use Rattle.ports.specs.Lengths.{ports}
use lib.ListN.{length}
use Rattle.equations.proofs.Sourcing.{sourced_start, sourced_end}
use Rattle.equations.specs.Sources.{Sourced, contended_wire}
use Rattle.lists.proofs.BelowLaws.{below_is, below_past}
use Rattle.std.specs.Prelude.{Some}
use Rattle.ports.proofs.BlockLaws.{tiles_le}
use Rattle.lists.specs.Tables.{zeros}
use native.Mathlib.Omega.{arith}
use mathlib.Core.List.{List}
use mathlib.Core.Path.{sym, ap, subst, ◌∙◌}
use Prim.Native.Nat.{ℕ}
use Rattle.drivers.proofs.sources.find_sources.Goals as goal

pub loop-tile-init : goal.loop-tile-init
loop-tile-init c =
    let a = c.args in
    let B = a.b in
    let t = a.table.now in
    let st = a.st.now in
    let ok = c.requires.0 in
    let few = tiles_le B ok.size in
    subst (λ (x : List ℕ). Sourced B t st 0 x (length a.sources.now)) (sym (c.fill.ensures.after (λ y e. e) ∙ ap zeros c.requires.2))
    (subst (λ (n : ℕ). Sourced B t st 0 (zeros (ports B)) n) (sym c.requires.2) (sourced_start B t st))

-- two switches end on a wire
pub returns-then-low-sources : goal.returns-then-low-sources
returns-then-low-sources c =
    let a = c.args in
    let few = tiles_le a.b c.requires.0.size in
    let done = sourced_end a.b a.table.now a.st.now _ _ _ c.loop-tile.invariant (omega arith) in
    record { answer = ap Some done.0 ∙ sym (below_is (ports a.b) (contended_wire a.b a.table.now a.st.now) (omega (arith, done.0, c.requires.2))); sources = done.1 }

-- on none
pub returns-else-low-sources : goal.returns-else-low-sources
returns-else-low-sources c =
    let a = c.args in
    let few = tiles_le a.b c.requires.0.size in
    let done = sourced_end a.b a.table.now a.st.now _ _ _ c.loop-tile.invariant (omega arith) in
    record { answer = sym (below_past (ports a.b) (contended_wire a.b a.table.now a.st.now) (omega (arith, done.0, c.requires.2))); sources = done.1 }
