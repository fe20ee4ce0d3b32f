-- The lines 06 are those of the enabled switches. Main law: `wire_says`.
use Prim.Native.Nat.{ℕ, ◌+◌, ◌-◌, ◌<◌, ◌≤◌}
use mathlib.Core.Path.{◌≡◌, sym, ap, ◌∙◌}
use mathlib.Core.List.{List}
use native.Mathlib.Omega.{arith}
use borrow.Author.Tests.{lt-ltb, le-ltb}
use lib.ListN.{get_or}
use Rattle.lists.proofs.TableLaws.{tabulate_zero}
use Rattle.ports.specs.declared.size.Block.{Block}
use Rattle.ports.specs.Lengths.{ports}
use Rattle.equations.specs.Switches.{switches, origin, NoContention}
use Rattle.equations.specs.WireRows.{driver}
use Rattle.equations.specs.Sources.{source_in, sources_of}
use Rattle.equations.proofs.SwitchLaws.{driver_is, no_driver}
use Rattle.lines.specs.Lines.{switch_line}
use Rattle.reporting.specs.Meaning.{WireSays}
use Rattle.lines.proofs.LineLaws.{switch_none, switch_some}

module _ (B : Block) (t st : List ℕ) (w : ℕ) (l : w < ports B) where
  source_is : get_or (sources_of B t st) w 0 ≡ source_in B t st (switches B) w
  unfolding sources_of
  source_is = tabulate_zero (source_in B t st (switches B)) 0 (ports B) w l

  no_source : switches B ≤ driver B t st w → get_or (sources_of B t st) w 0 ≡ 0
  unfolding source_in
  no_source h = source_is ∙ rw (le-ltb (driver B t st w) (switches B) h)

  one_source : (s : ℕ) → driver B t st w ≡ s → s < switches B → get_or (sources_of B t st) w 0 ≡ origin B t st s + 1
  unfolding source_in
  one_source s e h = source_is ∙ rw (e, lt-ltb s (switches B) h)

  pub wire_says : NoContention B t st → WireSays B t st w
  wire_says free = record {
    none = λ h. switch_none (sources_of B t st) w (no_source (no_driver B t st w h));
    one = λ s h.
        let e = one_source s (driver_is B t st w free s h) h.within in
        sym (switch_some (sources_of B t st) w (λ z. absurd (omega arith)))
        ∙ ap (switch_line w) (let q : get_or (sources_of B t st) w 0 - 1 ≡ origin B t st s = omega arith in q);
  }
