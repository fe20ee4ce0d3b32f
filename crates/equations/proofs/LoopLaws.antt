-- Loops of a block by its equations and by its rows. Main laws: `loop_exact` (the order lists every wire exactly if none depends on itself),
-- `loop_lowest_exact` (ground 7's place is the same for both).
use Prim.Native.Nat.{ℕ, ◌<◌}
use mathlib.Core.Logic.{⊎_elim, ◌↔◌}
use mathlib.Core.List.{List}
use native.Mathlib.Omega.{arith}
use Rattle.lists.proofs.CaseLaws.{lt_or_le}
use Rattle.ports.specs.declared.size.Block.{Block}
use Rattle.ports.specs.Lengths.{ports}
use Rattle.netlist.specs.Graph.{LowestLoop}
use Rattle.netlist.specs.Order.{AllListed}
use Rattle.netlist.proofs.OrderLaws.{order_exact}
use Rattle.equations.specs.Switches.{NoContention}
use Rattle.equations.specs.Routed.{Routed}
use Rattle.equations.specs.Equations.{NoLoop, LowestLooped}
use Rattle.equations.proofs.WireRowLaws.{graph}
use Rattle.equations.proofs.ChainLaws.{rows_closed, depends_lt, depends_equation, equation_depends}

module _ (B : Block) (t st : List ℕ) (ok : Routed B t st) (free : NoContention B t st) where
  pub loop_exact : AllListed (graph B t st) (ports B) ↔ NoLoop B t st
  loop_exact =
      let e = order_exact (graph B t st) (ports B) (rows_closed B t st ok) in (
        λ all w d. e.0 all w (depends_lt B t st ok d) (equation_depends B t st ok free d),
        λ none. e.1 (λ v l d. none v (depends_equation B t st d)),
      )

  -- ground 7's place, "lowest wire depending on itself"
  pub loop_lowest_exact : (w : ℕ) → LowestLooped B t st w ↔ ((w < ports B) × LowestLoop (graph B t st) (ports B) w)
  loop_lowest_exact w = (to, from)
    where
      to : LowestLooped B t st w → (w < ports B) × LowestLoop (graph B t st) (ports B) w
      to h =
          let l = depends_lt B t st ok h.here in (
            l,
            record {
              within = omega arith;
              before = λ v k d. let m = h.least v (depends_equation B t st d) in absurd (omega arith);
              here = λ k. equation_depends B t st ok free h.here;
            },
          )

      from : (w < ports B) × LowestLoop (graph B t st) (ports B) w → LowestLooped B t st w
      from (l, h) = record {
        here = depends_equation B t st (h.here l);
        least = λ v d. ⊎_elim (λ (k : v < w). absurd (h.before v k (equation_depends B t st ok free d))) (λ k. k) (lt_or_le v w);
      }
