-- The test of the lengths is the facts (ground 2); and what a size bounds. Main laws: `contention_long_exact`; `switches_few`, `ports_few`. Assumes nothing.
use Prim.Native.Nat.{◌≤◌}
use mathlib.Core.Path.{◌≡◌}
use mathlib.Core.Logic.{◌↔◌}
use mathlib.Core.Bool.{true}
use native.Mathlib.Omega.{arith}
use borrow.Author.Tests.{eqb-true, eq-eqb}
use Rattle.lists.proofs.CaseLaws.{equal_and, and_equal}
use Rattle.ports.specs.declared.size.Block.{Block}
use Rattle.ports.specs.Block.{size_of, Sized}
use Rattle.ports.specs.Lengths.{table_length, bits_length, settings_total, ports}
use Rattle.ports.proofs.BlockLaws.{tiles_le, ports_le}
use Rattle.equations.specs.Switches.{switches}
use Rattle.contention.specs.declared.lengths.ContentionLent.{ContentionLent}
use Rattle.contention.specs.Lengths.{contention_exact, ContentionLong}

module _ (B : Block) where
  -- a block has few switches and ports
  pub switches_few : Sized B → switches B ≤ 32768
  switches_few S = let f = tiles_le B S in omega arith

  pub ports_few : Sized B → ports B ≤ 32384
  ports_few S = let f = ports_le B S in omega arith

  pub contention_long_exact : (lent : ContentionLent) → (contention_exact B lent ≡ true) ↔ ContentionLong B lent
  contention_long_exact lent = (there, back)
    where
      there : contention_exact B lent ≡ true → ContentionLong B lent
      there e =
          let a = equal_and lent.table table_length _ e in
          let b = equal_and lent.bits (bits_length (size_of B)) _ a.1 in
          let c = equal_and lent.settings (settings_total (size_of B)) _ b.1 in
          let d = equal_and lent.wires (ports B) _ c.1 in
          let f = equal_and lent.heads (ports B) _ d.1 in
          record {
            table_long = a.0;
            bits_long = b.0;
            settings_long = c.0;
            wires_long = d.0;
            heads_long = f.0;
            nexts_long = eqb-true lent.nexts (switches B) f.1;
          }

      back : ContentionLong B lent → contention_exact B lent ≡ true
      back r =
          and_equal lent.table table_length r.table_long
          (and_equal lent.bits (bits_length (size_of B)) r.bits_long
          (and_equal lent.settings (settings_total (size_of B)) r.settings_long
          (and_equal lent.wires (ports B) r.wires_long
          (and_equal lent.heads (ports B) r.heads_long (eq-eqb lent.nexts (switches B) r.nexts_long)))))
