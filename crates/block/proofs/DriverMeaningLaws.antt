-- Every answer of following says what specs/DriverMeaning.antt has. Main law: `follow_says`. Assumes nothing.
use Rattle.drivers.specs.declared.follow.Driver.{Driver}
use Rattle.refusal.specs.declared.Refusal.{Refusal}
use Rattle.std.specs.Prelude.{Result}
use Prim.Native.Nat.{ℕ}
use mathlib.Core.Path.{◌≡◌, refl, sym, subst}
use mathlib.Core.Logic.{◌↔◌, inl, inr}
use mathlib.Core.Bool.{true}
use mathlib.Core.List.{List}
use borrow.Author.Tests.{leb-true, leb-false, ltb-true, ltb-false}
use lib.Dec.{ltb}
use Rattle.lists.proofs.CaseLaws.{clash}
use Rattle.ports.specs.declared.size.Block.{Block}
use Rattle.ports.specs.Block.{tiles, sized}
use Rattle.ports.specs.Lengths.{ports, ports_per_tile}
use Rattle.ports.proofs.BlockLaws.{sized_true, sized_exact, port_of_lt}
use Rattle.fabric.proofs.WireLaws.{wire_within, wire_idempotent}
use Rattle.routing.specs.LogicTile.{logic_tile}
use Rattle.routing.specs.TableCheck.{table_ok}
use Rattle.routing.proofs.TableCheckLaws.{table_exact, table_broken}
use Rattle.config.specs.Blocks.{bitless_tile}
use Rattle.config.proofs.BlocksLaws.{bitless_lowest, none_bitless}
use Rattle.equations.specs.Equations.{wire}
use Rattle.equations.specs.Routed.{Routed}
use Rattle.equations.specs.Sources.{contended_wire}
use Rattle.equations.proofs.SourceLaws.{contended_exact}
use Rattle.drivers.proofs.FollowingLaws.{driven_exact}
use Rattle.block.specs.Lengths.{follow_lent, follow_exact, FollowLong}
use Rattle.block.specs.declared.lengths.FollowLent.{FollowLent}
use Rattle.block.specs.Building.{none}
use Rattle.block.specs.Drivers.{port_answer, settings_answer, follow_answer}
use Rattle.block.specs.DriverMeaning.{Followable, FollowSays, wrong_size, wrong_length, broken, bitless, contention, out_of_range}
use Rattle.refusal.proofs.GroundsLaws.{unless_cases}
use Rattle.block.proofs.LengthLaws.{follow_long_exact}
use Rattle.block.proofs.RoutedLaws.{routed_of_fit}
use Rattle.block.proofs.MeaningLaws.{free_of}

module _ (B : Block) (t st : List ℕ) (tile port : ℕ) (wires sources marks : List ℕ) where
  abbrev lent : FollowLent
  lent = follow_lent t st wires sources marks

  abbrev Says : Result Driver Refusal → Type 0
  Says = FollowSays B t st tile port lent

  -- grounds 5 and 20, and where following ends
  port_means : Followable B t st tile port lent → Routed B t st → Says (port_answer B t st tile port)
  unfolding port_answer
  port_means can ok =
      unless_cases Says (none (ports B) (contended_wire B t st)) _ _
      (λ e. contention _ can ((contended_exact B t st ok (contended_wire B t st)).1 (leb-false _ _ e, refl)))
      (λ e. let free = free_of B t st ok e in
      unless_cases Says (ltb tile (tiles B)) _ _
      (λ f. out_of_range _ can free (inl (ltb-false tile (tiles B) f, refl)))
      (λ f. let lt = ltb-true tile (tiles B) f in
      unless_cases Says (ltb port ports_per_tile) _ _
      (λ g. out_of_range _ can free (inr (lt, ltb-false port ports_per_tile g, refl)))
      (λ g. let l = port_of_lt B tile port lt (ltb-true port ports_per_tile g) in (
        can,
        record {
          no_contention = free;
          tile_within = lt;
          port_within = ltb-true port ports_per_tile g;
          driven = driven_exact B t st ok free (wire B tile port) (wire_within B _ l) (wire_idempotent B _ l);
        },
      ))))

  follow_means : Says (follow_answer B t st tile port (follow_exact B lent))
  unfolding follow_answer settings_answer
  follow_means =
      unless_cases Says (sized B) _ _ (λ e. wrong_size (λ S. clash (sized_true B S) e))
      (λ s. let size = (sized_exact B).0 s in
      unless_cases Says (follow_exact B lent) _ _
      (λ e. wrong_length size (λ L. clash (long.1 L) e))
      (λ l. let L = long.0 l in
      unless_cases Says (table_ok logic_tile t) _ _ (λ e. broken _ size L (table_broken logic_tile t e))
      (λ p. let rules = (table_exact logic_tile t L.table_long).0 p in
      unless_cases Says (none (tiles B) (bitless_tile t st (tiles B))) _ _
      (λ e. bitless _ size L rules (bitless_lowest t st (tiles B) rules L.settings_long (leb-false _ _ e)))
      (λ e. let pass = leb-true (tiles B) _ e in
      port_means
      (record {
        size = size;
        lengths = L;
        rules = rules;
        has_bits = none_bitless t st (tiles B) rules L.settings_long pass;
      })
      (routed_of_fit B t st size rules L.settings_long pass)))))
    where
      long : (follow_exact B lent ≡ true)
          ↔ FollowLong B lent
      long = follow_long_exact B lent

  -- the same of what `follow` promises to answer
  pub follow_says : (r : Result Driver Refusal) → r ≡ follow_answer B t st tile port (follow_exact B lent) → Says r
  follow_says r e = subst Says (sym e) follow_means
