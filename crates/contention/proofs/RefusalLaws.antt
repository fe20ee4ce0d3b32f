-- "refusal 5 would [..] be given": building refuses a block that passes 1 to 4 with 5 exactly if it has a contention. Main law: `five_exact`. Assumes
-- nothing.
use Rattle.std.specs.Prelude.{Err}
use Prim.Native.Nat.{ℕ, ◌*◌, ◌<◌, ◌≤◌}
use mathlib.Core.Path.{◌≡◌, refl, sym, subst, ◌∙◌}
use mathlib.Core.Bool.{true}
use mathlib.Core.Logic.{◌↔◌, ⊎_elim}
use mathlib.Core.List.{List}
use borrow.Author.Tests.{le-leb}
use Rattle.lists.proofs.CaseLaws.{lt_or_le}
use Rattle.refusal.specs.declared.Refusal.TheVariants as refusals
use Rattle.ports.specs.declared.size.Block.{Block}
use Rattle.ports.specs.Block.{Sized, tiles}
use Rattle.ports.specs.Lengths.{ports}
use Rattle.ports.proofs.BlockLaws.{sized_true}
use Rattle.routing.specs.LogicTile.{logic_tile}
use Rattle.routing.specs.Rules.{TableRules}
use Rattle.routing.proofs.TableCheckLaws.{table_exact}
use Rattle.config.specs.Blocks.{fault_place, decoded, tiles_of}
use Rattle.equations.specs.Switches.{Contention, NoContention}
use Rattle.equations.specs.Routed.{Routed}
use Rattle.equations.specs.Sources.{contended_wire}
use Rattle.block.specs.Building.{list_answer, build_answer}
use Rattle.block.specs.Meaning.{ListNo, ListSays, contention}
use Rattle.block.proofs.BuildingLaws.{list_contended, bits_list, build_bits}
use Rattle.block.proofs.MeaningLaws.{free_of, list_says}
use Rattle.block.proofs.RoutedLaws.{routed_of_read}
use Rattle.contention.specs.Meaning.{RefusedFive}

-- of settings that were read
module _ (B : Block) (t st : List ℕ) (ok : Routed B t st) where
  contended_of : (w : ℕ) → list_answer B t st ≡ Err (refusals.Contention w) → Contention B t st w
  contended_of w e = said w (subst (ListSays B t st) e (list_says B t st ok))
    where
      said : (x : ℕ) → ListNo B t st (refusals.Contention x) → Contention B t st x
      said x (contention v low) = low.here

  none_of : ((w : ℕ) → list_answer B t st ≡ Err (refusals.Contention w) → ⊥) → NoContention B t st
  none_of n =
      ⊎_elim (λ (l : contended_wire B t st < ports B). absurd (n (contended_wire B t st) (sym (list_contended B t st (contended_wire B t st) refl l))))
      (λ (l : ports B ≤ contended_wire B t st). free_of B t st ok (le-leb (ports B) (contended_wire B t st) l))
      (lt_or_le (contended_wire B t st) (ports B))

-- of a block that passes 1 to 4
module _ (B : Block) (t bits : List ℕ) (size : Sized B) (rules : TableRules logic_tile t)
    (pass : logic_tile.positions * tiles B ≤ fault_place t (tiles_of bits) (tiles B)) where
  abbrev st : List ℕ
  st = decoded t (tiles_of bits) (tiles B)

  listed_is : list_answer B t st ≡ build_answer B t (tiles_of bits) true
  listed_is =
      bits_list B t bits ((table_exact logic_tile t rules.long).1 rules) pass ∙ build_bits B t bits true (sized_true B size) refl

  pub five_exact : (RefusedFive B t bits → ⊥) ↔ NoContention B t (decoded t (tiles_of bits) (tiles B))
  five_exact =
      let ok = routed_of_read B t bits size rules pass in (
        λ n. none_of B t st ok (λ w e. n (w, sym listed_is ∙ e)),
        λ none five. none five.0 (contended_of B t st ok five.0 (listed_is ∙ five.1)),
      )
