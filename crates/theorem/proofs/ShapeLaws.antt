-- The numbers that a row's kind does not use are 0. Main law: `shaped`. Assumes nothing.
use Prim.Native.Nat.{ℕ, zero, suc, ◌<◌, ◌≤◌}
use mathlib.Core.Path.{◌≡◌, refl}
use mathlib.Core.Bool.{false}
use mathlib.Core.Logic.{◌≢◌}
use mathlib.Core.List.{List}
use native.Mathlib.Omega.{arith}
use Rattle.lists.proofs.CaseLaws.{clash}
use Rattle.ports.specs.declared.size.Block.{Block}
use Rattle.netlist.specs.declared.row.Row.{Row}
use Rattle.netlist.specs.Kinds.{lookup_kind, majority_kind}
use Rattle.netlist.specs.Rows.{operand_of, arity_of}
use Rattle.netlist.specs.Checking.{uses}
use Rattle.equations.specs.RowMeaning.{plain_row, lookup_row, majority_row, switch_copies, open_lent, no_switch_zero, no_switch_one, out_flip_flop, out_lookup, lout_lookup, cout_majority, cout_zero, mux_one, mux_copies, mux_zero}
use Rattle.equations.proofs.RowReasons.{Why, no_wire, says}

-- "a row's kind is not 1 to 7", "an unused number [..] is not 0", turned round
pub record Shaped (r : Row) : Type 0 where
  pub kind_high : r.kind ≤ majority_kind
  pub unused : (j : ℕ) → j < 4 → uses r j ≡ false → operand_of r j ≡ 0
  pub no_table : r.kind ≢ lookup_kind → r.table ≡ 0

module _ (kind w a : ℕ) where
  plain_unused : (uses (plain_row kind w a) 0 ≡ false → a ≡ 0) → (j : ℕ) → j < 4 → uses (plain_row kind w a) j ≡ false → operand_of (plain_row kind w a) j ≡ 0
  unfolding operand_of
  plain_unused h zero l u = h u
  plain_unused h (suc zero) l u = refl
  plain_unused h (suc (suc zero)) l u = refl
  plain_unused h (suc (suc (suc zero))) l u = refl
  plain_unused h (suc (suc (suc (suc j)))) l u = absurd (omega arith)

  plain_shaped : kind ≤ majority_kind → (uses (plain_row kind w a) 0 ≡ false → a ≡ 0) → Shaped (plain_row kind w a)
  plain_shaped k h = record { kind_high = k; unused = plain_unused h; no_table = λ n. refl }

module _ (B : Block) (st : List ℕ) (w T i : ℕ) where
  lookup_unused : (j : ℕ) → j < 4 → uses (lookup_row B st w T i) j ≡ false → operand_of (lookup_row B st w T i) j ≡ 0
  unfolding arity_of
  lookup_unused zero l u = clash refl u
  lookup_unused (suc zero) l u = clash refl u
  lookup_unused (suc (suc zero)) l u = clash refl u
  lookup_unused (suc (suc (suc zero))) l u = clash refl u
  lookup_unused (suc (suc (suc (suc j)))) l u = absurd (omega arith)

  majority_unused : (j : ℕ) → j < 4 → uses (majority_row B w T i) j ≡ false → operand_of (majority_row B w T i) j ≡ 0
  unfolding arity_of operand_of
  majority_unused zero l u = clash refl u
  majority_unused (suc zero) l u = clash refl u
  majority_unused (suc (suc zero)) l u = clash refl u
  majority_unused (suc (suc (suc zero))) l u = refl
  majority_unused (suc (suc (suc (suc j)))) l u = absurd (omega arith)

  lookup_shaped : Shaped (lookup_row B st w T i)
  lookup_shaped = record { kind_high = omega arith; unused = lookup_unused; no_table = λ n. absurd (n refl) }

  majority_shaped : Shaped (majority_row B w T i)
  majority_shaped = record { kind_high = omega arith; unused = majority_unused; no_table = λ n. refl }

module _ (B : Block) (t st : List ℕ) where
  pub shaped : (w : ℕ) (r : Row) → Why B t st w r → Shaped r
  unfolding arity_of
  shaped w r (no_wire n) = plain_shaped 0 0 0 (omega arith) (λ u. refl)
  shaped w r (says (switch_copies s h)) = plain_shaped _ _ _ (omega arith) (λ u. clash refl u)
  shaped w r (says (open_lent o f)) = plain_shaped _ _ _ (omega arith) (λ u. refl)
  shaped w r (says (no_switch_zero o f)) = plain_shaped _ _ _ (omega arith) (λ u. refl)
  shaped w r (says (no_switch_one o f)) = plain_shaped _ _ _ (omega arith) (λ u. refl)
  shaped w r (says (out_flip_flop T i l h q b)) = plain_shaped _ _ _ (omega arith) (λ u. clash refl u)
  shaped w r (says (out_lookup T i l h q b)) = lookup_shaped B st w T i
  shaped w r (says (lout_lookup T i l h q)) = lookup_shaped B st w T i
  shaped w r (says (cout_majority T i l h q b)) = majority_shaped B st w T i
  shaped w r (says (cout_zero T i l h q b)) = plain_shaped _ _ _ (omega arith) (λ u. refl)
  shaped w r (says (mux_one T l q b)) = plain_shaped _ _ _ (omega arith) (λ u. refl)
  shaped w r (says (mux_copies T l q b c)) = plain_shaped _ _ _ (omega arith) (λ u. clash refl u)
  shaped w r (says (mux_zero T l q b c)) = plain_shaped _ _ _ (omega arith) (λ u. refl)
