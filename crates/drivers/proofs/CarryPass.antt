-- The pass over the rows that finds the lowest disabled carry that is read. Invariant: the lowest of those that the rows so far read. Main laws:
-- `carry_pass_start`, `-step`, `-end`.
use Prim.Native.Nat.{ℕ, zero, suc, ◌+◌, ◌≤◌, ◌<◌, min}
use mathlib.Core.Path.{◌≡◌, refl, sym, ◌∙◌, ap, subst}
use mathlib.Core.Bool.{Bool, true, false, not, cond, ◌&&◌, ◌||◌}
use mathlib.Core.Logic.{⊎_elim}
use mathlib.Core.List.{List, [], ◌∷◌}
use native.Mathlib.Omega.{arith}
use types.Run.{OneOf, miss}
use denote.Enum.Declared.{tag_of}
use lib.Dec.{eqb, ltb}
use borrow.Author.Tests.{eqb-true, lt-ltb, le-ltb}
use Rattle.lists.specs.Search.{first, all_from}
use Rattle.lists.proofs.CaseLaws.{cases, lt_or_le, and_false_right}
use Rattle.lists.proofs.SearchLaws.{first_none, first_ext}
use Rattle.ports.specs.declared.size.Block.{Block}
use Rattle.ports.specs.Lengths.{ports}
use Rattle.netlist.specs.declared.row.Row.{Row}
use Rattle.netlist.specs.Rows.{operand_of, arity_of}
use Rattle.equations.specs.declared.drives.Drive.{Drive}
use Rattle.equations.specs.declared.drives.Drive.TheVariants.{Nothing, Low, High, CellOut, CellLout, CellCout, CarryMux}
use Rattle.equations.specs.Drives.{drive_of}
use Rattle.equations.specs.WireRows.{row_of}
use Rattle.equations.specs.Routed.{Routed}
use Rattle.equations.specs.contracts.drives.Drive.{the_type}
use Rattle.lists.proofs.GrowingSearch.{or_false, more_lower, more_higher}
use Rattle.equations.proofs.WireRowLaws.{row_is}
use Rattle.equations.proofs.ChainLaws.{reads_equation, read_lt}
use Rattle.drivers.specs.CarryReads.{is_disabled_carry, row_reads_in, row_reads, read_in, carry_read_in, carry_read_wire, lower_carry, lower_carries}
use Rattle.lists.proofs.SomeLaws.{some_last}

join_and : (a d b c : Bool) → (a || (d && b)) || (d && c) ≡ a || (d && (b || c))
join_and true d b c = refl
join_and false true b c = refl
join_and false false b c = refl

module _ (B : Block) (st : List ℕ) where
  abbrev disabled : ℕ → Bool
  disabled w = is_disabled_carry st (drive_of B w)

  -- the set p with w too, if w is a disabled carry
  abbrev more : (ℕ → Bool) → ℕ → ℕ → Bool
  more p o w = p w || (disabled w && eqb o w)

  more_disabled : (p : ℕ → Bool) (o : ℕ) → disabled o ≡ true → (w : ℕ) → more p o w ≡ p w || eqb o w
  more_disabled p o d w =
      ap (λ (b : Bool). p w || b)
      (⊎_elim (λ q. rw (q, subst (λ (x : ℕ). disabled x ≡ true) (eqb-true o w q) d)) (λ q. rw q (and_false_right (disabled w) false refl)) (cases (eqb o w)))

  more_other : (p : ℕ → Bool) (o : ℕ) → disabled o ≡ false → (w : ℕ) → more p o w ≡ p w
  more_other p o d w =
      ap (λ (b : Bool). p w || b) {y = false}
      (⊎_elim (λ q. rw (subst (λ (x : ℕ). disabled x ≡ false) (eqb-true o w q) d)) (λ q. rw q (and_false_right (disabled w) false refl)) (cases (eqb o w)))
      ∙ or_false (p w)

  -- an operand more
  lower_first : (p : ℕ → Bool) (low o : ℕ) → o < ports B → low ≡ first p 0 (ports B) → lower_carry B st low o ≡ first (more p o) 0 (ports B)
  unfolding lower_carry
  lower_first p low o l e = ⊎_elim on off (cases (disabled o))
    where
      on : disabled o ≡ true → cond (disabled o && ltb o low) o low ≡ first (more p o) 0 (ports B)
      on d =
          let same = first_ext (more p o) (λ w. p w || eqb o w) (ports B) (λ w lw. more_disabled p o d w) in
          ⊎_elim (λ (g : o < low). rw (d, lt-ltb o low g) (sym (same ∙ more_lower p (ports B) o l (omega arith))))
          (λ (g : low ≤ o). rw (d, le-ltb o low g) (e ∙ sym (same ∙ more_higher p (ports B) o l (omega arith)))) (lt_or_le o low)

      off : disabled o ≡ false → cond (disabled o && ltb o low) o low ≡ first (more p o) 0 (ports B)
      off d = rw d (e ∙ sym (first_ext (more p o) p (ports B) (λ w lw. more_other p o d w)))

  -- the m first operands of a row more
  lowers_first : (p : ℕ → Bool) (low : ℕ) (row : Row) (m : ℕ) → ((j : ℕ) → j < m → operand_of row j < ports B) → low ≡ first p 0 (ports B)
      → lower_carries B st row low m ≡ first (λ w. p w || (disabled w && row_reads_in row m w)) 0 (ports B)
  unfolding lower_carries row_reads_in all_from
  lowers_first p low row zero fits e =
      e ∙ first_ext p (λ w. p w || (disabled w && false)) (ports B) (λ w lw. sym (rw (and_false_right (disabled w) false refl) (or_false (p w))))
  lowers_first p low row (suc m) fits e =
      let so_far = lowers_first p low row m (λ j l. fits j (omega arith)) e in
      lower_first (λ w. p w || (disabled w && row_reads_in row m w)) _ (operand_of row m) (fits m (omega arith)) so_far
      ∙ first_ext _ (λ w. p w || (disabled w && not (all_from (λ j. not (eqb (operand_of row j) w)) 0 (suc m)))) (ports B)
      (λ w lw. join_and (p w) (disabled w) _ (eqb (operand_of row m) w) ∙ sym (ap (λ (b : Bool). p w || (disabled w && b)) (some_last (λ j. eqb (operand_of row j) w) m)))

module _ (B : Block) (t st : List ℕ) where
  pub carry_pass_start : ports B ≡ first (carry_read_in B t st 0) 0 (ports B)
  unfolding carry_read_in read_in all_from
  carry_pass_start = sym (first_none (carry_read_in B t st 0) (ports B) (λ w l. and_false_right (is_disabled_carry st (drive_of B w)) false refl))

  module _ (ok : Routed B t st) (u : ℕ) (l : u < ports B) where
    pub operand_lt : (j : ℕ) → j < arity_of (row_of B t st u) → operand_of (row_of B t st u) j < ports B
    operand_lt j h =
        let is = row_is B t st u l in
        read_lt B t st ok (reads_equation B t st u _ (j, rw is h, ap (λ (r : Row). operand_of r j) is))

    pub carry_pass_step : (low : ℕ) → low ≡ first (carry_read_in B t st u) 0 (ports B)
        → lower_carries B st (row_of B t st u) low (arity_of (row_of B t st u)) ≡ first (carry_read_in B t st (suc u)) 0 (ports B)
    unfolding carry_read_in read_in
    carry_pass_step low e =
        lowers_first B st (carry_read_in B t st u) low (row_of B t st u) (arity_of (row_of B t st u)) operand_lt e
        ∙ first_ext _ _ (ports B)
        (λ w lw.
        join_and false (disabled B st w) (read_in B t st u w) (row_reads (row_of B t st u) w)
        ∙ sym (ap (λ (b : Bool). disabled B st w && b) (some_last (λ v. row_reads (row_of B t st v) w) u)))

  pub carry_pass_end : (u low : ℕ) → u ≡ ports B → low ≡ first (carry_read_in B t st u) 0 (ports B) → low ≡ carry_read_wire B t st
  unfolding carry_read_wire
  carry_pass_end u low e h = h ∙ ap (λ (m : ℕ). first (carry_read_in B t st m) 0 (ports B)) e

-- ---- the leaves of the code

-- the other drives are no carries
pub disabled_other : (st : List ℕ) (d : Drive) → OneOf (0 ∷ 1 ∷ 2 ∷ 3 ∷ 4 ∷ 6 ∷ []) (tag_of the_type d) → false ≡ is_disabled_carry st d
disabled_other st Nothing h = refl
disabled_other st Low h = refl
disabled_other st High h = refl
disabled_other st (CellOut T i) h = refl
disabled_other st (CellLout T i) h = refl
disabled_other st (CellCout T i) h = absurd (miss (0 ∷ 1 ∷ 2 ∷ 3 ∷ 4 ∷ 6 ∷ []) 5 tt h)
disabled_other st (CarryMux T) h = refl

module _ (B : Block) (st : List ℕ) (low w : ℕ) where
  pub lower_carry_other : is_disabled_carry st (drive_of B w) ≡ false → low ≡ lower_carry B st low w
  unfolding lower_carry
  lower_carry_other e = rw e

  pub lower_carry_lower : is_disabled_carry st (drive_of B w) ≡ true → w < low → w ≡ lower_carry B st low w
  unfolding lower_carry
  lower_carry_lower e l = rw (e, lt-ltb w low l)

  pub lower_carry_higher : is_disabled_carry st (drive_of B w) ≡ true → low ≤ w → low ≡ lower_carry B st low w
  unfolding lower_carry
  lower_carry_higher e l = rw (e, le-ltb w low l)

  pub lower_carry_min : is_disabled_carry st (drive_of B w) ≡ true → min low w ≡ lower_carry B st low w
  unfolding lower_carry
  lower_carry_min e = ⊎_elim (λ l. rw (e, lt-ltb w low l) (omega arith)) (λ l. rw (e, le-ltb w low l) (omega arith)) (lt_or_le w low)

-- an operand more of a row
pub lower_carries_step : (B : Block) (st : List ℕ) (row : Row) (low j : ℕ)
    → lower_carry B st (lower_carries B st row low j) (operand_of row j) ≡ lower_carries B st row low (j + 1)
unfolding lower_carries
lower_carries_step B st row low j = ap (lower_carries B st row low) (let e : suc j ≡ j + 1 = omega arith in e)
