-- What the code of ground 12 needs: the count of wires, the marks of the rows before (`Checking`), and two searches joined to one.
use mathlib.Core.Path.{◌≡◌, refl, sym, ap, fun_ext, ◌∙◌}
use mathlib.Core.Bool.{Bool, true, false, not}
use mathlib.Core.Logic.{⊎_elim, ◌≢◌}
use mathlib.Core.List.{List}
use Prim.Native.Nat.{ℕ, zero, suc, ◌+◌, ◌-◌, ◌<◌, ◌≤◌}
use native.Mathlib.Nat.{sub-zero}
use native.Mathlib.Numerals.{add-one}
use native.Mathlib.Omega.{arith}
use lib.ListN.{length, set, length-set}
use Rattle.lists.specs.Search.{first, count_below}
use Rattle.lists.specs.Tables.{zeros}
use Rattle.lists.proofs.CaseLaws.{cases, eq_or_ne}
use Rattle.lists.proofs.CountLaws.{count_le}
use Rattle.lists.proofs.SearchLaws.{first_at, first_from, first_true, first_before, first_skip}
use Rattle.lists.proofs.TableLaws.{zeros_length}
use Rattle.netlist.specs.Marks.{listed}
use Rattle.netlist.specs.Rows.{row_at}
use Rattle.netlist.specs.Checking.{wire_count, row_good, earlier, zero_test, good_at, stands, first_bad_row}
use Rattle.netlist.specs.declared.row.Row.{Row}
use Rattle.netlist.proofs.MarkLaws.{listed_lt, listed_set_same, listed_set_other, zeros_unlisted}
use Rattle.netlist.proofs.Settling.{earlier_none, earlier_more, earlier_here, earlier_split}
use Rattle.netlist.proofs.GoodLaws.{good_parts}
use Rattle.netlist.proofs.CheckingLaws.{earlier_exact, stands_good, stands_zero}

-- two tests that go the same way
pub test_ext : (a b : Bool) → (a ≡ true → b ≡ true) → (b ≡ true → a ≡ true) → a ≡ b
test_ext true b f g = sym (f refl)
test_ext false true f g = g refl
test_ext false false f g = refl

-- ---- the count of wires

abbrev pub marked_below : List ℕ → ℕ → ℕ
marked_below wires w = count_below (listed wires) w

module _ (wires : List ℕ) (w : ℕ) where
  pub marked_more : listed wires w ≡ true → marked_below wires w + 1 ≡ marked_below wires (w + 1)
  unfolding count_below
  marked_more t = rw (add-one w, t) (omega arith)

  pub marked_same : listed wires w ≡ false → marked_below wires w ≡ marked_below wires (w + 1)
  unfolding count_below
  marked_same f = rw (add-one w, f) (omega arith)

pub marked_none : (wires : List ℕ) → marked_below wires 0 ≡ 0
unfolding count_below
marked_none wires = refl

-- ---- the marks are those of the rows before i

abbrev pub not_good : List ℕ → ℕ → List ℕ → ℕ → Bool
not_good list cells wires i = not (good_at list cells wires i)

module _ (list : List ℕ) (cells : ℕ) (wires : List ℕ) (bound : ℕ) where
  pub record Checking (marks : List ℕ) (i : ℕ) : Type 0 where
    pub long : length marks ≡ length wires
    pub came : (w : ℕ) → listed marks w ≡ earlier list i w
    pub rest : first (not_good list cells wires) i (bound - i) ≡ first (not_good list cells wires) 0 bound

  pub checking_start : Checking (zeros (length wires)) 0
  checking_start = record {
    long = zeros_length (length wires);
    came = λ w. zeros_unlisted (length wires) w ∙ ⊎_elim (λ t. absurd (earlier_none list w ((earlier_exact list 0 w).0 t))) (λ f. sym f) (cases (earlier list 0 w));
    rest = rw (sub-zero bound);
  }

  module _ (marks : List ℕ) (i : ℕ) (h : Checking marks i) (row : Row) (is : row ≡ row_at list i) where
    -- the test by the marks is that by the rows before
    pub checking_test : row_good row cells (listed wires) (listed marks) ≡ good_at list cells wires i
    checking_test = rw (is, fun_ext h.came)

    module _ (good : good_at list cells wires i ≡ true) where
      pub checking_lt : row.wire < length wires
      checking_lt = rw is (listed_lt wires (row_at list i).wire (good_parts (row_at list i) cells (listed wires) (earlier list i) good).in_block)

      pub checking_step : (w : ℕ) → w ≡ row.wire → i < bound → Checking (set marks w 1) (i + 1)
      checking_step w e l = record {
        long = length-set marks w 1 ∙ h.long;
        came = λ v. ⊎_elim (λ (q : v ≡ w). here v q) (λ (ne : v ≢ w). listed_set_other marks w v ne ∙ h.came v ∙ there v ne) (eq_or_ne v w);
        rest = sym (first_skip (not_good list cells wires) i bound l (rw good)) ∙ h.rest;
      }
        where
          named : (row_at list i).wire ≡ w
          named = rw (← is) (sym e)

          here : (v : ℕ) → v ≡ w → listed (set marks w 1) v ≡ earlier list (i + 1) v
          here v q =
              rw q (listed_set_same marks w (let a = checking_lt in let b = h.long in omega arith)
              ∙ sym ((earlier_exact list (i + 1) w).1 (earlier_here list i w named)))

          there : (v : ℕ) → v ≢ w → earlier list i v ≡ earlier list (i + 1) v
          there v ne =
              test_ext (earlier list i v) (earlier list (i + 1) v) (λ t. (earlier_exact list (i + 1) v).1 (earlier_more list i v ((earlier_exact list i v).0 t)))
              (λ t. (earlier_exact list i v).1 (earlier_split list i v ((earlier_exact list (i + 1) v).0 t) (λ q. ne (q ∙ named))))

-- ---- the rows below the count, and those behind

first_ext_from : (p q : ℕ → Bool) (i m : ℕ) → ((k : ℕ) → i ≤ k → p k ≡ q k) → first p i m ≡ first q i m
unfolding first
first_ext_from p q i zero h = refl
first_ext_from p q i (suc m) h = rw (h i (omega arith), first_ext_from p q (suc i) m (λ k l. h k (omega arith)))

module _ (list : List ℕ) (cells : ℕ) (wires : List ℕ) where
  pub wire_count_le : wire_count wires ≤ length wires
  wire_count_le = count_le (listed wires) (length wires)

  abbrev bad : ℕ → Bool
  bad i = not (stands list cells wires i)

  abbrev found : ℕ
  found = first (not_good list cells wires) 0 (wire_count wires)

  below : (k : ℕ) → k < found → found ≤ wire_count wires → bad k ≡ false
  below k l u =
      ap not (stands_good list cells wires k (omega arith)) ∙ first_before (not_good list cells wires) 0 (wire_count wires) k (omega arith) l

  pub first_bad_among : found < wire_count wires → found ≡ first_bad_row list cells wires
  unfolding first_bad_row
  first_bad_among l =
      sym (first_at bad found (length wires) (let a = wire_count_le in omega arith)
      (ap not (stands_good list cells wires found l) ∙ first_true (not_good list cells wires) 0 (wire_count wires) (omega arith)) (λ k lk. below k lk (omega arith)))

  pub first_bad_behind : wire_count wires ≤ found → first (λ i. not (zero_test (row_at list i))) (wire_count wires) (length wires - wire_count wires) ≡ first_bad_row list cells wires
  unfolding first_bad_row
  first_bad_behind l =
      first_ext_from (λ i. not (zero_test (row_at list i))) bad (wire_count wires) (length wires - wire_count wires) (λ k lk. ap not (sym (stands_zero list cells wires k lk)))
      ∙ first_from bad (length wires) (wire_count wires) wire_count_le (λ k lk. passed k lk)
    where
      passed : (k : ℕ) → k < wire_count wires → bad k ≡ false
      passed k lk =
          ap not (stands_good list cells wires k lk) ∙ first_before (not_good list cells wires) 0 (wire_count wires) k (omega arith) (omega arith)
