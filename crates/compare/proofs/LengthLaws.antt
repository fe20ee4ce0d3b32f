-- The tests of the sizes and the lengths are the facts (grounds 14 and 2). Main laws: `same_size_exact`, `part_long_exact`, `compare_long_exact`;
-- `sizes_test`. Assumes nothing.
use mathlib.Core.Path.{◌≡◌, sym, ap, ◌∙◌}
use mathlib.Core.Logic.{◌↔◌}
use mathlib.Core.Bool.{Bool, true, not, not-not}
use Prim.Native.Nat.{ℕ}
use borrow.Author.Tests.{eqb-true, eq-eqb}
use Rattle.lists.proofs.CaseLaws.{equal_and, and_equal, and_left, and_right, and_true}
use Rattle.ports.specs.declared.size.Size.{Size}
use Rattle.ports.specs.Lengths.{table_length, bits_length, settings_total}
use Rattle.compare.specs.declared.lengths.CompareLent.{CompareLent}
use Rattle.compare.specs.Lengths.{SameSize, same_size, part_exact, compare_exact, CompareLong}

pub same_size_exact : (A B : Size) → (same_size A B ≡ true) ↔ SameSize A B
same_size_exact A B = (there, back)
  where
    there : same_size A B ≡ true → SameSize A B
    there e = let a = equal_and A.w B.w _ e in record { wide = a.0; high = eqb-true A.h B.h a.1 }

    back : SameSize A B → same_size A B ≡ true
    back s = and_equal A.w B.w s.wide (eq-eqb A.h B.h s.high)

-- what `!=` answers
pub sizes_test : (A B : Size) {r b : Bool} → r ≡ not (same_size A B) → r ≡ b → same_size A B ≡ not b
sizes_test A B e h = sym (not-not (same_size A B)) ∙ ap not (sym e ∙ h)

pub part_long_exact : (S : Size) (first second : ℕ) → (part_exact S first second ≡ true) ↔ ((first ≡ bits_length S) × (second ≡ bits_length S))
part_long_exact S first second = (there, back)
  where
    there : part_exact S first second ≡ true → (first ≡ bits_length S) × (second ≡ bits_length S)
    there e = let a = equal_and first (bits_length S) _ e in (a.0, eqb-true second (bits_length S) a.1)

    back : (first ≡ bits_length S) × (second ≡ bits_length S) → part_exact S first second ≡ true
    back p = and_equal first (bits_length S) p.0 (eq-eqb second (bits_length S) p.1)

pub compare_long_exact : (S : Size) (lent : CompareLent) → (compare_exact S lent ≡ true) ↔ CompareLong S lent
compare_long_exact S lent = (there, back)
  where
    there : compare_exact S lent ≡ true → CompareLong S lent
    there e =
        let a = equal_and lent.table table_length _ e in
        let both = (part_long_exact S lent.first lent.second).0 (and_left _ _ a.1) in
        let b = equal_and lent.before (settings_total S) _ (and_right (part_exact S lent.first lent.second) _ a.1) in
        record {
          table_long = a.0;
          first_long = both.0;
          second_long = both.1;
          before_long = b.0;
          after_long = eqb-true lent.after (settings_total S) b.1;
        }

    back : CompareLong S lent → compare_exact S lent ≡ true
    back r =
        and_equal lent.table table_length r.table_long
        (and_true ((part_long_exact S lent.first lent.second).1 (r.first_long, r.second_long))
        (and_equal lent.before (settings_total S) r.before_long (eq-eqb lent.after (settings_total S) r.after_long)))
