-- Grounds 14 and 2: "two blocks of one size", and the lengths lent to `compare`, as tests and as facts. The figures are those of
-- ports/specs/Lengths.antt. The list's length is free: ground 15 asks how long it is.
use Rattle.std.specs.Prelude.{◌≡◌, Bool, ◌&&◌, List, ℕ, eqb, length}
use Rattle.ports.specs.declared.size.Size.{Size}
use Rattle.ports.specs.Lengths.{table_length, bits_length, settings_total}
use Rattle.compare.specs.declared.lengths.CompareLent.{CompareLent}

-- "two blocks of one size": as wide and as high
pub record SameSize (A B : Size) : Type 0 where
  pub wide : A.w ≡ B.w
  pub high : A.h ≡ B.h

abbrev pub same_size : Size → Size → Bool
same_size A B = eqb A.w B.w && eqb A.h B.h

-- what `compare` is lent beside the list: the table, both blocks, and as work room the settings of both
abbrev pub compare_lent : (table first second before after : List ℕ) → CompareLent
compare_lent table first second before after = record {
  table = length table;
  first = length first;
  second = length second;
  before = length before;
  after = length after;
}

-- these lengths are the exact ones
pub record CompareLong (S : Size) (lent : CompareLent) : Type 0 where
  pub table_long : lent.table ≡ table_length
  pub first_long : lent.first ≡ bits_length S
  pub second_long : lent.second ≡ bits_length S
  pub before_long : lent.before ≡ settings_total S
  pub after_long : lent.after ≡ settings_total S

-- asking for a tile lends both blocks alone
abbrev pub part_exact : Size → (first second : ℕ) → Bool
part_exact S first second = eqb first (bits_length S) && eqb second (bits_length S)

abbrev pub compare_exact : Size → CompareLent → Bool
compare_exact S lent =
    eqb lent.table table_length
    && (part_exact S lent.first lent.second && (eqb lent.before (settings_total S) && eqb lent.after (settings_total S)))
