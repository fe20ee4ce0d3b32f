-- "Kinds: 1 lent, 2 zero, 3 one, 4 flip-flop (operand 1 is 8t + i), 5 copy, 6 lookup (in_0 first), 7 majority (in_1, in_2, carry-in)"
-- 0 is no kind: an unused row has it, and the row by wire of an index that is no wire.
use Rattle.std.specs.Prelude.{ℕ}

-- the kinds by their names
abbrev pub lent_kind : ℕ
lent_kind = 1

abbrev pub zero_kind : ℕ
zero_kind = 2

abbrev pub one_kind : ℕ
one_kind = 3

abbrev pub flip_flop_kind : ℕ
flip_flop_kind = 4

abbrev pub copy_kind : ℕ
copy_kind = 5

abbrev pub lookup_kind : ℕ
lookup_kind = 6

abbrev pub majority_kind : ℕ
majority_kind = 7
