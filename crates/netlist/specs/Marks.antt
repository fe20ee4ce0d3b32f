-- Marks: a number for each index, not 0 where it is marked.
use Rattle.std.specs.Prelude.{◌≡◌, Bool, not, cond, List, [], ◌∷◌, map, ℕ, zero, suc, eqb, get_or, set}

-- so many wires at most: a mark may hold a wire's number and 2, in 16 bits
abbrev pub max_wires : ℕ
max_wires = 65534

-- w has a mark
abbrev pub listed : List ℕ → ℕ → Bool
listed marks w = not (eqb (get_or marks w 0) 0)

-- w has no mark, as the code tests it
abbrev pub Unlisted : List ℕ → ℕ → Type 0
Unlisted marks w = get_or marks w 0 ≡ 0

-- the marks once the wires of a list are marked too
abbrev pub marks_after : List ℕ → List ℕ → List ℕ
marks_after marks [] = marks
marks_after marks (w ∷ ws) = marks_after (set marks w 1) ws

-- how many are not marked
abbrev pub unmarked : List ℕ → ℕ
unmarked [] = 0
unmarked (zero ∷ marks) = suc (unmarked marks)
unmarked (suc x ∷ marks) = unmarked marks

-- where a mark may also say something else of a wire that is not listed: 1 where the wire is listed, else 0
unfoldable pub only_listed : List ℕ → List ℕ
only_listed marks = map (λ (x : ℕ). cond (eqb x 1) 1 0) marks
