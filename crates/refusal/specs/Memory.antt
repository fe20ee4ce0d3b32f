-- Lent memory after an answer (demand 1; document 01, 'Grounds for a no'). It depends only on the answer's number, 0 for a yes, so every
-- kind of answer shares it.
use Rattle.std.specs.Prelude.{ℕ, cond, ◌||◌, List, eqb, length}
use Rattle.lists.specs.Tables.{zeros}

-- "On a refusal the outputs keep their old contents": an output after an answer, `new` being what a yes writes.
abbrev pub output : ℕ → List ℕ → List ℕ → List ℕ
output number old new = cond (eqb number 0) new old

-- "the work room is zeroed, on a yes too, but untouched under 1 and 2"
abbrev pub work_room : ℕ → List ℕ → List ℕ
work_room number old = cond (eqb number 1 || eqb number 2) old (zeros (length old))
