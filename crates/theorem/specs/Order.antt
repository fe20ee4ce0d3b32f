-- "in these orders": a chain of checks in front of a call's answer, each with the columns of document 01's table, number, ground and place.
--   Check == a check that passes, or gives its number and place      CheckFor == one that finds what the later checks are about
--   Yes == the answer's number is 0      at0, at == places 0 and `number`
--   RowsNeeded == so many rows list all that there is, as ground 15 counts them
use Rattle.std.specs.Prelude.{ℕ, ◌≡◌, ◌⊎◌, List}
use Rattle.lists.specs.Listing.{Lists}

-- where the check does not pass, its number is the answer's and what comes with it is its place; where it passes, the later checks decide
abbrev pub Check : ℕ → Type 0 → (ℕ → Type 0) → (ℕ → ℕ → Type 0) → ℕ → ℕ → Type 0
Check its_number passes place later number value = ((passes → ⊥) × (number ≡ its_number) × place value) ⊎ (passes × later number value)

-- the same where what passes is something found, and the later checks are about it
abbrev pub CheckFor : ℕ → (found : Type 0) → (ℕ → Type 0) → (found → ℕ → ℕ → Type 0) → ℕ → ℕ → Type 0
CheckFor its_number found place later number value = ((found → ⊥) × (number ≡ its_number) × place value) ⊎ ((x : found) × later x number value)

-- a yes, and what comes with it
abbrev pub Yes : (ℕ → Type 0) → ℕ → ℕ → Type 0
Yes says number value = (number ≡ 0) × says value

abbrev pub at : ℕ → ℕ → Type 0
at place value = value ≡ place

abbrev pub at0 : ℕ → Type 0
at0 = at 0

-- "15, the lent list is too short, place the rows needed": those of a list that holds all, each of k numbers
pub record RowsNeeded (Is : List ℕ → Type 0) (k rows : ℕ) : Type 0 where
  pub list : List ℕ
  pub listed : Lists Is k list rows
