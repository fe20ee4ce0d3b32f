-- What stands in a table of ranges. Main laws: `find_range`, at a place of port_range j; `find_all`, at every place, from one proof a port_range.
use Prim.Native.Nat.{ℕ, zero, suc, ◌+◌, ◌-◌, ◌≤◌, ◌<◌}
use mathlib.Core.Path.{◌≡◌, refl, ◌∙◌, ap, subst}
use mathlib.Core.List.{List, [], ◌∷◌}
use mathlib.Core.Bool.{Bool, true, false, cond}
use native.Mathlib.Omega.{arith}
use native.Mathlib.Nat.{zero-add}
use lib.Dec.{ltb}
use borrow.Author.Tests.{lt-ltb, le-ltb, ltb-true, ltb-false}
use Rattle.ports.specs.Ports.{PortRange, port_range, find}
use Rattle.ports.specs.declared.Port.{Port}
use Rattle.ports.specs.declared.Port.TheVariants.{Ltin}

-- the first place of port_range j, and the port_range
abbrev pub base : List PortRange → ℕ → ℕ
base rs zero = 0
base [] (suc j) = 0
base (r ∷ rs) (suc j) = r.count + base rs j

abbrev pub nth : List PortRange → ℕ → PortRange
nth [] j = port_range 0 (λ k. Ltin)
nth (r ∷ rs) zero = r
nth (r ∷ rs) (suc j) = nth rs j

abbrev pub total : List PortRange → ℕ
total [] = 0
total (r ∷ rs) = r.count + total rs

past_first : (a b k : ℕ) → a + b + k - a ≡ b + k
past_first a b k = omega arith

pub find_range : (rs : List PortRange) (j k : ℕ) → k < (nth rs j).count → find rs (base rs j + k) ≡ (nth rs j).make k
find_range [] j k h = absurd (omega arith)
find_range (r ∷ rs) zero k h = rw (zero-add, lt-ltb k r.count h)
find_range (r ∷ rs) (suc j) k h =
    rw (le-ltb (r.count + base rs j + k) r.count (omega arith)) (ap (find rs) (past_first r.count (base rs j) k) ∙ find_range rs j k h)

pub find_past : (rs : List PortRange) (q : ℕ) → total rs ≤ q → find rs q ≡ Ltin
find_past [] q h = refl
find_past (r ∷ rs) q h = rw (le-ltb q r.count (omega arith)) (find_past rs (q - r.count) (omega arith))

-- ---- every place

-- a proof of P for each port_range of a table that starts at place b
infixr 67 ◌▸◌
pub data Ranges (P : ℕ → Port → Type 0) : ℕ → List PortRange → Type 0 where
  none : {b : ℕ} → Ranges P b []
  ◌▸◌ : {b : ℕ} {r : PortRange} {rs : List PortRange} → ((k : ℕ) → k < r.count → P (b + k) (r.make k)) → Ranges P (b + r.count) rs → Ranges P b (r ∷ rs)

find_from : (P : ℕ → Port → Type 0) {b : ℕ} {rs : List PortRange} → Ranges P b rs → (q : ℕ) → q < total rs → P (b + q) (find rs q)
find_from P none q l = absurd (omega arith)
find_from P (◌▸◌ {b} {r} {rs} here later) q l = go (find_from P later) (ltb q r.count) refl
  where
    go : ((q : ℕ) → q < total rs → P (b + r.count + q) (find rs q)) → (t : Bool) → ltb q r.count ≡ t
        → P (b + q) (cond t (r.make q) (find rs (q - r.count)))
    go ih true e = here q (ltb-true _ _ e)
    go ih false e =
        let g : r.count ≤ q = ltb-false _ _ e in
        subst (λ (m : ℕ). P m (find rs (q - r.count))) (omega arith) (ih (q - r.count) (omega arith))

pub find_all : (P : ℕ → Port → Type 0) (rs : List PortRange) → Ranges P 0 rs → (q : ℕ) → q < total rs → P q (find rs q)
find_all P rs h q l = subst (λ (m : ℕ). P m (find rs q)) (zero-add q) (find_from P h q l)
