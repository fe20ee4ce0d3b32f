-- A table of grounds fits one number and place only. Main laws: `check_agrees`, `yes_agrees`, for any chain of checks; `bits_agrees`, grounds 3 to 8 of
-- building. Assumes nothing.
--   Agrees C G G' == answers that two tables fit have one number and one place, and after a yes C holds
use Prim.Native.Nat.{ℕ, ◌<◌, ◌≤◌}
use mathlib.Core.Path.{◌≡◌, sym, ◌∙◌}
use mathlib.Core.Logic.{inl, inr, ⊎_elim, ◌≢◌}
use mathlib.Core.List.{List}
use native.Mathlib.Omega.{arith}
use Rattle.lists.proofs.CaseLaws.{lt_or_le}
use Rattle.ports.specs.declared.size.Block.{Block}
use Rattle.ports.specs.Block.{tiles}
use Rattle.routing.specs.LogicTile.{logic_tile}
use Rattle.routing.specs.Rules.{FirstBroken}
use Rattle.words.specs.Forms.{TileBits}
use Rattle.config.specs.Facts.{LowestFault}
use Rattle.config.proofs.FaultPlaceLaws.{fault_unique}
use Rattle.theorem.specs.Order.{Check, Yes}
use Rattle.theorem.specs.BlockGrounds.{ListGrounds, BitsGrounds}

-- ---- a chain of checks

abbrev pub Agrees : Type 0 → (ℕ → ℕ → Type 0) → (ℕ → ℕ → Type 0) → Type 0
Agrees C G G' = (n v m u : ℕ) → G n v → G' m u → (n ≡ m) × (v ≡ u) × (n ≡ 0 → C)

-- a place that is given is the only one
abbrev pub One : (ℕ → Type 0) → Type 0
One place = (v u : ℕ) → place v → place u → v ≡ u

pub check_agrees : {C passes : Type 0} {place : ℕ → Type 0} {G G' : ℕ → ℕ → Type 0} (ground : ℕ) → ground ≢ 0 → One place → Agrees C G G'
    → Agrees C (Check ground passes place G) (Check ground passes place G')
check_agrees ground some one later n v m u (inl a) (inl b) = (a.1 ∙ sym b.1, one v u a.2 b.2, λ z. absurd (some (sym a.1 ∙ z)))
check_agrees ground some one later n v m u (inl a) (inr b) = absurd (a.0 b.0)
check_agrees ground some one later n v m u (inr a) (inl b) = absurd (b.0 a.0)
check_agrees ground some one later n v m u (inr a) (inr b) = later n v m u a.1 b.1

pub yes_agrees : {C : Type 0} {says says' : ℕ → Type 0} → ((v u : ℕ) → says v → says' u → (v ≡ u) × C) → Agrees C (Yes says) (Yes says')
yes_agrees one n v m u a b = let q = one v u a.1 b.1 in (a.0 ∙ sym b.0, q.0, λ _. q.1)

-- ---- places

one_of : (v u : ℕ) → (v < u → ⊥) → (u < v → ⊥) → v ≡ u
one_of v u a b =
    ⊎_elim (λ (l : v < u). absurd (a l)) (λ (l : u ≤ v). ⊎_elim (λ (k : u < v). absurd (b k)) (λ (k : v ≤ u). omega arith) (lt_or_le u v))
    (lt_or_le v u)

pub one_place : (k : ℕ) → One (λ v. v ≡ k)
one_place k v u a b = a ∙ sym b

one_broken : (t : List ℕ) → One (FirstBroken logic_tile t)
one_broken t v u a b = one_of v u (λ l. a.broken (b.earlier v l)) (λ l. b.broken (a.earlier u l))

one_fault : (B : Block) (t : List ℕ) (tile : ℕ → TileBits) → One (LowestFault t tile (tiles B))
one_fault B t tile = fault_unique t tile (tiles B)

-- ---- grounds 3 to 8

module _ (B : Block) (t : List ℕ) (tile : ℕ → TileBits) (st : List ℕ) {C : Type 0} {says says' : ℕ → Type 0} (one : (v u : ℕ) → says v → says' u → (v ≡ u) × C) where
  list_agrees : Agrees C (ListGrounds B t st says) (ListGrounds B t st says')
  list_agrees =
      check_agrees 5 (λ z. absurd (omega arith)) (λ v u a b. let p = a.least u b.here in let q = b.least v a.here in omega arith)
      (check_agrees 6 (λ z. absurd (omega arith)) (λ v u a b. let p = a.least u b.here in let q = b.least v a.here in omega arith)
      (check_agrees 7 (λ z. absurd (omega arith)) (λ v u a b. let p = a.least u b.here in let q = b.least v a.here in omega arith)
      (check_agrees 8 (λ z. absurd (omega arith))
      (λ v u a b. let p = a.least u b.within b.here in let q = b.least v a.within a.here in omega arith)
      (yes_agrees one))))

  pub bits_agrees : Agrees C (BitsGrounds B t tile st says) (BitsGrounds B t tile st says')
  bits_agrees =
      check_agrees 3 (λ z. absurd (omega arith)) (one_broken t)
      (check_agrees 4 (λ z. absurd (omega arith)) (one_fault B t tile) list_agrees)
