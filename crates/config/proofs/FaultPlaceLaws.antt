-- The place of ground 4 is what the paper says: the computed search over the positions of a block against `LowestFault` of specs/Facts.antt. Main laws:
-- `fault_place_exact`, `fault_unique`; `no_fault_decodable`, `decodable_no_fault`; `fault_place_tile` for a loop over the tiles. Assumes nothing.
use mathlib.Core.Path.{◌≡◌, sym, subst}
use mathlib.Core.Logic.{◌↔◌, ⊎_elim}
use mathlib.Core.Bool.{true, false}
use mathlib.Core.List.{List}
use Prim.Native.Nat.{ℕ, ◌+◌, ◌*◌, ◌/◌, ◌%◌, ◌<◌, ◌≤◌}
use native.Mathlib.Omega.{arith}
use Rattle.lists.proofs.CaseLaws.{cases, clash, lt_or_le}
use Rattle.lists.proofs.SearchLaws.{first_none, first_true, first_before}
use Rattle.routing.specs.LogicTile.{logic_tile}
use Rattle.routing.specs.Rules.{TableRules}
use Rattle.words.specs.Forms.{TileBits}
use Rattle.codec.specs.Fault.{tile_fault}
use Rattle.codec.specs.Reading.{Faulty, Decodable}
use Rattle.codec.proofs.FaultyLaws.{fault_exact, faulty_lt, tile_fault_lowest}
use Rattle.config.specs.Blocks.{bits_at, faulty_place, fault_place, tiles_of}
use Rattle.config.specs.Facts.{LowestFault}

-- ---- there is one lowest fault only

same : (a b : ℕ) → (a < b → ⊥) → (b < a → ⊥) → a ≡ b
same a b f g = ⊎_elim (λ (l : a < b). absurd (f l)) (λ (l : b ≤ a). ⊎_elim (λ (k : b < a). absurd (g k)) (λ (k : a ≤ b). omega arith) (lt_or_le b a)) (lt_or_le a b)

pub fault_unique : (table : List ℕ) (tile : ℕ → TileBits) (n v u : ℕ) → LowestFault table tile n v → LowestFault table tile n u → v ≡ u
fault_unique table tile n v u a b =
    let t : a.faulty_tile ≡ b.faulty_tile =
    same _ _ (λ l. b.lower_tile _ l a.position a.faulty) (λ l. a.lower_tile _ l b.position b.faulty) in
    let p : a.position ≡ b.position =
    same _ _ (λ l. b.lower_position _ l (subst (λ (x : ℕ). Faulty table (tile x) a.position) t a.faulty))
    (λ l. a.lower_position _ l (subst (λ (x : ℕ). Faulty table (tile x) b.position) (sym t) b.faulty)) in
    omega (arith, a.is_place, b.is_place)

-- ---- a loop over the tiles

pub decodable_more : (table : List ℕ) (tile : ℕ → TileBits) (t : ℕ) → ((s : ℕ) → s < t → Decodable table (tile s)) → Decodable table (tile t)
    → (s : ℕ) → s < t + 1 → Decodable table (tile s)
decodable_more table tile t clean here s l =
    ⊎_elim (λ (k : s < t). clean s k) (λ (k : t ≤ s). subst (λ (x : ℕ). Decodable table (tile x)) (let e : t ≡ s = omega arith in e) here) (lt_or_le s t)

module _ (table bits : List ℕ) (T : TableRules logic_tile table) where
  -- ---- a place is a position of a tile

  faulty_place_lem : (t p : ℕ) → Faulty table (tiles_of bits t) p → faulty_place table (tiles_of bits) (logic_tile.positions * t + p) ≡ true
  unfolding faulty_place
  faulty_place_lem t p F =
      let h = faulty_lt table (bits_at bits t) T p F in
      let d : (864 * t + p) / 864 ≡ t = omega arith in
      let m : (864 * t + p) % 864 ≡ p = omega arith in
      rw (d, m) ((fault_exact table (bits_at bits t) T p h).1 F)

  place_faulty : (k : ℕ) → faulty_place table (tiles_of bits) k ≡ true → Faulty table (tiles_of bits (k / logic_tile.positions)) (k % logic_tile.positions)
  unfolding faulty_place
  place_faulty k f = (fault_exact table (bits_at bits (k / 864)) T (k % 864) (omega arith)).0 f

  module _ (n : ℕ) where
    abbrev place : ℕ
    place = fault_place table (tiles_of bits) n

    -- nothing below the place is at fault
    none_lower : (t p : ℕ) → Faulty table (tiles_of bits t) p → logic_tile.positions * t + p < place → ⊥
    none_lower t p F l = clash (faulty_place_lem t p F) (first_before (faulty_place table (tiles_of bits)) 0 (864 * n) (864 * t + p) (omega arith) l)

    -- ---- the place

    pub fault_place_lowest : fault_place table (tiles_of bits) n < logic_tile.positions * n → LowestFault table (tiles_of bits) n (fault_place table (tiles_of bits) n)
    fault_place_lowest h = record {
      faulty_tile = place / 864;
      position = place % 864;
      is_place = omega arith;
      within = omega arith;
      faulty = place_faulty place (first_true (faulty_place table (tiles_of bits)) 0 (864 * n) (omega arith));
      lower_tile = λ t l p F. none_lower t p F (let b = faulty_lt table (bits_at bits t) T p F in omega arith);
      lower_position = λ p l F. none_lower (place / 864) p F (omega arith);
    }

    -- the place is below 864n exactly where there is a lowest fault, and then it is that of the fault
    pub fault_place_exact : (k : ℕ) → LowestFault table (tiles_of bits) n k ↔ ((k ≡ fault_place table (tiles_of bits) n) × (k < logic_tile.positions * n))
    fault_place_exact k = (there, λ e. subst (LowestFault table (tiles_of bits) n) (sym e.0) (fault_place_lowest (omega (arith, e.0, e.1))))
      where
        there : LowestFault table (tiles_of bits) n k → (k ≡ place) × (k < logic_tile.positions * n)
        there low =
            let b = faulty_lt table (bits_at bits low.faulty_tile) T low.position low.faulty in
            let below : k < 864 * n = omega (arith, low.is_place, low.within) in
            let reached : place ≤ k =
            ⊎_elim (λ (l : k < place). absurd (none_lower low.faulty_tile low.position low.faulty (omega (arith, low.is_place))))
            (λ (l : place ≤ k). l) (lt_or_le k place) in
            (fault_unique table (tiles_of bits) n k place low (fault_place_lowest (omega arith)), below)

    -- ---- no place

    pub no_fault_decodable : logic_tile.positions * n ≤ fault_place table (tiles_of bits) n → (t : ℕ) → t < n → Decodable table (tiles_of bits t)
    no_fault_decodable h t l p F = none_lower t p F (let b = faulty_lt table (bits_at bits t) T p F in omega arith)

    pub decodable_no_fault : ((t : ℕ) → t < n → Decodable table (tiles_of bits t)) → logic_tile.positions * n ≡ fault_place table (tiles_of bits) n
    decodable_no_fault clean = sym (first_none (faulty_place table (tiles_of bits)) (864 * n) none)
      where
        none : (k : ℕ) → k < 864 * n → faulty_place table (tiles_of bits) k ≡ false
        none k h =
            ⊎_elim (λ (f : faulty_place table (tiles_of bits) k ≡ true). absurd (clean (k / 864) (omega arith) (k % 864) (place_faulty k f)))
            (λ (f : faulty_place table (tiles_of bits) k ≡ false). f) (cases (faulty_place table (tiles_of bits) k))

    -- the tiles before t can be decoded, and t has a fault
    pub fault_place_tile : (t : ℕ) → t < n → ((s : ℕ) → s < t → Decodable table (tiles_of bits s))
        → (p : ℕ) → p ≡ tile_fault table (tiles_of bits t) → p < logic_tile.positions → logic_tile.positions * t + p ≡ fault_place table (tiles_of bits) n
    fault_place_tile t h clean p e l =
        let low = tile_fault_lowest table (bits_at bits t) T (omega (arith, e)) in
        ((fault_place_exact (864 * t + p)).0 (record {
          faulty_tile = t;
          position = tile_fault table (tiles_of bits t);
          is_place = omega (arith, e);
          within = h;
          faulty = low.0;
          lower_tile = clean;
          lower_position = low.1;
        })).0
