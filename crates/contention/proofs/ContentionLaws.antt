-- The computed rows are just the contentions. Main laws: `contentions_listed`, `contentions_length`, `empty_exact`. Assumes nothing.
use Prim.Native.Nat.{ℕ, suc, ◌+◌, ◌*◌, ◌/◌, ◌%◌, ◌<◌, ◌≤◌}
use mathlib.Core.Path.{◌≡◌, refl, ap, subst, ◌∙◌}
use mathlib.Core.Bool.{true}
use mathlib.Core.Logic.{⊎_elim, ◌↔◌}
use mathlib.Core.List.{List, [], ◌∷◌}
use native.Mathlib.Omega.{arith}
use native.Mathlib.Nat.{div-add-mod, mod-lt, mul-add, mul-add-div, div-eq_of_lt, mul-add-mod_self_left, mod-eq_of_lt, add-zero, mul-le-mul, mul-le-mul_left}
use borrow.Author.Tests.{ltb-true, lt-ltb}
use lib.Dec.{ltb}
use lib.ListN.{length}
use Rattle.lists.specs.Search.{count_below}
use Rattle.lists.proofs.CaseLaws.{and_left, and_right, and_true, lt_or_le, eq_or_ne}
use Rattle.lists.specs.Listing.{Precedes, here, later, Lists, zero_filled}
use Rattle.lists.proofs.RowLaws.{row_reached, count_pass, rows_length_lem}
use Rattle.lists.proofs.ListingLaws.{Enumerates, rows_listed, filled_length, listed_empty}
use Rattle.ports.specs.declared.size.Block.{Block}
use Rattle.ports.specs.Block.{tiles}
use Rattle.ports.specs.Lengths.{ports}
use Rattle.equations.specs.Switches.{tile_of, group_in, switches, Ends, Contention, NoContention}
use Rattle.equations.specs.WireRows.{ends_on}
use Rattle.equations.specs.Routed.{Routed}
use Rattle.equations.proofs.SwitchLaws.{ends_of, ends_on_true, target_lt}
use Rattle.contention.specs.Contentions.{row_length, ContentionRow, contender, switch_row, contended, contends, contention_at, contention_row, contention_count, contentions}

-- ---- a number in two: x = k * q + r

parted_lt : (k q r n : ℕ) → q < n → r < k → k * q + r < k * n
parted_lt k q r n l h =
    let a = mul-le-mul_left k l in let b = mul-add k q 1 in
    omega (arith, ap (λ (x : ℕ). k * x) (let e : suc q ≡ q + 1 = omega arith in e))

module _ (k q r : ℕ) (h : r < k) where
  pub parted_quotient : (k * q + r) / k ≡ q
  parted_quotient = mul-add-div (omega arith) q r ∙ ap (λ (x : ℕ). q + x) (div-eq_of_lt h) ∙ add-zero q

  pub parted_rest : (k * q + r) % k ≡ r
  parted_rest = mul-add-mod_self_left k q r ∙ mod-eq_of_lt h

-- ---- the order of rows

pub switch_row_length : (w s : ℕ) → length (switch_row w s) ≡ row_length
unfolding switch_row
switch_row_length w s = refl

-- one number after another, and the rest
precedes_later : {a b : ℕ} {r s : List ℕ} → a ≡ b → Precedes r s → Precedes (a ∷ r) (b ∷ s)
precedes_later {a} {b} {r} {s} e h = subst (λ (x : ℕ). Precedes (a ∷ r) (x ∷ s)) e (later h)

-- switches rise by tile and group
switches_rise : (s r : ℕ) → s < r → Precedes (tile_of s ∷ group_in s ∷ []) (tile_of r ∷ group_in r ∷ [])
switches_rise s r l =
    ⊎_elim (λ (h : s / 512 < r / 512). here h)
    (λ (h : r / 512 ≤ s / 512).
    let e : s / 512 ≡ r / 512 = omega arith in let f : s % 512 < r % 512 = omega arith in
    precedes_later e (here f))
    (lt_or_le (s / 512) (r / 512))

-- ---- the rows

module _ (B : Block) (t st : List ℕ) where
  -- two switches end on a wire exactly if it is contended
  pub contended_exact : (w : ℕ) → (contended B t st w ≡ true) ↔ Contention B t st w
  unfolding contended
  contended_exact w = (there, back)
    where
      there : ltb 1 (count_below (ends_on B t st w) (switches B)) ≡ true → Contention B t st w
      there e =
          let m = ltb-true 1 (count_below (ends_on B t st w) (switches B)) e in
          let (s, ls, es, cs) = row_reached (ends_on B t st w) (switches B) 0 (omega arith) in
          let (r, lr, er, cr) = row_reached (ends_on B t st w) (switches B) 1 m in
          (s, r, ends_of B t st w s ls es, ends_of B t st w r lr er, λ q. absurd (let z = ap (count_below (ends_on B t st w)) q in omega arith))

      apart : (s r : ℕ) → Ends B t st s w → Ends B t st r w → s < r → ltb 1 (count_below (ends_on B t st w) (switches B)) ≡ true
      apart s r E F l =
          let a = count_pass (ends_on B t st w) s r l (ends_on_true B t st w s E) in
          let b = count_pass (ends_on B t st w) r (switches B) F.within (ends_on_true B t st w r F) in
          lt-ltb 1 (count_below (ends_on B t st w) (switches B)) (omega arith)

      back : Contention B t st w → ltb 1 (count_below (ends_on B t st w) (switches B)) ≡ true
      back (s, r, E, F, ne) =
          ⊎_elim (λ (l : s < r). apart s r E F l)
          (λ (l : r ≤ s).
          apart r s F E
          (⊎_elim (λ q. absurd (ne q))
          (λ n. ⊎_elim (λ z. z) (λ (z : s ≤ r). absurd (ne (let q : s ≡ r = omega arith in q))) (lt_or_le r s)) (eq_or_ne s r)))
          (lt_or_le s r)

  module _ (ok : Routed B t st) where
    some : 0 < switches B
    some = let n : 1 ≤ tiles B = mul-le-mul ok.size.h_some ok.size.w_some in omega arith

    rising : (x y : ℕ) → x < y → y < switches B * ports B → Precedes (contention_row B t st x) (contention_row B t st y)
    unfolding contention_row switch_row
    rising x y l m =
        ⊎_elim (λ (h : x / switches B < y / switches B). here h)
        (λ (h : y / switches B ≤ x / switches B).
        let c = div-add-mod x (switches B) in let d = div-add-mod y (switches B) in
        let e : x / switches B ≡ y / switches B =
        ⊎_elim
        (λ (z : y / switches B < x / switches B).
        absurd (let p = parted_lt (switches B) (y / switches B) (y % switches B) (x / switches B) z (mod-lt y some) in omega arith))
        (λ (z : x / switches B ≤ y / switches B). let q : x / switches B ≡ y / switches B = omega arith in q) (lt_or_le (y / switches B) (x / switches B)) in
        let f : x % switches B < y % switches B = omega (arith, ap (λ (z : ℕ). switches B * z) e) in
        precedes_later e (switches_rise (x % switches B) (y % switches B) f))
        (lt_or_le (x / switches B) (y / switches B))

    only : (x : ℕ) → x < switches B * ports B → contention_at B t st x ≡ true → ContentionRow B t st (contention_row B t st x)
    unfolding contention_at contends contention_row switch_row
    only x l e =
        let w = x / switches B in
        let s = x % switches B in
        contender (x / switches B) (x % switches B)
        ((contended_exact w).0 (and_left (contended B t st w) (ends_on B t st w s) e))
        (ends_of B t st w s (mod-lt x some) (and_right (contended B t st w) (ends_on B t st w s) e))

    every : (row : List ℕ) → ContentionRow B t st row → (x : ℕ) × (x < switches B * ports B) × (contention_at B t st x ≡ true) × (contention_row B t st x ≡ row)
    unfolding contention_at contends contention_row switch_row
    every row (contender w s C E) =
        let q = parted_quotient (switches B) w s E.within in
        let r = parted_rest (switches B) w s E.within in
        let lw : w < ports B = subst (λ (x : ℕ). x < ports B) E.onto (target_lt B t st ok s E.within E.on) in (
          switches B * w + s,
          parted_lt (switches B) w s (ports B) lw E.within,
          rw (q, r) (and_true ((contended_exact w).1 C) (ends_on_true B t st w s E)),
          rw (q, r),
        )

    contentions_enumerated : Enumerates (ContentionRow B t st) row_length (contention_at B t st) (contention_row B t st) (switches B * ports B)
    unfolding contention_row
    contentions_enumerated = record { long = λ x l. switch_row_length _ _; rising = rising; only = only; every = every }

    pub contentions_listed : (m : ℕ) → row_length * contention_count B t st ≤ m
        → Lists (ContentionRow B t st) row_length (zero_filled m (contentions B t st)) (contention_count B t st)
    contentions_listed m fits =
        rows_listed (ContentionRow B t st) row_length (contention_at B t st) (contention_row B t st) (switches B * ports B) contentions_enumerated m fits

    -- a list that is long enough keeps its length
    pub contentions_length : (m : ℕ) → row_length * contention_count B t st ≤ m → length (zero_filled m (contentions B t st)) ≡ m
    contentions_length m fits =
        let e : length (contentions B t st) ≡ row_length * contention_count B t st =
        rows_length_lem (contention_at B t st) (contention_row B t st) row_length (switches B * ports B) contentions_enumerated.long in
        filled_length m (contentions B t st) (omega (arith, e))

    -- no row exactly if there is no contention
    pub empty_exact : (contention_count B t st ≡ 0) ↔ NoContention B t st
    empty_exact = (there, back)
      where
        L : Lists (ContentionRow B t st) row_length (zero_filled (row_length * contention_count B t st) (contentions B t st)) (contention_count B t st)
        L = contentions_listed (row_length * contention_count B t st) (omega arith)

        there : contention_count B t st ≡ 0 → NoContention B t st
        there e w C = let (s, r, E, F, ne) = C in (listed_empty L).0 e (w ∷ tile_of s ∷ group_in s ∷ []) (contender w s C E)

        none : NoContention B t st → (row : List ℕ) → ContentionRow B t st row → ⊥
        none N row (contender w s C E) = N w C

        back : NoContention B t st → contention_count B t st ≡ 0
        back N = (listed_empty L).1 (none N)
