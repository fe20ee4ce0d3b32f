-- The chains with the count of their rows, one switch more. Main laws: `rows_hit`: what a switch adds, `rows_all`: the rows of all are the contentions;
-- `tallied-..`: the same of the chains; as the code has them: `tallied_cleared`, `tallied_tile`, `group_skipped`, `group_tallied`. Assumes nothing.
use Prim.Native.Nat.{ℕ, zero, suc, ◌+◌, ◌-◌, ◌*◌, ◌<◌, ◌≤◌}
use mathlib.Core.Path.{◌≡◌, refl, sym, ap, ap₂, subst, ◌∙◌}
use mathlib.Core.Bool.{true, false}
use mathlib.Core.Logic.{⊎_elim, ◌≢◌}
use mathlib.Core.List.{List}
use native.Mathlib.Omega.{arith}
use native.Mathlib.Nat.{eq-or-lt_of_le, le_of_suc-le-suc}
use native.Mathlib.Numerals.{add-one}
use borrow.Author.Tests.{lt-ltb, le-ltb}
use lib.ListN.{length, get_or, set}
use Rattle.lists.specs.Search.{count_below}
use Rattle.lists.specs.Tables.{zeros}
use Rattle.lists.proofs.CaseLaws.{lt_or_le}
use Rattle.ports.specs.declared.size.Block.{Block}
use Rattle.ports.specs.Block.{Sized, tiles, port_of}
use Rattle.ports.specs.Lengths.{ports, max_groups}
use Rattle.ports.proofs.BlockLaws.{tiles_le}
use Rattle.fabric.specs.Wire.{wire_of}
use Rattle.routing.specs.LogicTile.{logic_tile}
use Rattle.routing.specs.Table.{group_count, destination_of}
use Rattle.equations.specs.Tiles.{group_of}
use Rattle.equations.specs.Switches.{switches, enabled, target}
use Rattle.equations.specs.Routed.{Routed}
use Rattle.drivers.proofs.SwitchTurns.{switch_past, switch_off, switch_on, switch_target, switch_target_port, switch_target_lt}
use Rattle.contention.specs.Contentions.{contends, contention_at, contention_count}
use Rattle.contention.specs.Chains.{Chained, Tallied, up_to_two, rows_of, on_from, rows_below}
use Rattle.contention.proofs.Chaining.{off, elsewhere, onto, chained_start, chained_skip, chained_hit}
use Rattle.contention.proofs.LengthLaws.{switches_few, ports_few}
use Rattle.contention.proofs.Walking.{up_few, up_many, on_skip, on_hit, on_end, on_le, on_all}
use Rattle.contention.proofs.WireLaws.{wire_few_count, wire_many_count, count_start, count_next}

-- ---- the rows of a wire with n switches

of_few : (n : ℕ) → n < 2 → rows_of n ≡ 0
unfolding rows_of
of_few n l = rw (le-ltb 1 n (let z : n ≤ 1 = omega arith in z))

of_many : (n : ℕ) → 2 ≤ n → rows_of n ≡ n
unfolding rows_of
of_many n l = rw (lt-ltb 1 n l)

of_le : (n : ℕ) → rows_of n ≤ n
of_le n = ⊎_elim (λ (l : n < 2). let e = of_few n l in omega arith) (λ (l : 2 ≤ n). let e = of_many n l in omega arith) (lt_or_le n 2)

-- one switch more: a first one brings no row, a second one two, any other one
pub added_none : (n : ℕ) → n ≡ 0 → rows_of (suc n) ≡ rows_of n + 0
added_none n e = let a = of_few n (omega arith) in let b = of_few (suc n) (omega arith) in omega arith

pub added_two : (n : ℕ) → n ≡ 1 → rows_of (suc n) ≡ rows_of n + 2
added_two n e = let a = of_few n (omega arith) in let b = of_many (suc n) (omega arith) in omega arith

pub added_more : (n : ℕ) → 2 ≤ n → rows_of (suc n) ≡ rows_of n + 1
added_more n l = let a = of_many n l in let b = of_many (suc n) (omega arith) in omega arith

pub added_few : (n d : ℕ) → rows_of (suc n) ≡ rows_of n + d → d ≤ 2
added_few n d e =
    ⊎_elim (λ (l : n < 2). let b = of_le (suc n) in omega arith) (λ (l : 2 ≤ n). let b = added_more n l in omega arith) (lt_or_le n 2)

-- two of them tell what one more brings
added_up : (n d : ℕ) → rows_of (suc (up_to_two n)) ≡ rows_of (up_to_two n) + d → rows_of (suc n) ≡ rows_of n + d
added_up n d e =
    ⊎_elim (λ (l : n < 2). subst (λ (x : ℕ). rows_of (suc x) ≡ rows_of x + d) (sym (up_few n l)) e)
    (λ (l : 2 ≤ n).
    let f : rows_of 3 ≡ rows_of 2 + d = subst (λ (x : ℕ). rows_of (suc x) ≡ rows_of x + d) (sym (up_many n l)) e in
    let g : rows_of 3 ≡ rows_of 2 + 1 = added_more 2 (omega arith) in
    let h = added_more n l in
    omega arith)
    (lt_or_le n 2)

module _ (B : Block) (t st : List ℕ) where
  -- ---- the rows of the wires below v

  -- as many switches on each wire, and d rows more on wire w
  rows_same : (i j v : ℕ) → ((w : ℕ) → w < v → on_from B t st w i ≡ on_from B t st w j) → rows_below B t st i v ≡ rows_below B t st j v
  unfolding rows_below
  rows_same i j zero h = refl
  rows_same i j (suc v) h = ap₂ ◌+◌ (rows_same i j v (λ w l. h w (omega arith))) (ap rows_of (h v (omega arith)))

  rows_one : (i j v w d : ℕ) → w < v → rows_of (on_from B t st w i) ≡ rows_of (on_from B t st w j) + d
      → ((x : ℕ) → x ≢ w → on_from B t st x i ≡ on_from B t st x j) → rows_below B t st i v ≡ rows_below B t st j v + d
  unfolding rows_below
  rows_one i j zero w d l e h = absurd (omega arith)
  rows_one i j (suc v) w d l e h =
      ⊎_elim
      (λ (q : w ≡ v).
      let a = rows_same i j v (λ x lx. h x (λ f. absurd (omega arith))) in
      let b : rows_of (on_from B t st v i) ≡ rows_of (on_from B t st v j) + d =
      subst (λ (x : ℕ). rows_of (on_from B t st x i) ≡ rows_of (on_from B t st x j) + d) q e in
      omega arith)
      (λ (lt : w < v).
      let a = rows_one i j v w d lt e h in
      let b = ap rows_of (h v (λ f. absurd (omega arith))) in
      omega arith)
      (eq-or-lt_of_le (le_of_suc-le-suc l))

  rows_none : (v : ℕ) → rows_below B t st (switches B) v ≡ 0
  unfolding rows_below
  rows_none zero = refl
  rows_none (suc v) =
      let a = rows_none v in
      let b : rows_of (on_from B t st v (switches B)) ≡ 0 = ap rows_of (on_end B t st v) ∙ of_few 0 (omega arith) in
      omega arith

  rows_skip : (m v : ℕ) → enabled B t st m ≡ false → rows_below B t st m v ≡ rows_below B t st (suc m) v
  rows_skip m v e = rows_same m (suc m) v (λ w l. on_skip B t st w m (off B t st w m e))

  pub rows_hit : (m v d : ℕ) → m < switches B → enabled B t st m ≡ true → target B t m < v
      → rows_of (suc (on_from B t st (target B t m) (suc m))) ≡ rows_of (on_from B t st (target B t m) (suc m)) + d
      → rows_below B t st m v ≡ rows_below B t st (suc m) v + d
  rows_hit m v d l e inside f =
      rows_one m (suc m) v (target B t m) d inside
      (ap rows_of (on_hit B t st (target B t m) m l (onto B t st m e) ∙ add-one (on_from B t st (target B t m) (suc m))) ∙ f)
      (λ x n. on_skip B t st x m (elsewhere B t st x m (λ z. n (sym z))))

  -- the rows of a wire are its contentions
  wire_rows_lem : (w : ℕ) → rows_of (on_from B t st w 0) ≡ count_below (contends B t st w) (switches B)
  wire_rows_lem w =
      ⊎_elim
      (λ (l : on_from B t st w 0 < 2).
      of_few (on_from B t st w 0) l ∙ wire_few_count B t st w (on_from B t st w 0) (up_few (on_from B t st w 0) l) l)
      (λ (l : 2 ≤ on_from B t st w 0).
      of_many (on_from B t st w 0) l ∙ on_all B t st w ∙ wire_many_count B t st w 2 (up_many (on_from B t st w 0) l) (omega arith))
      (lt_or_le (on_from B t st w 0) 2)

  rows_upto : (v : ℕ) → rows_below B t st 0 v ≡ count_below (contention_at B t st) (switches B * v)
  unfolding rows_below
  rows_upto zero = count_start B t st
  rows_upto (suc v) =
      count_next B t st v _ _ (rows_upto v) (wire_rows_lem v) ∙ ap (λ (x : ℕ). count_below (contention_at B t st) (switches B * x)) (add-one v)

  pub rows_all : (m : ℕ) (heads nexts : List ℕ) (rows : ℕ) → Tallied B t st m heads nexts rows → m ≡ 0 → rows ≡ contention_count B t st
  rows_all m heads nexts rows C e = C.counted ∙ ap (λ (x : ℕ). rows_below B t st x (ports B)) e ∙ rows_upto (ports B)

  -- the rows are few
  rows_le : (m v : ℕ) → Sized B → rows_below B t st m v ≤ 32768 * v
  unfolding rows_below
  rows_le m zero S = omega arith
  rows_le m (suc v) S =
      let a = rows_le m v S in
      let b = of_le (on_from B t st v m) in
      omega (arith, on_le B t st v m, switches_few B S)

  pub tallied_few : (m : ℕ) (heads nexts : List ℕ) (rows : ℕ) → Tallied B t st m heads nexts rows → Sized B → rows ≤ 1061158912
  tallied_few m heads nexts rows C S = let a = rows_le m (ports B) S in omega (arith, C.counted, ports_few B S)

  -- ---- the chains with the count

  module _ (m : ℕ) (heads nexts : List ℕ) (rows : ℕ) (C : Tallied B t st (suc m) heads nexts rows) where
    tallied_skip : enabled B t st m ≡ false → Tallied B t st m heads nexts rows
    tallied_skip e = record { chained = chained_skip B t st m heads nexts C.chained e; counted = C.counted ∙ sym (rows_skip m (ports B) e) }

    tallied_hit : enabled B t st m ≡ true → target B t m < ports B → (n d : ℕ) → n ≡ up_to_two (on_from B t st (target B t m) (suc m))
        → rows_of (suc n) ≡ rows_of n + d → Tallied B t st m (set heads (target B t m) (suc m)) (set nexts m (get_or heads (target B t m) 0)) (rows + d)
    tallied_hit e inside n d q f = record {
      chained = chained_hit B t st m heads nexts C.chained e inside;
      counted =
          ap (λ (x : ℕ). x + d) C.counted
          ∙ sym (rows_hit m (ports B) d C.chained.upto e inside
          (added_up (on_from B t st (target B t m) (suc m)) d (subst (λ (x : ℕ). rows_of (suc x) ≡ rows_of x + d) q f)));
    }

  -- switches of which none is enabled
  tallied_idle : (k m : ℕ) (heads nexts : List ℕ) (rows : ℕ) → Tallied B t st (m + k) heads nexts rows
      → ((s : ℕ) → m ≤ s → s < m + k → enabled B t st s ≡ false) → Tallied B t st m heads nexts rows
  tallied_idle zero m heads nexts rows C none = subst (λ (x : ℕ). Tallied B t st x heads nexts rows) (let e : m + 0 ≡ m = omega arith in e) C
  tallied_idle (suc k) m heads nexts rows C none =
      tallied_idle k m heads nexts rows
      (tallied_skip (m + k) heads nexts rows
      (subst (λ (x : ℕ). Tallied B t st x heads nexts rows) (let e : m + suc k ≡ suc (m + k) = omega arith in e) C) (none (m + k) (omega arith) (omega arith)))
      (λ s l h. none s l (omega arith))

  -- ---- the same as the code has it

  -- a cleared map of heads
  pub tallied_cleared : (k : ℕ) (heads nexts : List ℕ) → heads ≡ zeros k → k ≡ ports B → length nexts ≡ switches B
      → Tallied B t st (switches B) heads nexts 0
  tallied_cleared k heads nexts e q l = record {
    chained = subst (λ (x : List ℕ). Chained B t st (switches B) x nexts) (sym (e ∙ ap zeros q)) (chained_start B t st nexts l);
    counted = sym (rows_none (ports B));
  }

  module _ (m k : ℕ) (heads nexts : List ℕ) (rows : ℕ) (C : Tallied B t st k heads nexts rows) (next : k ≡ suc m) where
    tallied_off : enabled B t st m ≡ false → Tallied B t st m heads nexts rows
    tallied_off e = tallied_skip m heads nexts rows (subst (λ (x : ℕ). Tallied B t st x heads nexts rows) next C) e

    tallied_store : enabled B t st m ≡ true → (w v n d : ℕ) → w ≡ target B t m → w < ports B → v ≡ suc m → n ≡ up_to_two (on_from B t st w (suc m))
        → rows_of (suc n) ≡ rows_of n + d → Tallied B t st m (set heads w v) (set nexts m (get_or heads w 0)) (rows + d)
    tallied_store e w v n d p l q f g =
        rw (q, p)
        (tallied_hit m heads nexts rows (subst (λ (x : ℕ). Tallied B t st x heads nexts rows) next C) e
        (let z : target B t m < ports B = omega arith in z) n d (f ∙ ap (λ (x : ℕ). up_to_two (on_from B t st x (suc m))) p) g)

  -- the groups of a tile that the table does not have are not enabled
  pub tallied_tile : (T g : ℕ) (heads nexts : List ℕ) (rows : ℕ) → group_count logic_tile t ≤ max_groups → g ≡ group_count logic_tile t
      → Tallied B t st (max_groups * (T + 1)) heads nexts rows → Tallied B t st (max_groups * T + g) heads nexts rows
  tallied_tile T g heads nexts rows few e C =
      tallied_idle (max_groups - g) (max_groups * T + g) heads nexts rows
      (subst (λ (x : ℕ). Tallied B t st x heads nexts rows) (let q : max_groups * (T + 1) ≡ max_groups * T + g + (max_groups - g) = omega arith in q) C)
      (λ s l h.
      subst (λ (x : ℕ). enabled B t st x ≡ false) (let q : max_groups * T + (s - max_groups * T) ≡ s = omega arith in q)
      (switch_past T (s - max_groups * T) (omega arith) B t st (omega arith)))

-- ---- the switch of group g of tile T, as the code meets it

module _ (B : Block) (t st : List ℕ) (ok : Routed B t st) (T g : ℕ) (lT : T < tiles B) (lc : g < group_count logic_tile t) where
  group_lt : g < max_groups
  group_lt = let f = ok.few_groups in omega arith

  pub switch_few : max_groups * T + g < 32768
  switch_few = let f = tiles_le B ok.size in let l = group_lt in omega arith

  number_next : max_groups * T + (g + 1) ≡ suc (max_groups * T + g)
  number_next = omega arith

  module _ (heads nexts : List ℕ) (rows : ℕ) (C : Tallied B t st (max_groups * T + (g + 1)) heads nexts rows) where
    -- the chains before it
    pub group_before : Chained B t st (max_groups * T + g + 1) heads nexts
    group_before = subst (λ (x : ℕ). Chained B t st x heads nexts) (let q : max_groups * T + (g + 1) ≡ max_groups * T + g + 1 = omega arith in q) C.chained

    -- a group that is off
    pub group_skipped : group_of st T g ≡ 0 → Tallied B t st (max_groups * T + g) heads nexts rows
    group_skipped off =
        tallied_off B t st (max_groups * T + g) (max_groups * T + (g + 1)) heads nexts rows C number_next (switch_off T g group_lt B t st lc off)

  -- one that is not: port q is its destination, w the wire of q
  module _ (on : group_of st T g ≢ 0) where
    is_on : enabled B t st (max_groups * T + g) ≡ true
    is_on = switch_on T g group_lt B t st lc on

    pub ends_port : (q : ℕ) → q ≡ destination_of logic_tile t g → port_of T q < ports B
    ends_port q e = subst (λ (x : ℕ). port_of T x < ports B) (sym e) (switch_target_port T g group_lt B t st ok lT is_on)

    module _ (w q : ℕ) (e : w ≡ wire_of B (port_of T q)) (d : q ≡ destination_of logic_tile t g) where
      ends_is : w ≡ target B t (max_groups * T + g)
      ends_is = e ∙ ap (λ (x : ℕ). wire_of B (port_of T x)) d ∙ switch_target T g group_lt B t

      pub ends_lt : w < ports B
      ends_lt = subst (λ (x : ℕ). x < ports B) (sym ends_is) (switch_target_lt T g group_lt B t st ok lT is_on)

      -- n tells the switches before it, a is the rows that it brings
      pub group_tallied : (heads nexts : List ℕ) (rows : ℕ) → Tallied B t st (max_groups * T + (g + 1)) heads nexts rows
          → (v n a : ℕ) → v ≡ max_groups * T + g + 1 → n ≡ up_to_two (on_from B t st w (max_groups * T + g + 1)) → rows_of (suc n) ≡ rows_of n + a
          → Tallied B t st (max_groups * T + g) (set heads w v) (set nexts (max_groups * T + g) (get_or heads w 0)) (rows + a)
      group_tallied heads nexts rows C v n a f i j =
          tallied_store B t st (max_groups * T + g) (max_groups * T + (g + 1)) heads nexts rows C number_next is_on w v n a ends_is ends_lt
          (f ∙ add-one (max_groups * T + g)) (i ∙ ap (λ (x : ℕ). up_to_two (on_from B t st w x)) (add-one (max_groups * T + g))) j
