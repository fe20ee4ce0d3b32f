-- Marks that are put in: what is marked after is what was marked before, and what was put in (`Marked`). Main laws: `marked_one`, `marked_both`,
-- `marked_if`, `marked_as`; `ports_marked`: the ports of a tile; `kept_only`, `kept_all`: marks that pass a test stay. Assumes nothing.
use Prim.Native.Nat.{ℕ, zero, suc, ◌+◌, ◌≤◌, ◌<◌}
use mathlib.Core.Path.{◌≡◌, refl, sym, subst, ◌∙◌}
use mathlib.Core.Bool.{Bool, true, false, cond, not}
use mathlib.Core.Logic.{◌⊎◌, inl, inr, ⊎_elim, ◌≢◌}
use mathlib.Core.List.{List}
use native.Mathlib.Omega.{arith}
use native.Mathlib.Nat.{eq-or-lt_of_le, le_of_suc-le-suc}
use lib.Dec.{eqb}
use lib.ListN.{length, get_or, set, length-set, get_or-eq_default}
use lib.Seq.{get_or-set_same, get_or-set_other, set_out}
use Rattle.lists.proofs.CaseLaws.{clash, eq_or_ne, lt_or_le}
use Rattle.ports.specs.declared.size.Block.{Block}
use Rattle.ports.specs.Block.{tiles, port_of}
use Rattle.ports.specs.Lengths.{ports, ports_per_tile}
use Rattle.ports.proofs.BlockLaws.{port_of_lt}
use Rattle.fabric.specs.Wire.{wire_of}
use Rattle.fabric.proofs.WireLaws.{wire_within}
use Rattle.netlist.specs.Marks.{listed}
use Rattle.netlist.proofs.MarkLaws.{listed_false, listed_set_same, listed_set_other, listed_set_kept}
use Rattle.card.specs.Marks.{mark_ports, kept_at, kept_to}

pub record Marked (P : ℕ → Type 0) (before after : List ℕ) : Type 0 where
  pub long : length after ≡ length before
  pub only : (w : ℕ) → listed after w ≡ true → (listed before w ≡ true) ⊎ P w
  pub kept : (w : ℕ) → listed before w ≡ true → listed after w ≡ true
  pub all : (w : ℕ) → P w → listed after w ≡ true

pub marked_none : {P : ℕ → Type 0} (m : List ℕ) → ((w : ℕ) → P w → ⊥) → Marked P m m
marked_none m none = record { long = refl; only = λ w h. inl h; kept = λ w h. h; all = λ w p. absurd (none w p) }

pub marked_one : (m : List ℕ) (v : ℕ) → v < length m → Marked (λ w. v ≡ w) m (set m v 1)
marked_one m v l = record {
  long = length-set m v 1;
  only = λ w h. ⊎_elim (λ (e : w ≡ v). inr (sym e)) (λ ne. inl (sym (listed_set_other m v w ne) ∙ h)) (eq_or_ne w v);
  kept = λ w h. listed_set_kept m v w l h;
  all = λ w e. subst (λ (x : ℕ). listed (set m v 1) x ≡ true) e (listed_set_same m v l);
}

-- first those of P, then those of Q
pub marked_both : {P Q : ℕ → Type 0} {a b c : List ℕ} → Marked P a b → Marked Q b c → Marked (λ w. P w ⊎ Q w) a c
marked_both M N = record {
  long = N.long ∙ M.long;
  only = λ w h. ⊎_elim (λ k. ⊎_elim inl (λ p. inr (inl p)) (M.only w k)) (λ q. inr (inr q)) (N.only w h);
  kept = λ w h. N.kept w (M.kept w h);
  all = λ w r. ⊎_elim (λ p. N.kept w (M.all w p)) (λ q. N.all w q) r;
}

-- what is marked, said in another way
pub marked_as : {P Q : ℕ → Type 0} {a b : List ℕ} → ((w : ℕ) → P w → Q w) → ((w : ℕ) → Q w → P w) → Marked P a b → Marked Q a b
marked_as there back M = record {
  long = M.long;
  only = λ w h. ⊎_elim inl (λ p. inr (there w p)) (M.only w h);
  kept = M.kept;
  all = λ w q. M.all w (back w q);
}

-- only where a test passes
pub marked_if : {P : ℕ → Type 0} {a b : List ℕ} (test : Bool) → Marked P a b → Marked (λ w. (test ≡ true) × P w) a (cond test b a)
marked_if true M = marked_as (λ w p. (refl, p)) (λ w p. p.1) M
marked_if {P = P} {a = a} false M = marked_none {P = λ w. (false ≡ true) × P w} a (λ w p. clash p.0 refl)

-- ---- the ports of a tile

-- the wire of one of the k ports of tile T from `from` on
abbrev pub PortsOf : Block → (T from k : ℕ) → ℕ → Type 0
PortsOf B T from k w = (i : ℕ) × (i < k) × (wire_of B (port_of T (from + i)) ≡ w)

pub ports_marked : (B : Block) (T from k : ℕ) (m : List ℕ) → T < tiles B → from + k ≤ ports_per_tile → length m ≡ ports B
    → Marked (PortsOf B T from k) m (mark_ports B T from k m)
unfolding mark_ports
ports_marked B T from zero m l h e = marked_none {P = PortsOf B T from zero} m (λ w p. let z = p.1 in absurd (omega arith))
ports_marked B T from (suc k) m l h e =
    let M = ports_marked B T from k m l (omega arith) e in
    let v = wire_of B (port_of T (from + k)) in
    let n = M.long in
    let lv : wire_of B (port_of T (from + k)) < ports B = wire_within B _ (port_of_lt B T (from + k) l (omega arith)) in
    marked_as
    (λ w p.
    ⊎_elim (λ (r : PortsOf B T from k w). let z = r.1 in (r.0, omega arith, r.2)) (λ (q : wire_of B (port_of T (from + k)) ≡ w). (k, omega arith, q)) p)
    (λ w p.
    ⊎_elim (λ (q : p.0 ≡ k). inr (subst (λ (i : ℕ). wire_of B (port_of T (from + i)) ≡ w) q p.2)) (λ (z : p.0 < k). inl (p.0, z, p.2))
    (eq-or-lt_of_le (le_of_suc-le-suc p.1)))
    (marked_both M (marked_one (mark_ports B T from k m) (wire_of B (port_of T (from + k))) (omega arith)))

-- ---- marks that stay

-- a number is a mark
abbrev not_zero : ℕ → Bool
not_zero x = not (eqb x 0)

past : (m : List ℕ) (v : ℕ) → length m ≤ v → get_or m v 0 ≡ 0
past m v l = get_or-eq_default m 0 l

module _ (p : ℕ → Bool) where
  pub kept_at_length : (w : ℕ) (m : List ℕ) → length (kept_at p w m) ≡ length m
  unfolding kept_at
  kept_at_length w m = go (p w)
    where
      go : (b : Bool) → length (cond b m (set m w 0)) ≡ length m
      go true = refl
      go false = length-set m w 0

  pub kept_length : (n : ℕ) (m : List ℕ) → length (kept_to p n m) ≡ length m
  unfolding kept_to
  kept_length zero m = refl
  kept_length (suc n) m = kept_at_length n (kept_to p n m) ∙ kept_length n m

  -- a cleared number has no mark, and no other changes
  cleared_listed : (m : List ℕ) (v w : ℕ) → listed (set m v 0) w ≡ true → (w ≢ v) × (listed m w ≡ true)
  cleared_listed m v w h =
      ⊎_elim
      (λ (e : w ≡ v).
      ⊎_elim (λ (l : v < length m). clash h (listed_false (set m v 0) w (rw e (get_or-set_same m v 0 0 l))))
      (λ (l : length m ≤ v). clash h (listed_false (set m v 0) w (rw (e, set_out m v 0 l) (past m v l)))) (lt_or_le v (length m)))
      (λ ne. (ne, subst (λ (x : ℕ). not_zero x ≡ true) (get_or-set_other m v w 0 0 ne) h)) (eq_or_ne w v)

  pub kept_only : (n : ℕ) (m : List ℕ) (w : ℕ) → listed (kept_to p n m) w ≡ true → (listed m w ≡ true) × (w < n → p w ≡ true)
  unfolding kept_to kept_at
  kept_only zero m w h = (h, λ l. absurd (omega arith))
  kept_only (suc n) m w h = go (p n) refl h (kept_only n m w)
    where
      last : (w < n → p w ≡ true) → (w ≡ n → p w ≡ true) → w < suc n → p w ≡ true
      last lower here l = ⊎_elim here lower (eq-or-lt_of_le (le_of_suc-le-suc l))

      go : (b : Bool) → p n ≡ b → listed (cond b (kept_to p n m) (set (kept_to p n m) n 0)) w ≡ true
          → (listed (kept_to p n m) w ≡ true → (listed m w ≡ true) × (w < n → p w ≡ true)) → (listed m w ≡ true) × (w < suc n → p w ≡ true)
      go true e k lower = let r = lower k in (r.0, last r.1 (λ (q : w ≡ n). rw q e))
      go false e k lower =
          let c = cleared_listed (kept_to p n m) n w k in
          let r = lower c.1 in
          (r.0, last r.1 (λ (q : w ≡ n). absurd (c.0 q)))

  pub kept_all : (n : ℕ) (m : List ℕ) (w : ℕ) → listed m w ≡ true → p w ≡ true → listed (kept_to p n m) w ≡ true
  unfolding kept_to kept_at
  kept_all zero m w h t = h
  kept_all (suc n) m w h t = go (p n) refl (kept_all n m w h t)
    where
      go : (b : Bool) → p n ≡ b → listed (kept_to p n m) w ≡ true → listed (cond b (kept_to p n m) (set (kept_to p n m) n 0)) w ≡ true
      go true e k = k
      go false e k =
          subst (λ (x : ℕ). not_zero x ≡ true)
          (sym (get_or-set_other (kept_to p n m) n w 0 0 (λ (q : w ≡ n). clash t (subst (λ (x : ℕ). p x ≡ false) (sym q) e)))) k
