-- One switch more in the chains, from the last one down. Main laws: `chained_start`, `chained_hit`, `chained_skip`. Assumes nothing.
use Prim.Native.Nat.{ℕ, suc, ◌<◌, ◌≤◌}
use mathlib.Core.Path.{◌≡◌, refl, sym, ap, subst, ◌∙◌}
use mathlib.Core.Bool.{true, false, cond}
use mathlib.Core.Logic.{⊎_elim, ◌≢◌}
use mathlib.Core.List.{List}
use native.Mathlib.Omega.{arith}
use native.Mathlib.Numerals.{add-one}
use borrow.Author.Tests.{eq-eqb, ne_eqb, lt-ltb, le-ltb}
use lib.Dec.{eqb, ltb}
use lib.ListN.{length, get_or, set, length-set}
use lib.Seq.{get_or-set_same, get_or-set_other}
use Rattle.lists.specs.Tables.{zeros}
use Rattle.lists.proofs.CaseLaws.{and_true, and_false_left, and_false_right, eq_or_ne, clash}
use Rattle.lists.proofs.SearchLaws.{first_hit, first_skip, first_end}
use Rattle.lists.proofs.TableLaws.{zeros_length, zeros_at}
use Rattle.ports.specs.declared.size.Block.{Block}
use Rattle.ports.specs.Lengths.{ports}
use Rattle.equations.specs.Switches.{switches, enabled, target}
use Rattle.equations.specs.WireRows.{ends_on}
use Rattle.contention.specs.Chains.{next_on, link_from, Chained}

-- what is at or past m, and not m, is past it
past_it : (m s : ℕ) → m ≤ s → (m ≡ s → ⊥) → suc m ≤ s
past_it m s l n = ⊎_elim (λ (a : m ≡ s). absurd (n a)) (λ d. omega arith) (eq_or_ne m s)

module _ (B : Block) (t st : List ℕ) where
  -- ---- links: a switch that ends on w, one that does not, and the end

  link_hit : (w m : ℕ) → m < switches B → ends_on B t st w m ≡ true → link_from B t st w m ≡ suc m
  link_hit w m l e = rw (first_hit (ends_on B t st w) m (switches B) l e, lt-ltb m (switches B) l)

  link_skip : (w m : ℕ) → m < switches B → ends_on B t st w m ≡ false → link_from B t st w m ≡ link_from B t st w (suc m)
  link_skip w m l e =
      ap (λ (x : ℕ). cond {A = ℕ} (ltb x (switches B)) (suc x) 0)
      (first_skip (ends_on B t st w) m (switches B) l e ∙ ap (next_on B t st w) (add-one m))

  link_end : (w : ℕ) → link_from B t st w (switches B) ≡ 0
  link_end w =
      let e : next_on B t st w (switches B) ≡ switches B = first_end (ends_on B t st w) (switches B) (switches B) (omega arith) in
      rw (e, le-ltb (switches B) (switches B) (omega arith))

  pub off : (w m : ℕ) → enabled B t st m ≡ false → ends_on B t st w m ≡ false
  unfolding ends_on
  off w m e = and_false_left (enabled B t st m) (eqb (target B t m) w) e

  pub elsewhere : (w m : ℕ) → target B t m ≢ w → ends_on B t st w m ≡ false
  unfolding ends_on
  elsewhere w m n = and_false_right (enabled B t st m) (eqb (target B t m) w) (ne_eqb (target B t m) w n)

  pub onto : (m : ℕ) → enabled B t st m ≡ true → ends_on B t st (target B t m) m ≡ true
  unfolding ends_on
  onto m e = and_true e (eq-eqb (target B t m) (target B t m) refl)

  -- ---- the chains

  -- no switch yet
  pub chained_start : (nexts : List ℕ) → length nexts ≡ switches B → Chained B t st (switches B) (zeros (ports B)) nexts
  chained_start nexts e = record {
    upto = omega arith;
    heads_long = zeros_length (ports B);
    nexts_long = e;
    head = λ w l. zeros_at (ports B) w ∙ sym (link_end w);
    next = λ s l h g. absurd (omega arith);
  }

  module _ (m : ℕ) (heads nexts : List ℕ) (C : Chained B t st (suc m) heads nexts) where
    pub chained_skip : enabled B t st m ≡ false → Chained B t st m heads nexts
    chained_skip e =
        let u = C.upto in
        record {
          upto = omega arith;
          heads_long = C.heads_long;
          nexts_long = C.nexts_long;
          head = λ w l. C.head w l ∙ sym (link_skip w m (omega arith) (off w m e));
          next = λ s l h g. C.next s (past_it m s l (λ q. clash g (subst (λ (x : ℕ). enabled B t st x ≡ false) q e))) h g;
        }

    pub chained_hit : enabled B t st m ≡ true → target B t m < ports B
        → Chained B t st m (set heads (target B t m) (suc m)) (set nexts m (get_or heads (target B t m) 0))
    chained_hit e inside =
        let u = C.upto in
        let w = target B t m in
        record {
          upto = omega arith;
          heads_long = length-set heads w (suc m) ∙ C.heads_long;
          nexts_long = length-set nexts m (get_or heads w 0) ∙ C.nexts_long;
          head = λ v l.
              ⊎_elim
              (λ (q : target B t m ≡ v).
              subst (λ (x : ℕ). get_or (set heads (target B t m) (suc m)) x 0 ≡ link_from B t st x m) q
              (get_or-set_same heads (target B t m) (suc m) 0 (omega (arith, C.heads_long)) ∙ sym (link_hit (target B t m) m (omega arith) (onto m e))))
              (λ q. get_or-set_other heads (target B t m) v (suc m) 0 (λ z. q (sym z)) ∙ C.head v l ∙ sym (link_skip v m (omega arith) (elsewhere v m q)))
              (eq_or_ne (target B t m) v);
          next = λ s l h g.
              ⊎_elim
              (λ (q : m ≡ s).
              subst (λ (x : ℕ). get_or (set nexts m (get_or heads (target B t m) 0)) x 0 ≡ link_from B t st (target B t x) (suc x)) q
              (get_or-set_same nexts m (get_or heads (target B t m) 0) 0 (omega (arith, C.nexts_long)) ∙ C.head (target B t m) inside))
              (λ q. get_or-set_other nexts m s (get_or heads (target B t m) 0) 0 (λ z. q (sym z)) ∙ C.next s (past_it m s l q) h g)
              (eq_or_ne m s);
        }
