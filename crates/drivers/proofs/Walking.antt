-- A walk from source to source that marks where it was. Main law: `traced_walked`, what the walk answers and which marks it leaves; `walk_whole`.
use Prim.Native.Nat.{ℕ, zero, suc, ◌-◌, ◌<◌}
use mathlib.Core.Path.{◌≡◌, refl, sym, ◌∙◌, ap}
use mathlib.Core.Bool.{Bool, true, false, cond}
use mathlib.Core.Logic.{◌⊎◌, inl, inr, ⊎_elim, ◌≢◌}
use mathlib.Core.List.{List}
use native.Mathlib.Omega.{arith}
use lib.Dec.{eqb}
use lib.ListN.{length, get_or, set, length-set}
use borrow.Author.Tests.{eq-eqb, ne_eqb}
use Rattle.lists.specs.Tables.{zeros}
use Rattle.lists.proofs.CaseLaws.{cases, clash, eq_or_ne}
use Rattle.lists.proofs.TableLaws.{zeros_length}
use Rattle.netlist.specs.Marks.{listed, unmarked}
use Rattle.netlist.proofs.MarkLaws.{listed_set_same, listed_set_other, listed_set_kept, unlisted_zero, zeros_unlisted, unmarked_set, unmarked_zeros}
use Rattle.drivers.specs.declared.follow.Trace.{Trace}
use Rattle.drivers.specs.declared.follow.Trace.TheVariants.{End, Again}
use Rattle.drivers.specs.Following.{Bounded, traced, traced_marks}
use Rattle.drivers.proofs.WalkLaws.{Goes, step, further, Gets, source_one, gets_on}

module _ (s : List ℕ) where
  -- what a walk from w answers, and what is marked where it comes again to a place
  abbrev pub Walked : ℕ → List ℕ → Trace → Type 0
  Walked w marks (End u) = Gets s w u × (get_or s u 0 ≡ 0) × (u < length s)
  Walked w marks (Again u) =
      Gets s w u × Goes s u u × ((v : ℕ) → listed marks v ≡ true → Gets s w v) × ((v : ℕ) → Gets s w v → listed marks v ≡ true) × (u < length s)

  -- the walk has come from `start` to u
  pub record Walking (start : ℕ) (marks : List ℕ) (u : ℕ) : Type 0 where
    pub long : length marks ≡ length s
    pub within : u < length s
    pub came : Gets s start u
    pub past : (v : ℕ) → listed marks v ≡ true → Goes s v u
    pub seen : (v : ℕ) → listed marks v ≡ true → Gets s start v
    pub closed : (v d : ℕ) → listed marks v ≡ true → get_or s v 0 ≡ suc d → (listed marks d ≡ true) ⊎ (d ≡ u)
    pub started : (listed marks start ≡ true) ⊎ (start ≡ u)

  pub walking_start : (start : ℕ) → start < length s → Walking start (zeros (length s)) start
  walking_start start l = record {
    long = zeros_length (length s);
    within = l;
    came = inl refl;
    past = λ v h. clash h (zeros_unlisted (length s) v);
    seen = λ v h. clash h (zeros_unlisted (length s) v);
    closed = λ v d h. clash h (zeros_unlisted (length s) v);
    started = inr refl;
  }

  module _ (start : ℕ) (marks : List ℕ) (u : ℕ) (h : Walking start marks u) where
    pub walking_step : (d : ℕ) → get_or s u 0 ≡ suc d → d < length s → Walking start (set marks u 1) d
    walking_step d e l =
        let lu : u < length marks = let a = h.long in let b = h.within in omega arith in
        record {
          long = length-set marks u 1 ∙ h.long;
          within = l;
          came = inr (gets_on s h.came e);
          past = λ v k.
              ⊎_elim (λ (q : v ≡ u). step (ap (λ (x : ℕ). get_or s x 0) q ∙ e)) (λ ne. further (h.past v (sym (listed_set_other marks u v ne) ∙ k)) e)
              (eq_or_ne v u);
          seen = λ v k. ⊎_elim (λ (q : v ≡ u). rw q h.came) (λ ne. h.seen v (sym (listed_set_other marks u v ne) ∙ k)) (eq_or_ne v u);
          closed = λ v x k f.
              ⊎_elim (λ (q : v ≡ u). inr (source_one s v f (ap (λ (y : ℕ). get_or s y 0) q ∙ e)))
              (λ ne. inl (keep x lu (h.closed v x (sym (listed_set_other marks u v ne) ∙ k) f))) (eq_or_ne v u);
          started = inl (keep start lu h.started);
        }
      where
        keep : (x : ℕ) → u < length marks → (listed marks x ≡ true) ⊎ (x ≡ u) → listed (set marks u 1) x ≡ true
        keep x lu (inl m) = listed_set_kept marks u x lu m
        keep x lu (inr q) = rw q (listed_set_same marks u lu)

    pub walked_end : get_or s u 0 ≡ 0 → Walked start marks (End u)
    walked_end z = (h.came, z, h.within)

    pub walked_again : listed marks u ≡ true → Walked start marks (Again u)
    walked_again on = (h.came, h.past u on, h.seen, (λ v g. ⊎_elim (λ (q : start ≡ v). rw (← q) begun) (λ g. reached g) g), h.within)
      where
        begun : listed marks start ≡ true
        begun = ⊎_elim (λ m. m) (λ (q : start ≡ u). rw q on) h.started

        shut : (v d : ℕ) → listed marks v ≡ true → get_or s v 0 ≡ suc d → listed marks d ≡ true
        shut v d m f = ⊎_elim (λ k. k) (λ (q : d ≡ u). rw q on) (h.closed v d m f)

        reached : {v : ℕ} → Goes s start v → listed marks v ≡ true
        reached (step e) = shut start _ begun e
        reached (further g e) = shut _ _ (reached g) e

    pub walking_less : listed marks u ≡ false → suc (unmarked (set marks u 1)) ≡ unmarked marks
    walking_less z = unmarked_set marks u (let a = h.long in let b = h.within in omega arith) (unlisted_zero marks u z)

  -- one turn of `traced`
  module _ (k : ℕ) (marks : List ℕ) (u : ℕ) where
    pub traced_end : get_or s u 0 ≡ 0 → (traced s (suc k) marks u ≡ End u) × (traced_marks s (suc k) marks u ≡ marks)
    unfolding traced traced_marks
    traced_end z = (rw (eq-eqb (get_or s u 0) 0 z), rw (eq-eqb (get_or s u 0) 0 z))

    pub traced_again : get_or s u 0 ≢ 0 → listed marks u ≡ true → (traced s (suc k) marks u ≡ Again u) × (traced_marks s (suc k) marks u ≡ marks)
    unfolding traced traced_marks
    traced_again nz on = (rw (ne_eqb (get_or s u 0) 0 nz, on), rw (ne_eqb (get_or s u 0) 0 nz, on))

    pub traced_on : get_or s u 0 ≢ 0 → listed marks u ≡ false
        → (traced s (suc k) marks u ≡ traced s k (set marks u 1) (get_or s u 0 - 1)) × (traced_marks s (suc k) marks u ≡ traced_marks s k (set marks u 1) (get_or s u 0 - 1))
    unfolding traced traced_marks
    traced_on nz off = (rw (ne_eqb (get_or s u 0) 0 nz, off), rw (ne_eqb (get_or s u 0) 0 nz, off))

  pub traced_marks_length : (k : ℕ) (marks : List ℕ) (u : ℕ) → length (traced_marks s k marks u) ≡ length marks
  unfolding traced_marks
  traced_marks_length zero marks u = refl
  traced_marks_length (suc k) marks u =
      go (eqb (get_or s u 0) 0) (listed marks u) _ (traced_marks_length k (set marks u 1) (get_or s u 0 - 1) ∙ length-set marks u 1)
    where
      go : (a b : Bool) (x : List ℕ) → length x ≡ length marks → length (cond a marks (cond b marks x)) ≡ length marks
      go true b x e = refl
      go false true x e = refl
      go false false x e = e

  -- the walk does not run out of turns: each marks a place that was not marked
  module _ (fits : Bounded s) where
    pub traced_walked : (k start : ℕ) (marks : List ℕ) (u : ℕ) → Walking start marks u → unmarked marks < k
        → Walked start (traced_marks s k marks u) (traced s k marks u)
    traced_walked zero start marks u h l = absurd (omega arith)
    traced_walked (suc k) start marks u h l =
        ⊎_elim
        (λ (z : get_or s u 0 ≡ 0). let e = traced_end k marks u z in rw e.0 (walked_end start marks u h z))
        (λ (nz : get_or s u 0 ≢ 0).
        ⊎_elim
        (λ on. let e = traced_again k marks u nz on in rw (e.1, e.0) (walked_again start marks u h on))
        (λ off.
        let e = traced_on k marks u nz off in
        let d : get_or s u 0 ≡ suc (get_or s u 0 - 1) = omega arith in
        rw (e.1, e.0)
        (traced_walked k start (set marks u 1) (get_or s u 0 - 1) (walking_step start marks u h (get_or s u 0 - 1) d (let f = fits u in omega arith))
        (let q = walking_less start marks u h off in omega arith)))
        (cases (listed marks u)))
        (eq_or_ne (get_or s u 0) 0)

    -- a whole walk from w
    pub walk_whole : (w : ℕ) → w < length s
        → Walked w (traced_marks s (suc (length s)) (zeros (length s)) w) (traced s (suc (length s)) (zeros (length s)) w)
    walk_whole w l = traced_walked (suc (length s)) w (zeros (length s)) w (walking_start w l) (let q = unmarked_zeros (length s) in omega arith)
