-- Where the lines of a text stop being in order, or its end comes. Main laws: `all_come`, `stuck_missing`, `stuck_open`, `stuck_line`; `whole_of`, `whole_passes`: the
-- test that nothing is missing.
use Prim.Native.Nat.{ℕ}
use mathlib.Core.Path.{◌≡◌, refl, sym, ap, ◌∙◌, subst}
use mathlib.Core.Bool.{true, false}
use mathlib.Core.Logic.{◌≢◌}
use mathlib.Core.List.{List, [], ◌∷◌, ◌++◌, append-nil}
use native.Mathlib.Omega.{arith}
use borrow.Author.Tests.{eqb-true, eq-eqb}
use lib.Dec.{eqb}
use lib.ListN.{length, get_or, length-append}
use lib.Seq.{get_or_at}
use Rattle.lists.proofs.CaseLaws.{clash, and_left, and_right}
use Rattle.lists.proofs.SearchLaws.{all_at, all_of}
use Rattle.texts.specs.Lines.{Plain}
use Rattle.texts.proofs.PlainLaws.{split_same}
use Rattle.asc.specs.Area.{Area, tiles_of}
use Rattle.asc.specs.Stages.{Stage, stage, Begins, Whole, whole}
use Rattle.asc.specs.Next.{goes, fault, next_of, is_whole}
use Rattle.asc.specs.Meaning.{content_of, StuckSays, AllSays}
use Rattle.asc.proofs.AreaLaws.{Sized}
use Rattle.asc.proofs.NextLaws.{turn_next}

-- ---- the test that nothing is missing

module _ (a : Area) where
  pub whole_of : (st : Stage) → is_whole a st ≡ true → Whole a st
  unfolding is_whole
  whole_of (stage true k l p g c) e =
      let z = eqb-true l 0 (and_left (eqb l 0) _ e) in
      subst (λ (i : ℕ). Whole a (stage true k i p g c)) (sym z)
      (whole (λ t b. eqb-true (get_or g t 0) 1 (all_at (λ t. eqb (get_or g t 0) 1) 0 (tiles_of a) t (and_right (eqb l 0) _ e) (omega arith) (omega arith))))
  whole_of (stage false k l p g c) e = clash e refl

  pub whole_passes : (st : Stage) → Whole a st → is_whole a st ≡ true
  unfolding is_whole
  whole_passes (stage d k l p g c) (whole h) = all_of (λ t. eqb (get_or g t 0) 1) 0 (tiles_of a) (λ t f b. eq-eqb (get_or g t 0) 1 (h t (omega arith)))

-- ---- behind n lines that are in order

module _ (a : Area) (s front : List ℕ) (n : ℕ) (st : Stage) (begins : Begins a front n st) where
  -- the text ends, and nothing is missing
  pub all_come : s ≡ front → is_whole a st ≡ true → AllSays a s (content_of st)
  all_come e w = record {
    n = n;
    st = st;
    begins = subst (λ (f : List ℕ). Begins a f n st) (sym e) begins;
    all_there = whole_of a st w;
    digits_are = refl;
  }

  -- the text ends, and something is missing
  pub stuck_missing : s ≡ front → is_whole a st ≡ false → StuckSays a s n
  stuck_missing e w = record {
    front = front;
    rest = [];
    st = st;
    parts = e ∙ sym (append-nil front);
    begins = begins;
    stuck = record {
      none_due = λ line behind next q p t. let l = ap length q in absurd (omega (arith, length-append line (10 ∷ behind)));
      missing = λ q z. clash (whole_passes a st z) w;
    };
  }

  -- the text ends in a line that is not ended
  pub stuck_open : (line : List ℕ) → s ≡ front ++ line → Plain line → length line ≢ 0 → StuckSays a s n
  stuck_open line e plain some = record {
    front = front;
    rest = line;
    st = st;
    parts = e;
    begins = begins;
    stuck = record {
      none_due = λ l behind next q p t.
          let long = ap length q in
          plain (length l) (omega (arith, length-append l (10 ∷ behind))) (ap (λ (x : List ℕ). get_or x (length l) 0) q ∙ get_or_at l 10 behind 0 (length l) refl);
      missing = λ q z. absurd (some (ap length q));
    };
  }

  -- a line that is not of the shape due
  pub stuck_line : Sized a → (line rest : List ℕ) → s ≡ front ++ (line ++ (10 ∷ rest)) → Plain line → next_of a st line ≡ fault → StuckSays a s n
  stuck_line size line rest e plain f = record {
    front = front;
    rest = line ++ (10 ∷ rest);
    st = st;
    parts = e;
    begins = begins;
    stuck = record {
      none_due = λ l behind next q p t.
          let same = (split_same l line behind rest p plain (sym q)).0 in
          let z : fault ≡ goes next = sym f ∙ ap (next_of a st) (sym same) ∙ turn_next a size t in
          absurd (let y : ◌≡◌ {A = ℕ} 0 1 = cc in omega arith);
      missing = λ q z. let l = ap length q in absurd (omega (arith, length-append line (10 ∷ rest)));
    };
  }
