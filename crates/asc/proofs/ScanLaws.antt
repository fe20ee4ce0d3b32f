-- The loop over the lines of a text (`Going`), and what it ends with. Main laws: `going_start`, `going_turned`; `going_open`, `going_fault`, `going_missing`,
-- `going_all`.
use Prim.Native.Nat.{ℕ, suc, ◌+◌, ◌*◌, ◌<◌, ◌≤◌}
use mathlib.Core.Path.{◌≡◌, sym, ap, ◌∙◌, subst, subst₂}
use mathlib.Core.Bool.{Bool, true, false, ◌&&◌}
use mathlib.Core.Logic.{◌≢◌}
use mathlib.Core.List.{List, [], ◌++◌}
use native.Mathlib.Omega.{arith}
use native.Mathlib.Numerals.{add-one}
use lib.Dec.{eqb}
use lib.ListN.{length, take, drop, get_or, length-drop, take-append-drop}
use lib.Seq.{take_all, get_or-drop}
use Rattle.lists.specs.Search.{all_from}
use Rattle.lists.specs.Tables.{zeros}
use Rattle.lists.proofs.TableLaws.{zeros_length}
use Rattle.texts.proofs.LineEndLaws.{LineTo, line_from, front_more, line_plain, line_split}
use Rattle.ports.specs.Lengths.{positions}
use Rattle.asc.specs.Area.{Area, tiles_of}
use Rattle.asc.specs.Stages.{stage, Begins, nothing, one_more}
use Rattle.asc.specs.Next.{goes, next_of, is_whole, stage_of, turned_to}
use Rattle.std.specs.Prelude.{Option, Some, None}
use Rattle.asc.specs.declared.turn.Scan.{Scan}
use Rattle.asc.specs.Meaning.{StuckSays, AllSays}
use Rattle.asc.proofs.AreaLaws.{Sized}
use Rattle.asc.proofs.TurnLaws.{next_turn}
use Rattle.asc.proofs.RoomLaws.{Fits, turn_fits}
use Rattle.asc.proofs.StuckLaws.{all_come, stuck_missing, stuck_open, stuck_line}

pub record Going (a : Area) (s g c : List ℕ) (sc : Scan) (at n : ℕ) : Type 0 where
  pub text_fits : length s ≤ 18446744073709551615
  pub upto : at ≤ length s
  pub few : n ≤ at
  pub begins : Begins a (take at s) n (stage_of sc g c)
  pub fits : Fits a sc.left sc.place g c

pub going_start : (a : Area) (s g c : List ℕ) → length s ≤ 18446744073709551615 → g ≡ zeros (tiles_of a) → c ≡ zeros (positions * tiles_of a)
    → Going a s g c (record { device = false; skipping = false; left = 0; place = 0 }) 0 0
going_start a s g c fit e f = record {
  text_fits = fit;
  upto = omega arith;
  few = omega arith;
  begins = subst₂ (λ (g c : List ℕ). Begins a [] 0 (stage false false 0 0 g c)) (sym e) (sym f) nothing;
  fits = record { given_long = ap length e ∙ zeros_length (tiles_of a); content_long = ap length f ∙ zeros_length (positions * tiles_of a); place_fits = omega arith };
}

module _ (a : Area) (s g c : List ℕ) (sc : Scan) (at n : ℕ) (go : Going a s g c sc at n) where
  pub going_turn : (end : ℕ) → LineTo s at end → (g' c' : List ℕ) (next : Scan) → next_of a (stage_of sc g c) (line_from s at end) ≡ goes (stage_of next g' c')
      → Going a s g' c' next (end + 1) (n + 1)
  going_turn end l g' c' next e =
      let t = next_turn a (stage_of sc g c) (line_from s at end) (stage_of next g' c') e in
      let f = l.from in
      let h = l.to in
      let few = go.few in
      record {
        text_fits = go.text_fits;
        upto = omega arith;
        few = omega arith;
        begins = rw (add-one n) (subst (λ (x : List ℕ). Begins a x (suc n) (stage_of next g' c')) (sym (front_more s at end l)) (one_more go.begins (line_plain s at end l) t));
        fits = turn_fits a t go.fits;
      }

  -- the same, as the code has it
  pub going_turned : (end : ℕ) → LineTo s at end → (r : Option Scan) (g' c' : List ℕ) (next : Scan) → next_of a (stage_of sc g c) (line_from s at end) ≡ turned_to r g' c' → r ≡ Some next
      → Going a s g' c' next (end + 1) (n + 1)
  going_turned end l r g' c' next e q = going_turn end l g' c' next (e ∙ ap (λ (r : Option Scan). turned_to r g' c') q)

  split_here : s ≡ take at s ++ drop at s
  split_here = sym (take-append-drop at s)

  -- the last line has no line feed
  pub going_open : at < length s → ((k : ℕ) → at ≤ k → k < length s → get_or s k 0 ≢ 10) → StuckSays a s n
  going_open l none =
      stuck_open a s (take at s) n (stage_of sc g c) go.begins (drop at s) split_here
      (λ k b e. none (at + k) (omega arith) (omega (arith, length-drop at s)) (sym (get_or-drop at s k 0) ∙ e)) (λ e. absurd (omega (arith, length-drop at s)))

  -- a line that is not of the shape due
  pub going_fault : Sized a → (end : ℕ) → LineTo s at end → (r : Option Scan) (g' c' : List ℕ) → next_of a (stage_of sc g c) (line_from s at end) ≡ turned_to r g' c' → r ≡ None
      → StuckSays a s n
  going_fault size end l r g' c' e q =
      stuck_line a s (take at s) n (stage_of sc g c) go.begins size (line_from s at end) (drop (suc end) s)
      (split_here ∙ ap (λ (x : List ℕ). take at s ++ x) (line_split s at end l)) (line_plain s at end l) (e ∙ ap (λ (r : Option Scan). turned_to r g' c') q)

  -- the end of the text, with the test that the code makes
  abbrev pub nothing_missing : Bool
  nothing_missing = sc.device && (eqb sc.left 0 && all_from (λ t. eqb (get_or g t 0) 1) 0 (length g))

  whole_test : is_whole a (stage_of sc g c) ≡ nothing_missing
  unfolding is_whole
  whole_test = ap (λ (m : ℕ). sc.device && (eqb sc.left 0 && all_from (λ t. eqb (get_or g t 0) 1) 0 m)) (sym go.fits.given_long)

  pub going_missing : length s ≤ at → nothing_missing ≡ false → StuckSays a s n
  going_missing l f = stuck_missing a s (take at s) n (stage_of sc g c) go.begins (sym (take_all at s l)) (whole_test ∙ f)

  pub going_all : length s ≤ at → nothing_missing ≡ true → AllSays a s c
  going_all l f = all_come a s (take at s) n (stage_of sc g c) go.begins (sym (take_all at s l)) (whole_test ∙ f)
