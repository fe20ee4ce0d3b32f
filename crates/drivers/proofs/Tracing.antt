-- The loop that walks from source to source. Invariant: the walk stands at u (`Walking`), and the walk from here on is the whole walk. Laws:
-- `tracing_start`, `-step`, `-end`, `-again`.
use Prim.Native.Nat.{ℕ, suc, ◌-◌, ◌≤◌, ◌<◌}
use mathlib.Core.Path.{◌≡◌, sym, ◌∙◌, ap, subst}
use mathlib.Core.Bool.{true, false}
use mathlib.Core.Logic.{◌⊎◌, inl, inr, ◌≢◌}
use mathlib.Core.List.{List}
use native.Mathlib.Omega.{arith}
use lib.ListN.{length, get_or, set}
use Rattle.lists.specs.Search.{first}
use Rattle.lists.specs.Tables.{zeros}
use Rattle.lists.proofs.SearchLaws.{first_le}
use Rattle.lists.proofs.TableLaws.{zeros_length}
use Rattle.ports.specs.declared.size.Block.{Block}
use Rattle.netlist.specs.Marks.{listed, unmarked}
use Rattle.netlist.proofs.MarkLaws.{unmarked_zeros}
use Rattle.drivers.specs.declared.follow.Trace.{Trace}
use Rattle.drivers.specs.declared.follow.Trace.TheVariants.{End, Again}
use Rattle.drivers.specs.Following.{Bounded, traced, traced_marks, ring_lowest, trace_driver, driver_of}
use Rattle.drivers.proofs.WalkLaws.{Gets, ring_or_end, end_unique}
use Rattle.drivers.proofs.Walking.{Walked, Walking, walking_start, walking_step, walking_less, traced_end, traced_again, traced_on, traced_marks_length, walk_whole}

pub record Tracing (s : List ℕ) (start : ℕ) (marks : List ℕ) (u : ℕ) : Type 0 where
  pub walking : Walking s start marks u
  pub rest : traced s (suc (unmarked marks)) marks u ≡ traced s (suc (length s)) (zeros (length s)) start
  pub rest_marks : traced_marks s (suc (unmarked marks)) marks u ≡ traced_marks s (suc (length s)) (zeros (length s)) start

module _ (s : List ℕ) (start : ℕ) where
  pub tracing_start : start < length s → Tracing s start (zeros (length s)) start
  tracing_start l = record {
    walking = walking_start s start l;
    rest = ap (λ (k : ℕ). traced s (suc k) (zeros (length s)) start) (unmarked_zeros (length s));
    rest_marks = ap (λ (k : ℕ). traced_marks s (suc k) (zeros (length s)) start) (unmarked_zeros (length s));
  }

  module _ (marks : List ℕ) (u : ℕ) (h : Tracing s start marks u) where
    pub tracing_end : get_or s u 0 ≡ 0
        → (End u ≡ traced s (suc (length s)) (zeros (length s)) start) × (marks ≡ traced_marks s (suc (length s)) (zeros (length s)) start)
    tracing_end z = let e = traced_end s (unmarked marks) marks u z in (sym e.0 ∙ h.rest, sym e.1 ∙ h.rest_marks)

    pub tracing_again : get_or s u 0 ≢ 0 → listed marks u ≡ true
        → (Again u ≡ traced s (suc (length s)) (zeros (length s)) start) × (marks ≡ traced_marks s (suc (length s)) (zeros (length s)) start)
    tracing_again nz on = let e = traced_again s (unmarked marks) marks u nz on in (sym e.0 ∙ h.rest, sym e.1 ∙ h.rest_marks)

    pub tracing_step : Bounded s → get_or s u 0 ≢ 0 → listed marks u ≡ false → Tracing s start (set marks u 1) (get_or s u 0 - 1)
    tracing_step fits nz off =
        let e = traced_on s (unmarked marks) marks u nz off in
        let k = walking_less s start marks u h.walking off in
        record {
          walking = walking_step s start marks u h.walking (get_or s u 0 - 1) (omega arith) (let f = fits u in omega arith);
          rest = ap (λ (k : ℕ). traced s k (set marks u 1) (get_or s u 0 - 1)) k ∙ sym e.0 ∙ h.rest;
          rest_marks = ap (λ (k : ℕ). traced_marks s k (set marks u 1) (get_or s u 0 - 1)) k ∙ sym e.1 ∙ h.rest_marks;
        }

    pub tracing_less : listed marks u ≡ false → unmarked (set marks u 1) < unmarked marks
    tracing_less off = let k = walking_less s start marks u h.walking off in omega arith

-- ---- what the walk's answer gives

module _ (s : List ℕ) (w : ℕ) where
  -- it ends, or comes again, at a place of the map
  pub trace_lt : Bounded s → w < length s → (r : Trace) → r ≡ traced s (suc (length s)) (zeros (length s)) w → (u : ℕ) → (r ≡ End u) ⊎ (r ≡ Again u)
      → u < length s
  trace_lt fits l r e u (inl q) = (subst (Walked s w (traced_marks s (suc (length s)) (zeros (length s)) w)) (sym e ∙ q) (walk_whole s fits w l)).2
  trace_lt fits l r e u (inr q) = (subst (Walked s w (traced_marks s (suc (length s)) (zeros (length s)) w)) (sym e ∙ q) (walk_whole s fits w l)).4

  pub driver_trace : (B : Block) (r : Trace) → r ≡ traced s (suc (length s)) (zeros (length s)) w → trace_driver B s r ≡ driver_of B s w
  unfolding driver_of
  driver_trace B r e = ap (trace_driver B s) e

  pub ring_lowest_le : (u : ℕ) → ring_lowest s u ≤ length s
  ring_lowest_le u = omega (arith, first_le (listed (traced_marks s (suc (length s)) (zeros (length s)) u)) 0 (length s))

  -- the lowest mark that a walk leaves
  pub ring_lowest_marks : (u : ℕ) (x : List ℕ) → x ≡ traced_marks s (suc (length s)) (zeros (length s)) u → first (listed x) 0 (length x) ≡ ring_lowest s u
  ring_lowest_marks u x e =
      ap (λ (x : List ℕ). first (listed x) 0 (length x)) e
      ∙ ap (first (listed (traced_marks s (suc (length s)) (zeros (length s)) u)) 0)
      (traced_marks_length s (suc (length s)) (zeros (length s)) u ∙ zeros_length (length s))

  -- a wire with no source that the walk gets to is its end
  pub end_traced : Bounded s → w < length s → (u : ℕ) → Gets s w u → get_or s u 0 ≡ 0 → traced s (suc (length s)) (zeros (length s)) w ≡ End u
  end_traced fits l u g z = go (traced s (suc (length s)) (zeros (length s)) w) (walk_whole s fits w l)
    where
      go : (r : Trace) → Walked s w (traced_marks s (suc (length s)) (zeros (length s)) w) r → r ≡ End u
      go (End x) h = ap End (end_unique s h.0 h.1 g z)
      go (Again x) h = absurd (ring_or_end s h.0 h.1 g z)
