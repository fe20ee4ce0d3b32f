-- The loop that lists the wires: what holds each time that it looks for the next.
use mathlib.Core.Path.{◌≡◌, refl, sym, ap, subst, ◌∙◌}
use mathlib.Core.Bool.{true, false}
use mathlib.Core.Logic.{◌⊎◌, inl, inr, ⊎_elim, ◌≢◌}
use mathlib.Core.List.{List, [], ◌∷◌, ◌++◌, append_assoc, append-nil}
use Prim.Native.Nat.{ℕ, ◌+◌, ◌<◌, ◌≤◌}
use native.Mathlib.Numerals.{add-one}
use native.Mathlib.Omega.{arith}
use borrow.Author.Tests.{le-ltb}
use lib.Dec.{eqb}
use lib.ListN.{length, get_or, set, take, drop, length-set, take-append-drop}
use lib.Seq.{take-suc-set, drop-set-lt, drop-drop, length-take-le}
use Rattle.lists.specs.Tables.{zeros}
use Rattle.lists.proofs.CaseLaws.{clash, or_is, or_left, or_right}
use Rattle.lists.proofs.TableLaws.{zeros_length}
use Rattle.netlist.specs.Graph.{Graph}
use Rattle.netlist.specs.Marks.{marks_after, unmarked, only_listed, max_wires}
use Rattle.netlist.specs.Order.{next, order_from, order, order_marks}
use Rattle.bitset.specs.Bitset.{has}
use Rattle.scheduling.specs.Waiting.{Among, Chain}
use Rattle.scheduling.specs.Due.{is_due, is_due_with, Resting, Found, Asleep, Woken}
use Rattle.scheduling.specs.declared.order.Due.{Due}
use Rattle.netlist.proofs.MarkLaws.{unmarked_zeros, only_listed_true, only_listed_list, only_listed_zeros}
use Rattle.netlist.proofs.ReadyLaws.{ready_unlisted, next_le, next_ready, next_unmarked, order_from_step, order_from_end}
use Rattle.scheduling.proofs.WatchLaws.{watched_start, watched_list}
use Rattle.scheduling.proofs.DueLaws.{due_asleep, due_lt, due_other, due_here}

module _ (g : Graph) (n : ℕ) where
  -- what is still to be listed, from the marks on
  pub rest : List ℕ → List ℕ
  rest m = order_from g n (unmarked m) m

  rest_step : (m : List ℕ) → length m ≡ n → next g n m < n → rest m ≡ next g n m ∷ rest (set m (next g n m) 1)
  unfolding rest
  rest_step m e l = rw (← next_unmarked g n m e l) (order_from_step g n m _ l)

  rest_end : (m : List ℕ) → n ≤ next g n m → rest m ≡ []
  unfolding rest
  rest_end m h = order_from_end g n m _ h

  rest_start : rest (zeros n) ≡ order g n
  unfolding rest order
  rest_start = rw (unmarked_zeros n)

  -- count wires are written to out, which was out₀, and marked
  pub record Listing (out₀ marks out : List ℕ) (count : ℕ) : Type 0 where
    pub long : length marks ≡ n
    pub room : length out ≡ length out₀
    pub left : count + unmarked marks ≡ n
    pub done : take count out ++ rest marks ≡ order g n
    pub kept : drop count out ≡ drop count out₀
    pub ends : marks_after marks (rest marks) ≡ order_marks g n

  pub listing_start : (out : List ℕ) → Listing out (zeros n) out 0
  unfolding order_marks
  listing_start out = record {
    long = zeros_length n;
    room = refl;
    left = omega (arith, unmarked_zeros n);
    done = rest_start;
    kept = refl;
    ends = ap (λ (l : List ℕ). marks_after (zeros n) l) rest_start;
  }

  step : (out₀ m out : List ℕ) (count : ℕ) → n ≤ length out₀ → Listing out₀ m out count → next g n m < n
      → Listing out₀ (set m (next g n m) 1) (set out count (next g n m)) (count + 1)
  step out₀ m out count fits h l =
      let w = next g n m in
      let f = next_unmarked g n m h.long l in
      let lt : count < length out = omega arith in
      record {
        long = length-set m w 1 ∙ h.long;
        room = length-set out count w ∙ h.room;
        left = omega arith;
        done =
            rw (add-one, take-suc-set out count w lt)
            (append_assoc (take count out) (w ∷ []) (rest (set m w 1)) ∙ ap (λ (t : List ℕ). take count out ++ t) (sym (rest_step m h.long l)) ∙ h.done);
        kept = drop-set-lt (count + 1) out count w (omega arith) ∙ sym (drop-drop 1 count out) ∙ ap (λ (t : List ℕ). drop 1 t) h.kept ∙ drop-drop 1 count out₀;
        ends = ap (λ (t : List ℕ). marks_after m t) (sym (rest_step m h.long l)) ∙ h.ends;
      }

  -- the same of marks that also say who waits
  pub record Going (out₀ m links : List ℕ) (due : Due) (out : List ℕ) (count : ℕ) : Type 0 where
    pub listing : Listing out₀ (only_listed m) out count
    pub resting : Resting g n m links due

  pub going_start : (out links woken : List ℕ) → length links ≡ n → ((k : ℕ) → has woken k ≡ false)
      → Going out (zeros n) links (record { woken = woken; from = 0 }) out 0
  going_start out links woken e none = record {
    listing = rw (only_listed_zeros n) (listing_start out);
    resting = record {
      watched = watched_start g n links (is_due (record { woken = woken; from = 0 })) e (λ k l. or_right (has woken k) _ (rw (le-ltb k 0 (omega arith))));
      early = record { upto = omega arith; early = λ k t. clash t (none k) };
    };
  }

  -- a search gave wire w, or n, and left marks m of m₁, links and who is due
  module _ (out₀ m₁ links₁ : List ℕ) (due₁ : Due) (out : List ℕ) (count : ℕ) (h : Going out₀ m₁ links₁ due₁ out count)
      (m links : List ℕ) (due : Due) (w : ℕ) (found : Found g n m₁ m links due w) where
    is_next : w ≡ next g n (only_listed m)
    is_next = found.is_next ∙ ap (next g n) (sym found.kept)

    same : Listing out₀ (only_listed m) out count
    same = rw found.kept h.listing

    going_lt : w ≢ n → w < n
    going_lt ne = let b = next_le g n (only_listed m) in let q = is_next in omega arith

    lt_next : w ≢ n → next g n (only_listed m) < n
    lt_next ne = rw (← is_next) (going_lt ne)

    -- w is a wire, and there is room for it
    pub going_within : w ≢ n → (w < n) × ((length m ≡ n) × ((count < n) × (length out ≡ length out₀)))
    going_within ne =
        let s = same in
        (going_lt ne, (found.watched.long, (omega (arith, next_unmarked g n (only_listed m) s.long (lt_next ne)), s.room)))

    going_new : w ≢ n → get_or m w 0 ≢ 1
    going_new ne e = clash (only_listed_true m w e) (rw is_next (ready_unlisted g (only_listed m) _ (next_ready g n (only_listed m) (lt_next ne))))

    -- a wire that waits was looked at and is not woken
    waiting : (k : ℕ) → is_due_with due w k ≡ false → is_due due k ≡ false
    waiting k f = sym (due_other due w k (λ q. clash (due_here due w k q) f)) ∙ f

    -- those that wait for w are asleep
    pub going_asleep : w ≢ n → n ≤ max_wires → Asleep links (get_or m w 0) due.woken
    going_asleep ne few =
        let own = found.watched.chains w (going_lt ne) (going_new ne) in
        let e = found.watched.linked in
        record {
          few = omega arith;
          members = own.0;
          chain = own.1.0;
          asleep = λ k a. let f = own.1.1 k a in (let lk = f.0 in omega arith, due_asleep due k (waiting k f.1.0));
        }

    -- w is listed, and those that waited for it are woken
    module _ (ne : w ≢ n) (fits : n ≤ length out₀) (woken' : List ℕ) (wake : Woken links (get_or m w 0) due.woken woken') where
      abbrev due' : Due
      due' = record { woken = woken'; from = due.from }

      more : (k : ℕ) → k < n → k ≢ w → is_due_with due w k ≡ true → is_due due' k ≡ true
      more k lk other t =
          ⊎_elim (λ a. or_left _ _ (wake.kept k a)) (λ b. or_right (has woken' k) _ b) (or_is (has due.woken k) _ (sym (due_other due w k other) ∙ t))

      only : (ks : List ℕ) → Chain links (get_or m w 0) ks → (k : ℕ) → k < n → is_due due' k ≡ true
          → (is_due_with due w k ≡ true) ⊎ Among k ks
      only ks c k lk t =
          ⊎_elim (λ a. ⊎_elim (λ b. inl (or_right (eqb k w) _ (or_left (has due.woken k) _ b))) inr (wake.only ks c k a))
          (λ b. inl (or_right (eqb k w) _ (or_right (has due.woken k) _ b))) (or_is (has woken' k) _ t)

      early : (k : ℕ) → has woken' k ≡ true → k < due.from
      early k t =
          let own = found.watched.chains w (going_lt ne) (going_new ne) in
          ⊎_elim (λ a. found.early.early k a) (λ a. due_lt due k (waiting k (own.1.1 k a).1.0)) (wake.only own.0 own.1.0 k t)

      pub going_step : Going out₀ (set m w 1) links due' (set out count w) (count + 1)
      going_step = record {
        listing =
            rw (only_listed_list m w)
            (subst (λ (x : ℕ). Listing out₀ (set (only_listed m) x 1) (set out count x) (count + 1)) (sym is_next)
            (step out₀ (only_listed m) out count fits same (lt_next ne)));
        resting = record {
          watched =
              watched_list g n m links (is_due_with due w) found.watched (is_due due') w (going_lt ne) (going_new ne) more
              (λ ks c k a. or_left _ _ (wake.all ks c k a)) only;
          early = record { upto = found.early.upto; early = early };
        };
      }

    pub going_end : n ≤ length out₀ → n ≤ w → (count ≡ length (order g n)) × ((out ≡ order g n ++ drop count out₀) × (only_listed m ≡ order_marks g n))
    going_end fits q =
        let p = only_listed m in
        let stop : n ≤ next g n p = let r = is_next in omega arith in
        let room = same.room in
        let left = same.left in
        let is : take count out ≡ order g n = sym (append-nil (take count out)) ∙ ap (λ (t : List ℕ). take count out ++ t) (sym (rest_end p stop)) ∙ same.done in (
          sym (length-take-le count out (omega arith)) ∙ ap length is,
          (sym (take-append-drop count out) ∙ rw (is, same.kept), ap (λ (t : List ℕ). marks_after p t) (sym (rest_end p stop)) ∙ same.ends),
        )
