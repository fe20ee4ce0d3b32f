-- The steps that rank wires stay in the work room (`Descending`), and each leaves less to do (`steps_left`).
use mathlib.Core.Path.{◌≡◌}
use mathlib.Core.Logic.{⊎_elim, ◌≢◌}
use mathlib.Core.List.{List}
use Prim.Native.Nat.{ℕ, ◌+◌, ◌-◌, ◌<◌, ◌≤◌}
use native.Mathlib.Omega.{arith}
use lib.ListN.{length, get_or, set, length-set}
use lib.Seq.{get_or-set_same, get_or-set_other}
use Rattle.lists.proofs.CaseLaws.{eq_or_ne}
use Rattle.netlist.specs.Marks.{unmarked}
use Rattle.loops.specs.Ranks.{Descending, steps_left}
use Rattle.loops.specs.declared.ranking.Descent.{Descent}
use Rattle.netlist.proofs.MarkLaws.{unmarked_mark, unmarked_set_le, unmarked_le}

-- whichever wires are marked at the start
pub descending_start : (m q : List ℕ) (at : Descent) → length m ≤ length q → (at.depth ≡ 0) × ((at.held ≡ 0) × (at.ranks ≡ 0)) → Descending m q at
descending_start m q at room none =
    let u = unmarked_le m in
    let d = none.0 in
    let h = none.1.0 in
    let r = none.1.1 in
    record {
      room = room;
      left = omega arith;
      path_lt = λ i l. absurd (omega arith);
      held_lt = λ i l b. absurd (omega arith);
    }

-- what is below n in the queue stays so where a number below n is put in
put_lt : (q : List ℕ) (n p v i : ℕ) → p < length q → v < n → (i ≢ p → get_or q i 0 < n) → get_or (set q p v) i 0 < n
put_lt q n p v i lp lv old =
    ⊎_elim (λ (e : i ≡ p). let a : get_or (set q p v) i 0 ≡ v = rw e (get_or-set_same q p v 0 lp) in omega arith)
    (λ (ne : i ≢ p). let a = get_or-set_other q p i v 0 ne in let b = old ne in omega arith) (eq_or_ne i p)

module _ (m q : List ℕ) (at : Descent) (h : Descending m q at) where
  -- d, which has no mark, is marked x and put at the end of the path
  module _ (d x : ℕ) (l : d < length m) (z : get_or m d 0 ≡ 0) (p : 0 < x) where
    abbrev entered : Descent
    entered = record { depth = at.depth + 1; held = at.held; ranks = at.ranks }

    less : unmarked (set m d x) + 1 ≡ unmarked m
    less = let u = unmarked_mark m d x l z p in omega arith

    pub descending_room : at.depth + at.held + at.ranks < length m
    descending_room = let u = less in let f = h.left in omega arith

    pub descending_enter : Descending (set m d x) (set q at.depth d) entered × (steps_left (set m d x) entered < steps_left m at)
    descending_enter =
        let e = length-set m d x in
        let s = length-set q at.depth d in
        let u = less in
        let f = h.left in
        let r = h.room in (
          record {
            room = omega arith;
            left = omega arith;
            path_lt = λ i li. rw e (put_lt q (length m) at.depth d i (omega arith) l (λ ne. h.path_lt i (omega arith)));
            held_lt = λ i li b. rw e (put_lt q (length m) at.depth d i (omega arith) l (λ ne. h.held_lt i (omega arith) (omega arith)));
          },
          omega arith,
        )

  -- the last wire of the path, v, is marked x: it is held, or ranked with some of those held
  module _ (v x : ℕ) (l : v < length m) (some : 0 < at.depth) (p : 0 < x) where
    pub descending_hold : Descending (set m v x) (set q (length m - at.held - 1) v) (record { depth = at.depth - 1; held = at.held + 1; ranks = at.ranks })
        × (steps_left (set m v x) (record { depth = at.depth - 1; held = at.held + 1; ranks = at.ranks }) < steps_left m at)
    descending_hold =
        let back = length m - at.held - 1 in
        let e = length-set m v x in
        let s = length-set q back v in
        let u = unmarked_set_le m v x p in
        let f = h.left in
        let r = h.room in (
          record {
            room = omega arith;
            left = omega arith;
            path_lt = λ i li. rw e (put_lt q (length m) back v i (omega arith) l (λ ne. h.path_lt i (omega arith)));
            held_lt = λ i li b. rw e (put_lt q (length m) back v i (omega arith) l (λ ne. h.held_lt i (omega arith) (omega arith)));
          },
          omega arith,
        )

    pub descending_rank : (m₁ : List ℕ) (left : ℕ) → length m₁ ≡ length m → (left ≤ at.held) × (unmarked m₁ ≤ unmarked m)
        → Descending (set m₁ v x) q (record { depth = at.depth - 1; held = left; ranks = at.ranks + 1 })
        × (steps_left (set m₁ v x) (record { depth = at.depth - 1; held = left; ranks = at.ranks + 1 }) < steps_left m at)
    descending_rank m₁ left long less =
        let e = length-set m₁ v x in
        let u = unmarked_set_le m₁ v x p in
        let f = h.left in
        let r = h.room in
        let a = less.0 in
        let b = less.1 in (
          record {
            room = omega arith;
            left = omega arith;
            path_lt = λ i li. let o = h.path_lt i (omega arith) in omega arith;
            held_lt = λ i li c. let o = h.held_lt i (omega arith) (omega arith) in omega arith;
          },
          omega arith,
        )
