-- A routing table's groups filled part by part (`Filling` with its start, turns, end and rest), and a table put together of head and groups.
use mathlib.Core.Path.{◌≡◌, refl, sym, ap, ap₂, ◌∙◌}
use mathlib.Core.List.{List, [], ◌++◌, append-nil, append_assoc}
use Prim.Native.Nat.{ℕ, zero, suc, ◌+◌, ◌*◌, ◌-◌, ◌<◌, ◌≤◌}
use native.Mathlib.Omega.{arith}
use borrow.Author.Tests.{lt-ltb, le-ltb}
use borrow.Rule.Slice.PartMut.{put_mid, Post-is}
use lib.ListN.{length, take, drop, length-append, length-drop}
use native.Mathlib.Nat.{add-zero, add-suc}
use Rattle.std.proofs.lemmas.List.{take_rest, drop_all, replicate-append-replicate}
use lib.Seq.{take_at, drop-length}
use Rattle.lists.specs.Tables.{tabulate, zeros}
use Rattle.lists.specs.Parts.{joined}
use Rattle.lists.proofs.TableLaws.{tabulate_length, zeros_length}
use Rattle.lists.proofs.PartLaws.{put_length, joined_step, joined_end}
use Rattle.frames.specs.Lines.{passive_count, group_digits}
use Rattle.frames.specs.Input.{group_at, group_count}
use Rattle.frames.specs.Contents.{group_number, group_numbers}
use Rattle.frames.proofs.BoundLaws.{group_at_le, group_count_le}
use Rattle.frames.proofs.InputLaws.{group_at_next}

-- the first g parts are filled, and while there are groups, group g begins at `at`
pub record Filling (s : List ℕ) (at g : ℕ) (rest : List ℕ) : Type 0 where
  pub upto : g ≤ 512
  pub long : length rest ≡ 75 * 512
  pub done : take (75 * g) rest ≡ joined (group_numbers s) g
  pub here : g ≤ group_count s → at ≡ group_at s g

pub filling_start : (s rest : List ℕ) → length rest ≡ 75 * 512 → Filling s (20 + 4 * passive_count s) 0 rest
unfolding joined group_at
filling_start s rest e = record { upto = omega arith; long = e; done = refl; here = λ l. refl }

-- behind the last group all numbers are 0
joined_none : (s : List ℕ) (g m : ℕ) → group_count s ≤ g → joined (group_numbers s) (g + m) ≡ joined (group_numbers s) g ++ zeros (75 * m)
unfolding joined
joined_none s g zero l = ap (joined (group_numbers s)) (add-zero g) ∙ sym (append-nil (joined (group_numbers s) g))
joined_none s g (suc m) l =
    let none : group_numbers s (g + m) ≡ zeros 75 = rw (le-ltb (g + m) (group_count s) (omega arith)) in
    ap (joined (group_numbers s)) (add-suc g m) ∙ ap₂ ◌++◌ (joined_none s g m l) none
    ∙ append_assoc (joined (group_numbers s) g) (zeros (75 * m)) (zeros 75)
    ∙ ap (λ z. joined (group_numbers s) g ++ z) (replicate-append-replicate (75 * m) 75 0 ∙ ap zeros (let q : 75 * m + 75 ≡ 75 * suc m = omega arith in q))

module _ (s : List ℕ) (at g : ℕ) (rest : List ℕ) (inv : Filling s at g rest) where
  pub filling_at_le : g < group_count s → at ≤ 1312272
  filling_at_le l = omega (arith, inv.here (omega arith), group_at_le s g, inv.upto)

  -- a part is given back as ys
  put : (ys : List ℕ) (next : ℕ) → g < 512 → length ys ≡ 75 → ys ≡ group_numbers s g → (g + 1 ≤ group_count s → next ≡ group_at s (g + 1))
      → Filling s next (g + 1) (put_mid (75 * g) (75 * g + 75 - 75 * g) rest ys)
  put ys next l e is there =
      let long = inv.long in
      record {
        upto = omega arith;
        long = put_length 75 g rest ys (omega arith) e ∙ long;
        done = joined_step 75 (group_numbers s) g rest ys (omega arith) e inv.done is (75 * (g + 1)) (omega arith);
        here = there;
      }

  -- a group's part
  pub filling_group : (ys : List ℕ) → g < group_count s → ys ≡ tabulate (group_number s at) 0 75
      → Filling s (at + (group_digits s at + 1)) (g + 1) (put_mid (75 * g) (75 * g + 75 - 75 * g) rest ys)
  filling_group ys l e =
      let here = inv.here (omega arith) in
      put ys (at + (group_digits s at + 1)) (omega (arith, group_count_le s)) (ap length e ∙ tabulate_length (group_number s at) 0 75)
      (e ∙ ap (λ a. tabulate (group_number s a) 0 75) here ∙ rw (lt-ltb g (group_count s) l))
      (λ m. ap (λ a. a + (group_digits s a + 1)) here ∙ sym (group_at_next s g))

  -- a part behind the last group
  pub filling_none : (ys : List ℕ) → group_count s ≤ g → g < 512 → ys ≡ zeros 75 → Filling s at (g + 1) (put_mid (75 * g) (75 * g + 75 - 75 * g) rest ys)
  filling_none ys l m e =
      put ys at m (ap length e ∙ zeros_length 75) (e ∙ rw (le-ltb g (group_count s) l)) (λ f. absurd (omega arith))

  pub filling_end : 512 ≤ g → rest ≡ joined (group_numbers s) 512
  filling_end l = let up = inv.upto in let long = inv.long in joined_end (group_numbers s) g 512 (75 * g) rest inv.done (omega arith) (omega arith)

  -- the rest behind the last group is cleared
  pub filling_rest : (ys : List ℕ) → g ≡ group_count s → ys ≡ zeros (length (take (length rest - 75 * g) (drop (75 * g) rest)))
      → put_mid (75 * g) (length rest - 75 * g) rest ys ≡ joined (group_numbers s) 512
  filling_rest ys e z =
      let long = inv.long in
      let few = group_count_le s in
      let size : length (take (length rest - 75 * g) (drop (75 * g) rest)) ≡ 75 * (512 - g) = omega (arith, take_rest rest (75 * g), ap length (take_rest rest (75 * g)), length-drop (75 * g) rest) in
      let all : drop (length rest - 75 * g) (drop (75 * g) rest) ≡ [] = drop_all (length rest - 75 * g) (drop (75 * g) rest) (omega (arith, length-drop (75 * g) rest)) in
      ap₂ (λ x y. x ++ (ys ++ y)) inv.done all
      ∙ ap (λ y. joined (group_numbers s) g ++ y) (append-nil ys ∙ z ∙ ap zeros size)
      ∙ sym (joined_none s g (512 - g) (omega arith))
      ∙ ap (joined (group_numbers s)) (let q : g + (512 - g) ≡ 512 = omega arith in q)

-- the part from k on, given back as z
pub put_to_end : (k : ℕ) (x y z : List ℕ) → length x ≡ k → put_mid k (length (x ++ y) - k) (x ++ y) z ≡ x ++ z
put_to_end k x y z e =
    ap₂ (λ a b. a ++ (z ++ b)) (take_at x y k e) (Post-is k (length (x ++ y)) (x ++ y) (omega (arith, length-append x y)) ∙ drop-length (x ++ y))
    ∙ ap (λ b. x ++ b) (append-nil z)
