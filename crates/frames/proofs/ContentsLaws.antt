-- The numbers of `table_of` by place, and what stands at each place of a group. Main laws: `table_head`, `table_group`, `passive_number`,
-- `position_number`, `pattern_number`, `source_number`; `flat_joined`; `table_long`, `bits_long`.
use Prim.Native.Nat.{ℕ, zero, suc, ◌+◌, ◌-◌, ◌*◌, ◌/◌, ◌%◌, ◌<◌, ◌≤◌}
use mathlib.Core.Path.{◌≡◌, refl, sym, ap, ap₂, ◌∙◌}
use mathlib.Core.Bool.{Bool, true, false, cond}
use mathlib.Core.List.{List, [], ◌∷◌, ◌++◌, append-nil}
use native.Mathlib.Omega.{arith}
use native.Mathlib.Nat.{zero-add}
use borrow.Author.Tests.{lt-ltb, le-ltb, eq-eqb, ne_eqb}
use lib.Dec.{ltb}
use lib.ListN.{length, get_or, drop, length-append, get_or-append}
use lib.Seq.{get_or-append-add, get_or-take, get_or-drop}
use Rattle.lists.specs.Tables.{tabulate, zeros}
use Rattle.lists.specs.Parts.{joined}
use Rattle.lists.proofs.TableLaws.{tabulate_length, tabulate_zero, zeros_length}
use Rattle.lists.proofs.PartLaws.{joined_length, part_joined}
use Rattle.ports.specs.Lengths.{tile_bytes, table_length}
use Rattle.texts.specs.Each.{each}
use Rattle.texts.specs.Hex.{pair_at, quad_at}
use Rattle.frames.specs.Lines.{passive_count, position_count, entry_count}
use Rattle.frames.specs.Input.{group_at, group_count, tile_at}
use Rattle.frames.specs.Contents.{head_number, entry_number, group_number, group_numbers, table_of, bytes_of_tile, bits_of}
use Rattle.texts.proofs.EachLaws.{each_append, tabulate_last}
use Rattle.frames.proofs.BoundLaws.{group_count_le}

-- ---- where each number stands

module _ (s : List ℕ) where
  head_length : length (tabulate (head_number s) 0 69) ≡ 69
  head_length = tabulate_length (head_number s) 0 69

  pub table_head : (k : ℕ) → k < 69 → get_or (table_of s) k 0 ≡ head_number s k
  unfolding table_of
  table_head k l =
      get_or-append (tabulate (head_number s) 0 69) (joined (group_numbers s) 512) 0 k (omega (arith, head_length)) ∙ tabulate_zero (head_number s) 0 69 k l

  numbers_length : (g : ℕ) → length (group_numbers s g) ≡ 75
  numbers_length g = go (ltb g (group_count s))
    where
      go : (b : Bool) → length (cond b (tabulate (group_number s (group_at s g)) 0 75) (zeros 75)) ≡ 75
      go true = tabulate_length (group_number s (group_at s g)) 0 75
      go false = zeros_length 75

  pub table_group : (g k : ℕ) → g < group_count s → k < 75 → get_or (table_of s) (69 + 75 * g + k) 0 ≡ group_number s (group_at s g) k
  unfolding table_of
  table_group g k lg lk =
      let few = group_count_le s in
      let place : 69 + 75 * g + k ≡ length (tabulate (head_number s) 0 69) + (75 * g + k) = omega (arith, head_length) in
      ap (λ (i : ℕ). get_or (tabulate (head_number s) 0 69 ++ joined (group_numbers s) 512) i 0) place
      ∙ get_or-append-add (tabulate (head_number s) 0 69) (joined (group_numbers s) 512) (75 * g + k) 0
      ∙ sym (get_or-drop (75 * g) (joined (group_numbers s) 512) k 0) ∙ sym (get_or-take 75 (drop (75 * g) (joined (group_numbers s) 512)) k 0 lk)
      ∙ ap (λ (l : List ℕ). get_or l k 0) (part_joined 75 (group_numbers s) 512 g (omega arith) (λ j _. numbers_length j))
      ∙ rw (lt-ltb g (group_count s) lg) (tabulate_zero (group_number s (group_at s g)) 0 75 k lk)

  -- as long as building asks
  pub table_long : length (table_of s) ≡ table_length
  unfolding table_of
  table_long =
      length-append (tabulate (head_number s) 0 69) (joined (group_numbers s) 512)
      ∙ ap₂ ◌+◌ head_length (joined_length 75 (group_numbers s) 512 (λ j _. numbers_length j))

  pub bits_long : (n : ℕ) → length (bits_of s n) ≡ tile_bytes * n
  unfolding bits_of
  bits_long n = joined_length tile_bytes (bytes_of_tile s) n (λ j _. tabulate_length (λ (k : ℕ). pair_at s (tile_at s j + 2 + 2 * k)) 0 tile_bytes)

  pub passive_number : (k : ℕ) → k < 64 → k < passive_count s → head_number s (4 + k) ≡ quad_at s (19 + 4 * k)
  unfolding head_number
  passive_number k l lk =
      let e : 4 + k - 4 ≡ k = omega arith in
      rw (le-ltb (4 + k) 3 (omega arith), ne_eqb (4 + k) 3 (λ q. absurd (omega arith)), lt-ltb (4 + k) 68 (omega arith), e, lt-ltb k (passive_count s) lk)

-- ---- a group

module _ (s : List ℕ) (at k : ℕ) where
  pub position_number : k < 8 → k < position_count s at → group_number s at (2 + k) ≡ quad_at s (at + 8 + 4 * k)
  unfolding group_number
  position_number l lk =
      let e : 2 + k - 2 ≡ k = omega arith in
      rw (ne_eqb (2 + k) 0 (λ q. absurd (omega arith)), ne_eqb (2 + k) 1 (λ q. absurd (omega arith)), lt-ltb (2 + k) 10 (omega arith), e, lt-ltb k (position_count s at) lk)

  -- past the entry count
  entry_place : (j : ℕ) → 11 ≤ j → (j - 11) / 2 ≡ k → k < entry_count s at → group_number s at j ≡ entry_number s (at + 10 + 4 * position_count s at) (j - 11)
  unfolding group_number
  entry_place j l e lk =
      rw
      (ne_eqb j 0 (λ q. absurd (omega arith)), ne_eqb j 1 (λ q. absurd (omega arith)), le-ltb j 10 (omega arith), ne_eqb j 10 (λ q. absurd (omega arith)), e, lt-ltb k (entry_count s at) lk)

  pub pattern_number : k < entry_count s at → group_number s at (11 + 2 * k) ≡ pair_at s (at + 10 + 4 * position_count s at + 6 * k)
  unfolding entry_number
  pattern_number l =
      let d : (11 + 2 * k - 11) / 2 ≡ k = omega arith in
      let r : (11 + 2 * k - 11) % 2 ≡ 0 = omega arith in
      entry_place (11 + 2 * k) (omega arith) d l ∙ rw (eq-eqb ((11 + 2 * k - 11) % 2) 0 r, d)

  pub source_number : k < entry_count s at → group_number s at (12 + 2 * k) ≡ quad_at s (at + 10 + 4 * position_count s at + 6 * k + 2)
  unfolding entry_number
  source_number l =
      let d : (12 + 2 * k - 11) / 2 ≡ k = omega arith in
      let r : (12 + 2 * k - 11) % 2 ≡ 1 = omega arith in
      entry_place (12 + 2 * k) (omega arith) d l ∙ rw (ne_eqb ((12 + 2 * k - 11) % 2) 0 (λ q. absurd (omega arith)), d)

-- ---- tiles

-- parts joined, and the same as a list of parts
pub flat_joined : (f : ℕ → List ℕ) (n : ℕ) → joined f n ≡ each (λ t. t) (tabulate f 0 n)
unfolding joined tabulate
flat_joined f zero = refl
flat_joined f (suc n) =
    ap₂ ◌++◌ (flat_joined f n) (ap f (sym (zero-add n)) ∙ sym (append-nil (f (0 + n)))) ∙ sym (each_append (λ t. t) (tabulate f 0 n) (f (0 + n) ∷ []))
    ∙ ap (each (λ t. t)) (sym (tabulate_last f 0 n))
