-- The rows wire by wire. Main laws: `wire-few-..`, `wire-many-..`: a wire with fewer than two switches, and with more; `count_next`, `store_next`: a turn of
-- the loops over the wires. Assumes nothing.
use Prim.Native.Nat.{ℕ, ◌+◌, ◌*◌, ◌<◌, ◌≤◌}
use mathlib.Core.Path.{◌≡◌, refl, sym, ap, ap₂, subst, ◌∙◌}
use mathlib.Core.Bool.{Bool, false, ◌&&◌}
use mathlib.Core.Logic.{⊎_elim}
use mathlib.Core.List.{List}
use native.Mathlib.Omega.{arith}
use native.Mathlib.Nat.{mul-zero, mul-le-mul}
use borrow.Author.Tests.{lt-ltb, le-ltb}
use lib.Dec.{ltb}
use lib.ListN.{length}
use lib.Seq.{sets}
use Rattle.lists.specs.Search.{count_below}
use Rattle.lists.specs.Tables.{zeros}
use Rattle.lists.proofs.CaseLaws.{and_false_left, lt_or_le}
use Rattle.lists.proofs.CountLaws.{count_ext, count_none, count_le}
use Rattle.lists.specs.Listing.{rows_where, zero_filled}
use Rattle.lists.proofs.RowLaws.{rows_ext, rows_length_lem, rows_none, count_more, count_none_yet, next_part}
use Rattle.lists.proofs.ListingLaws.{filled_stored}
use Rattle.lists.proofs.Storing.{StoredRows, stored_start, stored_part, stored_part_room}
use Rattle.ports.specs.declared.size.Block.{Block}
use Rattle.ports.specs.Block.{Sized}
use Rattle.ports.specs.Lengths.{ports}
use Rattle.equations.specs.Switches.{switches}
use Rattle.equations.specs.WireRows.{ends_on}
use Rattle.contention.specs.Contentions.{row_length, switch_row, contended, contends, contention_at, contention_row, contention_count, contentions}
use Rattle.contention.specs.Chains.{up_to_two, on_from}
use Rattle.contention.proofs.ContentionLaws.{parted_quotient, parted_rest, switch_row_length}
use Rattle.contention.proofs.Walking.{up_few, up_many, on_all}
use Rattle.contention.proofs.LengthLaws.{switches_few, ports_few}

module _ (B : Block) (t st : List ℕ) (w : ℕ) where
  -- ---- one wire, from its first two switches

  module _ (n : ℕ) (e : n ≡ up_to_two (on_from B t st w 0)) where
    abbrev on : ℕ
    on = count_below (ends_on B t st w) (switches B)

    is : n ≡ up_to_two on
    is = e ∙ ap up_to_two (on_all B t st w)

    few : n < 2 → on < 2
    few l = ⊎_elim (λ z. z) (λ (z : 2 ≤ on). absurd (let q : 2 ≡ n = up_many on z ∙ sym is in omega arith)) (lt_or_le on 2)

    many : 2 ≤ n → 2 ≤ on
    many l = ⊎_elim (λ (z : on < 2). let q : on ≡ n = up_few on z ∙ sym is in omega arith) (λ z. z) (lt_or_le on 2)

    none : n < 2 → (s : ℕ) → s < switches B → contends B t st w s ≡ false
    unfolding contends contended
    none l s h =
        and_false_left (ltb 1 (count_below (ends_on B t st w) (switches B))) (ends_on B t st w s)
        (le-ltb 1 (count_below (ends_on B t st w) (switches B)) (let z : count_below (ends_on B t st w) (switches B) ≤ 1 = (let f = few l in omega arith) in z))

    every : 2 ≤ n → (s : ℕ) → s < switches B → ends_on B t st w s ≡ contends B t st w s
    unfolding contends contended
    every l s h =
        sym (ap (λ (b : Bool). b && ends_on B t st w s)
        (lt-ltb 1 (count_below (ends_on B t st w) (switches B)) (many l)))

    pub wire_few_count : n < 2 → 0 ≡ count_below (contends B t st w) (switches B)
    wire_few_count l = sym (count_none (contends B t st w) (switches B) (none l))

    pub wire_many_count : 2 ≤ n → count_below (ends_on B t st w) (switches B) ≡ count_below (contends B t st w) (switches B)
    wire_many_count l = count_ext (ends_on B t st w) (contends B t st w) (switches B) (every l)

    module _ (list : List ℕ) (from : ℕ) where
      pub wire_few_rows : n < 2 → list ≡ sets list from (rows_where (contends B t st w) (switch_row w) (switches B))
      wire_few_rows l = sym (ap (sets list from) (rows_none (contends B t st w) (switch_row w) (switches B) (none l)))

      pub wire_many_rows : 2 ≤ n → (next : List ℕ) → next ≡ sets list from (rows_where (ends_on B t st w) (switch_row w) (switches B))
          → next ≡ sets list from (rows_where (contends B t st w) (switch_row w) (switches B))
      wire_many_rows l next q =
          q ∙ ap (sets list from) (rows_ext (ends_on B t st w) (contends B t st w) (switch_row w) (switch_row w) (switches B) (every l) (λ i h. refl))

  -- ---- one wire more: its switches are a part of all pairs of a wire and a switch

  same : (s : ℕ) → s < switches B → contention_at B t st (switches B * w + s) ≡ contends B t st w s
  unfolding contention_at
  same s h = ap₂ (contends B t st) (parted_quotient (switches B) w s h) (parted_rest (switches B) w s h)

  also : (s : ℕ) → s < switches B → contention_row B t st (switches B * w + s) ≡ switch_row w s
  unfolding contention_row
  also s h = ap₂ switch_row (parted_quotient (switches B) w s h) (parted_rest (switches B) w s h)

  pub count_next : (c d : ℕ) → c ≡ count_below (contention_at B t st) (switches B * w) → d ≡ count_below (contends B t st w) (switches B)
      → c + d ≡ count_below (contention_at B t st) (switches B * (w + 1))
  count_next c d inv e =
      count_more (contention_at B t st) (switches B * w) (switches B) (contends B t st w) same c d inv e
      ∙ ap (count_below (contention_at B t st)) (next_part (switches B) w)

  -- the count is small
  count_bound : Sized B → w ≤ ports B → count_below (contention_at B t st) (switches B * w) ≤ 1061158912
  count_bound S h =
      let p = ports_few B S in
      let a = mul-le-mul (switches_few B S) (let z : w ≤ 32384 = omega arith in z) in
      omega (arith, count_le (contention_at B t st) (switches B * w))

module _ (B : Block) (t st : List ℕ) where
  row_length_lem : (x : ℕ) → length (contention_row B t st x) ≡ row_length
  unfolding contention_row
  row_length_lem x = switch_row_length _ _

  pub count_start : 0 ≡ count_below (contention_at B t st) (switches B * 0)
  count_start = count_none_yet (contention_at B t st) ∙ ap (count_below (contention_at B t st)) (sym (mul-zero (switches B)))

  -- all of them are few
  pub rows_few : (rows : ℕ) → Sized B → rows ≡ contention_count B t st → rows ≤ 1061158912
  rows_few rows S e = let a = count_bound B t st (ports B) S (omega arith) in omega arith

  -- ---- the loop that stores them

  -- the rows of the wires below w stand in the list, and `at` is where they end
  abbrev pub StoredTo : (old : List ℕ) (w at : ℕ) (list : List ℕ) → Type 0
  StoredTo old w at list = StoredRows (contention_at B t st) (contention_row B t st) row_length 0 old (switches B * w) at list

  pub store_start : (list : List ℕ) → StoredTo list 0 0 list
  store_start list =
      subst (λ (x : ℕ). StoredRows (contention_at B t st) (contention_row B t st) row_length 0 list x 0 list) (sym (mul-zero (switches B)))
      (stored_start (contention_at B t st) (contention_row B t st) row_length 0 list)

  module _ (w : ℕ) {old list : List ℕ} {at : ℕ} (S : StoredTo old w at list) where
    pub store_next : (next : List ℕ) (then : ℕ) → next ≡ sets list at (rows_where (contends B t st w) (switch_row w) (switches B))
        → then ≡ at + row_length * count_below (contends B t st w) (switches B) → StoredTo old (w + 1) then next
    store_next next then e f =
        stored_part (switches B) w S (contends B t st w) (switch_row w) (same B t st w) row_length_lem (also B t st w) next then e f

    -- where all have room, those of the next wire have
    pub store_room : w < ports B → row_length * contention_count B t st ≤ length old
        → at + row_length * count_below (contends B t st w) (switches B) ≤ length list
    store_room l fits = stored_part_room (switches B) w S (contends B t st w) (switch_row w) (same B t st w) (ports B) l (omega arith)

  -- all of them, in a cleared list
  pub store_end : (w n : ℕ) (old list : List ℕ) (at : ℕ) → StoredTo old w at list → w ≡ ports B → old ≡ zeros n
      → row_length * contention_count B t st ≤ n → list ≡ zero_filled n (contentions B t st)
  store_end w n old list at S e z fits =
      S.stored ∙ ap₂ (λ (x : List ℕ) (y : ℕ). sets x 0 (rows_where (contention_at B t st) (contention_row B t st) (switches B * y))) z e
      ∙ filled_stored n (contentions B t st)
      (omega (arith, rows_length_lem (contention_at B t st) (contention_row B t st) row_length (switches B * ports B) (λ i h. row_length_lem i)))
