-- A wire's chain, walked: the switches that end on it, one by one. Main laws: `walk_start`, `-inside`, `-turn`, `-done`; `links-..`: its first
-- two links; `filed-..`: with the switches' rows. Assumes nothing.
use Prim.Native.Nat.{ℕ, zero, suc, ◌+◌, ◌-◌, ◌*◌, ◌<◌, ◌≤◌}
use mathlib.Core.Path.{◌≡◌, refl, sym, ap, ap₂, subst, ◌∙◌}
use mathlib.Core.Bool.{Bool, true, false, cond}
use mathlib.Core.Logic.{⊎_elim, ◌≢◌}
use mathlib.Core.List.{List, [], ◌∷◌}
use native.Mathlib.Omega.{arith}
use native.Mathlib.Numerals.{add-one}
use borrow.Author.Tests.{eqb-true, lt-ltb, le-ltb}
use lib.Dec.{eqb}
use lib.ListN.{length, get_or, set}
use lib.Seq.{sets}
use Rattle.lists.specs.Search.{first, count_below}
use Rattle.lists.proofs.CaseLaws.{and_left, and_right, lt_or_le}
use Rattle.lists.proofs.SearchLaws.{first_true, first_before}
use Rattle.lists.proofs.CountLaws.{count_le}
use Rattle.lists.proofs.RowLaws.{count_mono, count_hit, count_skip, count_gap, count_none_yet}
use Rattle.lists.proofs.Storing.{StoredRows, stored_start, stored_hit, stored_room, stored_gap}
use Rattle.ports.specs.declared.size.Block.{Block}
use Rattle.ports.specs.Lengths.{ports}
use Rattle.equations.specs.Switches.{tile_of, group_in, switches, enabled, target}
use Rattle.equations.specs.WireRows.{ends_on}
use Rattle.contention.specs.Contentions.{row_length, switch_row}
use Rattle.contention.specs.Chains.{next_on, link_from, Chained, up_to_two, on_from}
use Rattle.contention.proofs.ContentionLaws.{switch_row_length}

-- a search ends no earlier than it began
first_later : (p : ℕ → Bool) (i m : ℕ) → i ≤ first p i m
unfolding first
first_later p i zero = omega arith
first_later p i (suc m) = go (p i) (first_later p (suc i) m)
  where
    go : (b : Bool) → suc i ≤ first p (suc i) m → i ≤ cond b i (first p (suc i) m)
    go true h = omega arith
    go false h = omega arith

-- at most two of a few, and of many
pub up_few : (n : ℕ) → n < 2 → n ≡ up_to_two n
unfolding up_to_two
up_few n l = rw (lt-ltb n 2 l)

pub up_many : (n : ℕ) → 2 ≤ n → 2 ≡ up_to_two n
unfolding up_to_two
up_many n l = rw (le-ltb n 2 l)

-- a row as the code stores it
pub three_row : (l : List ℕ) (at a b c : ℕ) → set (set (set l at a) (at + 1) b) (at + 2) c ≡ sets l at (a ∷ b ∷ c ∷ [])
three_row l at a b c =
    let p : at + 1 ≡ suc at = omega arith in
    let q : at + 2 ≡ suc (suc at) = omega arith in
    rw (p, q)

module _ (B : Block) (t st : List ℕ) where
  -- ---- the walk

  -- the link leads to the first switch from `past` on that ends on wire w
  pub record Walk (w past link : ℕ) : Type 0 where
    pub upto : past ≤ switches B
    pub leads : link ≡ link_from B t st w past

  -- where it leads
  pub record Met (w past link : ℕ) : Type 0 where
    pub switch : ℕ
    pub is : link ≡ suc switch
    pub later : past ≤ switch
    pub within : switch < switches B
    pub ends : ends_on B t st w switch ≡ true
    pub none : (k : ℕ) → past ≤ k → k < switch → ends_on B t st w k ≡ false

  walk_start : (w link : ℕ) → link ≡ link_from B t st w 0 → Walk w 0 link
  walk_start w link e = record { upto = omega arith; leads = e }

  module _ (w past link : ℕ) (W : Walk w past link) where
    abbrev reached : ℕ
    reached = next_on B t st w past

    -- a search that finds one, or none
    found : reached < switches B → link ≡ suc reached
    found l = W.leads ∙ ap (λ (b : Bool). cond {A = ℕ} b (suc reached) 0) (lt-ltb reached (switches B) l)

    ended : switches B ≤ reached → link ≡ 0
    ended l = W.leads ∙ ap (λ (b : Bool). cond {A = ℕ} b (suc reached) 0) (le-ltb reached (switches B) l)

    pub walk_met : link ≢ 0 → Met w past link
    walk_met n =
        let l : reached < switches B = ⊎_elim (λ z. z) (λ (z : switches B ≤ reached). absurd (n (ended z))) (lt_or_le reached (switches B)) in
        let u = W.upto in
        record {
          switch = reached;
          is = found l;
          later = first_later (ends_on B t st w) past (switches B - past);
          within = l;
          ends = first_true (ends_on B t st w) past (switches B - past) (let z : reached < past + (switches B - past) = omega arith in z);
          none = λ k a b. first_before (ends_on B t st w) past (switches B - past) k a b;
        }

    pub walk_done : link ≡ 0 → (k : ℕ) → past ≤ k → k < switches B → ends_on B t st w k ≡ false
    walk_done e k a b =
        first_before (ends_on B t st w) past (switches B - past) k a
        (⊎_elim (λ (z : reached < switches B). absurd (let q : suc reached ≡ 0 = sym (found z) ∙ e in omega arith))
        (λ (z : switches B ≤ reached). let y : k < reached = omega arith in y) (lt_or_le reached (switches B)))

    module _ (m : ℕ) (heads nexts : List ℕ) (C : Chained B t st m heads nexts) (from : m ≤ past) (n : link ≢ 0) where
      abbrev met : Met w past link
      met = walk_met n

      pub walk_inside : link - 1 < length nexts
      walk_inside = let e = met.is in let l = met.within in omega (arith, C.nexts_long)

      -- the next link
      pub walk_turn : (next : ℕ) → next ≡ get_or nexts (link - 1) 0 → Walk w (suc (walk_met n).switch) next
      unfolding ends_on
      walk_turn next e =
          let i : link - 1 ≡ met.switch = (let q = met.is in omega arith) in
          let on = and_left (enabled B t st met.switch) (eqb (target B t met.switch) w) met.ends in
          let onto = eqb-true (target B t met.switch) w (and_right (enabled B t st met.switch) (eqb (target B t met.switch) w) met.ends) in
          record {
            upto = met.within;
            leads = e ∙ ap (λ (x : ℕ). get_or nexts x 0) i ∙ C.next met.switch (let l = met.later in omega arith) met.within on
                ∙ ap (λ (x : ℕ). link_from B t st x (suc met.switch)) onto;
          }

  -- ---- its first two links

  -- how many switches are past those of which none, or the first, ends on the wire
  on_gap : (w m s : ℕ) → m ≤ s → ((k : ℕ) → m ≤ k → k < s → ends_on B t st w k ≡ false) → on_from B t st w m ≡ on_from B t st w s
  unfolding on_from
  on_gap w m s l none = ap (λ (x : ℕ). count_below (ends_on B t st w) (switches B) - x) (count_gap (ends_on B t st w) m s l none)

  pub on_skip : (w m : ℕ) → ends_on B t st w m ≡ false → on_from B t st w m ≡ on_from B t st w (suc m)
  unfolding on_from
  on_skip w m e =
      ap (λ (x : ℕ). count_below (ends_on B t st w) (switches B) - x)
      (count_skip (ends_on B t st w) m _ refl e ∙ ap (count_below (ends_on B t st w)) (add-one m))

  pub on_hit : (w m : ℕ) → m < switches B → ends_on B t st w m ≡ true → on_from B t st w m ≡ on_from B t st w (suc m) + 1
  unfolding on_from
  on_hit w m l e =
      let a = count_hit (ends_on B t st w) m _ refl e ∙ ap (count_below (ends_on B t st w)) (add-one m) in
      let b = count_mono (ends_on B t st w) (suc m) (switches B) l in
      omega arith

  pub on_end : (w : ℕ) → on_from B t st w (switches B) ≡ 0
  unfolding on_from
  on_end w = omega arith

  pub on_le : (w m : ℕ) → on_from B t st w m ≤ switches B
  unfolding on_from
  on_le w m = let a = count_le (ends_on B t st w) (switches B) in omega arith

  pub on_all : (w : ℕ) → on_from B t st w 0 ≡ count_below (ends_on B t st w) (switches B)
  unfolding on_from
  on_all w = let a = count_none_yet (ends_on B t st w) in omega arith

  module _ (w m first : ℕ) (heads nexts : List ℕ) (C : Chained B t st m heads nexts) (l : w < ports B) (e : first ≡ get_or heads w 0) where
    begun : Walk w m first
    begun = record { upto = C.upto; leads = e ∙ C.head w l }

    -- no link, no switch
    pub links_none : first ≡ 0 → 0 ≡ up_to_two (on_from B t st w m)
    links_none z =
        let a = on_gap w m (switches B) C.upto (walk_done w m first begun z) ∙ on_end w in
        up_few 0 (omega arith) ∙ ap up_to_two (sym a)

    module _ (ne : first ≢ 0) where
      abbrev one : Met w m first
      one = walk_met w m first begun ne

      past_one : on_from B t st w m ≡ on_from B t st w (suc one.switch) + 1
      past_one = on_gap w m one.switch one.later one.none ∙ on_hit w one.switch one.within one.ends

      pub links_inside : first - 1 < length nexts
      links_inside = walk_inside w m first begun m heads nexts C (omega arith) ne

      module _ (next : ℕ) (f : next ≡ get_or nexts (first - 1) 0) where
        turned : Walk w (suc one.switch) next
        turned = walk_turn w m first begun m heads nexts C (omega arith) ne next f

        -- a first link that none follows
        pub links_one : next ≡ 0 → 1 ≡ up_to_two (on_from B t st w m)
        links_one z =
            let a = on_gap w (suc one.switch) (switches B) turned.upto (walk_done w (suc one.switch) next turned z) ∙ on_end w in
            let b : 1 ≡ on_from B t st w m = omega (arith, past_one) in
            up_few 1 (omega arith) ∙ ap up_to_two b

        pub links_two : next ≢ 0 → 2 ≡ up_to_two (on_from B t st w m)
        links_two n =
            let two = walk_met w (suc one.switch) next turned n in
            let a = on_gap w (suc one.switch) two.switch two.later two.none ∙ on_hit w two.switch two.within two.ends in
            let b : 2 ≤ on_from B t st w m = omega (arith, past_one) in
            up_many (on_from B t st w m) b

  -- ---- with their rows

  pub record Filed (w from : ℕ) (old : List ℕ) (at link : ℕ) (list : List ℕ) : Type 0 where
    pub past : ℕ
    pub walk : Walk w past link
    pub file : StoredRows (ends_on B t st w) (switch_row w) row_length from old past at list

  pub filed_start : (w from : ℕ) (old : List ℕ) (link : ℕ) → link ≡ link_from B t st w 0 → Filed w from old from link old
  filed_start w from old link e =
      record { past = 0; walk = walk_start w link e; file = stored_start (ends_on B t st w) (switch_row w) row_length from old }

  module _ (w from : ℕ) (old : List ℕ) (at link : ℕ) (list : List ℕ) (K : Filed w from old at link list) where
    pub filed_end : link ≡ 0 → StoredRows (ends_on B t st w) (switch_row w) row_length from old (switches B) at list
    filed_end e = stored_gap (ends_on B t st w) K.past (switches B) K.walk.upto (walk_done w K.past link K.walk e) K.file

    module _ (heads nexts : List ℕ) (C : Chained B t st 0 heads nexts) (ne : link ≢ 0) where
      abbrev filed : Met w K.past link
      filed = walk_met w K.past link K.walk ne

      upto_it : StoredRows (ends_on B t st w) (switch_row w) row_length from old filed.switch at list
      upto_it = stored_gap (ends_on B t st w) K.past filed.switch filed.later filed.none K.file

      pub filed_inside : link - 1 < length nexts
      filed_inside = walk_inside w K.past link K.walk 0 heads nexts C (omega arith) ne

      pub filed_within : link - 1 < switches B
      filed_within = let e = filed.is in let l = filed.within in omega arith

      pub filed_room : from + row_length * count_below (ends_on B t st w) (switches B) ≤ length old → at + row_length ≤ length list
      filed_room fits = stored_room upto_it (switch_row_length w) (switches B) filed.within filed.ends fits

      pub filed_turn : (next : ℕ) (new : List ℕ) (then x : ℕ) → next ≡ get_or nexts (link - 1) 0 → x ≡ w
          → new ≡ sets list at (x ∷ tile_of (link - 1) ∷ group_in (link - 1) ∷ []) → then ≡ at + row_length → Filed w from old then next new
      unfolding switch_row
      filed_turn next new then x e q g h =
          let i : link - 1 ≡ filed.switch = (let z = filed.is in omega arith) in
          record {
            past = suc filed.switch;
            walk = walk_turn w K.past link K.walk 0 heads nexts C (omega arith) ne next e;
            file = subst (λ (y : ℕ). StoredRows (ends_on B t st w) (switch_row w) row_length from old y then new) (add-one filed.switch)
                (stored_hit upto_it (switch_row_length w) new then (g ∙ ap₂ (λ (a b : ℕ). sets list at (a ∷ tile_of b ∷ group_in b ∷ [])) q i) h filed.ends);
          }
