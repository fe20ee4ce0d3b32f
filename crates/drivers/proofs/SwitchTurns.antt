-- The switch of a group by its tile and group, as the pass over the switches meets it. Main laws: `switch_off`, `switch_on`, `switch_target`,
-- `switch_origin`; `sourced_tile`: the groups that the table does not have are no switches; one switch, as the code meets it: `met`, `next_off`,
-- `next_first`, `next_second`.
use Prim.Native.Nat.{ℕ, zero, suc, ◌+◌, ◌-◌, ◌*◌, ◌≤◌, ◌<◌, min}
use mathlib.Core.Path.{◌≡◌, sym, ap, subst, ◌∙◌}
use mathlib.Core.Bool.{true, false}
use mathlib.Core.Logic.{◌≢◌, ⊎_elim}
use mathlib.Core.List.{List}
use native.Mathlib.Omega.{arith}
use borrow.Author.Tests.{eq-eqb, ne_eqb, lt-ltb, le-ltb}
use lib.ListN.{get_or, set}
use Rattle.lists.proofs.CaseLaws.{lt_or_le}
use Rattle.ports.specs.declared.size.Block.{Block}
use Rattle.ports.specs.Block.{tiles, port_of}
use Rattle.ports.specs.Lengths.{ports, max_groups, max_entries}
use Rattle.fabric.specs.Wire.{wire_of}
use Rattle.routing.specs.LogicTile.{logic_tile}
use Rattle.routing.specs.Table.{group_count, destination_of, source_at}
use Rattle.equations.specs.Tiles.{group_of}
use Rattle.equations.specs.Switches.{switches, tile_of, group_in, enabled, target, origin}
use Rattle.equations.specs.Sources.{Sourced}
use Rattle.equations.specs.Routed.{Routed}
use Rattle.equations.proofs.SwitchLaws.{enabled_group, target_port, origin_port, target_lt, origin_lt}
use Rattle.equations.proofs.Sourcing.{sourced_skip, sourced_new, sourced_lower, sourced_higher}

-- ---- switch g of tile T

module _ (T g : ℕ) (lg : g < max_groups) where
  tile_is : tile_of (max_groups * T + g) ≡ T
  tile_is = omega arith

  group_is : group_in (max_groups * T + g) ≡ g
  group_is = omega arith

  pub switch_past : (B : Block) (t st : List ℕ) → group_count logic_tile t ≤ g → enabled B t st (max_groups * T + g) ≡ false
  unfolding enabled
  switch_past B t st h = rw (group_is, le-ltb g (group_count logic_tile t) h)

  pub switch_off : (B : Block) (t st : List ℕ) → g < group_count logic_tile t → group_of st T g ≡ 0 → enabled B t st (max_groups * T + g) ≡ false
  unfolding enabled
  switch_off B t st h z = rw (tile_is, group_is, lt-ltb g (group_count logic_tile t) h, eq-eqb (group_of st T g) 0 z)

  pub switch_on : (B : Block) (t st : List ℕ) → g < group_count logic_tile t → group_of st T g ≢ 0 → enabled B t st (max_groups * T + g) ≡ true
  unfolding enabled
  switch_on B t st h nz = rw (tile_is, group_is, lt-ltb g (group_count logic_tile t) h, ne_eqb (group_of st T g) 0 nz)

  pub switch_target : (B : Block) (t : List ℕ) → wire_of B (port_of T (destination_of logic_tile t g)) ≡ target B t (max_groups * T + g)
  unfolding target
  switch_target B t = rw (tile_is, group_is)

  pub switch_origin : (B : Block) (t st : List ℕ) → wire_of B (port_of T (source_at logic_tile t g (group_of st T g - 1))) ≡ origin B t st (max_groups * T + g)
  unfolding origin
  switch_origin B t st = rw (tile_is, group_is)

  module _ (B : Block) (t st : List ℕ) (ok : Routed B t st) (lT : T < tiles B) (on : enabled B t st (max_groups * T + g) ≡ true) where
    switch_lt : max_groups * T + g < switches B
    switch_lt = omega arith

    pub switch_target_port : port_of T (destination_of logic_tile t g) < ports B
    switch_target_port = rw (tile_is, group_is) at (target_port B t st ok (max_groups * T + g) switch_lt on)

    pub switch_origin_port : port_of T (source_at logic_tile t g (group_of st T g - 1)) < ports B
    switch_origin_port = rw (tile_is, group_is) at (origin_port B t st ok (max_groups * T + g) switch_lt on)

    pub switch_entry_lt : group_of st T g - 1 < max_entries
    switch_entry_lt =
        let lc = rw group_is at (enabled_group B t st (max_groups * T + g) on) in
        let few = ok.few_entries g lc in
        let l = ok.entries T g lT lc in
        omega arith

    pub switch_target_lt : target B t (max_groups * T + g) < ports B
    switch_target_lt = target_lt B t st ok (max_groups * T + g) switch_lt on

    pub switch_origin_lt : origin B t st (max_groups * T + g) < ports B
    switch_origin_lt = origin_lt B t st ok (max_groups * T + g) switch_lt on

module _ (B : Block) (t st : List ℕ) (T : ℕ) where
  -- the state of the pass, at the next group
  pub sourced_next : (g : ℕ) {low : ℕ} {x : List ℕ} → Sourced B t st (suc (max_groups * T + g)) x low → Sourced B t st (max_groups * T + (g + 1)) x low
  sourced_next g {low} {x} s =
      subst (λ (m : ℕ). Sourced B t st m x low) (let q : suc (max_groups * T + g) ≡ max_groups * T + (g + 1) = omega arith in q) s

  -- ---- the groups that the table does not have

  skips : (k g low : ℕ) (x : List ℕ) → group_count logic_tile t ≤ g → g + k ≡ max_groups → Sourced B t st (max_groups * T + g) x low
      → Sourced B t st (max_groups * T + max_groups) x low
  skips zero g low x h e s = subst (λ (m : ℕ). Sourced B t st (max_groups * T + m) x low) (let q : g ≡ max_groups = omega arith in q) s
  skips (suc k) g low x h e s =
      skips k (g + 1) low x (omega arith) (omega arith) (sourced_next g (sourced_skip B t st (max_groups * T + g) low x s (switch_past T g (omega arith) B t st h)))

  pub sourced_tile : (g low : ℕ) (x : List ℕ) → group_count logic_tile t ≤ g → g ≤ max_groups → Sourced B t st (max_groups * T + g) x low
      → Sourced B t st (max_groups * (T + 1)) x low
  sourced_tile g low x h l s =
      subst (λ (m : ℕ). Sourced B t st m x low) (let q : max_groups * T + max_groups ≡ max_groups * (T + 1) = omega arith in q)
      (skips (max_groups - g) g low x h (omega arith) s)

-- ---- one switch, as the code meets it

-- it is on, ends on wire u and comes from wire o
pub record Met (B : Block) (t st : List ℕ) (T g u o : ℕ) : Type 0 where
  pub on : enabled B t st (max_groups * T + g) ≡ true
  pub to : u ≡ target B t (max_groups * T + g)
  pub from : o ≡ origin B t st (max_groups * T + g)
  pub to_lt : u < ports B
  pub from_lt : o < ports B

module _ {B : Block} {t st : List ℕ} {T g : ℕ} (ok : Routed B t st) (lT : T < tiles B) (lc : g < group_count logic_tile t) where
  lg : g < max_groups
  lg = let f = ok.few_groups in omega arith

  -- n is the group's setting
  module _ {n : ℕ} (is : n ≡ group_of st T g) where
    pub next_off : {low : ℕ} {x : List ℕ} → (1 ≤ n → ⊥) → Sourced B t st (max_groups * T + g) x low → Sourced B t st (max_groups * T + (g + 1)) x low
    next_off {low} {x} z s =
        sourced_next B t st T g (sourced_skip B t st (max_groups * T + g) low x s (switch_off T g lg B t st lc (let e : n ≡ 0 = omega arith in sym is ∙ e)))

    -- its entry, counted from 0
    module _ {e : ℕ} (entry : (1 ≤ n) × (e ≡ n - 1)) where
      turned_on : enabled B t st (max_groups * T + g) ≡ true
      turned_on = switch_on T g lg B t st lc (λ z. omega arith)

      entry_is : e ≡ group_of st T g - 1
      entry_is = entry.1 ∙ ap (λ (k : ℕ). k - 1) is

      pub met_few : (g < max_groups) × (e < max_entries)
      met_few = (lg, rw entry_is (switch_entry_lt T g lg B t st ok lT turned_on))

      pub met_target : {q : ℕ} → q ≡ destination_of logic_tile t g → port_of T q < ports B
      met_target p = rw p (switch_target_port T g lg B t st ok lT turned_on)

      pub met_origin : {q : ℕ} → q ≡ source_at logic_tile t g e → port_of T q < ports B
      met_origin p = rw (p, entry_is) (switch_origin_port T g lg B t st ok lT turned_on)

      pub met : {u o d q : ℕ} → u ≡ wire_of B (port_of T d) → d ≡ destination_of logic_tile t g → o ≡ wire_of B (port_of T q) → q ≡ source_at logic_tile t g e
          → Met B t st T g u o
      met {u} {o} {d} {q} u-is d-is o-is q-is =
          let to : u ≡ target B t (max_groups * T + g) = u-is ∙ ap (λ (k : ℕ). wire_of B (port_of T k)) d-is ∙ switch_target T g lg B t in
          let from : o ≡ origin B t st (max_groups * T + g) =
          o-is ∙ ap (λ (k : ℕ). wire_of B (port_of T k)) (q-is ∙ ap (source_at logic_tile t g) entry_is) ∙ switch_origin T g lg B t st in
          record {
            on = turned_on;
            to = to;
            from = from;
            to_lt = rw to (switch_target_lt T g lg B t st ok lT turned_on);
            from_lt = rw from (switch_origin_lt T g lg B t st ok lT turned_on);
          }

module _ {B : Block} {t st : List ℕ} {T g u o low : ℕ} {x : List ℕ} (m : Met B t st T g u o) (s : Sourced B t st (max_groups * T + g) x low) where
  -- the first on its wire
  pub next_first : (v : ℕ) → get_or x u 0 ≡ 0 → v ≡ o + 1 → Sourced B t st (max_groups * T + (g + 1)) (set x u v) low
  next_first v z q = sourced_next B t st T g (sourced_new B t st (max_groups * T + g) low x s u m.on m.to m.to_lt v z (q ∙ ap (λ k. k + 1) m.from))

  -- a second one
  pub next_second : get_or x u 0 ≢ 0 → Sourced B t st (max_groups * T + (g + 1)) x (min low u)
  next_second nz =
      ⊎_elim
      (λ l. subst (Sourced B t st (max_groups * T + (g + 1)) x) (let e : u ≡ min low u = omega arith in e)
      (sourced_next B t st T g (sourced_lower B t st (max_groups * T + g) low x s u m.on m.to m.to_lt nz l)))
      (λ l. subst (Sourced B t st (max_groups * T + (g + 1)) x) (let e : low ≡ min low u = omega arith in e)
      (sourced_next B t st T g (sourced_higher B t st (max_groups * T + g) low x s u m.on m.to m.to_lt nz l)))
      (lt_or_le u low)
