-- A group's pattern is zero, listed, or neither. Main laws: `unlisted_exact`, `points_exact`: the computed tests against the sentences of
-- specs/Reading.antt; `group_listed`. Assumes nothing.
use Rattle.codec.specs.Bits.{bit_at}
use mathlib.Core.Path.{◌≡◌, refl, sym, ap, ◌∙◌}
use mathlib.Core.Logic.{◌≢◌, ◌↔◌, ◌⊎◌, inl, inr, ⊎_elim}
use mathlib.Core.Bool.{true, false, ◌&&◌}
use mathlib.Core.List.{List}
use Prim.Native.Nat.{ℕ, suc, ◌<◌, ◌≤◌}
use native.Mathlib.Omega.{arith}
use borrow.Author.Tests.{eq-eqb, eqb-true}
use lib.Dec.{eqb}
use Rattle.lists.proofs.CaseLaws.{cases, clash, lt_or_le, eq_or_ne, and_left, and_right, and_true}
use Rattle.lists.proofs.SearchLaws.{first_true}
use Rattle.routing.specs.LogicTile.{logic_tile}
use Rattle.routing.specs.Table.{position_at, entry_count, pattern_at, has_pattern, entry_of}
use Rattle.routing.specs.Rules.{GroupRules}
use Rattle.codec.specs.Groups.{group_pattern, setting_of_pattern, read_group}
use Rattle.codec.specs.Fault.{is_unlisted, points_to}
use Rattle.codec.specs.Reading.{Off, Listed}
use Rattle.codec.proofs.GroupLaws.{setting_unlisted, points_is, setting_back}

module _ (table bits : List ℕ) (g : ℕ) where
  -- a pattern that is not unlisted is zero or an entry's
  pub group_listed : is_unlisted (read_group logic_tile table (bit_at bits) g) ≡ false → Off table (bit_at bits) g ⊎ ((e : ℕ) × Listed table (bit_at bits) g e)
  group_listed ok = ⊎_elim (λ (z : v ≡ 0). inl z) on (eq_or_ne v 0)
    where
      v : ℕ
      v = group_pattern logic_tile table (bit_at bits) g

      on : v ≢ 0 → Off table (bit_at bits) g ⊎ ((e : ℕ) × Listed table (bit_at bits) g e)
      on n =
          ⊎_elim
          (λ (l : entry_of logic_tile table g v < entry_count logic_tile table g).
          inr (
            entry_of logic_tile table g v,
            record {
              entry = l;
              pattern = sym (eqb-true (pattern_at logic_tile table g (entry_of logic_tile table g v)) v
                  (first_true (has_pattern logic_tile table g v) 0 (entry_count logic_tile table g) (omega arith)));
            },
          ))
          (λ (l : entry_count logic_tile table g ≤ entry_of logic_tile table g v).
          clash (sym (ap is_unlisted (setting_unlisted logic_tile table g v (entry_of logic_tile table g v) n refl l))) ok)
          (lt_or_le (entry_of logic_tile table g v) (entry_count logic_tile table g))

  pub off_listed : Off table (bit_at bits) g → is_unlisted (read_group logic_tile table (bit_at bits) g) ≡ false
  off_listed z = ap (λ (v : ℕ). is_unlisted (setting_of_pattern logic_tile table g v)) z

  pub entry_listed : GroupRules logic_tile table g → (e : ℕ) → Listed table (bit_at bits) g e → is_unlisted (read_group logic_tile table (bit_at bits) g) ≡ false
  entry_listed R e L =
      ap (λ (v : ℕ). is_unlisted (setting_of_pattern logic_tile table g v)) L.pattern
      ∙ ap is_unlisted (setting_back logic_tile table g R (suc e) L.entry)

  -- a pattern is unlisted exactly if it is neither zero nor an entry's
  pub unlisted_exact : GroupRules logic_tile table g
      → (is_unlisted (read_group logic_tile table (bit_at bits) g) ≡ true) ↔ ((Off table (bit_at bits) g → ⊥) × ((e : ℕ) → Listed table (bit_at bits) g e → ⊥))
  unlisted_exact R = (
    λ u. (λ z. clash u (off_listed z), λ e L. clash u (entry_listed R e L)),
    λ n. ⊎_elim (λ u. u) (λ u. ⊎_elim (λ z. absurd (n.0 z)) (λ q. absurd (n.1 q.0 q.1)) (group_listed u))
        (cases (is_unlisted (read_group logic_tile table (bit_at bits) g))),
  )

  -- reading the group points to a position exactly if its pattern is neither zero nor an entry's, and the position is its first
  pub points_exact : GroupRules logic_tile table g → (p : ℕ)
      → (points_to p (read_group logic_tile table (bit_at bits) g) ≡ true)
      ↔ ((Off table (bit_at bits) g → ⊥) × ((e : ℕ) → Listed table (bit_at bits) g e → ⊥) × (position_at logic_tile table g 0 ≡ p))
  points_exact R p =
      let unlisted = is_unlisted (read_group logic_tile table (bit_at bits) g) in
      let points : points_to p (read_group logic_tile table (bit_at bits) g) ≡ (unlisted && eqb (position_at logic_tile table g 0) p) =
      points_is logic_tile table g p (group_pattern logic_tile table (bit_at bits) g) in (
        λ u.
            let both = sym points ∙ u in
            let n = (unlisted_exact R).0 (and_left unlisted _ both) in
            (n.0, n.1, eqb-true _ p (and_right unlisted _ both)),
        λ n. points ∙ and_true ((unlisted_exact R).1 (n.0, n.1)) (eq-eqb _ p n.2),
      )
