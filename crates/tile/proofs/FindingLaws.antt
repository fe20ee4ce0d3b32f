-- The patterns of a tile's groups looked up one after another. Main laws: `found_start`, `found_off`, `found_turn`; `unfound_here`. Assumes nothing.
use mathlib.Core.Path.{◌≡◌, refl, sym, ap, ◌∙◌}
use mathlib.Core.Logic.{⊎_elim, ◌≢◌}
use mathlib.Core.List.{List}
use Prim.Native.Nat.{ℕ, ◌+◌, ◌<◌, ◌≤◌}
use native.Mathlib.Omega.{arith}
use lib.ListN.{length, set, length-set}
use lib.Seq.{get_or-set_same, get_or-set_other}
use Rattle.lists.proofs.CaseLaws.{lt_or_le, eq_or_ne}
use Rattle.routing.specs.LogicTile.{logic_tile}
use Rattle.routing.specs.Table.{group_count}
use Rattle.codec.specs.Settings.{groups_from, group_setting}
use Rattle.codec.specs.Groups.{setting_of_pattern}
use Rattle.codec.specs.Fault.{is_unlisted}
use Rattle.codec.specs.declared.groups.GroupRead.TheVariants.{Setting, Unlisted}
use Rattle.tile.specs.Taking.{Found, Unfound}
use Rattle.tile.proofs.WritingLaws.{Off}

module _ (table before : List ℕ) where
  pub found_start : Found table 0 before before
  found_start = record { long = refl; group = λ g l. absurd (omega arith); below = λ n l. refl; past = λ g l. refl }

  -- groups that are off have the setting that they had
  pub found_off : (after : List ℕ) (m r : ℕ) → Found table m before after → m ≤ r → Off after m r → Found table r before after
  found_off after m r F l off = record {
    long = F.long;
    group = λ g a. ⊎_elim (λ (b : g < m). F.group g b) (λ (b : m ≤ g). none g b a) (lt_or_le g m);
    below = F.below;
    past = λ g a. F.past g (omega arith);
  }
    where
      none : (g : ℕ) → m ≤ g → g < r → setting_of_pattern logic_tile table g (group_setting logic_tile before g) ≡ Setting (group_setting logic_tile after g)
      none g a b =
          ap (setting_of_pattern logic_tile table g) (sym (F.past g a) ∙ off g a b) ∙ ap Setting (sym (off g a b))

  -- a group more
  pub found_turn : (after : List ℕ) (m e : ℕ) → Found table m before after → groups_from logic_tile + m < length after
      → setting_of_pattern logic_tile table m (group_setting logic_tile after m) ≡ Setting e
      → Found table (m + 1) before (set after (groups_from logic_tile + m) e)
  found_turn after m e F l s = record {
    long = length-set after (groups_from logic_tile + m) e ∙ F.long;
    group = λ g a. ⊎_elim (λ (q : g ≡ m). here g q) (λ (q : g ≢ m). F.group g (omega arith) ∙ ap Setting (sym (away g q))) (eq_or_ne g m);
    below = λ n a. get_or-set_other after (groups_from logic_tile + m) n e 0 (λ q. omega arith) ∙ F.below n a;
    past = λ g a. away g (λ q. omega arith) ∙ F.past g (omega arith);
  }
    where
      away : (g : ℕ) → g ≢ m → group_setting logic_tile (set after (groups_from logic_tile + m) e) g ≡ group_setting logic_tile after g
      away g q = get_or-set_other after (groups_from logic_tile + m) (groups_from logic_tile + g) e 0 (λ x. q (omega arith))

      here : (g : ℕ) → g ≡ m
          → setting_of_pattern logic_tile table g (group_setting logic_tile before g) ≡ Setting (group_setting logic_tile (set after (groups_from logic_tile + m) e) g)
      here g q =
          ap (λ (x : ℕ). setting_of_pattern logic_tile table x (group_setting logic_tile before x)) q
          ∙ ap (setting_of_pattern logic_tile table m) (sym (F.past m (omega arith))) ∙ s
          ∙ ap Setting (sym (ap (group_setting logic_tile (set after (groups_from logic_tile + m) e)) q ∙ get_or-set_same after (groups_from logic_tile + m) e 0 l))

  -- a group whose pattern is not listed
  pub unfound_here : (after : List ℕ) (m p : ℕ) → Found table m before after → m < group_count logic_tile table
      → setting_of_pattern logic_tile table m (group_setting logic_tile after m) ≡ Unlisted p → Unfound table before
  unfound_here after m p F l s = record {
    at = m;
    within = l;
    none = ap is_unlisted (ap (setting_of_pattern logic_tile table m) (sym (F.past m (omega arith))) ∙ s);
  }
