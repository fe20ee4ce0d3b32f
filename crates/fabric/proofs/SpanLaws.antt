-- Span-4 and span-12 as instances of the laws for rows and columns. Main laws: the four `-joins`, `sp4_footed`.
use Prim.Native.Nat.{ℕ, zero, suc, ◌%◌, ◌≤◌, ◌<◌}
use mathlib.Core.Path.{◌≡◌, refl, subst₂}
use native.Mathlib.Omega.{arith}
use Rattle.ports.specs.declared.size.Block.{Block}
use Rattle.ports.specs.Block.{port}
use Rattle.ports.specs.PortIndex.{sp4_rvb}
use Rattle.fabric.specs.Span.{flip, Proper, span4_row, span12_row, span4_column, span12_column}
use Rattle.fabric.specs.Joins.{Join, one, back, on, sp4_h_side, sp4_h_in, sp4_v_side, sp4_v_in, sp4_right, east_in, sp12_h_side, sp12_h_in, sp12_v_side, sp12_v_in}
use Rattle.fabric.specs.SpanWire.{sp4_foot, column_port, sp4_column, east_port, east_wire}
use Rattle.fabric.proofs.FlipLaws.{flip_flip, flip_lt}
use Rattle.fabric.proofs.Reaching.{Reach}
use Rattle.fabric.proofs.RowLaws.{Crossing, RowJoins}
use Rattle.fabric.proofs.ColumnLaws.{ColumnJoins, Footed, EdgeJoins, foot_footed, column_reach, far_reach, edge_reach}

pub flip_crossing : (m : ℕ) → m % 2 ≡ 0 → Crossing flip m
flip_crossing m e = record { twice = λ k h. flip_flip k; keeps = λ k h. flip_lt m e h }

pub span4_row_proper : Proper span4_row
span4_row_proper = record { even = refl; shifts = omega arith; near_first = omega arith; in_tile = omega arith }

pub span12_row_proper : Proper span12_row
span12_row_proper = record { even = refl; shifts = omega arith; near_first = omega arith; in_tile = omega arith }

pub span4_column_proper : Proper span4_column
span4_column_proper = record { even = refl; shifts = omega arith; near_first = omega arith; in_tile = omega arith }

pub span12_column_proper : Proper span12_column
span12_column_proper = record { even = refl; shifts = omega arith; near_first = omega arith; in_tile = omega arith }

module _ (B : Block) where
  pub span4_row_joins : RowJoins B flip span4_row
  span4_row_joins = record { crossing = flip_crossing 36 refl; proper = span4_row_proper; side = sp4_h_side; across = sp4_h_in }

  pub span12_row_joins : RowJoins B flip span12_row
  span12_row_joins = record { crossing = flip_crossing 22 refl; proper = span12_row_proper; side = sp12_h_side; across = sp12_h_in }

  pub span4_column_joins : ColumnJoins B flip span4_column
  span4_column_joins = record { crossing = flip_crossing 36 refl; proper = span4_column_proper; side = sp4_v_side; across = sp4_v_in }

  pub span12_column_joins : ColumnJoins B flip span12_column
  span12_column_joins = record { crossing = flip_crossing 22 refl; proper = span12_column_proper; side = sp12_v_side; across = sp12_v_in }

  -- at the rim of a column that has one to its west, that column's right-neighbour names come first
  pub sp4_footed : (x : ℕ) → x < B.w → Footed B flip span4_column x (sp4_foot B x)
  sp4_footed zero hx = foot_footed span4_column_joins 0 hx
  sp4_footed (suc x) hx = record {
    far_rim = λ hy k hk. record { linked = back (one (sp4_right x 0 k hx hy hk)); low = omega arith };
    rim_near = λ k hk. omega (arith, flip_lt 36 refl hk);
  }

  right_low : (x y k : ℕ) → suc x < B.w → column_port (sp4_foot B (suc x)) span4_column B (suc x) y k ≤ port B x y (sp4_rvb k)
  right_low x zero k hx = omega arith
  right_low x (suc y) k hx = omega arith

  -- sp4_r_v_b_k reaches the wire of the column to the east
  pub right_reach : (x y k : ℕ) → suc x < B.w → y < B.h → k < 48 → Reach B (port B x y (sp4_rvb k)) (sp4_column B (suc x) y k)
  right_reach x y k hx hy hk = record {
    linked = on (one (sp4_right x y k hx hy hk)) (far_reach span4_column_joins (suc x) hx (sp4_footed (suc x) hx) y k hy hk).linked;
    low = omega (arith, (column_reach span4_column_joins (suc x) hx (sp4_footed (suc x) hx) y k (omega arith) hk).low, right_low x y k hx);
  }

  -- and at the east column that of the column outside
  east_joins : (x : ℕ) → B.east ≡ 1 → suc x ≡ B.w → EdgeJoins B flip span4_column (λ (y : ℕ). east_port B x y 0)
  east_joins x t e = record {
    crossing = flip_crossing 36 refl;
    rises = λ y hy. omega arith;
    across = λ y k hy hk.
        subst₂ (Join B) (omega arith) (omega arith) (east_in x y k t e hy hk);
  }

  pub east_reach : (x y k : ℕ) → B.east ≡ 1 → suc x ≡ B.w → y < B.h → k < 48 → Reach B (port B x y (sp4_rvb k)) (east_wire B x y k)
  east_reach x y k t e hy hk = subst₂ (Reach B) (omega arith) (omega arith) (edge_reach (east_joins x t e) y hy k hk)
