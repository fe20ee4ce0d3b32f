-- `wire::wire_at` meets its contract: each arm is a clause of `wire_at`, and what the callees ask follows from the ranges of the name's
-- numbers. Assumes nothing.
use mathlib.Core.Path.{sym, ◌∙◌}
use native.Mathlib.Omega.{arith}
use native.Mathlib.Numerals.{add-one}
use Rattle.fabric.specs.Wire.{wire_at}
use Rattle.fabric.proofs.SpanLaws.{span4_row_proper, span12_row_proper}
use Rattle.fabric.proofs.WireAtLaws.{name_within, wire_by_name, NoJoined, lone_name, lone_port}
use Rattle.fabric.proofs.wire.wire_at.Goals as goal

pub row_wire-requires : goal.row_wire-requires
row_wire-requires c =
    let pre = c.requires in
    let h = name_within _ _ pre.3 (sym c.in-Sp4HL.is ∙ c.port_at.ensures) in
    (span4_row_proper, pre.0, pre.2, omega arith, h)

pub row_wire-requires-in-Sp4HR : goal.row_wire-requires-in-Sp4HR
row_wire-requires-in-Sp4HR c =
    let pre = c.requires in
    let h = name_within _ _ pre.3 (sym c.in-Sp4HR.is ∙ c.port_at.ensures) in
    (span4_row_proper, pre.0, pre.2, omega arith, h)

pub sp4_column-requires : goal.sp4_column-requires
sp4_column-requires c =
    let pre = c.requires in
    let h = name_within _ _ pre.3 (sym c.in-Sp4VT.is ∙ c.port_at.ensures) in
    (pre.0, pre.1, omega arith, h)

pub sp4_column-requires-in-Sp4VB : goal.sp4_column-requires-in-Sp4VB
sp4_column-requires-in-Sp4VB c =
    let pre = c.requires in
    let h = name_within _ _ pre.3 (sym c.in-Sp4VB.is ∙ c.port_at.ensures) in
    (pre.0, pre.1, omega arith, h)

pub right_wire-requires : goal.right_wire-requires
right_wire-requires c =
    let pre = c.requires in
    let h = name_within _ _ pre.3 (sym c.in-Sp4RVB.is ∙ c.port_at.ensures) in
    (pre.0, pre.1, pre.2, h)

pub row_wire-requires-in-Sp12HL : goal.row_wire-requires-in-Sp12HL
row_wire-requires-in-Sp12HL c =
    let pre = c.requires in
    let h = name_within _ _ pre.3 (sym c.in-Sp12HL.is ∙ c.port_at.ensures) in
    (span12_row_proper, pre.0, pre.2, omega arith, h)

pub row_wire-requires-in-Sp12HR : goal.row_wire-requires-in-Sp12HR
row_wire-requires-in-Sp12HR c =
    let pre = c.requires in
    let h = name_within _ _ pre.3 (sym c.in-Sp12HR.is ∙ c.port_at.ensures) in
    (span12_row_proper, pre.0, pre.2, omega arith, h)

pub sp12_column-requires : goal.sp12_column-requires
sp12_column-requires c =
    let pre = c.requires in
    let h = name_within _ _ pre.3 (sym c.in-Sp12VT.is ∙ c.port_at.ensures) in
    (pre.0, pre.1, omega arith, h)

pub sp12_column-requires-in-Sp12VB : goal.sp12_column-requires-in-Sp12VB
sp12_column-requires-in-Sp12VB c =
    let pre = c.requires in
    let h = name_within _ _ pre.3 (sym c.in-Sp12VB.is ∙ c.port_at.ensures) in
    (pre.0, pre.1, omega arith, h)

pub output_wire-requires : goal.output_wire-requires
output_wire-requires c =
    let pre = c.requires in
    let h = name_within _ _ pre.3 (sym c.in-Out.is ∙ c.port_at.ensures) in
    (pre.0, pre.1, pre.2, omega arith, omega arith, h)

pub output_wire-requires-in-NeighOp : goal.output_wire-requires-in-NeighOp
output_wire-requires-in-NeighOp c =
    let pre = c.requires in
    let h = name_within _ _ pre.3 (sym c.in-NeighOp.is ∙ c.port_at.ensures) in
    (pre.0, pre.1, pre.2, h.dx_lt, h.dy_lt, h.i_lt)

pub overflow_add-n : goal.overflow_add-n
overflow_add-n c =
    let pre = c.requires in
    let h = name_within _ _ pre.3 (sym c.in-GlbNetwk.is ∙ c.port_at.ensures) in
    omega arith

pub port_number-requires : goal.port_number-requires
port_number-requires c =
    let pre = c.requires in
    let h = name_within _ _ pre.3 (sym c.in-GlbNetwk.is ∙ c.port_at.ensures) in
    (pre.0, omega arith, omega arith, omega arith)

-- sp4_h_l
pub returns-in-Sp4HL : goal.returns-in-Sp4HL
unfolding wire_at
returns-in-Sp4HL c =
    let pre = c.requires in
    wire_by_name _ _ _ _ pre.1 pre.3 _ _ (sym c.in-Sp4HL.is ∙ c.port_at.ensures) c.row_wire.ensures

-- sp4_h_r
pub returns-in-Sp4HR : goal.returns-in-Sp4HR
unfolding wire_at
returns-in-Sp4HR c =
    let pre = c.requires in
    wire_by_name _ _ _ _ pre.1 pre.3 _ _ (sym c.in-Sp4HR.is ∙ c.port_at.ensures) (rw add-one at c.row_wire-in-Sp4HR.ensures)

-- sp4_v_t
pub returns-in-Sp4VT : goal.returns-in-Sp4VT
unfolding wire_at
returns-in-Sp4VT c =
    let pre = c.requires in
    wire_by_name _ _ _ _ pre.1 pre.3 _ _ (sym c.in-Sp4VT.is ∙ c.port_at.ensures) (rw add-one at c.sp4_column.ensures)

-- sp4_v_b
pub returns-in-Sp4VB : goal.returns-in-Sp4VB
unfolding wire_at
returns-in-Sp4VB c =
    let pre = c.requires in
    wire_by_name _ _ _ _ pre.1 pre.3 _ _ (sym c.in-Sp4VB.is ∙ c.port_at.ensures) c.sp4_column-in-Sp4VB.ensures

-- sp4_r_v_b
pub returns-in-Sp4RVB : goal.returns-in-Sp4RVB
unfolding wire_at
returns-in-Sp4RVB c =
    let pre = c.requires in
    wire_by_name _ _ _ _ pre.1 pre.3 _ _ (sym c.in-Sp4RVB.is ∙ c.port_at.ensures) c.right_wire.ensures

-- sp12_h_l
pub returns-in-Sp12HL : goal.returns-in-Sp12HL
unfolding wire_at
returns-in-Sp12HL c =
    let pre = c.requires in
    wire_by_name _ _ _ _ pre.1 pre.3 _ _ (sym c.in-Sp12HL.is ∙ c.port_at.ensures) c.row_wire-in-Sp12HL.ensures

-- sp12_h_r
pub returns-in-Sp12HR : goal.returns-in-Sp12HR
unfolding wire_at
returns-in-Sp12HR c =
    let pre = c.requires in
    wire_by_name _ _ _ _ pre.1 pre.3 _ _ (sym c.in-Sp12HR.is ∙ c.port_at.ensures) (rw add-one at c.row_wire-in-Sp12HR.ensures)

-- sp12_v_t
pub returns-in-Sp12VT : goal.returns-in-Sp12VT
unfolding wire_at
returns-in-Sp12VT c =
    let pre = c.requires in
    wire_by_name _ _ _ _ pre.1 pre.3 _ _ (sym c.in-Sp12VT.is ∙ c.port_at.ensures) (rw add-one at c.sp12_column.ensures)

-- sp12_v_b
pub returns-in-Sp12VB : goal.returns-in-Sp12VB
unfolding wire_at
returns-in-Sp12VB c =
    let pre = c.requires in
    wire_by_name _ _ _ _ pre.1 pre.3 _ _ (sym c.in-Sp12VB.is ∙ c.port_at.ensures) c.sp12_column-in-Sp12VB.ensures

-- lutff out
pub returns-in-Out : goal.returns-in-Out
unfolding wire_at
returns-in-Out c =
    let pre = c.requires in
    wire_by_name _ _ _ _ pre.1 pre.3 _ _ (sym c.in-Out.is ∙ c.port_at.ensures) c.output_wire.ensures

-- neigh_op
pub returns-in-NeighOp : goal.returns-in-NeighOp
unfolding wire_at
returns-in-NeighOp c =
    let pre = c.requires in
    wire_by_name _ _ _ _ pre.1 pre.3 _ _ (sym c.in-NeighOp.is ∙ c.port_at.ensures) c.output_wire-in-NeighOp.ensures

-- glb_netwk
pub returns-in-GlbNetwk : goal.returns-in-GlbNetwk
unfolding wire_at
returns-in-GlbNetwk c =
    let pre = c.requires in
    wire_by_name _ _ _ _ pre.1 pre.3 _ _ (sym c.in-GlbNetwk.is ∙ c.port_at.ensures) c.port_number.ensures

-- carry_in
pub returns-in-CarryIn : goal.returns-in-CarryIn
unfolding wire_at
returns-in-CarryIn c =
    let pre = c.requires in
    wire_by_name _ _ _ _ pre.1 pre.3 _ _ (sym c.in-CarryIn.is ∙ c.port_at.ensures) c.below_wire.ensures

-- ltin
pub returns-in-Ltin : goal.returns-in-Ltin
unfolding wire_at
returns-in-Ltin c =
    let pre = c.requires in
    wire_by_name _ _ _ _ pre.1 pre.3 _ _ (sym c.in-Ltin.is ∙ c.port_at.ensures) c.below_wire-in-Ltin.ensures

-- a port that no join lowers
pub returns-in_default : goal.returns-in_default
returns-in_default c =
    let pre = c.requires in
    let name = c.port_at in
    let d = c.in_default in
    let no_joined : NoJoined name.result = record {
      not_sp4hl = d.not-Sp4HL;
      not_sp4hr = d.not-Sp4HR;
      not_sp4vt = d.not-Sp4VT;
      not_sp4vb = d.not-Sp4VB;
      not_sp4rvb = d.not-Sp4RVB;
      not_sp12hl = d.not-Sp12HL;
      not_sp12hr = d.not-Sp12HR;
      not_sp12vt = d.not-Sp12VT;
      not_sp12vb = d.not-Sp12VB;
      not_out = d.not-Out;
      not_neigh_op = d.not-NeighOp;
      not_glb_netwk = d.not-GlbNetwk;
      not_carry_in = d.not-CarryIn;
      not_ltin = d.not-Ltin;
    } in
    wire_by_name _ _ _ _ pre.1 pre.3 name.result _ name.ensures
    (lone_port _ _ _ _ _ name.result pre.3 name.ensures (lone_name name.result no_joined) c.port_number-in_default.ensures)
