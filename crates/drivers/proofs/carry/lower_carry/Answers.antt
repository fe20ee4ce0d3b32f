-- `carry::lower_carry` meets its contract: a lower one of the two for a disabled carry, else the lowest so far. Assumes nothing.
use Rattle.drivers.proofs.CarryPass.{lower_carry_other, lower_carry_min}
use Rattle.drivers.proofs.CarryPorts.{low_port_no_carry}
use Rattle.drivers.specs.CarryReads.{is_disabled_carry}
use Rattle.equations.proofs.RowFromLaws.{drive_driven}
use Rattle.equations.specs.Routed.{Driven}
use Rattle.equations.specs.Drives.{drive_of}
use Prim.Native.Nat.{min}
use mathlib.Core.Path.{sym, ap, subst, ◌∙◌}
use Rattle.drivers.proofs.carry.lower_carry.Goals as goal
use Rattle.drivers.proofs.carry.lower_carry.Goals.{else-w-ge-CARRY_IN-via-then-w-ge-CARRY_IN+else-is_disabled_carry, else-w-ge-CARRY_IN-via-else-w-ge-CARRY_IN}

pub is_disabled_carry-requires : goal.is_disabled_carry-requires
is_disabled_carry-requires c =
    let B = c.args.b in
    (c.requires.1, subst (Driven B) (sym (c.drive_of.ensures ∙ ap (drive_of B) c.from.ensures)) (drive_driven B c.args.w c.requires.2))

pub returns-then-is_disabled_carry : goal.returns-then-is_disabled_carry
returns-then-is_disabled_carry c =
    let a = c.args in
    let is = c.is_disabled_carry.ensures ∙ ap (is_disabled_carry a.st.now) (c.drive_of.ensures ∙ ap (drive_of a.b) c.from.ensures) in
    c.min.ensures ∙ ap (min a.low) c.from-then-is_disabled_carry.ensures ∙ lower_carry_min a.b a.st.now a.low a.w (sym is ∙ c.if-is_disabled_carry.true)

pub returns-else-w-ge-CARRY_IN : goal.returns-else-w-ge-CARRY_IN
returns-else-w-ge-CARRY_IN c =
    let a = c.args in
    elim c.else-w-ge-CARRY_IN.branch [
      | else-w-ge-CARRY_IN-via-then-w-ge-CARRY_IN+else-is_disabled_carry w ↦
          let is = w.is_disabled_carry.ensures ∙ ap (is_disabled_carry a.st.now) (w.drive_of.ensures ∙ ap (drive_of a.b) w.from.ensures) in
          lower_carry_other a.b a.st.now a.low a.w (sym is ∙ w.if-is_disabled_carry.false)
      | else-w-ge-CARRY_IN-via-else-w-ge-CARRY_IN w ↦ lower_carry_other a.b a.st.now a.low a.w (low_port_no_carry a.b a.st.now a.w w.if-w-ge-CARRY_IN.false)
    ]
