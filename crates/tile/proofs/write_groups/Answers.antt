-- `write_groups` meets its contract. Invariant: with the row that is held, the slots of the first g groups are written. Measure: the groups left.
-- Assumes nothing.
use mathlib.Core.Path.{sym, ◌∙◌, subst}
use Prim.Native.Nat.{◌<◌}
use native.Mathlib.Omega.{arith}
use Rattle.routing.specs.Slots.{slot_count}
use Rattle.routing.specs.Table.{group_count}
use Rattle.routing.specs.LogicTile.{logic_tile}
use Rattle.codec.specs.Held.{with_held}
use Rattle.codec.specs.Writing.{TileWritten}
use Rattle.tile.proofs.WritingLaws.{group_turn, group_end, group_clear, groups_off}
use Rattle.codec.proofs.LimitLaws.{fit_group}
use Rattle.tile.proofs.write_groups.Goals as goal

pub write_group-held-requires : goal.write_group-held-requires
write_group-held-requires c =
    let is_group : c.loop-g.g < group_count logic_tile c.args.table.now = omega (arith, c.group_count-n.ensures) in (
      (c.requires.0.rules, is_group, c.loop-g.invariant.1),
      c.loop-g.invariant.2,
      fit_group c.args.table.now c.args.settings.now c.requires.0.fit c.loop-g.g
          (omega (arith, is_group, c.requires.0.rules.few_groups)) is_group,
      group_clear c.args.table.now c.args.settings.now (with_held c.loop-g.bits c.loop-g.held)
          c.requires.0 c.loop-g.g c.loop-g.invariant.3 is_group,
    )

pub loop-g-preserved-then-setting-ne0 : goal.loop-g-preserved-then-setting-ne0
loop-g-preserved-then-setting-ne0 c = (
  omega arith,
  c.write_group-held.auto.bits ∙ c.loop-g.invariant.1,
  c.write_group-held.ensures.row,
  group_turn c.args.table.now c.args.settings.now (with_held c.loop-g.bits c.loop-g.held) _
      c.requires.0 c.loop-g.g c.loop-g.invariant.3 c.write_group-held.ensures.bits
      (let q : c.loop-g.g < group_count logic_tile c.args.table.now = omega (arith, c.group_count-n.ensures) in q),
)

pub loop-g-preserved : goal.loop-g-preserved
loop-g-preserved c =
    let passed = c.after_off-g.ensures in (
      passed.1,
      c.loop-g.invariant.1,
      c.loop-g.invariant.2,
      groups_off c.args.table.now c.args.settings.now (with_held c.loop-g.bits c.loop-g.held)
          c.requires.0 c.loop-g.g _ c.loop-g.invariant.3 (omega (arith, passed.0))
          (omega (arith, passed.1, c.group_count-n.ensures)) passed.2,
    )

pub returns : goal.returns
returns c =
    subst (TileWritten c.args.table.now c.args.settings.now (slot_count logic_tile)) (sym c.store_held.ensures)
    (group_end c.args.table.now c.args.settings.now (with_held c.loop-g.bits c.loop-g.held) c.requires.0
    c.loop-g.g c.loop-g.invariant.3 (omega (arith, c.group_count-n.ensures)))
