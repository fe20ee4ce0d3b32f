-- `write_passives` meets its contract. Invariant: the slots of the first j passive bits are written. Assumes nothing.
use mathlib.Core.Path.{ap, ◌∙◌}
use Prim.Native.Nat.{ℕ, ◌<◌}
use native.Mathlib.Omega.{arith}
use Rattle.routing.specs.Table.{passive_count}
use Rattle.routing.specs.LogicTile.{logic_tile}
use Rattle.codec.specs.Settings.{passive_setting}
use Rattle.codec.specs.Bits.{set_bit}
use Rattle.tile.proofs.WritingLaws.{passive_turn, passive_end}
use Rattle.tile.proofs.write_passives.Goals as goal

pub loop-j-preserved : goal.loop-j-preserved
loop-j-preserved c =
    passive_turn c.args.table.now c.args.settings.now c.loop-j.bits _ c.requires.0
    c.loop-j.j c.loop-j.invariant (c.write_bit.ensures ∙ ap
    (λ (x : ℕ). set_bit c.loop-j.bits x (passive_setting logic_tile c.args.settings.now c.loop-j.j))
    c.passive-p.ensures) (let q : c.loop-j.j < passive_count logic_tile c.args.table.now = omega
    (arith, c.passive_count-j-end.ensures) in q)

pub returns : goal.returns
returns c =
    passive_end c.args.table.now c.args.settings.now c.loop-j.bits c.requires.0 c.loop-j.j
    c.loop-j.invariant (omega (arith, c.passive_count-j-end.ensures))
