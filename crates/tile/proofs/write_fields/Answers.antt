-- `write_fields` meets its contract. Invariant: the slots of the first f fields are written. Assumes nothing.
use mathlib.Core.Path.{ap, ◌∙◌}
use Prim.Native.Nat.{ℕ}
use native.Mathlib.Omega.{arith}
use Rattle.codec.specs.Settings.{field_setting}
use Rattle.codec.specs.Bits.{set_bit}
use Rattle.tile.proofs.WritingLaws.{field_turn}
use Rattle.tile.proofs.write_fields.Goals as goal

pub loop-f-preserved : goal.loop-f-preserved
loop-f-preserved c =
    field_turn c.args.table.now c.args.settings.now c.loop-f.bits _ c.requires.0
    c.loop-f.f c.loop-f.invariant (c.write_bit.ensures ∙ ap
    (λ (x : ℕ). set_bit c.loop-f.bits x (field_setting c.args.settings.now c.loop-f.f)) c.field-p.ensures) (omega arith)
