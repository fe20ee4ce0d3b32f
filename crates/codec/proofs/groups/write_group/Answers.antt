-- `write_group` meets its contract: off is clear already, else the pattern of the entry is written. Assumes nothing.
use mathlib.Core.Path.{sym, ap, ◌∙◌}
use Prim.Native.Nat.{ℕ}
use Rattle.routing.specs.LogicTile.{logic_tile}
use Rattle.routing.specs.Table.{width_of, position_at}
use Rattle.codec.specs.Groups.{pattern_of}
use Rattle.codec.specs.Bits.{set_bits}
use Rattle.codec.specs.Held.{with_held}
use Rattle.codec.proofs.SetBitsLaws.{set_bits_clear}
use Rattle.codec.proofs.groups.write_group.Goals as goal

pub returns-then-setting-eq0 : goal.returns-then-setting-eq0
returns-then-setting-eq0 c =
    let meant = with_held c.args.bits.now c.args.held in
    record {
      row = c.requires.1;
      bits = sym (ap (λ (s : ℕ). set_bits meant (position_at logic_tile c.args.table.now c.args.g)
          (pattern_of logic_tile c.args.table.now c.args.g s) (width_of logic_tile c.args.table.now c.args.g))
          c.if-setting-eq0.true ∙ set_bits_clear meant (position_at logic_tile c.args.table.now c.args.g)
          (width_of logic_tile c.args.table.now c.args.g) c.requires.3);
    }
