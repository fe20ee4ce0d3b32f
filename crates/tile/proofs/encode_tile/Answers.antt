-- `encode_tile` meets its contract: cleared, then cells, fields, passive bits and groups, each from where the one before left off. Assumes
-- nothing.
use Rattle.routing.specs.Slots.{slots_of}
use Rattle.routing.specs.LogicTile.{logic_tile}
use Rattle.codec.specs.Encode.{slot_value}
use Rattle.tile.proofs.WritingLaws.{cells_end}
use Rattle.codec.proofs.TileRunLaws.{slot_value_lt}
use Rattle.codec.proofs.RunLaws.{all_written}
use Rattle.tile.proofs.encode_tile.Goals as goal

pub write_fields-requires : goal.write_fields-requires
write_fields-requires c = (
  (record { rules = c.requires.0; long = c.requires.1; fit = c.requires.2 }),
  cells_end c.args.table.now
      c.args.settings.now _ (record { rules = c.requires.0; long = c.requires.1; fit = c.requires.2 }) _ _ c.requires.3
      (c.fill.ensures.after (λ y e. e)) c.encode_cells.ensures,
)

pub returns : goal.returns
returns c =
    all_written (slots_of logic_tile c.args.table.now) (slot_value c.args.table.now c.args.settings.now)
    (slot_value_lt c.args.table.now c.args.settings.now) _ c.write_groups.ensures
