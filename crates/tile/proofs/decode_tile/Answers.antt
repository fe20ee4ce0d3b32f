-- `decode_tile` meets its contract. Invariants: the settings are those of the bits (`Filled`) up to the groups, then the first g groups; zeros follow
-- (FillLaws). Assumes nothing.
use Rattle.codec.specs.Bits.{bit_at}
use mathlib.Core.Path.{◌≡◌, sym, subst, ◌∙◌}
use Prim.Native.Nat.{ℕ, ◌+◌, ◌-◌, ◌<◌, ◌≤◌}
use native.Mathlib.Omega.{arith}
use lib.ListN.{set, length}
use borrow.Rule.Slice.PartMut.{put_mid}
use mathlib.Core.Logic.{⊎_elim}
use Rattle.lists.proofs.CaseLaws.{lt_or_le}
use Rattle.lists.proofs.FillLaws.{zeroed_length, zeroed_front, zeroed_mid}
use Rattle.lists.proofs.TableLaws.{Filled, filled_step}
use Rattle.routing.specs.Table.{group_count}
use Rattle.routing.specs.LogicTile.{logic_tile}
use Rattle.ports.specs.Lengths.{settings_length}
use Rattle.codec.specs.Settings.{groups_from, cells_from}
use Rattle.codec.specs.Decode.{setting_at}
use Rattle.codec.proofs.BitLaws.{empty_clear}
use Rattle.codec.proofs.DecodeLaws.{decode_filled, decode_empty}
use Rattle.codec.proofs.SettingAtLaws.{setting_of_group, setting_group_rest}
use Rattle.tile.proofs.decode_tile.Goals as goal

-- no bit is set
pub returns-then-is_empty : goal.returns-then-is_empty
returns-then-is_empty c =
    c.fill.ensures.after (λ y e. e) ∙ decode_empty c.args.table.now c.args.bits.now
    (empty_clear c.args.bits.now c.requires.1 (sym c.is_empty.ensures ∙ c.if-is_empty.true)) _ c.requires.2

pub loop-g-preserved : goal.loop-g-preserved
loop-g-preserved c =
    subst (λ (x : ℕ). Filled (setting_at c.args.table.now (bit_at c.args.bits.now)) 0 settings_length x
    (set c.loop-g.settings (groups_from logic_tile + c.loop-g.g) c.group_setting.result))
    (let q : groups_from logic_tile + c.loop-g.g + 1 ≡ groups_from logic_tile + (c.loop-g.g + 1) = omega arith in q)
    (filled_step (setting_at c.args.table.now (bit_at c.args.bits.now)) 0 settings_length c.loop-g.settings
    (groups_from logic_tile + c.loop-g.g) _ c.loop-g.invariant
    (omega (arith, c.group_count-count.ensures, c.requires.0.few_groups))
    (c.group_setting.ensures ∙ sym (setting_of_group c.args.table.now c.args.bits.now c.loop-g.g
    (omega (arith, c.group_count-count.ensures, c.requires.0.few_groups))
    (let q : c.loop-g.g < group_count logic_tile c.args.table.now = omega (arith, c.group_count-count.ensures) in q))))

pub returns : goal.returns
returns c =
    let table = c.args.table.now in
    let bits = c.args.bits.now in
    let read = c.loop-g.settings in
    let count = c.group_count-count.ensures in
    let few = c.requires.0.few_groups in
    let from : ℕ = groups_from logic_tile + c.group_count-count.result in
    let many : ℕ = cells_from logic_tile - from in
    let inside : from + many ≤ length read = omega (arith, c.loop-g.invariant.long) in
    let cleared = c.fill-2.ensures.after (λ y e. e) in
    c.put_cells.ensures
    ∙ decode_filled table bits (put_mid from many read c.fill-2.new.self) _ (zeroed_length read _ from many inside cleared ∙ c.loop-g.invariant.long)
    (λ k h. ⊎_elim
    (λ l. zeroed_front read _ from many inside cleared k l ∙ c.loop-g.invariant.filled k (omega arith))
    (λ l. zeroed_mid read _ from many inside cleared k l (omega arith) ∙ sym (setting_group_rest table bits k (omega arith) (omega arith) (omega arith)))
    (lt_or_le k from))
    c.decode_cells.ensures
