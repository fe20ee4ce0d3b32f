-- `try_decode` meets its contract. Invariant: what is gathered is right, and the set bits of the first i rows are taken. Assumes nothing.
use mathlib.Core.Path.{refl, sym, ap, ◌∙◌}
use mathlib.Core.Bool.{not}
use Prim.Native.Nat.{ℕ, ◌^◌, ◌<◌}
use native.Mathlib.Omega.{arith}
use lib.ListN.{get_or}
use Rattle.codec.specs.Bits.{unit}
use Rattle.lists.proofs.CaseLaws.{clash}
use Rattle.ports.specs.Lengths.{tile_numbers}
use Rattle.codec.specs.Limits.{both_carries}
use Rattle.codec.proofs.BitLaws.{empty_row, empty_clear}
use Rattle.codec.proofs.DecodeLaws.{decode_filled, decode_empty}
use Rattle.tile.proofs.Passing.{taken_turn, taken_end}
use Rattle.tile.proofs.TakenLaws.{taken_right, taken_exact, unfound_undecodable, empty_exact, refused_exact}
use Rattle.tile.proofs.reading.try_decode.Goals as goal

-- no bit is set
pub returns-then-is_empty : goal.returns-then-is_empty
returns-then-is_empty c =
    let args = c.args in
    let none = empty_clear args.bits.now c.requires.2 (sym c.is_empty.ensures ∙ c.if-is_empty.true) in
    record {
      answer = empty_exact args.table.now args.bits.now c.requires.0 none
          (empty_row args.bits.now (sym c.is_empty.ensures ∙ c.if-is_empty.true));
      settings = λ z. c.fill.ensures.after (λ y e. e) ∙ decode_empty args.table.now args.bits.now none _ c.requires.3;
    }

-- a bit that cannot be taken
pub returns-then-not-take_row : goal.returns-then-not-take_row
returns-then-not-take_row c = record { answer = refused_exact c.args.table.now c.args.bits.now c.requires.0 (c.take_row.ensures.no c.if-not-take_row.true); settings = λ z. clash z refl }

pub loop-i-preserved : goal.loop-i-preserved
loop-i-preserved c =
    let taken = c.take_row.ensures.yes c.if-not-take_row.false in
    (taken.0.gathered, taken_turn c.loop-i.invariant.1 taken.0 taken.1)

-- all bits are taken, and all patterns listed
pub returns : goal.returns
returns c =
    let table = c.args.table.now in
    let bits = c.args.bits.now in
    let gathered = c.loop-i.settings in
    let known = c.loop-i.invariant.0 in
    let all = taken_end table bits gathered c.loop-i.i (omega arith) c.loop-i.invariant.1 in
    let fits : (r : ℕ) → r < tile_numbers → get_or bits r 0 < 2 ^ unit = λ r l. (c.loop-i.invariant.1 r (omega arith)).fits in
    let found = c.find_settings.ensures.yes c.if-not-find_settings.false in
    let read = c.put_cells.ensures ∙ decode_filled table bits _ _ (found.long ∙ known.long)
    (taken_right table bits gathered _ c.requires.0 known all fits found) c.decode_cells.ensures in
    record { answer = ap not (c.has_both_carries.ensures ∙ ap both_carries read) ∙ taken_exact table bits gathered _ c.requires.0 known all fits found; settings = λ z. read }

-- a pattern that is not listed
pub returns-then-not-find_settings : goal.returns-then-not-find_settings
returns-then-not-find_settings c =
    let table = c.args.table.now in
    let bits = c.args.bits.now in
    let gathered = c.loop-i.settings in
    let all = taken_end table bits gathered c.loop-i.i (omega arith) c.loop-i.invariant.1 in
    record {
      answer = refused_exact table bits c.requires.0
          (unfound_undecodable table bits gathered c.requires.0 c.loop-i.invariant.0 all (c.find_settings.ensures.no c.if-not-find_settings.true));
      settings = λ z. clash z refl;
    }
