-- `config::blocks::read_block` meets its contract. Invariant: the first t tiles can be decoded, and the first t parts of the settings are those that were
-- decoded. Assumes nothing.
use mathlib.Core.Path.{◌≡◌, refl, sym, ap, ◌∙◌}
use Rattle.lists.proofs.BelowLaws.{below_is, below_past}
use Rattle.std.specs.Prelude.{Some}
use Prim.Native.Nat.{ℕ, ◌+◌, ◌*◌}
use native.Mathlib.Omega.{arith}
use lib.ListN.{take, drop}
use Rattle.lists.proofs.PartLaws.{part_size, part_code_length, put_length, joined_step, joined_end}
use Rattle.lists.proofs.SearchLaws.{first_le}
use Rattle.lists.specs.Parts.{joined}
use Rattle.lists.specs.Tables.{zeros}
use Rattle.routing.specs.LogicTile.{logic_tile}
use Rattle.ports.specs.Lengths.{tile_numbers, settings_length}
use Rattle.codec.specs.Bits.{bit_at, tile_of}
use Rattle.codec.specs.Decode.{decode}
use Rattle.codec.specs.Fault.{fault_at, tile_fault}
use Rattle.codec.proofs.FaultyLaws.{tile_fault_exact}
use Rattle.config.specs.Blocks.{bits_at, decoded_at, tiles_of, fault_place}
use Rattle.config.proofs.FaultPlaceLaws.{decodable_more, decodable_no_fault, fault_place_tile}
use Rattle.config.proofs.blocks.read_block.Goals as goal

pub loop-t-init : goal.loop-t-init
unfolding joined
loop-t-init c =
    (omega arith, (λ s l. absurd (omega arith)), c.requires.4, refl)

-- tile t is the lowest with a fault
pub returns-then-fault-lt-POSITIONS-clause-place : goal.returns-then-fault-lt-POSITIONS-clause-place
returns-then-fault-lt-POSITIONS-clause-place c =
    let args = c.args in
    let t = c.loop-t.t in
    let fault = c.read_tile-fault.ensures.fault ∙ ap (λ (x : ℕ). tile_fault args.table.now (tile_of (take x (drop (tile_numbers * t) args.bits.now)))) (part_size tile_numbers t) in
    let place = fault_place_tile args.table.now args.bits.now c.requires.1 args.n t (omega arith) c.loop-t.invariant.1 _ fault c.if-fault-lt-POSITIONS.true in
    ap Some place ∙ sym (below_is (864 * args.n) (fault_place args.table.now (tiles_of args.bits.now) args.n) (omega (arith, place, c.if-fault-lt-POSITIONS.true)))

pub returns-then-fault-lt-POSITIONS-clause-cleared : goal.returns-then-fault-lt-POSITIONS-clause-cleared
returns-then-fault-lt-POSITIONS-clause-cleared c =
    let args = c.args in
    let t = c.loop-t.t in
    let settings = c.loop-t.settings in
    let long = c.read_tile-fault.auto.settings ∙ part_code_length settings_length t args.n settings c.loop-t.invariant.2 (omega arith) in
    λ p e. c.fill.ensures.after (λ y q. q) ∙ ap zeros (put_length settings_length t settings c.read_tile-fault.new.settings (omega arith) long ∙ c.loop-t.invariant.2)

pub loop-t-preserved : goal.loop-t-preserved
unfolding decoded_at
loop-t-preserved c =
    let args = c.args in
    let t = c.loop-t.t in
    let table = args.table.now in
    let bits = args.bits.now in
    let settings = c.loop-t.settings in
    let part = c.read_tile-fault.new.settings in
    let long = c.read_tile-fault.auto.settings ∙ part_code_length settings_length t args.n settings c.loop-t.invariant.2 (omega arith) in
    let fault = c.read_tile-fault.ensures.fault ∙ ap (λ (x : ℕ). tile_fault table (tile_of (take x (drop (tile_numbers * t) bits)))) (part_size tile_numbers t) in
    let most = first_le (fault_at table (tile_of (take tile_numbers (drop (tile_numbers * t) bits)))) 0 864 in
    let none : tile_fault table (tiles_of bits t) ≡ 864 = omega (arith, fault, c.if-fault-lt-POSITIONS.false, most) in
    let read = c.read_tile-fault.ensures.settings (fault ∙ none) ∙ ap (λ (x : ℕ). decode table (bit_at (take x (drop (tile_numbers * t) bits)))) (part_size tile_numbers t) in
    (omega arith, decodable_more table (tiles_of bits) t c.loop-t.invariant.1 ((tile_fault_exact table (bits_at bits t) c.requires.1).0 none), put_length settings_length t settings part (omega arith) long ∙ c.loop-t.invariant.2, joined_step settings_length (decoded_at table (tiles_of bits)) t settings part (omega arith) long c.loop-t.invariant.3 read (settings_length * (t + 1)) (omega arith))

-- there is none
pub returns-clause-place : goal.returns-clause-place
returns-clause-place c =
    let args = c.args in
    let same : c.loop-t.t ≡ args.n = omega arith in
    let place = decodable_no_fault args.table.now args.bits.now c.requires.1 args.n (λ s l. c.loop-t.invariant.1 s (omega arith)) in
    sym (below_past (864 * args.n) (fault_place args.table.now (tiles_of args.bits.now) args.n) (omega (arith, place)))

pub returns-clause-settings : goal.returns-clause-settings
returns-clause-settings c =
    let args = c.args in
    let t = c.loop-t.t in
    let same : t ≡ args.n = omega arith in
    λ e. joined_end (decoded_at args.table.now (tiles_of args.bits.now)) t _ (settings_length * t) c.loop-t.settings c.loop-t.invariant.3 same (omega arith)
