-- `read` meets its contract: no size, a wrong length, or what `read_into` says with rooms of the block's size. Assumes nothing.
use Rattle.std.specs.Prelude.{Err}
use Prim.Native.Nat.{◌*◌}
use mathlib.Core.Path.{◌≡◌, sym, refl, ap, ◌∙◌, subst}
use mathlib.Core.Bool.{true}
use native.Mathlib.Omega.{arith}
use lib.Seq.{length-take-le}
use Rattle.refusal.specs.declared.Refusal.TheVariants.{WrongSize, WrongLength}
use Rattle.ports.specs.Lengths.{tile_numbers, positions}
use Rattle.asc.specs.Area.{Area, area_at, tiles_of, sized}
use Rattle.asc.specs.Meaning.{by_size, by_length, AscSays}
use Rattle.asc.proofs.AnswerLaws.{read_told}
use Rattle.asc.proofs.read.Goals as goal

pub returns-in_default : goal.returns-in_default
returns-in_default c =
    let told = read_told (area_at c.args.s c.args.x c.args.y) c.args.text.now c.args.bits.now c.args.bits.now (Err WrongSize) (refl, by_size c.in_default.ensures) in
    record { answer = told.0; bits = told.1.0; says = told.1.1 }

pub returns-then-bits-n : goal.returns-then-bits-n
returns-then-bits-n c =
    let same = c.in-Some.ensures in
    let size = subst (λ (a : Area). sized a ≡ true) same c.in-Some.site.is_sized in
    let long = ap (λ t. tile_numbers * t) (c.tiles-n.ensures.0 ∙ ap tiles_of same) in
    let told =
    read_told (area_at c.args.s c.args.x c.args.y) c.args.text.now c.args.bits.now c.args.bits.now (Err WrongLength)
    (refl, by_length size (λ e. c.if-bits-n.true (e ∙ sym long))) in
    record { answer = told.0; bits = told.1.0; says = told.1.1 }

pub read_into-requires : goal.read_into-requires
read_into-requires c =
    let few = c.tiles-n.ensures.1 in
    let tiles = c.tiles-n.ensures.0 in (
      c.if-bits-n.false ∙ ap (λ t. tile_numbers * t) tiles,
      length-take-le _ _ (omega (arith, few, c.given_room-given.ensures)) ∙ tiles,
      length-take-le _ _ (omega (arith, few, c.content_room-content.ensures)) ∙ ap (λ t. positions * t) tiles,
    )

pub returns : goal.returns
returns c =
    let says = subst (λ (a : Area). AscSays a c.args.text.now c.args.bits.now c.read_into.new.bits c.read_into.result) c.in-Some.ensures c.read_into.ensures in
    let told = read_told (area_at c.args.s c.args.x c.args.y) c.args.text.now c.args.bits.now c.read_into.new.bits c.read_into.result says in
    record { answer = told.0; bits = told.1.0; says = told.1.1 }
