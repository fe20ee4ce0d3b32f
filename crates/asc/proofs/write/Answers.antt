-- `write` meets its contract: the grounds in their order, and the file. Assumes nothing.
use Rattle.std.specs.Prelude.{Ok, Err}
use Prim.Native.Nat.{◌*◌}
use mathlib.Core.Path.{◌≡◌, refl, sym, ap, ◌∙◌, subst}
use mathlib.Core.Bool.{true}
use native.Mathlib.Omega.{arith}
use lib.ListN.{length}
use Rattle.refusal.specs.declared.Refusal.TheVariants.{WrongSize, WrongLength, Undecodable}
use Rattle.asc.specs.Area.{Area, area_at, tiles_of, sized}
use Rattle.ports.specs.Lengths.{tile_numbers}
use Rattle.asc.specs.Content.{written, text_length}
use Rattle.asc.specs.WriteMeaning.{WriteLent, by_size, by_length}
use Rattle.asc.proofs.WriteAnswerLaws.{write_stray, write_done, write_told}
use Rattle.asc.proofs.write.Goals as goal
use Rattle.asc.proofs.write.Goals.{then-bits-tiles-via-then-bits-tiles, then-bits-tiles-via-else-bits-tiles+then-text-file_length}

pub returns-in_default : goal.returns-in_default
returns-in_default c =
    let told = write_told (area_at c.args.s c.args.x c.args.y) c.args.bits.now c.args.text.now c.args.text.now (Err WrongSize) (refl, by_size c.in_default.ensures) in
    record { answer = told.0; text = told.1.0; says = told.1.1 }

pub returns-then-bits-tiles : goal.returns-then-bits-tiles
returns-then-bits-tiles c =
    let place = area_at c.args.s c.args.x c.args.y in
    let same = c.in-Some.ensures in
    let size = subst (λ (a : Area). sized a ≡ true) same c.in-Some.site.is_sized in
    let tiles = ap (λ t. tile_numbers * t) (c.tiles.ensures.0 ∙ ap tiles_of same) in
    let not-lent : WriteLent place (length c.args.bits.now) (length c.args.text.now) → ⊥ =
    λ l.
    elim c.then-bits-tiles.branch [
      | then-bits-tiles-via-then-bits-tiles w ↦ w.if-bits-tiles.true (l.bits_long ∙ sym tiles)
      | then-bits-tiles-via-else-bits-tiles+then-text-file_length w ↦ w.if-text-file_length.true (l.text_long ∙ sym (w.file_length.ensures.0 ∙ ap text_length same))
    ] in
    let told = write_told place c.args.bits.now c.args.text.now c.args.text.now (Err WrongLength) (refl, by_length size not-lent) in
    record { answer = told.0; text = told.1.0; says = told.1.1 }

pub stray_place-requires : goal.stray_place-requires
stray_place-requires c = omega (arith, c.tiles.ensures.1, c.if-bits-tiles.false)

pub returns-then-stray-bits : goal.returns-then-stray-bits
returns-then-stray-bits c =
    let place = area_at c.args.s c.args.x c.args.y in
    let same = c.in-Some.ensures in
    let lent : WriteLent place (length c.args.bits.now) (length c.args.text.now) = record {
      right_size = subst (λ (a : Area). sized a ≡ true) same c.in-Some.site.is_sized;
      bits_long = c.if-bits-tiles.false ∙ ap (λ t. tile_numbers * t) (c.tiles.ensures.0 ∙ ap tiles_of same);
      text_long = c.if-text-file_length.false ∙ c.file_length.ensures.0 ∙ ap text_length same;
    } in
    let says = write_stray place c.args.bits.now c.args.text.now lent c.first_stray-stray.result c.first_stray-stray.ensures c.stray_place.result (omega (arith, c.if-stray-bits.true)) c.stray_place.ensures in
    let told = write_told place c.args.bits.now c.args.text.now c.args.text.now (Err (Undecodable c.stray_place.result)) says in
    record { answer = told.0; text = told.1.0; says = told.1.1 }

pub returns : goal.returns
returns c =
    let place = area_at c.args.s c.args.x c.args.y in
    let same = c.in-Some.ensures in
    let lent : WriteLent place (length c.args.bits.now) (length c.args.text.now) = record {
      right_size = subst (λ (a : Area). sized a ≡ true) same c.in-Some.site.is_sized;
      bits_long = c.if-bits-tiles.false ∙ ap (λ t. tile_numbers * t) (c.tiles.ensures.0 ∙ ap tiles_of same);
      text_long = c.if-text-file_length.false ∙ c.file_length.ensures.0 ∙ ap text_length same;
    } in
    let file = c.put_file.ensures ∙ ap (λ (a : Area). written a c.args.bits.now) same in
    let says = write_done place c.args.bits.now c.args.text.now lent c.first_stray-stray.result c.first_stray-stray.ensures c.put_file.new.text (omega arith) file in
    let told = write_told place c.args.bits.now c.args.text.now c.put_file.new.text (Ok tt) says in
    record { answer = told.0; text = told.1.0; says = told.1.1 }
