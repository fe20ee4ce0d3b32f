-- `contentions` meets its contract: size and lengths are exact, then the rows are listed and the work room cleared. Assumes nothing.
use Rattle.contention.proofs.EntryLaws.{answer_size, answer_length, answer_bits, room_cleared}
use Rattle.contention.proofs.LengthLaws.{contention_long_exact}
use Rattle.contention.proofs.MeaningLaws.{contentions_say}
use Rattle.contention.specs.Lengths.{contention_lent}
use Rattle.ports.proofs.BlockLaws.{sized_exact}
use lib.ListN.{length}
use mathlib.Core.Path.{refl, sym, ◌∙◌}
use Rattle.contention.proofs.contentions.Goals as goal

-- a size that no block has
pub returns-then-not-is_sized : goal.returns-then-not-is_sized
returns-then-not-is_sized c =
    let a = c.args in
    let answer = answer_size a.b a.table.now a.bits.now _ (length a.list.now) (sym c.is_sized.ensures ∙ c.if-not-is_sized.true) in
    record { answer = answer; list = refl; settings = refl; wires = refl; heads = refl; nexts = refl; says = contentions_say a.b a.table.now a.bits.now a.settings.now a.wires.now a.heads.now a.nexts.now a.list.now _ _ answer refl }

-- a length that is not the exact one
pub returns-then-not-is_contention_exact : goal.returns-then-not-is_contention_exact
returns-then-not-is_contention_exact c =
    let a = c.args in
    let answer = answer_length a.b a.table.now a.bits.now _ (length a.list.now) (sym c.is_sized.ensures ∙ c.if-not-is_sized.false) (sym c.is_contention_exact.ensures ∙ c.if-not-is_contention_exact.true) in
    record { answer = answer; list = refl; settings = refl; wires = refl; heads = refl; nexts = refl; says = contentions_say a.b a.table.now a.bits.now a.settings.now a.wires.now a.heads.now a.nexts.now a.list.now _ _ answer refl }

-- every other answer
pub returns : goal.returns
returns c =
    let a = c.args in
    let t = a.table.now in
    let bits = a.bits.now in
    let list = a.list.now in
    let settings = a.settings.now in
    let wires = a.wires.now in
    let heads = a.heads.now in
    let nexts = a.nexts.now in
    let lent = contention_lent t bits settings wires heads nexts in
    let sized = sym c.is_sized.ensures ∙ c.if-not-is_sized.false in
    let exact = sym c.is_contention_exact.ensures ∙ c.if-not-is_contention_exact.false in
    let cleared = room_cleared a.b t bits settings wires heads nexts ((sized_exact a.b).0 sized) ((contention_long_exact a.b lent).0 exact) (length list) _ c.list_bits-r.ensures.answer in
    let answer = c.list_bits-r.ensures.answer ∙ answer_bits a.b t bits _ (length list) sized exact in
    record { answer = answer; list = c.list_bits-r.ensures.list; settings = cleared settings c.list_bits-r.new.settings _ c.list_bits-r.auto.settings (c.fill.ensures.after (λ y e. e)); wires = cleared wires c.list_bits-r.new.wires _ c.list_bits-r.auto.wires (c.fill-2.ensures.after (λ y e. e)); heads = cleared heads c.list_bits-r.new.heads _ c.list_bits-r.auto.heads (c.fill-3.ensures.after (λ y e. e)); nexts = cleared nexts c.list_bits-r.new.nexts _ c.list_bits-r.auto.nexts (c.fill-4.ensures.after (λ y e. e)); says = contentions_say a.b t bits settings wires heads nexts list _ _ answer c.list_bits-r.ensures.list }
