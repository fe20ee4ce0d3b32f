-- `compare` meets its contract: sizes and lengths are exact, then the blocks are compared and the work room is cleared. Assumes nothing.
use mathlib.Core.Path.{refl, sym, ◌∙◌}
use lib.ListN.{length}
use Rattle.compare.proofs.EntryLaws.{compare_first_size, compare_second_size, compare_differ, compare_length, compare_bits, compare_cleared}
use Rattle.compare.proofs.LengthLaws.{sizes_test}
use Rattle.compare.proofs.MeaningLaws.{compare_says}
use Rattle.compare.proofs.compare.Goals as goal

-- the first block has no size
pub returns-then-not-is_allowed : goal.returns-then-not-is_allowed
returns-then-not-is_allowed c =
    let A = c.args.a in
    let B = c.args.b in
    let table = c.args.table.now in
    let first = c.args.first.now in
    let second = c.args.second.now in
    let list = c.args.list.now in
    let before = c.args.before.now in
    let after = c.args.after.now in
    let answer = compare_first_size A B table first second _ (length list) (sym c.is_allowed.ensures ∙ c.if-not-is_allowed.true) in
    let says =
    compare_says A B table first second before after list _ answer _ in
    record { answer = answer; list = refl; before = refl; after = refl; says = says refl }

-- the second has none
pub returns-then-not-is_allowed-2 : goal.returns-then-not-is_allowed-2
returns-then-not-is_allowed-2 c =
    let A = c.args.a in
    let B = c.args.b in
    let table = c.args.table.now in
    let first = c.args.first.now in
    let second = c.args.second.now in
    let list = c.args.list.now in
    let before = c.args.before.now in
    let after = c.args.after.now in
    let one = sym c.is_allowed.ensures ∙ c.if-not-is_allowed.false in
    let answer = compare_second_size A B table first second _ (length list) one (sym c.is_allowed-2.ensures ∙ c.if-not-is_allowed-2.true) in
    let says =
    compare_says A B table first second before after list _ answer _ in
    record { answer = answer; list = refl; before = refl; after = refl; says = says refl }

-- the sizes differ: the work room is zeroed, whatever its length
pub returns-then-ne : goal.returns-then-ne
returns-then-ne c =
    let A = c.args.a in
    let B = c.args.b in
    let table = c.args.table.now in
    let first = c.args.first.now in
    let second = c.args.second.now in
    let list = c.args.list.now in
    let before = c.args.before.now in
    let after = c.args.after.now in
    let one = sym c.is_allowed.ensures ∙ c.if-not-is_allowed.false in
    let other = sym c.is_allowed-2.ensures ∙ c.if-not-is_allowed-2.false in
    let answer = compare_differ A B table first second _ (length list) one other (sizes_test c.args.a c.args.b c.ne.ensures c.if-ne.true) in
    let says =
    compare_says A B table first second before after list _ answer _ in
    record { answer = answer; list = refl; before = c.fill.ensures.after (λ y e. e); after = c.fill-then-ne.ensures.after (λ y e. e); says = says refl }

-- a length that is not the exact one
pub returns-then-not-is_compare_exact : goal.returns-then-not-is_compare_exact
returns-then-not-is_compare_exact c =
    let A = c.args.a in
    let B = c.args.b in
    let table = c.args.table.now in
    let first = c.args.first.now in
    let second = c.args.second.now in
    let list = c.args.list.now in
    let before = c.args.before.now in
    let after = c.args.after.now in
    let one = sym c.is_allowed.ensures ∙ c.if-not-is_allowed.false in
    let other = sym c.is_allowed-2.ensures ∙ c.if-not-is_allowed-2.false in
    let same = sizes_test A B c.ne.ensures c.if-ne.false in
    let answer =
    compare_length A B table first second _ (length list) one other same (sym c.is_compare_exact.ensures ∙ c.if-not-is_compare_exact.true) in
    let says =
    compare_says A B table first second before after list _ answer _ in
    record { answer = answer; list = refl; before = refl; after = refl; says = says refl }

-- every other answer
pub returns : goal.returns
returns c =
    let A = c.args.a in
    let B = c.args.b in
    let table = c.args.table.now in
    let first = c.args.first.now in
    let second = c.args.second.now in
    let list = c.args.list.now in
    let before = c.args.before.now in
    let after = c.args.after.now in
    let one = sym c.is_allowed.ensures ∙ c.if-not-is_allowed.false in
    let other = sym c.is_allowed-2.ensures ∙ c.if-not-is_allowed-2.false in
    let same = sizes_test A B c.ne.ensures c.if-ne.false in
    let exact = sym c.is_compare_exact.ensures ∙ c.if-not-is_compare_exact.false in
    let told = c.compare_bits-r.ensures.answer in
    let answer = told ∙ compare_bits A B table first second _ (length list) one other same exact in
    let cleared = compare_cleared A table first second (length list) _ told in
    let says =
    compare_says A B table first second before after list _ answer _ in
    record {
      answer = answer;
      list = c.compare_bits-r.ensures.list;
      before = cleared before c.compare_bits-r.new.before _ c.compare_bits-r.auto.before (c.fill-2.ensures.after (λ y e. e));
      after = cleared after c.compare_bits-r.new.after _ c.compare_bits-r.auto.after
          (c.fill-3.ensures.after (λ y e. e));
      says = says c.compare_bits-r.ensures.list;
    }
