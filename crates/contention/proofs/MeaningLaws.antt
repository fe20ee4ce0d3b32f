-- Every answer of `contentions` says what specs/Meaning.antt has. Main law: `contentions_say`; `read_routed`: what a yes of reading shows. Assumes nothing.
use Rattle.refusal.specs.Grounds.{answer_number}
use Rattle.std.specs.Prelude.{Result, Ok, Err}
use Prim.Native.Nat.{ℕ, ◌*◌, ◌≤◌}
use mathlib.Core.Path.{◌≡◌, refl, sym, ap, subst}
use mathlib.Core.Logic.{◌↔◌}
use mathlib.Core.List.{List}
use native.Mathlib.Omega.{arith}
use borrow.Author.Tests.{leb-true, leb-false}
use lib.Dec.{leb}
use lib.ListN.{length}
use Rattle.lists.proofs.CaseLaws.{clash}
use Rattle.lists.specs.Listing.{zero_filled}
use Rattle.refusal.specs.Memory.{output}
use Rattle.refusal.specs.declared.Refusal.{Refusal}
use Rattle.refusal.proofs.GroundsLaws.{unless_cases}
use Rattle.refusal.proofs.MemoryLaws.{output_refused}
use Rattle.ports.specs.declared.size.Block.{Block}
use Rattle.ports.specs.Block.{Sized, size_of, tiles, sized}
use Rattle.ports.specs.Lengths.{settings_total}
use Rattle.ports.proofs.BlockLaws.{sized_exact, sized_true, sized_allowed}
use Rattle.routing.specs.LogicTile.{logic_tile}
use Rattle.config.specs.Blocks.{fault_place, tiles_of}
use Rattle.config.specs.Entry.{read_answer}
use Rattle.config.specs.Meaning.{ReadNo}
use Rattle.config.specs.Meaning as reading
use Rattle.config.proofs.PassedLaws.{read_passed, read_clean}
use Rattle.config.proofs.FaultPlaceLaws.{decodable_no_fault}
use Rattle.config.proofs.MeaningLaws.{read_says}
use Rattle.equations.specs.Routed.{Routed}
use Rattle.block.proofs.RoutedLaws.{routed_of_read}
use Rattle.contention.specs.declared.lengths.ContentionLent.{ContentionLent}
use Rattle.contention.specs.Contentions.{row_length, contention_count, contentions}
use Rattle.contention.specs.Lengths.{contention_lent, contention_exact, ContentionLong}
use Rattle.contention.specs.Entry.{rows_answer, after_read, settings_read, bits_answer, contentions_answer, contentions_list}
use Rattle.contention.specs.Meaning.{RefusedFive, Readable, ContentionsNo, wrong_size, wrong_length, broken, undecodable, too_short, ContentionsSay}
use Rattle.contention.proofs.ContentionLaws.{contentions_listed, contentions_length, empty_exact}
use Rattle.contention.proofs.RefusalLaws.{five_exact}
use Rattle.contention.proofs.LengthLaws.{contention_long_exact}
use Rattle.contention.proofs.EntryLaws.{read_lengths}

-- ---- a yes of reading

module _ (B : Block) (t bits settings : List ℕ) (size : Sized B) (done : read_answer (size_of B) t bits (length settings) ≡ (Ok tt)) where
  no_fault : logic_tile.positions * tiles B ≤ fault_place t (tiles_of bits) (tiles B)
  no_fault =
      let rules = (read_passed (size_of B) t bits (length settings) done).rules in
      let e = decodable_no_fault t bits rules (tiles B) (read_clean (size_of B) t bits (length settings) done) in
      omega arith

  pub read_routed : Routed B t (settings_read B t bits)
  read_routed = routed_of_read B t bits size (read_passed (size_of B) t bits (length settings) done).rules no_fault

  -- no row exactly if refusal 5 would not be given
  read_empty : (contention_count B t (settings_read B t bits) ≡ 0) ↔ (RefusedFive B t bits → ⊥)
  read_empty =
      let five = five_exact B t bits size (read_passed (size_of B) t bits (length settings) done).rules no_fault in
      let none = empty_exact B t (settings_read B t bits) read_routed in
      (λ e. five.1 (none.0 e), λ n. none.1 (five.0 n))

-- ---- every answer

module _ (B : Block) (t bits settings wires heads nexts old : List ℕ) where
  abbrev lent : ContentionLent
  lent = contention_lent t bits settings wires heads nexts

  abbrev st : List ℕ
  st = settings_read B t bits

  abbrev Says : Result ℕ Refusal → Type 0
  Says r = ContentionsSay B t bits lent old (output (answer_number r) old (contentions_list B t bits (length old))) r

  module _ (size : Sized B) (long : ContentionLong B lent) where
    -- the two grounds of reading that are left
    read_no : (refusal : Refusal) → ReadNo (size_of B) t bits (length settings) refusal → ContentionsNo B t bits lent (length old) refusal
    read_no refusal (reading.wrong_size n) = absurd (n (sized_allowed B size))
    read_no refusal (reading.wrong_length n) = absurd (n.1 (read_lengths B t bits settings wires heads nexts size long))
    read_no refusal (reading.broken part n) = broken part size long n.2
    read_no refusal (reading.undecodable place C low) = undecodable place size long C.rules low

    rows_say : read_answer (size_of B) t bits (length settings) ≡ (Ok tt) → Says (rows_answer B t st (length old))
    unfolding rows_answer
    rows_say done =
        unless_cases Says (leb (row_length * contention_count B t st) (length old)) _ _
        (λ f. (
          refl,
          too_short _ (zero_filled (row_length * contention_count B t st) (contentions B t st)) read
              (contentions_listed B t st ok (row_length * contention_count B t st) (omega arith)) (leb-false _ _ f),
        ))
        (λ f. (
          contentions_length B t st ok (length old) (leb-true _ _ f),
          record {
            read = read;
            fits = leb-true _ _ f;
            listed = contentions_listed B t st ok (length old) (leb-true _ _ f);
            empty = read_empty B t bits settings size done;
          },
        ))
      where
        ok : Routed B t st
        ok = read_routed B t bits settings size done

        read : Readable B t bits lent
        read = record {
          size = size;
          lengths = long;
          rules = (read_passed (size_of B) t bits (length settings) done).rules;
          tiles_read_lem = (read_says (size_of B) t bits settings _ (Ok tt) (sym done) refl).1;
        }

    bits_say : Says (bits_answer B t bits (length old))
    unfolding bits_answer
    bits_say = go (read_answer (size_of B) t bits (settings_total (size_of B))) (ap (read_answer (size_of B) t bits) long.settings_long)
      where
        go : (a : Result (Unit {0}) Refusal) → read_answer (size_of B) t bits (length settings) ≡ a → Says (after_read a (rows_answer B t st (length old)))
        go (Ok _) e = rows_say e
        go (Err refusal) e =
            (output_refused old _ refusal, read_no refusal (read_says (size_of B) t bits settings _ (Err refusal) (sym e) refl).1)

  contentions_mean : Says (contentions_answer B t bits (contention_exact B lent) (length old))
  unfolding contentions_answer
  contentions_mean =
      unless_cases Says (sized B) _ _ (λ e. (refl, wrong_size (λ S. clash (sized_true B S) e)))
      (λ s. let size = (sized_exact B).0 s in
      unless_cases Says (contention_exact B lent) _ _ (λ e. (refl, wrong_length size (λ L. clash ((contention_long_exact B lent).1 L) e)))
      (λ l. bits_say size ((contention_long_exact B lent).0 l)))

  -- the same of what `contentions` promises of its answer and of the lent list
  pub contentions_say : (after : List ℕ) (r : Result ℕ Refusal) → r ≡ contentions_answer B t bits (contention_exact B lent) (length old)
      → after ≡ output (answer_number r) old (contentions_list B t bits (length old)) → ContentionsSay B t bits lent old after r
  contentions_say after r e q =
      subst (λ (x : List ℕ). ContentionsSay B t bits lent old x r) (sym q) (subst Says (sym e) contentions_mean)
