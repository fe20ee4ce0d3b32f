-- The grounds of `contentions` in their order. Main law: `contentions_order`. Assumes nothing.
use Rattle.refusal.specs.Grounds.{answer_number, number_value}
use Rattle.std.specs.Prelude.{Result, Ok, Err}
use Prim.Native.Nat.{ℕ, ◌*◌, ◌≤◌}
use mathlib.Core.Path.{refl, ap}
use mathlib.Core.Logic.{inl, inr}
use mathlib.Core.List.{List}
use native.Mathlib.Omega.{arith}
use lib.ListN.{length}
use Rattle.lists.proofs.ListingLaws.{count_unique}
use Rattle.refusal.specs.Memory.{output}
use Rattle.refusal.specs.declared.Refusal.{Refusal}
use Rattle.ports.specs.declared.size.Block.{Block}
use Rattle.contention.specs.declared.lengths.ContentionLent.{ContentionLent}
use Rattle.contention.specs.Contentions.{row_length, ContentionRow}
use Rattle.contention.specs.Lengths.{contention_lent}
use Rattle.contention.specs.Entry.{contentions_list, settings_read}
use Rattle.contention.specs.Meaning.{ContentionsNo, ContentionsSay, wrong_size, wrong_length, broken, undecodable, too_short}
use Rattle.contention.proofs.MeaningLaws.{contentions_say}
use Rattle.theorem.specs.Calls.{contended}
use Rattle.theorem.specs.Order.{RowsNeeded}
use Rattle.theorem.specs.ContentionGrounds.{ContentionGrounds}
use Rattle.theorem.proofs.EntryOrder.{no_broken}

module _ (B : Block) (t bits list settings wires heads nexts : List ℕ) where
  abbrev lent : ContentionLent
  lent = contention_lent t bits settings wires heads nexts

  abbrev ContentionOrder : Result ℕ Refusal → Type 0
  ContentionOrder a = ContentionGrounds B t bits (settings_read B t bits) lent (length list) (answer_number a) (number_value a)

  order_no : (refusal : Refusal) → ContentionsNo B t bits lent (length list) refusal → ContentionOrder (Err refusal)
  order_no refusal (wrong_size n) = inl (n, refl, refl)
  order_no refusal (wrong_length s n) = inr (s, inl (n, refl, refl))
  order_no refusal (broken part s L f) = inr (s, inr (L, inl (no_broken t part f, refl, f)))
  order_no refusal (undecodable place s L rules low) =
      inr (s, inr (L, inr (rules, inl (λ d. d low.faulty_tile low.within low.position low.faulty, refl, low))))
  order_no refusal (too_short rows full R M short) =
      inr (
        R.size,
        inr (
          R.lengths,
          inr (
            R.rules,
            inr (
              R.tiles_read_lem.decodable,
              inl (λ fits. let f = fits rows (record { list = full; listed = M }) in omega arith, refl, record { list = full; listed = M }),
            ),
          ),
        ),
      )

  abbrev after : List ℕ
  after = output (answer_number (contended B t bits list settings wires heads nexts)) list (contentions_list B t bits (length list))

  pub contentions_order : ContentionOrder (contended B t bits list settings wires heads nexts)
  contentions_order =
      go (contended B t bits list settings wires heads nexts) after
      (contentions_say B t bits settings wires heads nexts list after (contended B t bits list settings wires heads nexts) refl refl)
    where
      go : (a : Result ℕ Refusal) (now : List ℕ) → ContentionsSay B t bits lent list now a → ContentionOrder a
      go (Ok rows) now (long, s) =
          let R = s.read in
          let fits : (n : ℕ) → RowsNeeded (ContentionRow B t (settings_read B t bits)) row_length n → row_length * n ≤ length list
          = λ n N. let f = s.fits in let e = ap (λ (x : ℕ). row_length * x) (count_unique s.listed N.listed) in omega arith in
          inr (R.size, inr (R.lengths, inr (R.rules, inr (R.tiles_read_lem.decodable, inr (fits, (refl, record { list = now; listed = s.listed }))))))
      go (Err refusal) now s = order_no refusal s.1
