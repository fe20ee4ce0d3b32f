-- What an answer of `shelf_card` says fits one answer and one card only. Main laws: `card_exact`, `numbers_unique`. Assumes nothing.
use Rattle.std.specs.Prelude.{Result, Ok, Err}
use Prim.Native.Nat.{ℕ, suc, zero, min, ◌+◌, ◌-◌, ◌≤◌, ◌<◌}
use mathlib.Core.Path.{◌≡◌, refl, sym, ap, subst, ◌∙◌}
use mathlib.Core.Logic.{⊎_elim}
use mathlib.Core.List.{List}
use native.Mathlib.Omega.{arith}
use lib.ListN.{length, get_or, take, drop, length-take, length-drop}
use lib.Seq.{get_or-take, get_or-drop, ext_get_or}
use Rattle.lists.specs.Listing.{Lists}
use Rattle.lists.proofs.CaseLaws.{lt_or_le}
use Rattle.lists.proofs.ListingLaws.{count_unique, listed_unique}
use Rattle.ports.specs.declared.size.Block.{Block}
use Rattle.card.specs.Leaving.{LeavingWire}
use Rattle.card.specs.Feeding.{FeedingWire}
use Rattle.card.specs.Card.{Wire, Card, card_length}
use Rattle.refusal.specs.declared.Refusal.{Refusal}
use Rattle.fabric.specs.Count.{wires}
use Rattle.config.specs.Blocks.{tiles_of}
use Rattle.block.specs.declared.lengths.RoomLent.{RoomLent}
use Rattle.block.specs.declared.lengths.BuildLent.{BuildLent}
use Rattle.block.specs.Lengths.{build_lent, build_exact}
use Rattle.block.specs.Building.{build_answer}
use Rattle.block.specs.Meaning.{Readable, Accepted, BuildSays}
use Rattle.block.proofs.MeaningLaws.{build_says}
use Rattle.block.proofs.ExactLaws.{build_exact_lem}
use Rattle.card.specs.Entry.{numbers_answer, settings_of, card_answer}
use Rattle.card.specs.Meaning.{CardNo, unbuilt, too_short, CardSays}
use Rattle.card.proofs.EntryLaws.{numbers_short, numbers_yes, bits_no, bits_yes}
use Rattle.card.proofs.MeaningLaws.{accepted_routed, accepted_card}

module _ (B : Block) (t st : List ℕ) {a b : List ℕ} {m n : ℕ} (C : Card B t st a m) (D : Card B t st b n) where
  leaving_same : C.leaving ≡ D.leaving
  leaving_same = count_unique C.leaving_wires D.leaving_wires

  feeding_same : C.feeding ≡ D.feeding
  feeding_same = count_unique C.feeding_wires D.feeding_wires

  pub numbers_unique : m ≡ n
  numbers_unique = let e = leaving_same in let f = feeding_same in let p = C.numbers_are in let q = D.numbers_are in omega arith

  -- the numbers agree, place by place
  module _ (long : length a ≡ length b) where
    leaving_part : take C.leaving (drop 5 a) ≡ take C.leaving (drop 5 b)
    leaving_part =
        listed_unique C.leaving_wires (subst (λ (k : ℕ). Lists (Wire (LeavingWire B t st)) 1 (take k (drop 5 b)) k) (sym leaving_same) D.leaving_wires)
        (omega arith) (length-take C.leaving (drop 5 a) ∙ ap (λ (k : ℕ). min C.leaving k) (length-drop 5 a ∙ ap (λ (k : ℕ). k - 5) long ∙ sym (length-drop 5 b))
        ∙ sym (length-take C.leaving (drop 5 b)))

    feeding_part : drop (6 + C.leaving) a ≡ drop (6 + C.leaving) b
    feeding_part =
        listed_unique C.feeding_wires (subst (λ (k : ℕ). Lists (Wire (FeedingWire B t st)) 1 (drop (6 + k) b) D.feeding) (sym leaving_same) D.feeding_wires)
        (omega arith) (length-drop (6 + C.leaving) a ∙ ap (λ (k : ℕ). k - (6 + C.leaving)) long ∙ sym (length-drop (6 + C.leaving) b))

    at_front : (k : ℕ) → k < 5 → get_or a k 0 ≡ get_or b k 0
    at_front zero l = C.width ∙ sym D.width
    at_front (suc zero) l = C.height ∙ sym D.height
    at_front (suc (suc zero)) l = C.cells ∙ sym D.cells
    at_front (suc (suc (suc zero))) l = C.flip_flops ∙ sym D.flip_flops
    at_front (suc (suc (suc (suc zero)))) l = C.leaving_count ∙ leaving_same ∙ sym D.leaving_count
    at_front (suc (suc (suc (suc (suc k))))) l = absurd (omega arith)

    at_leaving : (k : ℕ) → k < C.leaving → get_or a (5 + k) 0 ≡ get_or b (5 + k) 0
    at_leaving k l =
        sym (get_or-take C.leaving (drop 5 a) k 0 l ∙ get_or-drop 5 a k 0) ∙ ap (λ (x : List ℕ). get_or x k 0) leaving_part
        ∙ (get_or-take C.leaving (drop 5 b) k 0 l ∙ get_or-drop 5 b k 0)

    at_count : get_or a (5 + C.leaving) 0 ≡ get_or b (5 + C.leaving) 0
    at_count = C.feeding_count ∙ feeding_same ∙ sym D.feeding_count ∙ ap (λ (k : ℕ). get_or b (5 + k) 0) (sym leaving_same)

    at_feeding : (k : ℕ) → get_or a (6 + C.leaving + k) 0 ≡ get_or b (6 + C.leaving + k) 0
    at_feeding k = sym (get_or-drop (6 + C.leaving) a k 0) ∙ ap (λ (x : List ℕ). get_or x k 0) feeding_part ∙ get_or-drop (6 + C.leaving) b k 0

    at_place : (k : ℕ) → get_or a k 0 ≡ get_or b k 0
    at_place k =
        ⊎_elim (λ (l : k < 5). at_front k l)
        (λ (l : 5 ≤ k).
        ⊎_elim (λ (h : k < 5 + C.leaving). moved (k - 5) 5 (omega arith) (at_leaving (k - 5) (omega arith)))
        (λ (h : 5 + C.leaving ≤ k).
        ⊎_elim (λ (g : 5 + C.leaving < k). moved (k - (6 + C.leaving)) (6 + C.leaving) (omega arith) (at_feeding (k - (6 + C.leaving))))
        (λ (g : k ≤ 5 + C.leaving). let e : 5 + C.leaving ≡ k = omega arith in subst (λ (x : ℕ). get_or a x 0 ≡ get_or b x 0) e at_count)
        (lt_or_le (5 + C.leaving) k))
        (lt_or_le k (5 + C.leaving)))
        (lt_or_le k 5)
      where
        moved : (i base : ℕ) → base + i ≡ k → get_or a (base + i) 0 ≡ get_or b (base + i) 0 → get_or a k 0 ≡ get_or b k 0
        moved i base e q = subst (λ (x : ℕ). get_or a x 0 ≡ get_or b x 0) e q

    pub card_unique : a ≡ b
    card_unique = ext_get_or 0 a b long (λ k l. at_place k)

-- ---- one answer, and one card, only

module _ (B : Block) (t bits settings : List ℕ) (room : RoomLent) where
  abbrev lent : BuildLent
  lent = build_lent t bits settings room

  abbrev st : List ℕ
  st = settings_of B t bits

  abbrev told : ℕ → Result ℕ Refusal
  told card = card_answer B t bits (build_exact B lent) card

  -- a no, or a yes, of building is its answer
  built_as : (r : Result ℕ Refusal) → BuildSays B t bits lent r → r ≡ build_answer B t (tiles_of bits) (build_exact B lent)
  built_as r s = build_exact_lem B t bits lent r _ s (build_says B t bits settings room _ refl)

  module _ (R : Readable B t bits lent) (A : Accepted B t st) where
    count_is : (full : List ℕ) (numbers : ℕ) → Card B t st full numbers → numbers ≡ card_length B t st
    count_is full numbers C = numbers_unique B t st C (accepted_card B t st (accepted_routed B t bits lent R) A (card_length B t st) (omega arith))

    yes_told : (card : ℕ) → numbers_answer (card_length B t st) card ≡ told card
    yes_told card = bits_yes B t bits (build_exact B lent) card (Ok (wires B)) (built_as (Ok (wires B)) (R, refl, A)) (wires B) refl

  no_told : (card : ℕ) (refusal : Refusal) → CardNo B t bits lent card refusal → Err refusal ≡ told card
  no_told card refusal (unbuilt r n) = bits_no B t bits (build_exact B lent) card (Err r) (built_as (Err r) n) r refl
  no_told card refusal (too_short numbers full R A C short) =
      numbers_short numbers (card_length B t st) card (count_is R A full numbers C) short ∙ yes_told R A card

  says_told : (before after : List ℕ) (r : Result ℕ Refusal) → CardSays B t bits lent before after r → r ≡ told (length before)
  says_told before after (Ok n) (long, y) =
      let f = y.card.room in
      numbers_yes n (card_length B t st) (length before) (count_is y.read y.accepted after n y.card) (omega arith)
      ∙ yes_told y.read y.accepted (length before)
  says_told before after (Err refusal) says = no_told (length before) refusal says.1

  pub card_exact : (before a b : List ℕ) (r q : Result ℕ Refusal) → CardSays B t bits lent before a r → CardSays B t bits lent before b q → (r ≡ q) × (a ≡ b)
  card_exact before a b r q x y =
      let e : r ≡ q = says_told before a r x ∙ sym (says_told before b q y) in
      (e, same r x (subst (CardSays B t bits lent before b) (sym e) y))
    where
      same : (r : Result ℕ Refusal) → CardSays B t bits lent before a r → CardSays B t bits lent before b r → a ≡ b
      same (Ok n) x y = card_unique B t st x.1.card y.1.card (x.0 ∙ sym y.0)
      same (Err refusal) x y = x.0 ∙ sym y.0
