-- What each answer of `shelf_card` says, in the paper's words. proofs/MeaningLaws.antt shows it of every answer, so a reader has to believe only this and
-- the definitions that it names, and not how the card is computed.
use Rattle.std.specs.Prelude.{ℕ, ◌<◌, ◌≡◌, List, length, Result, Ok, Err}
use Rattle.refusal.specs.declared.Refusal.{Refusal}
use Rattle.refusal.specs.declared.Refusal.TheVariants.{ListTooShort}
use Rattle.ports.specs.declared.size.Block.{Block}
use Rattle.block.specs.declared.lengths.BuildLent.{BuildLent}
use Rattle.block.specs.Meaning.{Readable, Accepted, BuildNo}
use Rattle.card.specs.Card.{Card}
use Rattle.card.specs.Entry.{settings_of}

module _ (B : Block) (t bits : List ℕ) (lent : BuildLent) where
  -- "Refusals: building's, then 15, place the numbers needed": what each no says, `card` being the length lent. There is no other no.
  pub data CardNo (card : ℕ) : Refusal → Type 0 where
    unbuilt : (refusal : Refusal) → BuildNo B t bits lent refusal → CardNo card refusal
    -- the numbers needed are those of a card that has room for all
    too_short : (numbers : ℕ) (full : List ℕ) → Readable B t bits lent → Accepted B t (settings_of B t bits) → Card B t (settings_of B t bits) full numbers
        → card < numbers → CardNo card (ListTooShort numbers)

  -- what a yes says of the lent card afterwards
  pub record Carries (after : List ℕ) (numbers : ℕ) : Type 0 where
    pub read : Readable B t bits lent
    pub accepted : Accepted B t (settings_of B t bits)
    pub card : Card B t (settings_of B t bits) after numbers

  -- `before` and `after` are the lent card, which keeps its length; "On a refusal the outputs keep their old contents"
  abbrev pub CardSays : (before after : List ℕ) → Result ℕ Refusal → Type 0
  CardSays before after (Ok n) = (length after ≡ length before) × Carries after n
  CardSays before after (Err refusal) = (after ≡ before) × CardNo (length before) refusal
