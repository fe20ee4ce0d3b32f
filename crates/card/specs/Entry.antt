-- What `shelf_card` answers and writes ("Refusals: building's, then 15, place the numbers needed").
use Rattle.refusal.specs.declared.Refusal.{Refusal}
use Rattle.std.specs.Prelude.{ℕ, Bool, List, leb, Result, Ok, Err}
use Rattle.lists.specs.Listing.{zero_filled}
use Rattle.refusal.specs.Grounds.{unless}
use Rattle.refusal.specs.declared.Refusal.TheVariants.{ListTooShort}
use Rattle.ports.specs.declared.size.Block.{Block}
use Rattle.ports.specs.Block.{tiles}
use Rattle.config.specs.Blocks.{decoded, tiles_of}
use Rattle.block.specs.Building.{build_answer}
use Rattle.card.specs.Card.{card_numbers, card_length}

-- ground 15 and the yes, where n numbers are needed; `card` is the length lent
unfoldable pub numbers_answer : (n card : ℕ) → Result ℕ Refusal
numbers_answer n card = unless (leb n card) (Err (ListTooShort n)) (Ok n)

-- a no of building, or what comes after a yes
abbrev pub after_build : Result ℕ Refusal → Result ℕ Refusal → Result ℕ Refusal
after_build (Ok rows) later = later
after_build (Err refusal) later = Err refusal

-- what the bits read to
abbrev pub settings_of : Block → (table bits : List ℕ) → List ℕ
settings_of B t bits = decoded t (tiles_of bits) (tiles B)

-- grounds 1 to 8, those of building, then 15; `lengths` is whether every lent length but the card's is the exact one
unfoldable pub card_answer : Block → (table bits : List ℕ) → Bool → ℕ → Result ℕ Refusal
card_answer B t bits lengths card =
    after_build (build_answer B t (tiles_of bits) lengths) (numbers_answer (card_length B t (settings_of B t bits)) card)

-- the lent card after a yes: the numbers, "the rest zeros"
abbrev pub card_after : Block → (table bits : List ℕ) → ℕ → List ℕ
card_after B t bits card = zero_filled card (card_numbers B t (settings_of B t bits))
