-- What each answer of `contentions` says, in the paper's words. proofs/MeaningLaws.antt shows it of every answer, so a reader has to believe only this and
-- the definitions that it names, and not how the rows are computed.
use Rattle.std.specs.Prelude.{ℕ, ◌*◌, ◌<◌, ◌≤◌, ◌≡◌, ◌↔◌, true, List, length, Result, Ok, Err}
use Rattle.lists.specs.Listing.{Lists}
use Rattle.refusal.specs.declared.Refusal.{Refusal}
use Rattle.refusal.specs.declared.Refusal.TheVariants.{WrongSize, WrongLength, Table, Undecodable, Contention, ListTooShort}
use Rattle.ports.specs.declared.size.Block.{Block}
use Rattle.ports.specs.Block.{Sized, tiles}
use Rattle.routing.specs.LogicTile.{logic_tile}
use Rattle.routing.specs.Rules.{TableRules, FirstBroken}
use Rattle.config.specs.Blocks.{tiles_of}
use Rattle.config.specs.Facts.{LowestFault, TilesRead}
use Rattle.block.specs.Building.{build_answer}
use Rattle.contention.specs.declared.lengths.ContentionLent.{ContentionLent}
use Rattle.contention.specs.Contentions.{row_length, ContentionRow}
use Rattle.contention.specs.Lengths.{ContentionLong}
use Rattle.contention.specs.Entry.{settings_read}

-- refusal 5 is given: `build`, lent slices of its exact lengths, answers it for this block
abbrev pub RefusedFive : Block → (table bits : List ℕ) → Type 0
RefusedFive B t bits = (w : ℕ) × (build_answer B t (tiles_of bits) true ≡ Err (Contention w))

module _ (B : Block) (t bits : List ℕ) (lent : ContentionLent) where
  -- "It works on blocks that pass 1 to 4": none of these grounds
  pub record Readable : Type 0 where
    pub size : Sized B
    pub lengths : ContentionLong B lent
    pub rules : TableRules logic_tile t
    pub tiles_read_lem : TilesRead t (tiles_of bits) (settings_read B t bits) (tiles B)

  -- "every fighting wire with every enabled switch that ends on it: a row [..] for each such switch, once, rising in that order, counted and
  -- zero-filled as in the comparison"
  abbrev pub ListsContentions : List ℕ → ℕ → Type 0
  ListsContentions list rows = Lists (ContentionRow B t (settings_read B t bits)) row_length list rows

  -- what each no says, `list` being the length lent: "1 to 4, then 15 as in the comparison". There is no other no.
  pub data ContentionsNo (list : ℕ) : Refusal → Type 0 where
    wrong_size : (Sized B → ⊥) → ContentionsNo list WrongSize
    wrong_length : Sized B → (ContentionLong B lent → ⊥) → ContentionsNo list WrongLength
    broken : (part : ℕ) → Sized B → ContentionLong B lent → FirstBroken logic_tile t part → ContentionsNo list (Table part)
    undecodable : (place : ℕ) → Sized B → ContentionLong B lent → TableRules logic_tile t → LowestFault t (tiles_of bits) (tiles B) place
        → ContentionsNo list (Undecodable place)
    -- the rows needed are those of a list that holds every contention
    too_short : (rows : ℕ) (full : List ℕ) → Readable → ListsContentions full rows → list < row_length * rows → ContentionsNo list (ListTooShort rows)

  -- what a yes says, `list` being the length lent and `after` the lent list afterwards
  pub record Listed (list : ℕ) (after : List ℕ) (rows : ℕ) : Type 0 where
    pub read : Readable
    pub fits : row_length * rows ≤ list
    pub listed : ListsContentions after rows
    -- "the list is empty exactly if refusal 5 would not be given"
    pub empty : (rows ≡ 0) ↔ (RefusedFive B t bits → ⊥)

  -- `before` and `after` are the lent list, which keeps its length; "On a refusal the outputs keep their old contents"
  abbrev pub ContentionsSay : (before after : List ℕ) → Result ℕ Refusal → Type 0
  ContentionsSay before after (Ok rows) = (length after ≡ length before) × Listed (length before) after rows
  ContentionsSay before after (Err refusal) = (after ≡ before) × ContentionsNo (length before) refusal
