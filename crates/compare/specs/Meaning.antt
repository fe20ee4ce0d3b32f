-- What each answer of `compare` says, in the paper's words. proofs/MeaningLaws.antt shows it of every answer, so a reader has to believe only this and
-- the definitions that it names, and not how the rows are computed.
use Rattle.std.specs.Prelude.{ℕ, ◌*◌, ◌<◌, ◌≡◌, ◌↔◌, List, length, Result, Ok, Err}
use Rattle.lists.specs.Listing.{Lists}
use Rattle.refusal.specs.declared.Refusal.{Refusal}
use Rattle.refusal.specs.declared.Refusal.TheVariants.{WrongSize, WrongLength, Table, Undecodable, SizesDiffer, ListTooShort}
use Rattle.ports.specs.declared.size.Size.{Size}
use Rattle.ports.specs.Block.{Allowed, tile_count}
use Rattle.routing.specs.LogicTile.{logic_tile}
use Rattle.routing.specs.Rules.{TableRules, FirstBroken}
use Rattle.codec.specs.Reading.{Decodable}
use Rattle.config.specs.Blocks.{tiles_of}
use Rattle.config.specs.Facts.{LowestFault, TilesRead}
use Rattle.compare.specs.Difference.{DiffersIn}
use Rattle.compare.specs.Places.{row_length}
use Rattle.compare.specs.Lengths.{SameSize, CompareLong}
use Rattle.compare.specs.declared.lengths.CompareLent.{CompareLent}

module _ (A B : Size) (table first second : List ℕ) (lent : CompareLent) where
  -- none of grounds 1, 14 and 2
  pub record Alike : Type 0 where
    pub first_size : Allowed A
    pub second_size : Allowed B
    pub same_size : SameSize A B
    pub lengths : CompareLong A lent

  -- none of grounds 1 to 4: both blocks are read, the first to the settings `old`, the second to `new`
  pub record BothRead (old new : List ℕ) : Type 0 where
    pub alike : Alike
    pub rules : TableRules logic_tile table
    pub first_read : TilesRead table (tiles_of first) old (tile_count A)
    pub second_read : TilesRead table (tiles_of second) new (tile_count A)

  -- "lists every difference, each once and nothing else": so many rows, of what was read
  abbrev pub ListsDifferences : (old new list : List ℕ) → ℕ → Type 0
  ListsDifferences old new list rows = Lists (DiffersIn table old new (tile_count A)) row_length list rows

  -- what each no says, `list` being the length lent: "those of reading, each for the first block before the second; 14, sizes differ, place 0, after
  -- 1; 15, the lent list is too short, place the rows needed, last". There is no other no.
  pub data CompareNo (list : ℕ) : Refusal → Type 0 where
    wrong_first_size : (Allowed A → ⊥) → CompareNo list WrongSize
    wrong_second_size : Allowed A → (Allowed B → ⊥) → CompareNo list WrongSize
    sizes_differ : Allowed A → Allowed B → (SameSize A B → ⊥) → CompareNo list SizesDiffer
    wrong_length : Allowed A → Allowed B → SameSize A B → (CompareLong A lent → ⊥) → CompareNo list WrongLength
    broken : (part : ℕ) → Alike → FirstBroken logic_tile table part → CompareNo list (Table part)
    first_undecodable : (place : ℕ) → Alike → TableRules logic_tile table → LowestFault table (tiles_of first) (tile_count A) place
        → CompareNo list (Undecodable place)
    second_undecodable : (place : ℕ) → Alike → TableRules logic_tile table
        → ((t : ℕ) → t < tile_count A → Decodable table (tiles_of first t)) → LowestFault table (tiles_of second) (tile_count A) place
        → CompareNo list (Undecodable place)
    -- the rows needed are those of a list that holds every difference
    too_short : (rows : ℕ) (old new full : List ℕ) → BothRead old new → ListsDifferences old new full rows → list < row_length * rows
        → CompareNo list (ListTooShort rows)

  -- what a yes says, `list` being the lent list afterwards
  pub record Compares (list : List ℕ) (rows : ℕ) : Type 0 where
    pub old : List ℕ
    pub new : List ℕ
    pub both_read : BothRead old new
    pub listed : ListsDifferences old new list rows
    -- "It is empty exactly if the bits are equal."
    pub empty : (rows ≡ 0) ↔ (first ≡ second)

  -- `before` and `after` are the lent list, which keeps its length; "On a refusal the outputs keep their old contents"
  abbrev pub CompareSays : (before after : List ℕ) → Result ℕ Refusal → Type 0
  CompareSays before after (Ok rows) = (length after ≡ length before) × Compares after rows
  CompareSays before after (Err refusal) = (after ≡ before) × CompareNo (length before) refusal
