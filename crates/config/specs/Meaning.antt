-- What each answer of `read` says, case by case. `proofs/MeaningLaws.antt` shows it of every answer, so a reader has to believe this
-- definition and those of specs/Facts.antt, but not how the answers are computed.
use Rattle.std.specs.Prelude.{ℕ, ◌≡◌, List, length, Result, Ok, Err}
use Rattle.refusal.specs.declared.Refusal.{Refusal}
use Rattle.refusal.specs.declared.Refusal.TheVariants.{WrongSize, WrongLength, Table, Undecodable}
use Rattle.ports.specs.declared.size.Size.{Size}
use Rattle.ports.specs.Block.{tile_count}
use Rattle.config.specs.Blocks.{tiles_of}
use Rattle.config.specs.Facts.{NoSize, NoLength, NoTable, Checked, LowestFault, TilesRead}

-- "Reading bits checks 1 to 4": what each no of a read says. `settings` is the length lent. There is no other no.
pub data ReadNo (S : Size) (table bits : List ℕ) (settings : ℕ) : Refusal → Type 0 where
  wrong_size : NoSize S table (length bits) settings → ReadNo S table bits settings WrongSize
  wrong_length : NoLength S table (length bits) settings → ReadNo S table bits settings WrongLength
  broken : (part : ℕ) → NoTable S table (length bits) settings part → ReadNo S table bits settings (Table part)
  undecodable : (place : ℕ) → Checked S table (length bits) settings → LowestFault table (tiles_of bits) (tile_count S) place
      → ReadNo S table bits settings (Undecodable place)

-- what an answer of `read` says, `before` and `after` being the lent settings, which keep their length; "On a refusal the outputs keep their old
-- contents"
abbrev pub ReadSays : Size → List ℕ → List ℕ → List ℕ → List ℕ → Result (Unit {0}) Refusal → Type 0
ReadSays S table bits before after (Ok _) =
    Checked S table (length bits) (length after) × TilesRead table (tiles_of bits) after (tile_count S) × (length after ≡ length before)
ReadSays S table bits before after (Err refusal) = (after ≡ before) × ReadNo S table bits (length before) refusal
