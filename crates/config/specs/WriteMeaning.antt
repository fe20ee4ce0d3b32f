-- What each answer of `write` says, case by case, as specs/Meaning.antt has it for `read`.
use Rattle.std.specs.Prelude.{ℕ, ◌≡◌, List, length, Result, Ok, Err}
use Rattle.refusal.specs.declared.Refusal.{Refusal}
use Rattle.refusal.specs.declared.Refusal.TheVariants.{WrongSize, WrongLength, Table, NoSuchSettings}
use Rattle.ports.specs.declared.size.Size.{Size}
use Rattle.ports.specs.Block.{tile_count}
use Rattle.config.specs.Blocks.{tiles_of}
use Rattle.config.specs.Facts.{NoSize, NoLength, NoTable, Checked, LowestBitless, TilesRead}

-- "writing bits 1, 2, 3, 9": what each no of a write says. `bits` is the length lent. There is no other no.
pub data WriteNo (S : Size) (table settings : List ℕ) (bits : ℕ) : Refusal → Type 0 where
  wrong_size : NoSize S table bits (length settings) → WriteNo S table settings bits WrongSize
  wrong_length : NoLength S table bits (length settings) → WriteNo S table settings bits WrongLength
  broken : (part : ℕ) → NoTable S table bits (length settings) part → WriteNo S table settings bits (Table part)
  bitless : (tile : ℕ) → Checked S table bits (length settings) → LowestBitless table settings (tile_count S) tile
      → WriteNo S table settings bits (NoSuchSettings tile)

-- what an answer of `write` says, `before` and `after` being the lent bits, which keep their length; "Writing settings gives bits that read back the same"
abbrev pub WriteSays : Size → List ℕ → List ℕ → List ℕ → List ℕ → Result (Unit {0}) Refusal → Type 0
WriteSays S table settings before after (Ok _) =
    Checked S table (length after) (length settings) × TilesRead table (tiles_of after) settings (tile_count S) × (length after ≡ length before)
WriteSays S table settings before after (Err refusal) = (after ≡ before) × WriteNo S table settings (length before) refusal
