-- What `contentions` answers and writes ("Refusals: 1 to 4, then 15 as in the comparison").
use Rattle.refusal.specs.declared.Refusal.{Refusal}
use Rattle.std.specs.Prelude.{ℕ, ◌*◌, Bool, List, leb, Result, Ok, Err}
use Rattle.lists.specs.Listing.{zero_filled}
use Rattle.refusal.specs.Grounds.{unless}
use Rattle.refusal.specs.declared.Refusal.TheVariants.{WrongSize, WrongLength, ListTooShort}
use Rattle.ports.specs.declared.size.Block.{Block}
use Rattle.ports.specs.Block.{size_of, tiles, sized}
use Rattle.ports.specs.Lengths.{settings_total}
use Rattle.config.specs.Blocks.{decoded, tiles_of}
use Rattle.config.specs.Entry.{read_answer}
use Rattle.contention.specs.Contentions.{row_length, contention_count, contentions}

-- ground 15 and the yes, of settings that were read; `list` is the length lent
unfoldable pub rows_answer : Block → (table settings : List ℕ) → ℕ → Result ℕ Refusal
rows_answer B t st list =
    unless (leb (row_length * contention_count B t st) list) (Err (ListTooShort (contention_count B t st))) (Ok (contention_count B t st))

-- a no of reading, or what comes after a yes
abbrev pub after_read : Result (Unit {0}) Refusal → Result ℕ Refusal → Result ℕ Refusal
after_read (Ok _) later = later
after_read (Err refusal) later = Err refusal

-- what the bits read to
abbrev pub settings_read : Block → (table bits : List ℕ) → List ℕ
settings_read B t bits = decoded t (tiles_of bits) (tiles B)

-- grounds 3 and 4, those of reading, then 15
unfoldable pub bits_answer : Block → (table bits : List ℕ) → ℕ → Result ℕ Refusal
bits_answer B t bits list = after_read (read_answer (size_of B) t bits (settings_total (size_of B))) (rows_answer B t (settings_read B t bits) list)

-- grounds 1 to 4, then 15; `lengths` is whether every lent length but the list's is the exact one
unfoldable pub contentions_answer : Block → (table bits : List ℕ) → Bool → ℕ → Result ℕ Refusal
contentions_answer B t bits lengths list =
    unless (sized B) (Err WrongSize) (unless lengths (Err WrongLength) (bits_answer B t bits list))

-- the lent list after a yes: the rows, "zero-filled as in the comparison"
abbrev pub contentions_list : Block → (table bits : List ℕ) → ℕ → List ℕ
contentions_list B t bits list = zero_filled list (contentions B t (settings_read B t bits))
