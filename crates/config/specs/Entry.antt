-- What `read`, `write` and `bit_count` answer: the grounds in the paper's orders, one line each ("Reading bits checks 1 to 4, [..]
-- writing bits 1, 2, 3, 9, [..] a bit count 1, 2, 20").
use Rattle.refusal.specs.declared.Refusal.{Refusal}
use Rattle.std.specs.Prelude.{ℕ, ◌*◌, Bool, ◌&&◌, List, eqb, ltb, leb, length, Result, Ok, Err}
use Rattle.refusal.specs.Grounds.{unless, number_of, place_of}
use Rattle.refusal.specs.declared.Refusal.TheVariants.{WrongSize, WrongLength, Table, Undecodable, NoSuchSettings, OutOfRange}
use Rattle.ports.specs.declared.size.Size.{Size}
use Rattle.ports.specs.Block.{tile_count, allowed}
use Rattle.routing.specs.LogicTile.{logic_tile}
use Rattle.ports.specs.Lengths.{table_length, bits_length, settings_total}
use Rattle.routing.specs.TableCheck.{faulty_part, table_ok}
use Rattle.words.specs.Forms.{TileBits}
use Rattle.codec.specs.Bits.{bit_count, bit_at}
use Rattle.config.specs.Blocks.{bits_at, fault_place, bitless_tile, tiles_of}

-- "the exact length is 16 numbers a tile" (document 02, W7); "those of table, settings [..] stand in docs/": the lengths lent
abbrev pub lengths_ok : Size → (table bits settings : ℕ) → Bool
lengths_ok S table bits settings = eqb table table_length && (eqb bits (bits_length S) && eqb settings (settings_total S))

-- reading, of tiles in either form; `lengths` says whether the lent lengths are right
abbrev pub read_answer_of : Size → List ℕ → Bool → (ℕ → TileBits) → Result (Unit {0}) Refusal
read_answer_of S table lengths tile =
    unless (allowed S) (Err WrongSize)
    (unless lengths (Err WrongLength)
    (unless (table_ok logic_tile table) (Err (Table (faulty_part logic_tile table)))
    (unless (leb (logic_tile.positions * tile_count S) (fault_place table tile (tile_count S)))
    (Err (Undecodable (fault_place table tile (tile_count S))))
    (Ok tt))))

-- reading words: the settings are an output, of which the answer knows the length alone
unfoldable pub read_answer : Size → List ℕ → List ℕ → ℕ → Result (Unit {0}) Refusal
read_answer S table bits settings = read_answer_of S table (lengths_ok S (length table) (length bits) settings) (tiles_of bits)

-- grounds 3 and 9 of n tiles, and `later` where neither is given
unfoldable pub settings_answer : {A : Type 0} → List ℕ → List ℕ → ℕ → Result A Refusal → Result A Refusal
settings_answer table settings n later =
    unless (table_ok logic_tile table) (Err (Table (faulty_part logic_tile table)))
    (unless (leb n (bitless_tile table settings n)) (Err (NoSuchSettings (bitless_tile table settings n)))
    later)

-- writing: the bits are an output
unfoldable pub write_answer : Size → List ℕ → List ℕ → ℕ → Result (Unit {0}) Refusal
write_answer S table settings bits =
    unless (allowed S) (Err WrongSize)
    (unless (lengths_ok S (length table) bits (length settings)) (Err WrongLength)
    (unless (table_ok logic_tile table) (Err (Table (faulty_part logic_tile table)))
    (unless (leb (tile_count S) (bitless_tile table settings (tile_count S))) (Err (NoSuchSettings (bitless_tile table settings (tile_count S))))
    (Ok tt))))

-- "Asked about a tile, the library gives how many of its 864 bits are set."
unfoldable pub bit_count_answer : Size → List ℕ → ℕ → Result ℕ Refusal
bit_count_answer S bits tile =
    unless (allowed S) (Err WrongSize)
    (unless (eqb (length bits) (bits_length S)) (Err WrongLength)
    (unless (ltb tile (tile_count S)) (Err (OutOfRange tile))
    (Ok (bit_count (bit_at (bits_at bits tile))))))
