-- What `wire_number` answers (document 01, 'Grounds for a no': "a wire number 1, 20 [..] in these orders").
use Rattle.refusal.specs.declared.Refusal.{Refusal}
use Rattle.std.specs.Prelude.{ℕ, ◌≡◌, ltb, Result, Ok, Err}
use Rattle.refusal.specs.declared.Refusal.TheVariants.{WrongSize, OutOfRange}
use Rattle.refusal.specs.Grounds.{number_of, place_of, unless, answer_number, number_value}
use Rattle.ports.specs.declared.size.Block.{Block}
use Rattle.ports.specs.Block.{tiles, sized, tile_port}
use Rattle.ports.specs.Lengths.{ports_per_tile}
use Rattle.fabric.specs.Joins.{Lowest}
use Rattle.fabric.specs.Wire.{wire_of}

-- "1: W or H not 1 to 8", and W2: "another byte is [..] 1 in a call"; "20: a port (0 to 505 in its tile), tile [..] out of range", place "that number, a tile's first"
unfoldable pub wire_number : Block → ℕ → ℕ → Result ℕ Refusal
wire_number B t q =
    unless (sized B) (Err WrongSize)
    (unless (ltb t (tiles B)) (Err (OutOfRange t))
    (unless (ltb q ports_per_tile) (Err (OutOfRange q))
    (Ok (wire_of B (tile_port B t q)))))

-- what an answer for port p says of the joins themselves
abbrev pub IsWire : Block → ℕ → Result ℕ Refusal → Type 0
IsWire B p r = answer_number r ≡ 0 → Lowest B p (number_value r)
