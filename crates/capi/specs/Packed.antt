-- An answer as one 64-bit number: the ground's number times 2 ^ 32 plus its place, or the value of a yes, whose number is 0.
use Rattle.refusal.specs.declared.Refusal.{Refusal}
use Rattle.std.specs.Prelude.{ℕ, zero, suc, ◌+◌, ◌*◌, ◌/◌, ◌%◌, ◌^◌, Result, Ok, Err}
use Rattle.refusal.specs.Grounds.{number_of, place_of, answer_number, answer_value, number_value}
use Rattle.ports.specs.Lengths.{tile_numbers}
use Rattle.compare.specs.declared.part.Side.{Side}
use Rattle.compare.specs.declared.part.Side.TheVariants.{First, Second}
use Rattle.drivers.specs.declared.follow.Driver.{Driver}
use Rattle.block.specs.Drivers.{followed_value, driver_kind, driver_wire}

-- number and value as one
abbrev pub packed : ℕ → ℕ → ℕ
packed number value = number * 2 ^ 32 + value

-- the ground of such a number, 0 for a yes: lent memory depends on nothing else
abbrev pub ground_in : ℕ → ℕ
ground_in answer = answer / 2 ^ 32

-- what comes with it: the place of a no, or the value of a yes
abbrev pub value_in : ℕ → ℕ
value_in answer = answer % 2 ^ 32

-- an answer without a value
abbrev pub packed_answer : Result (Unit {0}) Refusal → ℕ
packed_answer answer = packed (answer_number answer) (answer_value answer)

-- an answer with a number: the row count of building, comparing and the listing of contentions, how many numbers a shelf card has, a wire's number, a
-- lookup's bit, how many bits are set, how long a file is
abbrev pub packed_number : Result ℕ Refusal → ℕ
packed_number answer = packed (answer_number answer) (number_value answer)

-- the value of following is 65,536 times 1 open, 2 zero, 3 one, 4 cell, 5 ring, plus the wire
abbrev pub driver_code : Driver → ℕ
driver_code driver = driver_kind driver * 2 ^ 16 + driver_wire driver

abbrev pub followed_code : Result Driver Refusal → ℕ
followed_code (Ok driver) = driver_code driver
followed_code (Err refusal) = followed_value (Err refusal)

abbrev pub packed_followed : Result Driver Refusal → ℕ
packed_followed answer = packed (answer_number answer) (followed_code answer)

-- the value of asking for a tile is the index of the tile's first number in its block
abbrev pub packed_part : Result (Unit {0}) Refusal → ℕ → ℕ
packed_part (Ok _) tile = packed 0 (tile_numbers * tile)
packed_part (Err refusal) tile = packed (number_of refusal) (place_of refusal)

-- which of two blocks a number asks for: "0 the first, any other the second"
abbrev pub side_of : ℕ → Side
side_of zero = First
side_of (suc which) = Second
