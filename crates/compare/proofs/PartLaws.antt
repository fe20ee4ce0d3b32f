-- Asking for a tile: one law for each way through `part_answer`, what a yes has passed, and the part that is handed back. Main laws: `part_done`,
-- `part_passed`, `part_is`. Assumes nothing.
use Rattle.std.specs.Prelude.{Result, Ok, Err}
use Prim.Native.Nat.{ℕ, ◌+◌, ◌-◌, ◌*◌, ◌<◌, ◌≤◌}
use mathlib.Core.Path.{◌≡◌, sym, ap, ◌∙◌}
use mathlib.Core.Bool.{true, false}
use mathlib.Core.List.{List, []}
use native.Mathlib.Omega.{arith}
use borrow.Author.Tests.{le-ltb, lt-ltb, ltb-true}
use lib.Dec.{ltb}
use lib.ListN.{take, drop}
use Rattle.lists.proofs.PartLaws.{part_size}
use Rattle.refusal.specs.Grounds.{answer_number}
use Rattle.refusal.specs.declared.Refusal.{Refusal}
use Rattle.refusal.specs.declared.Refusal.TheVariants.{WrongSize, WrongLength, SizesDiffer, OutOfRange}
use Rattle.refusal.proofs.GroundsLaws.{unless_passed}
use Rattle.ports.specs.declared.size.Size.{Size}
use Rattle.ports.specs.Block.{Allowed, tile_count, allowed}
use Rattle.ports.specs.Lengths.{tile_numbers, bits_length}
use Rattle.ports.proofs.BlockLaws.{allowed_exact}
use Rattle.config.specs.Blocks.{bits_at}
use Rattle.compare.specs.declared.part.Side.{Side}
use Rattle.compare.specs.Lengths.{same_size, part_exact}
use Rattle.compare.specs.Entry.{part_answer, chosen, part_of}
use Rattle.compare.proofs.LengthLaws.{part_long_exact}

module _ (A B : Size) (first second tile : ℕ) where
  abbrev told : Result (Unit {0}) Refusal
  told = part_answer A B first second tile

  pub part_first_size : allowed A ≡ false → Err WrongSize ≡ told
  unfolding part_answer
  part_first_size e = rw e

  module _ (a : allowed A ≡ true) where
    pub part_second_size : allowed B ≡ false → Err WrongSize ≡ told
    unfolding part_answer
    part_second_size e = rw (a, e)

    module _ (b : allowed B ≡ true) where
      pub part_differ : same_size A B ≡ false → Err SizesDiffer ≡ told
      unfolding part_answer
      part_differ e = rw (a, b, e)

      module _ (same : same_size A B ≡ true) where
        pub part_length : part_exact A first second ≡ false → Err WrongLength ≡ told
        unfolding part_answer
        part_length e = rw (a, b, same, e)

        module _ (long : part_exact A first second ≡ true) where
          pub part_past : tile_count A ≤ tile → Err (OutOfRange tile) ≡ told
          unfolding part_answer
          part_past l = rw (a, b, same, long, le-ltb tile (tile_count A) l)

          pub part_done : tile < tile_count A → (Ok tt) ≡ told
          unfolding part_answer
          part_done l = rw (a, b, same, long, lt-ltb tile (tile_count A) l)

-- what a yes has passed
pub record PartPassed (A : Size) (first second tile : ℕ) : Type 0 where
  pub size : Allowed A
  pub first_long : first ≡ bits_length A
  pub second_long : second ≡ bits_length A
  pub within : tile < tile_count A

pub part_passed : (A B : Size) (first second tile : ℕ) → part_answer A B first second tile ≡ (Ok tt) → PartPassed A first second tile
unfolding part_answer
part_passed A B first second tile e =
    let other : (n : ℕ) → (◌≡◌ {A = ℕ} (n + 1) 0 → ⊥) = λ n q. omega arith in
    let (a, p) = unless_passed answer_number (allowed A) (Err WrongSize) _ (Ok tt) (other 0) e in
    let (b, q) = unless_passed answer_number (allowed B) (Err WrongSize) _ (Ok tt) (other 0) p in
    let (c, r) = unless_passed answer_number (same_size A B) (Err SizesDiffer) _ (Ok tt) (other 13) q in
    let (d, s) = unless_passed answer_number (part_exact A first second) (Err WrongLength) _ (Ok tt) (other 1) r in
    let (l, z) = unless_passed answer_number (ltb tile (tile_count A)) (Err (OutOfRange tile)) _ (Ok tt) (other 19) s in
    let long = (part_long_exact A first second).0 d in
    record { size = (allowed_exact A).0 a; first_long = long.0; second_long = long.1; within = ltb-true tile (tile_count A) l }

-- so the tile's numbers lie in each block
pub first_fits : (A B : Size) (first second tile : ℕ) → part_answer A B first second tile ≡ (Ok tt) → tile_numbers * tile + tile_numbers ≤ first
first_fits A B first second tile e = let passed = part_passed A B first second tile e in omega (arith, passed.first_long, passed.within)

pub second_fits : (A B : Size) (first second tile : ℕ) → part_answer A B first second tile ≡ (Ok tt) → tile_numbers * tile + tile_numbers ≤ second
second_fits A B first second tile e = let passed = part_passed A B first second tile e in omega (arith, passed.second_long, passed.within)

-- ---- the part

module _ (answer : Result (Unit {0}) Refusal) (side : Side) (first second : List ℕ) (tile : ℕ) where
  pub part_none : (told : Result (Unit {0}) Refusal) (r : Refusal) → told ≡ Err r → told ≡ answer → [] ≡ part_of answer side first second tile
  part_none told r q e = ap (λ (x : Result (Unit {0}) Refusal). part_of x side first second tile) (sym q ∙ e)

  -- the part as the code takes it out of a block
  pub part_is : (block : List ℕ) → answer ≡ (Ok tt) → block ≡ chosen side first second
      → take (tile_numbers * tile + tile_numbers - tile_numbers * tile) (drop (tile_numbers * tile) block) ≡ part_of answer side first second tile
  part_is block e s =
      ap (λ (x : ℕ). take x (drop (tile_numbers * tile) block)) (part_size tile_numbers tile) ∙ ap (λ (x : List ℕ). bits_at x tile) s
      ∙ ap (λ (x : Result (Unit {0}) Refusal). part_of x side first second tile) (sym e)
