-- A tile's part as C gets it: the index of its first number. Main laws: `part_fits`, `part_yes`, `part_no`. Assumes nothing.
use Rattle.std.specs.Prelude.{Result, Ok, Err}
use Prim.Native.Nat.{ℕ, ◌*◌, ◌<◌}
use mathlib.Core.Path.{◌≡◌, sym, ap, ◌∙◌}
use mathlib.Core.List.{List, [], ◌∷◌}
use native.Mathlib.Omega.{arith}
use lib.ListN.{take, drop, length}
use Rattle.refusal.specs.declared.Refusal.{Refusal}
use Rattle.refusal.specs.Grounds.{number_of, place_of}
use Rattle.refusal.specs.Memory.{output}
use Rattle.refusal.proofs.MemoryLaws.{output_refused}
use Rattle.ports.specs.declared.size.Size.{Size}
use Rattle.ports.specs.Lengths.{tile_numbers}
use Rattle.ports.proofs.BlockLaws.{tile_count_le}
use Rattle.compare.specs.declared.part.Side.{Side}
use Rattle.compare.specs.Entry.{part_answer, part_of, chosen}
use Rattle.compare.proofs.PartLaws.{part_passed}
use Rattle.capi.specs.Packed.{packed, ground_in, value_in, packed_part}

-- the index of a tile that is there is small
pub part_fits : (A B : Size) (first second tile : ℕ) → part_answer A B first second tile ≡ (Ok tt) → tile < 64
part_fits A B first second tile e =
    let p = part_passed A B first second tile e in
    omega (arith, p.within, tile_count_le A p.size)

-- no ground has the number of a yes, whose output is not kept
no_ground_zero : (refusal : Refusal) → number_of refusal ≡ 0 → ⊥
no_ground_zero refusal z =
    let kept : ◌≡◌ {A = ℕ} 1 0 = ap length (sym (ap (λ (n : ℕ). output n [] (1 ∷ [])) z) ∙ output_refused [] (1 ∷ []) refusal) in omega arith

module _ (answer : Result (Unit {0}) Refusal) (side : Side) (first second : List ℕ) (tile r : ℕ) where
  abbrev PartSays : Type 0
  PartSays =
      (r ≡ packed_part answer tile)
      × (ground_in r ≡ 0 → take tile_numbers (drop (value_in r) (chosen side first second)) ≡ part_of answer side first second tile)

  pub part_yes : answer ≡ (Ok tt) → tile < 64 → r ≡ packed 0 (tile_numbers * tile) → PartSays
  part_yes e l q =
      let v : value_in r ≡ tile_numbers * tile = omega arith in (
        q ∙ ap (λ (x : Result (Unit {0}) Refusal). packed_part x tile) (sym e),
        λ g. ap (λ (n : ℕ). take tile_numbers (drop n (chosen side first second))) v ∙ ap (λ (x : Result (Unit {0}) Refusal). part_of x side first second tile) (sym e),
      )

  pub part_no : (refusal : Refusal) → answer ≡ Err refusal → r ≡ packed (number_of refusal) (place_of refusal) → ground_in r ≡ number_of refusal → PartSays
  part_no refusal e q g = (
    q ∙ ap (λ (x : Result (Unit {0}) Refusal). packed_part x tile) (sym e),
    λ z. absurd (no_ground_zero refusal (sym g ∙ z)),
  )
