-- An input of any length has the report of its first 131,072 bytes. Main law: `report_prefix`.
use Rattle.refusal.specs.Grounds.{answer_number}
use Rattle.ports.specs.Block.{block}
use Rattle.ports.specs.declared.size.Block.{Block}
use Rattle.refusal.specs.declared.Refusal.{Refusal}
use Rattle.std.specs.Prelude.{Result, Ok, Err}
use Prim.Native.Nat.{ℕ, ◌≤◌}
use mathlib.Core.Path.{◌≡◌, refl, ap, ◌∙◌}
use mathlib.Core.Bool.{◌&&◌}
use mathlib.Core.List.{List}
use native.Mathlib.Omega.{arith}
use borrow.Author.Tests.{eqb-true}
use lib.Dec.{eqb, leb}
use lib.ListN.{length, take}
use lib.Seq.{take_all}
use Rattle.frames.specs.Lines.{fields_line, passive_line, size_line}
use Rattle.frames.specs.Input.{size_at, width, height, small, tiles_due, tile_at, tile_count, parsed}
use Rattle.frames.proofs.SmallLaws.{small_of, small_due}
use Rattle.frames.proofs.BoundLaws.{size_digits_le}
use Rattle.frames.proofs.PrefixLaws.{parsed_prefix, size_at_le}
use Rattle.refusal.proofs.GroundsLaws.{unless_passed}
use Rattle.reporting.specs.Report.{parsed_lines, report_of}

-- an input that is taken is short
block_short : (s : List ℕ) (w h east : ℕ) → parsed s ≡ Ok (block w h east) → length s ≤ 131072
unfolding parsed
block_short s w h east e =
    let one = unless_passed {A = Result Block Refusal} answer_number (fields_line s) _ _ (Ok (block w h east)) (λ z. absurd (omega arith)) e in
    let two = unless_passed {A = Result Block Refusal} answer_number (passive_line s) _ _ (Ok (block w h east)) (λ z. absurd (omega arith)) one.1 in
    let three = unless_passed {A = Result Block Refusal} answer_number (size_line s (size_at s)) _ _ (Ok (block w h east)) (λ z. absurd (omega arith)) two.1 in
    let four = unless_passed {A = Result Block Refusal} answer_number (small (width s) && small (height s)) _ _ (Ok (block w h east)) (λ z. absurd (omega arith)) three.1 in
    let five = unless_passed {A = Result Block Refusal} answer_number (leb (tiles_due s) (tile_count s)) _ _ (Ok (block w h east)) (λ z. absurd (omega arith)) four.1 in
    let six = unless_passed {A = Result Block Refusal} answer_number (eqb (length s) (tile_at s (tiles_due s))) _ _ (Ok (block w h east)) (λ z. absurd (omega arith)) five.1 in
    let long = eqb-true (length s) (tile_at s (tiles_due s)) six.0 in
    let few = small_due (width s) (height s) (small_of (width s) (height s) four.0) in
    omega (arith, size_at_le s, size_digits_le s (size_at s))

same_lines : (s : List ℕ) (n : ℕ) → 131072 ≤ n → (r : Result Block Refusal) → parsed s ≡ r → parsed_lines (take n s) r ≡ parsed_lines s r
same_lines s n l (Ok b) e = ap (λ (x : List ℕ). parsed_lines x (Ok b)) (take_all n s (omega (arith, block_short s b.w b.h b.east e)))
same_lines s n l (Err refusal) e = refl

pub report_prefix : (s : List ℕ) (n : ℕ) → 131072 ≤ n → report_of (take n s) ≡ report_of s
unfolding report_of
report_prefix s n l = ap (parsed_lines (take n s)) (parsed_prefix s n l) ∙ same_lines s n l (parsed s) refl
