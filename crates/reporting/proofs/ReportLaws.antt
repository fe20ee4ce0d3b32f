-- From what a callee puts in to the report. Main laws: `refused_report`, `block_report`, `report_put`; `small_size`.
use Rattle.ports.specs.declared.size.Block.{Block}
use Rattle.std.specs.Prelude.{Result, Ok, Err}
use Prim.Native.Nat.{ℕ, ◌+◌, ◌*◌, ◌≤◌}
use mathlib.Core.Path.{◌≡◌, sym, ap, ◌∙◌, subst}
use mathlib.Core.List.{List, ◌++◌}
use native.Mathlib.Nat.{zero-add}
use native.Mathlib.Omega.{arith}
use lib.ListN.{length, drop, length-append}
use Rattle.refusal.specs.declared.Refusal.{Refusal}
use Rattle.refusal.specs.Grounds.{number_of, place_of}
use Rattle.frames.specs.Input.{parsed}
use Rattle.words.specs.Forms.{tiles_of_bytes}
use Rattle.frames.specs.Contents.{table_of, bits_of}
use Rattle.frames.specs.Whole.{Small}
use Rattle.ports.specs.Block.{block}
use Rattle.frames.specs.Meaning.{ParsedSays}
use Rattle.lines.specs.Lines.{answer_line}
use Rattle.reporting.specs.Report.{block_lines, parsed_lines, report_of}
use Rattle.texts.proofs.PutsLaws.{Puts}

module _ (s : List ℕ) (r : Result Block Refusal) (e : r ≡ parsed s) where
  pub refused_report : (refusal : Refusal) → r ≡ Err refusal → answer_line (number_of refusal) (place_of refusal) ≡ report_of s
  unfolding report_of
  refused_report refusal q = ap (parsed_lines s) (sym q ∙ e)

  pub block_report : (w h e : ℕ) → r ≡ Ok (block w h e) → block_lines (block w h e) (table_of s) (tiles_of_bytes (bits_of s (h * w))) ≡ report_of s
  unfolding report_of
  block_report w h e' q = ap (parsed_lines s) (sym q ∙ e)

-- W and H of a block that was parsed are 1 to 3
pub small_size : (s : List ℕ) (r : Result Block Refusal) (w h e : ℕ) → ParsedSays s r → r ≡ Ok (block w h e) → Small w h
small_size s r w h e says q =
    let yes = subst (ParsedSays s) q says in
    subst (λ (x : ℕ). Small x h) yes.w_is (subst (Small yes.input.w) yes.h_is yes.whole.small)

-- at the front of `out` stands the report, and it fits
pub report_put : (lines whole old : List ℕ) (next : ℕ) (out : List ℕ) → lines ≡ whole → Puts 0 lines old next out
    → (next ≡ length whole) × ((out ≡ whole ++ drop next old) × (next ≤ length out))
report_put lines whole old next out e (n, o) =
    let there : next ≡ length whole = n ∙ zero-add (length lines) ∙ ap length e in
    let is = o ∙ ap (λ (l : List ℕ). l ++ drop (0 + length l) old) e ∙ ap (λ (k : ℕ). whole ++ drop k old) (zero-add (length whole) ∙ sym there) in
    (there, (is, omega (arith, ap length is, length-append whole (drop next old))))
