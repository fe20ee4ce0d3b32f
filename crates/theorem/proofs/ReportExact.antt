-- What theorem/specs/ReportGrounds.antt says fits one answer and one report only. Main laws: `report_exact`; `parse_one`. Assumes nothing.
use Rattle.refusal.specs.Grounds.{answer_number, answer_value}
use Rattle.refusal.specs.declared.Refusal.{Refusal}
use Rattle.std.specs.Prelude.{Result, Ok, Err}
use Prim.Native.Nat.{ℕ}
use mathlib.Core.Path.{◌≡◌, sym, ap, ap₂, ◌∙◌, subst}
use mathlib.Core.Logic.{inl, inr, ⊎_elim, ◌↔◌, ◌≢◌}
use mathlib.Core.List.{List, ◌++◌}
use native.Mathlib.Omega.{arith}
use Rattle.lists.proofs.CaseLaws.{eq_or_ne}
use Rattle.refusal.specs.declared.Refusal.TheVariants.{Line}
use Rattle.ports.specs.declared.size.Block.{Block}
use Rattle.ports.specs.Block.{block, tiles}
use Rattle.words.specs.Forms.{tiles_of_bytes}
use Rattle.config.specs.Blocks.{decoded}
use Rattle.frames.specs.Contents.{table_of, bits_of}
use Rattle.frames.specs.Input.{parsed}
use Rattle.frames.specs.Meaning.{LineSays, bad_line}
use Rattle.frames.proofs.ExactLaws.{parsed_exact}
use Rattle.lines.specs.Lines.{answer_line}
use Rattle.reporting.specs.Report.{accepted_lines, report_of}
use Rattle.theorem.specs.Order.{CheckFor}
use Rattle.theorem.specs.BlockGrounds.{BitsGrounds}
use Rattle.theorem.specs.ReportGrounds.{Taken, block_taken, InputGrounds, SizeGiven, ParseGrounds, LinesGrounds, ReportSays}
use Rattle.theorem.proofs.OneAnswer.{Agrees, One, check_agrees, yes_agrees, one_place, bits_agrees}
use Rattle.theorem.proofs.ParseOrder.{taken_is, parse_order}
use Rattle.theorem.proofs.ReportOrder.{report_order}

-- the block of an answer; none has a size of 0
abbrev block_in : Result Block Refusal → Block
block_in (Ok b) = b
block_in (Err refusal) = block 0 0 0

module _ (s : List ℕ) where
  one_line : One (LineSays s)
  one_line v u a b =
      ap answer_value ((parsed_exact s (Err (Line v))).0 (bad_line v a) ∙ sym ((parsed_exact s (Err (Line u))).0 (bad_line u b)))

  one_block : (x y : Taken s) → block_taken x ≡ block_taken y
  one_block x y = ap block_in (taken_is s x ∙ sym (taken_is s y))

  -- ---- 11 and 1

  input_agrees : {C : Type 0} {G G' : Taken s → ℕ → ℕ → Type 0} → ((x y : Taken s) → Agrees C (G x) (G' y)) → Agrees C (InputGrounds s G) (InputGrounds s G')
  input_agrees {C} {G} {G'} later =
      check_agrees 11 (λ z. absurd (omega arith)) one_line (check_agrees 1 (λ z. absurd (omega arith)) (one_place 0) behind)
    where
      behind : Agrees C (CheckFor 11 (Taken s) (LineSays s) G) (CheckFor 11 (Taken s) (LineSays s) G')
      behind n v m u (inl a) (inl b) = (a.1 ∙ sym b.1, one_line v u a.2 b.2, λ z. let q : ◌≡◌ {A = ℕ} 11 0 = sym a.1 ∙ z in absurd (omega arith))
      behind n v m u (inl a) (inr b) = absurd (a.0 b.0)
      behind n v m u (inr a) (inl b) = absurd (b.0 a.0)
      behind n v m u (inr a) (inr b) = later a.0 b.0 n v m u a.1 b.1

  given_size : (r q : Result Block Refusal) (x y : Taken s) → Agrees (r ≡ q) (SizeGiven r x) (SizeGiven q y)
  given_size r q x y = yes_agrees (λ v u a b. (a.0 ∙ sym b.0, a.1 ∙ taken_is s x ∙ sym (taken_is s y) ∙ sym b.1))

  -- an answer that meets the grounds of `parse` has its number and its place, and after a yes its block
  pub parse_one : (r : Result Block Refusal) → ParseGrounds s r (answer_number r) (answer_value r)
      → (answer_number r ≡ answer_number (parsed s)) × (answer_value r ≡ answer_value (parsed s)) × (answer_number r ≡ 0 → r ≡ parsed s)
  parse_one r a = input_agrees (given_size r (parsed s)) _ _ _ _ a (parse_order s)

  -- ---- 3 to 8

  -- the grounds and the yes of any block
  abbrev st : Block → List ℕ
  st B = decoded (table_of s) (tiles_of_bytes (bits_of s (tiles B))) (tiles B)

  abbrev Given : List ℕ → Block → ℕ → Type 0
  Given report B place = (place ≡ 0) × (report ≡ accepted_lines B (table_of s) (st B))

  abbrev Lines : List ℕ → Block → ℕ → ℕ → Type 0
  Lines report B = BitsGrounds B (table_of s) (tiles_of_bytes (bits_of s (tiles B))) (st B) (Given report B)

  given_one : (report other : List ℕ) (B : Block) (v u : ℕ) → Given report B v → Given other B u → (v ≡ u) × (report ≡ other)
  given_one report other B v u a b = (a.0 ∙ sym b.0, a.1 ∙ sym b.1)

  lines_agrees : (report other : List ℕ) (x y : Taken s) → Agrees (report ≡ other) (LinesGrounds report x) (LinesGrounds other y)
  lines_agrees report other x y n v m u a b =
      bits_agrees (block_taken x) (table_of s) (tiles_of_bytes (bits_of s (tiles (block_taken x)))) (st (block_taken x)) (given_one report other (block_taken x)) n v m u a
      (subst (λ (B : Block). Lines other B m u) (sym (one_block x y)) b)

  -- ---- the report

  only_answer : {report : List ℕ} (z : ReportSays s report) → z.number ≢ 0 → report ≡ answer_line z.number z.place
  only_answer z n = z.last_line ∙ ap (λ (l : List ℕ). l ++ answer_line z.number z.place) (z.only_line n)

  one_report : (report other : List ℕ) → ReportSays s report → ReportSays s other → report ≡ other
  one_report report other z y =
      let same = input_agrees (lines_agrees report other) _ _ _ _ z.grounds y.grounds in
      ⊎_elim (λ (e : z.number ≡ 0). same.2 e)
      (λ (n : z.number ≢ 0).
      only_answer z n ∙ ap₂ answer_line same.0 same.1 ∙ sym (only_answer y (λ e. n (same.0 ∙ e))))
      (eq_or_ne z.number 0)

  pub report_exact : (report : List ℕ) → ReportSays s report ↔ (report ≡ report_of s)
  report_exact report = (λ z. one_report report (report_of s) z (report_order s), λ e. subst (ReportSays s) (sym e) (report_order s))
