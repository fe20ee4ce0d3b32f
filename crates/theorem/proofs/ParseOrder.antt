-- The grounds of reading frames in their order. Main laws: `input_no`, `input_yes`, for whatever is done with the block; `parse_order`. Assumes nothing.
use Rattle.ports.specs.declared.size.Block.{Block}
use Rattle.std.specs.Prelude.{Result, Ok, Err}
use Prim.Native.Nat.{ℕ}
use mathlib.Core.Path.{◌≡◌, refl, sym, ap, ◌∙◌, subst}
use mathlib.Core.Bool.{true, ◌&&◌}
use mathlib.Core.Logic.{◌⊎◌, inl, inr, ⊎_elim}
use mathlib.Core.List.{List}
use native.Mathlib.Omega.{arith}
use Rattle.lists.proofs.CaseLaws.{cases, clash}
use Rattle.refusal.specs.declared.Refusal.{Refusal}
use Rattle.refusal.specs.declared.Refusal.TheVariants.{WrongSize}
use Rattle.refusal.specs.Grounds.{number_of, place_of, answer_number, answer_value}
use Rattle.texts.specs.Pieces.{Stands}
use Rattle.frames.specs.Frames.{Frame, size, line, Proper}
use Rattle.frames.specs.Lines.{fields_line, passive_line, size_line}
use Rattle.frames.specs.Input.{group_count, size_at, small, parsed}
use Rattle.frames.specs.Meaning.{with_groups, tiles_left, Turn, the_size, a_tile, Sized, Begins, one_more, SizeSays, wrong_size, bad_line, ParsedNo, ParsedSays}
use Rattle.frames.proofs.SmallLaws.{small_of, small_passes}
use Rattle.frames.proofs.FrameLaws.{size_read, size_reads}
use Rattle.frames.proofs.TurnLaws.{begins_groups}
use Rattle.frames.proofs.ComeLaws.{GroupsCome, size_same}
use Rattle.frames.proofs.ComeStepLaws.{begins_come}
use Rattle.frames.proofs.WholeTurnLaws.{whole_begins}
use Rattle.frames.proofs.MeaningLaws.{parsed_says}
use Rattle.frames.proofs.ExactLaws.{parsed_exact}
use Rattle.theorem.specs.ReportGrounds.{SizeRead, SmallRead, Taken, InputGrounds, SizeGiven, ParseGrounds, block_taken}

-- ---- the block frame is read, or it is not

module _ (s : List ℕ) where
  size_read_lem : fields_line s ≡ true → passive_line s ≡ true → size_line s (size_at s) ≡ true → SizeRead s
  unfolding size_at
  size_read_lem one two three = record {
    frames = _;
    at = size_at s;
    g = group_count s;
    n = _;
    frame = size_read s (size_at s);
    begins = begins_groups s one two (group_count s) (omega arith);
    turn = the_size;
    proper = (size_reads s (size_at s) three).proper;
    stands = (size_reads s (size_at s) three).spans.stands;
  }

  -- a block frame in its turn stands where its test looks
  size_tested : {g n at k : ℕ} {f : Frame} → Turn (with_groups g) f (tiles_left n) → GroupsCome s g at k → Proper f → Stands s at (line f)
      → size_line s (size_at s) ≡ true
  size_tested {at = at} {k} (the_size {g} {w} {h} {extra}) c fit p = (size_same s at k g c w h extra fit p).passes

  size_or_none : SizeRead s ⊎ (SizeRead s → ⊥)
  size_or_none =
      ⊎_elim
      (λ one. ⊎_elim
      (λ two. ⊎_elim (λ three. inl (size_read_lem one two three))
      (λ e. inr (λ b. clash (size_tested b.turn (begins_come b.begins) b.proper b.stands) e)) (cases (size_line s (size_at s))))
      (λ e. inr (λ b. clash (begins_come b.begins).two e)) (cases (passive_line s)))
      (λ e. inr (λ b. clash (begins_come b.begins).one e)) (cases (fields_line s))

  -- behind it are the tiles
  tiles_size : {fs : List Frame} {at n : ℕ} → Begins s fs at (tiles_left n) → SizeRead s
  tiles_size (one_more b a_tile fit sized p) = tiles_size b
  tiles_size (one_more {fs} {at} b (the_size {g} {w} {h} {extra}) fit sized p) = record {
    frames = fs;
    at = at;
    g = g;
    n = _;
    frame = size w h extra;
    begins = b;
    turn = the_size;
    proper = fit;
    stands = p;
  }

  -- ---- its W and H

  abbrev refused : SizeSays s → SizeRead s
  refused z = record {
    frames = z.frames;
    at = z.at;
    g = z.g;
    n = _;
    frame = size z.w z.h z.extra;
    begins = z.begins;
    turn = the_size;
    proper = z.proper;
    stands = z.stands;
  }

  size_small : (SizeSays s → ⊥) → {g n at : ℕ} {fs : List Frame} {f : Frame} → Turn (with_groups g) f (tiles_left n) → Begins s fs at (with_groups g)
      → Proper f → Stands s at (line f) → Sized f
  size_small none {at = at} {fs} (the_size {g} {w} {h} {extra}) b fit p =
      ⊎_elim (small_of w h)
      (λ e. absurd (none (record {
        frames = fs;
        at = at;
        g = g;
        w = w;
        h = h;
        extra = extra;
        begins = b;
        proper = fit;
        stands = p;
        not_small = λ few. clash (small_passes w h few) e;
      })))
      (cases (small w && small h))

  small_read : (SizeSays s → ⊥) → SmallRead s
  small_read none b = size_small none b.turn b.begins b.proper b.stands

  -- ---- one answer only

  pub taken_is : (x : Taken s) → Ok (block_taken x) ≡ parsed s
  taken_is x = (parsed_exact s (Ok (block_taken x))).0 x.says

  size_is : SizeSays s → Err WrongSize ≡ parsed s
  size_is z = (parsed_exact s (Err WrongSize)).0 (wrong_size z)

  -- ---- the grounds

  module _ (later : Taken s → ℕ → ℕ → Type 0) where
    no_says : (refusal : Refusal) → parsed s ≡ Err refusal → ParsedNo s refusal → InputGrounds s later (number_of refusal) (place_of refusal)
    no_says refusal e (wrong_size z) = inr (refused z, inl (λ few. z.not_small (few (refused z)), refl, refl))
    no_says refusal e (bad_line n z) =
        ⊎_elim
        (λ b. inr (
          b,
          inr (
            small_read (λ y. let q : ◌≡◌ {A = ℕ} 1 11 = ap answer_number (size_is y ∙ e) in omega arith),
            inl (λ x. let q : ◌≡◌ {A = ℕ} 0 11 = ap answer_number (taken_is x ∙ e) in omega arith, refl, z),
          ),
        ))
        (λ none. inl (none, refl, z)) size_or_none

    pub input_no : (refusal : Refusal) → parsed s ≡ Err refusal → InputGrounds s later (number_of refusal) (place_of refusal)
    input_no refusal e = no_says refusal e (subst (ParsedSays s) e (parsed_says s))

    pub input_yes : (x : Taken s) (number value : ℕ) → later x number value → InputGrounds s later number value
    input_yes x number value l = inr (
      tiles_size (whole_begins s x.says.input x.says.whole),
      inr (small_read (λ y. let q : ◌≡◌ {A = ℕ} 1 0 = ap answer_number (size_is y ∙ sym (taken_is x)) in omega arith), inr (x, l)),
    )

  answer_order : (r : Result Block Refusal) → parsed s ≡ r → ParseGrounds s r (answer_number r) (answer_value r)
  answer_order (Ok b) e =
      input_yes (SizeGiven (Ok b)) (record { w = b.w; h = b.h; east = b.east; says = subst (ParsedSays s) e (parsed_says s) }) 0 0 (refl, (refl, refl))
  answer_order (Err refusal) e = input_no (SizeGiven (Err refusal)) refusal e

  pub parse_order : ParseGrounds s (parsed s) (answer_number (parsed s)) (answer_value (parsed s))
  parse_order = answer_order (parsed s) refl
