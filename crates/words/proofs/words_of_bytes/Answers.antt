-- `words_of_bytes` meets its contract: grounds 1 and 2, then the words (`words_say`). Assumes nothing.
use Rattle.std.specs.Prelude.{Err}
use Rattle.words.proofs.MeaningLaws.{words_say}
use Rattle.words.proofs.EntryLaws.{words_size, words_no_bytes, words_no_words, words_done}
use Rattle.ports.proofs.BlockLaws.{allowed_exact}
use lib.ListN.{length}
use Rattle.refusal.specs.declared.Refusal.TheVariants.{WrongLength}
use Rattle.words.specs.Answers.{words_answer}
use Rattle.words.specs.Forms.{words_of}
use Prim.Native.Nat.{ℕ}
use mathlib.Core.Path.{◌≡◌, refl, sym, ap, ◌∙◌}
use Rattle.words.proofs.words_of_bytes.Goals as goal
use Rattle.words.proofs.words_of_bytes.Goals.{then-bytes-bytes_length-via-then-bytes-bytes_length, then-bytes-bytes_length-via-else-bytes-bytes_length+then-words-bits_length}

pub returns-then-not-is_allowed : goal.returns-then-not-is_allowed
returns-then-not-is_allowed c =
    let s = c.args.s in
    let bytes = c.args.bytes.now in
    let words = c.args.words.now in
    let answer = words_size s (length bytes) (length words) (sym c.is_allowed.ensures ∙ c.if-not-is_allowed.true) in
    record { answer = answer; words = refl; says = words_say s bytes words _ answer _ refl }

pub returns-then-bytes-bytes_length : goal.returns-then-bytes-bytes_length
returns-then-bytes-bytes_length c =
    let s = c.args.s in
    let bytes = c.args.bytes.now in
    let words = c.args.words.now in
    let allowed = (allowed_exact s).0 (sym c.is_allowed.ensures ∙ c.if-not-is_allowed.false) in
    let answer : Err WrongLength ≡ words_answer s (length bytes) (length words) =
    elim c.then-bytes-bytes_length.branch [
      | then-bytes-bytes_length-via-then-bytes-bytes_length w ↦ words_no_bytes s (length bytes) (length words) allowed (λ e. w.if-bytes-bytes_length.true (e ∙ sym c.bytes_length.ensures))
      | then-bytes-bytes_length-via-else-bytes-bytes_length+then-words-bits_length w ↦ words_no_words s (length bytes) (length words) allowed (w.if-bytes-bytes_length.false ∙ c.bytes_length.ensures) (λ e. w.if-words-bits_length.true (e ∙ sym w.bits_length.ensures))
    ] in
    record { answer = answer; words = refl; says = words_say s bytes words _ answer _ refl }

pub returns : goal.returns
returns c =
    let s = c.args.s in
    let bytes = c.args.bytes.now in
    let words = c.args.words.now in
    let answer = words_done s (length bytes) (length words) ((allowed_exact s).0 (sym c.is_allowed.ensures ∙ c.if-not-is_allowed.false)) (c.if-bytes-bytes_length.false ∙ c.bytes_length.ensures) (c.if-words-bits_length.false ∙ c.bits_length.ensures) in
    let filled = c.to_words.ensures ∙ ap (λ (n : ℕ). words_of n bytes) c.tile_count.ensures.0 in
    record { answer = answer; words = filled; says = words_say s bytes words _ answer _ filled }
