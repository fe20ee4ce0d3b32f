-- `put_frames` meets its contract: table and bytes hold what the frames say, and the words' tiles are the bytes' tiles. Assumes nothing.
use Rattle.reporting.specs.Report.{block_lines}
use Rattle.texts.proofs.PutsLaws.{Puts}
use Rattle.frames.proofs.ContentsLaws.{bits_long}
use Rattle.frames.specs.Contents.{bits_of}
use Rattle.config.specs.Blocks.{tiles_of}
use Rattle.words.proofs.FormsLaws.{tiles_same}
use Rattle.words.specs.Forms.{TileBits, words_of, tiles_of_bytes}
use Rattle.ports.specs.Block.{tiles}
use Prim.Native.Nat.{ℕ}
use mathlib.Core.Path.{◌≡◌, subst, ap, ◌∙◌}
use Rattle.reporting.proofs.put_frames.Goals as goal

pub returns : goal.returns
returns c =
    let b = c.args.b in
    let s = c.args.s.now in
    let table = c.fill_table.new.table in
    let words = c.to_words.new.words in
    let same : tiles_of words ≡ tiles_of_bytes (bits_of s (tiles b)) = ap tiles_of (c.to_words.ensures ∙ ap (words_of (tiles b)) c.fill_bits.ensures) ∙ tiles_same (tiles b) (bits_of s (tiles b)) (bits_long s (tiles b)) in
    let puts : Puts 0 (block_lines b table (tiles_of words)) c.args.out.now c.put_block.result c.put_block.new.out = (c.put_block.ensures.next, c.put_block.ensures.out) in let all_clauses = subst (λ t. Puts 0 (block_lines b t (tiles_of_bytes (bits_of s (tiles b)))) c.args.out.now c.put_block.result c.put_block.new.out) c.fill_table.ensures (subst (λ (tile : ℕ → TileBits). Puts 0 (block_lines b table tile) c.args.out.now c.put_block.result c.put_block.new.out) same puts) in record { next = all_clauses.0; out = all_clauses.1 }
