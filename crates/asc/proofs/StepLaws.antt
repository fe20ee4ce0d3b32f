-- What a line leads to, by the tests that the code makes. Main laws: `dot-..`, `device-..`, `tile-..`, `row-..`, `next-..`, one for each branch.
use Prim.Native.Nat.{ℕ, zero, suc, ◌+◌, ◌-◌, ◌*◌, ◌<◌, ◌≤◌}
use mathlib.Core.Path.{◌≡◌, refl}
use mathlib.Core.Bool.{Bool, true, false, ◌&&◌, not}
use mathlib.Core.Logic.{◌≢◌}
use mathlib.Core.List.{List, [], ◌∷◌}
use native.Mathlib.Omega.{arith}
use borrow.Author.Tests.{eq-eqb, ne_eqb}
use lib.ListN.{length, get_or, set}
use Rattle.texts.specs.Lines.{same, word}
use Rattle.texts.specs.Pieces.{placed}
use Rattle.ports.specs.Lengths.{positions}
use Rattle.asc.specs.Area.{Area}
use Rattle.asc.specs.Spelling.{device_word, device_line, tile_word, line_x, line_y, is_tile_line, is_row}
use Rattle.asc.specs.Stages.{Stage, stage}
use Rattle.asc.specs.Next.{goes, fault, inside, tile_at, tile_next, device_next, dot_next, row_next, next_of}

-- ---- a dot line, by its tests

module _ (a : Area) (d k : Bool) (p : ℕ) (g c line : List ℕ) where
  pub dot_device : same (word line) device_word ≡ true → dot_next a d k p g c line ≡ device_next d p g c line
  unfolding dot_next
  dot_device e = rw e

  pub dot_other : same (word line) device_word ≡ false → same (word line) tile_word ≡ false → dot_next a d k p g c line ≡ goes (stage d true 0 p g c)
  unfolding dot_next
  dot_other e f = rw (e, f)

  pub dot_bad : same (word line) device_word ≡ false → same (word line) tile_word ≡ true → is_tile_line line ≡ false → dot_next a d k p g c line ≡ fault
  unfolding dot_next
  dot_bad e f h = rw (e, f, h)

  pub dot_tile : same (word line) device_word ≡ false → same (word line) tile_word ≡ true → is_tile_line line ≡ true
      → dot_next a d k p g c line ≡ tile_next a d k p g c (line_x line) (line_y line)
  unfolding dot_next
  dot_tile e f h = rw (e, f, h)

module _ (d : Bool) (p : ℕ) (g c line : List ℕ) where
  pub device_good : same line device_line ≡ true → d ≡ false → device_next d p g c line ≡ goes (stage true false 0 p g c)
  unfolding device_next
  device_good e f = rw (e, f)

  pub device_bad : same line device_line && not d ≡ false → device_next d p g c line ≡ fault
  unfolding device_next
  device_bad e = rw e

module _ (a : Area) (d k : Bool) (p : ℕ) (g c : List ℕ) (X Y : ℕ) where
  pub tile_outside : inside a X Y ≡ false → tile_next a d k p g c X Y ≡ goes (stage d true 0 p g c)
  unfolding tile_next
  tile_outside e = rw e

  pub tile_twice : inside a X Y ≡ true → get_or g (tile_at a X Y) 0 ≢ 0 → tile_next a d k p g c X Y ≡ fault
  unfolding tile_next
  tile_twice e h = rw (e, ne_eqb (get_or g (tile_at a X Y) 0) 0 h)

  pub tile_given : inside a X Y ≡ true → get_or g (tile_at a X Y) 0 ≡ 0
      → tile_next a d k p g c X Y ≡ goes (stage d false 16 (positions * tile_at a X Y) (set g (tile_at a X Y) 1) c)
  unfolding tile_next
  tile_given e h = rw (e, eq-eqb (get_or g (tile_at a X Y) 0) 0 h)

module _ (d k : Bool) (l p : ℕ) (g c line : List ℕ) where
  pub row_good_lem : is_row line ≡ true → row_next d k l p g c line ≡ goes (stage d k l (p + 54) g (placed p line c))
  unfolding row_next
  row_good_lem e = rw e

  pub row_bad : is_row line ≡ false → row_next d k l p g c line ≡ fault
  unfolding row_next
  row_bad e = rw e

-- ---- any line, as the code looks at it

module _ (a : Area) where
  pub next_empty : (st : Stage) (line : List ℕ) → length line ≡ 0 → next_of a st line ≡ goes st
  unfolding next_of
  next_empty st [] e = refl
  next_empty st (b ∷ line) e = absurd (omega arith)

  module _ (d k : Bool) where
    pub next_row : (l p : ℕ) (g c line : List ℕ) → length line ≢ 0 → 0 < l → next_of a (stage d k l p g c) line ≡ row_next d k (l - 1) p g c line
    unfolding next_of
    next_row zero p g c line h m = absurd (omega arith)
    next_row (suc l) p g c [] h m = absurd (h refl)
    next_row (suc l) p g c (b ∷ line) h m = let e : suc l - 1 ≡ l = omega arith in rw e

    pub next_dot : (l p : ℕ) (g c line : List ℕ) → length line ≢ 0 → l ≤ 0 → get_or line 0 0 ≡ 46 → next_of a (stage d k l p g c) line ≡ dot_next a d k p g c line
    unfolding next_of
    next_dot (suc l) p g c line h m e = absurd (omega arith)
    next_dot zero p g c [] h m e = absurd (h refl)
    next_dot zero p g c (b ∷ line) h m e = rw (eq-eqb b 46 e)

  pub next_skip : (d k : Bool) (l p : ℕ) (g c line : List ℕ) → length line ≢ 0 → l ≤ 0 → get_or line 0 0 ≢ 46 → k ≡ true → next_of a (stage d k l p g c) line ≡ goes (stage d k l p g c)
  unfolding next_of
  next_skip d k (suc l) p g c line h m e t = absurd (omega arith)
  next_skip d k zero p g c [] h m e t = absurd (h refl)
  next_skip d k zero p g c (b ∷ line) h m e t = rw (ne_eqb b 46 e, t)

  pub next_text : (d k : Bool) (l p : ℕ) (g c line : List ℕ) → length line ≢ 0 → l ≤ 0 → get_or line 0 0 ≢ 46 → k ≡ false → next_of a (stage d k l p g c) line ≡ fault
  unfolding next_of
  next_text d k (suc l) p g c line h m e t = absurd (omega arith)
  next_text d k zero p g c [] h m e t = absurd (h refl)
  next_text d k zero p g c (b ∷ line) h m e t = rw (ne_eqb b 46 e, t)
