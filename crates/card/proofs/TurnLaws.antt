-- One turn of each loop that marks wires, and how long the marks are. Main laws: `..-start`, `..-next`, `..-length`. Assumes nothing.
use Prim.Native.Nat.{ℕ, zero, suc, ◌+◌, ◌-◌, ◌*◌, ◌/◌, ◌%◌, ◌≤◌, ◌<◌}
use mathlib.Core.Path.{◌≡◌, refl, sym, ap, subst, ◌∙◌}
use mathlib.Core.Bool.{Bool, true, false, cond}
use mathlib.Core.Logic.{◌≢◌}
use mathlib.Core.List.{List}
use native.Mathlib.Omega.{arith}
use native.Mathlib.Numerals.{add-one}
use borrow.Author.Tests.{eq-eqb, ne_eqb}
use lib.Dec.{eqb}
use lib.ListN.{length, get_or, set, length-set}
use lib.Seq.{set-get_or}
use Rattle.ports.specs.declared.size.Block.{Block}
use Rattle.ports.specs.Block.{port_of}
use Rattle.fabric.specs.Wire.{wire_of}
use Rattle.netlist.specs.declared.row.Row.{Row}
use Rattle.netlist.specs.Marks.{listed}
use Rattle.netlist.specs.Rows.{row_at, arity_of, operand_of}
use Rattle.netlist.proofs.MarkLaws.{listed_true, listed_false}
use Rattle.card.specs.Cells.{flop_cell}
use Rattle.card.specs.Marks.{mark_ports, west_marks, east_marks, south_marks, north_marks, exit_marks, kept_at, kept_to, flop_mark, flop_marks, read_marks, touched, reach}

cond_length : (b : Bool) (x y : List ℕ) (n : ℕ) → length x ≡ n → length y ≡ n → length (cond b x y) ≡ n
cond_length true x y n p q = p
cond_length false x y n p q = q

-- ---- the ports of a tile

module _ (B : Block) (T from : ℕ) (m : List ℕ) where
  pub ports_start : m ≡ mark_ports B T from 0 m
  unfolding mark_ports
  ports_start = refl

  pub ports_next : (k v : ℕ) (now next : List ℕ) → now ≡ mark_ports B T from k m → v ≡ wire_of B (port_of T (from + k)) → next ≡ set now v 1
      → next ≡ mark_ports B T from (k + 1) m
  unfolding mark_ports
  ports_next k v now next e f g = g ∙ rw (add-one k, f, e)

  pub ports_length : (k : ℕ) → length (mark_ports B T from k m) ≡ length m
  unfolding mark_ports
  ports_length zero = refl
  ports_length (suc k) = length-set (mark_ports B T from k m) _ 1 ∙ ports_length k

-- ---- the sides of a tile

module _ (B : Block) (T : ℕ) (m : List ℕ) where
  pub west_no : T % B.w ≢ 0 → m ≡ west_marks B T m
  unfolding west_marks
  west_no n = rw (ne_eqb (T % B.w) 0 n)

  pub west_yes : T % B.w ≡ 0 → (a b c : List ℕ) → a ≡ mark_ports B T 0 48 m → b ≡ mark_ports B T 144 48 a → c ≡ mark_ports B T 240 24 b → c ≡ west_marks B T m
  unfolding west_marks
  west_yes e a b c p q r = r ∙ rw (q, p, eq-eqb (T % B.w) 0 e)

  pub east_no : T % B.w + 1 ≢ B.w → m ≡ east_marks B T m
  unfolding east_marks
  east_no n = rw (ne_eqb (T % B.w + 1) B.w n)

  pub east_yes : T % B.w + 1 ≡ B.w → (a b c : List ℕ) → a ≡ mark_ports B T 48 48 m → b ≡ mark_ports B T 192 48 a → c ≡ mark_ports B T 264 24 b
      → c ≡ east_marks B T m
  unfolding east_marks
  east_yes e a b c p q r = r ∙ rw (q, p, eq-eqb (T % B.w + 1) B.w e)

  pub south_no : T / B.w ≢ 0 → m ≡ south_marks B T m
  unfolding south_marks
  south_no n = rw (ne_eqb (T / B.w) 0 n)

  pub south_yes : T / B.w ≡ 0 → (a b : List ℕ) → a ≡ mark_ports B T 144 48 m → b ≡ mark_ports B T 312 24 a → b ≡ south_marks B T m
  unfolding south_marks
  south_yes e a b p q = q ∙ rw (p, eq-eqb (T / B.w) 0 e)

  pub north_no : T / B.w + 1 ≢ B.h → m ≡ north_marks B T m
  unfolding north_marks
  north_no n = rw (ne_eqb (T / B.w + 1) B.h n)

  pub north_yes : T / B.w + 1 ≡ B.h → (a b : List ℕ) → a ≡ mark_ports B T 96 48 m → b ≡ mark_ports B T 288 24 a → b ≡ north_marks B T m
  unfolding north_marks
  north_yes e a b p q = q ∙ rw (p, eq-eqb (T / B.w + 1) B.h e)

  pub west_length : length (west_marks B T m) ≡ length m
  unfolding west_marks
  west_length =
      cond_length (eqb (T % B.w) 0) _ m _ (ports_length B T 240 _ 24 ∙ ports_length B T 144 _ 48 ∙ ports_length B T 0 m 48) refl

  pub east_length : length (east_marks B T m) ≡ length m
  unfolding east_marks
  east_length =
      cond_length (eqb (T % B.w + 1) B.w) _ m _ (ports_length B T 264 _ 24 ∙ ports_length B T 192 _ 48 ∙ ports_length B T 48 m 48) refl

  pub south_length : length (south_marks B T m) ≡ length m
  unfolding south_marks
  south_length = cond_length (eqb (T / B.w) 0) _ m _ (ports_length B T 312 _ 24 ∙ ports_length B T 144 m 48) refl

  pub north_length : length (north_marks B T m) ≡ length m
  unfolding north_marks
  north_length = cond_length (eqb (T / B.w + 1) B.h) _ m _ (ports_length B T 288 _ 24 ∙ ports_length B T 96 m 48) refl

-- ---- all tiles

module _ (B : Block) (m : List ℕ) where
  pub exits_start : m ≡ exit_marks B 0 m
  unfolding exit_marks
  exits_start = refl

  pub exits_next : (n : ℕ) (now a b c d : List ℕ) → now ≡ exit_marks B n m → a ≡ west_marks B n now → b ≡ east_marks B n a → c ≡ south_marks B n b
      → d ≡ north_marks B n c → d ≡ exit_marks B (n + 1) m
  unfolding exit_marks
  exits_next n now a b c d e p q r s = s ∙ rw (r, q, p, e, add-one n)

  pub exit_length : (n : ℕ) → length (exit_marks B n m) ≡ length m
  unfolding exit_marks
  exit_length zero = refl
  exit_length (suc n) = north_length B n _ ∙ south_length B n _ ∙ east_length B n _ ∙ west_length B n _ ∙ exit_length n

-- ---- marks that stay

module _ (p : ℕ → Bool) (m : List ℕ) where
  pub kept_start : m ≡ kept_to p 0 m
  unfolding kept_to
  kept_start = refl

  pub kept_next : (n : ℕ) (now next : List ℕ) → now ≡ kept_to p n m → next ≡ kept_at p n now → next ≡ kept_to p (n + 1) m
  unfolding kept_to
  kept_next n now next e f = f ∙ rw (e, add-one n)

  pub kept_yes : (w : ℕ) → p w ≡ true → m ≡ kept_at p w m
  unfolding kept_at
  kept_yes w t = rw t

  pub kept_no : (w : ℕ) (next : List ℕ) → p w ≡ false → next ≡ set m w 0 → next ≡ kept_at p w m
  unfolding kept_at
  kept_no w next f e = rw f e

  -- where there is no mark, nothing changes
  pub kept_clear : (w : ℕ) → get_or m w 0 ≡ 0 → m ≡ kept_at p w m
  unfolding kept_at
  kept_clear w z = go (p w)
    where
      go : (b : Bool) → m ≡ cond b m (set m w 0)
      go true = refl
      go false = sym (ap (set m w) (sym z) ∙ set-get_or m w 0)

-- ---- flip-flops

module _ (B : Block) (st m : List ℕ) where
  pub flop_no : (c : ℕ) → flop_cell st c ≡ false → m ≡ flop_mark B st c m
  unfolding flop_mark
  flop_no c f = rw f

  pub flop_yes : (c : ℕ) → flop_cell st c ≡ true → (a b : List ℕ) → a ≡ mark_ports B (c / 8) (372 + 4 * (c % 8)) 4 m → b ≡ mark_ports B (c / 8) 476 3 a
      → b ≡ flop_mark B st c m
  unfolding flop_mark
  flop_yes c t a b p q = q ∙ rw (p, t)

  pub flops_start : m ≡ flop_marks B st 0 m
  unfolding flop_marks
  flops_start = refl

  pub flops_next : (n : ℕ) (now next : List ℕ) → now ≡ flop_marks B st n m → next ≡ flop_mark B st n now → next ≡ flop_marks B st (n + 1) m
  unfolding flop_marks
  flops_next n now next e f = f ∙ rw (e, add-one n)

  flop_length : (c : ℕ) → length (flop_mark B st c m) ≡ length m
  unfolding flop_mark
  flop_length c = cond_length (flop_cell st c) _ m _ (ports_length B (c / 8) 476 _ 3 ∙ ports_length B (c / 8) (372 + 4 * (c % 8)) m 4) refl

pub flops_length : (B : Block) (st m : List ℕ) (n : ℕ) → length (flop_marks B st n m) ≡ length m
unfolding flop_marks
flops_length B st m zero = refl
flops_length B st m (suc n) = flop_length B st (flop_marks B st n m) n ∙ flops_length B st m n

-- ---- rows

module _ (row : Row) (m : List ℕ) where
  pub reads_start : m ≡ read_marks row 0 m
  unfolding read_marks
  reads_start = refl

  pub reads_next : (n v : ℕ) (now next : List ℕ) → now ≡ read_marks row n m → v ≡ operand_of row n → next ≡ set now v 1 → next ≡ read_marks row (n + 1) m
  unfolding read_marks
  reads_next n v now next e f g = g ∙ rw (add-one n, f, e)

  pub reads_length : (n : ℕ) → length (read_marks row n m) ≡ length m
  unfolding read_marks
  reads_length zero = refl
  reads_length (suc n) = length-set (read_marks row n m) _ 1 ∙ reads_length n

  pub touched_no : get_or m row.wire 0 ≡ 0 → m ≡ touched row m
  unfolding touched
  touched_no z = rw (listed_false m row.wire z)

  pub touched_yes : get_or m row.wire 0 ≢ 0 → (next : List ℕ) → next ≡ read_marks row (arity_of row) m → next ≡ touched row m
  unfolding touched
  touched_yes n next e = rw (listed_true m row.wire n) e

  pub touched_length : length (touched row m) ≡ length m
  unfolding touched
  touched_length = cond_length (listed m row.wire) _ m _ (reads_length (arity_of row)) refl

module _ (list : List ℕ) where
  -- the pass with one row less to go
  pub reach_turn : (i : ℕ) (m next : List ℕ) → 0 < i → next ≡ touched (row_at list (i - 1)) m → reach list i m ≡ reach list (i - 1) next
  unfolding reach
  reach_turn zero m next l e = absurd (omega arith)
  reach_turn (suc k) m next l e =
      let q : suc k - 1 ≡ k = omega arith in
      subst (λ (j : ℕ). next ≡ touched (row_at list j) m → reach list (suc k) m ≡ reach list j next) (sym q) (λ f. ap (reach list k) (sym f)) e

  pub reach_end : (i : ℕ) (m : List ℕ) → i ≤ 0 → reach list i m ≡ m
  unfolding reach
  reach_end zero m l = refl
  reach_end (suc i) m l = absurd (omega arith)

  pub reach_long : (i : ℕ) (m : List ℕ) → length (reach list i m) ≡ length m
  unfolding reach
  reach_long zero m = refl
  reach_long (suc i) m = reach_long i (touched (row_at list i) m) ∙ touched_length (row_at list i) m

-- the same of a row as it was read, and of its wire
module _ (row r : Row) (m : List ℕ) (e : r ≡ row) (w : ℕ) (f : w ≡ r.wire) where
  wire_is : w ≡ row.wire
  wire_is = f ∙ ap (λ (x : Row). x.wire) e

  pub touched_skip : get_or m w 0 ≡ 0 → m ≡ touched row m
  touched_skip z = touched_no row m (subst (λ (v : ℕ). get_or m v 0 ≡ 0) wire_is z)

  pub touched_take : get_or m w 0 ≢ 0 → (next : List ℕ) → next ≡ read_marks r (arity_of r) m → next ≡ touched row m
  touched_take n next g =
      touched_yes row m (subst (λ (v : ℕ). get_or m v 0 ≢ 0) wire_is n) next (g ∙ ap (λ (x : Row). read_marks x (arity_of x) m) e)
