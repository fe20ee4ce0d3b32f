-- A range of ports filled after all that come before it. `WiresWritten` is the state of a slice in which one is filled port by port; main laws:
-- `written_start`, `-step`, and `fill_end`, `copy_end`, `cross_end`, `number_end`, which say that the ports have their wires.
use Prim.Native.Nat.{ℕ, ◌+◌, ◌-◌, ◌≤◌, ◌<◌}
use mathlib.Core.Path.{◌≡◌, refl, sym, ◌∙◌, ap, subst}
use mathlib.Core.List.{List, ◌++◌}
use mathlib.Core.Logic.{⊎_elim}
use native.Mathlib.Omega.{arith}
use native.Mathlib.Nat.{mul-le-mul_right}
use borrow.Author.Count.{below_more}
use lib.ListN.{length, get_or, set, take, drop, length-set, length-drop}
use lib.Seq.{get_or-set_same, get_or-set_other}
use Rattle.std.proofs.lemmas.List.{length-append, get_or_append_left, get_or-append_right, get_or-take}
use Rattle.lists.proofs.CaseLaws.{lt_or_le}
use Rattle.ports.specs.declared.size.Block.{Block}
use Rattle.ports.specs.Block.{Sized, port}
use Rattle.ports.specs.Lengths.{ports}
use Rattle.fabric.specs.Span.{flip}
use Rattle.fabric.specs.Wire.{wire_of}
use Rattle.wiring.specs.Fill.{Wired, Range, Copies, Crosses, Numbers}
use Rattle.ports.proofs.BlockLaws.{ports_le}
use Rattle.fabric.proofs.FlipLaws.{flip_lt}
use Rattle.fabric.proofs.WireLaws.{wire_fits}

-- ys is xs with f 0, f 1, .. in its place `at` and the k - 1 after it; what comes later is not spoken of
pub record WiresWritten (xs : List ℕ) (at : ℕ) (f : ℕ → ℕ) (k : ℕ) (ys : List ℕ) : Type 0 where
  pub long : length ys ≡ length xs
  pub kept : (i : ℕ) → i < at → get_or ys i 0 ≡ get_or xs i 0
  pub written : (j : ℕ) → j < k → get_or ys (at + j) 0 ≡ f j

module _ (xs : List ℕ) (at : ℕ) (f : ℕ → ℕ) where
  pub written_start : WiresWritten xs at f 0 xs
  written_start = record { long = refl; kept = λ i l. refl; written = λ j l. absurd (omega arith) }

  pub written_step : (k : ℕ) (ys : List ℕ) (v : ℕ) → WiresWritten xs at f k ys → at + k < length ys → v ≡ f k → WiresWritten xs at f (k + 1) (set ys (at + k) v)
  written_step k ys v h l e = record {
    long = length-set ys (at + k) v ∙ h.long;
    kept = λ i li. get_or-set_other ys (at + k) i v 0 (λ q. absurd (omega arith)) ∙ h.kept i li;
    written =
        below_more (λ j. get_or (set ys (at + k) v) (at + j) 0 ≡ f j) k
        (λ j lj. get_or-set_other ys (at + k) (at + j) v 0 (λ q. absurd (omega arith)) ∙ h.written j lj)
        (get_or-set_same ys (at + k) v 0 l ∙ e);
  }

-- ---- the ports of a range

pub wired_at : (B : Block) {wires : List ℕ} (i j : ℕ) → Wired B i wires → i ≡ j → Wired B j wires
wired_at B {wires} i j h e = subst (λ (m : ℕ). Wired B m wires) e h

pub range_end : (B : Block) (x y q count : ℕ) → Range B x y q count → port B x y q + count ≤ ports B
range_end B x y q count r = let f = r.fits in omega (arith, mul-le-mul_right B.w r.y_lt, r.x_lt)

pub number_fits : (B : Block) (first x y q count k : ℕ) → Sized B → Numbers B first x y q count → k < count → first + k < 65536
number_fits B first x y q count k s N l =
    let inside : port B x y (q + k) < ports B = omega (arith, range_end B x y q count N.to) in
    omega (arith, N.same k l, wire_fits B s (port B x y (q + k)) inside)

-- the ports before the range as they were, then the range with a wire for each of its ports, then what came after it
module _ {B : Block} {x y q count : ℕ} {wires : List ℕ} (done rest : List ℕ) (r : Range B x y q count) (before : Wired B (port B x y q) wires)
    (parts : wires ≡ done ++ rest) (e : length done ≡ port B x y q) where
  w : Wired B (port B x y q) (done ++ rest)
  w = subst (Wired B (port B x y q)) parts before

  -- the range is not longer than what comes after the ports before it
  pub room : count ≤ length rest
  room = let l = w.long in omega (arith, length-append done rest, range_end B x y q count r)

  pub fill_end : (items : List ℕ) → length items ≡ count → ((k : ℕ) → k < count → get_or items k 0 ≡ wire_of B (port B x y (q + k)))
      → Wired B (port B x y (q + count)) (done ++ (items ++ drop count rest))
  fill_end items n h = record {
    upto = omega (arith, range_end B x y q count r);
    long =
        let l = w.long in
        omega (arith, room, length-append done rest, length-append done (items ++ drop count rest), length-append items (drop count rest), length-drop count rest);
    filled = λ i l. ⊎_elim (earlier i) (inside i l) (lt_or_le i (port B x y q));
  }
    where
      earlier : (i : ℕ) → i < port B x y q → get_or (done ++ (items ++ drop count rest)) i 0 ≡ wire_of B i
      earlier i l = get_or_append_left done (items ++ drop count rest) 0 i (omega arith) ∙ sym (get_or_append_left done rest 0 i (omega arith)) ∙ w.filled i l

      inside : (i : ℕ) → i < port B x y (q + count) → port B x y q ≤ i → get_or (done ++ (items ++ drop count rest)) i 0 ≡ wire_of B i
      inside i l g =
          let k : port B x y (q + (i - port B x y q)) ≡ i = omega arith in
          get_or-append_right done (items ++ drop count rest) (port B x y q) i 0 e g
          ∙ get_or_append_left items (drop count rest) 0 (i - port B x y q) (omega arith)
          ∙ h (i - port B x y q) (omega arith) ∙ ap (wire_of B) k

-- a range that comes before, crossed, as it is read
pub cross_read : {B : Block} {u v p x y q count : ℕ} {wires : List ℕ} → Crosses B u v p x y q count → Wired B (port B x y q) wires → (k : ℕ) → k < count
    → get_or (take (port B x y q) wires) (port B u v p + flip k) 0 ≡ wire_of B (port B x y (q + k))
cross_read {B} {u} {v} {p} {x} {y} {q} {count} {wires} C w k l =
    let f = flip_lt count C.even l in
    let e : port B u v p + flip k ≡ port B u v (p + flip k) = omega arith in
    get_or-take (port B x y q) wires (port B u v p + flip k) 0 (omega (arith, C.before))
    ∙ w.filled _ (omega (arith, C.before)) ∙ ap (wire_of B) e ∙ sym (C.same k l)

-- ---- the same, port by port

-- the number of port q + k
place : (B : Block) (x y q k i : ℕ) → i ≡ port B x y q → i + k ≡ port B x y (q + k)
place B x y q k i e = omega arith

-- an index of the slice, which is short
pub record Index (i : ℕ) (ys : List ℕ) : Type 0 where
  pub below : i < length ys
  pub small : i < 65536

module _ {B : Block} {x y q count to k i : ℕ} {xs ys : List ℕ} {f : ℕ → ℕ} (s : Sized B) (r : Range B x y q count) (is : to ≡ port B x y q)
    (before : Wired B i xs) (w : WiresWritten xs to f k ys) where
  -- a place of the range
  pub to_index : (j : ℕ) → j < count → Index (to + j) ys
  to_index j l = record {
    below = omega (arith, w.long, before.long, range_end B x y q count r);
    small = omega (arith, range_end B x y q count r, ports_le B s);
  }

  -- a place of a range that comes before
  pub from_index : (u v p from j : ℕ) → from ≡ port B u v p → port B u v p + count ≤ port B x y q → j < count → Index (from + j) ys
  from_index u v p from j at e l = let g = to_index j l in record { below = omega arith; small = omega arith }

module _ (B : Block) (x y q count to : ℕ) (xs ys : List ℕ) (before : Wired B (port B x y q) xs) (is : to ≡ port B x y q) where
  written_end : Range B x y q count → (f : ℕ → ℕ) (n : ℕ) → n ≡ count → WiresWritten xs to f n ys
      → ((j : ℕ) → j < count → f j ≡ wire_of B (port B x y (q + j))) → Wired B (port B x y (q + count)) ys
  written_end r f n e w s = record {
    upto = omega (arith, range_end B x y q count r);
    long = w.long ∙ before.long;
    filled = λ i l. ⊎_elim (λ (h : i < to). w.kept i h ∙ before.filled i (omega arith)) (later i l) (lt_or_le i to);
  }
    where
      later : (i : ℕ) → i < port B x y (q + count) → to ≤ i → get_or ys i 0 ≡ wire_of B i
      later i l h =
          subst (λ (m : ℕ). get_or ys m 0 ≡ wire_of B m) (let a : to + (i - to) ≡ i = omega arith in a)
          (w.written (i - to) (omega arith) ∙ s (i - to) (omega arith) ∙ ap (wire_of B) (sym (place B x y q (i - to) to is)))

  pub number_end : (first n : ℕ) → Numbers B first x y q count → n ≡ count → WiresWritten xs to (λ j. first + j) n ys → Wired B (port B x y (q + count)) ys
  number_end first n N e w = written_end N.to (λ j. first + j) n e w (λ j l. sym (N.same j l))

  module _ (u v p from n : ℕ) (at : from ≡ port B u v p) (e : n ≡ count) where
    -- what stood there before
    read : (j : ℕ) → port B u v p + j < port B x y q → get_or xs (from + j) 0 ≡ wire_of B (port B u v (p + j))
    read j l = before.filled (from + j) (omega arith) ∙ ap (wire_of B) (place B u v p j from at)

    pub copy_end : Copies B u v p x y q count → WiresWritten xs to (λ j. get_or xs (from + j) 0) n ys → Wired B (port B x y (q + count)) ys
    copy_end C w = written_end C.to _ n e w (λ j l. read j (omega (arith, C.before)) ∙ sym (C.same j l))

    pub cross_end : Crosses B u v p x y q count → WiresWritten xs to (λ j. get_or xs (from + flip j) 0) n ys → Wired B (port B x y (q + count)) ys
    cross_end C w =
        written_end C.to _ n e w (λ j l. read (flip j) (omega (arith, C.before, flip_lt count C.even l)) ∙ sym (C.same j l))

-- ---- rows of tiles

module _ (B : Block) (y : ℕ) where
  pub rows_next : port B B.w y 0 ≡ port B 0 (y + 1) 0
  rows_next = omega arith

  pub rows_all : B.h ≤ y → ports B ≤ port B 0 y 0
  rows_all h = omega (arith, mul-le-mul_right B.w h)
