-- What clocking answers, one law a ground, and what a yes shows. Main laws: `clock_size`, `clock_length`, `clock_inputs`; `bytes_clockable`. Assumes nothing.
use Rattle.std.specs.Prelude.{Ok, Err}
use Prim.Native.Nat.{ℕ}
use mathlib.Core.Path.{◌≡◌}
use mathlib.Core.Bool.{Bool, true, false}
use mathlib.Core.List.{List, ◌++◌}
use Rattle.refusal.specs.declared.Refusal.TheVariants.{WrongSize, WrongLength}
use Rattle.ports.specs.declared.size.Size.{Size}
use Rattle.ports.specs.Block.{tile_count, Allowed, allowed}
use Rattle.netlist.specs.Running.{Bits}
use Rattle.moments.specs.Clocking.{Clockable}
use Rattle.moments.specs.Checks.{settings_answer, bytes_answer}
use Rattle.moments.specs.Clocking.{clock_answer}
use Rattle.moments.specs.Lengths.{clock_lent, ClockLong}
use Rattle.sim.proofs.ByteLaws.{bits_of, bits_left, bits_right, bits_append, none_of_bits}
use Rattle.moments.proofs.ByteLaws.{bytes_done, bytes_shows}

-- ---- ground 10, of three joined

module _ (state before after : List ℕ) where
  pub three_bits : bytes_answer (state ++ before ++ after) ≡ (Ok tt) → Bits state × Bits before × Bits after
  three_bits e =
      let all = bits_of (state ++ before ++ after) (bytes_shows (state ++ before ++ after) e) in
      let two = bits_left (state ++ before) after all in
      (bits_left state before two, bits_right state before two, bits_right (state ++ before) after all)

  pub bits_three : Bits state → Bits before → Bits after → Bits (state ++ before ++ after)
  bits_three s b a = bits_append (state ++ before) after (bits_append state before s b) a

  pub bits_done : Bits state → Bits before → Bits after → (Ok tt) ≡ bytes_answer (state ++ before ++ after)
  bits_done s b a = bytes_done (state ++ before ++ after) (none_of_bits (state ++ before ++ after) (bits_three s b a))

-- ---- grounds 1 and 2

module _ (S : Size) (t st state before after : List ℕ) where
  pub clock_size : (lengths : Bool) → allowed S ≡ false → Err WrongSize ≡ clock_answer S t st state before after lengths
  unfolding clock_answer
  clock_size lengths e = rw e

  pub clock_length : (lengths : Bool) → allowed S ≡ true → lengths ≡ false → Err WrongLength ≡ clock_answer S t st state before after lengths
  unfolding clock_answer
  clock_length lengths e l = rw (e, l)

  pub clock_inputs : (lengths : Bool) → allowed S ≡ true → lengths ≡ true
      → settings_answer t st (tile_count S) (bytes_answer (state ++ before ++ after)) ≡ clock_answer S t st state before after lengths
  unfolding clock_answer
  clock_inputs lengths e l = rw (e, l)

  -- where ground 10 is not given either, the cells can be clocked
  pub bytes_clockable : (n : ℕ) → Allowed S → ClockLong S (clock_lent t st state before after n) → bytes_answer (state ++ before ++ after) ≡ (Ok tt)
      → Clockable S st state before after
  bytes_clockable n size long done =
      let bits = three_bits state before after done in
      record {
        size = size;
        settings_long = long.settings_long;
        state_long = long.state_long;
        before_long = long.before_long;
        before_bits = bits.1;
        after_long = long.after_long;
      }
