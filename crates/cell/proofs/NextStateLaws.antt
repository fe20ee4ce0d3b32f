-- Each way of `next_sync`, `next_async` and `next_state`. Main law: `next_sync_disabled`.
use mathlib.Core.Path.{◌≡◌, refl}
use mathlib.Core.Bool.{Bool, true, false, and_comm}
use mathlib.Core.Logic.{◌≢◌}
use Prim.Native.Nat.{ℕ}
use lib.Dec.{eqb}
use borrow.Author.Tests.{ne_eqb}
use Rattle.cell.specs.declared.logic.Cell.{Cell}
use Rattle.cell.specs.declared.flip_flop.Control.{Control}
use Rattle.cell.specs.NextState.{rose, ticked, next_sync, next_async, next_state, bit_of}

module _ (state : ℕ) (enable reset set lookup : ℕ) where
  pub next_sync_still : next_sync state false enable reset set lookup ≡ state
  unfolding next_sync
  next_sync_still = refl

  -- without the clock enable the state is kept, whatever s_r is: the synchronous reset does not beat the enable
  pub next_sync_disabled : (tick : Bool) → enable ≢ 1 → next_sync state tick enable reset set lookup ≡ state
  unfolding next_sync
  next_sync_disabled true h = rw (ne_eqb enable 1 h)
  next_sync_disabled false h = refl

  pub next_sync_reset : enable ≡ 1 → reset ≡ 1 → next_sync state true enable reset set lookup ≡ set
  unfolding next_sync
  next_sync_reset h r = rw (h, r)

  pub next_sync_lookup : enable ≡ 1 → reset ≢ 1 → next_sync state true enable reset set lookup ≡ lookup
  unfolding next_sync
  next_sync_lookup h r = rw (h, ne_eqb reset 1 r)

module _ (state : ℕ) (enable after set lookup : ℕ) where
  -- no event: kept, also while s_r stays 1
  pub next_async_still : next_async state false false enable after set lookup ≡ state
  unfolding next_async
  next_async_still = refl

  pub next_async_tick_set : (rise : Bool) → after ≡ 1 → next_async state true rise enable after set lookup ≡ set
  unfolding next_async
  next_async_tick_set rise h = rw h

  pub next_async_tick_lookup : (rise : Bool) → after ≢ 1 → enable ≡ 1 → next_async state true rise enable after set lookup ≡ lookup
  unfolding next_async
  next_async_tick_lookup rise h e = rw (ne_eqb after 1 h, e)

  pub next_async_tick_keep : (rise : Bool) → after ≢ 1 → enable ≢ 1 → next_async state true rise enable after set lookup ≡ state
  unfolding next_async
  next_async_tick_keep rise h e = rw (ne_eqb after 1 h, ne_eqb enable 1 e)

  pub next_async_rise_set : after ≡ 1 → next_async state false true enable after set lookup ≡ set
  unfolding next_async
  next_async_rise_set h = rw h

  pub next_async_rise_keep : after ≢ 1 → next_async state false true enable after set lookup ≡ state
  unfolding next_async
  next_async_rise_keep h = rw (ne_eqb after 1 h)

module _ (c : Cell) (control : Control) (lookup state : ℕ) where
  pub next_state_none : c.flipflop ≡ false → next_state c control lookup state ≡ state
  unfolding next_state
  next_state_none h = rw h

  pub next_state_async : c.flipflop ≡ true → c.asynchronous ≡ true
      → next_state c control lookup state
      ≡ next_async state control.tick (rose control.before control.after) control.enable control.after (bit_of c.set) lookup
  unfolding next_state
  next_state_async h a = rw (h, a)

  pub next_state_sync : c.flipflop ≡ true → c.asynchronous ≡ false
      → next_state c control lookup state ≡ next_sync state control.tick control.enable control.before (bit_of c.set) lookup
  unfolding next_state
  next_state_sync h a = rw (h, a)

-- ---- the clock's edge is a rise, with NegClk the other way round

pub ticked_plain : (before after : ℕ) → ticked false before after ≡ rose before after
unfolding ticked rose
ticked_plain before after = refl

pub ticked_inverted : (before after : ℕ) → ticked true before after ≡ rose after before
unfolding ticked rose
ticked_inverted before after = and_comm (eqb before 1) (eqb after 0)
