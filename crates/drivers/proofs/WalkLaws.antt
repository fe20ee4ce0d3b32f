-- A walk from source to source over a map of sources. It is a line (`gets_linear`), so it meets one end or one ring (`ring_or_end`).
use Prim.Native.Nat.{ℕ, suc}
use mathlib.Core.Path.{◌≡◌, refl, sym, ◌∙◌, ap, subst}
use mathlib.Core.Logic.{◌⊎◌, inl, inr, ⊎_elim, ◌≢◌}
use mathlib.Core.List.{List}
use native.Mathlib.Omega.{arith}
use lib.ListN.{get_or}

module _ (s : List ℕ) where
  -- one step or more
  pub data Goes : ℕ → ℕ → Type 0 where
    step : {w d : ℕ} → get_or s w 0 ≡ suc d → Goes w d
    further : {w m d : ℕ} → Goes w m → get_or s m 0 ≡ suc d → Goes w d

  -- none or more
  abbrev pub Gets : ℕ → ℕ → Type 0
  Gets w d = (w ≡ d) ⊎ Goes w d

  pub gets_on : {w m d : ℕ} → Gets w m → get_or s m 0 ≡ suc d → Goes w d
  gets_on (inl e) h = step (ap (λ (k : ℕ). get_or s k 0) e ∙ h)
  gets_on (inr g) h = further g h

  pub first_step : {x z : ℕ} → Goes x z → (d : ℕ) × (get_or s x 0 ≡ suc d) × Gets d z
  first_step (step e) = (_, e, inl refl)
  first_step (further g e) = let f = first_step g in (f.0, f.1, inr (gets_on f.2 e))

  pub goes_on : {a b c : ℕ} → Goes a b → Goes b c → Goes a c
  goes_on g (step e) = further g e
  goes_on g (further h e) = further (goes_on g h) e

  pub goes_gets : {a b c : ℕ} → Goes a b → Gets b c → Goes a c
  goes_gets {a} g (inl e) = subst (λ (x : ℕ). Goes a x) e g
  goes_gets g (inr h) = goes_on g h

  pub gets_goes : {a b c : ℕ} → Gets a b → Goes b c → Goes a c
  gets_goes {c = c} (inl e) h = subst (λ (x : ℕ). Goes x c) (sym e) h
  gets_goes (inr g) h = goes_on g h

  pub gets_gets : {a b c : ℕ} → Gets a b → Gets b c → Gets a c
  gets_gets {c = c} (inl e) h = subst (λ (x : ℕ). Gets x c) (sym e) h
  gets_gets (inr g) h = inr (goes_gets g h)

  -- a place has one source
  pub source_one : (w : ℕ) {a b : ℕ} → get_or s w 0 ≡ suc a → get_or s w 0 ≡ suc b → a ≡ b
  source_one w p q = let h : suc _ ≡ suc _ = sym p ∙ q in omega arith

  -- from a place one step on, whatever the place gets to is got to or is the place itself
  step_gets : {w d b : ℕ} → get_or s w 0 ≡ suc d → Gets w b → Gets d b ⊎ (w ≡ b)
  step_gets {b = b} e (inl q) = inr q
  step_gets {w} {b = b} e (inr g) = let f = first_step g in inl (subst (λ (x : ℕ). Gets x b) (source_one w f.1 e) f.2)

  -- the walk is a line: of two places that it gets to, one is before the other
  pub gets_linear : {w a b : ℕ} → Gets w a → Gets w b → Gets a b ⊎ Gets b a
  gets_linear {b = b} (inl e) gb = inl (subst (λ (x : ℕ). Gets x b) e gb)
  gets_linear (inr g) gb = goes_linear g gb
    where
      goes_linear : {w a b : ℕ} → Goes w a → Gets w b → Gets a b ⊎ Gets b a
      goes_linear {a = a} (step e) gb = ⊎_elim (λ h. inl h) (λ q. inr (inr (step (ap (λ (k : ℕ). get_or s k 0) (sym q) ∙ e)))) (step_gets e gb)
      goes_linear (further g e) gb =
          ⊎_elim
          (λ h. ⊎_elim (λ k. inl k) (λ q. inr (inr (step (ap (λ (k : ℕ). get_or s k 0) (sym q) ∙ e)))) (step_gets e h))
          (λ h. inr (inr (gets_on h e))) (goes_linear g gb)

  -- ---- rings

  -- from everywhere on a ring the way leads back
  back_one : {u x d : ℕ} → Goes u u → Goes x u → get_or s x 0 ≡ suc d → Goes d u
  back_one {u} {x} ring g e =
      let f = first_step g in
      let h = subst (λ (y : ℕ). Gets y u) (source_one x f.1 e) f.2 in
      gets_goes h ring

  pub ring_back : {u x : ℕ} → Goes u u → Gets u x → Goes x u
  ring_back {u} ring (inl e) = subst (λ (y : ℕ). Goes y u) e ring
  ring_back ring (inr (step e)) = back_one ring ring e
  ring_back ring (inr (further g e)) = back_one ring (ring_back ring (inr g)) e

  pub ring_goes_on : {u x : ℕ} → Goes u u → Gets u x → get_or s x 0 ≢ 0
  ring_goes_on ring g z = let f = first_step (ring_back ring g) in let a : suc f.0 ≡ 0 = sym f.1 ∙ z in absurd (omega arith)

  -- what gets to a ring and to an end
  pub ring_or_end : {w u x : ℕ} → Gets w u → Goes u u → Gets w x → get_or s x 0 ≢ 0
  ring_or_end {u = u} gu ring gx z =
      ⊎_elim (λ h. ring_goes_on ring h z)
      (λ h. ⊎_elim (λ (e : _ ≡ u). ring_goes_on ring (inl (sym e)) z)
      (λ g. let f = first_step g in let a : suc f.0 ≡ 0 = sym f.1 ∙ z in absurd (omega arith)) h) (gets_linear gu gx)

  -- two ends of one walk are one
  pub end_unique : {w a b : ℕ} → Gets w a → get_or s a 0 ≡ 0 → Gets w b → get_or s b 0 ≡ 0 → a ≡ b
  end_unique ga za gb zb = ⊎_elim (stays za) (λ h. sym (stays zb h)) (gets_linear ga gb)
    where
      stays : {x y : ℕ} → get_or s x 0 ≡ 0 → Gets x y → x ≡ y
      stays z (inl e) = e
      stays z (inr g) = let f = first_step g in let q : suc f.0 ≡ 0 = sym f.1 ∙ z in absurd (omega arith)
