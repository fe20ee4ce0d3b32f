-- The grounds of `build` and `follow` in their orders. Main laws: `build_order`, `follow_order`; `bits_no`, `bits_yes`, grounds 3 to 8. Assumes nothing.
use Rattle.drivers.specs.declared.follow.Driver.{Driver}
use Rattle.std.specs.Prelude.{Result, Ok, Err}
use Prim.Native.Nat.{ℕ}
use mathlib.Core.Path.{refl}
use mathlib.Core.Logic.{inl, inr, ⊎_elim}
use mathlib.Core.List.{List}
use native.Mathlib.Omega.{arith}
use Rattle.refusal.specs.declared.Refusal.{Refusal}
use Rattle.refusal.specs.Grounds.{number_of, place_of, answer_number, number_value}
use Rattle.ports.specs.declared.size.Block.{Block}
use Rattle.ports.specs.Block.{Sized}
use Rattle.fabric.specs.Count.{wires}
use Rattle.block.specs.declared.lengths.RoomLent.{RoomLent}
use Rattle.block.specs.declared.lengths.BuildLent.{BuildLent}
use Rattle.block.specs.Lengths.{BuildLong, build_lent, follow_lent}
use Rattle.block.specs.Drivers.{followed_value}
use Rattle.block.specs.Meaning.{Accepted, ListNo, contention, disabled_carry, loop, cell_clock, Readable, BuildNo, BuildSays, wrong_size, wrong_length, broken, undecodable, unlisted}
use Rattle.block.specs.DriverMeaning.{FollowNo, FollowSays}
use Rattle.block.specs.DriverMeaning as following
use Rattle.block.proofs.MeaningLaws.{build_says}
use Rattle.block.proofs.DriverMeaningLaws.{follow_says}
use Rattle.config.specs.Blocks.{tiles_of}
use Rattle.contention.specs.Entry.{settings_read}
use Rattle.theorem.specs.Calls.{built, followed}
use Rattle.theorem.specs.Order.{at}
use Rattle.theorem.specs.BlockGrounds.{ListGrounds, BitsGrounds, BuildGrounds, FollowGrounds}
use Rattle.theorem.proofs.EntryOrder.{no_broken}

module _ (B : Block) (t bits settings : List ℕ) (room : RoomLent) where
  abbrev st : List ℕ
  st = settings_read B t bits

  abbrev lent : BuildLent
  lent = build_lent t bits settings room

  -- grounds 3 to 8, whatever comes with a yes

  module _ (says : ℕ → Type 0) where
    list_no : (refusal : Refusal) → ListNo B t st refusal → ListGrounds B t st says (number_of refusal) (place_of refusal)
    list_no refusal (contention w low) = inl (λ free. free w low.here, refl, low)
    list_no refusal (disabled_carry w free low) = inr (free, inl (λ unread. unread w low.here, refl, low))
    list_no refusal (loop w free unread low) = inr (free, inr (unread, inl (λ straight. straight w low.here, refl, low)))
    list_no refusal (cell_clock T free unread straight low) =
        inr (free, inr (unread, inr (straight, inl (λ clean. clean T low.within low.here, refl, low))))

    pub bits_no : Sized B → BuildLong B lent → (refusal : Refusal) → BuildNo B t bits lent refusal
        → BitsGrounds B t (tiles_of bits) st says (number_of refusal) (place_of refusal)
    bits_no s L refusal (wrong_size n) = absurd (n s)
    bits_no s L refusal (wrong_length _ n) = absurd (n L)
    bits_no s L refusal (broken part _ _ f) = inl (no_broken t part f, refl, f)
    bits_no s L refusal (undecodable place _ _ rules low) = inr (rules, inl (λ d. d low.faulty_tile low.within low.position low.faulty, refl, low))
    bits_no s L refusal (unlisted r R n) = inr (R.rules, inr (R.tiles_read_lem.decodable, list_no r n))

    pub bits_yes : Readable B t bits lent → Accepted B t st → (value : ℕ) → says value → BitsGrounds B t (tiles_of bits) st says 0 value
    bits_yes R A value said =
        inr (
          R.rules,
          inr (
            R.tiles_read_lem.decodable,
            inr (A.no_contention, inr (A.no_carry, inr (A.no_loop, inr (A.no_clock, (refl, said))))),
          ),
        )

  -- grounds 1 to 8

  abbrev BuildOrder : Result ℕ Refusal → Type 0
  BuildOrder a = BuildGrounds B t bits st lent (answer_number a) (number_value a)

  -- what has passed 1 and 2
  behind : Sized B → BuildLong B lent → (refusal : Refusal) → BuildNo B t bits lent refusal → BuildOrder (Err refusal)
  behind s L refusal n = inr (s, inr (L, bits_no (at (wires B)) s L refusal n))

  build_no : (refusal : Refusal) → BuildNo B t bits lent refusal → BuildOrder (Err refusal)
  build_no refusal (wrong_size n) = inl (n, refl, refl)
  build_no refusal (wrong_length s n) = inr (s, inl (n, refl, refl))
  build_no refusal (broken part s L f) = behind s L refusal (broken part s L f)
  build_no refusal (undecodable place s L rules low) = behind s L refusal (undecodable place s L rules low)
  build_no refusal (unlisted r R n) = behind R.size R.lengths refusal (unlisted r R n)

  pub build_order : BuildOrder (built B t bits settings room)
  build_order = go (built B t bits settings room) (build_says B t bits settings room _ refl)
    where
      go : (a : Result ℕ Refusal) → BuildSays B t bits lent a → BuildOrder a
      go (Ok rows) s = let R = s.0 in inr (R.size, inr (R.lengths, bits_yes (at (wires B)) R s.2 rows s.1))
      go (Err refusal) s = build_no refusal s

module _ (B : Block) (t st : List ℕ) (tile port : ℕ) (wires sources marks : List ℕ) where
  abbrev FollowOrder : Result Driver Refusal → Type 0
  FollowOrder a = FollowGrounds B t st tile port (follow_lent t st wires sources marks) (answer_number a) (followed_value a)

  follow_no : (refusal : Refusal) → FollowNo B t st tile port (follow_lent t st wires sources marks) refusal → FollowOrder (Err refusal)
  follow_no refusal (following.wrong_size n) = inl (n, refl, refl)
  follow_no refusal (following.wrong_length s n) = inr (s, inl (n, refl, refl))
  follow_no refusal (following.broken part s L f) = inr (s, inr (L, inl (no_broken t part f, refl, f)))
  follow_no refusal (following.bitless T s L rules low) = inr (s, inr (L, inr (rules, inl (λ h. low.bitless (h T low.within), refl, low))))
  follow_no refusal (following.contention x F low) =
      inr (F.size, inr (F.lengths, inr (F.rules, inr (F.has_bits, inl (λ free. free x low.here, refl, low)))))
  follow_no refusal (following.out_of_range number F free out) =
      inr (
        F.size,
        inr (
          F.lengths,
          inr (
            F.rules,
            inr (
              F.has_bits,
              inr (
                free,
                ⊎_elim (λ o. inl (λ l. let k = o.0 in omega arith, refl, o.1))
                    (λ o. inr (o.0, inl (λ l. let k = o.1 in omega arith, refl, o.2))) out,
              ),
            ),
          ),
        ),
      )

  pub follow_order : FollowOrder (followed B t st tile port wires sources marks)
  follow_order = go (followed B t st tile port wires sources marks) (follow_says B t st tile port wires sources marks _ refl)
    where
      go : (a : Result Driver Refusal) → FollowSays B t st tile port (follow_lent t st wires sources marks) a → FollowOrder a
      go (Ok driver) s =
          let F = s.0 in
          let D = s.1 in
          inr (
            F.size,
            inr (
              F.lengths,
              inr (
                F.rules,
                inr (
                  F.has_bits,
                  inr (
                    D.no_contention,
                    inr (
                      D.tile_within,
                      inr (
                        D.port_within,
                        (refl, (driver, D.driven, refl)),
                      ),
                    ),
                  ),
                ),
              ),
            ),
          )
      go (Err refusal) s = follow_no refusal s
