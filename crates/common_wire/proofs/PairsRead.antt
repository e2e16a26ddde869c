-- A pair from a source: its first and then its second.
use Rattle.std.proofs.Common.{List, ℕ, Option, Ok, Err, refl}
use Rattle.common_wire.specs.Taking.{Taking, ◌>>=◌, give}
use Rattle.common_wire.specs.Serialized.{IsTaking, Takes}
use Rattle.common_wire.specs.TakingLaws.{IsTaking-give, IsTaking-then}
use Rattle.common_wire.specs.Wire.{pair}
use Rattle.common_wire.specs.declared.error.WireError.{WireError}
use Rattle.common_wire.proofs.FromSources.{GoesOn, GoesOn-then, GoesOn-trans, Takes-whole, Takes-failed, Takes-give}

module _ {T U A B : Type 0} (shown : T → A) (shown_second : U → B) (first : Taking A) (second : Taking B) where
  pub Takes-no_first : IsTaking second → (old now : Option (List ℕ)) (e : WireError) → Takes shown first old now (Err e) → Takes (λ (v : T × U). (shown v.0, shown_second v.1)) (pair first second) old now (Err e)
  unfolding pair
  Takes-no_first q old now e failed =
      Takes-failed shown (λ (v : T × U). (shown v.0, shown_second v.1)) first (λ a. second >>= (λ b. give (a, b))) old now e (λ a. IsTaking-then second _ q (λ b. IsTaking-give (a, b))) failed

  pub Takes-no_second : IsTaking first → (old between now : Option (List ℕ)) (x : T) (e : WireError) → Takes shown first old between (Ok x) → Takes shown_second second between now (Err e)
      → Takes (λ (v : T × U). (shown v.0, shown_second v.1)) (pair first second) old now (Err e)
  unfolding pair
  Takes-no_second p old between now x e took failed =
      Takes-whole (λ (v : T × U). (shown v.0, shown_second v.1)) (first >>= (λ a. second >>= (λ b. give (a, b)))) (second >>= (λ b. give (shown x, b))) old between now (Err e)
      (GoesOn-then shown first (λ a. second >>= (λ b. give (a, b))) old between x p took)
      (Takes-failed shown_second (λ (v : T × U). (shown v.0, shown_second v.1)) second (λ b. give (shown x, b)) between now e (λ b. IsTaking-give (shown x, b)) failed)

  pub Takes-pair : IsTaking first → IsTaking second → (old between now : Option (List ℕ)) (x : T) (y : U) → Takes shown first old between (Ok x) → Takes shown_second second between now (Ok y)
      → Takes (λ (v : T × U). (shown v.0, shown_second v.1)) (pair first second) old now (Ok (x, y))
  unfolding pair
  Takes-pair p q old between now x y took took_second =
      let whole : Taking (A × B) = first >>= (λ a. second >>= (λ b. give (a, b))) in
      let went : GoesOn whole (second >>= (λ b. give (shown x, b))) old between = GoesOn-then shown first (λ a. second >>= (λ b. give (a, b))) old between x p took in
      let then_went : GoesOn (second >>= (λ b. give (shown x, b))) (give (shown x, shown_second y)) between now = GoesOn-then shown_second second (λ b. give (shown x, b)) between now y q took_second in
      Takes-whole (λ (v : T × U). (shown v.0, shown_second v.1)) whole (give (shown x, shown_second y)) old now now (Ok (x, y))
      (GoesOn-trans whole (second >>= (λ b. give (shown x, b))) (give (shown x, shown_second y)) old between now went then_went)
      (Takes-give (λ (v : T × U). (shown v.0, shown_second v.1)) (x, y) (shown x, shown_second y) now refl)
