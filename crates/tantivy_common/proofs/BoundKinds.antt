-- A bound that was mapped or transformed, by its kind.
use Rattle.std.proofs.Common.{◌≡◌, refl, sym, subst, IsSomeAnd}
use Rattle.std.specs.declared.ops.Bound.{Bound}
use Rattle.std.specs.declared.ops.Bound.TheVariants.{Included, Excluded}
use Rattle.tantivy_common.specs.declared.bounds.TransformBound.{TransformBound}
use Rattle.tantivy_common.specs.declared.bounds.TransformBound.TheVariants.{NewBound, Existing}
use Rattle.tantivy_common.specs.Bounds.{inner, IsMapped, IsTransformed}

module _ {T U : Type 0} (Gives : T → U → Type 0) (bound : Bound T) (x : T) (y : U) (gave : Gives x y) where
  pub mapped_included : bound ≡ Included x → IsMapped Gives bound (Included y)
  mapped_included is = subst (λ b. IsMapped Gives b (Included y)) (sym is) (y, gave, refl)

  pub mapped_excluded : bound ≡ Excluded x → IsMapped Gives bound (Excluded y)
  mapped_excluded is = subst (λ b. IsMapped Gives b (Excluded y)) (sym is) (y, gave, refl)

module _ {T U : Type 0} (Gives : T → TransformBound U → Type 0) (bound : Bound T) (x : T) where
  pub renewed_included : (new : Bound U) → Gives x (NewBound new) → bound ≡ Included x → IsTransformed Gives bound new
  renewed_included new gave is = subst (λ b. IsTransformed Gives b new) (sym is) (NewBound new, gave, refl)

  pub renewed_excluded : (new : Bound U) → Gives x (NewBound new) → bound ≡ Excluded x → IsTransformed Gives bound new
  renewed_excluded new gave is = subst (λ b. IsTransformed Gives b new) (sym is) (NewBound new, gave, refl)

  pub kept_included : (y : U) → Gives x (Existing y) → bound ≡ Included x → IsTransformed Gives bound (Included y)
  kept_included y gave is = subst (λ b. IsTransformed Gives b (Included y)) (sym is) (Existing y, gave, refl)

  pub kept_excluded : (y : U) → Gives x (Existing y) → bound ≡ Excluded x → IsTransformed Gives bound (Excluded y)
  kept_excluded y gave is = subst (λ b. IsTransformed Gives b (Excluded y)) (sym is) (Existing y, gave, refl)

module _ {T : Type 0} (Fails : T → Type 0) (bound : Bound T) (x : T) (failed : Fails x) where
  pub failed_included : bound ≡ Included x → IsSomeAnd (inner bound) Fails
  failed_included is = subst (λ b. IsSomeAnd (inner b) Fails) (sym is) failed

  pub failed_excluded : bound ≡ Excluded x → IsSomeAnd (inner bound) Fails
  failed_excluded is = subst (λ b. IsSomeAnd (inner b) Fails) (sym is) failed
