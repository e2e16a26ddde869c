-- Bounds of ranges, mapped and transformed.
use Rattle.std.specs.Prelude.{◌≡◌, ◌⊎◌, Option, None, Some, Result, Ok, Err, MatchOption, IsSomeAnd}
use Rattle.std.specs.declared.ops.Bound.{Bound}
use Rattle.std.specs.declared.ops.Bound.TheVariants.{Included, Excluded, Unbounded}
use Rattle.tantivy_common.specs.declared.bounds.TransformBound.{TransformBound}
use Rattle.tantivy_common.specs.declared.bounds.TransformBound.TheVariants.{NewBound, Existing}

-- the value of a bound
abbrev pub inner : {T : Type 0} → Bound T → Option T
inner (Included x) = Some x
inner (Excluded x) = Some x
inner Unbounded = None

-- a bound of the same kind at another value
abbrev pub with_value : {T U : Type 0} → Bound T → U → Bound U
with_value (Included x) y = Included y
with_value (Excluded x) y = Excluded y
with_value Unbounded y = Unbounded

-- a new bound, or one of the same kind at another value
abbrev pub placed : {T U : Type 0} → Bound T → TransformBound U → Bound U
placed bound (NewBound new) = new
placed bound (Existing y) = with_value bound y

-- an unbounded bound stays, and another keeps its kind at a value that `Gives` allows
abbrev pub IsMapped : {T U : Type 0} → (T → U → Type 0) → Bound T → Bound U → Type 0
IsMapped {T} {U} Gives bound new = MatchOption (inner bound) (new ≡ Unbounded) (λ x. (y : U) × Gives x y × (new ≡ with_value bound y))

-- the same, by a transformation that may fail and did not
abbrev pub IsMappedOk : {T U E : Type 0} → (T → Result U E → Type 0) → Bound T → Bound U → Type 0
IsMappedOk Gives bound new = IsMapped (λ x y. Gives x (Ok y)) bound new

-- an unbounded bound stays, and another becomes what `Gives` allows
abbrev pub IsTransformed : {T U : Type 0} → (T → TransformBound U → Type 0) → Bound T → Bound U → Type 0
IsTransformed {T} {U} Gives bound new = MatchOption (inner bound) (new ≡ Unbounded) (λ x. (t : TransformBound U) × Gives x t × (new ≡ placed bound t))

-- the transformation of the bound's value gave this error
abbrev pub Fails : {T E : Type 0} → (T → E → Type 0) → Bound T → E → Type 0
Fails GivesErr bound e = IsSomeAnd (inner bound) (λ x. GivesErr x e)

-- the error comes from the first bound, or from the second where the first was mapped
abbrev pub FailsInTurn : {T U E : Type 0} → (T → Result U E → Type 0) → Bound T → Bound T → E → Type 0
FailsInTurn {T} {U} Gives first second e =
    Fails (λ x e. Gives x (Err e)) first e ⊎ (((new : Bound U) × IsMapped (λ x y. Gives x (Ok y)) first new) × Fails (λ x e. Gives x (Err e)) second e)
