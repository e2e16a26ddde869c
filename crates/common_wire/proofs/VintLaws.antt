-- What is done with the groups of a number: it must fit.
use Rattle.std.proofs.Common.{◌≡◌, ℕ, ◌^◌, ◌<◌, ◌≤◌, List, ap, Bool}
use Rattle.std.specs.Prelude.{nat_lt, Option}
use Rattle.std.proofs.lemmas.Bool.{lt-ltb, le-ltb}
use Rattle.common_wire.specs.Taking.{Taking, give, only_if, Value, Wrong}
use Rattle.common_wire.specs.Wire.{number_below, vint32}
use Rattle.common_wire.specs.Serialized.{IsTaking}
use Rattle.common_wire.specs.TakingLaws.{IsTaking-give, IsTaking-only_if}
use Rattle.common_wire.proofs.FromSources.{GroupsRead, GroupsRead-begin}

abbrev pub fits_below : ℕ → ℕ → Taking ℕ
fits_below bound n = only_if (nat_lt n bound) (give n)

pub IsTaking-fits_below : (bound n : ℕ) → IsTaking (fits_below bound n)
IsTaking-fits_below bound n = IsTaking-only_if (nat_lt n bound) (give n) (IsTaking-give n)

pub fits_below-is : (bound n : ℕ) (left : List ℕ) → n < bound → fits_below bound n left ≡ Value n left
fits_below-is bound n left h = ap (λ (b : Bool). only_if b (give n) left) (lt-ltb n bound h)

pub fits_below-not : (bound n : ℕ) (left : List ℕ) → bound ≤ n → fits_below bound n left ≡ Wrong
fits_below-not bound n left h = ap (λ (b : Bool). only_if b (give n) left) (le-ltb n bound h)

pub GroupsRead-number : (k bound : ℕ) (old : Option (List ℕ)) → GroupsRead (number_below k bound) (fits_below bound) k 0 0 1 old old
unfolding number_below
GroupsRead-number k bound old = GroupsRead-begin (fits_below bound) k old

pub GroupsRead-vint32 : (old : Option (List ℕ)) → GroupsRead vint32 (fits_below (2 ^ 32)) 5 0 0 1 old old
unfolding vint32
GroupsRead-vint32 old = GroupsRead-number 5 (2 ^ 32) old
