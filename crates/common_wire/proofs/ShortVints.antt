-- A number of at most five bytes at the front of a list of bytes: a loop that reads its groups.
use Rattle.std.proofs.Common.{◌≡◌, ℕ, ◌+◌, ◌-◌, ◌*◌, ◌<◌, ◌≤◌, ◌^◌, List, [], ◌∷◌, length, drop, get_or, Some, None, Option, Err, refl, ap, sym, ◌∙◌, add-one, arith, drop-cons}
use Rattle.std.specs.Prelude.{IfSome, IfNone}
use Rattle.std.proofs.lemmas.List.{drop_all}
use Rattle.common_wire.specs.Taking.{Taken, Value, Cut, Wrong, HasValue, byte, refuse}
use Rattle.common_wire.specs.Wire.{vint32}
use Rattle.common_wire.specs.Serialized.{Takes}
use Rattle.common_wire.specs.declared.error.WireError.TheVariants.{Ended, Invalid}
use Rattle.common_wire.proofs.FromSources.{GroupsRead, GroupsRead-more, GroupsRead-cut, GroupsRead-last, GroupsRead-large, GoesOn-none, GoesOn-trans, Takes-whole, Takes-refuse, after}
use Rattle.common_wire.proofs.VintLaws.{fits_below, IsTaking-fits_below, fits_below-is, fits_below-not}

-- i groups were read
abbrev pub ShortRead : ℕ → ℕ → ℕ → List ℕ → Type 0
ShortRead i value scale bytes = GroupsRead vint32 (fits_below (2 ^ 32)) (5 - i) i value scale (Some bytes) (Some (drop i bytes))

pub cut_has_none : (taken : Taken ℕ) → taken ≡ Cut → HasValue taken → ⊥
cut_has_none (Value y left) e has = absurd cc
cut_has_none Cut e has = has
cut_has_none Wrong e has = has

pub wrong_has_none : (taken : Taken ℕ) → taken ≡ Wrong → HasValue taken → ⊥
wrong_has_none (Value y left) e has = absurd cc
wrong_has_none Cut e has = has
wrong_has_none Wrong e has = has

byte_at : (i : ℕ) (bytes : List ℕ) → i < length bytes → byte (drop i bytes) ≡ Value (get_or bytes i 0) (drop (i + 1) bytes)
byte_at i bytes within =
    let is : drop i bytes ≡ get_or bytes i 0 ∷ drop (i + 1) bytes = rw add-one (drop-cons bytes i 0 within) in
    ap byte is

pub ShortRead-more : (i value scale : ℕ) (bytes : List ℕ) → ShortRead i value scale bytes → i < 5 → i < length bytes → get_or bytes i 0 < 128
    → ShortRead (i + 1) (value + scale * get_or bytes i 0) (scale * 128) bytes
ShortRead-more i value scale bytes p early within small =
    let left : 5 - (i + 1) ≡ 4 - i = omega arith in
    rw left (GroupsRead-more vint32 (fits_below (2 ^ 32)) (5 - i) (4 - i) i value scale (get_or bytes i 0) (Some bytes) (Some (drop i bytes)) (Some (drop (i + 1) bytes)) p (omega arith) small (byte_at i bytes within))

-- the bytes end
pub ShortRead-cut : (i value scale : ℕ) (bytes : List ℕ) → ShortRead i value scale bytes → i < 5 → length bytes ≤ i → HasValue (vint32 bytes) → ⊥
ShortRead-cut i value scale bytes p early ended =
    let none : drop i bytes ≡ [] = drop_all i bytes ended in
    let cut : Takes (λ (n : ℕ). n) byte (Some (drop i bytes)) (Some (drop i bytes)) (Err Ended) =
    record { cause = ap byte none; gone = ([], refl); within = λ x rest taken. let no = sym (ap byte none) ∙ taken in absurd cc } in
    cut_has_none (vint32 bytes) (GroupsRead-cut (λ (n : ℕ). n) vint32 (fits_below (2 ^ 32)) (5 - i) (4 - i) i value scale (Some bytes) (Some (drop i bytes)) (Some (drop i bytes)) Ended (IsTaking-fits_below (2 ^ 32)) p (omega arith) cut).cause

-- the last group, of a number that fits
pub ShortRead-last : (i value scale : ℕ) (bytes : List ℕ) → ShortRead i value scale bytes → i < 5 → i < length bytes → 128 ≤ get_or bytes i 0
    → value + scale * (get_or bytes i 0 - 128) < 2 ^ 32 → vint32 bytes ≡ Value (value + scale * (get_or bytes i 0 - 128)) (drop (i + 1) bytes)
ShortRead-last i value scale bytes p early within large fits =
    let n = value + scale * (get_or bytes i 0 - 128) in
    GroupsRead-last (λ (n : ℕ). n) vint32 (fits_below (2 ^ 32)) (5 - i) (4 - i) i value scale (get_or bytes i 0) (Some bytes) (Some (drop i bytes)) (Some (drop (i + 1) bytes)) n p (omega arith) large (byte_at i bytes within)
    (λ more. fits_below-is (2 ^ 32) n more fits)

-- the last group, of one that doesn't
pub ShortRead-large : (i value scale : ℕ) (bytes : List ℕ) → ShortRead i value scale bytes → i < 5 → i < length bytes → 128 ≤ get_or bytes i 0
    → (2 ^ 32) ≤ value + scale * (get_or bytes i 0 - 128) → HasValue (vint32 bytes) → ⊥
ShortRead-large i value scale bytes p early within large over =
    let n = value + scale * (get_or bytes i 0 - 128) in
    wrong_has_none (vint32 bytes) (GroupsRead-large (λ (n : ℕ). n) vint32 (fits_below (2 ^ 32)) (5 - i) (4 - i) i value scale (get_or bytes i 0) (Some bytes) (Some (drop i bytes)) (Some (drop (i + 1) bytes)) p (omega arith) large (byte_at i bytes within)
    (λ more. fits_below-not (2 ^ 32) n more over)).cause

-- a sixth group would be needed
pub ShortRead-long : (i value scale : ℕ) (bytes : List ℕ) → ShortRead i value scale bytes → 5 ≤ i → HasValue (vint32 bytes) → ⊥
ShortRead-long i value scale bytes p late =
    let none : 5 - i ≡ 0 = omega arith in
    let now : Option (List ℕ) = Some (drop i bytes) in
    wrong_has_none (vint32 bytes) (Takes-whole (λ (n : ℕ). n) vint32 refuse (Some bytes) now now (Err Invalid)
    (GoesOn-trans vint32 (after (fits_below (2 ^ 32)) value scale 0) refuse (Some bytes) now now (rw none at p.goes_on) (GoesOn-none (fits_below (2 ^ 32)) value scale now)) (Takes-refuse (λ (n : ℕ). n) now)).cause

-- what is told of the last group, by whether the number fits
pub ShortRead-found : (i value scale : ℕ) (bytes : List ℕ) (r : Option (ℕ × ℕ)) → ShortRead i value scale bytes → i < 5 → i < length bytes → 128 ≤ get_or bytes i 0
    → IfSome r (λ f. (f.0 ≡ value + scale * (get_or bytes i 0 - 128)) × (f.1 ≡ i + 1) × (value + scale * (get_or bytes i 0 - 128) < 2 ^ 32))
    → IfSome r (λ f. (f.1 ≤ length bytes) × (vint32 bytes ≡ Value f.0 (drop f.1 bytes)))
ShortRead-found i value scale bytes None p early within large told = tt
ShortRead-found i value scale bytes (Some found) p early within large told = (
  omega (arith, told.1),
  ShortRead-last i value scale bytes p early within large told.2 ∙ ap (λ n. Value n (drop (i + 1) bytes)) (sym told.0) ∙ ap (λ n. Value found.0 (drop n bytes)) (sym told.1),
)

pub ShortRead-none : (i value scale : ℕ) (bytes : List ℕ) (r : Option (ℕ × ℕ)) → ShortRead i value scale bytes → i < 5 → i < length bytes → 128 ≤ get_or bytes i 0
    → IfNone r ((2 ^ 32) ≤ value + scale * (get_or bytes i 0 - 128)) → IfNone r (HasValue (vint32 bytes) → ⊥)
ShortRead-none i value scale bytes None p early within large told = ShortRead-large i value scale bytes p early within large told
ShortRead-none i value scale bytes (Some found) p early within large told = tt
