-- Numbers of a fixed width from a source.
use Rattle.std.proofs.Common.{◌≡◌, ℕ, ℤ, List, Bool, true, false, Option, Ok, Err, ap}
use Rattle.std.specs.Prelude.{nat_lt, ◌==◌}
use Rattle.std.specs.Int.{Width, w64, byte_len, from_le_bytes, cast_signed}
use Rattle.common_wire.specs.Taking.{Wrong, Taking, ◌>>=◌, give, only_if, byte, bytes_of}
use Rattle.common_wire.specs.Wire.{number, flag, signed}
use Rattle.common_wire.specs.Serialized.{Takes}
use Rattle.common_wire.specs.declared.error.WireError.{WireError}
use Rattle.common_wire.specs.declared.error.WireError.TheVariants.{Invalid}
use Rattle.common_wire.specs.TakingLaws.{IsTaking-give, IsTaking-byte, IsTaking-bytes_of, IsTaking-only_if}
use Rattle.common_wire.specs.NumberLaws.{IsTaking-number}
use Rattle.common_wire.proofs.FromSources.{GoesOn, GoesOn-then, GoesOn-same, Takes-whole, Takes-failed, Takes-give, Takes-refuse}

-- the bytes of a number were read
pub Takes-number : (w : Width) (old now : Option (List ℕ)) (piece : List ℕ) (n : ℕ) → n ≡ from_le_bytes w piece
    → Takes (λ (bytes : List ℕ). bytes) (bytes_of (byte_len w)) old now (Ok piece) → Takes (λ (m : ℕ). m) (number w) old now (Ok n)
unfolding number
Takes-number w old now piece n is took =
    Takes-whole (λ (m : ℕ). m) (bytes_of (byte_len w) >>= (λ bytes. give (from_le_bytes w bytes))) (give (from_le_bytes w piece)) old now now (Ok n)
    (GoesOn-then (λ (bytes : List ℕ). bytes) (bytes_of (byte_len w)) (λ bytes. give (from_le_bytes w bytes)) old now piece (IsTaking-bytes_of (byte_len w)) took)
    (Takes-give (λ (m : ℕ). m) n (from_le_bytes w piece) now is)

pub Takes-no_number : (w : Width) (old now : Option (List ℕ)) (e : WireError) → Takes (λ (bytes : List ℕ). bytes) (bytes_of (byte_len w)) old now (Err e) → Takes (λ (m : ℕ). m) (number w) old now (Err e)
unfolding number
Takes-no_number w old now e failed = Takes-failed (λ (bytes : List ℕ). bytes) (λ (m : ℕ). m) (bytes_of (byte_len w)) (λ bytes. give (from_le_bytes w bytes)) old now e (λ piece. IsTaking-give (from_le_bytes w piece)) failed

pub Takes-signed : (old now : Option (List ℕ)) (n : ℕ) (z : ℤ) → z ≡ cast_signed w64 n → Takes (λ (m : ℕ). m) (number w64) old now (Ok n) → Takes (λ (i : ℤ). i) signed old now (Ok z)
unfolding signed
Takes-signed old now n z is took =
    Takes-whole (λ (i : ℤ). i) (number w64 >>= (λ m. give (cast_signed w64 m))) (give (cast_signed w64 n)) old now now (Ok z)
    (GoesOn-then (λ (m : ℕ). m) (number w64) (λ m. give (cast_signed w64 m)) old now n (IsTaking-number w64) took)
    (Takes-give (λ (i : ℤ). i) z (cast_signed w64 n) now is)

pub Takes-no_signed : (old now : Option (List ℕ)) (e : WireError) → Takes (λ (m : ℕ). m) (number w64) old now (Err e) → Takes (λ (i : ℤ). i) signed old now (Err e)
unfolding signed
Takes-no_signed old now e failed = Takes-failed (λ (m : ℕ). m) (λ (i : ℤ). i) (number w64) (λ m. give (cast_signed w64 m)) old now e (λ n. IsTaking-give (cast_signed w64 n)) failed

-- a byte below 2 is a flag
pub Takes-flag : (old now : Option (List ℕ)) (b : ℕ) (x : Bool) → nat_lt b 2 ≡ true → x ≡ (b == 1) → Takes (λ (m : ℕ). m) byte old now (Ok b) → Takes (λ (y : Bool). y) flag old now (Ok x)
unfolding flag
Takes-flag old now b x small is took =
    let next : ℕ → Taking Bool = λ c. only_if (nat_lt c 2) (give (c == 1)) in
    let went : GoesOn (byte >>= next) (next b) old now = GoesOn-then (λ (m : ℕ). m) byte next old now b IsTaking-byte took in
    Takes-whole (λ (y : Bool). y) (byte >>= next) (give (b == 1)) old now now (Ok x)
    (GoesOn-same (byte >>= next) (next b) (give (b == 1)) old now (λ left. ap (λ (t : Bool). only_if t (give (b == 1)) left) small) went)
    (Takes-give (λ (y : Bool). y) x (b == 1) now is)

pub Takes-bad_flag : (old now : Option (List ℕ)) (b : ℕ) → nat_lt b 2 ≡ false → Takes (λ (m : ℕ). m) byte old now (Ok b) → Takes (λ (y : Bool). y) flag old now (Err Invalid)
unfolding flag
Takes-bad_flag old now b large took =
    let next : ℕ → Taking Bool = λ c. only_if (nat_lt c 2) (give (c == 1)) in
    let went : GoesOn (byte >>= next) (next b) old now = GoesOn-then (λ (m : ℕ). m) byte next old now b IsTaking-byte took in
    let refused : Taking Bool = λ bytes. Wrong in
    Takes-whole (λ (y : Bool). y) (byte >>= next) refused old now now (Err Invalid)
    (GoesOn-same (byte >>= next) (next b) refused old now (λ left. ap (λ (t : Bool). only_if t (give (b == 1)) left) large) went)
    (Takes-refuse (λ (y : Bool). y) now)

pub Takes-no_flag : (old now : Option (List ℕ)) (e : WireError) → Takes (λ (m : ℕ). m) byte old now (Err e) → Takes (λ (y : Bool). y) flag old now (Err e)
unfolding flag
Takes-no_flag old now e failed = Takes-failed (λ (m : ℕ). m) (λ (y : Bool). y) byte (λ b. only_if (nat_lt b 2) (give (b == 1))) old now e (λ b. IsTaking-only_if (nat_lt b 2) _ (IsTaking-give (b == 1))) failed
