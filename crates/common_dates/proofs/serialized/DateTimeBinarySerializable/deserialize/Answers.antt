use Rattle.std.proofs.Common.{◌≡◌, pos, ◌*ℤ◌, FitsSigned, subst, rules}
use Rattle.std.specs.Int.{w64}
use Rattle.std.proofs.lemmas.Int.{to_z-of_z}
use Rattle.common_dates.proofs.DatesRead.{Takes-date, Takes-bad_date, Takes-no_date}
use Rattle.common_dates.proofs.serialized.DateTimeBinarySerializable.deserialize.Goals as goal

pub returns-in-Err-clause-bytes : goal.returns-in-Err-clause-bytes
returns-in-Err-clause-bytes g c = Takes-no_date _ _ _ c.in-Err.ensures.bytes

pub returns-in-Some-clause-bytes : goal.returns-in-Some-clause-bytes
returns-in-Some-clause-bytes g c =
    let fits : FitsSigned w64 c.in-Ok.microseconds = search rules in
    let fits_too : FitsSigned w64 c.in-Some.nanoseconds = search rules in
    let same = to_z-of_z w64 c.in-Ok.microseconds fits in
    let same_too = to_z-of_z w64 c.in-Some.nanoseconds fits_too in
    let is : c.from_timestamp_nanos.result ≡ c.in-Ok.microseconds *ℤ pos 1000 = cc (c.from_timestamp_nanos.ensures, c.in-Some.ensures.1) in
    Takes-date _ _ c.in-Ok.microseconds _ (subst (λ z. FitsSigned w64 (z *ℤ pos 1000)) same c.in-Some.ensures.0) is c.in-Ok.ensures.bytes

pub returns-in-None-clause-bytes : goal.returns-in-None-clause-bytes
returns-in-None-clause-bytes g c =
    let fits : FitsSigned w64 c.in-Ok.microseconds = search rules in
    let same = to_z-of_z w64 c.in-Ok.microseconds fits in
    Takes-bad_date _ _ c.in-Ok.microseconds (subst (λ z. ¬ FitsSigned w64 (z *ℤ pos 1000)) same c.in-None.ensures) c.in-Ok.ensures.bytes
