-- What clauses on one answer say of it.
use Rattle.std.proofs.Common.{◌≡◌, Result, Ok, Err, OnOk, OnErr, true, false}
use Rattle.std.specs.Result.{is_err}

pub ok-at : {T E : Type 0} (r : Result T E) (P : Type 0) → OnOk r P → is_err r ≡ false → P
ok-at (Ok x) P p e = p
ok-at (Err x) P p e = absurd cc

pub err-at : {T E : Type 0} (r : Result T E) (P : Type 0) → OnErr r P → is_err r ≡ true → P
err-at (Ok x) P p e = absurd cc
err-at (Err x) P p e = p

pub on-ok : {T E : Type 0} (r : Result T E) (P : Type 0) → P → OnOk r P
on-ok (Ok x) P p = p
on-ok (Err x) P p = tt

pub on-err : {T E : Type 0} (r : Result T E) (P : Type 0) → P → OnErr r P
on-err (Ok x) P p = tt
on-err (Err x) P p = p
