-- What is known once a call is seen to have succeeded, or to have failed.
use Rattle.std.proofs.Common.{◌≡◌, true, false, Result, Ok, Err, is_err}
use Rattle.std.specs.Result.{OnErr, OnOk}

pub ok_from : {T E : Type 0} (r : Result T E) {A : Type 0} → OnOk r A → is_err r ≡ false → A
ok_from (Ok x) done is = done
ok_from (Err e) done is = absurd (cc)

pub err_from : {T E : Type 0} (r : Result T E) {A : Type 0} → OnErr r A → is_err r ≡ true → A
err_from (Ok x) kept is = absurd (cc)
err_from (Err e) kept is = kept

pub ok_then : {T E : Type 0} (r : Result T E) {A B : Type 0} → OnOk r A → (A → B) → OnOk r B
ok_then (Ok x) done f = f done
ok_then (Err e) done f = tt

pub err_then : {T E : Type 0} (r : Result T E) {A B : Type 0} → OnErr r A → (A → B) → OnErr r B
err_then (Ok x) kept f = tt
err_then (Err e) kept f = f kept
