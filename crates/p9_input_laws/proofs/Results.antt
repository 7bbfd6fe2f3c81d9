-- What an answer shows of the tests before it.
use Rattle.std.proofs.Common.{◌≡◌, Bool, true, false, Option, Some, None, Result, Ok, Err, is_some}
use Rattle.std.proofs.Common.{not, refl}
use Rattle.p9_base.specs.Results.{and_then, need, obtain}

-- a test that passed, and what was after it
pub need-ok : {X E : Type 0} (test : Bool) (error : E) (rest : Result X E) (x : X)
    → need test error rest ≡ Ok x → (test ≡ true) × (rest ≡ Ok x)
unfolding need
need-ok true error rest x is = (refl, is)
need-ok false error rest x is = absurd (cc)

-- a value that was there, and what was made of it
pub obtain-ok : {X Y E : Type 0} (value : Option X) (error : E) (rest : X → Result Y E) (y : Y)
    → obtain value error rest ≡ Ok y → (x : X) × (value ≡ Some x) × (rest x ≡ Ok y)
unfolding obtain
obtain-ok None error rest y is = absurd (cc)
obtain-ok (Some x) error rest y is = (x, refl, is)

-- a value that was no error, and what was made of it
pub and_then-ok : {X Y E : Type 0} (value : Result X E) (rest : X → Result Y E) (y : Y)
    → and_then value rest ≡ Ok y → (x : X) × (value ≡ Ok x) × (rest x ≡ Ok y)
and_then-ok (Ok x) rest y is = (x, refl, is)
and_then-ok (Err error) rest y is = absurd (cc)

-- the value of an answer
pub same-ok : {X E : Type 0} (x y : X) → ◌≡◌ {A = Result X E} (Ok x) (Ok y) → x ≡ y
same-ok x y is = cc

-- a test that is passed by its failing
pub not-passed : (b : Bool) → not b ≡ true → b ≡ false
not-passed false passed = refl
not-passed true passed = absurd (cc)

-- what isn't there
pub is-none : {X : Type 0} (o : Option X) → is_some o ≡ false → o ≡ None
is-none None none = refl
is-none (Some x) none = absurd (cc)
