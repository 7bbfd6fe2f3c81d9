-- What holds of the answer of a chain of tests: of an outcome, and of a refusal.
use Rattle.std.proofs.Common.{◌≡◌, Bool, true, false, Option, Some, None, Result, Ok, Err, refl}
use Rattle.std.proofs.Common.{subst, if◌then◌else◌}
use Rattle.std.specs.Str.{bytes_eq}
use Rattle.p9_base.specs.Fault.{text_of}
use Rattle.p9_base.specs.declared.fault.Fault.{Fault}
use Rattle.p9_base.specs.declared.fault.Fault.TheVariants.{OutOfMemory}
use Rattle.p9_base.specs.Results.{and_then, obtain, need, unless}
use Rattle.p9_step.specs.Answer.{Answer, Outcome}

-- the fault of a test: no test is about memory
abbrev pub IsOfTest : Fault → Type 0
IsOfTest fault = bytes_eq (text_of fault) (text_of OutOfMemory) ≡ false

-- what holds of an outcome; a refusal is the fault of a test
unfoldable pub OnDone : (Outcome → Type 0) → Answer → Type 0
OnDone P (Ok outcome) = P outcome
OnDone P (Err fault) = IsOfTest fault

pub done-ok : (P : Outcome → Type 0) (outcome : Outcome) → P outcome → OnDone P (Ok outcome)
unfolding OnDone
done-ok P outcome holds = holds

pub done-err : (P : Outcome → Type 0) (fault : Fault) → IsOfTest fault → OnDone P (Err fault)
unfolding OnDone
done-err P fault of = of

pub done-is : (P : Outcome → Type 0) (answer : Answer) (outcome : Outcome) → OnDone P answer
    → answer ≡ Ok outcome → P outcome
unfolding OnDone
done-is P (Ok other) outcome holds is = let same : other ≡ outcome = cc in subst P same holds
done-is P (Err fault) outcome holds is = let no : Err fault ≡ Ok outcome = is in absurd (cc)

pub refused-is : (P : Outcome → Type 0) (answer : Answer) (fault : Fault) → OnDone P answer
    → answer ≡ Err fault → IsOfTest fault
unfolding OnDone
refused-is P (Err other) fault holds is = let same : other ≡ fault = cc in subst IsOfTest same holds
refused-is P (Ok outcome) fault holds is = let no : Ok outcome ≡ Err fault = is in absurd (cc)

pub done-need : (P : Outcome → Type 0) (test : Bool) (fault : Fault) (rest : Answer)
    → IsOfTest fault → (test ≡ true → OnDone P rest) → OnDone P (need test fault rest)
unfolding OnDone need
done-need P true fault rest of holds = holds refl
done-need P false fault rest of holds = of

pub done-given : {X : Type 0} (P : Outcome → Type 0) (value : Option X) (fault : Fault)
    (rest : X → Answer) → IsOfTest fault → ((x : X) → value ≡ Some x → OnDone P (rest x))
    → OnDone P (obtain value fault rest)
unfolding OnDone obtain
done-given P (Some x) fault rest of holds = holds x refl
done-given P None fault rest of holds = of

pub done-unless : (P : Outcome → Type 0) (test : Option Fault) (rest : Answer)
    → ((fault : Fault) → test ≡ Some fault → IsOfTest fault) → (test ≡ None → OnDone P rest)
    → OnDone P (unless test rest)
unfolding OnDone unless
done-unless P None rest of holds = holds refl
done-unless P (Some fault) rest of holds = of fault refl

pub done-then : {X : Type 0} (P : Outcome → Type 0) (first : Result X Fault) (next : X → Answer)
    → ((fault : Fault) → first ≡ Err fault → IsOfTest fault)
    → ((x : X) → first ≡ Ok x → OnDone P (next x)) → OnDone P (and_then first next)
unfolding OnDone
done-then P (Ok x) next of holds = holds x refl
done-then P (Err fault) next of holds = of fault refl

-- what follows from it
pub done-map : (P Q : Outcome → Type 0) (answer : Answer)
    → ((outcome : Outcome) → P outcome → Q outcome) → OnDone P answer → OnDone Q answer
unfolding OnDone
done-map P Q (Ok outcome) follows holds = follows outcome holds
done-map P Q (Err fault) follows holds = holds

-- one of two
pub done-if : (P : Outcome → Type 0) (test : Bool) (one other : Answer)
    → (test ≡ true → OnDone P one) → (test ≡ false → OnDone P other)
    → OnDone P (if test then one else other)
done-if P true one other first second = first refl
done-if P false one other first second = second refl
