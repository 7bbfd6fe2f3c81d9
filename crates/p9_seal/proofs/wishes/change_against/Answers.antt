use Rattle.std.proofs.Common.{◌≡◌, Bool, Option, None, Result, Ok, Err, IfOk, subst}
use Rattle.std.specs.Prelude.{◌↔◌, IsTrue}
use Rattle.p9_cert.specs.Policy.{policy_of}
use Rattle.p9_cert.specs.Rows.{is_row}
use Rattle.p9_prepared.specs.NameSpace.{NameSpace}
use Rattle.p9_fixed.specs.Fixed.{IsFixed}
use Rattle.p9_seal.proofs.wishes.change_against.Goals as goal

-- where nothing is found, it is so, wished or not
so_if_none : {X E : Type 0} (fixed : Bool) (P : Type 0) (r : Result (Option X) E)
    → IfOk r (λ found. (found ≡ None) ↔ P) → IfOk r (λ found. found ≡ None → IsTrue fixed → P)
so_if_none fixed P (Ok found) h = λ none wished. h.0 none
so_if_none fixed P (Err error) h = tt

pub returns-then-fixed-clause-fixed : goal.returns-then-fixed-clause-fixed
returns-then-fixed-clause-fixed g c =
    let is_fixed = λ (s : NameSpace).
    IsFixed (policy_of s.world) s.world.forest s.table (is_row c.args.certificate.now) in
    so_if_none c.args.fixed (is_fixed c.args.space.now) c.first_change.result
    (subst (λ (s : NameSpace). IfOk c.first_change.result (λ found. (found ≡ None) ↔ is_fixed s))
    c.space.view_is c.first_change.ensures.fixed)
