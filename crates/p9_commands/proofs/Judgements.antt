-- A verdict over a name space, as it is printed.
use Rattle.std.proofs.Common.{◌⊎◌, ℕ, IfOk, IsTrue, List, Result, Ok, Err, inl, inr}
use Rattle.p9_space.specs.Given.{is_table_given}
use Rattle.p9_cert.specs.Policy.{policy_of}
use Rattle.p9_judge.specs.Verdict.{IsVerdict}
use Rattle.p9_judge.specs.declared.verdict.Verdict.{Verdict}
use Rattle.p9_judge.specs.declared.verdict.Verdict.TheVariants.{Yes, No}
use Rattle.p9_commands.specs.Judgement.{IsPrinted, SaysNo, SaysYes, verdict_status, verdict_text}
use Rattle.p9_prepared.specs.NameSpace.{NameSpace}

pub judged : {A E : Type 0} (space : NameSpace) (verdict : Verdict A) (before after : List ℕ)
    (result : Result ℕ E) → IsTrue (is_table_given space.world.forest space.table) →
    IsVerdict (policy_of space.world) space.world.forest space.table verdict
    → IfOk result (IsPrinted (verdict_status verdict) (verdict_text verdict) before after) →
    IfOk result (λ status. SaysYes space before after status ⊎ SaysNo space before after status)
judged space verdict before after (Err error) given is printed = printed
judged space (Yes rows) before after (Ok status) given is printed =
    inl (record { rows = rows; printed = printed; closed = is.closed given; least = is })
judged space (No breach) before after (Ok status) given is printed =
    inr (record {
      steps = breach.steps.items;
      member = breach.member;
      kind = breach.kind;
      printed = printed;
      breach = is.0;
      by_first = is.1;
    })
