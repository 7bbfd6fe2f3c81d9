use Rattle.std.proofs.Common.{IsTrue, subst}
use Rattle.p9_space.specs.Given.{is_table_given}
use Rattle.p9_cert.specs.Policy.{policy_of}
use Rattle.p9_judge.specs.Verdict.{IsVerdict}
use Rattle.p9_commands.proofs.Judgements.{judged}
use Rattle.p9_commands.proofs.judgement.check.Goals as goal

pub returns : goal.returns
returns g c =
    judged c.args.space.now c.in_ok-verdict.verdict c.args.out.now.items
    c.print_verdict.new.out.items c.print_verdict.result
    (subst (λ s. IsTrue (is_table_given s.world.forest s.table)) c.space.view_is
    c.space.invariant)
    (subst (λ s. IsVerdict (policy_of s.world) s.world.forest s.table c.in_ok-verdict.verdict)
    c.space.view_is c.in_ok-verdict.ensures) c.print_verdict.ensures
