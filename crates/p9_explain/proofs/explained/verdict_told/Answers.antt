use Rattle.std.proofs.Common.{IsTrue, ap, subst, sym, ◌∙◌}
use Rattle.std.specs.String.{string_bytes}
use Rattle.p9_cert.specs.Policy.{policy_of}
use Rattle.p9_prepared.specs.Prepared.{Prepared}
use Rattle.p9_judge.specs.Verdict.{IsVerdict as IsJudged}
use Rattle.p9_space.specs.Given.{is_table_given}
use Rattle.p9_explain.specs.Explained.{IsVerdict, yes_status}
use Rattle.p9_explain.specs.Told.{IsBreachTold}
use Rattle.p9_explain.proofs.Verdicts.{no-told, yes-told}
use Rattle.p9_explain.proofs.explained.verdict_told.Goals as goal

pub returns-in_ok-format-in-Yes : goal.returns-in_ok-format-in-Yes
returns-in_ok-format-in-Yes g c =
    let text = string_bytes c.in_ok-format-in-Yes.field-0 in
    let same = c.space.view_is ∙ ap (λ (p : Prepared). p.space) c.prepared.view_is in
    subst (λ status. IsVerdict c.args.prepared.now status text)
    (sym (c.yes_status.ensures ∙ ap yes_status c.gap.ensures))
    (yes-told c.args.prepared.now c.in_ok-least.field-0 c.in-Yes.least c.args.claim.now
    (string_bytes c.in_ok-words-in-Yes.words) text c.requires c.in-Yes.is
    (subst (λ s. IsTrue (is_table_given s.world.forest s.table)) same c.space.invariant)
    (subst (λ s. IsJudged (policy_of s.world) s.world.forest s.table c.in_ok-least.field-0) same
    c.in_ok-least.ensures)
    c.in_ok-words-in-Yes.ensures c.in_ok-format-in-Yes.ensures.ok)

pub returns-in_ok-format-in-No : goal.returns-in_ok-format-in-No
returns-in_ok-format-in-No g c =
    let text = string_bytes c.in_ok-format-in-No.field-0 in
    let words = string_bytes c.in_ok-words-in-No.words in
    let same = c.space.view_is ∙ ap (λ (p : Prepared). p.space) c.prepared.view_is in
    no-told c.args.prepared.now c.in_ok-least.field-0 c.in-No.breach c.args.claim.now words text
    c.requires c.in-No.is
    (subst (λ s. IsJudged (policy_of s.world) s.world.forest s.table c.in_ok-least.field-0) same
    c.in_ok-least.ensures)
    (subst (λ s. IsBreachTold s.world c.in-No.breach.steps.items c.in-No.breach.member c.in-No.breach.kind words) same
    c.in_ok-words-in-No.ensures)
    c.in_ok-format-in-No.ensures.ok
