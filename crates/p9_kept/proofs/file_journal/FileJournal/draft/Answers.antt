use Rattle.std.proofs.Common.{Ok, Err, Result, subst}
use Rattle.std.specs.Result.{OnOk}
use Rattle.p9_kept.specs.Making.{Makes}
use Rattle.p9_kept.proofs.Making.{makes-none}
use Rattle.p9_kept.proofs.Untouched.{untouched-then}
use Rattle.p9_kept.proofs.file_journal.FileJournal.draft.Goals as goal

both : {T E P Q R : Type 0} (r : Result T E) → (P → Q → R) → OnOk r P → OnOk r Q → OnOk r R
both (Ok x) f p q = f p q
both (Err e) f p q = tt

pub returns-clause-made : goal.returns-clause-made
returns-clause-made g c =
    let D = g.D.Device in
    let new = D.drafted c.put_forest-drafted.new.log.device in
    both c.put_forest-drafted.result
    (λ made empty.
    subst (λ b. Makes new b c.args.forest.now) empty
    (subst (Makes new c.put_forest-drafted.new.noted) c.trees.ensures
    (made (makes-none (D.drafted c.begin_draft.new.self.device) c.args.self.now.noted
    c.in_ok-begin_draft.ensures.drafted c.requires))))
    c.put_forest-drafted.ensures.made c.put_forest-drafted.ensures.empty

pub returns-clause-log : goal.returns-clause-log
returns-clause-log g c =
    let D = g.D.Device in
    untouched-then D.seen D.moment D.may_leave D.left_since c.args.self.now.log.device
    c.begin_draft.new.self.device c.put_forest-drafted.new.log.device
    (record {
      same = c.begin_draft.ensures.seen;
      no_more = c.begin_draft.ensures.outcomes;
      any_moment = c.begin_draft.ensures.any_moment;
    })
    c.put_forest-drafted.ensures.log
