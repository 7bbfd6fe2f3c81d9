use Rattle.std.proofs.Common.{[], inl, inr, refl, subst}
use Rattle.std.proofs.KnownBytes.{Appends-nil}
use Rattle.std.specs.Prelude.{List, ℕ}
use Rattle.p9_commands.specs.Offer.{Serves, offer_of}
use Rattle.p9_serve.specs.Run.{IsCutShort}
use Rattle.p9_serve.proofs.Reports.{on_err}
use Rattle.p9_serve.proofs.run.offered.Goals as goal

pub returns-in-Err-clause-err : goal.returns-in-Err-clause-err
returns-in-Err-clause-err g c = record {
  reports = [];
  are_reports = inl refl;
  errors = (0, Appends-nil (g.E.Write.contents c.args.err.now));
}

pub returns-in_err-write_text-clause-err : goal.returns-in_err-write_text-clause-err
returns-in_err-write_text-clause-err g c =
    let reports = c.served_guard_over.new.err.items in
    let serves : Serves (offer_of c.args.input.now) [] reports c.in-Ok.guard =
    subst (λ (before : List ℕ). Serves (offer_of c.args.input.now) before reports c.in-Ok.guard)
    c.new-reported.ensures.items c.in-Ok.ensures.ok in
    let short : IsCutShort (offer_of c.args.input.now) (g.E.Write.contents c.args.err.now)
    (g.E.Write.contents c.write_text.new.out) = record {
      reports = reports;
      are_reports = inr (c.in-Ok.guard, serves);
      errors = rw c.as_slice.ensures.value at c.write_text.ensures.front;
    } in
    on_err c.from_residual.result short
