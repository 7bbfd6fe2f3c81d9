use Rattle.p9_space.specs.Rights.{who_view}
use Rattle.std.proofs.Common.{arith, length, sym, ◌∙◌, refl}
use Rattle.p9_step.specs.Listing.{left_of}
use Rattle.p9_step.specs.Read.{fitting}
use Rattle.p9_walks.proofs.Listings.{none_short, nothing_given, some_short, something_given}
use Rattle.p9_walks.proofs.listing.list.Goals as goal
use Rattle.p9_walks.proofs.listing.list.Goals.{else-filled-via-else-filled}
use Rattle.p9_walks.proofs.listing.list.Goals.{else-filled-via-then-filled+else-filled-eq0}

pub returns-then-filled-eq0-clause-err : goal.returns-then-filled-eq0-clause-err
returns-then-filled-eq0-clause-err g c =
    let left =
    left_of c.args.forest.now (who_view c.args.who) c.args.cursor
    c.args.members.now in (
      refl,
      some_short (length c.args.buffer.now) left (sym c.fill-filled.ensures.full ∙ c.if-filled.true),
      nothing_given (fitting (length c.args.buffer.now) left) c.fill-filled.new.buffer
          c.fill-filled.result.size c.fill-filled.ensures.bytes c.if-filled-eq0.true,
    )

pub returns-clause-ok : goal.returns-clause-ok
returns-clause-ok g c =
    let left =
    left_of c.args.forest.now (who_view c.args.who) c.args.cursor
    c.args.members.now in
    λ none. elim c.else-filled.branch [
      | else-filled-via-then-filled+else-filled-eq0 w ↦ (
          let within = c.fill-filled.ensures.within in
          let long = c.fill-filled.auto.buffer in
          let zero =
          something_given (fitting (length c.args.buffer.now) left) c.fill-filled.new.buffer
          c.fill-filled.result.size c.fill-filled.ensures.bytes (omega (arith, within, long))
          none in
          absurd (w.if-filled-eq0.false zero))
      | else-filled-via-else-filled w ↦ none_short (length c.args.buffer.now) left
          (sym c.fill-filled.ensures.full ∙ w.if-filled.false) none
    ]
