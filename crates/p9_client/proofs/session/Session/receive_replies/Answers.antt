use Rattle.std.proofs.Common.{◌≡◌, ◌∙◌, ◌++◌, ◌∷◌, [], List, ℕ, Ok, OnOk, Result, ap, arith, length, length-append, subst, sym}
use Rattle.p9_client.specs.declared.error.ClientError.{ClientError}
use Rattle.p9_client.specs.Ahead.{Arrives}
use Rattle.p9_client.specs.Session.{IsSettled, Talk}
use Rattle.p9_client.proofs.Exchanged.{next-arrived}
use Rattle.p9_client.proofs.session.Session.receive_replies.Goals as goal

pub loop-at-preserved : goal.loop-at-preserved
loop-at-preserved g c =
    let before = c.loop-at.invariant.arrived in
    let read : Talk g.row.S.Denot = c.receive.new.self in
    let ok : c.keep-kept.result ≡ Ok c.in_default.field-0 =
    sym c.in_default.ensures.result in
    let same : c.settled.new.self ≡ read =
    subst (IsSettled read c.settled.new.self) ok c.settled.ensures.settled in
    let kept : c.keep-kept.new.self ≡ c.loop-at.replies ++ read.reply ∷ [] =
    subst (λ (r : Result (Unit {0}) ClientError). OnOk r
    (c.keep-kept.new.self ≡ c.loop-at.replies ++ c.reply.result.now ∷ [])) ok c.keep-kept.ensures.ok
    ∙ ap (λ (bs : List ℕ). c.loop-at.replies ++ bs ∷ []) c.reply.ensures in
    let arrived : Arrives g.S.Read.remaining g.S.Write.contents (c.loop-at.replies ++ read.reply ∷ [])
    c.args.self.now read =
    next-arrived g.S.Read.remaining g.S.Write.contents c.loop-at.replies c.args.self.now c.loop-at.self
    read before.1 c.in_ok-receive.ensures in
    record {
      alive = ap (λ (s : Talk g.row.S.Denot). s.failed) same ∙ c.in_ok-receive.ensures.goes_on
          ∙ c.loop-at.invariant.alive;
      arrived = (
        omega (arith, before.0, ap length kept, length-append c.loop-at.replies (read.reply ∷ [])),
        subst (λ (fs : List (List ℕ)). Arrives g.S.Read.remaining g.S.Write.contents fs c.args.self.now
            c.settled.new.self) (sym kept)
            (subst (λ (s : Talk g.row.S.Denot). Arrives g.S.Read.remaining g.S.Write.contents
            (c.loop-at.replies ++ read.reply ∷ []) c.args.self.now s) (sym same) arrived),
      );
    }
