use Rattle.std.proofs.Common.{◌≡◌, ℕ, ◌+◌, ◌-◌, ◌++◌, [], arith, length, length-append, refl, subst, sym}
use Rattle.std.proofs.KnownBytes.{Appends-nil, Appends-trans}
use Rattle.p9_client.specs.Ahead.{FindsReplies, part_size}
use Rattle.p9_client.specs.Session.{next_tag}
use Rattle.p9_client.proofs.ReadAhead.{HasTakenReads, no-reads-taken, read-taken, reads-taken, short-taken}
use Rattle.p9_client.proofs.reading.take_reads.Goals as goal

pub loop-at-init : goal.loop-at-init
loop-at-init g c =
    record {
      within = omega arith;
      taken = (
        [],
        refl,
        no-reads-taken c.args.replies.now c.args.most c.args.len c.args.first,
        Appends-nil (g.W.Write.contents c.args.out.now),
      );
    }

pub returns-then-read-size : goal.returns-then-read-size
returns-then-read-size g c =
    let arrived = c.args.replies.now in
    let before = c.loop-at.invariant.taken in
    let piece = c.in-Ok.ensures.1 in
    let left : ℕ = length arrived - c.loop-at.at - 1 in
    let drops : FindsReplies arrived c.tag_after-tag.result left =
    subst (λ (n : ℕ). FindsReplies arrived c.tag_after-tag.result (n - c.loop-at.at - 1)) c.len-then-read-size.ensures
    c.in_ok-drop_from.ensures in (
      omega (arith, c.if-read-size.true, c.min-size.ensures, c.loop-at.invariant.within),
      (
        before.0 ++ piece.0,
        omega (arith, length-append before.0 piece.0, before.1, piece.1),
        short-taken arrived c.args.most c.args.len c.args.first c.loop-at.tag c.loop-at.at
            c.loop-at.total left before.0 piece.0 before.2 piece.2
            (omega (arith, piece.1, c.if-read-size.true, c.min-size.ensures))
            (subst (λ (t : ℕ). FindsReplies arrived t left) c.tag_after-tag.ensures drops)
            (omega (arith, c.loop-at-test.true, c.len-at-end.ensures)),
        Appends-trans _ _ _ before.0 piece.0 before.3 piece.3,
      ),
    )

pub loop-at-preserved : goal.loop-at-preserved
loop-at-preserved g c =
    let arrived = c.args.replies.now in
    let before = c.loop-at.invariant.taken in
    let ok = c.in-Ok.ensures in
    let piece = ok.1 in
    let bytes = before.0 ++ piece.0 in
    let whole : length piece.0 ≡ part_size c.args.most c.args.len c.loop-at.total =
    omega (arith, piece.1, ok.0, c.if-read-size.false, c.min-size.ensures) in
    record {
      within = omega (arith, ok.0, c.min-size.ensures, c.loop-at.invariant.within);
      taken = (
        bytes,
        omega (arith, length-append before.0 piece.0, before.1, piece.1),
        subst (λ (t : ℕ). HasTakenReads arrived c.args.most c.args.len c.args.first t (c.loop-at.at + 1)
            (c.loop-at.total + c.in-Ok.read) bytes) (sym c.tag_after-tag.ensures)
            (subst (λ (n : ℕ). HasTakenReads arrived c.args.most c.args.len c.args.first
            (next_tag c.loop-at.tag) (c.loop-at.at + 1) (c.loop-at.total + n) bytes) piece.1
            (read-taken arrived c.args.most c.args.len c.args.first c.loop-at.tag c.loop-at.at
            c.loop-at.total before.0 piece.0 before.2 piece.2 whole)),
        Appends-trans _ _ _ before.0 piece.0 before.3 piece.3,
      );
    }

pub returns : goal.returns
returns g c =
    let before = c.loop-at.invariant.taken in (
      c.loop-at.invariant.within,
      (
        before.0,
        before.1,
        reads-taken c.args.replies.now c.args.most c.args.len c.args.first c.loop-at.tag c.loop-at.at
            c.loop-at.total before.0 before.2
            (omega (arith, c.loop-at-test.false, c.loop-at.auto.at-end, c.len-at-end.ensures)),
        before.3,
      ),
    )
