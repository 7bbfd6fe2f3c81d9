use Rattle.std.proofs.Common.{◌≡◌, ◌∙◌, ℕ, List, ◌<◌, ◌^◌, ◌++◌, [], ap, append-nil, arith, length-append, refl, subst}
use Rattle.std.proofs.KnownBytes.{Appends-nil, Appends-trans}
use Rattle.std.proofs.lemmas.List.{nil_from_length}
use Rattle.std.specs.Io.KnownBytes.{Appends}
use Rattle.p9_client.proofs.ReadAhead.{more-file-read, no-file-read, whole-file-read}
use Rattle.p9_client.proofs.session.Session.read_to.Goals as goal
use Rattle.p9_client.proofs.session.Session.read_to.Goals.{then-count-span, else-count-span}

pub loop-offset-init : goal.loop-offset-init
loop-offset-init g c =
    record {
      failed = refl;
      some = c.data_max-most.ensures.some;
      small = omega (arith, c.data_max-most.ensures.small);
      msize = refl;
      read = (
        [],
        refl,
        no-file-read g.S.Read.remaining g.S.Write.contents c.args.fid c.args.self.now,
        Appends-nil (g.W.Write.contents c.args.out.now),
      );
    }

pub returns-then-count-eq0-clause-whole : goal.returns-then-count-eq0-clause-whole
returns-then-count-eq0-clause-whole g c =
    let before = c.loop-offset.invariant.read in
    let piece = c.in_ok-count.ensures.ok.3 in
    let none : piece.0 ≡ [] = nil_from_length piece.0 (piece.1 ∙ c.if-count-eq0.true) in
    let all : before.0 ++ piece.0 ≡ before.0 =
    ap (λ (zs : List ℕ). before.0 ++ zs) none ∙ append-nil before.0 in (
      before.0,
      before.1,
      whole-file-read g.S.Read.remaining g.S.Write.contents c.args.fid c.loop-offset.offset before.0
          piece.0 c.args.self.now c.loop-offset.self c.read_ahead.new.self before.2 before.1 piece.2
          none,
      subst (λ (zs : List ℕ). Appends (g.W.Write.contents c.args.out.now)
          (g.W.Write.contents c.read_ahead.new.out) zs) all
          (Appends-trans _ _ _ before.0 piece.0 before.3 piece.3),
    )

pub loop-offset-preserved : goal.loop-offset-preserved
loop-offset-preserved g c =
    let before = c.loop-offset.invariant.read in
    let ok = c.in_ok-count.ensures.ok in
    let piece = ok.3 in
    let span : (0 < c.if-count-span.span) × (c.if-count-span.span < 2 ^ 24) =
    elim c.if-count-span.branch [
      | then-count-span w ↦ (
        omega (arith, w.span-is, c.data_max-most.ensures.some),
        omega (arith, w.span-is, c.data_max-most.ensures.small),
      )
      | else-count-span w ↦ (
        omega (arith, w.span-is, c.data_max-most.ensures.some),
        omega (arith, w.span-is, c.data_max-most.ensures.small),
      )
    ] in
    record {
      failed = piece.2.exchanged.goes_on ∙ c.loop-offset.invariant.failed;
      some = span.0;
      small = span.1;
      msize = ok.2 ∙ c.loop-offset.invariant.msize;
      read = (
        before.0 ++ piece.0,
        omega (arith, length-append before.0 piece.0, before.1, piece.1),
        more-file-read g.S.Read.remaining g.S.Write.contents c.args.fid c.loop-offset.offset before.0
            piece.0 c.args.self.now c.loop-offset.self c.read_ahead.new.self before.2 before.1 piece.2,
        Appends-trans _ _ _ before.0 piece.0 before.3 piece.3,
      );
    }
