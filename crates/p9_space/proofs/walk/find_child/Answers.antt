use Rattle.std.proofs.Common.{◌∙◌, sym, ap, refl, option_map}
use Rattle.p9_space.specs.Found.{place_of}
use Rattle.p9_space.proofs.walk.find_child.Goals as goal

pub returns-then-not-found-clause-err : goal.returns-then-not-found-clause-err
returns-then-not-found-clause-err g c =
    rw (sym c.find_by-found.ensures.alive ∙ c.if-not-found.true) refl

pub returns-then-not-found-2-clause-err : goal.returns-then-not-found-2-clause-err
returns-then-not-found-2-clause-err g c =
    rw (
      sym c.find_by-found.ensures.alive ∙ c.if-not-found.false,
      sym c.find_by-found.ensures.dir ∙ c.if-not-found-2.true,
    ) refl

pub returns-then-not-found-3-clause-err : goal.returns-then-not-found-3-clause-err
returns-then-not-found-3-clause-err g c =
    rw (
      sym c.find_by-found.ensures.alive ∙ c.if-not-found.false,
      sym c.find_by-found.ensures.dir ∙ c.if-not-found-2.false,
      c.requires.other,
      sym c.find_by-found.ensures.searched ∙ c.if-not-found-3.true,
    ) refl

pub returns-in-None-clause-err : goal.returns-in-None-clause-err
returns-in-None-clause-err g c =
    rw (
      sym c.find_by-found.ensures.alive ∙ c.if-not-found.false,
      sym c.find_by-found.ensures.dir ∙ c.if-not-found-2.false,
      c.requires.other,
      sym c.find_by-found.ensures.searched ∙ c.if-not-found-3.false,
      sym c.find_by-found.ensures.child ∙ ap (option_map place_of) c.in-None.is,
    ) refl

pub returns-then-trail-eq-PLACES_MAX-clause-err : goal.returns-then-trail-eq-PLACES_MAX-clause-err
returns-then-trail-eq-PLACES_MAX-clause-err g c =
    rw (
      sym c.find_by-found.ensures.alive ∙ c.if-not-found.false,
      sym c.find_by-found.ensures.dir ∙ c.if-not-found-2.false,
      c.requires.other,
      sym c.find_by-found.ensures.searched ∙ c.if-not-found-3.false,
      sym c.find_by-found.ensures.child ∙ ap (option_map place_of) c.in-Some.is,
      c.if-trail-eq-PLACES_MAX.true,
    ) refl
