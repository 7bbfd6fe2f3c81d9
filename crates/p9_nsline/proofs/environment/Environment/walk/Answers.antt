use Rattle.std.proofs.Common.{◌≡◌, None, Ok, Err, map, ap, sym, subst}
use Rattle.p9_space.specs.Walk.{walk}
use Rattle.p9_nsline.specs.Answer.{Gives}
use Rattle.p9_nsline.specs.Find.{path_fault}
use Rattle.p9_nsline.specs.Environment.{Environment}
use Rattle.p9_nsline.proofs.Finding.{Gives-walk_stop}
use Rattle.p9_nsline.proofs.environment.Environment.walk.Goals as goal

pub returns-in-Err : goal.returns-in-Err
returns-in-Err g c =
    let names = map (λ n. n.now) c.args.names.now in
    let walked =
    λ (s : Environment). path_fault (walk s.forest c.args.table.now None c.args.start.now names) in
    subst (λ s. Gives (walked s) (Err c.walk_stop.result)) c.self.view_is
    (subst
    (λ stop. Gives
    (path_fault
    (walk c.self.inside.forest.now c.args.table.now None
    c.args.start.now names)) (Err stop)) (sym c.walk_stop.ensures)
    (Gives-walk_stop
    (walk c.self.inside.forest.now c.args.table.now None
    c.args.start.now names) c.in-Err.fault (rw c.nobody.ensures at c.in-Err.ensures.err)))

pub returns-in-Ok : goal.returns-in-Ok
returns-in-Ok g c =
    let names = map (λ n. n.now) c.args.names.now in
    let walked =
    λ (s : Environment). path_fault (walk s.forest c.args.table.now None c.args.start.now names) in
    subst (λ s. walked s ≡ Ok c.in-Ok.trail) c.self.view_is (ap path_fault (rw c.nobody.ensures at c.in-Ok.ensures.ok))
