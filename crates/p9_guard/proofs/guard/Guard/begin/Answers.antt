use Rattle.std.proofs.Common.{◌≡◌, None, map, subst, sym}
use Rattle.p9_world.specs.World.{IsWorld, World, world_view}
use Rattle.p9_cert.specs.Gap.{first_gap}
use Rattle.p9_cert.specs.Policy.{policy_of}
use Rattle.p9_guard.proofs.Begins.{begun, table_given}
use Rattle.p9_guard.proofs.guard.Guard.begin.Goals as goal

pub new-export-requires : goal.new-export-requires
new-export-requires g c =
    let w = c.world.inside in
    let world : World =
    world_view w.forest w.users.items w.groups w.hidden.items
    w.vars.items w.servers.items in
    table_given world c.args.table c.args.certificate
    (subst (λ z. first_gap (policy_of z) z.forest c.args.table c.args.certificate ≡ None)
    (sym c.world.view_is) c.requires.verified) c.well_formed-3.ensures

pub invariant_of-result : goal.invariant_of-result
invariant_of-result g c =
    let w = c.world.inside in
    let world : World =
    world_view w.forest w.users.items w.groups w.hidden.items
    w.vars.items w.servers.items in
    begun world c.args.table c.args.certificate
    (subst (λ z. first_gap (policy_of z) z.forest c.args.table c.args.certificate ≡ None)
    (sym c.world.view_is) c.requires.verified) c.well_formed-3.ensures
    (subst IsWorld (sym c.world.view_is) c.well_formed-2.ensures) c.args.base.items
    (subst (λ z. c.args.base.items ≡ map (λ s. s.next) z.forest) (sym c.world.view_is)
    c.requires.base) c.new-export.result c.new-export.ensures c.well_formed-4.ensures
