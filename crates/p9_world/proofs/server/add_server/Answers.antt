use Rattle.std.proofs.Common.{◌≡◌, ◌<◌, false, true, map, refl, ap, ◌∙◌, sym}
use Rattle.std.proofs.Common.{string_bytes, arith, length, is_some}
use Rattle.std.proofs.lemmas.List.{length-map}
use Rattle.p9_world.specs.Server.{is_server_name, server_number}
use Rattle.p9_base.specs.NodeRef.{servers_max}
use Rattle.p9_world.proofs.Refused.{server_line-again, server_line-bad}
use Rattle.p9_world.proofs.Worlds.{server_line-ok}
use Rattle.p9_world.proofs.server.add_server.Goals as goal

pub push_server-requires-clause-absent : goal.push_server-requires-clause-absent
push_server-requires-clause-absent g c =
    let absent : is_some
    (server_number c.args.name.now (map string_bytes c.world.inside.servers.items))
    ≡ false = ap is_some (sym (c.world.invariant.servers c.args.name.now)) ∙ sym c.has.ensures
    ∙ c.if-has.false in
    rw (← c.world.view_is) absent

pub push_server-requires-clause-room : goal.push_server-requires-clause-room
push_server-requires-clause-room g c =
    let room : length (map string_bytes c.world.inside.servers.items) < servers_max =
    omega (
      arith,
      length-map c.world.inside.servers.items string_bytes,
      c.world.inside.servers.ok.0,
    ) in
    rw (← c.world.view_is) room

pub returns : goal.returns
returns g c =
    let absent : is_some
    (server_number c.args.name.now (map string_bytes c.world.inside.servers.items))
    ≡ false = ap is_some (sym (c.world.invariant.servers c.args.name.now)) ∙ sym c.has.ensures
    ∙ c.if-has.false in
    let room : length (map string_bytes c.world.inside.servers.items) < servers_max =
    omega (
      arith,
      length-map c.world.inside.servers.items string_bytes,
      c.world.inside.servers.ok.0,
    ) in
    let unlisted : is_some (server_number c.args.name.now c.args.world.now.servers) ≡ false =
    rw (← c.world.view_is) absent in
    let few : length c.args.world.now.servers < servers_max = rw (← c.world.view_is) room in
    let valid : is_server_name c.args.name.now ≡ true =
    sym c.is_server_name.ensures ∙ c.if-not-is_server_name.false in
    rw (server_line-ok c.args.name.now c.args.world.now valid unlisted few) c.push_server.ensures

pub returns-then-not-is_server_name : goal.returns-then-not-is_server_name
returns-then-not-is_server_name g c = (
  server_line-bad c.args.name.now c.args.world.now
      (sym c.is_server_name.ensures ∙ c.if-not-is_server_name.true),
  refl,
)

pub returns-then-has : goal.returns-then-has
returns-then-has g c =
    let there : is_some
    (server_number c.args.name.now (map string_bytes c.world.inside.servers.items))
    ≡ true = ap is_some (sym (c.world.invariant.servers c.args.name.now)) ∙ sym c.has.ensures
    ∙ c.if-has.true in
    let listed : is_some (server_number c.args.name.now c.args.world.now.servers) ≡ true =
    rw (← c.world.view_is) there in (
      server_line-again c.args.name.now c.args.world.now
          (sym c.is_server_name.ensures ∙ c.if-not-is_server_name.false) listed,
      refl,
    )
