use Rattle.std.proofs.Common.{◌≡◌, ◌<◌, false, map, ap, ◌∙◌}
use Rattle.std.proofs.Common.{string_bytes, arith, length, is_some}
use Rattle.std.proofs.lemmas.List.{length-map}
use Rattle.p9_tree.specs.Server.{rooted}
use Rattle.p9_world.specs.Server.{server_number}
use Rattle.p9_base.specs.NodeRef.{servers_max}
use Rattle.p9_world.proofs.Lists.{map-joined}
use Rattle.p9_world.specs.Positions.{position_at}
use Rattle.p9_world.proofs.LastDirs.{led-root}
use Rattle.p9_world.proofs.Readers.{no-position}
use Rattle.p9_world.proofs.TextPositions.{Indexes-joined}
use Rattle.p9_world.proofs.Worlds.{IsWorld-with_server}
use Rattle.p9_world.proofs.server.push_server.Goals as goal

pub invariant_of-world-2 : goal.invariant_of-world-2
invariant_of-world-2 g c =
    let trees = rw (c.unwrap-2.ensures, c.reserve.ensures.items) at c.push-2.ensures.items in
    let names = rw (c.unwrap.ensures, c.reserve-2.ensures.items) at c.push.ensures.items in
    let forest = map-joined g.T.Tree.state _ _ _ rooted trees c.in_ok-tree.ensures in
    let servers = map-joined string_bytes _ _ _ c.args.name.now names c.in_ok-owned.ensures.ok in
    let absent : is_some
    (server_number c.args.name.now (map string_bytes c.world.inside.servers.items))
    ≡ false = rw (← c.world.view_is) at c.requires.absent in
    let room : length (map string_bytes c.world.inside.servers.items) < servers_max =
    rw (← c.world.view_is) at c.requires.room in
    record {
      world = rw (forest, servers)
          (IsWorld-with_server c.args.name.now _ c.world.invariant.world absent room);
      users = c.world.invariant.users;
      vars = c.world.invariant.vars;
      servers = rw servers
          (Indexes-joined (map string_bytes c.world.inside.servers.items) c.args.name.now
          c.len.result c.world.inside.server_positions c.insert.new.self
          c.world.invariant.servers
          (no-position (position_at c.world.inside.server_positions c.args.name.now)
          (ap is_some (c.world.invariant.servers c.args.name.now) ∙ absent))
          (omega (
            arith,
            c.len.ensures,
            c.reserve-2.ensures.len,
            length-map c.world.inside.servers.items string_bytes,
            c.world.inside.servers.ok.0,
          ))
          c.in_ok-insert.ensures.ok);
      hidden = c.world.invariant.hidden;
      led = led-root c.root.result _ c.root.ensures.names c.root.ensures.number;
    }
