use Rattle.std.proofs.Common.{◌≡◌, ◌<◌, [], map, Some, None, refl, sym, subst, ◌∙◌, string_bytes}
use Rattle.std.proofs.Common.{arith, length}
use Rattle.std.specs.Str.{bytes_eq}
use Rattle.std.proofs.lemmas.List.{length-map}
use Rattle.std.proofs.lemmas.List.Quantifiers.{position-Some}
use Rattle.std.proofs.lemmas.Result.{err_from_is_err_and}
use Rattle.p9_tree.specs.Forest.{server_at}
use Rattle.p9_tree.specs.Server.{Server}
use Rattle.p9_world.specs.Path.{dir_of, names_of}
use Rattle.p9_world.specs.Server.{server_number}
use Rattle.p9_world.proofs.Refused.{hide_line-bad_path, hide_line-no_dir, hide_line-no_server}
use Rattle.p9_world.proofs.Worlds.{dir_of-below, hide_line-found, server_at-named}
use Rattle.p9_world.proofs.hide.hide.Goals as goal

pub add_hidden-requires : goal.add_hidden-requires
add_hidden-requires g c =
    let at : server_number c.args.server.now (map string_bytes c.world.inside.servers.items)
    ≡ Some c.in-Some.server =
    sym (c.in-Some.ensures ∙ c.world.invariant.servers c.args.server.now) in
    let here =
    server_at-named g.T.Tree.state c.args.server.now c.world.inside.trees.items
    (map g.T.Tree.state c.world.inside.trees.items) refl c.world.inside.servers.items c.in-Some.server c.index.result.now c.world.invariant.world.named at
    c.index.ensures in
    let below : c.in-Some-dir_of.number < (g.T.Tree.state c.index.result.now).next =
    dir_of-below c.as_slice.result.now (g.T.Tree.state c.index.result.now)
    c.in-Some-dir_of.number (g.met.T.Tree.well_formed c.index.result.now)
    c.in-Some-dir_of.ensures in
    rw (← c.world.view_is)
    (subst (λ (s : Server). c.in-Some-dir_of.number < s.next) (sym here) below)

pub returns : goal.returns
returns g c =
    let at : server_number c.args.server.now (map string_bytes c.world.inside.servers.items)
    ≡ Some c.in-Some.server =
    sym (c.in-Some.ensures ∙ c.world.invariant.servers c.args.server.now) in
    let here =
    server_at-named g.T.Tree.state c.args.server.now c.world.inside.trees.items
    (map g.T.Tree.state c.world.inside.trees.items) refl c.world.inside.servers.items c.in-Some.server c.index.result.now c.world.invariant.world.named at
    c.index.ensures in
    let names : names_of c.args.path.now ≡ Some c.in-Some-2.names.items =
    sym (rw c.in-Some-2.is at c.in_ok-names.ensures) in
    let at_world : server_number c.args.server.now c.args.world.now.servers
    ≡ Some c.in-Some.server = rw (← c.world.view_is) at in
    let dir : Some c.in-Some-dir_of.number
    ≡ dir_of c.in-Some-2.names.items (server_at c.in-Some.server c.args.world.now.forest) =
    rw (← c.world.view_is, here, ← c.as_slice.ensures.value) c.in-Some-dir_of.ensures in
    rw (hide_line-found c.args.server.now c.args.path.now c.args.world.now c.in-Some.server
    c.in-Some-dir_of.number c.in-Some-2.names.items at_world names dir) c.add_hidden.ensures

pub returns-in_default : goal.returns-in_default
returns-in_default g c =
    let at : server_number c.args.server.now (map string_bytes c.world.inside.servers.items)
    ≡ None =
    sym (c.in_default.ensures ∙ c.world.invariant.servers c.args.server.now) in
    let at_world : server_number c.args.server.now c.args.world.now.servers
    ≡ None = rw (← c.world.view_is) at in
    (hide_line-no_server c.args.server.now c.args.path.now c.args.world.now at_world, refl)

pub returns-in_err-names : goal.returns-in_err-names
returns-in_err-names g c =
    let p = err_from_is_err_and c.from_residual.result c.from_residual.ensures.1 in
    rw (p.1, p.2) refl

pub returns-in_default-2 : goal.returns-in_default-2
returns-in_default-2 g c =
    let at : server_number c.args.server.now (map string_bytes c.world.inside.servers.items)
    ≡ Some c.in-Some.server =
    sym (c.in-Some.ensures ∙ c.world.invariant.servers c.args.server.now) in
    let at_world : server_number c.args.server.now c.args.world.now.servers
    ≡ Some c.in-Some.server = rw (← c.world.view_is) at in
    let names : names_of c.args.path.now ≡ None =
    sym (rw c.in_default-2.is at c.in_ok-names.ensures) in (
      hide_line-bad_path c.args.server.now c.args.path.now c.args.world.now c.in-Some.server at_world
          names,
      refl,
    )

pub returns-in_default-dir_of : goal.returns-in_default-dir_of
returns-in_default-dir_of g c =
    let at : server_number c.args.server.now (map string_bytes c.world.inside.servers.items)
    ≡ Some c.in-Some.server =
    sym (c.in-Some.ensures ∙ c.world.invariant.servers c.args.server.now) in
    let here =
    server_at-named g.T.Tree.state c.args.server.now c.world.inside.trees.items
    (map g.T.Tree.state c.world.inside.trees.items) refl c.world.inside.servers.items c.in-Some.server c.index.result.now c.world.invariant.world.named at
    c.index.ensures in
    let names : names_of c.args.path.now ≡ Some c.in-Some-2.names.items =
    sym (rw c.in-Some-2.is at c.in_ok-names.ensures) in
    let at_world : server_number c.args.server.now c.args.world.now.servers
    ≡ Some c.in-Some.server = rw (← c.world.view_is) at in
    let dir : None
    ≡ dir_of c.in-Some-2.names.items (server_at c.in-Some.server c.args.world.now.forest) =
    rw (← c.world.view_is, here, ← c.as_slice.ensures.value) c.in_default-dir_of.ensures in (
      hide_line-no_dir c.args.server.now c.args.path.now c.args.world.now c.in-Some.server
          c.in-Some-2.names.items at_world names dir,
      refl,
    )

pub index-requires : goal.index-requires
index-requires g c =
    let at : server_number c.args.server.now (map string_bytes c.world.inside.servers.items)
    ≡ Some c.in-Some.server =
    sym (c.in-Some.ensures ∙ c.world.invariant.servers c.args.server.now) in
    let few : c.in-Some.server < length (map string_bytes c.world.inside.servers.items) =
    (position-Some (λ other. bytes_eq other c.args.server.now)
    (map string_bytes c.world.inside.servers.items) c.in-Some.server [] at).0 in
    omega (
      arith,
      c.world.invariant.world.named,
      length-map c.world.inside.trees.items g.T.Tree.state,
      c.world.inside.trees.ok.0,
    )

pub overflow_cast-server : goal.overflow_cast-server
overflow_cast-server g c =
    let at : server_number c.args.server.now (map string_bytes c.world.inside.servers.items)
    ≡ Some c.in-Some.server =
    sym (c.in-Some.ensures ∙ c.world.invariant.servers c.args.server.now) in
    let few : c.in-Some.server < length (map string_bytes c.world.inside.servers.items) =
    (position-Some (λ other. bytes_eq other c.args.server.now)
    (map string_bytes c.world.inside.servers.items) c.in-Some.server [] at).0 in
    omega (arith, c.world.invariant.world.named, c.world.invariant.world.few)
