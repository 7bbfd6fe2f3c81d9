use Rattle.std.proofs.Common.{◌≡◌, drop, find}
use Rattle.p9_admin.specs.Hide.{is_named}
use Rattle.p9_admin.proofs.hide.named_server.Given as goal

-- the server is among those that are left
abbrev pub invariant-loop-server : goal.invariant-loop-server
invariant-loop-server l =
    find (is_named l.text) (drop l.server-index l.servers) ≡ find (is_named l.text) l.servers
