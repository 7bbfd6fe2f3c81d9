use Rattle.p9_conn.proofs.Told.{bytes-become-replies}
use Rattle.p9_conn.proofs.laws.bytes_become_replies.Goals as goal

pub returns : goal.returns
returns g c = bytes-become-replies g.row.S.Denot
