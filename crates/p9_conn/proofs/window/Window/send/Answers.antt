use Rattle.p9_conn.proofs.window.Window.send.Goals as goal

pub returns-clause-went : goal.returns-clause-went
returns-clause-went g c = record {
  within = rw c.bytes.ensures at c.in_ok-count.ensures.bound;
  left = c.skip.ensures;
  appended = rw c.bytes.ensures at c.in_ok-count.ensures.written;
}
