use Rattle.std.proofs.Common.{◌≡◌, List, ℕ, ◌∙◌, ap, subst, arith}
use Rattle.p9_tree.specs.ForestChange.{forest_edit_of}
use Rattle.p9_wire.specs.Writing.{Puts}
use Rattle.p9_wire.proofs.Puts.{puts_then}
use Rattle.p9_record.specs.Closed.{checksum, closed_spelling}
use Rattle.p9_record.specs.Record.{forest_spelling}
use Rattle.p9_record.proofs.Checksums.{put_between}
use Rattle.p9_record.proofs.closed.put_closed.Goals as goal

pub returns-clause-bytes : goal.returns-clause-bytes
unfolding closed_spelling
returns-clause-bytes c =
    let spelled : List ℕ = forest_spelling (forest_edit_of c.args.change.now) in
    let sum : c.checksum-sum.result ≡ checksum spelled =
    c.checksum-sum.ensures
    ∙ ap checksum (put_between spelled c.args.buffer.now c.put_change-end.new.out c.args.at c.put_change-end.result
    (omega (arith, c.requires.room)) c.put_change-end.ensures.bytes) in
    puts_then c.put_change-end.ensures.bytes
    (subst (λ (bytes : List ℕ). Puts bytes c.put_change-end.result c.put_bytes.result c.put_change-end.new.out c.put_bytes.new.out)
    sum c.put_bytes.ensures.bytes)
