use Rattle.p9_world.proofs.Readers.{IsWorld-empty, reader-none}
use Rattle.p9_world.proofs.reader.Reader.new.Goals as goal

pub invariant_of-result : goal.invariant_of-result
invariant_of-result g c =
    rw (
      c.new.ensures.items,
      c.new-2.ensures.items,
      c.new-3.ensures,
      c.new-4.ensures.items,
      c.new-5.ensures.items,
      c.new-6.ensures.items,
    )
    (reader-none c.new-7.result c.new-8.result c.new-9.result c.new-10.result c.root.result
    IsWorld-empty c.new-7.ensures c.new-8.ensures c.new-9.ensures c.new-10.ensures.empty
    c.root.ensures.names c.root.ensures.number)
