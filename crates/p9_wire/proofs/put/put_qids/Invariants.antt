use Rattle.std.proofs.Common.{◌≡◌, ◌+◌, ◌*◌, ◌++◌, length, take}
use Rattle.std.specs.List.{flat_map}
use Rattle.p9_wire.specs.Fields.{number, qid_bytes}
use Rattle.p9_wire.specs.Writing.{Puts}
use Rattle.p9_wire.proofs.put.put_qids.Given as goal

abbrev pub invariant-loop-qid : goal.invariant-loop-qid
invariant-loop-qid l = record {
  next : l.end ≡ l.fn.at + 2 + 13 * l.qid-index;
  puts : Puts (number 2 (length l.items) ++ flat_map qid_bytes (take l.qid-index l.items)) l.fn.at
      l.end l.fn.out l.out;
}
