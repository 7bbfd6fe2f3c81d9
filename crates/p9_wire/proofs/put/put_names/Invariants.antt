use Rattle.std.proofs.Common.{◌≡◌, ◌+◌, ◌++◌, length, take}
use Rattle.std.specs.Prelude.{sum_by}
use Rattle.std.specs.List.{flat_map}
use Rattle.p9_wire.specs.Fields.{number, text}
use Rattle.p9_wire.specs.Writing.{Puts}
use Rattle.p9_wire.proofs.put.put_names.Given as goal

abbrev pub invariant-loop-name : goal.invariant-loop-name
invariant-loop-name l = record {
  counted : length l.items ≡ length l.names;
  next : l.end ≡ l.fn.at + 2 + sum_by (λ n. 2 + length n) (take l.name-index l.names);
  puts : Puts (number 2 (length l.names) ++ flat_map text (take l.name-index l.names)) l.fn.at l.end
      l.fn.out l.out;
}
