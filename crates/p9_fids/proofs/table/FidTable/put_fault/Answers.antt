use Rattle.std.proofs.Common.{rules}
use Rattle.std.specs.Ordering.{nat_cmp}
use Rattle.std.specs.BTreeMap.{is_at}
use Rattle.std.specs.Map.{lookup}
use Rattle.p9_fids.specs.Held.{fid_of}
use Rattle.p9_fids.proofs.Values.{is_some-mapped, length-mapped, lookup-mapped}
use Rattle.p9_fids.proofs.table.FidTable.put_fault.Goals as goal

pub returns-then-contains_key : goal.returns-then-contains_key
returns-then-contains_key g c =
    rw (
      ← c.self.view_is,
      lookup-mapped fid_of (is_at (nat_cmp c.args.fid)) c.self.inside.fids.entries,
      is_some-mapped fid_of (lookup (is_at (nat_cmp c.args.fid)) c.self.inside.fids.entries),
    )
    (search rules)

pub returns-then-len-ge-FIDS_MAX : goal.returns-then-len-ge-FIDS_MAX
returns-then-len-ge-FIDS_MAX g c =
    rw (
      ← c.self.view_is,
      lookup-mapped fid_of (is_at (nat_cmp c.args.fid)) c.self.inside.fids.entries,
      is_some-mapped fid_of (lookup (is_at (nat_cmp c.args.fid)) c.self.inside.fids.entries),
      length-mapped fid_of c.self.inside.fids.entries,
    )
    (search rules)

pub returns-else-len-ge-FIDS_MAX : goal.returns-else-len-ge-FIDS_MAX
returns-else-len-ge-FIDS_MAX g c =
    rw (
      ← c.self.view_is,
      lookup-mapped fid_of (is_at (nat_cmp c.args.fid)) c.self.inside.fids.entries,
      is_some-mapped fid_of (lookup (is_at (nat_cmp c.args.fid)) c.self.inside.fids.entries),
      length-mapped fid_of c.self.inside.fids.entries,
    )
    (search rules)
