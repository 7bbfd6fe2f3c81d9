use Rattle.std.proofs.Common.{◌∙◌, map, sym}
use Rattle.std.specs.Map.{values_of}
use Rattle.p9_fids.specs.Fid.{is_open_on}
use Rattle.p9_fids.specs.Held.{fid_of}
use Rattle.p9_fids.proofs.Fids.{any-counted}
use Rattle.p9_fids.proofs.Holding.{fit-all}
use Rattle.p9_fids.proofs.Values.{any-mapped, values-mapped}
use Rattle.p9_fids.proofs.table.FidTable.has_open_by_rows.Goals as goal

pub returns : goal.returns
returns g c =
    let entries = c.self.inside.fids.entries in
    let test = is_open_on c.args.table.now c.args.node in
    rw (← c.self.view_is, values-mapped fid_of entries)
    (c.has_open_by_rows.ensures ∙ sym (any-mapped fid_of test (values_of entries))
    ∙ any-counted test (map fid_of (values_of entries)))

pub has_open_by_rows-requires : goal.has_open_by_rows-requires
has_open_by_rows-requires g c =
    fit-all c.args.table.now c.self.inside.fids.entries (rw (← c.self.view_is) at c.requires)
