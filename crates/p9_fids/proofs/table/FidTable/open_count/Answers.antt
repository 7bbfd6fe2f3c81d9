use Rattle.std.proofs.Common.{◌∙◌, sym}
use Rattle.std.specs.Map.{values_of}
use Rattle.p9_fids.specs.Fid.{is_open_on}
use Rattle.p9_fids.specs.Held.{fid_of}
use Rattle.p9_fids.proofs.Values.{count-mapped, values-mapped}
use Rattle.p9_fids.proofs.table.FidTable.open_count.Goals as goal

pub returns : goal.returns
returns g c =
    let entries = c.self.inside.fids.entries in
    rw (← c.self.view_is, values-mapped fid_of entries)
    (c.count_open.ensures
    ∙ sym (count-mapped fid_of (is_open_on c.args.table.now c.args.node) (values_of entries)))
