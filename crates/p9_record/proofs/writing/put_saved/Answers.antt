use Rattle.p9_wire.proofs.Puts.{puts_then}
use Rattle.std.proofs.Common.{sym, subst, rules}
use Rattle.std.specs.Option.{ForSome}
use Rattle.p9_record.specs.Record.{FitsEntry}
use Rattle.p9_record.proofs.Saved.{saved-entry, saved-root}
use Rattle.p9_record.proofs.writing.put_saved.Goals as goal

pub returns-clause-bytes : goal.returns-clause-bytes
returns-clause-bytes c =
    rw (saved-entry c.args.saved.now) (puts_then (puts_then (puts_then (puts_then (puts_then (puts_then (puts_then (puts_then (puts_then c.put_u64-number.ensures.bytes c.put_optional_entry-entry.ensures.bytes) c.put_mode-mode.ensures.bytes) c.put_user-owner.ensures.bytes) c.put_user-group.ensures.bytes) c.put_user-changer.ensures.bytes) c.put_u32-version.ensures.bytes) c.put_u32-read.ensures.bytes) c.put_u32-changed.ensures.bytes) c.put_counted.ensures.bytes)

pub returns-clause-fits : goal.returns-clause-fits
returns-clause-fits c = record {
  number = search rules;
  entry = subst (λ e. ForSome e FitsEntry) (sym (saved-entry c.args.saved.now)) c.put_optional_entry-entry.ensures.fits;
  root = saved-root c.args.saved.now;
  uid = c.put_user-owner.ensures.fits;
  gid = c.put_user-group.ensures.fits;
  muid = c.put_user-changer.ensures.fits;
  version = search rules;
  atime = search rules;
  mtime = search rules;
  short = c.requires.small;
}
