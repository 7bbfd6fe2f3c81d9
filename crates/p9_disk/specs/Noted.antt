-- What a note says.
use Rattle.p9_disk.specs.declared.record.Call.{Call}
use Rattle.p9_disk.specs.declared.record.Call.TheVariants as call
use Rattle.p9_disk.specs.Events.{Event, opened, read_failed, wrote, write_failed, cut_to, cut_failed, synced, sync_failed, draft_begun, draft_added, draft_failed, draft_put, draft_renamed, put_failed}

abbrev pub event_of : Call → Event
event_of (call.Opened bytes) = opened bytes.now
event_of call.ReadFailed = read_failed
event_of (call.Wrote at bytes) = wrote at bytes.now
event_of (call.WriteFailed at bytes) = write_failed at bytes.now
event_of (call.Cut len) = cut_to len
event_of (call.CutFailed len) = cut_failed len
event_of call.Synced = synced
event_of call.SyncFailed = sync_failed
event_of call.DraftBegun = draft_begun
event_of (call.DraftAdded bytes) = draft_added bytes.now
event_of call.DraftFailed = draft_failed
event_of call.DraftPut = draft_put
event_of call.DraftRenamed = draft_renamed
event_of call.PutFailed = put_failed
