-- What a file device shows.
use Rattle.std.specs.Prelude.{List, Option}
use Rattle.std.specs.declared.io.Error.{Error}
use Rattle.p9_disk.specs.declared.file_device.FileDevice.{FileDevice}
use Rattle.p9_disk.specs.Events.{Event}

-- the calls of the system on it, of which the newest comes first
abbrev pub events_of : FileDevice → List Event
events_of device = device.calls.events

-- the error of the last call that failed
abbrev pub last_error : FileDevice → Option Error
last_error device = device.error
