-- How much room a reply needs.
use Rattle.std.specs.Prelude.{ℕ, ◌+◌, ◌≤◌, List, Result, Ok, Err}
use Rattle.p9_base.specs.declared.fault.Fault.{Fault}
use Rattle.p9_base.specs.Fault.{text_of}
use Rattle.p9_tree.specs.Server.{Server}
use Rattle.p9_wire.specs.Message.{Rerror, r_view}
use Rattle.p9_wire.specs.Spelling.{r_len, read_header}
use Rattle.p9_walks.specs.Answers.{stat_reply}
use Rattle.p9_requests.specs.declared.reply.Reply.{Reply}
use Rattle.p9_requests.specs.declared.reply.Reply.TheVariants.{Message, Data, StatOf}

-- there is room for a reply: for its message, or for its data after the header of a read
abbrev pub IsRoom : List Server → ℕ → Result Reply Fault → Type 0
IsRoom forest room (Ok (Message m)) = 7 + r_len (r_view m) ≤ room
IsRoom forest room (Ok (Data count)) = read_header + count ≤ room
IsRoom forest room (Ok (StatOf at)) = 7 + r_len (stat_reply forest at) ≤ room
IsRoom forest room (Err fault) = 7 + r_len (Rerror (text_of fault)) ≤ room

-- the data of a reply are no more bytes than these
abbrev pub IsDataWithin : ℕ → Result Reply Fault → Type 0
IsDataWithin most (Ok (Message m)) = Unit {0}
IsDataWithin most (Ok (Data count)) = count ≤ most
IsDataWithin most (Ok (StatOf at)) = Unit {0}
IsDataWithin most (Err fault) = Unit {0}
