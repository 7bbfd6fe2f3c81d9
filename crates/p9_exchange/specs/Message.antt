-- What a frame says, in words.
use Rattle.std.specs.Prelude.{ℕ, ◌==◌, nat_lt, List, ◌++◌, length, codes, Option, Some}
use Rattle.std.specs.Prelude.{None, if◌then◌else◌}
use Rattle.byteorder.specs.Endian.{little_number}
use Rattle.p9_wire.specs.Message.{TMessage, RMessage}
use Rattle.p9_wire.specs.Reading.{t_message_of, r_message_of}
use Rattle.p9_words.specs.Words.{t_words, r_words, paired}
use Rattle.p9_exchange.specs.Script.{decimal}

-- a request or a reply in words, or the bytes where they are neither
abbrev pub words_or : Option (ℕ × TMessage) → Option (ℕ × RMessage) → List ℕ → List ℕ
words_or (Some request) reply bytes = t_words request.0 request.1
words_or None (Some reply) bytes = r_words reply.0 reply.1
words_or None None bytes = paired bytes

-- the message that bytes are
unfoldable pub message_words : List ℕ → List ℕ
message_words bytes = words_or (t_message_of bytes) (r_message_of bytes) bytes

-- why bytes are no whole frame
unfoldable pub frame_fault : List ℕ → List ℕ
frame_fault bytes =
    if nat_lt (length bytes) 4
    then codes "not a whole frame: it has " ++ (decimal (length bytes) ++ codes " bytes")
    else if little_number 4 bytes == length bytes
    then codes "not a whole frame: it has "
    ++ (decimal (length bytes) ++ codes " bytes, and a frame from 7 to 1048576")
    else codes "not a whole frame: its size says "
    ++ (decimal (little_number 4 bytes) ++ (codes " and it has "
    ++ (decimal (length bytes) ++ codes " bytes")))
