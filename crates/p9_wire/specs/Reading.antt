-- The messages read from their bytes: a function that answers exactly what the grammar spells.
use Rattle.std.specs.Prelude.{ℕ, ◌==◌, List, length, Option, Some, None, if◌then◌else◌}
use Rattle.p9_wire.specs.Message.{TMessage, Tversion, Tauth, Tattach, Tflush, Twalk, Topen, Tcreate}
use Rattle.p9_wire.specs.Message.{Tread, Twrite, Tclunk, Tremove, Tstat, Twstat, RMessage, Rversion}
use Rattle.p9_wire.specs.Message.{Rattach, Rerror, Rflush, Rwalk, Ropen, Rcreate, Rread, Rwrite}
use Rattle.p9_wire.specs.Message.{Rclunk, Rremove, Rstat, Rwstat}
use Rattle.p9_wire.specs.FieldReading.{◌and_then◌, Reader, ◌then◌, mapped, nothing_at, number_at}
use Rattle.p9_wire.specs.FieldReading.{text_at, counted_at, several_at, qid_at, stat_at}
use Rattle.p9_wire.specs.FieldReading.{header_at, of_two, of_three, of_four}

-- the tag and the message, where the message takes up all of the bytes
abbrev pub message_at : {M : Type 0} → (ℕ → Reader M) → List ℕ → Option (ℕ × M)
message_at body_at bytes =
    header_at bytes and_then λ f. body_at f.0 f.2 and_then λ m.
    if length m.1 == 0 then Some (f.1, m.0) else None

-- requests: the fields of each, in order

unfoldable pub t_version_at : Reader TMessage
t_version_at = mapped (of_two Tversion) (number_at 4 then text_at)

unfoldable pub t_auth_at : Reader TMessage
t_auth_at = mapped (of_three Tauth) (number_at 4 then text_at then text_at)

unfoldable pub t_attach_at : Reader TMessage
t_attach_at =
    mapped (of_four Tattach)
    (number_at 4 then number_at 4 then text_at then text_at)

unfoldable pub t_flush_at : Reader TMessage
t_flush_at = mapped Tflush (number_at 2)

unfoldable pub t_walk_at : Reader TMessage
t_walk_at = mapped (of_three Twalk) (number_at 4 then number_at 4 then several_at text_at)

unfoldable pub t_open_at : Reader TMessage
t_open_at = mapped (of_two Topen) (number_at 4 then number_at 1)

unfoldable pub t_create_at : Reader TMessage
t_create_at =
    mapped (of_four Tcreate)
    (number_at 4 then text_at then number_at 4 then number_at 1)

unfoldable pub t_read_at : Reader TMessage
t_read_at = mapped (of_three Tread) (number_at 4 then number_at 8 then number_at 4)

unfoldable pub t_write_at : Reader TMessage
t_write_at = mapped (of_three Twrite) (number_at 4 then number_at 8 then counted_at)

unfoldable pub t_clunk_at : Reader TMessage
t_clunk_at = mapped Tclunk (number_at 4)

unfoldable pub t_remove_at : Reader TMessage
t_remove_at = mapped Tremove (number_at 4)

unfoldable pub t_stat_at : Reader TMessage
t_stat_at = mapped Tstat (number_at 4)

unfoldable pub t_wstat_at : Reader TMessage
t_wstat_at = mapped (of_two Twstat) (number_at 4 then stat_at)

-- the body of a request of this type
unfoldable pub t_body_at : ℕ → Reader TMessage
t_body_at kind =
    if kind == 100 then t_version_at
    else if kind == 102 then t_auth_at
    else if kind == 104 then t_attach_at
    else if kind == 108 then t_flush_at
    else if kind == 110 then t_walk_at
    else if kind == 112 then t_open_at
    else if kind == 114 then t_create_at
    else if kind == 116 then t_read_at
    else if kind == 118 then t_write_at
    else if kind == 120 then t_clunk_at
    else if kind == 122 then t_remove_at
    else if kind == 124 then t_stat_at
    else if kind == 126 then t_wstat_at
    else λ bytes. None

-- the tag and the request that these bytes are
unfoldable pub t_message_of : List ℕ → Option (ℕ × TMessage)
t_message_of bytes = message_at t_body_at bytes

-- replies: the fields of each, in order

unfoldable pub r_version_at : Reader RMessage
r_version_at = mapped (of_two Rversion) (number_at 4 then text_at)

unfoldable pub r_attach_at : Reader RMessage
r_attach_at = mapped Rattach qid_at

unfoldable pub r_error_at : Reader RMessage
r_error_at = mapped Rerror text_at

abbrev pub r_flush_at : Reader RMessage
r_flush_at = mapped (λ x. Rflush) nothing_at

unfoldable pub r_walk_at : Reader RMessage
r_walk_at = mapped Rwalk (several_at qid_at)

unfoldable pub r_open_at : Reader RMessage
r_open_at = mapped (of_two Ropen) (qid_at then number_at 4)

unfoldable pub r_create_at : Reader RMessage
r_create_at = mapped (of_two Rcreate) (qid_at then number_at 4)

unfoldable pub r_read_at : Reader RMessage
r_read_at = mapped Rread counted_at

unfoldable pub r_write_at : Reader RMessage
r_write_at = mapped Rwrite (number_at 4)

abbrev pub r_clunk_at : Reader RMessage
r_clunk_at = mapped (λ x. Rclunk) nothing_at

abbrev pub r_remove_at : Reader RMessage
r_remove_at = mapped (λ x. Rremove) nothing_at

unfoldable pub r_stat_at : Reader RMessage
r_stat_at = mapped Rstat stat_at

abbrev pub r_wstat_at : Reader RMessage
r_wstat_at = mapped (λ x. Rwstat) nothing_at

-- the body of a reply of this type
unfoldable pub r_body_at : ℕ → Reader RMessage
r_body_at kind =
    if kind == 101 then r_version_at
    else if kind == 105 then r_attach_at
    else if kind == 107 then r_error_at
    else if kind == 109 then r_flush_at
    else if kind == 111 then r_walk_at
    else if kind == 113 then r_open_at
    else if kind == 115 then r_create_at
    else if kind == 117 then r_read_at
    else if kind == 119 then r_write_at
    else if kind == 121 then r_clunk_at
    else if kind == 123 then r_remove_at
    else if kind == 125 then r_stat_at
    else if kind == 127 then r_wstat_at
    else λ bytes. None

-- the tag and the reply that these bytes are
unfoldable pub r_message_of : List ℕ → Option (ℕ × RMessage)
r_message_of bytes = message_at r_body_at bytes
