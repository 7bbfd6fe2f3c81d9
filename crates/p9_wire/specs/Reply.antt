-- The spelling of a reply: the bytes that are sent of it.
use Rattle.std.specs.Prelude.{ℕ, ◌+◌, List, [], ◌++◌, length}
use Rattle.p9_wire.specs.Message.{RMessage, Rversion, Rattach, Rerror, Rflush, Rwalk, Ropen, Rcreate}
use Rattle.p9_wire.specs.Message.{Rread, Rwrite, Rclunk, Rremove, Rstat, Rwstat}
use Rattle.p9_wire.specs.Fields.{number, text, counted, several, sized, qid_bytes, stat_bytes}

-- size, which counts itself, type, tag and body
abbrev pub frame : (kind tag : ℕ) (body : List ℕ) → List ℕ
frame kind tag body = number 4 (7 + length body) ++ (number 1 kind ++ number 2 tag ++ body)

-- the number of its type
abbrev pub r_type : RMessage → ℕ
r_type (Rversion msize version) = 101
r_type (Rattach qid) = 105
r_type (Rerror ename) = 107
r_type Rflush = 109
r_type (Rwalk qids) = 111
r_type (Ropen qid iounit) = 113
r_type (Rcreate qid iounit) = 115
r_type (Rread bytes) = 117
r_type (Rwrite count) = 119
r_type Rclunk = 121
r_type Rremove = 123
r_type (Rstat stat) = 125
r_type Rwstat = 127

-- its fields in order
abbrev pub r_body : RMessage → List ℕ
r_body (Rversion msize version) = number 4 msize ++ text version
r_body (Rattach qid) = qid_bytes qid
r_body (Rerror ename) = text ename
r_body Rflush = []
r_body (Rwalk qids) = several qid_bytes qids
r_body (Ropen qid iounit) = qid_bytes qid ++ number 4 iounit
r_body (Rcreate qid iounit) = qid_bytes qid ++ number 4 iounit
r_body (Rread bytes) = counted bytes
r_body (Rwrite count) = number 4 count
r_body Rclunk = []
r_body Rremove = []
r_body (Rstat stat) = sized stat_bytes stat
r_body Rwstat = []

-- the bytes of a reply with its tag
unfoldable pub r_spelling : ℕ → RMessage → List ℕ
r_spelling tag m = frame (r_type m) tag (r_body m)
