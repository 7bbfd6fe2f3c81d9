-- The grammar of messages: the one spelling of each, and what has a spelling.
use Rattle.std.specs.Prelude.{◌≡◌, ℕ, ◌+◌, ◌*◌, ◌<◌, ◌≤◌, ◌^◌, List, ◌++◌, length, sum_by}
use Rattle.std.specs.List.{AllByRecursion}
use Rattle.p9_wire.specs.Message.{TMessage, Tversion, Tauth, Tattach, Tflush, Twalk, Topen, Tcreate}
use Rattle.p9_wire.specs.Message.{Tread, Twrite, Tclunk, Tremove, Tstat, Twstat, RMessage, Rversion}
use Rattle.p9_wire.specs.Message.{Rattach, Rerror, Rflush, Rwalk, Ropen, Rcreate, Rread, Rwrite}
use Rattle.p9_wire.specs.Message.{Rclunk, Rremove, Rstat, Rwstat}
use Rattle.p9_wire.specs.Fields.{number, text, counted, several, sized, stat_bytes}
use Rattle.p9_wire.specs.Fields.{stat_len, FitsText, FitsNames, FitsStat, QidNumbersFit}
use Rattle.p9_wire.specs.Fields.{StatNumbersFit}
use Rattle.p9_wire.specs.Fields.{elements_max}
use Rattle.p9_wire.specs.Reply.{frame, r_spelling}

-- requests. Terror is none of them, so 106 spells nothing

-- the number of its type
abbrev pub t_type : TMessage → ℕ
t_type (Tversion msize version) = 100
t_type (Tauth afid uname aname) = 102
t_type (Tattach fid afid uname aname) = 104
t_type (Tflush oldtag) = 108
t_type (Twalk fid newfid names) = 110
t_type (Topen fid mode) = 112
t_type (Tcreate fid name perm mode) = 114
t_type (Tread fid offset count) = 116
t_type (Twrite fid offset bytes) = 118
t_type (Tclunk fid) = 120
t_type (Tremove fid) = 122
t_type (Tstat fid) = 124
t_type (Twstat fid stat) = 126

-- its fields in order
abbrev pub t_body : TMessage → List ℕ
t_body (Tversion msize version) = number 4 msize ++ text version
t_body (Tauth afid uname aname) = number 4 afid ++ text uname ++ text aname
t_body (Tattach fid afid uname aname) = number 4 fid ++ number 4 afid ++ text uname ++ text aname
t_body (Tflush oldtag) = number 2 oldtag
t_body (Twalk fid newfid names) = number 4 fid ++ number 4 newfid ++ several text names
t_body (Topen fid mode) = number 4 fid ++ number 1 mode
t_body (Tcreate fid name perm mode) = number 4 fid ++ text name ++ number 4 perm ++ number 1 mode
t_body (Tread fid offset count) = number 4 fid ++ number 8 offset ++ number 4 count
t_body (Twrite fid offset bytes) = number 4 fid ++ number 8 offset ++ counted bytes
t_body (Tclunk fid) = number 4 fid
t_body (Tremove fid) = number 4 fid
t_body (Tstat fid) = number 4 fid
t_body (Twstat fid stat) = number 4 fid ++ sized stat_bytes stat

-- how many bytes a body takes
abbrev pub t_len : TMessage → ℕ
t_len (Tversion msize version) = 4 + 2 + length version
t_len (Tauth afid uname aname) = 4 + 2 + length uname + 2 + length aname
t_len (Tattach fid afid uname aname) = 4 + 4 + 2 + length uname + 2 + length aname
t_len (Tflush oldtag) = 2
t_len (Twalk fid newfid names) = 4 + 4 + 2 + sum_by (λ n. 2 + length n) names
t_len (Topen fid mode) = 4 + 1
t_len (Tcreate fid name perm mode) = 4 + 2 + length name + 4 + 1
t_len (Tread fid offset count) = 4 + 8 + 4
t_len (Twrite fid offset bytes) = 4 + 8 + 4 + length bytes
t_len (Tclunk fid) = 4
t_len (Tremove fid) = 4
t_len (Tstat fid) = 4
t_len (Twstat fid stat) = 4 + 2 + stat_len stat

-- each number is in the range of its field, as the types of the code ensure
abbrev pub TNumbersFit : TMessage → Type 0
TNumbersFit (Tversion msize version) = msize < 2 ^ 32
TNumbersFit (Tauth afid uname aname) = afid < 2 ^ 32
TNumbersFit (Tattach fid afid uname aname) = (fid < 2 ^ 32) × (afid < 2 ^ 32)
TNumbersFit (Tflush oldtag) = oldtag < 2 ^ 16
TNumbersFit (Twalk fid newfid names) = (fid < 2 ^ 32) × (newfid < 2 ^ 32)
TNumbersFit (Topen fid mode) = (fid < 2 ^ 32) × (mode < 2 ^ 8)
TNumbersFit (Tcreate fid name perm mode) = (fid < 2 ^ 32) × (perm < 2 ^ 32) × (mode < 2 ^ 8)
TNumbersFit (Tread fid offset count) = (fid < 2 ^ 32) × (offset < 2 ^ 64) × (count < 2 ^ 32)
TNumbersFit (Twrite fid offset bytes) = (fid < 2 ^ 32) × (offset < 2 ^ 64)
TNumbersFit (Tclunk fid) = fid < 2 ^ 32
TNumbersFit (Tremove fid) = fid < 2 ^ 32
TNumbersFit (Tstat fid) = fid < 2 ^ 32
TNumbersFit (Twstat fid stat) = (fid < 2 ^ 32) × StatNumbersFit stat

-- how many bytes of a Twrite are before its data
abbrev pub write_header : ℕ
write_header = 23

-- texts are texts, lists are short, and four bytes hold the size of it all
abbrev pub TFits : TMessage → Type 0
TFits (Tversion msize version) = FitsText version
TFits (Tauth afid uname aname) = FitsText uname × FitsText aname
TFits (Tattach fid afid uname aname) = FitsText uname × FitsText aname
TFits (Tflush oldtag) = Unit {0}
TFits (Twalk fid newfid names) = FitsNames names
TFits (Topen fid mode) = Unit {0}
TFits (Tcreate fid name perm mode) = FitsText name
TFits (Tread fid offset count) = Unit {0}
TFits (Twrite fid offset bytes) = write_header + length bytes < 2 ^ 32
TFits (Tclunk fid) = Unit {0}
TFits (Tremove fid) = Unit {0}
TFits (Tstat fid) = Unit {0}
TFits (Twstat fid stat) = FitsStat stat

-- the bytes of a request with its tag
unfoldable pub t_spelling : ℕ → TMessage → List ℕ
t_spelling tag m = frame (t_type m) tag (t_body m)

-- these bytes are the request with this tag, and nothing is after it
pub record TSpells (bytes : List ℕ) (tag : ℕ) (m : TMessage) : Type 0 where
  pub whole : bytes ≡ t_spelling tag m
  pub numbers : TNumbersFit m
  pub fits : TFits m
  pub tag_fits : tag < 2 ^ 16

-- replies. Rauth is never sent and none of them, so 103 spells nothing

-- how many bytes a body takes
abbrev pub r_len : RMessage → ℕ
r_len (Rversion msize version) = 4 + 2 + length version
r_len (Rattach qid) = 13
r_len (Rerror ename) = 2 + length ename
r_len Rflush = 0
r_len (Rwalk qids) = 2 + 13 * length qids
r_len (Ropen qid iounit) = 13 + 4
r_len (Rcreate qid iounit) = 13 + 4
r_len (Rread bytes) = 4 + length bytes
r_len (Rwrite count) = 4
r_len Rclunk = 0
r_len Rremove = 0
r_len (Rstat stat) = 2 + stat_len stat
r_len Rwstat = 0

-- each number is in the range of its field, as the types of the code ensure
abbrev pub RNumbersFit : RMessage → Type 0
RNumbersFit (Rversion msize version) = msize < 2 ^ 32
RNumbersFit (Rattach qid) = QidNumbersFit qid
RNumbersFit (Rerror ename) = Unit {0}
RNumbersFit Rflush = Unit {0}
RNumbersFit (Rwalk qids) = AllByRecursion QidNumbersFit qids
RNumbersFit (Ropen qid iounit) = QidNumbersFit qid × (iounit < 2 ^ 32)
RNumbersFit (Rcreate qid iounit) = QidNumbersFit qid × (iounit < 2 ^ 32)
RNumbersFit (Rread bytes) = Unit {0}
RNumbersFit (Rwrite count) = count < 2 ^ 32
RNumbersFit Rclunk = Unit {0}
RNumbersFit Rremove = Unit {0}
RNumbersFit (Rstat stat) = StatNumbersFit stat
RNumbersFit Rwstat = Unit {0}

-- how many bytes of an Rread are before its data
abbrev pub read_header : ℕ
read_header = 11

-- texts are texts, lists are short, and four bytes hold the size of it all
abbrev pub RFits : RMessage → Type 0
RFits (Rversion msize version) = FitsText version
RFits (Rattach qid) = Unit {0}
RFits (Rerror ename) = FitsText ename
RFits Rflush = Unit {0}
RFits (Rwalk qids) = length qids ≤ elements_max
RFits (Ropen qid iounit) = Unit {0}
RFits (Rcreate qid iounit) = Unit {0}
RFits (Rread bytes) = read_header + length bytes < 2 ^ 32
RFits (Rwrite count) = Unit {0}
RFits Rclunk = Unit {0}
RFits Rremove = Unit {0}
RFits (Rstat stat) = FitsStat stat
RFits Rwstat = Unit {0}

-- these bytes are the reply with this tag, and nothing is after it
pub record RSpells (bytes : List ℕ) (tag : ℕ) (m : RMessage) : Type 0 where
  pub whole : bytes ≡ r_spelling tag m
  pub numbers : RNumbersFit m
  pub fits : RFits m
  pub tag_fits : tag < 2 ^ 16
