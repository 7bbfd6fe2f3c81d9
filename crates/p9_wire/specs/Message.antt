-- What messages say, apart from where their bytes lie.
use Rattle.std.specs.Prelude.{ℕ, List}
use Rattle.p9_base.specs.declared.qid.Qid.{Qid}
use Rattle.p9_fields.specs.Stat.{StatFields, stat_view}
use Rattle.p9_wire.specs.declared.message.TMsg.{TMsg}
use Rattle.p9_wire.specs.declared.message.TMsg.TheVariants as t
use Rattle.p9_wire.specs.declared.message.RMsg.{RMsg}
use Rattle.p9_wire.specs.declared.message.RMsg.TheVariants as r

-- what a client asks
pub data TMessage : Type 0 where
  Tversion : (msize : ℕ) (version : List ℕ) → TMessage
  Tauth : (afid : ℕ) (uname aname : List ℕ) → TMessage
  Tattach : (fid afid : ℕ) (uname aname : List ℕ) → TMessage
  Tflush : (oldtag : ℕ) → TMessage
  Twalk : (fid newfid : ℕ) (names : List (List ℕ)) → TMessage
  Topen : (fid mode : ℕ) → TMessage
  Tcreate : (fid : ℕ) (name : List ℕ) (perm mode : ℕ) → TMessage
  Tread : (fid offset count : ℕ) → TMessage
  Twrite : (fid offset : ℕ) (bytes : List ℕ) → TMessage
  Tclunk : (fid : ℕ) → TMessage
  Tremove : (fid : ℕ) → TMessage
  Tstat : (fid : ℕ) → TMessage
  Twstat : (fid : ℕ) (stat : StatFields) → TMessage

-- what a server answers
pub data RMessage : Type 0 where
  Rversion : (msize : ℕ) (version : List ℕ) → RMessage
  Rattach : (qid : Qid) → RMessage
  Rerror : (ename : List ℕ) → RMessage
  Rflush : RMessage
  Rwalk : (qids : List Qid) → RMessage
  Ropen : (qid : Qid) (iounit : ℕ) → RMessage
  Rcreate : (qid : Qid) (iounit : ℕ) → RMessage
  Rread : (bytes : List ℕ) → RMessage
  Rwrite : (count : ℕ) → RMessage
  Rclunk : RMessage
  Rremove : RMessage
  Rstat : (stat : StatFields) → RMessage
  Rwstat : RMessage

-- the same of the code's types, whose texts and data are slices

-- a request
abbrev pub t_view : TMsg → TMessage
t_view (t.Version msize version) = Tversion msize version.now
t_view (t.Auth afid uname aname) = Tauth afid uname.now aname.now
t_view (t.Attach fid afid uname aname) = Tattach fid afid uname.now aname.now
t_view (t.Flush oldtag) = Tflush oldtag
t_view (t.Walk fid newfid names) = Twalk fid newfid names
t_view (t.Open fid mode) = Topen fid mode
t_view (t.Create fid name perm mode) = Tcreate fid name.now perm mode
t_view (t.Read fid offset count) = Tread fid offset count
t_view (t.Write fid offset bytes) = Twrite fid offset bytes.now
t_view (t.Clunk fid) = Tclunk fid
t_view (t.Remove fid) = Tremove fid
t_view (t.Stat fid) = Tstat fid
t_view (t.Wstat fid stat) = Twstat fid (stat_view stat)

-- a reply
abbrev pub r_view : RMsg → RMessage
r_view (r.Version msize version) = Rversion msize version.now
r_view (r.Attach qid) = Rattach qid
r_view (r.Error ename) = Rerror ename.now
r_view r.Flush = Rflush
r_view (r.Walk qids) = Rwalk qids
r_view (r.Open qid iounit) = Ropen qid iounit
r_view (r.Create qid iounit) = Rcreate qid iounit
r_view (r.Read bytes) = Rread bytes.now
r_view (r.Write count) = Rwrite count
r_view r.Clunk = Rclunk
r_view r.Remove = Rremove
r_view (r.Stat stat) = Rstat (stat_view stat)
r_view r.Wstat = Rwstat
