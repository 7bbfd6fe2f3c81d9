-- How many bytes fields, bodies and frames take.
use Rattle.std.proofs.Common.{◌≡◌, ℕ, ◌+◌, ◌*◌, ◌^◌, ◌<◌, ◌≤◌, List, [], ◌∷◌, ◌++◌, length, refl}
use Rattle.std.proofs.Common.{arith}
use Rattle.std.specs.Prelude.{sum_by}
use Rattle.std.specs.List.{flat_map, AllByRecursion}
use Rattle.std.proofs.lemmas.List.{length-append}
use Rattle.std.proofs.lemmas.List.Sums.{sum_by-cons}
use Rattle.std.proofs.lemmas.List.Concat.{flat_map-cons}
use Rattle.p9_base.specs.declared.qid.Qid.{Qid}
use Rattle.p9_wire.specs.Stat.{StatFields}
use Rattle.p9_wire.specs.Message.{TMessage, Tversion, Tauth, Tattach, Tflush, Twalk}
use Rattle.p9_wire.specs.Message.{Topen, Tcreate, Tread, Twrite, Tclunk, Tremove, Tstat, Twstat}
use Rattle.p9_wire.specs.Message.{RMessage, Rversion, Rattach, Rerror, Rflush, Rwalk, Ropen}
use Rattle.p9_wire.specs.Message.{Rcreate, Rread, Rwrite, Rclunk, Rremove, Rstat, Rwstat}
use Rattle.p9_wire.specs.Fields.{number, text, qid_bytes, stat_fields, stat_bytes, stat_len}
use Rattle.p9_wire.specs.Fields.{FitsText}
use Rattle.p9_wire.specs.Spelling.{t_body, t_len, TFits, r_len, RFits}
use Rattle.p9_wire.specs.Reply.{frame, r_body}
use Rattle.p9_wire.proofs.Bytes.{length-number}

-- texts take two bytes and their own
length-texts : (names : List (List ℕ))
    → length (flat_map text names) ≡ sum_by (λ n. 2 + length n) names
length-texts [] = refl
length-texts (n ∷ ns) =
    let others = length-texts ns in
    rw (flat_map-cons text n ns, sum_by-cons (λ (n : List ℕ). 2 + length n) n ns)
    (simp (length-append, length-number) (omega arith))

-- a qid takes thirteen bytes
length-qids : (qids : List Qid) → length (flat_map qid_bytes qids) ≡ 13 * length qids
length-qids [] = refl
length-qids (q ∷ qs) =
    let others = length-qids qs in
    rw (flat_map-cons qid_bytes q qs) (simp (length-append, length-number) (omega arith))

-- a stat's fields are behind two bytes of size
pub length-stat_fields : (s : StatFields) → 2 + length (stat_fields s) ≡ stat_len s
length-stat_fields s = simp (length-append, length-number) (omega arith)

-- a stat takes what is said
pub length-stat_bytes : (s : StatFields) → length (stat_bytes s) ≡ stat_len s
length-stat_bytes s = simp (length-append, length-number) (omega (arith, length-stat_fields s))

-- the body of a request takes what is said
pub length-t_body : (m : TMessage) → length (t_body m) ≡ t_len m
length-t_body (Tversion msize version) = simp (length-append, length-number) (omega arith)
length-t_body (Tauth afid uname aname) = simp (length-append, length-number) (omega arith)
length-t_body (Tattach fid afid uname aname) = simp (length-append, length-number) (omega arith)
length-t_body (Tflush oldtag) = simp (length-append, length-number) (omega arith)
length-t_body (Twalk fid newfid names) =
    let those = length-texts names in simp (length-append, length-number) (omega arith)
length-t_body (Topen fid mode) = simp (length-append, length-number) (omega arith)
length-t_body (Tcreate fid name perm mode) = simp (length-append, length-number) (omega arith)
length-t_body (Tread fid offset count) = simp (length-append, length-number) (omega arith)
length-t_body (Twrite fid offset bytes) = simp (length-append, length-number) (omega arith)
length-t_body (Tclunk fid) = simp (length-append, length-number) (omega arith)
length-t_body (Tremove fid) = simp (length-append, length-number) (omega arith)
length-t_body (Tstat fid) = simp (length-append, length-number) (omega arith)
length-t_body (Twstat fid stat) =
    let those = length-stat_fields stat in simp (length-append, length-number) (omega arith)

-- the body of a reply takes what is said
pub length-r_body : (m : RMessage) → length (r_body m) ≡ r_len m
length-r_body (Rversion msize version) = simp (length-append, length-number) (omega arith)
length-r_body (Rattach qid) = simp (length-append, length-number) (omega arith)
length-r_body (Rerror ename) = simp (length-append, length-number) (omega arith)
length-r_body Rflush = refl
length-r_body (Rwalk qids) =
    let those = length-qids qids in simp (length-append, length-number) (omega arith)
length-r_body (Ropen qid iounit) = simp (length-append, length-number) (omega arith)
length-r_body (Rcreate qid iounit) = simp (length-append, length-number) (omega arith)
length-r_body (Rread bytes) = simp (length-append, length-number) (omega arith)
length-r_body (Rwrite count) = simp (length-append, length-number) (omega arith)
length-r_body Rclunk = refl
length-r_body Rremove = refl
length-r_body (Rstat stat) =
    let those = length-stat_fields stat in simp (length-append, length-number) (omega arith)
length-r_body Rwstat = refl

-- seven bytes are before a body
pub length-parts : (size kind tag : ℕ) (body : List ℕ)
    → length (number 4 size ++ (number 1 kind ++ number 2 tag ++ body)) ≡ 7 + length body
length-parts size kind tag body = simp (length-append, length-number) (omega arith)

-- so a frame has seven bytes more than its body
pub length-frame : (kind tag : ℕ) (body : List ℕ) → length (frame kind tag body) ≡ 7 + length body
length-frame kind tag body = length-parts (7 + length body) kind tag body

-- four bytes hold the size of a message that fits

-- names that fit take few bytes
pub length-names-fits : (names : List (List ℕ)) → AllByRecursion FitsText names
    → sum_by (λ n. 2 + length n) names ≤ 65537 * length names
length-names-fits [] h = omega arith
length-names-fits (n ∷ ns) h =
    let others = length-names-fits ns h.1 in
    let short = h.0.short in
    rw (sum_by-cons (λ (n : List ℕ). 2 + length n) n ns) (omega arith)

-- so does a request
pub t_len-fits : (m : TMessage) → TFits m → 7 + t_len m < 2 ^ 32
t_len-fits (Tversion msize version) f = omega (arith, f.short)
t_len-fits (Tauth afid uname aname) f = omega (arith, f.0.short, f.1.short)
t_len-fits (Tattach fid afid uname aname) f = omega (arith, f.0.short, f.1.short)
t_len-fits (Tflush oldtag) f = omega arith
t_len-fits (Twalk fid newfid names) f = omega (arith, f.few, length-names-fits names f.each)
t_len-fits (Topen fid mode) f = omega arith
t_len-fits (Tcreate fid name perm mode) f = omega (arith, f.short)
t_len-fits (Tread fid offset count) f = omega arith
t_len-fits (Twrite fid offset bytes) f = omega (arith, f)
t_len-fits (Tclunk fid) f = omega arith
t_len-fits (Tremove fid) f = omega arith
t_len-fits (Tstat fid) f = omega arith
t_len-fits (Twstat fid stat) f = omega (arith, f.short)

-- and a reply
pub r_len-fits : (m : RMessage) → RFits m → 7 + r_len m < 2 ^ 32
r_len-fits (Rversion msize version) f = omega (arith, f.short)
r_len-fits (Rattach qid) f = omega arith
r_len-fits (Rerror ename) f = omega (arith, f.short)
r_len-fits Rflush f = omega arith
r_len-fits (Rwalk qids) f = omega (arith, f)
r_len-fits (Ropen qid iounit) f = omega arith
r_len-fits (Rcreate qid iounit) f = omega arith
r_len-fits (Rread bytes) f = omega (arith, f)
r_len-fits (Rwrite count) f = omega arith
r_len-fits Rclunk f = omega arith
r_len-fits Rremove f = omega arith
r_len-fits (Rstat stat) f = omega (arith, f.short)
r_len-fits Rwstat f = omega arith
