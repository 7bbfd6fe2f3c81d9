-- A request that is printed is read as its frame.
use Rattle.std.proofs.Common.{◌≡◌, ℕ, ◌+◌, ◌<◌, ◌^◌, List, length, Ok, refl, arith}
use Rattle.std.proofs.Common.{append_assoc}
use Rattle.std.proofs.lemmas.List.{append-nil}
use Rattle.p9_wire.specs.Frame.{IsBytes}
use Rattle.p9_wire.specs.Message.{TMessage, Tversion, Tauth, Tattach, Tflush, Twalk, Topen, Tcreate}
use Rattle.p9_wire.specs.Message.{Tread, Twrite, Tclunk, Tremove, Tstat, Twstat}
use Rattle.p9_wire.specs.Spelling.{t_type, t_body, TNumbersFit, TFits, t_spelling, TSpells}
use Rattle.p9_wire.proofs.Lengths.{length-t_body, t_len-fits}
use Rattle.p9_words.specs.Reading.{frame_of_words}
use Rattle.p9_words.specs.Verb.{type_of, fields_of}
use Rattle.p9_words.specs.Words.{t_verb, t_fields, t_words}
use Rattle.p9_words.proofs.Values.{forms, fields_bytes, FieldsFit}
use Rattle.p9_words.proofs.Lines.{message-law}

-- the type of its name
type-is : (m : TMessage) → type_of (t_verb m) ≡ t_type m
type-is (Tversion msize version) = refl
type-is (Tauth afid uname aname) = refl
type-is (Tattach fid afid uname aname) = refl
type-is (Tflush oldtag) = refl
type-is (Twalk fid newfid names) = refl
type-is (Topen fid mode) = refl
type-is (Tcreate fid name perm mode) = refl
type-is (Tread fid offset count) = refl
type-is (Twrite fid offset bytes) = refl
type-is (Tclunk fid) = refl
type-is (Tremove fid) = refl
type-is (Tstat fid) = refl
type-is (Twstat fid stat) = refl

-- its fields are those of its name
shape-is : (m : TMessage) → fields_of (t_verb m) ≡ forms (t_fields m)
shape-is (Tversion msize version) = refl
shape-is (Tauth afid uname aname) = refl
shape-is (Tattach fid afid uname aname) = refl
shape-is (Tflush oldtag) = refl
shape-is (Twalk fid newfid names) = refl
shape-is (Topen fid mode) = refl
shape-is (Tcreate fid name perm mode) = refl
shape-is (Tread fid offset count) = refl
shape-is (Twrite fid offset bytes) = refl
shape-is (Tclunk fid) = refl
shape-is (Tremove fid) = refl
shape-is (Tstat fid) = refl
shape-is (Twstat fid stat) = refl

-- its body is the bytes of its fields
body-is : (m : TMessage) → t_body m ≡ fields_bytes (t_fields m)
body-is (Tversion msize version) = simp (append_assoc, append-nil)
body-is (Tauth afid uname aname) = simp (append_assoc, append-nil)
body-is (Tattach fid afid uname aname) = simp (append_assoc, append-nil)
body-is (Tflush oldtag) = simp (append_assoc, append-nil)
body-is (Twalk fid newfid names) = simp (append_assoc, append-nil)
body-is (Topen fid mode) = simp (append_assoc, append-nil)
body-is (Tcreate fid name perm mode) = simp (append_assoc, append-nil)
body-is (Tread fid offset count) = simp (append_assoc, append-nil)
body-is (Twrite fid offset bytes) = simp (append_assoc, append-nil)
body-is (Tclunk fid) = simp (append_assoc, append-nil)
body-is (Tremove fid) = simp (append_assoc, append-nil)
body-is (Tstat fid) = simp (append_assoc, append-nil)
body-is (Twstat fid stat) = simp (append_assoc, append-nil)

-- each of its fields fits
fields-fit : (m : TMessage) → TNumbersFit m → TFits m → FieldsFit (t_fields m)
fields-fit (Tversion msize version) n f = (n, (f, tt))
fields-fit (Tauth afid uname aname) n f = (n, (f.0, (f.1, tt)))
fields-fit (Tattach fid afid uname aname) n f = (n.0, (n.1, (f.0, (f.1, tt))))
fields-fit (Tflush oldtag) n f = (n, tt)
fields-fit (Twalk fid newfid names) n f = (n.0, (n.1, (f, tt)))
fields-fit (Topen fid mode) n f = (n.0, (n.1, tt))
fields-fit (Tcreate fid name perm mode) n f = (n.0, (f, (n.1, (n.2, tt))))
fields-fit (Tread fid offset count) n f = (n.0, (n.1, (n.2, tt)))
fields-fit (Twrite fid offset bytes) n f = (n.0, (n.1, (omega (arith, f), tt)))
fields-fit (Tclunk fid) n f = (n, tt)
fields-fit (Tremove fid) n f = (n, tt)
fields-fit (Tstat fid) n f = (n, tt)
fields-fit (Twstat fid stat) n f = (n.0, ((f, n.1), tt))

-- what is printed of it is read as its frame
pub request-law : (frame : List ℕ) (tag : ℕ) (m : TMessage) → IsBytes frame → TSpells frame tag m
    → frame_of_words (t_words tag m) ≡ Ok frame
unfolding t_spelling
request-law frame tag m are spelled =
    let short : 7 + length (t_body m) < 2 ^ 32 =
    omega (arith, length-t_body m, t_len-fits m spelled.fits) in
    message-law (t_verb m) tag (t_fields m) (t_type m) (t_body m) frame spelled.whole (type-is m)
    (body-is m) (shape-is m) (fields-fit m spelled.numbers spelled.fits) spelled.tag_fits are short
