-- A reply that is printed is read as its frame.
use Rattle.std.proofs.Common.{◌≡◌, ℕ, ◌+◌, ◌<◌, ◌^◌, List, length, Ok, refl, arith}
use Rattle.std.proofs.Common.{append_assoc}
use Rattle.std.proofs.lemmas.List.{append-nil}
use Rattle.p9_wire.specs.Frame.{IsBytes}
use Rattle.p9_wire.specs.Message.{RMessage, Rversion, Rattach, Rerror, Rflush, Rwalk, Ropen}
use Rattle.p9_wire.specs.Message.{Rcreate}
use Rattle.p9_wire.specs.Message.{Rread, Rwrite, Rclunk, Rremove, Rstat, Rwstat}
use Rattle.p9_wire.specs.Spelling.{RNumbersFit, RFits, RSpells}
use Rattle.p9_wire.specs.Reply.{r_type, r_body, r_spelling}
use Rattle.p9_wire.proofs.Lengths.{length-r_body, r_len-fits}
use Rattle.p9_words.specs.Reading.{frame_of_words}
use Rattle.p9_words.specs.Verb.{type_of, fields_of}
use Rattle.p9_words.specs.Words.{r_verb, r_fields, r_words}
use Rattle.p9_words.proofs.Values.{forms, fields_bytes, FieldsFit}
use Rattle.p9_words.proofs.Lines.{message-law}

-- the type of its name
type-is : (m : RMessage) → type_of (r_verb m) ≡ r_type m
type-is (Rversion msize version) = refl
type-is (Rattach qid) = refl
type-is (Rerror ename) = refl
type-is Rflush = refl
type-is (Rwalk qids) = refl
type-is (Ropen qid iounit) = refl
type-is (Rcreate qid iounit) = refl
type-is (Rread bytes) = refl
type-is (Rwrite count) = refl
type-is Rclunk = refl
type-is Rremove = refl
type-is (Rstat stat) = refl
type-is Rwstat = refl

-- its fields are those of its name
shape-is : (m : RMessage) → fields_of (r_verb m) ≡ forms (r_fields m)
shape-is (Rversion msize version) = refl
shape-is (Rattach qid) = refl
shape-is (Rerror ename) = refl
shape-is Rflush = refl
shape-is (Rwalk qids) = refl
shape-is (Ropen qid iounit) = refl
shape-is (Rcreate qid iounit) = refl
shape-is (Rread bytes) = refl
shape-is (Rwrite count) = refl
shape-is Rclunk = refl
shape-is Rremove = refl
shape-is (Rstat stat) = refl
shape-is Rwstat = refl

-- its body is the bytes of its fields
body-is : (m : RMessage) → r_body m ≡ fields_bytes (r_fields m)
body-is (Rversion msize version) = simp (append_assoc, append-nil)
body-is (Rattach qid) = simp (append_assoc, append-nil)
body-is (Rerror ename) = simp (append_assoc, append-nil)
body-is Rflush = refl
body-is (Rwalk qids) = simp (append_assoc, append-nil)
body-is (Ropen qid iounit) = simp (append_assoc, append-nil)
body-is (Rcreate qid iounit) = simp (append_assoc, append-nil)
body-is (Rread bytes) = simp (append_assoc, append-nil)
body-is (Rwrite count) = simp (append_assoc, append-nil)
body-is Rclunk = refl
body-is Rremove = refl
body-is (Rstat stat) = simp (append_assoc, append-nil)
body-is Rwstat = refl

-- each of its fields fits
fields-fit : (m : RMessage) → RNumbersFit m → RFits m → FieldsFit (r_fields m)
fields-fit (Rversion msize version) n f = (n, (f, tt))
fields-fit (Rattach qid) n f = (n, tt)
fields-fit (Rerror ename) n f = (f, tt)
fields-fit Rflush n f = tt
fields-fit (Rwalk qids) n f = ((f, n), tt)
fields-fit (Ropen qid iounit) n f = (n.0, (n.1, tt))
fields-fit (Rcreate qid iounit) n f = (n.0, (n.1, tt))
fields-fit (Rread bytes) n f = (omega (arith, f), tt)
fields-fit (Rwrite count) n f = (n, tt)
fields-fit Rclunk n f = tt
fields-fit Rremove n f = tt
fields-fit (Rstat stat) n f = ((f, n), tt)
fields-fit Rwstat n f = tt

-- what is printed of it is read as its frame
pub reply-law : (frame : List ℕ) (tag : ℕ) (m : RMessage) → IsBytes frame → RSpells frame tag m
    → frame_of_words (r_words tag m) ≡ Ok frame
unfolding r_spelling
reply-law frame tag m are spelled =
    let short : 7 + length (r_body m) < 2 ^ 32 =
    omega (arith, length-r_body m, r_len-fits m spelled.fits) in
    message-law (r_verb m) tag (r_fields m) (r_type m) (r_body m) frame spelled.whole (type-is m)
    (body-is m) (shape-is m) (fields-fit m spelled.numbers spelled.fits) spelled.tag_fits are short
