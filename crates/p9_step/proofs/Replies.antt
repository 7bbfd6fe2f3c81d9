-- Replies can be told apart by their bytes.
use Rattle.std.proofs.Common.{◌≡◌, ℕ, List, false, get_or, refl, ap, sym, ◌∙◌, arith}
use Rattle.p9_wire.specs.Fields.{number}
use Rattle.p9_wire.specs.Message.{RMessage, Rversion, Rattach, Rerror, Rflush, Rwalk, Ropen}
use Rattle.p9_wire.specs.Message.{Rcreate, Rread, Rwrite, Rclunk, Rremove, Rstat, Rwstat}
use Rattle.p9_wire.specs.Reply.{r_spelling, r_type}
use Rattle.p9_step.specs.Answer.{is_error}

-- the fifth byte is the type
kind-r_spelling : (tag : ℕ) (m : RMessage) → get_or (r_spelling tag m) 4 0 ≡ r_type m
unfolding r_spelling number
kind-r_spelling tag (Rversion msize version) = refl
kind-r_spelling tag (Rattach qid) = refl
kind-r_spelling tag (Rerror ename) = refl
kind-r_spelling tag Rflush = refl
kind-r_spelling tag (Rwalk qids) = refl
kind-r_spelling tag (Ropen qid iounit) = refl
kind-r_spelling tag (Rcreate qid iounit) = refl
kind-r_spelling tag (Rread bytes) = refl
kind-r_spelling tag (Rwrite count) = refl
kind-r_spelling tag Rclunk = refl
kind-r_spelling tag Rremove = refl
kind-r_spelling tag (Rstat stat) = refl
kind-r_spelling tag Rwstat = refl

other_kind : (m : RMessage) → is_error m ≡ false → r_type m ≡ 107 → ⊥
other_kind (Rversion msize version) plain same = omega arith
other_kind (Rattach qid) plain same = omega arith
other_kind (Rerror ename) plain same = cc
other_kind Rflush plain same = omega arith
other_kind (Rwalk qids) plain same = omega arith
other_kind (Ropen qid iounit) plain same = omega arith
other_kind (Rcreate qid iounit) plain same = omega arith
other_kind (Rread bytes) plain same = omega arith
other_kind (Rwrite count) plain same = omega arith
other_kind Rclunk plain same = omega arith
other_kind Rremove plain same = omega arith
other_kind (Rstat stat) plain same = omega arith
other_kind Rwstat plain same = omega arith

-- the bytes of another reply are no error's
pub not_an_error : (tag other : ℕ) (m : RMessage) (ename : List ℕ) → is_error m ≡ false
    → r_spelling tag m ≡ r_spelling other (Rerror ename) → ⊥
not_an_error tag other m ename plain same =
    other_kind m plain (sym (kind-r_spelling tag m) ∙ ap (λ bytes. get_or bytes 4 0) same
    ∙ kind-r_spelling other (Rerror ename))
