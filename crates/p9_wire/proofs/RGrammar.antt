-- Each reply is read as it is spelled.
use Rattle.std.proofs.Common.{◌≡◌, ℕ, ◌+◌, ◌<◌, ◌^◌, List, ◌++◌, length, Some, refl, arith}
use Rattle.p9_wire.specs.Message.{RMessage, Rversion, Rattach, Rerror, Rflush, Rwalk, Ropen}
use Rattle.p9_wire.specs.Message.{Rcreate, Rread, Rwrite, Rclunk, Rremove, Rstat, Rwstat}
use Rattle.p9_wire.specs.Fields.{FitsText, FitsStat, QidNumbersFit, StatNumbersFit}
use Rattle.p9_wire.specs.Spelling.{r_len, RNumbersFit, RFits, RSpells}
use Rattle.p9_wire.specs.Reply.{r_type, r_body, r_spelling}
use Rattle.p9_wire.specs.Reading.{r_version_at, r_attach_at, r_error_at, r_flush_at, r_walk_at}
use Rattle.p9_wire.specs.Reading.{r_open_at, r_create_at, r_read_at, r_write_at, r_clunk_at}
use Rattle.p9_wire.specs.Reading.{r_remove_at, r_stat_at, r_wstat_at, r_body_at, r_message_of}
use Rattle.p9_wire.proofs.Lengths.{length-r_body, r_len-fits}
use Rattle.p9_wire.proofs.Codes.{number-codes, text-codes, counted-codes, several-codes, qid-codes}
use Rattle.p9_wire.proofs.Codes.{stat-codes, then-codes, FitsSeveral, nothing-codes, made-complete}
use Rattle.p9_wire.proofs.Framing.{Grammar, IsReader, Reads, Framed, Decides, taken, chosen}
use Rattle.p9_wire.proofs.Framing.{message-sound, message-complete}

-- each field fits, in the order of the fields
abbrev RFieldsFit : RMessage → Type 0
RFieldsFit (Rversion msize version) = (msize < 2 ^ 32) × FitsText version
RFieldsFit (Rattach qid) = QidNumbersFit qid
RFieldsFit (Rerror ename) = FitsText ename
RFieldsFit Rflush = Unit {0}
RFieldsFit (Rwalk qids) = FitsSeveral QidNumbersFit qids
RFieldsFit (Ropen qid iounit) = QidNumbersFit qid × (iounit < 2 ^ 32)
RFieldsFit (Rcreate qid iounit) = QidNumbersFit qid × (iounit < 2 ^ 32)
RFieldsFit (Rread bytes) = length bytes < 2 ^ 32
RFieldsFit (Rwrite count) = count < 2 ^ 32
RFieldsFit Rclunk = Unit {0}
RFieldsFit Rremove = Unit {0}
RFieldsFit (Rstat stat) = StatNumbersFit stat × FitsStat stat
RFieldsFit Rwstat = Unit {0}

-- the fields apart: numbers, and all else
fields-apart : (m : RMessage) → RFieldsFit m → 7 + r_len m < 2 ^ 32 → RNumbersFit m × RFits m
fields-apart (Rversion msize version) h size = h
fields-apart (Rattach qid) h size = (h, tt)
fields-apart (Rerror ename) h size = (tt, h)
fields-apart Rflush h size = (tt, tt)
fields-apart (Rwalk qids) h size = (h.1, h.0)
fields-apart (Ropen qid iounit) h size = (h, tt)
fields-apart (Rcreate qid iounit) h size = (h, tt)
fields-apart (Rread bytes) h size = (tt, omega (arith, size))
fields-apart (Rwrite count) h size = (h, tt)
fields-apart Rclunk h size = (tt, tt)
fields-apart Rremove h size = (tt, tt)
fields-apart (Rstat stat) h size = h
fields-apart Rwstat h size = (tt, tt)

-- and together
fields-joined : (m : RMessage) → RNumbersFit m → RFits m → RFieldsFit m
fields-joined (Rversion msize version) n f = (n, f)
fields-joined (Rattach qid) n f = n
fields-joined (Rerror ename) n f = f
fields-joined Rflush n f = tt
fields-joined (Rwalk qids) n f = (f, n)
fields-joined (Ropen qid iounit) n f = n
fields-joined (Rcreate qid iounit) n f = n
fields-joined (Rread bytes) n f = omega (arith, f)
fields-joined (Rwrite count) n f = n
fields-joined Rclunk n f = tt
fields-joined Rremove n f = tt
fields-joined (Rstat stat) n f = (n, f)
fields-joined Rwstat n f = tt

abbrev r_grammar : Grammar RMessage
r_grammar = record { kind = r_type; body = r_body; Fits = RFieldsFit; body_at = r_body_at }

-- a body that was read is that of its message, and spelled so: for each message

read-version : IsReader r_grammar 101 r_version_at
unfolding r_version_at
read-version =
    taken r_grammar (then-codes (number-codes 4) text-codes) (λ x. Rversion x.0 x.1) (λ a. refl)
    (λ a. refl) (λ a h. h)

read-attach : IsReader r_grammar 105 r_attach_at
unfolding r_attach_at
read-attach = taken r_grammar qid-codes Rattach (λ a. refl) (λ a. refl) (λ a h. h)

read-error : IsReader r_grammar 107 r_error_at
unfolding r_error_at
read-error = taken r_grammar text-codes Rerror (λ a. refl) (λ a. refl) (λ a h. h)

read-flush : IsReader r_grammar 109 r_flush_at
read-flush = taken r_grammar nothing-codes (λ x. Rflush) (λ a. refl) (λ a. refl) (λ a h. h)

read-walk : IsReader r_grammar 111 r_walk_at
unfolding r_walk_at
read-walk = taken r_grammar (several-codes qid-codes) Rwalk (λ a. refl) (λ a. refl) (λ a h. h)

read-open : IsReader r_grammar 113 r_open_at
unfolding r_open_at
read-open =
    taken r_grammar (then-codes qid-codes (number-codes 4)) (λ x. Ropen x.0 x.1) (λ a. refl)
    (λ a. refl) (λ a h. h)

read-create : IsReader r_grammar 115 r_create_at
unfolding r_create_at
read-create =
    taken r_grammar (then-codes qid-codes (number-codes 4)) (λ x. Rcreate x.0 x.1) (λ a. refl)
    (λ a. refl) (λ a h. h)

read-read : IsReader r_grammar 117 r_read_at
unfolding r_read_at
read-read = taken r_grammar counted-codes Rread (λ a. refl) (λ a. refl) (λ a h. h)

read-write : IsReader r_grammar 119 r_write_at
unfolding r_write_at
read-write = taken r_grammar (number-codes 4) Rwrite (λ a. refl) (λ a. refl) (λ a h. h)

read-clunk : IsReader r_grammar 121 r_clunk_at
read-clunk = taken r_grammar nothing-codes (λ x. Rclunk) (λ a. refl) (λ a. refl) (λ a h. h)

read-remove : IsReader r_grammar 123 r_remove_at
read-remove = taken r_grammar nothing-codes (λ x. Rremove) (λ a. refl) (λ a. refl) (λ a h. h)

read-stat : IsReader r_grammar 125 r_stat_at
unfolding r_stat_at
read-stat = taken r_grammar stat-codes Rstat (λ a. refl) (λ a. refl) (λ a h. h)

read-wstat : IsReader r_grammar 127 r_wstat_at
read-wstat = taken r_grammar nothing-codes (λ x. Rwstat) (λ a. refl) (λ a. refl) (λ a h. h)

-- a reply that was read has its type, its fields and its spelling
sound : (k : ℕ) → IsReader r_grammar k (r_body_at k)
unfolding r_body_at
sound k =
    chosen r_grammar k read-version
    (chosen r_grammar k read-attach
    (chosen r_grammar k read-error
    (chosen r_grammar k read-flush
    (chosen r_grammar k read-walk
    (chosen r_grammar k read-open
    (chosen r_grammar k read-create
    (chosen r_grammar k read-read
    (chosen r_grammar k read-write
    (chosen r_grammar k read-clunk
    (chosen r_grammar k read-remove
    (chosen r_grammar k read-stat
    (chosen r_grammar k read-wstat
    (λ bytes x fits e. absurd cc)))))))))))))

-- a reply that is spelled is read
complete : (m : RMessage) (rest : List ℕ) → RFieldsFit m
    → r_body_at (r_type m) (r_body m ++ rest) ≡ Some (m, rest)
unfolding r_body_at r_version_at r_attach_at r_error_at r_walk_at r_open_at r_create_at r_read_at
    r_write_at r_stat_at
complete (Rversion msize version) rest h =
    made-complete (then-codes (number-codes 4) text-codes) (λ x. Rversion x.0 x.1) (msize, version)
    rest h
complete (Rattach qid) rest h = made-complete qid-codes Rattach qid rest h
complete (Rerror ename) rest h = made-complete text-codes Rerror ename rest h
complete Rflush rest h = made-complete nothing-codes (λ x. Rflush) tt rest h
complete (Rwalk qids) rest h = made-complete (several-codes qid-codes) Rwalk qids rest h
complete (Ropen qid iounit) rest h =
    made-complete (then-codes qid-codes (number-codes 4)) (λ x. Ropen x.0 x.1) (qid, iounit) rest h
complete (Rcreate qid iounit) rest h =
    made-complete (then-codes qid-codes (number-codes 4)) (λ x. Rcreate x.0 x.1) (qid, iounit) rest
    h
complete (Rread bytes) rest h = made-complete counted-codes Rread bytes rest h
complete (Rwrite count) rest h = made-complete (number-codes 4) Rwrite count rest h
complete Rclunk rest h = made-complete nothing-codes (λ x. Rclunk) tt rest h
complete Rremove rest h = made-complete nothing-codes (λ x. Rremove) tt rest h
complete (Rstat stat) rest h = made-complete stat-codes Rstat stat rest h
complete Rwstat rest h = made-complete nothing-codes (λ x. Rwstat) tt rest h

-- one byte holds a type
small : (m : RMessage) → r_type m < 256
small (Rversion msize version) = omega arith
small (Rattach qid) = omega arith
small (Rerror ename) = omega arith
small Rflush = omega arith
small (Rwalk qids) = omega arith
small (Ropen qid iounit) = omega arith
small (Rcreate qid iounit) = omega arith
small (Rread bytes) = omega arith
small (Rwrite count) = omega arith
small Rclunk = omega arith
small Rremove = omega arith
small (Rstat stat) = omega arith
small Rwstat = omega arith

-- so the bodies of replies are read as they are spelled
reads : Reads r_grammar
reads = record { small = small; sound = sound; complete = complete }

-- the function that reads a reply answers exactly what the grammar spells
pub r-decides : Decides r_message_of RSpells
unfolding r_message_of r_spelling
r-decides = record {
  sound = λ bytes tag m fits e.
      let framed = message-sound r_grammar reads bytes (tag, m) fits e in
      let apart = fields-apart m framed.fits (omega (arith, length-r_body m, framed.size_fits)) in
      record {
        whole = framed.whole;
        numbers = apart.0;
        fits = apart.1;
        tag_fits =
            framed.tag_fits;
      };
  complete = λ bytes tag m spelled.
      let framed : Framed r_grammar bytes tag m = record {
        whole = spelled.whole;
        fits = fields-joined m spelled.numbers spelled.fits;
        tag_fits = spelled.tag_fits;
        size_fits = omega (arith, length-r_body m, r_len-fits m spelled.fits);
      } in
      message-complete r_grammar reads bytes tag m framed;
}
