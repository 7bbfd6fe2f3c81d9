-- Each request is read as it is spelled.
use Rattle.std.proofs.Common.{◌≡◌, ℕ, ◌+◌, ◌<◌, ◌^◌, List, ◌++◌, length, Some, refl, arith}
use Rattle.p9_wire.specs.Message.{TMessage, Tversion, Tauth, Tattach, Tflush, Twalk, Topen, Tcreate}
use Rattle.p9_wire.specs.Message.{Tread, Twrite, Tclunk, Tremove, Tstat, Twstat}
use Rattle.p9_wire.specs.Fields.{FitsText, FitsStat, StatNumbersFit}
use Rattle.p9_wire.specs.Spelling.{t_type, t_body, t_len, TNumbersFit, TFits, t_spelling, TSpells}
use Rattle.p9_wire.specs.Reading.{t_version_at, t_auth_at, t_attach_at, t_flush_at, t_walk_at}
use Rattle.p9_wire.specs.Reading.{t_open_at, t_create_at, t_read_at, t_write_at, t_clunk_at}
use Rattle.p9_wire.specs.Reading.{t_remove_at, t_stat_at, t_wstat_at, t_body_at, t_message_of}
use Rattle.p9_wire.proofs.Lengths.{length-t_body, t_len-fits}
use Rattle.p9_wire.proofs.Codes.{number-codes, text-codes, counted-codes, several-codes, stat-codes}
use Rattle.p9_wire.proofs.Codes.{then-codes, FitsSeveral, made-complete}
use Rattle.p9_wire.proofs.Framing.{Grammar, IsReader, Reads, Framed, Decides, taken, chosen}
use Rattle.p9_wire.proofs.Framing.{message-sound, message-complete}

-- each field fits, in the order of the fields
abbrev TFieldsFit : TMessage → Type 0
TFieldsFit (Tversion msize version) = (msize < 2 ^ 32) × FitsText version
TFieldsFit (Tauth afid uname aname) = (afid < 2 ^ 32) × FitsText uname × FitsText aname
TFieldsFit (Tattach fid afid uname aname) =
    (fid < 2 ^ 32) × (afid < 2 ^ 32) × FitsText uname × FitsText aname
TFieldsFit (Tflush oldtag) = oldtag < 2 ^ 16
TFieldsFit (Twalk fid newfid names) =
    (fid < 2 ^ 32) × (newfid < 2 ^ 32) × FitsSeveral FitsText names
TFieldsFit (Topen fid mode) = (fid < 2 ^ 32) × (mode < 2 ^ 8)
TFieldsFit (Tcreate fid name perm mode) =
    (fid < 2 ^ 32) × FitsText name × (perm < 2 ^ 32) × (mode < 2 ^ 8)
TFieldsFit (Tread fid offset count) = (fid < 2 ^ 32) × (offset < 2 ^ 64) × (count < 2 ^ 32)
TFieldsFit (Twrite fid offset bytes) = (fid < 2 ^ 32) × (offset < 2 ^ 64) × (length bytes < 2 ^ 32)
TFieldsFit (Tclunk fid) = fid < 2 ^ 32
TFieldsFit (Tremove fid) = fid < 2 ^ 32
TFieldsFit (Tstat fid) = fid < 2 ^ 32
TFieldsFit (Twstat fid stat) = (fid < 2 ^ 32) × (StatNumbersFit stat × FitsStat stat)

-- the fields apart: numbers, and all else
fields-apart : (m : TMessage) → TFieldsFit m → 7 + t_len m < 2 ^ 32 → TNumbersFit m × TFits m
fields-apart (Tversion msize version) h size = h
fields-apart (Tauth afid uname aname) h size = (h.0, (h.1, h.2))
fields-apart (Tattach fid afid uname aname) h size = ((h.0, h.1), (h.2, h.3))
fields-apart (Tflush oldtag) h size = (h, tt)
fields-apart (Twalk fid newfid names) h size = ((h.0, h.1), record { few = h.2.0; each = h.2.1 })
fields-apart (Topen fid mode) h size = (h, tt)
fields-apart (Tcreate fid name perm mode) h size = ((h.0, h.2, h.3), h.1)
fields-apart (Tread fid offset count) h size = (h, tt)
fields-apart (Twrite fid offset bytes) h size = ((h.0, h.1), omega (arith, size))
fields-apart (Tclunk fid) h size = (h, tt)
fields-apart (Tremove fid) h size = (h, tt)
fields-apart (Tstat fid) h size = (h, tt)
fields-apart (Twstat fid stat) h size = ((h.0, h.1.0), h.1.1)

-- and together
fields-joined : (m : TMessage) → TNumbersFit m → TFits m → TFieldsFit m
fields-joined (Tversion msize version) n f = (n, f)
fields-joined (Tauth afid uname aname) n f = (n, f.0, f.1)
fields-joined (Tattach fid afid uname aname) n f = (n.0, n.1, f.0, f.1)
fields-joined (Tflush oldtag) n f = n
fields-joined (Twalk fid newfid names) n f = (n.0, n.1, (f.few, f.each))
fields-joined (Topen fid mode) n f = n
fields-joined (Tcreate fid name perm mode) n f = (n.0, f, n.1, n.2)
fields-joined (Tread fid offset count) n f = n
fields-joined (Twrite fid offset bytes) n f = (n.0, n.1, omega (arith, f))
fields-joined (Tclunk fid) n f = n
fields-joined (Tremove fid) n f = n
fields-joined (Tstat fid) n f = n
fields-joined (Twstat fid stat) n f = (n.0, (n.1, f))

abbrev t_grammar : Grammar TMessage
t_grammar = record { kind = t_type; body = t_body; Fits = TFieldsFit; body_at = t_body_at }

-- a body that was read is that of its message, and spelled so: for each message

read-version : IsReader t_grammar 100 t_version_at
unfolding t_version_at
read-version =
    taken t_grammar (then-codes (number-codes 4) text-codes) (λ x. Tversion x.0 x.1) (λ a. refl)
    (λ a. refl) (λ a h. h)

read-auth : IsReader t_grammar 102 t_auth_at
unfolding t_auth_at
read-auth =
    taken t_grammar (then-codes (then-codes (number-codes 4) text-codes) text-codes)
    (λ x. Tauth x.0.0 x.0.1 x.1) (λ a. refl) (λ a. refl) (λ a h. (h.0.0, h.0.1, h.1))

read-attach : IsReader t_grammar 104 t_attach_at
unfolding t_attach_at
read-attach =
    taken t_grammar
    (then-codes (then-codes (then-codes (number-codes 4) (number-codes 4)) text-codes) text-codes)
    (λ x. Tattach x.0.0.0 x.0.0.1 x.0.1 x.1) (λ a. refl) (λ a. refl)
    (λ a h. (h.0.0.0, h.0.0.1, h.0.1, h.1))

read-flush : IsReader t_grammar 108 t_flush_at
unfolding t_flush_at
read-flush = taken t_grammar (number-codes 2) Tflush (λ a. refl) (λ a. refl) (λ a h. h)

read-walk : IsReader t_grammar 110 t_walk_at
unfolding t_walk_at
read-walk =
    taken t_grammar
    (then-codes (then-codes (number-codes 4) (number-codes 4)) (several-codes text-codes))
    (λ x. Twalk x.0.0 x.0.1 x.1) (λ a. refl) (λ a. refl) (λ a h. (h.0.0, h.0.1, h.1))

read-open : IsReader t_grammar 112 t_open_at
unfolding t_open_at
read-open =
    taken t_grammar (then-codes (number-codes 4) (number-codes 1)) (λ x. Topen x.0 x.1) (λ a. refl)
    (λ a. refl) (λ a h. h)

read-create : IsReader t_grammar 114 t_create_at
unfolding t_create_at
read-create =
    taken t_grammar
    (then-codes (then-codes (then-codes (number-codes 4) text-codes) (number-codes 4))
    (number-codes 1)) (λ x. Tcreate x.0.0.0 x.0.0.1 x.0.1 x.1) (λ a. refl) (λ a. refl)
    (λ a h. (h.0.0.0, h.0.0.1, h.0.1, h.1))

read-read : IsReader t_grammar 116 t_read_at
unfolding t_read_at
read-read =
    taken t_grammar (then-codes (then-codes (number-codes 4) (number-codes 8)) (number-codes 4))
    (λ x. Tread x.0.0 x.0.1 x.1) (λ a. refl) (λ a. refl) (λ a h. (h.0.0, h.0.1, h.1))

read-write : IsReader t_grammar 118 t_write_at
unfolding t_write_at
read-write =
    taken t_grammar (then-codes (then-codes (number-codes 4) (number-codes 8)) counted-codes)
    (λ x. Twrite x.0.0 x.0.1 x.1) (λ a. refl) (λ a. refl) (λ a h. (h.0.0, h.0.1, h.1))

read-clunk : IsReader t_grammar 120 t_clunk_at
unfolding t_clunk_at
read-clunk = taken t_grammar (number-codes 4) Tclunk (λ a. refl) (λ a. refl) (λ a h. h)

read-remove : IsReader t_grammar 122 t_remove_at
unfolding t_remove_at
read-remove = taken t_grammar (number-codes 4) Tremove (λ a. refl) (λ a. refl) (λ a h. h)

read-stat : IsReader t_grammar 124 t_stat_at
unfolding t_stat_at
read-stat = taken t_grammar (number-codes 4) Tstat (λ a. refl) (λ a. refl) (λ a h. h)

read-wstat : IsReader t_grammar 126 t_wstat_at
unfolding t_wstat_at
read-wstat =
    taken t_grammar (then-codes (number-codes 4) stat-codes) (λ x. Twstat x.0 x.1) (λ a. refl)
    (λ a. refl) (λ a h. h)

-- a request that was read has its type, its fields and its spelling
sound : (k : ℕ) → IsReader t_grammar k (t_body_at k)
unfolding t_body_at
sound k =
    chosen t_grammar k read-version
    (chosen t_grammar k read-auth
    (chosen t_grammar k read-attach
    (chosen t_grammar k read-flush
    (chosen t_grammar k read-walk
    (chosen t_grammar k read-open
    (chosen t_grammar k read-create
    (chosen t_grammar k read-read
    (chosen t_grammar k read-write
    (chosen t_grammar k read-clunk
    (chosen t_grammar k read-remove
    (chosen t_grammar k read-stat
    (chosen t_grammar k read-wstat
    (λ bytes x fits e. absurd cc)))))))))))))

-- a request that is spelled is read
complete : (m : TMessage) (rest : List ℕ) → TFieldsFit m
    → t_body_at (t_type m) (t_body m ++ rest) ≡ Some (m, rest)
unfolding t_body_at t_version_at t_auth_at t_attach_at t_flush_at t_walk_at t_open_at t_create_at
    t_read_at t_write_at t_clunk_at t_remove_at t_stat_at t_wstat_at
complete (Tversion msize version) rest h =
    made-complete (then-codes (number-codes 4) text-codes) (λ x. Tversion x.0 x.1) (msize, version)
    rest h
complete (Tauth afid uname aname) rest h =
    made-complete (then-codes (then-codes (number-codes 4) text-codes) text-codes)
    (λ x. Tauth x.0.0 x.0.1 x.1) ((afid, uname), aname) rest ((h.0, h.1), h.2)
complete (Tattach fid afid uname aname) rest h =
    made-complete
    (then-codes (then-codes (then-codes (number-codes 4) (number-codes 4)) text-codes) text-codes)
    (λ x. Tattach x.0.0.0 x.0.0.1 x.0.1 x.1) (((fid, afid), uname), aname) rest
    (((h.0, h.1), h.2), h.3)
complete (Tflush oldtag) rest h = made-complete (number-codes 2) Tflush oldtag rest h
complete (Twalk fid newfid names) rest h =
    made-complete
    (then-codes (then-codes (number-codes 4) (number-codes 4)) (several-codes text-codes))
    (λ x. Twalk x.0.0 x.0.1 x.1) ((fid, newfid), names) rest ((h.0, h.1), h.2)
complete (Topen fid mode) rest h =
    made-complete (then-codes (number-codes 4) (number-codes 1)) (λ x. Topen x.0 x.1) (fid, mode)
    rest h
complete (Tcreate fid name perm mode) rest h =
    made-complete
    (then-codes (then-codes (then-codes (number-codes 4) text-codes) (number-codes 4))
    (number-codes 1)) (λ x. Tcreate x.0.0.0 x.0.0.1 x.0.1 x.1) (((fid, name), perm), mode) rest
    (((h.0, h.1), h.2), h.3)
complete (Tread fid offset count) rest h =
    made-complete (then-codes (then-codes (number-codes 4) (number-codes 8)) (number-codes 4))
    (λ x. Tread x.0.0 x.0.1 x.1) ((fid, offset), count) rest ((h.0, h.1), h.2)
complete (Twrite fid offset bytes) rest h =
    made-complete (then-codes (then-codes (number-codes 4) (number-codes 8)) counted-codes)
    (λ x. Twrite x.0.0 x.0.1 x.1) ((fid, offset), bytes) rest ((h.0, h.1), h.2)
complete (Tclunk fid) rest h = made-complete (number-codes 4) Tclunk fid rest h
complete (Tremove fid) rest h = made-complete (number-codes 4) Tremove fid rest h
complete (Tstat fid) rest h = made-complete (number-codes 4) Tstat fid rest h
complete (Twstat fid stat) rest h =
    made-complete (then-codes (number-codes 4) stat-codes) (λ x. Twstat x.0 x.1) (fid, stat) rest h

-- one byte holds a type
small : (m : TMessage) → t_type m < 256
small (Tversion msize version) = omega arith
small (Tauth afid uname aname) = omega arith
small (Tattach fid afid uname aname) = omega arith
small (Tflush oldtag) = omega arith
small (Twalk fid newfid names) = omega arith
small (Topen fid mode) = omega arith
small (Tcreate fid name perm mode) = omega arith
small (Tread fid offset count) = omega arith
small (Twrite fid offset bytes) = omega arith
small (Tclunk fid) = omega arith
small (Tremove fid) = omega arith
small (Tstat fid) = omega arith
small (Twstat fid stat) = omega arith

-- so the bodies of requests are read as they are spelled
reads : Reads t_grammar
reads = record { small = small; sound = sound; complete = complete }

-- the function that reads a request answers exactly what the grammar spells
pub t-decides : Decides t_message_of TSpells
unfolding t_message_of t_spelling
t-decides = record {
  sound = λ bytes tag m fits e.
      let framed = message-sound t_grammar reads bytes (tag, m) fits e in
      let apart = fields-apart m framed.fits (omega (arith, length-t_body m, framed.size_fits)) in
      record {
        whole = framed.whole;
        numbers = apart.0;
        fits = apart.1;
        tag_fits =
            framed.tag_fits;
      };
  complete = λ bytes tag m spelled.
      let framed : Framed t_grammar bytes tag m = record {
        whole = spelled.whole;
        fits = fields-joined m spelled.numbers spelled.fits;
        tag_fits = spelled.tag_fits;
        size_fits = omega (arith, length-t_body m, t_len-fits m spelled.fits);
      } in
      message-complete t_grammar reads bytes tag m framed;
}
