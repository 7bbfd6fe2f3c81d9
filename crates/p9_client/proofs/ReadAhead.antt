-- What reads ahead give of a file.
use Rattle.std.proofs.Common.{◌≡◌, ℕ, ◌+◌, ◌-◌, ◌<◌, ◌≤◌, ◌∙◌, List, [], ◌∷◌, ◌++◌, Option, ap, append_assoc}
use Rattle.std.proofs.Common.{append-nil, arith, false, inl, inr, length, length-append, refl, subst, sym}
use Rattle.std.specs.Io.KnownBytes.{Appends}
use Rattle.p9_wire.specs.Message.{Rread, TMessage, Tread}
use Rattle.p9_client.specs.Ahead.{Answer, Arrives, ArrivesAll, AskInTurn, Exchange, Exchanges, Finds, FindsReplies, FindsReply}
use Rattle.p9_client.specs.Ahead.{GiveParts, SendsReads, Sent, TakesReads, ahead_max, answers_of, part_size, read_part, requests_of}
use Rattle.p9_client.specs.Ahead.{tag_past}
use Rattle.p9_client.specs.Files.{Reads, ReadsAt, ReadsFile, ReadsOn}
use Rattle.p9_client.specs.Session.{Talk, next_tag}
use Rattle.p9_client.proofs.Exchanged.{exchanged, exchanges-both, finds-both, finds-none, finds-one, next-tag_past}
use Rattle.p9_client.proofs.Exchanged.{nothing-exchanged, paired}

-- the answers to reads of parts gave all of them
abbrev pub GiveAll : (size : ℕ → ℕ) (from to : ℕ) → List Answer → List ℕ → Type 0
GiveAll size from to [] bytes = (from ≡ to) × (bytes ≡ [])
GiveAll size from to (answer ∷ answers) bytes =
    (piece : List ℕ) × (rest : List ℕ) × (answer.reply ≡ Rread piece) × (length piece ≡ size from)
    × (bytes ≡ piece ++ rest) × GiveAll size (from + size from) to answers rest

-- a further one gave all of its part
pub given-more : (size : ℕ → ℕ) (from to : ℕ) (answers : List Answer) (bytes : List ℕ) (a : Answer)
    (piece all : List ℕ) → GiveAll size from to answers bytes → a.reply ≡ Rread piece
    → length piece ≡ size to → all ≡ bytes ++ piece
    → GiveAll size from (to + size to) (answers ++ a ∷ []) all
given-more size from to [] bytes a piece all h is long whole = (
  piece,
  [],
  is,
  long ∙ ap size (sym h.0),
  whole ∙ ap (λ (zs : List ℕ). zs ++ piece) h.1 ∙ sym (append-nil piece),
  (ap (λ (t : ℕ). t + size t) h.0, refl),
)
given-more size from to (x ∷ xs) bytes a piece all h is long whole = (
  h.0,
  h.1 ++ piece,
  h.2,
  h.3,
  whole ∙ ap (λ (zs : List ℕ). zs ++ piece) h.4 ∙ append_assoc h.0 h.1 piece,
  given-more size (from + size from) to xs h.1 a piece (h.1 ++ piece) h.5 is long refl,
)

-- none was short
pub given-all : (size : ℕ → ℕ) (from to : ℕ) (answers : List Answer) (bytes : List ℕ)
    → GiveAll size from to answers bytes → GiveParts size from answers bytes
given-all size from to [] bytes h = h.1
given-all size from to (x ∷ xs) bytes h =
    (h.0, h.2, inl (h.3, (h.1, h.4, given-all size (from + size from) to xs h.1 h.5)))

-- one was short, and what came after it was dropped
pub given-short : (size : ℕ → ℕ) (from to : ℕ) (answers : List Answer) (bytes : List ℕ)
    (a : Answer) (dropped : List Answer) (piece all : List ℕ) → GiveAll size from to answers bytes
    → a.reply ≡ Rread piece → length piece < size to → all ≡ bytes ++ piece
    → GiveParts size from (answers ++ a ∷ dropped) all
given-short size from to [] bytes a dropped piece all h is short whole =
    let short' : length piece < size from = subst (λ (t : ℕ). length piece < size t) (sym h.0) short in
    (piece, is, inr (short', whole ∙ ap (λ (zs : List ℕ). zs ++ piece) h.1))
given-short size from to (x ∷ xs) bytes a dropped piece all h is short whole = (
  h.0,
  h.2,
  inl (
    h.3,
    (
      h.1 ++ piece,
      whole ∙ ap (λ (zs : List ℕ). zs ++ piece) h.4 ∙ append_assoc h.0 h.1 piece,
      given-short size (from + size from) to xs h.1 a dropped piece (h.1 ++ piece) h.5 is short refl,
    ),
  ),
)

-- reads of parts behind a place give nothing from there
behind : (fid start most len at from to : ℕ) (es : List Exchange)
    → AskInTurn (read_part fid start most len) (part_size most len) from to (requests_of es)
    → at < start + from → Reads fid at es []
behind fid start most len at from to [] asked after = refl
behind fid start most len at from to (e ∷ es) asked after =
    inr (
      record {
        offset = start + from;
        size = part_size most len from;
        request_is = asked.0;
        behind = after;
      },
      behind fid start most len at (from + part_size most len from) to es asked.2 (omega arith),
    )

-- reads of parts give what their answers do
pub reads-on : (fid start most len from to : ℕ) (es : List Exchange) (bytes : List ℕ)
    → AskInTurn (read_part fid start most len) (part_size most len) from to (requests_of es)
    → GiveParts (part_size most len) from (answers_of es) bytes → Reads fid (start + from) es bytes
reads-on fid start most len from to [] bytes asked given = given
reads-on fid start most len from to (e ∷ es) bytes asked given =
    let piece : List ℕ = given.0 in
    let reads = λ (within : length piece ≤ part_size most len from).
    let at : ReadsAt fid (start + from) piece e =
    record {
      size = part_size most len from;
      some = asked.1;
      request_is = asked.0;
      reply_is = given.1;
      within = within;
    } in
    at in
    elim given.2 [
      | inl full ↦
          let next : start + (from + part_size most len from) ≡ start + from + length piece =
          omega (arith, full.0) in
          inl (
            piece,
            full.1.0,
            reads (omega (arith, full.0)),
            full.1.1,
            subst (λ (t : ℕ). Reads fid t es full.1.0) next
                (reads-on fid start most len (from + part_size most len from) to es full.1.0 asked.2
                full.1.2),
          )
      | inr short ↦ inl (
        piece,
        [],
        reads (omega (arith, short.0)),
        short.1 ∙ sym (append-nil piece),
        behind fid start most len (start + from + length piece) (from + part_size most len from) to
            es asked.2 (omega (arith, short.0)),
      )
    ]

front-nil : (xs ys : List ℕ) → [] ≡ xs ++ ys → xs ≡ []
front-nil [] ys h = refl
front-nil (x ∷ xs) ys h = cc

-- where reads of parts give nothing, the first one does
pub first-ends : (fid start most len to : ℕ) (e : Exchange) (es : List Exchange) (bytes : List ℕ)
    → AskInTurn (read_part fid start most len) (part_size most len) 0 to (requests_of (e ∷ es))
    → GiveParts (part_size most len) 0 (answers_of (e ∷ es)) bytes → bytes ≡ []
    → ReadsAt fid start [] e
first-ends fid start most len to e es bytes asked given none =
    let piece : given.0 ≡ [] =
    elim given.2 [
      | inl full ↦ front-nil given.0 full.1.0 (sym none ∙ full.1.1)
      | inr short ↦ sym short.1 ∙ none
    ] in
    let at : start + 0 ≡ start = omega arith in
    record {
      size = part_size most len 0;
      some = asked.1;
      request_is = subst (λ (t : ℕ). e.request ≡ Tread fid t (part_size most len 0)) at asked.0;
      reply_is = given.1 ∙ ap Rread piece;
      within = omega arith;
    }

-- what further reads give
pub reads-both : (fid at : ℕ) (xs ys : List Exchange) (front back : List ℕ)
    → Reads fid at xs front → Reads fid (at + length front) ys back
    → Reads fid at (xs ++ ys) (front ++ back)
reads-both fid at [] ys front back first more =
    let here : at + length front ≡ at = omega (arith, ap length first) in
    subst (λ (zs : List ℕ). Reads fid at ys (zs ++ back)) (sym first)
    (subst (λ (t : ℕ). Reads fid t ys back) here more)
reads-both fid at (x ∷ xs) ys front back first more =
    elim first [
      | inl h ↦
          let next : at + length front ≡ at + length h.0 + length h.1 =
          omega (arith, ap length h.3, length-append h.0 h.1) in
          inl (
            h.0,
            h.1 ++ back,
            h.2,
            ap (λ (zs : List ℕ). zs ++ back) h.3 ∙ append_assoc h.0 h.1 back,
            reads-both fid (at + length h.0) xs ys h.1 back h.4
                (subst (λ (t : ℕ). Reads fid t ys back) next more),
          )
      | inr h ↦ inr (h.0, reads-both fid at xs ys front back h.1 more)
    ]

-- the answers to so many reads of parts are found, from a first tag on, and gave all of their parts
pub record HasTakenReads (arrived : List (List ℕ)) (most len first tag count total : ℕ)
    (bytes : List ℕ) : Type 0 where
  pub answers : List Answer
  pub tag_is : tag ≡ tag_past first answers
  pub found : Finds arrived first count answers
  pub given : GiveAll (part_size most len) 0 total answers bytes

pub no-reads-taken : (arrived : List (List ℕ)) (most len first : ℕ)
    → HasTakenReads arrived most len first first 0 0 []
no-reads-taken arrived most len first =
    record {
      answers = [];
      tag_is = refl;
      found = finds-none arrived first;
      given = (refl, refl);
    }

-- a further part was given whole
pub read-taken : (arrived : List (List ℕ)) (most len first tag count total : ℕ)
    (bytes piece : List ℕ) → HasTakenReads arrived most len first tag count total bytes
    → FindsReply arrived tag (Rread piece) → length piece ≡ part_size most len total
    → HasTakenReads arrived most len first (next_tag tag) (count + 1) (total + length piece)
    (bytes ++ piece)
read-taken arrived most len first tag count total bytes piece before next whole =
    let last : Answer = record { frame = next.frame; reply = Rread piece } in
    record {
      answers = before.answers ++ last ∷ [];
      tag_is = next-tag_past first tag before.answers last before.tag_is;
      found = finds-both arrived first tag count 1 (count + 1) before.answers (last ∷ []) before.found
          before.tag_is (finds-one arrived tag (Rread piece) next) refl;
      given = subst (λ (t : ℕ). GiveAll (part_size most len) 0 t (before.answers ++ last ∷ [])
          (bytes ++ piece)) (ap (λ (n : ℕ). total + n) (sym whole))
          (given-more (part_size most len) 0 total before.answers bytes last piece (bytes ++ piece)
          before.given refl whole refl);
    }

-- none was short
pub reads-taken : (arrived : List (List ℕ)) (most len first tag count total : ℕ) (bytes : List ℕ)
    → HasTakenReads arrived most len first tag count total bytes → count ≡ length arrived
    → TakesReads arrived first most len bytes
reads-taken arrived most len first tag count total bytes taken all = (
  taken.answers,
  subst (λ (n : ℕ). Finds arrived first n taken.answers) all taken.found,
  given-all (part_size most len) 0 total taken.answers bytes taken.given,
)

-- the next one was, and what those after it give was dropped
pub short-taken : (arrived : List (List ℕ)) (most len first tag count total left : ℕ)
    (bytes piece : List ℕ) → HasTakenReads arrived most len first tag count total bytes
    → FindsReply arrived tag (Rread piece) → length piece < part_size most len total
    → FindsReplies arrived (next_tag tag) left → count + 1 + left ≡ length arrived
    → TakesReads arrived first most len (bytes ++ piece)
short-taken arrived most len first tag count total left bytes piece before next short drops all =
    let last : Answer = record { frame = next.frame; reply = Rread piece } in
    let others : List Answer = drops.0 in (
      before.answers ++ last ∷ others,
      finds-both arrived first tag count (1 + left) (length arrived) before.answers (last ∷ others)
          before.found before.tag_is
          (finds-both arrived tag (next_tag tag) 1 left (1 + left) (last ∷ []) others
          (finds-one arrived tag (Rread piece) next) refl drops.1 refl) (omega (arith, all)),
      given-short (part_size most len) 0 total before.answers bytes last others piece
          (bytes ++ piece) before.given refl short refl,
    )

module _ {S : Type 0} (remaining contents : S → Option (List ℕ)) where
  -- reads of parts were sent, and their answers taken
  pub read-ahead : (fid start most len to count : ℕ) (requests : List TMessage)
      (arrived : List (List ℕ)) (answers : List Answer) (bytes : List ℕ) (old mid new : Talk S)
      → Sent remaining contents requests old mid
      → AskInTurn (read_part fid start most len) (part_size most len) 0 to requests
      → Arrives remaining contents arrived mid new
      → Finds arrived old.tag (length arrived) answers
      → GiveParts (part_size most len) 0 answers bytes → length requests ≡ count
      → length arrived ≡ count → 0 < count → count ≤ ahead_max
      → ReadsOn remaining contents fid start bytes old new
  read-ahead fid start most len to count requests arrived answers bytes old mid new sent asked
      arrives found given asked-count arrived-count some few =
      let both = paired requests answers (omega (arith, asked-count, arrived-count, found.long)) in
      from_paired fid start most len to both.exchanges arrived bytes old mid new
      (subst (λ (rs : List TMessage). Sent remaining contents rs old mid) (sym both.asked) sent)
      (subst (AskInTurn (read_part fid start most len) (part_size most len) 0 to) (sym both.asked)
      asked) arrives
      (subst (λ (xs : List Answer). Finds arrived old.tag (length arrived) xs) (sym both.answered)
      found)
      (subst (λ (xs : List Answer). GiveParts (part_size most len) 0 xs bytes) (sym both.answered)
      given) (omega (arith, ap length both.asked)) (omega (arith, arrived-count, few))
    where
      from_paired : (fid start most len to : ℕ) (es : List Exchange) (arrived : List (List ℕ))
          (bytes : List ℕ) (old mid new : Talk S) → Sent remaining contents (requests_of es) old mid
          → AskInTurn (read_part fid start most len) (part_size most len) 0 to (requests_of es)
          → Arrives remaining contents arrived mid new
          → Finds arrived old.tag (length arrived) (answers_of es)
          → GiveParts (part_size most len) 0 (answers_of es) bytes
          → 0 < length (requests_of es) → length arrived ≤ ahead_max
          → ReadsOn remaining contents fid start bytes old new
      from_paired fid start most len to [] arrived bytes old mid new sent asked arrives found given
          some few =
          absurd (omega arith)
      from_paired fid start most len to (e ∷ es) arrived bytes old mid new sent asked arrives found
          given some few =
          let at : start + 0 ≡ start = omega arith in
          record {
            first = e;
            others = es;
            exchanged = exchanged remaining contents (e ∷ es) arrived old mid new sent arrives found few;
            given = subst (λ (t : ℕ). Reads fid t (e ∷ es) bytes) at
                (reads-on fid start most len 0 to (e ∷ es) bytes asked given);
            ends = first-ends fid start most len to e es bytes asked given;
          }

  -- so much of a file was read
  pub record HasReadFile (fid : ℕ) (bytes : List ℕ) (old new : Talk S) : Type 0 where
    pub exchanges : List Exchange
    pub exchanged : Exchanges remaining contents exchanges old new
    pub given : Reads fid 0 exchanges bytes

  pub no-file-read : (fid : ℕ) (s : Talk S) → HasReadFile fid [] s s
  no-file-read fid s =
      record {
        exchanges = [];
        exchanged = nothing-exchanged remaining contents s;
        given = refl;
      }

  -- more of it was read
  pub more-file-read : (fid at : ℕ) (bytes piece : List ℕ) (old mid new : Talk S)
      → HasReadFile fid bytes old mid → length bytes ≡ at
      → ReadsOn remaining contents fid at piece mid new → HasReadFile fid (bytes ++ piece) old new
  more-file-read fid at bytes piece old mid new read here more =
      let from : at ≡ 0 + length bytes = omega (arith, here) in
      record {
        exchanges = read.exchanges ++ more.first ∷ more.others;
        exchanged = exchanges-both remaining contents read.exchanges (more.first ∷ more.others) old
            mid new read.exchanged more.exchanged;
        given = reads-both fid 0 read.exchanges (more.first ∷ more.others) bytes piece read.given
            (subst (λ (t : ℕ). Reads fid t (more.first ∷ more.others) piece) from more.given);
      }

  -- nothing more was there
  pub whole-file-read : (fid at : ℕ) (bytes piece : List ℕ) (old mid new : Talk S)
      → HasReadFile fid bytes old mid → length bytes ≡ at
      → ReadsOn remaining contents fid at piece mid new → piece ≡ []
      → ReadsFile remaining contents fid bytes old new
  whole-file-read fid at bytes piece old mid new read here more none =
      record {
        exchanges = read.exchanges;
        last = more.first;
        dropped = more.others;
        exchanged = exchanges-both remaining contents read.exchanges (more.first ∷ more.others) old
            mid new read.exchanged more.exchanged;
        given = read.given;
        ended = subst (λ (t : ℕ). ReadsAt fid t [] more.first) (sym here) (more.ends none);
        behind = subst (λ (t : ℕ). Reads fid t (more.first ∷ more.others) []) (sym here)
            (subst (Reads fid at (more.first ∷ more.others)) none more.given);
      }

  -- reads of parts were sent, and what they came to was taken
  pub read-ahead-ok : (fid start len count tag most total : ℕ) (arrived : List (List ℕ))
      (out out' : Option (List ℕ)) (old mid new : Talk S) → 0 < len
      → SendsReads remaining contents fid start len old mid count
      → (0 < len → 0 < count × (mid.failed ≡ false)) → count ≤ ahead_max → tag ≡ old.tag
      → ArrivesAll remaining contents count mid new arrived → most ≡ new.msize - 24
      → (total ≤ len) × ((bytes : List ℕ) × (length bytes ≡ total)
      × TakesReads arrived tag most len bytes × Appends out out' bytes)
      → (total ≤ len) × (new.failed ≡ false) × (new.msize ≡ old.msize)
      × ((bytes : List ℕ) × (length bytes ≡ total)
      × ReadsOn remaining contents fid start bytes old new × Appends out out' bytes)
  read-ahead-ok fid start len count tag most total arrived out out' old mid new some sends alive few
      tag_is arrives most_is ok =
      let bytes : List ℕ = ok.1.0 in
      let takes = ok.1.2 in
      let msize : new.msize ≡ old.msize = arrives.1.msize_is ∙ sends.2.msize_is in
      let most' : most ≡ old.msize - 24 = most_is ∙ ap (λ (m : ℕ). m - 24) msize in (
        ok.0,
        arrives.1.goes_on ∙ (alive some).1,
        msize,
        (
          bytes,
          ok.1.1,
          read-ahead fid start (old.msize - 24) len sends.3.0 count sends.0 arrived takes.0 bytes old
              mid new sends.2 sends.3.1 arrives.1
              (subst (λ (t : ℕ). Finds arrived t (length arrived) takes.0) tag_is takes.1)
              (subst (λ (m : ℕ). GiveParts (part_size m len) 0 takes.0 bytes) most' takes.2) sends.1
              arrives.0 (alive some).0 few,
          ok.1.3,
        ),
      )
