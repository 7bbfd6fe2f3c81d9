-- What writes ahead write of bytes to a file.
use Rattle.std.proofs.Common.{◌≡◌, ℕ, ◌+◌, ◌-◌, ◌<◌, ◌≤◌, ◌∙◌, List, [], ◌∷◌, ◌++◌, Option, ap, arith}
use Rattle.std.proofs.Common.{false, inl, inr, length, refl, subst, sym}
use Rattle.p9_wire.specs.Message.{Rwrite, TMessage}
use Rattle.p9_client.specs.Ahead.{Answer, Arrives, ArrivesAll, AskInTurn, Exchange, Finds, FindsReplies, FindsReply, SendsWrites}
use Rattle.p9_client.specs.Ahead.{Sent, TakeParts, TakesWrites, ahead_max, answers_of, part_size, requests_of, tag_past}
use Rattle.p9_client.specs.Ahead.{write_part}
use Rattle.p9_client.specs.Files.{Writes, WritesAt, WritesOn}
use Rattle.p9_client.specs.Session.{Talk, next_tag}
use Rattle.p9_client.proofs.Exchanged.{exchanged, exchanges-both, finds-both, finds-none, finds-one, next-tag_past}
use Rattle.p9_client.proofs.Exchanged.{nothing-exchanged, paired}

-- the answers to writes of parts say that all of them were written
abbrev pub TakeAll : (size : ℕ → ℕ) (from to : ℕ) → List Answer → ℕ → Type 0
TakeAll size from to [] total = (from ≡ to) × (total ≡ 0)
TakeAll size from to (answer ∷ answers) total =
    (rest : ℕ) × (answer.reply ≡ Rwrite (size from)) × (total ≡ size from + rest)
    × TakeAll size (from + size from) to answers rest

-- a further part was written whole
pub taken-more : (size : ℕ → ℕ) (from to : ℕ) (answers : List Answer) (total : ℕ) (a : Answer)
    (count all : ℕ) → TakeAll size from to answers total → a.reply ≡ Rwrite count
    → count ≡ size to → all ≡ total + count
    → TakeAll size from (to + size to) (answers ++ a ∷ []) all
taken-more size from to [] total a count all h is whole sum =
    let same : count ≡ size from = whole ∙ ap size (sym h.0) in
    (0, is ∙ ap Rwrite same, omega (arith, same, sum, h.1), (ap (λ (t : ℕ). t + size t) h.0, refl))
taken-more size from to (x ∷ xs) total a count all h is whole sum = (
  h.0 + count,
  h.1,
  omega (arith, sum, h.2),
  taken-more size (from + size from) to xs h.0 a count (h.0 + count) h.3 is whole refl,
)

-- all were written whole
pub taken-all : (size : ℕ → ℕ) (from to : ℕ) (answers : List Answer) (total : ℕ)
    → TakeAll size from to answers total → TakeParts size from answers total
taken-all size from to [] total h = h.1
taken-all size from to (x ∷ xs) total h =
    (size from, h.1, inl (refl, (h.0, h.2, taken-all size (from + size from) to xs h.0 h.3)))

-- one was not, and what came after it was dropped
pub taken-short : (size : ℕ → ℕ) (from to : ℕ) (answers : List Answer) (total : ℕ) (a : Answer)
    (dropped : List Answer) (count all : ℕ) → TakeAll size from to answers total
    → a.reply ≡ Rwrite count → count < size to → all ≡ total + count
    → TakeParts size from (answers ++ a ∷ dropped) all
taken-short size from to [] total a dropped count all h is short sum =
    let short' : count < size from = subst (λ (t : ℕ). count < size t) (sym h.0) short in
    (count, is, inr (short', omega (arith, sum, h.1)))
taken-short size from to (x ∷ xs) total a dropped count all h is short sum = (
  size from,
  h.1,
  inl (
    refl,
    (
      h.0 + count,
      omega (arith, sum, h.2),
      taken-short size (from + size from) to xs h.0 a dropped count (h.0 + count) h.3 is short refl,
    ),
  ),
)

-- writes of parts behind a place write nothing from there
behind : (fid start most len : ℕ) (bytes : List ℕ) (at from to : ℕ) (es : List Exchange)
    → AskInTurn (write_part fid start most len bytes) (part_size most len) from to (requests_of es)
    → at < start + from → Writes fid bytes at at es
behind fid start most len bytes at from to [] asked after = refl
behind fid start most len bytes at from to (e ∷ es) asked after =
    inr (
      record {
        offset = start + from;
        size = part_size most len from;
        request_is = asked.0;
        behind = after;
      },
      behind fid start most len bytes at (from + part_size most len from) to es asked.2
          (omega arith),
    )

-- writes of parts write what their answers say
writes-on : (fid start most len : ℕ) (bytes : List ℕ) (from to total end : ℕ) (es : List Exchange)
    → AskInTurn (write_part fid start most len bytes) (part_size most len) from to (requests_of es)
    → TakeParts (part_size most len) from (answers_of es) total → end ≡ start + from + total
    → Writes fid bytes (start + from) end es
writes-on fid start most len bytes from to total end [] asked taken end_is =
    omega (arith, taken, end_is)
writes-on fid start most len bytes from to total end (e ∷ es) asked taken end_is =
    let count : ℕ = taken.0 in
    let writes = λ (within : count ≤ part_size most len from).
    let at : WritesAt fid (start + from) count bytes e =
    record {
      size = part_size most len from;
      request_is = asked.0;
      reply_is = taken.1;
      within = within;
    } in
    at in
    elim taken.2 [
      | inl full ↦
          let next : start + (from + part_size most len from) ≡ start + from + count =
          omega (arith, full.0) in
          inl (
            count,
            writes (omega (arith, full.0)),
            subst (λ (t : ℕ). Writes fid bytes t end es) next
                (writes-on fid start most len bytes (from + part_size most len from) to full.1.0 end es
                asked.2 full.1.2 (omega (arith, full.0, full.1.1, end_is))),
          )
      | inr short ↦
          let here : start + from + count ≡ end = omega (arith, short.1, end_is) in
          inl (
            count,
            writes (omega (arith, short.0)),
            subst (λ (t : ℕ). Writes fid bytes (start + from + count) t es) here
                (behind fid start most len bytes (start + from + count)
                (from + part_size most len from) to es asked.2 (omega (arith, short.0))),
          )
    ]

-- what further writes write
writes-both : (fid : ℕ) (bytes : List ℕ) (from mid to : ℕ) (xs ys : List Exchange)
    → Writes fid bytes from mid xs → Writes fid bytes mid to ys → Writes fid bytes from to (xs ++ ys)
writes-both fid bytes from mid to [] ys first more =
    subst (λ (t : ℕ). Writes fid bytes t to ys) (sym first) more
writes-both fid bytes from mid to (x ∷ xs) ys first more =
    elim first [
      | inl h ↦ inl (h.0, h.1, writes-both fid bytes (from + h.0) mid to xs ys h.2 more)
      | inr h ↦ inr (h.0, writes-both fid bytes from mid to xs ys h.1 more)
    ]

-- the answers to so many writes of parts are found, from a first tag on, and say that all of them were
-- written
pub record HasTakenWrites (arrived : List (List ℕ)) (most len first tag count total : ℕ)
    : Type 0 where
  pub answers : List Answer
  pub tag_is : tag ≡ tag_past first answers
  pub found : Finds arrived first count answers
  pub taken : TakeAll (part_size most len) 0 total answers total

pub no-writes-taken : (arrived : List (List ℕ)) (most len first : ℕ)
    → HasTakenWrites arrived most len first first 0 0
no-writes-taken arrived most len first =
    record {
      answers = [];
      tag_is = refl;
      found = finds-none arrived first;
      taken = (refl, refl);
    }

-- a further part was written whole
pub write-taken : (arrived : List (List ℕ)) (most len first tag count total part : ℕ)
    → HasTakenWrites arrived most len first tag count total → FindsReply arrived tag (Rwrite part)
    → part ≡ part_size most len total
    → HasTakenWrites arrived most len first (next_tag tag) (count + 1) (total + part)
write-taken arrived most len first tag count total part before next whole =
    let last : Answer = record { frame = next.frame; reply = Rwrite part } in
    record {
      answers = before.answers ++ last ∷ [];
      tag_is = next-tag_past first tag before.answers last before.tag_is;
      found = finds-both arrived first tag count 1 (count + 1) before.answers (last ∷ []) before.found
          before.tag_is (finds-one arrived tag (Rwrite part) next) refl;
      taken = subst (λ (t : ℕ). TakeAll (part_size most len) 0 t (before.answers ++ last ∷ [])
          (total + part)) (ap (λ (n : ℕ). total + n) (sym whole))
          (taken-more (part_size most len) 0 total before.answers total last part (total + part)
          before.taken refl whole refl);
    }

-- none was short
pub writes-taken : (arrived : List (List ℕ)) (most len first tag count total : ℕ)
    → HasTakenWrites arrived most len first tag count total → count ≡ length arrived
    → TakesWrites arrived first most len total
writes-taken arrived most len first tag count total taken all = (
  taken.answers,
  subst (λ (n : ℕ). Finds arrived first n taken.answers) all taken.found,
  taken-all (part_size most len) 0 total taken.answers total taken.taken,
)

-- the next one was, and what those after it say was dropped
pub short-write-taken : (arrived : List (List ℕ)) (most len first tag count total part left : ℕ)
    → HasTakenWrites arrived most len first tag count total → FindsReply arrived tag (Rwrite part)
    → part < part_size most len total → FindsReplies arrived (next_tag tag) left
    → count + 1 + left ≡ length arrived → TakesWrites arrived first most len (total + part)
short-write-taken arrived most len first tag count total part left before next short drops all =
    let last : Answer = record { frame = next.frame; reply = Rwrite part } in
    let others : List Answer = drops.0 in (
      before.answers ++ last ∷ others,
      finds-both arrived first tag count (1 + left) (length arrived) before.answers (last ∷ others)
          before.found before.tag_is
          (finds-both arrived tag (next_tag tag) 1 left (1 + left) (last ∷ []) others
          (finds-one arrived tag (Rwrite part) next) refl drops.1 refl) (omega (arith, all)),
      taken-short (part_size most len) 0 total before.answers total last others part (total + part)
          before.taken refl short refl,
    )

module _ {S : Type 0} (remaining contents : S → Option (List ℕ)) where
  -- writes of parts were sent, and their answers taken
  pub write-ahead : (fid start most len to total : ℕ) (bytes : List ℕ) (requests : List TMessage)
      (arrived : List (List ℕ)) (answers : List Answer) (old mid new : Talk S)
      → Sent remaining contents requests old mid
      → AskInTurn (write_part fid start most len bytes) (part_size most len) 0 to requests
      → Arrives remaining contents arrived mid new
      → Finds arrived old.tag (length arrived) answers
      → TakeParts (part_size most len) 0 answers total → length requests ≡ length answers
      → length arrived ≤ ahead_max
      → WritesOn remaining contents fid bytes start (start + total) old new
  write-ahead fid start most len to total bytes requests arrived answers old mid new sent asked
      arrives found taken same few =
      let both = paired requests answers same in
      let at : start + 0 ≡ start = omega arith in
      record {
        exchanges = both.exchanges;
        exchanged = exchanged remaining contents both.exchanges arrived old mid new
            (subst (λ (rs : List TMessage). Sent remaining contents rs old mid) (sym both.asked) sent)
            arrives
            (subst (λ (xs : List Answer). Finds arrived old.tag (length arrived) xs)
            (sym both.answered) found) few;
        written = subst (λ (t : ℕ). Writes fid bytes t (start + total) both.exchanges) at
            (writes-on fid start most len bytes 0 to total (start + total) both.exchanges
            (subst (AskInTurn (write_part fid start most len bytes) (part_size most len) 0 to)
            (sym both.asked) asked)
            (subst (λ (xs : List Answer). TakeParts (part_size most len) 0 xs total)
            (sym both.answered) taken) (omega arith));
      }

  pub nothing-written : (fid : ℕ) (bytes : List ℕ) (at : ℕ) (s : Talk S)
      → WritesOn remaining contents fid bytes at at s s
  nothing-written fid bytes at s =
      record {
        exchanges = [];
        exchanged = nothing-exchanged remaining contents s;
        written = refl;
      }

  -- more was written
  pub more-written : (fid : ℕ) (bytes : List ℕ) (from mid to : ℕ) (s t u : Talk S)
      → WritesOn remaining contents fid bytes from mid s t
      → WritesOn remaining contents fid bytes mid to t u
      → WritesOn remaining contents fid bytes from to s u
  more-written fid bytes from mid to s t u first more =
      record {
        exchanges = first.exchanges ++ more.exchanges;
        exchanged = exchanges-both remaining contents first.exchanges more.exchanges s t u
            first.exchanged more.exchanged;
        written = writes-both fid bytes from mid to first.exchanges more.exchanges first.written
            more.written;
      }

  -- writes of parts were sent, and what they came to was taken
  pub write-ahead-ok : (fid start len count tag most total : ℕ) (bytes : List ℕ)
      (arrived : List (List ℕ)) (old mid new : Talk S) → 0 < len
      → SendsWrites remaining contents fid start len bytes old mid count
      → (0 < len → 0 < count × (mid.failed ≡ false)) → count ≤ ahead_max → tag ≡ old.tag
      → ArrivesAll remaining contents count mid new arrived → most ≡ new.msize - 24
      → (total ≤ len) × TakesWrites arrived tag most len total
      → (total ≤ len) × (new.failed ≡ false) × (new.msize ≡ old.msize)
      × WritesOn remaining contents fid bytes start (start + total) old new
  write-ahead-ok fid start len count tag most total bytes arrived old mid new some sends alive few
      tag_is arrives most_is ok =
      let takes = ok.1 in
      let msize : new.msize ≡ old.msize = arrives.1.msize_is ∙ sends.2.msize_is in
      let most' : most ≡ old.msize - 24 = most_is ∙ ap (λ (m : ℕ). m - 24) msize in (
        ok.0,
        arrives.1.goes_on ∙ (alive some).1,
        msize,
        write-ahead fid start (old.msize - 24) len sends.3.0 total bytes sends.0 arrived takes.0 old mid
            new sends.2 sends.3.1 arrives.1
            (subst (λ (t : ℕ). Finds arrived t (length arrived) takes.0) tag_is takes.1)
            (subst (λ (m : ℕ). TakeParts (part_size m len) 0 takes.0 total) most' takes.2)
            (omega (arith, sends.1, arrives.0, takes.1.long)) (omega (arith, arrives.0, few)),
      )
