-- Requests that are written and answers that are read, one after another.
use Rattle.std.proofs.Common.{◌≡◌, ℕ, ◌+◌, ◌<◌, ◌≤◌, ◌∙◌, List, [], ◌∷◌, ◌++◌, None, Option, Some, ap}
use Rattle.std.proofs.Common.{append-nil, append_assoc, arith, length, length-append, map, refl, subst, sym}
use Rattle.std.proofs.KnownBytes.{Appends-kept, Appends-nil, Appends-trans, Consumes-nil, Consumes-trans, Keeps-trans}
use Rattle.std.proofs.lemmas.List.{map-append}
use Rattle.std.proofs.lemmas.List.Concat.{flat_map-append}
use Rattle.std.proofs.lemmas.List.Folds.{concat-append}
use Rattle.std.specs.Io.KnownBytes.{Appends, Consumes, Keeps}
use Rattle.p9_wire.specs.Message.{RMessage, TMessage}
use Rattle.p9_wire.specs.Spelling.{t_spelling}
use Rattle.std.proofs.lemmas.List.Elements.{All-append, All-cons, All-nil, All-push}
use Rattle.std.specs.List.{Contains, concat, flat_map}
use Rattle.p9_client.specs.Ahead.{Answer, AreAnswers, Arrives, AskInTurn, Exchange, Exchanges, Finds, FindsReply, IsRound, Round}
use Rattle.p9_client.specs.Ahead.{Sent, ahead_max, answers_of, requests_of, spelled_from, tag_past}
use Rattle.p9_client.specs.Frame.{HasSize}
use Rattle.p9_client.specs.Reply.{IsReply}
use Rattle.p9_client.specs.Session.{Receives, Sends, Talk, next_tag}

tag_past-append : {T : Type 0} (tag : ℕ) (xs ys : List T)
    → tag_past tag (xs ++ ys) ≡ tag_past (tag_past tag xs) ys
tag_past-append tag [] ys = refl
tag_past-append tag (x ∷ xs) ys = tag_past-append (next_tag tag) xs ys

tag_past-map : {T U : Type 0} (f : T → U) (tag : ℕ) (xs : List T)
    → tag_past tag (map f xs) ≡ tag_past tag xs
tag_past-map f tag [] = refl
tag_past-map f tag (x ∷ xs) = tag_past-map f (next_tag tag) xs

-- a further tag
pub next-tag_past : {T : Type 0} (tag now : ℕ) (xs : List T) (x : T) → now ≡ tag_past tag xs
    → next_tag now ≡ tag_past tag (xs ++ x ∷ [])
next-tag_past tag now xs x is = ap next_tag is ∙ sym (tag_past-append tag xs (x ∷ []))

spelled-append : (tag : ℕ) (xs ys : List TMessage)
    → spelled_from tag (xs ++ ys) ≡ spelled_from tag xs ++ spelled_from (tag_past tag xs) ys
spelled-append tag [] ys = refl
spelled-append tag (x ∷ xs) ys =
    ap (λ (zs : List ℕ). t_spelling tag x ++ zs) (spelled-append (next_tag tag) xs ys)
    ∙ sym (append_assoc (t_spelling tag x) (spelled_from (next_tag tag) xs)
    (spelled_from (tag_past (next_tag tag) xs) ys))

answers-append : (tag : ℕ) (xs ys : List Answer) → AreAnswers tag xs
    → AreAnswers (tag_past tag xs) ys → AreAnswers tag (xs ++ ys)
answers-append tag [] ys first more = more
answers-append tag (x ∷ xs) ys first more =
    (first.0, answers-append (next_tag tag) xs ys first.1 more)

-- a further request is for the next part
pub asked-more : (request : ℕ → TMessage) (size : ℕ → ℕ) (from to : ℕ) (rs : List TMessage)
    (next : TMessage) → AskInTurn request size from to rs → next ≡ request to → 0 < size to
    → AskInTurn request size from (to + size to) (rs ++ next ∷ [])
asked-more request size from to [] next asked is some = (
  is ∙ ap request (sym asked),
  subst (λ (t : ℕ). 0 < size t) (sym asked) some,
  ap (λ (t : ℕ). t + size t) asked,
)
asked-more request size from to (r ∷ rs) next asked is some =
    (asked.0, asked.1, asked-more request size (from + size from) to rs next asked.2 is some)

-- as many answers as requests
pub record Paired (requests : List TMessage) (answers : List Answer) : Type 0 where
  pub exchanges : List Exchange
  pub asked : requests_of exchanges ≡ requests
  pub answered : answers_of exchanges ≡ answers

pub paired : (requests : List TMessage) (answers : List Answer) → length requests ≡ length answers
    → Paired requests answers
paired [] [] same = record { exchanges = []; asked = refl; answered = refl }
paired [] (a ∷ answers) same = absurd (omega arith)
paired (r ∷ requests) [] same = absurd (omega arith)
paired (r ∷ requests) (a ∷ answers) same =
    let others = paired requests answers (omega arith) in
    record {
      exchanges = (record { request = r; answer = a }) ∷ others.exchanges;
      asked = ap (λ (zs : List TMessage). r ∷ zs) others.asked;
      answered = ap (λ (zs : List Answer). a ∷ zs) others.answered;
    }

-- what was read after nothing was
pub kept-Consumes : (a b c : Option (List ℕ)) (bs : List ℕ) → Keeps a b → Consumes b c bs
    → Consumes a c bs
kept-Consumes None b c bs kept read = tt
kept-Consumes (Some x) None c bs kept read = absurd kept
kept-Consumes (Some x) (Some y) None bs kept read = absurd read
kept-Consumes (Some x) (Some y) (Some z) bs kept read = sym kept ∙ read

-- a frame is the reply
pub found-reply : (arrived : List (List ℕ)) (tag : ℕ) (frame : List ℕ) (m reply : RMessage)
    → Contains arrived frame → HasSize frame → IsReply frame tag m → m ≡ reply
    → FindsReply arrived tag reply
found-reply arrived tag frame m reply is_there size is same =
    record {
      frame = frame;
      is_there = is_there;
      is = record { size = size; is = subst (IsReply frame tag) same is };
    }

-- no answers are found
pub finds-none : (arrived : List (List ℕ)) (tag : ℕ) → Finds arrived tag 0 []
finds-none arrived tag =
    record {
      long = refl;
      answered = tt;
      among = All-nil (λ (a : Answer). Contains arrived a.frame);
    }

-- further ones are
pub finds-both : (arrived : List (List ℕ)) (tag next first more count : ℕ) (xs ys : List Answer)
    → Finds arrived tag first xs → next ≡ tag_past tag xs → Finds arrived next more ys
    → first + more ≡ count → Finds arrived tag count (xs ++ ys)
finds-both arrived tag next first more count xs ys front next_is back count_is =
    record {
      long = omega (arith, length-append xs ys, front.long, back.long, count_is);
      answered = answers-append tag xs ys front.answered
          (subst (λ (t : ℕ). AreAnswers t ys) next_is back.answered);
      among = All-append (λ (a : Answer). Contains arrived a.frame) xs ys front.among back.among;
    }

-- one is
pub finds-one : (arrived : List (List ℕ)) (tag : ℕ) (reply : RMessage)
    → (found : FindsReply arrived tag reply)
    → Finds arrived tag 1 ((record { frame = found.frame; reply = reply }) ∷ [])
finds-one arrived tag reply found =
    record {
      long = refl;
      answered = (found.is, tt);
      among = All-cons (λ (a : Answer). Contains arrived a.frame)
          (record { frame = found.frame; reply = reply }) [] found.is_there
          (All-nil (λ (a : Answer). Contains arrived a.frame));
    }

module _ {S : Type 0} (remaining contents : S → Option (List ℕ)) where
  -- a further request was written
  pub sent-more : (requests : List TMessage) (request : TMessage) (tag : ℕ) (old mid new : Talk S)
      → Sent remaining contents requests old mid
      → Sends remaining contents request tag mid new → tag ≡ mid.tag
      → Sent remaining contents (requests ++ request ∷ []) old new
  sent-more requests request tag old mid new sent more tag_is =
      let spelled : t_spelling tag request ≡ spelled_from (tag_past old.tag requests) (request ∷ []) =
      ap (λ (t : ℕ). t_spelling t request) (tag_is ∙ sent.tag_is)
      ∙ sym (append-nil (t_spelling (tag_past old.tag requests) request)) in
      let both : spelled_from old.tag requests ++ t_spelling tag request
      ≡ spelled_from old.tag (requests ++ request ∷ []) =
      ap (λ (zs : List ℕ). spelled_from old.tag requests ++ zs) spelled
      ∙ sym (spelled-append old.tag requests (request ∷ [])) in
      record {
        written = subst (λ (bs : List ℕ). Appends (contents old.stream) (contents new.stream) bs) both
            (Appends-trans _ _ _ _ _ sent.written more.written);
        unread = Keeps-trans _ _ _ sent.unread more.unread;
        tag_is = more.tag_is ∙ next-tag_past old.tag mid.tag requests request sent.tag_is;
        msize_is = more.msize_is ∙ sent.msize_is;
        goes_on = more.goes_on ∙ sym more.alive ∙ sent.goes_on;
      }

  -- requests were written, and then their answers were read
  pub exchanged : (exchanges : List Exchange) (arrived : List (List ℕ)) (old mid new : Talk S)
      → Sent remaining contents (requests_of exchanges) old mid
      → Arrives remaining contents arrived mid new
      → Finds arrived old.tag (length arrived) (answers_of exchanges) → length arrived ≤ ahead_max
      → Exchanges remaining contents exchanges old new
  exchanged exchanges arrived old mid new sent arrives found few =
      let round : Round = record { arrived = arrived; answers = answers_of exchanges } in
      let is : IsRound round =
      record {
        few = omega (arith, found.long, few);
        sizes = arrives.sizes;
        as_many = sym found.long;
        among = found.among;
      } in
      record {
        written = Appends-kept _ _ _ _ sent.written arrives.unwritten;
        rounds = round ∷ [];
        each = All-cons IsRound round [] is (All-nil IsRound);
        in_rounds = append-nil (answers_of exchanges);
        read = subst (λ (bs : List ℕ). Consumes (remaining old.stream) (remaining new.stream) bs)
            (sym (append-nil (concat arrived)))
            (kept-Consumes _ _ _ _ sent.unread arrives.read);
        answered = found.answered;
        tag_is = arrives.tag_is ∙ sent.tag_is
            ∙ tag_past-map (λ (e : Exchange). e.request) old.tag exchanges;
        msize_is = arrives.msize_is ∙ sent.msize_is;
        goes_on = arrives.goes_on ∙ sent.goes_on;
      }

  pub nothing-exchanged : (s : Talk S) → Exchanges remaining contents [] s s
  nothing-exchanged s =
      record {
        written = Appends-nil (contents s.stream);
        rounds = [];
        each = All-nil IsRound;
        in_rounds = refl;
        read = Consumes-nil (remaining s.stream);
        answered = tt;
        tag_is = refl;
        msize_is = refl;
        goes_on = refl;
      }

  -- further exchanges
  pub exchanges-both : (xs ys : List Exchange) (old mid new : Talk S)
      → Exchanges remaining contents xs old mid → Exchanges remaining contents ys mid new
      → Exchanges remaining contents (xs ++ ys) old new
  exchanges-both xs ys old mid new first more =
      let tag_is : mid.tag ≡ tag_past old.tag (requests_of xs) =
      first.tag_is ∙ sym (tag_past-map (λ (e : Exchange). e.request) old.tag xs) in
      let tag_is' : mid.tag ≡ tag_past old.tag (answers_of xs) =
      first.tag_is ∙ sym (tag_past-map (λ (e : Exchange). e.answer) old.tag xs) in
      let requests : requests_of (xs ++ ys) ≡ requests_of xs ++ requests_of ys =
      map-append (λ (e : Exchange). e.request) xs ys in
      let answers : answers_of (xs ++ ys) ≡ answers_of xs ++ answers_of ys =
      map-append (λ (e : Exchange). e.answer) xs ys in
      let spelled : spelled_from old.tag (requests_of xs) ++ spelled_from mid.tag (requests_of ys)
      ≡ spelled_from old.tag (requests_of (xs ++ ys)) =
      ap (λ (t : ℕ). spelled_from old.tag (requests_of xs) ++ spelled_from t (requests_of ys)) tag_is
      ∙ sym (spelled-append old.tag (requests_of xs) (requests_of ys))
      ∙ ap (spelled_from old.tag) (sym requests) in
      let in_rounds : flat_map (λ (r : Round). r.answers) (first.rounds ++ more.rounds)
      ≡ answers_of xs ++ answers_of ys =
      flat_map-append (λ (r : Round). r.answers) first.rounds more.rounds
      ∙ ap (λ (zs : List Answer). zs ++ flat_map (λ (r : Round). r.answers) more.rounds)
      first.in_rounds
      ∙ ap (λ (zs : List Answer). answers_of xs ++ zs) more.in_rounds in
      record {
        written = subst (λ (bs : List ℕ). Appends (contents old.stream) (contents new.stream) bs)
            spelled (Appends-trans _ _ _ _ _ first.written more.written);
        rounds = first.rounds ++ more.rounds;
        each = All-append IsRound first.rounds more.rounds first.each more.each;
        in_rounds = in_rounds ∙ sym answers;
        read = subst (λ (bs : List ℕ). Consumes (remaining old.stream) (remaining new.stream) bs)
            (sym (flat_map-append (λ (r : Round). concat r.arrived) first.rounds more.rounds))
            (Consumes-trans _ _ _ _ _ first.read more.read);
        answered = subst (AreAnswers old.tag) (sym answers)
            (answers-append old.tag (answers_of xs) (answers_of ys) first.answered
            (subst (λ (t : ℕ). AreAnswers t (answers_of ys)) tag_is' more.answered));
        tag_is = more.tag_is ∙ ap (λ (t : ℕ). tag_past t ys) first.tag_is
            ∙ sym (tag_past-append old.tag xs ys);
        msize_is = more.msize_is ∙ first.msize_is;
        goes_on = more.goes_on ∙ first.goes_on;
      }

  -- so many requests for parts were written, up to a place
  pub record HasSent (request : ℕ → TMessage) (size : ℕ → ℕ) (count at : ℕ) (old new : Talk S)
      : Type 0 where
    pub requests : List TMessage
    pub long : length requests ≡ count
    pub sent : Sent remaining contents requests old new
    pub asked : AskInTurn request size 0 at requests

  -- the request for the next part was written
  pub next-sent : (request : ℕ → TMessage) (size : ℕ → ℕ) (count at tag : ℕ) (next : TMessage)
      (old mid new : Talk S) → HasSent request size count at old mid
      → Sends remaining contents next tag mid new → tag ≡ mid.tag → next ≡ request at → 0 < size at
      → HasSent request size (count + 1) (at + size at) old new
  next-sent request size count at tag next old mid new before sends tag_is is some =
      record {
        requests = before.requests ++ next ∷ [];
        long = omega (arith, before.long, length-append before.requests (next ∷ []));
        sent = sent-more before.requests next tag old mid new before.sent sends tag_is;
        asked = asked-more request size 0 at before.requests next before.asked is some;
      }

  -- a further frame was read
  pub next-arrived : (arrived : List (List ℕ)) (old mid new : Talk S)
      → Arrives remaining contents arrived old mid → Receives remaining contents mid new
      → Arrives remaining contents (arrived ++ new.reply ∷ []) old new
  next-arrived arrived old mid new before received =
      let bytes : concat arrived ++ new.reply ≡ concat (arrived ++ new.reply ∷ []) =
      ap (λ (zs : List ℕ). concat arrived ++ zs) (sym (append-nil new.reply))
      ∙ sym (concat-append arrived (new.reply ∷ [])) in
      record {
        read = subst (λ (bs : List ℕ). Consumes (remaining old.stream) (remaining new.stream) bs) bytes
            (Consumes-trans _ _ _ _ _ before.read received.read);
        sizes = All-push HasSize arrived new.reply before.sizes received.size;
        unwritten = Keeps-trans _ _ _ before.unwritten received.unwritten;
        tag_is = received.tag_is ∙ before.tag_is;
        msize_is = received.msize_is ∙ before.msize_is;
        goes_on = received.goes_on ∙ before.goes_on;
      }

-- so many answers are found from a first tag on, up to another tag
pub record HasFound (arrived : List (List ℕ)) (first tag count : ℕ) : Type 0 where
  pub answers : List Answer
  pub tag_is : tag ≡ tag_past first answers
  pub found : Finds arrived first count answers

pub none-found : (arrived : List (List ℕ)) (first : ℕ) → HasFound arrived first first 0
none-found arrived first =
    record { answers = []; tag_is = refl; found = finds-none arrived first }

-- the next answer is
pub next-found : (arrived : List (List ℕ)) (first tag count : ℕ) (reply : RMessage)
    → HasFound arrived first tag count → FindsReply arrived tag reply
    → HasFound arrived first (next_tag tag) (count + 1)
next-found arrived first tag count reply before next =
    let last : Answer = record { frame = next.frame; reply = reply } in
    record {
      answers = before.answers ++ last ∷ [];
      tag_is = next-tag_past first tag before.answers last before.tag_is;
      found = finds-both arrived first tag count 1 (count + 1) before.answers (last ∷ []) before.found
          before.tag_is (finds-one arrived tag reply next) refl;
    }
