-- A file that is read over a stream on which the exporter's replies come back.
use Rattle.std.proofs.Common.{◌≡◌, ◌∙◌, ℕ, ◌+◌, ◌-◌, ◌<◌, ◌≤◌, ◌^◌, List, [], ◌∷◌, ◌++◌, None, Option, Some, ap}
use Rattle.std.proofs.Common.{append_assoc, arith, drop, drop-drop, inl, inr, length, length-append, min, refl, subst, sym}
use Rattle.std.proofs.Common.{Bool, Err, Ok, false, take, take-take, true}
use Rattle.std.proofs.lemmas.Bool.Decides.{nat_tests}
use Rattle.std.specs.Prelude.{if◌then◌else◌, nat_lt}
use Rattle.std.proofs.Math.Seq.{take-add, take-length}
use Rattle.std.proofs.lemmas.List.{length-drop, length-map, length-take, take_all}
use Rattle.std.specs.Io.KnownBytes.{Consumes}
use Rattle.std.proofs.lemmas.List.Elements.{recursion_from_All}
use Rattle.std.specs.List.{AllByRecursion, flat_map}
use Rattle.std.specs.Option.{option_map_or}
use Rattle.p9_wire.specs.Message.{RMessage, Rflush, Rread, TMessage, Tread}
use Rattle.p9_wire.specs.Reading.{r_message_of}
use Rattle.p9_wire.specs.Reply.{r_spelling}
use Rattle.p9_wire.specs.Spelling.{TNumbersFit}
use Rattle.p9_step.specs.State.{State}
use Rattle.p9_client.specs.Ahead.{Answer, AreAnswers, Exchange, IsAnswer, IsRound, Round, answers_of, arrived_in, frames}
use Rattle.p9_client.specs.Ahead.{requests_of}
use Rattle.p9_client.specs.Files.{Reads, ReadsFile}
use Rattle.p9_client.specs.Session.{Talk, next_tag}
use Rattle.p9_client_laws.specs.Reading.{FileIsReadWhole, ReadGivesBytes}
use Rattle.p9_client_laws.specs.Served.{HasFile, IsMsize, replies_from, request_step}
use Rattle.p9_client_laws.proofs.Came.{came, next-fits}
use Rattle.p9_client_laws.proofs.Rounds.{reads-ask, rounds-in-order}
use Rattle.p9_client_laws.proofs.Steps.{bytes_of}

-- what is read first of what is left
left-of : (a b : Option (List ℕ)) (xs bs : List ℕ) → a ≡ Some xs → Consumes a b bs
    → (ys : List ℕ) × (xs ≡ bs ++ ys)
left-of None b xs bs is read = absurd (cc)
left-of (Some zs) None xs bs is read = absurd read
left-of (Some zs) (Some ys) xs bs is read = let same : xs ≡ zs = cc in (ys, same ∙ read)

-- a read of a file was answered, and what is behind the answer is left
record IsServed (state : State) (name msize fid : ℕ) (bytes : List ℕ) (tag clock offset count : ℕ)
    (request : TMessage) (answer : Answer) (more ys : List ℕ) : Type 0 where
  reply_is : answer.reply ≡ Rread (bytes_of msize offset count bytes)
  behind : more ≡ ys
  file : HasFile (request_step state name tag clock request).state name msize fid bytes

-- the reply of the exporter is the answer
served : (state : State) (name msize fid : ℕ) (bytes : List ℕ) (tag clock offset count : ℕ)
    (request : TMessage) (answer : Answer) (more ys : List ℕ) → HasFile state name msize fid bytes
    → IsMsize msize → tag < 2 ^ 16 → TNumbersFit request → request ≡ Tread fid offset count
    → IsAnswer tag answer
    → (request_step state name tag clock request).reply ++ more ≡ answer.frame ++ ys
    → IsServed state name msize fid bytes tag clock offset count request answer more ys
served state name msize fid bytes tag clock offset count request answer more ys file room tag_fits
    numbers is answered left =
    let given : List ℕ = bytes_of msize offset count bytes in
    let one = came state name msize fid bytes tag clock offset count request answer.frame more ys file
    room tag_fits numbers is answered.size left in
    let both : Some (tag, answer.reply) ≡ Some (tag, Rread given) = sym answered.is ∙ one.is in
    record {
      reply_is = ap (λ (o : Option (ℕ × RMessage)). option_map_or (λ x. x.1) o Rflush) both;
      behind = one.behind;
      file = one.file;
    }

-- the first bytes of others are as many of them
front-of : (k : ℕ) (zs : List ℕ) → take (length (take k zs)) zs ≡ take k zs
front-of k zs =
    sym (take-take (length (take k zs)) k zs (omega (arith, length-take k zs)))
    ∙ take-length (take k zs)

-- bytes from a place on, and those behind them
joined : (from : ℕ) (bytes piece rest given : List ℕ) (k : ℕ) → piece ≡ take k (drop from bytes)
    → rest ≡ take (length rest) (drop (from + length piece) bytes) → given ≡ piece ++ rest
    → given ≡ take (length given) (drop from bytes)
joined from bytes piece rest given k piece_is rest_is given_is =
    let long : length given ≡ length piece + length rest =
    ap length given_is ∙ length-append piece rest in
    let front : piece ≡ take (length piece) (drop from bytes) =
    piece_is ∙ sym (front-of k (drop from bytes))
    ∙ ap (λ (zs : List ℕ). take (length zs) (drop from bytes)) (sym piece_is) in
    let back : rest ≡ take (length rest) (drop (length piece) (drop from bytes)) =
    rest_is ∙ ap (take (length rest)) (sym (drop-drop (length piece) from bytes)) in
    given_is ∙ ap (λ (zs : List ℕ). zs ++ rest) front
    ∙ ap (λ (zs : List ℕ). take (length piece) (drop from bytes) ++ zs) back
    ∙ sym (take-add (length piece) (length rest) (drop from bytes))
    ∙ ap (λ (n : ℕ). take n (drop from bytes)) (sym long)

-- what is left after reads that gave bytes from a place on
record Remains (name msize fid : ℕ) (clock : ℕ → ℕ) (from : ℕ) (bytes given : List ℕ)
    (tail : List Exchange) (rest ys : List ℕ) : Type 0 where
  state : State
  tag : ℕ
  at : ℕ
  file : HasFile state name msize fid bytes
  tag_fits : tag < 2 ^ 16
  numbers : AllByRecursion TNumbersFit (requests_of tail)
  answered : AreAnswers tag (answers_of tail)
  left : replies_from state name tag clock at (requests_of tail) ++ rest
      ≡ frames (answers_of tail) ++ ys
  given_is : given ≡ take (length given) (drop from bytes)

remains : (es tail : List Exchange) (state : State) (name msize fid tag at from : ℕ) (clock : ℕ → ℕ)
    (bytes given rest ys : List ℕ) → IsMsize msize → HasFile state name msize fid bytes
    → tag < 2 ^ 16 → AllByRecursion TNumbersFit (requests_of (es ++ tail))
    → AreAnswers tag (answers_of (es ++ tail)) → Reads fid from es given
    → replies_from state name tag clock at (requests_of (es ++ tail)) ++ rest
    ≡ frames (answers_of (es ++ tail)) ++ ys
    → Remains name msize fid clock from bytes given tail rest ys
remains [] tail state name msize fid tag at from clock bytes given rest ys room file tag_fits numbers
    answered reads left =
    record {
      state = state;
      tag = tag;
      at = at;
      file = file;
      tag_fits = tag_fits;
      numbers = numbers;
      answered = answered;
      left = left;
      given_is = reads
          ∙ sym (ap (λ (zs : List ℕ). take (length zs) (drop from bytes)) reads);
    }
remains (e ∷ es) tail state name msize fid tag at from clock bytes given rest ys room file tag_fits
    numbers answered reads left =
    let step = request_step state name tag (clock at) e.request in
    let others : List ℕ =
    replies_from step.state name (next_tag tag) clock (at + 1) (requests_of (es ++ tail)) in
    let split : step.reply ++ (others ++ rest)
    ≡ e.answer.frame ++ (frames (answers_of (es ++ tail)) ++ ys) =
    sym (append_assoc step.reply others rest) ∙ left
    ∙ append_assoc e.answer.frame (frames (answers_of (es ++ tail))) ys in
    elim reads [
      | inl h ↦
          let one = served state name msize fid bytes tag (clock at) from h.2.size e.request e.answer
          (others ++ rest) (frames (answers_of (es ++ tail)) ++ ys) file room tag_fits numbers.0
          h.2.request_is answered.0 split in
          let both : Rread h.0 ≡ Rread (bytes_of msize from h.2.size bytes) =
          sym h.2.reply_is ∙ one.reply_is in
          let piece : h.0 ≡ bytes_of msize from h.2.size bytes = cc in
          let later = remains es tail step.state name msize fid (next_tag tag) (at + 1)
          (from + length h.0) clock bytes h.1 rest ys room one.file (next-fits tag tag_fits)
          numbers.1 answered.1 h.4 one.behind in
          record {
            state = later.state;
            tag = later.tag;
            at = later.at;
            file = later.file;
            tag_fits = later.tag_fits;
            numbers = later.numbers;
            answered = later.answered;
            left = later.left;
            given_is = joined from bytes h.0 h.1 given (min h.2.size (msize - 24)) piece
                later.given_is h.3;
          }
      | inr h ↦
          let one = served state name msize fid bytes tag (clock at) h.0.offset h.0.size e.request
          e.answer (others ++ rest) (frames (answers_of (es ++ tail)) ++ ys) file room tag_fits
          numbers.0 h.0.request_is answered.0 split in
          remains es tail step.state name msize fid (next_tag tag) (at + 1) from clock bytes given rest
          ys room one.file (next-fits tag tag_fits) numbers.1 answered.1 h.1 one.behind
    ]

module _ {S : Type 0} (remaining contents : S → Option (List ℕ)) where
  pub read_gives_bytes : ReadGivesBytes remaining contents
  read_gives_bytes state name msize fid offset most clock bytes rest before after old new (Ok count)
      file numbers tag_fits room short left gets =
      let m : RMessage = gets.answer.0 in
      let answer : Answer = record { frame = new.reply; reply = m } in
      let front = left-of (remaining old.stream) (remaining new.stream) _ new.reply left
      gets.asked.read in
      let one = served state name msize fid bytes old.tag clock offset most (Tread fid offset most)
      answer rest front.0 file room tag_fits numbers refl
      (record { size = gets.asked.size; is = gets.answer.1 }) front.1 in
      let both : Rread (take count after) ≡ Rread (bytes_of msize offset most bytes) =
      sym gets.answer.2.is ∙ one.reply_is in
      let given : take count after ≡ bytes_of msize offset most bytes = cc in
      let whole : min most (msize - 24) ≡ most = omega (arith, short) in
      given ∙ ap (λ (n : ℕ). take n (drop offset bytes)) whole
  read_gives_bytes state name msize fid offset most clock bytes rest before after old new (Err error)
      file numbers tag_fits room short left none =
      tt

  pub file_is_read_whole : FileIsReadWhole remaining contents
  file_is_read_whole state name msize fid clock bytes read rest old new file tag_fits room whole
      numbers left =
      let tail : List Exchange = whole.last ∷ whole.dropped in
      let front = left-of (remaining old.stream) (remaining new.stream) _ _ left
      whole.exchanged.read in
      let exchanges : List Exchange = whole.exchanges ++ tail in
      let answers : List Answer = flat_map (λ (r : Round). r.answers) whole.exchanged.rounds in
      let in_rounds : answers ≡ answers_of exchanges = whole.exchanged.in_rounds in
      let in_order : arrived_in whole.exchanged.rounds ≡ frames answers =
      rounds-in-order whole.exchanged.rounds (requests_of exchanges) state name msize fid old.tag 0
      clock bytes rest front.0 room file tag_fits
      (recursion_from_All IsRound whole.exchanged.rounds whole.exchanged.each)
      (omega (
        arith,
        ap length in_rounds,
        length-map exchanges (λ (e : Exchange). e.request),
        length-map exchanges (λ (e : Exchange). e.answer),
      )) numbers
      (reads-ask fid 0 (length read) whole.exchanges tail read [] whole.given whole.behind)
      (subst (AreAnswers old.tag) (sym in_rounds) whole.exchanged.answered) front.1 in
      let frames_are : replies_from state name old.tag clock 0 (requests_of exchanges) ++ rest
      ≡ frames (answers_of exchanges) ++ front.0 =
      front.1 ∙ ap (λ (zs : List ℕ). zs ++ front.0) (in_order ∙ ap frames in_rounds) in
      let end = remains whole.exchanges tail state name msize fid old.tag 0 0 clock bytes read rest
      front.0 room file tag_fits numbers whole.exchanged.answered whole.given frames_are in
      let step = request_step end.state name end.tag (clock end.at) whole.last.request in
      let others : List ℕ =
      replies_from step.state name (next_tag end.tag) clock (end.at + 1)
      (requests_of whole.dropped) in
      let split : step.reply ++ (others ++ rest)
      ≡ whole.last.answer.frame ++ (frames (answers_of whole.dropped) ++ front.0) =
      sym (append_assoc step.reply others rest) ∙ end.left
      ∙ append_assoc whole.last.answer.frame (frames (answers_of whole.dropped)) front.0 in
      let last = served end.state name msize fid bytes end.tag (clock end.at) (length read)
      whole.ended.size whole.last.request whole.last.answer (others ++ rest)
      (frames (answers_of whole.dropped) ++ front.0) end.file room end.tag_fits end.numbers.0
      whole.ended.request_is end.answered.0 split in
      let both : Rread [] ≡ Rread (bytes_of msize (length read) whole.ended.size bytes) =
      sym whole.ended.reply_is ∙ last.reply_is in
      let none : [] ≡ bytes_of msize (length read) whole.ended.size bytes = cc in
      let past : length bytes ≤ length read =
      omega (
        arith,
        ap length none,
        length-take (min whole.ended.size (msize - 24)) (drop (length read) bytes),
        length-drop (length read) bytes,
        whole.ended.some,
        room.some,
      ) in
      end.given_is ∙ take_all (length read) bytes past
