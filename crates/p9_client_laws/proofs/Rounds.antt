-- The exporter replies in the order of the requests, so its replies to reads that were sent together are
-- read in this order too.
use Rattle.std.proofs.Common.{◌≡◌, ◌∙◌, ℕ, ◌+◌, ◌<◌, ◌≤◌, ◌^◌, List, [], ◌∷◌, ◌++◌, ap, append_assoc}
use Rattle.std.proofs.Common.{arith, inl, inr, length, length-append, refl, subst, sym}
use Rattle.std.proofs.lemmas.List.Concat.{flat_map-append}
use Rattle.std.proofs.lemmas.List.Elements.{recursion_from_All}
use Rattle.std.specs.List.{AllByRecursion, Contains, concat, flat_map}
use Rattle.p9_wire.specs.Message.{Rread, TMessage, Tread}
use Rattle.p9_wire.specs.Spelling.{TNumbersFit}
use Rattle.p9_step.specs.State.{State}
use Rattle.p9_client.specs.Ahead.{Answer, AreAnswers, Exchange, IsRound, Round, arrived_in, frames, requests_of, tag_past}
use Rattle.p9_client.specs.Files.{Reads}
use Rattle.p9_client.specs.Frame.{HasSize}
use Rattle.p9_client.specs.Session.{next_tag}
use Rattle.p9_client_laws.specs.Served.{HasFile, IsMsize, replies_from, request_step}
use Rattle.p9_client_laws.proofs.Came.{came, next-fits}
use Rattle.p9_client_laws.proofs.Order.{InOrder, same-order}
use Rattle.p9_client_laws.proofs.Steps.{bytes_of}

-- a request is a read of the fid
abbrev pub IsReadOf : (fid : ℕ) → TMessage → Type 0
IsReadOf fid request = (offset : ℕ) × (size : ℕ) × (request ≡ Tread fid offset size)

-- those of reads of a file are
pub reads-ask : (fid at at' : ℕ) (xs ys : List Exchange) (bytes bytes' : List ℕ)
    → Reads fid at xs bytes → Reads fid at' ys bytes'
    → AllByRecursion (IsReadOf fid) (requests_of (xs ++ ys))
reads-ask fid at at' [] [] bytes bytes' first more = tt
reads-ask fid at at' [] (y ∷ ys) bytes bytes' first more =
    elim more [
      | inl h ↦ (
        (at', h.2.size, h.2.request_is),
        reads-ask fid at (at' + length h.0) [] ys bytes h.1 first h.4,
      )
      | inr h ↦ (
        (h.0.offset, h.0.size, h.0.request_is),
        reads-ask fid at at' [] ys bytes bytes' first h.1,
      )
    ]
reads-ask fid at at' (x ∷ xs) ys bytes bytes' first more =
    elim first [
      | inl h ↦ (
        (at, h.2.size, h.2.request_is),
        reads-ask fid (at + length h.0) at' xs ys h.1 bytes' h.4 more,
      )
      | inr h ↦ (
        (h.0.offset, h.0.size, h.0.request_is),
        reads-ask fid at at' xs ys bytes bytes' h.1 more,
      )
    ]

-- what is left after frames that came
record Leaves (name msize fid : ℕ) (clock : ℕ → ℕ) (bytes : List ℕ) (tag : ℕ)
    (fs : List (List ℕ)) (requests : List TMessage) (rest ys : List ℕ) : Type 0 where
  in_order : InOrder tag fs
  others : List TMessage
  long : length fs + length others ≡ length requests
  state : State
  at : ℕ
  file : HasFile state name msize fid bytes
  tag_fits : tag_past tag fs < 2 ^ 16
  numbers : AllByRecursion TNumbersFit others
  reads : AllByRecursion (IsReadOf fid) others
  left : replies_from state name (tag_past tag fs) clock at others ++ rest ≡ ys

-- frames that came are the replies to as many reads
leaves : (fs : List (List ℕ)) (requests : List TMessage) (state : State)
    (name msize fid tag at : ℕ) (clock : ℕ → ℕ) (bytes rest ys : List ℕ) → IsMsize msize
    → HasFile state name msize fid bytes → tag < 2 ^ 16 → length fs ≤ length requests
    → AllByRecursion HasSize fs → AllByRecursion TNumbersFit requests
    → AllByRecursion (IsReadOf fid) requests
    → replies_from state name tag clock at requests ++ rest ≡ concat fs ++ ys
    → Leaves name msize fid clock bytes tag fs requests rest ys
leaves [] requests state name msize fid tag at clock bytes rest ys room file tag_fits enough sizes
    numbers reads left =
    record {
      in_order = tt;
      others = requests;
      long = omega arith;
      state = state;
      at = at;
      file = file;
      tag_fits = tag_fits;
      numbers = numbers;
      reads = reads;
      left = left;
    }
leaves (f ∷ fs) [] state name msize fid tag at clock bytes rest ys room file tag_fits enough sizes
    numbers reads left =
    absurd (omega (arith, enough))
leaves (f ∷ fs) (r ∷ requests) state name msize fid tag at clock bytes rest ys room file tag_fits
    enough sizes numbers reads left =
    let step = request_step state name tag (clock at) r in
    let others : List ℕ = replies_from step.state name (next_tag tag) clock (at + 1) requests in
    let split : step.reply ++ (others ++ rest) ≡ f ++ (concat fs ++ ys) =
    sym (append_assoc step.reply others rest) ∙ left ∙ append_assoc f (concat fs) ys in
    let one = came state name msize fid bytes tag (clock at) reads.0.0 reads.0.1 r f (others ++ rest)
    (concat fs ++ ys) file room tag_fits numbers.0 reads.0.2 sizes.0 split in
    let later = leaves fs requests step.state name msize fid (next_tag tag) (at + 1) clock bytes rest ys
    room one.file (next-fits tag tag_fits) (omega (arith, enough)) sizes.1 numbers.1 reads.1
    one.behind in
    record {
      in_order = ((Rread (bytes_of msize reads.0.0 reads.0.1 bytes), one.is), later.in_order);
      others = later.others;
      long = omega (arith, later.long);
      state = later.state;
      at = later.at;
      file = later.file;
      tag_fits = later.tag_fits;
      numbers = later.numbers;
      reads = later.reads;
      left = later.left;
    }

same-tag_past : {T U : Type 0} (tag : ℕ) (xs : List T) (ys : List U) → length xs ≡ length ys
    → tag_past tag xs ≡ tag_past tag ys
same-tag_past tag [] [] same = refl
same-tag_past tag [] (y ∷ ys) same = absurd (omega (arith, same))
same-tag_past tag (x ∷ xs) [] same = absurd (omega (arith, same))
same-tag_past tag (x ∷ xs) (y ∷ ys) same = same-tag_past (next_tag tag) xs ys (omega (arith, same))

front-answers : (tag : ℕ) (xs ys : List Answer) → AreAnswers tag (xs ++ ys) → AreAnswers tag xs
front-answers tag [] ys answered = tt
front-answers tag (x ∷ xs) ys answered =
    (answered.0, front-answers (next_tag tag) xs ys answered.1)

later-answers : (tag : ℕ) (xs ys : List Answer) → AreAnswers tag (xs ++ ys)
    → AreAnswers (tag_past tag xs) ys
later-answers tag [] ys answered = answered
later-answers tag (x ∷ xs) ys answered = later-answers (next_tag tag) xs ys answered.1

-- the frames came in the order of the answers
pub rounds-in-order : (rounds : List Round) (requests : List TMessage) (state : State)
    (name msize fid tag at : ℕ) (clock : ℕ → ℕ) (bytes rest ys : List ℕ) → IsMsize msize
    → HasFile state name msize fid bytes → tag < 2 ^ 16 → AllByRecursion IsRound rounds
    → length requests ≡ length (flat_map (λ (r : Round). r.answers) rounds)
    → AllByRecursion TNumbersFit requests → AllByRecursion (IsReadOf fid) requests
    → AreAnswers tag (flat_map (λ (r : Round). r.answers) rounds)
    → replies_from state name tag clock at requests ++ rest ≡ arrived_in rounds ++ ys
    → arrived_in rounds ≡ frames (flat_map (λ (r : Round). r.answers) rounds)
rounds-in-order [] requests state name msize fid tag at clock bytes rest ys room file tag_fits each
    as_many numbers reads answered left =
    refl
rounds-in-order (round ∷ rounds) requests state name msize fid tag at clock bytes rest ys room file
    tag_fits each as_many numbers reads answered left =
    let fs : List (List ℕ) = round.arrived in
    let others : List Answer = flat_map (λ (r : Round). r.answers) rounds in
    let is : IsRound round = each.0 in
    let long = length-append round.answers others in
    let came = leaves fs requests state name msize fid tag at clock bytes rest
    (arrived_in rounds ++ ys) room file tag_fits (omega (arith, long, as_many, is.as_many))
    (recursion_from_All HasSize fs is.sizes) numbers reads
    (left ∙ append_assoc (concat fs) (arrived_in rounds) ys) in
    let here : concat fs ≡ frames round.answers =
    same-order tag fs round.answers tag_fits is.as_many is.few came.in_order
    (front-answers tag round.answers others answered)
    (recursion_from_All (λ (a : Answer). Contains fs a.frame) round.answers is.among) in
    let later : AreAnswers (tag_past tag fs) others =
    subst (λ (t : ℕ). AreAnswers t others) (sym (same-tag_past tag fs round.answers is.as_many))
    (later-answers tag round.answers others answered) in
    let behind : arrived_in rounds ≡ frames others =
    rounds-in-order rounds came.others came.state name msize fid (tag_past tag fs) came.at clock bytes
    rest ys room came.file came.tag_fits each.1
    (omega (arith, came.long, as_many, long, is.as_many)) came.numbers came.reads later came.left in
    ap (λ (zs : List ℕ). zs ++ arrived_in rounds) here
    ∙ ap (λ (zs : List ℕ). frames round.answers ++ zs) behind
    ∙ sym (flat_map-append (λ (a : Answer). a.frame) round.answers others)
