-- The messages of frames whose names are masked.
use Rattle.std.proofs.Common.{◌≡◌, ℕ, ◌+◌, ◌≤◌, ◌<◌, ◌⊎◌, Bool, true, false, cond, eqb, ltb, leb, List}
use Rattle.std.proofs.Common.{◌++◌, ◌&&◌, ◌||◌, not, length, take, drop, replicate, None, Some, inl, inr}
use Rattle.std.proofs.Common.{refl, ap, sym, ◌∙◌, arith, nat_eq, lit<}
use Rattle.std.proofs.lemmas.Bool.{and_from, and_left, and_parts, and_right, both_ways}
use Rattle.std.proofs.lemmas.Bool.{cases_Bool, cases_lt, ltb-true}
use Rattle.std.proofs.lemmas.Bool.{cond-false, cond-true, cond_both, eqb-true, false_from_ne_true}
use Rattle.std.proofs.lemmas.Bool.{le-leb, le-ltb, leb-true, lt-leb, lt-ltb, or_right}
use Rattle.std.proofs.lemmas.List.{append_assoc, drop-drop, length-append, length-drop}
use Rattle.std.proofs.lemmas.List.{length-replicate, length-take-le, take-append-drop}
use Rattle.std.proofs.lemmas.List.Elements.{All-replicate}
use Rattle.std.proofs.lemmas.List.Folds.{list_any_none}
use Rattle.std.proofs.lemmas.Option.{cond_some, none-some, same_Some}
use Rattle.std.proofs.lemmas.Str.{IsUtf8-from_ascii, is_utf8-from_IsUtf8}
use Rattle.std.proofs.lemmas.Str.Ascii.{IsAscii-from_all}
use Rattle.std.specs.List.{list_any}
use Rattle.std.specs.Option.{option_map}
use Rattle.std.specs.Str.{is_utf8}
use Rattle.std.specs.declared.option.Option.{Option}
use Rattle.byteorder.specs.Endian.{little_number}
use Rattle.byteorder.specs.Numbers.{little_from-take}
use Rattle.p9_base.specs.Text.{is_text}
use Rattle.p9_base.specs.User.{is_listed_user, is_user, user_max}
use Rattle.p9_wire.specs.FieldReading.{◌and_then◌, Reader, text_at}
use Rattle.p9_wire.specs.Frame.{header, is_frame, msize_max}
use Rattle.p9_wire.specs.Message.{TMessage, Tattach}
use Rattle.p9_wire.specs.FieldReading.{header_at}
use Rattle.p9_wire.specs.Reading.{t_body_at, t_message_of, t_version_at, t_auth_at}
use Rattle.p9_wire.specs.Reading.{t_attach_at, t_flush_at, t_walk_at, t_open_at, t_create_at}
use Rattle.p9_wire.specs.Reading.{t_read_at, t_write_at, t_clunk_at, t_remove_at, t_stat_at}
use Rattle.p9_wire.specs.Reading.{t_wstat_at}
use Rattle.p9_restricted.specs.declared.front.Front.TheVariants.{Frame}
use Rattle.p9_restricted.specs.Front.{attach_front, blanked, front_of, masked_len, name_at, name_len}
use Rattle.p9_restricted.specs.Front.{type_of}
use Rattle.p9_restricted.specs.Laws.{MessagesAreMasked, OthersAreKept, masked_message, masked_name}
use Rattle.p9_restricted.specs.Masked.{masked}
use Rattle.p9_restricted.proofs.Blanks.{blanked-none}
use Rattle.p9_restricted.proofs.Fields.{attach-none, attach_of, attach_read, by_header}
use Rattle.p9_restricted.proofs.Fields.{by_header_attach, ended, field, header_fields, header_read}
use Rattle.p9_restricted.proofs.Fields.{length-field}
use Rattle.p9_restricted.proofs.MaskedFrames.{masked_whole}

-- What is read is kept, where it is no Tattach.

abbrev in_body : List (List ℕ) → Option (TMessage × List ℕ) → Option (TMessage × List ℕ)
in_body users read = option_map (λ m. (masked_message users m.0, m.1)) read

abbrev pub in_read : List (List ℕ) → Option (ℕ × TMessage) → Option (ℕ × TMessage)
in_read users read = option_map (λ m. (m.0, masked_message users m.1)) read

mapped_read : (users : List (List ℕ)) {A : Type 0} (f : A → TMessage)
    (read : Option (A × List ℕ)) → ((a : A) → masked_message users (f a) ≡ f a)
    → in_body users (read and_then λ a. Some (f a.0, a.1))
    ≡ (read and_then λ a. Some (f a.0, a.1))
mapped_read users f None same = refl
mapped_read users f (Some a) same = ap (λ m. Some (m, a.1)) (same a.0)

-- bodies of other types than a Tattach's
body-kept : (users : List (List ℕ)) (kind : ℕ) (body : List ℕ) → eqb kind 104 ≡ false
    → in_body users (t_body_at kind body) ≡ t_body_at kind body
unfolding t_body_at t_version_at t_auth_at t_flush_at t_walk_at t_open_at t_create_at t_read_at t_write_at t_clunk_at t_remove_at t_stat_at t_wstat_at
body-kept users kind body other =
    let P : Reader TMessage → Type 0 = λ r. in_body users (r body) ≡ r body in
    cond_both (eqb kind 100) t_version_at _ P (λ e. mapped_read users _ _ (λ a. refl)) (λ e.
    cond_both (eqb kind 102) t_auth_at _ P (λ e. mapped_read users _ _ (λ a. refl)) (λ e.
    cond_both (eqb kind 104) t_attach_at _ P (λ e. absurd (both_ways _ other e)) (λ e.
    cond_both (eqb kind 108) t_flush_at _ P (λ e. mapped_read users _ _ (λ a. refl)) (λ e.
    cond_both (eqb kind 110) t_walk_at _ P (λ e. mapped_read users _ _ (λ a. refl)) (λ e.
    cond_both (eqb kind 112) t_open_at _ P (λ e. mapped_read users _ _ (λ a. refl)) (λ e.
    cond_both (eqb kind 114) t_create_at _ P (λ e. mapped_read users _ _ (λ a. refl)) (λ e.
    cond_both (eqb kind 116) t_read_at _ P (λ e. mapped_read users _ _ (λ a. refl)) (λ e.
    cond_both (eqb kind 118) t_write_at _ P (λ e. mapped_read users _ _ (λ a. refl)) (λ e.
    cond_both (eqb kind 120) t_clunk_at _ P (λ e. mapped_read users _ _ (λ a. refl)) (λ e.
    cond_both (eqb kind 122) t_remove_at _ P (λ e. mapped_read users _ _ (λ a. refl)) (λ e.
    cond_both (eqb kind 124) t_stat_at _ P (λ e. mapped_read users _ _ (λ a. refl)) (λ e.
    cond_both (eqb kind 126) t_wstat_at _ P (λ e. mapped_read users _ _ (λ a. refl)) (λ e.
    refl)))))))))))))

-- and messages
kept_by : (users : List (List ℕ)) (tag : ℕ) (message : TMessage) (whole : Bool)
    → masked_message users message ≡ message
    → in_read users (cond whole (Some (tag, message)) None)
    ≡ cond whole (Some (tag, message)) None
kept_by users tag message true same =
    ap (λ (m : TMessage). let read : Option (ℕ × TMessage) = Some (tag, m) in read) same
kept_by users tag message false same = refl

message-kept : (users : List (List ℕ)) (tag : ℕ) (read : Option (TMessage × List ℕ))
    → in_body users read ≡ read
    → in_read users (read and_then λ m. cond (eqb (length m.1) 0) (Some (tag, m.0)) None)
    ≡ (read and_then λ m. cond (eqb (length m.1) 0) (Some (tag, m.0)) None)
message-kept users tag None same = refl
message-kept users tag (Some m) same =
    kept_by users tag m.0 (eqb (length m.1) 0)
    (ap (λ (n : TMessage × List ℕ). n.0) (same_Some _ _ same))

-- What is read of a Tattach is masked.

by_whole : (users : List (List ℕ)) (tag fid afid : ℕ) (name aname : List ℕ) (whole : Bool)
    → in_read users (cond whole (Some (tag, Tattach fid afid name aname)) None)
    ≡ cond whole (Some (tag, Tattach fid afid (masked_name users name) aname)) None
by_whole users tag fid afid name aname true = refl
by_whole users tag fid afid name aname false = refl

ended-masked : (users : List (List ℕ)) (tag fid afid : ℕ) (name : List ℕ)
    (aname : Option (List ℕ × List ℕ))
    → in_read users (ended tag fid afid name aname)
    ≡ ended tag fid afid (masked_name users name) aname
ended-masked users tag fid afid name None = refl
ended-masked users tag fid afid name (Some a) =
    by_whole users tag fid afid name a.0 (eqb (length a.1) 0)

-- blanks are a text
is_text-blanks : (n : ℕ) → is_text (replicate n 32) ≡ true
is_text-blanks n =
    let blanks : List ℕ = replicate n 32 in
    let utf8 : is_utf8 blanks ≡ true =
    is_utf8-from_IsUtf8 blanks
    (IsUtf8-from_ascii blanks
    (IsAscii-from_all blanks (All-replicate (λ b. b < 128) n 32 (lit< tt)))) in
    let none : list_any (λ b. nat_eq b 0) blanks ≡ false =
    list_any_none (λ b. nat_eq b 0) blanks (All-replicate (λ b. nat_eq b 0 ≡ false) n 32 refl) in
    rw (utf8, none) refl

is_text-user : (name : List ℕ) → is_user name ≡ true → is_text name ≡ true
is_text-user name e =
    (and_parts (leb 1 (length name) && leb (length name) user_max) (is_text name) e).1

-- a name and what is made of it are both texts, or neither is
is_text-masked : (users : List (List ℕ)) (name : List ℕ)
    → is_text (masked_name users name) ≡ is_text name
is_text-masked users name =
    cond_both (is_user name && not (is_listed_user users name)) (replicate (length name) 32) name
    (λ xs. is_text xs ≡ is_text name)
    (λ e. is_text-blanks (length name)
    ∙ sym (is_text-user name (and_parts (is_user name) (not (is_listed_user users name)) e).0))
    (λ e. refl)

attach_of-by : (users : List (List ℕ)) (tag fid afid : ℕ) (name rest : List ℕ) (text : Bool)
    → is_text name ≡ text
    → in_read users (attach_of tag fid afid name rest)
    ≡ attach_of tag fid afid (masked_name users name) rest
attach_of-by users tag fid afid name rest true e =
    ap (in_read users)
    (cond-true (is_text name) (ended tag fid afid name (text_at rest)) None e)
    ∙ ended-masked users tag fid afid name (text_at rest)
    ∙ sym (cond-true (is_text (masked_name users name))
    (ended tag fid afid (masked_name users name) (text_at rest)) None
    (is_text-masked users name ∙ e))
attach_of-by users tag fid afid name rest false e =
    ap (in_read users)
    (cond-false (is_text name) (ended tag fid afid name (text_at rest)) None e)
    ∙ sym (cond-false (is_text (masked_name users name))
    (ended tag fid afid (masked_name users name) (text_at rest)) None
    (is_text-masked users name ∙ e))

-- Whole frames.

length-masked_name : (users : List (List ℕ)) (name : List ℕ)
    → length (masked_name users name) ≡ length name
length-masked_name users name =
    cond_both (is_user name && not (is_listed_user users name)) (replicate (length name) 32) name
    (λ xs. length xs ≡ length name) (λ e. length-replicate {A = ℕ} (length name) 32) (λ e. refl)

-- a long name is no user's
long-name : (users : List (List ℕ)) (name : List ℕ) → user_max < length name
    → masked_name users name ≡ name
long-name users name long =
    let no : is_user name ≡ false =
    false_from_ne_true (is_user name) (λ e.
    let sized =
    (and_parts (leb 1 (length name) && leb (length name) user_max) (is_text name) e).0 in
    let short : length name ≤ user_max =
    leb-true _ _ (and_parts (leb 1 (length name)) (leb (length name) user_max) sized).1 in
    omega arith) in
    cond-false (is_user name && not (is_listed_user users name)) (replicate (length name) 32) name
    (and_left (is_user name) (not (is_listed_user users name)) no)

-- what a frame is: its size is its length, which is between that of a header and the most
record IsWhole (frame : List ℕ) : Type 0 where
  low : header ≤ length frame
  high : length frame ≤ msize_max
  said : little_number 4 frame ≡ length frame

is-whole : (frame : List ℕ) → is_frame frame ≡ true → IsWhole frame
is-whole frame e =
    let parts =
    and_parts (leb header (length frame) && leb (length frame) msize_max)
    (eqb (little_number 4 frame) (length frame)) e in
    let sizes = and_parts (leb header (length frame)) (leb (length frame) msize_max) parts.0 in
    record {
      low = leb-true _ _ sizes.0;
      high = leb-true _ _ sizes.1;
      said = eqb-true _ _ parts.1;
    }

whole_front : (users : List (List ℕ)) (frame : List ℕ) → IsWhole frame
    → front_of users frame
    ≡ cond (eqb (type_of frame) 104 && leb name_at (length frame))
    (attach_front users (length frame) frame) (Frame (length frame) 0)
whole_front users frame whole =
    let low = whole.low in
    let said = whole.said in
    let a : ltb (length frame) 4 ≡ false = le-ltb _ _ (omega arith) in
    let b : ltb (length frame) header ≡ false = le-ltb _ _ low in
    let c : ltb msize_max (length frame) ≡ false = le-ltb _ _ whole.high in
    let d : ltb (length frame) 5 ≡ false = le-ltb _ _ (omega arith) in
    rw (a, said, b, c, d) refl

-- type, tag and body of it
whole_header : (frame : List ℕ) → IsWhole frame
    → header_at frame ≡ Some (type_of frame, little_number 2 (field 5 2 frame), drop 7 frame)
whole_header frame whole =
    let low = whole.low in
    let fields : frame
    ≡ take 4 frame ++ (field 4 1 frame ++ (field 5 2 frame ++ drop 7 frame)) =
    sym (take-append-drop 7 frame) ∙ header_fields frame (drop 7 frame) in
    let size : little_number 4 (take 4 frame) ≡ little_number 4 frame =
    little_from-take 0 4 4 frame (omega arith) in
    let kind : little_number 1 (field 4 1 frame) ≡ type_of frame =
    little_from-take 0 1 1 (drop 4 frame) (omega arith) in
    ap header_at fields
    ∙ header_read (take 4 frame) (field 4 1 frame) (field 5 2 frame) (drop 7 frame)
    (length-field 0 4 frame (omega arith)) (length-field 4 1 frame (omega arith))
    (length-field 5 2 frame (omega arith)) (size ∙ whole.said ∙ ap length fields)
    ∙ ap (λ (n : ℕ). let read : Option (ℕ × ℕ × List ℕ) =
    Some (n, little_number 2 (field 5 2 frame), drop 7 frame) in read) kind

-- a frame that stays as it is, and whose message does
record IsPlain (users : List (List ℕ)) (frame : List ℕ) : Type 0 where
  same : masked users frame ≡ frame
  kept : in_read users (t_message_of frame) ≡ t_message_of frame

-- a Tattach whose name is there
record IsNamed (users : List (List ℕ)) (frame : List ℕ) : Type 0 where
  tag : ℕ
  fid : ℕ
  afid : ℕ
  start : List ℕ
  name : List ℕ
  rest : List ℕ
  frame_is : frame ≡ start ++ (name ++ rest)
  masked_is : masked users frame ≡ start ++ (masked_name users name ++ rest)
  read : t_message_of frame ≡ attach_of tag fid afid name rest
  masked_read : t_message_of (masked users frame)
      ≡ attach_of tag fid afid (masked_name users name) rest

nothing_masked : (users : List (List ℕ)) (frame : List ℕ)
    → front_of users frame ≡ Frame (length frame) 0 → masked users frame ≡ frame
nothing_masked users frame e = masked_whole users frame 0 e ∙ blanked-none frame

-- another message
other_kind : (users : List (List ℕ)) (frame : List ℕ) → IsWhole frame
    → eqb (type_of frame) 104 ≡ false → IsPlain users frame
other_kind users frame whole other =
    let tag = little_number 2 (field 5 2 frame) in
    let read = by_header frame (type_of frame) tag (drop 7 frame) (whole_header frame whole) in
    record {
      same = nothing_masked users frame
          (whole_front users frame whole
          ∙ cond-false (eqb (type_of frame) 104 && leb name_at (length frame))
          (attach_front users (length frame) frame) (Frame (length frame) 0)
          (and_left (eqb (type_of frame) 104) (leb name_at (length frame)) other));
      kept = ap (in_read users) read
          ∙ message-kept users tag (t_body_at (type_of frame) (drop 7 frame))
          (body-kept users (type_of frame) (drop 7 frame) other)
          ∙ sym read;
    }

-- no message
no_message : (users : List (List ℕ)) (frame : List ℕ) → IsWhole frame
    → eqb (type_of frame) 104 ≡ true → front_of users frame ≡ Frame (length frame) 0
    → t_attach_at (drop 7 frame) ≡ None → IsPlain users frame
no_message users frame whole kind front none =
    let tag = little_number 2 (field 5 2 frame) in
    let read : t_message_of frame ≡ None =
    by_header_attach frame (type_of frame) tag (drop 7 frame) (whole_header frame whole)
    (eqb-true _ _ kind)
    ∙ ap (λ (m : Option (TMessage × List ℕ)). m and_then λ m.
    cond (eqb (length m.1) 0) (Some (tag, m.0)) None) none in
    record {
      same = nothing_masked users frame front;
      kept = ap (in_read users) read ∙ sym read;
    }

-- A Tattach whose name is there.

-- blanks for the name, or the name
blanks_or_name : (mask : Bool) (frame name rest : List ℕ)
    → frame ≡ take name_at frame ++ (name ++ rest) → drop (name_at + length name) frame ≡ rest
    → blanked (cond mask (length name) 0) frame
    ≡ take name_at frame ++ (cond mask (replicate (length name) 32) name ++ rest)
blanks_or_name true frame name rest split behind =
    append_assoc (take name_at frame) (replicate (length name) 32)
    (drop (name_at + length name) frame)
    ∙ ap (λ (xs : List ℕ). take name_at frame ++ (replicate (length name) 32 ++ xs)) behind
blanks_or_name false frame name rest split behind = blanked-none frame ∙ split

-- the front of a frame that holds the name
named_front : (users : List (List ℕ)) (frame : List ℕ) (long : Bool)
    → ltb user_max (name_len frame) ≡ long → ltb (length frame) name_at ≡ false
    → ltb (length frame) (name_at + name_len frame) ≡ false
    → attach_front users (length frame) frame
    ≡ Frame (length frame)
    (cond long 0 (masked_len users (take (name_len frame) (drop name_at frame))))
named_front users frame true e enough held = rw (enough, e) refl
named_front users frame false e enough held = rw (enough, e, held) refl

-- so what is made of the frame
named_by : (users : List (List ℕ)) (frame name rest : List ℕ) (long : Bool)
    → ltb user_max (length name) ≡ long → frame ≡ take name_at frame ++ (name ++ rest)
    → drop (name_at + length name) frame ≡ rest
    → front_of users frame ≡ Frame (length frame) (cond long 0 (masked_len users name))
    → masked users frame ≡ take name_at frame ++ (masked_name users name ++ rest)
named_by users frame name rest true e split behind front =
    nothing_masked users frame front ∙ split
    ∙ ap (λ (xs : List ℕ). take name_at frame ++ (xs ++ rest))
    (sym (long-name users name (ltb-true user_max (length name) e)))
named_by users frame name rest false e split behind front =
    masked_whole users frame (masked_len users name) front
    ∙ blanks_or_name (is_user name && not (is_listed_user users name)) frame name rest split behind

named : (users : List (List ℕ)) (frame : List ℕ) → IsWhole frame → eqb (type_of frame) 104 ≡ true
    → front_of users frame ≡ attach_front users (length frame) frame
    → name_at ≤ length frame → name_at + name_len frame ≤ length frame → IsNamed users frame
named users frame whole kind front enough held =
    let low = whole.low in
    let len = name_len frame in
    let start = take name_at frame in
    let name = take len (drop name_at frame) in
    let rest = drop (name_at + len) frame in
    let new = masked_name users name in
    let long : length name ≡ len =
    length-take-le len (drop name_at frame) (omega (arith, length-drop name_at frame)) in
    let split : frame ≡ start ++ (name ++ rest) =
    sym (take-append-drop name_at frame)
    ∙ ap (λ (xs : List ℕ). start ++ xs)
    (sym (take-append-drop len (drop name_at frame))
    ∙ ap (λ (xs : List ℕ). name ++ xs) (drop-drop len name_at frame)) in
    let said : front_of users frame
    ≡ Frame (length frame) (cond (ltb user_max (length name)) 0 (masked_len users name)) =
    front
    ∙ named_front users frame (ltb user_max len) refl (le-ltb _ _ enough) (le-ltb _ _ held)
    ∙ ap (λ (n : ℕ). Frame (length frame) (cond (ltb user_max n) 0 (masked_len users name)))
    (sym long) in
    let masked_is : masked users frame ≡ start ++ (new ++ rest) =
    named_by users frame name rest (ltb user_max (length name)) refl split
    (ap (λ (n : ℕ). drop (name_at + n) frame) long) said in
    let type : little_number 1 (field 4 1 frame) ≡ 104 =
    little_from-take 0 1 1 (drop 4 frame) (omega arith) ∙ eqb-true _ _ kind in
    let counted : little_number 2 (field 15 2 frame) ≡ length name =
    little_from-take 0 2 2 (drop 15 frame) (omega arith) ∙ sym long in
    let size : little_number 4 (take 4 frame) ≡ length (start ++ (name ++ rest)) =
    little_from-take 0 4 4 frame (omega arith) ∙ whole.said ∙ ap length split in
    let same : length (start ++ (new ++ rest)) ≡ length (start ++ (name ++ rest)) =
    omega (
      arith,
      length-append start (new ++ rest),
      length-append new rest,
      length-append start (name ++ rest),
      length-append name rest,
      length-masked_name users name,
    ) in
    record {
      tag = little_number 2 (field 5 2 frame);
      fid = little_number 4 (field 7 4 frame);
      afid = little_number 4 (field 11 4 frame);
      start = start;
      name = name;
      rest = rest;
      frame_is = split;
      masked_is = masked_is;
      read = ap t_message_of split ∙ attach_read frame name rest enough type counted size;
      masked_read = ap t_message_of masked_is
          ∙ attach_read frame new rest enough type
          (counted ∙ sym (length-masked_name users name)) (size ∙ sym same);
    }

-- a frame with the type of a Tattach
attach_kind : (users : List (List ℕ)) (frame : List ℕ) → IsWhole frame
    → eqb (type_of frame) 104 ≡ true → IsPlain users frame ⊎ IsNamed users frame
attach_kind users frame whole kind = elim (cases_lt (length frame) name_at) [
  | inl short ↦
      inl (no_message users frame whole kind
      (whole_front users frame whole
      ∙ cond-false (eqb (type_of frame) 104 && leb name_at (length frame))
      (attach_front users (length frame) frame) (Frame (length frame) 0)
      (and_right (eqb (type_of frame) 104) (leb name_at (length frame)) (lt-leb _ _ short)))
      (attach-none (drop 7 frame) (λ ten. absurd (omega (arith, length-drop 7 frame)))))
  | inr enough ↦
      let front : front_of users frame ≡ attach_front users (length frame) frame =
      whole_front users frame whole
      ∙ cond-true (eqb (type_of frame) 104 && leb name_at (length frame))
      (attach_front users (length frame) frame) (Frame (length frame) 0)
      (and_from (eqb (type_of frame) 104) (leb name_at (length frame)) kind (le-leb _ _ enough)) in
      elim (cases_lt (length frame) (name_at + name_len frame)) [
        | inl lacks ↦
            let a : ltb (length frame) name_at ≡ false = le-ltb _ _ enough in
            let b : (ltb user_max (name_len frame)
            || ltb (length frame) (name_at + name_len frame)) ≡ true =
            or_right (ltb user_max (name_len frame))
            (ltb (length frame) (name_at + name_len frame)) (lt-ltb _ _ lacks) in
            let later : little_number 2 (drop 8 (drop 7 frame)) ≡ name_len frame =
            ap (little_number 2) (drop-drop 8 7 frame) in
            inl (no_message users frame whole kind (front ∙ rw (a, b) refl)
            (attach-none (drop 7 frame) (λ ten. omega (arith, length-drop 7 frame, later))))
        | inr held ↦ inr (named users frame whole kind front enough held)
      ]
]

analysis : (users : List (List ℕ)) (frame : List ℕ) → IsWhole frame
    → IsPlain users frame ⊎ IsNamed users frame
analysis users frame whole = elim (cases_Bool (eqb (type_of frame) 104)) [
  | inl kind ↦ attach_kind users frame whole kind
  | inr other ↦ inl (other_kind users frame whole other)
]

-- The laws.

pub messages-are-masked : MessagesAreMasked
messages-are-masked users frame e = elim (analysis users frame (is-whole frame e)) [
  | inl plain ↦ ap t_message_of plain.same ∙ sym plain.kept
  | inr its ↦
      its.masked_read
      ∙ sym (attach_of-by users its.tag its.fid its.afid its.name its.rest (is_text its.name) refl)
      ∙ sym (ap (in_read users) its.read)
]

chosen : (b : Bool) (x : Option (ℕ × TMessage)) (y : ℕ × TMessage) → cond b x None ≡ Some y
    → x ≡ Some y
chosen true x y e = e
chosen false x y e = absurd (none-some y e)

-- what was read of a Tattach is one
ended-some : (tag fid afid : ℕ) (name : List ℕ) (read : Option (List ℕ × List ℕ))
    (other : ℕ) (message : TMessage) → ended tag fid afid name read ≡ Some (other, message)
    → (aname : List ℕ) × (message ≡ Tattach fid afid name aname)
ended-some tag fid afid name None other message e = absurd (none-some (other, message) e)
ended-some tag fid afid name (Some a) other message e = (
  a.0,
  ap (λ (read : ℕ × TMessage). read.1)
      (sym (cond_some (eqb (length a.1) 0) (tag, Tattach fid afid name a.0) (other, message) e).1),
)

-- a Tattach that stays has a name that does
same_name : (users : List (List ℕ)) (fid afid : ℕ) (name aname : List ℕ) (message : TMessage)
    → message ≡ Tattach fid afid name aname → masked_message users message ≡ message
    → masked_name users name ≡ name
same_name users fid afid name aname message e same =
    let whole : Tattach fid afid (masked_name users name) aname ≡ Tattach fid afid name aname =
    sym (ap (masked_message users) e) ∙ same ∙ e in cc

pub others-are-kept : OthersAreKept
others-are-kept users frame tag message e read same =
    elim (analysis users frame (is-whole frame e)) [
      | inl plain ↦ plain.same
      | inr its ↦
          let found =
          ended-some its.tag its.fid its.afid its.name (text_at its.rest) tag message
          (chosen (is_text its.name) _ (tag, message) (sym its.read ∙ read)) in
          its.masked_is
          ∙ ap (λ (xs : List ℕ). its.start ++ (xs ++ its.rest))
          (same_name users its.fid its.afid its.name found.0 message found.1 same)
          ∙ sym its.frame_is
    ]
