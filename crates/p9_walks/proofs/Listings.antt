-- The loops over the members of a union and over the entries of a directory.
use Rattle.p9_space.specs.Rights.{Who}
use Rattle.std.proofs.Common.{◌≡◌, ℕ, suc, ◌+◌, ◌-◌, ◌<◌, ◌≤◌, true, false, cond, List}
use Rattle.std.proofs.Common.{[], ◌∷◌, ◌++◌, length, get_or, take, drop, drop-cons, Option}
use Rattle.std.proofs.Common.{Some, None, refl, sym, ap, ◌∙◌, subst, arith, All}
use Rattle.std.specs.Prelude.{IfSome, nat_lt, slice_get, filter, nat_le}
use Rattle.std.specs.Option.{option_map}
use Rattle.std.specs.List.{flat_map}
use Rattle.std.proofs.lemmas.List.{append-nil, length-append, length-drop, length-take-le, take_at}
use Rattle.std.proofs.lemmas.Slice.{take-put_mid_below}
use borrow.Rule.Slice.PartMut.{put_mid}
use Rattle.std.proofs.lemmas.Bool.Decides.{nat_tests}
use Rattle.std.proofs.lemmas.List.Elements.{All-head, All-tail}
use Rattle.std.proofs.lemmas.List.Elements.{All-filter, All-weaker, filter-append}
use Rattle.std.proofs.lemmas.List.Kept.{AllPairs-filter}
use Rattle.p9_base.specs.declared.node_ref.NodeRef.{NodeRef}
use Rattle.p9_base.specs.NodeRef.{beside}
use Rattle.p9_tree.specs.Node.{Node, is_in}
use Rattle.p9_tree.specs.Server.{Server}
use Rattle.p9_tree.specs.Forest.{IsForest, child_in_after, server_at}
use Rattle.p9_table.specs.declared.row.Member.{Member}
use Rattle.p9_fids.specs.declared.opened.Cursor.{Cursor}
use Rattle.p9_tree.specs.Forest.{children_of}
use Rattle.p9_step.specs.Listing.{UnionEntry, cursor_of, entries_from, entries_of}
use Rattle.p9_step.specs.Listing.{entry_at, is_behind, left_of}
use Rattle.p9_wire.specs.Fields.{stat_bytes}
use Rattle.p9_step.specs.Qid.{stat_of}
use Rattle.p9_step.specs.Read.{cursor_after, entry_bytes, fitting}
use Rattle.p9_walks.specs.Listing.{Fills, IsFloor, IsReached, PutsStat}
use Rattle.p9_walks.specs.declared.listing.Filled.{Filled}
use Rattle.p9_walks.proofs.Entries.{all_kept, entries_in, first_in, at_position, Rising-map, server_rising, from_position, others_left}
use Rattle.p9_walks.proofs.Fillings.{is_short, gives_one, gives_whole, gives_part, first_has_no_room, Filling, length-put_mid, filling-more, filled, some_bytes}

-- The loop over the members.

abbrev pub IsAtMost : Option Cursor → ℕ → Type 0
IsAtMost cursor position = IfSome cursor (λ last. last.member ≤ position)

later : (cursor : Option Cursor) (p q : ℕ) → p ≤ q → IsAtMost cursor p → IsAtMost cursor q
later None p q le reached = tt
later (Some c) p q le reached = omega arith

pub reached-start : (cursor : Option Cursor) (position : ℕ) → IsReached cursor position
    → IsAtMost cursor position
reached-start None position at = tt
reached-start (Some c) position at = omega arith

-- the cursor after what is given of a member is in no later one
reached-given : (position room : ℕ) (cursor : Option Cursor) (es : List UnionEntry)
    → All (λ e. e.position ≡ position) es → IsAtMost cursor position
    → IsAtMost (cursor_after cursor (fitting room es)) position
reached-given position room cursor [] all reached = reached
reached-given position room cursor (e ∷ es) all reached =
    let here : e.position ≡ position = All-head (λ e. e.position ≡ position) e es all in
    let le : e.position ≤ position = omega arith in
    elim (nat_le (length (entry_bytes e)) room) as
    (λ b. IsAtMost
    (cursor_after cursor (cond b (e ∷ fitting (room - length (entry_bytes e)) es) [])) position) [
      | true ↦ reached-given position (room - length (entry_bytes e)) (Some (cursor_of e)) es
          (All-tail (λ e. e.position ≡ position) e es all) le
      | false ↦ reached
    ]

-- the entries of later members are behind the cursor
later_kept : (cursor : Option Cursor) (forest : List Server) (who : Who) (position : ℕ)
    (ms : List Member) → IsAtMost cursor position
    → filter (is_behind cursor) (entries_from forest who (suc position) ms)
    ≡ entries_from forest who (suc position) ms
later_kept None forest who position ms reached =
    all_kept (is_behind None) (entries_from forest who (suc position) ms)
    (All-weaker (λ e. suc position ≤ e.position) (λ e. is_behind None e ≡ true) (λ e le. refl)
    (entries_from forest who (suc position) ms) (from_position forest who (suc position) ms))
later_kept (Some c) forest who position ms reached =
    all_kept (is_behind (Some c)) (entries_from forest who (suc position) ms)
    (All-weaker (λ e. suc position ≤ e.position) (λ e. is_behind (Some c) e ≡ true)
    (λ e le. let lt : c.member < e.position = omega arith in grind (arith, nat_tests))
    (entries_from forest who (suc position) ms) (from_position forest who (suc position) ms))

-- what is left at a member: of it, and of those behind it
left_split : (cursor : Option Cursor) (forest : List Server) (who : Who) (position : ℕ)
    (ms : List Member) (d : Member) → position < length ms → IsAtMost cursor position
    → filter (is_behind cursor) (entries_from forest who position (drop position ms))
    ≡ filter (is_behind cursor) (entries_of forest who position (get_or ms position d))
    ++ entries_from forest who (suc position) (drop (suc position) ms)
left_split cursor forest who position ms d within reached =
    ap (λ l. filter (is_behind cursor) (entries_from forest who position l))
    (drop-cons ms position d within)
    ∙ filter-append (is_behind cursor) (entries_of forest who position (get_or ms position d))
    (entries_from forest who (suc position) (drop (suc position) ms))
    ∙ ap (λ es. filter (is_behind cursor) (entries_of forest who position (get_or ms position d))
    ++ es) (later_kept cursor forest who position (drop (suc position) ms) reached)

fits_whole : (room : ℕ) (xs : List UnionEntry) → is_short room xs ≡ false → fitting room xs ≡ xs
fits_whole room xs whole =
    ap (fitting room) (sym (append-nil xs)) ∙ (gives_whole room xs [] whole).gives ∙ append-nil xs

module _ (forest : List Server) (who : Who) (ms : List Member) (from : Option Cursor) (room : ℕ)
    (buffer : List ℕ) (size : ℕ) (cursor : Option Cursor) (position : ℕ)
    (whole : length buffer ≡ room)
    (filling : Filling room (left_of forest who from ms) from buffer size cursor
    (filter (is_behind cursor) (entries_from forest who position (drop position ms)))) where
  abbrev rest : List ℕ
  rest = take (length buffer - size) (drop size buffer)

  module _ (d : Member) (more : Filled) (new : List ℕ) (within : position < length ms)
      (reached : IsAtMost cursor position) (long : length new ≡ length rest)
      (fills : Fills (length rest)
      (filter (is_behind cursor) (entries_of forest who position (get_or ms position d))) cursor new
      more) where
    abbrev here : List UnionEntry
    here = filter (is_behind cursor) (entries_of forest who position (get_or ms position d))

    abbrev behind : List UnionEntry
    behind = entries_from forest who (suc position) (drop (suc position) ms)

    split : Filling room (left_of forest who from ms) from buffer size cursor (here ++ behind)
    split =
        subst (Filling room (left_of forest who from ms) from buffer size cursor)
        (left_split cursor forest who position ms d within reached) filling

    reached-here : IsAtMost more.cursor position
    reached-here =
        subst (λ c. IsAtMost c position) (sym fills.last)
        (reached-given position (length rest) cursor here
        (All-filter (is_behind cursor) (λ e. e.position ≡ position)
        (entries_of forest who position (get_or ms position d))
        (at_position forest who position (get_or ms position d))) reached)

    pub members-reached : IsAtMost more.cursor (position + 1)
    members-reached = later more.cursor position (position + 1) (omega arith) reached-here

    -- all of the member is given
    pub members-next : more.is_full ≡ false
        → Filling room (left_of forest who from ms) from
        (put_mid size (length buffer - size) buffer new) (size + more.size) more.cursor
        (filter (is_behind more.cursor)
        (entries_from forest who (position + 1) (drop (position + 1) ms)))
    members-next not_full =
        let short : is_short (length rest) here ≡ false = sym fills.full ∙ not_full in
        let all : fitting (length rest) here ≡ here = fits_whole (length rest) here short in
        let next : suc position ≡ position + 1 = omega arith in
        subst (Filling room (left_of forest who from ms) from
        (put_mid size (length buffer - size) buffer new) (size + more.size) more.cursor)
        (sym (later_kept more.cursor forest who position (drop (suc position) ms) reached-here)
        ∙ ap (λ k. filter (is_behind more.cursor) (entries_from forest who k (drop k ms))) next)
        (filling-more (left_of forest who from ms) from room buffer size cursor (here ++ behind)
        whole split here behind more.size new more.cursor
        (gives_whole (length rest) here behind short)
        (fills.bytes ∙ ap (flat_map entry_bytes) all) long fills.within
        (fills.last ∙ ap (cursor_after cursor) all))

    -- an entry of the member has no room
    pub members-full : more.is_full ≡ true
        → Fills room (left_of forest who from ms) from
        (put_mid size (length buffer - size) buffer new) (record {
          size = size + more.size;
          cursor = more.cursor;
          is_full = more.is_full;
        })
    members-full full =
        let within = filling.within in
        let whole' : length (put_mid size (length buffer - size) buffer new) ≡ room =
        length-put_mid size buffer new within
        (long
        ∙ length-take-le (length buffer - size) (drop size buffer)
        (omega (arith, length-drop size buffer))) ∙ whole in
        let (others, stops) =
        gives_part (length rest) here behind (sym fills.full ∙ full) in
        let some = stops.more in
        let fits = fills.within in
        let sized : more.size ≡ length (flat_map entry_bytes (fitting (length rest) here)) =
        sym (length-take-le more.size new (omega arith)) ∙ ap length fills.bytes in
        let room_is : length rest ≡ room - size =
        length-take-le (length buffer - size) (drop size buffer)
        (omega (arith, length-drop size buffer)) ∙ omega arith in
        let less : room - (size + more.size)
        ≡ length rest - length (flat_map entry_bytes (fitting (length rest) here)) = omega arith in
        filled (left_of forest who from ms) from room
        (put_mid size (length buffer - size) buffer new) (size + more.size) more.cursor others
        whole'
        (filling-more (left_of forest who from ms) from room buffer size cursor (here ++ behind)
        whole split (fitting (length rest) here) others more.size new more.cursor stops.gives
        fills.bytes long fits fills.last) more.is_full
        (ap (λ k. fitting k others) less ∙ stops.ends) (full ∙ grind (arith, nat_tests))

-- The loop over the entries of a directory.

entry_bytes-stat : (position : ℕ) (dir : NodeRef) (n : Node)
    → entry_bytes (entry_at position dir n) ≡ stat_bytes (stat_of (beside dir n.number) n)
unfolding entry_bytes
entry_bytes-stat position dir n = refl

first_and_others : (es : List UnionEntry) (e : UnionEntry) → slice_get es 0 ≡ Some e
    → (others : List UnionEntry) × (es ≡ e ∷ others)
first_and_others [] e first = absurd (cc)
first_and_others (x ∷ xs) e first = (xs, cc)

none_first : (es : List UnionEntry) → slice_get es 0 ≡ None → es ≡ []
none_first [] none = refl
none_first (x ∷ xs) none = absurd (cc)

gives_kept : (room : ℕ) (left : List UnionEntry) (from : Option Cursor) (buffer buffer' : List ℕ)
    (part : Filled) → take part.size buffer' ≡ take part.size buffer
    → Fills room left from buffer part → Fills room left from buffer' part
gives_kept room left from buffer buffer' part same gives = record {
  within = gives.within;
  bytes = same ∙ gives.bytes;
  last = gives.last;
  full = gives.full;
}

module _ (forest : List Server) (position : ℕ) (dir : NodeRef) (from : Option Cursor) (room : ℕ)
    (buffer : List ℕ) (size : ℕ) (cursor : Option Cursor) (whole : length buffer ≡ room)
    (filling : Filling room (filter (is_behind from) (entries_in forest position dir)) from buffer
    size cursor (filter (is_behind cursor) (entries_in forest position dir))) where
  abbrev remainder : List ℕ
  remainder = take (length buffer - size) (drop size buffer)

  abbrev all_in : List UnionEntry
  all_in = filter (is_behind from) (entries_in forest position dir)

  remainder_is : length remainder ≡ room - size
  remainder_is =
      let within = filling.within in
      length-take-le (length buffer - size) (drop size buffer)
      (omega (arith, length-drop size buffer)) ∙ omega arith

  -- no entry is left
  pub dir-end : (floor : Option ℕ) → IsFloor cursor position floor
      → child_in_after dir floor forest ≡ None
      → Fills room all_in from buffer (record { size = size; cursor = cursor; is_full = false })
  dir-end floor fits none =
      let empty : filter (is_behind cursor) (entries_in forest position dir) ≡ [] =
      none_first _
      (first_in cursor floor forest position dir fits
      ∙ ap (option_map (entry_at position dir)) none) in
      filled all_in from room buffer size cursor [] whole
      (subst (Filling room all_in from buffer size cursor) empty filling) false refl refl

  module _ (floor : Option ℕ) (n : Node) (fits : IsFloor cursor position floor)
      (found : child_in_after dir floor forest ≡ Some n) where
    abbrev entry : UnionEntry
    entry = entry_at position dir n

    first : slice_get (filter (is_behind cursor) (entries_in forest position dir)) 0 ≡ Some entry
    first =
        first_in cursor floor forest position dir fits
        ∙ ap (option_map (entry_at position dir)) found

    -- the first entry has no room
    pub dir-full : (new : List ℕ)
        → PutsStat (stat_bytes (stat_of (beside dir n.number) n)) remainder new None
        → Fills room all_in from (put_mid size (length buffer - size) buffer new) (record {
          size = size;
          cursor = cursor;
          is_full = true;
        })
    dir-full new puts =
        let within = filling.within in
        let (others, left_is) = first_and_others _ entry first in
        let short : room - size < length (entry_bytes entry) =
        subst (λ k. k < length (entry_bytes entry)) remainder_is
        (subst (λ bytes. length remainder < length bytes) (sym (entry_bytes-stat position dir n))
        puts.0) in
        let some : nat_lt 0 (length (entry ∷ others)) ≡ true = grind (arith, nat_tests) in
        gives_kept room all_in from buffer (put_mid size (length buffer - size) buffer new)
        (record { size = size; cursor = cursor; is_full = true })
        (take-put_mid_below size (length buffer - size) buffer new size (omega arith)
        filling.within)
        (filled all_in from room buffer size cursor
        (filter (is_behind cursor) (entries_in forest position dir)) whole filling true
        (first_has_no_room (room - size) entry
        (filter (is_behind cursor) (entries_in forest position dir)) first short)
        (sym (ap (λ es. nat_lt 0 (length es)) left_is ∙ some)))

    module _ (k : ℕ) (new : List ℕ)
        (puts : PutsStat (stat_bytes (stat_of (beside dir n.number) n)) remainder new (Some k))
      where
        given_entry : IsForest forest → length new ≡ length remainder
            → Filling room all_in from (put_mid size (length buffer - size) buffer new) (size + k)
            (Some (cursor_of entry))
            (filter (is_behind (Some (cursor_of entry))) (entries_in forest position dir))
        given_entry sound long =
            let (others, left_is) = first_and_others _ entry first in
            let bytes_are = entry_bytes-stat position dir n in
            let sized : k ≡ length (entry_bytes entry) = puts.0 ∙ ap length (sym bytes_are) in
            let fits_in : k ≤ length remainder = puts.1 in
            let enough : length (entry_bytes entry) ≤ length remainder =
            subst (λ n. n ≤ length remainder) sized fits_in in
            subst (Filling room all_in from (put_mid size (length buffer - size) buffer new)
            (size + k) (Some (cursor_of entry)))
            (sym (others_left cursor (entries_in forest position dir) entry others
            (Rising-map position dir (children_of dir forest)
            (AllPairs-filter (λ a b. a.number < b.number) (is_in dir.number)
            (server_at dir.server forest).nodes (server_rising forest sound dir.server))) left_is))
            (filling-more all_in from room buffer size cursor (entry ∷ others) whole
            (subst (Filling room all_in from buffer size cursor) left_is filling) (entry ∷ []) others
            k new (Some (cursor_of entry)) (gives_one (length remainder) entry others enough)
            (ap (take k) puts.2
            ∙ take_at (stat_bytes (stat_of (beside dir n.number) n)) (drop k remainder) k (sym puts.0)
            ∙ sym bytes_are ∙ sym (append-nil (entry_bytes entry))) long fits_in refl)

        -- the first entry is given
        pub dir-next : IsForest forest → length new ≡ length remainder
            → (number : ℕ) → number ≡ n.number
            → Filling room all_in from (put_mid size (length buffer - size) buffer new) (size + k)
            (Some (record { member = position; number = number }))
            (filter (is_behind (Some (record { member = position; number = number })))
            (entries_in forest position dir))
        dir-next sound long number same =
            subst (λ (m : ℕ). Filling room all_in from
            (put_mid size (length buffer - size) buffer new) (size + k)
            (Some (record { member = position; number = m }))
            (filter (is_behind (Some (record { member = position; number = m })))
            (entries_in forest position dir))) (sym same) (given_entry sound long)

        pub dir-smaller : room - (size + k) < room - size
        dir-smaller =
            let some = some_bytes entry in
            let sized : k ≡ length (entry_bytes entry) =
            puts.0 ∙ ap length (sym (entry_bytes-stat position dir n)) in
            let fits_in : k ≤ length remainder = puts.1 in
            let is = remainder_is in
            omega arith

-- What a read of a directory says of an empty answer.

pub nothing_given : (given : List UnionEntry) (buffer : List ℕ) (size : ℕ)
    → take size buffer ≡ flat_map entry_bytes given → size ≡ 0 → given ≡ []
nothing_given [] buffer size bytes empty = refl
nothing_given (e ∷ es) buffer size bytes empty =
    let some = some_bytes e in
    let long : length (take size buffer)
    ≡ length (entry_bytes e) + length (flat_map entry_bytes es) = ap length bytes
    ∙ length-append (entry_bytes e) (flat_map entry_bytes es) in
    let none : length (take size buffer) ≡ 0 = ap (λ n. length (take n buffer)) empty in
    absurd (omega (arith, some, long, none))

pub something_given : (given : List UnionEntry) (buffer : List ℕ) (size : ℕ)
    → take size buffer ≡ flat_map entry_bytes given → size ≤ length buffer → given ≡ [] → size ≡ 0
something_given given buffer size bytes within none =
    sym (length-take-le size buffer within) ∙ ap length (bytes ∙ ap (flat_map entry_bytes) none)

-- where an entry has no room, one is left
pub some_short : (room : ℕ) (left : List UnionEntry) → is_short room left ≡ true → left ≡ [] → ⊥
some_short room [] short none = grind (arith, nat_tests)
some_short room (x ∷ xs) short none = cc

-- where all have room and none is given, none is left
pub none_short : (room : ℕ) (left : List UnionEntry) → is_short room left ≡ false
    → fitting room left ≡ [] → left ≡ []
none_short room left whole none = sym (fits_whole room left whole) ∙ none
