-- What a record behind others makes of a forest whose last server is being made again.
use Rattle.std.proofs.Common.{◌≡◌, ℕ, zero, suc, ◌+◌, ◌-◌, ◌<◌, ◌≤◌, List, [], ◌∷◌, ◌++◌, length, Option, Some, None, All, AllPairs}
use Rattle.std.proofs.Common.{take, drop, replicate, get_or, true, false, cond, nat_le, inl, inr, refl, sym, ap, subst, ◌∙◌, append_assoc, add-one, arith, map, IsTrue}
use Rattle.std.specs.Option.{option_map_or}
use Rattle.std.proofs.lemmas.Bool.{cases_lt}
use Rattle.std.proofs.lemmas.Bool.Decides.{nat_tests}
use Rattle.std.proofs.lemmas.List.{drop-take, take-append-drop, take-take, length-map, length-take, append-nil, drop_all, take_all}
use Rattle.std.proofs.lemmas.List.Elements.{All-cons, All-head, All-tail, All-push, All-weaker}
use Rattle.p9_base.specs.declared.mode.Kind.{Kind}
use Rattle.p9_base.specs.declared.mode.Kind.TheVariants.{Directory, File}
use Rattle.p9_base.specs.Mode.{is_dir_kind}
use Rattle.p9_base.specs.Text.{padded}
use Rattle.p9_log.specs.declared.crash.Crash.TheVariants.{Stopped}
use Rattle.p9_log.specs.Blocks.{content_in}
use Rattle.p9_record.specs.Closed.{closed_spelling}
use Rattle.p9_record.specs.Record.{FitsForestEdit}
use Rattle.p9_tree.specs.Bytes.{overwritten}
use Rattle.p9_tree.specs.Edit.{edited, PutBack, Skip, Write}
use Rattle.p9_tree.specs.Forest.{tree_changed_at}
use Rattle.p9_tree.specs.ForestEdit.{ForestEdit, OnServer, forest_edited}
use Rattle.p9_tree.specs.From.{node_from}
use Rattle.p9_tree.specs.Node.{Node, is_dir, root_name, with_bytes}
use Rattle.p9_tree.specs.declared.saved.Saved.{Saved}
use Rattle.p9_tree.specs.Saved.{put_back, saved_node, skipped_to, with_fields}
use Rattle.p9_tree.specs.Server.{IsSound, Server, WellFormed, added, changed_at, is_dir_at, node_at, root_node, rooted, with_changed}
use Rattle.p9_tree.proofs.Lookups.{each_found, rising_head, rising_tail, node_at-before}
use Rattle.p9_kept.specs.Edits.{IsWhole, stood_for}
use Rattle.p9_kept.specs.Making.{IsNextOf, Makes, with_front}
use Rattle.p9_kept.proofs.Edits.{stood-more, stood-nil, whole-more, whole-nil}

-- one change more
pub makes-more : (draft noted more : List ℕ) (edit : ForestEdit) (forest : List Server)
    → more ≡ noted ++ closed_spelling edit → FitsForestEdit edit → Makes draft noted forest
    → Makes draft more (forest_edited edit forest)
makes-more draft noted more edit forest is fits made =
    let longer : content_in Stopped draft ++ more ≡ (content_in Stopped draft ++ noted) ++ closed_spelling edit =
    ap (λ (b : List ℕ). content_in Stopped draft ++ b) is ∙ sym (append_assoc (content_in Stopped draft) noted (closed_spelling edit)) in
    record {
      whole = subst IsWhole (sym longer) (whole-more (content_in Stopped draft ++ noted) edit made.whole fits);
      stood =
          ap stood_for longer ∙ stood-more [] (content_in Stopped draft ++ noted) edit made.whole fits
          ∙ ap (forest_edited edit) made.stood;
    }

-- nothing makes no server
pub makes-none : (draft noted : List ℕ) → content_in Stopped draft ≡ [] → noted ≡ []
    → Makes draft noted []
makes-none draft noted empty none =
    let is : content_in Stopped draft ++ noted ≡ [] =
    ap (λ b. b ++ noted) empty ∙ none in
    record {
      whole = subst IsWhole (sym is) whole-nil;
      stood = ap stood_for is ∙ stood-nil [] [] refl;
    }

-- a change of the last server
pub changed-last : (front : List Server) (change : Server → Server) (s : Server)
    → tree_changed_at (length front) change (front ++ s ∷ []) ≡ front ++ change s ∷ []
changed-last [] change s = refl
changed-last (t ∷ front) change s = ap (λ r. t ∷ r) (changed-last front change s)

-- a change of the last node
node-last : (f : Node → Node) (n : Node) (ns : List Node) → All (λ m. m.number < n.number) ns
    → changed_at n.number f (ns ++ n ∷ []) ≡ ns ++ f n ∷ []
node-last f n [] past = grind (arith, nat_tests)
node-last f n (m ∷ ns) past =
    let here : m.number < n.number = All-head (λ m. m.number < n.number) m ns past in
    grind (arith, nat_tests, node-last f n ns (All-tail (λ m. m.number < n.number) m ns past))

-- a piece of bytes written behind those before it
piece-overwritten : (at end : ℕ) (bytes piece : List ℕ) → at ≤ end → end ≤ length bytes
    → take at bytes ++ piece ≡ take end bytes
    → overwritten at piece (take at bytes) ≡ take end bytes
piece-overwritten at end bytes piece le within joined =
    let size : length (take at bytes) ≡ at = simp length-take (omega arith) in
    let full : at - length (take at bytes) ≡ 0 = omega arith in
    let front : take at (padded at (take at bytes)) ≡ take at bytes =
    ap (λ k. take at (take at bytes ++ replicate k 0)) full
    ∙ ap (take at) (append-nil (take at bytes)) ∙ take_all at (take at bytes) (omega arith) in
    let none : drop (at + length piece) (take at bytes) ≡ [] =
    drop_all (at + length piece) (take at bytes) (omega arith) in
    ap (λ f. f ++ piece ++ drop (at + length piece) (take at bytes)) front
    ∙ ap (λ r. take at bytes ++ piece ++ r) none
    ∙ append-nil (take at bytes ++ piece) ∙ joined

-- a piece of bytes is what is behind those before it
pub piece-joined : (at m : ℕ) (bytes same : List ℕ) → same ≡ bytes
    → take at bytes ++ take ((at + m) - at) (drop at same) ≡ take (at + m) bytes
piece-joined at m bytes same is =
    let less : (at + m) - at ≡ m = omega arith in
    let front : take at (take (at + m) bytes) ≡ take at bytes = take-take at (at + m) bytes (omega arith) in
    ap (λ k. take at bytes ++ take k (drop at same)) less
    ∙ ap (λ b. take at bytes ++ take m (drop at b)) is
    ∙ ap (λ r. take at bytes ++ r) (sym (drop-take at m bytes))
    ∙ ap (λ f. f ++ drop at (take (at + m) bytes)) (sym front)
    ∙ take-append-drop at (take (at + m) bytes)

-- a piece of the last node's bytes, written behind those before it
module _ (front : List Server) (made : Server) (n : Node) (at end : ℕ) (piece : List ℕ)
    (next : IsNextOf made n) (within : at < length n.bytes) (le : at ≤ end) (small : end ≤ length n.bytes)
    (is : take at n.bytes ++ piece ≡ take end n.bytes) where
  behind-parent : (dir : ℕ) → n.parent ≡ Some dir
      → forest_edited (OnServer (length front) (Write n.number at piece))
      (front ++ put_back (with_front at n) made ∷ []) ≡ front ++ put_back (with_front end n) made ∷ []
  behind-parent dir parent =
      let back : (k : ℕ) → put_back (with_front k n) made ≡ added (skipped_to n.number made) (with_front k n) =
      λ k. ap (λ o. option_map_or (λ (dir : ℕ). added (skipped_to n.number made) (with_front k n)) o
      (with_changed 0 (with_fields (with_front k n)) made)) parent in
      let bytes : with_bytes (overwritten at piece) (with_front at n) ≡ with_front end n =
      ap (λ b. record n { bytes = b }) (piece-overwritten at end n.bytes piece le small is) in
      changed-last front (edited (Write n.number at piece)) (put_back (with_front at n) made)
      ∙ ap (λ s. front ++ s ∷ [])
      (ap (edited (Write n.number at piece)) (back at)
      ∙ ap (λ ns. record { nodes = ns; next = n.number + 1 })
      (node-last (with_bytes (overwritten at piece)) (with_front at n) made.nodes (next.past dir parent)
      ∙ ap (λ m. made.nodes ++ m ∷ []) bytes)
      ∙ sym (back end))

  pub piece-written : (server number : ℕ) → length front ≡ server → number ≡ n.number
      → forest_edited (OnServer server (Write number at piece))
      (front ++ put_back (with_front at n) made ∷ []) ≡ front ++ put_back (with_front end n) made ∷ []
  piece-written server number of_server of_node =
      ap (λ k. forest_edited (OnServer k (Write number at piece)) (front ++ put_back (with_front at n) made ∷ []))
      (sym of_server)
      ∙ ap (λ k. forest_edited (OnServer (length front) (Write k at piece)) (front ++ put_back (with_front at n) made ∷ []))
      of_node
      ∙ elim n.parent as (λ o. n.parent ≡ o
      → forest_edited (OnServer (length front) (Write n.number at piece))
      (front ++ put_back (with_front at n) made ∷ []) ≡ front ++ put_back (with_front end n) made ∷ []) [
        | None ↦ λ none. absurd (let no_bytes : length n.bytes ≡ 0 = ap length (next.root none) in omega arith)
        | Some dir ↦ λ some. behind-parent dir some
      ] refl

-- a saved node with the first of its bytes
pub saved-front : (saved : Saved) (n : Node) (k : ℕ) (bytes : List ℕ) → saved_node saved ≡ n
    → bytes ≡ take k n.bytes → record (saved_node saved) { bytes = bytes } ≡ with_front k n
saved-front saved n k bytes is front =
    ap (λ (m : Node). record m { bytes = bytes }) is ∙ ap (λ b. record n { bytes = b }) front

-- a node that is put back behind the others
pub node-put_back : (front : List Server) (made : Server) (m n : Node) (server : ℕ)
    → length front ≡ server → m ≡ n
    → forest_edited (OnServer server (PutBack m)) (front ++ made ∷ []) ≡ front ++ put_back n made ∷ []
node-put_back front made m n server of_server same =
    ap (λ k. forest_edited (OnServer k (PutBack m)) (front ++ made ∷ [])) (sym of_server)
    ∙ ap (λ x. forest_edited (OnServer (length front) (PutBack x)) (front ++ made ∷ [])) same
    ∙ changed-last front (edited (PutBack n)) made

-- the number that is next at the end
pub next-skipped : (front : List Server) (made : Server) (next server : ℕ) → length front ≡ server
    → forest_edited (OnServer server (Skip next)) (front ++ made ∷ [])
    ≡ front ++ skipped_to next made ∷ []
next-skipped front made next server of_server =
    ap (λ k. forest_edited (OnServer k (Skip next)) (front ++ made ∷ [])) (sym of_server)
    ∙ changed-last front (edited (Skip next)) made

-- one tree more
map-take-suc : {T : Type 0} (f : T → Server) (ts : List T) (i : ℕ) (t : T) → i < length ts
    → t ≡ get_or ts i t → map f (take (suc i) ts) ≡ map f (take i ts) ++ f t ∷ []
map-take-suc f [] i t lt read = absurd (omega arith)
map-take-suc f (v ∷ ts) zero t lt read = ap (λ x. f x ∷ []) (sym read)
map-take-suc f (v ∷ ts) (suc i) t lt read =
    ap (λ r. f v ∷ r) (map-take-suc f ts i t (omega (arith, lt)) read)

pub map-take-more : {T : Type 0} (f : T → Server) (ts : List T) (i : ℕ) (t : T) → i < length ts
    → t ≡ get_or ts i t → map f (take (i + 1) ts) ≡ map f (take i ts) ++ f t ∷ []
map-take-more f ts i t lt read = rw add-one (map-take-suc f ts i t lt read)

pub length-map-take : {T : Type 0} (f : T → Server) (ts : List T) (i : ℕ) → i ≤ length ts
    → length (map f (take i ts)) ≡ i
length-map-take f ts i le = simp (length-map, length-take) (omega arith)

-- Nodes by rising number.

-- numbers of all nodes behind the first are greater
above-first : (n : Node) (rest : List Node) → AllPairs (λ m n. m.number < n.number) (n ∷ rest)
    → All (λ m. n.number + 1 ≤ m.number) rest
above-first n rest rising =
    All-weaker (λ m. n.number < m.number) (λ m. n.number + 1 ≤ m.number) (λ m h. omega arith) rest
    (rising_head n rest rising)

-- the first of those from a number on
from-first : (number : ℕ) (rest : List Node) (n : Node) → All (λ m. number ≤ m.number) rest
    → node_from number rest ≡ Some n → (tail : List Node) × (rest ≡ n ∷ tail)
from-first number [] n from e = absurd (cc)
from-first number (m ∷ ms) n from e =
    let here : number ≤ m.number = All-head (λ m. number ≤ m.number) m ms from in
    let found : node_from number (m ∷ ms) ≡ Some m = grind (arith, nat_tests) in
    (ms, ap (λ x. x ∷ ms) (let same : Some m ≡ Some n = sym found ∙ e in cc))

from-skips : (number : ℕ) (before rest : List Node) → All (λ m. m.number < number) before
    → node_from number (before ++ rest) ≡ node_from number rest
from-skips number [] rest below = refl
from-skips number (m ∷ before) rest below =
    let here : m.number < number = All-head (λ m. m.number < number) m before below in
    grind (arith, nat_tests, from-skips number before rest (All-tail (λ m. m.number < number) m before below))

from-none : (number : ℕ) (rest : List Node) → All (λ m. number ≤ m.number) rest
    → node_from number rest ≡ None → rest ≡ []
from-none number [] from e = refl
from-none number (m ∷ ms) from e =
    let here : number ≤ m.number = All-head (λ m. number ≤ m.number) m ms from in
    let found : node_from number (m ∷ ms) ≡ Some m = grind (arith, nat_tests) in
    absurd (cc)

-- the nodes behind some rise too
rising-back : (before rest : List Node) → AllPairs (λ m n. m.number < n.number) (before ++ rest)
    → AllPairs (λ m n. m.number < n.number) rest
rising-back [] rest rising = rising
rising-back (m ∷ before) rest rising = rising-back before rest (rising_tail m (before ++ rest) rising)

-- the server with these of its nodes, all below a number; at first its root is that of a new one
abbrev pub made_to : (number : ℕ) → List Node → Server
made_to zero nodes = rooted
made_to (suc k) nodes = record { nodes = nodes; next = suc k }

-- the server is made as far as its nodes below a number
pub record IsMadeTo (number : ℕ) (s made : Server) : Type 0 where
  pub before : List Node
  pub rest : List Node
  pub all : s.nodes ≡ before ++ rest
  pub below : All (λ n. n.number < number) before
  pub from : All (λ n. number ≤ n.number) rest
  pub is : made ≡ made_to number before

-- what holds of all holds of the first from a number on
All-node_from : (P : Node → Type 0) (k : ℕ) (xs : List Node) (n : Node) → All P xs
    → node_from k xs ≡ Some n → P n
All-node_from P k [] n all e = absurd (cc)
All-node_from P k (x ∷ xs) n all e =
    let here : P x = All-head P x xs all in
    elim (nat_le k x.number) as (λ b. cond b (Some x) (node_from k xs) ≡ Some n → P n) [
      | true ↦ λ same. let e' : x ≡ n = cc in subst P e' here
      | false ↦ λ later. All-node_from P k xs n (All-tail P x xs all) later
    ] e

-- node 0 is the first
first-number : (nodes : List Node) (n : Node) → AllPairs (λ m n. m.number < n.number) nodes
    → IsTrue (is_dir_at 0 nodes) → node_from 0 nodes ≡ Some n → n.number ≡ 0
first-number [] n rising root e = absurd (cc)
first-number (m ∷ ms) n rising root e =
    let found : node_from 0 (m ∷ ms) ≡ Some m = grind (arith, nat_tests) in
    let same : m ≡ n = cc in
    elim (cases_lt 0 m.number) [
      | inl lt ↦
          (let above : All (λ x. 0 < x.number) ms =
          All-weaker (λ x. m.number < x.number) (λ x. 0 < x.number) (λ x h. omega arith) ms (rising_head m ms rising) in
          let none : node_at 0 (m ∷ ms) ≡ None =
          node_at-before 0 (m ∷ ms) (All-cons (λ x. 0 < x.number) m ms lt above) in
          absurd (let no : false ≡ true = ap (λ o. option_map_or is_dir o false) (sym none) ∙ root in cc))
      | inr ge ↦ (let zero_m : m.number ≡ 0 = omega arith in ap (λ (x : Node). x.number) (sym same) ∙ zero_m)
    ]

-- and is there
some-first : (nodes : List Node) → IsTrue (is_dir_at 0 nodes) → node_from 0 nodes ≡ None → ⊥
some-first [] root e = cc
some-first (m ∷ ms) root e =
    let found : node_from 0 (m ∷ ms) ≡ Some m = grind (arith, nat_tests) in
    let lie : Some m ≡ None = sym found ∙ e in
    absurd (cc)

-- a root that gets all fields but its place, its kind and its bytes
root-fields : (n : Node) → n.number ≡ 0 → n.parent ≡ None → n.name ≡ root_name
    → n.mode.kind ≡ Directory → n.bytes ≡ [] → with_fields n root_node ≡ n
root-fields n number parent name kind bytes =
    sym (ap (λ k. of k n.parent n.name n.mode.kind n.bytes) number
    ∙ ap (λ p. of 0 p n.name n.mode.kind n.bytes) parent
    ∙ ap (λ t. of 0 None t n.mode.kind n.bytes) name
    ∙ ap (λ k. of 0 None root_name k n.bytes) kind
    ∙ ap (λ b. of 0 None root_name Directory b) bytes)
  where
    of : ℕ → Option ℕ → List ℕ → Kind → List ℕ → Node
    of number parent name kind bytes = record n {
      number = number;
      parent = parent;
      name = name;
      mode = record n.mode { kind = kind };
      bytes = bytes;
    }

-- a directory's kind
dir-kind : (n : Node) → IsTrue (is_dir n) → n.mode.kind ≡ Directory
dir-kind n is =
    elim n.mode.kind as (λ k. IsTrue (is_dir_kind k) → k ≡ Directory) [
      | Directory ↦ λ h. refl
      | File f ↦ λ h. absurd (cc)
    ] is

-- the server made to a number that isn't 0
made_to-some : (k : ℕ) (nodes : List Node) → 0 < k → made_to k nodes ≡ record { nodes = nodes; next = k }
made_to-some zero nodes lt = absurd (omega arith)
made_to-some (suc k) nodes lt = refl

module _ (number : ℕ) (s made : Server) (n : Node) (w : WellFormed s) (m : IsMadeTo number s made)
    (e : node_from number s.nodes ≡ Some n) where
  found : (tail : List Node) × (m.rest ≡ n ∷ tail)
  found =
      from-first number m.rest n m.from
      (sym (from-skips number m.before m.rest m.below) ∙ ap (node_from number) (sym m.all) ∙ e)

  split : s.nodes ≡ m.before ++ n ∷ found.0
  split = m.all ∙ ap (λ (r : List Node). m.before ++ r) found.1

  behind : AllPairs (λ m n. m.number < n.number) (n ∷ found.0)
  behind =
      rising-back m.before (n ∷ found.0)
      (subst (λ (ns : List Node). AllPairs (λ (m n : Node). m.number < n.number) ns) split w.rising)

  pub not_less : number ≤ n.number
  not_less =
      All-head (λ (m : Node). number ≤ m.number) n found.0
      (subst (λ (ns : List Node). All (λ (m : Node). number ≤ m.number) ns) found.1 m.from)

  is_at : node_at n.number s.nodes ≡ Some n
  is_at =
      All-node_from (λ n. node_at n.number s.nodes ≡ Some n) number s.nodes n
      (each_found s.nodes w.rising) e

  pub found-below : n.number < s.next
  found-below = All-node_from (λ n. n.number < s.next) number s.nodes n w.below e

  past : All (λ (m : Node). m.number < n.number) m.before
  past =
      let le : number ≤ n.number = not_less in
      All-weaker (λ (m : Node). m.number < number) (λ (m : Node). m.number < n.number)
      (λ m h. omega arith) m.before m.below

  -- as far as the node
  next_to : (after : Server) → after ≡ record { nodes = m.before ++ n ∷ []; next = n.number + 1 }
      → IsMadeTo (n.number + 1) s after
  next_to after is = record {
    before = m.before ++ n ∷ [];
    rest = found.0;
    all = split ∙ sym (append_assoc m.before (n ∷ []) found.0);
    below =
        All-push (λ (m : Node). m.number < n.number + 1) m.before n
        (All-weaker (λ (m : Node). m.number < n.number) (λ (m : Node). m.number < n.number + 1)
        (λ m h. omega arith) m.before past) (omega arith);
    from = above-first n found.0 behind;
    is = is ∙ sym (made_to-some (n.number + 1) (m.before ++ n ∷ []) (omega arith));
  }

-- the first node is the root
module _ (s made : Server) (n : Node) (w : WellFormed s) (m : IsMadeTo 0 s made)
    (e : node_from 0 s.nodes ≡ Some n) where
  number_zero : n.number ≡ 0
  number_zero = first-number s.nodes n w.rising w.root e

  is_root : node_at 0 s.nodes ≡ Some n
  is_root = ap (λ k. node_at k s.nodes) (sym number_zero) ∙ is_at 0 s made n w m e

  sound_root : IsSound n
  sound_root = w.sound 0 n is_root

  no_parent : n.parent ≡ None
  no_parent =
      elim n.parent as (λ o. n.parent ≡ o → n.parent ≡ None) [
        | None ↦ λ none. none
        | Some p ↦ λ some. absurd (let lt = w.parent_below 0 p n is_root some in omega arith)
      ] refl

  root_dir : IsTrue (is_dir n)
  root_dir = sym (ap (λ o. option_map_or is_dir o false) is_root) ∙ w.root

  none_before : m.before ≡ []
  none_before = nothing m.before m.below
    where
      nothing : (ns : List Node) → All (λ (m : Node). m.number < 0) ns → ns ≡ []
      nothing [] below = refl
      nothing (x ∷ xs) below =
          absurd (let lt = All-head (λ (m : Node). m.number < 0) x xs below in omega arith)

  root-made : put_back n made ≡ record { nodes = m.before ++ n ∷ []; next = n.number + 1 }
  root-made =
      ap (λ o. option_map_or (λ (dir : ℕ). added (skipped_to n.number made) n) o
      (with_changed 0 (with_fields n) made)) no_parent
      ∙ ap (with_changed 0 (with_fields n)) m.is
      ∙ ap (λ r. record { nodes = r ∷ []; next = 1 })
      (root-fields n number_zero no_parent (sound_root.root_name no_parent) (dir-kind n root_dir)
      (sound_root.empty_dir root_dir))
      ∙ ap (λ k. record { nodes = n ∷ []; next = k + 1 }) (sym number_zero)
      ∙ ap (λ (ns : List Node). record { nodes = ns ++ n ∷ []; next = n.number + 1 }) (sym none_before)

  pub root-next : IsNextOf made n
  root-next = record {
    past = λ p some. absurd (let lie : None ≡ Some p = sym no_parent ∙ some in cc);
    root = λ none. sound_root.empty_dir root_dir;
  }

-- another node
module _ (number : ℕ) (s made : Server) (n : Node) (w : WellFormed s) (m : IsMadeTo number s made)
    (e : node_from number s.nodes ≡ Some n) (some : 0 < number) where
  made_before : made ≡ record { nodes = m.before; next = number }
  made_before = m.is ∙ made_to-some number m.before some

  not_root : n.parent ≡ None → ⊥
  not_root none =
      let zero_n : n.number ≡ 0 = w.only_root n.number n (is_at number s made n w m e) none in
      let le : number ≤ n.number = not_less number s made n w m e in omega arith

  node-made : put_back n made ≡ record { nodes = m.before ++ n ∷ []; next = n.number + 1 }
  node-made =
      elim n.parent as (λ o. n.parent ≡ o → option_map_or (λ (dir : ℕ). added (skipped_to n.number made) n) o (with_changed 0 (with_fields n) made) ≡ record { nodes = m.before ++ n ∷ []; next = n.number + 1 }) [
        | None ↦ λ none. absurd (not_root none)
        | Some p ↦ λ there. ap (λ (t : Server). record { nodes = t.nodes ++ n ∷ []; next = n.number + 1 }) made_before
      ] refl

  pub node-next : IsNextOf made n
  node-next = record {
    past = λ p there. subst (λ (t : Server). All (λ (m : Node). m.number < n.number) t.nodes) (sym made_before)
        (past number s made n w m e);
    root = λ none. absurd (not_root none);
  }

module _ (number : ℕ) (s made : Server) (n : Node) (w : WellFormed s) (m : IsMadeTo number s made)
    (e : node_from number s.nodes ≡ Some n) where
  -- the first node from the number on may be put back
  pub is_next : IsNextOf made n
  is_next = elim (cases_lt 0 number) [
    | inl some ↦ node-next number s made n w m e some
    | inr none ↦ root-next s made n w (subst (λ k. IsMadeTo k s made) (at_zero none) m)
        (ap (λ k. node_from k s.nodes) (sym (at_zero none)) ∙ e)
  ]
    where
      at_zero : number ≤ 0 → number ≡ 0
      at_zero le = omega arith

  -- and then the server is made up to it
  pub made-next : IsMadeTo (n.number + 1) s (put_back n made)
  made-next = elim (cases_lt 0 number) [
    | inl some ↦ next_to number s made n w m e (put_back n made) (node-made number s made n w m e some)
    | inr none ↦
        (let m0 = subst (λ k. IsMadeTo k s made) (at_zero none) m in
        let e0 : node_from 0 s.nodes ≡ Some n = ap (λ k. node_from k s.nodes) (sym (at_zero none)) ∙ e in
        next_to 0 s made n w m0 e0 (put_back n made) (root-made s made n w m0 e0))
  ]
    where
      at_zero : number ≤ 0 → number ≡ 0
      at_zero le = omega arith

-- where there is no node from the number on all are made
pub made-all : (number : ℕ) (s made : Server) → WellFormed s → IsMadeTo number s made
    → node_from number s.nodes ≡ None → skipped_to s.next made ≡ s
made-all number s made w m e =
    let none : m.rest ≡ [] =
    from-none number m.rest m.from (sym (from-skips number m.before m.rest m.below) ∙ ap (node_from number) (sym m.all) ∙ e) in
    let all : s.nodes ≡ m.before = m.all ∙ ap (λ r. m.before ++ r) none ∙ append-nil m.before in
    elim (cases_lt 0 number) [
      | inl some ↦ ap (λ (t : Server). record { nodes = t.nodes; next = s.next }) (m.is ∙ made_to-some number m.before some)
          ∙ ap (λ ns. record { nodes = ns; next = s.next }) (sym all)
      | inr zero_n ↦ absurd (some-first s.nodes w.root
          (ap (λ k. node_from k s.nodes) (let z : 0 ≡ number = omega arith in z) ∙ e))
    ]
