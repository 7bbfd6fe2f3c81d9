-- What is kept in a list, one after another: the entries of a directory's contents, and the frames of
-- replies.
use Rattle.std.proofs.Common.{◌≡◌, ℕ, ◌-◌, ◌∙◌, List, [], ◌∷◌, ◌++◌, ap, append-nil, append_assoc}
use Rattle.std.proofs.Common.{drop, length, map, sym, take}
use Rattle.std.proofs.lemmas.List.{length-drop, map-append, take-append-drop}
use Rattle.std.proofs.lemmas.List.Concat.{flat_map-append}
use Rattle.std.proofs.Math.Seq.{take-length}
use Rattle.p9_client.specs.declared.entry.Entry.{Entry}
use Rattle.p9_client.specs.declared.replies.Reply.{Reply}
use Rattle.p9_client.specs.Entry.{entry_view}
use Rattle.p9_client.specs.Files.{spelled}
use Rattle.p9_wire.specs.Fields.{stat_bytes}

-- an entry that the next bytes are is added to those that the bytes before are
pub spelled-more : {A : Type 0} (before all : List (Entry A)) (entry : Entry A) (len : ℕ)
    (rest bytes : List ℕ) → all ≡ before ++ entry ∷ [] → stat_bytes (entry_view entry) ≡ take len rest
    → spelled before ++ rest ≡ bytes
    → spelled all ++ take (length rest - len) (drop len rest) ≡ bytes
spelled-more {A = A} before all entry len rest bytes items next is =
    let spell : Entry A → List ℕ = λ e. stat_bytes (entry_view e) in
    let left : take (length rest - len) (drop len rest) ≡ drop len rest =
    ap (λ (n : ℕ). take n (drop len rest)) (sym (length-drop len rest))
    ∙ take-length (drop len rest) in
    let more : spelled all ≡ spelled before ++ take len rest =
    ap spelled items ∙ flat_map-append spell before (entry ∷ [])
    ∙ ap (λ (bs : List ℕ). spelled before ++ bs) (append-nil (spell entry) ∙ next) in
    ap (λ (bs : List ℕ). bs ++ take (length rest - len) (drop len rest)) more
    ∙ ap (λ (bs : List ℕ). (spelled before ++ take len rest) ++ bs) left
    ∙ append_assoc (spelled before) (take len rest) (drop len rest)
    ∙ ap (λ (bs : List ℕ). spelled before ++ bs) (take-append-drop len rest)
    ∙ is

-- a reply is added
pub frames-more : {A : Type 0} (before all : List (Reply A)) (reply : Reply A) (frame : List ℕ)
    → all ≡ before ++ reply ∷ [] → reply.frame.items ≡ frame
    → map (λ r. r.frame.items) all ≡ map (λ r. r.frame.items) before ++ frame ∷ []
frames-more {A = A} before all reply frame items is =
    let frame_of : Reply A → List ℕ = λ r. r.frame.items in
    ap (map frame_of) items ∙ map-append frame_of before (reply ∷ [])
    ∙ ap (λ (bs : List ℕ). map frame_of before ++ bs ∷ []) is
