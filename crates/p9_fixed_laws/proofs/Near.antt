-- Two answers that leave the same session, and whose replies take as many bytes.
use Rattle.std.proofs.Common.{◌≡◌, ◌∙◌, ℕ, Bool, true, false, List, [], ◌∷◌, Option, Some, None}
use Rattle.std.proofs.Common.{refl, sym, ap, map, length, ◌+◌}
use Rattle.std.specs.Prelude.{option_map, if◌then◌else◌}
use Rattle.std.specs.List.{flat_map}
use Rattle.p9_base.specs.Results.{need, obtain}
use Rattle.p9_base.specs.declared.fault.Fault.{Fault}
use Rattle.p9_base.specs.declared.node_ref.NodeRef.{NodeRef}
use Rattle.p9_tree.specs.Forest.{node_of}
use Rattle.p9_tree.specs.Node.{Node, touched}
use Rattle.p9_tree.specs.Server.{Server}
use Rattle.p9_tree.specs.Unread.{all_unread}
use Rattle.p9_inside.proofs.Facts.{not_some, some_same}
use Rattle.p9_wire.specs.Spelling.{r_len}
use Rattle.p9_fids.specs.Fid.{changed_fid, opened_as}
use Rattle.p9_fids.specs.declared.opened.Cursor.{Cursor}
use Rattle.p9_fids.specs.declared.opened.Opened.{Opened}
use Rattle.p9_step.specs.Answer.{Answer, outcome_of}
use Rattle.p9_step.specs.Listing.{UnionEntry}
use Rattle.p9_step.specs.Read.{cursor_after, entries_answer, entries_or_fault, entry_bytes, fitting}
use Rattle.p9_step.specs.State.{Session}
use Rattle.p9_fixed_laws.proofs.Entries.{all_long-bare, bare, cursor-bare, fitting-bare}
use Rattle.p9_fixed_laws.proofs.Unread.{AreUnread, both-unread}

module _ (session : Session) where
  pub record IsNear (x y : Answer) : Type 0 where
    pub left : (outcome_of session x).session ≡ (outcome_of session y).session
    pub long : r_len (outcome_of session x).reply ≡ r_len (outcome_of session y).reply

  pub near-same : (x y : Answer) → x ≡ y → IsNear x y
  near-same x y e = record {
    left = ap (λ z. (outcome_of session z).session) e;
    long = ap (λ z. r_len (outcome_of session z).reply) e;
  }

  pub near-then : (x y z : Answer) → IsNear x y → IsNear y z → IsNear x z
  near-then x y z a b = record { left = a.left ∙ b.left; long = a.long ∙ b.long }

  pub near-back : (x y : Answer) → IsNear x y → IsNear y x
  near-back x y a = record { left = sym a.left; long = sym a.long }

  pub near-given : {X : Type 0} (o : Option X) (fault : Fault) (x y : X → Answer)
      → ((v : X) → o ≡ Some v → IsNear (x v) (y v)) → IsNear (obtain o fault x) (obtain o fault y)
  unfolding obtain
  near-given (Some v) fault x y h = h v refl
  near-given None fault x y h = record { left = refl; long = refl }

  pub near-need : (b : Bool) (fault : Fault) (x y : Answer) → IsNear x y
      → IsNear (need b fault x) (need b fault y)
  unfolding need
  near-need true fault x y h = h
  near-need false fault x y h = record { left = refl; long = refl }

  pub near-if : (b c : Bool) (x y x' y' : Answer) → b ≡ c → IsNear x y → IsNear x' y'
      → IsNear (if b then x else x') (if c then y else y')
  near-if true true x y x' y' e h k = h
  near-if false false x y x' y' e h k = k
  near-if true false x y x' y' e h k = let no : true ≡ false = e in absurd (cc)
  near-if false true x y x' y' e h k = let no : false ≡ true = e in absurd (cc)

  -- of a node in two forests that are the same apart from times of last access
  pub near-node : (f g : List Server) → all_unread f ≡ all_unread g → (at : NodeRef) (fault : Fault)
      (x y : Node → Answer) → ((m n : Node) → AreUnread m n → IsNear (x m) (y n))
      → IsNear (obtain (node_of at f) fault x) (obtain (node_of at g) fault y)
  unfolding obtain
  near-node f g same at fault x y h =
      go (node_of at f) (node_of at g) (both-unread f g same at)
    where
      go : (o p : Option Node) → option_map (touched 0) o ≡ option_map (touched 0) p
          → IsNear (obtain o fault x) (obtain p fault y)
      go None None e = record { left = refl; long = refl }
      go None (Some n) e = not_some (touched 0 n) e
      go (Some m) None e = not_some (touched 0 m) (sym e)
      go (Some m) (Some n) e = h m n (some_same (touched 0 m) (touched 0 n) e)

  module _ (fid : ℕ) (opened : Opened) (offset : ℕ) (cursor : Option Cursor) where
    entries-near : (es : List UnionEntry)
        → IsNear (entries_answer session fid opened offset cursor (map bare es))
        (entries_answer session fid opened offset cursor es)
    entries-near es = record {
      left =
          ap (λ size. record session {
            fids =
                changed_fid fid (opened_as (record opened {
                  next_offset = offset + size;
                  cursor = cursor_after cursor (map bare es);
                })) session.fids;
          }) (all_long-bare es)
          ∙ ap (λ last. record session {
            fids =
                changed_fid fid (opened_as (record opened {
                  next_offset = offset + length (flat_map entry_bytes es);
                  cursor = last;
                })) session.fids;
          }) (cursor-bare cursor es);
      long = ap (λ size. 4 + size) (all_long-bare es);
    }

    or_fault-near : (left fit : List UnionEntry)
        → IsNear (entries_or_fault session fid opened offset cursor (map bare left) (map bare fit))
        (entries_or_fault session fid opened offset cursor left fit)
    or_fault-near [] [] = entries-near []
    or_fault-near [] (e ∷ es) = entries-near (e ∷ es)
    or_fault-near (e ∷ es) [] = record { left = refl; long = refl }
    or_fault-near (e ∷ es) (d ∷ ds) = entries-near (d ∷ ds)

    fitting-near : (room : ℕ) (left : List UnionEntry)
        → IsNear
        (entries_or_fault session fid opened offset cursor (map bare left)
        (fitting room (map bare left)))
        (entries_or_fault session fid opened offset cursor left (fitting room left))
    fitting-near room left =
        near-then _ _ _
        (near-same _ _
        (ap (entries_or_fault session fid opened offset cursor (map bare left))
        (fitting-bare room left)))
        (or_fault-near left (fitting room left))

    -- a listing that is the same apart from times of last access
    pub listing-near : (room : ℕ) (left other : List UnionEntry) → map bare left ≡ map bare other
        → IsNear (entries_or_fault session fid opened offset cursor left (fitting room left))
        (entries_or_fault session fid opened offset cursor other (fitting room other))
    listing-near room left other e =
        near-then _ _ _ (near-back _ _ (fitting-near room left))
        (near-then _ _ _
        (near-same _ _
        (ap (λ es. entries_or_fault session fid opened offset cursor es (fitting room es)) e))
        (fitting-near room other))
