-- A file that is read piece by piece.
use Rattle.std.proofs.Common.{◌≡◌, ℕ, ◌+◌, ◌∙◌, List, [], ◌∷◌, ◌++◌, Option, ap, append_assoc, arith}
use Rattle.std.proofs.Common.{length, refl, subst, sym, take}
use Rattle.std.proofs.lemmas.List.{append-nil, length-append}
use Rattle.std.specs.List.{concat}
use Rattle.p9_wire.specs.Message.{Tread}
use Rattle.p9_client.specs.Files.{ReadsPiece, ReadsPieces, ReadsWhole}
use Rattle.p9_client.specs.Kinds.{IsRead}
use Rattle.p9_client.specs.Reply.{IsReply}
use Rattle.p9_client.specs.Session.{Gets, Talk}

module _ {S : Type 0} (remaining contents : S → Option (List ℕ)) where
  -- a further piece
  pieces-more : (fid offset : ℕ) (pieces : List (List ℕ)) (piece : List ℕ) (old mid new : Talk S)
      → ReadsPieces remaining contents fid offset pieces old mid
      → ReadsPiece remaining contents fid (offset + length (concat pieces)) piece mid new
      → ReadsPieces remaining contents fid offset (pieces ++ piece ∷ []) old new
  pieces-more fid offset [] piece old mid new same more =
      let at : offset + 0 ≡ offset = omega arith in (
        new,
        subst (λ (s : Talk S). ReadsPiece remaining contents fid offset piece s new) same
            (subst (λ (n : ℕ). ReadsPiece remaining contents fid n piece mid new) at more),
        refl,
      )
  pieces-more fid offset (first ∷ pieces) piece old mid new h more =
      let next = h.0 in
      let at : offset + length (first ++ concat pieces) ≡ offset + length first + length (concat pieces) =
      omega (arith, length-append first (concat pieces)) in (
        next,
        h.1,
        pieces-more fid (offset + length first) pieces piece next mid new h.2
            (subst (λ (n : ℕ). ReadsPiece remaining contents fid n piece mid new) at more),
      )

  joined-more : (pieces : List (List ℕ)) (piece : List ℕ)
      → concat (pieces ++ piece ∷ []) ≡ concat pieces ++ piece
  joined-more [] piece = append-nil piece
  joined-more (first ∷ pieces) piece =
      ap (λ (zs : List ℕ). first ++ zs) (joined-more pieces piece)
      ∙ sym (append_assoc first (concat pieces) piece)

  -- so many bytes were read, and these are what they are
  pub record HasRead (fid offset : ℕ) (bytes : List ℕ) (old new : Talk S) : Type 0 where
    pub pieces : List (List ℕ)
    pub joined : concat pieces ≡ bytes
    pub ends : offset ≡ length bytes
    pub reads : ReadsPieces remaining contents fid 0 pieces old new

  pub nothing-read : (fid : ℕ) (bytes : List ℕ) (old : Talk S) → bytes ≡ [] → HasRead fid 0 bytes old old
  nothing-read fid bytes old none =
      record { pieces = []; joined = sym none; ends = ap length (sym none); reads = refl }

  -- what one call read
  pub piece-of : (fid offset most count : ℕ) (before after : List ℕ) (old new : Talk S)
      → Gets remaining contents (Tread fid offset most) old.tag (IsRead most before after) old new count
      → ReadsPiece remaining contents fid offset (take count after) old new
  piece-of fid offset most count before after old new gets =
      record {
        most = most;
        asked = gets.asked;
        answer = subst (IsReply new.reply old.tag) gets.answer.2.is gets.answer.1;
      }

  at-end : (fid offset : ℕ) (bytes piece : List ℕ) (old mid new : Talk S)
      → (read : HasRead fid offset bytes old mid)
      → ReadsPiece remaining contents fid offset piece mid new
      → ReadsPiece remaining contents fid (0 + length (concat read.pieces)) piece mid new
  at-end fid offset bytes piece old mid new read more =
      let at : offset ≡ 0 + length (concat read.pieces) =
      omega (arith, read.ends, ap length read.joined) in
      subst (λ (n : ℕ). ReadsPiece remaining contents fid n piece mid new) at more

  -- a further piece was read
  pub more-read : (fid offset next : ℕ) (bytes piece all : List ℕ) (old mid new : Talk S)
      → HasRead fid offset bytes old mid
      → ReadsPiece remaining contents fid offset piece mid new → all ≡ bytes ++ piece
      → next ≡ offset + length piece → HasRead fid next all old new
  more-read fid offset next bytes piece all old mid new read more all-is next-is =
      record {
        pieces = read.pieces ++ piece ∷ [];
        joined = joined-more read.pieces piece
            ∙ ap (λ (zs : List ℕ). zs ++ piece) read.joined ∙ sym all-is;
        ends = omega (
          arith,
          next-is,
          read.ends,
          length-append bytes piece,
          ap length all-is,
        );
        reads = pieces-more fid 0 read.pieces piece old mid new read.reads
            (at-end fid offset bytes piece old mid new read more);
      }

  -- nothing more is there
  pub whole-read : (fid offset : ℕ) (bytes piece : List ℕ) (old mid new : Talk S)
      → HasRead fid offset bytes old mid
      → ReadsPiece remaining contents fid offset piece mid new → piece ≡ []
      → ReadsWhole remaining contents fid bytes old new
  whole-read fid offset bytes piece old mid new read more none =
      let last : ReadsPiece remaining contents fid offset [] mid new =
      subst (λ (zs : List ℕ). ReadsPiece remaining contents fid offset zs mid new) none more in
      record {
        pieces = read.pieces;
        joined = read.joined;
        reads = pieces-more fid 0 read.pieces [] old mid new read.reads
            (at-end fid offset bytes [] old mid new read last);
      }
