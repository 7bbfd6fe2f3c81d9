-- A path that is walked piece by piece.
use Rattle.std.proofs.Common.{◌≡◌, ℕ, ◌+◌, ◌-◌, ◌≤◌, ◌∙◌, List, [], ◌∷◌, ◌++◌, Option, ap, append-nil, append_assoc, arith}
use Rattle.std.proofs.Common.{drop, map, refl, subst, sym, take}
use Rattle.std.proofs.Math.Seq.{take-add}
use Rattle.std.proofs.lemmas.List.{map-append}
use Rattle.std.specs.List.{flat_map}
use Rattle.p9_client.specs.Files.{WalksOn, WalksPath, WalksPiece}
use Rattle.p9_client.specs.Session.{Talk}

joined : (pieces : List (List (List ℕ))) (piece : List (List ℕ))
    → flat_map (λ p. p) (pieces ++ piece ∷ []) ≡ flat_map (λ p. p) pieces ++ piece
joined [] piece = append-nil piece
joined (first ∷ pieces) piece =
    ap (λ (zs : List (List ℕ)). first ++ zs) (joined pieces piece)
    ∙ sym (append_assoc first (flat_map (λ p. p) pieces) piece)

-- the names up to a place, and those from there to another
pub names-split : {X : Type 0} (f : X → List ℕ) (from to : ℕ) (xs : List X) → from ≤ to
    → map f (take to xs) ≡ map f (take from xs) ++ map f (take (to - from) (drop from xs))
names-split f from to xs ordered =
    let end : to ≡ from + (to - from) = omega (arith, ordered) in
    ap (λ (n : ℕ). map f (take n xs)) end ∙ ap (map f) (take-add from (to - from) xs)
    ∙ map-append f (take from xs) (take (to - from) (drop from xs))

module _ {S : Type 0} (remaining contents : S → Option (List ℕ)) where
  walks-more : (fid : ℕ) (pieces : List (List (List ℕ))) (piece : List (List ℕ))
      (old mid new : Talk S) → WalksOn remaining contents fid pieces old mid
      → WalksPiece remaining contents fid fid piece mid new
      → WalksOn remaining contents fid (pieces ++ piece ∷ []) old new
  walks-more fid [] piece old mid new same more =
      (new, subst (λ (s : Talk S). WalksPiece remaining contents fid fid piece s new) same more, refl)
  walks-more fid (first ∷ pieces) piece old mid new walks more =
      (walks.0, walks.1, walks-more fid pieces piece walks.0 mid new walks.2 more)

  -- the first piece
  pub path-begun : (fid newfid : ℕ) (path : List (List ℕ)) (old new : Talk S)
      → WalksPiece remaining contents fid newfid path old new
      → WalksPath remaining contents fid newfid path old new
  path-begun fid newfid path old new begins =
      record {
        first = path;
        pieces = [];
        joined = append-nil path;
        mid = new;
        begins = begins;
        walks = refl;
      }

  -- a further piece
  pub path-more : (fid newfid : ℕ) (path piece all : List (List ℕ)) (old mid new : Talk S)
      → WalksPath remaining contents fid newfid path old mid
      → WalksPiece remaining contents newfid newfid piece mid new → all ≡ path ++ piece
      → WalksPath remaining contents fid newfid all old new
  path-more fid newfid path piece all old mid new walked more all_is =
      record {
        first = walked.first;
        pieces = walked.pieces ++ piece ∷ [];
        joined = ap (λ (zs : List (List ℕ)). walked.first ++ zs) (joined walked.pieces piece)
            ∙ sym (append_assoc walked.first (flat_map (λ p. p) walked.pieces) piece)
            ∙ ap (λ (zs : List (List ℕ)). zs ++ piece) walked.joined ∙ sym all_is;
        mid = walked.mid;
        begins = walked.begins;
        walks = walks-more newfid walked.pieces piece walked.mid mid new walked.walks more;
      }
