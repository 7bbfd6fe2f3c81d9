-- Where texts are in a list, by an index of the texts.
use Rattle.std.specs.Prelude.{◌≡◌, ℕ, List, Option, Some, position}
use Rattle.std.specs.BTreeMap.{get_by_text}
use Rattle.std.specs.Map.{update}
use Rattle.std.specs.Str.{bytes_eq}
use Rattle.p9_world.specs.declared.positions.Positions.{Positions}

module _ {Z : Type 0} where
  -- the position that the index has for the text
  abbrev pub position_at : Positions Z → List ℕ → Option ℕ
  position_at ps text = get_by_text ps.by_text text

  -- each text has the position that it has in the list
  abbrev pub Indexes : Positions Z → List (List ℕ) → Type 0
  Indexes ps texts = (q : List ℕ) → position_at ps q ≡ position (λ other. bytes_eq other q) texts

  -- the text now has this position; all others are as before
  abbrev pub Places : List ℕ → ℕ → Positions Z → Positions Z → Type 0
  Places text count old new = (q : List ℕ)
      → position_at new q ≡ update bytes_eq (position_at old) text (Some count) q

  -- all texts have the same positions
  abbrev pub HasSame : Positions Z → Positions Z → Type 0
  HasSame old new = (q : List ℕ) → position_at new q ≡ position_at old q
