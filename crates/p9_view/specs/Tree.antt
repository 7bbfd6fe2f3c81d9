-- The tree of a name space, as it is printed: a line for each entry of a tour.
use Rattle.std.specs.Prelude.{◌≡◌, ℕ, ◌+◌, List, [], ◌++◌, Option, Some, None, Result, Ok, Err}
use Rattle.std.specs.Prelude.{MatchOption, codes, find, length, slice_get}
use Rattle.std.specs.Str.{bytes_eq}
use Rattle.p9_shown.specs.Text.{shown_text}
use Rattle.p9_space.specs.Rights.{Who}
use Rattle.p9_world.specs.World.{World}
use Rattle.p9_prepared.specs.NameSpace.{NameSpace}
use Rattle.p9_prepared.specs.Prepared.{Prepared, Rejected, rejected_text}
use Rattle.p9_prepared.specs.Report.{reports_text}
use Rattle.p9_view.specs.declared.tour.Entry.{Entry}
use Rattle.p9_view.specs.Line.{line_text}
use Rattle.p9_view.specs.Tour.{IsTextOfSame, IsTextTo, IsTourOf}

-- the text has the lines of the first so many entries, in their order
pub data AreLines (space : NameSpace) (who : Option Who) (entries : List Entry) :
    ℕ → List ℕ → Type 0 where
  NoLine : AreLines space who entries 0 []
  OneMore : (i : ℕ) (text : List ℕ) (e : Entry) (path : List ℕ) (same : Option (List ℕ))
      → AreLines space who entries i text → slice_get entries i ≡ Some e
      → IsTextTo entries i path → IsTextOfSame entries e.same same
      → AreLines space who entries (i + 1) (text ++ line_text space who path same e)

-- the text has a line for each entry of a tour of the name space
pub record IsTree (space : NameSpace) (who : Option Who) (text : List ℕ) : Type 0 where
  pub entries : List Entry
  pub tour : IsTourOf space.world.forest space.table who entries
  pub lines : AreLines space who entries (length entries) text

-- What is printed: `out`, `err`, and the exit status.

-- the tree, after what failed in the making of the name space
pub record IsShown (space : NameSpace) (who : Option Who) (status : ℕ)
    (out_before out_after err_before err_after : List ℕ) : Type 0 where
  pub done : status ≡ 0
  pub text : List ℕ
  pub tree : IsTree space who text
  pub printed : out_after ≡ out_before ++ text
  pub reported : err_after ≡ err_before ++ reports_text space.reports

-- only these reports
pub record IsRefused (reports : List ℕ) (status : ℕ)
    (out_before out_after err_before err_after : List ℕ) : Type 0 where
  pub refused : status ≡ 1
  pub printed : out_after ≡ out_before
  pub reported : err_after ≡ err_before ++ reports

-- the user is not listed
abbrev pub unlisted_text : List ℕ → List ℕ
unlisted_text user = shown_text user ++ codes ": no listed user\n"

-- a listed user, with the world's groups
abbrev pub who_in : World → List ℕ → Who
who_in world user = record { user = user; groups = world.groups }

-- for a listed user, or without one
abbrev pub IsShownTo : NameSpace → Option (List ℕ) → (status : ℕ)
    (out_before out_after err_before err_after : List ℕ) → Type 0
IsShownTo space None status out_before out_after err_before err_after =
    IsShown space None status out_before out_after err_before err_after
IsShownTo space (Some name) status out_before out_after err_before err_after =
    MatchOption (find (bytes_eq name) space.world.users)
    (IsRefused (reports_text space.reports ++ unlisted_text name) status out_before out_after
    err_before err_after)
    (λ user. IsShown space (Some (who_in space.world user)) status out_before out_after
    err_before err_after)

-- of an input, where it has no fault
abbrev pub IsInputShown : Result Prepared Rejected → Option (List ℕ) → (status : ℕ)
    (out_before out_after err_before err_after : List ℕ) → Type 0
IsInputShown (Ok prepared) user status out_before out_after err_before err_after =
    IsShownTo prepared.space user status out_before out_after err_before err_after
IsInputShown (Err rejected) user status out_before out_after err_before err_after =
    IsRefused (rejected_text rejected) status out_before out_after err_before err_after
