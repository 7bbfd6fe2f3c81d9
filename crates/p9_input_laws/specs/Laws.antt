-- Inputs that are prepared, and two that differ only inside hidden directories.
use Rattle.std.specs.Prelude.{◌≡◌, ◌↔◌, ℕ, Bool, IsTrue, List, Some, None, Ok, codes}
use Rattle.std.specs.List.{AllByRecursion}
use Rattle.p9_base.specs.declared.node_ref.NodeRef.{NodeRef}
use Rattle.p9_tree.specs.Inside.{outer}
use Rattle.p9_space.specs.Given.{is_table_given}
use Rattle.p9_step.specs.Event.{IsEvent}
use Rattle.p9_guard.specs.Sentence.{IsWellFormed}
use Rattle.p9_guard_laws.specs.Alike.{AreAlike, AreMembersInBoth}
use Rattle.p9_commands.specs.Command.{Printed, WordEnds, needs_of}
use Rattle.p9_play.specs.Guards.{exported}
use Rattle.p9_prepared.specs.NameSpace.{gap_over}
use Rattle.p9_play.specs.Play.{play_text}
use Rattle.p9_prepared.specs.Prepared.{Prepared, prepared_of}
use Rattle.p9_commands.specs.declared.command.Command.TheVariants.{Play}
use Rattle.p9_prepared.specs.declared.prepared.Needs.{Needs}

-- What preparing ensures.

-- The world and the mount table are well-formed. The table names only nodes that were made. Each
-- event of the script can happen.
pub record IsWellFormedInput (input : Prepared) : Type 0 where
  pub space : IsWellFormed input.space.world input.space.table
  pub given : IsTrue (is_table_given input.space.world.forest input.space.table)
  pub events : AllByRecursion IsEvent input.events

-- whatever bytes are prepared, all of this holds of what they come to
abbrev pub PreparedInputsAreWellFormed : Type 0
PreparedInputsAreWellFormed =
    (needs : Needs) (input : List ℕ) (prepared : Prepared)
    → prepared_of needs input ≡ Ok prepared → IsWellFormedInput prepared

-- Two inputs.

-- The same certificate, script, hidden directories, users, groups and mount table; the same nodes
-- that are inside no hidden directory, with all their fields, and the same next numbers. Each
-- member of the mount table is a node in both worlds, or in neither. A test can tell all of this.
pub record AreAlikeInputs (a b : Prepared) : Type 0 where
  pub rows : b.rows ≡ a.rows
  pub events : b.events ≡ a.events
  pub hidden : b.space.world.hidden ≡ a.space.world.hidden
  pub setting : (exported b.space).setting ≡ (exported a.space).setting
  pub others : outer a.space.world.hidden b.space.world.forest
      ≡ outer a.space.world.hidden a.space.world.forest
  pub members : AreMembersInBoth a.space.world.forest b.space.world.forest a.space.table

-- both inputs are prepared for `play`, and they are alike
pub record ArePreparedAlike (input other : List ℕ) (a b : Prepared) : Type 0 where
  pub first : prepared_of (needs_of Play) input ≡ Ok a
  pub second : prepared_of (needs_of Play) other ≡ Ok b
  pub alike : AreAlikeInputs a b

-- the states in which they are exported are alike
abbrev pub AlikeInputsAreExportedAlike : Type 0
AlikeInputsAreExportedAlike =
    (input other : List ℕ) (a b : Prepared) → ArePreparedAlike input other a b
    → AreAlike a.space.world.hidden (exported a.space) (exported b.space)

-- What `play` makes of them.

-- they are prepared, and alike; the first has a certificate without a gap
pub record MeetThePremises (input other : List ℕ) (a b : Prepared) : Type 0 where
  pub prepared : ArePreparedAlike input other a b
  pub certificate : List NodeRef
  pub rows : a.rows ≡ Some certificate
  pub closed : gap_over a.space certificate ≡ None

-- the word of the command
abbrev pub play_word : List ℕ
play_word = codes "play"

-- how both are played
pub record PlayAlike (input other : List ℕ) (a b : Prepared) : Type 0 where
  -- the text is the same, if the same requests fail for memory
  pub text : (marks : List Bool)
      → play_text (exported b.space) b.events marks ≡ play_text (exported a.space) a.events marks
  -- Where the same operations of the namespace files fail, each way in which the command may end
  -- over the one is a way in which it may end over the other: with that status, and with those
  -- bytes on the output and the errors.
  pub ends : b.space.reports ≡ a.space.reports → (status : ℕ) (p : Printed)
      → WordEnds play_word input status p ↔ WordEnds play_word other status p

-- inputs that meet the premises are played alike
abbrev pub AlikeInputsPlayAlike : Type 0
AlikeInputsPlayAlike =
    (input other : List ℕ) (a b : Prepared)
    → MeetThePremises input other a b → PlayAlike input other a b
