-- Two inputs that differ only inside a hidden directory: /vault/key is a file in the one, and a
-- directory in the other.
use Rattle.std.specs.Prelude.{◌≡◌, ◌≢◌, ℕ, false, List, [], ◌∷◌, ◌++◌, None, Ok, codes, map}
use Rattle.p9_base.specs.declared.node_ref.NodeRef.{NodeRef}
use Rattle.p9_step.specs.Step.{Marked}
use Rattle.p9_guard.specs.Served.{served}
use Rattle.p9_commands.specs.Command.{needs_of}
use Rattle.p9_play.specs.Guards.{exported}
use Rattle.p9_prepared.specs.NameSpace.{gap_over}
use Rattle.p9_play.specs.Play.{play_text}
use Rattle.p9_prepared.specs.Prepared.{Prepared, prepared_of}
use Rattle.p9_commands.specs.declared.command.Command.TheVariants.{Play}
use Rattle.p9_input_laws.specs.Laws.{MeetThePremises}
use Rattle.p9_input_laws.specs.Lives.{CanAllHappen, left_after_all}
use Rattle.p9_input_laws.specs.NeverThere.{outer_world}

-- the first lines of both
abbrev pub first_lines : List ℕ
first_lines =
    codes "%% world\nserver main\ndir / 777 sys sys\ndir /empty 755 sys sys\n"
    ++ codes "dir /vault 777 sys sys\n"

-- a file that all may write
abbrev pub file_line : List ℕ
file_line = codes "file /vault/key 666 sys sys 01\n"

-- a directory of glenda's
abbrev pub directory_line : List ℕ
directory_line = codes "dir /vault/key 700 glenda glenda\n"

-- the script of both: glenda attaches, creates a file, renames it, walks to /vault, reads it, and
-- removes the file
abbrev pub script_lines : List ℕ
script_lines =
    codes "%% script\nopen 1\n"
    ++ codes "msg 1 0 1300000064ffff002000000600395032303030\n"
    ++ codes "msg 1 0 1900000068010000000000ffffffff0600676c656e64610000\n"
    ++ codes "msg 1 0 110000006e020000000000010000000000\n"
    ++ codes "msg 1 0 130000007203000100000001006ea401000001\n"
    ++ codes "msg 1 0 3f0000007e04000100000032003000ffffffffffffffffffffffffffffffffffffffffff"
    ++ codes "ffffffffffffffffffffffffffffffffffff01006b000000000000\n"
    ++ codes "msg 1 0 180000006e05000000000002000000010005007661756c74\n"
    ++ codes "msg 1 0 0c0000007006000200000000\n"
    ++ codes "msg 1 0 1700000074070002000000000000000000000000040000\n"
    ++ codes "msg 1 0 0b0000007a080001000000\n"

-- the last lines of both
abbrev pub last_lines : List ℕ
last_lines =
    codes "user glenda\nhide main /vault\n%% ns\nbind /empty /vault\n"
    ++ codes "%% cert\ncert 1\ndir 0 0\ndir 0 1\n"
    ++ script_lines

abbrev pub with_a_file : List ℕ
with_a_file = first_lines ++ file_line ++ last_lines

abbrev pub with_a_directory : List ℕ
with_a_directory = first_lines ++ directory_line ++ last_lines

-- what is printed
abbrev pub reply_lines : List ℕ
reply_lines =
    codes "1300000065ffff002000000600395032303030\n"
    ++ codes "1400000069010080000000000000000000000000\n"
    ++ codes "090000006f02000000\n"
    ++ codes "1800000073030000000000000400000000000000e81f0000\n"
    ++ codes "070000007f0400\n"
    ++ codes "160000006f0500010080000000000100000000000000\n"
    ++ codes "1800000071060080000000000100000000000000e81f0000\n"
    ++ codes "0b00000075070000000000\n"
    ++ codes "070000007b0800\n"

-- Two inputs that meet the premises of the law, with the same reports, and whose forests differ.
-- This is printed over the first, where no request fails for memory.
pub record AreDifferent (input other printed : List ℕ) : Type 0 where
  pub a : Prepared
  pub b : Prepared
  pub premises : MeetThePremises input other a b
  pub reports : b.space.reports ≡ a.space.reports
  pub differ : b.space.world.forest ≢ a.space.world.forest
  pub text : play_text (exported a.space) a.events [] ≡ printed

-- these are such inputs, and these lines are printed
abbrev pub TwoWorldsMeetThePremises : Type 0
TwoWorldsMeetThePremises = AreDifferent with_a_file with_a_directory reply_lines

-- The first of them alone.

-- Without what is inside, the world of the input is another. The certificate has no gap over the
-- world. This is printed over the other, where no request fails for memory.
pub record IsOtherWithoutInsides (input printed : List ℕ) : Type 0 where
  pub its : Prepared
  pub prepared : prepared_of (needs_of Play) input ≡ Ok its
  pub certificate : List NodeRef
  pub closed : gap_over its.space certificate ≡ None
  pub differ : (outer_world its.space.world).forest ≢ its.space.world.forest
  pub text : play_text (served (outer_world its.space.world) its.space.table) its.events []
      ≡ printed

-- the first is such an input, and what is printed is the same as over its world
abbrev pub AWorldIsOtherWithoutInsides : Type 0
AWorldIsOtherWithoutInsides = IsOtherWithoutInsides with_a_file reply_lines

-- the events of an input, where no allocation fails
abbrev pub unmarked : Prepared → List Marked
unmarked its = map (λ event. (event, false)) its.events

-- The events of the input happen in two lives, one after the other. The certificate has no gap over
-- the first world, and the world that is left is another.
pub record AreTwoLives (input : List ℕ) : Type 0 where
  pub its : Prepared
  pub prepared : prepared_of (needs_of Play) input ≡ Ok its
  pub certificate : List NodeRef
  pub closed : gap_over its.space certificate ≡ None
  pub happen : CanAllHappen its.space.world its.space.table (unmarked its ∷ unmarked its ∷ [])
  pub differ : (left_after_all its.space.world its.space.table
      (unmarked its ∷ unmarked its ∷ [])).forest ≢ its.space.world.forest

-- so it is of the first
abbrev pub TwoLivesMeetThePremises : Type 0
TwoLivesMeetThePremises = AreTwoLives with_a_file
