-- The two inputs differ, and meet the premises of the law. All of it is computed.
use Rattle.std.proofs.Common.{◌≡◌, ◌≢◌, ℕ, true, false, List, [], ◌∷◌, Some, None}
use Rattle.std.proofs.Common.{Ok, refl, sym, ap, true≢false}
use Rattle.std.specs.Prelude.{◌==◌, codes, is_some, map}
use Rattle.std.specs.Char.{encode_utf8}
use Rattle.std.specs.Str.{chars, is_utf8}
use Rattle.hex.specs.Hex.{decode_pairs, encode_with}
use Rattle.p9_base.specs.declared.mode.Kind.TheVariants.{File}
use Rattle.p9_base.specs.declared.mode.Mode.{Mode}
use Rattle.p9_base.specs.declared.node_ref.NodeRef.{NodeRef}
use Rattle.p9_base.specs.Decimal.{number_of}
use Rattle.p9_base.specs.Mode.{permissions_of}
use Rattle.p9_base.specs.Results.{need, obtain, unless}
use Rattle.p9_base.specs.Statement.{statements_of}
use Rattle.p9_wire.specs.FieldReading.{counted_at, qid_at, several_at, sized_at, stat_fields_at}
use Rattle.p9_wire.specs.FieldReading.{stat_numbers_at, text_at, times}
use Rattle.p9_wire.specs.Fields.{number}
use Rattle.p9_wire.specs.FieldReading.{header_at}
use Rattle.p9_wire.specs.Reading.{t_attach_at, t_body_at, t_message_of, t_open_at}
use Rattle.p9_wire.specs.Reading.{t_create_at, t_read_at, t_remove_at, t_version_at, t_walk_at}
use Rattle.p9_wire.specs.Reading.{t_wstat_at}
use Rattle.p9_wire.specs.Reply.{r_spelling}
use Rattle.p9_tree.specs.Forest.{is_dir_of, next_of, node_of}
use Rattle.p9_tree.specs.Inside.{is_barred, is_hidden, is_inside, outer}
use Rattle.p9_tree.specs.Node.{Node, with_owner}
use Rattle.p9_tree.specs.Server.{root_node}
use Rattle.p9_space.specs.Table.{MountRow}
use Rattle.p9_world.specs.Entry.{NewNode, node_of_line}
use Rattle.p9_world.specs.Mode.{dir_mode}
use Rattle.p9_world.specs.Read.{world_of}
use Rattle.p9_world.specs.World.{World}
use Rattle.p9_cert.specs.Listed.{is_alterable, is_open, is_owned, is_passable}
use Rattle.p9_nsline.specs.Line.{lines_in}
use Rattle.p9_step.specs.Event.{Event, Open, Message}
use Rattle.p9_step.specs.ForestChange.{applied, edited}
use Rattle.p9_step.specs.Read.{entry_bytes}
use Rattle.p9_step.specs.State.{State}
use Rattle.p9_step.specs.Step.{Marked, step}
use Rattle.p9_guard.specs.Marks.{are_permitted}
use Rattle.p9_guard.specs.Sentence.{CanHappen}
use Rattle.p9_guard.specs.Served.{served}
use Rattle.p9_play.specs.Play.{play_text}
use Rattle.p9_play.specs.Guards.{exported}
use Rattle.p9_prepared.specs.NameSpace.{gap_over}
use Rattle.p9_prepared.specs.Prepared.{Prepared, prepared_of}
use Rattle.p9_prepared.specs.declared.prepared.Needs.TheVariants.{Nothing}
use Rattle.p9_input_laws.specs.Lives.{left_after_all}
use Rattle.p9_input_laws.specs.NeverThere.{outer_world}
use Rattle.p9_input_laws.specs.Witness.{AWorldIsOtherWithoutInsides, TwoLivesMeetThePremises}
use Rattle.p9_input_laws.specs.Witness.{TwoWorldsMeetThePremises, reply_lines, unmarked}
use Rattle.p9_input_laws.specs.Witness.{with_a_directory, with_a_file}
use Rattle.p9_input_laws.proofs.Inputs.{prepared-well}

-- What is prepared.

-- what sys has
abbrev of_sys : Mode → List ℕ → NewNode
of_sys mode bytes = record { mode = mode; uid = codes "sys"; gid = codes "sys"; bytes = bytes }

abbrev root : Node
root = with_owner (permissions_of 511) (codes "sys") (codes "sys") root_node

abbrev empty : Node
empty = node_of_line 1 0 (codes "empty") (of_sys (dir_mode (permissions_of 493)) [])

abbrev vault : Node
vault = node_of_line 2 0 (codes "vault") (of_sys (dir_mode (permissions_of 511)) [])

-- /vault/key, as a file and as a directory
abbrev file : Node
file = node_of_line 3 2 (codes "key") (of_sys (record {
  kind = File (record { append_only = false; exclusive = false; temporary = false });
  permissions = permissions_of 438;
}) (1 ∷ []))

abbrev directory : Node
directory = node_of_line 3 2 (codes "key") (record {
  mode = dir_mode (permissions_of 448);
  uid = codes "glenda";
  gid = codes "glenda";
  bytes = [];
})

abbrev at : ℕ → NodeRef
at number = record { server = 0; number = number }

-- the world with this node for /vault/key
abbrev world : Node → World
world key = record {
  forest = record { nodes = root ∷ empty ∷ vault ∷ key ∷ []; next = 4 } ∷ [];
  users = codes "glenda" ∷ [];
  groups = [];
  hidden = at 2 ∷ [];
  vars = [];
  servers = codes "main" ∷ [];
}

abbrev table : List MountRow
table = (at 2, record { node = at 1; create = false } ∷ []) ∷ []

abbrev rows : List NodeRef
rows = at 0 ∷ at 1 ∷ []

-- the frames of the script
abbrev version : List ℕ
version =
    19 ∷ 0 ∷ 0 ∷ 0 ∷ 100 ∷ 255 ∷ 255 ∷ 0 ∷ 32 ∷ 0 ∷ 0 ∷ 6 ∷ 0 ∷ 57 ∷ 80 ∷ 50 ∷ 48 ∷ 48 ∷ 48 ∷ []

abbrev attach : List ℕ
attach =
    25 ∷ 0 ∷ 0 ∷ 0 ∷ 104 ∷ 1 ∷ 0 ∷ 0 ∷ 0 ∷ 0 ∷ 0 ∷ 255 ∷ 255 ∷ 255 ∷ 255 ∷ 6 ∷ 0 ∷ 103 ∷ 108 ∷ 101
    ∷ 110 ∷ 100 ∷ 97 ∷ 0 ∷ 0 ∷ []

abbrev walk : List ℕ
walk =
    17 ∷ 0 ∷ 0 ∷ 0 ∷ 110 ∷ 2 ∷ 0 ∷ 0 ∷ 0 ∷ 0 ∷ 0 ∷ 1 ∷ 0 ∷ 0 ∷ 0 ∷ 0 ∷ 0 ∷ []

abbrev create : List ℕ
create =
    19 ∷ 0 ∷ 0 ∷ 0 ∷ 114 ∷ 3 ∷ 0 ∷ 1 ∷ 0 ∷ 0 ∷ 0 ∷ 1 ∷ 0 ∷ 110 ∷ 164 ∷ 1 ∷ 0 ∷ 0 ∷ 1 ∷ []

abbrev rename : List ℕ
rename =
    63 ∷ 0 ∷ 0 ∷ 0 ∷ 126 ∷ 4 ∷ 0 ∷ 1 ∷ 0 ∷ 0 ∷ 0 ∷ 50 ∷ 0 ∷ 48 ∷ 0 ∷ 255 ∷ 255 ∷ 255 ∷ 255 ∷ 255
    ∷ 255 ∷ 255 ∷ 255 ∷ 255 ∷ 255 ∷ 255 ∷ 255 ∷ 255 ∷ 255 ∷ 255 ∷ 255 ∷ 255 ∷ 255 ∷ 255 ∷ 255 ∷ 255
    ∷ 255 ∷ 255 ∷ 255 ∷ 255 ∷ 255 ∷ 255 ∷ 255 ∷ 255 ∷ 255 ∷ 255 ∷ 255 ∷ 255 ∷ 255 ∷ 255 ∷ 255 ∷ 255
    ∷ 255 ∷ 255 ∷ 1 ∷ 0 ∷ 107 ∷ 0 ∷ 0 ∷ 0 ∷ 0 ∷ 0 ∷ 0 ∷ []

abbrev walk_to_vault : List ℕ
walk_to_vault =
    24 ∷ 0 ∷ 0 ∷ 0 ∷ 110 ∷ 5 ∷ 0 ∷ 0 ∷ 0 ∷ 0 ∷ 0 ∷ 2 ∷ 0 ∷ 0 ∷ 0 ∷ 1 ∷ 0 ∷ 5 ∷ 0 ∷ 118 ∷ 97 ∷ 117
    ∷ 108 ∷ 116 ∷ []

abbrev open_vault : List ℕ
open_vault =
    12 ∷ 0 ∷ 0 ∷ 0 ∷ 112 ∷ 6 ∷ 0 ∷ 2 ∷ 0 ∷ 0 ∷ 0 ∷ 0 ∷ []

abbrev read_vault : List ℕ
read_vault =
    23 ∷ 0 ∷ 0 ∷ 0 ∷ 116 ∷ 7 ∷ 0 ∷ 2 ∷ 0 ∷ 0 ∷ 0 ∷ 0 ∷ 0 ∷ 0 ∷ 0 ∷ 0 ∷ 0 ∷ 0 ∷ 0 ∷ 0 ∷ 4 ∷ 0 ∷ 0
    ∷ []

abbrev remove : List ℕ
remove =
    11 ∷ 0 ∷ 0 ∷ 0 ∷ 122 ∷ 8 ∷ 0 ∷ 1 ∷ 0 ∷ 0 ∷ 0 ∷ []

-- at the time 0
abbrev message : List ℕ → Event
message frame = Message 1 frame 0

abbrev events : List Event
events =
    Open 1 ∷ message version ∷ message attach ∷ message walk ∷ message create ∷ message rename
    ∷ message walk_to_vault ∷ message open_vault ∷ message read_vault ∷ message remove ∷ []

abbrev prepared : Node → Prepared
prepared key = record {
  space = record { world = world key; table = table; reports = [] };
  rows = Some rows;
  events = events;
}

first-prepared : prepared_of Nothing with_a_file ≡ Ok (prepared file)
unfolding chars is_utf8 encode_utf8 decode_pairs number_of need obtain statements_of world_of
    lines_in
first-prepared = refl

second-prepared : prepared_of Nothing with_a_directory ≡ Ok (prepared directory)
unfolding chars is_utf8 encode_utf8 decode_pairs number_of need obtain statements_of world_of
    lines_in
second-prepared = refl

-- the certificate has no gap
no-gap : gap_over (prepared file).space rows ≡ None
unfolding is_alterable is_barred is_hidden is_inside is_open is_owned is_passable
no-gap = refl

-- without /vault/key they are the same
same-outer : outer (at 2 ∷ []) (world directory).forest ≡ outer (at 2 ∷ []) (world file).forest
unfolding outer
same-outer = refl

-- /vault/key is a directory in one alone
differ : (world directory).forest ≢ (world file).forest
differ same = true≢false (ap (is_dir_of (at 3)) same)

-- what is printed
prints : play_text (exported (prepared file).space) events [] ≡ reply_lines
unfolding encode_with chars is_utf8 encode_utf8 need obtain unless text_at counted_at times
    several_at sized_at qid_at number header_at t_version_at t_attach_at t_walk_at t_create_at t_wstat_at
    stat_fields_at stat_numbers_at t_open_at t_read_at t_remove_at t_body_at t_message_of r_spelling edited applied
    entry_bytes
prints = refl

pub worlds-differ : TwoWorldsMeetThePremises
worlds-differ = record {
  a = prepared file;
  b = prepared directory;
  premises = record {
    prepared = record {
      first = first-prepared;
      second = second-prepared;
      alike = record {
        rows = refl;
        events = refl;
        hidden = refl;
        setting = refl;
        others = same-outer;
        members = ((refl, tt), tt);
      };
    };
    certificate = rows;
    rows = refl;
    closed = no-gap;
  };
  reports = refl;
  differ = differ;
  text = prints;
}

-- The first alone.

-- /vault/key is there in its world alone
other : (outer_world (world file)).forest ≢ (world file).forest
unfolding outer
other same = true≢false (sym (ap (λ forest. is_some (node_of (at 3) forest)) same))

prints-outer : play_text (served (outer_world (world file)) table) events [] ≡ reply_lines
unfolding outer encode_with chars is_utf8 encode_utf8 need obtain unless text_at counted_at times
    several_at sized_at qid_at number header_at t_version_at t_attach_at t_walk_at t_create_at
    t_wstat_at stat_fields_at stat_numbers_at t_open_at t_read_at t_remove_at t_body_at t_message_of r_spelling
    edited applied entry_bytes
prints-outer = refl

pub world-is-other : AWorldIsOtherWithoutInsides
world-is-other = record {
  its = prepared file;
  prepared = first-prepared;
  certificate = rows;
  closed = no-gap;
  differ = other;
  text = prints-outer;
}

-- where no mark is set, all are permitted
none-marked : (state : State) (events : List Event)
    → are_permitted state (map (λ event. (event, false)) events) ≡ true
none-marked state [] = refl
none-marked state (event ∷ events) = none-marked (step state event false).state events

happens : (state : State) → CanHappen state (unmarked (prepared file))
happens state = record {
  each = (prepared-well Nothing with_a_file (prepared file) first-prepared).events;
  permitted = none-marked state events;
}

lives : List (List Marked)
lives = unmarked (prepared file) ∷ unmarked (prepared file) ∷ []

-- the two lives have given two numbers
left-is-other : (left_after_all (world file) table lives).forest ≢ (world file).forest
unfolding lives encode_with chars is_utf8 encode_utf8 need obtain unless text_at counted_at times
    several_at sized_at qid_at number header_at t_version_at t_attach_at t_walk_at t_create_at
    t_wstat_at stat_fields_at stat_numbers_at t_open_at t_read_at t_remove_at t_body_at t_message_of r_spelling
    edited applied entry_bytes
left-is-other same = true≢false (sym (ap (λ forest. next_of 0 forest == 4) same))

pub lives-differ : TwoLivesMeetThePremises
unfolding lives
lives-differ = record {
  its = prepared file;
  prepared = first-prepared;
  certificate = rows;
  closed = no-gap;
  happen = (happens _, (happens _, tt));
  differ = left-is-other;
}
