-- By which right a user passes a directory or alters a node.
use Rattle.std.specs.Prelude.{ℕ, ◌++◌, List, Option, Some, codes}
use Rattle.std.specs.Option.{option_map, option_map_or}
use Rattle.p9_base.specs.declared.mode.Rights.{Rights}
use Rattle.p9_tree.specs.Node.{Node}
use Rattle.p9_space.specs.Rights.{Who, to_execute, to_write}
use Rattle.p9_right.specs.Class.{class_of, class_words, ruling_class}
use Rattle.p9_right.specs.declared.right.Deed.{Deed}
use Rattle.p9_right.specs.declared.right.Deed.TheVariants.{Search, Write, Rule}
use Rattle.p9_right.specs.declared.right.Right.{Right}

-- the right to do this, as the first class that has one of the wanted rights; or else the right to
-- change the node's mode, as who rules it
abbrev pub first_right : Who → Node → (wanted : Rights) → Deed → Option Right
first_right who n wanted deed =
    option_map_or (λ class. Some (record { class = class; deed = deed })) (class_of who n wanted)
    (option_map (λ class. record { class = class; deed = Rule }) (ruling_class who n))

-- to search the directory, or else to change its mode
abbrev pub right_of : Who → Node → Option Right
right_of who n = first_right who n to_execute Search

-- to write the node, or else to change its mode
abbrev pub altering_right : Who → Node → Option Right
altering_right who n = first_right who n to_write Write

-- what a class may do
abbrev pub deed_words : Deed → List ℕ
deed_words Search = codes " may search"
deed_words Write = codes " may write"
deed_words Rule = codes " may change its mode"

-- as whom what may be done, where the group is called so
abbrev pub right_words : Right → (group : List ℕ) → List ℕ
right_words right group = class_words right.class group ++ deed_words right.deed
