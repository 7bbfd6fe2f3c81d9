-- Tables, and places on them, that name only nodes which were made.
use Rattle.std.proofs.Common.{◌≡◌, ℕ, Bool, true, false, List, [], ◌∷◌, Option, Some, None, Ok, Err}
use Rattle.std.proofs.Common.{map, position, is_some, unwrap_or, remove, refl}
use Rattle.std.specs.Prelude.{if◌then◌else◌}
use Rattle.std.specs.List.{list_all}
use Rattle.std.specs.Option.{option_map_or}
use Rattle.std.specs.Result.{IfOk}
use Rattle.std.proofs.lemmas.Bool.{and_parts}
use Rattle.p9_base.specs.declared.node_ref.NodeRef.{NodeRef}
use Rattle.p9_base.specs.NodeRef.{same_node}
use Rattle.p9_tree.specs.Server.{Server}
use Rattle.p9_table.specs.declared.row.Member.{Member}
use Rattle.p9_table.specs.declared.row.Order.{Order}
use Rattle.p9_table.specs.declared.row.Order.TheVariants.{Replace, Before, After}
use Rattle.p9_table.specs.declared.table.UnmountError.TheVariants.{NotMounted, NotMember}
use Rattle.p9_table.specs.Given.{is_given, is_row_given, is_table_given}
use Rattle.p9_table.specs.Place.{file_ref, first_node}
use Rattle.p9_table.specs.Row.{brought, is_of, joined, member}
use Rattle.p9_table.specs.Table.{MountRow, bound, members_of, row_of, standing, unmounted}
use Rattle.p9_table.specs.Table.{with_members, with_row, without_member, without_row}
use Rattle.p9_table.proofs.GivenLists.{all-append, all-cons, all-insert_entry, all-lookup}
use Rattle.p9_table.proofs.GivenLists.{all-remove, all-remove_entry}

module _ (forest : List Server) where
  abbrev pub is_member_given : Member → Bool
  is_member_given m = is_given forest m.node

  abbrev pub are_given : List Member → Bool
  are_given ms = list_all is_member_given ms

  module _ (table : List MountRow) (given : is_table_given forest table ≡ true) where
    -- what stands for a key, or one that alone stands for it
    row-given : (key : NodeRef) (create : Bool) → is_given forest key ≡ true
        → are_given (unwrap_or (row_of key table) (member create key ∷ [])) ≡ true
    row-given key create made = by (row_of key table) refl
      where
        by : (row : Option (List Member)) → row_of key table ≡ row
            → are_given (unwrap_or row (member create key ∷ [])) ≡ true
        by None e = all-cons is_member_given (member create key) [] made refl
        by (Some ms) e =
            let found = all-lookup (is_row_given forest) (same_node key) table ms given e in
            (and_parts (is_given forest found.0) (are_given ms) found.1).1

    pub members-given : (place : NodeRef) → is_given forest place ≡ true
        → are_given (members_of place table) ≡ true
    members-given place made = row-given place true made

    pub file-given : (place : NodeRef) → is_given forest place ≡ true
        → is_given forest (file_ref place table) ≡ true
    file-given place made = by (members_of place table) (members-given place made)
      where
        by : (ms : List Member) → are_given ms ≡ true → is_given forest (first_node place ms) ≡ true
        by [] all = made
        by (m ∷ ms) all = (and_parts (is_member_given m) (are_given ms) all).0

    with_row-given : (key : NodeRef) (ms : List Member) → is_given forest key ≡ true
        → are_given ms ≡ true → is_table_given forest (with_row key ms table) ≡ true
    with_row-given key ms made all =
        all-insert_entry (is_given forest) are_given same_node table key ms made all given

    without_row-given : (key : NodeRef) → is_table_given forest (without_row key table) ≡ true
    without_row-given key = all-remove_entry (is_row_given forest) (same_node key) table given

    brought-given : (nodes : List NodeRef) (create : Bool) → list_all (is_given forest) nodes ≡ true
        → are_given (brought nodes create) ≡ true
    brought-given [] create all = refl
    brought-given (node ∷ nodes) create all =
        let parts = and_parts (is_given forest node) (list_all (is_given forest) nodes) all in
        all-cons is_member_given (member create node) (map (member false) nodes) parts.0
        (others nodes parts.1)
      where
        others : (nodes : List NodeRef) → list_all (is_given forest) nodes ≡ true
            → are_given (map (member false) nodes) ≡ true
        others [] all = refl
        others (n ∷ ns) all =
            let parts = and_parts (is_given forest n) (list_all (is_given forest) ns) all in
            all-cons is_member_given (member false n) (map (member false) ns) parts.0
            (others ns parts.1)

    joined-given : (order : Order) (new old : List Member) → are_given new ≡ true
        → are_given old ≡ true → are_given (joined order new old) ≡ true
    joined-given Replace new old n o = n
    joined-given Before new old n o = all-append is_member_given new old n o
    joined-given After new old n o = all-append is_member_given old new o n

    pub bound-given : (key : NodeRef) (nodes : List NodeRef) (order : Order) (create : Bool)
        → is_given forest key ≡ true → list_all (is_given forest) nodes ≡ true
        → is_table_given forest (bound key nodes order create table) ≡ true
    bound-given key nodes order create made all =
        with_row-given key (joined order (brought nodes create) (standing key table)) made
        (joined-given order (brought nodes create) (standing key table)
        (brought-given nodes create all) (row-given key false made))

    with_members-given : (key : NodeRef) (ms : List Member) → is_given forest key ≡ true
        → are_given ms ≡ true → is_table_given forest (with_members key ms table) ≡ true
    with_members-given key [] made all = without_row-given key
    with_members-given key (m ∷ ms) made all = with_row-given key (m ∷ ms) made all

    without_member-given : (key node : NodeRef) (ms : List Member) → is_given forest key ≡ true
        → are_given ms ≡ true
        → IfOk (without_member key node table ms) (λ t. is_table_given forest t ≡ true)
    without_member-given key node ms made all = by (position (is_of node) ms)
      where
        by : (i : Option ℕ)
            → IfOk (option_map_or (λ i. Ok (with_members key (remove ms i) table)) i
            (Err NotMember)) (λ t. is_table_given forest t ≡ true)
        by None = tt
        by (Some i) =
            with_members-given key (remove ms i) made (all-remove is_member_given ms i all)

    pub unmounted-given : (key : NodeRef) (node : Option NodeRef) → is_given forest key ≡ true
        → IfOk (unmounted key node table) (λ t. is_table_given forest t ≡ true)
    unmounted-given key None made = by (is_some (row_of key table))
      where
        by : (b : Bool)
            → IfOk (if b then Ok (without_row key table) else Err NotMounted)
            (λ t. is_table_given forest t ≡ true)
        by true = without_row-given key
        by false = tt
    unmounted-given key (Some node) made = by (row_of key table) refl
      where
        by : (row : Option (List Member)) → row_of key table ≡ row
            → IfOk (option_map_or (without_member key node table) row (Err NotMounted))
            (λ t. is_table_given forest t ≡ true)
        by None e = tt
        by (Some ms) e =
            let found = all-lookup (is_row_given forest) (same_node key) table ms given e in
            without_member-given key node ms made
            (and_parts (is_given forest found.0) (are_given ms) found.1).1
