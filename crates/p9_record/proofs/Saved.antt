-- Where a saved node is.
use Rattle.std.proofs.Common.{◌≡◌, ℕ, List, Option, Some, None, refl, sym}
use Rattle.std.specs.Prelude.{option_map}
use Rattle.std.proofs.lemmas.Option.{none-some}
use Rattle.std.specs.Option.{option_map_or}
use Rattle.p9_tree.specs.declared.node.Entry.{Entry}
use Rattle.p9_tree.specs.declared.saved.Saved.{Saved}
use Rattle.p9_tree.specs.Node.{root_name}
use Rattle.p9_tree.specs.Saved.{saved_node}
use Rattle.p9_record.specs.Record.{entry_of}

-- the pair of an entry's fields
abbrev pub pair_of : Entry → ℕ × List ℕ
pair_of e = (e.parent, e.name)

pairs : (entry : Option Entry) (name : List ℕ) → option_map_or (λ e. e.name) entry root_name ≡ name
    → option_map (λ dir. (dir, name)) (option_map (λ e. e.parent) entry) ≡ option_map pair_of entry
pairs None name is = refl
pairs (Some e) name is = rw (← is) refl

pub saved-entry : (saved : Saved) → entry_of (saved_node saved) ≡ option_map pair_of saved.entry
saved-entry saved = pairs saved.entry _ refl

named : (entry : Option Entry) → option_map (λ (e : Entry). e.parent) entry ≡ None
    → option_map_or (λ (e : Entry). e.name) entry root_name ≡ root_name
named None none = refl
named (Some e) none = absurd (none-some e.parent (sym none))

pub saved-root : (saved : Saved) → (saved_node saved).parent ≡ None
    → (saved_node saved).name ≡ root_name
saved-root saved none = named saved.entry none
