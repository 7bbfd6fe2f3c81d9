-- A change is read as it is spelled: what is spelled is read back, and nothing else is read.
use Rattle.std.proofs.Common.{◌≡◌, ℕ, ◌<◌, ◌^◌, Bool, true, false, IsTrue, List, ◌++◌, cond, eqb}
use Rattle.std.proofs.Common.{Option, Some, None, refl, sym, ap, subst, ◌∙◌, append_assoc, arith}
use Rattle.std.specs.Prelude.{option_map}
use Rattle.std.specs.Option.{ForSome, option_map_or}
use Rattle.std.proofs.lemmas.Bool.{eqb-true}
use Rattle.std.proofs.lemmas.Option.{cond_some, none-some, same_Some}
use Rattle.p9_base.specs.declared.mode.Kind.TheVariants.{Directory, File}
use Rattle.p9_base.specs.declared.mode.Mode.{Mode}
use Rattle.p9_base.specs.declared.mode.Permissions.{Permissions}
use Rattle.p9_base.specs.Mode.{is_dir, is_dir_kind, mode_bits, mode_of}
use Rattle.p9_base.specs.Name.{is_name}
use Rattle.p9_base.specs.User.{is_user}
use Rattle.p9_tree.specs.Edit.{Edit, SetRoot, Create, Remove, Wstat, Mark, Write}
use Rattle.p9_tree.specs.Edit.{Truncate, PutBack, Skip}
use Rattle.p9_tree.specs.ForestEdit.{ForestEdit, AddServer, OnServer}
use Rattle.p9_tree.specs.Node.{Node, root_name}
use Rattle.p9_wire.specs.Fields.{number, text, counted}
use Rattle.p9_wire.specs.FieldReading.{◌and_then◌, Reader, ◌then◌, mapped, number_at, text_at}
use Rattle.p9_wire.specs.Frame.{IsBytes}
use Rattle.p9_wire.proofs.Bytes.{IsBytes-back}
use Rattle.p9_wire.proofs.Codes.{Codes, bind_some, number-codes, text-codes, then-codes}
use Rattle.p9_wire.proofs.Codes.{counted-codes, made-complete, made-sound, same-codes}
use Rattle.p9_record.specs.Record.{mode_bytes, permissions_bytes, optional, change_bytes}
use Rattle.p9_record.specs.Record.{entry_bytes, entry_of, node_bytes, spelling, forest_spelling}
use Rattle.p9_record.specs.Record.{FitsEdit, FitsChange, FitsEntry, FitsNode}
use Rattle.p9_record.specs.Record.{FitsForestEdit, kind_of, body}
use Rattle.p9_record.specs.RecordReading.{name_at, user_at, mode_at, permissions_at, optional_at}
use Rattle.p9_record.specs.RecordReading.{given, entry_at, node_at, change_at, set_root_at}
use Rattle.p9_record.specs.RecordReading.{create_at, remove_at, wstat_at, mark_at, write_at}
use Rattle.p9_record.specs.RecordReading.{truncate_at, put_back_at, skip_at, body_at, edit_at}
use Rattle.p9_record.specs.RecordReading.{on_server_at, forest_body_at, forest_edit_at}
use Rattle.p9_record.proofs.Texts.{name_text, user_text}
use Rattle.p9_record.proofs.Modes.{mode_back, mode_short, mode_sound}

-- texts that pass a test
tested-sound : (is : List ℕ → Bool) (bytes : List ℕ) (x : List ℕ × List ℕ) → IsBytes bytes
    → (text_at bytes and_then λ s. cond (is s.0) (Some s) None) ≡ Some x
    → (bytes ≡ text x.0 ++ x.1) × IsTrue (is x.0)
tested-sound is bytes x fits e =
    let b = bind_some (text_at bytes) (λ s. cond (is s.0) (Some s) None) x e in
    let g = cond_some (is b.0.0) b.0 x b.2 in
    let t = text-codes.sound bytes b.0 fits b.1 in
    subst (λ (y : List ℕ × List ℕ). (bytes ≡ text y.0 ++ y.1) × IsTrue (is y.0)) g.1 (t.0, g.0)

name-codes : Codes text (λ s. IsTrue (is_name s)) name_at
unfolding name_at
name-codes = record {
  sound = tested-sound is_name;
  complete = λ s rest is. rw (text-codes.complete s rest (name_text s is), is) refl;
}

user-codes : Codes text (λ s. IsTrue (is_user s)) user_at
unfolding user_at
user-codes = record {
  sound = tested-sound is_user;
  complete = λ s rest is. rw (text-codes.complete s rest (user_text s is), is) refl;
}

mode-sound : (bytes : List ℕ) (x : Mode × List ℕ) → IsBytes bytes → mode_at bytes ≡ Some x
    → (bytes ≡ mode_bytes x.0 ++ x.1) × Unit {0}
unfolding mode_at
mode-sound bytes x fits e =
    let b = bind_some (number_at 4 bytes) (λ n. mode_of n.0 and_then λ mode. Some (mode, n.1)) x e in
    let m = bind_some (mode_of b.0.0) (λ mode. Some (mode, b.0.1)) x b.2 in
    let t = (number-codes 4).sound bytes b.0 fits b.1 in
    let is : (m.0, b.0.1) ≡ x = same_Some (m.0, b.0.1) x m.2 in
    let spelled : bytes ≡ mode_bytes m.0 ++ b.0.1 =
    t.0 ∙ ap (λ n. number 4 n ++ b.0.1) (sym (mode_sound b.0.0 m.0 m.1)) in
    (subst (λ (y : Mode × List ℕ). bytes ≡ mode_bytes y.0 ++ y.1) is spelled, tt)

mode-codes : Codes mode_bytes (λ mode. Unit {0}) mode_at
unfolding mode_at
mode-codes = record {
  sound = mode-sound;
  complete = λ mode rest is.
      rw ((number-codes 4).complete (mode_bits mode) rest (mode_short mode), mode_back mode) refl;
}

-- a mode whose kind is a directory's has no more than permissions
of_directory : (mode : Mode) → is_dir mode ≡ true
    → permissions_bytes mode.permissions ≡ mode_bytes mode
of_directory mode is = go mode.kind refl is
  where
    go : (kind : _) → mode.kind ≡ kind → is_dir mode ≡ true
        → permissions_bytes mode.permissions ≡ mode_bytes mode
    go Directory same is = rw same refl
    go (File flags) same is =
        let wrong : false ≡ true = sym (ap is_dir_kind same) ∙ is in
        absurd cc

permissions-sound : (bytes : List ℕ) (x : Permissions × List ℕ) → IsBytes bytes
    → permissions_at bytes ≡ Some x → (bytes ≡ permissions_bytes x.0 ++ x.1) × Unit {0}
unfolding permissions_at
permissions-sound bytes x fits e =
    let b = bind_some (mode_at bytes) (λ m. cond (is_dir m.0) (Some (m.0.permissions, m.1)) None) x e in
    let g = cond_some (is_dir b.0.0) (b.0.0.permissions, b.0.1) x b.2 in
    let t = mode-codes.sound bytes b.0 fits b.1 in
    let spelled : bytes ≡ permissions_bytes b.0.0.permissions ++ b.0.1 =
    t.0 ∙ ap (λ (front : List ℕ). front ++ b.0.1) (sym (of_directory b.0.0 g.0)) in
    (subst (λ (y : Permissions × List ℕ). bytes ≡ permissions_bytes y.0 ++ y.1) g.1 spelled, tt)

permissions-codes : Codes permissions_bytes (λ permissions. Unit {0}) permissions_at
unfolding permissions_at
permissions-codes = record {
  sound = permissions-sound;
  complete = λ permissions rest is.
      rw (mode-codes.complete (record { kind = Directory; permissions = permissions }) rest tt) refl;
}

module _ {A : Type 0} {f : A → List ℕ} {F : A → Type 0} {r : Reader A} (c : Codes f F r) where
  abbrev Fits : Option A → Type 0
  Fits o = ForSome o F

  optional-complete : (x : Option A) (rest : List ℕ) → Fits x
      → optional_at r (optional f x ++ rest) ≡ Some (x, rest)
  unfolding optional_at
  optional-complete None rest h = rw ((number-codes 1).complete 0 rest (omega arith)) refl
  optional-complete (Some x) rest h =
      ap (optional_at r) (append_assoc (number 1 1) (f x) rest)
      ∙ rw ((number-codes 1).complete 1 (f x ++ rest) (omega arith), c.complete x rest (h x refl)) refl

  -- behind the byte that says whether it is there
  there : (tag : ℕ) (bytes back : List ℕ) (x : Option A × List ℕ) → IsBytes back
      → bytes ≡ number 1 tag ++ back
      → cond (eqb tag 0) (Some (None, back)) (cond (eqb tag 1) (given (r back)) None) ≡ Some x
      → (bytes ≡ optional f x.0 ++ x.1) × Fits x.0
  there tag bytes back x fits is e = go (eqb tag 0) refl e
    where
      some : (b : Bool) → eqb tag 1 ≡ b → cond b (given (r back)) None ≡ Some x
          → (bytes ≡ optional f x.0 ++ x.1) × Fits x.0
      some false other e = absurd cc
      some true one e =
          let a = bind_some (r back) (λ a. Some (Some a.0, a.1)) x e in
          let t = c.sound back a.0 fits a.1 in
          let spelled : bytes ≡ optional f (Some a.0.0) ++ a.0.1 =
          is ∙ ap (λ n. number 1 n ++ back) (eqb-true tag 1 one)
          ∙ ap (λ (b : List ℕ). number 1 1 ++ b) t.0
          ∙ sym (append_assoc (number 1 1) (f a.0.0) a.0.1) in
          subst (λ (y : Option A × List ℕ). (bytes ≡ optional f y.0 ++ y.1) × Fits y.0)
          (same_Some (Some a.0.0, a.0.1) x a.2) (spelled, λ y e. subst F (same_Some _ y e) t.1)

      go : (b : Bool) → eqb tag 0 ≡ b
          → cond b (Some (None, back)) (cond (eqb tag 1) (given (r back)) None) ≡ Some x
          → (bytes ≡ optional f x.0 ++ x.1) × Fits x.0
      go true none e =
          let spelled : bytes ≡ optional f None ++ back =
          is ∙ ap (λ n. number 1 n ++ back) (eqb-true tag 0 none) in
          subst (λ (y : Option A × List ℕ). (bytes ≡ optional f y.0 ++ y.1) × Fits y.0)
          (same_Some (None, back) x e) (spelled, λ y e. absurd cc)
      go false other e = some (eqb tag 1) refl e

  optional-sound : (bytes : List ℕ) (x : Option A × List ℕ) → IsBytes bytes
      → optional_at r bytes ≡ Some x → (bytes ≡ optional f x.0 ++ x.1) × Fits x.0
  unfolding optional_at
  optional-sound bytes x fits e =
      let t = bind_some (number_at 1 bytes) (λ t. cond (eqb t.0 0) (Some (None, t.1)) (cond (eqb t.0 1) (given (r t.1)) None)) x e in
      let s = (number-codes 1).sound bytes t.0 fits t.1 in
      there t.0.0 bytes t.0.1 x (IsBytes-back (number 1 t.0.0) t.0.1 (subst IsBytes s.0 fits)) s.0 t.2

  optional-codes : Codes (optional f) Fits (optional_at r)
  optional-codes = record { sound = optional-sound; complete = optional-complete }

change-codes : Codes change_bytes FitsChange change_at
unfolding change_at
change-codes =
    same-codes
    (then-codes (then-codes (then-codes (then-codes (then-codes (then-codes
    (optional-codes name-codes) (optional-codes mode-codes)) (optional-codes user-codes))
    (optional-codes (number-codes 8))) (optional-codes (number-codes 4))) user-codes)
    (number-codes 4)) _
    (λ c. ((((((c.name, c.mode), c.gid), c.length), c.mtime), c.user), c.clock)) (λ a. refl) (λ b. refl)
    (λ c h. record {
      name = h.0.0.0.0.0.0;
      gid = h.0.0.0.0.1;
      length = h.0.0.0.1;
      mtime = h.0.0.1;
      user = h.0.1;
      clock = h.1;
    })
    (λ c h. ((((((h.name, λ x e. tt), h.gid), h.length), h.mtime), h.user), h.clock))

entry-codes : Codes entry_bytes FitsEntry entry_at
unfolding entry_at
entry-codes = record {
  sound = λ bytes x fits e.
      let t = (then-codes (number-codes 8) name-codes).sound bytes x fits e in
      (t.0, record { dir = t.1.0; name = t.1.1 });
  complete = λ entry rest h. (then-codes (number-codes 8) name-codes).complete entry rest (h.dir, h.name);
}

-- the node that is made of a node's fields
abbrev remade : Node → Node
remade n = record n {
  parent = option_map (λ entry. entry.0) (entry_of n);
  name = option_map_or (λ entry. entry.1) (entry_of n) root_name;
}

same_parent : (parent : Option ℕ) (name : List ℕ)
    → option_map (λ (entry : ℕ × List ℕ). entry.0) (option_map (λ dir. (dir, name)) parent) ≡ parent
same_parent None name = refl
same_parent (Some dir) name = refl

same_name : (parent : Option ℕ) (name : List ℕ) → (parent ≡ None → name ≡ root_name)
    → option_map_or (λ (entry : ℕ × List ℕ). entry.1) (option_map (λ dir. (dir, name)) parent) root_name ≡ name
same_name None name root = sym (root refl)
same_name (Some dir) name root = refl

-- is the node, where a root has the root's name
same_made : (n : Node) → FitsNode n → remade n ≡ n
same_made n h = rw (same_parent n.parent n.name, same_name n.parent n.name h.root) refl

-- the entry of a node that is made of an entry
made_entry : (entry : Option (ℕ × List ℕ))
    → option_map (λ dir. (dir, option_map_or (λ (e : ℕ × List ℕ). e.1) entry root_name))
    (option_map (λ (e : ℕ × List ℕ). e.0) entry) ≡ entry
made_entry None = refl
made_entry (Some e) = refl

-- and its name, where it is in no directory
made_root : (entry : Option (ℕ × List ℕ)) → option_map (λ (e : ℕ × List ℕ). e.0) entry ≡ None
    → option_map_or (λ (e : ℕ × List ℕ). e.1) entry root_name ≡ root_name
made_root None none = refl
made_root (Some e) none = absurd (none-some e.0 (sym none))

-- the fields of a node in the order of their bytes
abbrev NodeFields : Type 0
NodeFields =
    ((((((((ℕ × Option (ℕ × List ℕ)) × Mode) × List ℕ) × List ℕ) × List ℕ) × ℕ) × ℕ) × ℕ) × List ℕ

abbrev fields_of : Node → NodeFields
fields_of n =
    (((((((((n.number, entry_of n), n.mode), n.uid), n.gid), n.muid), n.version), n.atime), n.mtime), n.bytes)

abbrev node_of : NodeFields → Node
node_of x = record {
  number = x.0.0.0.0.0.0.0.0.0;
  parent = option_map (λ entry. entry.0) x.0.0.0.0.0.0.0.0.1;
  name = option_map_or (λ entry. entry.1) x.0.0.0.0.0.0.0.0.1 root_name;
  mode = x.0.0.0.0.0.0.0.1;
  uid = x.0.0.0.0.0.0.1;
  gid = x.0.0.0.0.0.1;
  muid = x.0.0.0.0.1;
  version = x.0.0.0.1;
  atime = x.0.0.1;
  mtime = x.0.1;
  bytes = x.1;
}

made_fields : (x : NodeFields) → fields_of (node_of x) ≡ x
made_fields x =
    ap (λ (entry : Option (ℕ × List ℕ)). (
      (
        (
          (
            (
              ((((x.0.0.0.0.0.0.0.0.0, entry), x.0.0.0.0.0.0.0.1), x.0.0.0.0.0.0.1), x.0.0.0.0.0.1),
              x.0.0.0.0.1,
            ),
            x.0.0.0.1,
          ),
          x.0.0.1,
        ),
        x.0.1,
      ),
      x.1,
    ))
    (made_entry x.0.0.0.0.0.0.0.0.1)

node-sound : (bytes : List ℕ) (x : Node × List ℕ) → IsBytes bytes → node_at bytes ≡ Some x
    → (bytes ≡ node_bytes x.0 ++ x.1) × FitsNode x.0
unfolding node_at
node-sound bytes x fits e =
    let fields =
    then-codes (then-codes (then-codes (then-codes (then-codes (then-codes (then-codes
    (then-codes (then-codes (number-codes 8) (optional-codes entry-codes)) mode-codes)
    user-codes) user-codes) user-codes) (number-codes 4)) (number-codes 4)) (number-codes 4))
    counted-codes in
    let t = made-sound fields node_of bytes x fits e in
    let h = t.3 in
    let made : FitsNode (node_of t.0) = record {
      number = h.0.0.0.0.0.0.0.0.0;
      entry = subst (λ o. ForSome o FitsEntry) (sym (made_entry t.0.0.0.0.0.0.0.0.0.1)) h.0.0.0.0.0.0.0.0.1;
      root = made_root t.0.0.0.0.0.0.0.0.0.1;
      uid = h.0.0.0.0.0.0.1;
      gid = h.0.0.0.0.0.1;
      muid = h.0.0.0.0.1;
      version = h.0.0.0.1;
      atime = h.0.0.1;
      mtime = h.0.1;
      short = h.1;
    } in
    let spelled : bytes ≡ node_bytes (node_of t.0) ++ x.1 =
    t.2 ∙ ap (λ (a : NodeFields).
    (number 8 a.0.0.0.0.0.0.0.0.0 ++ optional entry_bytes a.0.0.0.0.0.0.0.0.1
    ++ mode_bytes a.0.0.0.0.0.0.0.1 ++ text a.0.0.0.0.0.0.1 ++ text a.0.0.0.0.0.1
    ++ text a.0.0.0.0.1 ++ number 4 a.0.0.0.1 ++ number 4 a.0.0.1 ++ number 4 a.0.1
    ++ counted a.1) ++ x.1) (sym (made_fields t.0)) in
    subst (λ (n : Node). (bytes ≡ node_bytes n ++ x.1) × FitsNode n) t.1 (spelled, made)

node-complete : (n : Node) (rest : List ℕ) → FitsNode n → node_at (node_bytes n ++ rest) ≡ Some (n, rest)
unfolding node_at
node-complete n rest h =
    let fields =
    then-codes (then-codes (then-codes (then-codes (then-codes (then-codes (then-codes
    (then-codes (then-codes (number-codes 8) (optional-codes entry-codes)) mode-codes)
    user-codes) user-codes) user-codes) (number-codes 4)) (number-codes 4)) (number-codes 4))
    counted-codes in
    made-complete fields node_of (fields_of n) rest
    (((((((((h.number, h.entry), tt), h.uid), h.gid), h.muid), h.version), h.atime), h.mtime), h.short)
    ∙ ap (λ m. Some (m, rest)) (same_made n h)

node-codes : Codes node_bytes FitsNode node_at
node-codes = record { sound = node-sound; complete = node-complete }

-- The changes of each kind.

-- what was read of a change of this kind is its fields, and all of them
abbrev IsSpelled : (kind : ℕ) (bytes : List ℕ) → Edit × List ℕ → Type 0
IsSpelled kind bytes x = (kind_of x.0 ≡ kind) × (bytes ≡ body x.0 ++ x.1) × FitsEdit x.0

spelled_so : {A : Type 0} {f : A → List ℕ} {F : A → Type 0} {r : Reader A} (c : Codes f F r)
    (make : A → Edit) (kind k : ℕ) → ((a : A) → kind_of (make a) ≡ k)
    → ((a : A) → f a ≡ body (make a)) → ((a : A) → F a → FitsEdit (make a))
    → (bytes : List ℕ) (x : Edit × List ℕ) → IsBytes bytes → eqb kind k ≡ true
    → mapped make r bytes ≡ Some x → IsSpelled kind bytes x
spelled_so c make kind k kinds same fit bytes x fits is e =
    let t = made-sound c make bytes x fits e in
    subst (λ (edit : Edit). (kind_of edit ≡ kind) × (bytes ≡ body edit ++ x.1) × FitsEdit edit) t.1
    (kinds t.0 ∙ sym (eqb-true kind k is), t.2 ∙ ap (λ (front : List ℕ). front ++ x.1) (same t.0), fit t.0 t.3)

-- one of two readers
either : {P : Type 0} (b : Bool) (r s : Reader Edit) (bytes : List ℕ) (x : Edit × List ℕ)
    → (b ≡ true → r bytes ≡ Some x → P) → (s bytes ≡ Some x → P) → cond b r s bytes ≡ Some x → P
either true r s bytes x here past e = here refl e
either false r s bytes x here past e = past e

abbrev create_of : ((((((((ℕ × List ℕ) × Mode) × List ℕ) × List ℕ) × List ℕ) × ℕ) × ℕ) × List ℕ) → Edit
create_of x = Create x.0.0.0.0.0.0.0.0 (record {
  name = x.0.0.0.0.0.0.0.1;
  mode = x.0.0.0.0.0.0.1;
  uid = x.0.0.0.0.0.1;
  gid = x.0.0.0.0.1;
  muid = x.0.0.0.1;
  atime = x.0.0.1;
  mtime = x.0.1;
  bytes = x.1;
})

body-sound : (kind : ℕ) (bytes : List ℕ) (x : Edit × List ℕ) → IsBytes bytes
    → body_at kind bytes ≡ Some x → IsSpelled kind bytes x
unfolding body_at set_root_at create_at remove_at wstat_at mark_at write_at truncate_at put_back_at skip_at
body-sound kind bytes x fits e =
    either (eqb kind 0) _ _ bytes x
    (spelled_so (then-codes (then-codes permissions-codes user-codes) user-codes)
    (λ a. SetRoot a.0.0 a.0.1 a.1) kind 0 (λ a. refl) (λ a. refl) (λ a h. (h.0.1, h.1)) bytes x fits)
    (either (eqb kind 1) _ _ bytes x
    (spelled_so
    (then-codes (then-codes (then-codes (then-codes (then-codes (then-codes (then-codes (then-codes
    (number-codes 8) name-codes) mode-codes) user-codes) user-codes) user-codes) (number-codes 4))
    (number-codes 4)) counted-codes)
    create_of kind 1 (λ a. refl) (λ a. refl) (λ a h. (
      h.0.0.0.0.0.0.0.0,
      record {
        name = h.0.0.0.0.0.0.0.1;
        uid = h.0.0.0.0.0.1;
        gid = h.0.0.0.0.1;
        muid = h.0.0.0.1;
        atime = h.0.0.1;
        mtime = h.0.1;
        short = h.1;
      },
    )) bytes x fits)
    (either (eqb kind 2) _ _ bytes x
    (spelled_so (number-codes 8) Remove kind 2 (λ a. refl) (λ a. refl) (λ a h. h) bytes x fits)
    (either (eqb kind 3) _ _ bytes x
    (spelled_so (then-codes (number-codes 8) change-codes) (λ a. Wstat a.0 a.1) kind 3 (λ a. refl)
    (λ a. refl) (λ a h. h) bytes x fits)
    (either (eqb kind 4) _ _ bytes x
    (spelled_so (then-codes (then-codes (number-codes 8) user-codes) (number-codes 4))
    (λ a. Mark a.0.0 a.0.1 a.1) kind 4 (λ a. refl) (λ a. refl) (λ a h. (h.0.0, h.0.1, h.1)) bytes x fits)
    (either (eqb kind 5) _ _ bytes x
    (spelled_so (then-codes (then-codes (number-codes 8) (number-codes 8)) counted-codes)
    (λ a. Write a.0.0 a.0.1 a.1) kind 5 (λ a. refl) (λ a. refl) (λ a h. (h.0.0, h.0.1, h.1)) bytes x fits)
    (either (eqb kind 6) _ _ bytes x
    (spelled_so (then-codes (number-codes 8) (number-codes 8)) (λ a. Truncate a.0 a.1) kind 6
    (λ a. refl) (λ a. refl) (λ a h. h) bytes x fits)
    (either (eqb kind 7) _ _ bytes x
    (spelled_so node-codes PutBack kind 7 (λ a. refl) (λ a. refl) (λ a h. h) bytes x fits)
    (either (eqb kind 8) _ _ bytes x
    (spelled_so (number-codes 8) Skip kind 8 (λ a. refl) (λ a. refl) (λ a h. h) bytes x fits)
    (λ none. absurd cc))))))))) e

-- the fields of a change behind the number of its kind
behind : (k : ℕ) (fields rest : List ℕ) (x : Option (Edit × List ℕ)) → k < 256
    → body_at k (fields ++ rest) ≡ x → edit_at ((number 1 k ++ fields) ++ rest) ≡ x
unfolding edit_at
behind k fields rest x small e =
    ap edit_at (append_assoc (number 1 k) fields rest)
    ∙ rw ((number-codes 1).complete k (fields ++ rest) small) e

edit-complete : (edit : Edit) (rest : List ℕ) → FitsEdit edit
    → edit_at (spelling edit ++ rest) ≡ Some (edit, rest)
unfolding spelling body_at set_root_at create_at remove_at wstat_at mark_at write_at truncate_at put_back_at skip_at
edit-complete (SetRoot permissions uid gid) rest h =
    behind 0 _ rest _ (omega arith)
    (made-complete (then-codes (then-codes permissions-codes user-codes) user-codes) _
    ((permissions, uid), gid) rest ((tt, h.0), h.1))
edit-complete (Create dir new) rest h = behind 1 _ rest _ (omega arith)
    (let f = h.1 in made-complete
    (then-codes (then-codes (then-codes (then-codes (then-codes (then-codes (then-codes (then-codes
    (number-codes 8) name-codes) mode-codes) user-codes) user-codes) user-codes) (number-codes 4))
    (number-codes 4)) counted-codes) _
    ((((((((dir, new.name), new.mode), new.uid), new.gid), new.muid), new.atime), new.mtime), new.bytes)
    rest
    ((((((((h.0, f.name), tt), f.uid), f.gid), f.muid), f.atime), f.mtime), f.short))
edit-complete (Remove at) rest h =
    behind 2 _ rest _ (omega arith) (made-complete (number-codes 8) _ at rest h)
edit-complete (Wstat at change) rest h =
    behind 3 _ rest _ (omega arith)
    (made-complete (then-codes (number-codes 8) change-codes) _ (at, change) rest h)
edit-complete (Mark at user clock) rest h =
    behind 4 _ rest _ (omega arith)
    (made-complete (then-codes (then-codes (number-codes 8) user-codes) (number-codes 4)) _
    ((at, user), clock) rest ((h.0, h.1), h.2))
edit-complete (Write at offset bytes) rest h =
    behind 5 _ rest _ (omega arith)
    (made-complete (then-codes (then-codes (number-codes 8) (number-codes 8)) counted-codes) _
    ((at, offset), bytes) rest ((h.0, h.1), h.2))
edit-complete (Truncate at size) rest h =
    behind 6 _ rest _ (omega arith)
    (made-complete (then-codes (number-codes 8) (number-codes 8)) _ (at, size) rest h)
edit-complete (PutBack node) rest h =
    behind 7 _ rest _ (omega arith) (made-complete node-codes _ node rest h)
edit-complete (Skip next) rest h =
    behind 8 _ rest _ (omega arith) (made-complete (number-codes 8) _ next rest h)

edit-sound : (bytes : List ℕ) (x : Edit × List ℕ) → IsBytes bytes → edit_at bytes ≡ Some x
    → (bytes ≡ spelling x.0 ++ x.1) × FitsEdit x.0
unfolding edit_at spelling
edit-sound bytes x fits e =
    let k = bind_some (number_at 1 bytes) (λ kind. body_at kind.0 kind.1) x e in
    let s = (number-codes 1).sound bytes k.0 fits k.1 in
    let t = body-sound k.0.0 k.0.1 x (IsBytes-back (number 1 k.0.0) k.0.1 (subst IsBytes s.0 fits)) k.2 in (
      s.0 ∙ ap (λ (back : List ℕ). number 1 k.0.0 ++ back) t.1
          ∙ ap (λ n. number 1 n ++ (body x.0 ++ x.1)) (sym t.0)
          ∙ sym (append_assoc (number 1 (kind_of x.0)) (body x.0) x.1),
      t.2,
    )

edit-codes : Codes spelling FitsEdit edit_at
edit-codes = record { sound = edit-sound; complete = edit-complete }

on_server-codes : Codes (λ (x : ℕ × Edit). number 2 x.0 ++ spelling x.1)
    (λ (x : ℕ × Edit). (x.0 < 256 ^ 2) × FitsEdit x.1) (number_at 2 then edit_at)
on_server-codes = then-codes (number-codes 2) edit-codes

pub forest_edit-complete : (edit : ForestEdit) (rest : List ℕ) → FitsForestEdit edit
    → forest_edit_at (forest_spelling edit ++ rest) ≡ Some (edit, rest)
unfolding forest_spelling forest_edit_at forest_body_at on_server_at
forest_edit-complete AddServer rest h = rw ((number-codes 1).complete 0 rest (omega arith)) refl
forest_edit-complete (OnServer server edit) rest h =
    ap forest_edit_at (append_assoc (number 1 1) (number 2 server ++ spelling edit) rest)
    ∙ rw ((number-codes 1).complete 1 ((number 2 server ++ spelling edit) ++ rest) (omega arith))
    (made-complete on_server-codes (λ a. OnServer a.0 a.1) (server, edit) rest h)

-- one of two readers of changes of a forest
forest_either : {P : Type 0} (b : Bool) (r s : Reader ForestEdit) (bytes : List ℕ) (x : ForestEdit × List ℕ)
    → (b ≡ true → r bytes ≡ Some x → P) → (s bytes ≡ Some x → P) → cond b r s bytes ≡ Some x → P
forest_either true r s bytes x here past e = here refl e
forest_either false r s bytes x here past e = past e

pub forest_edit-sound : (bytes : List ℕ) (x : ForestEdit × List ℕ) → IsBytes bytes
    → forest_edit_at bytes ≡ Some x → (bytes ≡ forest_spelling x.0 ++ x.1) × FitsForestEdit x.0
unfolding forest_edit_at forest_body_at on_server_at forest_spelling
forest_edit-sound bytes x fits e =
    let k = bind_some (number_at 1 bytes) (λ kind. forest_body_at kind.0 kind.1) x e in
    let s = (number-codes 1).sound bytes k.0 fits k.1 in
    let back : IsBytes k.0.1 = IsBytes-back (number 1 k.0.0) k.0.1 (subst IsBytes s.0 fits) in
    forest_either (eqb k.0.0 0) _ _ k.0.1 x
    (λ is none.
    let spelled : bytes ≡ number 1 0 ++ k.0.1 = s.0 ∙ ap (λ n. number 1 n ++ k.0.1) (eqb-true k.0.0 0 is) in
    subst (λ (y : ForestEdit × List ℕ). (bytes ≡ forest_spelling y.0 ++ y.1) × FitsForestEdit y.0)
    (same_Some (AddServer, k.0.1) x none) (spelled, tt))
    (forest_either (eqb k.0.0 1) _ _ k.0.1 x
    (λ is some.
    let t = made-sound on_server-codes (λ a. OnServer a.0 a.1) k.0.1 x back some in
    let spelled : bytes ≡ forest_spelling (OnServer t.0.0 t.0.1) ++ x.1 =
    s.0 ∙ ap (λ n. number 1 n ++ k.0.1) (eqb-true k.0.0 1 is)
    ∙ ap (λ (b : List ℕ). number 1 1 ++ b) t.2
    ∙ sym (append_assoc (number 1 1) (number 2 t.0.0 ++ spelling t.0.1) x.1) in
    subst (λ (edit : ForestEdit). (bytes ≡ forest_spelling edit ++ x.1) × FitsForestEdit edit) t.1
    (spelled, t.3))
    (λ none. absurd cc)) k.2
