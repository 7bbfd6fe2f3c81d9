-- What is told of a node fits a message.
use Rattle.std.proofs.Common.{Bool, IsTrue, List, None, Option, Some, [], ap, arith, false, length}
use Rattle.std.proofs.Common.{refl, subst, suc, sym, true, zero, ℕ, ◌<◌, ◌^◌, ◌||◌, ◌∷◌, ◌≡◌, ◌≤◌}
use Rattle.std.proofs.lemmas.Bool.{and_parts}
use Rattle.std.proofs.lemmas.Bool.Decides.{nat_tests}
use Rattle.std.specs.List.{list_any}
use Rattle.std.specs.Prelude.{codes, nat_le, not, slice_get, unwrap_or, ◌&&◌, ◌==◌}
use Rattle.std.specs.Str.{bytes_eq}
use Rattle.p9_base.specs.Mode.{bit, kind_bits, mode_bits, qid_kind, rights_bits}
use Rattle.p9_base.specs.Name.{is_name, name_max}
use Rattle.p9_base.specs.Text.{is_text}
use Rattle.p9_base.specs.User.{is_user}
use Rattle.p9_base.specs.declared.mode.Kind.{Kind}
use Rattle.p9_base.specs.declared.mode.Kind.TheVariants.{Directory, File}
use Rattle.p9_base.specs.declared.mode.Mode.{Mode}
use Rattle.p9_base.specs.declared.mode.Rights.{Rights}
use Rattle.p9_base.specs.declared.node_ref.NodeRef.{NodeRef}
use Rattle.p9_base.proofs.Texts.{is_text-ascii}
use Rattle.p9_tree.specs.Forest.{IsForest, next_of, no_server, node_of}
use Rattle.p9_tree.specs.Node.{Node, root_name}
use Rattle.p9_tree.specs.Server.{IsSound, Server}
use Rattle.p9_wire.specs.Fields.{FitsStat, FitsText, QidNumbersFit, StatNumbersFit, stat_len}
use Rattle.p9_step.specs.Qid.{qid_of, stat_max, stat_of}
use Rattle.p9_step.proofs.Lawful.{node-sound}
use Rattle.p9_step.proofs.NodeRefs.{node_of-given}

bit-le : (b : Bool) (n : ℕ) → bit b n ≤ n
bit-le true n = omega arith
bit-le false n = omega arith

rights-le : (r : Rights) → rights_bits r ≤ 7
rights-le r = omega (arith, bit-le r.read 4, bit-le r.write 2, bit-le r.execute 1)

kind-le : (k : Kind) → kind_bits k ≤ 2 ^ 31
kind-le Directory = omega arith
kind-le (File f) =
    let append = bit-le f.append_only (2 ^ 30) in
    let exclusive = bit-le f.exclusive (2 ^ 29) in
    let temporary = bit-le f.temporary (2 ^ 26) in
    omega arith

-- a mode has 32 bits
pub mode-small : (m : Mode) → mode_bits m < 2 ^ 32
mode-small m =
    let kind = kind-le m.kind in
    let owner = rights-le m.permissions.owner in
    let group = rights-le m.permissions.group in
    let others = rights-le m.permissions.others in
    omega arith

-- and its upper eight are those of a qid
qid_kind-small : (m : Mode) → qid_kind m < 2 ^ 8
qid_kind-small m = let small = mode-small m in omega arith

within : {X : Type 0} (xs : List X) (i : ℕ) (x : X) → slice_get xs i ≡ Some x → i < length xs
within [] i x e = absurd (cc)
within (y ∷ ys) zero x e = omega arith
within (y ∷ ys) (suc i) x e = let later = within ys i x e in omega arith

-- the numbers of a reference to a node that exists
pub record IsSmall (at : NodeRef) : Type 0 where
  pub server : at.server < 2 ^ 16
  pub number : at.number < 2 ^ 48

pub node_of-small : (forest : List Server) (at : NodeRef) (n : Node) → IsForest forest
    → node_of at forest ≡ Some n → IsSmall at
node_of-small forest at n sound found = go (slice_get forest at.server) refl
  where
    go : (o : Option Server) → slice_get forest at.server ≡ o → IsSmall at
    go None e = let none : None ≡ Some n = rw e at found in absurd (cc)
    go (Some s) e =
        let there : at.server < length forest = within forest at.server s e in
        let few = sound.few in
        let more = (sound.servers at.server s e).few in
        let below = node_of-given forest at n sound found in
        let next : next_of at.server forest ≡ s.next =
        ap (λ o. (unwrap_or o no_server).next) e in
        record { server = omega arith; number = omega (arith, next) }

-- a qid fits of a node of these numbers and this version
pub qid-small : (at : NodeRef) (n : Node) → IsSmall at → n.version < 2 ^ 32
    → QidNumbersFit (qid_of at n)
qid-small at n small version =
    let server = small.server in
    let number = small.number in
    record { kind = qid_kind-small n.mode; version = version; path = omega arith }

-- so does that of a node that exists
pub qid_fits : (forest : List Server) (at : NodeRef) (n : Node) → IsForest forest
    → node_of at forest ≡ Some n → QidNumbersFit (qid_of at n)
qid_fits forest at n sound found =
    qid-small at n (node_of-small forest at n sound found)
    (node-sound forest sound at n found).tellable.1.0

-- and so do the numbers of its stat
pub stat_numbers_fit : (forest : List Server) (at : NodeRef) (n : Node) → IsForest forest
    → node_of at forest ≡ Some n → StatNumbersFit (stat_of at n)
stat_numbers_fit forest at n sound found =
    let its = node-sound forest sound at n found in
    let small = node_of-small forest at n sound found in
    let server = small.server in
    let short = its.small in
    record {
      kind = omega arith;
      dev = omega arith;
      qid = qid_fits forest at n sound found;
      mode = mode-small n.mode;
      atime = its.tellable.1.1;
      mtime = its.tellable.1.2;
      length = omega arith;
    }

user_fits : (user : List ℕ) → IsTrue (is_user user) → FitsText user × (length user ≤ 63)
user_fits user is =
    let first = and_parts (nat_le 1 (length user) && nat_le (length user) 63) (is_text user) is in
    let second = and_parts (nat_le 1 (length user)) (nat_le (length user) 63) first.0 in
    let le : length user ≤ 63 = grind (arith, nat_tests, second.1) in
    (record { short = omega arith; valid = first.1 }, le)

name_fits : (n : Node) → IsSound n → FitsText n.name × (length n.name ≤ name_max)
name_fits n sound = go n.parent refl
  where
    of_root : n.name ≡ root_name → FitsText n.name × (length n.name ≤ name_max)
    of_root is =
        subst (λ name. FitsText name × (length name ≤ name_max)) (sym is) (
          record {
            short = omega arith;
            valid = is_text-ascii root_name refl refl;
          },
          omega arith,
        )

    of_entry : IsTrue (is_name n.name) → FitsText n.name × (length n.name ≤ name_max)
    of_entry is =
        let sizes = nat_le 1 (length n.name) && nat_le (length n.name) name_max in
        let first =
        and_parts (sizes && is_text n.name && not (list_any (λ b. b == 47) n.name))
        (not (bytes_eq n.name (codes ".") || bytes_eq n.name (codes ".."))) is in
        let second =
        and_parts (sizes && is_text n.name) (not (list_any (λ b. b == 47) n.name)) first.0 in
        let third = and_parts sizes (is_text n.name) second.0 in
        let fourth = and_parts (nat_le 1 (length n.name)) (nat_le (length n.name) name_max) third.0 in
        let le : length n.name ≤ name_max = grind (arith, nat_tests, fourth.1) in
        (record { short = omega arith; valid = third.1 }, le)

    go : (o : Option ℕ) → n.parent ≡ o → FitsText n.name × (length n.name ≤ name_max)
    go None e = of_root (sound.root_name e)
    go (Some p) e = of_entry (sound.valid_name p e)

-- so does its stat
pub stat_fits : (at : NodeRef) (n : Node) → IsSound n
    → FitsStat (stat_of at n) × (stat_len (stat_of at n) ≤ stat_max)
stat_fits at n sound =
    let name = name_fits n sound in
    let uid = user_fits n.uid sound.tellable.0.0 in
    let gid = user_fits n.gid sound.tellable.0.1 in
    let muid = user_fits n.muid sound.tellable.0.2 in
    let a = name.1 in
    let b = uid.1 in
    let c = gid.1 in
    let d = muid.1 in (
      record { name = name.0; uid = uid.0; gid = gid.0; muid = muid.0; short = omega arith },
      omega
          arith,
    )
