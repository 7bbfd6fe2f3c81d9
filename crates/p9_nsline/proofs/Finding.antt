-- Steps of finding a file.
use Rattle.std.proofs.Common.{◌≡◌, ◌≢◌, ℕ, ◌⊎◌, ⊎_elim, Bool, true, false, List, [], ◌∷◌, Bor}
use Rattle.std.proofs.Common.{Option, Some, None, Result, Ok, Err, length, take, map, min, position}
use Rattle.std.proofs.Common.{string_bytes, refl, sym, ap, subst, ◌∙◌, arith}
use Rattle.std.specs.Prelude.{◌==◌, if◌then◌else◌}
use Rattle.std.specs.List.{after_first, before_first}
use Rattle.std.specs.Option.{MatchOption, option_copied, option_map_or}
use Rattle.std.specs.Str.{bytes_eq}
use Rattle.std.specs.declared.string.String.{String}
use Rattle.std.proofs.lemmas.Bool.Decides.{nat_tests}
use Rattle.std.proofs.lemmas.List.{take-map, take_min}
use Rattle.std.proofs.Math.Nat.{min_comm}
use Rattle.p9_base.specs.declared.node_ref.NodeRef.{NodeRef}
use Rattle.p9_base.specs.declared.fault.Fault.{Fault}
use Rattle.p9_base.specs.declared.fault.Fault.TheVariants.{OutOfMemory}
use Rattle.p9_base.specs.Name.{is_slash, slash}
use Rattle.p9_base.proofs.Views.{position-map}
use Rattle.p9_base.specs.Results.{and_then}
use Rattle.p9_nsline.specs.declared.fault.OpFault.{OpFault}
use Rattle.p9_nsline.specs.declared.fault.OpFault.TheVariants.{Path, UnknownServer}
use Rattle.p9_base.specs.declared.stop.Stop.TheVariants as stops
use Rattle.p9_base.specs.declared.node_ref.TheConstants.{SERVERS_MAX}
use Rattle.p9_nsline.specs.Answer.{Gives, is_memory, walk_stop}
use Rattle.p9_nsline.specs.Find.{behind_hash, found_on_server, path_fault, server_root, walked_along}
use Rattle.p9_nsline.specs.Environment.{Environment}
use Rattle.p9_nsline.specs.Space.{Space}

-- a walk's fault, or a failed allocation
pub Gives-walk_stop : (answer : Result (List NodeRef) Fault) (fault : Fault)
    → (fault ≡ OutOfMemory) ⊎ (answer ≡ Err fault) →
    Gives {X = List NodeRef} (path_fault answer) (Err (walk_stop fault))
Gives-walk_stop answer fault reason = ⊎_elim
    (λ memory. subst (λ f. Gives {X = List NodeRef} (path_fault answer) (Err (walk_stop f)))
    (sym memory) tt)
    (λ walks. by_test (is_memory fault) (ap path_fault walks))
    reason where
      by_test : (b : Bool) → path_fault answer ≡ Err (Path fault)
          → Gives {X = List NodeRef} (path_fault answer)
          (Err (if b then stops.NoMemory else stops.Refused (Path fault)))
      by_test true walks = tt
      by_test false walks = walks

-- what `strip_prefix` says of a '#'
pub behind_hash-is : (path : List ℕ) (rest : Option (Bor (List ℕ)))
    → MatchOption rest ((r : List ℕ) → path ≢ 35 ∷ r) (λ r. path ≡ 35 ∷ r.now)
    → option_copied rest ≡ behind_hash path
behind_hash-is path (Some r) is = sym (ap behind_hash is)
behind_hash-is [] None none = refl
behind_hash-is (b ∷ bs) None none = by_test (b == 35) refl where
  by_test : (t : Bool) → (b == 35) ≡ t → None ≡ (if t then Some bs else None)
  by_test true e =
      let same : b ≡ 35 = grind (arith, nat_tests) in absurd (none bs (ap (λ x. x ∷ bs) same))
  by_test false e = refl

-- the file of a path that names a server
pub found_on_server-is : (environment : Environment) (space : Space) (path name rest : List ℕ)
    (root : Result NodeRef OpFault) →
    name ≡ before_first is_slash path → rest ≡ after_first is_slash path
    → root ≡ server_root environment.servers name →
    found_on_server environment space path
    ≡ and_then root (λ r. walked_along environment space (r ∷ []) (slash ∷ rest))
found_on_server-is environment space path name rest root n r e =
    ap (λ answer. and_then answer
    (λ root. walked_along environment space (root ∷ []) (slash ∷ after_first is_slash path)))
    (ap (server_root environment.servers) (sym n) ∙ sym e)
    ∙ ap (λ behind. and_then root (λ root. walked_along environment space (root ∷ []) (slash ∷ behind)))
    (sym r)

-- the server of a name, among those that have a number
pub server_root-some : {A : Type 0} (servers numbered : List (String A)) (name : List ℕ)
    (found : Option ℕ) →
    numbered ≡ take SERVERS_MAX servers
    → found ≡ position (λ s. bytes_eq (string_bytes s) name) numbered →
    option_map_or (λ number. Ok (record { server = number; number = 0 })) found (Err UnknownServer)
    ≡ server_root (map string_bytes servers) name
server_root-some servers numbered name found is e =
    ap (λ o. option_map_or (λ number. Ok (record { server = number; number = 0 })) o
    (Err UnknownServer))
    (e ∙ position-map string_bytes (λ s. bytes_eq s name) numbered
    ∙ ap (λ ns. position (λ s. bytes_eq s name) ns)
    (ap (map string_bytes) is ∙ sym (take-map string_bytes SERVERS_MAX servers)))

-- as many as there are, and not more
pub min-take : {X : Type 0} (xs : List X) (n : ℕ) → n ≡ min (length xs) SERVERS_MAX
    → take n xs ≡ take SERVERS_MAX xs
min-take xs n e =
    ap (λ k. take k xs) (e ∙ min_comm (length xs) SERVERS_MAX) ∙ take_min SERVERS_MAX xs
