-- What is asked for, by what `clap` read.
use Rattle.std.proofs.Common.{refl, ap, sym, codes, Bool, true, false, List, [], ◌∷◌, ◌≡◌, ◌∙◌, ◌⊎◌, ℕ}
use Rattle.std.proofs.Common.{inl, inr, Option, Some, None, option_map, subst, true≢false}
use Rattle.std.specs.Prelude.{MatchBool, option_and_then, if◌then◌else◌}
use Rattle.std.specs.Str.{bytes_eq}
use Rattle.std.specs.declared.net.socket_addr.SocketAddr.{SocketAddr}
use Rattle.std.proofs.lemmas.Slice.Eq.{bytes_eq-Decides}
use Rattle.clap.specs.Faults.{fault_of}
use Rattle.clap.specs.Kinds.{HasKind, Kinds}
use Rattle.clap.specs.Words.{Row, Text, first_of, kind_of, subcommand_of, takes}
use Rattle.clap.specs.declared.error.Error.{Error}
use Rattle.clap.specs.declared.error.kind.ErrorKind.TheVariants.{OutOfMemory}
use Rattle.p9_commands.specs.declared.command.Command.{Command as Named}
use Rattle.p9_asked.specs.declared.words.Asked.{Asked}
use Rattle.p9_asked.specs.declared.words.Asked.TheVariants.{Command, Serve}
use Rattle.p9_asked.specs.Words.{Asks, AsksToServe, IsAddress, IsAsked, IsAskedIn, IsCommand, IsRead}
use Rattle.p9_asked.specs.Words.{WritesOptions, asked_by, asked_with, has_end, program_app, rounds_in}
use Rattle.p9_asked.specs.Words.{value_in, value_of}
use Rattle.p9_asked.proofs.Parsing.{name_read, read_is_asked, taken_or_none}

-- the options of `serve`

module _ (words : List Text) (at rt : Option Text) (asked : Option Asked) where
  pub with_end : asked ≡ None → has_end words ≡ true → IsRead (WritesOptions words at rt) asked
  with_end none there =
      rw none (λ address rounds w. true≢false (sym there ∙ w.no_end))

  pub no_address : (text : Option Text) → asked ≡ None → text ≡ at
      → ((address : SocketAddr) → IsAddress text address → ⊥)
      → IsRead (WritesOptions words at rt) asked
  no_address text none is other =
      rw none (λ address rounds w.
      other address (subst (λ (t : Option Text). IsAddress t address) (sym is) w.address_is))

  pub no_rounds : (text : Option Text) → asked ≡ None → text ≡ rt → rounds_in text ≡ None
      → IsRead (WritesOptions words at rt) asked
  no_rounds text none is other =
      rw none (λ address rounds w.
      let no : None ≡ Some rounds = sym other ∙ ap rounds_in is ∙ w.rounds_are in absurd (cc))

pub options_read : (words : List Text) (at rt text text' : Option Text) (address : SocketAddr)
    (rounds : ℕ) → has_end words ≡ false → text ≡ at → IsAddress text address → text' ≡ rt
    → rounds_in text' ≡ Some rounds → WritesOptions words at rt address rounds
options_read words at rt text text' address rounds none is a is' r = record {
  no_end = none;
  address_is = subst (λ (t : Option Text). IsAddress t address) is a;
  rounds_are = sym (ap rounds_in is') ∙ r;
}

-- `clap`

pub only-memory : (kinds : Kinds) (e : Error) → kinds ≡ [] → HasKind kinds e
    → kind_of e ≡ OutOfMemory
only-memory kinds e none has =
    go (subst (λ (k : Kinds). HasKind k e) none has)
  where
    go : HasKind [] e → kind_of e ≡ OutOfMemory
    go (inl memory) = memory
    go (inr other) = absurd other

pub pair_of : {X A B : Type 0} (o : Option X) (f : X → A) (g : X → B) (p : Option (A × B))
    → option_map f o ≡ option_map (λ p. p.0) p → option_map g o ≡ option_map (λ p. p.1) p
    → option_map (λ x. (f x, g x)) o ≡ p
pair_of None f g None a b = refl
pair_of None f g (Some p) a b = absurd (cc)
pair_of (Some x) f g None a b = absurd (cc)
pair_of (Some x) f g (Some p) a b =
    let first : f x ≡ p.0 = cc in
    let second : g x ≡ p.1 = cc in
    λ i. Some (first i, second i)

-- The words.

-- no command is called `serve`
serve_is_none : (words : List Text) → asked_with (Some (codes "serve")) words ≡ None
serve_is_none [] = refl
serve_is_none (p ∷ []) = refl
serve_is_none (p ∷ word ∷ []) = go (bytes_eq word (codes "serve")) refl where
  go : (b : Bool) → bytes_eq word (codes "serve") ≡ b
      → asked_with (Some (codes "serve")) (p ∷ word ∷ []) ≡ None
  go true e = rw e refl
  go false e = rw e refl
serve_is_none (p ∷ word ∷ another ∷ more) = refl

module _ (words : List Text) where
  -- words that `clap` refuses ask for nothing
  pub asked-refused : (takes program_app words ≡ true → ⊥) → (fault_of program_app words ≡ [] → ⊥)
      → (asked : Asked) → Asks words asked → ⊥
  asked-refused not_taken faulty (Command named) is =
      elim (taken_or_none words) [
        | inl taken ↦ not_taken taken
        | inr none ↦ let no : None ≡ Some named = none ∙ is in absurd (cc)
      ]
  asked-refused not_taken faulty (Serve address rounds) is = faulty is.taken

  -- a command that is read is what is asked for, where no server is
  command : (command : Option Named) → command ≡ asked_by words
      → ((address : SocketAddr) (rounds : ℕ) → AsksToServe words address rounds → ⊥)
      → (asked : Option Asked) → IsCommand command asked → IsAsked words asked
  command text is other None read = none
    where
      none : (asked : Asked) → Asks words asked → ⊥
      none (Command named) asks =
          let no : None ≡ Some named = sym read ∙ is ∙ asks in absurd (cc)
      none (Serve address rounds) asks = other address rounds asks
  command text is other (Some (Command named)) read = sym is ∙ read
  command text is other (Some (Serve address rounds)) read = absurd read

  -- a server that is read is what is asked for, where no command is
  server : (at rt : Option Text) → value_in (codes "address") words ≡ at
      → value_in (codes "rounds") words ≡ rt → asked_by words ≡ None
      → fault_of program_app words ≡ [] → (asked : Option Asked)
      → IsRead (WritesOptions words at rt) asked → IsAsked words asked
  server at rt at_is rt_is other taken None read = none
    where
      none : (asked : Asked) → Asks words asked → ⊥
      none (Command named) asks =
          let no : None ≡ Some named = sym other ∙ asks in absurd (cc)
      none (Serve address rounds) asks = read address rounds (record {
        no_end = asks.options.no_end;
        address_is = subst (λ (t : Option Text). IsAddress t address) at_is asks.options.address_is;
        rounds_are = sym (ap rounds_in rt_is) ∙ asks.options.rounds_are;
      })
  server at rt at_is rt_is other taken (Some (Command named)) read = absurd read
  server at rt at_is rt_is other taken (Some (Serve address rounds)) read = record {
    taken = taken;
    options = record {
      no_end = read.no_end;
      address_is = subst (λ (t : Option Text). IsAddress t address) (sym at_is) read.address_is;
      rounds_are = ap rounds_in rt_is ∙ read.rounds_are;
    };
  }

  -- nothing of `serve` was read
  not_served : (read : Option (Text × List Row)) → read ≡ subcommand_of program_app words
      → option_and_then (value_of (codes "address")) read ≡ None
      → (address : SocketAddr) (rounds : ℕ) → AsksToServe words address rounds → ⊥
  not_served read is none address rounds asks =
      let nothing : value_in (codes "address") words ≡ None =
      ap (option_and_then (value_of (codes "address"))) (sym is) ∙ none in
      subst (λ (t : Option Text). IsAddress t address) nothing asks.options.address_is

  pub asked-read : (read : Option (Text × List Row)) (asked : Option Asked)
      → read ≡ subcommand_of program_app words → fault_of program_app words ≡ []
      → IsAskedIn read words asked → IsAsked words asked
  asked-read None asked is taken of =
      let name : None ≡ name_read words = ap (option_map (λ p. p.0)) is in
      command (asked_with None words)
      (ap (λ name. asked_with name words) name ∙ read_is_asked words)
      (not_served None is refl) asked of
  asked-read (Some (name, rows)) asked is taken of = go (bytes_eq name (codes "serve")) refl of
    where
      named : Some name ≡ name_read words
      named = ap (option_map (λ p. p.0)) is

      is_command : asked_with (Some name) words ≡ asked_by words
      is_command = ap (λ name. asked_with name words) named ∙ read_is_asked words

      value : (option : Text) (b : Bool) → bytes_eq name (codes "serve") ≡ b
          → value_in option words ≡ (if b then first_of option rows else None)
      value option b e =
          ap (option_and_then (value_of option)) (sym is)
          ∙ ap (λ (b : Bool). if b then first_of option rows else None) e

      go : (b : Bool) → bytes_eq name (codes "serve") ≡ b
          → MatchBool b
          (IsRead (WritesOptions words (first_of (codes "address") rows)
          (first_of (codes "rounds") rows)) asked)
          (IsCommand (asked_with (Some name) words) asked) → IsAsked words asked
      go true e read =
          let serve : name ≡ codes "serve" = (bytes_eq-Decides name (codes "serve")).0 e in
          server (first_of (codes "address") rows) (first_of (codes "rounds") rows)
          (value (codes "address") true e) (value (codes "rounds") true e)
          (sym is_command ∙ ap (λ n. asked_with (Some n) words) serve ∙ serve_is_none words)
          taken asked read
      go false e read =
          command (asked_with (Some name) words) is_command
          (not_served (Some (name, rows)) is
          (ap (λ (b : Bool). if b then first_of (codes "address") rows else None) e)) asked read
