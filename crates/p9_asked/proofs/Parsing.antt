-- What `clap` makes of the words, and that it is what they ask for.
use Rattle.std.proofs.Common.{refl, ap, sym, codes, Bool, true, false, List, [], ◌∷◌, ◌≡◌, ◌∙◌, ◌⊎◌, inl, inr}
use Rattle.std.proofs.Common.{Option, Some, None, option_map}
use Rattle.std.proofs.lemmas.Slice.Eq.{bytes_eq-Decides}
use Rattle.std.specs.Prelude.{Box}
use Rattle.std.specs.Box.{box_value}
use Rattle.std.specs.Str.{bytes_eq}
use Rattle.clap.specs.Words.{Text, is_simple, subcommand_name_of, subcommand_of, subcommand_rows, subcommand_rows_of, takes}
use Rattle.clap.specs.Faults.{is_simple_and_free}
use Rattle.clap.specs.declared.parser.matches.ArgMatches.{ArgMatches}
use Rattle.clap.specs.declared.parser.matches.ArgMatches.TheViews.{out-ArgMatches, out-SubCommand}
use Rattle.clap.specs.declared.parser.matches.SubCommand.{SubCommand}
use Rattle.clap.proofs.OnLiterals.{clap_on_literals}
use Rattle.p9_commands.specs.Word.{command_of}
use Rattle.p9_asked.specs.Words.{asked_by, asked_with, program_app}

-- the subcommand's name that a parse of the words finds
abbrev pub name_read : List Text → Option Text
name_read words = option_map (λ p. p.0) (subcommand_of program_app words)

pub program_is_simple : is_simple program_app ≡ true
unfolding clap_on_literals
program_is_simple = refl

pub program_is_free : is_simple_and_free program_app ≡ true
unfolding clap_on_literals
program_is_free = refl

-- ---- the words that ask for a command

takes_none : takes program_app [] ≡ true
unfolding clap_on_literals
takes_none = refl

takes_name : (p : Text) → takes program_app (p ∷ []) ≡ true
unfolding clap_on_literals
takes_name p = refl

takes_play : (p : Text) → takes program_app (p ∷ codes "play" ∷ []) ≡ true
unfolding clap_on_literals
takes_play p = refl

takes_check : (p : Text) → takes program_app (p ∷ codes "check" ∷ []) ≡ true
unfolding clap_on_literals
takes_check p = refl

takes_verify : (p : Text) → takes program_app (p ∷ codes "verify" ∷ []) ≡ true
unfolding clap_on_literals
takes_verify p = refl

takes_ns : (p : Text) → takes program_app (p ∷ codes "ns" ∷ []) ≡ true
unfolding clap_on_literals
takes_ns p = refl

none_read : name_read [] ≡ None
unfolding clap_on_literals
none_read = refl

none_read_alone : (p : Text) → name_read (p ∷ []) ≡ None
unfolding clap_on_literals
none_read_alone p = refl

play_read : (p : Text) → name_read (p ∷ codes "play" ∷ []) ≡ Some (codes "play")
unfolding clap_on_literals
play_read p = refl

check_read : (p : Text) → name_read (p ∷ codes "check" ∷ []) ≡ Some (codes "check")
unfolding clap_on_literals
check_read p = refl

verify_read : (p : Text) → name_read (p ∷ codes "verify" ∷ []) ≡ Some (codes "verify")
unfolding clap_on_literals
verify_read p = refl

ns_read : (p : Text) → name_read (p ∷ codes "ns" ∷ []) ≡ Some (codes "ns")
unfolding clap_on_literals
ns_read p = refl

-- ---- one word

data Word (word : Text) : Type 0 where
  is_play : word ≡ codes "play" → Word word
  is_check : word ≡ codes "check" → Word word
  is_verify : word ≡ codes "verify" → Word word
  is_ns : word ≡ codes "ns" → Word word
  is_other : command_of word ≡ None → Word word

word_is : (word : Text) → Word word
word_is word =
    go (bytes_eq word (codes "play")) refl (bytes_eq word (codes "check")) refl
    (bytes_eq word (codes "verify")) refl (bytes_eq word (codes "ns")) refl
  where
    go : (a : Bool) → bytes_eq word (codes "play") ≡ a
        → (b : Bool) → bytes_eq word (codes "check") ≡ b
        → (c : Bool) → bytes_eq word (codes "verify") ≡ c
        → (d : Bool) → bytes_eq word (codes "ns") ≡ d → Word word
    go true play b _ c _ d _ = is_play ((bytes_eq-Decides word (codes "play")).0 play)
    go false _ true check c _ d _ = is_check ((bytes_eq-Decides word (codes "check")).0 check)
    go false _ false _ true verify d _ = is_verify ((bytes_eq-Decides word (codes "verify")).0 verify)
    go false _ false _ false _ true ns = is_ns ((bytes_eq-Decides word (codes "ns")).0 ns)
    go false play false check false verify false ns = is_other (rw (play, check, verify, ns) refl)

-- a word that is no command is none, whatever name was read
other_word : (name : Option Text) (p word : Text) → command_of word ≡ None → asked_with name (p ∷ word ∷ []) ≡ None
other_word None p word other = refl
other_word (Some name) p word other = go (bytes_eq word name) refl where
  go : (same : Bool) → bytes_eq word name ≡ same → asked_with (Some name) (p ∷ word ∷ []) ≡ None
  go true same = rw same (rw (sym ((bytes_eq-Decides word name).0 same)) other)
  go false same = rw same refl

more_words : (name : Option Text) (p word another : Text) (more : List Text)
    → asked_with name (p ∷ word ∷ another ∷ more) ≡ None
more_words None p word another more = refl
more_words (Some name) p word another more = refl

-- ---- all words

-- what is read is what is asked for
pub read_is_asked : (words : List Text) → asked_with (name_read words) words ≡ asked_by words
read_is_asked [] = ap (λ name. asked_with name []) none_read
read_is_asked (p ∷ []) = ap (λ name. asked_with name (p ∷ [])) (none_read_alone p)
read_is_asked (p ∷ word ∷ []) = elim (word_is word) [
  | is_play e ↦ rw e (ap (λ name. asked_with name (p ∷ codes "play" ∷ [])) (play_read p))
  | is_check e ↦ rw e (ap (λ name. asked_with name (p ∷ codes "check" ∷ [])) (check_read p))
  | is_verify e ↦ rw e (ap (λ name. asked_with name (p ∷ codes "verify" ∷ [])) (verify_read p))
  | is_ns e ↦ rw e (ap (λ name. asked_with name (p ∷ codes "ns" ∷ [])) (ns_read p))
  | is_other e ↦ other_word (name_read (p ∷ word ∷ [])) p word e ∙ sym e
]
read_is_asked (p ∷ word ∷ another ∷ more) = more_words (name_read (p ∷ word ∷ another ∷ more)) p word another more

-- words that are not taken ask for nothing
pub taken_or_none : (words : List Text) → (takes program_app words ≡ true) ⊎ (None ≡ asked_by words)
taken_or_none [] = inl takes_none
taken_or_none (p ∷ []) = inl (takes_name p)
taken_or_none (p ∷ word ∷ []) = elim (word_is word) [
  | is_play e ↦ inl (rw e (takes_play p))
  | is_check e ↦ inl (rw e (takes_check p))
  | is_verify e ↦ inl (rw e (takes_verify p))
  | is_ns e ↦ inl (rw e (takes_ns p))
  | is_other e ↦ inr (sym e)
]
taken_or_none (p ∷ word ∷ another ∷ more) = inr refl

-- the name of the subcommand is the one beside its rows
pub name_of_rows : (m : ArgMatches) → subcommand_name_of m ≡ option_map (λ p. p.0) (subcommand_rows_of m)
name_of_rows m = go (out-ArgMatches m).subcommand where
  go : {Z : Type 0} (s : Option (Box SubCommand Z))
      → option_map (λ b. (out-SubCommand (box_value b)).name.now) s ≡ option_map (λ p. p.0) (subcommand_rows s)
  go None = refl
  go (Some b) = refl
