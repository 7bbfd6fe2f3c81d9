-- What `clap` makes of the words, and that it is what they ask for.
use Rattle.std.proofs.Common.{refl, ap, sym, codes, Bool, true, false, List, [], ◌∷◌, ◌≡◌, ◌∙◌, ◌⊎◌, inl, inr}
use Rattle.std.proofs.Common.{Option, Some, None, option_map}
use Rattle.std.proofs.lemmas.Slice.Eq.{bytes_eq-Decides}
use Rattle.std.specs.Prelude.{Box}
use Rattle.std.specs.Box.{box_value}
use Rattle.std.specs.Str.{bytes_eq}
use Rattle.clap.specs.Words.{Text, is_simple, subcommand_name_of, subcommand_of, subcommand_rows, subcommand_rows_of, takes}
use Rattle.clap.specs.declared.parser.matches.ArgMatches.{ArgMatches}
use Rattle.clap.specs.declared.parser.matches.ArgMatches.TheViews.{out-ArgMatches, out-SubCommand}
use Rattle.clap.specs.declared.parser.matches.SubCommand.{SubCommand}
use Rattle.clap.proofs.OnLiterals.{clap_on_literals}
use Rattle.p9_fcall.specs.Words.{asked_by, asked_with, known, program_app}

-- the subcommand's name that a parse of the words finds
abbrev pub name_read : List Text → Option Text
name_read words = option_map (λ p. p.0) (subcommand_of program_app words)

pub program_is_simple : is_simple program_app ≡ true
unfolding clap_on_literals
program_is_simple = refl

-- ---- the words that ask for a command

takes_none : takes program_app [] ≡ true
unfolding clap_on_literals
takes_none = refl

takes_name : (p : Text) → takes program_app (p ∷ []) ≡ true
unfolding clap_on_literals
takes_name p = refl

takes_frames : (p : Text) → takes program_app (p ∷ codes "frames" ∷ []) ≡ true
unfolding clap_on_literals
takes_frames p = refl

takes_exchange : (p : Text) → takes program_app (p ∷ codes "exchange" ∷ []) ≡ true
unfolding clap_on_literals
takes_exchange p = refl

none_read : name_read [] ≡ None
unfolding clap_on_literals
none_read = refl

none_read_alone : (p : Text) → name_read (p ∷ []) ≡ None
unfolding clap_on_literals
none_read_alone p = refl

frames_read : (p : Text) → name_read (p ∷ codes "frames" ∷ []) ≡ Some (codes "frames")
unfolding clap_on_literals
frames_read p = refl

exchange_read : (p : Text) → name_read (p ∷ codes "exchange" ∷ []) ≡ Some (codes "exchange")
unfolding clap_on_literals
exchange_read p = refl

-- ---- one word

data Word (word : Text) : Type 0 where
  is_frames : word ≡ codes "frames" → Word word
  is_exchange : word ≡ codes "exchange" → Word word
  is_other : known word ≡ None → Word word

word_is : (word : Text) → Word word
word_is word =
    go (bytes_eq word (codes "frames")) refl (bytes_eq word (codes "exchange")) refl
  where
    go : (a : Bool) → bytes_eq word (codes "frames") ≡ a
        → (b : Bool) → bytes_eq word (codes "exchange") ≡ b → Word word
    go true frames b _ = is_frames ((bytes_eq-Decides word (codes "frames")).0 frames)
    go false _ true exchange = is_exchange ((bytes_eq-Decides word (codes "exchange")).0 exchange)
    go false frames false exchange = is_other (rw (frames, exchange) refl)

-- a word that is no command is none, whatever name was read
other_word : (name : Option Text) (p word : Text) → known word ≡ None → asked_with name (p ∷ word ∷ []) ≡ None
other_word None p word other = refl
other_word (Some name) p word other = go (bytes_eq word name) refl where
  go : (same : Bool) → bytes_eq word name ≡ same → asked_with (Some name) (p ∷ word ∷ []) ≡ None
  go true same = rw same (rw (sym ((bytes_eq-Decides word name).0 same)) other)
  go false same = rw same refl

more_words : (name : Option Text) (p word another : Text) (more : List Text)
    → asked_with name (p ∷ word ∷ another ∷ more) ≡ None
more_words None p word another more = refl
more_words (Some name) p word another more = refl

-- ---- all words

-- what is read is what is asked for
pub read_is_asked : (words : List Text) → asked_with (name_read words) words ≡ asked_by words
read_is_asked [] = ap (λ name. asked_with name []) none_read
read_is_asked (p ∷ []) = ap (λ name. asked_with name (p ∷ [])) (none_read_alone p)
read_is_asked (p ∷ word ∷ []) = elim (word_is word) [
  | is_frames e ↦ rw e (ap (λ name. asked_with name (p ∷ codes "frames" ∷ [])) (frames_read p))
  | is_exchange e ↦ rw e (ap (λ name. asked_with name (p ∷ codes "exchange" ∷ [])) (exchange_read p))
  | is_other e ↦ other_word (name_read (p ∷ word ∷ [])) p word e ∙ sym e
]
read_is_asked (p ∷ word ∷ another ∷ more) = more_words (name_read (p ∷ word ∷ another ∷ more)) p word another more

-- words that are not taken ask for nothing
pub taken_or_none : (words : List Text) → (takes program_app words ≡ true) ⊎ (None ≡ asked_by words)
taken_or_none [] = inl takes_none
taken_or_none (p ∷ []) = inl (takes_name p)
taken_or_none (p ∷ word ∷ []) = elim (word_is word) [
  | is_frames e ↦ inl (rw e (takes_frames p))
  | is_exchange e ↦ inl (rw e (takes_exchange p))
  | is_other e ↦ inr (sym e)
]
taken_or_none (p ∷ word ∷ another ∷ more) = inr refl

-- the name of the subcommand is the one beside its rows
pub name_of_rows : (m : ArgMatches) → subcommand_name_of m ≡ option_map (λ p. p.0) (subcommand_rows_of m)
name_of_rows m = go (out-ArgMatches m).subcommand where
  go : {Z : Type 0} (s : Option (Box SubCommand Z))
      → option_map (λ b. (out-SubCommand (box_value b)).name.now) s ≡ option_map (λ p. p.0) (subcommand_rows s)
  go None = refl
  go (Some b) = refl
