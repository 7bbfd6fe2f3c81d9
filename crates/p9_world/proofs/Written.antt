-- What is written of lines is read as what they ask for.
use Rattle.std.proofs.Common.{◌≡◌, ℕ, ◌+◌, List, [], ◌∷◌, ◌++◌, map, Result, Ok}
use Rattle.std.proofs.Common.{Err, refl, ap, ◌∙◌, append_assoc}
use Rattle.std.specs.Prelude.{◌==◌, filter, not}
use Rattle.std.specs.List.{AllByRecursion, enumerate_from}
use Rattle.std.proofs.lemmas.List.Splits.{slice_split_at}
use Rattle.p9_base.specs.Line.{is_skipped, lines_of, words_of}
use Rattle.p9_base.specs.Results.{and_then, try_fold}
use Rattle.p9_base.specs.Statement.{statements_of}
use Rattle.p9_world.specs.declared.line.WorldLine.{WorldLine}
use Rattle.p9_world.specs.declared.line.WorldLine.TheVariants.{Server, Dir, File, User, Group, Hide}
use Rattle.p9_world.specs.Change.{IsLine, line_change, numbered_change}
use Rattle.p9_world.specs.Laws.{WrittenReadsBack}
use Rattle.p9_world.specs.Read.{at_line, read_statement, with_a_server, world_of}
use Rattle.p9_world.specs.Text.{joined, line_words, lines_text}
use Rattle.p9_world.specs.World.{World, empty_world}
use Rattle.p9_world.proofs.Meanings.{line-meaning, line-said, line-words}
use Rattle.p9_world.proofs.Words.{joined-newlines, words_of-joined, IsWord}

-- a line without its newline
abbrev line_body : WorldLine → List ℕ
line_body line = joined (line_words line)

-- its words
line_body-words : (line : WorldLine) → AllByRecursion IsWord (line_words line)
    → words_of (line_body line) ≡ line_words line
line_body-words (Server name) words = words_of-joined _ _ words
line_body-words (Dir dir) words = words_of-joined _ _ words
line_body-words (File file) words = words_of-joined _ _ words
line_body-words (User name) words = words_of-joined _ _ words
line_body-words (Group group) words = words_of-joined _ _ words
line_body-words (Hide hide) words = words_of-joined _ _ words

-- the lines of the text, and the empty one after the last newline
lines-written : (lines : List WorldLine) → AllByRecursion IsLine lines
    → lines_of (lines_text lines) ≡ map line_body lines ++ [] ∷ []
lines-written [] sound = refl
lines-written (line ∷ lines) sound =
    ap lines_of (append_assoc (line_body line) (10 ∷ []) (lines_text lines))
    ∙ slice_split_at (λ b. b == 10) (line_body line) 10 (lines_text lines)
    (joined-newlines (line_words line) (line-words line sound.0)) refl
    ∙ ap (λ others. line_body line ∷ others) (lines-written lines sound.1)

-- a statement for each line, counted
line_statements : ℕ → List WorldLine → List (ℕ × List (List ℕ))
line_statements k [] = []
line_statements k (line ∷ lines) = (k, line_words line) ∷ line_statements (k + 1) lines

statements-written : (k : ℕ) (lines : List WorldLine) → AllByRecursion IsLine lines
    → filter (λ line. not (is_skipped line.1))
    (enumerate_from k (map words_of (map line_body lines ++ [] ∷ [])))
    ≡ line_statements k lines
unfolding line_statements
statements-written k [] sound = refl
statements-written k (line ∷ lines) sound =
    ap (λ words. filter (λ line. not (is_skipped line.1))
    ((k, words) ∷ enumerate_from (k + 1) (map words_of (map line_body lines ++ [] ∷ []))))
    (line_body-words line (line-words line sound.0))
    ∙ rw (line-said line)
    (ap (λ statements. (k, line_words line) ∷ statements) (statements-written (k + 1) lines sound.1))

-- what follows on a result is the same where it is at each value
and_then-same : {S T E : Type 0} (r : Result S E) (f g : S → Result T E)
    → ((s : S) → f s ≡ g s) → and_then r f ≡ and_then r g
and_then-same (Ok s) f g same = same s
and_then-same (Err e) f g same = refl

-- the statements make what the lines ask for
statements-made : (k : ℕ) (lines : List WorldLine) → AllByRecursion IsLine lines → (w : World)
    → try_fold read_statement w (line_statements k lines)
    ≡ try_fold numbered_change w (enumerate_from k lines)
unfolding line_statements
statements-made k [] sound w = refl
statements-made k (line ∷ lines) sound w =
    ap (λ made. and_then (at_line k made) (λ next.
    try_fold read_statement next (line_statements (k + 1) lines)))
    (line-meaning line sound.0 w)
    ∙ and_then-same (at_line k (line_change line w)) _ _
    (λ next. statements-made (k + 1) lines sound.1 next)

pub written_reads_back : WrittenReadsBack
unfolding statements_of world_of
written_reads_back lines sound =
    ap (λ texts. and_then (try_fold read_statement empty_world (filter (λ line. not (is_skipped line.1))
    (enumerate_from 1 (map words_of texts)))) with_a_server) (lines-written lines sound)
    ∙ ap (λ statements. and_then (try_fold read_statement empty_world statements) with_a_server)
    (statements-written 1 lines sound)
    ∙ ap (λ made. and_then made with_a_server) (statements-made 1 lines sound empty_world)
