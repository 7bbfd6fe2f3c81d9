-- Sections that say the same.
use Rattle.std.proofs.Common.{◌≡◌, ◌==◌, ℕ, ◌+◌, ◌<◌, Bool, true, false, cond, List, [], ◌∷◌, ◌++◌}
use Rattle.std.proofs.Common.{Option, Some, None, Result, Ok, Err, length, map, refl, sym}
use Rattle.std.proofs.Common.{ap, ◌∙◌, arith}
use Rattle.std.specs.Prelude.{not, filter, unwrap_or}
use Rattle.std.specs.List.{enumerate_from, flat_map, join_with_byte, onto_first}
use Rattle.std.specs.Option.{option_map}
use Rattle.std.proofs.lemmas.List.{append-nil}
use Rattle.std.proofs.lemmas.List.Splits.{length-slice_split}
use Rattle.p9_base.specs.Line.{is_skipped, lines_of, words_of}
use Rattle.p9_base.specs.Results.{and_then}
use Rattle.p9_base.specs.Statement.{statements_of}
use Rattle.p9_cert.specs.Text.{certificate_of}
use Rattle.p9_nsline.specs.Line.{lines_in}
use Rattle.p9_world.specs.Read.{world_of}
use Rattle.p9_world.specs.World.{World}
use Rattle.p9_prepared.specs.Bundle.{ArePartsOf, IsPartOf, Texts, bundle_view, ended, in_input}
use Rattle.p9_prepared.specs.Bundle.{part_view, with_line}
use Rattle.p9_prepared.specs.NameSpace.{NameSpace, space_in, space_over, world_in}
use Rattle.p9_prepared.specs.Prepared.{certificate_in, prepared_with, rest_in, script_in, space_with}
use Rattle.p9_prepared.specs.Statements.{SameStatements, statements_in}
use Rattle.p9_prepared.specs.declared.bundle.Bundle.{Bundle}
use Rattle.p9_prepared.specs.declared.bundle.Part.{Part}
use Rattle.p9_prepared.specs.declared.prepared.Needs.{Needs}
use Rattle.p9_prepared.specs.declared.refusal.Refusal.{Refusal}
use Rattle.p9_prepared.specs.declared.section.Section.{Section}
use Rattle.p9_prepared.specs.declared.section.Section.TheVariants.{World as WorldSection, Ns, Cert, Script}
use Rattle.p9_prepared.proofs.Parts.{joined-ended}

-- Texts, cut at a newline.

-- the first part of some parts, and others after them
onto_first-append : (x : ℕ) (parts rest : List (List ℕ)) → 0 < length parts
    → onto_first x (parts ++ rest) ≡ onto_first x parts ++ rest
onto_first-append x [] rest some = absurd (omega arith)
onto_first-append x (part ∷ parts) rest some = refl

-- a text with a newline in it has the lines before and those after that
pub lines_of-append : (xs ys : List ℕ) → lines_of (xs ++ 10 ∷ ys) ≡ lines_of xs ++ lines_of ys
lines_of-append [] ys = refl
lines_of-append (x ∷ xs) ys =
    lines-onto (x == 10) x (lines_of xs) (lines_of ys) (lines_of (xs ++ 10 ∷ ys))
    (omega (arith, length-slice_split (λ b. b == 10) xs)) (lines_of-append xs ys)
  where
    lines-onto : (b : Bool) (x : ℕ) (parts rest all : List (List ℕ)) → 0 < length parts
        → all ≡ parts ++ rest →
        cond b ([] ∷ all) (onto_first x all) ≡ cond b ([] ∷ parts) (onto_first x parts) ++ rest
    lines-onto true x parts rest all some is = ap (λ ls. [] ∷ ls) is
    lines-onto false x parts rest all some is =
        ap (onto_first x) is ∙ onto_first-append x parts rest some

-- An empty line more says nothing.

filter-blank : (k : ℕ) (lines : List (List ℕ)) →
    filter (λ line. not (is_skipped line.1)) (enumerate_from k (map words_of lines))
    ≡ filter (λ line. not (is_skipped line.1)) (enumerate_from k (map words_of (lines ++ [] ∷ [])))
filter-blank k [] = refl
filter-blank k (line ∷ lines) =
    ap (λ rest. cond (not (is_skipped (words_of line))) ((k, words_of line) ∷ rest) rest)
    (filter-blank (k + 1) lines)

statements_of-newline : (text : List ℕ) → statements_of text ≡ statements_of (text ++ 10 ∷ [])
unfolding statements_of
statements_of-newline text =
    filter-blank 1 (lines_of text)
    ∙ ap (λ lines. filter (λ line. not (is_skipped line.1)) (enumerate_from 1 (map words_of lines)))
    (sym (lines_of-append text []))

pub statements_of-blank : (text : List ℕ) → statements_of text ≡ statements_of (with_line [] text)
statements_of-blank text =
    statements_of-newline text ∙ ap (λ t. statements_of (t ++ 10 ∷ [])) (sym (append-nil text))

pub statements_in-blank : (text : Option (List ℕ))
    → statements_in text ≡ statements_in (option_map (with_line []) text)
statements_in-blank None = refl
statements_in-blank (Some text) = ap Some (statements_of-blank text)

pub same-itself : (texts : Texts) → SameStatements texts texts
same-itself texts = record { world = refl; ns = refl; cert = refl; script = refl }

-- The parts of an input say what its sections' texts say.

in_input-says : (own behind : List (List ℕ))
    → statements_of (in_input own behind) ≡ statements_of (flat_map ended own)
in_input-says own (line ∷ behind) = refl
in_input-says [] [] = refl
in_input-says (line ∷ own) [] =
    statements_of-newline (join_with_byte 10 (line ∷ own)) ∙ ap statements_of (joined-ended line own)

part-says : (input : List ℕ) (section : Section) (part : Option Part) (text : Option (List ℕ))
    → IsPartOf input section part text → statements_in (part_view part) ≡ statements_in text
part-says input section None None is = refl
part-says input section None (Some text) is = absurd is
part-says input section (Some part) None is = absurd is
part-says input section (Some part) (Some text) is =
    ap (λ t. Some (statements_of t)) is.bytes ∙ ap Some (in_input-says is.own is.behind)
    ∙ ap (λ t. Some (statements_of t)) (sym is.lines)

pub parts-say : (input : List ℕ) (bundle : Bundle) (texts : Texts) → ArePartsOf input bundle texts
    → SameStatements (bundle_view bundle) texts
parts-say input bundle texts are = record {
  world = part-says input WorldSection bundle.world texts.world are.world;
  ns = part-says input Ns bundle.ns texts.ns are.ns;
  cert = part-says input Cert bundle.cert texts.cert are.cert;
  script = part-says input Script bundle.script texts.script are.script;
}

-- What says the same comes to the same.

pub some-same : {X : Type 0} (x y : X) → Some x ≡ Some y → x ≡ y
some-same x y e = cc

world_of-same : (x y : List ℕ) → statements_of x ≡ statements_of y → world_of x ≡ world_of y
unfolding world_of
world_of-same x y e = rw e refl

lines_in-same : (x y : List ℕ) → statements_of x ≡ statements_of y → lines_in x ≡ lines_in y
unfolding lines_in
lines_in-same x y e = rw e refl

world_in-same : (x y : Option (List ℕ)) → statements_in x ≡ statements_in y
    → world_in x ≡ world_in y
world_in-same None None e = refl
world_in-same None (Some y) e = absurd (cc)
world_in-same (Some x) None e = absurd (cc)
world_in-same (Some x) (Some y) e = rw (world_of-same x y (some-same _ _ e)) refl

text-same : (x y : Option (List ℕ)) → statements_in x ≡ statements_in y
    → statements_of (unwrap_or x []) ≡ statements_of (unwrap_or y [])
text-same None None e = refl
text-same None (Some y) e = absurd (cc)
text-same (Some x) None e = absurd (cc)
text-same (Some x) (Some y) e = some-same _ _ e

space_over-same : (x y : List ℕ) (w : World) → statements_of x ≡ statements_of y
    → space_over x w ≡ space_over y w
space_over-same x y w e = rw (lines_in-same x y e) refl

pub space_in-same : (x y a b : Option (List ℕ)) → statements_in x ≡ statements_in y
    → statements_in a ≡ statements_in b → space_in x a ≡ space_in y b
space_in-same x y a b world ns =
    ap (λ w. and_then w (space_over (unwrap_or a []))) (world_in-same x y world)
    ∙ over (world_in y)
  where
    over : (w : Result World Refusal)
        → and_then w (space_over (unwrap_or a [])) ≡ and_then w (space_over (unwrap_or b []))
    over (Ok w) = space_over-same (unwrap_or a []) (unwrap_or b []) w (text-same a b ns)
    over (Err refusal) = refl

pub script_in-same : (t u : Texts) → statements_in t.script ≡ statements_in u.script
    → script_in t ≡ script_in u
script_in-same t u e = rw (text-same t.script u.script e) refl

rows-same : (needs : Needs) (x y : Option (List ℕ)) → statements_in x ≡ statements_in y
    → certificate_in needs x ≡ certificate_in needs y
rows-same needs None None e = refl
rows-same needs None (Some y) e = absurd (cc)
rows-same needs (Some x) None e = absurd (cc)
rows-same needs (Some x) (Some y) e =
    let same : certificate_of x ≡ certificate_of y = rw (some-same _ _ e) refl in
    rw same refl

rest_in-same : (needs : Needs) (t u : Texts) → SameStatements t u
    → rest_in needs t ≡ rest_in needs u
rest_in-same needs t u same =
    rw (rows-same needs t.cert u.cert same.cert, script_in-same t u same.script) refl

pub prepared_with-same : (needs : Needs) (t u : Texts) (space : NameSpace) → SameStatements t u
    → prepared_with needs t space ≡ prepared_with needs u space
prepared_with-same needs t u space same = rw (rest_in-same needs t u same) refl

pub space_with-same : (t u : Texts) (space : NameSpace) → SameStatements t u
    → space_with t space ≡ space_with u space
space_with-same t u space same = rw (script_in-same t u same.script) refl
