-- Bundles: the program's input, in sections.
use Rattle.std.specs.Prelude.{◌≡◌, ℕ, ◌+◌, ◌-◌, nat_eq, List, [], ◌∷◌, ◌++◌}
use Rattle.std.specs.Prelude.{Option, Some, length, true}
use Rattle.std.specs.Prelude.{None, Result, Ok, Err, codes, if◌then◌else◌}
use Rattle.std.specs.List.{enumerate_from, flat_map, join_with_byte, list_all, starts_with}
use Rattle.std.specs.Option.{option_map}
use Rattle.p9_base.specs.Line.{is_blank, lines_of}
use Rattle.p9_base.specs.Results.{and_then, try_fold}
use Rattle.p9_prepared.specs.Section.{head_of, may_follow, section_of}
use Rattle.p9_prepared.specs.declared.section.Section.{Section}
use Rattle.p9_prepared.specs.declared.section.Section.TheVariants.{World, Ns, Cert, Script}
use Rattle.p9_prepared.specs.declared.bundle.Bundle.{Bundle}
use Rattle.p9_prepared.specs.declared.bundle.Part.{Part}
use Rattle.p9_prepared.specs.declared.bundle.Reader.{Reader}
use Rattle.p9_prepared.specs.declared.bundle.BundleError.{BundleError}
use Rattle.p9_prepared.specs.declared.bundle.BundleError.TheVariants.{BadBundle, NoMemory}

-- the texts of the sections that are there
pub record Texts : Type 0 where
  pub world : Option (List ℕ)
  pub ns : Option (List ℕ)
  pub cert : Option (List ℕ)
  pub script : Option (List ℕ)

-- a bundle as far as it is read: the sections, and the one that was begun last
pub record Reading : Type 0 where
  pub texts : Texts
  pub last : Option Section

-- the section begins, without a line
abbrev pub with_section : Section → Texts → Texts
with_section World texts = record texts { world = Some [] }
with_section Ns texts = record texts { ns = Some [] }
with_section Cert texts = record texts { cert = Some [] }
with_section Script texts = record texts { script = Some [] }

-- a line with its newline
abbrev pub ended : List ℕ → List ℕ
ended line = line ++ 10 ∷ []

-- one line more
abbrev pub with_line : (line text : List ℕ) → List ℕ
with_line line text = text ++ line ++ 10 ∷ []

-- the section has one line more
abbrev pub with_line_in : Section → List ℕ → Texts → Texts
with_line_in World line texts = record texts { world = option_map (with_line line) texts.world }
with_line_in Ns line texts = record texts { ns = option_map (with_line line) texts.ns }
with_line_in Cert line texts = record texts { cert = option_map (with_line line) texts.cert }
with_line_in Script line texts = record texts { script = option_map (with_line line) texts.script }

-- a line that begins with `%%` begins a section, or is bad
abbrev pub begun : Reading → ℕ → Option Section → Result Reading ℕ
begun reading number None = Err number
begun reading number (Some section) =
    if may_follow reading.last section
    then Ok (record { texts = with_section section reading.texts; last = Some section })
    else Err number

-- any other line belongs to the section that was begun last; before the first one it is blank, or
-- bad
abbrev pub continued : Reading → ℕ → List ℕ → Option Section → Result Reading ℕ
continued reading number line None = if list_all is_blank line then Ok reading else Err number
continued reading number line (Some section) =
    Ok (record reading { texts = with_line_in section line reading.texts })

-- the line of this number is read
abbrev pub with_numbered_line : Reading → ℕ × List ℕ → Result Reading ℕ
with_numbered_line reading numbered =
    if starts_with nat_eq numbered.1 (codes "%%")
    then begun reading numbered.0 (section_of numbered.1)
    else continued reading numbered.0 numbered.1 reading.last

-- nothing is read yet
abbrev pub unread : Reading
unread = record {
  texts = record { world = None; ns = None; cert = None; script = None };
  last = None;
}

-- the sections of a text, or the number of its first bad line
abbrev pub bundle_of : List ℕ → Result Texts ℕ
bundle_of text =
    and_then (try_fold with_numbered_line unread (enumerate_from 1 (lines_of text)))
    (λ reading. Ok reading.texts)

-- The parts of an input, which are its sections.

-- the bytes of a part, if it is there
abbrev pub part_view : Option Part → Option (List ℕ)
part_view part = option_map (λ part. part.text.now) part

-- a bundle as the bytes of its parts
abbrev pub bundle_view : Bundle → Texts
bundle_view bundle = record {
  world = part_view bundle.world;
  ns = part_view bundle.ns;
  cert = part_view bundle.cert;
  script = part_view bundle.script;
}

-- lines of an input as they are in it before others: each has a newline, but the input's last line
-- has none
abbrev pub in_input : (lines behind : List (List ℕ)) → List ℕ
in_input lines [] = join_with_byte 10 lines
in_input lines (line ∷ behind) = flat_map ended lines

-- a section's lines are these, behind the one that begins it and before others, and its part is
-- where they begin: so many bytes are before it as its place says, and the number is that of the
-- line behind the one that begins the section
pub record IsAt (input : List ℕ) (section : Section) (own behind : List (List ℕ)) (part : Part) : Type 0 where
  pub before : List (List ℕ)
  pub lines : lines_of input ≡ before ++ head_of section ∷ (own ++ behind)
  pub start : part.start ≡ length (in_input (before ++ head_of section ∷ []) (own ++ behind))
  pub line : part.line ≡ length before + 2

-- a section's part has its lines as they are in the input, and its text has each of them with a
-- newline
pub record IsPart (input : List ℕ) (section : Section) (part : Part) (text : List ℕ) : Type 0 where
  pub own : List (List ℕ)
  pub behind : List (List ℕ)
  pub at : IsAt input section own behind part
  pub bytes : part.text.now ≡ in_input own behind
  pub lines : text ≡ flat_map ended own

-- a section is there, as a part of the input and as the text of its lines; or it isn't there
abbrev pub IsPartOf : List ℕ → Section → Option Part → Option (List ℕ) → Type 0
IsPartOf input section None None = Unit {0}
IsPartOf input section (Some part) (Some text) = IsPart input section part text
IsPartOf input section part text = ⊥

-- the sections of a bundle are parts of the input, which have these texts
pub record ArePartsOf (input : List ℕ) (bundle : Bundle) (texts : Texts) : Type 0 where
  pub world : IsPartOf input World bundle.world texts.world
  pub ns : IsPartOf input Ns bundle.ns texts.ns
  pub cert : IsPartOf input Cert bundle.cert texts.cert
  pub script : IsPartOf input Script bundle.script texts.script

-- an error says that an allocation failed, or which line is the first bad one
abbrev pub IsBundleFault : {X : Type 0} → Result X ℕ → BundleError → Type 0
IsBundleFault bundle NoMemory = Unit {0}
IsBundleFault bundle (BadBundle line) = bundle ≡ Err line

-- A bundle as far as it is read.

-- a part becomes a section
abbrev pub with_part : Section → Part → Bundle → Bundle
with_part World part bundle = record bundle { world = Some part }
with_part Ns part bundle = record bundle { ns = Some part }
with_part Cert part bundle = record bundle { cert = Some part }
with_part Script part bundle = record bundle { script = Some part }

-- a text becomes a section's text
abbrev pub with_text : Section → List ℕ → Texts → Texts
with_text World text texts = record texts { world = Some text }
with_text Ns text texts = record texts { ns = Some text }
with_text Cert text texts = record texts { cert = Some text }
with_text Script text texts = record texts { script = Some text }

-- the section that was begun last
abbrev pub last_of : Reader → Option Section
last_of reader = option_map (λ begun. begun.0) reader.begun

-- what is read, where the sections have these texts so far
abbrev pub reading_of : Reader → Texts → Reading
reading_of reader texts = record { texts = texts; last = last_of reader }

-- the sections before are parts, and the one that was begun last is one, which has all that is left,
-- too
abbrev pub AreSoFar : List ℕ → (left : List (List ℕ)) → Bundle → Option (Section × Part) → Texts
    → Type 0
AreSoFar input left bundle None texts = ArePartsOf input bundle texts
AreSoFar input left bundle (Some begun) texts =
    (before : Texts) × (own : List (List ℕ)) × ArePartsOf input bundle before
    × IsAt input begun.0 own left begun.1 × (begun.1.text.now ≡ join_with_byte 10 (own ++ left))
    × (texts ≡ with_text begun.0 (flat_map ended own) before)

-- a text has these lines; where there are none, it is empty
abbrev pub IsRest : List (List ℕ) → List ℕ → Type 0
IsRest [] rest = rest ≡ []
IsRest (line ∷ left) rest = lines_of rest ≡ line ∷ left

-- an input is read up to these lines, from this number on, with these texts of its sections so far
abbrev pub IsReadTo : List ℕ → (number : ℕ) → List (List ℕ) → Reader → Texts → Type 0
IsReadTo input number left reader texts =
    ((read : List (List ℕ)) × (lines_of input ≡ read ++ left) × (number ≡ length read + 1))
    × (reader.len ≡ length input) × IsRest left reader.rest.now
    × AreSoFar input left reader.bundle reader.begun texts

-- a line is read as it is read into the texts
abbrev pub Reads : (number : ℕ) → List ℕ → (old new : Reader) → Type 0
Reads number line old new =
    (input : List ℕ) (left : List (List ℕ)) (texts : Texts)
    → IsReadTo input number (line ∷ left) old texts
    → (next : Texts)
    × (with_numbered_line (reading_of old texts) (number, line) ≡ Ok (reading_of new next))
    × IsReadTo input (number + 1) left new next

-- an error is that with which a line is not read into the texts
abbrev pub IsFaultOf : (number : ℕ) → List ℕ → Reader → BundleError → Type 0
IsFaultOf number line reader error =
    (texts : Texts)
    → IsBundleFault (with_numbered_line (reading_of reader texts) (number, line)) error

-- what is left from the section's line on is no longer of the one before, if there is one
abbrev pub Ends : List ℕ → Option (Section × Part) → (old new : Bundle) → Type 0
Ends left None old new = new ≡ old
Ends left (Some begun) old new =
    (part : Part) × (new ≡ with_part begun.0 part old) × (part.start ≡ begun.1.start)
    × (part.line ≡ begun.1.line)
    × ((text : List ℕ) → begun.1.text.now ≡ text ++ left → part.text.now ≡ text)

-- a section is begun, which may be there, with the rest as its part
abbrev pub Begins : (number : ℕ) → Option Section → List ℕ → (old new : Reader) → Type 0
Begins number None left old new = ⊥
Begins number (Some section) left old new =
    (may_follow (last_of old) section ≡ true) × Ends left old.begun old.bundle new.bundle
    × (new.rest ≡ old.rest) × (new.len ≡ old.len)
    × (new.begun
    ≡ Some (
      section,
      record { text = old.rest; start = old.len - length old.rest.now; line = number + 1 },
    ))
