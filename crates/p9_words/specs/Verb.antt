-- The words that begin a line, with the fields that are after each.
use Rattle.std.specs.Prelude.{ℕ, List, [], ◌∷◌, codes}
use Rattle.p9_words.specs.declared.form.Form.{Form}
use Rattle.p9_words.specs.declared.form.Form.TheVariants as form
use Rattle.p9_words.specs.declared.form.Width.TheVariants.{U8, U16, U32, U64}
use Rattle.p9_words.specs.declared.key.Key.{Key}
use Rattle.p9_words.specs.declared.key.Key.TheVariants as key
use Rattle.p9_words.specs.declared.verb.Verb.{Verb}
use Rattle.p9_words.specs.declared.verb.Verb.TheVariants.{Tversion, Rversion, Tauth, Tattach}
use Rattle.p9_words.specs.declared.verb.Verb.TheVariants.{Rattach, Rerror, Tflush}
use Rattle.p9_words.specs.declared.verb.Verb.TheVariants.{Rflush, Twalk, Rwalk, Topen, Ropen}
use Rattle.p9_words.specs.declared.verb.Verb.TheVariants.{Tcreate, Rcreate}
use Rattle.p9_words.specs.declared.verb.Verb.TheVariants.{Tread, Rread, Twrite, Rwrite, Tclunk}
use Rattle.p9_words.specs.declared.verb.Verb.TheVariants.{Rclunk, Tremove}
use Rattle.p9_words.specs.declared.verb.Verb.TheVariants.{Rremove, Tstat, Rstat, Twstat, Rwstat}

-- the word
abbrev pub verb_text : Verb → List ℕ
verb_text Tversion = codes "Tversion"
verb_text Rversion = codes "Rversion"
verb_text Tauth = codes "Tauth"
verb_text Tattach = codes "Tattach"
verb_text Rattach = codes "Rattach"
verb_text Rerror = codes "Rerror"
verb_text Tflush = codes "Tflush"
verb_text Rflush = codes "Rflush"
verb_text Twalk = codes "Twalk"
verb_text Rwalk = codes "Rwalk"
verb_text Topen = codes "Topen"
verb_text Ropen = codes "Ropen"
verb_text Tcreate = codes "Tcreate"
verb_text Rcreate = codes "Rcreate"
verb_text Tread = codes "Tread"
verb_text Rread = codes "Rread"
verb_text Twrite = codes "Twrite"
verb_text Rwrite = codes "Rwrite"
verb_text Tclunk = codes "Tclunk"
verb_text Rclunk = codes "Rclunk"
verb_text Tremove = codes "Tremove"
verb_text Rremove = codes "Rremove"
verb_text Tstat = codes "Tstat"
verb_text Rstat = codes "Rstat"
verb_text Twstat = codes "Twstat"
verb_text Rwstat = codes "Rwstat"

-- every message
abbrev pub verbs : List Verb
verbs =
    Tversion ∷ Rversion ∷ Tauth ∷ Tattach ∷ Rattach ∷ Rerror ∷ Tflush ∷ Rflush
    ∷ Twalk ∷ Rwalk ∷ Topen ∷ Ropen ∷ Tcreate ∷ Rcreate ∷ Tread ∷ Rread
    ∷ Twrite ∷ Rwrite ∷ Tclunk ∷ Rclunk ∷ Tremove ∷ Rremove ∷ Tstat ∷ Rstat
    ∷ Twstat ∷ Rwstat ∷ []

-- the number of the message's type
abbrev pub type_of : Verb → ℕ
type_of Tversion = 100
type_of Rversion = 101
type_of Tauth = 102
type_of Tattach = 104
type_of Rattach = 105
type_of Rerror = 107
type_of Tflush = 108
type_of Rflush = 109
type_of Twalk = 110
type_of Rwalk = 111
type_of Topen = 112
type_of Ropen = 113
type_of Tcreate = 114
type_of Rcreate = 115
type_of Tread = 116
type_of Rread = 117
type_of Twrite = 118
type_of Rwrite = 119
type_of Tclunk = 120
type_of Rclunk = 121
type_of Tremove = 122
type_of Rremove = 123
type_of Tstat = 124
type_of Rstat = 125
type_of Twstat = 126
type_of Rwstat = 127

-- what follows the tag, in order: the word before each field, and what it holds
abbrev pub fields_of : Verb → List (Key × Form)
fields_of Tversion = (key.Msize, form.Number U32) ∷ (key.Version, form.Text) ∷ []
fields_of Rversion = (key.Msize, form.Number U32) ∷ (key.Version, form.Text) ∷ []
fields_of Tauth = (key.Afid, form.Number U32) ∷ (key.Uname, form.Text) ∷ (key.Aname, form.Text) ∷ []
fields_of Tattach =
    (key.Fid, form.Number U32) ∷ (key.Afid, form.Number U32)
    ∷ (key.Uname, form.Text) ∷ (key.Aname, form.Text) ∷ []
fields_of Rattach = (key.Qid, form.Qid) ∷ []
fields_of Rerror = (key.Ename, form.Text) ∷ []
fields_of Tflush = (key.Oldtag, form.Number U16) ∷ []
fields_of Rflush = []
fields_of Twalk =
    (key.Fid, form.Number U32) ∷ (key.Newfid, form.Number U32)
    ∷ (key.Nwname, form.Names) ∷ []
fields_of Rwalk = (key.Nwqid, form.Qids) ∷ []
fields_of Topen = (key.Fid, form.Number U32) ∷ (key.Mode, form.Number U8) ∷ []
fields_of Ropen = (key.Qid, form.Qid) ∷ (key.Iounit, form.Number U32) ∷ []
fields_of Tcreate =
    (key.Fid, form.Number U32) ∷ (key.Name, form.Text)
    ∷ (key.Perm, form.Octal) ∷ (key.Mode, form.Number U8) ∷ []
fields_of Rcreate = (key.Qid, form.Qid) ∷ (key.Iounit, form.Number U32) ∷ []
fields_of Tread =
    (key.Fid, form.Number U32) ∷ (key.Offset, form.Number U64)
    ∷ (key.Count, form.Number U32) ∷ []
fields_of Rread = (key.Count, form.Data) ∷ []
fields_of Twrite =
    (key.Fid, form.Number U32) ∷ (key.Offset, form.Number U64)
    ∷ (key.Count, form.Data) ∷ []
fields_of Rwrite = (key.Count, form.Number U32) ∷ []
fields_of Tclunk = (key.Fid, form.Number U32) ∷ []
fields_of Rclunk = []
fields_of Tremove = (key.Fid, form.Number U32) ∷ []
fields_of Rremove = []
fields_of Tstat = (key.Fid, form.Number U32) ∷ []
fields_of Rstat = (key.Stat, form.Stat) ∷ []
fields_of Twstat = (key.Fid, form.Number U32) ∷ (key.Stat, form.Stat) ∷ []
fields_of Rwstat = []
