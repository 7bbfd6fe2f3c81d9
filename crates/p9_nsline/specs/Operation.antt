-- The form of a line: the operation that its words say, as namespace(6), or what is wrong with
-- them.
use Rattle.std.specs.Prelude.{ℕ, List, [], ◌∷◌, Option, Some, None, Result, Ok, Err, drop, codes}
use Rattle.std.specs.Prelude.{option_map, if◌then◌else◌}
use Rattle.std.specs.Option.{option_map_or}
use Rattle.std.specs.Borrow.{Bor}
use Rattle.std.specs.Str.{bytes_eq}
use Rattle.std.specs.List.{take_while, prefix_len}
use Rattle.p9_nsline.specs.declared.error.BadForm.{BadForm}
use Rattle.p9_nsline.specs.declared.error.BadForm.TheVariants.{UnknownWord, WordCount, BadFlag}
use Rattle.p9_nsline.specs.declared.flags.Flags.{Flags}
use Rattle.p9_nsline.specs.declared.operation.Operation.{Operation}
use Rattle.p9_nsline.specs.declared.operation.Operation.TheVariants.{Mount, Bind, Cd, Unmount}
use Rattle.p9_nsline.specs.declared.operation.Operation.TheVariants.{Clear, Include, Import}
use Rattle.p9_nsline.specs.declared.operation.Verb.{Verb}
use Rattle.p9_nsline.specs.declared.operation.Verb.TheVariants as v
use Rattle.p9_nsline.specs.Flags.{Word, flags_of, is_flag}

-- an operation or what is wrong
abbrev pub Form : Type 0
Form = Result (Operation Word) BadForm

-- what the first word asks for
abbrev pub verb_of : Word → Option Verb
verb_of word =
    if bytes_eq word (codes "mount") then Some v.Mount
    else if bytes_eq word (codes "bind") then Some v.Bind
    else if bytes_eq word (codes "cd") then Some v.Cd
    else if bytes_eq word (codes "unmount") then Some v.Unmount
    else if bytes_eq word (codes "clear") then Some v.Clear
    else if bytes_eq word (codes ".") then Some v.Include
    else if bytes_eq word (codes "import") then Some v.Import
    else None

-- the words before the first that is no flag
abbrev pub leading_flags : List Word → List Word
leading_flags words = take_while is_flag words

-- the words from the first that is no flag on
abbrev pub behind_flags : List Word → List Word
behind_flags words = drop (prefix_len is_flag words) words

-- the operation with the flags, if they are good
abbrev pub with_flags : Option Flags → (Flags → Operation Word) → Form
with_flags None operation = Err BadFlag
with_flags (Some flags) operation = Ok (operation flags)

-- `mount [-abcC] server old [spec]`: the words after the flags are counted before the flags are
-- looked at
abbrev pub mount_form : Option Flags → List Word → Form
mount_form flags (server ∷ old ∷ []) = with_flags flags (λ flags. Mount flags server old None)
mount_form flags (server ∷ old ∷ spec ∷ []) =
    with_flags flags (λ flags. Mount flags server old (Some spec))
mount_form flags others = Err WordCount

-- the form of all words after `mount`
abbrev pub mount_of : List Word → Form
mount_of words = mount_form (flags_of (leading_flags words)) (behind_flags words)

-- `bind [-abcC] new old`
abbrev pub bind_form : Option Flags → List Word → Form
bind_form flags (new ∷ old ∷ []) = with_flags flags (λ flags. Bind flags new old)
bind_form flags others = Err WordCount

-- the form of all words after `bind`
abbrev pub bind_of : List Word → Form
bind_of words = bind_form (flags_of (leading_flags words)) (behind_flags words)

-- `cd dir`
abbrev pub cd_of : List Word → Form
cd_of (dir ∷ []) = Ok (Cd dir)
cd_of others = Err WordCount

-- `unmount [new] old`
abbrev pub unmount_of : List Word → Form
unmount_of (old ∷ []) = Ok (Unmount None old)
unmount_of (new ∷ old ∷ []) = Ok (Unmount (Some new) old)
unmount_of others = Err WordCount

-- `clear`
abbrev pub clear_of : List Word → Form
clear_of [] = Ok Clear
clear_of others = Err WordCount

-- `. path`
abbrev pub include_of : List Word → Form
include_of (path ∷ []) = Ok (Include path)
include_of others = Err WordCount

-- the form of a line of this verb, by the words after it; `import` takes any words
abbrev pub arguments_of : Verb → List Word → Form
arguments_of v.Mount words = mount_of words
arguments_of v.Bind words = bind_of words
arguments_of v.Cd words = cd_of words
arguments_of v.Unmount words = unmount_of words
arguments_of v.Clear words = clear_of words
arguments_of v.Include words = include_of words
arguments_of v.Import words = Ok Import

-- the form of a line of these words
abbrev pub operation_of : List Word → Form
operation_of [] = Err UnknownWord
operation_of (first ∷ words) =
    option_map_or (λ verb. arguments_of verb words) (verb_of first) (Err UnknownWord)

-- an operation whose words lie in a text, as one of the words
abbrev pub operation_view : Operation (Bor (List ℕ)) → Operation Word
operation_view (Mount flags server old spec) =
    Mount flags server.now old.now (option_map (λ w. w.now) spec)
operation_view (Bind flags new old) = Bind flags new.now old.now
operation_view (Cd dir) = Cd dir.now
operation_view (Unmount new old) = Unmount (option_map (λ w. w.now) new) old.now
operation_view Clear = Clear
operation_view (Include path) = Include path.now
operation_view Import = Import

-- an answer of the code, as a form
abbrev pub form_view : Result (Operation (Bor (List ℕ))) BadForm → Form
form_view (Ok operation) = Ok (operation_view operation)
form_view (Err kind) = Err kind
