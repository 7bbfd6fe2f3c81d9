use Rattle.std.proofs.Common.{◌≡◌, ℕ, ◌&&◌, true, false, not, nat_le, List, length, nat_eq}
use Rattle.std.proofs.Common.{refl}
use Rattle.std.proofs.lemmas.Bool.{and_parts, false_from_ne_true}
use Rattle.std.proofs.lemmas.Str.{IsUtf8-from_is_utf8}
use Rattle.std.specs.Str.{IsUtf8, is_utf8}
use Rattle.std.specs.List.{list_any}
use Rattle.p9_base.specs.Text.{is_text}
use Rattle.p9_base.specs.User.{is_user, user_max}
use Rattle.p9_restricted.proofs.front.user_of.Goals as goal

-- a user's name is UTF-8
IsUtf8-user : (name : List ℕ) → is_user name ≡ true → IsUtf8 name
IsUtf8-user name e =
    let sized = nat_le 1 (length name) && nat_le (length name) user_max in
    let text : is_text name ≡ true = (and_parts sized (is_text name) e).1 in
    IsUtf8-from_is_utf8 name
    (and_parts (is_utf8 name) (not (list_any (λ b. nat_eq b 0) name)) text).0

pub returns-in-Err : goal.returns-in-Err
returns-in-Err c =
    let name = c.args.name.now in
    let no : is_user name ≡ false =
    false_from_ne_true (is_user name) (λ e. c.in-Err.ensures.cases.0 (IsUtf8-user name e)) in
    rw no refl
