use Rattle.std.proofs.Common.{◌≡◌, ◌+◌, ◌++◌, drop, length}
use Rattle.std.specs.String.{string_bytes}
use Rattle.p9_explain.specs.Claim.{names_text}
use Rattle.p9_explain.proofs.claim.push_names.Given as goal

-- so many names are left, and the text so far with these is the whole
abbrev pub invariant-loop-user : goal.invariant-loop-user
invariant-loop-user g l = record {
  left : l.left + l.user-index ≡ length l.users;
  told : string_bytes l.text ++ names_text (drop l.user-index l.users)
      ≡ string_bytes l.initial.text ++ names_text l.users;
}
