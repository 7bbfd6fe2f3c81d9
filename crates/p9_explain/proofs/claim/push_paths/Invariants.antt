use Rattle.std.proofs.Common.{◌≡◌, ◌+◌, ◌++◌, drop, length}
use Rattle.std.specs.String.{string_bytes}
use Rattle.p9_explain.specs.Claim.{paths_text}
use Rattle.p9_explain.proofs.claim.push_paths.Given as goal

-- so many paths are left, and the text so far with these is the whole
abbrev pub invariant-loop-dir : goal.invariant-loop-dir
invariant-loop-dir g l = record {
  left : l.left + l.dir-index ≡ length l.dirs;
  told : string_bytes l.text ++ paths_text l.world (drop l.dir-index l.dirs)
      ≡ string_bytes l.initial.text ++ paths_text l.world l.dirs;
}
