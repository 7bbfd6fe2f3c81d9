-- The exit statuses.
use Rattle.std.specs.Prelude.{ℕ, ◌==◌, ◌&&◌, ◌||◌, Bool, if◌then◌else◌}

-- 0, or 1 where something is left out and that is not to be passed over, and always 1 where a
-- directory that is to be hidden is not there
abbrev pub exit_status : ℕ → Bool → Bool → ℕ
exit_status left_out is_whole skip = if is_whole && (left_out == 0 || skip) then 0 else 1
