-- What the lemmas of each message are about: a forest that a guard keeps, under a setting.
use Rattle.std.specs.Prelude.{List}
use Rattle.p9_base.specs.declared.node_ref.NodeRef.{NodeRef}
use Rattle.p9_tree.specs.Server.{Server}
use Rattle.p9_tree.specs.Inside.{outer}
use Rattle.p9_fids.specs.Fid.{Fid, FidRow}
use Rattle.p9_step.specs.State.{Setting}
use Rattle.p9_step.specs.ForestChange.{ForestChange, all_applied}
use Rattle.p9_guard_laws.specs.Grown.{Start}
use Rattle.p9_guard_laws.specs.Guarded.{Premises, premises_of}
use Rattle.p9_guard_laws.proofs.Good.{Good, good-all}
use Rattle.p9_guard_laws.proofs.Held.{HeldFid, HeldFids}
use Rattle.p9_guard_laws.proofs.Moves.{Lawful}

-- what is hidden, what no event changes, where the guard began, and the forest, which is kept
pub record Scene : Type 0 where
  pub hidden : List NodeRef
  pub setting : Setting
  pub start : Start
  pub forest : List Server
  pub good : Good (premises_of hidden setting) start forest

abbrev pub scene_of : (hidden : List NodeRef) (setting : Setting) (start : Start)
    (forest : List Server) → Good (premises_of hidden setting) start forest → Scene
scene_of hidden setting start forest good =
    record { hidden = hidden; setting = setting; start = start; forest = forest; good = good }

abbrev pub premises_in : Scene → Premises
premises_in scene = premises_of scene.hidden scene.setting

-- the forest without what is inside
abbrev pub outer_of : Scene → List Server
outer_of scene = outer scene.hidden scene.forest

-- after lawful changes
abbrev pub scene_after : (scene : Scene) (changes : List ForestChange)
    → Lawful (premises_in scene) scene.forest changes → Scene
scene_after scene changes lawful = record {
  hidden = scene.hidden;
  setting = scene.setting;
  start = scene.start;
  forest = all_applied changes scene.forest;
  good = good-all (premises_in scene) scene.start scene.forest scene.good changes lawful;
}

-- a fid is a listed user's, its places are safe, and it is not open on what is hidden
abbrev pub SafeFid : Scene → Fid → Type 0
SafeFid scene = HeldFid (premises_in scene) scene.start scene.forest

abbrev pub SafeFids : Scene → List FidRow → Type 0
SafeFids scene fids = HeldFids (premises_in scene) scene.start scene.forest fids
