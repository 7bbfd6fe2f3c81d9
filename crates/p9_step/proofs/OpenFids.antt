-- What open fids keep, while the forest evolves.
use Rattle.std.proofs.Common.{◌≡◌, List, [], ◌∷◌, None, ◌∙◌, arith}
use Rattle.p9_tree.specs.Server.{Server}
use Rattle.p9_tree.specs.Forest.{IsForest}
use Rattle.p9_space.specs.Table.{MountRow}
use Rattle.p9_fids.specs.Fid.{Fid, FidRow}
use Rattle.p9_step.specs.Sound.{IsWellOpen, AreWellOpen}
use Rattle.p9_step.specs.State.{fid_ref}
use Rattle.p9_step.proofs.Evolves.{Evolves, found-evolved}

module _ (table : List MountRow) (f g : List Server) (sound : IsForest f)
    (evolves : Evolves f g) where
  pub fit-evolved : (v : Fid) → IsWellOpen table f v → IsWellOpen table g v
  fit-evolved v fits o is =
      let old = fits o is in
      let more = (evolves.server (fid_ref table v).server).next in
      record {
        given = (let below = old.given in omega arith);
        mode =
            λ n found dir. let was = found-evolved f g (fid_ref table v) n sound evolves old.given
            found in old.mode was.0 was.1 (was.2 ∙ dir);
        stays =
            λ n found dir. let was = found-evolved f g (fid_ref table v) n sound evolves old.given
            found in old.stays was.0 was.1 (was.2 ∙ dir);
      }

  -- what open fids keep stays, where the forest evolves
  pub fits-evolved : (fids : List FidRow) → AreWellOpen table f fids → AreWellOpen table g fids
  fits-evolved [] fits = fits
  fits-evolved (row ∷ rows) fits = (fit-evolved row.1 fits.0, fits-evolved rows fits.1)

-- a fid that isn't open keeps all there is to keep
pub fits-shut : (table : List MountRow) (forest : List Server) (v : Fid) → v.opened ≡ None
    → IsWellOpen table forest v
fits-shut table forest v shut o is = absurd (cc)
