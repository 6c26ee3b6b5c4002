-- The view has just the coordinates, and they are reduced as all the array is.
use Rattle.std.proofs.Common.{◌≡◌, ◌-◌, length, ◌∙◌, arith, rules}
use Rattle.claims.proofs.PointParts.{part_reduced, part_length}
use Rattle.claims.proofs.claim.Share.view.Goals as goal

pub returns-clause-fits : goal.returns-clause-fits
returns-clause-fits c =
    let s = c.args.self.now in
    let size = c.args.size in
    let long : length s.point ≡ 16 = search rules in
    record {
      factor_below = s.factor_reduced;
      coordinates = part_length 0 (size - 0) s.point (omega arith) ∙ omega arith;
      reduced = part_reduced 0 (size - 0) s.point s.point_reduced;
    }
