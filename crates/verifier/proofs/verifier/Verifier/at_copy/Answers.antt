-- A part of the claim's point is reduced as all its array is.
use Rattle.std.proofs.Common.{◌-◌, length}
use Rattle.claims.proofs.PointParts.{part_reduced}
use Rattle.verifier.proofs.verifier.Verifier.at_copy.Goals as goal

pub eq_at-requires-clause-a_reduced : goal.eq_at-requires-clause-a_reduced
eq_at-requires-clause-a_reduced c =
    let claim = c.args.self.now.claim in
    part_reduced 0 (length c.parts.result.copies.now - 0) claim.copy claim.copy_reduced
