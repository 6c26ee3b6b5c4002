-- At the copies' last coin the tables of x are made.
use Rattle.std.proofs.Common.{◌≡◌, ◌<◌, length, arith}
use Rattle.circuits.specs.Words.{modulus}
use Rattle.prover.specs.Provers.{claim_held, values_held, copies_of, history}
use Rattle.prover.proofs.PartSteps.{copies_fixed, parts_at_left}
use Rattle.phases.proofs.Starting.{last_number}
use Rattle.prover.proofs.prover.HonestProver.settle_left.Goals as goal

pub start_left-self-requires-clause-factor : goal.start_left-self-requires-clause-factor
start_left-self-requires-clause-factor c =
    let t = c.args.self.now in
    let all : length (history t) ≡ copies_of t = omega arith in
    let several : 1 < modulus = omega arith in
    (last_number modulus several c.args.h.now (copies_fixed _ _ _ _ _ _ _ _ _ _ _ _ _ c.requires.parts all).eq_reduced).1

pub returns-then-len-start_of_x-clause-stands : goal.returns-then-len-start_of_x-clause-stands
returns-then-len-start_of_x-clause-stands c =
    let t = c.args.self.now in
    let all : length (history t) ≡ copies_of t = omega arith in
    let tables = copies_fixed _ _ _ _ _ _ _ _ _ _ _ _ _ c.requires.parts all in
    record {
      rooms = record { room_v = omega arith; room_w = omega arith; room_h = omega arith };
      room_j = omega arith;
      parts = parts_at_left _ _ _ _ _ _ _ _ _ _ _ _ _ all (c.start_left-self.ensures (claim_held t) (values_held t) (history t) tables);
    }
