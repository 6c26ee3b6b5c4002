-- The tables that were halved are those of the longer coins.
use Rattle.std.proofs.Common.{ℕ, List, sym, subst, arith}
use Rattle.prover.specs.Provers.{PartsAt}
use Rattle.prover.proofs.prover.HonestProver.take_coin.Goals as goal

pub returns-clause-stands : goal.returns-clause-stands
returns-clause-stands c =
    record {
      rooms = record { room_v = omega arith; room_w = omega arith; room_h = omega arith };
      room_j = omega arith;
      parts = subst (λ (coins : List ℕ). PartsAt 1 1 c.args.self.now coins c.halve.new.v c.args.w.now c.halve.new.h c.halve.new.j) (sym c.push.ensures) c.halve.ensures;
    }
