-- Where the tables are made nothing is said.
use Rattle.circuits.specs.Views.{circuit_seen}
use Rattle.prover.proofs.ProverHears.{opened_alike}
use Rattle.prover.proofs.prover.HonestProver.open.Goals as goal

pub returns-clause-opened : goal.returns-clause-opened
returns-clause-opened c = opened_alike (circuit_seen c.args.circuit) c.args.inputs.now c.args.coins.now _ _ c.open-prover.ensures c.begin.ensures.alike c.begin.ensures.none
