-- Before each answer the prover stands as it has to, in its tables.
use Rattle.prover.specs.Provers.{Stands}
use Rattle.house.proofs.talk.Given as goal

abbrev pub invariant-loop : goal.invariant-loop
invariant-loop l = Stands 0 0 l.prover l.tables
