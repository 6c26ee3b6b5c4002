-- The answers before the coins so far are written, and the prover goes on from there.
use Rattle.phases.specs.References.{SameReferences}
use Rattle.prover.specs.Provers.{Stands}
use Rattle.proving.proofs.SpeakSteps.{Spoken}
use Rattle.proving.proofs.speaking.answer_all.Given as goal

abbrev pub invariant-loop-coin : goal.invariant-loop-coin
invariant-loop-coin l = Stands 0 0 l.prover l.tables × Spoken l.fn.prover l.coins l.coin-index l.prover l.room l.at × SameReferences l.fn.tables l.tables
