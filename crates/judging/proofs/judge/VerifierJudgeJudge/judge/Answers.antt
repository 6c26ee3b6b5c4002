-- Soundness is a theorem, whatever is answered.
use Rattle.verdicts.proofs.Soundly.{judges_soundly, judges_rows_soundly, judges_provers_soundly}
use Rattle.judging.proofs.judge.VerifierJudgeJudge.judge.Goals as goal

pub returns-clause-sound : goal.returns-clause-sound
returns-clause-sound c = judges_soundly c.args.circuit.now c.args.inputs.now c.args.claimed.now

pub returns-clause-sound_in_rows : goal.returns-clause-sound_in_rows
returns-clause-sound_in_rows c = judges_rows_soundly c.args.circuit.now c.args.inputs.now c.args.claimed.now

pub returns-clause-sound_for_provers : goal.returns-clause-sound_for_provers
returns-clause-sound_for_provers c = judges_provers_soundly c.args.circuit.now c.args.inputs.now c.args.claimed.now
