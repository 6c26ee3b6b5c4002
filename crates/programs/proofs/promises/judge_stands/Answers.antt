-- The theorem is proved in `proofs/BelievedOnly.antt`.
use Rattle.programs.proofs.BelievedOnly.{believed_only_where}
use Rattle.programs.proofs.promises.judge_stands.Goals as goal

pub returns : goal.returns
returns c = believed_only_where
