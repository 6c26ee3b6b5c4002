-- The theorems are proved in `proofs/RightTalk.antt` and `proofs/HonestTalk.antt`.
use Rattle.programs.proofs.RightTalk.{right_outputs_are_believed}
use Rattle.programs.proofs.HonestTalk.{house_convinces_judge}
use Rattle.programs.proofs.promises.right_outputs_stand.Goals as goal

pub returns : goal.returns
returns c = record { answered = right_outputs_are_believed; talked = house_convinces_judge }
