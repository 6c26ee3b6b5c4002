-- The theorem is proved in `proofs/HonestTalk.antt`.
use Rattle.programs.proofs.HonestTalk.{house_says_honest}
use Rattle.programs.proofs.promises.house_stands.Goals as goal

pub returns : goal.returns
returns c = house_says_honest
