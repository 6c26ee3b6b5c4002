-- The theorems are proved in `proofs/Theorems.antt`.
use Rattle.arithmetic.proofs.Theorems.{through_its_values, exact_for_cubics, agree_at_most_thrice}
use Rattle.arithmetic.proofs.promises.cubics_stand.Goals as goal

pub returns : goal.returns
returns c = record { through = through_its_values; exact = exact_for_cubics; thrice = agree_at_most_thrice }
