-- The main promise, for every whole modulus above 3.
-- The numbers modulo such a p are a field, and over any field it is proved already.
use Rattle.arithmetic.specs.Numbers.{modulo, all_reduced}
use Rattle.arithmetic.proofs.FieldModulo.{field_modulo}
use Rattle.arithmetic.proofs.Truth.{path_of_T, T_of_path}
use Rattle.circuits.specs.Circuit.{lawful, outputs}
use Rattle.argument.specs.Argument.{accepts}
use Rattle.argument.specs.Honest.{honest}
use Rattle.argument.specs.Promise.{Complete, Sound, Main}
use Rattle.argument.proofs.OnlyMessages.{only_messages}
use Rattle.argument.proofs.Complete.{complete}
use Rattle.argument.proofs.Sound.{sound}

complete_modulo : Complete
complete_modulo p whole large c law vs given coins drawn =
    T_of_path (accepts (modulo p) c vs (outputs (modulo p) c vs) (honest (modulo p) c vs) coins)
    (complete (field_modulo p whole large) c (path_of_T (lawful c) law) vs given.0 coins drawn.0)

sound_modulo : Sound
sound_modulo p whole large c law vs given claimed stated wrong f =
    sound (field_modulo p whole large) c (path_of_T (lawful c) law) vs given.0 claimed stated.0
    (path_of_T (all_reduced (modulo p) claimed) stated.1) wrong f

pub main : Main
main = (complete_modulo, (sound_modulo, only_messages))
