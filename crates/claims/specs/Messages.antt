-- The numbers of a message.
-- A transcript has them one after the other.
use Rattle.std.specs.Prelude.{ℕ, List}
use Rattle.claims.specs.declared.message.Message.{Message}
use Rattle.claims.specs.declared.message.Message.TheVariants.{Round, Values}

abbrev pub numbers_of : Message → List ℕ
numbers_of (Round numbers) = numbers
numbers_of (Values numbers) = numbers
