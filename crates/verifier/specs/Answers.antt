-- The numbers of an answer that was read, and of the answer that a coin fell for.
-- The machine's steps are stated by these.
use Rattle.std.specs.Prelude.{ℕ, List}
use Rattle.claims.specs.Messages.{numbers_of}
use Rattle.verifier.specs.declared.answer.Answer.{Answer}
use Rattle.verifier.specs.declared.answer.Coin.{Coin}

abbrev pub answer_seen : Answer → List ℕ
answer_seen a = numbers_of a.message

abbrev pub coin_answer : Coin → List ℕ
coin_answer c = numbers_of c.message

abbrev pub coin_word : Coin → ℕ
coin_word c = c.word
