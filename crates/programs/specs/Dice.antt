-- Coins from bytes: four bytes make one, the lowest first, the highest bit left out; again if that is p.
-- So each number below p comes from just two of the 2^32 rows of four bytes.
use Rattle.std.specs.Prelude.{ℕ, ◌+◌, ◌*◌, ◌%◌, cond, List, [], ◌∷◌, Some, None, Option, ◌==◌}
use Rattle.circuits.specs.Words.{modulus}

-- the 31 lower bits of four bytes
abbrev pub low_bits : ℕ → ℕ → ℕ → ℕ → ℕ
low_bits a b c d = (a + 256 * b + 65536 * c + 16777216 * d) % 2147483648

abbrev pub coin_of : ℕ → ℕ → ℕ → ℕ → Option ℕ
coin_of a b c d = cond (low_bits a b c d == modulus) None (Some (low_bits a b c d))

abbrev pub before : Option ℕ → List ℕ → List ℕ
before None coins = coins
before (Some coin) coins = coin ∷ coins

-- the coins of a row of bytes, four by four; what is left in the end makes none
unfoldable pub coins_from : List ℕ → List ℕ
coins_from [] = []
coins_from (a ∷ []) = []
coins_from (a ∷ b ∷ []) = []
coins_from (a ∷ b ∷ c ∷ []) = []
coins_from (a ∷ b ∷ c ∷ d ∷ bytes) = before (coin_of a b c d) (coins_from bytes)
