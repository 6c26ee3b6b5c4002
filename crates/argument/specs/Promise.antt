-- The main promise: right outputs are always believed, others on few rows of coins, and nothing but answers counts.
-- Each part is a type, for every whole modulus above 3; a proof of the type is the theorem.
use Rattle.std.specs.Prelude.{◌≡◌, ℕ, ◌+◌, ◌*◌, ◌^◌, ◌<◌, ◌≤◌, T, List, length, take, ◌≢◌}
use Rattle.arithmetic.specs.Numbers.{Whole, modulo, all_reduced}
use Rattle.arithmetic.specs.Counting.{count_rows}
use Rattle.circuits.specs.Circuit.{Circuit, lawful, output_size, outputs}
use Rattle.argument.specs.Sumcheck.{Prover}
use Rattle.argument.specs.Argument.{first_coins, coins_of, chances_of, accepts}
use Rattle.argument.specs.Honest.{honest}

-- n numbers, all below p
abbrev pub Sized : ℕ → ℕ → List ℕ → Type 0
Sized p n xs = (length xs ≡ n) × T (all_reduced (modulo p) xs)

-- Complete: with the honest prover the right outputs are believed, whatever coins fall.
abbrev pub Complete : Type 0
Complete =
    (p : ℕ) → Whole p → 3 < p → (c : Circuit) → T (lawful c) → (vs : List ℕ) → Sized p (2 ^ (c.copies + c.inputs)) vs →
    (coins : List ℕ) → Sized p (coins_of c) coins →
    T (accepts (modulo p) c vs (outputs (modulo p) c vs) (honest (modulo p) c vs) coins)

-- Sound: claimed outputs that differ from the right ones in anything, whatever function of the coins so far answers, are
-- believed on at most chances_of c p-ths of all p^n rows of n coins.
abbrev pub Sound : Type 0
Sound =
    (p : ℕ) → Whole p → 3 < p → (c : Circuit) → T (lawful c) → (vs : List ℕ) → Sized p (2 ^ (c.copies + c.inputs)) vs →
    (claimed : List ℕ) → Sized p (2 ^ (c.copies + output_size c)) claimed → (claimed ≢ outputs (modulo p) c vs) →
    (f : Prover ℕ) →
    count_rows (modulo p) (coins_of c) (accepts (modulo p) c vs claimed f) * p ≤ chances_of c * p ^ coins_of c

-- OnlyMessages: two provers that answer alike along these coins are believed alike. No answer is given before the first
-- coins have chosen the outputs' point, and none after the last coin.
abbrev pub OnlyMessages : Type 0
OnlyMessages =
    (p : ℕ) (c : Circuit) (vs claimed : List ℕ) (f g : Prover ℕ) (coins : List ℕ) →
    ((n : ℕ) → first_coins c ≤ n → n < length coins → f (take n coins) ≡ g (take n coins)) →
    accepts (modulo p) c vs claimed f coins ≡ accepts (modulo p) c vs claimed g coins

abbrev pub Main : Type 0
Main = Complete × (Sound × OnlyMessages)
