-- What the machine's verdict says, over whole transcripts.
-- Each statement is a type, for every system of numbers; a proof of the type is the theorem.
use Rattle.std.specs.Prelude.{◌≡◌, ℕ, ◌<◌, false, T, ◌⊎◌, List, [], length, take, drop, slice_index_or}
use Rattle.arithmetic.specs.Numbers.{modulo}
use Rattle.circuits.specs.Circuit.{Circuit}
use Rattle.argument.specs.Argument.{first_coins, coins_of, accepts}
use Rattle.argument.specs.Transcript.{written}
use Rattle.verdicts.specs.Machine.{is_believed, Stand, doubt, fits, settled, start, verdict, stand_after}

-- With as many coins as it takes, the machine believes exactly where the argument is accepted.
abbrev pub MachineBelieves : Type 0
MachineBelieves =
    (p : ℕ) (c : Circuit) (vs claimed : List ℕ) (answers : List (List ℕ)) (coins : List ℕ) → length coins ≡ coins_of c →
    is_believed (verdict (modulo p) c vs claimed answers coins) ≡
    accepts (modulo p) c vs claimed (written (first_coins c) answers) coins

-- The verdict is given where for the first time something isn't as it has to be: some n answers fit, and then either
-- the next one does not, and the verdict names the place where the machine then stands, or no coin is left, and the
-- verdict is what the inputs say of the claim.
abbrev pub StopsFirst : Type 0
StopsFirst =
    (p : ℕ) (c : Circuit) (vs claimed : List ℕ) (answers : List (List ℕ)) (coins : List ℕ) →
    let N = modulo p in
    let later : List ℕ = drop (first_coins c) coins in
    let stand : ℕ → Stand ℕ = λ n. stand_after N n (start N c claimed (take (first_coins c) coins)) answers later in
    let v = verdict N c vs claimed answers coins in
    (n : ℕ) × ((m : ℕ) → m < n → T (fits N (stand m) (slice_index_or answers m []))) ×
    (((n < length later) × (fits N (stand n) (slice_index_or answers n []) ≡ false) × (v ≡ doubt (stand n))) ⊎
    ((n ≡ length later) × (v ≡ settled N vs (stand n))))
