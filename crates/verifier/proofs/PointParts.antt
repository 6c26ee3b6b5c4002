-- How many variables a layer has, where all of their coins have fallen, and parts of a list.
-- With no layer left, what lies below is the inputs.
use Rattle.std.proofs.Common.{◌≡◌, ℕ, ◌+◌, ◌-◌, ◌*◌, ◌<◌, ◌≤◌, List, [], ◌∷◌, length, take, drop, refl, ap, ◌∙◌, arith}
use Rattle.std.proofs.lemmas.List.{take-take, drop-take}
use Rattle.circuits.specs.Circuit.{Layer, size_below}
use Rattle.verdicts.specs.Machine.{variables, variables_of, size_under}
use Rattle.verifier.specs.declared.verifier.Verifier.{Verifier}
use Rattle.verifier.specs.Meaning.{stand_of}

pub variables_some : (copies inputs : ℕ) (ls : List Layer) → 0 < length ls → variables copies inputs ls ≡ copies + 2 * size_below (drop 1 ls) inputs
variables_some copies inputs [] h = absurd (omega arith)
variables_some copies inputs (l ∷ ls) h = refl

-- a part of the first words of a list is a part of the list
pub part_of_front : (from len end : ℕ) (xs : List ℕ) → from + len ≤ end → take len (drop from (take end xs)) ≡ take len (drop from xs)
part_of_front from len end xs h =
    let split : end ≡ from + (end - from) = omega arith in
    ap (λ (n : ℕ). take len (drop from (take n xs))) split ∙ ap (take len) (drop-take from (end - from) xs) ∙
    take-take len (end - from) (drop from xs) (omega arith)

-- how many coins a layer has whose variables all have theirs
pub all_drawn : (v : Verifier) → 0 < length (stand_of v).layers → variables_of (stand_of v) ≤ length (stand_of v).point →
    length (stand_of v).point ≡ (stand_of v).copies + 2 * size_under (stand_of v)
all_drawn v some done =
    omega (arith, variables_some (stand_of v).copies (stand_of v).inputs (stand_of v).layers some, v.within, done)

pub size_below_none : (ls : List Layer) (inputs : ℕ) → length ls ≡ 0 → size_below ls inputs ≡ inputs
size_below_none [] inputs e = refl
size_below_none (l ∷ ls) inputs e = absurd (omega arith)
