-- The chunks of three words are the gates, each asked for its two places.
use Rattle.std.proofs.Common.{◌≡◌, ℕ, zero, suc, ◌/◌, Bool, ◌&&◌, List, ltb, length, get_or, take, drop, refl, ap, ap₂, sym, ◌∙◌, arith, rules, tests}
use Rattle.std.specs.Simd.{first_chunks}
use Rattle.std.specs.List.{list_all}
use Rattle.std.proofs.lemmas.List.{get_or-take}
use Rattle.std.proofs.lemmas.Iterator.{YieldsList-from_slice}
use Rattle.std.proofs.lemmas.Iterator.Search.{all_from_yields_List}
use Rattle.circuits.specs.Circuit.{gates_fit}
use Rattle.circuits.specs.Words.{gates_of}
use Rattle.circuits.proofs.Steps.{and_regroup}
use Rattle.circuits.proofs.places.gates_fit.Goals as goal

abbrev fits : ℕ → List ℕ → Bool
fits p gate = ltb (get_or gate 1 0) p && ltb (get_or gate 2 0) p

chunks_fit : (p n : ℕ) (ws : List ℕ) → list_all (fits p) (first_chunks 3 n ws) ≡ gates_fit p (gates_of n ws)
unfolding gates_fit gates_of
chunks_fit p zero ws = refl
chunks_fit p (suc n) ws =
    ap (λ b. fits p (take 3 ws) && b) (chunks_fit p n (drop 3 ws))
    ∙ ap₂ (λ a b. (ltb a p && ltb b p) && gates_fit p (gates_of n (drop 3 ws))) (get_or-take 3 ws 1 0 (omega arith)) (get_or-take 3 ws 2 0 (omega arith))
    ∙ sym (and_regroup (ltb (get_or ws 1 0) p) (ltb (get_or ws 2 0) p) (gates_fit p (gates_of n (drop 3 ws))))

pub returns : goal.returns
returns c =
    let ws = c.args.words.now in
    let p = c.args.places in
    all_from_yields_List (fits p) _ _ c.all.result c.all.ensures.ran (YieldsList-from_slice (first_chunks 3 (length ws / 3) ws) (cc)) (λ x b q k. search (rules, tests))
    ∙ chunks_fit p (length ws / 3) ws
