-- The chunks of three words are the gates, each asked for its first word.
use Rattle.std.proofs.Common.{◌≡◌, ℕ, zero, suc, ◌/◌, ◌&&◌, List, ltb, length, get_or, take, drop, refl, ap, ◌∙◌, arith, rules, tests}
use Rattle.std.specs.Simd.{first_chunks}
use Rattle.std.specs.List.{list_all}
use Rattle.std.proofs.lemmas.List.{get_or-take}
use Rattle.std.proofs.lemmas.Iterator.{YieldsList-from_slice}
use Rattle.std.proofs.lemmas.Iterator.Search.{all_from_yields_List}
use Rattle.circuits.specs.Words.{kinds_known}
use Rattle.circuits.proofs.shape.kinds_known.Goals as goal

chunks_known : (n : ℕ) (ws : List ℕ) → list_all (λ gate. ltb (get_or gate 0 0) 2) (first_chunks 3 n ws) ≡ kinds_known n ws
unfolding kinds_known
chunks_known zero ws = refl
chunks_known (suc n) ws = ap (λ b. ltb (get_or (take 3 ws) 0 0) 2 && b) (chunks_known n (drop 3 ws))
    ∙ ap (λ w. ltb w 2 && kinds_known n (drop 3 ws)) (get_or-take 3 ws 0 0 (omega arith))

pub returns : goal.returns
returns c =
    let ws = c.args.words.now in
    all_from_yields_List (λ gate. ltb (get_or gate 0 0) 2) _ _ c.all.result c.all.ensures.ran (YieldsList-from_slice (first_chunks 3 (length ws / 3) ws) (cc)) (λ x b q k. search (rules, tests))
    ∙ chunks_known (length ws / 3) ws
