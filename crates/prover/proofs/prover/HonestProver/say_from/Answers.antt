-- Each part's pass gives the answer of the honest prover there.
use Rattle.std.proofs.Common.{◌≡◌, ℕ, ◌+◌, ◌<◌, ltb, List, [], ◌∷◌, ◌++◌, ◌⊎◌, inl, inr, get_or, take, drop, ap, subst, ◌∙◌, ap₂, append-nil, arith, lt→ltb}
use Rattle.arithmetic.specs.Numbers.{modulo, all_reduced}
use Rattle.arithmetic.proofs.Truth.{and_both}
use Rattle.circuits.specs.Words.{modulus}
use Rattle.tables.specs.Multilinear.{mle}
use Rattle.prover.specs.Provers.{IsDue, speaks, claim_held, values_held, copies_of, below_of, history}
use Rattle.prover.proofs.ProverSays.{says_copies, says_left, says_right, says_values}
use Rattle.prover.proofs.ProverSteps.{copies_due, left_due, right_due}
use Rattle.prover.specs.declared.due.Due.TheVariants.{Left, Right}
use Rattle.prover.specs.declared.prover.HonestProver.{HonestProver}
use Rattle.phases.proofs.Starting.{last_number}
use Rattle.prover.proofs.prover.HonestProver.say_from.Goals as goal

pub returns-in-Copies-clause-answer : goal.returns-in-Copies-clause-answer
returns-in-Copies-clause-answer c =
    let t = c.args.self.now in
    let n = c.in-Copies.left in
    let tables = copies_due t c.args.v.now c.args.w.now c.args.h.now c.args.j.now c.requires.parts n c.in-Copies.ensures in
    says_copies t n c.in-Copies.ensures.1 c.copy_answer.result (c.copy_answer.ensures.answer (claim_held t) (values_held t) (history t) tables)

pub returns-in-Left-clause-answer : goal.returns-in-Left-clause-answer
returns-in-Left-clause-answer c = go c.in-Left.is
  where
    t : HonestProver
    t = c.args.self.now

    n : ℕ
    n = c.in-Left.left

    place : List ℕ
    place = take (copies_of t) (history t)

    go : (c.due.result ≡ Left n) ⊎ (c.due.result ≡ Right n) → c.product_answer.result ≡ speaks t []
    go (inl e) =
        let (some, enough, left) = subst (IsDue t) e c.due.ensures in
        let tables = left_due t c.args.v.now c.args.w.now c.args.h.now c.args.j.now c.requires.parts n (some, enough, left) in
        says_left t n enough left c.product_answer.result (c.product_answer.ensures.answer _ _ tables.tables)
    go (inr e) =
        let (some, enough, left) = subst (IsDue t) e c.due.ensures in
        let tables = right_due t c.args.v.now c.args.w.now c.args.h.now c.args.j.now c.requires.parts n enough left in
        says_right t n enough left c.product_answer.result (c.product_answer.ensures.answer _ _ tables.tables)

pub returns-in-Values-clause-answer : goal.returns-in-Values-clause-answer
returns-in-Values-clause-answer c =
    let t = c.args.self.now in
    let all = c.in-Values.ensures in
    let tables = right_due t c.args.v.now c.args.w.now c.args.h.now c.args.j.now c.requires.parts 0 (omega (arith, all)) (omega (arith, all)) in
    let place : List ℕ = take (copies_of t) (history t) in
    let y : List ℕ = drop (copies_of t + below_of t) (history t) in
    let several : 1 < modulus = omega arith in
    let value : get_or c.args.v.now 0 0 ≡ mle (modulo modulus) (values_held t) (place ++ y) =
    (last_number modulus several c.args.v.now tables.tables.v_reduced).0 ∙ tables.tables.value [] ∙ ap (λ (d : List ℕ). mle (modulo modulus) (values_held t) (place ++ d)) (append-nil y) in
    ap₂ {C = List ℕ} (λ (i k : ℕ). i ∷ k ∷ []) tables.value value ∙ says_values t all

pub returns-in-Values-clause-reduced : goal.returns-in-Values-clause-reduced
unfolding all_reduced
returns-in-Values-clause-reduced c =
    let t = c.args.self.now in
    let all = c.in-Values.ensures in
    let tables = right_due t c.args.v.now c.args.w.now c.args.h.now c.args.j.now c.requires.parts 0 (omega (arith, all)) (omega (arith, all)) in
    let several : 1 < modulus = omega arith in
    let b : ℕ = get_or c.args.v.now 0 0 in
    let below : b < modulus = (last_number modulus several c.args.v.now tables.tables.v_reduced).1 in
    and_both (ltb t.at_x modulus) (all_reduced (modulo modulus) (b ∷ [])) (lt→ltb t.at_x modulus tables.value_below)
    (and_both (ltb b modulus) (all_reduced (modulo modulus) []) (lt→ltb b modulus below) tt)
