-- Each part's tables are halved by the call for it.
use Rattle.std.proofs.Common.{◌≡◌, ℕ, List, [], ◌∷◌, ◌++◌, ◌⊎◌, inl, inr, subst}
use Rattle.prover.specs.Provers.{PartsAt, IsDue, claim_held, values_held, history}
use Rattle.prover.specs.declared.due.Due.TheVariants.{Left, Right}
use Rattle.prover.specs.declared.prover.HonestProver.{HonestProver}
use Rattle.prover.proofs.PartSteps.{parts_copies, parts_left, parts_right}
use Rattle.prover.proofs.ProverSteps.{copies_due, left_due, right_due}
use Rattle.prover.proofs.prover.HonestProver.halve.Goals as goal

pub returns-in-Copies : goal.returns-in-Copies
returns-in-Copies c =
    let t = c.args.self.now in
    let n = c.in-Copies.left in
    let due = c.in-Copies.ensures in
    let before = copies_due t c.args.v.now c.args.w.now c.args.h.now c.args.j.now c.requires.stands.parts n due in
    parts_copies _ _ _ _ _ _ _ _ _ c.args.v.now c.args.w.now c.args.h.now c.args.j.now _ _ _ _ n due.0 due.1
    (c.copy_coin.ensures (claim_held t) (values_held t) (history t) c.args.w.now before)

pub returns-in-Left : goal.returns-in-Left
returns-in-Left c = go c.in-Left.is
  where
    t : HonestProver
    t = c.args.self.now

    v : List ℕ
    v = c.args.v.now

    w : List ℕ
    w = c.args.w.now

    h : List ℕ
    h = c.args.h.now

    j : List ℕ
    j = c.args.j.now

    n : ℕ
    n = c.in-Left.left

    go : (c.due.result ≡ Left n) ⊎ (c.due.result ≡ Right n) →
        PartsAt 1 1 t (history t ++ c.args.coin ∷ []) c.product_coin.new.v w c.product_coin.new.h c.product_coin.new.j
    go (inl e) =
        let (some, enough, left) = subst (IsDue t) e c.due.ensures in
        let before = left_due t v w h j c.requires.stands.parts n (some, enough, left) in
        parts_left _ _ _ _ _ _ _ _ _ v w h j _ _ _ _ n some enough left before c.product_coin.ensures.v c.product_coin.ensures.h c.product_coin.ensures.j
    go (inr e) =
        let (some, enough, left) = subst (IsDue t) e c.due.ensures in
        let before = right_due t v w h j c.requires.stands.parts n enough left in
        parts_right _ _ _ _ _ _ _ _ _ v w h j _ _ _ _ n some enough left before c.product_coin.ensures.v c.product_coin.ensures.h c.product_coin.ensures.j
