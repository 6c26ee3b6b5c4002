-- The views of the shares are cut to the inputs' size, as no layer is left.
use Rattle.std.proofs.Common.{◌≡◌, ℕ, ◌+◌, ◌-◌, ◌^◌, ◌≤◌, List, length, take, sym, ap, ◌∙◌, ap₂, arith, rules}
use Rattle.arithmetic.proofs.Truth.{T_of_path}
use Rattle.circuits.specs.Circuit.{size_below}
use Rattle.circuits.specs.Words.{modulus}
use Rattle.circuits.proofs.Parts.{layers_parts}
use Rattle.argument.specs.Claims.{Share, share_sum}
use Rattle.verdicts.proofs.Stepping.{settled_so, settled-not}
use Rattle.claims.specs.Meaning.{numbers, shares_meant}
use Rattle.claims.specs.declared.share.SharesView.{SharesView}
use Rattle.claims.specs.Shares.{shares_seen}
use Rattle.claims.proofs.PointParts.{part_reduced, part_length}
use Rattle.verifier.specs.declared.verifier.Verifier.{Verifier}
use Rattle.verifier.specs.Meaning.{stand_of, inputs_of}
use Rattle.verifier.proofs.PointParts.{size_below_none}
use Rattle.verifier.proofs.verifier.Verifier.settle.Goals as goal

limit : (v : Verifier) → (stand_of v).copies + (stand_of v).inputs ≤ 16
limit v = (layers_parts v.layers.copies v.layers.inputs v.layers.count v.layers.words.now v.layers.lawful).limit

pub view-shares-requires : goal.view-shares-requires
view-shares-requires c = omega (arith, limit c.args.self.now, c.inputs-size.ensures)

pub sum_shares-sum-requires-clause-length : goal.sum_shares-sum-requires-clause-length
sum_shares-sum-requires-clause-length c =
    let v = c.args.self.now in
    let room : length v.claim.copy ≡ 16 = search rules in
    let n : ℕ = c.copies-copies.result - 0 in
    let bits = limit v in
    let size : length c.view-shares.result.first.point.now ≡ c.inputs-size.result = c.view-shares.ensures.fits.first.coordinates in
    let long : length (take n v.claim.copy) ≡ n = part_length 0 n v.claim.copy (omega (arith, c.copies-copies.ensures.value)) in
    let bits_are : (stand_of v).copies + (stand_of v).inputs ≡ length (take n v.claim.copy) + length c.view-shares.result.first.point.now =
    omega (arith, long, size, c.copies-copies.ensures.value, c.inputs-size.ensures)
    in
    (v.inputs_whole ∙ ap (λ (k : ℕ). 2 ^ k) bits_are, omega (arith, bits_are))

pub sum_shares-sum-requires-clause-reduced : goal.sum_shares-sum-requires-clause-reduced
sum_shares-sum-requires-clause-reduced c =
    let v = c.args.self.now in
    (T_of_path _ v.inputs_reduced, part_reduced 0 (c.copies-copies.result - 0) v.claim.copy v.claim.copy_reduced)

-- the sum that is worked out is the claim's
sum_is :
    (v : Verifier) (n size sum : ℕ) (shares : SharesView) → length (stand_of v).layers ≡ 0 → n ≡ (stand_of v).copies →
    size ≡ (stand_of v).inputs → shares_seen shares ≡ shares_meant size v.claim.shares →
    sum ≡ share_sum numbers (inputs_of v) (take n v.claim.copy) (shares_seen shares) →
    sum ≡ share_sum numbers (inputs_of v) (stand_of v).claim.copy (stand_of v).claim.shares
sum_is v n size sum shares none en es em h =
    let whole : size ≡ size_below (stand_of v).layers (stand_of v).inputs = es ∙ sym (size_below_none (stand_of v).layers (stand_of v).inputs none) in
    h ∙
    ap₂ (λ (k : ℕ) (ss : List (Share ℕ)). share_sum numbers (inputs_of v) (take k v.claim.copy) ss) en
    (em ∙ ap (λ (k : ℕ). shares_meant k v.claim.shares) whole)

pub returns-then-sum-self : goal.returns-then-sum-self
returns-then-sum-self c =
    let v = c.args.self.now in
    let sum = c.sum_shares-sum.result in
    let copies : c.copies-copies.result - 0 ≡ (stand_of v).copies = omega (arith, c.copies-copies.ensures.value) in
    settled_so modulus (inputs_of v) (stand_of v) sum
    (sum_is v _ _ sum c.view-shares.result c.requires copies c.inputs-size.ensures c.view-shares.ensures.meant
    c.sum_shares-sum.ensures)
    c.if-sum-self.true

pub returns-else-sum-self : goal.returns-else-sum-self
returns-else-sum-self c =
    let v = c.args.self.now in
    let sum = c.sum_shares-sum.result in
    let copies : c.copies-copies.result - 0 ≡ (stand_of v).copies = omega (arith, c.copies-copies.ensures.value) in
    settled-not modulus (inputs_of v) (stand_of v) sum
    (sum_is v _ _ sum c.view-shares.result c.requires copies c.inputs-size.ensures c.view-shares.ensures.meant
    c.sum_shares-sum.ensures)
    c.if-sum-self.false
