-- With the weights of all shares the gathered wiring is that of the claim.
use Rattle.std.proofs.Common.{◌≡◌, ℕ, ◌^◌, ◌<◌, List, length, get_or, ◌∙◌, subst, arith}
use Rattle.arithmetic.specs.Numbers.{modulo}
use Rattle.circuits.specs.Circuit.{Kind, sum, product}
use Rattle.circuits.specs.Views.{layer_seen, gates_seen}
use Rattle.circuits.specs.declared.view.LayerView.{LayerView}
use Rattle.argument.specs.Claims.{shared_wiring}
use Rattle.circuits.proofs.Parts.{layer_parts}
use Rattle.circuits.proofs.Steps.{length-gates_of}
use Rattle.claims.specs.Gathered.{wiring_at}
use Rattle.claims.specs.Shares.{shares_seen}
use Rattle.claims.specs.declared.share.SharesView.{SharesView}
use Rattle.claims.specs.Sums.{share_weight}
use Rattle.claims.proofs.Wires.{shared}
use Rattle.claims.proofs.wiring.layer.wire_shares_in.Goals as goal

-- with the weights of these shares the gathered wiring is theirs
weighed_is :
    (p : ℕ) (several : 1 < p) (kind : Kind) (weights : List ℕ) (layer : LayerView) (shares : SharesView) (x y : List ℕ) →
    length shares.first.point.now ≡ layer.size →
    ((i : ℕ) → i < 2 ^ length shares.first.point.now → get_or weights i 0 ≡ share_weight (modulo p) (length shares.first.point.now) (shares_seen shares) i) →
    wiring_at p kind weights layer.below x y (gates_seen layer) ≡ shared_wiring (modulo p) kind (layer_seen layer) layer.below (shares_seen shares) x y
weighed_is p several kind weights layer shares x y size weigh =
    let fit = (layer_parts layer.size layer.below layer.words.now layer.lawful).fits in
    let all = length-gates_of (2 ^ layer.size) layer.words.now in
    let weighed : (i : ℕ) → i < 2 ^ layer.size → get_or weights i 0 ≡ share_weight (modulo p) layer.size (shares_seen shares) i =
    subst (λ (n : ℕ). (i : ℕ) → i < 2 ^ n → get_or weights i 0 ≡ share_weight (modulo p) n (shares_seen shares) i) size weigh
    in
    shared p several kind weights x y layer.below (layer_seen layer) (shares_seen shares) fit all weighed

pub returns-clause-sums : goal.returns-clause-sums
returns-clause-sums g c =
    let several : 1 < g.M.Modular.modulus = omega (arith, g.met.M.Modular.above) in
    c.wire.ensures.sums ∙
    weighed_is g.M.Modular.modulus several sum c.weigh.new.weights c.args.layer c.args.shares c.args.x.now c.args.y.now
    c.requires.shares.first.coordinates c.weigh.ensures.weights

pub returns-clause-products : goal.returns-clause-products
returns-clause-products g c =
    let several : 1 < g.M.Modular.modulus = omega (arith, g.met.M.Modular.above) in
    c.wire.ensures.products ∙
    weighed_is g.M.Modular.modulus several product c.weigh.new.weights c.args.layer c.args.shares c.args.x.now c.args.y.now
    c.requires.shares.first.coordinates c.weigh.ensures.weights
