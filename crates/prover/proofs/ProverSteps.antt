-- The prover's stand where a part of the layer begins, from its tables there.
-- And the view of its shares, as it is asked for by the passes that make them.
use Rattle.std.proofs.Common.{◌≡◌, ℕ, ◌+◌, ◌-◌, ◌*◌, ◌≤◌, List, [], length, take, drop, sym, ap, ◌∙◌, subst, ap₂, arith, length-drop}
use Rattle.std.proofs.lemmas.List.{take_all}
use native.Mathlib.Nat.{sub-zero}
use Rattle.circuits.specs.Views.{layer_seen, size_seen}
use Rattle.circuits.specs.Words.{modulus}
use Rattle.claims.specs.Meaning.{shares_meant}
use Rattle.claims.specs.Shares.{shares_seen}
use Rattle.claims.specs.declared.share.SharesView.{SharesView}
use Rattle.prover.specs.Provers.{IsDue, PartsAt, claim_held, values_held, copies_of, below_of, history}
use Rattle.phases.specs.Standing.{CopyTables, LeftTables, RightTables}
use Rattle.prover.specs.declared.due.Due.TheVariants.{Copies, Left}
use Rattle.prover.specs.declared.prover.HonestProver.{HonestProver}

-- the tables of the part that is due
module _ (t : HonestProver) (v w h j : List ℕ) (s : PartsAt 0 0 t (history t) v w h j) (n : ℕ) where
  pub copies_due : IsDue t (Copies n) → CopyTables modulus (layer_seen t.layer) (below_of t) (claim_held t) (values_held t) (history t) n v w h
  copies_due (some, left) =
      let same : copies_of t - length (history t) ≡ n = omega arith in
      subst (λ (i : ℕ). CopyTables modulus (layer_seen t.layer) (below_of t) (claim_held t) (values_held t) (history t) i v w h)
      same (s.over_copies (omega arith))

  pub left_due : IsDue t (Left n) →
      LeftTables modulus (layer_seen t.layer) (below_of t) (claim_held t) (values_held t) (take (copies_of t) (history t)) (drop (copies_of t) (history t)) n t.factor v w h j
  left_due (some, enough, left) =
      let same : copies_of t + below_of t - length (history t) ≡ n = omega arith in
      subst (λ (i : ℕ). LeftTables modulus (layer_seen t.layer) (below_of t) (claim_held t) (values_held t) (take (copies_of t) (history t)) (drop (copies_of t) (history t)) i t.factor v w h j)
      same (s.over_left (omega arith) (omega arith))

  pub right_due : copies_of t + below_of t ≤ length (history t) → length (history t) + n ≡ copies_of t + 2 * below_of t →
      RightTables modulus (layer_seen t.layer) (below_of t) (claim_held t) (values_held t) (take (copies_of t) (history t))
      (take (below_of t) (drop (copies_of t) (history t))) (drop (copies_of t + below_of t) (history t)) n t.at_x v h j
  right_due enough left =
      let same : copies_of t + 2 * below_of t - length (history t) ≡ n = omega arith in
      subst (λ (i : ℕ). RightTables modulus (layer_seen t.layer) (below_of t) (claim_held t) (values_held t) (take (copies_of t) (history t))
      (take (below_of t) (drop (copies_of t) (history t))) (drop (copies_of t + below_of t) (history t)) i t.at_x v h j)
      same (s.over_right (omega arith))

-- a layer at its start: no coin is drawn yet
pub begun : (t : HonestProver) (v w h j : List ℕ) → history t ≡ [] →
    CopyTables modulus (layer_seen t.layer) (below_of t) (claim_held t) (values_held t) [] (copies_of t) v w h → PartsAt 1 1 t (history t) v w h j
begun t v w h j none tables =
    subst (λ (coins : List ℕ). PartsAt 1 1 t coins v w h j) (sym none)
    (record {
      over_copies = λ _. subst (λ (n : ℕ). CopyTables modulus (layer_seen t.layer) (below_of t) (claim_held t) (values_held t) [] n v w h) (sym (sub-zero (copies_of t))) tables;
      over_left = λ many _. absurd (omega arith);
      over_right = λ many. absurd (omega arith);
    })

-- the view of the shares that it holds, for a size that was read
pub shares_held : (t : HonestProver) (size : ℕ) (shares : SharesView) → size ≡ size_seen t.layer → shares_seen shares ≡ shares_meant size t.shares →
    (claim_held t).shares ≡ shares_seen shares
shares_held t size shares e is = sym (is ∙ ap (λ (n : ℕ). shares_meant n t.shares) e)

-- the last coins, where all of them were read
pub rest_is : (a from : ℕ) (xs coins : List ℕ) → a ≡ from → xs ≡ coins → take (length xs - a) (drop a xs) ≡ drop from coins
rest_is a from xs coins ea ex =
    take_all (length xs - a) (drop a xs) (omega (arith, length-drop a xs)) ∙ ap₂ (λ (n : ℕ) (ys : List ℕ). drop n ys) ea ex
