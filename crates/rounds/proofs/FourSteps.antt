-- Four values of a function modulo p: of an equal function, and of one that is 0.
-- Sums in a loop start at the one and go on by the other.
use Rattle.std.proofs.Common.{◌≡◌, ℕ, ◌<◌, T, List, [], ◌∷◌, length, get_or, ap, lt→ltb, subst, sym}
use Rattle.arithmetic.specs.Numbers.{modulo, all_reduced}
use Rattle.arithmetic.proofs.Newton.{four_places}
use Rattle.arithmetic.proofs.Truth.{and_both}
use Rattle.rounds.specs.Fours.{AtEach, FourOf}

pub four_same : (p : ℕ) (f h : ℕ → ℕ) (s : List ℕ) → ((t : ℕ) → f t ≡ h t) → FourOf p f s → FourOf p h s
four_same p f h s e v = record { values = cc (v.values, e 0, e 1, e 2, e 3); below = v.below }

pub four_reduced : (p : ℕ) {a b c d : ℕ} → a < p → b < p → c < p → d < p → T (all_reduced (modulo p) (a ∷ b ∷ c ∷ d ∷ []))
unfolding all_reduced
four_reduced p {a} {b} {c} {d} ha hb hc hd = and_both _ _ (lt→ltb a p ha) (and_both _ _ (lt→ltb b p hb) (and_both _ _ (lt→ltb c p hc) (and_both _ _ (lt→ltb d p hd) tt)))

pub four_zeros : (p : ℕ) → 0 < p → (f : ℕ → ℕ) → ((t : ℕ) → f t ≡ 0) → FourOf p f (0 ∷ 0 ∷ 0 ∷ 0 ∷ [])
four_zeros p h f e = record { values = cc (e 0, e 1, e 2, e 3); below = four_reduced p h h h h }

pub four_reduced_at : (p : ℕ) (s : List ℕ) → length s ≡ 4 → AtEach (λ i. get_or s i 0 < p) → T (all_reduced (modulo p) s)
four_reduced_at p s long (h0, h1, h2, h3) = subst (λ (l : List ℕ). T (all_reduced (modulo p) l)) (sym (four_places s long)) (four_reduced p h0 h1 h2 h3)

-- an operation on each of four values
pub four_zipped : (p : ℕ) (op : ℕ → ℕ → ℕ) (a b r : List ℕ) → length r ≡ 4 → AtEach (λ i. get_or r i 0 ≡ op (get_or a i 0) (get_or b i 0)) →
    AtEach (λ i. get_or r i 0 < p) → (f h : ℕ → ℕ) → FourOf p f a → FourOf p h b → FourOf p (λ t. op (f t) (h t)) r
four_zipped p op a b r long (e0, e1, e2, e3) below f h fa hb =
    let left = λ (i : ℕ). ap (λ (l : List ℕ). get_or l i 0) fa.values in
    let right = λ (i : ℕ). ap (λ (l : List ℕ). get_or l i 0) hb.values in
    record {
      values = cc (four_places r long, e0, e1, e2, e3, left 0, left 1, left 2, left 3, right 0, right 1, right 2, right 3);
      below = four_reduced_at p r long below;
    }
