-- Tables added place by place, and the weights that shares' tables add up to.
-- The sum of one share's table and nothing is that table, since its numbers are reduced.
use Rattle.std.proofs.Common.{◌≡◌, ℕ, suc, ◌+◌, ◌*◌, ◌%◌, ◌^◌, ◌<◌, ◌≤◌, T, ltb, List, [], ◌∷◌, ◌++◌, length, get_or, drop, sym, ap, ◌∙◌, subst, add-zero, mod-lt, mod-eq_of_lt, arith, lt→ltb, pow_mono}
use Rattle.std.proofs.lemmas.List.{append-nil, drop_all}
use Rattle.arithmetic.specs.Numbers.{modulo, all_reduced}
use Rattle.arithmetic.proofs.Truth.{and_both}
use Rattle.tables.specs.Multilinear.{eq_poly, bits_of}
use Rattle.argument.specs.Claims.{Share}
use Rattle.claims.specs.Sums.{share_weight}

-- numbers are reduced if each of them is
reduced_from : (p : ℕ) (xs : List ℕ) → ((i : ℕ) → i < length xs → get_or xs i 0 < p) → T (all_reduced (modulo p) xs)
unfolding all_reduced
reduced_from p [] h = tt
reduced_from p (x ∷ xs) h =
    and_both (ltb x p) (all_reduced (modulo p) xs) (lt→ltb x p (h 0 (omega arith)))
    (reduced_from p xs (λ i l. h (suc i) (omega arith)))

-- the first i places of xs and ys are added
pub record Added (p : ℕ) (xs ys : List ℕ) (i : ℕ) (table : List ℕ) : Type 0 where
  pub size : length table ≡ length xs
  pub done : (k : ℕ) → k < i → get_or table k 0 ≡ (get_or xs k 0 + get_or ys k 0) % p
  pub left : (k : ℕ) → i ≤ k → get_or table k 0 ≡ get_or xs k 0

pub added_reduced : (p : ℕ) (xs ys table : List ℕ) (i : ℕ) → 0 < p → length xs ≤ i → Added p xs ys i table → T (all_reduced (modulo p) table)
added_reduced p xs ys table i positive h a =
    reduced_from p table
    (λ k l. let room : k < i = omega (arith, a.size) in subst (λ (x : ℕ). x < p) (sym (a.done k room)) (mod-lt _ positive))

-- a reduced number, and nothing more
pub plus_nothing : (p x : ℕ) → x < p → x ≡ (x + 0) % p
plus_nothing p x h = sym (ap (λ (n : ℕ). n % p) (add-zero x) ∙ mod-eq_of_lt h)

-- a table that fills its room
pub filled : (room table words : List ℕ) (n : ℕ) → length room ≡ n → words ≡ table ++ drop n room → words ≡ table
filled room table words n e h = h ∙ ap (λ (xs : List ℕ). table ++ xs) (drop_all n room (omega arith)) ∙ append-nil table

-- no table has more places
pub pow_at_most : (n : ℕ) → n ≤ 16 → 2 ^ n ≤ 65536
pow_at_most n h = pow_mono h

-- the weights of one share, and of two
module _ (p size : ℕ) (positive : 0 < p) where
  abbrev own : Share ℕ → ℕ → ℕ
  own s i = (s.factor * eq_poly (modulo p) (bits_of (modulo p) size i) s.point) % p

  pub weight_of_one : (s : Share ℕ) (ss : List (Share ℕ)) (i w : ℕ) → ss ≡ [] → w ≡ own s i → w ≡ share_weight (modulo p) size (s ∷ ss) i
  unfolding share_weight
  weight_of_one s ss i w none e =
      e ∙ plus_nothing p (own s i) (mod-lt _ positive) ∙
      ap (λ (xs : List (Share ℕ)). share_weight (modulo p) size (s ∷ xs) i) (sym none)

  pub weight_of_two : (s t : Share ℕ) (ss : List (Share ℕ)) (i v w : ℕ) → ss ≡ t ∷ [] → v ≡ own s i → w ≡ (v + own t i) % p →
      w ≡ share_weight (modulo p) size (s ∷ ss) i
  unfolding share_weight
  weight_of_two s t ss i v w one ev ew =
      ew ∙ ap (λ (x : ℕ). (x + own t i) % p) ev ∙
      ap (λ (x : ℕ). (own s i + x) % p) (plus_nothing p (own t i) (mod-lt _ positive)) ∙
      ap (λ (xs : List (Share ℕ)). share_weight (modulo p) size (s ∷ xs) i) (sym one)
