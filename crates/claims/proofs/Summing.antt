-- The sum over a claim's shares, with the copies' variables fixed first.
-- Fixing them is the beginning of a halving at each share's whole point.
use Rattle.std.proofs.Common.{◌≡◌, ℕ, ◌+◌, ◌*◌, ◌/◌, ◌%◌, ◌^◌, ◌<◌, ◌≤◌, T, List, [], ◌∷◌, ◌++◌, length, get_or, take, drop, sym, refl, ap, ◌∙◌, subst, ap₂, mod-lt, arith, length-append}
use Rattle.std.proofs.lemmas.List.{get_or_append_left}
use Rattle.arithmetic.specs.Numbers.{modulo, all_reduced}
use Rattle.tables.specs.Multilinear.{mle, fix_first}
use Rattle.tables.proofs.HalvingSteps.{Halving, halving_more}
use Rattle.argument.specs.Claims.{Share, share_sum}
use Rattle.claims.proofs.Adding.{plus_nothing}

-- a table after the first i coordinates of a point, whatever the other coordinates are
pub record Fixing (p : ℕ) (xs point table : List ℕ) (i len : ℕ) : Type 0 where
  pub fits : len ≤ length table
  pub reduced : T (all_reduced (modulo p) table)
  pub halves : (z : List ℕ) → length xs ≡ 2 ^ (length point + length z) → Halving p xs (point ++ z) table i len

pub fixing_more : {p : ℕ} {xs point table : List ℕ} {i len : ℕ} → Fixing p xs point table i len → (live next : List ℕ) (end : ℕ) →
    end ≡ len → i < length point →
    live ≡ fix_first (modulo p) (get_or point i 0) (take end table) ++ drop (length (take end table) / 2) (take end table) →
    T (all_reduced (modulo p) live) → next ≡ live ++ drop end table → length next ≡ length table → T (all_reduced (modulo p) next) →
    Fixing p xs point next (i + 1) (len / 2)
fixing_more {p} {xs} {point} {table} {i} {len} h live next end same inside e t is long all =
    record {
      fits = omega (arith, h.fits);
      reduced = all;
      halves = λ z size.
          let there : get_or (point ++ z) i 0 ≡ get_or point i 0 = get_or_append_left point z 0 i inside in
          let room : i < length (point ++ z) = omega (arith, length-append point z) in
          subst (λ (xs' : List ℕ). Halving p xs (point ++ z) xs' (i + 1) (len / 2)) (sym is)
          (halving_more (h.halves z size) live end same room
          (e ∙ ap (λ (r : ℕ). fix_first (modulo p) r (take end table) ++ drop (length (take end table) / 2) (take end table)) (sym there)) t);
    }

-- ---- sums over one share and over two
module _ (p : ℕ) (positive : 0 < p) (table : List ℕ) where
  abbrev own : Share ℕ → ℕ
  own s = (s.factor * mle (modulo p) table s.point) % p

  pub sum_of_one : (s : Share ℕ) (ss : List (Share ℕ)) (r : ℕ) → ss ≡ [] → r ≡ own s → r ≡ share_sum (modulo p) table [] (s ∷ ss)
  unfolding share_sum
  sum_of_one s ss r none e =
      e ∙ plus_nothing p (own s) (mod-lt _ positive) ∙ ap (λ (xs : List (Share ℕ)). share_sum (modulo p) table [] (s ∷ xs)) (sym none)

  pub sum_of_two : (s t : Share ℕ) (ss : List (Share ℕ)) (a b r : ℕ) → ss ≡ t ∷ [] → a ≡ own s → b ≡ own t → r ≡ (a + b) % p →
      r ≡ share_sum (modulo p) table [] (s ∷ ss)
  unfolding share_sum
  sum_of_two s t ss a b r one ea eb e =
      e ∙ ap₂ (λ (x y : ℕ). (x + y) % p) ea (eb ∙ plus_nothing p (own t) (mod-lt _ positive)) ∙
      ap (λ (xs : List (Share ℕ)). share_sum (modulo p) table [] (s ∷ xs)) (sym one)

-- all shares' points have as many coordinates
abbrev pub SameSize : ℕ → List (Share ℕ) → Type 0
SameSize n [] = Unit {0}
SameSize n (s ∷ ss) = (length s.point ≡ n) × SameSize n ss

pub sum_fixed : (p n : ℕ) (xs copy left : List ℕ) (shares : List (Share ℕ)) → SameSize n shares →
    ((z : List ℕ) → length z ≡ n → mle (modulo p) left z ≡ mle (modulo p) xs (copy ++ z)) →
    share_sum (modulo p) left [] shares ≡ share_sum (modulo p) xs copy shares
unfolding share_sum
sum_fixed p n xs copy left [] sizes h = refl
sum_fixed p n xs copy left (s ∷ ss) sizes h =
    ap₂ (λ (x y : ℕ). ((s.factor * x) % p + y) % p) (h s.point sizes.0) (sum_fixed p n xs copy left ss sizes.1 h)
