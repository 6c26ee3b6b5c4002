-- Two different cubics agree at most at three numbers, two different lines at most at one.
-- And a function of degree below 4 is the cubic through its own values at 0, 1, 2 and 3.
use Rattle.std.proofs.Common.{◌≡◌, ℕ, ◌+◌, ◌-◌, ◌<◌, ◌≤◌, true, ◌&&◌, T, ◌⊎◌, List, [], ◌∷◌, length, sym, refl, ap, ◌∙◌, inl, inr, le_of_suc-le-suc, sub-add_cancel, not-le_of_lt, arith, lit<}
use Rattle.arithmetic.specs.Numbers.{Numbers, all_reduced}
use Rattle.arithmetic.specs.Counting.{sum_below, indicator, count_numbers}
use Rattle.arithmetic.specs.Cubic.{interpolate}
use Rattle.arithmetic.proofs.Truth.{path_of_T, T_of_path, and_left, and_right, and_both}
use Rattle.arithmetic.proofs.Ring.{reduce-add, reduce-reduce}
use Rattle.arithmetic.proofs.Solver.{var, con, ◌:+◌, ◌:*◌, ◌:-◌, red, solve, solve_by, given}
use Rattle.arithmetic.proofs.Field.{Field, equal_yes}
use Rattle.arithmetic.proofs.Counting.{sum_below_more}
use Rattle.arithmetic.proofs.Degree.{Deg, deg_affine}
use Rattle.arithmetic.proofs.Roots.{agree_n}
use Rattle.arithmetic.proofs.Interpolation.{at0, at1, at2, at3, deg_interpolate}

module _ {K : Type 0} (N : Numbers K) where
  open N use {reduce, nat}

  -- the values of a function at 0, 1, 2 and 3
  abbrev pub values : (K → K) → List K
  values h = h (nat 0) ∷ h (nat 1) ∷ h (nat 2) ∷ h (nat 3) ∷ []

  -- a list of four reduced numbers
  pub record Four (ys : List K) : Type 0 where
    pub a : K
    pub b : K
    pub c : K
    pub d : K
    pub a_reduced : reduce a ≡ a
    pub b_reduced : reduce b ≡ b
    pub c_reduced : reduce c ≡ c
    pub d_reduced : reduce d ≡ d
    pub listed : ys ≡ a ∷ b ∷ c ∷ d ∷ []

-- four that pass at the first four places are four among all
pub four_places : (n : ℕ) (f : ℕ → ℕ) → 3 < n → f 0 ≡ 1 → f 1 ≡ 1 → f 2 ≡ 1 → f 3 ≡ 1 → 4 ≤ sum_below n f
unfolding sum_below
four_places n f l e0 e1 e2 e3 =
    let first : f 3 + (f 2 + (f 1 + (f 0 + 0))) ≤ sum_below (n - 4 + 4) f = sum_below_more (n - 4) 4 f in
    let all : sum_below (n - 4 + 4) f ≡ sum_below n f = ap (λ m. sum_below m f) (sub-add_cancel l) in
    omega arith

module _ {K : Type 0} {N : Numbers K} (F : Field N) where
  open N use {reduce, add, sub, mul, nat, equal, reduced, order, element}
  open F use {ring as R, reduced_true, reduced_refl, element_small, order_large}

  pub four : (ys : List K) → length ys ≡ 4 → T (all_reduced N ys) → Four N ys
  unfolding all_reduced
  four [] e t = absurd (omega arith)
  four (a ∷ []) e t = absurd (omega arith)
  four (a ∷ b ∷ []) e t = absurd (omega arith)
  four (a ∷ b ∷ c ∷ []) e t = absurd (omega arith)
  four (a ∷ b ∷ c ∷ d ∷ []) e t =
      let u : T (all_reduced N (b ∷ c ∷ d ∷ [])) = and_right (reduced a) (all_reduced N (b ∷ c ∷ d ∷ [])) t in
      let v : T (all_reduced N (c ∷ d ∷ [])) = and_right (reduced b) (all_reduced N (c ∷ d ∷ [])) u in
      let w : T (all_reduced N (d ∷ [])) = and_right (reduced c) (all_reduced N (d ∷ [])) v in
      record {
        a = a;
        b = b;
        c = c;
        d = d;
        a_reduced = reduced_true a (path_of_T (reduced a) (and_left (reduced a) (all_reduced N (b ∷ c ∷ d ∷ [])) t));
        b_reduced = reduced_true b (path_of_T (reduced b) (and_left (reduced b) (all_reduced N (c ∷ d ∷ [])) u));
        c_reduced = reduced_true c (path_of_T (reduced c) (and_left (reduced c) (all_reduced N (d ∷ [])) v));
        d_reduced = reduced_true d (path_of_T (reduced d) (and_left (reduced d) true w));
        listed = refl;
      }
  four (a ∷ b ∷ c ∷ d ∷ x ∷ xs) e t = absurd (omega arith)

  pub agree_listed : (a b c d a' b' c' d' : K) → reduce a ≡ a → reduce b ≡ b → reduce c ≡ c → reduce d ≡ d → reduce a' ≡ a' → reduce b' ≡ b' → reduce c' ≡ c' → reduce d' ≡ d' →
      (a ∷ b ∷ c ∷ d ∷ [] ≡ a' ∷ b' ∷ c' ∷ d' ∷ [] → ⊥) →
      count_numbers N (λ x. equal (interpolate N (a ∷ b ∷ c ∷ d ∷ []) x) (interpolate N (a' ∷ b' ∷ c' ∷ d' ∷ []) x)) ≤ 3
  agree_listed a b c d a' b' c' d' ra rb rc rd ra' rb' rc' rd' differ =
      go (agree_n F 4 (interpolate N (a ∷ b ∷ c ∷ d ∷ [])) (interpolate N (a' ∷ b' ∷ c' ∷ d' ∷ [])) (deg_interpolate F a b c d ra) (deg_interpolate F a' b' c' d' ra'))
    where
      go : ((x : K) → interpolate N (a ∷ b ∷ c ∷ d ∷ []) x ≡ interpolate N (a' ∷ b' ∷ c' ∷ d' ∷ []) x) ⊎ (count_numbers N (λ x. equal (interpolate N (a ∷ b ∷ c ∷ d ∷ []) x) (interpolate N (a' ∷ b' ∷ c' ∷ d' ∷ []) x)) < 4) →
          count_numbers N (λ x. equal (interpolate N (a ∷ b ∷ c ∷ d ∷ []) x) (interpolate N (a' ∷ b' ∷ c' ∷ d' ∷ []) x)) ≤ 3
      go (inl same) =
          let ea : a ≡ a' = sym ra ∙ sym (at0 F a b c d) ∙ same (nat 0) ∙ at0 F a' b' c' d' ∙ ra' in
          let eb : b ≡ b' = sym rb ∙ sym (at1 F a b c d) ∙ same (nat 1) ∙ at1 F a' b' c' d' ∙ rb' in
          let ec : c ≡ c' = sym rc ∙ sym (at2 F a b c d) ∙ same (nat 2) ∙ at2 F a' b' c' d' ∙ rc' in
          let ed : d ≡ d' = sym rd ∙ sym (at3 F a b c d) ∙ same (nat 3) ∙ at3 F a' b' c' d' ∙ rd' in
          absurd (differ (λ i. ea i ∷ eb i ∷ ec i ∷ ed i ∷ []))
      go (inr few) = le_of_suc-le-suc few

  pub agree : (ys zs : List K) → length ys ≡ 4 → length zs ≡ 4 → T (all_reduced N ys) → T (all_reduced N zs) → (ys ≡ zs → ⊥) →
      count_numbers N (λ x. equal (interpolate N ys x) (interpolate N zs x)) ≤ 3
  agree ys zs e f s t differ = go (four ys e s) (four zs f t)
    where
      go : Four N ys → Four N zs → count_numbers N (λ x. equal (interpolate N ys x) (interpolate N zs x)) ≤ 3
      go y z =
          rw (y.listed, z.listed)
          (agree_listed y.a y.b y.c y.d z.a z.b z.c z.d y.a_reduced y.b_reduced y.c_reduced y.d_reduced z.a_reduced z.b_reduced z.c_reduced z.d_reduced
          (λ h. differ (y.listed ∙ h ∙ sym z.listed)))

  pub cubic : (h : K → K) → Deg N 4 h → (x : K) → h x ≡ interpolate N (values N h) x
  cubic h d = go (agree_n F 4 h (interpolate N (values N h)) d (deg_interpolate F (h (nat 0)) (h (nat 1)) (h (nat 2)) (h (nat 3)) (d.0 (nat 0))))
    where
      go : ((x : K) → h x ≡ interpolate N (values N h) x) ⊎ (count_numbers N (λ x. equal (h x) (interpolate N (values N h) x)) < 4) → (x : K) → h x ≡ interpolate N (values N h) x
      go (inl same) = same
      go (inr few) =
          absurd (not-le_of_lt few
          (four_places order (λ i. indicator (equal (h (element i)) (interpolate N (values N h) (element i)))) order_large
          (each 0 (lit< tt) (at0 F _ _ _ _)) (each 1 (lit< tt) (at1 F _ _ _ _)) (each 2 (lit< tt) (at2 F _ _ _ _)) (each 3 (lit< tt) (at3 F _ _ _ _))))
        where
          each : (i : ℕ) → i < 4 → interpolate N (values N h) (nat i) ≡ reduce (h (nat i)) → indicator (equal (h (element i)) (interpolate N (values N h) (element i))) ≡ 1
          each i l e =
              let s : element i ≡ nat i = element_small i l in
              ap indicator (equal_yes F _ _ (ap h s ∙ sym (d.0 (nat i)) ∙ sym e ∙ ap (interpolate N (values N h)) (sym s)))

  pub values_reduced : (h : K → K) → Deg N 4 h → T (all_reduced N (values N h))
  unfolding all_reduced
  values_reduced h d =
      and_both (reduced (h (nat 0))) (reduced (h (nat 1)) && (reduced (h (nat 2)) && (reduced (h (nat 3)) && true))) (each (nat 0))
      (and_both (reduced (h (nat 1))) (reduced (h (nat 2)) && (reduced (h (nat 3)) && true)) (each (nat 1))
      (and_both (reduced (h (nat 2))) (reduced (h (nat 3)) && true) (each (nat 2)) (and_both (reduced (h (nat 3))) true (each (nat 3)) tt)))
    where
      each : (x : K) → T (reduced (h x))
      each x = T_of_path (reduced (h x)) (reduced_refl (h x) (d.0 x))

  start : (a b : K) → add a (mul (nat 0) b) ≡ reduce a
  start a b = solve R (a ∷ b ∷ []) (var 0 :+ con 0 :* var 1) (var 0) refl

  pub deg_sum : (a b : K) → Deg N 2 (λ s. add a (mul s b))
  deg_sum a b =
      deg_affine R (λ s. add a (mul s b)) (reduce b) (λ s. reduce-add R a (mul s b))
      (λ x r. solve R (x ∷ r ∷ a ∷ b ∷ []) (var 2 :+ var 0 :* var 3 :+ var 1 :* red (var 3)) (var 2 :+ var 1 :* var 3 :+ var 0 :* red (var 3)) refl)
      (reduce-reduce R b)

  pub line : (a b a' b' : K) → reduce a ≡ a → reduce b ≡ b → reduce a' ≡ a' → reduce b' ≡ b' → (a ≡ a' → b ≡ b' → ⊥) →
      count_numbers N (λ s. equal (add a (mul s b)) (add a' (mul s b'))) ≤ 1
  line a b a' b' ra rb ra' rb' differ = go (agree_n F 2 (λ s. add a (mul s b)) (λ s. add a' (mul s b')) (deg_sum a b) (deg_sum a' b'))
    where
      go : ((s : K) → add a (mul s b) ≡ add a' (mul s b')) ⊎ (count_numbers N (λ s. equal (add a (mul s b)) (add a' (mul s b'))) < 2) → count_numbers N (λ s. equal (add a (mul s b)) (add a' (mul s b'))) ≤ 1
      go (inl same) =
          let ea : a ≡ a' = sym ra ∙ sym (start a b) ∙ same (nat 0) ∙ start a' b' ∙ ra' in
          let eb : reduce b ≡ reduce b' =
          solve_by R (a ∷ b ∷ a' ∷ b' ∷ []) (given (con 1) (var 0 :+ con 1 :* var 1) (var 2 :+ con 1 :* var 3) ∷ given (con 0 :- con 1) (var 0) (var 2) ∷ [])
          (same (nat 1), (ap reduce ea, tt)) (var 1) (var 3) refl in
          absurd (differ ea (sym rb ∙ eb ∙ rb'))
      go (inr few) = le_of_suc-le-suc few
