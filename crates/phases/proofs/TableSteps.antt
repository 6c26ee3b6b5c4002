-- What the tables give as an answer, and what they stand for after a coin, for the numbers modulo p.
-- A coin fixes the first variable that is left in each of them.
use Rattle.std.proofs.Common.{◌≡◌, ℕ, suc, ◌*◌, ◌^◌, ◌<◌, T, List, [], ◌∷◌, ◌++◌, take, sym, refl, ap, ◌∙◌, ap₂, append_assoc}
use Rattle.arithmetic.specs.Numbers.{modulo, all_reduced}
use Rattle.arithmetic.proofs.Modulo.{ring_modulo}
use Rattle.tables.specs.Multilinear.{fix_first, mle, eq_poly, sum_corners}
use Rattle.circuits.specs.Circuit.{Layer}
use Rattle.argument.specs.Claims.{Claim}
use Rattle.argument.specs.Sumcheck.{Prover, four_values, respond}
use Rattle.rounds.specs.Phases.{copy_sum, product_sum}
use Rattle.phases.specs.Standing.{term_of, CopyTables, ProductTables, LeftTables, RightTables, Fixed}
use Rattle.phases.proofs.PhaseC.{phase_c}
use Rattle.phases.proofs.Respond.{respond_same}

-- one coin more, before what is left
pub one_more : (c : List ℕ) (r : ℕ) (z : List ℕ) → (c ++ (r ∷ [])) ++ z ≡ c ++ (r ∷ z)
one_more c r z = append_assoc c (r ∷ []) z

-- ---- the copies' variables
pub copies_said : (p : ℕ) → 1 < p → (l : Layer) (m : ℕ) (k : Claim ℕ) (X c : List ℕ) (n : ℕ) (v w h : List ℕ) → CopyTables p l m k X c (suc n) v w h →
    (next : List ℕ → Prover ℕ) →
    four_values (modulo p)
    (λ t. sum_corners (modulo p) n
    (λ z. copy_sum (modulo p) m l.gates (take (2 ^ l.size) w) (take (2 ^ suc n) h) (take (2 ^ suc n * 2 ^ m) v) (t ∷ z))) ≡
    respond (modulo p) (suc n) (λ z. sum_corners (modulo p) m (λ x. sum_corners (modulo p) m (λ y. term_of p l m k X (c ++ z) x y))) next []
unfolding respond
copies_said p several l m k X c n v w h tables next =
    let N = modulo p in
    let R = ring_modulo p several in
    let e : List ℕ = take (2 ^ suc n) h in
    let u : List ℕ = take (2 ^ suc n * 2 ^ m) v in
    let F : List ℕ → ℕ = copy_sum N m l.gates (take (2 ^ l.size) w) e u in
    let G : List ℕ → ℕ = λ z. sum_corners N m (λ x. sum_corners N m (λ y. term_of p l m k X (c ++ z) x y)) in
    respond_same R (suc n) F G next next
    (λ z long.
    ap (λ (ws : List ℕ). copy_sum N m l.gates ws e u z) tables.weights
    ∙ sym
    (phase_c R l m k e u X z (c ++ z) (tables.eq z long)
    (λ rest. tables.values (z ++ rest) ∙ ap (mle N X) (sym (append_assoc c z rest)))))
    (λ z long coins. refl) []

pub copies_heard : (p : ℕ) (l : Layer) (m : ℕ) (k : Claim ℕ) (X c : List ℕ) (n : ℕ) (v w h : List ℕ) → CopyTables p l m k X c (suc n) v w h →
    (r : ℕ) (v' h' : List ℕ) →
    take (2 ^ n * 2 ^ m) v' ≡ fix_first (modulo p) r (take (2 ^ suc n * 2 ^ m) v) → T (all_reduced (modulo p) (take (2 ^ n * 2 ^ m) v')) →
    take (2 ^ n) h' ≡ fix_first (modulo p) r (take (2 ^ suc n) h) → T (all_reduced (modulo p) (take (2 ^ n) h')) →
    CopyTables p l m k X (c ++ (r ∷ [])) n v' w h'
unfolding mle
copies_heard p l m k X c n v w h tables r v' h' ev rv eh rh =
    let N = modulo p in
    record {
      values = λ z. ap (λ (t : List ℕ). mle N t z) ev ∙ tables.values (r ∷ z) ∙ ap (mle N X) (sym (one_more c r z));
      values_reduced = rv;
      eq = λ z long. ap (λ (t : List ℕ). mle N t z) eh ∙ tables.eq (r ∷ z) (ap suc long) ∙ ap (eq_poly N k.copy) (sym (one_more c r z));
      eq_reduced = rh;
      weights = tables.weights;
      weights_reduced = tables.weights_reduced;
    }

-- ---- the variables of x and of y
pub products_said : (p : ℕ) → 1 < p → (F G : List ℕ → ℕ) (n : ℕ) (v h j : List ℕ) → ProductTables p F G (suc n) v h j → (next : List ℕ → Prover ℕ) →
    four_values (modulo p)
    (λ t. sum_corners (modulo p) n (λ z. product_sum (modulo p) (take (2 ^ suc n) v) (take (2 ^ suc n) h) (take (2 ^ suc n) j) (t ∷ z))) ≡
    respond (modulo p) (suc n) G next []
unfolding respond
products_said p several F G n v h j tables next =
    let P : List ℕ → ℕ = product_sum (modulo p) (take (2 ^ suc n) v) (take (2 ^ suc n) h) (take (2 ^ suc n) j) in
    respond_same (ring_modulo p several) (suc n) P G next next tables.total (λ z long coins. refl) []

products_heard : (p : ℕ) (F G F' G' : List ℕ → ℕ) (n : ℕ) (v h j : List ℕ) → ProductTables p F G (suc n) v h j →
    (r : ℕ) (v' h' j' : List ℕ) → Fixed p n r v v' → Fixed p n r h h' → Fixed p n r j j' →
    ((z : List ℕ) → F (r ∷ z) ≡ F' z) → ((z : List ℕ) → G (r ∷ z) ≡ G' z) → ProductTables p F' G' n v' h' j'
unfolding mle
products_heard p F G F' G' n v h j tables r v' h' j' fv fh fj eF eG =
    let N = modulo p in
    record {
      value = λ z. ap (λ (t : List ℕ). mle N t z) fv.front ∙ tables.value (r ∷ z) ∙ eF z;
      total = λ z long.
          ap₂ (λ (t u : List ℕ). product_sum N t u (take (2 ^ n) j') z) fv.front fh.front
          ∙ ap (λ (t : List ℕ). product_sum N (fix_first N r (take (2 ^ suc n) v)) (fix_first N r (take (2 ^ suc n) h)) t z) fj.front
          ∙ tables.total (r ∷ z) (ap suc long) ∙ eG z;
      v_reduced = fv.reduced;
      h_reduced = fh.reduced;
      j_reduced = fj.reduced;
    }

pub left_heard : (p : ℕ) (l : Layer) (m : ℕ) (k : Claim ℕ) (X c x : List ℕ) (n factor : ℕ) (v w h j : List ℕ) → LeftTables p l m k X c x (suc n) factor v w h j →
    (r : ℕ) (v' h' j' : List ℕ) → Fixed p n r v v' → Fixed p n r h h' → Fixed p n r j j' →
    LeftTables p l m k X c (x ++ (r ∷ [])) n factor v' w h' j'
left_heard p l m k X c x n factor v w h j tables r v' h' j' fv fh fj =
    let N = modulo p in
    record {
      tables =
          products_heard p _ _ _ _ n v h j tables.tables r v' h' j' fv fh fj (λ z. ap (λ (d : List ℕ). mle N X (c ++ d)) (sym (one_more x r z)))
          (λ z. ap (λ (d : List ℕ). sum_corners N m (λ y. term_of p l m k X c d y)) (sym (one_more x r z)));
      kept = tables.kept;
      kept_reduced = tables.kept_reduced;
      factor_is = tables.factor_is;
      factor_below = tables.factor_below;
    }

pub right_heard : (p : ℕ) (l : Layer) (m : ℕ) (k : Claim ℕ) (X c x y : List ℕ) (n a : ℕ) (v h j : List ℕ) → RightTables p l m k X c x y (suc n) a v h j →
    (r : ℕ) (v' h' j' : List ℕ) → Fixed p n r v v' → Fixed p n r h h' → Fixed p n r j j' →
    RightTables p l m k X c x (y ++ (r ∷ [])) n a v' h' j'
right_heard p l m k X c x y n a v h j tables r v' h' j' fv fh fj =
    let N = modulo p in
    record {
      tables =
          products_heard p _ _ _ _ n v h j tables.tables r v' h' j' fv fh fj (λ z. ap (λ (d : List ℕ). mle N X (c ++ d)) (sym (one_more y r z)))
          (λ z. ap (λ (d : List ℕ). term_of p l m k X c x d) (sym (one_more y r z)));
      value = tables.value;
      value_below = tables.value_below;
    }
