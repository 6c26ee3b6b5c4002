-- The tables at the start of each part of a layer: of the copies' variables, of those of x, and of those of y.
-- What the code leaves in them is what the part's sum is about.
use Rattle.std.proofs.Common.{◌≡◌, ℕ, ◌+◌, ◌*◌, ◌%◌, ◌^◌, ◌<◌, ◌≤◌, T, List, [], ◌∷◌, ◌++◌, map, length, get_or, take, replicate, sym, refl, ap, ◌∙◌, subst, ap₂, append-nil, mod-eq_of_lt, one-mul, suc-ne-zero, arith, get_or-take}
use native.Mathlib.Nat.{suc_inj}
use Rattle.std.proofs.lemmas.List.{length-take-le, length-map}
use Rattle.arithmetic.specs.Numbers.{Numbers, modulo, all_reduced}
use Rattle.arithmetic.proofs.Modulo.{ring_modulo}
use Rattle.arithmetic.proofs.Ring.{Ring}
use Rattle.arithmetic.proofs.Solver.{var, con, ◌:+◌, ◌:*◌, ◌:-◌, solve}
use Rattle.tables.specs.InPlace.{eq_table}
use Rattle.tables.specs.Multilinear.{mle, eq_poly, bits_of}
use Rattle.tables.specs.Theorems.{sum_places}
use Rattle.tables.proofs.Corners.{sum_corners_same}
use Rattle.tables.proofs.EqSteps.{eq_table-length, eq_table_at, eq_table-cons}
use Rattle.tables.proofs.Extension.{mle_halves}
use Rattle.tables.proofs.Places.{sum_places-mle}
use Rattle.tables.proofs.ReducedLists.{reduced_anywhere}
use Rattle.circuits.specs.Circuit.{Layer}
use Rattle.argument.specs.Claims.{Claim, expected}
use Rattle.argument.proofs.Copies.{Reads}
use Rattle.fronts.specs.Gathers.{layer_weights, scaled, weights_at, gather_h, gather_j, gather_hy, gather_jy}
use Rattle.rounds.specs.Phases.{product_sum}
use Rattle.phases.specs.Standing.{term_of, CopyTables, LeftTables, RightTables}
use Rattle.phases.proofs.PhaseX.{phase_x}
use Rattle.phases.proofs.PhaseY.{phase_y}

-- ---- the table of eq
module _ (p : ℕ) (several : 1 < p) where
  abbrev N : Numbers ℕ
  N = modulo p

  abbrev R : Ring (modulo p)
  R = ring_modulo p several

  sum_places_times : (s k i : ℕ) (xs z : List ℕ) → sum_places N k i (map (N.mul s) xs) z ≡ N.mul s (sum_places N k i xs z)
  unfolding sum_places
  sum_places_times s k i [] z = sym (R.mul_zero s)
  sum_places_times s k i (x ∷ xs) z =
      ap (N.add (N.mul (eq_poly N (bits_of N k i) z) (N.mul s x))) (sum_places_times s k (i + 1) xs z)
      ∙ solve R (s ∷ x ∷ eq_poly N (bits_of N k i) z ∷ sum_places N k (i + 1) xs z ∷ [])
      (var 2 :* (var 0 :* var 1) :+ var 0 :* var 3) (var 0 :* (var 2 :* var 1 :+ var 3)) refl

  mle_times : (s k : ℕ) (xs z : List ℕ) → length xs ≡ 2 ^ k → length z ≡ k → mle N (map (N.mul s) xs) z ≡ N.mul s (mle N xs z)
  mle_times s k xs z e f =
      sym (sum_places-mle R k (map (N.mul s) xs) z (length-map xs (N.mul s) ∙ e) f)
      ∙ sum_places_times s k 0 xs z ∙ ap (N.mul s) (sum_places-mle R k xs z e f)

  pub eq_extended : (q z : List ℕ) → length z ≡ length q → mle N (eq_table N q) z ≡ eq_poly N q z
  unfolding mle eq_poly bits_of
  eq_extended [] [] e = ap (λ (a : ℕ). a % p) (eq_table_at N [] 0 0 (omega arith)) ∙ mod-eq_of_lt several
  eq_extended [] (t ∷ z) e = absurd (suc-ne-zero _ e)
  eq_extended (r ∷ q) [] e = absurd (suc-ne-zero _ (sym e))
  eq_extended (r ∷ q) (t ∷ z) e =
      let T0 : List ℕ = eq_table N q in
      let low : List ℕ = map (N.mul (N.sub 1 r)) T0 in
      let high : List ℕ = map (N.mul r) T0 in
      let same : length low ≡ length high = length-map T0 (N.mul (N.sub 1 r)) ∙ sym (length-map T0 (N.mul r)) in
      let long : length T0 ≡ 2 ^ length q = eq_table-length N q in
      ap (λ (l : List ℕ). mle N l (t ∷ z)) (eq_table-cons R r q)
      ∙ mle_halves R low high t z same
      ∙ ap₂ (λ (a b : ℕ). N.add (N.mul (N.sub 1 t) a) (N.mul t b))
      (mle_times (N.sub 1 r) (length q) T0 z long (suc_inj e) ∙ ap (N.mul (N.sub 1 r)) (eq_extended q z (suc_inj e)))
      (mle_times r (length q) T0 z long (suc_inj e) ∙ ap (N.mul r) (eq_extended q z (suc_inj e)))
      ∙ solve R (r ∷ t ∷ eq_poly N q z ∷ [])
      ((con 1 :- var 1) :* ((con 1 :- var 0) :* var 2) :+ var 1 :* (var 0 :* var 2))
      ((var 0 :* var 1 :+ (con 1 :- var 0) :* (con 1 :- var 1)) :* var 2) refl

  -- ---- what a table of one number holds
  pub last_number : (xs : List ℕ) → T (all_reduced N (take (2 ^ 0) xs)) → (get_or xs 0 0 ≡ mle N (take (2 ^ 0) xs) []) × (get_or xs 0 0 < p)
  unfolding mle
  last_number xs t =
      let first : get_or (take 1 xs) 0 0 ≡ get_or xs 0 0 = get_or-take 1 xs 0 0 (omega arith) in
      let below : get_or xs 0 0 < p = subst (λ (a : ℕ). a < p) first (reduced_anywhere p (omega arith) (take 1 xs) t 0) in
      (sym (ap (λ (a : ℕ). a % p) first ∙ mod-eq_of_lt below), below)

  -- ---- the parts of a layer
  pub copies_started : (l : Layer) (m : ℕ) (k : Claim ℕ) (X : List ℕ) (n : ℕ) (v w h : List ℕ) → length k.copy ≡ n →
      take (2 ^ n * 2 ^ m) v ≡ X → T (all_reduced N (take (2 ^ n * 2 ^ m) v)) →
      take (2 ^ n) h ≡ eq_table N k.copy → T (all_reduced N (take (2 ^ n) h)) →
      take (2 ^ l.size) w ≡ layer_weights N l k.shares → T (all_reduced N (take (2 ^ l.size) w)) →
      CopyTables p l m k X [] n v w h
  copies_started l m k X n v w h long ev rv eh rh ew rw' =
      record {
        values = λ z. ap (λ (t : List ℕ). mle N t z) ev;
        values_reduced = rv;
        eq = λ z lz. ap (λ (t : List ℕ). mle N t z) eh ∙ eq_extended k.copy z (lz ∙ sym long);
        eq_reduced = rh;
        weights = ew;
        weights_reduced = rw';
      }

  module _ (l : Layer) (m : ℕ) (k : Claim ℕ) (X c : List ℕ) (reads : Reads (2 ^ m) l.gates) where
    abbrev zeros : List ℕ
    zeros = replicate (2 ^ m) 0

    pub left_started : (v w h w' h' j' : List ℕ) (factor : ℕ) → CopyTables p l m k X c 0 v w h → factor ≡ get_or h 0 0 → 2 ^ m ≤ length v →
        take (2 ^ m) w' ≡ take (2 ^ m) v →
        take (2 ^ m) h' ≡ gather_h N l.gates (scaled N factor (take (2 ^ l.size) w)) (take (2 ^ m) v) zeros →
        take (2 ^ m) j' ≡ gather_j N l.gates (scaled N factor (take (2 ^ l.size) w)) (take (2 ^ m) v) zeros →
        T (all_reduced N (take (2 ^ m) h')) → T (all_reduced N (take (2 ^ m) j')) →
        LeftTables p l m k X c [] m factor v w' h' j'
    left_started v w h w' h' j' factor tables ef room ew eh ej rh rj =
        let E : ℕ = eq_poly N k.copy c in
        let ws : List ℕ = layer_weights N l k.shares in
        let u : List ℕ = take (2 ^ m) v in
        let full : length u ≡ 2 ^ m = length-take-le (2 ^ m) v room in
        let whole : 2 ^ 0 * 2 ^ m ≡ 2 ^ m = one-mul (2 ^ m) in
        let last = last_number h tables.eq_reduced in
        let is_eq : factor ≡ E = ef ∙ last.0 ∙ tables.eq [] refl ∙ ap (eq_poly N k.copy) (append-nil c) in
        let values : (z : List ℕ) → mle N u z ≡ mle N X (c ++ z) =
        λ z. ap (λ (n : ℕ). mle N (take n v) z) (sym whole) ∙ tables.values z in
        let reduced : T (all_reduced N u) = subst (λ (n : ℕ). T (all_reduced N (take n v))) whole tables.values_reduced in
        let H : List ℕ → List ℕ = λ us. gather_h N l.gates us u zeros in
        let J : List ℕ → List ℕ = λ us. gather_j N l.gates us u zeros in
        let given : scaled N factor (take (2 ^ l.size) w) ≡ scaled N E ws = ap₂ (λ (f : ℕ) (us : List ℕ). scaled N f us) is_eq tables.weights in
        record {
          tables =
              record {
                value = values;
                total = λ z lz.
                    ap₂ (λ (a b : List ℕ). product_sum N u a b z) (eh ∙ ap H given) (ej ∙ ap J given)
                    ∙ sym (phase_x R l m k c u z full reads lz)
                    ∙ sum_corners_same R m (λ y. expected N l m k c z y (mle N u z) (mle N u y)) (λ y. term_of p l m k X c z y)
                    (λ y. ap₂ (λ (a b : ℕ). expected N l m k c z y a b) (values z) (values y));
                v_reduced = reduced;
                h_reduced = rh;
                j_reduced = rj;
              };
          kept = λ z. ap (λ (t : List ℕ). mle N t z) ew ∙ values z;
          kept_reduced = subst (λ (t : List ℕ). T (all_reduced N t)) (sym ew) reduced;
          factor_is = is_eq;
          factor_below = subst (λ (f : ℕ). f < p) (sym ef) last.1;
        }

    pub right_started : (x v w h j v' h' j' : List ℕ) (factor a : ℕ) → LeftTables p l m k X c x 0 factor v w h j → a ≡ get_or v 0 0 → length x ≡ m →
        take (2 ^ m) v' ≡ take (2 ^ m) w →
        take (2 ^ m) h' ≡ gather_hy N l.gates (weights_at N l.gates (scaled N factor (layer_weights N l k.shares)) (eq_table N x)) a zeros →
        take (2 ^ m) j' ≡ gather_jy N l.gates (weights_at N l.gates (scaled N factor (layer_weights N l k.shares)) (eq_table N x)) a zeros →
        T (all_reduced N (take (2 ^ m) h')) → T (all_reduced N (take (2 ^ m) j')) →
        RightTables p l m k X c x [] m a v' h' j'
    right_started x v w h j v' h' j' factor a tables ea lx ev eh ej rh rj =
        let E : ℕ = eq_poly N k.copy c in
        let ws : List ℕ = layer_weights N l k.shares in
        let u : List ℕ = take (2 ^ m) v' in
        let last = last_number v tables.tables.v_reduced in
        let is-value : a ≡ mle N X (c ++ x) = ea ∙ last.0 ∙ tables.tables.value [] ∙ ap (λ (d : List ℕ). mle N X (c ++ d)) (append-nil x) in
        let values : (z : List ℕ) → mle N u z ≡ mle N X (c ++ z) = λ z. ap (λ (t : List ℕ). mle N t z) ev ∙ tables.kept z in
        let eq-at : (i : ℕ) → i < 2 ^ m → get_or (eq_table N x) i 0 ≡ eq_poly N (bits_of N m i) x =
        λ i h. eq_table_at N x i 0 (subst (λ (n : ℕ). i < 2 ^ n) (sym lx) h) ∙ ap (λ (n : ℕ). eq_poly N (bits_of N n i) x) lx in
        let W : ℕ → List ℕ = λ f. weights_at N l.gates (scaled N f ws) (eq_table N x) in
        record {
          tables =
              record {
                value = values;
                total = λ z lz.
                    ap₂ (λ (a b : List ℕ). product_sum N u a b z)
                    (eh ∙ ap (λ (f : ℕ). gather_hy N l.gates (W f) a zeros) tables.factor_is)
                    (ej ∙ ap (λ (f : ℕ). gather_jy N l.gates (W f) a zeros) tables.factor_is)
                    ∙ sym (phase_y R l m k c x (eq_table N x) u a z eq-at reads lz)
                    ∙ ap₂ (λ (a b : ℕ). expected N l m k c x z a b) is-value (values z);
                v_reduced = subst (λ (t : List ℕ). T (all_reduced N t)) (sym ev) tables.kept_reduced;
                h_reduced = rh;
                j_reduced = rj;
              };
          value = is-value;
          value_below = subst (λ (f : ℕ). f < p) (sym ea) last.1;
        }
