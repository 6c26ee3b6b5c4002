-- Gathering step by step: what is left of the gates adds, to what the tables hold now, what all of them add to what they held.
-- And tables that stay reduced while they are written to, or are scaled place by place.
use Rattle.std.proofs.Common.{◌≡◌, ℕ, zero, suc, ◌+◌, ◌*◌, ◌%◌, ◌<◌, ◌≤◌, T, ltb, List, [], ◌∷◌, ◌++◌, map, length, get_or, take, drop, set, sym, refl, ap, ◌∙◌, subst, ap₂, le_of_suc-le-suc, not-suc-le-zero, add-zero, mod-lt, mod-eq_of_lt, suc-ne-zero, arith, lt→ltb}
use native.Mathlib.Nat.{suc_inj}
use Rattle.std.proofs.lemmas.List.Edits.{map_over_more}
use Rattle.std.proofs.lemmas.List.{drop_more, drop_all, drop-drop, drop-set-lt, get_or-drop, get_or_default, set-get_or}
use Rattle.arithmetic.specs.Numbers.{Numbers, modulo, all_reduced}
use Rattle.arithmetic.proofs.Newton.{reduced_at}
use Rattle.arithmetic.proofs.Truth.{and_left, and_right, and_both}
use Rattle.circuits.specs.Circuit.{Kind, Gate}
use Rattle.circuits.specs.Views.{kind_meant, gate_meant, no_gate}
use Rattle.circuits.specs.declared.gate.Gate as gate
use Rattle.evaluation.proofs.WorkingOut.{fill_more, fill_all}
use Rattle.fronts.specs.Gathers.{add_at, to_product, to_rest, gathered, gather_h, gather_j, weights_at, gather_hy, gather_jy}
use Rattle.fronts.specs.Picks.{Within, Picks}

pub reduced_set : (p : ℕ) (xs : List ℕ) (i a : ℕ) → T (all_reduced (modulo p) xs) → a < p → T (all_reduced (modulo p) (set xs i a))
unfolding all_reduced
reduced_set p [] i a t h = tt
reduced_set p (x ∷ xs) zero a t h =
    and_both (ltb a p) (all_reduced (modulo p) xs) (lt→ltb a p h) (and_right (ltb x p) (all_reduced (modulo p) xs) t)
reduced_set p (x ∷ xs) (suc i) a t h =
    and_both (ltb x p) (all_reduced (modulo p) (set xs i a)) (and_left (ltb x p) (all_reduced (modulo p) xs) t)
    (reduced_set p xs i a (and_right (ltb x p) (all_reduced (modulo p) xs) t) h)

-- to add nothing leaves a reduced table as it was
pub add_at_nothing : (p : ℕ) (xs : List ℕ) (i : ℕ) → T (all_reduced (modulo p) xs) → i < length xs → xs ≡ add_at (modulo p) xs i 0
add_at_nothing p xs i t h =
    let same : (get_or xs i 0 + 0) % p ≡ get_or xs i 0 = ap (λ x. x % p) (add-zero (get_or xs i 0)) ∙ mod-eq_of_lt (reduced_at p xs t i h) in
    sym (ap (set xs i) same ∙ set-get_or xs i 0)

-- equal numbers may be added in place of one another
pub add_at_equal : (p : ℕ) (xs new : List ℕ) (i a b : ℕ) → new ≡ add_at (modulo p) xs i a → a ≡ b → new ≡ add_at (modulo p) xs i b
add_at_equal p xs new i a b e same = e ∙ ap (add_at (modulo p) xs i) same

-- ---- gates
-- The gates before place i were passed, which the choice was called for: whatever place and value it picks of each, the gates
-- that are left add to the table what all of them add to what it held at first.
pub record Passed (p n : ℕ) (calls : gate.Gate → ℕ × ℕ → Type 0) (share : Kind → ℕ → ℕ → ℕ) (gates : List Gate) (ws before : List ℕ) (i : ℕ) (table : List ℕ) : Type 0 where
  pub leads : (place other : Gate → ℕ) → Picks n calls place other →
      gathered (modulo p) place (λ g w. share g.kind w (other g)) (drop i gates) (drop i ws) table ≡
      gathered (modulo p) place (λ g w. share g.kind w (other g)) gates ws before
  pub reduced : T (all_reduced (modulo p) table)

pub passed_more : (p n : ℕ) (calls : gate.Gate → ℕ × ℕ → Type 0) (share : Kind → ℕ → ℕ → ℕ) (gates : List Gate) (ws before : List ℕ) (i : ℕ) (table : List ℕ) →
    Passed p n calls share gates ws before i table → i < length gates → i < length ws →
    (read : gate.Gate) (r : ℕ × ℕ) → gate_meant read ≡ get_or gates i no_gate → Within n read → calls read r →
    (new : List ℕ) → new ≡ add_at (modulo p) table r.0 (share (kind_meant read.kind) (get_or ws i 0) r.1) → T (all_reduced (modulo p) new) →
    Passed p n calls share gates ws before (i + 1) new
unfolding gathered
passed_more p n calls share gates ws before i table passed h k read r e within call new f t =
    let g = gate_meant read in
    let rest : List Gate = drop (i + 1) gates in
    let split : drop i gates ≡ g ∷ rest = drop_more gates i no_gate h ∙ ap (λ (x : Gate). x ∷ rest) (sym e) in
    record {
      leads = λ place other picks.
          let picked = picks read r within call in
          let amount : Gate → ℕ → ℕ = λ x w. share x.kind w (other x) in
          ap (gathered (modulo p) place amount rest (drop (i + 1) ws)) (f ∙ ap₂ (λ (a b : ℕ). add_at (modulo p) table a (share g.kind (get_or ws i 0) b)) picked.0 picked.1)
          ∙ sym (ap₂ (λ x y. gathered (modulo p) place amount x y table) split (drop_more ws i 0 k)) ∙ passed.leads place other picks;
      reduced = t;
    }

pub passed_all : (p n : ℕ) (calls : gate.Gate → ℕ × ℕ → Type 0) (share : Kind → ℕ → ℕ → ℕ) (gates : List Gate) (ws before : List ℕ) (i : ℕ) (table : List ℕ) →
    Passed p n calls share gates ws before i table → length gates ≤ i → (place other : Gate → ℕ) → Picks n calls place other →
    table ≡ gathered (modulo p) place (λ g w. share g.kind w (other g)) gates ws before
unfolding gathered
passed_all p n calls share gates ws before i table passed h place other picks =
    sym (ap (λ x. gathered (modulo p) place (λ g w. share g.kind w (other g)) x (drop i ws) table) (drop_all i gates h)) ∙ passed.leads place other picks

-- the two choices: for x and for y
module _ (p : ℕ) where
  abbrev N : Numbers ℕ
  N = modulo p

  pub left_h : (v : List ℕ) (gs : List Gate) (ws table : List ℕ) →
      gathered N (λ g. g.left) (λ g w. to_product N g.kind w (get_or v g.right 0)) gs ws table ≡ gather_h N gs ws v table
  unfolding gathered gather_h
  left_h v [] ws table = refl
  left_h v (g ∷ gs) [] table = refl
  left_h v (g ∷ gs) (w ∷ ws) table = left_h v gs ws _

  pub left_j : (v : List ℕ) (gs : List Gate) (ws table : List ℕ) →
      gathered N (λ g. g.left) (λ g w. to_rest N g.kind w (get_or v g.right 0)) gs ws table ≡ gather_j N gs ws v table
  unfolding gathered gather_j
  left_j v [] ws table = refl
  left_j v (g ∷ gs) [] table = refl
  left_j v (g ∷ gs) (w ∷ ws) table = left_j v gs ws _

  pub right_h : (a : ℕ) (gs : List Gate) (ws table : List ℕ) → gathered N (λ g. g.right) (λ g w. to_product N g.kind w a) gs ws table ≡ gather_hy N gs ws a table
  unfolding gathered gather_hy
  right_h a [] ws table = refl
  right_h a (g ∷ gs) [] table = refl
  right_h a (g ∷ gs) (w ∷ ws) table = right_h a gs ws _

  pub right_j : (a : ℕ) (gs : List Gate) (ws table : List ℕ) → gathered N (λ g. g.right) (λ g w. to_rest N g.kind w a) gs ws table ≡ gather_jy N gs ws a table
  unfolding gathered gather_jy
  right_j a [] ws table = refl
  right_j a (g ∷ gs) [] table = refl
  right_j a (g ∷ gs) (w ∷ ws) table = right_j a gs ws _

-- ---- weights at x
pub weights_at-length : (p : ℕ) (gs : List Gate) (ws ex : List ℕ) → length gs ≡ length ws → length (weights_at (modulo p) gs ws ex) ≡ length ws
unfolding weights_at
weights_at-length p [] [] ex e = refl
weights_at-length p [] (w ∷ ws) ex e = absurd (suc-ne-zero _ (sym e))
weights_at-length p (g ∷ gs) [] ex e = refl
weights_at-length p (g ∷ gs) (w ∷ ws) ex e = ap suc (weights_at-length p gs ws ex (suc_inj e))

weights_at_at : (p : ℕ) (gs : List Gate) (ws ex : List ℕ) (i : ℕ) → i < length gs → i < length ws →
    get_or (weights_at (modulo p) gs ws ex) i 0 ≡ (modulo p).mul (get_or ws i 0) (get_or ex (get_or gs i no_gate).left 0)
unfolding weights_at
weights_at_at p [] ws ex i h k = absurd (not-suc-le-zero h)
weights_at_at p (g ∷ gs) [] ex i h k = absurd (not-suc-le-zero k)
weights_at_at p (g ∷ gs) (w ∷ ws) ex zero h k = refl
weights_at_at p (g ∷ gs) (w ∷ ws) ex (suc i) h k = weights_at_at p gs ws ex i (le_of_suc-le-suc h) (le_of_suc-le-suc k)

-- the first i weights are taken at x, the others are as they were
pub record Weighed (p : ℕ) (gs : List Gate) (ws ex : List ℕ) (i : ℕ) (table : List ℕ) : Type 0 where
  pub done : take i table ≡ take i (weights_at (modulo p) gs ws ex)
  pub rest : drop i table ≡ drop i ws
  pub reduced : T (all_reduced (modulo p) table)

pub weighed_at : (p : ℕ) (gs : List Gate) (ws ex : List ℕ) (i : ℕ) (table : List ℕ) → Weighed p gs ws ex i table → get_or table i 0 ≡ get_or ws i 0
weighed_at p gs ws ex i table w =
    sym (ap (λ (k : ℕ). get_or table k 0) (add-zero i)) ∙ sym (get_or-drop i table 0 0) ∙ ap (λ (l : List ℕ). get_or l 0 0) w.rest
    ∙ get_or-drop i ws 0 0 ∙ ap (λ (k : ℕ). get_or ws k 0) (add-zero i)

pub weighed_more : (p : ℕ) → 0 < p → (gs : List Gate) (ws ex : List ℕ) (i : ℕ) (table : List ℕ) → Weighed p gs ws ex i table →
    length gs ≡ length ws → length table ≡ length ws → i < length ws →
    (left x : ℕ) → left ≡ (get_or gs i no_gate).left → x ≡ (modulo p).mul (get_or table i 0) (get_or ex left 0) → Weighed p gs ws ex (i + 1) (set table i x)
weighed_more p positive gs ws ex i table w eg et h left x el ex-is =
    let many = weights_at-length p gs ws ex eg in
    let small : x < p = subst (λ (y : ℕ). y < p) (sym ex-is) (mod-lt (get_or table i 0 * get_or ex left 0) positive) in
    let value : x ≡ get_or (weights_at (modulo p) gs ws ex) i 0 =
    ex-is ∙ ap₂ (λ (a l : ℕ). (modulo p).mul a (get_or ex l 0)) (weighed_at p gs ws ex i table w) el
    ∙ sym (weights_at_at p gs ws ex i (omega arith) h) in
    record {
      done = fill_more table (weights_at (modulo p) gs ws ex) i x (omega arith) (omega arith) w.done value;
      rest = drop-set-lt (i + 1) table i x (omega arith) ∙ one_on w.rest;
      reduced = reduced_set p table i x w.reduced small;
    }
  where
    one_on : drop i table ≡ drop i ws → drop (i + 1) table ≡ drop (i + 1) ws
    one_on e = sym (drop-drop 1 i table) ∙ ap (drop 1) e ∙ drop-drop 1 i ws

pub weighed_all : (p : ℕ) (gs : List Gate) (ws ex : List ℕ) (i : ℕ) (table : List ℕ) → Weighed p gs ws ex i table →
    length gs ≡ length ws → length table ≡ length ws → length ws ≤ i → table ≡ weights_at (modulo p) gs ws ex
weighed_all p gs ws ex i table w eg et h =
    let many = weights_at-length p gs ws ex eg in
    fill_all table (weights_at (modulo p) gs ws ex) i (omega arith) (omega arith) w.done

-- ---- scaling
-- the first i numbers are scaled, the others are as they were
pub record Scaled (p factor : ℕ) (xs : List ℕ) (i : ℕ) (table : List ℕ) : Type 0 where
  pub words : table ≡ map (λ x. (modulo p).mul x factor) (take i xs) ++ drop i xs
  pub reduced : T (all_reduced (modulo p) table)

pub scaled_more : (p factor : ℕ) → 0 < p → (xs : List ℕ) (i : ℕ) (table : List ℕ) → Scaled p factor xs i table → i < length xs → i < length table →
    (x : ℕ) → x ≡ (modulo p).mul (get_or table i 0) factor → Scaled p factor xs (i + 1) (set table i x)
scaled_more p factor positive xs i table scaled h k x e =
    let f : ℕ → ℕ = λ x. (modulo p).mul x factor in
    let small : x < p = subst (λ (y : ℕ). y < p) (sym e) (mod-lt (get_or table i 0 * factor) positive) in
    record {
      words =
          ap (set table i) e
          ∙ map_over_more f xs table i (get_or table i 0) h scaled.words (get_or_default table i 0 (get_or table i 0) k);
      reduced = reduced_set p table i x scaled.reduced small;
    }
