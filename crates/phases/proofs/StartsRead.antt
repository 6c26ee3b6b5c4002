-- The starts of a layer's parts, from what the calls leave in fronts of the quarters, whatever lies behind these.
-- The checker has a front's end as `count - 0`.
use Rattle.std.proofs.Common.{◌≡◌, ℕ, zero, suc, ◌*◌, ◌^◌, ◌<◌, ◌≤◌, T, ltb, lt→ltb, List, [], ◌++◌, length, get_or, take, replicate, sym, ap, ◌∙◌, subst, ap₂, arith}
use Rattle.std.proofs.lemmas.List.{take_all, take_at, length-take-le}
use Rattle.arithmetic.specs.Numbers.{Numbers, modulo, all_reduced}
use Rattle.arithmetic.proofs.Truth.{and_both}
use Rattle.tables.proofs.EqSteps.{eq_table-length}
use Rattle.tables.specs.InPlace.{eq_table}
use Rattle.circuits.specs.Circuit.{Layer}
use Rattle.argument.specs.Claims.{Share, Claim}
use Rattle.argument.proofs.Copies.{Reads}
use Rattle.claims.specs.Sums.{share_weight}
use Rattle.fronts.proofs.WeightLists.{weights_from, front_reduced}
use Rattle.fronts.specs.Gathers.{weights, layer_weights, scaled, weights_at, gather_h, gather_j, gather_hy, gather_jy}
use Rattle.phases.specs.Standing.{CopyTables, LeftTables, RightTables}
use Rattle.phases.proofs.Starting.{copies_started, left_started, right_started}

-- a reduced front, with its end written otherwise
pub reduced_end : (p m n : ℕ) (xs : List ℕ) → m ≡ n → T (all_reduced (modulo p) (take m xs)) → T (all_reduced (modulo p) (take n xs))
reduced_end p m n xs e t = subst (λ (k : ℕ). T (all_reduced (modulo p) (take k xs))) e t

-- a table that was filled with a reduced number
same_reduced : (p a : ℕ) → a < p → (n : ℕ) → T (all_reduced (modulo p) (replicate n a))
unfolding all_reduced
same_reduced p a h zero = tt
same_reduced p a h (suc n) = and_both (ltb a p) (all_reduced (modulo p) (replicate n a)) (lt→ltb a p h) (same_reduced p a h n)

pub filled_reduced : (p n a : ℕ) (xs : List ℕ) → xs ≡ replicate n a → a < p → T (all_reduced (modulo p) xs)
filled_reduced p n a xs e h = subst (λ (ys : List ℕ). T (all_reduced (modulo p) ys)) (sym e) (same_reduced p a h n)

-- the weights of a layer, from what stands at each place
pub layer_weighed : (p : ℕ) (l : Layer) (ss : List (Share ℕ)) (size : ℕ) (ws : List ℕ) → size ≡ l.size → length l.gates ≡ 2 ^ l.size → length ws ≡ 2 ^ l.size →
    ((i : ℕ) → i < 2 ^ size → get_or ws i 0 ≡ share_weight (modulo p) size ss i) → ws ≡ layer_weights (modulo p) l ss
layer_weighed p l ss size ws es many long at =
    weights_from p size (2 ^ size) ss ws (long ∙ ap (λ (n : ℕ). 2 ^ n) (sym es)) at
    ∙ ap₂ (λ (s n : ℕ). weights (modulo p) s ss 0 n) es (ap (λ (n : ℕ). 2 ^ n) es ∙ sym many)

-- a table of eq that fills its room
pub eq_filled : (p : ℕ) (x table rest : List ℕ) → table ≡ eq_table (modulo p) x ++ rest → length table ≡ 2 ^ length x → table ≡ eq_table (modulo p) x
eq_filled p x table rest e long =
    sym (take_all (2 ^ length x) table (omega arith)) ∙ ap (take (2 ^ length x)) e
    ∙ take_at (eq_table (modulo p) x) rest (2 ^ length x) (eq_table-length (modulo p) x)

module _ (p : ℕ) (several : 1 < p) (l : Layer) (m : ℕ) (k : Claim ℕ) (X c : List ℕ) (reads : Reads (2 ^ m) l.gates)
    (gates below : ℕ) (eg : gates ≡ 2 ^ l.size) (eb : below ≡ 2 ^ m) where
  abbrev N : Numbers ℕ
  N = modulo p

  pub left_read : (v w h sw zh zj w' h' j' rw rh rj : List ℕ) (factor : ℕ) → CopyTables p l m k X c 0 v w h → factor ≡ get_or h 0 0 → below ≤ length v →
      sw ≡ scaled N factor (take gates w) → w' ≡ take below v → zh ≡ replicate below 0 → zj ≡ replicate below 0 →
      h' ≡ gather_h N l.gates sw (take below v) zh → j' ≡ gather_j N l.gates sw (take below v) zj → length h' ≡ below → length j' ≡ below →
      T (all_reduced N h') → T (all_reduced N j') → LeftTables p l m k X c [] m factor v (w' ++ rw) (h' ++ rh) (j' ++ rj)
  left_read v w h sw zh zj w' h' j' rw rh rj factor tables ef room es ew ezh ezj eh ej lh lj th tj =
      let given : sw ≡ scaled N factor (take (2 ^ l.size) w) = es ∙ ap (λ (n : ℕ). scaled N factor (take n w)) eg in
      let lw : length w' ≡ 2 ^ m = ap length ew ∙ length-take-le below v room ∙ eb in
      let H : List ℕ → ℕ → ℕ → List ℕ = λ us n q. gather_h N l.gates us (take n v) (replicate q 0) in
      let J : List ℕ → ℕ → ℕ → List ℕ = λ us n q. gather_j N l.gates us (take n v) (replicate q 0) in
      left_started p several l m k X c reads v w h (w' ++ rw) (h' ++ rh) (j' ++ rj) factor tables ef (subst (λ (n : ℕ). n ≤ length v) eb room)
      (take_at w' rw (2 ^ m) lw ∙ ew ∙ ap (λ (n : ℕ). take n v) eb)
      (take_at h' rh (2 ^ m) (lh ∙ eb) ∙ eh ∙ ap₂ (λ (us t : List ℕ). gather_h N l.gates us (take below v) t) given ezh
      ∙ ap (λ (n : ℕ). H (scaled N factor (take (2 ^ l.size) w)) n n) eb)
      (take_at j' rj (2 ^ m) (lj ∙ eb) ∙ ej ∙ ap₂ (λ (us t : List ℕ). gather_j N l.gates us (take below v) t) given ezj
      ∙ ap (λ (n : ℕ). J (scaled N factor (take (2 ^ l.size) w)) n n) eb)
      (front_reduced p (2 ^ m) h' rh (lh ∙ eb) th) (front_reduced p (2 ^ m) j' rj (lj ∙ eb) tj)

  pub right_read : (x v w h j v' w1 w2 w3 ex zh zj h' j' rv rh rj : List ℕ) (factor a : ℕ) → LeftTables p l m k X c x 0 factor v w h j → a ≡ get_or v 0 0 →
      length x ≡ m → below ≤ length w → v' ≡ take below w → w1 ≡ layer_weights N l k.shares → w2 ≡ scaled N factor w1 → ex ≡ eq_table N x →
      w3 ≡ weights_at N l.gates w2 ex → zh ≡ replicate below 0 → zj ≡ replicate below 0 →
      h' ≡ gather_hy N l.gates w3 a zh → j' ≡ gather_jy N l.gates w3 a zj → length h' ≡ below → length j' ≡ below →
      T (all_reduced N h') → T (all_reduced N j') → RightTables p l m k X c x [] m a (v' ++ rv) (h' ++ rh) (j' ++ rj)
  right_read x v w h j v' w1 w2 w3 ex zh zj h' j' rv rh rj factor a tables ea lx room ev e1 e2 ee e3 ezh ezj eh ej lh lj th tj =
      let given : w3 ≡ weights_at N l.gates (scaled N factor (layer_weights N l k.shares)) (eq_table N x) =
      e3 ∙ ap₂ (λ (us t : List ℕ). weights_at N l.gates us t) (e2 ∙ ap (scaled N factor) e1) ee in
      let lv : length v' ≡ 2 ^ m = ap length ev ∙ length-take-le below w room ∙ eb in
      right_started p several l m k X c reads x v w h j (v' ++ rv) (h' ++ rh) (j' ++ rj) factor a tables ea lx
      (take_at v' rv (2 ^ m) lv ∙ ev ∙ ap (λ (n : ℕ). take n w) eb)
      (take_at h' rh (2 ^ m) (lh ∙ eb) ∙ eh ∙ ap₂ (λ (us t : List ℕ). gather_hy N l.gates us a t) given (ezh ∙ ap (λ (n : ℕ). replicate n 0) eb))
      (take_at j' rj (2 ^ m) (lj ∙ eb) ∙ ej ∙ ap₂ (λ (us t : List ℕ). gather_jy N l.gates us a t) given (ezj ∙ ap (λ (n : ℕ). replicate n 0) eb))
      (front_reduced p (2 ^ m) h' rh (lh ∙ eb) th) (front_reduced p (2 ^ m) j' rj (lj ∙ eb) tj)

pub copies_read : (p : ℕ) → 1 < p → (l : Layer) (m : ℕ) (k : Claim ℕ) (X : List ℕ) (n : ℕ) (v w h copy rw rh : List ℕ) → k.copy ≡ copy → length copy ≡ n →
    take (2 ^ n * 2 ^ m) v ≡ X → T (all_reduced (modulo p) X) →
    h ≡ eq_table (modulo p) copy ++ rh → T (all_reduced (modulo p) (eq_table (modulo p) copy)) →
    w ≡ layer_weights (modulo p) l k.shares → length w ≡ 2 ^ l.size → T (all_reduced (modulo p) w) →
    CopyTables p l m k X [] n v (w ++ rw) h
copies_read p several l m k X n v w h copy rw rh ec lc ev tv eh th ew lw tw =
    let N = modulo p in
    let front : take (2 ^ n) h ≡ eq_table N copy = ap (take (2 ^ n)) eh ∙ take_at (eq_table N copy) rh (2 ^ n) (eq_table-length N copy ∙ ap (λ (i : ℕ). 2 ^ i) lc) in
    let reduced : (xs ys : List ℕ) → xs ≡ ys → T (all_reduced N ys) → T (all_reduced N xs) = λ xs ys e t. subst (λ (zs : List ℕ). T (all_reduced N zs)) (sym e) t in
    copies_started p several l m k X n v (w ++ rw) h (ap length ec ∙ lc) ev (reduced _ X ev tv)
    (front ∙ ap (eq_table N) (sym ec)) (reduced _ (eq_table N copy) front th)
    (take_at w rw (2 ^ l.size) lw ∙ ew) (front_reduced p (2 ^ l.size) w rw lw tw)
