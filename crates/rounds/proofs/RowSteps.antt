-- The steps of a round's pass over rows, and over a row's gates from the last to the first, for the numbers modulo p.
-- At the end the four sums are the round's values.
use Rattle.std.proofs.Common.{◌≡◌, ℕ, zero, suc, ◌+◌, ◌*◌, ◌/◌, ◌^◌, ◌<◌, ◌≤◌, true, ◌&&◌, T, ltb, List, [], ◌∷◌, ◌++◌, length, get_or, take, drop, sym, refl, ap, append_assoc, append-nil, length-append, ◌∙◌, subst, ap₂, zero-mul, arith, pow-add}
use native.Mathlib.Nat.{two-pow-succ}
use Rattle.std.proofs.lemmas.List.{drop_more, get_or_at, length-take-le, take_at, take_more}
use Rattle.std.proofs.lemmas.Bool.{and_parts, ltb-true}
use Rattle.arithmetic.specs.Numbers.{modulo, all_reduced}
use Rattle.arithmetic.proofs.Modulo.{ring_modulo}
use Rattle.arithmetic.proofs.Newton.{reduced_at}
use Rattle.argument.specs.Sumcheck.{four_values}
use Rattle.argument.proofs.Copies.{Reads}
use Rattle.circuits.specs.Circuit.{Gate, gates_fit}
use Rattle.tables.specs.InPlace.{on_line}
use Rattle.tables.specs.Multilinear.{sum_corners}
use Rattle.tables.proofs.ReducedLists.{reduced_anywhere, reduced_take, reduced_drop}
use Rattle.rounds.specs.Fours.{FourOf}
use Rattle.rounds.specs.Phases.{copy_sum}
use Rattle.rounds.specs.Rows.{row, gate_on_line, row_sum, row_term, rows_sum}
use Rattle.rounds.proofs.FourSteps.{four_same, four_zeros}
use Rattle.rounds.proofs.Halves.{HalvesLeft, halves_more, RowsLeft, rows_left_more}
use Rattle.rounds.proofs.CopyRound.{copy_round}

-- a line by its four values
pub four_line : (p a b : ℕ) (s : List ℕ) → s ≡ four_values (modulo p) (λ t. on_line (modulo p) t a b) → T (all_reduced (modulo p) s) →
    FourOf p (λ t. on_line (modulo p) t a b) s
four_line p a b s e h = record { values = e; below = h }

-- ---- one gate more, and one row more
-- Gates from the last to the first: the weights that are left, those that are done, and the sums over the latter's gates.
pub record RowPassed (p : ℕ) (gs : List Gate) (ws low high left s : List ℕ) : Type 0 where
  pub done : List ℕ
  pub parts : ws ≡ left ++ done
  pub sums : FourOf p (row_sum (modulo p) (drop (length left) gs) done low high) s

pub passed_none : (p : ℕ) → 0 < p → (gs : List Gate) (ws low high left : List ℕ) → left ≡ ws → RowPassed p gs ws low high left (0 ∷ 0 ∷ 0 ∷ 0 ∷ [])
unfolding row_sum
passed_none p h gs ws low high left e =
    record { done = []; parts = sym e ∙ sym (append-nil left); sums = four_zeros p h _ (nothing (drop (length left) gs)) }
  where
    nothing : (gs : List Gate) (t : ℕ) → row_sum (modulo p) gs [] low high t ≡ 0
    nothing [] t = refl
    nothing (g ∷ gs) t = refl

module _ {p : ℕ} {gs : List Gate} {ws low high left s : List ℕ} (h : RowPassed p gs ws low high left s) (left-after : List ℕ) (w : ℕ)
    (next : left ≡ left-after ++ (w ∷ [])) where
  parts-after : ws ≡ left-after ++ (w ∷ h.done)
  parts-after = h.parts ∙ ap (λ (l : List ℕ). l ++ h.done) next ∙ append_assoc left-after (w ∷ []) h.done

  pub passed_inside : length gs ≡ length ws → length left-after < length gs
  passed_inside e = omega (arith, ap length parts-after, length-append left-after (w ∷ h.done))

  -- the gates that are left stand beside the weights that are left
  pub gate_last : (G G' : List Gate) (g d : Gate) → length gs ≡ length ws → G ≡ take (length left) gs → G ≡ G' ++ (g ∷ []) →
      (G' ≡ take (length left-after) gs) × (g ≡ get_or gs (length left-after) d)
  gate_last G G' g d e beside last =
      let n = length left-after in
      let inside : n < length gs = passed_inside e in
      let more : length left ≡ n + 1 = ap length next ∙ length-append left-after (w ∷ []) in
      let same : G' ++ (g ∷ []) ≡ take n gs ++ (get_or gs n d ∷ []) = sym last ∙ beside ∙ ap (λ k. take k gs) more ∙ take_more gs n d inside in
      let long : length (take n gs) ≡ n = length-take-le n gs (omega (arith, inside)) in
      let short : length G' ≡ n =
      omega (arith, ap length same, length-append G' (g ∷ []), length-append (take n gs) (get_or gs n d ∷ []), long) in (
        sym (take_at G' (g ∷ []) n short) ∙ ap (take n) same ∙ take_at (take n gs) (get_or gs n d ∷ []) n long,
        sym (get_or_at G' g [] d n short) ∙ ap (λ l. get_or l n d) same ∙ get_or_at (take n gs) (get_or gs n d) [] d n long,
      )

  pub passed_below : T (all_reduced (modulo p) ws) → w < p
  passed_below t =
      subst (λ (x : ℕ). x < p)
      (ap (λ (l : List ℕ). get_or l (length left-after) 0) parts-after ∙ get_or_at left-after w h.done 0 (length left-after) refl)
      (reduced_at p ws t (length left-after) (omega (arith, ap length parts-after, length-append left-after (w ∷ h.done))))

  pub passed_more : (g d : Gate) (r : List ℕ) → length left-after < length gs → g ≡ get_or gs (length left-after) d →
      FourOf p (λ t. (modulo p).add ((modulo p).mul w (gate_on_line (modulo p) g low high t)) (row_sum (modulo p) (drop (length left) gs) h.done low high t)) r →
      RowPassed p gs ws low high left-after r
  unfolding row_sum
  passed_more g d r inside e sums =
      record { done = w ∷ h.done; parts = parts-after; sums = four_same p _ _ r same sums }
    where
      k : ℕ
      k = length left-after

      longer : length left ≡ k + 1
      longer = ap length next ∙ length-append left-after (w ∷ [])

      same : (t : ℕ) →
          (modulo p).add ((modulo p).mul w (gate_on_line (modulo p) g low high t)) (row_sum (modulo p) (drop (length left) gs) h.done low high t) ≡
          row_sum (modulo p) (drop k gs) (w ∷ h.done) low high t
      same t =
          ap₂ (λ (x : Gate) (n : ℕ). (modulo p).add ((modulo p).mul w (gate_on_line (modulo p) x low high t)) (row_sum (modulo p) (drop n gs) h.done low high t)) e longer
          ∙ sym (ap (λ (l : List Gate). row_sum (modulo p) l (w ∷ h.done) low high t) (drop_more gs k d inside))

-- where no gate is left, no weight is either
pub gates_done : {p : ℕ} {gs : List Gate} {ws low high left s : List ℕ} → RowPassed p gs ws low high left s → (G : List Gate) → length gs ≡ length ws →
    G ≡ take (length left) gs → length G ≡ 0 → length left ≡ 0
gates_done {gs = gs} {left = left} h G e beside none =
    let all : length left ≤ length gs = omega (arith, e, ap length h.parts, length-append left h.done) in
    omega (arith, none, ap length beside, length-take-le (length left) gs all)

pub passed_all : {p : ℕ} {gs : List Gate} {ws low high left s : List ℕ} → RowPassed p gs ws low high left s → left ≡ [] → FourOf p (row_sum (modulo p) gs ws low high) s
passed_all {p} {gs} {ws} {low} {high} {left} {s} h end =
    four_same p _ _ s
    (λ t. ap₂ (λ (n : ℕ) (l : List ℕ). row_sum (modulo p) (drop n gs) l low high t) (ap length end) (sym (h.parts ∙ ap (λ (l : List ℕ). l ++ h.done) end)))
    h.sums

-- rows from the first to the last: one more at the end
rows_last : (p : ℕ) → 1 < p → (m : ℕ) (gs : List Gate) (ws : List ℕ) (half : ℕ) (e v : List ℕ) (i n j t : ℕ) → i + n ≡ j →
    let N = modulo p in
    rows_sum N m gs ws half e v i (n + 1) t ≡ N.add (rows_sum N m gs ws half e v i n t) (row_term N m gs ws half e v j t)
unfolding rows_sum
rows_last p h m gs ws half e v i zero j t same =
    let N = modulo p in
    let here : i ≡ j = omega arith in
    (ring_modulo p h).add_comm (row_term N m gs ws half e v i t) 0 ∙ ap (λ (k : ℕ). N.add 0 (row_term N m gs ws half e v k t)) here
rows_last p h m gs ws half e v i (suc n) j t same =
    let N = modulo p in
    let more : suc n + 1 ≡ suc (n + 1) = omega arith in
    ap (λ (k : ℕ). rows_sum N m gs ws half e v i k t) more
    ∙ ap (N.add (row_term N m gs ws half e v i t)) (rows_last p h m gs ws half e v (i + 1) n j t (omega arith))
    ∙ sym ((ring_modulo p h).add_assoc (row_term N m gs ws half e v i t) (rows_sum N m gs ws half e v (i + 1) n t) (row_term N m gs ws half e v j t))

-- ---- the whole pass
pub gates_read : (n : ℕ) (gs : List Gate) → gates_fit n gs ≡ true → Reads n gs
unfolding gates_fit
gates_read n [] h = tt
gates_read n (g ∷ gs) h =
    let p = and_parts (ltb g.left n) (ltb g.right n && gates_fit n gs) h in
    let q = and_parts (ltb g.right n) (gates_fit n gs) p.1 in
    (ltb-true g.left n p.0, ltb-true g.right n q.0, gates_read n gs q.1)

-- The copies of the lower half and their partners, from the first on: how many are done, what is left of the tables, and the
-- sums over the rows that are done.
pub record CopiesPassed (p m : ℕ) (gs : List Gate) (ws e v low-e high-e low-v high-v : List ℕ) (low-size high-size : ℕ) (s : List ℕ) : Type 0 where
  pub done : ℕ
  pub within : done ≤ length e / 2
  pub eqs : HalvesLeft done e low-e high-e
  pub rows : RowsLeft m (length e / 2) done v low-v high-v
  pub sizes : (low-size ≡ 2 ^ m) × (high-size ≡ 2 ^ m)
  pub sums : FourOf p (rows_sum (modulo p) m gs ws (length e / 2) e v 0 done) s

pub copies_none : {p : ℕ} → 0 < p → {m : ℕ} {gs : List Gate} {ws e v low-e high-e low-v high-v : List ℕ} {low-size high-size : ℕ} →
    low-e ≡ take (length e / 2) e → high-e ≡ drop (length e / 2) e → low-v ≡ take (length e / 2 * 2 ^ m) v → high-v ≡ drop (length e / 2 * 2 ^ m) v →
    low-size ≡ 2 ^ m → high-size ≡ 2 ^ m →
    CopiesPassed p m gs ws e v low-e high-e low-v high-v low-size high-size (0 ∷ 0 ∷ 0 ∷ 0 ∷ [])
unfolding rows_sum
copies_none {p} positive {m} {v = v} low high low-rows high-rows a b =
    record {
      done = 0;
      within = omega arith;
      eqs = record { low_is = low; high_is = high };
      rows = record { low_is = rw (zero-mul (2 ^ m)) low-rows; high_is = rw (zero-mul (2 ^ m)) high-rows };
      sizes = (a, b);
      sums = four_zeros p positive _ (λ t. refl);
    }

-- what one turn reads
pub record CopyRead (p m : ℕ) (a b : ℕ) (lo hi : List ℕ) : Type 0 where
  pub factors : (a < p) × (b < p)
  pub low : (length lo ≡ 2 ^ m) × T (all_reduced (modulo p) lo)
  pub high : (length hi ≡ 2 ^ m) × T (all_reduced (modulo p) hi)

module _ {p m : ℕ} {gs : List Gate} {ws e v low-e high-e low-v high-v : List ℕ} {low-size high-size : ℕ} {s : List ℕ}
    (h : CopiesPassed p m gs ws e v low-e high-e low-v high-v low-size high-size s)
    {a b : ℕ} {low-e-after high-e-after : List ℕ} (lo hi low-v-after high-v-after : List ℕ)
    (next-low : low-e ≡ a ∷ low-e-after) (next-high : high-e ≡ b ∷ high-e-after)
    (next-lo : low-v ≡ lo ++ low-v-after) (long-lo : length lo ≡ low-size) (next-hi : high-v ≡ hi ++ high-v-after) (long-hi : length hi ≡ high-size) where
  pub copy_read : 0 < p → T (all_reduced (modulo p) e) → T (all_reduced (modulo p) v) → CopyRead p m a b lo hi
  copy_read positive reduced-e reduced-v =
      let (before, at, at-high, eqs) = halves_more h.eqs next-low next-high in
      let (low, high, rows) = rows_left_more h.rows before next-lo (long-lo ∙ h.sizes.0) next-hi (long-hi ∙ h.sizes.1) in
      let row_reduced = λ (i : ℕ). reduced_take p (2 ^ m) (drop (i * 2 ^ m) v) (reduced_drop p (i * 2 ^ m) v reduced-v) in
      record {
        factors = (rw at (reduced_anywhere p positive e reduced-e h.done), rw at-high (reduced_anywhere p positive e reduced-e (length e / 2 + h.done)));
        low = (long-lo ∙ h.sizes.0, subst (λ (l : List ℕ). T (all_reduced (modulo p) l)) (sym low) (row_reduced h.done));
        high = (long-hi ∙ h.sizes.1, subst (λ (l : List ℕ). T (all_reduced (modulo p) l)) (sym high) (row_reduced (length e / 2 + h.done)));
      }

  pub copies_more : 1 < p → {low-size-after high-size-after : ℕ} → low-size-after ≡ low-size → high-size-after ≡ high-size → (r : List ℕ) →
      FourOf p (λ t. (modulo p).add (rows_sum (modulo p) m gs ws (length e / 2) e v 0 h.done t) ((modulo p).mul (on_line (modulo p) t a b) (row_sum (modulo p) gs ws lo hi t))) r →
      CopiesPassed p m gs ws e v low-e-after high-e-after low-v-after high-v-after low-size-after high-size-after r
  copies_more several x y r sums =
      let (before, at, at-high, eqs) = halves_more h.eqs next-low next-high in
      let (low, high, rows) = rows_left_more h.rows before next-lo (long-lo ∙ h.sizes.0) next-hi (long-hi ∙ h.sizes.1) in
      record { done = h.done + 1; within = omega arith; eqs = eqs; rows = rows; sizes = (x ∙ h.sizes.0, y ∙ h.sizes.1); sums = four_same p _ _ r (λ t. same t at at-high low high) sums }
    where
      same : (t : ℕ) → a ≡ get_or e h.done 0 → b ≡ get_or e (length e / 2 + h.done) 0 → lo ≡ row m h.done v → hi ≡ row m (length e / 2 + h.done) v →
          (modulo p).add (rows_sum (modulo p) m gs ws (length e / 2) e v 0 h.done t) ((modulo p).mul (on_line (modulo p) t a b) (row_sum (modulo p) gs ws lo hi t)) ≡
          rows_sum (modulo p) m gs ws (length e / 2) e v 0 (h.done + 1) t
      same t x y l r =
          ap₂ (λ (c d : ℕ). (modulo p).add (rows_sum (modulo p) m gs ws (length e / 2) e v 0 h.done t) ((modulo p).mul c d))
          (ap₂ (on_line (modulo p) t) x y) (ap₂ (λ (c d : List ℕ). row_sum (modulo p) gs ws c d t) l r)
          ∙ sym (rows_last p several m gs ws (length e / 2) e v 0 h.done h.done t (omega arith))

pub copies_all : (p : ℕ) → 1 < p → (m : ℕ) (gs : List Gate) (ws e v : List ℕ) (done : ℕ) (s : List ℕ) → gates_fit (2 ^ m) gs ≡ true →
    length v ≡ length e * 2 ^ m → done ≡ length e / 2 → FourOf p (rows_sum (modulo p) m gs ws (length e / 2) e v 0 done) s →
    (n : ℕ) → length e ≡ 2 ^ suc n →
    s ≡ four_values (modulo p) (λ t. sum_corners (modulo p) n (λ z. copy_sum (modulo p) m gs ws e v (t ∷ z)))
copies_all p several m gs ws e v done s fits lv all sums n le =
    let N = modulo p in
    let middle : length e / 2 ≡ 2 ^ n = omega (arith, two-pow-succ n) in
    let long : length v ≡ 2 ^ (suc n + m) = lv ∙ ap (λ (k : ℕ). k * 2 ^ m) le ∙ sym (pow-add 2 (suc n) m) in
    (four_same p (rows_sum N m gs ws (length e / 2) e v 0 done) (λ t. sum_corners N n (λ z. copy_sum N m gs ws e v (t ∷ z))) s
    (λ t.
    ap (λ (k : ℕ). rows_sum N m gs ws (length e / 2) e v 0 k t) (all ∙ middle) ∙ ap (λ (h : ℕ). rows_sum N m gs ws h e v 0 (2 ^ n) t) middle
    ∙ copy_round (ring_modulo p several) n m gs ws e v le long (gates_read (2 ^ m) gs fits) t)
    sums).values
