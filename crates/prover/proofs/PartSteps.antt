-- The prover's stand after a coin, part by part, and at the start of the next part.
-- What belongs to the other parts is ruled out by how many coins there are.
use Rattle.std.proofs.Common.{◌≡◌, ℕ, suc, ◌+◌, ◌-◌, ◌*◌, ◌<◌, ◌≤◌, List, [], ◌∷◌, ◌++◌, length, take, drop, sym, ap, ◌∙◌, subst, arith, length-drop}
use Rattle.std.proofs.lemmas.List.{take-append-le, drop-append-le, length_push, take_all, drop_all}
use Rattle.circuits.specs.Circuit.{Layer}
use Rattle.argument.specs.Claims.{Claim}
use Rattle.phases.specs.Standing.{CopyTables, LeftTables, RightTables, Fixed}
use Rattle.prover.specs.Provers.{Parts}
use Rattle.phases.proofs.TableSteps.{left_heard, right_heard}
use Rattle.phases.proofs.TurnSteps.{one_less}

module _ (p : ℕ) (l : Layer) (m : ℕ) (k : Claim ℕ) (X : List ℕ) (copies : ℕ) (history : List ℕ) (factor a : ℕ) (v w h j : List ℕ)
    (r : ℕ) (v' h' j' : List ℕ) where
  abbrev more : List ℕ
  more = history ++ (r ∷ [])

  grown : length more ≡ length history + 1
  grown = length_push history r

  pub parts_copies : (n : ℕ) → 0 < n → length history + n ≡ copies → CopyTables p l m k X more (n - 1) v' w h' →
      Parts 1 1 p l m k X copies more factor a v' w h' j'
  parts_copies n some left tables =
      let long = grown in
      let less : n - 1 ≡ copies - length more = omega arith in
      record {
        over_copies = λ _. subst (λ (n : ℕ). CopyTables p l m k X more n v' w h') less tables;
        over_left = λ many _. absurd (omega arith);
        over_right = λ many. absurd (omega arith);
      }

  pub parts_left : (n : ℕ) → 0 < n → copies ≤ length history → length history + n ≡ copies + m →
      LeftTables p l m k X (take copies history) (drop copies history) n factor v w h j →
      Fixed p (n - 1) r v v' → Fixed p (n - 1) r h h' → Fixed p (n - 1) r j j' → Parts 1 1 p l m k X copies more factor a v' w h' j'
  parts_left n some enough left before fv fh fj =
      let long = grown in
      let c : List ℕ = take copies history in
      let x : List ℕ = drop copies history in
      let at : LeftTables p l m k X c x (suc (n - 1)) factor v w h j = subst (λ (i : ℕ). LeftTables p l m k X c x i factor v w h j) (one_less n some) before in
      let after = left_heard p l m k X c x (n - 1) factor v w h j at r v' h' j' fv fh fj in
      let less : n - 1 ≡ copies + m - length more = omega arith in
      let same-c : c ≡ take copies more = sym (take-append-le copies history (r ∷ []) enough) in
      let same-x : x ++ (r ∷ []) ≡ drop copies more = sym (drop-append-le copies history (r ∷ []) enough) in
      record {
        over_copies = λ less. absurd (omega arith);
        over_left = λ _ _.
            subst (λ (i : ℕ). LeftTables p l m k X (take copies more) (drop copies more) i factor v' w h' j') less
            (subst (λ (d : List ℕ). LeftTables p l m k X (take copies more) d (n - 1) factor v' w h' j') same-x
            (subst (λ (d : List ℕ). LeftTables p l m k X d (x ++ (r ∷ [])) (n - 1) factor v' w h' j') same-c after));
        over_right = λ many. absurd (omega arith);
      }

  pub parts_right : (n : ℕ) → 0 < n → copies + m ≤ length history → length history + n ≡ copies + 2 * m →
      RightTables p l m k X (take copies history) (take m (drop copies history)) (drop (copies + m) history) n a v h j →
      Fixed p (n - 1) r v v' → Fixed p (n - 1) r h h' → Fixed p (n - 1) r j j' → Parts 1 1 p l m k X copies more factor a v' w h' j'
  parts_right n some enough left before fv fh fj =
      let long = grown in
      let c : List ℕ = take copies history in
      let x : List ℕ = take m (drop copies history) in
      let y : List ℕ = drop (copies + m) history in
      let at : RightTables p l m k X c x y (suc (n - 1)) a v h j = subst (λ (i : ℕ). RightTables p l m k X c x y i a v h j) (one_less n some) before in
      let after = right_heard p l m k X c x y (n - 1) a v h j at r v' h' j' fv fh fj in
      let less : n - 1 ≡ copies + 2 * m - length more = omega arith in
      let enough-c : copies ≤ length history = omega arith in
      let enough-x : m ≤ length (drop copies history) = omega (arith, length-drop copies history) in
      let same-c : c ≡ take copies more = sym (take-append-le copies history (r ∷ []) enough-c) in
      let same-x : x ≡ take m (drop copies more) =
      sym (ap (take m) (drop-append-le copies history (r ∷ []) enough-c) ∙ take-append-le m (drop copies history) (r ∷ []) enough-x) in
      let same-y : y ++ (r ∷ []) ≡ drop (copies + m) more = sym (drop-append-le (copies + m) history (r ∷ []) enough) in
      record {
        over_copies = λ less. absurd (omega arith);
        over_left = λ _ less. absurd (omega arith);
        over_right = λ _.
            subst (λ (i : ℕ). RightTables p l m k X (take copies more) (take m (drop copies more)) (drop (copies + m) more) i a v' h' j') less
            (subst (λ (d : List ℕ). RightTables p l m k X (take copies more) (take m (drop copies more)) d (n - 1) a v' h' j') same-y
            (subst (λ (d : List ℕ). RightTables p l m k X (take copies more) d (y ++ (r ∷ [])) (n - 1) a v' h' j') same-x
            (subst (λ (d : List ℕ). RightTables p l m k X d x (y ++ (r ∷ [])) (n - 1) a v' h' j') same-c after)));
      }

-- ---- where the next part begins
module _ (p : ℕ) (l : Layer) (m : ℕ) (k : Claim ℕ) (X : List ℕ) (copies : ℕ) (history : List ℕ) (factor a : ℕ) (v w h j : List ℕ) where
  -- the copies' tables, all of their variables being fixed
  pub copies_fixed : Parts 1 1 p l m k X copies history factor a v w h j → length history ≡ copies → CopyTables p l m k X history 0 v w h
  copies_fixed parts all =
      let none : copies - length history ≡ 0 = omega arith in
      subst (λ (n : ℕ). CopyTables p l m k X history n v w h) none (parts.over_copies (omega arith))

  pub parts_at_left : length history ≡ copies → LeftTables p l m k X history [] m factor v w h j → Parts 0 1 p l m k X copies history factor a v w h j
  parts_at_left all tables =
      let less : m ≡ copies + m - length history = omega arith in
      let same-c : history ≡ take copies history = sym (take_all copies history (omega arith)) in
      let same-x : ◌≡◌ {A = List ℕ} [] (drop copies history) = sym (drop_all copies history (omega arith)) in
      record {
        over_copies = λ few. absurd (omega arith);
        over_left = λ _ _.
            subst (λ (n : ℕ). LeftTables p l m k X (take copies history) (drop copies history) n factor v w h j) less
            (subst (λ (d : List ℕ). LeftTables p l m k X (take copies history) d m factor v w h j) same-x
            (subst (λ (d : List ℕ). LeftTables p l m k X d [] m factor v w h j) same-c tables));
        over_right = λ many. absurd (omega arith);
      }

  -- the tables of x, all of its variables being fixed
  pub left_fixed : Parts 0 1 p l m k X copies history factor a v w h j → length history ≡ copies + m →
      LeftTables p l m k X (take copies history) (drop copies history) 0 factor v w h j
  left_fixed parts all =
      let none : copies + m - length history ≡ 0 = omega arith in
      subst (λ (n : ℕ). LeftTables p l m k X (take copies history) (drop copies history) n factor v w h j) none (parts.over_left (omega arith) (omega arith))

  pub parts_at_right : length history ≡ copies + m → RightTables p l m k X (take copies history) (drop copies history) [] m a v h j →
      Parts 0 0 p l m k X copies history factor a v w h j
  parts_at_right all tables =
      let less : m ≡ copies + 2 * m - length history = omega arith in
      let same-x : drop copies history ≡ take m (drop copies history) = sym (take_all m (drop copies history) (omega (arith, length-drop copies history))) in
      let same-y : ◌≡◌ {A = List ℕ} [] (drop (copies + m) history) = sym (drop_all (copies + m) history (omega arith)) in
      let c : List ℕ = take copies history in
      record {
        over_copies = λ few. absurd (omega arith);
        over_left = λ _ few. absurd (omega arith);
        over_right = λ _.
            subst (λ (n : ℕ). RightTables p l m k X c (take m (drop copies history)) (drop (copies + m) history) n a v h j) less
            (subst (λ (d : List ℕ). RightTables p l m k X c (take m (drop copies history)) d m a v h j) same-y
            (subst (λ (d : List ℕ). RightTables p l m k X c d [] m a v h j) same-x tables));
      }
