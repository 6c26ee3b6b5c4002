-- The machine stops at the first answer that does not fit, or at the inputs where all fit.
-- By induction over the coins, each step being one answer and its coin.
use Rattle.std.proofs.Common.{◌≡◌, ℕ, zero, suc, ◌<◌, Bool, true, false, cond, T, ◌⊎◌, List, [], ◌∷◌, length, get_or, take, drop, sym, refl, ap, subst, inl, inr, arith}
use Rattle.arithmetic.specs.Numbers.{Numbers, modulo}
use Rattle.argument.specs.Argument.{first_coins}
use Rattle.verdicts.specs.declared.verdict.Verdict.{Verdict}
use Rattle.verdicts.specs.Machine.{Stand, doubt, fits, next, settled, resume, start, stand_after}
use Rattle.verdicts.specs.Theorems.{StopsFirst}

get_or-drop_one : {X : Type 0} (xs : List X) (m : ℕ) (d : X) → get_or (drop 1 xs) m d ≡ get_or xs (suc m) d
get_or-drop_one [] m d = refl
get_or-drop_one (x ∷ xs) m d = refl

is_true : (b : Bool) → b ≡ true → T b
is_true b e = subst (λ (x : Bool). T x) (sym e) tt

module _ {K : Type 0} (N : Numbers K) (vs : List K) where
  -- the first n answers fit
  abbrev pub Fitting : ℕ → Stand K → List (List K) → List K → Type 0
  Fitting n s answers coins = (m : ℕ) → m < n → T (fits N (stand_after N m s answers coins) (get_or answers m []))

  -- and there the verdict v is given
  abbrev pub Given : ℕ → Stand K → List (List K) → List K → Verdict → Type 0
  Given n s answers coins v =
      ((n < length coins) × (fits N (stand_after N n s answers coins) (get_or answers n []) ≡ false) ×
      (v ≡ doubt (stand_after N n s answers coins))) ⊎
      ((n ≡ length coins) × (v ≡ settled N vs (stand_after N n s answers coins)))

  fitting_more :
      (n : ℕ) (s : Stand K) (answers : List (List K)) (r : K) (coins : List K) → fits N s (get_or answers 0 []) ≡ true →
      Fitting n (next N s (get_or answers 0 []) r) (drop 1 answers) coins → Fitting (suc n) s answers (r ∷ coins)
  unfolding stand_after
  fitting_more n s answers r coins e h zero l = is_true _ e
  fitting_more n s answers r coins e h (suc m) l =
      subst
      (λ (a : List K). T (fits N (stand_after N m (next N s (get_or answers 0 []) r) (drop 1 answers) coins) a))
      (get_or-drop_one answers m []) (h m (omega arith))

  given_more :
      (n : ℕ) (s : Stand K) (answers : List (List K)) (r : K) (coins : List K) (v : Verdict) →
      Given n (next N s (get_or answers 0 []) r) (drop 1 answers) coins v → Given (suc n) s answers (r ∷ coins) v
  unfolding stand_after
  given_more n s answers r coins v (inl g) =
      inl (
        omega (arith, g.0),
        subst
            (λ (a : List K). fits N (stand_after N n (next N s (get_or answers 0 []) r) (drop 1 answers) coins) a ≡ false)
            (get_or-drop_one answers n []) g.1,
        g.2,
      )
  given_more n s answers r coins v (inr g) = inr (ap suc g.0, g.1)

  pub stopping :
      (s : Stand K) (answers : List (List K)) (coins : List K) →
      (n : ℕ) × Fitting n s answers coins × Given n s answers coins (resume N vs s answers coins)
  unfolding resume stand_after
  stopping s answers [] = (0, λ m l. absurd (omega arith), inr (refl, refl))
  stopping s answers (r ∷ coins) =
      by_cases (fits N s (get_or answers 0 [])) refl (stopping (next N s (get_or answers 0 []) r) (drop 1 answers) coins)
    where
      a : List K
      a = get_or answers 0 []

      later : Verdict
      later = resume N vs (next N s a r) (drop 1 answers) coins

      by_cases :
          (b : Bool) → fits N s a ≡ b →
          (n : ℕ) × Fitting n (next N s a r) (drop 1 answers) coins × Given n (next N s a r) (drop 1 answers) coins later →
          (n : ℕ) × Fitting n s answers (r ∷ coins) × Given n s answers (r ∷ coins) (resume N vs s answers (r ∷ coins))
      by_cases true e h = (
        suc h.0,
        fitting_more h.0 s answers r coins e h.1,
        given_more h.0 s answers r coins (resume N vs s answers (r ∷ coins))
            (subst (λ (v : Verdict). Given h.0 (next N s a r) (drop 1 answers) coins v) (sym (ap (λ (b : Bool). cond b later (doubt s)) e)) h.2),
      )
      by_cases false e h =
          (0, λ m l. absurd (omega arith), inl (omega arith, e, ap (λ (b : Bool). cond b later (doubt s)) e))

pub stops_first : StopsFirst
stops_first p c vs claimed answers coins =
    stopping (modulo p) vs (start (modulo p) c claimed (take (first_coins c) coins)) answers (drop (first_coins c) coins)
