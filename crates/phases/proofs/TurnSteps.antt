-- One turn's calls, as they stand in the code: fronts whose ends are counts that were worked out.
-- Where `left` variables were left, one less is left after the coin.
use Rattle.std.proofs.Common.{◌≡◌, ℕ, suc, ◌+◌, ◌-◌, ◌*◌, ◌/◌, ◌^◌, ◌<◌, ◌≤◌, T, List, [], ◌∷◌, ◌++◌, length, take, drop, sym, ap, ◌∙◌, subst, ap₂, arith, pow-add, length-append}
use native.Mathlib.Nat.{two-pow-succ}
use Rattle.std.proofs.lemmas.List.{take_at, take-append-le, length-take-le}
use Rattle.arithmetic.proofs.Modulo.{ring_modulo}
use Rattle.arithmetic.specs.Numbers.{modulo, all_reduced}
use Rattle.tables.proofs.Extension.{fix_first-length}
use Rattle.tables.proofs.ReducedLists.{reduced_take}
use Rattle.tables.specs.Multilinear.{fix_first, sum_corners}
use Rattle.circuits.specs.Circuit.{Layer}
use Rattle.argument.specs.Claims.{Claim}
use Rattle.argument.specs.Sumcheck.{Prover, four_values, respond}
use Rattle.rounds.specs.Phases.{copy_sum, product_sum}
use Rattle.phases.specs.Standing.{term_of, CopyTables, ProductTables, Fixed}
use Rattle.phases.proofs.StartsRead.{reduced_end}
use Rattle.phases.proofs.TableSteps.{copies_said, copies_heard, products_said}

pub one_less : (n : ℕ) → 0 < n → n ≡ suc (n - 1)
one_less n h = omega arith

half_of : (n : ℕ) → 0 < n → 2 ^ n / 2 ≡ 2 ^ (n - 1)
half_of n h =
    let double : 2 ^ n ≡ 2 ^ (n - 1) + 2 ^ (n - 1) = ap (λ (k : ℕ). 2 ^ k) (one_less n h) ∙ two-pow-succ (n - 1) in
    omega arith

half_all : (n m : ℕ) → 0 < n → 2 ^ (n + m) / 2 ≡ 2 ^ (n - 1) * 2 ^ m
half_all n m h =
    let less : n + m - 1 ≡ n - 1 + m = omega arith in
    half_of (n + m) (omega arith) ∙ ap (λ (k : ℕ). 2 ^ k) less ∙ pow-add 2 (n - 1) m

-- The front of some words, halved by a call on it, whatever lies behind it.
module _ (p : ℕ) (several : 1 < p) (count r : ℕ) (words new rest : List ℕ) (within : count ≤ length words)
    (is : new ≡ fix_first (modulo p) r (take count words) ++ drop (length (take count words) / 2) (take count words)) where
  abbrev back : List ℕ
  back = drop (length (take count words) / 2) (take count words)

  half : length (fix_first (modulo p) r (take count words)) ≡ count / 2
  half = fix_first-length (ring_modulo p several) r (take count words) ∙ ap (λ (k : ℕ). k / 2) (length-take-le count words within)

  inside : count / 2 ≤ length new
  inside = omega (arith, half, ap length is ∙ length-append (fix_first (modulo p) r (take count words)) back)

  pub halved : take (count / 2) (new ++ rest) ≡ fix_first (modulo p) r (take count words)
  halved = take-append-le (count / 2) new rest inside ∙ ap (take (count / 2)) is ∙ take_at (fix_first (modulo p) r (take count words)) back (count / 2) half

  pub halved_reduced : T (all_reduced (modulo p) new) → T (all_reduced (modulo p) (take (count / 2) (new ++ rest)))
  halved_reduced t = subst (λ (l : List ℕ). T (all_reduced (modulo p) l)) (sym (take-append-le (count / 2) new rest inside)) (reduced_take p (count / 2) new t)

pub fixed_turn : (p n count r : ℕ) (old new : List ℕ) → 0 < n → count ≡ 2 ^ n →
    take (count / 2) new ≡ fix_first (modulo p) r (take count old) → T (all_reduced (modulo p) (take (count / 2) new)) → Fixed p (n - 1) r old new
fixed_turn p n count r old new h e front reduced =
    let half : count / 2 ≡ 2 ^ (n - 1) = ap (λ (k : ℕ). k / 2) e ∙ half_of n h in
    record {
      front = ap (λ (k : ℕ). take k new) (sym half) ∙ front ∙ ap (λ (k : ℕ). fix_first (modulo p) r (take k old)) (e ∙ ap (λ (k : ℕ). 2 ^ k) (one_less n h));
      reduced = reduced_end p (count / 2) (2 ^ (n - 1)) new half reduced;
    }

pub fixed_by : (p : ℕ) → 1 < p → (n count r : ℕ) (words new rest : List ℕ) → 0 < n → count ≡ 2 ^ n → count ≤ length words →
    new ≡ fix_first (modulo p) r (take count words) ++ drop (length (take count words) / 2) (take count words) → T (all_reduced (modulo p) new) →
    Fixed p (n - 1) r words (new ++ rest)
fixed_by p several n count r words new rest h e within is t =
    fixed_turn p n count r words (new ++ rest) h e (halved p several count r words new rest within is) (halved_reduced p several count r words new rest within is t)

pub copies_turn : (p : ℕ) (l : Layer) (m : ℕ) (k : Claim ℕ) (X c : List ℕ) (n all count r : ℕ) (v w h v' h' : List ℕ) → 0 < n →
    all ≡ 2 ^ (n + m) → count ≡ 2 ^ n → CopyTables p l m k X c n v w h →
    take (all / 2) v' ≡ fix_first (modulo p) r (take all v) → T (all_reduced (modulo p) (take (all / 2) v')) →
    take (count / 2) h' ≡ fix_first (modulo p) r (take count h) → T (all_reduced (modulo p) (take (count / 2) h')) →
    CopyTables p l m k X (c ++ (r ∷ [])) (n - 1) v' w h'
copies_turn p l m k X c n all count r v w h v' h' some ea ec tables ev rv eh rh =
    let less = one_less n some in
    let before : CopyTables p l m k X c (suc (n - 1)) v w h = subst (λ (i : ℕ). CopyTables p l m k X c i v w h) less tables in
    let half : all / 2 ≡ 2 ^ (n - 1) * 2 ^ m = ap (λ (i : ℕ). i / 2) ea ∙ half_all n m some in
    let whole : all ≡ 2 ^ suc (n - 1) * 2 ^ m = ea ∙ pow-add 2 n m ∙ ap (λ (i : ℕ). 2 ^ i * 2 ^ m) less in
    let fh = fixed_turn p n count r h h' some ec eh rh in
    copies_heard p l m k X c (n - 1) v w h before r v' h'
    (ap (λ (i : ℕ). take i v') (sym half) ∙ ev ∙ ap (λ (i : ℕ). fix_first (modulo p) r (take i v)) whole) (reduced_end p (all / 2) (2 ^ (n - 1) * 2 ^ m) v' half rv)
    fh.front fh.reduced

-- ---- answers
pub products_answer : (p : ℕ) → 1 < p → (F G : List ℕ → ℕ) (n count : ℕ) (v h j : List ℕ) → 0 < n → count ≡ 2 ^ n → ProductTables p F G n v h j →
    (r : List ℕ) →
    ((i : ℕ) → length (take count v) ≡ 2 ^ suc i →
    r ≡ four_values (modulo p) (λ t. sum_corners (modulo p) i (λ z. product_sum (modulo p) (take count v) (take count h) (take count j) (t ∷ z)))) →
    length (take count v) ≡ count → (next : List ℕ → Prover ℕ) → r ≡ respond (modulo p) n G next []
products_answer p several F G n count v h j some ec tables r is long next =
    let less = one_less n some in
    let N = modulo p in
    let same : count ≡ 2 ^ suc (n - 1) = ec ∙ ap (λ (i : ℕ). 2 ^ i) less in
    let before : ProductTables p F G (suc (n - 1)) v h j = subst (λ (i : ℕ). ProductTables p F G i v h j) less tables in
    is (n - 1) (long ∙ same)
    ∙ ap (λ (e : ℕ). four_values N (λ t. sum_corners N (n - 1) (λ z. product_sum N (take e v) (take e h) (take e j) (t ∷ z)))) same
    ∙ products_said p several F G (n - 1) v h j before next
    ∙ ap (λ (i : ℕ). respond N i G next []) (sym less)

pub copies_answer : (p : ℕ) → 1 < p → (l : Layer) (m : ℕ) (k : Claim ℕ) (X c : List ℕ) (n gates count all : ℕ) (v w h : List ℕ) → 0 < n →
    gates ≡ 2 ^ l.size → count ≡ 2 ^ n → all ≡ 2 ^ (n + m) → CopyTables p l m k X c n v w h → (r : List ℕ) →
    ((i : ℕ) → length (take count h) ≡ 2 ^ suc i →
    r ≡ four_values (modulo p) (λ t. sum_corners (modulo p) i (λ z. copy_sum (modulo p) m l.gates (take gates w) (take count h) (take all v) (t ∷ z)))) →
    length (take count h) ≡ count → (next : List ℕ → Prover ℕ) →
    r ≡ respond (modulo p) n (λ z. sum_corners (modulo p) m (λ x. sum_corners (modulo p) m (λ y. term_of p l m k X (c ++ z) x y))) next []
copies_answer p several l m k X c n gates count all v w h some eg ec ea tables r is long next =
    let less = one_less n some in
    let N = modulo p in
    let same_h : count ≡ 2 ^ suc (n - 1) = ec ∙ ap (λ (i : ℕ). 2 ^ i) less in
    let same_v : all ≡ 2 ^ suc (n - 1) * 2 ^ m = ea ∙ pow-add 2 n m ∙ ap (λ (i : ℕ). 2 ^ i * 2 ^ m) less in
    let before : CopyTables p l m k X c (suc (n - 1)) v w h = subst (λ (i : ℕ). CopyTables p l m k X c i v w h) less tables in
    let G : List ℕ → ℕ = λ z. sum_corners N m (λ x. sum_corners N m (λ y. term_of p l m k X (c ++ z) x y)) in
    let A : ℕ → ℕ → ℕ → List ℕ = λ a b d. four_values N (λ t. sum_corners N (n - 1) (λ z. copy_sum N m l.gates (take a w) (take b h) (take d v) (t ∷ z))) in
    is (n - 1) (long ∙ same_h)
    ∙ ap₂ (λ (a b : ℕ). A a b all) eg same_h ∙ ap (A (2 ^ l.size) (2 ^ suc (n - 1))) same_v
    ∙ copies_said p several l m k X c (n - 1) v w h before next
    ∙ ap (λ (i : ℕ). respond N i G next []) (sym less)
