-- A test that passes, as the type `T` and as a path to `true`, and what a conjunction of tests says.
-- Definitions speak of tests; proofs go over to these at once.
use Rattle.std.proofs.Common.{◌≡◌, Bool, true, false, ◌&&◌, T, sym, refl, subst}

pub path_of_T : (b : Bool) → T b → b ≡ true
path_of_T true t = refl
path_of_T false t = absurd t

pub T_of_path : (b : Bool) → b ≡ true → T b
T_of_path b e = subst T (sym e) tt

pub and_left : (a b : Bool) → T (a && b) → T a
and_left true b t = tt
and_left false b t = t

pub and_right : (a b : Bool) → T (a && b) → T b
and_right true b t = t
and_right false b t = absurd t

pub and_both : (a b : Bool) → T a → T b → T (a && b)
and_both true b s t = t
and_both false b s t = s
