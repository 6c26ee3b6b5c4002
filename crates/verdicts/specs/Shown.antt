-- The words that stand for a verdict, as the verifier's programs print it.
-- A place is named by what was looked at there.
use Rattle.std.specs.Prelude.{ℕ, List, ◌++◌, codes, decimal}
use Rattle.verdicts.specs.declared.verdict.Place.{Place}
use Rattle.verdicts.specs.declared.verdict.Place.TheVariants.{Variable, Values, Inputs}
use Rattle.verdicts.specs.declared.verdict.Verdict.{Verdict}
use Rattle.verdicts.specs.declared.verdict.Verdict.TheVariants.{Believed, Stopped}

abbrev pub place_text : Place → List ℕ
place_text (Variable i) = codes "variable " ++ decimal i
place_text Values = codes "values"
place_text Inputs = codes "inputs"

abbrev pub verdict_text : Verdict → List ℕ
verdict_text Believed = codes "believed"
verdict_text (Stopped layer place) = codes "not believed, layer " ++ (decimal layer ++ (codes ", " ++ place_text place))
