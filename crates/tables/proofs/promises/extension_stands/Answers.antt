-- The theorems are proved in `proofs/Theorems.antt`.
use Rattle.tables.proofs.Theorems.{value_at_corner, sum_over_places, linear_in_each_variable, linear_in_table}
use Rattle.tables.proofs.promises.extension_stands.Goals as goal

pub returns : goal.returns
returns c =
    record {
      corner = value_at_corner;
      places = sum_over_places;
      variables = linear_in_each_variable;
      table = linear_in_table;
    }
