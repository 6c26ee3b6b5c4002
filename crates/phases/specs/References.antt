-- What a call leaves of the struct of the four tables: each field holds the reference that it held.
-- So what the struct says of its tables afterwards holds of the words that were lent.
use Rattle.std.specs.Prelude.{◌≡◌}
use Rattle.phases.specs.declared.quarters.Tables.{Tables}

abbrev pub SameReferences : Tables → Tables → Type 0
SameReferences t r =
    (r.v.ghost_name ≡ t.v.ghost_name) × (r.w.ghost_name ≡ t.w.ghost_name) × (r.h.ghost_name ≡ t.h.ghost_name) × (r.j.ghost_name ≡ t.j.ghost_name)
