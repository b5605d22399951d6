-- Members of one overload that clash (M13), at the later definition (Sail language manual, "Overloading").
use Rattle.std.specs.Prelude.{ℕ, Bool, true, false, List, [], ◌∷◌, ◌++◌, map, Option, Some, None, if◌then◌else◌}
use Rattle.sail_base.specs.declared.place.Place.{Place}
use Rattle.shape_joins.specs.Numbering.{overlaps}
use Rattle.shape_rules.specs.declared.callees.Candidate.{Candidate}
use Rattle.shape_rules.specs.declared.error.ShapeError.{ShapeError}
use Rattle.shape_rules.specs.declared.error.ShapeError.TheVariants as error
use Rattle.shape_models.specs.declared.clashes.Added.{Added}

-- a member with the definition that adds it; a builtin's member has none
abbrev pub placed : Option Place → Candidate → Added
placed place f = record { member = f; place = place }

-- a member behind an older one
abbrev pub clash_of : Candidate → Candidate → Option Place → List ShapeError
clash_of f g None = []
clash_of f g (Some place) = if overlaps f.params g.params then error.Overlap place f.name g.name ∷ [] else []

abbrev pub clashes_with : List Candidate → Added → List ShapeError
clashes_with [] g = []
clashes_with (f ∷ fs) g = clash_of f g.member g.place ++ clashes_with fs g

-- members in the order in which they are tried, behind older ones
abbrev pub clashes_behind : List Candidate → List Added → List ShapeError
clashes_behind before [] = []
clashes_behind before (g ∷ gs) = clashes_with before g ++ clashes_behind (before ++ g.member ∷ []) gs

abbrev pub overload_faults : List Added → List ShapeError
overload_faults members = clashes_behind [] members
