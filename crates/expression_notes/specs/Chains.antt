-- What a chain of assignments gives, from the right (Sail language manual, "Variables and assignment").
use Rattle.std.specs.Prelude.{List, false, [], ◌∷◌}
use Rattle.sail_base.specs.declared.place.Place.{Place}
use Rattle.value_indices.specs.Steps.{Walk, bind, give}
use Rattle.value_indices.specs.declared.indices.Indices.{Indices}
use Rattle.expression_forms.specs.Spots.{Spot, written_by}

-- a value that stands behind targets is written to the last of them, and what each gives to the one before it
abbrev pub written_back : Place → List Spot → Indices → Walk Indices
written_back place [] i = give i
written_back place (s ∷ ss) i = bind (written_back place ss i) (written_by place s false)
