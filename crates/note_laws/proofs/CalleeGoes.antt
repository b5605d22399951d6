-- What a call gives to variables goes through no mapping.
use Rattle.std.specs.Prelude.{List, None, Option, Some, map, suc, ℕ, [], ◌∷◌}
use Rattle.sail_types.specs.declared.numbers.Index.{Index}
use Rattle.sail_types.specs.declared.table.Parameter.{Parameter}
use Rattle.sail_types.specs.declared.types.Typ.{Typ}
use Rattle.value_indices.specs.declared.indices.Indices.{Indices}
use Rattle.value_fits.specs.Fitting.{among, placed}
use Rattle.call_arguments.specs.Callees.{index_if, indices_from}
use Rattle.note_laws.specs.Ways.{Told}
use Rattle.note_laws.proofs.Goes.{Goes, give_goes, bind_goes}
use Rattle.note_laws.proofs.WideGoes.{fresh_index_goes}

module _ (told : Told) where
  pub index_if_goes : (p : Parameter) (i : Option Index) → Goes told (index_if p i)
  index_if_goes p None = fresh_index_goes told p p.kind
  index_if_goes p (Some i) = give_goes told _

  pub indices_from_goes : (j : ℕ) (ps : List Parameter) (ts : List Typ) (is : List Indices) → Goes told (indices_from j ps ts is)
  indices_from_goes j [] ts is = give_goes told _
  indices_from_goes j (p ∷ ps) ts is =
      bind_goes told _ _ (index_if_goes p (among (map placed ts) j is))
      (λ i. bind_goes told _ _ (indices_from_goes (suc j) ps ts is) (λ more. give_goes told _))
