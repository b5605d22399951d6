-- Directions of a text's core stand in pairs, each beside the other one of its mapping.
use Rattle.std.proofs.Common.{◌≡◌, refl, ℕ, zero, suc, List, [], ◌∷◌, ◌++◌, map, Option, Some, None, slice_get}
use Rattle.sail_base.specs.declared.place.Place.{Place}
use Rattle.sail_syntax.specs.declared.definitions.Def.{Def}
use Rattle.sail_syntax.specs.declared.definitions.Def.TheVariants as D
use Rattle.sail_syntax.specs.declared.definitions.MappingClause.{MappingClause}
use Rattle.sail_signatures.specs.declared.signature.Signature.{Signature}
use Rattle.sail_core.specs.declared.model.Direction.{Direction}
use Rattle.shape_joins.proofs.JoinsLeast.{none}
use Rattle.shape_rules.specs.Scopes.{Setting}
use Rattle.shape_rules.specs.Written.{joined}
use Rattle.shape_models.specs.Models.{Tabled}
use Rattle.shape_clauses.specs.Mappings.{directions_if, directions_of}
use Rattle.soundness_calls.specs.Directions.{Side, is_ahead, is_back}
use Rattle.met_notes.specs.Covers.{side_at}

abbrev InPairs : List Direction → Type 0
InPairs [] = Unit {0}
InPairs (a ∷ []) = ⊥
InPairs (a ∷ b ∷ ds) = InPairs ds

pairs_behind : (ds es : List Direction) → InPairs ds → InPairs es → InPairs (ds ++ es)
pairs_behind [] es h k = k
pairs_behind (a ∷ []) es h k = absurd h
pairs_behind (a ∷ b ∷ ds) es h k = pairs_behind ds es h k

module _ (tabled : Tabled) (setting : Setting) where
  mapping_pairs : (place : Place) (name : List ℕ) (cs : List MappingClause) (o : Option Signature) → InPairs (directions_if setting place name cs o)
  mapping_pairs place name cs None = tt
  mapping_pairs place name cs (Some s) = tt

  pub text_pairs : (ds : List Def) → InPairs (joined (map (directions_of tabled setting) ds))
  text_pairs [] = tt
  text_pairs ((D.Mapping place name sides cs) ∷ ds) =
      pairs_behind (directions_if setting place name.text cs (tabled.signature name.text)) (joined (map (directions_of tabled setting) ds))
      (mapping_pairs place name.text cs (tabled.signature name.text)) (text_pairs ds)
  text_pairs (d ∷ ds) = text_pairs ds

pub side_of : (ds : List Direction) → InPairs ds → (d : ℕ) (n : Direction) → slice_get ds d ≡ Some n → (side : Side) × (side_at ds d ≡ Some side)
side_of [] h d n e = none e
side_of (a ∷ []) h d n e = absurd h
side_of (a ∷ b ∷ ds) h zero n e = (is_ahead b, refl)
side_of (a ∷ b ∷ ds) h (suc zero) n e = (is_back a, refl)
side_of (a ∷ b ∷ ds) h (suc (suc d)) n e = side_of ds h d n e
