-- The functions of a text's core, each with its signature.
use Rattle.std.proofs.Common.{◌≡◌, refl, subst, ℕ, zero, suc, true, List, [], ◌∷◌, ◌++◌, map, Option, Some, None, slice_get}
use Rattle.sail_base.specs.declared.place.Place.{Place}
use Rattle.sail_syntax.specs.declared.definitions.Def.{Def}
use Rattle.sail_syntax.specs.declared.definitions.Def.TheVariants as D
use Rattle.sail_syntax.specs.declared.definitions.FunctionClause.{FunctionClause}
use Rattle.sail_kinds.specs.declared.scope.Variable.{Variable}
use Rattle.sail_signatures.specs.declared.signature.Signature.{Signature}
use Rattle.type_definitions.specs.Defined.{types_of}
use Rattle.sail_tables.specs.Refused.{signature_in}
use Rattle.sail_core.specs.declared.model.Function.{Function}
use Rattle.shape_joins.proofs.JoinsLeast.{none, some_same}
use Rattle.shape_rules.specs.Scopes.{Setting}
use Rattle.shape_rules.specs.Written.{joined}
use Rattle.shape_models.specs.Models.{setting_of}
use Rattle.shape_clauses.specs.Functions.{function_in, functions_if, functions_of}
use Rattle.shapes.specs.Failures.{all_lets, own_in}
use Rattle.shapes.specs.Tabled.{tabled_of}
use Rattle.whole_runs.specs.Own.{is_own}
use Rattle.text_progress.specs.Laws.{core_of}
use Rattle.safe_models.specs.Safe.{Cycles}
use Rattle.safe_models.proofs.Constraints.{signature_own}

abbrev pub setting_at : List Def → List Variable → Setting
setting_at text = setting_of (tabled_of text) (own_in (tabled_of text) text) text (all_lets (tabled_of text) text)

module _ (text : List Def) (cycles : Cycles) where
  abbrev setting : List Variable → Setting
  setting = setting_at text

  abbrev OwnConstraint : Function → Type 0
  OwnConstraint f = is_own f.variables f.constraint ≡ true

  one_own : (place : Place) (name : List ℕ) (clauses : List FunctionClause) (o : Option Signature) → signature_in text name ≡ o → (cycle : Option ℕ)
      → (others : List Function) → ((i : ℕ) (f : Function) → slice_get others i ≡ Some f → OwnConstraint f)
      → (i : ℕ) (f : Function) → slice_get (functions_if (tabled_of text) text setting place name clauses o cycle ++ others) i ≡ Some f → OwnConstraint f
  one_own place name clauses None is cycle others h i f e = h i f e
  one_own place name clauses (Some s) is cycle others h zero f e =
      subst OwnConstraint (some_same (function_in (tabled_of text) text (setting s.variables) place name clauses s cycle) f e)
      (signature_own (types_of text).named text name s is)
  one_own place name clauses (Some s) is cycle others h (suc i) f e = h i f e

  all_own : (ds : List Def) (i : ℕ) (f : Function) → slice_get (joined (map (functions_of (tabled_of text) text setting cycles) ds)) i ≡ Some f
      → OwnConstraint f
  all_own [] i f e = none e
  all_own ((D.Function place extent name clauses) ∷ ds) i f e =
      one_own place name.text clauses (signature_in text name.text) refl (cycles name.text)
      (joined (map (functions_of (tabled_of text) text setting cycles) ds)) (all_own ds) i f e
  all_own (d ∷ ds) i f e = all_own ds i f e

  pub constraints_own : (i : ℕ) (f : Function) → slice_get (core_of text cycles).functions i ≡ Some f → is_own f.variables f.constraint ≡ true
  constraints_own i f e = all_own text i f e
