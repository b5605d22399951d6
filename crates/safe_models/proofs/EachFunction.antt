-- What is so of a function that is made of each signature of a text is so of each function of its core.
use Rattle.std.proofs.Common.{◌≡◌, ℕ, zero, suc, List, [], ◌∷◌, ◌++◌, map, refl, subst}
use Rattle.std.specs.Prelude.{Option, Some, None, slice_get}
use Rattle.sail_base.specs.declared.place.Place.{Place}
use Rattle.sail_syntax.specs.declared.definitions.Def.{Def}
use Rattle.sail_syntax.specs.declared.definitions.Def.TheVariants as D
use Rattle.sail_syntax.specs.declared.definitions.FunctionClause.{FunctionClause}
use Rattle.sail_signatures.specs.declared.signature.Signature.{Signature}
use Rattle.sail_tables.specs.Refused.{signature_in}
use Rattle.sail_core.specs.declared.model.Function.{Function}
use Rattle.shape_joins.proofs.JoinsLeast.{none, some_same}
use Rattle.shape_rules.specs.Written.{joined}
use Rattle.shape_clauses.specs.Functions.{function_in, functions_if, functions_of}
use Rattle.shapes.specs.Tabled.{tabled_of}
use Rattle.known_texts.specs.Whole.{setting_in}
use Rattle.text_progress.specs.Laws.{core_of}

module _ (text : List Def) (cycle : List ℕ → Option ℕ) (P : Function → Type 0)
    (made : (place : Place) (name : List ℕ) (cs : List FunctionClause) (s : Signature) → signature_in text name ≡ Some s → (c : Option ℕ)
    → P (function_in (tabled_of text) text (setting_in (tabled_of text) text s.variables) place name cs s c)) where
  abbrev Each : List Function → Type 0
  Each [] = Unit {0}
  Each (f ∷ fs) = P f × Each fs

  both : (fs gs : List Function) → Each fs → Each gs → Each (fs ++ gs)
  both [] gs h k = k
  both (f ∷ fs) gs h k = (h.0, both fs gs h.1 k)

  if_signed : (place : Place) (name : List ℕ) (cs : List FunctionClause) (o : Option Signature) (c : Option ℕ) → signature_in text name ≡ o
      → Each (functions_if (tabled_of text) text (setting_in (tabled_of text) text) place name cs o c)
  if_signed place name cs None c is = tt
  if_signed place name cs (Some s) c is = (made place name cs s is c, tt)

  of_definition : (d : Def) → Each (functions_of (tabled_of text) text (setting_in (tabled_of text) text) cycle d)
  of_definition (D.Function place extent name cs) = if_signed place name.text cs (signature_in text name.text) (cycle name.text) refl
  of_definition d = tt

  of_all : (ds : List Def) → Each (joined (map (functions_of (tabled_of text) text (setting_in (tabled_of text) text) cycle) ds))
  of_all [] = tt
  of_all (d ∷ ds) =
      both (functions_of (tabled_of text) text (setting_in (tabled_of text) text) cycle d)
      (joined (map (functions_of (tabled_of text) text (setting_in (tabled_of text) text) cycle) ds)) (of_definition d) (of_all ds)

  at : (fs : List Function) → Each fs → (i : ℕ) (f : Function) → slice_get fs i ≡ Some f → P f
  at [] h i f e = none e
  at (x ∷ fs) h zero f e = subst P (some_same x f e) h.0
  at (x ∷ fs) h (suc i) f e = at fs h.1 i f e

  pub each_function : (i : ℕ) (f : Function) → slice_get (core_of text cycle).functions i ≡ Some f → P f
  each_function i f e =
      at (joined (map (functions_of (tabled_of text) text (setting_in (tabled_of text) text) cycle) text)) (of_all text) i f e
