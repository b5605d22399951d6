-- Types over their parts: as the grammar has them, where their parts are.
use Rattle.std.proofs.Common.{◌≡◌, Bool, true, List, [], ◌∷◌, map, refl, sym, ◌∙◌, ap, Option, Some, None}
use Rattle.std.specs.Prelude.{ℤ}
use Rattle.sail_base.specs.declared.place.Place.{Place}
use Rattle.sail_syntax.specs.declared.name.Name.{Name}
use Rattle.sail_syntax.specs.declared.words.TypeOperator.{TypeOperator}
use Rattle.sail_syntax.specs.declared.words.TypePrefix.{TypePrefix}
use Rattle.sail_syntax.specs.declared.types.TyExp.{TyExp, TyExp-F, roll-TyExp, fold-roll-TyExp, map-TyExp}
use Rattle.sail_syntax.specs.declared.types.TyExp.TheOpen as X
use Rattle.sail_syntax.specs.declared.types.TyExp.TheVariants as V
use Rattle.sail_grammar.specs.TypeTrees.{grouped_type}
use Rattle.shape_joins.proofs.Order.{two}
use Rattle.shape_meanings.specs.Whole.{all_of}
use Rattle.known_texts.specs.Written.{maybe_type_written, type_form, type_written}

abbrev pub FineTypes : List TyExp → Type 0
FineTypes ts = all_of (map type_written ts) ≡ true

-- some types, each as the grammar has it
abbrev pub SomeTypes : List TyExp → Type 0
SomeTypes [] = ⊥
SomeTypes (t ∷ ts) = (type_written t ≡ true) × FineTypes ts

pub all_types : (ts : List TyExp) → SomeTypes ts → FineTypes ts
all_types [] h = absurd h
all_types (t ∷ ts) h = two _ _ h.0 h.1

-- a type of this form
of_form : (x : TyExp-F TyExp) (t : TyExp) → roll-TyExp x ≡ t → type_form (map-TyExp TyExp Bool type_written x) ≡ true → type_written t ≡ true
of_form x t same h = ap type_written (sym same) ∙ fold-roll-TyExp Bool type_form x ∙ h

pub named_fine : (name : Name) (ts : List TyExp) → FineTypes ts → type_written (V.Named name ts) ≡ true
named_fine name ts h = of_form (X.Named name ts) (V.Named name ts) (V.rolls-Named name ts) h

pub variable_fine : (name : Name) → type_written (V.Variable name) ≡ true
variable_fine name = of_form (X.Variable name) (V.Variable name) (V.rolls-Variable name) refl

pub number_fine : (place : Place) (n : ℤ) → type_written (V.Number place n) ≡ true
number_fine place n = of_form (X.Number place n) (V.Number place n) (V.rolls-Number place n) refl

pub truth_fine : (place : Place) (b : Bool) → type_written (V.Truth place b) ≡ true
truth_fine place b = of_form (X.Truth place b) (V.Truth place b) (V.rolls-Truth place b) refl

pub prefix_fine : (place : Place) (prefix : TypePrefix) (t : TyExp) → type_written t ≡ true → type_written (V.Prefix place prefix t) ≡ true
prefix_fine place prefix t h = of_form (X.Prefix place prefix t) (V.Prefix place prefix t) (V.rolls-Prefix place prefix t) h

pub infix_fine : (place : Place) (operator : TypeOperator) (t u : TyExp) → type_written t ≡ true → type_written u ≡ true
    → type_written (V.Infix place operator t u) ≡ true
infix_fine place operator t u h k =
    of_form (X.Infix place operator t u) (V.Infix place operator t u) (V.rolls-Infix place operator t u) (two (type_written t) (type_written u) h k)

pub one_of_fine : (place : Place) (t : TyExp) (ns : List ℤ) → type_written t ≡ true → type_written (V.OneOf place t ns) ≡ true
one_of_fine place t ns h = of_form (X.OneOf place t ns) (V.OneOf place t ns) (V.rolls-OneOf place t ns) h

pub exists_fine : (place : Place) (names : List Name) (constraint : Option TyExp) (t : TyExp) → maybe_type_written constraint ≡ true → type_written t ≡ true
    → type_written (V.Exists place names constraint t) ≡ true
exists_fine place names None t c h =
    of_form (X.Exists place names None t) (V.Exists place names None t) (V.rolls-Exists place names None t) h
exists_fine place names (Some constraint) t c h =
    of_form (X.Exists place names (Some constraint) t) (V.Exists place names (Some constraint) t) (V.rolls-Exists place names (Some constraint) t)
    (two (type_written constraint) (type_written t) c h)

-- one type in brackets is that type, several are a tuple
pub grouped_fine : (place : Place) (ts : List TyExp) → SomeTypes ts → type_written (grouped_type place ts) ≡ true
grouped_fine place [] h = absurd h
grouped_fine place (t ∷ []) h = h.0
grouped_fine place (t ∷ u ∷ ts) h =
    of_form (X.Tuple place (t ∷ u ∷ ts)) (V.Tuple place (t ∷ u ∷ ts)) (V.rolls-Tuple place (t ∷ u ∷ ts)) (all_types (t ∷ u ∷ ts) h)
