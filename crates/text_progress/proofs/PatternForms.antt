-- Patterns over their parts: as the grammar has them, where their parts are.
use Rattle.std.proofs.Common.{◌≡◌, Bool, true, false, List, [], ◌∷◌, map, refl, ◌∙◌, ap, subst}
use Rattle.std.specs.Prelude.{ℤ}
use Rattle.sail_base.specs.declared.place.Place.{Place}
use Rattle.sail_types.specs.Limits.{is_small}
use Rattle.sail_syntax.specs.declared.name.Name.{Name}
use Rattle.sail_syntax.specs.declared.name.Literal.{Literal}
use Rattle.sail_syntax.specs.declared.words.Brackets.{Brackets}
use Rattle.sail_syntax.specs.declared.words.Brackets.TheVariants as B
use Rattle.sail_syntax.specs.declared.types.TyExp.{TyExp}
use Rattle.sail_syntax.specs.declared.patterns.Pat.{Pat, Pat-F, roll-Pat, out-roll-Pat}
use Rattle.sail_syntax.specs.declared.patterns.Pat.TheOpen as P
use Rattle.sail_syntax.specs.declared.patterns.Pat.TheVariants as V
use Rattle.sail_syntax.specs.declared.patterns.Pat.TheFolds.{fold-Joined, fold-roll-Joined, fold-roll-Pat, map-Pat}
use Rattle.sail_syntax.specs.declared.patterns.Joined.{Joined}
use Rattle.sail_grammar.specs.declared.mode.Mode.{Mode}
use Rattle.sail_grammar.specs.declared.mode.Mode.TheVariants.{Full, Limited}
use Rattle.sail_grammar.specs.PatternTrees.{grouped_pattern, joined}
use Rattle.sail_signatures.specs.Signatures.{annotation, form_annotation}
use Rattle.shape_joins.proofs.Order.{no, two}
use Rattle.shape_meanings.specs.Trees.{group_written, joined_form, literal_written, pattern_form, pattern_written, side_form, side_written}
use Rattle.shape_meanings.specs.Whole.{all_of}
use Rattle.known_texts.specs.Written.{maybe_type_written, type_written}

abbrev pub joined_written : Joined → Bool
joined_written = fold-Joined Bool Bool pattern_form joined_form

abbrev pub joined_side : Joined → Bool
joined_side = fold-Joined Bool Bool side_form joined_form

-- a pattern as the grammar has it, with the type that is written at it; a limited one can be a side of a mapping
pub record FinePattern (m : Mode) (p : Pat) : Type 0 where
  pub is_written : pattern_written p ≡ true
  pub typed : maybe_type_written (annotation p) ≡ true
  pub side : m ≡ Limited → side_written p ≡ true

pub record FinePatterns (m : Mode) (ps : List Pat) : Type 0 where
  pub are_written : all_of (map pattern_written ps) ≡ true
  pub typed : all_of (map (λ p. maybe_type_written (annotation p)) ps) ≡ true
  pub sides : m ≡ Limited → all_of (map side_written ps) ≡ true

pub record FineJoined (m : Mode) (ps : List Joined) : Type 0 where
  pub are_written : all_of (map joined_written ps) ≡ true
  pub sides : m ≡ Limited → all_of (map joined_side ps) ≡ true

-- ---- lists

pub no_patterns : (m : Mode) → FinePatterns m []
no_patterns m = record { are_written = refl; typed = refl; sides = λ e. refl }

pub more_patterns : (m : Mode) (p : Pat) (ps : List Pat) → FinePattern m p → FinePatterns m ps → FinePatterns m (p ∷ ps)
more_patterns m p ps h k = record {
  are_written = two _ _ h.is_written k.are_written;
  typed = two _ _ h.typed k.typed;
  sides = λ e. two _ _ (h.side e) (k.sides e);
}

pub no_joined : (m : Mode) → FineJoined m []
no_joined m = record { are_written = refl; sides = λ e. refl }

pub more_joined : (m : Mode) (place : Place) (p : Pat) (ps : List Joined) → FinePattern m p → FineJoined m ps → FineJoined m (joined place p ∷ ps)
more_joined m place p ps h k = record {
  are_written = two _ _ (fold-roll-Joined Bool Bool pattern_form joined_form (record { place = place; part = p }) ∙ h.is_written) k.are_written;
  sides = λ e. two _ _ (fold-roll-Joined Bool Bool side_form joined_form (record { place = place; part = p }) ∙ h.side e) (k.sides e);
}

-- ---- forms

-- a pattern of this form
of_form : (m : Mode) (x : Pat-F Pat Joined) (p : Pat) → roll-Pat x ≡ p
    → pattern_form (map-Pat Pat Joined Bool Bool pattern_written joined_written x) ≡ true → maybe_type_written (form_annotation x) ≡ true
    → (m ≡ Limited → side_form (map-Pat Pat Joined Bool Bool side_written joined_side x) ≡ true) → FinePattern m p
of_form m x p same h k s = subst (FinePattern m) same (record {
  is_written = fold-roll-Pat Bool Bool pattern_form joined_form x ∙ h;
  typed = ap (λ y. maybe_type_written (form_annotation y)) (out-roll-Pat x) ∙ k;
  side = λ e. fold-roll-Pat Bool Bool side_form joined_form x ∙ s e;
})

abbrev is_limited : Mode → Bool
is_limited Full = false
is_limited Limited = true

not_limited : {A : Type 0} → Full ≡ Limited → A
not_limited e = no (ap is_limited e)

pub wildcard_fine : (place : Place) → FinePattern Full (V.Wildcard place)
wildcard_fine place = of_form Full (P.Wildcard place) (V.Wildcard place) (V.rolls-Wildcard place) refl refl (λ e. not_limited e)

pub constant_fine : (m : Mode) (place : Place) (literal : Literal) → literal_written literal ≡ true → FinePattern m (V.Constant place literal)
constant_fine m place literal h =
    of_form m (P.Constant place literal) (V.Constant place literal) (V.rolls-Constant place literal) h refl (λ e. h)

pub negative_fine : (m : Mode) (place : Place) (n : ℤ) → is_small n ≡ true → FinePattern m (V.Negative place n)
negative_fine m place n h = of_form m (P.Negative place n) (V.Negative place n) (V.rolls-Negative place n) h refl (λ e. h)

pub bind_fine : (m : Mode) (name : Name) → FinePattern m (V.Bind name)
bind_fine m name = of_form m (P.Bind name) (V.Bind name) (V.rolls-Bind name) refl refl (λ e. refl)

pub construct_fine : (m : Mode) (name : Name) (ps : List Pat) → FinePatterns m ps → FinePattern m (V.Construct name ps)
construct_fine m name ps h = of_form m (P.Construct name ps) (V.Construct name ps) (V.rolls-Construct name ps) h.are_written refl h.sides

group_fine : (m : Mode) (place : Place) (brackets : Brackets) (ps : List Pat) → group_written brackets (map pattern_written ps) ≡ true
    → (m ≡ Limited → group_written brackets (map side_written ps) ≡ true) → FinePattern m (V.Group place brackets ps)
group_fine m place brackets ps h s =
    of_form m (P.Group place brackets ps) (V.Group place brackets ps) (V.rolls-Group place brackets ps) h refl s

pub vector_fine : (m : Mode) (place : Place) (ps : List Pat) → FinePatterns m ps → FinePattern m (V.Group place B.Vector ps)
vector_fine m place ps h = group_fine m place B.Vector ps h.are_written h.sides

pub list_fine : (m : Mode) (place : Place) (ps : List Pat) → FinePatterns m ps → FinePattern m (V.Group place B.List ps)
list_fine m place ps h = group_fine m place B.List ps h.are_written h.sides

-- the only one of some patterns
only_one : (m : Mode) (p : Pat) → FinePatterns m (p ∷ []) → FinePattern m p
only_one m p h = record { is_written = alone _ h.are_written; typed = alone _ h.typed; side = λ e. alone _ (h.sides e) }
  where
    alone : (b : Bool) → all_of (b ∷ []) ≡ true → b ≡ true
    alone true e = refl
    alone false e = e

-- one pattern in brackets is that pattern, none or several are a tuple
pub grouped_fine : (m : Mode) (place : Place) (ps : List Pat) → FinePatterns m ps → FinePattern m (grouped_pattern place ps)
grouped_fine m place [] h = group_fine m place B.Tuple [] refl (λ e. refl)
grouped_fine m place (p ∷ []) h = only_one m p h
grouped_fine m place (p ∷ q ∷ ps) h = group_fine m place B.Tuple (p ∷ q ∷ ps) h.are_written h.sides

pub concat_fine : (m : Mode) (place : Place) (p q : Pat) (more : List Joined) → FinePattern m p → FinePattern m q → FineJoined m more
    → FinePattern m (V.Concat place p q more)
concat_fine m place p q more h k js =
    of_form m (P.Concat place p q more) (V.Concat place p q more) (V.rolls-Concat place p q more)
    (two _ _ (two _ _ h.is_written k.is_written) js.are_written) refl (λ e. two _ _ (two _ _ (h.side e) (k.side e)) (js.sides e))

pub cons_fine : (m : Mode) (place : Place) (p q : Pat) → FinePattern m p → FinePattern m q → FinePattern m (V.Cons place p q)
cons_fine m place p q h k =
    of_form m (P.Cons place p q) (V.Cons place p q) (V.rolls-Cons place p q) (two _ _ h.is_written k.is_written) refl
    (λ e. two _ _ (h.side e) (k.side e))

pub as_fine : (place : Place) (p : Pat) (name : Name) → FinePattern Full p → FinePattern Full (V.As place p name)
as_fine place p name h = of_form Full (P.As place p name) (V.As place p name) (V.rolls-As place p name) h.is_written refl (λ e. not_limited e)

pub typed_fine : (m : Mode) (place : Place) (p : Pat) (typ : TyExp) → FinePattern m p → type_written typ ≡ true → FinePattern m (V.Typed place p typ)
typed_fine m place p typ h k = of_form m (P.Typed place p typ) (V.Typed place p typ) (V.rolls-Typed place p typ) h.is_written k h.side
