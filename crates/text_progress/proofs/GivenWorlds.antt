-- In the world of a text's function type variables stand for what values of its parameters tell; nothing stands for any elsewhere.
use Rattle.std.proofs.Common.{◌≡◌, ℕ, ◌+◌, ◌<◌, List, [], ◌∷◌, ◌++◌, map, length, ap, sym, ◌∙◌, refl, Bool, true, Option, Some, None}
use Rattle.std.specs.List.{list_any}
use Rattle.sail_syntax.specs.declared.definitions.Def.{Def}
use Rattle.sail_syntax.specs.declared.definitions.Def.TheVariants as D
use Rattle.sail_types.specs.declared.numbers.Num.{Num}
use Rattle.sail_types.specs.declared.types.Typ.{Typ}
use Rattle.sail_types.specs.declared.values.Value.{Value}
use Rattle.type_arguments.proofs.Makings.{then_parts}
use Rattle.sail_base.specs.declared.kind.Kind.TheVariants as K
use Rattle.sail_syntax.specs.declared.types.TyExp.{TyExp}
use Rattle.sail_kinds.specs.Normal.{reading_as}
use Rattle.sail_kinds.specs.Repeated.{clashes}
use Rattle.sail_kinds.specs.Scopes.{Within}
use Rattle.sail_kinds.specs.declared.scope.Variable.{Variable}
use Rattle.type_definitions.specs.Defined.{Types, names_of, types_of, under}
use Rattle.sail_names.specs.Known as Tables
use Rattle.sail_names.specs.Known.{Known}
use Rattle.sail_signatures.specs.declared.signature.Signature.{Signature}
use Rattle.sail_signatures.specs.Signatures.{part_failures, typ_read}
use Rattle.sail_bodies.specs.Bodies.{body_failures, body_failures_from}
use Rattle.sail_tables.specs.Refused.{signature_in}
use Rattle.known_names.specs.Meanings.{known_in}
use Rattle.sail_core.specs.Making.{World}
use Rattle.sail_core.specs.Numbers.{Givens, givens_of}
use Rattle.shape_joins.proofs.JoinsLeast.{none}
use Rattle.shape_rules.specs.declared.callees.Mapping.{Mapping}
use Rattle.shape_rules.specs.declared.callees.Meant.{Meant}
use Rattle.shape_rules.specs.declared.callees.Meant.TheVariants as M
use Rattle.shape_rules.specs.declared.error.ShapeError.{ShapeError}
use Rattle.shape_rules.specs.Calls.{parameters_of}
use Rattle.shape_rules.specs.Patterns.{Which, backwards, construct_width, direction_of, direction_width, either, forwards, neither, opposite, side_width}
use Rattle.shape_rules.specs.Patterns.{which_side, width_of}
use Rattle.shape_rules.specs.Scopes.{Setting}
use Rattle.shape_rules.specs.Written.{joined, tells_number}
use Rattle.shape_rules.proofs.Firsts.{none_failed}
use Rattle.sail_types.specs.declared.shapes.Shape.{Shape}
use Rattle.sail_types.specs.declared.shapes.Shape.TheVariants as V
use Rattle.shape_declarations.specs.Failures.{types_faults}
use Rattle.shape_declarations.specs.Signatures.{number_parameters}
use Rattle.shape_clauses.specs.Functions.{called_faults}
use Rattle.shape_clauses.specs.Mappings.{mapping_faults}
use Rattle.shape_models.specs.Models.{overloads_faults, setting_of}
use Rattle.shapes.specs.Failures.{all_faults, all_lets, lets_faults, others_faults, own_in, refusal, state_faults}
use Rattle.shapes.specs.Tabled.{tabled_of}
use Rattle.known_texts.specs.Accepted.{NothingFails}
use Rattle.known_texts.specs.Written.{IsWritten}
use Rattle.shape_progress.specs.Conditions.{given_in}
use Rattle.shape_stands.specs.Inside.{Position}
use Rattle.text_progress.specs.GivenTypes.{SidesGiven, typ_given}
use Rattle.text_progress.specs.Positions.{Given, in_body}
use Rattle.text_progress.proofs.Given.{number_there, parameters_kinded, scope_given, stand_ins, truth_there, typ_there, width_given}
use Rattle.text_progress.proofs.SideTypes.{sides_are_given}
use Rattle.text_progress.proofs.TextsGiven.{ScopeGiven}
use Rattle.text_progress.proofs.Told.{ValsAreOnce, both_none, same_count, same_typ, signature_tells, signed_kinded}

-- ---- under no variable

pub none_bound : (nu : Givens) → ScopeGiven nu []
none_bound nu name found e = none e

-- ---- widths of what is matched as a part of a word

side_given : (nu : Givens) (m : Mapping) (n : Num) → typ_given nu m.left ≡ true → typ_given nu m.right ≡ true → (side : Which) → side_width m side ≡ Some n
    → given_in nu n ≡ true
side_given nu m n left right forwards e = width_given nu m.left n left e
side_given nu m n left right backwards e = width_given nu m.right n right e
side_given nu m n left right neither e = none e
side_given nu m n left right either e = none e

direction_given : (nu : Givens) (setting : Setting) (n : Num) → ((d : ℕ) (t : Typ) → setting.given_by d ≡ Some t → typ_given nu t ≡ true)
    → (o : Option ℕ) → direction_width setting o ≡ Some n → given_in nu n ≡ true
direction_given nu setting n gives None e = none e
direction_given nu setting n gives (Some d) e =
    let t = then_parts (setting.given_by (opposite d)) width_of n e in width_given nu t.0 n (gives (opposite d) t.0 t.1) t.2

head_given : (nu : Givens) (setting : Setting) (meant : Option Meant) (n : Num)
    → ((m : Mapping) → meant ≡ Some (M.Mapping m) → (typ_given nu m.left ≡ true) × (typ_given nu m.right ≡ true))
    → ((d : ℕ) (t : Typ) → setting.given_by d ≡ Some t → typ_given nu t ≡ true) → construct_width setting meant ≡ Some n → given_in nu n ≡ true
head_given nu setting (Some (M.Mapping m)) n sides gives e =
    let own = sides m refl in side_given nu m n own.0 own.1 (which_side m V.Bits) e
head_given nu setting (Some (M.Callee f)) n sides gives e = direction_given nu setting n gives (direction_of f.doing) e
head_given nu setting meant n sides gives e = none e

-- what can be named of numbers where type variables stand for such
pub given_there : (here : Position) (w : World Value) → ScopeGiven w.numbers here.setting.within.variables → SidesGiven here w.numbers → Given here w
given_there here w scope sides = record {
  numbers = λ typ n fine e. number_there w.numbers here.setting.within scope typ n e;
  constraints = λ typ c fine e. truth_there w.numbers here.setting.within scope typ c e;
  widths = λ typ t n fine e is. width_given w.numbers t n (typ_there w.numbers here.setting.within scope typ t e).0 is;
  head_widths = λ name n is e.
      head_given w.numbers here.setting (here.setting.value name) n (λ m same. sides.mappings name m same) (λ d t gives. sides.directions d t gives) e;
}

-- ---- functions

-- in the world of a call
pub function_scope : (text : List Def) (name : List ℕ) (s : Signature) → signature_in text name ≡ Some s → (args : List Value) (nu : Givens)
    → givens_of (length (number_parameters s.variables)) (parameters_of s.from) args ≡ Some nu → ScopeGiven nu s.variables
function_scope text name s e args nu gave =
    scope_given s.variables (parameters_of s.from) args nu
    (parameters_kinded (stand_ins s.variables) s.from (signed_kinded (types_of text).named text name s e).0)
    (ap (λ n. givens_of n (parameters_of s.from) args) (sym (same_count s.variables)) ∙ gave)

-- ---- of a text in which no failure is found

vals_once_from : (text : List Def) (known : Known) (types : Types) (at : ℕ) (rest : List Def) → body_failures_from text known types at rest ≡ []
    → ValsAreOnce rest
vals_once_from text known types at [] e = tt
vals_once_from text known types at ((D.Val place own quantifier from arrow to) ∷ rest) e =
    let k = both_none (body_failures text known types at (D.Val place own quantifier from arrow to)) (body_failures_from text known types (at + 1) rest) e in (
      (both_none (clashes (names_of quantifier.variables)) (part_failures (under types.named quantifier.variables) quantifier from to) k.0).0,
      vals_once_from text known types (at + 1) rest k.1,
    )
vals_once_from text known types at (d ∷ rest) e =
    vals_once_from text known types (at + 1) rest
    (both_none (body_failures text known types at d) (body_failures_from text known types (at + 1) rest) e).1

pub vals_once : (text : List Def) → NothingFails text → ValsAreOnce text
vals_once text clear = vals_once_from text (known_in text) (types_of text) 0 text clear.bodies

types_fine : (text : List Def) → refusal (tabled_of text) text ≡ None → types_faults (tabled_of text) text ≡ []
types_fine text kept =
    let own = own_in (tabled_of text) text in
    let lets = all_lets (tabled_of text) text in
    let called : List ShapeError = joined (map (called_faults (tabled_of text) (setting_of (tabled_of text) own text lets)) text) in
    let mapped : List ShapeError = joined (map (mapping_faults (tabled_of text) (setting_of (tabled_of text) own text lets [])) text) in
    let state : List ShapeError = joined (map (state_faults (setting_of (tabled_of text) own text lets [])) text) in
    let all = both_none (overloads_faults (tabled_of text).types own text ++ lets_faults (tabled_of text) own text [] text)
    (others_faults (tabled_of text) own text lets) (none_failed (all_faults (tabled_of text) text) kept) in
    let k = both_none ((types_faults (tabled_of text) text ++ called) ++ mapped) state all.1 in
    let l = both_none (types_faults (tabled_of text) text ++ called) mapped k.0 in
    (both_none (types_faults (tabled_of text) text) called l.0).0

-- values of a function's parameters tell each of its Int and Bool variables
pub function_tells : (text : List Def) → NothingFails text → refusal (tabled_of text) text ≡ None → (name : List ℕ) (s : Signature)
    → signature_in text name ≡ Some s → (j : ℕ) → j < length (number_parameters s.variables)
    → list_any (tells_number j) (parameters_of s.from) ≡ true
function_tells text clear kept name s e j low =
    signature_tells (tabled_of text) text (types_fine text kept) (vals_once text clear) name s e j low

-- what a text can name of numbers in a function's clauses is told by what the function is called with
module _ (text : List Def) (clear : NothingFails text) (kept : refusal (tabled_of text) text ≡ None) (is_written : IsWritten text) where
  pub reads : (nu : Givens) (typ : TyExp) (t : Typ) → typ_read (under (types_of text).named []) typ ≡ Some t → typ_given nu t ≡ true
  reads nu typ t e =
      let w : Within = under (types_of text).named [] in
      (typ_there nu w (none_bound nu) typ t (sym (same_typ (reading_as K.Type typ w).normal) ∙ e)).0

  pub body_sides : (nu : Givens) (answer : Option Shape) (names : Tables.Setting) (converts : ℕ → Bool)
      → SidesGiven (in_body text [] answer names converts) nu
  body_sides nu answer names converts = sides_are_given text clear kept is_written nu (reads nu) answer names converts

  pub body_given : (variables : List Variable) (answer : Option Shape) (names : Tables.Setting) (converts : ℕ → Bool) (w : World Value)
      → ScopeGiven w.numbers variables → Given (in_body text variables answer names converts) w
  body_given variables answer names converts w scope =
      let here : Position = in_body text variables answer names converts in
      let sides = body_sides w.numbers answer names converts in
      given_there here w scope (record {
        typs = λ typ t fine e. (typ_there w.numbers here.setting.within scope typ t e).0;
        mappings = sides.mappings;
        directions = sides.directions;
      })

  -- in the clauses of a function, called with such
  pub function_given : (name : List ℕ) (s : Signature) → signature_in text name ≡ Some s → (answer : Option Shape) (names : Tables.Setting)
      → (converts : ℕ → Bool) (w : World Value)
      → givens_of (length (number_parameters s.variables)) (parameters_of s.from) w.arguments ≡ Some w.numbers
      → Given (in_body text s.variables answer names converts) w
  function_given name s e answer names converts w gave =
      body_given s.variables answer names converts w (function_scope text name s e w.arguments w.numbers gave)

  -- and where no variable is bound
  pub plain_given : (answer : Option Shape) (names : Tables.Setting) (converts : ℕ → Bool) (w : World Value)
      → Given (in_body text [] answer names converts) w
  plain_given answer names converts w = body_given [] answer names converts w (none_bound w.numbers)
