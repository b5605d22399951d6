-- Constraints of functions name their own variables, each by its kind: so it is of what is written under type variables.
use Rattle.std.proofs.Common.{◌≡◌, ◌∙◌, sym, refl, subst, ℕ, zero, suc, Bool, true, ◌&&◌, List, [], ◌∷◌, Option, Some, None, slice_get}
use Rattle.std.proofs.Common.{if◌then◌else◌}
use Rattle.std.specs.List.{list_all}
use Rattle.sail_base.specs.declared.kind.Kind.{Kind}
use Rattle.sail_base.specs.declared.kind.Kind.TheVariants as K
use Rattle.sail_types.specs.Sums.{and_then}
use Rattle.sail_types.specs.declared.numbers.Atom.TheOpen as N
use Rattle.sail_types.specs.declared.numbers.Atom.TheOpen.{Atom-F}
use Rattle.sail_types.specs.declared.numbers.Atom.TheFolds.{fold-Num}
use Rattle.sail_types.specs.declared.numbers.Con.{Con, Con-F, fold-Con}
use Rattle.sail_types.specs.declared.numbers.Con.TheOpen as C
use Rattle.sail_types.specs.declared.numbers.Con.TheVariants as V
use Rattle.sail_types.specs.declared.numbers.Num.{Num}
use Rattle.sail_types.specs.declared.table.Parameter.{Parameter}
use Rattle.sail_types.specs.declared.types.Typ.{Typ}
use Rattle.sail_syntax.specs.declared.types.TyExp.{TyExp}
use Rattle.sail_syntax.specs.declared.definitions.Def.{Def}
use Rattle.sail_syntax.specs.declared.definitions.Def.TheVariants as D
use Rattle.sail_syntax.specs.declared.definitions.FunctionClause.{FunctionClause}
use Rattle.sail_syntax.specs.declared.definitions.Sides.{Sides}
use Rattle.sail_syntax.specs.declared.words.Extent.{Extent}
use Rattle.sail_syntax.specs.declared.words.Extent.TheVariants as E
use Rattle.type_arguments.specs.declared.normal.Normal.{Normal}
use Rattle.sail_kinds.specs.Normal.{reading_as}
use Rattle.sail_kinds.specs.Scopes.{Within}
use Rattle.sail_kinds.specs.declared.scope.Variable.{Variable}
use Rattle.type_definitions.specs.Defined.{under, variables_of}
use Rattle.sail_signatures.specs.Signatures.{Named, body_signature, clause_signature, constraint_if, constraint_read, definition_signature}
use Rattle.sail_signatures.specs.Signatures.{maybe_sides_signature, signature_if, signature_of}
use Rattle.sail_signatures.specs.declared.signature.Signature.{Signature}
use Rattle.sail_core.specs.Numbers.{Givens, given_bool, given_int}
use Rattle.shape_joins.proofs.JoinsLeast.{none, some_same}
use Rattle.shape_declarations.specs.Signatures.{number_parameters}
use Rattle.shape_models.specs.Models.{is_type_variable}
use Rattle.shape_progress.specs.Conditions.{atom_given, con_given, given_in, is_there, truth_given}
use Rattle.text_progress.proofs.Given.{own_scope, stand_ins}
use Rattle.text_progress.proofs.KindedTypes.{truth_is}
use Rattle.text_progress.proofs.TextsGiven.{IsGiven, ScopeGiven, behind_kind, text_given, truth_taken}
use Rattle.whole_runs.specs.Own.{atom_owns, form_owns, is_integer, is_own, is_truth, kind_at, number_own}

-- ---- numbers and truths among type variables are a function's own variables

abbrev named_kind : List ℕ → Kind → Parameter
named_kind name kind = record { name = name; kind = kind }

abbrev Integers : List Parameter → Givens → Type 0
Integers ps nu = (i : ℕ) → is_there (given_int (slice_get nu i)) ≡ is_integer (kind_at ps i)

abbrev Truths : List Parameter → Givens → Type 0
Truths ps nu = (i : ℕ) → is_there (given_bool (slice_get nu i)) ≡ is_truth (kind_at ps i)

integers_behind : (kind : Kind) (name : List ℕ) (ps : List Parameter) (nu : Givens) → Integers ps nu
    → Integers (if is_type_variable kind then ps else named_kind name kind ∷ ps) (behind_kind kind nu)
integers_behind K.Type name ps nu h i = h i
integers_behind K.Int name ps nu h zero = refl
integers_behind K.Int name ps nu h (suc i) = h i
integers_behind K.Bool name ps nu h zero = refl
integers_behind K.Bool name ps nu h (suc i) = h i

truths_behind : (kind : Kind) (name : List ℕ) (ps : List Parameter) (nu : Givens) → Truths ps nu
    → Truths (if is_type_variable kind then ps else named_kind name kind ∷ ps) (behind_kind kind nu)
truths_behind K.Type name ps nu h i = h i
truths_behind K.Int name ps nu h zero = refl
truths_behind K.Int name ps nu h (suc i) = h i
truths_behind K.Bool name ps nu h zero = refl
truths_behind K.Bool name ps nu h (suc i) = h i

own_integers : (vs : List Variable) → Integers (number_parameters vs) (stand_ins vs)
own_integers [] i = refl
own_integers (v ∷ vs) i = integers_behind v.kind v.name (number_parameters vs) (stand_ins vs) (own_integers vs) i

own_truths : (vs : List Variable) → Truths (number_parameters vs) (stand_ins vs)
own_truths [] i = refl
own_truths (v ∷ vs) i = truths_behind v.kind v.name (number_parameters vs) (stand_ins vs) (own_truths vs) i

module _ (ps : List Parameter) (nu : Givens) (ints : Integers ps nu) (bools : Truths ps nu) where
  atom_same : (x : Atom-F Bool Bool Bool) → atom_given nu x ≡ atom_owns ps x
  atom_same (N.Variable i) = ints i
  atom_same (N.Power t) = refl

  number_same : (n : Num) → given_in nu n ≡ number_own ps n
  number_same n = λ j. fold-Num Bool Bool Bool (λ x. atom_same x j) (λ s. list_all (λ b. b) s.terms) (λ t. t.atom) n

  form_same : (x : Con-F Bool) → con_given nu x ≡ form_owns ps x
  form_same (C.Truth b) = refl
  form_same (C.Holds i) = bools i
  form_same (C.Compare how t u) = λ j. number_same t j && number_same u j
  form_same (C.OneOf t zs) = number_same t
  form_same (C.Not b) = refl
  form_same (C.All bs) = refl
  form_same (C.Any bs) = refl

  own_same : (c : Con) → truth_given nu c ≡ is_own ps c
  own_same c = λ j. fold-Con Bool (λ x. form_same x j) c

-- ---- signatures

abbrev IsOwn : Signature → Type 0
IsOwn s = truth_given (stand_ins s.variables) s.constraint ≡ true

taken : (nu : Givens) (o : Option Normal) → IsGiven nu o → (c : Con) → constraint_if o ≡ Some c → truth_given nu c ≡ true
taken nu None h c e = none e
taken nu (Some n) h c e = truth_taken nu n c (h n refl) e

constraint_given : (nu : Givens) (w : Within) → ScopeGiven nu w.variables → (o : Option TyExp) (c : Con) → constraint_read w o ≡ Some c
    → truth_given nu c ≡ true
constraint_given nu w scope None c e = subst (λ x. truth_given nu x ≡ true) (some_same (V.Truth true) c e) (truth_is nu true)
constraint_given nu w scope (Some text) c e = taken nu (reading_as K.Bool text w).normal (text_given K.Bool text nu w scope) c e

signed_if : (variables : List Variable) (con : Option Con) (from to : Option Typ) (s : Signature)
    → ((c : Con) → con ≡ Some c → truth_given (stand_ins variables) c ≡ true) → signature_if variables con from to ≡ Some s → IsOwn s
signed_if variables (Some c) (Some from) (Some to) s h e =
    subst IsOwn (some_same (record { variables = variables; constraint = c; from = from; to = to }) s e) (h c refl)
signed_if variables None from to s h e = none e
signed_if variables (Some c) None to s h e = none e
signed_if variables (Some c) (Some from) None s h e = none e

plain_own : (c : Con) → Some (V.Truth true) ≡ Some c → truth_given [] c ≡ true
plain_own c e = subst (λ x. truth_given [] x ≡ true) (some_same (V.Truth true) c e) (truth_is [] true)

clause_own : (named : Named) (c : FunctionClause) (s : Signature) → clause_signature named c ≡ Some s → IsOwn s
clause_own named c s e = signed_if [] (Some (V.Truth true)) _ _ s plain_own e

body_own : (named : Named) (extent : Extent) (cs : List FunctionClause) (s : Signature) → body_signature named extent cs ≡ Some s → IsOwn s
body_own named E.Whole [] s e = none e
body_own named E.Whole (c ∷ cs) s e = clause_own named c s e
body_own named E.Gathered cs s e = none e

sides_own : (named : Named) (sides : Option Sides) (s : Signature) → maybe_sides_signature named sides ≡ Some s → IsOwn s
sides_own named None s e = none e
sides_own named (Some sides) s e = signed_if [] (Some (V.Truth true)) _ _ s plain_own e

definition_own : (named : Named) (d : Def) (s : Signature) → definition_signature named d ≡ Some s → IsOwn s
definition_own named (D.Val place own quantifier from arrow to) s e =
    let w : Within = under named quantifier.variables in
    signed_if (variables_of quantifier.variables) (constraint_read w quantifier.constraint) _ _ s
    (λ c k. constraint_given (stand_ins (variables_of quantifier.variables)) w (own_scope (variables_of quantifier.variables)) quantifier.constraint c k) e
definition_own named (D.Function place extent own cs) s e = body_own named extent cs s e
definition_own named (D.Mapping place own sides cs) s e = sides_own named sides s e
definition_own named d s e = none e

found_own : (named : Named) (o : Option Def) (s : Signature) → and_then o (definition_signature named) ≡ Some s → IsOwn s
found_own named None s e = none e
found_own named (Some d) s e = definition_own named d s e

pub signature_own : (named : Named) (text : List Def) (name : List ℕ) (s : Signature) → signature_of named text name ≡ Some s
    → is_own (number_parameters s.variables) s.constraint ≡ true
signature_own named text name s e =
    sym (own_same (number_parameters s.variables) (stand_ins s.variables) (own_integers s.variables) (own_truths s.variables) s.constraint)
    ∙ found_own named _ s e
