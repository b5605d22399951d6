-- The constraint of a signature uses each type variable as what it stands for.
use Rattle.std.proofs.Common.{◌≡◌, ℕ, List, [], ◌∷◌, map, sym, ◌∙◌, refl, subst, true, find, option_map}
use Rattle.std.specs.Prelude.{Option, Some, None}
use Rattle.std.specs.Option.{option_or}
use Rattle.sail_base.specs.declared.kind.Kind.TheVariants as K
use Rattle.sail_syntax.specs.declared.definitions.Def.{Def}
use Rattle.sail_syntax.specs.declared.definitions.Def.TheVariants as D
use Rattle.sail_syntax.specs.declared.definitions.FunctionClause.{FunctionClause}
use Rattle.sail_syntax.specs.declared.definitions.Sides.{Sides}
use Rattle.sail_syntax.specs.declared.types.TyExp.{TyExp}
use Rattle.sail_syntax.specs.declared.words.Extent.{Extent}
use Rattle.sail_syntax.specs.declared.words.Extent.TheVariants as E
use Rattle.sail_types.specs.Readings.{together}
use Rattle.sail_types.specs.Sums.{and_then}
use Rattle.sail_types.specs.declared.numbers.Con.{Con}
use Rattle.sail_types.specs.declared.numbers.Con.TheVariants as C
use Rattle.sail_types.specs.declared.types.Typ.{Typ}
use Rattle.type_arguments.specs.Taken.{constraint_of}
use Rattle.type_arguments.specs.declared.normal.Normal.{Normal}
use Rattle.sail_kinds.specs.declared.scope.Variable.{Variable}
use Rattle.sail_kinds.specs.Normal.{reading_as}
use Rattle.sail_kinds.specs.Scopes.{Within}
use Rattle.type_definitions.specs.Defined.{under, variables_of}
use Rattle.sail_signatures.specs.declared.signature.Signature.{Signature}
use Rattle.sail_signatures.specs.Signatures.{Named, body_signature, clause_signature, constraint_if, constraint_read, definition_signature, is_body_of}
use Rattle.sail_signatures.specs.Signatures.{is_val_of, maybe_sides_signature, signature_if, signature_of, taken_together, typ_annotated, typ_read}
use Rattle.sail_signatures.specs.Signatures.{typ_written}
use Rattle.sail_core.specs.Numbers.{Givens}
use Rattle.shape_joins.proofs.JoinsLeast.{none, some_same}
use Rattle.shape_progress.specs.Conditions.{truth_given}
use Rattle.text_progress.proofs.Given.{own_scope, stand_ins, truth_there}
use Rattle.text_progress.proofs.KindedTypes.{truth_is}
use Rattle.text_progress.proofs.TextsGiven.{ScopeGiven}

same_constraint : (o : Option Normal) → constraint_if o ≡ and_then o constraint_of
same_constraint None = refl
same_constraint (Some n) = refl

-- where none is written it is true
constraint_kinded : (nu : Givens) (w : Within) → ScopeGiven nu w.variables → (o : Option TyExp) (c : Con) → constraint_read w o ≡ Some c
    → truth_given nu c ≡ true
constraint_kinded nu w scope None c e = subst (λ k. truth_given nu k ≡ true) (some_same (C.Truth true) c e) (truth_is nu true)
constraint_kinded nu w scope (Some text) c e = truth_there nu w scope text c (sym (same_constraint (reading_as K.Bool text w).normal) ∙ e)

abbrev IsKinded : Signature → Type 0
IsKinded s = truth_given (stand_ins s.variables) s.constraint ≡ true

signed_if : (variables : List Variable) (c : Option Con) (from to : Option Typ) (s : Signature)
    → ((k : Con) → c ≡ Some k → truth_given (stand_ins variables) k ≡ true) → signature_if variables c from to ≡ Some s → IsKinded s
signed_if variables None from to s h e = none e
signed_if variables (Some c) None to s h e = none e
signed_if variables (Some c) (Some f) None s h e = none e
signed_if variables (Some c) (Some f) (Some t) s h e =
    subst IsKinded (some_same (record { variables = variables; constraint = c; from = f; to = t }) s e) (h c refl)

-- of a function that no `val` declares, and of a mapping
true_alone : (k : Con) → Some (C.Truth true) ≡ Some k → truth_given [] k ≡ true
true_alone k e = subst (λ c. truth_given [] c ≡ true) (some_same (C.Truth true) k e) (truth_is [] true)

clause_kinded : (named : Named) (c : FunctionClause) (s : Signature) → clause_signature named c ≡ Some s → IsKinded s
clause_kinded named c s e =
    signed_if [] (Some (C.Truth true)) (option_map taken_together (together (map (typ_annotated (under named [])) c.parameters)))
    (typ_written (under named []) c.result) s true_alone e

body_kinded : (named : Named) (extent : Extent) (cs : List FunctionClause) (s : Signature) → body_signature named extent cs ≡ Some s → IsKinded s
body_kinded named E.Whole [] s e = none e
body_kinded named E.Whole (c ∷ cs) s e = clause_kinded named c s e
body_kinded named E.Gathered cs s e = none e

sides_kinded : (named : Named) (sides : Option Sides) (s : Signature) → maybe_sides_signature named sides ≡ Some s → IsKinded s
sides_kinded named None s e = none e
sides_kinded named (Some sides) s e =
    signed_if [] (Some (C.Truth true)) (typ_read (under named []) sides.left) (typ_read (under named []) sides.right) s true_alone e

definition_kinded : (named : Named) (d : Def) (s : Signature) → definition_signature named d ≡ Some s → IsKinded s
definition_kinded named (D.Val place own quantifier from arrow to) s e =
    let w : Within = under named quantifier.variables in
    signed_if (variables_of quantifier.variables) (constraint_read w quantifier.constraint) (typ_read w from) (typ_read w to) s
    (constraint_kinded (stand_ins (variables_of quantifier.variables)) w (own_scope (variables_of quantifier.variables)) quantifier.constraint) e
definition_kinded named (D.Function place extent own cs) s e = body_kinded named extent cs s e
definition_kinded named (D.Mapping place own sides cs) s e = sides_kinded named sides s e
definition_kinded named d s e = none e

found_kinded : (named : Named) (o : Option Def) (s : Signature) → and_then o (definition_signature named) ≡ Some s → IsKinded s
found_kinded named None s e = none e
found_kinded named (Some d) s e = definition_kinded named d s e

pub constraint_is_kinded : (named : Named) (text : List Def) (name : List ℕ) (s : Signature) → signature_of named text name ≡ Some s
    → truth_given (stand_ins s.variables) s.constraint ≡ true
constraint_is_kinded named text name s e = found_kinded named (option_or (find (is_val_of name) text) (find (is_body_of name) text)) s e
