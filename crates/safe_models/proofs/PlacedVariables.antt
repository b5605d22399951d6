-- The variables of the functions of an accepted text.
use Rattle.std.proofs.Common.{◌≡◌, ◌≤◌, ◌<◌, ◌+◌, ℕ, suc, List, [], ◌∷◌, map, length, ap, sym, ◌∙◌, refl, subst, Bool, true, false, arith}
use Rattle.std.proofs.Common.{if◌then◌else◌}
use Rattle.std.specs.Prelude.{Option, Some, None}
use Rattle.sail_base.specs.declared.kind.Kind.{Kind}
use Rattle.sail_base.specs.declared.kind.Kind.TheVariants as K
use Rattle.sail_syntax.specs.declared.definitions.Def.{Def}
use Rattle.sail_types.specs.Places.{Given, a_bool, an_int}
use Rattle.sail_types.specs.declared.table.Parameter.{Parameter}
use Rattle.sail_types.specs.declared.types.Typ.{Typ}
use Rattle.sail_kinds.specs.declared.scope.Variable.{Variable}
use Rattle.sail_signatures.specs.declared.signature.Signature.{Signature}
use Rattle.sail_tables.specs.Refused.{signature_in}
use Rattle.sail_core.specs.Numbers.{Givens}
use Rattle.type_definitions.specs.Defined.{types_of}
use Rattle.shape_joins.proofs.Order.{no}
use Rattle.shape_rules.specs.Calls.{parameters_of}
use Rattle.shape_models.specs.Models.{is_type_variable}
use Rattle.shape_declarations.specs.Signatures.{number_parameter, number_parameters}
use Rattle.shapes.specs.Failures.{refusal}
use Rattle.shapes.specs.Tabled.{tabled_of}
use Rattle.known_texts.specs.Accepted.{NothingFails}
use Rattle.known_texts.proofs.Failures.{nothing_fails}
use Rattle.text_progress.proofs.Given.{parameters_kinded, stand_ins}
use Rattle.text_progress.proofs.GivenWorlds.{function_tells}
use Rattle.text_progress.proofs.KindedTypes.{all_kinded}
use Rattle.text_progress.proofs.TextsGiven.{behind_kind}
use Rattle.text_progress.proofs.Told.{same_count, signed_kinded}
use Rattle.call_fits.specs.Calls.{EachHasPlace, among_as, is_bool, placed_as}
use Rattle.safe_models.specs.Places.{VariablesHavePlaces}
use Rattle.safe_models.proofs.Placed.{KindAs, among_kinds, none_past}
use Rattle.safe_models.proofs.EachFunction.{each_function}
use Rattle.safe_models.proofs.Told.{told_among}

-- ---- the Int and Bool variables, beside what they stand for

abbrev pub is_truth : Given → Bool
is_truth (an_int z) = false
is_truth (a_bool b) = true

abbrev pub Alike : List Parameter → Givens → Type 0
Alike [] [] = Unit {0}
Alike (p ∷ ps) (g ∷ nu) = (is_truth g ≡ is_bool p.kind) × Alike ps nu
Alike ps nu = ⊥

one_alike : (kind : Kind) (x : Parameter) (xs : List Parameter) (nu : Givens) → x.kind ≡ kind → Alike xs nu
    → Alike (if is_type_variable kind then xs else x ∷ xs) (behind_kind kind nu)
one_alike K.Type x xs nu is h = h
one_alike K.Int x xs nu is h = (ap is_bool (sym is), h)
one_alike K.Bool x xs nu is h = (ap is_bool (sym is), h)

pub alike : (variables : List Variable) → Alike (number_parameters variables) (stand_ins variables)
alike [] = tt
alike (v ∷ variables) = one_alike v.kind (number_parameter v) (number_parameters variables) (stand_ins variables) refl (alike variables)

-- ---- each has a place of its kind

pub as_it_is : (nu : Givens) (g : Given) (b : Bool) → KindAs (g ∷ nu) 0 b → b ≡ is_truth g
as_it_is nu (an_int z) true h = no h
as_it_is nu (an_int z) false h = refl
as_it_is nu (a_bool c) true h = refl
as_it_is nu (a_bool c) false h = no h

pub later : (nu : Givens) (g : Given) (i : ℕ) (b : Bool) → KindAs (g ∷ nu) (suc i) b → KindAs nu i b
later nu g i true h = h
later nu g i false h = h

-- from the variable j on
module _ (ts : List Typ) where
  abbrev at : ℕ → Option Bool
  at i = among_as (map placed_as ts) i

  here : (j : ℕ) → at j ≡ at (j + 0)
  here j = ap at (same j)
    where
      same : (j : ℕ) → j ≡ j + 0
      same j = omega arith

  next : (j i : ℕ) → at (suc j + i) ≡ at (j + suc i)
  next j i = ap at (same j i)
    where
      same : (j i : ℕ) → suc j + i ≡ j + suc i
      same j i = omega arith

  first_one : (n : ℕ) → 0 < suc n
  first_one n = omega arith

  one_more : (i n : ℕ) → i < n → suc i < suc n
  one_more i n h = omega (arith, h)

  no_more : (j : ℕ) → j + 0 ≤ j
  no_more j = omega arith

  behind : (j n i : ℕ) → suc j + n ≤ i → j + suc n ≤ i
  behind j n i h = omega (arith, h)

  each_placed : (ps : List Parameter) (nu : Givens) → Alike ps nu → (j : ℕ) → ((i : ℕ) → i < length ps → (b : Bool) × (at (j + i) ≡ Some b))
      → ((i : ℕ) (b : Bool) → at (j + i) ≡ Some b → KindAs nu i b) → ((i : ℕ) → j + length ps ≤ i → at i ≡ None) → EachHasPlace j ps ts
  each_placed [] nu a j told kind past = λ i h. past i (subst (λ k. k ≤ i) (here_is j) h)
    where
      here_is : (j : ℕ) → j ≡ j + 0
      here_is j = omega arith
  each_placed (p ∷ ps) [] a j told kind past = absurd a
  each_placed (p ∷ ps) (g ∷ nu) a j told kind past =
      let t = told 0 (first_one (length ps)) in (
        here j ∙ t.1 ∙ ap Some (as_it_is nu g t.0 (kind 0 t.0 t.1) ∙ a.0),
        each_placed ps nu a.1 (suc j)
            (λ i low. let r = told (suc i) (one_more i (length ps) low) in (r.0, next j i ∙ r.1))
            (λ i b e. later nu g i b (kind (suc i) b (sym (next j i) ∙ e)))
            (λ i h. past i (behind j (length ps) i h)),
      )

-- ---- a signature of an accepted text

module _ (text : List Def) (clear : NothingFails text) (kept : refusal (tabled_of text) text ≡ None) where
  signature_placed : (name : List ℕ) (s : Signature) → signature_in text name ≡ Some s
      → EachHasPlace 0 (number_parameters s.variables) (parameters_of s.from)
  signature_placed name s signed =
      let ps : List Parameter = number_parameters s.variables in
      let ts : List Typ = parameters_of s.from in
      let nu : Givens = stand_ins s.variables in
      let kinded : all_kinded (stand_ins s.variables) (parameters_of s.from) ≡ true =
      parameters_kinded nu s.from (signed_kinded (types_of text).named text name s signed).0 in
      each_placed ts ps nu (alike s.variables) 0
      (λ i low. let r = told_among i ts (function_tells text clear kept name s signed i low) in (r.0, ap (among_as (map placed_as ts)) (from_zero i) ∙ r.1))
      (λ i b e. among_kinds ts nu i b kinded (sym (ap (among_as (map placed_as ts)) (from_zero i)) ∙ e))
      (λ i h. none_past ts nu i kinded (as_many (length nu) (length ps) i (same_count s.variables) h))
    where
      from_zero : (i : ℕ) → 0 + i ≡ i
      from_zero i = omega arith

      as_many : (n m i : ℕ) → m ≡ n → 0 + m ≤ i → n ≤ i
      as_many n m i same h = omega (arith, same, h)

pub variables_placed : VariablesHavePlaces
variables_placed text end cycle accepted kept =
    each_function text cycle (λ f. EachHasPlace 0 f.variables f.parameters)
    (λ place name cs s signed c. signature_placed text (nothing_fails text end accepted) kept name s signed)
