-- What names and widths mean where a pattern of an accepted text stands.
use Rattle.std.proofs.Common.{◌≡◌, ℕ, zero, suc, ◌+◌, Bool, true, List, [], ◌∷◌, length, Option, Some, None, slice_get, if◌then◌else◌}
use Rattle.std.proofs.Common.{ap, ◌∙◌, refl, subst, arith}
use Rattle.std.specs.List.{list_all}
use Rattle.std.specs.Prelude.{nat_lt}
use Rattle.sail_base.specs.declared.kind.Kind.{Kind}
use Rattle.sail_base.specs.declared.kind.Kind.TheVariants as K
use Rattle.sail_syntax.specs.declared.definitions.Def.{Def}
use Rattle.sail_types.specs.Named.{members}
use Rattle.sail_types.specs.Sums.{variable}
use Rattle.sail_types.specs.declared.numbers.Atom.TheFolds.{fold-Num}
use Rattle.sail_types.specs.declared.numbers.Atom.TheOpen as N
use Rattle.sail_types.specs.declared.numbers.Atom.TheOpen.{Atom-F}
use Rattle.sail_types.specs.declared.numbers.Atom.TheVariants as A
use Rattle.sail_types.specs.declared.numbers.Num.{Num}
use Rattle.sail_types.specs.declared.table.Parameter.{Parameter}
use Rattle.sail_types.specs.declared.values.Value.{Value}
use Rattle.sail_types.proofs.EqualAtoms.{eq_atom-Decides}
use Rattle.sail_kinds.specs.declared.scope.Variable.{Variable}
use Rattle.sail_core.specs.Making.{World}
use Rattle.sail_core.specs.Numbers.{Givens, given_int}
use Rattle.sail_core.specs.Start.{opening_world}
use Rattle.sail_core.specs.declared.tree.Callee.TheVariants as C
use Rattle.sail_names.specs.Known as Tables
use Rattle.shape_declarations.specs.Signatures.{number_parameter, number_parameters}
use Rattle.shape_models.specs.Models.{is_type_variable, setting_of}
use Rattle.shape_progress.specs.Conditions.{atom_given, given_in, is_there}
use Rattle.shape_rules.specs.declared.callees.Candidate.{Candidate}
use Rattle.shape_rules.specs.declared.callees.Doing.TheVariants as D
use Rattle.shape_rules.specs.declared.callees.Meant.{Meant}
use Rattle.shape_rules.specs.declared.callees.Meant.TheVariants as M
use Rattle.shape_rules.specs.declared.locals.Local.{Local}
use Rattle.shape_stands.specs.Inside.{Position}
use Rattle.shapes.specs.Failures.{all_lets, own_in as meant_in, refusal}
use Rattle.shapes.specs.Tabled.{tabled_of}
use Rattle.known_texts.proofs.Assembled.{definitions_known}
use Rattle.known_texts.proofs.Failures.{nothing_fails}
use Rattle.known_texts.proofs.Parts.{tuples_have_parts}
use Rattle.known_texts.proofs.Registers.{registers_typed}
use Rattle.known_texts.proofs.Types.{types_known}
use Rattle.known_texts.specs.Accepted.{NothingFails}
use Rattle.known_texts.specs.Known.{DefinitionsKnown}
use Rattle.known_texts.specs.Values.{RegistersTyped}
use Rattle.known_texts.specs.Whole.{setting_in}
use Rattle.text_progress.specs.Entries.{CandidateIn, DoesIn, ValueIn}
use Rattle.text_progress.specs.Positions.{Given, in_body, in_let, in_plain}
use Rattle.text_progress.proofs.Given.{own_scope, stand_ins}
use Rattle.text_progress.proofs.GivenWorlds.{body_given, body_sides}
use Rattle.text_progress.proofs.SideWidths.{widths_are_given}
use Rattle.text_progress.proofs.Stand.{let_given, plain_given_at}
use Rattle.text_progress.proofs.TextInsides as Insides
use Rattle.text_progress.proofs.TextsGiven.{behind_kind}
use Rattle.pattern_laws.specs.Standing.{atom_owns, constructor_stands, is_variable, number_owns, same_num}
use Rattle.found_patterns.proofs.Meant.{constructor_there}
use Rattle.found_patterns.specs.Meant.{NamesStand, WidthsOwn}
use Rattle.safe_models.specs.Patterns.{PatternsOfTextsMeant, own_in}
use Rattle.call_fits.specs.Calls.{own_variables, variable_index}

-- ---- a variable is a number of the walk, as what it stands for is

-- from a number on
abbrev OwnInts : List Parameter → Givens → Type 0
OwnInts ps nu = (v i : ℕ) → is_variable (v + i) (slice_get (own_variables v ps) i) ≡ is_there (given_int (slice_get nu i))

itself : (v w : ℕ) → v ≡ w → same_num (variable v) (variable w) ≡ true
itself v w e = subst (λ u. same_num (variable v) (variable u) ≡ true) e ((eq_atom-Decides (A.Power (variable v)) (A.Power (variable v))).1 refl)

one_own : (kind : Kind) (x : Parameter) (xs : List Parameter) (nu : Givens) → x.kind ≡ kind → OwnInts xs nu
    → OwnInts (if is_type_variable kind then xs else x ∷ xs) (behind_kind kind nu)
one_own K.Type x xs nu is h v i = h v i
one_own K.Int x xs nu is h v zero = ap (λ (k : Kind). is_variable (v + 0) (Some (variable_index k v))) is ∙ itself v (v + 0) (omega arith)
one_own K.Int x xs nu is h v (suc i) =
    subst (λ j. is_variable j (slice_get (own_variables (suc v) xs) i) ≡ is_there (given_int (slice_get nu i))) (omega arith) (h (suc v) i)
one_own K.Bool x xs nu is h v zero = ap (λ (k : Kind). is_variable (v + 0) (Some (variable_index k v))) is
one_own K.Bool x xs nu is h v (suc i) =
    subst (λ j. is_variable j (slice_get (own_variables (suc v) xs) i) ≡ is_there (given_int (slice_get nu i))) (omega arith) (h (suc v) i)

own_ints : (variables : List Variable) → OwnInts (number_parameters variables) (stand_ins variables)
own_ints [] v i = refl
own_ints (x ∷ variables) v i =
    one_own x.kind (number_parameter x) (number_parameters variables) (stand_ins variables) refl (own_ints variables) v i

module _ (variables : List Variable) where
  atoms : (y : Atom-F Bool Bool Bool) → atom_owns (own_in variables) y ≡ atom_given (stand_ins variables) y
  atoms (N.Variable i) =
      subst (λ v. is_variable v (slice_get (own_in variables) i) ≡ is_there (given_int (slice_get (stand_ins variables) i))) (omega arith)
      (own_ints variables 0 i)
  atoms (N.Power b) = refl

  same : (n : Num) → number_owns (own_in variables) n ≡ given_in (stand_ins variables) n
  same n j = fold-Num Bool Bool Bool (λ y. atoms y j) (λ m. list_all (λ b. b) m.terms) (λ t. t.atom) n

  owned : (n : Num) → given_in (stand_ins variables) n ≡ true → number_owns (own_in variables) n ≡ true
  owned n h = same n ∙ h

-- in a world where they stand for such
abbrev standing : List Variable → World Value
standing variables = record (opening_world {X = Value} []) { numbers = stand_ins variables }

widths_own : (here : Position) (variables : List Variable) → Given here (standing variables) → WidthsOwn (own_in variables) here.setting here.names
widths_own here variables given = record {
  heads = λ name n is e. owned variables n (given.head_widths name n is e);
  typs = λ typ t n fine e is. owned variables n (given.widths typ t n fine e is);
}

-- ---- an accepted text

module _ (text : List Def) (clear : NothingFails text) (kept : refusal (tabled_of text) text ≡ None)
    (known : DefinitionsKnown (tabled_of text) text (setting_in (tabled_of text) text)) (typed : RegistersTyped (tabled_of text) text) where
  abbrev cycle : List ℕ → Option ℕ
  cycle name = None

  abbrev means : List Local → List Variable → List ℕ → Option Meant
  means some variables name = (setting_of (tabled_of text) (meant_in (tabled_of text) text) text some variables).value name

  value_there : (some : List Local) (variables : List Variable) (name : List ℕ) (o : Option Meant) → means some variables name ≡ o
      → ValueIn (Insides.parts text cycle known typed) some o
  value_there some variables name o is =
      subst (ValueIn (Insides.parts text cycle known typed) some) is (Insides.values text cycle known typed some variables name)

  member_there : (some : List Local) (variables : List Variable) (name : List ℕ) (e k : ℕ) → means some variables name ≡ Some (M.Member e k)
      → nat_lt k (length (members (tabled_of text).types e)) ≡ true
  member_there some variables name e k is = (value_there some variables name (Some (M.Member e k)) is).1

  constructor_in : (some : List Local) (variables : List Variable) (name : List ℕ) (f : Candidate) (u k : ℕ) → means some variables name ≡ Some (M.Callee f)
      → f.doing ≡ D.Calls (C.Constructor u k) → constructor_stands (tabled_of text).types u k (length f.params) ≡ true
  constructor_in some variables name f u k is does =
      let it : CandidateIn (Insides.parts text cycle known typed) f = value_there some variables name (Some (M.Callee f)) is in
      let made : DoesIn (Insides.parts text cycle known typed) f (D.Calls (C.Constructor u k)) =
      subst (DoesIn (Insides.parts text cycle known typed) f) does it.does in
      constructor_there (tabled_of text).types f u k made.0

  -- where names mean this, whatever else the setting has
  names_stand : (some : List Local) (variables : List Variable) (names : Tables.Setting)
      → NamesStand (tabled_of text).types (setting_of (tabled_of text) (meant_in (tabled_of text) text) text some variables) names
  names_stand some variables names = record {
    members = λ name e k is. member_there some variables name e k is;
    constructors = λ name f u k constructs is does. constructor_in some variables name f u k is does;
  }

pub patterns_meant : PatternsOfTextsMeant
patterns_meant text end accepted kept written =
    let clear : NothingFails text = nothing_fails text end accepted in
    let known : DefinitionsKnown (tabled_of text) text (setting_in (tabled_of text) text) =
    definitions_known text clear written (tuples_have_parts text written) kept in
    let typed : RegistersTyped (tabled_of text) text = registers_typed text (types_known text clear.types) 0 text clear.bodies in
    let lets : List Local = all_lets (tabled_of text) text in
    let stand = names_stand text clear kept known typed in record {
      bodies = λ variables answer names converts.
          let s = stand lets variables names in (
            record { members = s.members; constructors = s.constructors },
            widths_own (in_body text variables answer names converts) variables
                (body_given text clear kept written variables answer names converts (standing variables) (own_scope variables)),
          );
      plain = λ variables names.
          let s = stand lets variables names in (
            record { members = s.members; constructors = s.constructors },
            widths_own (in_plain text variables names) variables
                (plain_given_at text clear kept written variables names (standing variables) (own_scope variables)),
          );
      lets = λ some names are is_plain.
          let s = stand some [] names in (
            record { members = s.members; constructors = s.constructors },
            widths_own (in_let text some names) [] (let_given text some names (standing []) are is_plain),
          );
      sides = λ answer names converts p fine t given name n e.
          owned [] n (widths_are_given (in_body text [] answer names converts) [] (body_sides text clear kept written [] answer names converts) p fine t given
          name n e);
    }
