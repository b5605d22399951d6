-- Literals, beside their runs.
use Rattle.std.proofs.Common.{◌≡◌, ℕ, Option, None, nat_eq, nat_lt, ℤ, pos, Bool, true, false, List, [], length, refl, sym, ap, ◌∙◌}
use Rattle.std.specs.Bool.{beq}
use Rattle.std.specs.Ordering.{int_eq}
use Rattle.std.proofs.lemmas.Bool.Decides.{Decides-eqb, Decides-int_eq}
use Rattle.sail_base.specs.declared.place.Place.{Place}
use Rattle.sail_types.specs.Belongs.{Reading as Closed, assigned}
use Rattle.sail_types.specs.Limits.{is_small, is_width}
use Rattle.sail_types.specs.Named.{members}
use Rattle.sail_types.specs.Numbers.{Assignment, number}
use Rattle.sail_types.specs.Sums.{constant}
use Rattle.sail_types.proofs.Substituted.{number_constant}
use Rattle.sail_types.specs.declared.numbers.Atom.TheFolds.{fold-roll-Num}
use Rattle.sail_types.specs.declared.numbers.Con.TheVariants as C
use Rattle.sail_types.specs.declared.table.Types.{Types}
use Rattle.sail_types.specs.declared.types.Typ.{Typ, Typ-F, roll-Typ}
use Rattle.sail_types.specs.declared.types.Typ.TheFolds.{fold-roll-Typ, map-Typ}
use Rattle.sail_types.specs.declared.types.Typ.TheOpen as T
use Rattle.sail_types.specs.declared.types.Typ.TheVariants as U
use Rattle.sail_types.specs.declared.values.Value.{Value, Value-F, out-Value, roll-Value}
use Rattle.sail_types.specs.declared.values.Value.TheOpen as O
use Rattle.sail_types.specs.declared.values.Value.TheVariants as V
use Rattle.sail_types.specs.declared.values.Value.TheViews.{out-roll-Value}
use Rattle.row_types.specs.Formulas.{least, most}
use Rattle.sail_core.specs.Making.{World}
use Rattle.sail_core.specs.Meaning.{kind_meaning}
use Rattle.sail_core.specs.Values.{literal_typ, literal_value}
use Rattle.sail_core.specs.declared.patterns.Literal.{Literal}
use Rattle.sail_core.specs.declared.patterns.Literal.TheVariants as L
use Rattle.sail_core.specs.declared.tree.Kind.TheVariants as K
use Rattle.size_values.specs.declared.constants.Constant.{Constant}
use Rattle.size_values.specs.declared.sized.Sized.{Sized}
use Rattle.size_values.specs.declared.sized.Sized.TheVariants as S
use Rattle.size_values.specs.Numbers.{argument_of, atom_free, atom_value, constant_under, sum_free, sum_value, term_free, term_value, unless_free}
use Rattle.size_values.specs.Sized.{UnderConstants, form_reading_sized, form_sized, indices_sized, integer_of, reading_sized, typ_sized}
use Rattle.value_indices.specs.declared.indices.Indices.{Indices, roll-Indices}
use Rattle.value_indices.specs.declared.indices.Indices.TheFolds.{fold-roll-Indices, map-Indices}
use Rattle.value_indices.specs.declared.indices.Indices.TheOpen as W
use Rattle.value_indices.specs.declared.indices.Indices.TheOpen.{Indices-F}
use Rattle.value_indices.specs.declared.indices.Indices.TheVariants as I
use Rattle.value_indices.specs.declared.indices.Reading.{Reading}
use Rattle.value_indices.specs.declared.notes.Fact.{Fact}
use Rattle.value_indices.specs.Steps.{give}
use Rattle.pattern_leaves.specs.Settings.{Scope}
use Rattle.call_arguments.specs.declared.aims.Aim.{Aim}
use Rattle.call_notes.specs.Ends.{settled}
use Rattle.expression_forms.specs.Names.{literal_indices}
use Rattle.expression_steps.specs.Expressions.{kind_walk}
use Rattle.checked_meaning.specs.Items.{Item, fixed_typ, item}
use Rattle.checked_meaning.specs.Checked.{checked}
use Rattle.value_laws.specs.Belonging.{Integers, Meant, form_holds, indices_hold, meant, meant_form, standing}
use Rattle.value_laws.specs.Known.{Point}
use Rattle.value_laws.proofs.Arguments.{assigned_there}
use Rattle.value_laws.proofs.Basics.{two}
use Rattle.value_laws.proofs.Meanings.{bit_same, bits_same, integers_same, named_same, strings_same, truths_same, units_same}
use Rattle.value_laws.proofs.Numbers.{truth_is}
use Rattle.value_laws.proofs.Values.{has_form, meanings, meant_is}
use Rattle.soundness_steps.specs.Works.{Scene, Setting, Work, here}
use Rattle.soundness_steps.specs.Noted.{known, sized}
use Rattle.soundness_steps.specs.Steps.{Beside}
use Rattle.soundness_steps.specs.Values.{AimSteady, Comes, Has, Is}
use Rattle.soundness_steps.proofs.Steps.{given_back, rests, walks_on}
use Rattle.soundness_forms.specs.Forms.{FitsSuffice}
use Rattle.soundness_forms.specs.Standing.{literal_right}
use Rattle.soundness_forms.proofs.Basics.{settles}

-- ---- indices that mean one and the same wherever variables stand

module _ (set : Setting) (work : Work) {n : ℕ} (f : Point n) where
  abbrev forms : Integers → Indices-F Indices Reading → Indices-F Meant Closed
  forms g x = meanings set.around.types (standing set.past g) work.types x

  pub has_same : (i : Indices) (x : Indices-F Indices Reading) → roll-Indices x ≡ i → (v : Value)
      → indices_hold set.around.types (standing set.past f.integers) work.types (forms f.integers x) v ≡ true
      → ((g : Integers) → meant_form set.around.types (standing set.past g) work.types (forms g x)
      ≡ meant_form set.around.types (standing set.past f.integers) work.types (forms f.integers x))
      → Has set work f i v
  has_same i x e v h same = record {
    meaning = meant set.around.types (standing set.past f.integers) work.types i;
    is_so = has_form set.around.types (standing set.past f.integers) work.types i x v e ∙ h;
    steady = λ g a.
        meant_is set.around.types (standing set.past g) work.types i x e ∙ same g
        ∙ sym (meant_is set.around.types (standing set.past f.integers) work.types i x e);
  }

-- ---- types of literals

typ_form : (types : Types) (x : Typ-F Typ) (t : Typ) → roll-Typ x ≡ t
    → fixed_typ types t ≡ form_sized types [] (map-Typ Typ UnderConstants (typ_sized types []) x) []
typ_form types x t e = ap (fixed_typ types) (sym e) ∙ ap (λ h. h []) (fold-roll-Typ UnderConstants (form_sized types []) x)

value_form : (types : Types) (own : List Sized) (g : Integers) (x : Indices-F Indices Reading) (i : Indices) → roll-Indices x ≡ i
    → sized types own g i ≡ indices_sized types own (known g) (map-Indices Indices Reading Sized Sized (sized types own g) (reading_sized types own
    (known g)) x)
value_form types own g x i e = ap (sized types own g) (sym e)
    ∙ fold-roll-Indices Sized Sized (indices_sized types own (known g)) (form_reading_sized types own (known g)) x

-- a constant is the same whatever variables are
constant_same : (of by : ℕ → Constant) (z : ℤ) → constant_under of (constant z) ≡ constant_under by (constant z)
constant_same of by z = at of ∙ sym (at by)
  where
    at : (to : ℕ → Constant) → constant_under to (constant z) ≡ unless_free to None (sum_value (record { terms = []; constant = z }))
    at to = λ j. unless_free to
        (fold-roll-Num (Option ℕ) (Option ℕ) (Option ℕ) (atom_free to) sum_free term_free (record { terms = []; constant = z }) j)
        (fold-roll-Num (Option ℤ) (Option ℤ) (Option ℤ) (atom_value to) sum_value term_value (record { terms = []; constant = z }) j)

pub literal_sized : (types : Types) (own : List Sized) (g : Integers) (l : Literal) → fixed_typ types (literal_typ l) ≡ sized types own g (literal_indices l)
literal_sized types own g L.Unit = typ_form types T.Unit U.Unit U.rolls-Unit ∙ sym (value_form types own g W.Unit I.Unit I.rolls-Unit)
literal_sized types own g (L.Integer z) =
    typ_form types (T.Range (constant least) (constant most)) (U.Range (constant least) (constant most)) (U.rolls-Range (constant least) (constant most))
    ∙ sym (value_form types own g (W.Integer (constant z)) (I.Integer (constant z)) (I.rolls-Integer (constant z)))
literal_sized types own g (L.Truth b) =
    typ_form types T.Bool U.Bool U.rolls-Bool ∙ sym (value_form types own g (W.Truth (C.Truth b)) (I.Truth (C.Truth b)) (I.rolls-Truth (C.Truth b)))
literal_sized types own g (L.Bit b) = typ_form types T.Bit U.Bit U.rolls-Bit ∙ sym (value_form types own g W.Bit I.Bit I.rolls-Bit)
literal_sized types own g (L.Bits bits) =
    let z = pos (length bits) in
    typ_form types (T.Bits (constant z)) (U.Bits (constant z)) (U.rolls-Bits (constant z))
    ∙ ap (λ c. S.Bits (integer_of c)) (constant_same (argument_of []) (known g) z)
    ∙ sym (value_form types own g (W.Bits (constant z)) (I.Bits (constant z)) (I.rolls-Bits (constant z)))
literal_sized types own g (L.String text) = typ_form types T.String U.String U.rolls-String ∙ sym (value_form types own g W.String I.String I.rolls-String)
literal_sized types own g (L.Member e k) =
    typ_form types (T.Named e [] []) (U.Named e [] []) (U.rolls-Named e [] [])
    ∙ sym (value_form types own g (W.Named e [] []) (I.Named e [] []) (I.rolls-Named e [] []))

-- ---- their values

value_is : (x : Value-F Value) (v : Value) → roll-Value x ≡ v → out-Value v ≡ x
value_is x v e = ap out-Value (sym e) ∙ out-roll-Value x

beq_itself : (b : Bool) → beq b b ≡ true
beq_itself true = refl
beq_itself false = refl

module _ (set : Setting) (work : Work) {n : ℕ} (f : Point n) where
  abbrev at : Assignment
  at = standing set.past f.integers

  abbrev holds : Indices-F Meant Closed → Value-F Value → Bool
  holds = form_holds set.around.types at work.types

  number_equal : (z : ℤ) → int_eq z (number at (constant z)) ≡ true
  number_equal z = (Decides-int_eq z (number at (constant z))).1 (sym (number_constant at z))

  pub literal_has : (l : Literal) → literal_right set.around.types l ≡ true → Has set work f (literal_indices l) (literal_value l)
  literal_has L.Unit h = has_same set work f I.Unit W.Unit I.rolls-Unit V.Unit (ap (holds W.Unit) (value_is O.Unit V.Unit V.rolls-Unit)) (λ g.
      units_same set.around.types set.past work.types g f.integers)
  literal_has (L.Integer z) h = has_same set work f (I.Integer (constant z)) (W.Integer (constant z)) (I.rolls-Integer (constant z)) (V.Integer z)
      (ap (holds (W.Integer (constant z))) (value_is (O.Integer z) (V.Integer z) (V.rolls-Integer z))
      ∙ two (int_eq z (number at (constant z))) (is_small z) (number_equal z) h)
      (λ g. integers_same set.around.types set.past work.types g f.integers (constant z) (constant z)
      (number_constant (standing set.past g) z ∙ sym (number_constant at z)))
  literal_has (L.Truth b) h = has_same set work f (I.Truth (C.Truth b)) (W.Truth (C.Truth b)) (I.rolls-Truth (C.Truth b)) (V.Truth b)
      (ap (holds (W.Truth (C.Truth b))) (value_is (O.Truth b) (V.Truth b) (V.rolls-Truth b)) ∙ ap (beq b) (truth_is at b) ∙ beq_itself b)
      (λ g. truths_same set.around.types set.past work.types g f.integers (C.Truth b) (C.Truth b)
      (truth_is (standing set.past g) b ∙ sym (truth_is at b)))
  literal_has (L.Bit b) h = has_same set work f I.Bit W.Bit I.rolls-Bit (V.Bit b) (ap (holds W.Bit) (value_is (O.Bit b) (V.Bit b) (V.rolls-Bit b))) (λ g.
      bit_same set.around.types set.past work.types g f.integers)
  literal_has (L.Bits bits) h =
      let z = pos (length bits) in
      has_same set work f (I.Bits (constant z)) (W.Bits (constant z)) (I.rolls-Bits (constant z)) (V.Bits bits)
      (ap (holds (W.Bits (constant z))) (value_is (O.Bits bits) (V.Bits bits) (V.rolls-Bits bits))
      ∙ two (int_eq z (number at (constant z))) (is_width (length bits)) (number_equal z) h)
      (λ g. bits_same set.around.types set.past work.types g f.integers (constant z) (constant z)
      (number_constant (standing set.past g) z ∙ sym (number_constant at z)))
  literal_has (L.String text) h = has_same set work f I.String W.String I.rolls-String (V.String text)
      (ap (holds W.String) (value_is (O.String text) (V.String text) (V.rolls-String text))) (λ g.
      strings_same set.around.types set.past work.types g f.integers)
  literal_has (L.Member e k) h = has_same set work f (I.Named e [] []) (W.Named e [] []) (I.rolls-Named e [] []) (V.Member e k)
      (ap (holds (W.Named e [] [])) (value_is (O.Member e k) (V.Member e k) (V.rolls-Member e k))
      ∙ two (nat_eq e e) (nat_lt k (length (members set.around.types e))) ((Decides-eqb e e).1 refl) h)
      (λ g. named_same set.around.types set.past work.types g f.integers e [] [] [] [] (nothing_assigned g) refl refl)
    where
      nothing_assigned : (g : Integers) → assigned (standing set.past g) [] ≡ assigned at []
      nothing_assigned g = sym (assigned_there set.past g []) ∙ assigned_there set.past f.integers []

-- ---- a value that isn't noted

module _ (fit : FitsSuffice) (q : Scene) (w : World Item) {n : ℕ} (f : Point n) (facts : List Fact) (scope : Scope) (place : Place) (k : ℕ) (aim : Aim)
    (st : AimSteady q.set q.work f aim) where
  pub constant_fine : (l : Literal) → literal_right q.set.around.types l ≡ true
      → Beside q n f facts (kind_walk place k (K.Constant l) [] (here q) scope aim)
      (kind_meaning (checked q.set.around.types q.cases) w place k (K.Constant l) []) (λ m g i x. Comes q.set q.work g false false false aim i x)
  constant_fine l h =
      let x : Item = item (fixed_typ q.set.around.types (literal_typ l)) (literal_value l) in
      rests x (walks_on (λ i. give i)
      (walks_on (settled (here q) place aim) {Holds = λ m g i. Is q.set q.work g i x × AimSteady q.set q.work g aim} (given_back (literal_indices l)
      (record { has = literal_has q.set q.work f l h; typ = λ exact g a. literal_sized q.set.around.types q.work.own g l }, st))
      (λ m g fs i l2 e. settles fit place aim i x e.1 e.0))
      (λ m g fs i l2 e. given_back i e))
