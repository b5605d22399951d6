-- What is kept of a type has at least the values that the type has, where the variables from before the ways stand for the same.
use Rattle.std.proofs.Common.{◌≡◌, ℕ, ◌<◌, ℤ, pos, int_le, Bool, true, false, List, [], ◌∷◌, ◌++◌, map, length, slice_get}
use Rattle.std.proofs.Common.{Some, if◌then◌else◌, refl, sym, ap, ◌∙◌, subst}
use Rattle.std.proofs.lemmas.Bool.{and_parts}
use Rattle.sail_base.specs.declared.kind.Kind.{Kind}
use Rattle.sail_base.specs.declared.kind.Kind.TheVariants as K
use Rattle.sail_types.proofs.SumNumbers.{some_same}
use Rattle.sail_types.proofs.Substituted.{number_constant}
use Rattle.sail_types.specs.Belongs.{Reading as Closed, Readings as Closeds, reading, no_readings, assigned, belongs}
use Rattle.sail_types.specs.Limits.{is_small}
use Rattle.sail_types.specs.Numbers.{Assignment, Positive, number, true_in}
use Rattle.sail_types.specs.Sums.{constant, variable}
use Rattle.sail_types.specs.declared.numbers.Con.{Con}
use Rattle.sail_types.specs.declared.numbers.Con.TheVariants as C
use Rattle.sail_types.specs.declared.numbers.Index.{Index}
use Rattle.sail_types.specs.declared.numbers.Index.TheVariants as N
use Rattle.sail_types.specs.declared.numbers.Num.{Num}
use Rattle.sail_types.specs.declared.shapes.Shape.{Shape, Shape-F, roll-Shape}
use Rattle.sail_types.specs.declared.shapes.Shape.TheFolds.{fold-roll-Shape, map-Shape, ind-Shape}
use Rattle.sail_types.specs.declared.shapes.Shape.TheOpen as S
use Rattle.sail_types.specs.declared.shapes.Shape.TheVariants as V
use Rattle.sail_types.specs.declared.table.Parameter.{Parameter}
use Rattle.sail_types.specs.declared.table.Types.{Types}
use Rattle.sail_types.specs.declared.types.Typ.{Typ}
use Rattle.sail_types.specs.declared.types.Typ.TheOpen as T
use Rattle.sail_types.specs.declared.types.Typ.TheVariants as U
use Rattle.sail_types.specs.declared.values.Value.{Value, Value-F, out-Value}
use Rattle.sail_types.specs.declared.values.Value.TheOpen as D
use Rattle.row_types.specs.Formulas.{least, most}
use Rattle.value_indices.specs.Opening.{any_integer, any_truth, largest_num, least_num, zero_num}
use Rattle.value_indices.specs.Steps.{Walk, bind, give, each, fresh}
use Rattle.value_indices.specs.declared.indices.Indices.{Indices, roll-Indices}
use Rattle.value_indices.specs.declared.indices.Indices.TheFolds.{fold-roll-Indices, fold-roll-Reading, map-Indices, map-Reading, ind-Indices, ind-Reading}
use Rattle.value_indices.specs.declared.indices.Indices.TheOpen as W
use Rattle.value_indices.specs.declared.indices.Indices.TheOpen.{Indices-F, Reading-F}
use Rattle.value_indices.specs.declared.indices.Indices.TheVariants as I
use Rattle.value_indices.specs.declared.indices.Naming.TheVariants as M
use Rattle.value_indices.specs.declared.indices.Reading.{Reading, roll-Reading}
use Rattle.value_indices.specs.declared.indices.Reading.TheVariants as R
use Rattle.value_indices.specs.declared.notes.Fact.{Fact}
use Rattle.value_laws.specs.Belonging.{Integers, standing, nowhere, closeds, or_no_value, type_variables, index_there, Meant, wides, number_there}
use Rattle.value_laws.specs.Belonging.{form_holds, types_or_own, wide_of, meant, meant_form, closed, tuple_of}
use Rattle.value_laws.specs.Known.{Point, Agree, Later, Goes}
use Rattle.value_laws.proofs.Basics.{no}
use Rattle.value_laws.proofs.Numbers.{above_least, below_most, beyond_past, holds_is, truth_is, variable_is}
use Rattle.value_laws.proofs.Steps.{agree_on, later_on, gives, goes_on, goes_then, goes_as, fresh_integer}
use Rattle.value_laws.proofs.Values.{form_asked, belongs_form, nothing_belongs, meanings, meant_is, closed_is}
use Rattle.value_laws.proofs.Arguments.{AreAs, IsAs, assigned_as, assigned_there, indices_as, indices_there}
use Rattle.value_laws.proofs.Meanings.{bit_same, bits_same, lists_same, named_same, strings_same, units_same, variable_same, vectors_same}
use Rattle.value_laws.proofs.Knowing.{AllOpened, Opened, any_truth_known, between_known, both_opened, form_meant, tuple_known}
use Rattle.wide_types.specs.Widening.{Keep, KeepIndices, each_kept, fresh_index, fresh_indices, in_turn, is_below, is_con_below, item_shape, kept_con}
use Rattle.wide_types.specs.Widening.{kept_each, kept_index, kept_indices, kept_integer, kept_num, kept_reading, kept_truth, kept_type, kept_value}
use Rattle.wide_types.specs.Widening.{opened_or_not, parameters_of, part_shapes, variable_shapes, wide_typ, widest_form, widest_of}
use Rattle.meeting_laws.specs.Laws.{IsFull}
use Rattle.meeting_laws.proofs.Below.{number_below, truth_below}
use Rattle.meeting_laws.proofs.Wider.{Wider, EachWider, named_wider, over_wider, own_wider, tuple_wider, wide_typ_wider}
use Rattle.meeting_laws.proofs.Forms.{bit_as, bits_as, each_of, list_as, named_as, string_as, tuple_as, unit_as, vector_as}

bit_of : (b : Bool) → int_le (pos 1) (if b then pos 1 else pos 0) ≡ b
bit_of true = refl
bit_of false = refl

module _ (types : Types) (past : Positive) (own : List Closed) where
  abbrev there : Integers → Assignment
  there g = standing past g

  abbrev zeros : Integers
  zeros i = pos 0

  abbrev pub wide_at : Integers → Indices → Closed
  wide_at g i = (meant types (there g) own i).wide

  abbrev meant_by : Indices-F Meant Closed → Meant
  meant_by x = form_meant types past own x

  -- ---- a walk that gives what means one and the same, with at least the values of this type

  abbrev pub Gives : {A : Type 0} → (Integers → A → Closed) → Closed → (n : ℕ) → Point n → List Fact → Walk A → Type 0
  Gives mean c0 n p facts walk = (c : Closed) × Wider types c0 c × Goes past n p facts walk (λ g x. mean g x ≡ c)

  abbrev pub AllGive : {A : Type 0} → (Integers → List A → List Closed) → List Closed → (n : ℕ) → Point n → List Fact → Walk (List A) → Type 0
  AllGive means cs0 n p facts walk = (cs : List Closed) × EachWider types cs0 cs × Goes past n p facts walk (λ g xs. means g xs ≡ cs)

  pub both_give : {A : Type 0} {n : ℕ} {p : Point n} {facts : List Fact} {w : Walk A} {ws : Walk (List A)} (mean : Integers → A → Closed)
      (means : Integers → List A → List Closed) (c0 : Closed) (cs0 : List Closed)
      → ((g : Integers) (x : A) (xs : List A) → means g (x ∷ xs) ≡ (mean g x ∷ means g xs)) → Gives mean c0 n p facts w
      → ((m : ℕ) (q : Point m) (fs : List Fact) → Later p q → AllGive means cs0 m q fs ws)
      → AllGive means (c0 ∷ cs0) n p facts (bind w (λ x. bind ws (λ xs. give (x ∷ xs))))
  both_give {n} {p} {facts} {w} {ws} mean means c0 cs0 parts one rest =
      let first = one.2.goes in
      let more : AllGive means cs0 (w facts n).next first.point (w facts n).facts ws =
      rest (w facts n).next first.point (w facts n).facts first.later in (
        one.0 ∷ more.0,
        (one.1, more.1),
        goes_on (λ x. bind ws (λ xs. give (x ∷ xs))) one.2 (goes_then more.2 (λ m q fs xs a e. gives ((w facts n).value ∷ xs) (λ k b.
            parts k (w facts n).value xs ∙ (λ j. first.holds k (agree_on a b) j ∷ e k b j)))),
      )

  -- ---- the widest type of a shape

  WidestGoes : Shape → Type 0
  WidestGoes s = (n : ℕ) (p : Point n) (facts : List Fact)
      → (c : Closed) × Goes past n p facts (widest_of types s) (λ g r. closed types (there g) own r ≡ c)

  abbrev SuchS : Type 0
  SuchS = (s : Shape) × WidestGoes s

  abbrev shape_form : Shape-F SuchS → Shape-F Shape
  shape_form y = map-Shape SuchS Shape (λ p. p.0) y

  abbrev shapes_in : List SuchS → List Shape
  shapes_in ys = map (λ (y : SuchS). y.0) ys

  widest_is : (x : Shape-F Shape) → widest_of types (roll-Shape x) ≡ widest_form types (map-Shape Shape (Walk Reading) (widest_of types) x)
  unfolding widest_of
  widest_is x = fold-roll-Shape (Walk Reading) (widest_form types) x

  widened_at : (g : Integers) (i : Indices) (x : Indices-F Indices Reading) → roll-Indices x ≡ i
      → closed types (there g) own (R.Widened i) ≡ wide_of types (there g) own (meanings types (there g) own x)
  widened_at g i x e =
      closed_is types (there g) own (R.Widened i) (W.Widened i) (R.rolls-Widened i) ∙ ap (λ m. m.wide) (meant_is types (there g) own i x e)

  joined : (g : Integers) (is js : List Index) → map (index_there (there g)) (is ++ js) ≡ map (index_there (there g)) is ++ map (index_there (there g)) js
  joined g [] js = refl
  joined g (i ∷ is) js = ap (λ ks. index_there (there g) i ∷ ks) (joined g is js)

  abbrev GivesIndices : (n : ℕ) → Point n → List Fact → Walk (List Index) → Type 0
  GivesIndices n p facts walk = (js : List Index) × Goes past n p facts walk (λ g is. map (index_there (there g)) is ≡ js)

  index_goes : (a : Parameter) (k : Kind) (n : ℕ) (p : Point n) (facts : List Fact) → GivesIndices n p facts (fresh_index a k)
  index_goes a K.Int n p facts = (
    N.Number (constant (pos 0)) ∷ [],
    goes_then (fresh_integer (pos 0)) (λ m q fs v l e. gives (N.Number (variable v) ∷ []) (λ g b.
        ap (λ z. N.Number (constant z) ∷ []) (variable_is past g v ∙ e g b))),
  )
  index_goes a K.Bool n p facts = (
    N.Truth (C.Truth false) ∷ [],
    goes_then (fresh_integer (pos 0)) (λ m q fs v l e. gives (N.Truth (C.Holds v) ∷ []) (λ g b.
        ap (λ t. N.Truth (C.Truth t) ∷ []) (holds_is (there g) v ∙ ap (int_le (pos 1)) (e g b)))),
  )
  index_goes a K.Type n p facts = ([], gives [] (λ g b. refl))

  indices_go : (ps : List Parameter) (n : ℕ) (p : Point n) (facts : List Fact) → GivesIndices n p facts (fresh_indices ps)
  indices_go [] n p facts = ([], gives [] (λ g b. refl))
  indices_go (a ∷ ps) n p facts =
      let w = fresh_index a a.kind in
      let one = index_goes a a.kind n p facts in
      let first = one.1.goes in
      let more = indices_go ps (w facts n).next first.point (w facts n).facts in (
        one.0 ++ more.0,
        goes_on (λ i. bind (fresh_indices ps) (λ is. give (i ++ is))) one.1 (goes_then more.1 (λ m q fs is l e. gives ((w facts n).value ++ is) (λ g b.
            joined g (w facts n).value is ∙ (λ j. first.holds g (agree_on l b) j ++ e g b j)))),
      )

  turn_goes : (ys : List SuchS) (n : ℕ) (p : Point n) (facts : List Fact)
      → (cs : List Closed) × Goes past n p facts (in_turn (map (widest_of types) (shapes_in ys))) (λ g rs. map (closed types (there g) own) rs ≡ cs)
  unfolding WidestGoes
  turn_goes [] n p facts = ([], gives [] (λ g b. refl))
  turn_goes (y ∷ ys) n p facts =
      let w = widest_of types y.0 in
      let one = y.1 n p facts in
      let first = one.1.goes in
      let more = turn_goes ys (w facts n).next first.point (w facts n).facts in (
        one.0 ∷ more.0,
        goes_on (λ x. bind (in_turn (map (widest_of types) (shapes_in ys))) (λ xs. give (x ∷ xs))) one.1 (goes_then more.1 (λ m q fs rs l e.
            gives ((w facts n).value ∷ rs) (λ g b. λ j. first.holds g (agree_on l b) j ∷ e g b j))),
      )

  abbrev pub none : Assignment
  none = nowhere (there zeros)

  abbrev pub plain_at : Typ → List Closed → Closed
  plain_at t cs = reading t none (closeds cs)

  form_widest : (y : Shape-F SuchS) (n : ℕ) (p : Point n) (facts : List Fact) → (c : Closed)
      × Goes past n p facts (widest_form types (map-Shape Shape (Walk Reading) (widest_of types) (shape_form y))) (λ g r. closed types (there g) own r ≡ c)
  unfolding WidestGoes
  form_widest S.Unit n p facts = (plain_at U.Unit [], gives (R.Widened I.Unit) (λ g b. widened_at g I.Unit W.Unit I.rolls-Unit))
  form_widest S.Bool n p facts = (
    plain_at U.Bool [],
    gives (R.Widened (I.Truth (C.Truth true))) (λ g b. widened_at g (I.Truth (C.Truth true)) (W.Truth (C.Truth true)) (I.rolls-Truth (C.Truth true))),
  )
  form_widest S.Bit n p facts = (plain_at U.Bit [], gives (R.Widened I.Bit) (λ g b. widened_at g I.Bit W.Bit I.rolls-Bit))
  form_widest S.Bits n p facts = (
    plain_at (U.Bits (constant (pos 0))) [],
    goes_then (fresh_integer (pos 0)) (λ m q fs v l e. gives (R.Widened (I.Bits (variable v))) (λ g b.
        widened_at g (I.Bits (variable v)) (W.Bits (variable v)) (I.rolls-Bits (variable v))
        ∙ ap (λ z. plain_at (U.Bits (constant z)) []) (variable_is past g v ∙ e g b))),
  )
  form_widest S.Int n p facts = (
    plain_at (U.Range (constant least) (constant most)) [],
    gives (R.Widened (I.Integer zero_num)) (λ g b. widened_at g (I.Integer zero_num) (W.Integer zero_num) (I.rolls-Integer zero_num)),
  )
  form_widest S.String n p facts = (plain_at U.String [], gives (R.Widened I.String) (λ g b. widened_at g I.String W.String I.rolls-String))
  form_widest (S.List y) n p facts =
      let one = y.1 n p facts in (
        plain_at (U.List (U.Variable 0)) (one.0 ∷ []),
        goes_then one.1 (λ m q fs r l e. gives (R.Widened (I.List r)) (λ g b.
            widened_at g (I.List r) (W.List r) (I.rolls-List r) ∙ ap (λ c. plain_at (U.List (U.Variable 0)) (c ∷ [])) (e g b))),
      )
  form_widest (S.Vector y) n p facts =
      let w : Walk ℕ = fresh in
      let first : Goes past n p facts fresh (λ g v. g v ≡ pos 0) = fresh_integer (pos 0) in
      let one = y.1 (w facts n).next first.goes.point (w facts n).facts in (
        plain_at (U.Vector (constant (pos 0)) (U.Variable 0)) (one.0 ∷ []),
        goes_on (λ v. bind (widest_of types y.0) (λ r. give (R.Widened (I.Vector (variable v) r)))) first (goes_then one.1 (λ m q fs r l e.
            let v = (w facts n).value in
            gives (R.Widened (I.Vector (variable v) r)) (λ g b.
            widened_at g (I.Vector (variable v) r) (W.Vector (variable v) r) (I.rolls-Vector (variable v) r)
            ∙ (λ j. plain_at (U.Vector (constant ((variable_is past g v ∙ first.goes.holds g (agree_on l b)) j)) (U.Variable 0)) (e g b j ∷ []))))),
      )
  form_widest (S.Tuple ys) n p facts =
      let all = turn_goes ys n p facts in (
        tuple_of none all.0,
        goes_then all.1 (λ m q fs rs l e. gives (R.Parts rs) (λ g b.
            closed_is types (there g) own (R.Parts rs) (W.Parts rs) (R.rolls-Parts rs) ∙ ap (tuple_of none) (e g b))),
      )
  form_widest (S.Named u ys) n p facts =
      let ps = parameters_of (slice_get types.definitions u) in
      let w = fresh_indices ps in
      let one = indices_go ps n p facts in
      let first = one.1.goes in
      let more = turn_goes ys (w facts n).next first.point (w facts n).facts in (
        plain_at (U.Named u one.0 (type_variables 0 more.0)) more.0,
        goes_on (λ is. bind (in_turn (map (widest_of types) (shapes_in ys))) (λ rs. give (R.Widened (I.Named u is rs)))) one.1 (goes_then more.1
            (λ m q fs rs l e.
            let is = (w facts n).value in
            gives (R.Widened (I.Named u is rs)) (λ g b.
            widened_at g (I.Named u is rs) (W.Named u is rs) (I.rolls-Named u is rs)
            ∙ (λ j. plain_at (U.Named u (first.holds g (agree_on l b) j) (type_variables 0 (e g b j))) (e g b j))))),
      )
  form_widest (S.Variable i) n p facts = (
    or_no_value none (slice_get own i),
    gives (R.Widened (I.Variable i)) (λ g b.
        widened_at g (I.Variable i) (W.Variable i) (I.rolls-Variable i) ∙ ap (λ m. m.wide) (variable_same types past own g zeros i)),
  )
  form_widest S.Hole n p facts = (plain_at (U.Variable 0) [], gives R.Hole (λ g b. closed_is types (there g) own R.Hole W.Hole R.rolls-Hole))
  form_widest S.Never n p facts = (plain_at (U.Variable 0) [], gives R.Hole (λ g b. closed_is types (there g) own R.Hole W.Hole R.rolls-Hole))

  rolled_widest : (y : Shape-F SuchS) → WidestGoes (roll-Shape (shape_form y))
  unfolding WidestGoes
  rolled_widest y n p facts =
      subst (λ w. (c : Closed) × Goes past n p facts w (λ g r. closed types (there g) own r ≡ c)) (sym (widest_is (shape_form y))) (form_widest y n p facts)

  widest_goes : (s : Shape) → WidestGoes s
  widest_goes = ind-Shape WidestGoes (λ e y is. subst (λ d. WidestGoes (roll-Shape d)) is (rolled_widest y))

  -- ---- numbers and truths, where every variable from before the ways is fixed

  module _ {m : ℕ} (f : Point m) (full : IsFull f) (h : Integers) (agree : Agree f h) where
    same_before : {n : ℕ} {p : Point n} (l : Later f p) (g : Integers) → Agree p g → (i : ℕ) → i < m → g i ≡ h i
    same_before l g a i less = sym ((agree_on l a).same i (full i less)) ∙ agree.same i (full i less)

    -- a number that is kept is this one, and any other may be
    num_goes : {n : ℕ} {p : Point n} {facts : List Fact} → Later f p → (t : Num) (z : ℤ) → (is_below m t ≡ true → z ≡ number (there h) t)
        → Goes past n p facts (kept_num m t) (λ g u. number (there g) u ≡ z)
    unfolding kept_num
    num_goes {n} {p} {facts} l t z is_so = by (is_below m t) refl
      where
        by : (b : Bool) → is_below m t ≡ b → Goes past n p facts (if b then give t else bind fresh (λ v. give (variable v))) (λ g u. number (there g) u ≡ z)
        by true e = gives t (λ g a. number_below past m g h (same_before l g a) t e ∙ sym (is_so e))
        by false e = goes_then (fresh_integer z) (λ k q fs v b c. gives (variable v) (λ g a. variable_is past g v ∙ c g a))

    con_goes : {n : ℕ} {p : Point n} {facts : List Fact} → Later f p → (t : Con) (c : Bool) → (is_con_below m t ≡ true → c ≡ true_in (there h) t)
        → Goes past n p facts (kept_con m t) (λ g u. true_in (there g) u ≡ c)
    unfolding kept_con
    con_goes {n} {p} {facts} l t c is_so = by (is_con_below m t) refl
      where
        by : (b : Bool) → is_con_below m t ≡ b → Goes past n p facts (if b then give t else bind fresh (λ v. give (C.Holds v)))
            (λ g u. true_in (there g) u ≡ c)
        by true e = gives t (λ g a. truth_below past m g h (same_before l g a) t e ∙ sym (is_so e))
        by false e =
            goes_then (fresh_integer (if c then pos 1 else pos 0)) (λ k q fs v b d. gives (C.Holds v) (λ g a.
            holds_is (there g) v ∙ ap (int_le (pos 1)) (d g a) ∙ bit_of c))

    -- an argument of another way: the same, where that of the first is kept
    abbrev pub Agrees : Index → Index → Type 0
    Agrees (N.Number t) (N.Number u) = is_below m t ≡ true → number (there h) u ≡ number (there h) t
    Agrees (N.Truth c) (N.Truth d) = is_con_below m c ≡ true → true_in (there h) d ≡ true_in (there h) c
    Agrees i j = ⊥

    abbrev pub AllAgree : List Index → List Index → Type 0
    AllAgree [] [] = Unit {0}
    AllAgree (i ∷ is) (j ∷ js) = Agrees i j × AllAgree is js
    AllAgree is js = ⊥

    one_agrees : (i : Index) → Agrees i i
    one_agrees (N.Number t) = λ e. refl
    one_agrees (N.Truth c) = λ e. refl

    all_agree : (is : List Index) → AllAgree is is
    all_agree [] = tt
    all_agree (i ∷ is) = (one_agrees i, all_agree is)

    argument_goes : {n : ℕ} {p : Point n} {facts : List Fact} → Later f p → (i j : Index) → Agrees i j
        → Goes past n p facts (kept_index m i) (λ g x. IsAs (there g) (there h) j x)
    argument_goes l (N.Number t) (N.Number u) same =
        goes_then (num_goes l t (number (there h) u) same) (λ k q fs x b c. gives (N.Number x) (λ g a. record {
          numbers = c g a;
          truths = truth_is (there g) false ∙ sym (truth_is (there h) false);
          as_there = ap (λ z. N.Number (constant z)) (c g a);
        }))
    argument_goes l (N.Truth t) (N.Truth u) same =
        goes_then (con_goes l t (true_in (there h) u) same) (λ k q fs x b c. gives (N.Truth x) (λ g a. record {
          numbers = number_constant (there g) (pos 0) ∙ sym (number_constant (there h) (pos 0));
          truths = c g a;
          as_there = ap (λ z. N.Truth (C.Truth z)) (c g a);
        }))
    argument_goes l (N.Number t) (N.Truth u) same = absurd same
    argument_goes l (N.Truth t) (N.Number u) same = absurd same

    arguments_go : {n : ℕ} {p : Point n} {facts : List Fact} → Later f p → (is js : List Index) → AllAgree is js
        → Goes past n p facts (each (kept_index m) is) (λ g xs. AreAs (there g) (there h) js xs)
    arguments_go l [] [] same = gives [] (λ g a. tt)
    arguments_go l [] (j ∷ js) same = absurd same
    arguments_go l (i ∷ is) [] same = absurd same
    arguments_go l (i ∷ is) (j ∷ js) same =
        goes_then (argument_goes l i j same.0) (λ k q fs x b c. goes_then (arguments_go (later_on l b) is js same.1) (λ k2 q2 fs2 xs b2 c2.
        gives (x ∷ xs) (λ g a. (c g (agree_on b2 a), c2 g a))))

    -- as constants
    abbrev pub said : List Index → List Index
    said js = map (index_there (there h)) js

    abbrev Said : List Index → Integers → List Index → Type 0
    Said js g xs = (assigned (there g) xs ≡ assigned (there h) js) × (map (index_there (there g)) xs ≡ said js)

    each_goes : {n : ℕ} {p : Point n} {facts : List Fact} → Later f p → (is js : List Index) → AllAgree is js
        → Goes past n p facts (kept_each m is) (Said js)
    unfolding kept_each
    each_goes l is js same =
        goes_as (arguments_go l is js same) (λ g xs e. (
          assigned_as (there g) (there h) (λ o q. beyond_past past g o ∙ sym (beyond_past past h q)) js xs e,
          indices_as (there g) (there h) js xs e,
        ))

    -- ---- forms of values whose numbers and types tell all

    abbrev pub ClosedsOf : Integers → List Reading → List Closed
    ClosedsOf g rs = map (closed types (there g) own) rs

    abbrev pub WidesOf : Integers → List Indices → List Closed
    WidesOf g is = wides (map (meant types (there g) own) is)

    abbrev pub Held : Closed → (n : ℕ) → Point n → List Fact → Walk Indices → Type 0
    Held c0 n p facts walk = (j : Meant) × Wider types c0 j.wide × ((v : Value) → belongs types v j.wide ≡ true → j.holds v ≡ true)
        × Goes past n p facts walk (λ g i. meant types (there g) own i ≡ j)

    pub held_wide : (c0 : Closed) {n : ℕ} {p : Point n} {facts : List Fact} {walk : Walk Indices} → Held c0 n p facts walk → Gives wide_at c0 n p facts walk
    held_wide c0 r = (r.0.wide, r.1, goes_as r.3 (λ g i e. ap (λ j. j.wide) e))

    pub held_value : (c0 : Closed) {n : ℕ} {p : Point n} {facts : List Fact} {walk : Walk Indices} (v : Value) → Held c0 n p facts walk
        → belongs types v c0 ≡ true → Opened types past own v n p facts walk
    held_value c0 v r k = (r.0, r.2 v (r.1 v k), r.3)

    still_wider : {c d : Closed} → c ≡ d → Wider types c d
    still_wider e v k = ap (belongs types v) (sym e) ∙ k

    never_hold : (g : Integers) (w : Value-F Value) → form_holds types (there g) own W.Never w ≡ form_holds types (there zeros) own W.Never w
    never_hold g w = refl

    never_same : (g : Integers) → meant_form types (there g) own W.Never ≡ meant_form types (there zeros) own W.Never
    never_same g = λ j. record { holds = λ v. never_hold g (out-Value v) j; wide = (meant_by W.Never).wide }

    pub never_held : (n : ℕ) (p : Point n) (facts : List Fact) → Held (plain_at (U.Variable 0) []) n p facts (give I.Never)
    never_held n p facts = (
      meant_by W.Never,
      (λ v k. k),
      (λ v k. no (sym (nothing_belongs types v (there zeros)) ∙ k)),
      gives I.Never (λ g a. meant_is types (there g) own I.Never W.Never I.rolls-Never ∙ never_same g),
    )

    pub unit_held : (n : ℕ) (p : Point n) (facts : List Fact) → Held (plain_at U.Unit []) n p facts (give I.Unit)
    unit_held n p facts = (
      meant_by W.Unit,
      (λ v k. k),
      (λ v k. sym (belongs_form types v T.Unit U.Unit none no_readings U.rolls-Unit ∙ unit_as types past own zeros (out-Value v)) ∙ k),
      gives I.Unit (λ g a. meant_is types (there g) own I.Unit W.Unit I.rolls-Unit ∙ units_same types past own g zeros),
    )

    pub bit_held : (n : ℕ) (p : Point n) (facts : List Fact) → Held (plain_at U.Bit []) n p facts (give I.Bit)
    bit_held n p facts = (
      meant_by W.Bit,
      (λ v k. k),
      (λ v k. sym (belongs_form types v T.Bit U.Bit none no_readings U.rolls-Bit ∙ bit_as types past own zeros (out-Value v)) ∙ k),
      gives I.Bit (λ g a. meant_is types (there g) own I.Bit W.Bit I.rolls-Bit ∙ bit_same types past own g zeros),
    )

    pub string_held : (n : ℕ) (p : Point n) (facts : List Fact) → Held (plain_at U.String []) n p facts (give I.String)
    string_held n p facts = (
      meant_by W.String,
      (λ v k. k),
      (λ v k. sym (belongs_form types v T.String U.String none no_readings U.rolls-String ∙ string_as types past own zeros (out-Value v)) ∙ k),
      gives I.String (λ g a. meant_is types (there g) own I.String W.String I.rolls-String ∙ strings_same types past own g zeros),
    )

    pub variable_held : (i n : ℕ) (p : Point n) (facts : List Fact) → Held (wide_of types (there h) own (W.Variable i)) n p facts (give (I.Variable i))
    variable_held i n p facts = (
      meant_by (W.Variable i),
      still_wider (ap (λ j. j.wide) (variable_same types past own h zeros i)),
      (λ v k. k),
      gives (I.Variable i) (λ g a. meant_is types (there g) own (I.Variable i) (W.Variable i) (I.rolls-Variable i) ∙ variable_same types past own g zeros i),
    )

    -- a number as a constant is the same everywhere
    constant_at : (g : Integers) (u : Num) (z : ℤ) → number (there g) u ≡ z → number (there g) u ≡ number (there zeros) (constant z)
    constant_at g u z e = e ∙ sym (number_constant (there zeros) z)

    pub bits_held : (t : Num) (z : ℤ) → (is_below m t ≡ true → z ≡ number (there h) t) → (n : ℕ) (p : Point n) (facts : List Fact) → Later f p
        → Held (plain_at (U.Bits (constant z)) []) n p facts (bind (kept_num m t) (λ u. give (I.Bits u)))
    bits_held t z is_so n p facts l =
        let u = number_there (there zeros) (constant z) in (
          meant_by (W.Bits (constant z)),
          still_wider (ap (λ y. plain_at (U.Bits (constant y)) []) (sym (number_constant (there zeros) z))),
          (λ v k. sym (belongs_form types v (T.Bits u) (U.Bits u) none no_readings (U.rolls-Bits u)
              ∙ bits_as types past own zeros (constant z) (out-Value v)) ∙ k),
          goes_then (num_goes l t z is_so) (λ k q fs x b e. gives (I.Bits x) (λ g a.
              meant_is types (there g) own (I.Bits x) (W.Bits x) (I.rolls-Bits x)
              ∙ bits_same types past own g zeros x (constant z) (constant_at g x z (e g a)))),
        )

    abbrev pub closed_at : Integers → Reading → Closed
    closed_at g r = closed types (there g) own r

    pub list_held : (c0 : Closed) (w : Walk Reading) (n : ℕ) (p : Point n) (facts : List Fact) → Gives closed_at c0 n p facts w
        → Held (plain_at (U.List (U.Variable 0)) (c0 ∷ [])) n p facts (bind w (λ q. give (I.List q)))
    list_held c0 w n p facts one =
        let c = one.0 in (
          meant_by (W.List c),
          over_wider types (U.List (U.Variable 0)) none (c0 ∷ []) (c ∷ []) (one.1, tt),
          (λ v k. sym (belongs_form types v (T.List (U.Variable 0)) (U.List (U.Variable 0)) none (closeds (c ∷ [])) (U.rolls-List (U.Variable 0))
              ∙ list_as types past own zeros c (out-Value v)) ∙ k),
          goes_then one.2 (λ k q fs r b e. gives (I.List r) (λ g a.
              meant_is types (there g) own (I.List r) (W.List r) (I.rolls-List r)
              ∙ lists_same types past own g zeros (closed types (there g) own r) c (e g a))),
        )

    pub vector_held : (t : Num) (z : ℤ) → (is_below m t ≡ true → z ≡ number (there h) t) → (c0 : Closed) (w : Walk Reading) (n : ℕ) (p : Point n)
        (facts : List Fact) → Later f p → ((k : ℕ) (q : Point k) (fs : List Fact) → Later p q → Gives closed_at c0 k q fs w)
        → Held (plain_at (U.Vector (constant z) (U.Variable 0)) (c0 ∷ [])) n p facts (bind (kept_num m t) (λ k. bind w (λ q. give (I.Vector k q))))
    vector_held t z is_so c0 w n p facts l rest =
        let x = kept_num m t in
        let number_goes : Goes past n p facts (kept_num m t) (λ g u. number (there g) u ≡ z) = num_goes l t z is_so in
        let first = number_goes.goes in
        let one = rest (x facts n).next first.point (x facts n).facts first.later in
        let c = one.0 in
        let u = number_there (there zeros) (constant z) in (
          meant_by (W.Vector (constant z) c),
          (λ v k. over_wider types (U.Vector u (U.Variable 0)) none (c0 ∷ []) (c ∷ []) (one.1, tt) v
              (ap (λ y. belongs types v (plain_at (U.Vector (constant y) (U.Variable 0)) (c0 ∷ []))) (number_constant (there zeros) z) ∙ k)),
          (λ v k. sym (belongs_form types v (T.Vector u (U.Variable 0)) (U.Vector u (U.Variable 0)) none (closeds (c ∷ [])) (U.rolls-Vector u (U.Variable 0))
              ∙ vector_as types past own zeros (constant z) c (out-Value v)) ∙ k),
          goes_on (λ k. bind w (λ q. give (I.Vector k q))) number_goes (goes_then one.2 (λ k q fs r b e.
              let y = (x facts n).value in
              gives (I.Vector y r) (λ g a.
              meant_is types (there g) own (I.Vector y r) (W.Vector y r) (I.rolls-Vector y r)
              ∙ vectors_same types past own g zeros y (constant z) (closed types (there g) own r) c
              (constant_at g y z (first.holds g (agree_on b a))) (e g a)))),
        )

    pub named_held : (u : ℕ) (is js : List Index) → AllAgree is js → (cs0 : List Closed) (w : Walk (List Reading)) (n : ℕ) (p : Point n)
        (facts : List Fact) → Later f p → ((k : ℕ) (q : Point k) (fs : List Fact) → Later p q → AllGive ClosedsOf cs0 k q fs w)
        → Held (plain_at (U.Named u (said js) (type_variables 0 cs0)) cs0) n p facts (bind (kept_each m is) (λ xs. bind w (λ qs. give (I.Named u xs qs))))
    named_held u is js same cs0 w n p facts l rest =
        let x = kept_each m is in
        let args = said js in
        let numbers_go : Goes past n p facts (kept_each m is) (Said js) = each_goes l is js same in
        let first = numbers_go.goes in
        let all = rest (x facts n).next first.point (x facts n).facts first.later in
        let cs = all.0 in
        let back : map (index_there (there zeros)) args ≡ args = indices_there past (there h) js in (
          meant_by (W.Named u args cs),
          (λ v k. ap (λ ks. belongs types v (plain_at (U.Named u ks (type_variables 0 cs)) cs)) back ∙ named_wider types u args none cs0 cs all.1 v k),
          (λ v k.
              let ks = map (index_there (there zeros)) args in
              sym (belongs_form types v (T.Named u ks (type_variables 0 cs)) (U.Named u ks (type_variables 0 cs)) none (closeds cs)
              (U.rolls-Named u ks (type_variables 0 cs)) ∙ named_as types past own zeros u args cs (out-Value v)) ∙ k),
          goes_on (λ xs. bind w (λ qs. give (I.Named u xs qs))) numbers_go (goes_then all.2 (λ k q fs qs b e.
              let xs = (x facts n).value in
              gives (I.Named u xs qs) (λ g a.
              let said_so = first.holds g (agree_on b a) in
              meant_is types (there g) own (I.Named u xs qs) (W.Named u xs qs) (I.rolls-Named u xs qs)
              ∙ named_same types past own g zeros u xs args (ClosedsOf g qs) cs (said_so.0 ∙ sym (assigned_there past h js)) (said_so.1 ∙ sym back) (e g a)))),
        )

    pub tuple_held : (cs0 : List Closed) (w : Walk (List Indices)) (n : ℕ) (p : Point n) (facts : List Fact) → AllGive WidesOf cs0 n p facts w
        → Gives wide_at (tuple_of none cs0) n p facts (bind w (λ is. give (I.Tuple is)))
    tuple_held cs0 w n p facts all = (
      tuple_of none all.0,
      tuple_wider types none cs0 all.0 all.1,
      goes_then all.2 (λ k q fs is b e. gives (I.Tuple is) (λ g a.
          ap (λ j. j.wide) (meant_is types (there g) own (I.Tuple is) (W.Tuple is) (I.rolls-Tuple is)) ∙ ap (tuple_of none) (e g a))),
    )

    -- ---- an integer and a truth, of which no more is known

    pub integer_wide : (n : ℕ) (p : Point n) (facts : List Fact)
        → Gives wide_at (plain_at (U.Range (constant least) (constant most)) []) n p facts (kept_integer false)
    unfolding kept_integer
    integer_wide n p facts = (
      plain_at (U.Range (constant least) (constant most)) [],
      (λ v k. k),
      gives (I.Integer zero_num) (λ g a. ap (λ j. j.wide) (meant_is types (there g) own (I.Integer zero_num) (W.Integer zero_num) (I.rolls-Integer zero_num))),
    )

    pub truth_wide : (n : ℕ) (p : Point n) (facts : List Fact) → Gives wide_at (plain_at U.Bool []) n p facts (kept_truth false)
    unfolding kept_truth
    truth_wide n p facts =
        let c : Con = C.Truth true in (
          plain_at U.Bool [],
          (λ v k. k),
          gives (I.Truth c) (λ g a. ap (λ j. j.wide) (meant_is types (there g) own (I.Truth c) (W.Truth c) (I.rolls-Truth c))),
        )

    integer_opens : (v : Value) (w : Value-F Value) (n : ℕ) (p : Point n) (facts : List Fact) → out-Value v ≡ w
        → form_asked types w (T.Range (constant least) (constant most)) none no_readings ≡ true → Opened types past own v n p facts (any_integer M.Unnamed)
    unfolding any_integer
    integer_opens v (D.Integer z) n p facts e k =
        let small : is_small z ≡ true = (and_parts _ (is_small z) k).1 in
        between_known types past own M.Unnamed (Some least_num) (Some largest_num) z v e small
        (λ t is g a. ap (λ u. int_le (number (there g) u) z) (sym (some_same least_num t is))
        ∙ ap (λ y. int_le y z) (number_constant (there g) least) ∙ above_least z small)
        (λ t is g a. ap (λ u. int_le z (number (there g) u)) (sym (some_same largest_num t is))
        ∙ ap (int_le z) (number_constant (there g) most) ∙ below_most z small)
    integer_opens v w n p facts e k = no k

    pub integer_value : (n : ℕ) (p : Point n) (facts : List Fact) (v : Value) → belongs types v (plain_at (U.Range (constant least) (constant most)) []) ≡ true
        → Opened types past own v n p facts (kept_integer true)
    unfolding kept_integer
    integer_value n p facts v k =
        integer_opens v (out-Value v) n p facts refl
        (sym (belongs_form types v (T.Range (constant least) (constant most)) (U.Range (constant least) (constant most)) none no_readings
        (U.rolls-Range (constant least) (constant most))) ∙ k)

    truth_opens : (v : Value) (w : Value-F Value) (n : ℕ) (p : Point n) (facts : List Fact) → out-Value v ≡ w
        → form_asked types w T.Bool none no_readings ≡ true → Opened types past own v n p facts (any_truth M.Unnamed)
    truth_opens v (D.Truth b) n p facts e k = any_truth_known types past own M.Unnamed b v e
    truth_opens v w n p facts e k = no k

    pub truth_value : (n : ℕ) (p : Point n) (facts : List Fact) (v : Value) → belongs types v (plain_at U.Bool []) ≡ true
        → Opened types past own v n p facts (kept_truth true)
    unfolding kept_truth
    truth_value n p facts v k =
        truth_opens v (out-Value v) n p facts refl (sym (belongs_form types v T.Bool U.Bool none no_readings U.rolls-Bool) ∙ k)

    tuple_opens : (cs : List Closed) (w : Walk (List Indices)) (v : Value) (x : Value-F Value) (n : ℕ) (p : Point n) (facts : List Fact)
        → out-Value v ≡ x → form_asked types x (T.Tuple (type_variables 0 cs)) none (closeds cs) ≡ true
        → ((vs : List Value) → each_of types past own vs cs ≡ true → AllOpened types past own vs n p facts w)
        → Opened types past own v n p facts (bind w (λ is. give (I.Tuple is)))
    tuple_opens cs w v (D.Tuple vs) n p facts e k all = tuple_known types past own v vs e (all vs (sym (tuple_as types past own none cs vs) ∙ k))
    tuple_opens cs w v x n p facts e k all = no k

    pub tuple_value : (cs : List Closed) (w : Walk (List Indices)) (v : Value) (n : ℕ) (p : Point n) (facts : List Fact)
        → belongs types v (tuple_of none cs) ≡ true
        → ((vs : List Value) → each_of types past own vs cs ≡ true → AllOpened types past own vs n p facts w)
        → Opened types past own v n p facts (bind w (λ is. give (I.Tuple is)))
    tuple_value cs w v n p facts k all =
        tuple_opens cs w v (out-Value v) n p facts refl
        (sym (belongs_form types v (T.Tuple (type_variables 0 cs)) (U.Tuple (type_variables 0 cs)) none (closeds cs) (U.rolls-Tuple (type_variables 0 cs))) ∙ k)
        all

    -- ---- what is kept

    KeepsType : Reading → Type 0
    KeepsType r = (s : Shape) (n : ℕ) (p : Point n) (facts : List Fact) → Later f p
        → Gives (λ g q. closed types (there g) own q) (closed types (there h) own r) n p facts (kept_type types m r s)

    KeepsWide : Indices → Type 0
    KeepsWide i = (s : Shape) (n : ℕ) (p : Point n) (facts : List Fact) → Later f p → Gives wide_at (wide_at h i) n p facts (kept_value types m i false s)

    KeepsValue : Indices → Type 0
    KeepsValue i = (s : Shape) (n : ℕ) (p : Point n) (facts : List Fact) → Later f p → (v : Value) → belongs types v (wide_at h i) ≡ true
        → Opened types past own v n p facts (kept_value types m i true s)

    Keeps : Indices → Type 0
    Keeps i = KeepsWide i × KeepsValue i

    abbrev SuchI : Type 0
    SuchI = (i : Indices) × Keeps i

    abbrev SuchR : Type 0
    SuchR = (r : Reading) × KeepsType r

    abbrev values_in : List SuchI → List Indices
    values_in ys = map (λ (y : SuchI). y.0) ys

    abbrev readings_in : List SuchR → List Reading
    readings_in ys = map (λ (y : SuchR). y.0) ys

    abbrev indices_of : Indices-F SuchI SuchR → Indices-F Indices Reading
    indices_of y = map-Indices SuchI SuchR Indices Reading (λ p. p.0) (λ p. p.0) y

    abbrev reading_of : Reading-F SuchI SuchR → Reading-F Indices Reading
    reading_of y = map-Reading SuchI SuchR Indices Reading (λ p. p.0) (λ p. p.0) y

    abbrev pub keeping : Indices-F Indices Reading → Bool → Shape → Walk Indices
    keeping x opens s = kept_indices m (map-Indices Indices Reading KeepIndices (Keep Reading) (kept_value types m) (kept_type types m) x) opens s

    abbrev pub keeping_type : Reading-F Indices Reading → Shape → Walk Reading
    keeping_type x s = kept_reading types m (map-Reading Indices Reading KeepIndices (Keep Reading) (kept_value types m) (kept_type types m) x) s

    pub value_is : (x : Indices-F Indices Reading) (opens : Bool) (s : Shape) → kept_value types m (roll-Indices x) opens s ≡ keeping x opens s
    unfolding kept_value kept_type
    value_is x opens s = ap (λ (k : KeepIndices). k opens s) (fold-roll-Indices KeepIndices (Keep Reading) (kept_indices m) (kept_reading types m) x)

    pub type_is : (x : Reading-F Indices Reading) (s : Shape) → kept_type types m (roll-Reading x) s ≡ keeping_type x s
    unfolding kept_value kept_type
    type_is x s = ap (λ (k : Keep Reading). k s) (fold-roll-Reading KeepIndices (Keep Reading) (kept_indices m) (kept_reading types m) x)

    types_keep : (ys : List SuchR) (ss : List Shape) (n : ℕ) (p : Point n) (facts : List Fact) → Later f p
        → AllGive ClosedsOf (ClosedsOf h (readings_in ys)) n p facts (each_kept (map (kept_type types m) (readings_in ys)) ss)
    unfolding KeepsType
    types_keep [] ss n p facts l = ([], tt, gives [] (λ g a. refl))
    types_keep (y ∷ ys) [] n p facts l =
        both_give (λ g q. closed types (there g) own q) ClosedsOf (closed types (there h) own y.0) (ClosedsOf h (readings_in ys)) (λ g x xs. refl)
        (y.1 V.Hole n p facts l) (λ k q fs b. types_keep ys [] k q fs (later_on l b))
    types_keep (y ∷ ys) (s ∷ ss) n p facts l =
        both_give (λ g q. closed types (there g) own q) ClosedsOf (closed types (there h) own y.0) (ClosedsOf h (readings_in ys)) (λ g x xs. refl)
        (y.1 s n p facts l) (λ k q fs b. types_keep ys ss k q fs (later_on l b))

    wides_keep : (ys : List SuchI) (ss : List Shape) (n : ℕ) (p : Point n) (facts : List Fact) → Later f p
        → AllGive WidesOf (WidesOf h (values_in ys)) n p facts (each_kept (opened_or_not false (map (kept_value types m) (values_in ys))) ss)
    unfolding Keeps KeepsWide
    wides_keep [] ss n p facts l = ([], tt, gives [] (λ g a. refl))
    wides_keep (y ∷ ys) [] n p facts l =
        both_give wide_at WidesOf (wide_at h y.0) (WidesOf h (values_in ys)) (λ g x xs. refl)
        (y.1.0 V.Hole n p facts l) (λ k q fs b. wides_keep ys [] k q fs (later_on l b))
    wides_keep (y ∷ ys) (s ∷ ss) n p facts l =
        both_give wide_at WidesOf (wide_at h y.0) (WidesOf h (values_in ys)) (λ g x xs. refl)
        (y.1.0 s n p facts l) (λ k q fs b. wides_keep ys ss k q fs (later_on l b))

    values_keep : (ys : List SuchI) (ss : List Shape) (n : ℕ) (p : Point n) (facts : List Fact) → Later f p → (vs : List Value)
        → each_of types past own vs (WidesOf h (values_in ys)) ≡ true
        → AllOpened types past own vs n p facts (each_kept (opened_or_not true (map (kept_value types m) (values_in ys))) ss)
    unfolding Keeps KeepsValue
    values_keep [] ss n p facts l [] e = ([], refl, gives [] (λ g a. refl))
    values_keep [] ss n p facts l (v ∷ vs) e = no e
    values_keep (y ∷ ys) ss n p facts l [] e = no e
    values_keep (y ∷ ys) [] n p facts l (v ∷ vs) e =
        let k = and_parts (belongs types v (wide_at h y.0)) (each_of types past own vs (WidesOf h (values_in ys))) e in
        both_opened types past own v vs (y.1.1 V.Hole n p facts l v k.0) (λ j q fs b. values_keep ys [] j q fs (later_on l b) vs k.1)
    values_keep (y ∷ ys) (s ∷ ss) n p facts l (v ∷ vs) e =
        let k = and_parts (belongs types v (wide_at h y.0)) (each_of types past own vs (WidesOf h (values_in ys))) e in
        both_opened types past own v vs (y.1.1 s n p facts l v k.0) (λ j q fs b. values_keep ys ss j q fs (later_on l b) vs k.1)

    -- ---- each form

    -- of the type that this form widens to
    abbrev wide_to : Indices-F SuchI SuchR → Closed
    wide_to y = wide_of types (there h) own (meanings types (there h) own (indices_of y))

    form_keeps_wide : (y : Indices-F SuchI SuchR) (s : Shape) (n : ℕ) (p : Point n) (facts : List Fact) → Later f p
        → Gives wide_at (wide_to y) n p facts (keeping (indices_of y) false s)
    unfolding KeepsType
    form_keeps_wide W.Never s n p facts l = held_wide _ (never_held n p facts)
    form_keeps_wide W.Unit s n p facts l = held_wide _ (unit_held n p facts)
    form_keeps_wide (W.Truth c) s n p facts l = truth_wide n p facts
    form_keeps_wide W.Bit s n p facts l = held_wide _ (bit_held n p facts)
    form_keeps_wide (W.Bits t) s n p facts l = held_wide _ (bits_held t (number (there h) t) (λ e. refl) n p facts l)
    form_keeps_wide (W.Integer t) s n p facts l = integer_wide n p facts
    form_keeps_wide W.String s n p facts l = held_wide _ (string_held n p facts)
    form_keeps_wide (W.List y) s n p facts l =
        held_wide _ (list_held (closed_at h y.0) (kept_type types m y.0 (item_shape s)) n p facts (y.1 (item_shape s) n p facts l))
    form_keeps_wide (W.Vector t y) s n p facts l =
        held_wide _ (vector_held t (number (there h) t) (λ e. refl) (closed_at h y.0) (kept_type types m y.0 (item_shape s)) n p facts l
        (λ k q fs b. y.1 (item_shape s) k q fs (later_on l b)))
    form_keeps_wide (W.Tuple ys) s n p facts l =
        tuple_held (WidesOf h (values_in ys)) (each_kept (opened_or_not false (map (kept_value types m) (values_in ys))) (part_shapes s)) n p facts
        (wides_keep ys (part_shapes s) n p facts l)
    form_keeps_wide (W.Named u is ys) s n p facts l =
        held_wide _ (named_held u is is (all_agree is) (ClosedsOf h (readings_in ys)) (each_kept (map (kept_type types m) (readings_in ys)) (part_shapes s))
        n p facts l (λ k q fs b. types_keep ys (part_shapes s) k q fs (later_on l b)))
    form_keeps_wide (W.Variable i) s n p facts l = held_wide _ (variable_held i n p facts)

    form_keeps_value : (y : Indices-F SuchI SuchR) (s : Shape) (n : ℕ) (p : Point n) (facts : List Fact) → Later f p → (v : Value)
        → belongs types v (wide_to y) ≡ true → Opened types past own v n p facts (keeping (indices_of y) true s)
    unfolding KeepsType
    form_keeps_value W.Never s n p facts l v k = held_value _ v (never_held n p facts) k
    form_keeps_value W.Unit s n p facts l v k = held_value _ v (unit_held n p facts) k
    form_keeps_value (W.Truth c) s n p facts l v k = truth_value n p facts v k
    form_keeps_value W.Bit s n p facts l v k = held_value _ v (bit_held n p facts) k
    form_keeps_value (W.Bits t) s n p facts l v k = held_value _ v (bits_held t (number (there h) t) (λ e. refl) n p facts l) k
    form_keeps_value (W.Integer t) s n p facts l v k = integer_value n p facts v k
    form_keeps_value W.String s n p facts l v k = held_value _ v (string_held n p facts) k
    form_keeps_value (W.List y) s n p facts l v k =
        held_value _ v (list_held (closed_at h y.0) (kept_type types m y.0 (item_shape s)) n p facts (y.1 (item_shape s) n p facts l)) k
    form_keeps_value (W.Vector t y) s n p facts l v k =
        held_value _ v (vector_held t (number (there h) t) (λ e. refl) (closed_at h y.0) (kept_type types m y.0 (item_shape s)) n p facts l
        (λ j q fs b. y.1 (item_shape s) j q fs (later_on l b))) k
    form_keeps_value (W.Tuple ys) s n p facts l v k =
        tuple_value (WidesOf h (values_in ys)) (each_kept (opened_or_not true (map (kept_value types m) (values_in ys))) (part_shapes s)) v n p facts k
        (λ vs e. values_keep ys (part_shapes s) n p facts l vs e)
    form_keeps_value (W.Named u is ys) s n p facts l v k =
        held_value _ v (named_held u is is (all_agree is) (ClosedsOf h (readings_in ys)) (each_kept (map (kept_type types m) (readings_in ys)) (part_shapes s))
        n p facts l (λ j q fs b. types_keep ys (part_shapes s) j q fs (later_on l b))) k
    form_keeps_value (W.Variable i) s n p facts l v k = held_value _ v (variable_held i n p facts) k

    rolled_keeps : (y : Indices-F SuchI SuchR) → Keeps (roll-Indices (indices_of y))
    unfolding Keeps KeepsWide KeepsValue
    rolled_keeps y =
        let x = indices_of y in
        let is : wide_at h (roll-Indices (indices_of y)) ≡ wide_to y =
        ap (λ j. j.wide) (meant_is types (there h) own (roll-Indices (indices_of y)) (indices_of y) refl) in (
          (λ s n p facts l.
              let r = form_keeps_wide y s n p facts l in (
                r.0,
                (λ v k. r.1 v (ap (belongs types v) (sym is) ∙ k)),
                subst (λ w. Goes past n p facts w (λ g j. wide_at g j ≡ r.0)) (sym (value_is (indices_of y) false s)) r.2,
              )),
          (λ s n p facts l v k.
              subst (λ w. Opened types past own v n p facts w) (sym (value_is (indices_of y) true s))
              (form_keeps_value y s n p facts l v (ap (belongs types v) (sym is) ∙ k))),
        )

    -- ---- types of the walk

    of_keeps : (t : Typ) (is : List Index) (ys : List SuchR) (ss : List Shape) (n : ℕ) (p : Point n) (facts : List Fact) → Later f p
        → Gives (λ g q. closed types (there g) own q) (closed types (there h) own (R.Of t is (readings_in ys))) n p facts
        (bind (kept_each m is) (λ js. bind (each_kept (map (kept_type types m) (readings_in ys)) ss) (λ qs. give (R.Of (wide_typ t) js qs))))
    of_keeps t is ys ss n p facts l =
        let w = kept_each m is in
        let numbers_go : Goes past n p facts (kept_each m is) (Said is) = each_goes l is is (all_agree is) in
        let first = numbers_go.goes in
        let all = types_keep ys ss (w facts n).next first.point (w facts n).facts (later_on l first.later) in
        let cs = all.0 in
        let nu = assigned (there h) is in
        let stood : List Closed → Closeds = λ ds. closeds (types_or_own ds own) in (
          reading (wide_typ t) nu (stood cs),
          (λ v k.
              over_wider types (wide_typ t) nu (types_or_own (ClosedsOf h (readings_in ys)) own) (types_or_own cs own)
              (own_wider types (ClosedsOf h (readings_in ys)) cs own all.1) v
              (wide_typ_wider types t nu (stood (ClosedsOf h (readings_in ys))) v
              (sym (ap (belongs types v) (closed_is types (there h) own (R.Of t is (readings_in ys)) (W.Of t is (readings_in ys))
              (R.rolls-Of t is (readings_in ys)))) ∙ k))),
          goes_on (λ js. bind (each_kept (map (kept_type types m) (readings_in ys)) ss) (λ qs. give (R.Of (wide_typ t) js qs))) numbers_go (goes_then all.2
              (λ k q fs qs b e.
              let js = (w facts n).value in
              gives (R.Of (wide_typ t) js qs) (λ g a.
              closed_is types (there g) own (R.Of (wide_typ t) js qs) (W.Of (wide_typ t) js qs) (R.rolls-Of (wide_typ t) js qs)
              ∙ (λ j. reading (wide_typ t) ((first.holds g (agree_on b a)).0 j) (stood (e g a j)))))),
        )

    form_keeps_type : (y : Reading-F SuchI SuchR) (s : Shape) (n : ℕ) (p : Point n) (facts : List Fact) → Later f p
        → Gives (λ g q. closed types (there g) own q) (closed types (there h) own (roll-Reading (reading_of y))) n p facts (keeping_type (reading_of y) s)
    unfolding Keeps KeepsWide WidestGoes
    form_keeps_type (W.Of t is ys) s n p facts l =
        let r = of_keeps t is ys (variable_shapes 0 (length (map (kept_type types m) (readings_in ys))) t s) n p facts l in (
          r.0,
          (λ v k. r.1 v (ap (λ x. belongs types v (closed types (there h) own x)) (sym (R.rolls-Of t is (readings_in ys))) ∙ k)),
          r.2,
        )
    form_keeps_type (W.Widened y) s n p facts l =
        let r = y.1.0 s n p facts l in (
          r.0,
          (λ v k. r.1 v (sym (ap (belongs types v) (closed_is types (there h) own (roll-Reading (W.Widened y.0)) (W.Widened y.0) refl)) ∙ k)),
          goes_then r.2 (λ k q fs j b e. gives (R.Widened j) (λ g a.
              closed_is types (there g) own (R.Widened j) (W.Widened j) (R.rolls-Widened j) ∙ e g a)),
        )
    form_keeps_type (W.Parts ys) s n p facts l =
        let all = types_keep ys (part_shapes s) n p facts l in (
          tuple_of none all.0,
          (λ v k. tuple_wider types none (ClosedsOf h (readings_in ys)) all.0 all.1 v
              (sym (ap (belongs types v) (closed_is types (there h) own (roll-Reading (W.Parts (readings_in ys))) (W.Parts (readings_in ys)) refl)) ∙ k)),
          goes_then all.2 (λ k q fs qs b e. gives (R.Parts qs) (λ g a.
              closed_is types (there g) own (R.Parts qs) (W.Parts qs) (R.rolls-Parts qs) ∙ ap (tuple_of none) (e g a))),
        )
    form_keeps_type W.Hole s n p facts l =
        let r = widest_goes s n p facts in (
          r.0,
          (λ v k. no (sym (nothing_belongs types v (there h))
              ∙ sym (ap (belongs types v) (closed_is types (there h) own (roll-Reading W.Hole) W.Hole refl)) ∙ k)),
          r.1,
        )

    rolled_type : (y : Reading-F SuchI SuchR) → KeepsType (roll-Reading (reading_of y))
    unfolding KeepsType
    rolled_type y s n p facts l =
        subst (λ w. Gives (λ g q. closed types (there g) own q) (closed types (there h) own (roll-Reading (reading_of y))) n p facts w)
        (sym (type_is (reading_of y) s)) (form_keeps_type y s n p facts l)

    keeps : (i : Indices) → Keeps i
    keeps = ind-Indices Keeps KeepsType (λ e y is. subst (λ d. Keeps (roll-Indices d)) is (rolled_keeps y))
        (λ e y is. subst (λ d. KeepsType (roll-Reading d)) is (rolled_type y))

    -- a value of the widened type has what is kept of it, opened
    pub keeps_value : (i : Indices) (s : Shape) (n : ℕ) (p : Point n) (facts : List Fact) → Later f p → (v : Value)
        → belongs types v (wide_at h i) ≡ true → Opened types past own v n p facts (kept_value types m i true s)
    unfolding Keeps KeepsValue
    keeps_value i = (keeps i).1

    pub keeps_wide : (i : Indices) (s : Shape) (n : ℕ) (p : Point n) (facts : List Fact) → Later f p
        → Gives wide_at (wide_at h i) n p facts (kept_value types m i false s)
    unfolding Keeps KeepsWide
    keeps_wide i = (keeps i).0

    pub keeps_type : (r : Reading) (s : Shape) (n : ℕ) (p : Point n) (facts : List Fact) → Later f p
        → Gives closed_at (closed_at h r) n p facts (kept_type types m r s)
    unfolding KeepsType
    keeps_type r = (ind-Reading Keeps KeepsType (λ e y is. subst (λ d. Keeps (roll-Indices d)) is (rolled_keeps y))
        (λ e y is. subst (λ d. KeepsType (roll-Reading d)) is (rolled_type y))) r
