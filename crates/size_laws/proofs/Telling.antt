-- A value of a type tells the numbers of what the type binds at its front: it is opened to indices of the type that it tells.
use Rattle.std.proofs.Common.{◌≡◌, ◌≤◌, ℕ, suc, ℤ, pos, Bool, true, false, ◌&&◌, List, [], ◌∷◌, length, map, Option, Some, None}
use Rattle.std.proofs.Common.{refl, sym, ap, ◌∙◌, subst, if◌then◌else◌, arith}
use Rattle.std.specs.List.{list_all}
use Rattle.std.specs.Ordering.{int_eq}
use Rattle.std.proofs.lemmas.Bool.{and_parts, leb-true}
use Rattle.std.proofs.lemmas.Bool.Decides.{Decides-int_eq}
use Rattle.sail_types.specs.Belongs.{Reading as Closed, Readings as Closeds, Inner as Asked, assigned, belongs, given_belongs, reading, under}
use Rattle.sail_types.specs.Limits.{is_length, is_small, is_width}
use Rattle.sail_types.specs.Numbers.{Assignment, Positive, number, true_in}
use Rattle.sail_types.specs.Places.{Given, Placed, a_bool, among, an_int, first, form_is, form_place, is_variable, only, placed, placed_form}
use Rattle.sail_types.specs.Sums.{is_constant, number_at, variable}
use Rattle.sail_types.specs.declared.numbers.Con.{Con, out-Con}
use Rattle.sail_types.specs.declared.numbers.Index.{Index}
use Rattle.sail_types.specs.declared.numbers.Index.TheVariants as N
use Rattle.sail_types.specs.declared.numbers.Num.{Num}
use Rattle.sail_types.specs.declared.table.Types.{Types}
use Rattle.sail_types.specs.declared.types.Typ.{Typ, Typ-F, out-Typ, roll-Typ}
use Rattle.sail_types.specs.declared.types.Typ.TheFolds.{ind-Typ, map-Typ, para-roll-Typ, para-Typ}
use Rattle.sail_types.specs.declared.types.Typ.TheOpen as T
use Rattle.sail_types.specs.declared.types.Typ.TheVariants as U
use Rattle.sail_types.specs.declared.types.Typ.TheViews.{out-roll-Typ, roll-out-Typ}
use Rattle.sail_types.specs.declared.values.Value.{Value, Value-F, out-Value}
use Rattle.sail_types.specs.declared.values.Value.TheOpen as V
use Rattle.sail_types.proofs.SumNumbers.{some_same}
use Rattle.value_indices.specs.declared.indices.Indices.{Indices}
use Rattle.value_indices.specs.declared.indices.Indices.TheOpen as W
use Rattle.value_indices.specs.declared.indices.Indices.TheOpen.{Reading-F}
use Rattle.value_indices.specs.declared.indices.Indices.TheVariants as I
use Rattle.value_indices.specs.declared.indices.Indices.TheViews.{out-roll-Reading}
use Rattle.value_indices.specs.declared.indices.Naming.{Naming}
use Rattle.value_indices.specs.declared.indices.Naming.TheVariants as M
use Rattle.value_indices.specs.declared.indices.Reading.{Reading, out-Reading}
use Rattle.value_indices.specs.declared.indices.Reading.TheVariants as R
use Rattle.value_indices.specs.declared.notes.Fact.{Fact}
use Rattle.value_indices.specs.Steps.{Walk, assume, bind, fresh_named, give}
use Rattle.value_indices.specs.Opening.{between, bits_of, bits_opened, bound_inside, integer_of, integer_opened, largest_num, least_num, namings_of}
use Rattle.value_indices.specs.Opening.{number_or_fresh, opening, parts_opened, typ_opened, vector_of, vector_opened, with_openings, Inner as Inside}
use Rattle.value_laws.specs.Belonging.{closed, closeds, each_holds, form_holds, has, is_of, meant, standing, types_or_own}
use Rattle.value_laws.proofs.Basics.{no}
use Rattle.value_laws.proofs.Keeping.{bare, placed_by}
use Rattle.value_laws.proofs.Stood.{found_answer}
use Rattle.value_laws.proofs.Values.{belongs_form, closed_is, form_asked, has_form, inner, inner_is}
use Rattle.size_values.specs.declared.constants.Constant.{Constant}
use Rattle.size_values.specs.declared.constants.Constant.TheVariants as C
use Rattle.size_values.specs.declared.sized.Sized.{Sized}
use Rattle.size_values.specs.Sized.{reading_sized, typ_sized, value_sized}
use Rattle.size_laws.specs.Known.{all_numbers}
use Rattle.size_laws.specs.Laws.{OpeningTellsSizes}
use Rattle.size_laws.specs.Settled.{Tells, binds, constants, form_binds, of_type, stood, tells_bound, tells_plain}
use Rattle.size_laws.specs.Told.{Told, constant_given, form_reading_told, form_told, reading_told, typ_told}
use Rattle.size_laws.proofs.Alone.{number_variable, read_alone, small_number, variable_constant}
use Rattle.size_laws.proofs.Forms as Forms
use Rattle.size_laws.proofs.Opening.{keeps, opens_reading}

none : {A B : Type 0} {x : A} → None ≡ Some x → B
none h = absurd (cc)

-- ---- the number that a value gives

abbrev int_of : Given → ℤ
int_of (an_int z) = z
int_of (a_bool b) = pos 0

only_int : (b : Bool) (y z : ℤ) → only b (an_int y) ≡ Some (an_int z) → (b ≡ true) × (y ≡ z)
only_int true y z h = (refl, ap int_of (some_same (an_int y) (an_int z) h))
only_int false y z h = none h

only_bool : {A : Type 0} (b c : Bool) (z : ℤ) → only b (a_bool c) ≡ Some (an_int z) → A
only_bool true c z h = absurd (cc)
only_bool false c z h = none h

first_gives : {A : Type 0} (o r : Option Given) (g : Given) → first o r ≡ Some g → (o ≡ Some g → A) → (r ≡ Some g → A) → A
first_gives None r g h here behind = behind h
first_gives (Some x) r g h here behind = here h

exists_in : (given : Option Given) (nu : Assignment) (c : Con) (t : Asked) → given_belongs given nu c t ≡ true
    → (z : ℤ) × (given ≡ Some (an_int z)) × (t (under z nu) ≡ true)
exists_in (Some (an_int z)) nu c t h = (z, refl, (and_parts (true_in (under z nu) c) (t (under z nu)) h).1)
exists_in (Some (a_bool b)) nu c t h = no h
exists_in None nu c t h = no h

module _ (types : Types) (past : Positive) (f : ℕ → ℤ) (own : List Closed) (rs : List Reading) where
  abbrev mu : Assignment
  mu = standing past f

  abbrev walk : Typ → List Index → Bool → Naming → Walk Indices
  walk t is tells name = typ_opened (with_openings rs) t is tells name

  abbrev opened : Typ → List Index → Bool → Naming → List Fact → ℕ → Indices
  opened t is tells name facts n = (walk t is tells name facts n).value

  abbrev inside : List Typ → List (Typ × Inside)
  inside ts = map (λ t. (t, typ_opened (with_openings rs) t)) ts

  abbrev Right : ℕ → ℤ → Type 0
  Right w z = (z ≡ f w) × (is_small z ≡ true)

  -- an integer that the variable is
  right : (w : ℕ) (y z : ℤ) → y ≡ z → int_eq y (number mu (variable w)) ≡ true → is_small y ≡ true → Right w z
  right w y z e h k =
      (sym e ∙ (Decides-int_eq y (number mu (variable w))).0 h ∙ number_variable past f w, subst (λ (x : ℤ). is_small x ≡ true) e k)

  -- ---- where a variable stands for that of a type, it is the number that a value gives

  abbrev Gives : Typ → Type 0
  Gives t = (is : List Index) (j w : ℕ) → number_at is j ≡ variable w → (tells : Bool) (name : Naming) (facts : List Fact) (n : ℕ) (v : Value)
      → has types mu own (opened t is tells name facts n) v ≡ true → (z : ℤ) → placed t j v ≡ Some (an_int z) → Right w z

  integer_is : (tells : Bool) (t : Num) (facts : List Fact) (n : ℕ) → (integer_of tells t facts n).value ≡ I.Integer t
  unfolding integer_of between bind assume give
  integer_is tells t facts n = by tells (is_constant t)
    where
      by : (s c : Bool) → ((if s then (if c then give (I.Integer t) else bind (between least_num t largest_num) (λ x. give (I.Integer t)))
          else give (I.Integer t)) facts n).value ≡ I.Integer t
      by false c = refl
      by true true = refl
      by true false = refl

  int_gives : (t : Num) (is : List Index) (j w : ℕ) → number_at is j ≡ variable w → (tells : Bool) (facts : List Fact) (n : ℕ) (v : Value)
      → has types mu own (integer_opened is tells t facts n).value v ≡ true → (z : ℤ) → (x : Value-F Value) → out-Value v ≡ x
      → form_place (T.Int t) j x ≡ Some (an_int z) → Right w z
  unfolding integer_opened number_or_fresh bind give
  int_gives t is j w s tells facts n v had z (V.Integer y) e h =
      let k = only_int (is_variable j t) y z h in
      let i : (integer_opened is tells t facts n).value ≡ I.Integer (variable w) =
      ap (λ (o : Option Num). (bind (number_or_fresh o) (integer_of tells) facts n).value) (read_alone is j w t s k.0)
      ∙ integer_is tells (variable w) facts n in
      let held : form_holds types mu own (W.Integer (variable w)) (V.Integer y) ≡ true =
      ap (form_holds types mu own (W.Integer (variable w))) (sym e)
      ∙ sym (has_form types mu own (I.Integer (variable w)) (W.Integer (variable w)) v (I.rolls-Integer (variable w)))
      ∙ ap (λ (d : Indices). has types mu own d v) (sym i) ∙ had in
      let both = and_parts (int_eq y (number mu (variable w))) (is_small y) held in
      right w y z k.1 both.0 both.1
  int_gives t is j w s tells facts n v had z x e h = none h

  most : (k l : ℕ) → k ≤ l → l ≤ 4096 → k ≤ 4096
  most k l a b = omega (arith, a, b)

  bits_gives : (t : Num) (is : List Index) (j w : ℕ) → number_at is j ≡ variable w → (facts : List Fact) (n : ℕ) (v : Value)
      → has types mu own (bits_opened is t facts n).value v ≡ true → (z : ℤ) → (x : Value-F Value) → out-Value v ≡ x
      → form_place (T.Bits t) j x ≡ Some (an_int z) → Right w z
  unfolding bits_opened bits_of between number_or_fresh bind assume give
  bits_gives t is j w s facts n v had z (V.Bits bits) e h =
      let k = only_int (is_variable j t) (pos (length bits)) z h in
      let i : (bits_opened is t facts n).value ≡ I.Bits (variable w) =
      ap (λ (o : Option Num). (bind (number_or_fresh o) bits_of facts n).value) (read_alone is j w t s k.0) in
      let held : form_holds types mu own (W.Bits (variable w)) (V.Bits bits) ≡ true =
      ap (form_holds types mu own (W.Bits (variable w))) (sym e)
      ∙ sym (has_form types mu own (I.Bits (variable w)) (W.Bits (variable w)) v (I.rolls-Bits (variable w)))
      ∙ ap (λ (d : Indices). has types mu own d v) (sym i) ∙ had in
      let both = and_parts (int_eq (pos (length bits)) (number mu (variable w))) (is_width (length bits)) held in
      right w (pos (length bits)) z k.1 both.0 (small_number (length bits) (most (length bits) 128 (leb-true (length bits) 128 both.1) (omega arith)))
  bits_gives t is j w s facts n v had z x e h = none h

  vector_gives : (t : Num) (a : Typ) (g : Placed) (is : List Index) (j w : ℕ) → number_at is j ≡ variable w → (facts : List Fact) (n : ℕ) (v : Value)
      → has types mu own (vector_opened is rs t a facts n).value v ≡ true → (z : ℤ) → (x : Value-F Value) → out-Value v ≡ x
      → form_place (T.Vector t g) j x ≡ Some (an_int z) → Right w z
  unfolding vector_opened vector_of between number_or_fresh bind assume give
  vector_gives t a g is j w s facts n v had z (V.Vector vs) e h =
      let k = only_int (is_variable j t) (pos (length vs)) z h in
      let r : Reading = R.Of a is rs in
      let c : Closed = closed types mu own r in
      let i : (vector_opened is rs t a facts n).value ≡ I.Vector (variable w) r =
      ap (λ (o : Option Num). (bind (number_or_fresh o) (vector_of r) facts n).value) (read_alone is j w t s k.0) in
      let held : form_holds types mu own (W.Vector (variable w) c) (V.Vector vs) ≡ true =
      ap (form_holds types mu own (W.Vector (variable w) c)) (sym e)
      ∙ sym (has_form types mu own (I.Vector (variable w) r) (W.Vector (variable w) r) v (I.rolls-Vector (variable w) r))
      ∙ ap (λ (d : Indices). has types mu own d v) (sym i) ∙ had in
      let long = and_parts (int_eq (pos (length vs)) (number mu (variable w)) && is_length (length vs)) (list_all (λ u. belongs types u c) vs) held in
      let both = and_parts (int_eq (pos (length vs)) (number mu (variable w))) (is_length (length vs)) long.0 in
      right w (pos (length vs)) z k.1 both.0 (small_number (length vs) (leb-true (length vs) 4096 both.1))
  vector_gives t a g is j w s facts n v had z x e h = none h

  truth_gives : {A : Type 0} (c : Con) (j : ℕ) (z : ℤ) (x : Value-F Value) → form_place (T.Truth c) j x ≡ Some (an_int z) → A
  truth_gives c j z (V.Truth b) h = only_bool (form_is j (out-Con c)) b z h
  truth_gives c j z x h = none h

  -- ---- tuples

  abbrev Such : Type 0
  Such = (t : Typ) × Gives t

  abbrev bares : List Such → List Typ
  bares ys = map (λ (p : Such). p.0) ys

  abbrev walks : List Such → List Index → List (Bool → Naming → Walk Indices)
  walks ys is = map (λ (t : Typ × Inside). t.1 is) (inside (bares ys))

  parts_give : (ys : List Such) (is : List Index) (j w : ℕ) → number_at is j ≡ variable w → (tells : Bool) (ns : List Naming) (facts : List Fact) (n : ℕ)
      (vs : List Value) → each_holds (map (meant types mu own) (parts_opened tells (walks ys is) ns facts n).value) vs ≡ true → (z : ℤ)
      → among (map placed (bares ys)) j vs ≡ Some (an_int z) → Right w z
  unfolding bind give
  parts_give [] is j w s tells ns facts n vs had z h = none h
  parts_give (y ∷ ys) is j w s tells ns facts n [] had z h = none h
  parts_give (y ∷ ys) is j w s tells [] facts n (v ∷ vs) had z h =
      let one = walk y.0 is tells M.Unnamed facts n in
      let rest = (parts_opened tells (walks ys is) [] one.facts one.next).value in
      let both = and_parts (has types mu own one.value v) (each_holds (map (meant types mu own) rest) vs) had in
      first_gives (placed y.0 j v) (among (map placed (bares ys)) j vs) (an_int z) h
      (λ e. y.1 is j w s tells M.Unnamed facts n v both.0 z e)
      (λ e. parts_give ys is j w s tells [] one.facts one.next vs both.1 z e)
  parts_give (y ∷ ys) is j w s tells (name ∷ ns) facts n (v ∷ vs) had z h =
      let one = walk y.0 is tells name facts n in
      let rest = (parts_opened tells (walks ys is) ns one.facts one.next).value in
      let both = and_parts (has types mu own one.value v) (each_holds (map (meant types mu own) rest) vs) had in
      first_gives (placed y.0 j v) (among (map placed (bares ys)) j vs) (an_int z) h
      (λ e. y.1 is j w s tells name facts n v both.0 z e)
      (λ e. parts_give ys is j w s tells ns one.facts one.next vs both.1 z e)

  tuple_gives : (ys : List Such) (is : List Index) (j w : ℕ) → number_at is j ≡ variable w → (tells : Bool) (name : Naming) (facts : List Fact) (n : ℕ)
      (v : Value) → has types mu own (I.Tuple (parts_opened tells (walks ys is) (namings_of name) facts n).value) v ≡ true → (z : ℤ)
      → (x : Value-F Value) → out-Value v ≡ x → form_place (T.Tuple (map placed (bares ys))) j x ≡ Some (an_int z) → Right w z
  tuple_gives ys is j w s tells name facts n v had z (V.Tuple vs) e h =
      let parts : List Indices = (parts_opened tells (walks ys is) (namings_of name) facts n).value in
      let held : each_holds (map (meant types mu own) parts) vs ≡ true =
      ap (form_holds types mu own (W.Tuple (map (meant types mu own) parts))) (sym e)
      ∙ sym (has_form types mu own (I.Tuple parts) (W.Tuple parts) v (I.rolls-Tuple parts)) ∙ had in
      parts_give ys is j w s tells (namings_of name) facts n vs held z h
  tuple_gives ys is j w s tells name facts n v had z x e h = none h

  -- ---- all types

  abbrev bare_form : Typ-F Such → Typ-F Typ
  bare_form y = map-Typ Such Typ (λ p. p.0) y

  formed : (y : Typ-F Such) (is : List Index) (j w : ℕ) → number_at is j ≡ variable w → (tells : Bool) (name : Naming) (facts : List Fact) (n : ℕ) (v : Value)
      → has types mu own (Forms.opened_form types [] (all_numbers f) rs (bare_form y) is tells name facts n).value v ≡ true → (z : ℤ)
      → placed_form (map-Typ Typ Placed placed (bare_form y)) j v ≡ Some (an_int z) → Right w z
  unfolding bound_inside fresh_named bind give
  formed (T.Int t) is j w s tells name facts n v had z h = int_gives t is j w s tells facts n v had z (out-Value v) refl h
  formed (T.Bits t) is j w s tells name facts n v had z h = bits_gives t is j w s facts n v had z (out-Value v) refl h
  formed (T.Vector t y) is j w s tells name facts n v had z h =
      vector_gives t y.0 (placed y.0) is j w s facts n v had z (out-Value v) refl h
  formed (T.Tuple ys) is j w s tells name facts n v had z h = tuple_gives ys is j w s tells name facts n v had z (out-Value v) refl h
  formed (T.Truth c) is j w s tells name facts n v had z h = truth_gives c j z (out-Value v) h
  formed (T.Exists binder c y) is j w s tells name facts n v had z h =
      let b = bound_inside binder c is facts n in
      y.1 (N.Number (variable n) ∷ is) (suc j) w s true name b.facts b.next v had z h
  formed T.Unit is j w s tells name facts n v had z h = none h
  formed T.Bool is j w s tells name facts n v had z h = none h
  formed T.Bit is j w s tells name facts n v had z h = none h
  formed (T.Range t u) is j w s tells name facts n v had z h = none h
  formed T.String is j w s tells name facts n v had z h = none h
  formed (T.List y) is j w s tells name facts n v had z h = none h
  formed (T.Named u args ys) is j w s tells name facts n v had z h = none h
  formed (T.Variable i) is j w s tells name facts n v had z h = none h

  rolled : (y : Typ-F Such) → Gives (roll-Typ (bare_form y))
  rolled y is j w s tells name facts n v had z h =
      let x : Typ-F Typ = bare_form y in
      formed y is j w s tells name facts n v
      (ap (λ (k : Walk Indices). has types mu own (k facts n).value v) (sym (Forms.opens types [] (all_numbers f) rs x is tells name)) ∙ had) z
      (sym (placed_by x j v) ∙ h)

  gives : (t : Typ) → Gives t
  gives = ind-Typ Gives (λ e y same_form. subst (λ d. Gives (roll-Typ d)) same_form (rolled y))

-- ---- the type that a value tells, by the form of its type

module _ (types : Types) (ss : List Sized) where
  abbrev tell : Typ → Told
  tell = para-Typ Told (form_told types ss)

  told_form : (x : Typ-F Typ) (t : Typ) (cs : List Constant) (v : Value) → roll-Typ x ≡ t
      → typ_told types ss t cs v ≡ form_told types ss (map-Typ Typ (Typ × Told) (λ u. (u, tell u)) x) t cs v
  told_form x t cs v e =
      ap (λ (u : Typ). tell u t cs v) (sym e) ∙ ap (λ (g : Told). g t cs v) (para-roll-Typ Told (form_told types ss) x)

  plain_form : (x : Typ-F Typ) (t : Typ) (cs : List Constant) (v : Value) → form_binds x ≡ false
      → form_told types ss (map-Typ Typ (Typ × Told) (λ u. (u, tell u)) x) t cs v ≡ typ_sized types ss t cs
  plain_form T.Unit t cs v h = refl
  plain_form T.Bool t cs v h = refl
  plain_form (T.Truth c) t cs v h = refl
  plain_form T.Bit t cs v h = refl
  plain_form (T.Bits m) t cs v h = refl
  plain_form (T.Int m) t cs v h = refl
  plain_form (T.Range m l) t cs v h = refl
  plain_form T.String t cs v h = refl
  plain_form (T.List a) t cs v h = refl
  plain_form (T.Vector m a) t cs v h = refl
  plain_form (T.Tuple ts) t cs v h = refl
  plain_form (T.Named u args ts) t cs v h = refl
  plain_form (T.Variable i) t cs v h = refl
  plain_form (T.Exists name c a) t cs v h = absurd (cc)

  -- a type that binds no variable at its front
  pub plain_told : (t : Typ) (cs : List Constant) (v : Value) → binds t ≡ false → typ_told types ss t cs v ≡ typ_sized types ss t cs
  plain_told t cs v h = told_form (out-Typ t) t cs v (roll-out-Typ t) ∙ plain_form (out-Typ t) t cs v h

  -- one that does
  pub bound_told : (name : List ℕ) (c : Con) (t : Typ) (cs : List Constant) (v : Value)
      → typ_told types ss (U.Exists name c t) cs v ≡ typ_told types ss t (constant_given (placed t 0 v) ∷ cs) v
  bound_told name c t cs v = told_form (T.Exists name c t) (U.Exists name c t) cs v (U.rolls-Exists name c t)

module _ (types : Types) (own : List Sized) (of : ℕ → Constant) where
  pub of_told : (t : Typ) (is : List Index) (rs : List Reading) (v : Value)
      → reading_told types own of (R.Of t is rs) v ≡ typ_told types (stood types own of rs) t (constants types own of is) v
  of_told t is rs v =
      ap (λ x. form_reading_told types own of x (R.Of t is rs) v) (ap out-Reading (sym (R.rolls-Of t is rs)) ∙ out-roll-Reading (W.Of t is rs))

-- ---- where a value of it is opened

module _ (types : Types) (past : Positive) (f : ℕ → ℤ) (closed_own : List Closed) (own : List Sized) (rs : List Reading) where
  abbrev ss : List Sized
  ss = stood types own (all_numbers f) rs

  abbrev under_all : List Index → List Constant
  under_all is = constants types own (all_numbers f) is

  abbrev found : Typ → List Index → Bool → Naming → List Fact → ℕ → Indices
  found t is tells name facts n = (typ_opened (with_openings rs) t is tells name facts n).value

  abbrev Is : List Index → Typ → Type 0
  Is is t = (nu : Assignment) (qs : Closeds) (v : Value) → belongs types v (reading t nu qs) ≡ true → (tells : Bool) (name : Naming) (facts : List Fact)
      (n : ℕ) → has types (standing past f) closed_own (found t is tells name facts n) v ≡ true
      → typ_told types ss t (under_all is) v ≡ value_sized types own (all_numbers f) (found t is tells name facts n)

  bound_found : (binder : List ℕ) (c : Con) (t : Typ) (is : List Index) (tells : Bool) (name : Naming) (facts : List Fact) (n : ℕ)
      → found (U.Exists binder c t) is tells name facts n
      ≡ found t (N.Number (variable n) ∷ is) true name (bound_inside binder c is facts n).facts (bound_inside binder c is facts n).next
  unfolding bound_inside fresh_named bind give
  bound_found binder c t is tells name facts n =
      ap (λ (u : Typ). found u is tells name facts n) (sym (U.rolls-Exists binder c t))
      ∙ ap (λ (k : Walk Indices). (k facts n).value) (Forms.opens types own (all_numbers f) rs (T.Exists binder c t) is tells name)

  bound_is : (is : List Index) (binder : List ℕ) (c : Con) (t : Typ)
      → ((v : ℕ) → is_small (f v) ≡ true → Is (N.Number (variable v) ∷ is) t) → Is is (U.Exists binder c t)
  bound_is is binder c t each nu qs v b tells name facts n had =
      let cs = under_all is in
      let i : Indices = found t (N.Number (variable n) ∷ is) true name (bound_inside binder c is facts n).facts (bound_inside binder c is facts n).next in
      let at : found (U.Exists binder c t) is tells name facts n ≡ i = bound_found binder c t is tells name facts n in
      let there : has types (standing past f) closed_own i v ≡ true = ap (λ (d : Indices). has types (standing past f) closed_own d v) (sym at) ∙ had in
      let asked : form_asked types (out-Value v) (T.Exists binder c t) nu qs ≡ true =
      sym (belongs_form types v (T.Exists binder c t) (U.Exists binder c t) nu qs (U.rolls-Exists binder c t)) ∙ b in
      let k = exists_in (placed t 0 v) nu c (inner types (out-Value v) qs t)
      (ap (λ (u : Value). given_belongs (placed t 0 u) nu c (inner types (out-Value v) qs t)) (sym (bare types v)) ∙ asked) in
      let within : belongs types v (reading t (under k.0 nu) qs) ≡ true = sym (inner_is types v t (under k.0 nu) qs) ∙ k.2 in
      let given = gives types past f closed_own rs t (N.Number (variable n) ∷ is) 0 n refl true name (bound_inside binder c is facts n).facts
      (bound_inside binder c is facts n).next v there k.0 k.1 in
      let small : is_small (f n) ≡ true = subst (λ (z : ℤ). is_small z ≡ true) given.0 given.1 in
      bound_told types ss binder c t cs v
      ∙ ap (λ (o : Option Given). typ_told types ss t (constant_given o ∷ cs) v) k.1
      ∙ ap (λ (d : Constant). typ_told types ss t (d ∷ cs) v) (ap (λ (z : ℤ). C.Number z) given.0 ∙ sym (variable_constant f n small))
      ∙ each n small (under k.0 nu) qs v within true name (bound_inside binder c is facts n).facts (bound_inside binder c is facts n).next there
      ∙ ap (value_sized types own (all_numbers f)) (sym at)

  told : (is : List Index) (t : Typ) → Tells types own f rs is t → Is is t
  told is t (tells_plain js u plain settled) = λ nu qs v b tells name facts n had.
      plain_told types ss u (under_all js) v plain
      ∙ sym (keeps types own (all_numbers f) (of_type rs js (under_all js) u) settled tells name facts n)
  told is t (tells_bound js binder c u each) = bound_is js binder c u (λ v small. told (N.Number (variable v) ∷ js) u (each v small))

pub opening_tells_sizes : OpeningTellsSizes
opening_tells_sizes types past f closed_own own t is rs tells_it v is_so tells name facts n had =
    let mu : Assignment = standing past f in
    let at : (opening (R.Of t is rs) tells name facts n).value ≡ (typ_opened (with_openings rs) t is tells name facts n).value =
    ap (λ (k : Walk Indices). (k facts n).value) (opens_reading types own (all_numbers f) (W.Of t is rs) (R.Of t is rs) (R.rolls-Of t is rs) tells name) in
    of_told types own (all_numbers f) t is rs v
    ∙ told types past f closed_own own rs is t tells_it (assigned mu is) (closeds (types_or_own (map (closed types mu closed_own) rs) closed_own)) v
    (ap (belongs types v) (sym (closed_is types mu closed_own (R.Of t is rs) (W.Of t is rs) (R.rolls-Of t is rs))) ∙ is_so) tells name facts n
    (ap (λ (d : Indices). has types mu closed_own d v) (sym at) ∙ had)
    ∙ ap (value_sized types own (all_numbers f)) (sym at)

-- ---- a type for which a Type variable stands: it is opened as it is, and no value tells what it binds

module _ (types : Types) (own : List Sized) (of : ℕ → Constant) (r : Reading) where
  abbrev part : Reading
  part = R.Of (U.Variable 0) [] (r ∷ [])

  abbrev part_form : Reading-F Indices Reading
  part_form = W.Of (U.Variable 0) [] (r ∷ [])

  pub part_opens : (tells : Bool) (name : Naming) → opening part tells name ≡ opening r tells name
  part_opens tells name =
      opens_reading types own of part_form part (R.rolls-Of (U.Variable 0) [] (r ∷ [])) tells name
      ∙ ap (λ (t : Typ). typ_opened (with_openings (r ∷ [])) t [] tells name) (sym (U.rolls-Variable 0))
      ∙ Forms.opens types own of (r ∷ []) (T.Variable 0) [] tells name

  binds_none : binds (U.Variable 0) ≡ false
  binds_none = ap form_binds (ap out-Typ (sym (U.rolls-Variable 0)) ∙ out-roll-Typ (T.Variable 0))

  pub part_told : (v : Value) → reading_told types own of part v ≡ reading_sized types own of r
  part_told v =
      let ss : List Sized = stood types own of (r ∷ []) in
      of_told types own of (U.Variable 0) [] (r ∷ []) v ∙ plain_told types ss (U.Variable 0) [] v binds_none
      ∙ Forms.typ_is types own of ss (U.Variable 0) (T.Variable 0) [] (U.rolls-Variable 0)

pub part_of : (types : Types) (past : Positive) (f : ℕ → ℤ) (own : List Closed) (r : Reading) (v : Value)
    → is_of types (standing past f) own (R.Of (U.Variable 0) [] (r ∷ [])) v ≡ is_of types (standing past f) own r v
part_of types past f own r v =
    let mu : Assignment = standing past f in
    ap (belongs types v) (closed_is types mu own (R.Of (U.Variable 0) [] (r ∷ [])) (W.Of (U.Variable 0) [] (r ∷ [])) (R.rolls-Of (U.Variable 0) [] (r ∷ [])))
    ∙ belongs_form types v (T.Variable 0) (U.Variable 0) (assigned mu []) (closeds (types_or_own (map (closed types mu own) (r ∷ [])) own)) (U.rolls-Variable 0)
    ∙ found_answer types past own (r ∷ []) f 0 r v refl
