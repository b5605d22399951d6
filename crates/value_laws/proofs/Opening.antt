-- What is known of a value of a type of the walk holds, and each other value with the same indices is of that type too.
use Rattle.std.proofs.Common.{◌≡◌, ℕ, zero, suc, Bool, true, List, [], ◌∷◌, map, slice_get, Some, option_map, refl, sym, ap, ◌∙◌, subst}
use Rattle.std.proofs.lemmas.Option.{slice_get-map}
use Rattle.value_laws.proofs.Basics.{no}
use Rattle.sail_types.proofs.SumNumbers.{some_same}
use Rattle.sail_types.specs.Belongs.{Reading as Closed, belongs}
use Rattle.sail_types.specs.Numbers.{Assignment, Positive}
use Rattle.sail_types.specs.declared.table.Types.{Types}
use Rattle.sail_types.specs.declared.types.Typ.{Typ}
use Rattle.sail_types.specs.declared.types.Typ.TheOpen as T
use Rattle.sail_types.specs.declared.types.Typ.TheVariants as U
use Rattle.sail_types.specs.declared.values.Value.{Value, Value-F, out-Value}
use Rattle.sail_types.specs.declared.values.Value.TheOpen as V
use Rattle.value_indices.specs.declared.indices.Indices.{Indices, roll-Indices}
use Rattle.value_indices.specs.declared.indices.Indices.TheFolds.{para-roll-Reading, map-Reading, ind-Reading}
use Rattle.value_indices.specs.declared.indices.Indices.TheOpen as W
use Rattle.value_indices.specs.declared.indices.Indices.TheOpen.{Reading-F}
use Rattle.value_indices.specs.declared.indices.Naming.{Naming}
use Rattle.value_indices.specs.declared.indices.Naming.TheVariants as M
use Rattle.value_indices.specs.declared.indices.Reading.{Reading, roll-Reading}
use Rattle.value_indices.specs.declared.notes.Fact.{Fact}
use Rattle.value_indices.specs.Steps.{Walk, bind, give}
use Rattle.value_indices.specs.Opening.{parts_opened, namings_of, widened_opened, reading_opened, opening, wide_opening, Opening}
use Rattle.value_laws.specs.Belonging.{Integers, standing, nowhere, closeds, type_variables, Meant, closed, types_or_own, closed_form}
use Rattle.value_laws.specs.Known.{Point, Agree, Later}
use Rattle.value_laws.specs.Laws.{OpeningIsSound, OpeningKeeps}
use Rattle.value_laws.proofs.Steps.{same, agree_on, gives}
use Rattle.value_laws.proofs.Values.{belongs_form, nothing_belongs, closed_is, closing}
use Rattle.value_laws.proofs.Knowing.{AllOpenedAs, OpenedAs, both_kept, kept_as, tuple_kept}
use Rattle.value_laws.proofs.OpenedTypes.{ReadingGoes, TypGoes, typ_goes}
use Rattle.value_laws.proofs.WidenedTypes.{AllIn, AsksWide, KeepsAll, KeepsType, KeepsWide, Known, Wide, WideGoes, kept_wide, no_more, one_more}
use Rattle.value_laws.proofs.WidenedTypes.{rolled_widens, tuple_in, tuple_keeps}
use Rattle.value_laws.proofs.Stood.{assignment_of, found_in, none, type_at}
pub use Rattle.value_laws.proofs.Keeping.{truth_same}
pub use Rattle.value_laws.proofs.Stood.{Steady, args_same, closed_of, closeds_of, cons_same, found_answer, free_answer, readings_of, same_lists}
pub use Rattle.value_laws.proofs.Stood.{steady_later}
pub use Rattle.value_laws.proofs.Stood.{stood}
pub use Rattle.value_laws.proofs.WidenedTypes.{item_same, item_steady}

module _ (types : Types) (past : Positive) (own : List Closed) where
  abbrev there : Integers → Assignment
  there g = standing past g

  abbrev Opens : (Meant → Type 0) → Value → (n : ℕ) → Point n → List Fact → Walk Indices → Type 0
  Opens P v n f facts walk = OpenedAs types past own P v n f facts walk

  abbrev AllOpen : (List Meant → Type 0) → List Value → (n : ℕ) → Point n → List Fact → Walk (List Indices) → Type 0
  AllOpen P vs n f facts walk = AllOpenedAs types past own P vs n f facts walk

  -- for all integers of variables that aren't fixed
  abbrev Always : {n : ℕ} → Point n → (Integers → Type 0) → Type 0
  Always f P = (g : Integers) → Agree f g → P g

  abbrev SteadyAt : {n : ℕ} → Point n → Reading → Type 0
  SteadyAt f r = Steady types past own f r

  abbrev Keeps : Closed → Meant → Type 0
  Keeps c m = KeepsType types past own c m

  -- ---- types of the walk

  each_same : (g k : Integers) (rs : List Reading) (i : ℕ) (r : Reading)
      → map (closed types (there g) own) rs ≡ map (closed types (there k) own) rs → slice_get rs i ≡ Some r
      → closed types (there g) own r ≡ closed types (there k) own r
  each_same g k rs i r e found =
      some_same (closed types (there g) own r) (closed types (there k) own r)
      (sym (slice_get-map (closed types (there g) own) rs i ∙ ap (option_map (closed types (there g) own)) found)
      ∙ ap (λ cs. slice_get cs i) e
      ∙ slice_get-map (closed types (there k) own) rs i ∙ ap (option_map (closed types (there k) own)) found)

  pub stood_same : (g k : Integers) (rs : List Reading) (i : ℕ) (r : Reading) → stood types past own rs g ≡ stood types past own rs k
      → slice_get rs i ≡ Some r
      → closed types (there g) own r ≡ closed types (there k) own r
  stood_same g k rs i r e found =
      let cs : List Closed = map (closed types (there g) own) rs in
      let ds : List Closed = map (closed types (there k) own) rs in
      some_same (closed types (there g) own r) (closed types (there k) own r)
      (sym (found_in types past own cs own i (closed types (there g) own r) (type_at types past own g rs i r found))
      ∙ ap (λ all. slice_get all i) (same_lists types past own (types_or_own cs own) (types_or_own ds own) e)
      ∙ found_in types past own ds own i (closed types (there k) own r) (type_at types past own k rs i r found))

  abbrev readings_in : List (Known types past own) → List Reading
  readings_in ys = map (λ (y : Known types past own). y.0) ys

  go_in : (ys : List (Known types past own)) (i : ℕ) (r : Reading) → slice_get (readings_in ys) i ≡ Some r → ReadingGoes types past own r
  go_in [] i r e = none e
  go_in (y ∷ ys) zero r e = subst (ReadingGoes types past own) (some_same y.0 r e) y.1
  go_in (y ∷ ys) (suc i) r e = go_in ys i r e

  -- as what Type variables stand for
  abbrev readings : Integers → List (Known types past own) → List Closed
  readings g ys = map (closed types (there g) own) (readings_in ys)

  abbrev AllSteady : {n : ℕ} → Point n → List (Known types past own) → Type 0
  AllSteady f ys = (i : ℕ) (r : Reading) → slice_get (readings_in ys) i ≡ Some r → SteadyAt f r

  abbrev parts_of : List (Known types past own) → Bool → List Naming → Walk (List Indices)
  parts_of ys tells ns = parts_opened tells (map (λ (r : Reading × Opening). r.1) (map (λ r. (r, opening r)) (readings_in ys))) ns

  -- the types of parts are those that they were
  later_readings : {n m : ℕ} (f : Point n) (g : Point m) → Later f g → (ys : List (Known types past own)) → AllSteady f ys
      → readings g.integers ys ≡ readings f.integers ys
  later_readings f g a [] steady = refl
  later_readings f g a (y ∷ ys) steady = λ j.
      steady 0 y.0 refl g.integers (agree_on a (same g)) j ∷ later_readings f g a ys (λ i r e. steady (suc i) r e) j

  -- the first of them, and those behind it
  parts_on : {n : ℕ} {f : Point n} {facts : List Fact} (y : Known types past own) (ys : List (Known types past own)) (tells : Bool) (name : Naming)
      (ns : List Naming) (v : Value) (vs : List Value) → AllSteady f (y ∷ ys) → Always f (λ g. AllIn types past own (v ∷ vs) (readings g (y ∷ ys)))
      → ((m : ℕ) (g : Point m) (fs : List Fact) → AllSteady g ys → Always g (λ k. AllIn types past own vs (readings k ys))
      → AllOpen (KeepsAll types past own (readings g.integers ys)) vs m g fs (parts_of ys tells ns))
      → AllOpen (KeepsAll types past own (readings f.integers (y ∷ ys))) (v ∷ vs) n f facts
      (bind (opening y.0 tells name) (λ i. bind (parts_of ys tells ns) (λ is. give (i ∷ is))))
  unfolding ReadingGoes
  parts_on {n} {f} {facts} y ys tells name ns v vs steady h rest =
      let c : Closed = closed types (there f.integers) own y.0 in
      let cs : List Closed = readings f.integers ys in
      both_kept types past own (Keeps c) (KeepsAll types past own cs) (KeepsAll types past own (c ∷ cs)) v vs (one_more types past own c cs)
      (y.1 tells name n f facts v (steady 0 y.0 refl) (λ g a. (h g a).0)) (λ m g fs a.
      let s = rest m g fs (λ i r e. steady_later types past own f g r a (steady (suc i) r e)) (λ k b. (h k (agree_on a b)).1) in
      (s.0, s.1, λ ws k. subst (AllIn types past own ws) (later_readings f g a ys (λ i r e. steady (suc i) r e)) (s.2 ws k), s.3))

  -- as what Type variables stand for
  parts_go : {n : ℕ} {f : Point n} {facts : List Fact} (ys : List (Known types past own)) (tells : Bool) (ns : List Naming) (vs : List Value) → AllSteady f ys
      → Always f (λ g. AllIn types past own vs (readings g ys))
      → AllOpen (KeepsAll types past own (readings f.integers ys)) vs n f facts (parts_of ys tells ns)
  parts_go [] tells ns [] steady h = ([], refl, no_more types past own, gives [] (λ g a. refl))
  parts_go {f} [] tells ns (v ∷ vs) steady h = absurd (h f.integers (same f))
  parts_go {f} (y ∷ ys) tells ns [] steady h = absurd (h f.integers (same f))
  parts_go {n} {f} {facts} (y ∷ ys) tells [] (v ∷ vs) steady h =
      parts_on y ys tells M.Unnamed [] v vs steady h (λ m g fs fixed there. parts_go ys tells [] vs fixed there)
  parts_go {n} {f} {facts} (y ∷ ys) tells (name ∷ ns) (v ∷ vs) steady h =
      parts_on y ys tells name ns v vs steady h (λ m g fs fixed there. parts_go ys tells ns vs fixed there)

  abbrev reading_in : Reading-F (Wide types past own) (Known types past own) → Reading-F Indices Reading
  reading_in y = map-Reading (Wide types past own) (Known types past own) Indices Reading (λ p. p.0) (λ p. p.0) y

  abbrev reading_form : Reading-F Indices Reading → Bool → Naming → Walk Indices
  reading_form x tells name =
      reading_opened (map-Reading Indices Reading (Indices × Opening) (Reading × Opening) (λ i. (i, wide_opening i)) (λ r. (r, opening r)) x) tells name

  opens_reading : (x : Reading-F Indices Reading) (tells : Bool) (name : Naming) → opening (roll-Reading x) tells name ≡ reading_form x tells name
  unfolding wide_opening opening
  opens_reading x tells name = ap (λ o. o tells name) (para-roll-Reading Opening Opening widened_opened reading_opened x)

  -- what such a type is
  abbrev closed_in : Integers → Reading-F (Wide types past own) (Known types past own) → Closed
  closed_in g y = closed_form types (there g) own (closing types (there g) own (reading_in y))

  parts_known : {n : ℕ} {f : Point n} {facts : List Fact} (ys : List (Known types past own)) (tells : Bool) (name : Naming) (v : Value) → AllSteady f ys
      → (w : Value-F Value) → out-Value v ≡ w
      → Always f (λ g. AsksWide types past own w g (T.Tuple (type_variables 0 (readings g ys))) (readings g ys))
      → Opens (KeepsWide types past own f.integers (T.Tuple (type_variables 0 (readings f.integers ys))) (readings f.integers ys)) v n f facts
      (reading_form (W.Parts (readings_in ys)) tells name)
  parts_known {f} ys tells name v steady (V.Tuple vs) e h =
      let cs : List Closed = readings f.integers ys in
      tuple_kept types past own (KeepsWide types past own f.integers (T.Tuple (type_variables 0 cs)) cs) (KeepsAll types past own cs) v vs e
      (tuple_keeps types past own f.integers cs)
      (parts_go ys tells (namings_of name) vs steady (λ g a. tuple_in types past own (nowhere (there g)) (readings g ys) vs (h g a)))
  parts_known {f} ys tells name v steady w e h = no (h f.integers (same f))

  form_reads : (y : Reading-F (Wide types past own) (Known types past own)) (tells : Bool) (name : Naming) (n : ℕ) (f : Point n) (facts : List Fact) (v : Value)
      → Always f (λ g. closed_in g y ≡ closed_in f.integers y) → Always f (λ g. belongs types v (closed_in g y) ≡ true)
      → Opens (Keeps (closed_in f.integers y)) v n f facts (reading_form (reading_in y) tells name)
  unfolding TypGoes WideGoes
  form_reads (W.Of t is ys) tells name n f facts v steady h =
      let s = typ_goes types past own (readings_in ys) (go_in ys) t is tells name n f facts v (λ g a. ap (assignment_of types past own) (steady g a))
      (λ i r e g a. stood_same g f.integers (readings_in ys) i r (ap (readings_of types past own) (steady g a)) e) h in
      (s.0, s.1, λ w k. (s.2 w k).0, s.3)
  form_reads (W.Widened y) tells name n f facts v steady h = y.1 name n f facts v steady h
  form_reads (W.Parts ys) tells name n f facts v steady h =
      let ts : List Typ = type_variables 0 (readings f.integers ys) in
      kept_wide types past own v (T.Tuple ts) (U.Tuple ts) (readings f.integers ys) (U.rolls-Tuple ts)
      (parts_known ys tells name v
      (λ i r e g a. each_same g f.integers (readings_in ys) i r
      (same_lists types past own (readings g ys) (readings f.integers ys) (ap (readings_of types past own) (steady g a))) e)
      (out-Value v) refl (λ g a.
      let cs = readings g ys in
      sym (belongs_form types v (T.Tuple (type_variables 0 cs)) (U.Tuple (type_variables 0 cs)) (nowhere (there g)) (closeds cs)
      (U.rolls-Tuple (type_variables 0 cs))) ∙ h g a))
  form_reads W.Hole tells name n f facts v steady h = no (sym (nothing_belongs types v (there f.integers)) ∙ h f.integers (same f))

  rolled_reads : (y : Reading-F (Wide types past own) (Known types past own)) → ReadingGoes types past own (roll-Reading (reading_in y))
  unfolding ReadingGoes
  rolled_reads y tells name n f facts v steady h =
      let is : (g : Integers) → closed types (there g) own (roll-Reading (reading_in y)) ≡ closed_in g y =
      λ g. closed_is types (there g) own (roll-Reading (reading_in y)) (reading_in y) refl in
      let c : Closed = closed types (there f.integers) own (roll-Reading (reading_in y)) in
      subst (λ w. Opens (Keeps c) v n f facts w) (sym (opens_reading (reading_in y) tells name))
      (kept_as types past own (Keeps (closed_in f.integers y)) (Keeps c) v (λ m keeps w k. ap (belongs types w) (is f.integers) ∙ keeps w k)
      (form_reads y tells name n f facts v (λ g a. sym (is g) ∙ steady g a ∙ is f.integers) (λ g a. ap (belongs types v) (sym (is g)) ∙ h g a)))

  reading_goes : (r : Reading) → ReadingGoes types past own r
  reading_goes = ind-Reading (WideGoes types past own) (ReadingGoes types past own)
      (λ e y same_form. subst (λ d. WideGoes types past own (roll-Indices d)) same_form (rolled_widens types past own y))
      (λ e y same_form. subst (λ d. ReadingGoes types past own (roll-Reading d)) same_form (rolled_reads y))

pub opening_kept : OpeningKeeps
unfolding ReadingGoes
opening_kept types past own r tells name n f facts v steady h =
    reading_goes types past own r tells name n f facts v steady (λ g a. ap (belongs types v) (steady g a) ∙ h)

pub opening_sound : OpeningIsSound
opening_sound types past own r tells name n f facts v steady h =
    let s = opening_kept types past own r tells name n f facts v steady h in (s.0, s.1, s.3)
