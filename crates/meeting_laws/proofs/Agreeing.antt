-- A value of a later way that agrees with the first by its numbers has what is kept of the first.
use Rattle.std.proofs.Common.{◌≡◌, ℕ, zero, suc, nat_eq, Bool, true, false, ◌&&◌, List, [], ◌∷◌, ◌++◌, map, length}
use Rattle.std.proofs.Common.{Option, Some, None, option_map, if◌then◌else◌, refl, sym, ap, ◌∙◌, subst}
use Rattle.std.specs.Prelude.{not, unwrap_or}
use Rattle.std.specs.List.{list_all, list_any}
use Rattle.std.proofs.lemmas.Bool.{and_parts}
use Rattle.std.proofs.lemmas.Bool.Decides.{Decides-eqb, Decides-int_eq}
use Rattle.sail_types.specs.Belongs.{Reading as Closed, belongs}
use Rattle.sail_types.specs.Numbers.{Assignment, Positive, number, true_in, form_true}
use Rattle.sail_types.specs.Readings.{together}
use Rattle.sail_types.specs.declared.numbers.Comparison.TheVariants as Is
use Rattle.sail_types.specs.declared.numbers.Con.{Con, fold-roll-Con}
use Rattle.sail_types.specs.declared.numbers.Con.TheOpen as F
use Rattle.sail_types.specs.declared.numbers.Con.TheVariants as C
use Rattle.sail_types.specs.declared.numbers.Index.{Index}
use Rattle.sail_types.specs.declared.numbers.Index.TheVariants as N
use Rattle.sail_types.specs.declared.numbers.Num.{Num}
use Rattle.sail_types.specs.declared.shapes.Shape.{Shape}
use Rattle.sail_types.specs.declared.shapes.Shape.TheVariants as V
use Rattle.sail_types.specs.declared.table.Types.{Types}
use Rattle.sail_types.specs.declared.values.Value.{Value}
use Rattle.value_indices.specs.Opening.{equal}
use Rattle.value_indices.specs.Steps.{Conditions, conjunction}
use Rattle.value_indices.specs.declared.indices.Indices.{Indices, out-Indices, roll-Indices}
use Rattle.value_indices.specs.declared.indices.Indices.TheFolds.{map-Reading, ind-Reading}
use Rattle.value_indices.specs.declared.indices.Indices.TheOpen as W
use Rattle.value_indices.specs.declared.indices.Indices.TheOpen.{Indices-F, Reading-F}
use Rattle.value_indices.specs.declared.indices.Indices.TheVariants as I
use Rattle.value_indices.specs.declared.indices.Indices.TheViews.{roll-out-Indices, roll-out-Reading}
use Rattle.value_indices.specs.declared.indices.Reading.{Reading, out-Reading, roll-Reading}
use Rattle.value_indices.specs.declared.indices.Reading.TheVariants as R
use Rattle.value_indices.specs.declared.notes.Fact.{Fact}
use Rattle.value_laws.specs.Belonging.{Integers, standing, wides, wide_of, meant, closed, tuple_of}
use Rattle.value_laws.specs.Known.{Point, Agree, Later, Goes}
use Rattle.value_laws.proofs.Basics.{no, two}
use Rattle.value_laws.proofs.Numbers.{mapped, truth_is}
use Rattle.value_laws.proofs.Steps.{gives, goes_then, later_on}
use Rattle.value_laws.proofs.Values.{nothing_belongs, meanings, meant_is, closed_is}
use Rattle.value_laws.proofs.Knowing.{AllOpened, Opened, both_opened}
use Rattle.wide_types.specs.Widening.{agrees_within, differs, each_agrees, each_kept, each_type_agrees, if_alike, implies, is_below}
use Rattle.wide_types.specs.Widening.{is_con_below, item_shape, kept_type, kept_value, opened_or_not, part_shapes, same_index, same_indices, same_num}
use Rattle.wide_types.specs.Widening.{same_truth, types_agree}
use Rattle.expression_forms.specs.Inside.{is_type_told, is_value_told}
use Rattle.meeting_laws.specs.Laws.{IsFull}
use Rattle.meeting_laws.proofs.Wider.{tuple_wider}
use Rattle.meeting_laws.proofs.Forms.{each_of}
use Rattle.meeting_laws.proofs.Kept.{Agrees, AllAgree, AllGive, ClosedsOf, Gives, WidesOf, bit_held, bits_held, both_give, held_value, held_wide}
use Rattle.meeting_laws.proofs.Kept.{integer_value, integer_wide, keeping, keeps_type, keeps_wide, list_held, named_held}
use Rattle.meeting_laws.proofs.Kept.{none, string_held, truth_value, truth_wide, tuple_held, tuple_value, type_is, unit_held, value_is}
use Rattle.meeting_laws.proofs.Kept.{variable_held, vector_held, wide_at}
use Rattle.meeting_laws.proofs.Shown.{compared, compared_is, is_plain, is_plain_value, plain_type, plain_value, shown, shown_hole, shown_parts}
use Rattle.meeting_laws.proofs.Shown.{shown_widened, told_plain, told_plain_value, type_told, types_agree_shown, value_told}

absent : {A B : Type 0} {x : B} → None ≡ Some x → A
absent h = absurd (cc)

implied : (a b : Bool) → list_any (λ c. c) (not a ∷ b ∷ []) ≡ true → a ≡ true → b ≡ true
implied true true k e = refl
implied true false k e = no k
implied false b k e = no e

both_ways : (a b : Bool) → (a ≡ true → b ≡ true) → (b ≡ true → a ≡ true) → a ≡ b
both_ways true true f g = refl
both_ways true false f g = no (f refl)
both_ways false true f g = no (g refl)
both_ways false false f g = refl

module _ (types : Types) (past : Positive) (own : List Closed) {m : ℕ} (f : Point m) (full : IsFull f) (h : Integers) (agree : Agree f h) where
  abbrev mu : Assignment
  mu = standing past h

  abbrev there : Integers → Assignment
  there g = standing past g

  -- ---- conditions that are true

  abbrev AllHold : Conditions → Type 0
  AllHold [] = Unit {0}
  AllHold (None ∷ cs) = ⊥
  AllHold (Some c ∷ cs) = (true_in mu c ≡ true) × AllHold cs

  parted : (cs ds : Conditions) → AllHold (cs ++ ds) → AllHold cs × AllHold ds
  parted [] ds k = (tt, k)
  parted (None ∷ cs) ds k = absurd k
  parted (Some c ∷ cs) ds k = let l = parted cs ds k.1 in ((k.0, l.0), l.1)

  each_true : (cs : Conditions) (ds : List Con) → together cs ≡ Some ds → list_all (λ b. b) (map (true_in mu) ds) ≡ true → AllHold cs
  each_true [] ds e k = tt
  each_true (None ∷ cs) ds e k = absent e
  each_true (Some c ∷ cs) ds e k =
      let p = mapped (λ ys. c ∷ ys) (together cs) ds e in
      let l = and_parts (true_in mu c) (list_all (λ b. b) (map (true_in mu) p.0))
      (subst (λ ys. list_all (λ b. b) (map (true_in mu) ys) ≡ true) (sym p.2) k) in (l.0, each_true cs p.0 p.1 l.1)

  conjuncts : (cs : Conditions) (o : Option (List Con)) → together cs ≡ o → true_in mu (unwrap_or (option_map C.All o) (C.Truth false)) ≡ true → AllHold cs
  conjuncts cs None e k = no (sym (truth_is mu false) ∙ k)
  conjuncts cs (Some ds) e k =
      each_true cs ds e (sym (ap (true_in mu) (sym (C.rolls-All ds)) ∙ fold-roll-Con Bool (form_true mu) (F.All ds)) ∙ k)

  all_hold : (cs : Conditions) → true_in mu (conjunction cs) ≡ true → AllHold cs
  all_hold cs k = conjuncts cs (together cs) refl k

  none_differs : {A : Type 0} → AllHold differs → A
  none_differs k = no (sym (truth_is mu false) ∙ k.0)

  are_alike : (b : Bool) (cs : Conditions) → AllHold (if_alike b cs) → (b ≡ true) × AllHold cs
  are_alike true cs k = (refl, k)
  are_alike false cs k = none_differs k

  -- ---- numbers, truths and arguments

  equal_true : (u t : Num) → true_in mu (equal u t) ≡ true → number mu u ≡ number mu t
  equal_true u t k =
      (Decides-int_eq (number mu u) (number mu t)).0
      (sym (ap (true_in mu) (sym (C.rolls-Compare Is.Equal u t)) ∙ fold-roll-Con Bool (form_true mu) (F.Compare Is.Equal u t)) ∙ k)

  num_agrees : (t u : Num) → AllHold (same_num m t u) → is_below m t ≡ true → number mu u ≡ number mu t
  num_agrees t u k e = equal_true u t (subst (λ b. AllHold (if b then Some (equal u t) ∷ [] else [])) e k).0

  any_true : (c d : Con) → true_in mu (implies c d) ≡ list_any (λ b. b) (not (true_in mu c) ∷ true_in mu d ∷ [])
  any_true c d =
      ap (true_in mu) (sym (C.rolls-Any (C.Not c ∷ d ∷ []))) ∙ fold-roll-Con Bool (form_true mu) (F.Any (C.Not c ∷ d ∷ []))
      ∙ ap (λ b. list_any (λ x. x) (b ∷ true_in mu d ∷ [])) (ap (true_in mu) (sym (C.rolls-Not c)) ∙ fold-roll-Con Bool (form_true mu) (F.Not c))

  truth_agrees : (c d : Con) → AllHold (same_truth m c d) → is_con_below m c ≡ true → true_in mu d ≡ true_in mu c
  truth_agrees c d k e =
      let both = subst (λ b. AllHold (if b then Some (implies d c) ∷ Some (implies c d) ∷ [] else [])) e k in
      both_ways (true_in mu d) (true_in mu c) (implied (true_in mu d) (true_in mu c) (sym (any_true d c) ∙ both.0))
      (implied (true_in mu c) (true_in mu d) (sym (any_true c d) ∙ both.1.0))

  index_agrees : (i j : Index) → AllHold (same_index m i j) → Agrees types past own f full h agree i j
  index_agrees (N.Number t) (N.Number u) k = num_agrees t u k
  index_agrees (N.Truth c) (N.Truth d) k = truth_agrees c d k
  index_agrees (N.Number t) (N.Truth d) k = none_differs k
  index_agrees (N.Truth c) (N.Number u) k = none_differs k

  indices_agree : (is js : List Index) → length is ≡ length js → AllHold (same_indices m is js) → AllAgree types past own f full h agree is js
  indices_agree [] [] e k = tt
  indices_agree [] (j ∷ js) e k = absurd (cc)
  indices_agree (i ∷ is) [] e k = absurd (cc)
  indices_agree (i ∷ is) (j ∷ js) e k =
      let l = parted (same_index m i j) (same_indices m is js) k in
      (index_agrees i j l.0, indices_agree is js (let d : length is ≡ length js = cc in d) l.1)

  -- ---- what is kept of the first, of values of another

  abbrev wide_now : Indices → Closed
  wide_now i = (meant types mu own i).wide

  abbrev now : Reading → Closed
  now r = closed types mu own r

  abbrev shut : Integers → Reading → Closed
  shut g r = closed types (there g) own r

  abbrev wide : Integers → Indices → Closed
  wide g i = wide_at types past own g i

  KeepsAs : Indices → Closed → Type 0
  KeepsAs i c = ((s : Shape) (n : ℕ) (p : Point n) (facts : List Fact) → Later f p → Gives types past own wide c n p facts (kept_value types m i false s))
      × ((s : Shape) (n : ℕ) (p : Point n) (facts : List Fact) → Later f p → (v : Value) → belongs types v c ≡ true
      → Opened types past own v n p facts (kept_value types m i true s))

  KeepsTypeAs : Reading → Closed → Type 0
  KeepsTypeAs r c = (s : Shape) (n : ℕ) (p : Point n) (facts : List Fact) → Later f p → Gives types past own shut c n p facts (kept_type types m r s)

  wide_is : (y : Indices-F Indices Reading) → wide_now (roll-Indices y) ≡ wide_of types mu own (meanings types mu own y)
  wide_is y = ap (λ j. j.wide) (meant_is types mu own (roll-Indices y) y refl)

  -- of no value all is kept
  no_never : {A : Type 0} (v : Value) → belongs types v (wide_now (roll-Indices W.Never)) ≡ true → A
  no_never v k = no (sym (ap (belongs types v) (wide_is W.Never) ∙ nothing_belongs types v mu) ∙ k)

  never_as : (i : Indices) → KeepsAs i (wide_now (roll-Indices W.Never))
  unfolding KeepsAs
  never_as i = (
    (λ s n p facts l. let r = keeps_wide types past own f full h agree i s n p facts l in (r.0, (λ v k. no_never v k), r.2)),
    (λ s n p facts l v k. no_never v k),
  )

  type_never : (r : Reading) → KeepsTypeAs r (wide_now (roll-Indices W.Never))
  unfolding KeepsTypeAs
  type_never r s n p facts l = let k = keeps_type types past own f full h agree r s n p facts l in (k.0, (λ v e. no_never v e), k.2)

  by_form : (x y : Indices-F Indices Reading)
      → ((s : Shape) (n : ℕ) (p : Point n) (facts : List Fact) → Later f p
      → Gives types past own wide (wide_of types mu own (meanings types mu own y)) n p facts (keeping types past own f full h agree x false s))
      → ((s : Shape) (n : ℕ) (p : Point n) (facts : List Fact) → Later f p → (v : Value)
      → belongs types v (wide_of types mu own (meanings types mu own y)) ≡ true
      → Opened types past own v n p facts (keeping types past own f full h agree x true s)) → KeepsAs (roll-Indices x) (wide_now (roll-Indices y))
  unfolding KeepsAs
  by_form x y a b = (
    (λ s n p facts l.
        let r = a s n p facts l in (
          r.0,
          (λ v k. r.1 v (ap (belongs types v) (sym (wide_is y)) ∙ k)),
          subst (λ w. Goes past n p facts w (λ g j. wide g j ≡ r.0)) (sym (value_is types past own f full h agree x false s)) r.2,
        )),
    (λ s n p facts l v k.
        subst (λ w. Opened types past own v n p facts w) (sym (value_is types past own f full h agree x true s))
        (b s n p facts l v (ap (belongs types v) (sym (wide_is y)) ∙ k))),
  )

  -- ---- what is shown of a type is of the same values

  abbrev plains : List Reading → Bool
  plains rs = list_all (λ b. b) (map is_plain rs)

  ShowsAll : Reading → Type 0
  ShowsAll r = is_plain r ≡ true → (is_plain_value (shown r) ≡ true) × (wide_now (shown r) ≡ now r)

  abbrev SuchI : Type 0
  SuchI = Indices × Unit {0}

  abbrev SuchR : Type 0
  SuchR = (r : Reading) × ShowsAll r

  abbrev readings_in : List SuchR → List Reading
  readings_in ys = map (λ (y : SuchR). y.0) ys

  abbrev reading_of : Reading-F SuchI SuchR → Reading-F Indices Reading
  reading_of y = map-Reading SuchI SuchR Indices Reading (λ p. p.0) (λ p. p.0) y

  shows_each : (ys : List SuchR) → plains (readings_in ys) ≡ true
      → (list_all (λ b. b) (map is_plain_value (map shown (readings_in ys))) ≡ true)
      × (wides (map (meant types mu own) (map shown (readings_in ys))) ≡ map (closed types mu own) (readings_in ys))
  unfolding ShowsAll
  shows_each [] k = (refl, refl)
  shows_each (y ∷ ys) k =
      let l = and_parts (is_plain y.0) (plains (readings_in ys)) k in
      let one = y.1 l.0 in
      let rest = shows_each ys l.1 in (
        two (is_plain_value (shown y.0)) (list_all (λ b. b) (map is_plain_value (map shown (readings_in ys)))) one.0 rest.0,
        (λ j. one.1 j ∷ rest.1 j),
      )

  form_shows : (y : Reading-F SuchI SuchR) → ShowsAll (roll-Reading (reading_of y))
  unfolding ShowsAll
  form_shows (W.Of t is ys) k = no (sym (plain_type (W.Of t is (readings_in ys))) ∙ k)
  form_shows (W.Widened i) k = (
    ap is_plain_value (shown_widened i.0) ∙ sym (plain_type (W.Widened i.0)) ∙ k,
    ap wide_now (shown_widened i.0) ∙ sym (closed_is types mu own (roll-Reading (W.Widened i.0)) (W.Widened i.0) refl),
  )
  form_shows (W.Parts ys) k =
      let rs = readings_in ys in
      let is = map shown (readings_in ys) in
      let all = shows_each ys (sym (plain_type (W.Parts (readings_in ys))) ∙ k) in (
        ap is_plain_value (shown_parts rs ∙ sym (I.rolls-Tuple is)) ∙ plain_value (W.Tuple is) ∙ all.0,
        ap wide_now (shown_parts rs ∙ sym (I.rolls-Tuple is)) ∙ wide_is (W.Tuple is) ∙ ap (tuple_of mu) all.1
            ∙ sym (closed_is types mu own (roll-Reading (W.Parts rs)) (W.Parts rs) refl),
      )
  form_shows W.Hole k = (
    ap is_plain_value (shown_hole ∙ sym I.rolls-Never) ∙ plain_value W.Never,
    ap wide_now (shown_hole ∙ sym I.rolls-Never) ∙ wide_is W.Never ∙ sym (closed_is types mu own (roll-Reading W.Hole) W.Hole refl),
  )

  shows_all : (r : Reading) → ShowsAll r
  shows_all = ind-Reading (λ i. Unit {0}) ShowsAll (λ e y is. tt) (λ e y is. subst (λ d. ShowsAll (roll-Reading d)) is (form_shows y))

  plain_shown : (r : Reading) → is_plain r ≡ true → is_plain_value (shown r) ≡ true
  unfolding ShowsAll
  plain_shown r k = (shows_all r k).0

  wide_shown : (r : Reading) → is_plain r ≡ true → wide_now (shown r) ≡ now r
  unfolding ShowsAll
  wide_shown r k = (shows_all r k).1

  -- ---- to a depth

  abbrev All : {A : Type 0} → (A → Bool) → List A → Type 0
  All test xs = list_all (λ b. b) (map test xs) ≡ true

  Values : ℕ → Type 0
  Values d = (i j : Indices) → is_value_told i ≡ true → is_plain_value j ≡ true → AllHold (agrees_within d m i j)
      → KeepsAs i (wide_now j)

  Kinds : ℕ → Type 0
  Kinds d = (r : Reading) (j : Indices) → is_type_told r ≡ true → is_plain_value j ≡ true
      → AllHold (agrees_within d m (shown r) j) → KeepsTypeAs r (wide_now j)

  module _ (d : ℕ) (values : Values d) (kinds : Kinds d) where
    type_as : (r q : Reading) → is_type_told r ≡ true → is_plain q ≡ true → AllHold (types_agree (agrees_within d m) m r q)
        → KeepsTypeAs r (now q)
    unfolding Kinds
    type_as r q told plain k =
        subst (KeepsTypeAs r) (wide_shown q plain)
        (kinds r (shown q) told (plain_shown q plain) (subst AllHold (types_agree_shown m d r q (told_plain r told) plain) k))

    types_as : (rs qs : List Reading) → All is_type_told rs → All is_plain qs → length rs ≡ length qs
        → AllHold (each_type_agrees (agrees_within d m) m rs qs) → (ss : List Shape) (n : ℕ) (p : Point n) (facts : List Fact) → Later f p
        → AllGive types past own (ClosedsOf types past own f full h agree) (map (closed types mu own) qs) n p facts (each_kept (map (kept_type types m) rs) ss)
    unfolding KeepsTypeAs
    types_as [] [] told plain e k ss n p facts l = ([], tt, gives [] (λ g a. refl))
    types_as [] (q ∷ qs) told plain e k ss n p facts l = absurd (cc)
    types_as (r ∷ rs) [] told plain e k ss n p facts l = absurd (cc)
    types_as (r ∷ rs) (q ∷ qs) told plain e k [] n p facts l =
        let t = and_parts (is_type_told r) (list_all (λ b. b) (map is_type_told rs)) told in
        let s = and_parts (is_plain q) (plains qs) plain in
        let c = parted (types_agree (agrees_within d m) m r q) (each_type_agrees (agrees_within d m) m rs qs) k in
        both_give types past own shut (ClosedsOf types past own f full h agree) (now q) (map (closed types mu own) qs) (λ g x xs. refl)
        (type_as r q t.0 s.0 c.0 V.Hole n p facts l)
        (λ j z fs b. types_as rs qs t.1 s.1 (let o : length rs ≡ length qs = cc in o) c.1 [] j z fs (later_on l b))
    types_as (r ∷ rs) (q ∷ qs) told plain e k (u ∷ us) n p facts l =
        let t = and_parts (is_type_told r) (list_all (λ b. b) (map is_type_told rs)) told in
        let s = and_parts (is_plain q) (plains qs) plain in
        let c = parted (types_agree (agrees_within d m) m r q) (each_type_agrees (agrees_within d m) m rs qs) k in
        both_give types past own shut (ClosedsOf types past own f full h agree) (now q) (map (closed types mu own) qs) (λ g x xs. refl)
        (type_as r q t.0 s.0 c.0 u n p facts l)
        (λ j z fs b. types_as rs qs t.1 s.1 (let o : length rs ≡ length qs = cc in o) c.1 us j z fs (later_on l b))

    abbrev Parts : List Indices → List Indices → Type 0
    Parts is js = All is_value_told is × All is_plain_value js × (length is ≡ length js)
        × AllHold (each_agrees (agrees_within d m) is js)

    -- the first two, and the others
    first_part : (i : Indices) (is : List Indices) (j : Indices) (js : List Indices) → Parts (i ∷ is) (j ∷ js) → KeepsAs i (wide_now j) × Parts is js
    unfolding Values
    first_part i is j js h =
        let t = and_parts (is_value_told i) (list_all (λ b. b) (map is_value_told is)) h.0 in
        let s = and_parts (is_plain_value j) (list_all (λ b. b) (map is_plain_value js)) h.1 in
        let o : length (i ∷ is) ≡ length (j ∷ js) = h.2 in
        let c = parted (agrees_within d m i j) (each_agrees (agrees_within d m) is js) h.3 in
        (values i j t.0 s.0 c.0, (t.1, s.1, (let q : length is ≡ length js = cc in q), c.1))

    uneven : {A : Type 0} (i : Indices) (is : List Indices) → (length (i ∷ is) ≡ 0) → A
    uneven i is e = absurd (cc)

    wides_as : (is js : List Indices) → Parts is js → (ss : List Shape) (n : ℕ) (p : Point n) (facts : List Fact) → Later f p
        → AllGive types past own (WidesOf types past own f full h agree) (wides (map (meant types mu own) js)) n p facts
        (each_kept (opened_or_not false (map (kept_value types m) is)) ss)
    unfolding KeepsAs
    wides_as [] [] k ss n p facts l = ([], tt, gives [] (λ g a. refl))
    wides_as [] (j ∷ js) k ss n p facts l = uneven j js (sym k.2)
    wides_as (i ∷ is) [] k ss n p facts l = uneven i is k.2
    wides_as (i ∷ is) (j ∷ js) k [] n p facts l =
        let one = first_part i is j js k in
        both_give types past own wide (WidesOf types past own f full h agree) (wide_now j) (wides (map (meant types mu own) js)) (λ g x xs. refl)
        (one.0.0 V.Hole n p facts l) (λ a z fs b. wides_as is js one.1 [] a z fs (later_on l b))
    wides_as (i ∷ is) (j ∷ js) k (s ∷ ss) n p facts l =
        let one = first_part i is j js k in
        both_give types past own wide (WidesOf types past own f full h agree) (wide_now j) (wides (map (meant types mu own) js)) (λ g x xs. refl)
        (one.0.0 s n p facts l) (λ a z fs b. wides_as is js one.1 ss a z fs (later_on l b))

    opens_as : (is js : List Indices) → Parts is js → (ss : List Shape) (n : ℕ) (p : Point n) (facts : List Fact) → Later f p → (vs : List Value)
        → each_of types past own vs (wides (map (meant types mu own) js)) ≡ true
        → AllOpened types past own vs n p facts (each_kept (opened_or_not true (map (kept_value types m) is)) ss)
    unfolding KeepsAs
    opens_as [] [] k ss n p facts l [] e = ([], refl, gives [] (λ g a. refl))
    opens_as [] [] k ss n p facts l (v ∷ vs) e = no e
    opens_as [] (j ∷ js) k ss n p facts l vs e = uneven j js (sym k.2)
    opens_as (i ∷ is) [] k ss n p facts l vs e = uneven i is k.2
    opens_as (i ∷ is) (j ∷ js) k ss n p facts l [] e = no e
    opens_as (i ∷ is) (j ∷ js) k [] n p facts l (v ∷ vs) e =
        let one = first_part i is j js k in
        let o = and_parts (belongs types v (wide_now j)) (each_of types past own vs (wides (map (meant types mu own) js))) e in
        both_opened types past own v vs (one.0.1 V.Hole n p facts l v o.0) (λ a z fs b. opens_as is js one.1 [] a z fs (later_on l b) vs o.1)
    opens_as (i ∷ is) (j ∷ js) k (s ∷ ss) n p facts l (v ∷ vs) e =
        let one = first_part i is j js k in
        let o = and_parts (belongs types v (wide_now j)) (each_of types past own vs (wides (map (meant types mu own) js))) e in
        both_opened types past own v vs (one.0.1 s n p facts l v o.0) (λ a z fs b. opens_as is js one.1 ss a z fs (later_on l b) vs o.1)

    -- ---- each form of the first way, with one of the other

    abbrev Compared : Indices-F Indices Reading → Indices-F Indices Reading → Type 0
    Compared x y = AllHold (compared m d x y)

    unit_as : (y : Indices-F Indices Reading) → Compared W.Unit y → KeepsAs (roll-Indices W.Unit) (wide_now (roll-Indices y))
    unit_as W.Never k = never_as (roll-Indices W.Unit)
    unit_as W.Unit k = by_form W.Unit W.Unit (λ s n p facts l. held_wide types past own f full h agree _ (unit_held types past own f full h agree n p facts))
        (λ s n p facts l v e. held_value types past own f full h agree _ v (unit_held types past own f full h agree n p facts) e)
    unit_as y k = none_differs k

    bit_as : (y : Indices-F Indices Reading) → Compared W.Bit y → KeepsAs (roll-Indices W.Bit) (wide_now (roll-Indices y))
    bit_as W.Never k = never_as (roll-Indices W.Bit)
    bit_as W.Bit k = by_form W.Bit W.Bit (λ s n p facts l. held_wide types past own f full h agree _ (bit_held types past own f full h agree n p facts))
        (λ s n p facts l v e. held_value types past own f full h agree _ v (bit_held types past own f full h agree n p facts) e)
    bit_as y k = none_differs k

    string_as : (y : Indices-F Indices Reading) → Compared W.String y → KeepsAs (roll-Indices W.String) (wide_now (roll-Indices y))
    string_as W.Never k = never_as (roll-Indices W.String)
    string_as W.String k =
        by_form W.String W.String (λ s n p facts l. held_wide types past own f full h agree _ (string_held types past own f full h agree n p facts))
        (λ s n p facts l v e. held_value types past own f full h agree _ v (string_held types past own f full h agree n p facts) e)
    string_as y k = none_differs k

    truth_as : (c : Con) (y : Indices-F Indices Reading) → Compared (W.Truth c) y → KeepsAs (roll-Indices (W.Truth c)) (wide_now (roll-Indices y))
    truth_as c W.Never k = never_as (roll-Indices (W.Truth c))
    truth_as c (W.Truth e) k =
        by_form (W.Truth c) (W.Truth e) (λ s n p facts l. truth_wide types past own f full h agree n p facts)
        (λ s n p facts l v o. truth_value types past own f full h agree n p facts v o)
    truth_as c y k = none_differs k

    integer_as : (t : Num) (y : Indices-F Indices Reading) → Compared (W.Integer t) y → KeepsAs (roll-Indices (W.Integer t)) (wide_now (roll-Indices y))
    integer_as t W.Never k = never_as (roll-Indices (W.Integer t))
    integer_as t (W.Integer u) k =
        by_form (W.Integer t) (W.Integer u) (λ s n p facts l. integer_wide types past own f full h agree n p facts)
        (λ s n p facts l v o. integer_value types past own f full h agree n p facts v o)
    integer_as t y k = none_differs k

    bits_as : (t : Num) (y : Indices-F Indices Reading) → Compared (W.Bits t) y → KeepsAs (roll-Indices (W.Bits t)) (wide_now (roll-Indices y))
    bits_as t W.Never k = never_as (roll-Indices (W.Bits t))
    bits_as t (W.Bits u) k =
        by_form (W.Bits t) (W.Bits u)
        (λ s n p facts l. held_wide types past own f full h agree _ (bits_held types past own f full h agree t (number mu u) (num_agrees t u k) n p facts l))
        (λ s n p facts l v e. held_value types past own f full h agree _ v
        (bits_held types past own f full h agree t (number mu u) (num_agrees t u k) n p facts l) e)
    bits_as t y k = none_differs k

    variable_as : (i : ℕ) (y : Indices-F Indices Reading) → Compared (W.Variable i) y → KeepsAs (roll-Indices (W.Variable i)) (wide_now (roll-Indices y))
    variable_as i W.Never k = never_as (roll-Indices (W.Variable i))
    variable_as i (W.Variable j) k =
        let same : i ≡ j = (Decides-eqb i j).0 (are_alike (nat_eq i j) [] k).0 in
        subst (λ z. KeepsAs (roll-Indices (W.Variable i)) (wide_now (roll-Indices (W.Variable z)))) same
        (by_form (W.Variable i) (W.Variable i)
        (λ s n p facts l. held_wide types past own f full h agree _ (variable_held types past own f full h agree i n p facts))
        (λ s n p facts l v e. held_value types past own f full h agree _ v (variable_held types past own f full h agree i n p facts) e))
    variable_as i y k = none_differs k

    list_as : (r : Reading) → is_type_told r ≡ true → (y : Indices-F Indices Reading) → is_plain_value (roll-Indices y) ≡ true
        → Compared (W.List r) y → KeepsAs (roll-Indices (W.List r)) (wide_now (roll-Indices y))
    unfolding KeepsTypeAs
    list_as r told W.Never plain k = never_as (roll-Indices (W.List r))
    list_as r told (W.List q) plain k =
        let item : KeepsTypeAs r (now q) = type_as r q told (sym (plain_value (W.List q)) ∙ plain) k in
        by_form (W.List r) (W.List q)
        (λ s n p facts l. held_wide types past own f full h agree _
        (list_held types past own f full h agree (now q) (kept_type types m r (item_shape s)) n p facts (item (item_shape s) n p facts l)))
        (λ s n p facts l v e. held_value types past own f full h agree _ v
        (list_held types past own f full h agree (now q) (kept_type types m r (item_shape s)) n p facts (item (item_shape s) n p facts l)) e)
    list_as r told y plain k = none_differs k

    vector_as : (t : Num) (r : Reading) → is_type_told r ≡ true → (y : Indices-F Indices Reading)
        → is_plain_value (roll-Indices y) ≡ true → Compared (W.Vector t r) y → KeepsAs (roll-Indices (W.Vector t r)) (wide_now (roll-Indices y))
    unfolding KeepsTypeAs
    vector_as t r told W.Never plain k = never_as (roll-Indices (W.Vector t r))
    vector_as t r told (W.Vector u q) plain k =
        let c = parted (same_num m t u) (types_agree (agrees_within d m) m r q) k in
        let item : KeepsTypeAs r (now q) = type_as r q told (sym (plain_value (W.Vector u q)) ∙ plain) c.1 in
        by_form (W.Vector t r) (W.Vector u q)
        (λ s n p facts l. held_wide types past own f full h agree _
        (vector_held types past own f full h agree t (number mu u) (num_agrees t u c.0) (now q) (kept_type types m r (item_shape s)) n p facts l
        (λ a z fs b. item (item_shape s) a z fs (later_on l b))))
        (λ s n p facts l v e. held_value types past own f full h agree _ v
        (vector_held types past own f full h agree t (number mu u) (num_agrees t u c.0) (now q) (kept_type types m r (item_shape s)) n p facts l
        (λ a z fs b. item (item_shape s) a z fs (later_on l b))) e)
    vector_as t r told y plain k = none_differs k

    tuple_as : (is : List Indices) → All is_value_told is → (y : Indices-F Indices Reading)
        → is_plain_value (roll-Indices y) ≡ true → Compared (W.Tuple is) y → KeepsAs (roll-Indices (W.Tuple is)) (wide_now (roll-Indices y))
    tuple_as is told W.Never plain k = never_as (roll-Indices (W.Tuple is))
    tuple_as is told (W.Tuple js) plain k =
        let c = are_alike (nat_eq (length is) (length js)) (each_agrees (agrees_within d m) is js) k in
        let parts : Parts is js = (
          told,
          sym (plain_value (W.Tuple js)) ∙ plain,
          (Decides-eqb (length is) (length js)).0 c.0,
          c.1,
        ) in
        let cs = wides (map (meant types mu own) js) in
        by_form (W.Tuple is) (W.Tuple js)
        (λ s n p facts l. tuple_held types past own f full h agree cs (each_kept (opened_or_not false (map (kept_value types m) is)) (part_shapes s)) n p facts
        (wides_as is js parts (part_shapes s) n p facts l))
        (λ s n p facts l v e. tuple_value types past own f full h agree cs (each_kept (opened_or_not true (map (kept_value types m) is)) (part_shapes s)) v n p
        facts e (λ vs o. opens_as is js parts (part_shapes s) n p facts l vs o))
    tuple_as is told y plain k = none_differs k

    named_as : (u : ℕ) (is : List Index) (rs : List Reading) → All is_type_told rs → (y : Indices-F Indices Reading)
        → is_plain_value (roll-Indices y) ≡ true → Compared (W.Named u is rs) y → KeepsAs (roll-Indices (W.Named u is rs)) (wide_now (roll-Indices y))
    named_as u is rs told W.Never plain k = never_as (roll-Indices (W.Named u is rs))
    named_as u is rs told (W.Named v js qs) plain k =
        let c = are_alike ((nat_eq u v && nat_eq (length is) (length js)) && nat_eq (length rs) (length qs))
        (same_indices m is js ++ each_type_agrees (agrees_within d m) m rs qs) k in
        let o = and_parts (nat_eq u v && nat_eq (length is) (length js)) (nat_eq (length rs) (length qs)) c.0 in
        let o2 = and_parts (nat_eq u v) (nat_eq (length is) (length js)) o.0 in
        let a = parted (same_indices m is js) (each_type_agrees (agrees_within d m) m rs qs) c.1 in
        let same = indices_agree is js ((Decides-eqb (length is) (length js)).0 o2.1) a.0 in
        let many : length rs ≡ length qs = (Decides-eqb (length rs) (length qs)).0 o.1 in
        let plain_types : All is_plain qs = sym (plain_value (W.Named v js qs)) ∙ plain in
        let cs = map (closed types mu own) qs in
        subst (λ z. KeepsAs (roll-Indices (W.Named u is rs)) (wide_now (roll-Indices (W.Named z js qs)))) ((Decides-eqb u v).0 o2.0)
        (by_form (W.Named u is rs) (W.Named u js qs)
        (λ s n p facts l. held_wide types past own f full h agree _
        (named_held types past own f full h agree u is js same cs (each_kept (map (kept_type types m) rs) (part_shapes s)) n p facts l
        (λ b z fs e. types_as rs qs told plain_types many a.1 (part_shapes s) b z fs (later_on l e))))
        (λ s n p facts l w e. held_value types past own f full h agree _ w
        (named_held types past own f full h agree u is js same cs (each_kept (map (kept_type types m) rs) (part_shapes s)) n p facts l
        (λ b z fs i. types_as rs qs told plain_types many a.1 (part_shapes s) b z fs (later_on l i))) e))
    named_as u is rs told y plain k = none_differs k

    form_as : (x y : Indices-F Indices Reading) → is_value_told (roll-Indices x) ≡ true → is_plain_value (roll-Indices y) ≡ true
        → Compared x y → KeepsAs (roll-Indices x) (wide_now (roll-Indices y))
    form_as W.Never y told plain k = no (sym (value_told W.Never) ∙ told)
    form_as W.Unit y told plain k = unit_as y k
    form_as (W.Truth c) y told plain k = truth_as c y k
    form_as W.Bit y told plain k = bit_as y k
    form_as (W.Bits t) y told plain k = bits_as t y k
    form_as (W.Integer t) y told plain k = integer_as t y k
    form_as W.String y told plain k = string_as y k
    form_as (W.List r) y told plain k = list_as r (sym (value_told (W.List r)) ∙ told) y plain k
    form_as (W.Vector t r) y told plain k =
        vector_as t r (sym (value_told (W.Vector t r)) ∙ told) y plain k
    form_as (W.Tuple is) y told plain k = tuple_as is (sym (value_told (W.Tuple is)) ∙ told) y plain k
    form_as (W.Named u is rs) y told plain k =
        named_as u is rs (sym (value_told (W.Named u is rs)) ∙ told) y plain k
    form_as (W.Variable i) y told plain k = variable_as i y k

    values_next : Values (suc d)
    unfolding Values
    values_next i j told plain k =
        let back : roll-Indices (out-Indices i) ≡ i = roll-out-Indices i in
        let other : roll-Indices (out-Indices j) ≡ j = roll-out-Indices j in
        subst (λ z. KeepsAs z (wide_now j)) back (subst (λ z. KeepsAs (roll-Indices (out-Indices i)) (wide_now z)) other
        (form_as (out-Indices i) (out-Indices j) (ap is_value_told back ∙ told) (ap is_plain_value other ∙ plain) k))

    -- ---- types: by what is shown of them

    shown_parts_as : (rs : List Reading) (js : List Indices) → All is_type_told rs → All is_plain_value js
        → length (map shown rs) ≡ length js → AllHold (each_agrees (agrees_within d m) (map shown rs) js)
        → (ss : List Shape) (n : ℕ) (p : Point n) (facts : List Fact) → Later f p
        → AllGive types past own (ClosedsOf types past own f full h agree) (wides (map (meant types mu own) js)) n p facts
        (each_kept (map (kept_type types m) rs) ss)
    unfolding Kinds KeepsTypeAs
    shown_parts_as [] [] told plain e k ss n p facts l = ([], tt, gives [] (λ g a. refl))
    shown_parts_as [] (j ∷ js) told plain e k ss n p facts l = uneven j js (sym e)
    shown_parts_as (r ∷ rs) [] told plain e k ss n p facts l = uneven (shown r) (map shown rs) e
    shown_parts_as (r ∷ rs) (j ∷ js) told plain e k [] n p facts l =
        let t = and_parts (is_type_told r) (list_all (λ b. b) (map is_type_told rs)) told in
        let s = and_parts (is_plain_value j) (list_all (λ b. b) (map is_plain_value js)) plain in
        let c = parted (agrees_within d m (shown r) j) (each_agrees (agrees_within d m) (map shown rs) js) k in
        both_give types past own shut (ClosedsOf types past own f full h agree) (wide_now j) (wides (map (meant types mu own) js)) (λ g x xs. refl)
        (kinds r j t.0 s.0 c.0 V.Hole n p facts l)
        (λ a z fs b. shown_parts_as rs js t.1 s.1 (let o : length (map shown rs) ≡ length js = cc in o) c.1 [] a z fs (later_on l b))
    shown_parts_as (r ∷ rs) (j ∷ js) told plain e k (u ∷ us) n p facts l =
        let t = and_parts (is_type_told r) (list_all (λ b. b) (map is_type_told rs)) told in
        let s = and_parts (is_plain_value j) (list_all (λ b. b) (map is_plain_value js)) plain in
        let c = parted (agrees_within d m (shown r) j) (each_agrees (agrees_within d m) (map shown rs) js) k in
        both_give types past own shut (ClosedsOf types past own f full h agree) (wide_now j) (wides (map (meant types mu own) js)) (λ g x xs. refl)
        (kinds r j t.0 s.0 c.0 u n p facts l)
        (λ a z fs b. shown_parts_as rs js t.1 s.1 (let o : length (map shown rs) ≡ length js = cc in o) c.1 us a z fs (later_on l b))

    parts_as : (rs : List Reading) → All is_type_told rs → (y : Indices-F Indices Reading) → is_plain_value (roll-Indices y) ≡ true
        → Compared (W.Tuple (map shown rs)) y → KeepsTypeAs (roll-Reading (W.Parts rs)) (wide_now (roll-Indices y))
    unfolding KeepsTypeAs
    parts_as rs told W.Never plain k = type_never (roll-Reading (W.Parts rs))
    parts_as rs told (W.Tuple js) plain k = λ s n p facts l.
        let c = are_alike (nat_eq (length (map shown rs)) (length js)) (each_agrees (agrees_within d m) (map shown rs) js) k in
        let all = shown_parts_as rs js told (sym (plain_value (W.Tuple js)) ∙ plain) ((Decides-eqb (length (map shown rs)) (length js)).0 c.0) c.1
        (part_shapes s) n p facts l in
        let whole_type : Closed = tuple_of (none types past own) all.0 in (
          whole_type,
          (λ v e. tuple_wider types (none types past own) (wides (map (meant types mu own) js)) all.0 all.1 v
              (ap (belongs types v) (sym (wide_is (W.Tuple js))) ∙ e)),
          subst (λ w. Goes past n p facts w (λ g q. shut g q ≡ whole_type)) (sym (type_is types past own f full h agree (W.Parts rs) s))
              (goes_then all.2 (λ a z fs qs b e. gives (R.Parts qs) (λ g o.
              closed_is types (there g) own (R.Parts qs) (W.Parts qs) (R.rolls-Parts qs) ∙ ap (tuple_of (none types past own)) (e g o)))),
        )
    parts_as rs told y plain k = none_differs k

    -- a hole of the first, of which no value is
    hole_as : (y : Indices-F Indices Reading) → Compared W.Never y → KeepsTypeAs (roll-Reading W.Hole) (wide_now (roll-Indices y))
    hole_as W.Never k = type_never (roll-Reading W.Hole)
    hole_as y k = none_differs k

  widened_as : (i j : Indices) → KeepsAs i (wide_now j) → KeepsTypeAs (roll-Reading (W.Widened i)) (wide_now j)
  unfolding KeepsAs KeepsTypeAs
  widened_as i j k s n p facts l =
      let r = k.0 s n p facts l in (
        r.0,
        r.1,
        subst (λ w. Goes past n p facts w (λ g q. shut g q ≡ r.0)) (sym (type_is types past own f full h agree (W.Widened i) s))
            (goes_then r.2 (λ a z fs x b e. gives (R.Widened x) (λ g o.
            closed_is types (there g) own (R.Widened x) (W.Widened x) (R.rolls-Widened x) ∙ e g o))),
      )

  kind_as : (d : ℕ) → Values d → Kinds d → (z : Reading-F Indices Reading) (j : Indices) → is_type_told (roll-Reading z) ≡ true
      → is_plain_value j ≡ true → AllHold (agrees_within (suc d) m (shown (roll-Reading z)) j)
      → KeepsTypeAs (roll-Reading z) (wide_now j)
  unfolding Values
  kind_as d values kinds (W.Of t is rs) j told plain k = no (sym (type_told (W.Of t is rs)) ∙ told)
  kind_as d values kinds (W.Widened i) j told plain k =
      widened_as i j (values_next d values kinds i j (sym (type_told (W.Widened i)) ∙ told) plain
      (subst (λ x. AllHold (agrees_within (suc d) m x j)) (shown_widened i) k))
  kind_as d values kinds (W.Parts rs) j told plain k =
      let other : roll-Indices (out-Indices j) ≡ j = roll-out-Indices j in
      let same = compared_is m d (shown (roll-Reading (W.Parts rs))) j (W.Tuple (map shown rs)) (out-Indices j)
      (I.rolls-Tuple (map shown rs) ∙ sym (shown_parts rs)) other in
      subst (λ z. KeepsTypeAs (roll-Reading (W.Parts rs)) (wide_now z)) other
      (parts_as d values kinds rs (sym (type_told (W.Parts rs)) ∙ told) (out-Indices j)
      (ap is_plain_value other ∙ plain) (subst AllHold same k))
  kind_as d values kinds W.Hole j told plain k =
      let other : roll-Indices (out-Indices j) ≡ j = roll-out-Indices j in
      let same = compared_is m d (shown (roll-Reading W.Hole)) j W.Never (out-Indices j) (I.rolls-Never ∙ sym shown_hole) other in
      subst (λ z. KeepsTypeAs (roll-Reading W.Hole) (wide_now z)) other (hole_as d values kinds (out-Indices j) (subst AllHold same k))

  kinds_next : (d : ℕ) → Values d → Kinds d → Kinds (suc d)
  unfolding Kinds
  kinds_next d values kinds r j told plain k =
      let back : roll-Reading (out-Reading r) ≡ r = roll-out-Reading r in
      subst (λ z. KeepsTypeAs z (wide_now j)) back
      (kind_as d values kinds (out-Reading r) j (ap is_type_told back ∙ told) plain
      (subst (λ z. AllHold (agrees_within (suc d) m (shown z) j)) (sym back) k))

  no_values : Values zero
  unfolding Values
  no_values i j told plain k = none_differs k

  no_kinds : Kinds zero
  unfolding Kinds
  no_kinds r j told plain k = none_differs k

  to_depth : (d : ℕ) → Values d × Kinds d
  to_depth zero = (no_values, no_kinds)
  to_depth (suc d) = let below = to_depth d in (values_next d below.0 below.1, kinds_next d below.0 below.1)

  -- where all that is owed is true
  pub agrees_so : (d : ℕ) (i j : Indices) → is_value_told i ≡ true → is_value_told j ≡ true
      → true_in mu (conjunction (agrees_within d m i j)) ≡ true → (s : Shape) (n : ℕ) (p : Point n) (facts : List Fact) → Later f p → (v : Value)
      → belongs types v (wide_now j) ≡ true → Opened types past own v n p facts (kept_value types m i true s)
  unfolding Values KeepsAs
  agrees_so d i j told tells k = ((to_depth d).0 i j told (told_plain_value j tells) (all_hold (agrees_within d m i j) k)).1
