-- Literals in patterns.
use Rattle.std.proofs.Common.{◌≡◌, ℕ, nat_eq, nat_lt, ℤ, pos, Bool, true, false, List, [], ◌∷◌, length, map, Some, refl, sym, ap, ◌∙◌, subst}
use Rattle.std.proofs.Common.{if◌then◌else◌, bytes_eq}
use Rattle.std.specs.Bool.{beq}
use Rattle.std.specs.Ordering.{int_eq}
use Rattle.std.proofs.lemmas.Bool.{and_parts}
use Rattle.std.proofs.lemmas.Bool.Decides.{Decides-int_eq, Decides-eqb}
use Rattle.sail_base.specs.Bits.{eq_bits}
use Rattle.sail_base.specs.declared.place.Place.{Place}
use Rattle.sail_types.specs.Belongs.{Reading as Closed, belongs, fields_belong, payload_belongs, assigned}
use Rattle.sail_types.specs.Named.{fields, members, payload}
use Rattle.sail_types.specs.Numbers.{Positive, number}
use Rattle.sail_types.specs.Sums.{constant}
use Rattle.sail_types.proofs.Substituted.{number_constant}
use Rattle.sail_types.specs.declared.numbers.Con.{Con}
use Rattle.sail_types.specs.declared.numbers.Index.{Index}
use Rattle.sail_types.specs.declared.numbers.Num.{Num}
use Rattle.sail_types.specs.declared.table.Types.{Types}
use Rattle.sail_types.specs.declared.values.Value.{Value, Value-F, out-Value}
use Rattle.sail_types.specs.declared.values.Value.TheOpen as V
use Rattle.sail_core.specs.declared.patterns.Literal.{Literal}
use Rattle.sail_core.specs.declared.patterns.Literal.TheVariants as L
use Rattle.sail_core.specs.Run.{Local, Run, gives, ◌then◌}
use Rattle.sail_core.specs.Patterns.{Seen, Wrong, tested, literal_seen, so_many, as_run, parts_match as run_parts}
use Rattle.value_indices.specs.declared.indices.Indices.{Indices, roll-Indices}
use Rattle.value_indices.specs.declared.indices.Indices.TheOpen as W
use Rattle.value_indices.specs.declared.indices.Indices.TheOpen.{Indices-F}
use Rattle.value_indices.specs.declared.indices.Indices.TheVariants as I
use Rattle.value_indices.specs.declared.indices.Reading.{Reading}
use Rattle.value_indices.specs.declared.notes.Fact.{Fact}
use Rattle.value_indices.specs.Steps.{Walk, bind, owe}
use Rattle.value_indices.specs.Opening.{equal}
use Rattle.checked_meaning.specs.Items.{Item}
use Rattle.pattern_leaves.specs.declared.names.Bound.{Bound}
use Rattle.pattern_leaves.specs.Literals.{no_names, integer_met, is_of, met_where, bits_met, with_integer, with_bits, literal_met}
use Rattle.value_laws.specs.Belonging.{Integers, standing, closeds, closed, has, form_holds}
use Rattle.value_laws.specs.Known.{Point, Agree}
use Rattle.value_laws.proofs.Basics.{no}
use Rattle.value_laws.proofs.Alike.{asks}
use Rattle.value_laws.proofs.Steps.{same, assumes}
use Rattle.pattern_laws.specs.Beside.{AllMet, Stands, Ends, OfSizes, Behind, Beside}
use Rattle.pattern_laws.specs.Typing.{Typing, Bears, NamesBear}
use Rattle.pattern_laws.specs.Standing.{literal_stands}
use Rattle.pattern_laws.proofs.Conditions.{equal_numbers, numbers_equal, goals_said}
use Rattle.pattern_laws.proofs.Steps.{walks, rests, owes, knowing, falling, wrongs}
use Rattle.pattern_laws.proofs.Tables.{enum_alone}
use Rattle.pattern_laws.proofs.Values.{never_had, unit_had, truth_had, bit_had, bits_had, integer_had, string_had, named_had, wide_as, integer_as}

pub pos_same : {n m : ℕ} → pos n ≡ pos m → n ≡ m
pos_same e = cc

module _ (types : Types) (past : Positive) (own : List Closed) {fit : OfSizes} (y : Typing types past own fit) (numbers : List Index) (q : Ends fit) where
  abbrev Names : Behind (List Bound) (List (Local Item))
  Names m p bs ls = NamesBear types past own y numbers m p bs ls

  -- a literal's run
  abbrev looking : Seen Item → Run Item (List (Local Item))
  looking s = as_run (so_many 0 s) then run_parts []

  tests : {n : ℕ} {f : Point n} {facts : List Fact} {walk : Walk (List Bound)} (b : Bool) → (b ≡ true → Beside q past n f facts walk (gives []) Names)
      → Beside q past n f facts walk (looking (tested b)) Names
  tests true h = h refl
  tests false h = falling

  nothing : {n : ℕ} {f : Point n} {facts : List Fact} → Beside q past n f facts no_names (gives []) Names
  nothing = rests [] [] tt

  module _ {n : ℕ} {f : Point n} {facts : List Fact} (place : Place) (in_case : Bool) where
    -- ---- integers

    known_here : (c : Bool) (z : ℤ) (t : Num) → ((g : Integers) → Agree f g → number (standing past g) t ≡ z)
        → Beside q past n f facts (integer_met c z t) (gives []) Names
    known_here true z t h =
        walks (assumes (equal t (constant z)) (λ g a. numbers_equal (standing past g) t (constant z)
        (h g a ∙ sym (number_constant (standing past g) z)))) (λ m g fs u l k. nothing)
    known_here false z t h = nothing

    integer_lit : (z : ℤ) (t : Num) (v : Value-F Value) → ((g : Integers) → Agree f g → form_holds types (standing past g) own (W.Integer t) v ≡ true)
        → Beside q past n f facts (integer_met in_case z t) (looking (literal_seen (L.Integer z) v)) Names
    integer_lit z t (V.Integer m) h = tests (int_eq z m) (λ e. known_here in_case z t (λ g a.
        integer_as types past own g t m (h g a) ∙ sym ((Decides-int_eq z m).0 e)))
    integer_lit z t v h = no (h f.integers (same f))

    with_integers : (l : Literal) (t : Num) (v : Value-F Value) → ((g : Integers) → Agree f g → form_holds types (standing past g) own (W.Integer t) v ≡ true)
        → Beside q past n f facts (with_integer place in_case t l) (looking (literal_seen l v)) Names
    with_integers (L.Integer z) t v h = integer_lit z t v h
    with_integers l t v h = wrongs place

    -- ---- bits

    as_wide : (bits cs : List Bool) (t : Num) → ((g : Integers) → Agree f g → form_holds types (standing past g) own (W.Bits t) (V.Bits cs) ≡ true)
        → AllMet q past (bits_met place (length bits) t facts n).notes → Stands q past f facts → length bits ≡ length cs
    unfolding bind owe
    as_wide bits cs t h met stands =
        let said = goals_said q past facts place (Some (equal (constant (pos (length bits))) t) ∷ []) (met.0, tt) f.integers
        (stands.there f.integers (same f)) in
        pos_same (sym (number_constant (standing past f.integers) (pos (length bits)))
        ∙ equal_numbers (standing past f.integers) (constant (pos (length bits))) t said.0 ∙ wide_as types past own f.integers t cs (h f.integers (same f)))

    bits_seen : (bits cs : List Bool) → length bits ≡ length cs → {walk : Walk (List Bound)} → Beside q past n f facts walk (gives []) Names
        → Beside q past n f facts walk (looking (literal_seen (L.Bits bits) (V.Bits cs))) Names
    bits_seen bits cs e {walk} b =
        subst (λ c. Beside q past n f facts walk (looking (if c then tested (eq_bits bits cs) else Wrong)) Names)
        (sym ((Decides-eqb (length bits) (length cs)).1 e)) (tests (eq_bits bits cs) (λ k. b))

    bits_lit : (bits : List Bool) (t : Num) (v : Value-F Value) → ((g : Integers) → Agree f g → form_holds types (standing past g) own (W.Bits t) v ≡ true)
        → Beside q past n f facts (bits_met place (length bits) t) (looking (literal_seen (L.Bits bits) v)) Names
    bits_lit bits t (V.Bits cs) h = knowing (as_wide bits cs t h) (λ e. bits_seen bits cs e (owes place _ nothing))
    bits_lit bits t v h = no (h f.integers (same f))

    with_widths : (l : Literal) (t : Num) (v : Value-F Value) → ((g : Integers) → Agree f g → form_holds types (standing past g) own (W.Bits t) v ≡ true)
        → Beside q past n f facts (with_bits place t l) (looking (literal_seen l v)) Names
    with_widths (L.Bits bits) t v h = bits_lit bits t v h
    with_widths l t v h = wrongs place

    -- ---- what owes nothing

    unit_lit : (l : Literal) (v : Value-F Value) → form_holds types (standing past f.integers) own W.Unit v ≡ true
        → Beside q past n f facts (met_where place (is_of l W.Unit)) (looking (literal_seen l v)) Names
    unit_lit L.Unit V.Unit h = nothing
    unit_lit L.Unit v h = no h
    unit_lit l v h = wrongs place

    truth_lit : (l : Literal) (c : Con) (v : Value-F Value) → form_holds types (standing past f.integers) own (W.Truth c) v ≡ true
        → Beside q past n f facts (met_where place (is_of l (W.Truth c))) (looking (literal_seen l v)) Names
    truth_lit (L.Truth b) c (V.Truth d) h = tests (beq b d) (λ e. nothing)
    truth_lit (L.Truth b) c v h = no h
    truth_lit l c v h = wrongs place

    bit_lit : (l : Literal) (v : Value-F Value) → form_holds types (standing past f.integers) own W.Bit v ≡ true
        → Beside q past n f facts (met_where place (is_of l W.Bit)) (looking (literal_seen l v)) Names
    bit_lit (L.Bit b) (V.Bit d) h = tests (beq b d) (λ e. nothing)
    bit_lit (L.Bit b) v h = no h
    bit_lit l v h = wrongs place

    string_lit : (l : Literal) (v : Value-F Value) → form_holds types (standing past f.integers) own W.String v ≡ true
        → Beside q past n f facts (met_where place (is_of l W.String)) (looking (literal_seen l v)) Names
    string_lit (L.String text) (V.String s) h = tests (bytes_eq text s) (λ e. nothing)
    string_lit (L.String text) v h = no h
    string_lit l v h = wrongs place

    -- ---- members, of the value's own enum

    member_lit : (e k u : ℕ) (is : List Index) (rs : List Closed) (v : Value-F Value) → u ≡ e → nat_lt k (length (members types e)) ≡ true
        → form_holds types (standing past f.integers) own (W.Named u is rs) v ≡ true
        → Beside q past n f facts no_names (looking (literal_seen (L.Member e k) v)) Names
    member_lit e k u is rs (V.Member j m) own_enum s h =
        let same_enum : j ≡ u = (Decides-eqb j u).0 (and_parts (nat_eq j u) _ h).0 in
        subst (λ c. Beside q past n f facts no_names (looking (if c then tested (nat_eq k m) else Wrong)) Names)
        (sym ((Decides-eqb e j).1 (sym (same_enum ∙ own_enum)))) (tests (nat_eq k m) (λ i. nothing))
    member_lit e k u is rs (V.Struct j vs) own_enum s h =
        let both = and_parts (nat_eq j u) (fields_belong (asks types vs) (assigned (standing past f.integers) is) (closeds rs) (fields types j)) h in
        let place_same : j ≡ e = (Decides-eqb j u).0 both.0 ∙ own_enum in
        no (sym (ap (fields_belong (asks types vs) (assigned (standing past f.integers) is) (closeds rs))
        (ap (fields types) place_same ∙ (enum_alone types e k s).0)) ∙ both.1)
    member_lit e k u is rs (V.Union j c v) own_enum s h =
        let both = and_parts (nat_eq j u) (payload_belongs (belongs types v) (assigned (standing past f.integers) is) (closeds rs) (payload types j c)) h in
        let place_same : j ≡ e = (Decides-eqb j u).0 both.0 ∙ own_enum in
        no (sym (ap (payload_belongs (belongs types v) (assigned (standing past f.integers) is) (closeds rs))
        (ap (λ i. payload types i c) place_same ∙ (enum_alone types e k s).1 c)) ∙ both.1)
    member_lit e k u is rs v own_enum s h = no h

    member_by : (e k u : ℕ) (is : List Index) (rs : List Closed) (v : Value-F Value) (same_enum : Bool) → nat_eq e u ≡ same_enum
        → nat_lt k (length (members types e)) ≡ true → form_holds types (standing past f.integers) own (W.Named u is rs) v ≡ true
        → Beside q past n f facts (met_where place same_enum) (looking (literal_seen (L.Member e k) v)) Names
    member_by e k u is rs v true d s h = member_lit e k u is rs v (sym ((Decides-eqb e u).0 d)) s h
    member_by e k u is rs v false d s h = wrongs place

    named_lit : (l : Literal) (u : ℕ) (is : List Index) (rs : List Reading) (x : Item) → literal_stands types l ≡ true
        → form_holds types (standing past f.integers) own (W.Named u is (map (closed types (standing past f.integers) own) rs)) (out-Value x.val) ≡ true
        → Beside q past n f facts (met_where place (is_of l (W.Named u is rs))) (looking (literal_seen l (out-Value x.val))) Names
    named_lit (L.Member e k) u is rs x s h =
        member_by e k u is (map (closed types (standing past f.integers) own) rs) (out-Value x.val) (nat_eq e u) refl s h
    named_lit l u is rs x s h = wrongs place

  -- ---- a literal, of a value of these indices

  abbrev Matched : {n : ℕ} → Point n → List Fact → Place → Bool → Literal → Indices-F Indices Reading → Item → Type 0
  Matched {n} f facts place in_case l x item =
      Beside q past n f facts (literal_met place in_case l x) (looking (literal_seen l (out-Value item.val))) Names

  not_list : (l : Literal) (r : Reading) → is_of l (W.List r) ≡ false
  not_list L.Unit r = refl
  not_list l r = refl

  not_vector : (l : Literal) (t : Num) (r : Reading) → is_of l (W.Vector t r) ≡ false
  not_vector L.Unit t r = refl
  not_vector l t r = refl

  not_tuple : (l : Literal) (is : List Indices) → is_of l (W.Tuple is) ≡ false
  not_tuple L.Unit is = refl
  not_tuple l is = refl

  not_variable : (l : Literal) (i : ℕ) → is_of l (W.Variable i) ≡ false
  not_variable L.Unit i = refl
  not_variable l i = refl

  not_there : {n : ℕ} {f : Point n} {facts : List Fact} {c : Run Item (List (Local Item))} (place : Place) (b : Bool) → b ≡ false
      → Beside q past n f facts (met_where place b) c Names
  not_there place true e = no (sym e)
  not_there place false e = wrongs place

  pub literal_beside : {n : ℕ} {f : Point n} {facts : List Fact} (place : Place) (in_case : Bool) (l : Literal) (i : Indices) (x : Indices-F Indices Reading)
      → roll-Indices x ≡ i → (v : Item) → Bears types past own y f i v → literal_stands types l ≡ true → Matched f facts place in_case l x v
  literal_beside {f = f} place in_case l i W.Never e v b s =
      let h = subst (λ j. has types (standing past f.integers) own j v.val ≡ true) (sym e ∙ I.rolls-Never) (b.has_it f.integers (same f)) in
      absurd (never_had types past own f.integers v.val h)
  literal_beside {f = f} place in_case l i W.Unit e v b s =
      unit_lit place in_case l (out-Value v.val) (unit_had types past own f.integers v.val
      (subst (λ j. has types (standing past f.integers) own j v.val ≡ true) (sym e ∙ I.rolls-Unit) (b.has_it f.integers (same f))))
  literal_beside {f = f} place in_case l i (W.Truth c) e v b s =
      truth_lit place in_case l c (out-Value v.val) (truth_had types past own f.integers c v.val
      (subst (λ j. has types (standing past f.integers) own j v.val ≡ true) (sym e ∙ I.rolls-Truth c) (b.has_it f.integers (same f))))
  literal_beside {f = f} place in_case l i W.Bit e v b s =
      bit_lit place in_case l (out-Value v.val) (bit_had types past own f.integers v.val
      (subst (λ j. has types (standing past f.integers) own j v.val ≡ true) (sym e ∙ I.rolls-Bit) (b.has_it f.integers (same f))))
  literal_beside place in_case l i (W.Bits t) e v b s =
      with_widths place in_case l t (out-Value v.val) (λ g a. bits_had types past own g t v.val
      (subst (λ j. has types (standing past g) own j v.val ≡ true) (sym e ∙ I.rolls-Bits t) (b.has_it g a)))
  literal_beside place in_case l i (W.Integer t) e v b s =
      with_integers place in_case l t (out-Value v.val) (λ g a. integer_had types past own g t v.val
      (subst (λ j. has types (standing past g) own j v.val ≡ true) (sym e ∙ I.rolls-Integer t) (b.has_it g a)))
  literal_beside {f = f} place in_case l i W.String e v b s =
      string_lit place in_case l (out-Value v.val) (string_had types past own f.integers v.val
      (subst (λ j. has types (standing past f.integers) own j v.val ≡ true) (sym e ∙ I.rolls-String) (b.has_it f.integers (same f))))
  literal_beside place in_case l i (W.List r) e v b s = not_there place (is_of l (W.List r)) (not_list l r)
  literal_beside place in_case l i (W.Vector t r) e v b s = not_there place (is_of l (W.Vector t r)) (not_vector l t r)
  literal_beside place in_case l i (W.Tuple is) e v b s = not_there place (is_of l (W.Tuple is)) (not_tuple l is)
  literal_beside {f = f} place in_case l i (W.Named u is rs) e v b s =
      named_lit place in_case l u is rs v s
      (named_had types past own f.integers u is rs v.val
      (subst (λ j. has types (standing past f.integers) own j v.val ≡ true) (sym e ∙ I.rolls-Named u is rs) (b.has_it f.integers (same f))))
  literal_beside place in_case l i (W.Variable k) e v b s = not_there place (is_of l (W.Variable k)) (not_variable l k)
