-- The numbers that values give are noted from parts that have their types.
use Rattle.sail_types.specs.declared.types.Typ.TheVariants as Y
use Rattle.sail_types.specs.declared.types.Typ.TheOpen as A
use Rattle.sail_types.specs.declared.types.Typ.TheFolds.{fold-roll-Typ}
use Rattle.value_indices.specs.declared.indices.Indices.TheOpen as W
use Rattle.size_values.specs.declared.sized.Sized.TheOpen as Z
use Rattle.size_values.specs.declared.sized.Sized.TheVariants as S
use Rattle.jib.specs.declared.types.ValueType.TheVariants as T
use Rattle.jib.specs.declared.code.Literal.TheVariants as L
use Rattle.jib.specs.declared.code.Source.TheVariants as R
use Rattle.jib.specs.declared.code.Operation.TheVariants as O
use Rattle.jib.specs.declared.code.Instruction.TheVariants as I
use Rattle.std.proofs.lemmas.Option.{slice_get-map}
use Rattle.jib.specs.Typing.{part_some, same}
use Rattle.std.proofs.Common.{List, None, Option, Some, [], ap, arith, false, map, refl, subst, suc, sym, true, ℕ, ℤ, ◌+◌, ◌∙◌, ◌∷◌, ◌≡◌}
use Rattle.std.specs.Prelude.{option_map, slice_get}
use Rattle.call_arguments.specs.Placing.{variable_in}
use Rattle.checked_meaning.specs.Items.{fixed_typ}
use Rattle.jib.specs.Operands.{operation_typed}
use Rattle.jib.specs.Typing.{literal_some, source_typ}
use Rattle.jib.specs.Valid.{aim, is_quiet}
use Rattle.jib.specs.declared.code.Function.{Function}
use Rattle.jib.specs.declared.code.Instruction.{Instruction}
use Rattle.jib.specs.declared.code.Module.{Module}
use Rattle.jib.specs.declared.code.Source.{Source}
use Rattle.lowered_pieces.specs.Forms.{Callees, Depths, Noter, form_noted, kit_at, known_noted, note_code, noter_of, number_noted, part_noted, parts_noted}
use Rattle.lowered_pieces.specs.Lowering.{kit_of}
use Rattle.lowered_pieces.specs.Places.{Kit, Naming, Number, Place, Temp, from, to}
use Rattle.lowered_pieces.specs.Tables.{Tables}
use Rattle.lowered_types.proofs.Standing.{found, known_lt, parts}
use Rattle.lowered_types.specs.Table.{all_known, form_never, form_parts, form_value, is_known, type_in}
use Rattle.lowered_validity.proofs.Fitting.{Liked, There, constant_copy, copy_fits, liked_fits, no_more, parts_of, same_is, slot_typ}
use Rattle.lowered_validity.proofs.Flow.{alone, append, before}
use Rattle.lowered_validity.specs.Laws.{Numbered, sizes_small}
use Rattle.lowered_validity.specs.Right.{Fits, Goes, Labels, Placed, Right, Signs}
use Rattle.lowered_validity.specs.Typing.{one_operand, shell, with_slots}
use Rattle.row_types.specs.Formulas.{least, most}
use Rattle.sail_core.specs.Values.{int_typ}
use Rattle.sail_types.specs.Limits.{is_small}
use Rattle.sail_types.specs.Sums.{constant}
use Rattle.sail_types.specs.declared.numbers.Num.{Num}
use Rattle.sail_types.specs.declared.table.Types.{Types}
use Rattle.size_values.specs.Sized.{UnderConstants, form_sized, typ_sized}
use Rattle.size_values.specs.declared.sized.Sized.{Sized, Sized-F, out-Sized, roll-Sized}
use Rattle.size_values.specs.declared.sized.Sized.TheViews.{roll-out-Sized}
use Rattle.value_indices.specs.declared.indices.Indices.{Indices, roll-Indices}
use Rattle.value_indices.specs.declared.indices.Indices.TheFolds.{fold-roll-Indices, ind-Indices, map-Indices}
use Rattle.value_indices.specs.declared.indices.Indices.TheOpen.{Indices-F}
use Rattle.value_indices.specs.declared.indices.Reading.{Reading, fold-Reading}

module _ (types : Types) (ss : List Sized) (callees : Callees) (m : Module) (f : Function) (n : ℕ) (name : Naming) (g : Signs)
    (pl : Placed types ss (type_in ss) callees m f n name g) (tables : Tables) (all : Numbered types tables ss) where
  abbrev K : Kit
  K = kit_of types name (type_in ss) g.exception callees.size callees.direction

  abbrev number : Sized → ℕ
  number = type_in ss

  abbrev Ok : Labels → List Instruction → Type 0
  Ok out c = Right m f n out c

  -- a source has this type where it is there, and is no register
  abbrev pub Typed : Source → ℕ → Type 0
  Typed a t = (There types ss callees m f n name g pl (a ∷ []) → source_typ m f a ≡ Some t) × (is_quiet 0 a ≡ true)

  pub slot_typed : (p : Place) (t : ℕ) → Typed (from K p t) t
  slot_typed p t = (slot_typ types ss callees m f n name g pl p t, refl)

  -- ---- types by their forms

  pub typ_stands : (s : Sized) (y : Sized-F Sized) → is_known ss s ≡ true → out-Sized s ≡ y → form_never y ≡ false
      → slice_get g.table (number s) ≡ Some (form_value types number y)
  typ_stands s y k e never =
      pl.stands.each (number s) s (found ss s (known_lt ss s k (ap form_never e ∙ never))) ∙ ap (λ z. Some (form_value types number z)) e

  integer_typ : fixed_typ types int_typ ≡ S.Int
  integer_typ =
      ap (λ t. typ_sized types [] t []) (sym (Y.rolls-Range (constant least) (constant most)))
      ∙ ap (λ (h : UnderConstants). h []) (fold-roll-Typ UnderConstants (form_sized types []) (A.Range (constant least) (constant most)))

  is_integer : (s : Sized) → out-Sized s ≡ Z.Int → number s ≡ K.integer
  is_integer s e = ap number (sym (roll-out-Sized s) ∙ ap roll-Sized e ∙ S.rolls-Int ∙ sym integer_typ)

  module _ (d : Depths) (out : Labels) where
    abbrev D : Kit
    D = kit_at K d

    number_right : (o : Option ℕ) (y : Sized-F Sized) (a : Source) → (y ≡ Z.Int → Typed a K.integer) → Ok out (number_noted D number o y a)
    number_right None y a h = tt
    number_right (Some x) Z.Int a h =
        alone m f n out (I.Copy (to K (Number x (d.of x)) K.integer) a)
        (copy_fits types ss callees m f n name g pl (Number x (d.of x)) K.integer a (h refl).0 (λ e. (h refl).1)) tt
    number_right (Some x) y a h = tt

    known_right : (o : Option ℕ) (z : ℤ) → is_small z ≡ true → Ok out (known_noted D number o z)
    known_right None z h = tt
    known_right (Some x) z h =
        alone m f n out (I.Copy (to K (Number x (d.of x)) K.integer) (R.Constant K.integer (L.Integer z)))
        (constant_copy types ss callees m f n name g pl (Number x (d.of x)) K.integer (L.Integer z)
        (ap (λ o. literal_some o (L.Integer z)) pl.basic.integer ∙ h))
        tt

    abbrev Notes : Indices → Type 0
    Notes i = (a : Source) (s : Sized) (p : ℕ) → is_known ss s ≡ true → Typed a (number s) → Ok out (noter_of D number i a s p)

    Noted : Indices → Type 0
    Noted i = Notes i

    abbrev SuchI : Type 0
    SuchI = (i : Indices) × Noted i

    abbrev SuchR : Type 0
    SuchR = (r : Reading) × Unit {0}

    abbrev indices_of : Indices-F SuchI SuchR → Indices-F Indices Reading
    indices_of y = map-Indices SuchI SuchR Indices Reading (λ p. p.0) (λ p. p.0) y

    abbrev noters : List SuchI → List (Noter D number)
    noters ys = map (noter_of D number) (map (λ p. p.0) ys)

    bits_right : (t : Num) (y : Sized-F Sized) (a : Source) (p : ℕ) → sizes_small y ≡ true → Ok out (form_noted D number (W.Bits t) y a p)
    bits_right t (Z.Bits z) a p h = known_right (variable_in t) z h
    bits_right t y a p h = tt

    vector_right : (t : Num) (h : Noter D number) (y : Sized-F Sized) (a : Source) (p : ℕ) → sizes_small y ≡ true
        → Ok out (form_noted D number (W.Vector t h) y a p)
    vector_right t h (Z.Vector z s) a p e = known_right (variable_in t) z e
    vector_right t h y a p e = tt

    part_right : (i : Instruction) (c : List Instruction) → Fits m f n i → Goes out c (aim i) → Ok out c → Ok out (part_noted D number i c)
    part_right i [] fits goes h = tt
    part_right i (j ∷ c) fits goes h = before m f n out i (j ∷ c) fits goes h

    -- parts of a tuple from the j-th on
    module _ (qs : List Sized) (s : Sized) (e : out-Sized s ≡ Z.Tuple qs) (k : is_known ss s ≡ true) (a : Source) (ty : Typed a (number s)) where
      field_typed : (j : ℕ) (t : Sized) → slice_get qs j ≡ Some t
          → operation_typed (shell g) (with_slots (number s ∷ [])) (O.Field j) one_operand (Some (number t)) ≡ true
      field_typed j t get =
          same_is (Some (number t)) (part_some j (slice_get g.table (number s))) (number t) refl
          (ap (part_some j) (typ_stands s (Z.Tuple qs) k e refl) ∙ slice_get-map number qs j ∙ ap (option_map number) get)

      take_fits : (p j : ℕ) (t : Sized) → slice_get qs j ≡ Some t → Fits m f n (I.Apply (to K (Temp p) (number t)) (O.Field j) (a ∷ []))
      take_fits p j t get =
          let us : List ℕ = number s ∷ [] in
          let z : Liked types ss callees m f n name g pl us = (a, R.Slot 0, (number s, ty.0, refl, ty.1)) in
          liked_fits types ss callees m f n name g pl (Temp p) (number t) (O.Field j) us (z ∷ []) (λ x. refl) (field_typed j t get)

      parts_right : (ys : List SuchI) (ts : List Sized) (j p : ℕ) → ((i : ℕ) → slice_get qs (j + i) ≡ slice_get ts i) → all_known ss ts ≡ true
          → Ok out (parts_noted D number (noters ys) ts j a p)
      unfolding Noted
      parts_right [] ts j p get h = tt
      parts_right (y ∷ ys) [] j p get h = tt
      parts_right (y ∷ ys) (t ∷ ts) j p get h =
          let q = parts_of (is_known ss t) (all_known ss ts) h in
          let take : Instruction = I.Apply (to K (Temp p) (number t)) (O.Field j) (a ∷ []) in
          let c : List Instruction = noter_of D number y.0 (from K (Temp p) (number t)) t (p + 1) in
          append m f n out (part_noted D number take c) (parts_noted D number (noters ys) ts (j + 1) a p)
          (part_right take c (take_fits p j t (ap (slice_get qs) (sym (no_more j)) ∙ get 0)) tt
          (y.1 (from K (Temp p) (number t)) t (p + 1) q.0 (slot_typed (Temp p) (number t))))
          (parts_right ys ts (j + 1) p (λ i. ap (slice_get qs) (shifted j i) ∙ get (suc i)) q.1)
        where
          shifted : (j i : ℕ) → j + 1 + i ≡ j + suc i
          shifted j i = omega arith

    abbrev types_noter : Reading → Noter D number
    types_noter = fold-Reading (Noter D number) (Noter D number) (λ i a s p. form_noted D number i (out-Sized s) a p) (λ r a s p. [])

    abbrev noter_in : Indices-F Indices Reading → Noter D number
    noter_in x a s p =
        form_noted D number (map-Indices Indices Reading (Noter D number) (Noter D number) (noter_of D number) types_noter x) (out-Sized s) a p

    tuple_right : (ys : List SuchI) (s : Sized) (y : Sized-F Sized) (a : Source) (p : ℕ) → out-Sized s ≡ y → is_known ss s ≡ true → Typed a (number s)
        → Ok out (form_noted D number (W.Tuple (noters ys)) y a p)
    tuple_right ys s (Z.Tuple qs) a p e k ty =
        parts_right qs s e k a ty ys qs 0 p (λ i. ap (slice_get qs) (begun i))
        (ap (λ y. all_known ss (form_parts types y)) (sym e) ∙ parts types ss g.table pl.stands s k)
      where
        begun : (i : ℕ) → 0 + i ≡ i
        begun i = omega arith
    tuple_right ys s y a p e k ty = tt

    formed : (y : Indices-F SuchI SuchR) (a : Source) (s : Sized) (p : ℕ) → is_known ss s ≡ true → Typed a (number s) → Ok out (noter_in (indices_of y) a s p)
    formed (W.Integer t) a s p k ty =
        number_right (variable_in t) (out-Sized s) a (λ e. subst (Typed a) (is_integer s e) ty)
    formed (W.Bits t) a s p k ty = bits_right t (out-Sized s) a p (all.small s k)
    formed (W.Vector t y) a s p k ty = vector_right t (types_noter y.0) (out-Sized s) a p (all.small s k)
    formed (W.Tuple ys) a s p k ty = tuple_right ys s (out-Sized s) a p refl k ty
    formed y a s p k ty = tt

    rolled : (y : Indices-F SuchI SuchR) → Noted (roll-Indices (indices_of y))
    unfolding Noted
    rolled y =
        let M : Type 0 = Noter D number in
        subst (λ (h : Noter D number). (a : Source) (s : Sized) (p : ℕ) → is_known ss s ≡ true → Typed a (number s) → Ok out (h a s p))
        (sym (fold-roll-Indices M M (λ i a s p. form_noted D number i (out-Sized s) a p) (λ r a s p. []) (indices_of y))) (formed y)

    all_noted : (i : Indices) → Noted i
    all_noted = ind-Indices Noted (λ r. Unit {0}) (λ e y is_. subst (λ d. Noted (roll-Indices d)) is_ (rolled y)) (λ e y is_. tt)

    pub noter_right : (i : Indices) (a : Source) (s : Sized) (p : ℕ) → is_known ss s ≡ true → Typed a (number s) → Ok out (noter_of (kit_at K d) number i a s p)
    unfolding Noted
    noter_right i a s p k ty = all_noted i a s p k ty

    pub notes_right : (q : ℕ) (is : List Indices) (s : Sized) → is_known ss s ≡ true → Ok out (note_code (kit_at K d) number q is s)
    notes_right q [] s k = tt
    notes_right q (i ∷ is) s k =
        append m f n out (noter_of (kit_at K d) number i (from K (Temp q) (number s)) s (q + 1)) (note_code (kit_at K d) number q is s)
        (noter_right i (from K (Temp q) (number s)) s (q + 1) k (slot_typed (Temp q) (number s))) (notes_right q is s k)
