-- A type that is wanted, seen through what Type variables stand for: the types inside it are one and the same too, and have no hole.
use Rattle.std.proofs.Common.{◌≡◌, ℕ, zero, suc, Bool, true, false, ◌||◌, List, [], ◌∷◌, map, slice_get, Option, Some, None, refl, sym, ap, ◌∙◌}
use Rattle.std.proofs.Common.{◌⊎◌, inl, inr, if◌then◌else◌}
use Rattle.std.specs.List.{list_any}
use Rattle.sail_types.proofs.SumNumbers.{some_same}
use Rattle.sail_types.specs.Belongs.{Reading as Closed, reading, assigned}
use Rattle.sail_types.specs.Zero.{deepest}
use Rattle.sail_types.specs.declared.numbers.Index.{Index}
use Rattle.sail_types.specs.declared.types.Typ.{Typ, Typ-F, out-Typ}
use Rattle.sail_types.specs.declared.types.Typ.TheOpen as T
use Rattle.value_indices.specs.declared.indices.Indices.{Indices, out-Indices, roll-Indices}
use Rattle.value_indices.specs.declared.indices.Indices.TheFolds.{fold-roll-Indices, fold-roll-Reading, map-Indices, map-Reading}
use Rattle.value_indices.specs.declared.indices.Indices.TheOpen as W
use Rattle.value_indices.specs.declared.indices.Indices.TheOpen.{Indices-F, Reading-F}
use Rattle.value_indices.specs.declared.indices.Reading.{Reading, out-Reading, roll-Reading}
use Rattle.value_indices.specs.declared.indices.Reading.TheVariants as R
use Rattle.value_indices.specs.declared.indices.Indices.TheViews.{roll-out-Indices, roll-out-Reading}
use Rattle.value_laws.specs.Belonging.{Integers, Meant, standing, closeds, meant, closed, closed_form, types_or_own, wide_of, wides}
use Rattle.value_laws.specs.Known.{Point, Agree}
use Rattle.value_laws.proofs.Arguments.{assigned_there}
use Rattle.value_laws.proofs.Values.{meanings, meant_is, closing, closed_is}
use Rattle.call_arguments.specs.Aims.{Seen, a_type, a_widened, a_tuple, nothing, aimed, each_under, each_widened, is_hole, item_type, of_wanted, part_types}
use Rattle.call_arguments.specs.Aims.{type_arguments}
use Rattle.call_arguments.specs.Aims.{seen, seen_form, seen_typ, seen_variable, seen_within, wanted}
use Rattle.call_arguments.specs.Holes.{has_hole, type_holed, value_has_hole, value_holed}
use Rattle.call_arguments.specs.declared.aims.Aim.{Aim}
use Rattle.call_arguments.specs.declared.aims.Aim.TheVariants as Aims
use Rattle.row_laws.proofs.Steady.{assignment_of, readings_of, same_lists, first_same, rest_same}
use Rattle.soundness_steps.specs.Works.{Setting, Work}
use Rattle.soundness_steps.specs.Values.{AimSteady, IsWanted}
use Rattle.soundness_forms.proofs.Parts.{AllSteady}

-- ---- holes

pub hole_in : (x : Reading-F Indices Reading) → has_hole (roll-Reading x) ≡ type_holed (map-Reading Indices Reading Bool Bool value_has_hole has_hole x)
hole_in x = fold-roll-Reading Bool Bool value_holed type_holed x

pub value_hole_in : (x : Indices-F Indices Reading)
    → value_has_hole (roll-Indices x) ≡ value_holed (map-Indices Indices Reading Bool Bool value_has_hole has_hole x)
value_hole_in x = fold-roll-Indices Bool Bool value_holed type_holed x

left_of : (a b : Bool) → (a || b) ≡ false → a ≡ false
left_of true b h = absurd (cc)
left_of false b h = refl

right_of : (a b : Bool) → (a || b) ≡ false → b ≡ false
right_of true b h = absurd (cc)
right_of false b h = h

module _ (set : Setting) (work : Work) {n : ℕ} (f : Point n) where
  abbrev closed_at : Integers → Reading → Closed
  closed_at g r = closed set.around.types (standing set.past g) work.types r

  abbrev wide_at : Integers → Indices → Closed
  wide_at g i = (meant set.around.types (standing set.past g) work.types i).wide

  -- ---- types that are one and the same, without a hole

  abbrev pub AllWanted : List Reading → Type 0
  AllWanted [] = Unit {0}
  AllWanted (r ∷ rs) = IsWanted set work f r × AllWanted rs

  -- what the variables of a type stand for
  abbrev Args : List Index → List Reading → Type 0
  Args is rs =
      ((g : Integers) → Agree f g → assigned (standing set.past g) is ≡ assigned (standing set.past f.integers) is)
      × ((g : Integers) → Agree f g → map (closed set.around.types (standing set.past g) work.types) rs
      ≡ map (closed set.around.types (standing set.past f.integers) work.types) rs)
      × (list_any (λ b. b) (map has_hole rs) ≡ false)

  -- a value that is widened
  abbrev Widens : Indices-F Indices Reading → Type 0
  Widens x =
      ((g : Integers) → Agree f g → wide_of set.around.types (standing set.past g) work.types (meanings set.around.types (standing set.past g) work.types x)
      ≡ wide_of set.around.types (standing set.past f.integers) work.types (meanings set.around.types (standing set.past f.integers) work.types x))
      × (value_holed (map-Indices Indices Reading Bool Bool value_has_hole has_hole x) ≡ false)

  abbrev SeenIs : Seen → Type 0
  SeenIs (a_type y is rs) = Args is rs
  SeenIs (a_widened x) = Widens x
  SeenIs (a_tuple rs) = AllWanted rs
  SeenIs nothing = Unit {0}

  -- ---- each of several

  own_each : (g : Integers) (rs : List Reading) (os : List Closed)
      → types_or_own (map (closed_at g) rs) os ≡ types_or_own (map (closed_at f.integers) rs) os → map (closed_at g) rs ≡ map (closed_at f.integers) rs
  own_each g [] os e = refl
  own_each g (r ∷ rs) [] e = e
  own_each g (r ∷ rs) (o ∷ os) e =
      let cs = types_or_own (map (closed_at g) rs) os in
      let ds = types_or_own (map (closed_at f.integers) rs) os in
      let rest = own_each g rs os (rest_same (closed_at g r) (closed_at f.integers r) cs ds e) in
      λ j. first_same (closed_at g r) (closed_at f.integers r) cs ds e j ∷ rest j

  all_wanted : (rs : List Reading) → ((g : Integers) → Agree f g → map (closed_at g) rs ≡ map (closed_at f.integers) rs)
      → list_any (λ b. b) (map has_hole rs) ≡ false → AllWanted rs
  all_wanted [] e h = tt
  all_wanted (r ∷ rs) e h = (
    (
      λ g a. first_same (closed_at g r) (closed_at f.integers r) (map (closed_at g) rs) (map (closed_at f.integers) rs) (e g a),
      left_of (has_hole r) (list_any (λ b. b) (map has_hole rs)) h,
    ),
    all_wanted rs (λ g a. rest_same (closed_at g r) (closed_at f.integers r) (map (closed_at g) rs) (map (closed_at f.integers) rs) (e g a))
        (right_of (has_hole r) (list_any (λ b. b) (map has_hole rs)) h),
  )

  wanted_in : (rs : List Reading) (i : ℕ) (r : Reading) → slice_get rs i ≡ Some r → AllWanted rs → IsWanted set work f r
  wanted_in [] i r e h = absurd (cc)
  wanted_in (q ∷ rs) zero r e h = (
    λ g a. (λ j. closed_at g (sym (some_same q r e) j)) ∙ h.0.0 g a ∙ (λ j. closed_at f.integers (some_same q r e j)),
    ap has_hole (sym (some_same q r e)) ∙ h.0.1,
  )
  wanted_in (q ∷ rs) (suc i) r e h = wanted_in rs i r e h.1

  -- ---- through so many types

  variable_is : (see : Reading → Seen) → ((r : Reading) → IsWanted set work f r → SeenIs (see r)) → (rs : List Reading) → AllWanted rs → (o : Option Reading)
      → (i : ℕ) → slice_get rs i ≡ o → SeenIs (seen_variable see o)
  variable_is see know rs all None i e = tt
  variable_is see know rs all (Some r) i e = know r (wanted_in rs i r e all)

  typ_is : (see : Reading → Seen) → ((r : Reading) → IsWanted set work f r → SeenIs (see r)) → (y : Typ-F Typ) (is : List Index) (rs : List Reading)
      → Args is rs → SeenIs (seen_typ see y is rs)
  typ_is see know (T.Variable i) is rs h = variable_is see know rs (all_wanted rs h.1 h.2) (slice_get rs i) i refl
  typ_is see know y is rs h = h

  abbrev FormSteady : Reading-F Indices Reading → Type 0
  FormSteady x = (g : Integers) → Agree f g
      → closed_form set.around.types (standing set.past g) work.types (closing set.around.types (standing set.past g) work.types x)
      ≡ closed_form set.around.types (standing set.past f.integers) work.types (closing set.around.types (standing set.past f.integers) work.types x)

  form_is : (see : Reading → Seen) → ((r : Reading) → IsWanted set work f r → SeenIs (see r)) → (x : Reading-F Indices Reading) → FormSteady x
      → type_holed (map-Reading Indices Reading Bool Bool value_has_hole has_hole x) ≡ false → SeenIs (seen_form see x)
  form_is see know (W.Of t is rs) e h =
      typ_is see know (out-Typ t) is rs (
        λ g a. ap assignment_of (e g a),
        λ g a. own_each g rs work.types (same_lists (types_or_own (map (closed_at g) rs) work.types)
            (types_or_own (map (closed_at f.integers) rs) work.types) (ap readings_of (e g a))),
        h,
      )
  form_is see know (W.Widened i) e h = (
    λ g a. sym (wide_is g i) ∙ e g a ∙ wide_is f.integers i,
    sym (value_hole_in (out-Indices i)) ∙ ap value_has_hole (roll-out-Indices i) ∙ h,
  )
    where
      wide_is : (g : Integers) (i : Indices) → (meant set.around.types (standing set.past g) work.types i).wide
          ≡ wide_of set.around.types (standing set.past g) work.types (meanings set.around.types (standing set.past g) work.types (out-Indices i))
      wide_is g i = ap (λ (m : Meant). m.wide) (meant_is set.around.types (standing set.past g) work.types i (out-Indices i) (roll-out-Indices i))
  form_is see know (W.Parts rs) e h =
      all_wanted rs (λ g a. same_lists (map (closed_at g) rs) (map (closed_at f.integers) rs) (ap readings_of (e g a))) h
  form_is see know W.Hole e h = tt

  rolled_is : (see : Reading → Seen) → ((r : Reading) → IsWanted set work f r → SeenIs (see r)) → (r : Reading) → IsWanted set work f r
      → SeenIs (seen_form see (out-Reading r))
  rolled_is see know r h =
      form_is see know (out-Reading r)
      (λ g a. sym (closed_is set.around.types (standing set.past g) work.types r (out-Reading r) (roll-out-Reading r)) ∙ h.0 g a
      ∙ closed_is set.around.types (standing set.past f.integers) work.types r (out-Reading r) (roll-out-Reading r))
      (sym (hole_in (out-Reading r)) ∙ ap has_hole (roll-out-Reading r) ∙ h.1)

  within_is : (depth : ℕ) (r : Reading) → IsWanted set work f r → SeenIs (seen_within depth r)
  within_is zero r h = tt
  within_is (suc depth) r h = rolled_is (seen_within depth) (within_is depth) r h

  seen_is : (r : Reading) → IsWanted set work f r → SeenIs (seen r)
  seen_is r h = within_is deepest r h

  -- ---- the types inside

  -- under what the variables stand for
  under_wanted : (is : List Index) (rs : List Reading) → Args is rs → (t : Typ) → IsWanted set work f (R.Of t is rs)
  under_wanted is rs h t = (
    λ g a. of_is g ∙ (λ j. reading t (h.0 g a j) (closeds (types_or_own (h.1 g a j) work.types))) ∙ sym (of_is f.integers),
    ap has_hole (sym (R.rolls-Of t is rs)) ∙ hole_in (W.Of t is rs) ∙ h.2,
  )
    where
      of_is : (g : Integers) → closed set.around.types (standing set.past g) work.types (R.Of t is rs)
          ≡ reading t (assigned (standing set.past g) is)
          (closeds (types_or_own (map (closed set.around.types (standing set.past g) work.types) rs) work.types))
      of_is g = closed_is set.around.types (standing set.past g) work.types (R.Of t is rs) (W.Of t is rs) (R.rolls-Of t is rs)

  each_under_wanted : (is : List Index) (rs : List Reading) → Args is rs → (ts : List Typ) → AllWanted (each_under is rs ts)
  each_under_wanted is rs h [] = tt
  each_under_wanted is rs h (t ∷ ts) = (under_wanted is rs h t, each_under_wanted is rs h ts)

  widened_wanted : (i : Indices) → ((g : Integers) → Agree f g → wide_at g i ≡ wide_at f.integers i) → value_has_hole i ≡ false
      → IsWanted set work f (R.Widened i)
  widened_wanted i e h = (
    λ g a. closed_is set.around.types (standing set.past g) work.types (R.Widened i) (W.Widened i) (R.rolls-Widened i) ∙ e g a
        ∙ sym (closed_is set.around.types (standing set.past f.integers) work.types (R.Widened i) (W.Widened i) (R.rolls-Widened i)),
    ap has_hole (sym (R.rolls-Widened i)) ∙ hole_in (W.Widened i) ∙ h,
  )

  each_widened_wanted : (is : List Indices)
      → ((g : Integers) → Agree f g → wides (map (meant set.around.types (standing set.past g) work.types) is)
      ≡ wides (map (meant set.around.types (standing set.past f.integers) work.types) is))
      → list_any (λ b. b) (map value_has_hole is) ≡ false → AllWanted (each_widened is)
  each_widened_wanted [] e h = tt
  each_widened_wanted (i ∷ is) e h = (
    widened_wanted i
        (λ g a. first_same (wide_at g i) (wide_at f.integers i) (wides (map (meant set.around.types (standing set.past g) work.types) is))
        (wides (map (meant set.around.types (standing set.past f.integers) work.types) is)) (e g a))
        (left_of (value_has_hole i) (list_any (λ b. b) (map value_has_hole is)) h),
    each_widened_wanted is
        (λ g a. rest_same (wide_at g i) (wide_at f.integers i) (wides (map (meant set.around.types (standing set.past g) work.types) is))
        (wides (map (meant set.around.types (standing set.past f.integers) work.types) is)) (e g a))
        (right_of (value_has_hole i) (list_any (λ b. b) (map value_has_hole is)) h),
  )

  item_wanted : (r : Reading) → ((g : Integers) → Agree f g → closeds (closed_at g r ∷ []) ≡ closeds (closed_at f.integers r ∷ [])) → has_hole r ≡ false
      → IsWanted set work f r
  item_wanted r e h = (
    λ g a. first_same (closed_at g r) (closed_at f.integers r) [] [] (same_lists (closed_at g r ∷ []) (closed_at f.integers r ∷ []) (e g a)),
    h,
  )

  -- ---- the parts of a tuple, the items of a vector or list, the Type arguments of a named type

  widened_parts : (x : Indices-F Indices Reading) → Widens x → AllWanted (part_types (a_widened x))
  widened_parts (W.Tuple is) h = each_widened_wanted is
      (λ g a. same_lists (wides (map (meant set.around.types (standing set.past g) work.types) is))
      (wides (map (meant set.around.types (standing set.past f.integers) work.types) is)) (ap readings_of (h.0 g a))) h.1
  widened_parts x h = tt

  typ_parts : (y : Typ-F Typ) (is : List Index) (rs : List Reading) → Args is rs → AllWanted (part_types (a_type y is rs))
  typ_parts (T.Tuple ts) is rs h = each_under_wanted is rs h ts
  typ_parts y is rs h = tt

  parts_wanted : (s : Seen) → SeenIs s → AllWanted (part_types s)
  parts_wanted (a_type y is rs) h = typ_parts y is rs h
  parts_wanted (a_widened x) h = widened_parts x h
  parts_wanted (a_tuple rs) h = h
  parts_wanted nothing h = tt

  widened_item : (x : Indices-F Indices Reading) → Widens x → (item_type (a_widened x) ≡ R.Hole) ⊎ IsWanted set work f (item_type (a_widened x))
  widened_item (W.List r) h = inr (item_wanted r (λ g a. ap readings_of (h.0 g a)) h.1)
  widened_item (W.Vector t r) h = inr (item_wanted r (λ g a. ap readings_of (h.0 g a)) h.1)
  widened_item x h = inl refl

  typ_item : (y : Typ-F Typ) (is : List Index) (rs : List Reading) → Args is rs
      → (item_type (a_type y is rs) ≡ R.Hole) ⊎ IsWanted set work f (item_type (a_type y is rs))
  typ_item (T.List t) is rs h = inr (under_wanted is rs h t)
  typ_item (T.Vector l t) is rs h = inr (under_wanted is rs h t)
  typ_item y is rs h = inl refl

  seen_item : (s : Seen) → SeenIs s → (item_type s ≡ R.Hole) ⊎ IsWanted set work f (item_type s)
  seen_item (a_type y is rs) h = typ_item y is rs h
  seen_item (a_widened x) h = widened_item x h
  seen_item (a_tuple rs) h = inl refl
  seen_item nothing h = inl refl

  -- ---- of what is wanted

  -- a type, if there is one
  abbrev IsType : Option Reading → Type 0
  IsType None = Unit {0}
  IsType (Some r) = IsWanted set work f r

  type_wanted : (aim : Aim) → AimSteady set work f aim → IsType (wanted aim)
  type_wanted Aims.Free h = tt
  type_wanted (Aims.Given r) h = h
  type_wanted (Aims.PartOf r) h = h
  type_wanted (Aims.Due r) h = h

  parts_of : (o : Option Reading) → IsType o → AllWanted (of_wanted [] part_types o)
  parts_of None h = tt
  parts_of (Some r) h = parts_wanted (seen r) (seen_is r h)

  item_of : (o : Option Reading) → IsType o → (of_wanted R.Hole item_type o ≡ R.Hole) ⊎ IsWanted set work f (of_wanted R.Hole item_type o)
  item_of None h = inl refl
  item_of (Some r) h = seen_item (seen r) (seen_is r h)

  part_aimed : (r : Reading) → IsWanted set work f r → AimSteady set work f (aimed Aims.PartOf r)
  part_aimed r h = by (is_hole r)
    where
      by : (b : Bool) → AimSteady set work f (if b then Aims.Free else Aims.PartOf r)
      by true = tt
      by false = h

  parts_aimed : (rs : List Reading) → AllWanted rs → AllSteady set work f (map (aimed Aims.PartOf) rs)
  parts_aimed [] h = tt
  parts_aimed (r ∷ rs) h = (part_aimed r h.0, parts_aimed rs h.1)

  -- what is wanted of the parts of a tuple
  pub tuple_steady : (aim : Aim) → AimSteady set work f aim → AllSteady set work f (map (aimed Aims.PartOf) (of_wanted [] part_types (wanted aim)))
  tuple_steady aim h = parts_aimed (of_wanted [] part_types (wanted aim)) (parts_of (wanted aim) (type_wanted aim h))

  -- of the items of a vector or list
  pub item_steady : (aim : Aim) → AimSteady set work f aim
      → (of_wanted R.Hole item_type (wanted aim) ≡ R.Hole) ⊎ IsWanted set work f (of_wanted R.Hole item_type (wanted aim))
  item_steady aim h = item_of (wanted aim) (type_wanted aim h)

  -- ---- the Type arguments of a named type

  abbrev pub KnownWanted : Option (List Reading) → Type 0
  KnownWanted None = Unit {0}
  KnownWanted (Some rs) = AllWanted rs

  typ_known : (y : Typ-F Typ) (is : List Index) (rs : List Reading) → Args is rs → KnownWanted (type_arguments (a_type y is rs))
  typ_known (T.Named u arguments ts) is rs h = each_under_wanted is rs h ts
  typ_known y is rs h = tt

  widened_known : (x : Indices-F Indices Reading) → Widens x → KnownWanted (type_arguments (a_widened x))
  widened_known (W.Named u is rs) h =
      all_wanted rs (λ g a. same_lists (map (closed_at g) rs) (map (closed_at f.integers) rs) (ap readings_of (h.0 g a))) h.1
  widened_known x h = tt

  seen_known : (s : Seen) → SeenIs s → KnownWanted (type_arguments s)
  seen_known (a_type y is rs) h = typ_known y is rs h
  seen_known (a_widened x) h = widened_known x h
  seen_known (a_tuple rs) h = tt
  seen_known nothing h = tt

  known_of : (o : Option Reading) → IsType o → KnownWanted (of_wanted None type_arguments o)
  known_of None h = tt
  known_of (Some r) h = seen_known (seen r) (seen_is r h)

  pub known_steady : (aim : Aim) → AimSteady set work f aim → KnownWanted (of_wanted None type_arguments (wanted aim))
  known_steady aim h = known_of (wanted aim) (type_wanted aim h)

  -- types under them
  pub known_stay : (rs : List Reading) → AllWanted rs → (g : Integers) → Agree f g → map (closed_at g) rs ≡ map (closed_at f.integers) rs
  known_stay [] h g a = refl
  known_stay (r ∷ rs) h g a = λ j. h.0.0 g a j ∷ known_stay rs h.1 g a j

  none_holed : (rs : List Reading) → AllWanted rs → list_any (λ b. b) (map has_hole rs) ≡ false
  none_holed [] h = refl
  none_holed (r ∷ rs) h = λ j. h.0.1 j || none_holed rs h.1 j

  pub known_part : (rs : List Reading) → AllWanted rs → (t : Typ) → IsWanted set work f (R.Of t [] rs)
  known_part rs h t =
      under_wanted [] rs ((λ g a. sym (assigned_there set.past g []) ∙ assigned_there set.past f.integers []), known_stay rs h, none_holed rs h) t
