-- A type under constants is the same under others that are the same where its sizes hang on them.
use Rattle.std.proofs.Common.{◌≡◌, ℕ, zero, suc, Bool, true, false, List, [], ◌∷◌, length, map, Some, if◌then◌else◌, refl, sym, ap, ◌∙◌, subst}
use Rattle.std.specs.List.{list_all}
use Rattle.std.proofs.lemmas.Bool.{and_parts}
use Rattle.std.proofs.lemmas.List.{length-map}
use Rattle.sail_types.specs.declared.numbers.Index.{Index}
use Rattle.sail_types.specs.declared.table.Types.{Types}
use Rattle.sail_types.specs.declared.types.Typ.{Typ, Typ-F, roll-Typ}
use Rattle.sail_types.specs.declared.types.Typ.TheFolds.{fold-roll-Typ, ind-Typ, map-Typ}
use Rattle.sail_types.specs.declared.types.Typ.TheOpen as T
use Rattle.size_values.specs.Numbers.{argument_of, constant_under, index_under}
use Rattle.size_values.specs.Sizes.{joined}
use Rattle.size_values.specs.Sized.{UnderConstants, each_sized, form_sized, hangs_on, integer_of, named_numbers, number_where, numbers_from, typ_sized}
use Rattle.size_values.specs.declared.constants.Constant.{Constant}
use Rattle.size_values.specs.declared.constants.Constant.TheVariants as C
use Rattle.size_values.specs.declared.sized.Sized.{Sized}
use Rattle.size_values.specs.declared.sized.Sized.TheVariants as S
use Rattle.call_arguments.specs.Callees.{is_typeless, typeless_form}
use Rattle.value_laws.proofs.Basics.{no}
use Rattle.hanging_sizes.proofs.Variables.{arguments_hanging, form_hanging, hanging, index_variables, outside, variables_of}
use Rattle.hanging_sizes.proofs.Numbers.{AllSame, index_same, same_left, same_right, size_same}

-- under what a type binds
bound_same : (cs ds : List Constant) (c : Constant) (is : List ℕ) → AllSame (argument_of cs) (argument_of ds) (outside is)
    → AllSame (argument_of (c ∷ cs)) (argument_of (c ∷ ds)) is
bound_same cs ds c [] h = tt
bound_same cs ds c (zero ∷ is) h = (refl, bound_same cs ds c is h)
bound_same cs ds c (suc i ∷ is) h = (h.0, bound_same cs ds c is h.1)

module _ (types : Types) where
  -- ---- arguments of named types

  module _ (of by : ℕ → Constant) where
    one_same : (b : Bool) (a : Index) → AllSame of by (if b then index_variables a else []) → number_where b (index_under of a) ≡ number_where b (index_under by a)
    one_same true a h = ap (λ c. Some (integer_of c)) (index_same of by a h)
    one_same false a h = refl

    each_argument : (u n k : ℕ) (args : List Index) → AllSame of by (arguments_hanging types u n k args)
        → numbers_from types u n k (map (index_under of) args) ≡ numbers_from types u n k (map (index_under by) args)
    each_argument u n k [] h = refl
    each_argument u n k (a ∷ args) h =
        let here : List ℕ = if hangs_on types u n k then index_variables a else [] in
        let rest = arguments_hanging types u n (suc k) args in
        λ j. one_same (hangs_on types u n k) a (same_left of by here rest h) j ∷ each_argument u n (suc k) args (same_right of by here rest h) j

    arguments_same : (u : ℕ) (args : List Index) → AllSame of by (arguments_hanging types u (length args) 0 args)
        → numbers_from types u (length (map (index_under of) args)) 0 (map (index_under of) args)
        ≡ numbers_from types u (length (map (index_under by) args)) 0 (map (index_under by) args)
    arguments_same u args h =
        ap (λ n. numbers_from types u n 0 (map (index_under of) args)) (length-map args (index_under of))
        ∙ each_argument u (length args) 0 args h
        ∙ ap (λ n. numbers_from types u n 0 (map (index_under by) args)) (sym (length-map args (index_under by)))

  -- ---- types

  module _ (ss : List Sized) where
    Same : Typ → Type 0
    Same t = (cs ds : List Constant) → AllSame (argument_of cs) (argument_of ds) (hanging types t) → typ_sized types ss t cs ≡ typ_sized types ss t ds

    abbrev SuchTyp : Type 0
    SuchTyp = (t : Typ) × Same t

    abbrev bare : List SuchTyp → List Typ
    bare ys = map (λ (y : SuchTyp). y.0) ys

    abbrev typ_form : Typ-F SuchTyp → Typ-F Typ
    typ_form y = map-Typ SuchTyp Typ (λ p. p.0) y

    abbrev under : Typ-F Typ → Typ-F UnderConstants
    under x = map-Typ Typ UnderConstants (typ_sized types ss) x

    each_same : (ys : List SuchTyp) (cs ds : List Constant) → AllSame (argument_of cs) (argument_of ds) (joined (map (hanging types) (bare ys)))
        → each_sized (map (typ_sized types ss) (bare ys)) cs ≡ each_sized (map (typ_sized types ss) (bare ys)) ds
    unfolding Same
    each_same [] cs ds h = refl
    each_same (y ∷ ys) cs ds h =
        let rest = joined (map (hanging types) (bare ys)) in
        λ j. y.1 cs ds (same_left (argument_of cs) (argument_of ds) (hanging types y.0) rest h) j
        ∷ each_same ys cs ds (same_right (argument_of cs) (argument_of ds) (hanging types y.0) rest h) j

    form_same : (y : Typ-F SuchTyp) (cs ds : List Constant)
        → AllSame (argument_of cs) (argument_of ds) (form_hanging types (map-Typ Typ (List ℕ) (hanging types) (typ_form y)))
        → form_sized types ss (under (typ_form y)) cs ≡ form_sized types ss (under (typ_form y)) ds
    unfolding Same
    form_same T.Unit cs ds h = refl
    form_same T.Bool cs ds h = refl
    form_same (T.Truth c) cs ds h = refl
    form_same T.Bit cs ds h = refl
    form_same (T.Bits t) cs ds h = ap (λ c. S.Bits (integer_of c)) (size_same (argument_of cs) (argument_of ds) t h)
    form_same (T.Int t) cs ds h = refl
    form_same (T.Range t u) cs ds h = refl
    form_same T.String cs ds h = refl
    form_same (T.List y) cs ds h = ap S.List (y.1 cs ds h)
    form_same (T.Vector t y) cs ds h =
        let of = argument_of cs in
        let by = argument_of ds in
        let long = size_same of by t (same_left of by (variables_of t) (hanging types y.0) h) in
        let item = y.1 cs ds (same_right of by (variables_of t) (hanging types y.0) h) in
        λ j. S.Vector (integer_of (long j)) (item j)
    form_same (T.Tuple ys) cs ds h = ap S.Tuple (each_same ys cs ds h)
    form_same (T.Named u args ys) cs ds h =
        let of = argument_of cs in
        let by = argument_of ds in
        let here = arguments_hanging types u (length args) 0 args in
        let rest = joined (map (hanging types) (bare ys)) in
        let numbers = arguments_same of by u args (same_left of by here rest h) in
        let parts = each_same ys cs ds (same_right of by here rest h) in
        λ j. S.Named u (numbers j) (parts j)
    form_same (T.Variable i) cs ds h = refl
    form_same (T.Exists name c y) cs ds h = y.1 (C.Bound name ∷ cs) (C.Bound name ∷ ds) (bound_same cs ds (C.Bound name) (hanging types y.0) h)

    same_step : (y : Typ-F SuchTyp) → Same (roll-Typ (typ_form y))
    unfolding Same
    same_step y cs ds h =
        ap (λ (f : UnderConstants). f cs) (fold-roll-Typ UnderConstants (form_sized types ss) (typ_form y))
        ∙ form_same y cs ds (subst (AllSame (argument_of cs) (argument_of ds)) (fold-roll-Typ (List ℕ) (form_hanging types) (typ_form y)) h)
        ∙ sym (ap (λ (f : UnderConstants). f ds) (fold-roll-Typ UnderConstants (form_sized types ss) (typ_form y)))

    every_typ : (t : Typ) → Same t
    every_typ = ind-Typ Same (λ e y is. subst (λ d. Same (roll-Typ d)) is (same_step y))

    pub typ_same : (t : Typ) (cs ds : List Constant) → AllSame (argument_of cs) (argument_of ds) (hanging types t) → typ_sized types ss t cs ≡ typ_sized types ss t ds
    unfolding Same
    typ_same t cs ds h = every_typ t cs ds h

  -- ---- types that name no Type variable are the same whatever these stand for

  module _ (ss us : List Sized) where
    Plain : Typ → Type 0
    Plain t = is_typeless t ≡ true → (cs : List Constant) → typ_sized types ss t cs ≡ typ_sized types us t cs

    abbrev SuchPlain : Type 0
    SuchPlain = (t : Typ) × Plain t

    abbrev plain_bare : List SuchPlain → List Typ
    plain_bare ys = map (λ (y : SuchPlain). y.0) ys

    abbrev plain_form : Typ-F SuchPlain → Typ-F Typ
    plain_form y = map-Typ SuchPlain Typ (λ p. p.0) y

    abbrev standing : List Sized → Typ-F Typ → Typ-F UnderConstants
    standing ws x = map-Typ Typ UnderConstants (typ_sized types ws) x

    each_plain : (ys : List SuchPlain) → list_all (λ b. b) (map is_typeless (plain_bare ys)) ≡ true → (cs : List Constant)
        → each_sized (map (typ_sized types ss) (plain_bare ys)) cs ≡ each_sized (map (typ_sized types us) (plain_bare ys)) cs
    unfolding Plain
    each_plain [] h cs = refl
    each_plain (y ∷ ys) h cs =
        let both = and_parts (is_typeless y.0) (list_all (λ b. b) (map is_typeless (plain_bare ys))) h in
        λ j. y.1 both.0 cs j ∷ each_plain ys both.1 cs j

    form_plain : (y : Typ-F SuchPlain) → typeless_form (map-Typ Typ Bool is_typeless (plain_form y)) ≡ true → (cs : List Constant)
        → form_sized types ss (standing ss (plain_form y)) cs ≡ form_sized types us (standing us (plain_form y)) cs
    unfolding Plain
    form_plain T.Unit h cs = refl
    form_plain T.Bool h cs = refl
    form_plain (T.Truth c) h cs = refl
    form_plain T.Bit h cs = refl
    form_plain (T.Bits t) h cs = refl
    form_plain (T.Int t) h cs = refl
    form_plain (T.Range t u) h cs = refl
    form_plain T.String h cs = refl
    form_plain (T.List y) h cs = ap S.List (y.1 h cs)
    form_plain (T.Vector t y) h cs = ap (S.Vector (integer_of (constant_under (argument_of cs) t))) (y.1 h cs)
    form_plain (T.Tuple ys) h cs = ap S.Tuple (each_plain ys h cs)
    form_plain (T.Named u is ys) h cs = ap (S.Named u (named_numbers types u (map (index_under (argument_of cs)) is))) (each_plain ys h cs)
    form_plain (T.Variable i) h cs = no h
    form_plain (T.Exists name c y) h cs = y.1 h (C.Bound name ∷ cs)

    plain_step : (y : Typ-F SuchPlain) → Plain (roll-Typ (plain_form y))
    unfolding Plain
    plain_step y h cs =
        ap (λ (f : UnderConstants). f cs) (fold-roll-Typ UnderConstants (form_sized types ss) (plain_form y))
        ∙ form_plain y (sym (fold-roll-Typ Bool typeless_form (plain_form y)) ∙ h) cs
        ∙ sym (ap (λ (f : UnderConstants). f cs) (fold-roll-Typ UnderConstants (form_sized types us) (plain_form y)))

    every_plain : (t : Typ) → Plain t
    every_plain = ind-Typ Plain (λ e y is. subst (λ d. Plain (roll-Typ d)) is (plain_step y))

    pub typeless_same : (t : Typ) → is_typeless t ≡ true → (cs : List Constant) → typ_sized types ss t cs ≡ typ_sized types us t cs
    unfolding Plain
    typeless_same t h cs = every_plain t h cs
