-- The module of a model is valid.
use Rattle.std.proofs.Common.{◌≡◌, ◌∙◌, ◌⊎◌, inl, inr, ℕ, zero, suc, ◌<◌, ◌≤◌, ◌+◌, Bool}
use Rattle.std.proofs.Common.{true, false, List, [], ◌∷◌, length, map, Option, Some, None, refl, sym, ap}
use Rattle.std.proofs.Common.{subst, arith, eq-eqb}
use Rattle.std.specs.Prelude.{◌&&◌, ◌*◌, ◌++◌, nat_eq, nat_le, nat_lt, slice_get}
use Rattle.std.proofs.lemmas.Bool.Decides.{nat_tests}
use Rattle.sail_base.specs.declared.place.Place.{Place as TextPlace}
use Rattle.sail_core.specs.declared.patterns.Step.{Step}
use Rattle.sail_core.specs.declared.model.CoreModel.{CoreModel}
use Rattle.sail_core.specs.declared.model.Opening.{Opening}
use Rattle.sail_types.specs.declared.table.Types.{Types}
use Rattle.model_state.specs.declared.state.Register.{Register}
use Rattle.size_values.specs.declared.sized.Sized.{Sized, Sized-F, out-Sized, roll-Sized}
use Rattle.size_values.specs.declared.sized.Sized.TheOpen as Z
use Rattle.size_values.specs.declared.sized.Sized.TheVariants as S
use Rattle.size_values.specs.declared.sized.Sized.TheViews.{out-roll-Sized, roll-out-Sized}
use Rattle.sized_nodes.specs.declared.trees.SizedCore.{SizedCore}
use Rattle.sized_nodes.specs.declared.trees.SizedInstance.{SizedInstance}
use Rattle.checked_meaning.specs.Items.{fixed_typ}
use Rattle.jib.specs.declared.code.Function.{Function as Made}
use Rattle.jib.specs.declared.code.Module.{Module}
use Rattle.jib.specs.Operands.{each}
use Rattle.jib.specs.Typing.{same}
use Rattle.jib.specs.Valid.{all_typs, function_right, is_typ, opened_by, opening_right, register_right, typ_right, valid}
use Rattle.lowered_pieces.specs.Arms.{steps_in}
use Rattle.lowered_types.specs.Table.{all_known, form_never, is_known, type_in}
use Rattle.lowered_types.proofs.Standing.{known_lt}
use Rattle.jib_lower.specs.Instances.{MadeAt}
use Rattle.jib_lower.specs.Lowered.{FlatFrom, NamesMade, OpeningsMade, named_more, named_none, opened_from, opens_let, opens_none}
use Rattle.jib_lower.specs.Lowered.{opens_register}
use Rattle.jib_lower.specs.Types.{all_in_registers, exception_typ}
use Rattle.jib_lower.proofs.Basics.{and_left, and_right, both, got_before, is_there, some_same, there_below}
use Rattle.jib_lower.proofs.Placing.{opened_there}
use Rattle.jib_lower.proofs.Standing.{Laws, called_is_right, event_is_right}
use Rattle.jib_lower.proofs.Opened.{OpeningLaws, assoc, lets_there, name_is_right, names_types, nones, opens_types, results, value_is_right}
use Rattle.jib_lower.proofs.Turning.{WayLaws, way_is_right}
use Rattle.jib_lower.proofs.Found.{way_is}

none_is : {A X : Type 0} (x : A) → None ≡ Some x → X
none_is x e = cc

no : {X : Type 0} → false ≡ true → X
no e = cc

lt_is : (a b : ℕ) → a < b → nat_lt a b ≡ true
lt_is a b h = grind (arith, nat_tests)

le_is : (a b : ℕ) → a ≤ b → nat_le a b ≡ true
le_is a b h = grind (arith, nat_tests)

-- ---- lists

each_of : {A : Type 0} (p : ℕ → A → Bool) (n : ℕ) (xs : List A) → ((k : ℕ) (x : A) → slice_get xs k ≡ Some x → p (n + k) x ≡ true) → each p n xs ≡ true
each_of p n [] h = refl
each_of p n (x ∷ xs) h =
    both (p n x) (each p (n + 1) xs) (subst (λ k. p k x ≡ true) (none_more n) (h 0 x refl))
    (each_of p (n + 1) xs (λ k y e. subst (λ j. p j y ≡ true) (next n k) (h (suc k) y e)))
  where
    none_more : (n : ℕ) → n + 0 ≡ n
    none_more n = omega arith

    next : (n k : ℕ) → n + suc k ≡ n + 1 + k
    next n k = omega arith

-- what stands in two lists, one after the other
of_two : {A : Type 0} (xs ys : List A) (k : ℕ) (x : A) → slice_get (xs ++ ys) k ≡ Some x
    → (slice_get xs k ≡ Some x) ⊎ ((j : ℕ) × (k ≡ length xs + j) × (slice_get ys j ≡ Some x))
of_two [] ys k x e = inr (k, begun k, e)
  where
    begun : (k : ℕ) → k ≡ 0 + k
    begun k = omega arith
of_two (z ∷ xs) ys zero x e = inl e
of_two {A = A} (z ∷ xs) ys (suc k) x e = by (of_two xs ys k x e)
  where
    next : (n j : ℕ) → k ≡ n + j → suc k ≡ suc n + j
    next n j is = omega (arith, is)

    by : (slice_get xs k ≡ Some x) ⊎ ((j : ℕ) × (k ≡ length xs + j) × (slice_get ys j ≡ Some x))
        → (slice_get (z ∷ xs) (suc k) ≡ Some x) ⊎ ((j : ℕ) × (suc k ≡ length (z ∷ xs) + j) × (slice_get ys j ≡ Some x))
    by (inl h) = inl h
    by (inr r) = inr (r.0, next (length xs) r.0 r.1, r.2)

-- an even number or an odd one
halves : (k : ℕ) → (i : ℕ) × ((k ≡ 2 * i) ⊎ (k ≡ 2 * i + 1))
halves zero = (0, inl refl)
halves (suc k) = by (halves k).0 (halves k).1
  where
    by : (i : ℕ) → (k ≡ 2 * i) ⊎ (k ≡ 2 * i + 1) → (j : ℕ) × ((suc k ≡ 2 * j) ⊎ (suc k ≡ 2 * j + 1))
    by i (inl e) = (i, inr (omega (arith, e)))
    by i (inr e) = (suc i, inl (omega (arith, e)))

-- ---- types

is_never : (z : Sized-F Sized) → form_never z ≡ true → z ≡ Z.Never
is_never Z.Never e = refl
is_never z e = no e

never_is : (t : Sized) → form_never (out-Sized t) ≡ true → t ≡ S.Never
never_is t e = sym (roll-out-Sized t) ∙ ap roll-Sized (is_never (out-Sized t) e) ∙ S.rolls-Never

exception_is : (o : Option ℕ) → form_never (out-Sized (exception_typ o)) ≡ false
exception_is (Some u) = ap form_never (ap out-Sized (sym (S.rolls-Named u [] [])) ∙ out-roll-Sized (Z.Named u [] []))
exception_is None = ap form_never (ap out-Sized (sym S.rolls-Unit) ∙ out-roll-Sized Z.Unit)

-- what is known, or doesn't exist, has a number
numbered : (ss : List Sized) (t : Sized) → type_in ss S.Never < length ss → is_known ss t ≡ true → type_in ss t < length ss
numbered ss t never known = by (form_never (out-Sized t)) refl
  where
    by : (b : Bool) → form_never (out-Sized t) ≡ b → type_in ss t < length ss
    by true e = subst (λ s. type_in ss s < length ss) (sym (never_is t e)) never
    by false e = known_lt ss t known e

module _ (core : CoreModel) (sized : SizedCore) (m : Module) (low : FlatFrom core sized m) where
  abbrev ss : List Sized
  ss = low.table.numbered

  many_types : length ss ≡ length m.types
  many_types = sym low.stands.same ∙ sym (ap length low.types)

  exception_there : is_typ m 0 m.exception ≡ true
  exception_there =
      let rest : all_known ss (S.Bool ∷ S.Int ∷ exception_typ core.exception ∷ []) ≡ true =
      and_right (is_known ss S.Unit) (all_known ss (S.Bool ∷ S.Int ∷ exception_typ core.exception ∷ [])) low.basic in
      let more : all_known ss (S.Int ∷ exception_typ core.exception ∷ []) ≡ true =
      and_right (is_known ss S.Bool) (all_known ss (S.Int ∷ exception_typ core.exception ∷ [])) rest in
      let last : all_known ss (exception_typ core.exception ∷ []) ≡ true =
      and_right (is_known ss S.Int) (all_known ss (exception_typ core.exception ∷ [])) more in
      let known : is_known ss (exception_typ core.exception) ≡ true = and_left (is_known ss (exception_typ core.exception)) true last in
      ap (λ n. nat_lt n (length m.types)) low.exception
      ∙ lt_is (type_in ss (exception_typ core.exception)) (length m.types)
      (subst (λ n. type_in ss (exception_typ core.exception) < n) many_types
      (known_lt ss (exception_typ core.exception) known (exception_is core.exception)))

  registers_there : (types : Types) (rs : List Register) (k : ℕ) → all_in_registers types ss rs ≡ true
      → each (is_typ m) k (map (λ (r : Register). type_in ss (fixed_typ types r.typ)) rs) ≡ true
  registers_there types [] k h = refl
  registers_there types (r ∷ rs) k h =
      let t : Sized = fixed_typ types r.typ in
      both (nat_lt (type_in ss t) (length m.types)) (each (is_typ m) (k + 1) (map (λ (q : Register). type_in ss (fixed_typ types q.typ)) rs))
      (lt_is (type_in ss t) (length m.types)
      (subst (λ n. type_in ss t < n) many_types (numbered ss t low.stands.never (and_left (is_known ss t) (all_in_registers types ss rs) h))))
      (registers_there types rs (k + 1) (and_right (is_known ss t) (all_in_registers types ss rs) h))

  -- ---- openings

  -- the function of an opening is valid wherever it stands, takes nothing, is pure, and reads the openings before it alone
  pub record Fact (k : ℕ) (r : Option ℕ) (f : Made) : Type 0 where
    right : (n : ℕ) → function_right m n f ≡ true
    takes : length f.parameters ≡ 0
    pure : f.is_pure ≡ true
    reads : f.lets ≤ k
    register : register_right m f.result r ≡ true

  abbrev Facts : ℕ → List (Option ℕ) → List Made → Type 0
  Facts k [] [] = Unit {0}
  Facts k (r ∷ rs) (f ∷ fs) = Fact k r f × Facts (k + 1) rs fs
  Facts k rs fs = ⊥

  facts_right : (k : ℕ) (rs : List (Option ℕ)) (fs : List Made) → Facts k rs fs → (j n : ℕ) (f : Made) → slice_get fs j ≡ Some f → function_right m n f ≡ true
  facts_right k [] [] h j n f e = none_is f e
  facts_right k [] (x ∷ fs) h j n f e = absurd h
  facts_right k (r ∷ rs) [] h j n f e = absurd h
  facts_right k (r ∷ rs) (x ∷ fs) h zero n f e = subst (λ y. function_right m n y ≡ true) (some_same x f e) (h.0.right n)
  facts_right k (r ∷ rs) (x ∷ fs) h (suc j) n f e = facts_right (k + 1) rs fs h.1 j n f e

  fact_opens : (k : ℕ) (r : Option ℕ) (f : Made) → Fact k r f → opened_by m k r (Some f) ≡ true
  fact_opens k r f h =
      let a : Bool = nat_eq (length f.parameters) 0 in
      let b : Bool = f.is_pure in
      let c : Bool = nat_le f.lets k in
      both (a && b && c) (register_right m f.result r)
      (both (a && b) c (both a b (eq-eqb (length f.parameters) 0 h.takes) h.pure) (le_is f.lets k h.reads)) h.register

  facts_open : (k n : ℕ) (rs : List (Option ℕ)) (fs : List Made) → Facts k rs fs
      → ((j : ℕ) (f : Made) → slice_get fs j ≡ Some f → slice_get m.functions (n + j) ≡ Some f) → each (opening_right m) k (opened_from n rs) ≡ true
  facts_open k n [] [] h there = refl
  facts_open k n [] (x ∷ fs) h there = absurd h
  facts_open k n (r ∷ rs) [] h there = absurd h
  facts_open k n (r ∷ rs) (f ∷ fs) h there =
      both (opened_by m k r (slice_get m.functions n)) (each (opening_right m) (k + 1) (opened_from (n + 1) rs))
      (ap (opened_by m k r) (ap (slice_get m.functions) (none_more n) ∙ there 0 f refl) ∙ fact_opens k r f h.0)
      (facts_open (k + 1) (n + 1) rs fs h.1 (λ j g e. ap (slice_get m.functions) (next n j) ∙ there (suc j) g e))
    where
      none_more : (n : ℕ) → n ≡ n + 0
      none_more n = omega arith

      next : (n k : ℕ) → n + 1 + k ≡ n + suc k
      next n k = omega arith

  facts_behind : (k : ℕ) (rs : List (Option ℕ)) (fs : List Made) (qs : List (Option ℕ)) (gs : List Made) → Facts k rs fs → Facts (k + length fs) qs gs
      → Facts k (rs ++ qs) (fs ++ gs)
  facts_behind k [] [] qs gs h g = subst (λ n. Facts n qs gs) (none_more k) g
    where
      none_more : (n : ℕ) → n + 0 ≡ n
      none_more n = omega arith
  facts_behind k [] (x ∷ fs) qs gs h g = absurd h
  facts_behind k (r ∷ rs) [] qs gs h g = absurd h
  facts_behind k (r ∷ rs) (x ∷ fs) qs gs h g = (h.0, facts_behind (k + 1) rs fs qs gs h.1 (subst (λ n. Facts n qs gs) (next k (length fs)) g))
    where
      next : (n k : ℕ) → n + suc k ≡ n + 1 + k
      next n k = omega arith

  longer : (before : List ℕ) (t : ℕ) → length (before ++ t ∷ []) ≡ length before + 1
  longer [] t = refl
  longer (x ∷ before) t = ap suc (longer before t) ∙ next (length before)
    where
      next : (n : ℕ) → suc (n + 1) ≡ suc n + 1
      next n = omega arith

  long : (before : List ℕ) (fs : List Made) → length (before ++ results fs) ≡ length before + length fs
  long [] [] = refl
  long [] (f ∷ fs) = ap suc (long [] fs) ∙ next (length fs)
    where
      next : (n : ℕ) → suc (0 + n) ≡ 0 + suc n
      next n = omega arith
  long (x ∷ before) fs = ap suc (long before fs) ∙ next (length before) (length fs)
    where
      next : (n k : ℕ) → suc (n + k) ≡ suc n + k
      next n k = omega arith

  le_self : (a b : ℕ) → a ≡ b → a ≤ b
  le_self a b e = omega (arith, e)

  module _ (laws : OpeningLaws) where
    before_here : (before more : List ℕ) → low.model.lets.now ≡ before ++ more → (k t : ℕ) → slice_get before k ≡ Some t
        → slice_get low.model.lets.now k ≡ Some t
    before_here before more e k t h = ap (λ ts. slice_get ts k) e ∙ got_before before more k t h

    names_facts : (place : TextPlace) (i : ℕ) (whole : Sized) (steps : List Step) → {texts : List (List ℕ)} {before names : List ℕ} {given : List Made}
        {after more : List ℕ} → NamesMade low.bare place i whole steps texts before names given after more → (rest : List ℕ)
        → low.model.lets.now ≡ after ++ rest → Facts (length before) (nones low.bare given) given
    names_facts place i whole steps named_none rest e = tt
    names_facts place i whole steps (named_more {text = text} {before = before} {names = names} {made = made} {rest = others} v ns) rest e =
        let whole_lets : low.model.lets.now ≡ before ++ (made.result ∷ (results others ++ rest)) =
        e ∙ ap (λ a. a ++ rest) (names_types low.bare ns) ∙ assoc (before ++ made.result ∷ []) (results others) rest
        ∙ assoc before (made.result ∷ []) (results others ++ rest) in (
          record {
            right = λ n. name_is_right core sized m low laws n place i whole steps text before names made
                (before_here before (made.result ∷ (results others ++ rest)) whole_lets) v;
            takes = ap length (v.is.parameters ∙ ap (map (λ t. type_in v.walk.setting.now.numbered.now t)) v.around.takes);
            pure = v.is.is_pure ∙ v.around.pure;
            reads = le_self made.lets (length before) (v.is.lets ∙ v.around.reads);
            register = refl;
          },
          subst (λ n. Facts n (nones low.bare others) others) (longer before made.result) (names_facts place i whole steps ns rest e),
        )

    opens_facts : {i : ℕ} {os : List Opening} {before names : List ℕ} {opened : List Made} {rs : List (Option ℕ)} {after more : List ℕ}
        → OpeningsMade low.bare i os before names opened rs after more → low.model.lets.now ≡ after → Facts (length before) rs opened
    opens_facts opens_none e = tt
    opens_facts (opens_register {r =
        r} {o = o} {nodes = nodes} {before = before} {names = names} {made = made} {rest = rest} {registers = registers} k n v typ os) e
        =
        let whole_lets : low.model.lets.now ≡ before ++ (made.result ∷ results rest) =
        e ∙ opens_types low.bare os ∙ assoc before (made.result ∷ []) (results rest) in (
          record {
            right = λ n. value_is_right core sized m low laws n o (nodes ∷ []) before names made
                (before_here before (made.result ∷ results rest) whole_lets) v;
            takes = ap length (v.is.parameters ∙ ap (map (λ t. type_in v.walk.setting.now.numbered.now t)) v.around.takes);
            pure = v.is.is_pure ∙ v.around.pure;
            reads = le_self made.lets (length before) (v.is.lets ∙ v.around.reads);
            register = ap (λ xs. same (slice_get xs r) (Some made.result)) (sym low.bare_is.shell_registers)
                ∙ ap (λ (x : Option ℕ). same x (Some made.result)) typ ∙ eq-eqb made.result made.result refl;
          },
          subst (λ n. Facts n registers rest) (longer before made.result) (opens_facts os e),
        )
    opens_facts (opens_let {o = o} {nodes = nodes} {before = before} {names = names} {middle = middle} {made = made} {given = given} {rest = rest}
        {registers = registers} v n arm whole k taken ns os) e =
        let middle_is : middle ≡ (before ++ made.result ∷ []) ++ results given = names_types low.bare ns in
        let middle_lets : low.model.lets.now ≡ middle ++ results rest = e ∙ opens_types low.bare os in
        let whole_lets : low.model.lets.now ≡ before ++ (made.result ∷ (results given ++ results rest)) =
        middle_lets ∙ ap (λ b. b ++ results rest) middle_is ∙ assoc (before ++ made.result ∷ []) (results given) (results rest)
        ∙ assoc before (made.result ∷ []) (results given ++ results rest) in
        let past : Facts (length (before ++ made.result ∷ []) + length given) registers rest =
        subst (λ n. Facts n registers rest) (ap length middle_is ∙ long (before ++ made.result ∷ []) given) (opens_facts os e) in (
          record {
            right = λ n. value_is_right core sized m low laws n o (nodes ∷ []) before names made
                (before_here before (made.result ∷ (results given ++ results rest)) whole_lets) v;
            takes = ap length (v.is.parameters ∙ ap (map (λ t. type_in v.walk.setting.now.numbered.now t)) v.around.takes);
            pure = v.is.is_pure ∙ v.around.pure;
            reads = le_self made.lets (length before) (v.is.lets ∙ v.around.reads);
            register = refl;
          },
          subst (λ n. Facts n (nones low.bare given ++ registers) (given ++ rest)) (longer before made.result)
              (facts_behind (length (before ++ made.result ∷ [])) (nones low.bare given) given registers rest
              (names_facts o.place (length before) whole (steps_in arm) ns (results rest) middle_lets) past),
        )

    pub facts : Facts 0 low.of_registers low.opened
    facts = opens_facts low.openings refl

  -- ---- the module

  module _ (laws : Laws) (opening_laws : OpeningLaws) (way_laws : WayLaws) where
    many_functions : length low.functions ≡ 2 * length sized.instances
    many_functions = low.instances.many ∙ ap (λ (z : SizedCore). 2 * length z.instances) low.is.of_sized

    same_function : (i k : ℕ) (f g : Made) → slice_get low.functions k ≡ Some f → k ≡ i → slice_get low.functions i ≡ Some g → g ≡ f
    same_function i k f g e is h = some_same g f (sym h ∙ ap (slice_get low.functions) (sym is) ∙ e)

    instance_right : (k : ℕ) (f : Made) → slice_get low.functions k ≡ Some f → function_right m (length low.ways + k) f ≡ true
    instance_right k f e = by (halves k).0 (halves k).1
      where
        below : k < 2 * length sized.instances
        below = subst (λ n. k < n) many_functions (there_below low.functions k f e)

        at_even : (i : ℕ) → k ≡ 2 * i → i < length sized.instances
        at_even i is = omega (arith, is, below)

        at_odd : (i : ℕ) → k ≡ 2 * i + 1 → i < length sized.instances
        at_odd i is = omega (arith, is, below)

        made_at : (i : ℕ) → i < length sized.instances → (x : SizedInstance) × MadeAt low.model low.functions i x
        made_at i lt =
            let r = is_there sized.instances i lt in
            (r.0, low.instances.each i r.0 (ap (λ (z : SizedCore). slice_get z.instances i) low.is.of_sized ∙ r.1))

        by : (i : ℕ) → (k ≡ 2 * i) ⊎ (k ≡ 2 * i + 1) → function_right m (length low.ways + k) f ≡ true
        by i (inl is) =
            let q = made_at i (at_even i is) in
            subst (λ n. function_right m (length low.ways + n) f ≡ true) (sym is)
            (subst (λ g. function_right m (length low.ways + 2 * i) g ≡ true) (same_function (2 * i) k f q.1.called e is q.1.called_there)
            (called_is_right core sized m low laws (lets_there core sized m low) i q.0 q.1))
        by i (inr is) =
            let q = made_at i (at_odd i is) in
            subst (λ n. function_right m (length low.ways + n) f ≡ true) (sym is)
            (subst (λ g. function_right m (length low.ways + (2 * i + 1)) g ≡ true) (same_function (2 * i + 1) k f q.1.event e is q.1.event_there)
            (event_is_right core sized m low laws (lets_there core sized m low) i q.0 q.1))

    way_right : (k : ℕ) (f : Made) → slice_get low.ways k ≡ Some f → function_right m k f ≡ true
    way_right k f e =
        let w = way_is low.model low.directions k f e in
        subst (λ n. function_right m n f ≡ true) (begun k) (way_is_right core sized m low way_laws w.d (0 + k) f w.at)
      where
        begun : (j : ℕ) → 0 + j ≡ j
        begun j = omega arith

    function_there : (k : ℕ) (f : Made) → slice_get m.functions k ≡ Some f → function_right m k f ≡ true
    function_there k f e = by (of_two low.ways (low.functions ++ low.opened) k f (ap (λ fs. slice_get fs k) (sym low.all) ∙ e))
      where
        behind : (j : ℕ) → k ≡ length low.ways + j → (slice_get low.functions j ≡ Some f) ⊎ ((i : ℕ) × (j ≡ length low.functions + i)
            × (slice_get low.opened i ≡ Some f)) → function_right m k f ≡ true
        behind j is (inl h) = subst (λ n. function_right m n f ≡ true) (sym is) (instance_right j f h)
        behind j is (inr r) = facts_right 0 low.of_registers low.opened (facts opening_laws) r.0 k f r.2

        by : (slice_get low.ways k ≡ Some f) ⊎ ((j : ℕ) × (k ≡ length low.ways + j) × (slice_get (low.functions ++ low.opened) j ≡ Some f))
            → function_right m k f ≡ true
        by (inl h) = way_right k f h
        by (inr r) = behind r.0 r.1 (of_two low.functions low.opened r.0 f r.2)

    zero_more : (k : ℕ) → k ≡ 0 + k
    zero_more k = omega arith

    pub is_valid : valid m ≡ true
    is_valid =
        both (a && b && c && d) e
        (both (a && b && c) d
        (both (a && b) c (both a b (ap (each typ_right 0) low.types ∙ low.typs) exception_there)
        (ap (all_typs m) low.registers ∙ registers_there core.types core.registers 0 low.in_registers))
        (each_of (function_right m) 0 m.functions
        (λ k f h. subst (λ n. function_right m n f ≡ true) (zero_more k) (function_there k f h))))
        (ap (each (opening_right m) 0) low.opens
        ∙ facts_open 0 (length low.ways + 2 * length sized.instances) low.of_registers low.opened (facts opening_laws) (opened_there core sized m low))
      where
        a : Bool
        a = each typ_right 0 m.types

        b : Bool
        b = is_typ m 0 m.exception

        c : Bool
        c = all_typs m m.registers

        d : Bool
        d = each (function_right m) 0 m.functions

        e : Bool
        e = each (opening_right m) 0 m.openings
