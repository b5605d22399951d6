-- Instructions of lowered code have their types, where their slots are there and it is decided that their operands fit.
use Rattle.std.proofs.Common.{◌≡◌, ◌⊎◌, inl, inr, ℕ, zero, suc, ◌+◌, ◌<◌, ◌≤◌, ◌&&◌, ◌||◌, Bool, true, false, cond, List, [], ◌∷◌, length, map, reverse}
use Rattle.std.proofs.Common.{Option, Some, None, refl, sym, ap, ◌∙◌, subst, arith, eq-eqb, eqb-true}
use Rattle.std.specs.Prelude.{nat_eq, nat_le, nat_lt, ◌++◌, slice_get, slice_set}
use Rattle.std.proofs.lemmas.Bool.Decides.{nat_tests}
use Rattle.std.proofs.lemmas.List.{map-append, map-set, reverse-append}
use Rattle.sail_base.specs.declared.place.Place.{Place as TextPlace}
use Rattle.sail_types.specs.declared.table.Types.{Types}
use Rattle.sail_types.specs.declared.types.Typ.TheVariants as T
use Rattle.size_values.specs.declared.sized.Sized.{Sized}
use Rattle.checked_meaning.specs.Items.{fixed_typ}
use Rattle.jib.specs.declared.types.Sort.TheVariants as S
use Rattle.jib.specs.declared.code.Literal.{Literal}
use Rattle.jib.specs.declared.code.Literal.TheVariants as L
use Rattle.jib.specs.declared.code.Source.{Source}
use Rattle.jib.specs.declared.code.Source.TheVariants as R
use Rattle.jib.specs.declared.code.Operation.{Operation}
use Rattle.jib.specs.declared.code.Operation.TheVariants as O
use Rattle.jib.specs.declared.code.Call.{Call}
use Rattle.jib.specs.declared.code.Instruction.{Instruction}
use Rattle.jib.specs.declared.code.Instruction.TheVariants as I
use Rattle.jib.specs.declared.code.Function.{Function}
use Rattle.jib.specs.declared.code.Module.{Module}
use Rattle.jib.specs.Typing.{is_sort, is_some_sort, literal_some, literal_typ, payload_some, payload_typ, same, sort_some, source_typ}
use Rattle.jib.specs.Operands.{all_given, all_there, each, is_given, is_there, operation_typed}
use Rattle.jib.specs.Valid.{aim, all_quiet, call_right, is_quiet, is_stateless, is_tick}
use Rattle.jib.specs.laws.Ways.{In}
use Rattle.lowered_types.specs.Table.{type_in}
use Rattle.lowered_pieces.specs.Places.{Place, Temp, Naming, Kit, from, to}
use Rattle.lowered_pieces.specs.Moves.{kept_as, move, retype, sources}
use Rattle.lowered_pieces.specs.Forms.{Callees, Order, in_fields, in_order, numbers_of, set_fields, unit_source}
use Rattle.lowered_pieces.specs.Lowering.{kit_of}
use Rattle.lowered_validity.specs.Right.{Entered, Fits, Goes, Labels, Placed, Right, Signs, Used}
use Rattle.lowered_validity.specs.Typing.{comes, nats_eq, one_operand, operands, shell, with_slots}
use Rattle.lowered_validity.proofs.Alike.{Alike, operation_same}
use Rattle.lowered_validity.proofs.Flow.{alone}

pub both : (a b : Bool) → a ≡ true → b ≡ true → (a && b) ≡ true
both a b h k = λ j. h j && k j

pub parts_of : (a b : Bool) → (a && b) ≡ true → (a ≡ true) × (b ≡ true)
parts_of true b h = (refl, h)
parts_of false b h = cc

pub same_is : (a b : Option ℕ) (t : ℕ) → a ≡ Some t → b ≡ Some t → same a b ≡ true
same_is a b t e g = (λ j. same (e j) (g j)) ∙ eq-eqb t t refl

-- what one of the first type is that is the same as another
pub same_some : (a : Option ℕ) (t : ℕ) → same a (Some t) ≡ true → a ≡ Some t
same_some None t h = cc
same_some (Some u) t h = ap Some (eqb-true u t h)

pub nats_same : (ts us : List ℕ) → nats_eq ts us ≡ true → ts ≡ us
nats_same [] [] h = refl
nats_same [] (u ∷ us) h = cc
nats_same (t ∷ ts) [] h = cc
nats_same (t ∷ ts) (u ∷ us) h =
    let p = parts_of (nat_eq t u) (nats_eq ts us) h in
    let e : t ≡ u = eqb-true t u p.0 in
    let r : ts ≡ us = nats_same ts us p.1 in
    λ j. e j ∷ r j

le_true : (a b : ℕ) → a ≤ b → nat_le a b ≡ true
le_true a b h = grind (arith, nat_tests)

-- ---- the order of operands

map_reverse : {A B : Type 0} (h : A → B) (xs : List A) → map h (reverse xs) ≡ reverse (map h xs)
map_reverse h [] = refl
map_reverse h (x ∷ xs) =
    ap (map h) (reverse-append (x ∷ []) xs) ∙ map-append h (reverse xs) (x ∷ []) ∙ ap (λ ys. ys ++ h x ∷ []) (map_reverse h xs)
    ∙ sym (reverse-append (h x ∷ []) (map h xs))

pub map_set_fields : {A B : Type 0} (h : A → B) (is : List ℕ) (xs old : List A) → map h (set_fields is xs old) ≡ set_fields is (map h xs) (map h old)
map_set_fields h [] xs old = refl
map_set_fields h (i ∷ is) [] old = refl
map_set_fields h (i ∷ is) (x ∷ xs) old = map_set_fields h is xs (slice_set old i x) ∙ ap (set_fields is (map h xs)) (map-set h old i x)

map_all : {A B : Type 0} (h : A → B) (u : A) (is : List ℕ) → map h (map (λ i. u) is) ≡ map (λ i. h u) is
map_all h u [] = refl
map_all h u (i ∷ is) = ap (λ ys. h u ∷ ys) (map_all h u is)

map_in_fields : {A B : Type 0} (h : A → B) (u : A) (is : List ℕ) (xs : List A) → map h (in_fields u is xs) ≡ in_fields (h u) is (map h xs)
map_in_fields h u is xs = map_set_fields h is xs (map (λ i. u) is) ∙ ap (set_fields is (map h xs)) (map_all h u is)

-- ---- slots that are used

pub in_first : (a : Source) (rs : List Source) (k : ℕ) → In k (a ∷ []) → In k (a ∷ rs)
in_first (R.Slot j) rs k (inl e) = inl e
in_first (R.Slot j) rs k (inr h) = absurd h
in_first a rs k h = absurd h

pub in_rest : (a : Source) (rs : List Source) (k : ℕ) → In k rs → In k (a ∷ rs)
in_rest (R.Slot j) rs k h = inr h
in_rest a rs k h = h

pub no_more : (k : ℕ) → k + 0 ≡ k
no_more k = omega arith

quiet_any : (a : Source) (j : ℕ) → is_quiet 0 a ≡ true → is_quiet j a ≡ true
quiet_any (R.Register i) j h = h
quiet_any a j h = refl

module _ (types : Types) (ss : List Sized) (callees : Callees) (m : Module) (f : Function) (n : ℕ) (name : Naming) (g : Signs)
    (pl : Placed types ss (type_in ss) callees m f n name g) where
  abbrev K : Kit
  K = kit_of types name (type_in ss) g.exception callees.size callees.direction

  abbrev Fit : Instruction → Type 0
  Fit i = Fits m f n i

  abbrev pub There : List Source → Type 0
  There rs = (k : ℕ) → In k rs → k < length f.slots

  pub slot_typ : (p : Place) (t : ℕ) → There (from K p t ∷ []) → source_typ m f (from K p t) ≡ Some t
  slot_typ p t u = pl.named p t (u (name p t) (inl refl))

  pub table_of : (k : ℕ) → slice_get m.types k ≡ slice_get g.table k
  table_of k = ap (λ ts. slice_get ts k) pl.table

  -- ---- copies

  pub copy_fits : (p : Place) (t : ℕ) (a : Source) → (There (a ∷ []) → source_typ m f a ≡ Some t) → (f.is_pure ≡ true → is_quiet 0 a ≡ true)
      → Fit (I.Copy (to K p t) a)
  copy_fits p t a typ quiet u = (
    same_is (source_typ m f a) (slice_get f.slots (name p t)) t (typ (λ k h. u k (in_first a (R.Slot (name p t) ∷ []) k h)))
        (pl.named p t (u (name p t) (in_rest a (R.Slot (name p t) ∷ []) (name p t) (inl refl)))),
    quiet,
  )

  pub slot_copy : (p : Place) (t : ℕ) (q : Place) → Fit (I.Copy (to K p t) (from K q t))
  slot_copy p t q = copy_fits p t (from K q t) (slot_typ q t) (λ e. refl)

  pub constant_typ : (t : ℕ) (literal : Literal) → literal_some (slice_get g.table t) literal ≡ true → literal_typ m t literal ≡ Some t
  constant_typ t literal h =
      ap (λ o. cond (literal_some o literal) (Some t) None) (table_of t) ∙ ap (λ b. cond b (Some t) None) h

  pub constant_copy : (p : Place) (t : ℕ) (literal : Literal) → literal_some (slice_get g.table t) literal ≡ true
      → Fit (I.Copy (to K p t) (R.Constant t literal))
  constant_copy p t literal h = copy_fits p t (R.Constant t literal) (λ u. constant_typ t literal h) (λ e. refl)

  -- ---- operations

  apply_fits : (p : Place) (t : ℕ) (op : Operation) (rs : List Source) → (There rs → operation_typed m f op rs (Some t) ≡ true)
      → (There rs → all_there m f rs ≡ true) → (f.is_pure ≡ true → (is_stateless op && all_quiet rs) ≡ true) → Fit (I.Apply (to K p t) op rs)
  apply_fits p t op rs typ there quiet u =
      let e : slice_get f.slots (name p t) ≡ Some t = pl.named p t (u (name p t) (inl refl)) in
      let r : There rs = λ k h. u k (inr h) in (
        subst (λ o. (is_there o && all_there m f rs && operation_typed m f op rs o) ≡ true) (sym e)
            (both (all_there m f rs) (operation_typed m f op rs (Some t)) (there r) (typ r)),
        quiet,
      )

  -- a source, and one of the function with slots of these types, of the same type where the first is there
  abbrev Like : List ℕ → Source → Source → Type 0
  Like us a b =
      (t : ℕ) × (There (a ∷ []) → source_typ m f a ≡ Some t) × (source_typ (shell g) (with_slots us) b ≡ Some t) × (is_quiet 0 a ≡ true)

  abbrev pub Liked : List ℕ → Type 0
  Liked us = (a : Source) × (b : Source) × Like us a b

  abbrev pub firsts : (us : List ℕ) → List (Liked us) → List Source
  firsts us zs = map (λ z. z.0) zs

  abbrev pub seconds : (us : List ℕ) → List (Liked us) → List Source
  seconds us zs = map (λ z. z.1) zs

  alike_of : (us : List ℕ) (zs : List (Liked us)) → There (firsts us zs)
      → Alike m (shell g) f (with_slots us) (firsts us zs) (seconds us zs)
  alike_of us [] u = tt
  alike_of us (z ∷ zs) u = (
    z.2.1 (λ k h. u k (in_first z.0 (firsts us zs) k h)) ∙ sym z.2.2,
    alike_of us zs (λ k h. u k (in_rest z.0 (firsts us zs) k h)),
  )

  there_of : (us : List ℕ) (zs : List (Liked us)) → There (firsts us zs) → (j : ℕ) → each (λ k a. is_there (source_typ m f a)) j (firsts us zs) ≡ true
  there_of us [] u j = refl
  there_of us (z ∷ zs) u j =
      both (is_there (source_typ m f z.0)) (each (λ k a. is_there (source_typ m f a)) (j + 1) (firsts us zs))
      (ap is_there (z.2.1 (λ k h. u k (in_first z.0 (firsts us zs) k h)))) (there_of us zs (λ k h. u k (in_rest z.0 (firsts us zs) k h)) (j + 1))

  quiet_of : (us : List ℕ) (zs : List (Liked us)) (j : ℕ) → each is_quiet j (firsts us zs) ≡ true
  quiet_of us [] j = refl
  quiet_of us (z ∷ zs) j = both (is_quiet j z.0) (each is_quiet (j + 1) (firsts us zs)) (quiet_any z.0 j z.2.3) (quiet_of us zs (j + 1))

  pub liked_fits : (p : Place) (t : ℕ) (op : Operation) (us : List ℕ) (zs : List (Liked us)) → (f.is_pure ≡ true → is_stateless op ≡ true)
      → operation_typed (shell g) (with_slots us) op (seconds us zs) (Some t) ≡ true → Fit (I.Apply (to K p t) op (firsts us zs))
  liked_fits p t op us zs pure h =
      apply_fits p t op (firsts us zs)
      (λ u. operation_same m (shell g) f (with_slots us) pl.table (firsts us zs) (seconds us zs) (alike_of us zs u) op (Some t) ∙ h)
      (λ u. there_of us zs u 0) (λ e. both (is_stateless op) (all_quiet (firsts us zs)) (pure e) (quiet_of us zs 0))

  -- a slot, and a constant
  abbrev pub like_slot : (us : List ℕ) (q : Place) (t k : ℕ) → slice_get us k ≡ Some t → Liked us
  like_slot us q t k e = (from K q t, R.Slot k, (t, slot_typ q t, e, refl))

  abbrev pub like_constant : (us : List ℕ) (t : ℕ) (literal : Literal) → literal_some (slice_get g.table t) literal ≡ true → Liked us
  like_constant us t literal h =
      (R.Constant t literal, R.Constant t literal, (t, (λ u. constant_typ t literal h), ap (λ b. cond b (Some t) None) h, refl))

  pub liked_sources : (us ts : List ℕ) (q k : ℕ) → ((j t : ℕ) → slice_get ts j ≡ Some t → slice_get us (k + j) ≡ Some t)
      → (zs : List (Liked us)) × (firsts us zs ≡ sources K q ts) × (seconds us zs ≡ operands k ts)
  liked_sources us [] q k get = ([], refl, refl)
  liked_sources us (t ∷ ts) q k get =
      let r = liked_sources us ts (q + 1) (suc k) (λ j u e. ap (slice_get us) (shifted k j) ∙ get (suc j) u e) in (
        like_slot us (Temp q) t k (ap (slice_get us) (sym (no_more k)) ∙ get 0 t refl) ∷ r.0,
        ap (λ rs. from K (Temp q) t ∷ rs) r.1,
        ap (λ rs. R.Slot k ∷ rs)
            r.2,
      )
    where
      shifted : (k j : ℕ) → suc k + j ≡ k + suc j
      shifted k j = omega arith

  -- orders of both that go together
  abbrev pub Ordered : Order → Order → Type 0
  Ordered first second =
      (us : List ℕ) (zs : List (Liked us))
      → (ys : List (Liked us)) × (first (firsts us zs) ≡ firsts us ys) × (second (seconds us zs) ≡ seconds us ys)

  pub in_order_fits : Ordered in_order in_order
  in_order_fits us zs = (zs, refl, refl)

  pub reverse_fits : Ordered reverse reverse
  reverse_fits us zs = (reverse zs, sym (map_reverse (λ (z : Liked us). z.0) zs), sym (map_reverse (λ (z : Liked us). z.1) zs))

  pub unit_is : literal_some (slice_get g.table K.unit) L.Unit ≡ true
  unit_is = ap (λ o. literal_some o L.Unit) pl.basic.unit

  pub fields_fit : (is : List ℕ) → Ordered (in_fields (unit_source K) is) (in_fields (unit_source K) is)
  fields_fit is us zs =
      let z : Liked us = like_constant us K.unit L.Unit unit_is in (
        in_fields z is zs,
        sym (map_in_fields (λ (y : Liked us). y.0) z is zs),
        sym (map_in_fields (λ (y : Liked us). y.1) z is zs),
      )

  -- an operation over values in hand
  pub work_fits : (p : Place) (t : ℕ) (op : Operation) (first second : Order) → Ordered first second → (f.is_pure ≡ true → is_stateless op ≡ true)
      → (q : ℕ) (ts : List ℕ) → operation_typed (shell g) (with_slots ts) op (second (operands 0 ts)) (Some t) ≡ true
      → Fit (I.Apply (to K p t) op (first (sources K q ts)))
  work_fits p t op first second ordered pure q ts h =
      let r = liked_sources ts ts q 0 (λ j u e. ap (slice_get ts) (begun j) ∙ e) in
      let o = ordered ts r.0 in
      subst (λ rs. Fit (I.Apply (to K p t) op rs)) (sym o.1 ∙ ap first r.1)
      (liked_fits p t op ts o.0 pure
      (ap (λ rs. operation_typed (shell g) (with_slots ts) op rs (Some t)) (sym o.2 ∙ ap second r.2) ∙ h))
    where
      begun : (j : ℕ) → 0 + j ≡ j
      begun j = omega arith

  -- over one value, wherever it stands
  pub one_fits : (p : Place) (t : ℕ) (op : Operation) (q : Place) (u : ℕ) → is_stateless op ≡ true
      → operation_typed (shell g) (with_slots (u ∷ [])) op one_operand (Some t) ≡ true → Fit (I.Apply (to K p t) op (from K q u ∷ []))
  one_fits p t op q u pure h = liked_fits p t op (u ∷ []) (like_slot (u ∷ []) q u 0 refl ∷ []) (λ e. pure) h

  -- ---- moves

  pub move_fits : (p : Place) (u : ℕ) (q : Place) (t : ℕ) → comes g t u ≡ true → Fit (move K p u q t)
  move_fits p u q t h = by (nat_eq t u) refl
    where
      by : (b : Bool) → nat_eq t u ≡ b → Fit (cond b (I.Copy (to K p u) (from K q t)) (I.Apply (to K p u) O.Same (from K q t ∷ [])))
      by true e = copy_fits p u (from K q t) (λ v. slot_typ q t v ∙ ap Some (eqb-true t u e)) (λ x. refl)
      by false e = one_fits p u O.Same q t refl (sym (ap (λ b. b || alike_here) e) ∙ h)
        where
          alike_here : Bool
          alike_here = operation_typed (shell g) (with_slots (t ∷ [])) O.Same one_operand (Some u)

  pub move_right : (out : Labels) (p : Place) (u : ℕ) (q : Place) (t : ℕ) → comes g t u ≡ true → Right m f n out (move K p u q t ∷ [])
  move_right out p u q t h = alone m f n out (move K p u q t) (move_fits p u q t h) (by (nat_eq t u))
    where
      by : (b : Bool) → Goes out [] (aim (cond b (I.Copy (to K p u) (from K q t)) (I.Apply (to K p u) O.Same (from K q t ∷ []))))
      by true = tt
      by false = tt

  pub retype_right : (out : Labels) (q t u : ℕ) → comes g t u ≡ true → Right m f n out (retype K q t u)
  retype_right out q t u h = by (nat_eq t u) refl
    where
      again : Instruction
      again = I.Apply (to K (Temp q) u) O.Same (from K (Temp q) t ∷ [])

      alike_here : Bool
      alike_here = operation_typed (shell g) (with_slots (t ∷ [])) O.Same one_operand (Some u)

      by : (b : Bool) → nat_eq t u ≡ b → Right m f n out (cond b [] (I.Apply (to K (Temp q) u) O.Same (from K (Temp q) t ∷ []) ∷ []))
      by true e = tt
      by false e = alone m f n out again (one_fits (Temp q) u O.Same (Temp q) t refl (sym (ap (λ b. b || alike_here) e) ∙ h)) tt

  -- a value in hand is kept at another type as well
  pub kept_as_right : (out : Labels) (p : Place) (q t u : ℕ) → comes g t u ≡ true → Right m f n out (kept_as K p u q t)
  kept_as_right out p q t u h = by (nat_eq t u) refl
    where
      again : Instruction
      again = I.Apply (to K p u) O.Same (from K (Temp q) t ∷ [])

      alike_here : Bool
      alike_here = operation_typed (shell g) (with_slots (t ∷ [])) O.Same one_operand (Some u)

      by : (b : Bool) → nat_eq t u ≡ b → Right m f n out (cond b [] (I.Apply (to K p u) O.Same (from K (Temp q) t ∷ []) ∷ []))
      by true e = tt
      by false e = alone m f n out again (one_fits p u O.Same (Temp q) t refl (sym (ap (λ b. b || alike_here) e) ∙ h)) tt

  -- ---- calls

  given_right : (us ts : List ℕ) (q k : ℕ) → ((j : ℕ) → slice_get us (k + j) ≡ slice_get ts j) → There (sources K q ts)
      → each (is_given m f us) k (sources K q ts) ≡ true
  given_right us [] q k get u = refl
  given_right us (t ∷ ts) q k get u =
      both (is_given m f us k (from K (Temp q) t)) (each (is_given m f us) (k + 1) (sources K (q + 1) ts))
      (same_is (source_typ m f (from K (Temp q) t)) (slice_get us k) t
      (slot_typ (Temp q) t (λ i h. u i (in_first (from K (Temp q) t) (sources K (q + 1) ts) i h)))
      (ap (slice_get us) (sym (no_more k)) ∙ get 0))
      (given_right us ts (q + 1) (k + 1) (λ j. ap (slice_get us) (shifted k j) ∙ get (suc j))
      (λ i h. u i (in_rest (from K (Temp q) t) (sources K (q + 1) ts) i h)))
    where
      shifted : (k j : ℕ) → k + 1 + j ≡ k + suc j
      shifted k j = omega arith

  many_sources : (q : ℕ) (ts : List ℕ) → length (sources K q ts) ≡ length ts
  many_sources q [] = refl
  many_sources q (t ∷ ts) = ap suc (many_sources (q + 1) ts)

  all_are_given : (q : ℕ) (ts : List ℕ) → There (sources K q ts) → all_given m f ts (sources K q ts) ≡ true
  all_are_given q ts u =
      both (nat_eq (length (sources K q ts)) (length ts)) (each (is_given m f ts) 0 (sources K q ts))
      (ap (λ k. nat_eq k (length ts)) (many_sources q ts) ∙ eq-eqb (length ts) (length ts) refl)
      (given_right ts ts q 0 (λ j. ap (slice_get ts) (begun j)) u)
    where
      begun : (j : ℕ) → 0 + j ≡ j
      begun j = omega arith

  pub call_fits : (q t function l : ℕ) (place : TextPlace) (ts : List ℕ) → Entered m f n function t ts → f.is_pure ≡ false
      → Fit (I.Call (record { slot = name (Temp q) t; function = function; arguments = sources K q ts; on_throw = l; place = place }))
  call_fits q t function l place ts x no_pure u =
      let c : Call = record { slot = name (Temp q) t; function = function; arguments = sources K q ts; on_throw = l; place = place } in
      let gets : slice_get f.slots (name (Temp q) t) ≡ Some t = pl.named (Temp q) t (u (name (Temp q) t) (inl refl)) in
      let a : Bool = all_given m f x.called.parameters (sources K q ts) in
      let b : Bool = same (slice_get f.slots (name (Temp q) t)) (Some x.called.result) in
      let d : Bool = nat_le x.called.cycle f.cycle in
      let e : Bool = nat_le x.called.lets f.lets in
      let i : Bool = is_tick (slice_get x.called.code 0) || nat_lt function n in
      let pa : a ≡ true = ap (λ us. all_given m f us (sources K q ts)) x.takes ∙ all_are_given q ts (λ k h. u k (inr h)) in
      let pb : b ≡ true = same_is (slice_get f.slots (name (Temp q) t)) (Some x.called.result) t gets (ap Some x.gives) in
      let pd : d ≡ true = le_true x.called.cycle f.cycle x.cycle in
      let pe : e ≡ true = le_true x.called.lets f.lets x.lets in
      let pi : i ≡ true = x.ticks in (
        ap (call_right m f n c) x.there ∙ both (a && b && d && e) i (both (a && b && d) e (both (a && b) d (both a b pa pb) pd) pe) pi,
        λ w. impossible (sym no_pure ∙ w),
      )
    where
      impossible : {A : Type 0} → false ≡ true → A
      impossible h = cc

  -- ---- jumps, payloads and measures

  pub truth_fits : (p : Place) (l : ℕ) → Fit (I.JumpIf (from K p K.truth) l)
  truth_fits p l u = (
    ap (λ o. is_sort m o S.Truth) (slot_typ p K.truth (λ k h. u k h))
        ∙ ap (λ o. is_some_sort (sort_some o) S.Truth) (table_of K.truth ∙ pl.basic.truth),
    λ e. refl,
  )

  pub measure_fits : (p : Place) → Fit (I.Measure (from K p K.integer))
  measure_fits p u = (
    ap (λ o. is_sort m o S.Integer) (slot_typ p K.integer (λ k h. u k h))
        ∙ ap (λ o. is_some_sort (sort_some o) S.Integer) (table_of K.integer ∙ pl.basic.integer),
    λ e. refl,
  )

  pub payload_fits : (p : Place) (t : ℕ) (q : Place) (u k l : ℕ) → same (payload_typ (shell g) (Some u) k) (Some t) ≡ true
      → Fit (I.Payload (name p t) (from K q u) k l)
  payload_fits p t q u k l h v =
      let gets : slice_get f.slots (name p t) ≡ Some t = pl.named p t (v (name p t) (inr (inl refl))) in
      let whole : source_typ m f (from K q u) ≡ Some u = slot_typ q u (λ i w. v i (in_first (from K q u) (R.Slot (name p t) ∷ []) i w)) in
      let typ : payload_typ m (source_typ m f (from K q u)) k ≡ Some t =
      ap (λ o. payload_typ m o k) whole ∙ ap (payload_some k) (table_of u) ∙ same_some (payload_typ (shell g) (Some u) k) t h in
      (same_is (slice_get f.slots (name p t)) (payload_typ m (source_typ m f (from K q u)) k) t gets typ, λ e. refl)

  pub end_fits : (p : Place) → Fit (I.End (from K p g.result))
  end_fits p u = (same_is (source_typ m f (from K p g.result)) (Some f.result) g.result (slot_typ p g.result (λ k h. u k h)) (ap Some pl.result), λ e. refl)

  pub throw_fits : (p : Place) → Fit (I.Throw (from K p K.exception))
  throw_fits p u =
      (same_is (source_typ m f (from K p K.exception)) (Some m.exception) K.exception (slot_typ p K.exception (λ k h. u k h)) (ap Some pl.exception), λ e. refl)
