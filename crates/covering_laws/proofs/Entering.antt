-- Arguments of a function at work come in at the types of its parameters.
use Rattle.std.proofs.Common.{◌≡◌, ◌∙◌, ap, sym, refl, subst, ℕ, zero, suc, ◌+◌, ◌<◌, ℤ, true, List, [], ◌∷◌, map, length, arith}
use Rattle.std.specs.Prelude.{Option, Some, None, option_map}
use Rattle.std.specs.List.{list_all}
use Rattle.std.proofs.lemmas.Bool.{and_parts}
use Rattle.std.proofs.lemmas.Bool.Decides.{Decides-int_eq}
use Rattle.sail_base.specs.declared.kind.Kind.{Kind}
use Rattle.sail_base.specs.declared.kind.Kind.TheVariants as K
use Rattle.sail_types.specs.Belongs.{belongs}
use Rattle.sail_types.specs.Numbers.{Positive}
use Rattle.sail_types.specs.Places.{an_int}
use Rattle.sail_types.specs.Sums.{variable}
use Rattle.sail_types.specs.declared.table.Parameter.{Parameter}
use Rattle.sail_types.specs.declared.table.Types.{Types}
use Rattle.sail_types.specs.declared.types.Typ.{Typ}
use Rattle.sail_types.specs.declared.values.Value.{Value}
use Rattle.sail_core.specs.Numbers.{agrees, all_agree}
use Rattle.sail_core.specs.declared.model.Function.{Function}
use Rattle.value_laws.specs.Belonging.{Integers, closed, is_of, over, standing}
use Rattle.value_laws.proofs.Basics.{no}
use Rattle.size_values.specs.Numbers.{argument_of, index_under, known_of, number_in, or_open}
use Rattle.size_laws.specs.Told.{reading_told, typ_told}
use Rattle.checked_meaning.specs.Items.{constant_of}
use Rattle.call_fits.specs.Calls.{AllBelong, given_of, givens_at, own_variables, variable_index}
use Rattle.soundness_steps.specs.Works.{Setting, Work}
use Rattle.soundness_steps.specs.Noted.{OpensAs, known}
use Rattle.soundness_steps.specs.Calls.{inside}
use Rattle.soundness_calls.specs.Premises.{AllMade, OwnSame, own_of, own_type}
use Rattle.soundness_calls.proofs.Own.{own_closed, own_over}
use Rattle.told_sizes.specs.Among.{at, typ_among}
use Rattle.told_sizes.specs.Exact.{reading_tells}
use Rattle.exact_sizes.specs.Laws.{More, Stands}
use Rattle.exact_sizes.proofs.Among.{SameAt}
use Rattle.exact_sizes.proofs.Known.{exact_value, none, number_more, variable_known}
use Rattle.exact_sizes.proofs.Told.{told_of, typ_told_hangs}
use Rattle.covering_laws.specs.Covered.{all_told, constants_of, is_fixed, known_in, parameter_tested}
use Rattle.covering_laws.proofs.Telling.{told_fits}

-- ---- the numbers of an instance are those of the function's variables

one_given : (kind : Kind) (y z : ℤ) → agrees (Some (an_int y)) (given_of kind z) ≡ true → z ≡ y
one_given K.Bool y z h = no h
one_given kind y z h = sym ((Decides-int_eq y z).0 h)

pub awaited_stand : (h : Integers) (k : ℕ) (zs : List (Option ℤ)) (ps : List Parameter) → all_agree (map (option_map an_int) zs) (givens_at h k ps) ≡ true
    → (i : ℕ) (z : ℤ) → known_of zs i ≡ Some z → (h (k + i) ≡ z) × (i < length ps)
awaited_stand h k [] ps a i z e = none e
awaited_stand h k (o ∷ zs) [] a i z e = no a
awaited_stand h k (None ∷ zs) (p ∷ ps) a zero z e = none e
awaited_stand h k (Some y ∷ zs) (p ∷ ps) a zero z e =
    let here : k + zero ≡ k = omega arith in
    let q = and_parts (agrees (Some (an_int y)) (given_of p.kind (h k))) (all_agree (map (option_map an_int) zs) (givens_at h (suc k) ps)) a in
    (ap h here ∙ one_given p.kind y (h k) q.0 ∙ cc e, omega arith)
awaited_stand h k (o ∷ zs) (p ∷ ps) a (suc i) z e =
    let further : k + suc i ≡ suc k + i = omega arith in
    let q = and_parts (agrees (option_map an_int o) (given_of p.kind (h k))) (all_agree (map (option_map an_int) zs) (givens_at h (suc k) ps)) a in
    let more = awaited_stand h (suc k) zs ps q.1 i z e in
    let few : i < length ps = more.1 in
    (ap h further ∙ more.0, omega arith)

known_number : (o : Option ℤ) (v : ℕ) (z : ℤ) → number_in (or_open v o) ≡ Some z → o ≡ Some z
known_number None v z h = none h
known_number (Some x) v z h = h

-- ---- parameters

module _ (types : Types) (past : Positive) (x : Work) (f : Function) (zs : List (Option ℤ)) (h : Integers)
    (awaited : all_agree (map (option_map an_int) zs) (givens_at h 0 f.variables) ≡ true) where
  pub own_stands : (g : Integers) → OwnSame f h g → Stands (known_in zs) g
  own_stands g same i z e =
      let k = awaited_stand h 0 zs f.variables awaited i z (known_number (known_of zs i) i z e) in
      let here : 0 + i ≡ i = omega arith in
      sym (same i k.1) ∙ ap h (sym here) ∙ k.0

  more_known : (g : Integers) → OwnSame f h g → More (known_in zs) (known g)
  more_known g same i z e = ap (λ (y : ℤ). Some y) (own_stands g same i z e)

  -- ---- the constants of the signature are those that the walk knows

  one_fixed : (k : ℕ) (o : Option ℤ) (kind : Kind) → known_of zs k ≡ o → is_fixed (known_in zs) (variable_index kind k) ≡ true
      → agrees (option_map an_int o) (given_of kind (h k)) ≡ true → (g : Integers) → OwnSame f h g
      → constant_of o ≡ index_under (known g) (variable_index kind k)
  one_fixed k None K.Bool e t a g same = refl
  one_fixed k (Some y) K.Bool e t a g same = no a
  one_fixed k o kind e t a g same =
      let v = exact_value (known_in zs) (variable k) t in
      let is : o ≡ Some v.0 = sym e ∙ known_number (known_of zs k) k v.0 (variable_known (known_in zs) k v.0 v.1) in
      ap constant_of is ∙ sym (number_more (known_in zs) (known g) (more_known g same) (variable k) v.0 v.1)

  all_fixed : (g : Integers) → OwnSame f h g → (k : ℕ) (ys : List (Option ℤ)) (ps : List Parameter)
      → all_agree (map (option_map an_int) ys) (givens_at h k ps) ≡ true → ((i : ℕ) → known_of zs (k + i) ≡ known_of ys i) → (i : ℕ)
      → at (map (is_fixed (known_in zs)) (own_variables k ps)) i ≡ true
      → argument_of (constants_of ys) i ≡ argument_of (map (index_under (known g)) (own_variables k ps)) i
  all_fixed g same k [] [] a e i t = refl
  all_fixed g same k [] (p ∷ ps) a e i t = no a
  all_fixed g same k (o ∷ ys) [] a e i t = no a
  all_fixed g same k (o ∷ ys) (p ∷ ps) a e zero t =
      let here : k + zero ≡ k = omega arith in
      let q = and_parts (agrees (option_map an_int o) (given_of p.kind (h k))) (all_agree (map (option_map an_int) ys) (givens_at h (suc k) ps)) a in
      one_fixed k o p.kind (subst (λ (j : ℕ). known_of zs j ≡ o) here (e zero)) t q.0 g same
  all_fixed g same k (o ∷ ys) (p ∷ ps) a e (suc i) t =
      let q = and_parts (agrees (option_map an_int o) (given_of p.kind (h k))) (all_agree (map (option_map an_int) ys) (givens_at h (suc k) ps)) a in
      all_fixed g same (suc k) ys ps q.1
      (λ j. let further : k + suc j ≡ suc k + j = omega arith in subst (λ (n : ℕ). known_of zs n ≡ known_of ys j) further (e (suc j))) i t

  fixed_there : (g : Integers) → OwnSame f h g
      → SameAt (map (is_fixed (known_in zs)) (own_of f)) (constants_of zs) (map (index_under (known g)) (own_of f))
  fixed_there g same i t = all_fixed g same 0 zs f.variables awaited (λ j. let here : 0 + j ≡ j = omega arith in ap (known_of zs) here) i t

  abbrev sizes : (t : Typ) → parameter_tested types zs x.own f t ≡ true
      → (typ_among types t (map (is_fixed (known_in zs)) (own_of f)) ≡ true) × (reading_tells types (length x.own) (known_in zs) (own_type f t) ≡ true)
  sizes t p = and_parts (typ_among types t (map (is_fixed (known_in zs)) (own_of f))) (reading_tells types (length x.own) (known_in zs) (own_type f t)) p

  -- the type of the signature is the type of the walk
  typ_is : (g : Integers) → OwnSame f h g → (t : Typ) → parameter_tested types zs x.own f t ≡ true → (v : Value)
      → typ_told types x.own t (constants_of zs) v ≡ reading_told types x.own (known g) (own_type f t) v
  typ_is g same t p v =
      typ_told_hangs types x.own t (map (is_fixed (known_in zs)) (own_of f)) (constants_of zs) (map (index_under (known g)) (own_of f)) (fixed_there g same)
      (sizes t p).0 v
      ∙ sym (told_of types x.own (known g) t (own_of f) [] v)

  pub one_opens : (g : Integers) → OwnSame f h g → (t : Typ) → parameter_tested types zs x.own f t ≡ true → (v : Value)
      → is_of types (standing past g) x.types (own_type f t) v ≡ true
      → OpensAs types past x g (own_type f t) v (typ_told types x.own t (constants_of zs) v)
  one_opens g same t p v is = record {
    each = λ tells name facts n had. typ_is g same t p v
        ∙ (told_fits types past x g (known_in zs) (own_stands g same) (own_type f t) (sizes t p).1 v is).each tells name facts n had;
  }

-- each in a setting of these types
pub all_made_in : (set : Setting) (types : Types) → set.around.types ≡ types → (x : Work) (f : Function) (zs : List (Option ℤ)) (h : Integers)
    → all_agree (map (option_map an_int) zs) (givens_at h 0 f.variables) ≡ true → (g : Integers) → OwnSame f h g → (ts : List Typ)
    → list_all (parameter_tested types zs x.own f) ts ≡ true → (vs : List Value) → AllBelong types (inside set f h) x.types ts vs
    → AllMade set x f g ts vs (all_told types x.own (constants_of zs) ts vs)
all_made_in set types e x f zs h a g same [] p [] b = tt
all_made_in set types e x f zs h a g same [] p (v ∷ vs) b = absurd b
all_made_in set types e x f zs h a g same (t ∷ ts) p [] b = absurd b
all_made_in set types e x f zs h a g same (t ∷ ts) p (v ∷ vs) b =
    let q = and_parts (parameter_tested types zs x.own f t) (list_all (parameter_tested types zs x.own f) ts) p in
    let closed_is : closed types (standing set.past g) x.types (own_type f t) ≡ over (inside set f h) t x.types =
    subst (λ (ty : Types). closed ty (standing set.past g) x.types (own_type f t) ≡ over (inside set f h) t x.types) e
    (own_closed set x f h g t same ∙ own_over set x f h t) in
    let is : is_of types (standing set.past g) x.types (own_type f t) v ≡ true = ap (belongs types v) closed_is ∙ b.0 in (
      λ exact. subst (λ (ty : Types). OpensAs ty set.past x g (own_type f t) v (typ_told types x.own t (constants_of zs) v)) (sym e)
          (one_opens types set.past x f zs h a g same t q.0 v is),
      all_made_in set types e x f zs h a g same ts q.1 vs b.1,
    )
