-- Arguments of a function at work come in at the types that the signature of its instance tells.
use Rattle.std.proofs.Common.{◌≡◌, ◌∙◌, ap, sym, refl, subst, ℕ, ◌+◌, ℤ, Bool, true, List, [], ◌∷◌, map, arith}
use Rattle.std.specs.Prelude.{Option, Some, option_map}
use Rattle.std.specs.List.{list_all}
use Rattle.std.proofs.lemmas.Bool.{and_parts}
use Rattle.sail_types.specs.Belongs.{belongs}
use Rattle.sail_types.specs.Places.{an_int}
use Rattle.sail_types.specs.Sums.{and_then}
use Rattle.sail_types.specs.declared.numbers.Index.{Index}
use Rattle.sail_types.specs.declared.table.Types.{Types}
use Rattle.sail_types.specs.declared.types.Typ.{Typ}
use Rattle.sail_types.specs.declared.values.Value.{Value}
use Rattle.sail_core.specs.Numbers.{all_agree}
use Rattle.sail_core.specs.declared.model.Function.{Function}
use Rattle.value_indices.specs.Steps.{Went, went}
use Rattle.value_indices.specs.declared.notes.Made.{Made}
use Rattle.value_indices.specs.declared.notes.Made.TheVariants as Makes
use Rattle.value_laws.specs.Belonging.{Integers, closed, is_of, over, standing}
use Rattle.value_laws.proofs.Basics.{no}
use Rattle.size_values.specs.declared.sized.Sized.{Sized}
use Rattle.size_values.specs.Numbers.{known_of}
use Rattle.split_laws.specs.Counted.{Agrees}
use Rattle.sized_nodes.specs.declared.trees.Instance.{Instance}
use Rattle.monomorph.specs.Reading.{Inside}
use Rattle.checked_meaning.specs.Fits.{AllFit, has_sizes}
use Rattle.sized_nodes.specs.declared.trees.Case.{Case}
use Rattle.sized_trees.specs.Bodies.{value_at}
use Rattle.sized_trees.specs.Cases.{sized_under}
use Rattle.sized_trees.specs.Combinations.{picked_by}
use Rattle.sized_trees.specs.Trees.{outside, own_went, type_told, types_told}
use Rattle.sized_meanings.specs.Sized.{all_told, if_told, nothing_noted, told_type}
use Rattle.call_fits.specs.Calls.{AllBelong, givens_at}
use Rattle.soundness_steps.specs.Works.{Setting, Work}
use Rattle.soundness_steps.specs.Noted.{OpensAs}
use Rattle.soundness_steps.specs.Calls.{inside}
use Rattle.soundness_calls.specs.Premises.{AllMade, OwnSame, own_of, own_type}
use Rattle.soundness_calls.proofs.Own.{own_closed, own_is, own_names, own_next, own_over}
use Rattle.case_laws.specs.Cases as C
use Rattle.case_laws.proofs.Under.{some_alike}
use Rattle.tabled_cores.specs.Signed.{parameters_signed, typ_signed, typs_signed}
use Rattle.covering_laws.proofs.CaseMet.{case_met}
use Rattle.covering_laws.proofs.Entering.{awaited_stand}
use Rattle.covering_laws.proofs.Notes.{only_there}

-- a function at work for these numbers; the integers of the call agree with them
module _ (given : Bool) (set : Setting) (types : Types) (kept : set.around.types ≡ types) (x : Work) (own_fit : AllFit types x.types x.own)
    (f : Function) (zs : List (Option ℤ)) (h : Integers) (awaited : all_agree (map (option_map an_int) zs) (givens_at h 0 f.variables) ≡ true) where
  abbrev instance_there : Instance
  instance_there = record { function = x.function; numbers = zs; types = x.own }

  abbrev count : ℕ
  count = own_next 0 f.variables

  abbrev r : Inside
  r = outside types instance_there count

  known_stands : (g : Integers) → OwnSame f h g → Agrees (known_of zs) g
  known_stands g same i z e =
      let k = awaited_stand h 0 zs f.variables awaited i z e in
      let here : 0 + i ≡ i = omega arith in
      sym (same i k.1) ∙ ap h (sym here) ∙ k.0

  -- ---- an argument

  one_told : (g : Integers) → OwnSame f h g → (t : Typ) → typ_signed given r (own_of f) t ≡ true → (v : Value)
      → is_of types (standing set.past g) x.types (own_type f t) v ≡ true
      → (s : Sized) × (told_type given types (type_told r (own_of f) t) v ≡ Some s) × OpensAs types set.past x g (own_type f t) v s
  one_told g same t p v is =
      let made : Made = Makes.ByType (own_type f t) in
      let there : C.IsSo set.past g r [] nothing_noted = record { known = known_stands g same; true_there = tt; given = λ w e. no e } in
      let c = case_met given types set.past x own_fit [] zs count [] [] [] [] made g nothing_noted v p there is in
      let s : Sized = sized_under r (picked_by c.choice) (value_at r made) in
      let told : told_type given types (type_told r (own_of f) t) v ≡ Some s =
      ap (λ (d : Option Case). and_then d (if_told types v)) c.is_there ∙ only_there (has_sizes types v s) s c.fits in
      (s, told, c.is_right)

  -- ---- all of them

  abbrev AllTold : (g : Integers) → (w : Went (List Index)) → List Typ → List Value → Type 0
  AllTold g w ts vs =
      (ss : List Sized) × (all_told given types (types_told (outside types instance_there w.next) w.value ts) vs ≡ Some ss) × AllMade set x f g ts vs ss

  abbrev walked : Went (List Index)
  walked = went (own_of f) [] count (own_names 0 f.variables)

  all_in_order : (g : Integers) → OwnSame f h g → (ts : List Typ) → list_all (typ_signed given r (own_of f)) ts ≡ true → (vs : List Value)
      → AllBelong types (inside set f h) x.types ts vs → AllTold g walked ts vs
  all_in_order g same [] p [] b = ([], refl, tt)
  all_in_order g same [] p (v ∷ vs) b = absurd b
  all_in_order g same (t ∷ ts) p [] b = absurd b
  all_in_order g same (t ∷ ts) p (v ∷ vs) b =
      let q = and_parts (typ_signed given r (own_of f) t) (list_all (typ_signed given r (own_of f)) ts) p in
      let closed_is : closed types (standing set.past g) x.types (own_type f t) ≡ over (inside set f h) t x.types =
      subst (λ (ty : Types). closed ty (standing set.past g) x.types (own_type f t) ≡ over (inside set f h) t x.types) kept
      (own_closed set x f h g t same ∙ own_over set x f h t) in
      let one = one_told g same t q.0 v (ap (belongs types v) closed_is ∙ b.0) in
      let s : Sized = one.0 in
      let more = all_in_order g same ts q.1 vs b.1 in
      let rest : Option (List Sized) = all_told given types (types_told r (own_of f) ts) vs in (
        s ∷ more.0,
        ap (λ (o : Option Sized). and_then o (λ a. option_map (λ more_sizes. a ∷ more_sizes) rest)) one.1
            ∙ ap (λ (o : Option (List Sized)). option_map (λ more_sizes. s ∷ more_sizes) o) more.1,
        ((λ exact. subst (λ (ty : Types). OpensAs ty set.past x g (own_type f t) v s) (sym kept) one.2), more.2),
      )

  all_there : (g : Integers) → OwnSame f h g → (ts : List Typ) → typs_signed given types instance_there (own_went f).next (own_went f).value ts ≡ true
      → (vs : List Value) → AllBelong types (inside set f h) x.types ts vs → AllTold g (own_went f) ts vs
  all_there g same ts p vs b =
      let is : own_went f ≡ walked = own_is f.variables [] 0 in
      let tested : list_all (typ_signed given r (own_of f)) ts ≡ true =
      subst (λ (w : Went (List Index)). typs_signed given types instance_there w.next w.value ts ≡ true) is p in
      subst (λ (w : Went (List Index)). AllTold g w ts vs) (sym is) (all_in_order g same ts tested vs b)

  -- the sizes don't hang on what integers stand behind the function's own variables
  pub record AreSigned (vs : List Value) : Type 0 where
    pub sizes : List Sized
    pub are_there : all_told given types (types_told (outside types instance_there (own_went f).next) (own_went f).value f.parameters) vs ≡ Some sizes
    pub are_right : (g : Integers) → OwnSame f h g → AllMade set x f g f.parameters vs sizes

  pub are_signed : parameters_signed given types instance_there f ≡ true → (vs : List Value) → AllBelong types (inside set f h) x.types f.parameters vs
      → AreSigned vs
  are_signed p vs b =
      let here = all_there h (λ i l. refl) f.parameters p vs b in
      record {
        sizes = here.0;
        are_there = here.1;
        are_right = λ g same.
            let there = all_there g same f.parameters p vs b in
            subst (AllMade set x f g f.parameters vs) (some_alike there.0 here.0 (sym there.1 ∙ here.1)) there.2;
      }
