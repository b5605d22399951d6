-- A value that is written to a tuple, part by part.
use Rattle.std.proofs.Common.{◌≡◌, ◌∙◌, ℕ, suc, Bool, true, false, List, [], ◌∷◌, if◌then◌else◌, Option, Some, None, refl, sym, ap, subst}
use Rattle.sail_types.specs.declared.values.Value.{Value, out-Value}
use Rattle.sail_types.specs.declared.values.Value.TheOpen as V
use Rattle.sail_core.specs.Patterns.{components}
use Rattle.sail_core.specs.Values.{parts_in}
use Rattle.value_indices.specs.declared.indices.Indices.{Indices, out-Indices, roll-Indices}
use Rattle.value_indices.specs.declared.indices.Indices.TheOpen as W
use Rattle.value_indices.specs.declared.indices.Indices.TheVariants as I
use Rattle.value_indices.specs.declared.indices.Indices.TheViews.{roll-out-Indices}
use Rattle.value_indices.specs.declared.indices.Reading.TheVariants as R
use Rattle.call_arguments.specs.Aims.{aimed, is_hole}
use Rattle.call_arguments.specs.Holes.{has_hole}
use Rattle.call_arguments.specs.declared.aims.Aim.TheVariants as Aims
use Rattle.expression_forms.specs.Spots.{Spot, any_hole, each_typ, parts_nested, parts_typ}
use Rattle.checked_meaning.specs.Items.{Item}
use Rattle.value_laws.specs.Known.{Point}
use Rattle.soundness_steps.specs.Works.{Scene}
use Rattle.soundness_steps.specs.Values.{AllAre, Is, IsMet}
use Rattle.soundness_forms.proofs.Leaving.{aimed_is}
use Rattle.soundness_parts.proofs.Taken.{z}
use Rattle.soundness_targets.proofs.TupleTypes.{first_false, parts_hole}
use Rattle.soundness_targets.proofs.TupleValues.{AllBelong, all_belong, parted}
use Rattle.soundness_targets.proofs.TupleWrites.{AllMeet}

-- nothing is owed of what isn't nested
not_owed : (q : Scene) {n : ℕ} (f : Point n) (s : Spot) (v : Value) → IsMet q.set q.work f (aimed Aims.Given s.typ) false v
not_owed q f s v = by (is_hole s.typ)
  where
    by : (b : Bool) → IsMet q.set q.work f (if b then Aims.Free else Aims.Given s.typ) false v
    by true = tt
    by false = tt

-- the items of a value
abbrev pub items_of : Scene → Item → Option (List Value) → List Item
items_of q u None = []
items_of q u (Some vs) = components (z q) u 0 vs

module _ (q : Scene) (ss : List Spot) where
  -- where nothing is owed further in
  all_free : {m : ℕ} (g : Point m) (ts : List Spot) (is : List Indices) (us : List Item) → AllAre q.set q.work g is us → AllMeet q g ts false is us
  all_free g [] [] [] h = tt
  all_free g (s ∷ ts) [] [] h = tt
  all_free g [] (i ∷ is) (u ∷ us) h = tt
  all_free g (s ∷ ts) (i ∷ is) (u ∷ us) h = ((h.0, not_owed q g s u.val), all_free g ts is us h.1)
  all_free g ts [] (u ∷ us) h = absurd h
  all_free g ts (i ∷ is) [] h = absurd h

  -- where it is, each part belongs to its type
  all_given : {m : ℕ} (g : Point m) (u : Item) (j : ℕ) (ts : List Spot) (is : List Indices) (vs : List Value) → any_hole (each_typ ts) ≡ false
      → AllAre q.set q.work g is (components (z q) u j vs) → AllBelong q g (each_typ ts) vs → AllMeet q g ts true is (components (z q) u j vs)
  all_given g u j [] [] [] whole h b = tt
  all_given g u j (s ∷ ts) (i ∷ is) (v ∷ vs) whole h b =
      let both = first_false q (has_hole s.typ) (any_hole (each_typ ts)) whole in
      ((h.0, subst (λ aim. IsMet q.set q.work g aim true v) (sym (aimed_is Aims.Given s.typ both.0)) b.0), all_given g u (suc j) ts is vs both.1 h.1 b.1)
  all_given g u j [] is (v ∷ vs) whole h b = absurd b
  all_given g u j (s ∷ ts) is [] whole h b = absurd b
  all_given g u j [] (i ∷ is) [] whole h b = absurd h
  all_given g u j (s ∷ ts) [] (v ∷ vs) whole h b = absurd h

  meet_by : {m : ℕ} (g : Point m) (is : List Indices) (u : Item) (vs : List Value) → out-Value u.val ≡ V.Tuple vs
      → AllAre q.set q.work g is (components (z q) u 0 vs) → (nested c : Bool) → any_hole (each_typ ss) ≡ c
      → IsMet q.set q.work g (aimed Aims.Given (if c then R.Hole else R.Parts (each_typ ss))) nested u.val
      → AllMeet q g ss (if c then false else nested) is (components (z q) u 0 vs)
  meet_by g is u vs out parts nested true e met = all_free g ss is (components (z q) u 0 vs) parts
  meet_by g is u vs out parts false false e met = all_free g ss is (components (z q) u 0 vs) parts
  meet_by g is u vs out parts true false e met =
      let whole = parts_hole q (each_typ ss) ∙ e in
      all_given g u 0 ss is vs e parts (all_belong q g (each_typ ss) u.val vs out
      (subst (λ aim. IsMet q.set q.work g aim true u.val) (aimed_is Aims.Given (R.Parts (each_typ ss)) whole) met))

  -- what its parts are
  pub record Shared {m : ℕ} (g : Point m) (nested : Bool) (is : List Indices) (u : Item) : Type 0 where
    pub values : List Value
    pub are_parts : parts_in u.val ≡ Some values
    pub meet : AllMeet q g ss (parts_nested ss nested) is (components (z q) u 0 values)

  pub shared : {m : ℕ} (g : Point m) (nested : Bool) (i : Indices) (is : List Indices) (u : Item) → out-Indices i ≡ W.Tuple is → Is q.set q.work g i u
      → IsMet q.set q.work g (aimed Aims.Given (parts_typ (each_typ ss))) nested u.val → Shared g nested is u
  shared g nested i is u e is_so met =
      let same_indices : i ≡ I.Tuple is = sym (roll-out-Indices i) ∙ ap roll-Indices e ∙ I.rolls-Tuple is in
      let p = parted q g is u (subst (λ j. Is q.set q.work g j u) same_indices is_so) in
      record {
        values = p.values;
        are_parts = p.are_parts;
        meet = meet_by g is u p.values p.out p.parts nested (any_hole (each_typ ss)) refl met;
      }

  pub shared_items : {m : ℕ} (g : Point m) (nested : Bool) (is : List Indices) (u : Item) → Shared g nested is u
      → AllMeet q g ss (parts_nested ss nested) is (items_of q u (parts_in u.val))
  shared_items g nested is u s = subst (λ o. AllMeet q g ss (parts_nested ss nested) is (items_of q u o)) (sym s.are_parts) s.meet
