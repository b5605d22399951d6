-- Parts of a value of a named type, with what is wanted of them under the Type arguments that are known.
use Rattle.std.proofs.Common.{◌≡◌, ℕ, zero, suc, Bool, true, false, List, [], ◌∷◌, length, take, Option, Some, None, refl, sym, ap, ◌∙◌, subst}
use Rattle.std.proofs.Common.{if◌then◌else◌}
use Rattle.sail_types.specs.declared.types.Typ.{Typ}
use Rattle.value_indices.specs.declared.indices.Indices.{Indices}
use Rattle.value_indices.specs.declared.indices.Indices.TheOpen as W
use Rattle.value_indices.specs.declared.indices.Indices.TheViews.{out-roll-Reading}
use Rattle.value_indices.specs.declared.indices.Reading.{Reading, out-Reading}
use Rattle.value_indices.specs.declared.indices.Reading.TheVariants as Q
use Rattle.call_arguments.specs.Aims.{is_hole_form}
use Rattle.call_arguments.specs.Callees.{is_closed, is_numberless, part_aim, types_from, was_due}
use Rattle.call_arguments.specs.declared.aims.Aim.{Aim}
use Rattle.call_arguments.specs.declared.aims.Aim.TheVariants as Aims
use Rattle.expression_steps.specs.Calls.{part_aims, places_of}
use Rattle.expression_steps.specs.Parts.{Part}
use Rattle.checked_meaning.specs.Items.{Item, vals}
use Rattle.value_laws.specs.Known.{Point}
use Rattle.soundness_steps.specs.Works.{Setting, Work}
use Rattle.soundness_steps.specs.Values.{AimSteady, IsMet, IsWanted}
use Rattle.soundness_forms.proofs.Parts.{AllSteady, EachIs, other_aims}
use Rattle.soundness_values.proofs.Mappings.{nameless_wanted}
use Rattle.soundness_values.proofs.Named.{AllDue, SameMany, known_types}
use Rattle.soundness_values.proofs.Seen.{KnownWanted, known_part}
use Rattle.soundness_values.proofs.Stands.{AsMany}

pub types_long : (m k count : ℕ) (ts : List Typ) (is : List Indices) → length (types_from m k count ts is) ≡ count
types_long m k zero ts is = refl
types_long m k (suc count) ts is = ap suc (types_long m (suc k) count ts is)

-- ---- what is wanted of a part

no_hole_form : (t : Typ) (rs : List Reading) → is_hole_form (out-Reading (Q.Of t [] rs)) ≡ false
no_hole_form t rs = ap is_hole_form (ap out-Reading (sym (Q.rolls-Of t [] rs)) ∙ out-roll-Reading (W.Of t [] rs))

abbrev wanted_if : Bool → Bool → Typ → List Reading → Aim
wanted_if b c t rs = if b then (if c then Aims.Free else Aims.Due (Q.Of t [] rs)) else Aims.Free

if_steady : (set : Setting) (work : Work) {n : ℕ} (f : Point n) (t : Typ) (rs : List Reading) → IsWanted set work f (Q.Of t [] rs) → (b c : Bool)
    → AimSteady set work f (wanted_if b c t rs)
if_steady set work f t rs h true true = tt
if_steady set work f t rs h true false = h
if_steady set work f t rs h false c = tt

part_aimed : (set : Setting) (work : Work) {n : ℕ} (f : Point n) (known : Option (List Reading)) → KnownWanted set work f known → (t : Typ)
    → AimSteady set work f (part_aim known t)
part_aimed set work f None h t = if_steady set work f t [] (nameless_wanted set work f t) (is_closed t) (is_hole_form (out-Reading (Q.Of t [] [])))
part_aimed set work f (Some rs) h t =
    if_steady set work f t rs (known_part set work f rs h t) (is_numberless t) (is_hole_form (out-Reading (Q.Of t [] rs)))

pub parts_aimed : (set : Setting) (work : Work) {n : ℕ} (f : Point n) (known : Option (List Reading)) → KnownWanted set work f known → (ts : List Typ)
    → AllSteady set work f (part_aims known ts)
parts_aimed set work f known h [] = tt
parts_aimed set work f known h (t ∷ ts) = (part_aimed set work f known h t, parts_aimed set work f known h ts)

due_aim : (known : Option (List Reading)) (t : Typ) → was_due known t ≡ true → part_aim known t ≡ Aims.Due (Q.Of t [] (known_types known))
due_aim None t e =
    ap (λ b. wanted_if b (is_hole_form (out-Reading (Q.Of t [] []))) t []) e ∙ ap (λ c. wanted_if true c t []) (no_hole_form t [])
due_aim (Some rs) t e =
    ap (λ b. wanted_if b (is_hole_form (out-Reading (Q.Of t [] rs))) t rs) e ∙ ap (λ c. wanted_if true c t rs) (no_hole_form t rs)

-- ---- as many parts as types

pub taken_as : (ps : List Part) (ts : List Typ) → AsMany ps ts → take (length ts) ps ≡ ps
taken_as [] [] h = refl
taken_as (p ∷ ps) (t ∷ ts) h = ap (λ qs. p ∷ qs) (taken_as ps ts h)
taken_as [] (t ∷ ts) h = absurd h
taken_as (p ∷ ps) [] h = absurd h

module _ (set : Setting) (work : Work) {n : ℕ} (f : Point n) (known : Option (List Reading)) where
  pub parts_due : (ps : List Part) (ts : List Typ) (is : List Indices) (xs : List Item) → AsMany ps ts → EachIs set work f ps (part_aims known ts) is xs
      → AllDue set work f known ts (vals xs) × SameMany (places_of ps) ts is
  parts_due [] [] [] [] c h = (tt, tt)
  parts_due (p ∷ ps) (t ∷ ts) (i ∷ is) (x ∷ xs) c h =
      let r = parts_due ps ts is xs c h.2 in
      (((λ e. subst (λ a. IsMet set work f a p.is_nested x.val) (due_aim known t e) h.1), r.0), r.1)
  parts_due [] (t ∷ ts) is xs c h = absurd c
  parts_due (p ∷ ps) [] is xs c h = absurd c
  parts_due [] [] (i ∷ is) xs c h = absurd h
  parts_due [] [] [] (x ∷ xs) c h = absurd h
  parts_due (p ∷ ps) (t ∷ ts) [] xs c h = absurd h
  parts_due (p ∷ ps) (t ∷ ts) (i ∷ is) [] c h = absurd h

  pub parts_long : (ps : List Part) (aims : List Aim) (is : List Indices) (xs : List Item) → EachIs set work f ps aims is xs → length ps ≡ length (vals xs)
  parts_long [] aims [] [] h = refl
  parts_long (p ∷ ps) aims (i ∷ is) (x ∷ xs) h = ap suc (parts_long ps (other_aims aims) is xs h.2)
  parts_long [] aims (i ∷ is) xs h = absurd h
  parts_long [] aims [] (x ∷ xs) h = absurd h
  parts_long (p ∷ ps) aims [] xs h = absurd h
  parts_long (p ∷ ps) aims (i ∷ is) [] h = absurd h
