-- `a :: b` beside its run.
use Rattle.std.proofs.Common.{◌≡◌, ℕ, Bool, true, false, ◌&&◌, List, [], ◌∷◌, refl, sym, ap, ◌∙◌, subst, ◌⊎◌, inl, inr, if◌then◌else◌}
use Rattle.std.specs.List.{list_all}
use Rattle.std.specs.Prelude.{option_map}
use Rattle.std.proofs.lemmas.Bool.{and_parts}
use Rattle.sail_base.specs.declared.place.Place.{Place}
use Rattle.sail_types.specs.Belongs.{Reading as Closed, all_belong, belongs, reading}
use Rattle.sail_types.specs.Numbers.{Assignment}
use Rattle.sail_types.specs.declared.shapes.Shape.{Shape}
use Rattle.sail_types.specs.declared.types.Typ.TheOpen as T
use Rattle.sail_types.specs.declared.types.Typ.TheVariants as U
use Rattle.sail_types.specs.declared.values.Value.{Value, Value-F, out-Value}
use Rattle.sail_types.specs.declared.values.Value.TheOpen as O
use Rattle.sail_types.specs.declared.values.Value.TheVariants as V
use Rattle.sail_core.specs.Making.{World}
use Rattle.sail_core.specs.Meaning.{kind_meaning}
use Rattle.sail_core.specs.Run as R
use Rattle.sail_core.specs.Run.{Ended, Run, gives, goes_on, in_turn, needs, ◌then◌}
use Rattle.sail_core.specs.Values.{cons_of, form_items}
use Rattle.sail_core.specs.declared.tree.Kind.TheVariants as K
use Rattle.value_indices.specs.declared.indices.Indices.{Indices, out-Indices, roll-Indices}
use Rattle.value_indices.specs.declared.indices.Indices.TheOpen as W
use Rattle.value_indices.specs.declared.indices.Indices.TheOpen.{Indices-F, Reading-F}
use Rattle.value_indices.specs.declared.indices.Indices.TheVariants as I
use Rattle.value_indices.specs.declared.indices.Indices.TheViews.{out-roll-Reading, roll-out-Indices}
use Rattle.value_indices.specs.declared.indices.Reading.{Reading, out-Reading}
use Rattle.value_indices.specs.declared.indices.Reading.TheVariants as Q
use Rattle.value_indices.specs.declared.notes.Fact.{Fact}
use Rattle.value_indices.specs.Steps.{bind, give}
use Rattle.pattern_leaves.specs.Settings.{Scope}
use Rattle.call_arguments.specs.Aims.{aimed}
use Rattle.call_arguments.specs.Holes.{has_hole, value_has_hole, without_holes}
use Rattle.call_arguments.specs.declared.aims.Aim.{Aim}
use Rattle.call_arguments.specs.declared.aims.Aim.TheVariants as Aims
use Rattle.call_notes.specs.Ends.{is_never_form}
use Rattle.call_notes.specs.Noted.{node_ended}
use Rattle.expression_steps.specs.Expressions.{kind_walk}
use Rattle.expression_steps.specs.Parts.{Part}
use Rattle.expression_steps.specs.Values as E
use Rattle.expression_steps.specs.Values.{cons_before, cons_due, cons_filled, cons_found, cons_free, list_like, list_owing, wanted_item}
use Rattle.checked_meaning.specs.Checked.{checked}
use Rattle.checked_meaning.specs.Items.{Item, vals}
use Rattle.value_laws.specs.Belonging.{Integers, closed, closeds, form_holds, meant, nowhere, plain, standing}
use Rattle.value_laws.specs.Known.{Agree, Point}
use Rattle.value_laws.proofs.Alike.{asks}
use Rattle.value_laws.proofs.Basics.{no}
use Rattle.value_laws.proofs.Meanings.{lists_same}
use Rattle.value_laws.proofs.Steps.{same}
use Rattle.value_laws.proofs.Values.{belongs_form, belongs_out, closed_is, form_asked, has_form, meant_is, variable_belongs}
use Rattle.row_laws.proofs.Steady.{first_same, readings_of, same_lists}
use Rattle.soundness_steps.proofs.Points.{agree_on, later_on}
use Rattle.soundness_steps.specs.Works.{Scene, Setting, Work, here}
use Rattle.soundness_steps.specs.Steps.{Beside, Walks}
use Rattle.soundness_steps.specs.Values.{AimSteady, AllTyped, Belongs, Comes, Has, Is, IsSteady, IsWanted}
use Rattle.soundness_steps.proofs.Steps.{binds, given_back, runs_as, walks_on, walks_then}
use Rattle.soundness_forms.specs.Forms.{AllFine, FitsSuffice}
use Rattle.soundness_forms.specs.Worlds.{Surrounds}
use Rattle.soundness_forms.proofs.Basics.{has_there, is_on, steady_on, wanted_on, wrong_walks}
use Rattle.soundness_forms.proofs.Casts.{comes_is, no_guard}
use Rattle.soundness_forms.proofs.Nodes.{node_ends}
use Rattle.soundness_forms.proofs.Parts.{not_never}
use Rattle.soundness_forms.proofs.Worlds.{surrounds_on}
use Rattle.soundness_values.specs.Likeness.{LikenessSuffices}
use Rattle.soundness_values.proofs.Filling.{filling_steady}
use Rattle.soundness_values.proofs.Items.{AllOf, of_on, owed_item}
use Rattle.soundness_values.proofs.Lists.{due_is, list_has, no_hole}
use Rattle.soundness_values.proofs.Made.{parts_node}
use Rattle.soundness_values.proofs.Seen.{hole_in, item_steady, value_hole_in}
use Rattle.soundness_values.proofs.Unholed.{whole_belongs, whole_wanted}

-- ---- a list whose items belong to a type

module _ (set : Setting) (work : Work) {n : ℕ} (f : Point n) where
  abbrev item_at : Integers → Reading → Closed
  item_at g r = closed set.around.types (standing set.past g) work.types r

  each_of : (r : Reading) (vs : List Value)
      → ((g : Integers) → Agree f g → list_all (λ v. belongs set.around.types v (item_at g r)) vs ≡ true) → AllOf set work f r vs
  each_of r [] h = tt
  each_of r (v ∷ vs) h = (
    λ g a. (and_parts (belongs set.around.types v (item_at g r)) (list_all (λ u. belongs set.around.types u (item_at g r)) vs) (h g a)).0,
    each_of r vs (λ g a. (and_parts (belongs set.around.types v (item_at g r)) (list_all (λ u. belongs set.around.types u (item_at g r)) vs) (h g a)).1),
  )

  pub record ListOf (r : Reading) (v : Value) : Type 0 where
    pub items : List Value
    pub is : out-Value v ≡ O.List items
    pub belong : AllOf set work f r items

  list_in : (r : Reading) (v : Value) (x : Value-F Value) → out-Value v ≡ x
      → ((g : Integers) → Agree f g → form_holds set.around.types (standing set.past g) work.types (W.List (item_at g r)) x ≡ true) → ListOf r v
  list_in r v (O.List vs) e h = record { items = vs; is = e; belong = each_of r vs h }
  list_in r v x e h = no (h f.integers (same f))

  -- a value of the indices of a list
  has_list : (j : Indices) (r : Reading) (v : Value) → out-Indices j ≡ W.List r → Has set work f j v → ListOf r v
  has_list j r v e h = list_in r v (out-Value v) refl (λ g a.
      sym (has_form set.around.types (standing set.past g) work.types j (W.List r) v (ap roll-Indices (sym e) ∙ roll-out-Indices j)) ∙ has_there h g a)

  list_steady : (j : Indices) (r : Reading) (v : Value) → out-Indices j ≡ W.List r → Has set work f j v → IsSteady set work f r
  list_steady j r v e h g a = first_same (item_at g r) (item_at f.integers r) [] [] (same_lists (item_at g r ∷ []) (item_at f.integers r ∷ [])
      (ap readings_of (sym (wide_at g) ∙ ap (λ m. m.wide) (h.steady g a ∙ sym (h.steady f.integers (same f))) ∙ wide_at f.integers)))
    where
      wide_at : (d : Integers) → (meant set.around.types (standing set.past d) work.types j).wide
          ≡ plain (standing set.past d) (U.List (U.Variable 0)) (item_at d r ∷ [])
      wide_at d = ap (λ m. m.wide) (meant_is set.around.types (standing set.past d) work.types j (W.List r) (ap roll-Indices (sym e) ∙ roll-out-Indices j))

  -- a value of the type of such lists
  abbrev none_at : Integers → Assignment
  none_at g = nowhere (standing set.past g)

  item_as : (g : Integers) (c : Closed) (x : Value)
      → belongs set.around.types x (reading (U.Variable 0) (none_at g) (closeds (c ∷ []))) ≡ belongs set.around.types x c
  item_as g c x = variable_belongs set.around.types x 0 (none_at g) (closeds (c ∷ [])) ∙ sym (belongs_out set.around.types x c)

  items_as : (g : Integers) (c : Closed) (vs : List Value)
      → all_belong (asks set.around.types vs) (reading (U.Variable 0) (none_at g) (closeds (c ∷ []))) ≡ list_all (λ x. belongs set.around.types x c) vs
  items_as g c [] = refl
  items_as g c (v ∷ vs) = λ j. item_as g c v j && items_as g c vs j

  list_as : (g : Integers) (c : Closed) (x : Value-F Value)
      → form_asked set.around.types x (T.List (U.Variable 0)) (none_at g) (closeds (c ∷ []))
      ≡ form_holds set.around.types (standing set.past g) work.types (W.List c) x
  list_as g c (O.List vs) = items_as g c vs
  list_as g c x = refl

  wide_list : (g : Integers) (r : Reading) → item_at g (Q.Widened (I.List r)) ≡ reading (U.List (U.Variable 0)) (none_at g) (closeds (item_at g r ∷ []))
  wide_list g r = closed_is set.around.types (standing set.past g) work.types (Q.Widened (I.List r)) (W.Widened (I.List r)) (Q.rolls-Widened (I.List r))
      ∙ ap (λ m. m.wide) (meant_is set.around.types (standing set.past g) work.types (I.List r) (W.List r) (I.rolls-List r))

  due_list : (r : Reading) (v : Value) → Belongs set work f (Q.Widened (I.List r)) v → ListOf r v
  due_list r v h = list_in r v (out-Value v) refl (λ g a.
      sym (list_as g (item_at g r) (out-Value v))
      ∙ sym (belongs_form set.around.types v (T.List (U.Variable 0)) (U.List (U.Variable 0)) (none_at g) (closeds (item_at g r ∷ []))
      (U.rolls-List (U.Variable 0)))
      ∙ ap (belongs set.around.types v) (sym (wide_list g r)) ∙ h g a)

  list_wanted : (r : Reading) → IsWanted set work f r → IsWanted set work f (Q.Widened (I.List r))
  list_wanted r st = (
    λ g a. closed_is set.around.types (standing set.past g) work.types (Q.Widened (I.List r)) (W.Widened (I.List r)) (Q.rolls-Widened (I.List r))
        ∙ ap (λ m. m.wide) (
        meant_is set.around.types (standing set.past g) work.types (I.List r) (W.List r) (I.rolls-List r)
        ∙ lists_same set.around.types set.past work.types g f.integers (item_at g r) (item_at f.integers r) (st.0 g a)
        ∙ sym (meant_is set.around.types (standing set.past f.integers) work.types (I.List r) (W.List r) (I.rolls-List r)))
        ∙ sym (closed_is set.around.types (standing set.past f.integers) work.types (Q.Widened (I.List r)) (W.Widened (I.List r)) (Q.rolls-Widened (I.List r))),
    ap has_hole (sym (Q.rolls-Widened (I.List r))) ∙ hole_in (W.Widened (I.List r)) ∙ ap value_has_hole (sym (I.rolls-List r)) ∙ value_hole_in (W.List r)
        ∙ st.1,
  )

-- ---- two runs in turn

two_rest : {C : Type 0} (x : Item) (m : List Item → Run Item C) (e : Ended Item Item)
    → goes_on e (λ y. m (x ∷ y ∷ [])) ≡ goes_on (goes_on (goes_on e (λ y. in_turn [] then λ ys. gives (y ∷ ys))) (λ xs. gives (x ∷ xs))) m
two_rest x m (R.Gives y now) = refl
two_rest x m (R.No now) = refl
two_rest x m (R.Returns v now) = refl
two_rest x m (R.Throws v now) = refl
two_rest x m (R.Stops cause now) = refl
two_rest x m R.Stuck = refl

two_then : {C : Type 0} (b : Run Item Item) (m : List Item → Run Item C) (e : Ended Item Item)
    → goes_on e (λ x. b then λ y. m (x ∷ y ∷ [])) ≡ goes_on (goes_on e (λ x. in_turn (b ∷ []) then λ xs. gives (x ∷ xs))) m
two_then b m (R.Gives x now) = two_rest x m (b now)
two_then b m (R.No now) = refl
two_then b m (R.Returns v now) = refl
two_then b m (R.Throws v now) = refl
two_then b m (R.Stops cause now) = refl
two_then b m R.Stuck = refl

-- ---- the node

module _ (fit : FitsSuffice) (like : LikenessSuffices) (q : Scene) (w : World Item) (scope : Scope) (k : ℕ) where
  abbrev making : List Item → Run Item Item
  making xs = needs (cons_of (vals xs)) then λ v. (checked q.set.around.types q.cases).make k xs v

  -- one item more
  cons_ends : {n : ℕ} {f : Point n} {facts : List Fact} (i j : Indices) (r : Reading) (x y : Item) → AllTyped q.set q.work f (i ∷ j ∷ []) (x ∷ y ∷ [])
      → IsSteady q.set q.work f r → Belongs q.set q.work f r x.val → ListOf q.set q.work f r y.val
      → Beside q n f facts (node_ended k (i ∷ j ∷ []) (I.List r)) (making (x ∷ y ∷ [])) (λ m g z u. Is q.set q.work g z u)
  cons_ends {n} {f} {facts} i j r x y typed steady b l =
      subst (λ o. Beside q n f facts (node_ended k (i ∷ j ∷ []) (I.List r))
      (needs (option_map (λ vs. V.List (x.val ∷ vs)) (form_items o)) then λ v. (checked q.set.around.types q.cases).make k (x ∷ y ∷ []) v)
      (λ m g z u. Is q.set q.work g z u)) (sym l.is)
      (node_ends k (i ∷ j ∷ []) (I.List r) (x ∷ y ∷ []) (V.List (x.val ∷ l.items)) typed (list_has q.set q.work f r (x.val ∷ l.items) steady (b, l.belong)))

  -- the indices of a list to whose type an item and these values belong
  record ListIs {n : ℕ} (f : Point n) (x : Item) (vs : List Value) (z : Indices) : Type 0 where
    pub of_type : Reading
    pub is : z ≡ I.List of_type
    pub steady : IsSteady q.set q.work f of_type
    pub first : Belongs q.set q.work f of_type x.val
    pub others : AllOf q.set q.work f of_type vs

  -- the item owes the type of the others
  owing : {n : ℕ} {f : Point n} {facts : List Fact} (place : Place) (i : Indices) (r : Reading) (x : Item) (vs : List Value) → Is q.set q.work f i x
      → IsSteady q.set q.work f r → AllOf q.set q.work f r vs → Walks q n f facts (list_owing (here q) place i r) (λ m g z. ListIs g x vs z)
  owing {f = f} place i r x vs a steady h =
      walks_on (λ t. give (I.List r)) (owed_item fit q w scope place i (without_holes r) x a (whole_wanted q.set q.work f r steady)) (λ m g fs t l c.
      given_back (I.List r) (record {
        of_type = r;
        is = refl;
        steady = steady_on q.set q.work r l steady;
        first = whole_belongs q.set q.work g r x.val c;
        others = of_on q.set q.work r vs l h;
      }))

  like_each : {m : ℕ} (g : Point m) {m2 : ℕ} (g2 : Point m2) (r s : Reading) (vs : List Value)
      → ((v : Value) → Belongs q.set q.work g r v → Belongs q.set q.work g2 s v) → AllOf q.set q.work g r vs → AllOf q.set q.work g2 s vs
  like_each g g2 r s [] c h = tt
  like_each g g2 r s (v ∷ vs) c h = (c v h.0, like_each g g2 r s vs c h.1)

  -- where the type of the others has a hole, it is filled first
  onto : {n : ℕ} {f : Point n} {facts : List Fact} (shape : Shape) (place : Place) (i : Indices) (r : Reading) (x : Item) (vs : List Value)
      → Is q.set q.work f i x → IsSteady q.set q.work f r → AllOf q.set q.work f r vs → (b : Bool)
      → Walks q n f facts (if b then cons_filled (here q) shape place i r else list_owing (here q) place i r) (λ m g z. ListIs g x vs z)
  onto shape place i r x vs a steady h false = owing place i r x vs a steady h
  onto {n} {f} {facts} shape place i r x vs a steady h true =
      walks_on (list_like (here q) place i r) (filling_steady q f facts shape i) (λ m g fs s l st.
      walks_on (λ t. list_owing (here q) place i s)
      (like q m g fs place r (without_holes s) (steady_on q.set q.work r l steady) (whole_wanted q.set q.work g s st)) (λ m2 g2 fs2 t l2 c.
      owing place i s x vs (is_on (later_on l l2) a) (steady_on q.set q.work s l2 st)
      (like_each g g2 r s vs (λ v b. whole_belongs q.set q.work g2 s v (c v b)) (of_on q.set q.work r vs l h))))

  -- what a list of which no type is wanted gives
  found : {n : ℕ} {f : Point n} {facts : List Fact} (shape : Shape) (place : Place) (i j : Indices) (x y : Item) → Is q.set q.work f i x
      → Is q.set q.work f j y → (form : Indices-F Indices Reading) → out-Indices j ≡ form
      → Beside q n f facts (bind (cons_before (here q) shape place i form) (node_ended k (i ∷ j ∷ []))) (making (x ∷ y ∷ [])) (λ m g z u. Is q.set q.work g z u)
  found {n} {f} {facts} shape place i j x y a b (W.List r) e =
      let h = has_list q.set q.work f j r y.val e b.has in
      walks_then (node_ended k (i ∷ j ∷ [])) (onto shape place i r x h.items a (list_steady q.set q.work f j r y.val e b.has) h.belong (has_hole r))
      (λ m g fs z l o.
      subst (λ u. Beside q m g fs (node_ended k (i ∷ j ∷ []) u) (making (x ∷ y ∷ [])) (λ m2 d v t. Is q.set q.work d v t)) (sym o.is)
      (cons_ends i j o.of_type x y ((is_on l a).typ, ((is_on l b).typ, tt)) o.steady o.first (record { items = h.items; is = h.is; belong = o.others })))
  found shape place i j x y a b W.Never e = no (sym (not_never q.set q.work j y.val b.has) ∙ ap is_never_form e)
  found shape place i j x y a b form e = walks_then (node_ended k (i ∷ j ∷ [])) (wrong_walks place) (λ m g fs z l h. absurd h)

  module _ {n : ℕ} (f : Point n) (facts : List Fact) (there : Surrounds q w f scope) (p s : Part) (a b : Run Item Item)
      (fine : AllFine q w (p ∷ s ∷ []) (a ∷ b ∷ [])) where
    free_beside : (shape : Shape)
        → Beside q n f facts (cons_free k shape p s (here q) scope) (a then λ x. b then λ y. making (x ∷ y ∷ []))
        (λ m g z u. Is q.set q.work g z u)
    free_beside shape =
        binds (λ i. bind (s.walk (here q) scope Aims.Free) (cons_found (here q) shape p.place k i)) (λ x. b then λ y. making (x ∷ y ∷ []))
        (fine.0.walks q.names q.may_fall no_guard n f facts scope Aims.Free there tt) (λ m g fs i x l c.
        binds (cons_found (here q) shape p.place k i) (λ y. making (x ∷ y ∷ []))
        (fine.1.0.walks q.names q.may_fall no_guard m g fs scope Aims.Free (surrounds_on q w scope l there) tt) (λ m2 g2 fs2 j y l2 d.
        found shape p.place i j x y (is_on l2 (comes_is p.is_nested p.never_ends Aims.Free i x c)) (comes_is s.is_nested s.never_ends Aims.Free j y d)
        (out-Indices j) refl))

    due_beside : (r : Reading) → aimed Aims.Due r ≡ Aims.Due r → IsWanted q.set q.work f r
        → Beside q n f facts (cons_due k p s (here q) scope r) (a then λ x. b then λ y. making (x ∷ y ∷ [])) (λ m g z u. Is q.set q.work g z u)
    due_beside r e st =
        subst (λ aim. Beside q n f facts
        (bind (p.walk (here q) scope aim) (λ i. bind (s.walk (here q) scope (Aims.Due (Q.Widened (I.List r)))) (λ j. node_ended k (i ∷ j ∷ []) (I.List r))))
        (a then λ x. b then λ y. making (x ∷ y ∷ [])) (λ m g z u. Is q.set q.work g z u)) (sym e)
        (binds (λ i. bind (s.walk (here q) scope (Aims.Due (Q.Widened (I.List r)))) (λ j. node_ended k (i ∷ j ∷ []) (I.List r)))
        (λ x. b then λ y. making (x ∷ y ∷ []))
        (fine.0.walks q.names q.may_fall no_guard n f facts scope (Aims.Due r) there st) (λ m g fs i x l c.
        binds (λ j. node_ended k (i ∷ j ∷ []) (I.List r)) (λ y. making (x ∷ y ∷ []))
        (fine.1.0.walks q.names q.may_fall no_guard m g fs scope (Aims.Due (Q.Widened (I.List r))) (surrounds_on q w scope l there)
        (list_wanted q.set q.work g r (wanted_on q.set q.work r l st))) (λ m2 g2 fs2 j y l2 d.
        let first = is_on l2 (comes_is p.is_nested p.never_ends (Aims.Due r) i x c) in
        let second = comes_is s.is_nested s.never_ends (Aims.Due (Q.Widened (I.List r))) j y d in
        cons_ends i j r x y (first.typ, (second.typ, tt)) (steady_on q.set q.work r (later_on l l2) st.0) (λ h t. c.met h (agree_on l2 t))
        (due_list q.set q.work g2 r y.val d.met))))

    by_form : (shape : Shape) (r : Reading) → IsWanted q.set q.work f r → (x : Reading-F Indices Reading) → out-Reading r ≡ x
        → Beside q n f facts (E.cons_of k shape p s (here q) scope x r) (a then λ x. b then λ y. making (x ∷ y ∷ [])) (λ m g z u. Is q.set q.work g z u)
    by_form shape r st W.Hole e = no_hole r e st.1
    by_form shape r st (W.Of t is qs) e = due_beside r (due_is r (W.Of t is qs) e refl) st
    by_form shape r st (W.Widened i) e = due_beside r (due_is r (W.Widened i) e refl) st
    by_form shape r st (W.Parts qs) e = due_beside r (due_is r (W.Parts qs) e refl) st

    by_wanted : (shape : Shape) (r : Reading) → (r ≡ Q.Hole) ⊎ IsWanted q.set q.work f r
        → Beside q n f facts (E.cons_of k shape p s (here q) scope (out-Reading r) r) (a then λ x. b then λ y. making (x ∷ y ∷ []))
        (λ m g z u. Is q.set q.work g z u)
    by_wanted shape r (inl e) =
        subst (λ x. Beside q n f facts (E.cons_of k shape p s (here q) scope x r) (a then λ x. b then λ y. making (x ∷ y ∷ []))
        (λ m g z u. Is q.set q.work g z u))
        (sym (ap out-Reading (e ∙ sym Q.rolls-Hole) ∙ out-roll-Reading W.Hole)) (free_beside shape)
    by_wanted shape r (inr st) = by_form shape r st (out-Reading r) refl

    pub cons_fine : (place : Place) (aim : Aim) → AimSteady q.set q.work f aim → (shape : Shape)
        → Beside q n f facts (kind_walk place k (K.Cons shape) (p ∷ s ∷ []) (here q) scope aim)
        (kind_meaning (checked q.set.around.types q.cases) w place k (K.Cons shape) (a ∷ b ∷ []))
        (λ m g i x. Comes q.set q.work g false false false aim i x)
    cons_fine place aim st shape =
        parts_node fit place k aim (in_turn (a ∷ b ∷ [])) (λ xs. needs (cons_of (vals xs))) st
        (runs_as (λ now. two_then b making (a now)) (by_wanted shape (wanted_item aim) (item_steady q.set q.work f aim st)))
