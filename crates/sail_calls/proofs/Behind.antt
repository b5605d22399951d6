-- The body of a function that no `val` declares: the node of the type that is written before it makes its value as what it is, and the node around that
-- comes to the result.
use Rattle.std.proofs.Common.{◌≡◌, ◌∙◌, ap, sym, refl, subst, ℕ, Bool, true, false, true≢false, ◌&&◌, List, [], ◌∷◌, map, Some, None}
use Rattle.std.specs.Prelude.{not}
use Rattle.std.proofs.lemmas.Bool.{and_parts}
use Rattle.sail_core.specs.Making.{World, made}
use Rattle.sail_core.specs.Meaning.{kind_meaning, meaning}
use Rattle.sail_core.specs.Run.{Run, ◌then◌}
use Rattle.sail_core.specs.declared.tree.Core.{Core, Core-F, fold-roll-Core, out-Core, roll-out-Core}
use Rattle.sail_core.specs.declared.tree.Kind.{Kind}
use Rattle.sail_core.specs.declared.tree.Kind.TheVariants as K
use Rattle.value_indices.specs.declared.indices.Indices.{Indices}
use Rattle.value_indices.specs.declared.notes.Fact.{Fact}
use Rattle.value_indices.specs.declared.notes.Made.TheVariants as Makes
use Rattle.value_indices.specs.Steps.{bind, give}
use Rattle.call_arguments.specs.declared.aims.Aim.{Aim}
use Rattle.call_arguments.specs.declared.aims.Aim.TheVariants as Aims
use Rattle.call_notes.specs.Noted.{node_given, node_made}
use Rattle.expression_forms.specs.Nodes.{cast_ended}
use Rattle.expression_steps.specs.Expressions.{part}
use Rattle.expression_steps.specs.Parts.{Part}
use Rattle.function_notes.specs.Functions.{bare_part, behind_part, body_part, cast_over, comes_to_result, comes_to_written, only, passed_over, result_part}
use Rattle.checked_meaning.specs.Checked.{checked}
use Rattle.checked_meaning.specs.Items.{Item}
use Rattle.value_laws.specs.Known.{Point}
use Rattle.soundness_steps.specs.Works.{Scene}
use Rattle.soundness_steps.specs.Steps.{Beside}
use Rattle.soundness_steps.specs.Values.{Comes, Has, IsMadeAs, IsMet, cast_made}
use Rattle.soundness_steps.proofs.Steps.{binds, given_back, makes}
use Rattle.soundness_forms.specs.Forms.{Fine, z}
use Rattle.soundness_forms.specs.Standing.{Standing, is_value, kind_right, node_standing, standing}
use Rattle.soundness_forms.proofs.Basics.{has_on, has_there, met_on, then_walks}
use Rattle.soundness_forms.proofs.Casts.{comes_is, no_guard}
use Rattle.soundness_forms.proofs.Growth.{grows_bind, grows_give, grows_given, grows_made}
use Rattle.soundness_forms.proofs.Nodes.{ends_node}
use Rattle.soundness_forms.proofs.PlainKinds.{cast_kind, fine_by, value_fine}
use Rattle.soundness_fits.proofs.Owing.{fits_suffice}
use Rattle.sail_soundness.specs.Whole.{EachFine, ModelStands, OthersFine, nodes}
use Rattle.sail_soundness.proofs.Whole.{part_fine, whole}

-- ---- a value that is made as what it is

made_as_it_is : (q : Scene) {m : ℕ} {g : Point m} {fs : List Fact} (k : ℕ) (nested never_ends : Bool) (aim : Aim) (i : Indices) (x : Item)
    → Comes q.set q.work g false nested never_ends aim i x
    → Beside q m g fs (cast_ended k Aims.Free i) ((checked q.set.around.types q.cases).make k (x ∷ []) x.val)
    (λ j p d y. Comes q.set q.work p false nested never_ends aim d y)
made_as_it_is q {g = g} k nested never_ends aim i x c =
    let e = comes_is nested never_ends aim i x c in
    then_walks (λ t. give i) (makes k (i ∷ []) (Makes.ByIndices i) (x ∷ []) x.val (e.typ, tt) (has_there c.has)) (λ j p gs t y l h.
    given_back i (record {
      has = subst (Has q.set q.work p i) (sym h.0) (has_on l e.has);
      typ = as_value p aim y (subst (λ v. IsMadeAs q.set q.work p (Makes.ByIndices i) v y.typ) (sym h.0) h.1);
      met = subst (λ v. IsMet q.set q.work p aim nested v) (sym h.0) (met_on q.set q.work aim nested x.val l c.met);
      ends = c.ends;
    }))
  where
    as_value : {j : ℕ} (p : Point j) (aim : Aim) (y : Item) → IsMadeAs q.set q.work p (Makes.ByIndices i) y.val y.typ
        → IsMadeAs q.set q.work p (cast_made q.set q.work p false aim i) y.val y.typ
    as_value p Aims.Free y h = h
    as_value p (Aims.Given r) y h = h
    as_value p (Aims.PartOf r) y h = h
    as_value p (Aims.Due r) y h = h

module _ (q : Scene) (w : World Item) where
  -- what a cast comes to
  abbrev cast_run : ℕ → Run Item Item → Run Item Item
  cast_run k r = r then λ x. made (z q w) k (x ∷ []) x.val

  passed_fine : (e : Core-F Core) (p : Part) (r : Run Item Item) → Fine q w false false p r → Fine q w false false (passed_over e p) (cast_run e.number r)
  passed_fine e p r h =
      fine_by q w false false (passed_over e p) (cast_run e.number r) (λ around scope. refl)
      (λ names falls guarded n f facts scope aim there steady.
      ends_node e.number r (λ x. x ∷ []) (λ x. x.val) false p.is_nested p.never_ends aim
      (binds (cast_ended e.number Aims.Free) (λ x. (checked q.set.around.types q.cases).make e.number (x ∷ []) x.val)
      (h.walks names falls no_guard n f facts scope aim there steady)
      (λ m g fs i x l c. made_as_it_is (record q { names = names; may_fall = falls }) e.number p.is_nested p.never_ends aim i x c)))
      (λ around scope aim. grows_bind (bind (p.walk around scope aim) (cast_ended e.number Aims.Free)) (node_given e.number)
      (grows_bind (p.walk around scope aim) (cast_ended e.number Aims.Free) (h.grows around scope aim) (λ i.
      grows_bind (node_made e.number (i ∷ []) (Makes.ByIndices i)) (λ u. give i) (grows_made e.number (i ∷ []) (Makes.ByIndices i)) (λ u. grows_give i)))
      (grows_given e.number))

  -- ---- nodes by their kinds

  node_means : (c : Core) (kind : Kind) (parts : List Core) → (out-Core c).kind ≡ kind → (out-Core c).parts ≡ parts
      → kind_meaning (z q w) w (out-Core c).place (out-Core c).number kind (map (meaning (z q w) w) parts) ≡ meaning (z q w) w c
  node_means c kind parts k p =
      (λ j. kind_meaning (z q w) w (out-Core c).place (out-Core c).number (sym k j) (map (meaning (z q w) w) (sym p j)))
      ∙ sym (fold-roll-Core (Run Item Item) (λ d. kind_meaning (z q w) w d.place d.number d.kind d.parts) (out-Core c))
      ∙ ap (meaning (z q w) w) (roll-out-Core c)

  node_right : (c : Core) (kind : Kind) (parts : List Core) → (out-Core c).kind ≡ kind → (out-Core c).parts ≡ parts
      → (standing q.set.around c).right ≡ true → kind_right q.set.around kind (map (standing q.set.around) parts) ≡ true
  node_right c kind parts k p h =
      (λ j. kind_right q.set.around (sym k j) (map (standing q.set.around) (sym p j)))
      ∙ sym (ap (λ (s : Standing). s.right) (fold-roll-Core Standing (node_standing q.set.around) (out-Core c)))
      ∙ ap (λ d. (standing q.set.around d).right) (roll-out-Core c) ∙ h

  node_others : (c : Core) (a : Core) → (out-Core c).parts ≡ a ∷ [] → EachFine q w (nodes c) → EachFine q w (nodes a)
  node_others c a p h = part_fine q w (out-Core c) a p (subst (λ d. EachFine q w (nodes d)) (sym (roll-out-Core c)) h)

  no_only : {A : Type 0} (xs : List A) → only false xs ≡ None
  no_only [] = refl
  no_only (x ∷ []) = refl
  no_only (x ∷ y ∷ xs) = refl

  -- ---- behind the type that is written

  module _ (model : ModelStands q.set q.work) where
    -- a part that a value is made of
    a_value : (a : Core) → is_value (standing q.set.around a) ≡ true → EachFine q w (nodes a) → Fine q w false false (part a) (meaning (z q w) w a)
    a_value a is others =
        value_fine q w (standing q.set.around a) (part a) (meaning (z q w) w a) is (λ right. whole q w a right (model, others))

    inside_fine : (c : Core) → is_value (standing q.set.around c) ≡ true → EachFine q w (nodes c) → (kind : Kind) (parts : List Core)
        → (out-Core c).kind ≡ kind → (out-Core c).parts ≡ parts → (b : Bool) → comes_to_written kind ≡ b
        → Fine q w false false (behind_part c (only b parts)) (meaning (z q w) w c)
    inside_fine c is others kind parts k p false e =
        subst (λ o. Fine q w false false (behind_part c o) (meaning (z q w) w c)) (sym (no_only parts)) (a_value c is others)
    inside_fine c is others kind [] k p true e = a_value c is others
    inside_fine c is others kind (a ∷ b ∷ parts) k p true e = a_value c is others
    inside_fine c is others (K.Cast (Some t)) (a ∷ []) k p true e =
        let s : Standing = standing q.set.around c in
        let so = (and_parts s.right (not s.cast) (and_parts (s.right && not s.cast) (not s.guard) is).0).0 in
        let right = node_right c (K.Cast (Some t)) (a ∷ []) k p so in
        let value = (and_parts (is_value (standing q.set.around a)) true right).0 in
        subst (Fine q w false false (passed_over (out-Core c) (part a))) (node_means c (K.Cast (Some t)) (a ∷ []) k p)
        (passed_fine (out-Core c) (part a) (meaning (z q w) w a) (a_value a value (node_others c a p others)))
    inside_fine c is others kind (a ∷ []) k p true e = absurd (true≢false (sym e))

    -- ---- the whole body, which may be a guard's

    result_fine : (c : Core) → (standing q.set.around c).cast ≡ true → (standing q.set.around c).right ≡ true → EachFine q w (nodes c) → (kind : Kind)
        (parts : List Core) → (out-Core c).kind ≡ kind → (out-Core c).parts ≡ parts → (b : Bool) → comes_to_result kind ≡ b
        → (guard : Bool) × Fine q w true guard (result_part c (only b parts)) (meaning (z q w) w c)
    result_fine c is right others kind parts k p false e = (
      (standing q.set.around c).guard,
      subst (λ o. Fine q w true (standing q.set.around c).guard (result_part c o) (meaning (z q w) w c)) (sym (no_only parts))
          (subst (λ b. Fine q w b (standing q.set.around c).guard (part c) (meaning (z q w) w c)) is (whole q w c right (model, others))),
    )
    result_fine c is right others kind [] k p true e = (
      (standing q.set.around c).guard,
      subst (λ b. Fine q w b (standing q.set.around c).guard (part c) (meaning (z q w) w c)) is (whole q w c right (model, others)),
    )
    result_fine c is right others kind (a ∷ b ∷ parts) k p true e = (
      (standing q.set.around c).guard,
      subst (λ b. Fine q w b (standing q.set.around c).guard (part c) (meaning (z q w) w c)) is (whole q w c right (model, others)),
    )
    result_fine c is right others (K.Cast None) (a ∷ []) k p true e =
        let value = node_right c (K.Cast None) (a ∷ []) k p right in
        let inner = inside_fine a value (node_others c a p others) (out-Core a).kind (out-Core a).parts refl refl
        (comes_to_written (out-Core a).kind) refl in
        let s : Standing = record { cast = false; guard = false; right = true } in (
          false,
          subst (Fine q w true false (cast_over (out-Core c) (bare_part a))) (node_means c (K.Cast None) (a ∷ []) k p)
              (cast_kind fits_suffice q w (out-Core c).place (out-Core c).number (s ∷ []) (bare_part a ∷ []) (meaning (z q w) w a ∷ [])
              ((λ e. inner), tt) refl),
        )
    result_fine c is right others kind (a ∷ []) k p true e = absurd (true≢false (sym e))

  pub body_fine : (declared : Bool) (c : Core) → (standing q.set.around c).cast ≡ true → (standing q.set.around c).right ≡ true → OthersFine q w (nodes c)
      → (guard : Bool) × Fine q w true guard (body_part declared c) (meaning (z q w) w c)
  body_fine true c is right others = (
    (standing q.set.around c).guard,
    subst (λ b. Fine q w b (standing q.set.around c).guard (part c) (meaning (z q w) w c)) is (whole q w c right others),
  )
  body_fine false c is right others =
      result_fine others.0 c is right others.1 (out-Core c).kind (out-Core c).parts refl refl (comes_to_result (out-Core c).kind) refl
