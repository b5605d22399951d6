-- A vector in whose items' type is a hole gets a new item beside its run: it is of items of the type that the hole then has, and in a hole that is left
-- is only what never ends.
use Rattle.std.proofs.Common.{◌≡◌, ℕ, ℤ, pos, Bool, true, false, ◌&&◌, ◌||◌, List, [], ◌∷◌, length, if◌then◌else◌, refl, sym, ap, ◌∙◌, subst}
use Rattle.std.specs.List.{list_all}
use Rattle.std.specs.Ordering.{int_eq}
use Rattle.std.proofs.lemmas.Bool.{and_parts}
use Rattle.std.proofs.lemmas.Bool.Decides.{Decides-int_eq}
use Rattle.sail_base.specs.declared.place.Place.{Place}
use Rattle.sail_types.specs.Belongs.{Reading as Closed, belongs}
use Rattle.sail_types.specs.Limits.{is_length}
use Rattle.sail_types.specs.Numbers.{number}
use Rattle.sail_types.specs.declared.numbers.Num.{Num}
use Rattle.sail_types.specs.declared.types.Typ.TheOpen as T
use Rattle.sail_types.specs.declared.types.Typ.TheVariants as U
use Rattle.sail_types.specs.declared.values.Value.{Value, Value-F, out-Value}
use Rattle.sail_types.specs.declared.values.Value.TheOpen as O
use Rattle.sail_core.specs.Making.{World}
use Rattle.sail_core.specs.Run.{Run, goes_on, needs, ◌then◌}
use Rattle.sail_core.specs.Values.{item_way}
use Rattle.value_indices.specs.Steps.{bind, give}
use Rattle.value_indices.specs.declared.indices.Indices.{Indices, out-Indices}
use Rattle.value_indices.specs.declared.indices.Indices.TheOpen as W
use Rattle.value_indices.specs.declared.indices.Indices.TheVariants as I
use Rattle.value_indices.specs.declared.indices.Indices.TheViews.{out-roll-Indices}
use Rattle.value_indices.specs.declared.indices.Reading.{Reading}
use Rattle.value_indices.specs.declared.indices.Reading.TheVariants as R
use Rattle.value_indices.specs.declared.notes.Fact.{Fact}
use Rattle.value_fits.specs.Fitting.{fits, owe_fit}
use Rattle.wide_types.specs.Widening.{widened}
use Rattle.pattern_leaves.specs.Settings.{Scope}
use Rattle.call_arguments.specs.Aims.{aimed}
use Rattle.call_arguments.specs.Holes.{has_hole, value_has_hole, without_holes}
use Rattle.call_arguments.specs.declared.aims.Aim.TheVariants as Aims
use Rattle.call_notes.specs.Ends.{fits_unless}
use Rattle.call_notes.specs.Noted.{node_ended}
use Rattle.expression_forms.specs.Ways.{inside_length, owe_part, part_fits, update_operands}
use Rattle.expression_steps.specs.Filling.{filled_or, items_filled, part_holed, part_put, put_aim, put_ended}
use Rattle.expression_steps.specs.Parts.{Part}
use Rattle.expression_steps.specs.Values.{part_updated}
use Rattle.checked_meaning.specs.Items.{Item}
use Rattle.value_laws.specs.Belonging.{Integers, closed, closeds, form_holds, has, is_of, meant, nowhere, number_there, plain, standing}
use Rattle.value_laws.specs.Known.{Agree, Point}
use Rattle.value_laws.proofs.Basics.{no}
use Rattle.value_laws.proofs.Meanings.{vectors_same}
use Rattle.value_laws.proofs.Steps.{same}
use Rattle.value_laws.proofs.Values.{belongs_form, closed_is, has_form, meant_is}
use Rattle.fitting_laws.specs.Fitting.{Said, Suffices}
use Rattle.fitting_laws.proofs.Joining.{also_suffice, says_so}
use Rattle.meeting_laws.proofs.Forms.{vector_as}
use Rattle.row_laws.proofs.Steady.{widened_same}
use Rattle.way_laws.specs.Laws.{HasPart}
use Rattle.way_laws.proofs.Items.{item_there}
use Rattle.soundness_steps.proofs.Points.{agree_on, later_on}
use Rattle.soundness_steps.specs.Works.{Scene, Setting, Work, here}
use Rattle.soundness_steps.specs.Steps.{Beside, Walks}
use Rattle.soundness_steps.specs.Values.{Belongs, Comes, Has, Is, IsSteady, IsWanted}
use Rattle.soundness_steps.proofs.Steps.{binds, given_back, runs_as, walks_mean, walks_on, walks_then}
use Rattle.soundness_forms.specs.Forms.{Fine, FitsSuffice}
use Rattle.soundness_forms.specs.Worlds.{Surrounds}
use Rattle.soundness_forms.proofs.Basics.{has_on, has_there, is_on, steady_on, wanted_on}
use Rattle.soundness_forms.proofs.Casts.{comes_is, no_guard}
use Rattle.soundness_forms.proofs.Nodes.{node_ends}
use Rattle.soundness_fits.proofs.Owing.{suffices_walks}
use Rattle.soundness_values.proofs.Seen.{hole_in, value_hole_in}
use Rattle.soundness_values.proofs.Unholed.{closed_whole, whole_belongs, whole_wanted}
use Rattle.soundness_parts.proofs.Suffixes.{item_reached, items_steady}
use Rattle.soundness_parts.proofs.Taken.{z}
use Rattle.soundness_parts.proofs.Updates.{said_true}

-- ---- vectors and the types that they widen to

module _ (set : Setting) (work : Work) (m : Num) where
  abbrev item_at : Integers → Reading → Closed
  item_at g r = closed set.around.types (standing set.past g) work.types r

  wide_vector : (g : Integers) (r : Reading) → closed set.around.types (standing set.past g) work.types (R.Widened (I.Vector m r))
      ≡ plain (standing set.past g) (U.Vector (number_there (standing set.past g) m) (U.Variable 0)) (item_at g r ∷ [])
  wide_vector g r =
      closed_is set.around.types (standing set.past g) work.types (R.Widened (I.Vector m r)) (W.Widened (I.Vector m r)) (R.rolls-Widened (I.Vector m r))
      ∙ ap (λ k. k.wide) (meant_is set.around.types (standing set.past g) work.types (I.Vector m r) (W.Vector m r) (I.rolls-Vector m r))

  has_wide : (g : Integers) (r : Reading) (v : Value) → is_of set.around.types (standing set.past g) work.types (R.Widened (I.Vector m r)) v
      ≡ has set.around.types (standing set.past g) work.types (I.Vector m r) v
  has_wide g r v =
      let types = set.around.types in
      let mu = standing set.past g in
      let u = number_there mu m in
      ap (belongs types v) (wide_vector g r)
      ∙ belongs_form types v (T.Vector u (U.Variable 0)) (U.Vector u (U.Variable 0)) (nowhere mu) (closeds (item_at g r ∷ []))
      (U.rolls-Vector u (U.Variable 0)) ∙ vector_as types set.past work.types g m (item_at g r) (out-Value v)
      ∙ sym (has_form types mu work.types (I.Vector m r) (W.Vector m r) v (I.rolls-Vector m r))

  -- a hole stands for what never ends
  has_whole : (g : Integers) (r : Reading) (v : Value) → has set.around.types (standing set.past g) work.types (I.Vector m (without_holes r)) v
      ≡ has set.around.types (standing set.past g) work.types (I.Vector m r) v
  has_whole g r v =
      let types = set.around.types in
      let mu = standing set.past g in
      has_form types mu work.types (I.Vector m (without_holes r)) (W.Vector m (without_holes r)) v (I.rolls-Vector m (without_holes r))
      ∙ ap (λ c. form_holds types mu work.types (W.Vector m c) (out-Value v)) (closed_whole set work g r)
      ∙ sym (has_form types mu work.types (I.Vector m r) (W.Vector m r) v (I.rolls-Vector m r))

  -- as long as a value says
  abbrev long : Value-F Value → ℤ
  long (O.Vector vs) = pos (length vs)
  long x = pos 0

  long_form : (g : Integers) (c : Closed) (x : Value-F Value) → form_holds set.around.types (standing set.past g) work.types (W.Vector m c) x ≡ true
      → number (standing set.past g) m ≡ long x
  long_form g c (O.Vector vs) h =
      let a = int_eq (pos (length vs)) (number (standing set.past g) m) in
      let b = is_length (length vs) in
      let outer = and_parts (a && b) (list_all (λ v. belongs set.around.types v c) vs) h in
      sym ((Decides-int_eq (pos (length vs)) (number (standing set.past g) m)).0 (and_parts a b outer.0).0)
  long_form g c x h = no h

  module _ {n : ℕ} (f : Point n) where
    number_stays : (r : Reading) (v : Value) → Has set work f (I.Vector m r) v → (g : Integers) → Agree f g
        → number (standing set.past g) m ≡ number (standing set.past f.integers) m
    number_stays r v h g a = at g a ∙ sym (at f.integers (same f))
      where
        at : (d : Integers) → Agree f d → number (standing set.past d) m ≡ long (out-Value v)
        at d b = long_form d (item_at d r) (out-Value v) (
            sym (has_form set.around.types (standing set.past d) work.types (I.Vector m r) (W.Vector m r) v (I.rolls-Vector m r)) ∙ has_there h d b)

    abbrev Numbered : Type 0
    Numbered = (g : Integers) → Agree f g → number (standing set.past g) m ≡ number (standing set.past f.integers) m

    meant_same : Numbered → (r : Reading) → IsSteady set work f r → (g : Integers) → Agree f g
        → meant set.around.types (standing set.past g) work.types (I.Vector m r)
        ≡ meant set.around.types (standing set.past f.integers) work.types (I.Vector m r)
    meant_same numbered r steady g a =
        meant_is set.around.types (standing set.past g) work.types (I.Vector m r) (W.Vector m r) (I.rolls-Vector m r)
        ∙ vectors_same set.around.types set.past work.types g f.integers m m (item_at g r) (item_at f.integers r) (numbered g a) (steady g a)
        ∙ sym (meant_is set.around.types (standing set.past f.integers) work.types (I.Vector m r) (W.Vector m r) (I.rolls-Vector m r))

    vector_wanted : Numbered → (r : Reading) → IsWanted set work f r → IsWanted set work f (R.Widened (I.Vector m r))
    vector_wanted numbered r st = (
      λ g a. closed_is set.around.types (standing set.past g) work.types (R.Widened (I.Vector m r)) (W.Widened (I.Vector m r))
          (R.rolls-Widened (I.Vector m r)) ∙ ap (λ k. k.wide) (meant_same numbered r st.0 g a)
          ∙ sym (closed_is set.around.types (standing set.past f.integers) work.types (R.Widened (I.Vector m r)) (W.Widened (I.Vector m r))
          (R.rolls-Widened (I.Vector m r))),
      ap has_hole (sym (R.rolls-Widened (I.Vector m r))) ∙ hole_in (W.Widened (I.Vector m r)) ∙ ap value_has_hole (sym (I.rolls-Vector m r))
          ∙ value_hole_in (W.Vector m r) ∙ st.1,
    )

-- ---- a new item

module _ (fit : FitsSuffice) (q : Scene) (place : Place) (k : ℕ) (m : Num) (r : Reading) (holed : has_hole r ≡ true) (x : Item) (t : Num) (index : ℤ)
    (y : Item) where
  abbrev vector : Indices
  vector = I.Vector m r

  -- what is owed of the index
  abbrev Inside : {n : ℕ} → Point n → Type 0
  Inside g = (c : Integers) → Agree g c → Said (standing q.set.past c) (inside_length t m)

  inside_owed : {n : ℕ} {f : Point n} {facts : List Fact} (j : Indices)
      → Walks q n f facts (owe_part (here q) place (item_reached t m r) true j) (λ p g u. Inside g)
  inside_owed {n} {f} j =
      let owed : Suffices q.set.past n f (part_fits (here q) (item_reached t m r) true j n) (λ g.
      Said (standing q.set.past g) (inside_length t m) × Unit {0}) =
      also_suffice (fits_unless true (here q) j r) (says_so (inside_length t m) (λ g a s. s)) (λ g l. says_so [] (λ c a s. tt)) in
      walks_mean (λ p g u e c a. (e c a).0) (suffices_walks {q = q} place (part_fits (here q) (item_reached t m r) true j) owed)

  -- the vector with it
  record PutIs {n : ℕ} (f : Point n) (new : Item) (u : Indices) : Type 0 where
    pub of_type : Reading
    pub is : u ≡ I.Vector m of_type
    pub steady : IsSteady q.set q.work f of_type
    pub item : Belongs q.set q.work f of_type new.val
    pub was : (c : Integers) → Agree f c → has q.set.around.types (standing q.set.past c) q.work.types (I.Vector m of_type) x.val ≡ true
    pub inside : Inside f
    pub numbered : (g : Integers) → Agree f g → number (standing q.set.past g) m ≡ number (standing q.set.past f.integers) m

  either_steady : {n : ℕ} (f : Point n) (s : Reading) → IsSteady q.set q.work f r → IsSteady q.set q.work f s → IsSteady q.set q.work f (filled_or r s)
  either_steady f s a b = by (has_hole s) (has_hole r)
    where
      by : (c d : Bool) → IsSteady q.set q.work f (if c then r else (if d then s else r))
      by true d = a
      by false true = b
      by false false = a

  module _ {n : ℕ} {f : Point n} (h : Is q.set q.work f vector x) (j : Indices) (new : Item) (a : Is q.set q.work f j new) where
    abbrev filled : Reading
    filled = filled_or r (widened j)

    filled_steady : IsSteady q.set q.work f filled
    filled_steady = either_steady f (widened j) (items_steady q vector x m r (I.rolls-Vector m r) h) (λ g b.
        widened_same q.set.around.types q.set.past q.work.types g f.integers j (a.has.steady g b ∙ sym (a.has.steady f.integers (same f))))

    items_put : {facts : List Fact} → Inside f
        → Walks q n f facts (items_filled (here q) place vector m j filled) (λ p g u. PutIs g new u)
    items_put {facts} inside =
        let s = without_holes filled in
        let st : IsWanted q.set q.work f s = whole_wanted q.set q.work f filled filled_steady in
        walks_on (λ u. bind (owe_fit place (fits q.set.around.types vector (R.Widened (I.Vector m s)))) (λ v. give (I.Vector m filled)))
        (fit q n f facts place j s new.val a.has st) (λ n2 g2 fs2 u l b.
        let held = has_on l h.has in
        walks_on (λ v. give (I.Vector m filled))
        (fit q n2 g2 fs2 place vector (R.Widened (I.Vector m s)) x.val held
        (vector_wanted q.set q.work m g2 (number_stays q.set q.work m g2 r x.val held) s (wanted_on q.set q.work s l st))) (λ n3 g3 fs3 v l2 c.
        given_back (I.Vector m filled) (record {
          of_type = filled;
          is = refl;
          steady = steady_on q.set q.work filled (later_on l l2) filled_steady;
          item = whole_belongs q.set q.work g3 filled new.val (λ d e. b d (agree_on l2 e));
          was = λ d e. sym (has_whole q.set q.work m d filled x.val) ∙ sym (has_wide q.set q.work m d s x.val) ∙ c d e;
          inside = λ d e. inside d (agree_on (later_on l l2) e);
          numbered = number_stays q.set q.work m g3 r x.val (has_on l2 held);
        })))

  part_walks : {n : ℕ} {f : Point n} {facts : List Fact} (nested : Bool) (j : Indices) (new : Item) → Is q.set q.work f vector x → Is q.set q.work f j new
      → Walks q n f facts (part_put (here q) place nested vector (item_reached t m r) j) (λ p g u. PutIs g new u)
  part_walks {n} {f} {facts} nested j new h a = by (has_hole r) holed
    where
      by : (b : Bool) → b ≡ true
          → Walks q n f facts (bind (owe_part (here q) place (item_reached t m r) (b || nested) j) (λ u.
          if b then part_holed (here q) place vector r j (out-Indices vector) else give vector)) (λ p g u. PutIs g new u)
      by false e = absurd (cc)
      by true e =
          walks_on (λ u. part_holed (here q) place vector r j (out-Indices vector)) (inside_owed j) (λ p g fs u l inside.
          subst (λ form. Walks q p g fs (part_holed (here q) place vector r j form) (λ p2 g2 v. PutIs g2 new v))
          (sym (ap out-Indices (sym (I.rolls-Vector m r)) ∙ out-roll-Indices (W.Vector m r)))
          (items_put (is_on l h) j new (is_on l a) inside))

  abbrev put_run : Item → Run Item Item
  put_run new = needs ((item_way index).put_in x.val new.val) then λ v. (z q).make k (x ∷ y ∷ new ∷ []) v

  ends : {n : ℕ} {f : Point n} {facts : List Fact} (j : Indices) (new : Item) (u : Indices) → Is q.set q.work f vector x → Is q.set q.work f j new
      → Is q.set q.work f (I.Integer t) y → ((g : Integers) → Agree f g → number (standing q.set.past g) t ≡ index) → PutIs f new u
      → Beside q n f facts (node_ended k (update_operands vector (item_reached t m r) j) u) (put_run new) (λ p g v w. Is q.set q.work g v w)
  ends {n} {f} {facts} j new u h a b counts put =
      let types = q.set.around.types in
      let mu = standing q.set.past f.integers in
      let s = put.of_type in
      let part : HasPart types mu q.work.types (I.Vector m s) x.val s (item_way index) =
      subst (λ c. HasPart types mu q.work.types (I.Vector m s) x.val s (item_way c)) (counts f.integers (same f))
      (item_there types mu q.work.types (I.Vector m s) x.val t m s (I.rolls-Vector m s) (put.was f.integers (same f))
      (said_true mu (inside_length t m) (put.inside f.integers (same f)))) in
      let other = part.replaced new.val (put.item f.integers (same f)) in
      runs_as (λ now. ap (λ o. goes_on (needs o now) (λ v. (z q).make k (x ∷ y ∷ new ∷ []) v)) (sym other.is_there))
      (subst (λ i. Beside q n f facts (node_ended k (update_operands vector (item_reached t m r) j) i) ((z q).make k (x ∷ y ∷ new ∷ []) other.whole)
      (λ p g v w. Is q.set q.work g v w)) (sym put.is)
      (node_ends k (update_operands vector (item_reached t m r) j) (I.Vector m s) (x ∷ y ∷ new ∷ []) other.whole (h.typ, (b.typ, (a.typ, tt))) (record {
        meaning = meant types mu q.work.types (I.Vector m s);
        is_so = other.is_so;
        steady = meant_same q.set q.work m f put.numbered s put.steady;
      })))

  module _ (w : World Item) (scope : Scope) (d : Part) (rd : Run Item Item) (fine : Fine q w false false d rd) where
    pub item_updated : {n : ℕ} {f : Point n} {facts : List Fact} → Is q.set q.work f vector x → Is q.set q.work f (I.Integer t) y
        → ((g : Integers) → Agree f g → number (standing q.set.past g) t ≡ index) → Surrounds q w f scope
        → Beside q n f facts (part_updated place k d (here q) scope vector (item_reached t m r)) (rd then put_run) (λ p g v u. Is q.set q.work g v u)
    item_updated {n} {f} {facts} h b counts there =
        let aim_is : put_aim r ≡ Aims.Free = ap (λ c. if c then Aims.Free else aimed Aims.Given r) holed in
        binds (put_ended (here q) place k d.is_nested vector (item_reached t m r)) put_run
        (subst (λ aim. Beside q n f facts (d.walk (here q) scope aim) rd (λ p g j u. Comes q.set q.work g false d.is_nested d.never_ends Aims.Free j u))
        (sym aim_is) (fine.walks q.names q.may_fall no_guard n f facts scope Aims.Free there tt)) (λ p g fs j new l c.
        let a = comes_is d.is_nested d.never_ends Aims.Free j new c in
        walks_then (node_ended k (update_operands vector (item_reached t m r) j)) (part_walks d.is_nested j new (is_on l h) a) (λ p2 g2 fs2 u l2 put.
        ends j new u (is_on (later_on l l2) h) (is_on l2 a) (is_on (later_on l l2) b) (λ e o. counts e (agree_on (later_on l l2) o)) put))
