-- Operators on truths, loops and `try`, as kinds of nodes.
use Rattle.std.proofs.Common.{◌≡◌, ℕ, Bool, true, false, not, List, [], ◌∷◌, ◌++◌, map, Option, Some, None, refl}
use Rattle.std.proofs.lemmas.Bool.{and_parts}
use Rattle.std.specs.List.{list_all}
use Rattle.sail_base.specs.declared.place.Place.{Place}
use Rattle.sail_types.specs.declared.numbers.Con.{Con}
use Rattle.sail_types.specs.declared.numbers.Con.TheVariants as C
use Rattle.sail_types.specs.declared.numbers.Num.{Num}
use Rattle.sail_core.specs.Making.{World}
use Rattle.sail_core.specs.Meaning.{kind_meaning}
use Rattle.sail_core.specs.Run.{Run}
use Rattle.sail_core.specs.declared.tree.Counting.{Counting}
use Rattle.sail_core.specs.declared.tree.Kind.{Kind}
use Rattle.sail_core.specs.declared.tree.Kind.TheVariants as K
use Rattle.value_indices.specs.Steps.{Walk, assume, bind, give}
use Rattle.value_indices.specs.declared.indices.Indices.{Indices, out-Indices}
use Rattle.value_indices.specs.declared.indices.Indices.TheOpen as W
use Rattle.value_indices.specs.declared.indices.Indices.TheOpen.{Indices-F}
use Rattle.value_indices.specs.declared.indices.Indices.TheVariants as I
use Rattle.value_indices.specs.declared.indices.Reading.{Reading}
use Rattle.pattern_leaves.specs.Settings.{Around, Scope}
use Rattle.call_arguments.specs.declared.aims.Aim.TheVariants as Aims
use Rattle.call_notes.specs.Ends.{integer_number}
use Rattle.expression_forms.specs.Truths.{both, either, right_form, then_truth, truth_of}
use Rattle.expression_steps.specs.Parts.{Part, condition_walk, given_that, number_before, number_walk, numbers_behind, numbers_walk, truth_walk, under}
use Rattle.expression_steps.specs.Statements.{and_under, and_walk, bounds_of, foreach_walk, loop_walk, measure_walk, measured, natural_type}
use Rattle.expression_steps.specs.Statements.{or_under, or_walk, step_owed, turn_begun, turn_part, turn_walk, turns_walk}
use Rattle.expression_steps.specs.declared.counting.Bounds.{Bounds}
use Rattle.checked_meaning.specs.Items.{Item}
use Rattle.soundness_steps.specs.Works.{Scene}
use Rattle.soundness_steps.specs.Steps.{Grows}
use Rattle.soundness_forms.specs.EachKind.{KindFine, PartsFine, node}
use Rattle.soundness_forms.specs.Forms.{Fine, FitsSuffice, at, z}
use Rattle.soundness_forms.specs.Standing.{Standing, is_cast, is_guard, is_value, kind_right}
use Rattle.soundness_forms.proofs.Growth.{grows_assume, grows_bind, grows_give, grows_owe, grows_scoped, grows_wrong}
use Rattle.soundness_forms.proofs.LeavingKinds.{leaving_grows}
use Rattle.soundness_forms.proofs.PlainKinds.{fine_at, fine_by, value_fine, wrong_fine}
use Rattle.soundness_forms.proofs.Throwing.{truth_grows}
use Rattle.soundness_joins.proofs.Counting.{foreach_fine, turn_grows}
use Rattle.soundness_joins.proofs.Loops.{repeat_fine, while_fine}
use Rattle.soundness_joins.proofs.Numbered.{number_grows}
use Rattle.soundness_joins.proofs.Operators.{and_fine, or_fine}

-- ---- a node's parts, one by one

abbrev pub Row : Type 0
Row = Standing × Part × Run Item Item

abbrev pub standings : List Row → List Standing
standings ts = map (λ t. t.0) ts

abbrev pub parts : List Row → List Part
parts ts = map (λ t. t.1) ts

abbrev pub runs : List Row → List (Run Item Item)
runs ts = map (λ t. t.2) ts

pub by_rows : (q : Scene) (w : World Item) (P : List Standing → List Part → List (Run Item Item) → Type 0)
    → ((ts : List Row) → PartsFine q w (standings ts) (parts ts) (runs ts) → P (standings ts) (parts ts) (runs ts))
    → (ss : List Standing) (ps : List Part) (rs : List (Run Item Item)) → PartsFine q w ss ps rs → P ss ps rs
by_rows q w P k [] [] [] h = k [] h
by_rows q w P k (s ∷ ss) (p ∷ ps) (r ∷ rs) h =
    by_rows q w (λ xs ys zs. P (s ∷ xs) (p ∷ ys) (r ∷ zs)) (λ ts e. k ((s, p, r) ∷ ts) (h.0, e)) ss ps rs h.1
by_rows q w P k [] [] (r ∷ rs) h = absurd h
by_rows q w P k [] (p ∷ ps) rs h = absurd h
by_rows q w P k (s ∷ ss) [] rs h = absurd h
by_rows q w P k (s ∷ ss) (p ∷ ps) [] h = absurd h

-- ---- walks count variables on, and leave what is in force

right_grows : (place : Place) (join : Con → Con → Con) (alone c : Con) (x : Indices-F Indices Reading) → Grows (right_form place join alone c x)
right_grows place join alone c (W.Truth d) = grows_give (I.Truth (join c d))
right_grows place join alone c W.Never = grows_give (I.Truth alone)
right_grows place join alone c W.Unit = grows_wrong place
right_grows place join alone c W.Bit = grows_wrong place
right_grows place join alone c (W.Bits t) = grows_wrong place
right_grows place join alone c (W.Integer t) = grows_wrong place
right_grows place join alone c W.String = grows_wrong place
right_grows place join alone c (W.List r) = grows_wrong place
right_grows place join alone c (W.Vector t r) = grows_wrong place
right_grows place join alone c (W.Tuple is) = grows_wrong place
right_grows place join alone c (W.Named u is rs) = grows_wrong place
right_grows place join alone c (W.Variable k) = grows_wrong place

module _ (around : Around) (scope : Scope) where
  condition_grows : (a : Part) → Grows (a.walk around scope Aims.Free) → (next : Con → Walk Indices) → ((c : Con) → Grows (next c))
      → Grows (condition_walk a around scope next)
  condition_grows a h next k = grows_bind (truth_walk a around scope) (then_truth next)
      (grows_bind (a.walk around scope Aims.Free) (truth_of a.place) h (λ i. truth_grows a.place i (out-Indices i))) (by next k)
    where
      by : (next : Con → Walk Indices) → ((c : Con) → Grows (next c)) → (o : Option Con) → Grows (then_truth next o)
      by next k None = grows_give I.Never
      by next k (Some c) = k c

  given_grows : (b : Part) → Grows (b.walk around scope Aims.Free) → (c : Con) → Grows (given_that c b around scope Aims.Free)
  given_grows b h c = grows_scoped (under c b around scope Aims.Free) (grows_bind (assume c) (λ t. b.walk around scope Aims.Free) (grows_assume c) (λ t. h))

  and_grows : (a b : Part) → Grows (a.walk around scope Aims.Free) → Grows (b.walk around scope Aims.Free) → Grows (and_walk a b around scope)
  and_grows a b h k = condition_grows a h (and_under b around scope) (λ c.
      grows_bind (given_that c b around scope Aims.Free) (λ j. right_form b.place both (C.Truth false) c (out-Indices j)) (given_grows b k c) (λ j.
      right_grows b.place both (C.Truth false) c (out-Indices j)))

  or_grows : (a b : Part) → Grows (a.walk around scope Aims.Free) → Grows (b.walk around scope Aims.Free) → Grows (or_walk a b around scope)
  or_grows a b h k = condition_grows a h (or_under b around scope) (λ c.
      grows_bind (given_that (C.Not c) b around scope Aims.Free) (λ j. right_form b.place either (C.Truth true) c (out-Indices j)) (given_grows b k (C.Not c))
      (λ j. right_grows b.place either (C.Truth true) c (out-Indices j)))

  turn_grows_on : (is_condition : Bool) (a : Part) → Grows (a.walk around scope Aims.Free) → Grows (turn_part is_condition a around scope)
  turn_grows_on true a h = grows_scoped (bind (truth_walk a around scope) (λ c. give tt))
      (grows_bind (truth_walk a around scope) (λ c. give tt)
      (grows_bind (a.walk around scope Aims.Free) (truth_of a.place) h (λ i. truth_grows a.place i (out-Indices i))) (λ c. grows_give tt))
  turn_grows_on false a h = grows_scoped (bind (a.walk around scope Aims.Free) (λ i. give tt))
      (grows_bind (a.walk around scope Aims.Free) (λ i. give tt) h (λ i. grows_give tt))

  measure_grows : (a : Part) → Grows (a.walk around scope (Aims.Due natural_type)) → Grows (measure_walk a around scope)
  measure_grows a h = grows_scoped (bind (measured a around scope) (λ o. give tt))
      (grows_bind (measured a around scope) (λ o. give tt)
      (grows_bind (a.walk around scope (Aims.Due natural_type)) (integer_number a.place) h (λ i. number_grows a.place (out-Indices i))) (λ o. grows_give tt))

  loop_grows : (is_while : Bool) (measure a b : Part) → Grows (measure.walk around scope (Aims.Due natural_type)) → Grows (a.walk around scope Aims.Free)
      → Grows (b.walk around scope Aims.Free) → Grows (loop_walk is_while measure a b around scope)
  loop_grows is_while measure a b h k l =
      grows_bind (measure_walk measure around scope) (λ i.
      bind (turn_part is_while a around scope) (λ j. bind (turn_part (not is_while) b around scope) (λ u. give I.Unit)))
      (measure_grows measure h) (λ i.
      grows_bind (turn_part is_while a around scope) (λ j. bind (turn_part (not is_while) b around scope) (λ u. give I.Unit))
      (turn_grows_on is_while a k) (λ j.
      grows_bind (turn_part (not is_while) b around scope) (λ u. give I.Unit) (turn_grows_on (not is_while) b l) (λ u. grows_give I.Unit)))

  before_grows : (t : Num) (o : Option (List Num)) → Grows (number_before t o)
  before_grows t None = grows_give None
  before_grows t (Some ns) = grows_give (Some (t ∷ ns))

  behind_grows : (rest : Walk (Option (List Num))) → Grows rest → (o : Option Num) → Grows (numbers_behind rest o)
  behind_grows rest h None = grows_give None
  behind_grows rest h (Some t) = grows_bind rest (number_before t) h (before_grows t)

  one_grows : (a : Part) → Grows (a.walk around scope Aims.Free) → Grows (number_walk a around scope)
  one_grows a h = grows_bind (a.walk around scope Aims.Free) (integer_number a.place) h (λ i. number_grows a.place (out-Indices i))

  more_grows : (a : Part) (ps : List Part) → Grows (a.walk around scope Aims.Free) → Grows (numbers_walk ps around scope)
      → Grows (numbers_walk (a ∷ ps) around scope)
  more_grows a ps h k = grows_bind (number_walk a around scope) (numbers_behind (numbers_walk ps around scope)) (one_grows a h)
      (behind_grows (numbers_walk ps around scope) k)

  turns_grow : (place : Place) (name : List ℕ) (way : Counting) (body : Part) → ((s : Scope) → Grows (body.walk around s Aims.Free)) → (o : Option Bounds)
      → Grows (turns_walk place name way body around scope o)
  turns_grow place name way body h None = grows_give I.Never
  turns_grow place name way body h (Some b) =
      grows_bind (step_owed place b.by) (λ t. bind (turn_walk name way b.from b.to body around scope) (λ i. give I.Unit)) (grows_owe place _) (λ t.
      grows_bind (turn_walk name way b.from b.to body around scope) (λ i. give I.Unit)
      (grows_scoped (bind (turn_begun name way b.from b.to) (λ found. body.walk around (found ++ scope) Aims.Free))
      (grows_bind (turn_begun name way b.from b.to) (λ found. body.walk around (found ++ scope) Aims.Free) (turn_grows name way b.from b.to)
      (λ found. h (found ++ scope)))) (λ i. grows_give I.Unit))

  foreach_grows : (place : Place) (name : List ℕ) (way : Counting) (a b c body : Part) → Grows (a.walk around scope Aims.Free)
      → Grows (b.walk around scope Aims.Free) → Grows (c.walk around scope Aims.Free) → ((s : Scope) → Grows (body.walk around s Aims.Free))
      → Grows (foreach_walk place name way a b c body around scope)
  foreach_grows place name way a b c body ha hb hc h =
      grows_bind (numbers_walk (a ∷ b ∷ c ∷ []) around scope) (λ numbers. turns_walk place name way body around scope (bounds_of numbers))
      (more_grows a (b ∷ c ∷ []) ha (more_grows b (c ∷ []) hb (more_grows c [] hc (grows_give (Some [])))))
      (λ numbers. turns_grow place name way body h (bounds_of numbers))

-- ---- kinds

module _ (fit : FitsSuffice) (q : Scene) (w : World Item) where
  abbrev RowsFine : Kind → Place → ℕ → List Standing → List Part → List (Run Item Item) → Type 0
  RowsFine kind place k ss ps rs = kind_right q.set.around kind ss ≡ true
      → Fine q w (is_cast kind) (is_guard kind) (node q w place k kind ps) (kind_meaning (z q w) w place k kind rs)

  value_row : (t : Row) → is_value t.0 ≡ true → (t.0.right ≡ true → Fine q w t.0.cast t.0.guard t.1 t.2) → Fine q w false false t.1 t.2
  value_row t h k = value_fine q w t.0 t.1 t.2 h k

  abbrev first_right : (s : Standing) (ss : List Standing) → list_all is_value (s ∷ ss) ≡ true → (is_value s ≡ true) × (list_all is_value ss ≡ true)
  first_right s ss h = and_parts (is_value s) (list_all is_value ss) h

  and_rows : (place : Place) (k : ℕ) (ts : List Row) → PartsFine q w (standings ts) (parts ts) (runs ts)
      → RowsFine K.And place k (standings ts) (parts ts) (runs ts)
  and_rows place k (a ∷ b ∷ []) h right =
      let one = first_right a.0 (b.0 ∷ []) right in
      let two = first_right b.0 [] one.1 in
      let ha = value_row a one.0 h.0 in
      let hb = value_row b two.0 h.1.0 in
      fine_by q w false false (node q w place k K.And (a.1 ∷ b.1 ∷ [])) _ (λ around scope. refl)
      (λ names falls g n f facts scope aim there st.
      and_fine (at q w names falls) w scope a.1 b.1 a.2 b.2 (fine_at q w names falls ha) (fine_at q w names falls hb) fit place k aim there st)
      (λ around scope aim. leaving_grows around place k aim (and_walk a.1 b.1 around scope)
      (and_grows around scope a.1 b.1 (ha.grows around scope Aims.Free) (hb.grows around scope Aims.Free)))
  and_rows place k [] h right = wrong_fine q w false false false place k (node q w place k K.And []) _ (λ around scope. refl) (λ around scope aim. refl)
  and_rows place k (a ∷ []) h right =
      wrong_fine q w false false false place k (node q w place k K.And (a.1 ∷ [])) _ (λ around scope. refl) (λ around scope aim. refl)
  and_rows place k (a ∷ b ∷ c ∷ ts) h right =
      wrong_fine q w false false false place k (node q w place k K.And (parts (a ∷ b ∷ c ∷ ts))) _ (λ around scope. refl) (λ around scope aim. refl)

  pub and_kind : KindFine q w K.And
  and_kind place k ss ps rs h = by_rows q w (RowsFine K.And place k) (and_rows place k) ss ps rs h

  or_rows : (place : Place) (k : ℕ) (ts : List Row) → PartsFine q w (standings ts) (parts ts) (runs ts)
      → RowsFine K.Or place k (standings ts) (parts ts) (runs ts)
  or_rows place k (a ∷ b ∷ []) h right =
      let one = first_right a.0 (b.0 ∷ []) right in
      let two = first_right b.0 [] one.1 in
      let ha = value_row a one.0 h.0 in
      let hb = value_row b two.0 h.1.0 in
      fine_by q w false false (node q w place k K.Or (a.1 ∷ b.1 ∷ [])) _ (λ around scope. refl)
      (λ names falls g n f facts scope aim there st.
      or_fine (at q w names falls) w scope a.1 b.1 a.2 b.2 (fine_at q w names falls ha) (fine_at q w names falls hb) fit place k aim there st)
      (λ around scope aim. leaving_grows around place k aim (or_walk a.1 b.1 around scope)
      (or_grows around scope a.1 b.1 (ha.grows around scope Aims.Free) (hb.grows around scope Aims.Free)))
  or_rows place k [] h right = wrong_fine q w false false false place k (node q w place k K.Or []) _ (λ around scope. refl) (λ around scope aim. refl)
  or_rows place k (a ∷ []) h right =
      wrong_fine q w false false false place k (node q w place k K.Or (a.1 ∷ [])) _ (λ around scope. refl) (λ around scope aim. refl)
  or_rows place k (a ∷ b ∷ c ∷ ts) h right =
      wrong_fine q w false false false place k (node q w place k K.Or (parts (a ∷ b ∷ c ∷ ts))) _ (λ around scope. refl) (λ around scope aim. refl)

  pub or_kind : KindFine q w K.Or
  or_kind place k ss ps rs h = by_rows q w (RowsFine K.Or place k) (or_rows place k) ss ps rs h

  -- ---- loops

  foreach_rows : (name : List ℕ) (way : Counting) (place : Place) (k : ℕ) (ts : List Row) → PartsFine q w (standings ts) (parts ts) (runs ts)
      → RowsFine (K.Foreach name way) place k (standings ts) (parts ts) (runs ts)
  foreach_rows name way place k (a ∷ b ∷ c ∷ d ∷ []) h right =
      let one = first_right a.0 (b.0 ∷ c.0 ∷ d.0 ∷ []) right in
      let two = first_right b.0 (c.0 ∷ d.0 ∷ []) one.1 in
      let three = first_right c.0 (d.0 ∷ []) two.1 in
      let four = first_right d.0 [] three.1 in
      let ha = value_row a one.0 h.0 in
      let hb = value_row b two.0 h.1.0 in
      let hc = value_row c three.0 h.1.1.0 in
      let hd = value_row d four.0 h.1.1.1.0 in
      fine_by q w false false (node q w place k (K.Foreach name way) (a.1 ∷ b.1 ∷ c.1 ∷ d.1 ∷ [])) _ (λ around scope. refl)
      (λ names falls g n f facts scope aim there st.
      foreach_fine (at q w names falls) w scope place name way a.1 b.1 c.1 d.1 a.2 b.2 c.2 d.2 (fine_at q w names falls ha) (fine_at q w names falls hb)
      (fine_at q w names falls hc) (fine_at q w names falls hd) fit k aim there st)
      (λ around scope aim. leaving_grows around place k aim (foreach_walk place name way a.1 b.1 c.1 d.1 around scope)
      (foreach_grows around scope place name way a.1 b.1 c.1 d.1 (ha.grows around scope Aims.Free) (hb.grows around scope Aims.Free)
      (hc.grows around scope Aims.Free) (λ s. hd.grows around s Aims.Free)))
  foreach_rows name way place k [] h right =
      wrong_fine q w false false false place k (node q w place k (K.Foreach name way) []) _ (λ around scope. refl) (λ around scope aim. refl)
  foreach_rows name way place k (a ∷ []) h right =
      wrong_fine q w false false false place k (node q w place k (K.Foreach name way) (parts (a ∷ []))) _ (λ around scope. refl) (λ around scope aim. refl)
  foreach_rows name way place k (a ∷ b ∷ []) h right =
      wrong_fine q w false false false place k (node q w place k (K.Foreach name way) (parts (a ∷ b ∷ []))) _ (λ around scope. refl) (λ around scope aim. refl)
  foreach_rows name way place k (a ∷ b ∷ c ∷ []) h right =
      wrong_fine q w false false false place k (node q w place k (K.Foreach name way) (parts (a ∷ b ∷ c ∷ []))) _ (λ around scope. refl)
      (λ around scope aim. refl)
  foreach_rows name way place k (a ∷ b ∷ c ∷ d ∷ e ∷ ts) h right =
      wrong_fine q w false false false place k (node q w place k (K.Foreach name way) (parts (a ∷ b ∷ c ∷ d ∷ e ∷ ts))) _ (λ around scope. refl)
      (λ around scope aim. refl)

  pub foreach_kind : (name : List ℕ) (way : Counting) → KindFine q w (K.Foreach name way)
  foreach_kind name way place k ss ps rs h = by_rows q w (RowsFine (K.Foreach name way) place k) (foreach_rows name way place k) ss ps rs h

  while_rows : (place : Place) (k : ℕ) (ts : List Row) → PartsFine q w (standings ts) (parts ts) (runs ts)
      → RowsFine K.While place k (standings ts) (parts ts) (runs ts)
  while_rows place k (a ∷ b ∷ c ∷ []) h right =
      let one = first_right a.0 (b.0 ∷ c.0 ∷ []) right in
      let two = first_right b.0 (c.0 ∷ []) one.1 in
      let three = first_right c.0 [] two.1 in
      let ha = value_row a one.0 h.0 in
      let hb = value_row b two.0 h.1.0 in
      let hc = value_row c three.0 h.1.1.0 in
      fine_by q w false false (node q w place k K.While (a.1 ∷ b.1 ∷ c.1 ∷ [])) _ (λ around scope. refl)
      (λ names falls g n f facts scope aim there st.
      while_fine (at q w names falls) w scope place a.1 b.1 c.1 a.2 b.2 c.2 (fine_at q w names falls ha) (fine_at q w names falls hb)
      (fine_at q w names falls hc) n f facts there fit k aim st)
      (λ around scope aim. leaving_grows around place k aim (loop_walk true a.1 b.1 c.1 around scope)
      (loop_grows around scope true a.1 b.1 c.1 (ha.grows around scope (Aims.Due natural_type)) (hb.grows around scope Aims.Free)
      (hc.grows around scope Aims.Free)))
  while_rows place k [] h right =
      wrong_fine q w false false false place k (node q w place k K.While []) _ (λ around scope. refl) (λ around scope aim. refl)
  while_rows place k (a ∷ []) h right =
      wrong_fine q w false false false place k (node q w place k K.While (parts (a ∷ []))) _ (λ around scope. refl) (λ around scope aim. refl)
  while_rows place k (a ∷ b ∷ []) h right =
      wrong_fine q w false false false place k (node q w place k K.While (parts (a ∷ b ∷ []))) _ (λ around scope. refl) (λ around scope aim. refl)
  while_rows place k (a ∷ b ∷ c ∷ d ∷ ts) h right =
      wrong_fine q w false false false place k (node q w place k K.While (parts (a ∷ b ∷ c ∷ d ∷ ts))) _ (λ around scope. refl) (λ around scope aim. refl)

  pub while_kind : KindFine q w K.While
  while_kind place k ss ps rs h = by_rows q w (RowsFine K.While place k) (while_rows place k) ss ps rs h

  repeat_rows : (place : Place) (k : ℕ) (ts : List Row) → PartsFine q w (standings ts) (parts ts) (runs ts)
      → RowsFine K.Repeat place k (standings ts) (parts ts) (runs ts)
  repeat_rows place k (a ∷ b ∷ c ∷ []) h right =
      let one = first_right a.0 (b.0 ∷ c.0 ∷ []) right in
      let two = first_right b.0 (c.0 ∷ []) one.1 in
      let three = first_right c.0 [] two.1 in
      let ha = value_row a one.0 h.0 in
      let hb = value_row b two.0 h.1.0 in
      let hc = value_row c three.0 h.1.1.0 in
      fine_by q w false false (node q w place k K.Repeat (a.1 ∷ b.1 ∷ c.1 ∷ [])) _ (λ around scope. refl)
      (λ names falls g n f facts scope aim there st.
      repeat_fine (at q w names falls) w scope place a.1 b.1 c.1 a.2 b.2 c.2 (fine_at q w names falls ha) (fine_at q w names falls hb)
      (fine_at q w names falls hc) n f facts there fit k aim st)
      (λ around scope aim. leaving_grows around place k aim (loop_walk false a.1 b.1 c.1 around scope)
      (loop_grows around scope false a.1 b.1 c.1 (ha.grows around scope (Aims.Due natural_type)) (hb.grows around scope Aims.Free)
      (hc.grows around scope Aims.Free)))
  repeat_rows place k [] h right =
      wrong_fine q w false false false place k (node q w place k K.Repeat []) _ (λ around scope. refl) (λ around scope aim. refl)
  repeat_rows place k (a ∷ []) h right =
      wrong_fine q w false false false place k (node q w place k K.Repeat (parts (a ∷ []))) _ (λ around scope. refl) (λ around scope aim. refl)
  repeat_rows place k (a ∷ b ∷ []) h right =
      wrong_fine q w false false false place k (node q w place k K.Repeat (parts (a ∷ b ∷ []))) _ (λ around scope. refl) (λ around scope aim. refl)
  repeat_rows place k (a ∷ b ∷ c ∷ d ∷ ts) h right =
      wrong_fine q w false false false place k (node q w place k K.Repeat (parts (a ∷ b ∷ c ∷ d ∷ ts))) _ (λ around scope. refl) (λ around scope aim. refl)

  pub repeat_kind : KindFine q w K.Repeat
  repeat_kind place k ss ps rs h = by_rows q w (RowsFine K.Repeat place k) (repeat_rows place k) ss ps rs h
