-- Nodes of one kind.
use Rattle.std.proofs.Common.{◌≡◌, ℕ, Bool, true, false, ◌&&◌, not, List, [], ◌∷◌, Option, Some, None, refl, sym, subst}
use Rattle.std.proofs.lemmas.Bool.{and_parts}
use Rattle.sail_base.specs.declared.place.Place.{Place}
use Rattle.sail_core.specs.Making.{World}
use Rattle.sail_core.specs.Run.{Run, ◌then◌}
use Rattle.sail_core.specs.declared.patterns.Literal.{Literal}
use Rattle.sail_core.specs.declared.tree.Kind.TheVariants as K
use Rattle.sail_core.specs.declared.written.Written.{Written}
use Rattle.value_indices.specs.declared.indices.Indices.{Indices}
use Rattle.value_indices.specs.declared.indices.Reading.{Reading}
use Rattle.value_indices.specs.declared.notes.Fact.{Fact}
use Rattle.value_indices.specs.Steps.{Walk, bind, give, owe}
use Rattle.pattern_leaves.specs.Settings.{Around, Scope, exponents_owed, held_in, number_owed, written_in}
use Rattle.pattern_leaves.specs.declared.names.Held.{Held}
use Rattle.pattern_leaves.specs.declared.names.Held.TheVariants as H
use Rattle.sail_core.specs.declared.written.WrittenNumber.{WrittenNumber}
use Rattle.call_arguments.specs.Aims.{aimed}
use Rattle.call_arguments.specs.declared.aims.Aim.{Aim}
use Rattle.call_arguments.specs.declared.aims.Aim.TheVariants as Aims
use Rattle.call_notes.specs.Calls.{part_owed}
use Rattle.call_notes.specs.Ends.{settled, wrong_value}
use Rattle.call_notes.specs.Noted.{node_ended, node_given, node_made}
use Rattle.expression_forms.specs.Names.{literal_indices, local_walk, variable_walk}
use Rattle.expression_forms.specs.Nodes.{cast_ended, made_for, owed_type}
use Rattle.expression_steps.specs.Expressions.{cast_owed, node_end, written_ended}
use Rattle.expression_steps.specs.Parts.{Part}
use Rattle.expression_steps.specs.Statements.{plain_state}
use Rattle.checked_meaning.specs.Items.{Item}
use Rattle.value_laws.specs.Known.{Point}
use Rattle.soundness_steps.specs.Works.{Kept, Scene, here}
use Rattle.soundness_steps.specs.Steps.{Beside, Grows}
use Rattle.soundness_steps.specs.Values.{AimSteady, Comes, Claims}
use Rattle.soundness_steps.proofs.Steps.{given_back, walks_on}
use Rattle.soundness_forms.specs.Forms.{Fine, FitsSuffice, at}
use Rattle.soundness_forms.specs.EachKind.{KindFine, node}
use Rattle.soundness_forms.specs.Standing.{Standing, is_value, literal_right}
use Rattle.soundness_forms.specs.Worlds.{Surrounds}
use Rattle.soundness_forms.proofs.Basics.{then_walks, wrong_walks}
use Rattle.soundness_forms.proofs.Casts.{cast_fine, written_fine}
use Rattle.soundness_forms.proofs.Constants.{constant_fine}
use Rattle.soundness_forms.proofs.Growth.{grows_bind, grows_end, grows_ended, grows_fits, grows_give}
use Rattle.soundness_forms.proofs.Growth.{grows_given, grows_made, grows_named, grows_owe, grows_settled, grows_wrong}
use Rattle.soundness_forms.proofs.Leaves.{local_fine, variable_fine, wrong_node}

-- what is fine is fine in the scene of a moment
pub fine_at : (q : Scene) (w : World Item) (names : List Kept) (falls : Bool) {cast guard : Bool} {p : Part} {r : Run Item Item} → Fine q w cast guard p r
    → Fine (at q w names falls) w cast guard p r
fine_at q w names falls h = record { walks = h.walks; states = h.states; grows = h.grows; state_grows = h.state_grows }

-- a node that claims nothing as a statement
pub fine_by : (q : Scene) (w : World Item) (cast guard : Bool) (p : Part) (r : Run Item Item)
    → ((around : Around) (scope : Scope) → p.state around scope ≡ plain_state (p.walk around scope Aims.Free))
    → ((names : List Kept) (falls : Bool) → (guard ≡ true → falls ≡ true) → (n : ℕ) (f : Point n) (facts : List Fact) (scope : Scope) (aim : Aim)
    → Surrounds (at q w names falls) w f scope → AimSteady q.set q.work f aim
    → Beside (at q w names falls) n f facts (p.walk (here q) scope aim) r
    (λ m g i x. Comes q.set q.work g cast p.is_nested p.never_ends aim i x))
    → ((around : Around) (scope : Scope) (aim : Aim) → Grows (p.walk around scope aim)) → Fine q w cast guard p r
fine_by q w cast guard p r plain walks grows = record {
  walks = walks;
  states = λ names falls g n f facts scope there.
      subst (λ s. Beside (at q w names falls) n f facts s r (λ m d c x. Claims q.set q.work d c × (p.never_ends ≡ false))) (sym (plain (here q) scope))
      (then_walks (λ i. give None) (walks names falls g n f facts scope Aims.Free there tt) (λ m d fs i x l c. given_back None (tt, c.ends)));
  grows = grows;
  state_grows = λ around scope. subst (λ s. Grows s) (sym (plain around scope)) (grows_bind (p.walk around scope Aims.Free) (λ i. give None)
      (grows around scope Aims.Free) (λ i. grows_give None));
}

-- ---- of the parts of a node

value_parts : (s : Standing) → is_value s ≡ true → (s.right ≡ true) × (s.cast ≡ false) × (s.guard ≡ false)
value_parts s h =
    let both = and_parts (s.right && not s.cast) (not s.guard) h in
    let first = and_parts s.right (not s.cast) both.0 in
    (first.0, off s.cast first.1, off s.guard both.1)
  where
    off : (b : Bool) → not b ≡ true → b ≡ false
    off true h = absurd (cc)
    off false h = refl

module _ (q : Scene) (w : World Item) where
  -- a part that a value is made of
  pub value_fine : (s : Standing) (p : Part) (r : Run Item Item) → is_value s ≡ true → (s.right ≡ true → Fine q w s.cast s.guard p r) → Fine q w false false p r
  value_fine s p r h k =
      let t = value_parts s h in
      subst (λ b. Fine q w false b p r) t.2 (subst (λ b. Fine q w b s.guard p r) t.1 (k t.0))

-- ---- leaves

pub settled_grows : (around : Around) (place : Place) (k : ℕ) (aim : Aim) (walk : Walk Indices) → Grows walk
    → Grows (bind (bind walk (settled around place aim)) (node_given k))
settled_grows around place k aim walk h = grows_bind (bind walk (settled around place aim)) (node_given k)
    (grows_bind walk (settled around place aim) h (grows_settled around place aim)) (grows_given k)

local_grows : (place : Place) (k : ℕ) (o : Option Held) → Grows (local_walk place k o)
local_grows place k None = grows_wrong place
local_grows place k (Some (H.Value i)) = grows_ended k (i ∷ []) i
local_grows place k (Some (H.Var r)) = grows_wrong place

variable_grows : (place : Place) (k : ℕ) (name : List ℕ) (o : Option Held) → Grows (variable_walk place k name o)
variable_grows place k name None = grows_wrong place
variable_grows place k name (Some (H.Value i)) = grows_wrong place
variable_grows place k name (Some (H.Var r)) = grows_named place k name r

-- ---- another number of parts is wrong

module _ (q : Scene) (w : World Item) where
  wrong_grows : (around : Around) (place : Place) (k : ℕ) (made : Bool) (aim : Aim)
      → Grows (bind (bind (wrong_value place) (settled around place aim)) (node_end k made))
  wrong_grows around place k made aim = grows_bind (bind (wrong_value place) (settled around place aim)) (node_end k made)
      (grows_bind (wrong_value place) (settled around place aim) (grows_wrong place) (grows_settled around place aim)) (grows_end k made)

  pub wrong_fine : (cast guard made : Bool) (place : Place) (k : ℕ) (p : Part) (r : Run Item Item)
      → ((around : Around) (scope : Scope) → p.state around scope ≡ plain_state (p.walk around scope Aims.Free))
      → ((around : Around) (scope : Scope) (aim : Aim)
      → bind (bind (wrong_value place) (settled around place aim)) (node_end k made) ≡ p.walk around scope aim) → Fine q w cast guard p r
  wrong_fine cast guard made place k p r plain is = fine_by q w cast guard p r plain
      (λ names falls g n f facts scope aim there st.
      subst (λ v. Beside (at q w names falls) n f facts v r (λ m d i x. Comes q.set q.work d cast p.is_nested p.never_ends aim i x)) (is (here q) scope aim)
      (wrong_node (node_end k made) r (walks_on (settled (here q) place aim) (wrong_walks place) (λ m d fs a l e. absurd e))))
      (λ around scope aim. subst (λ v. Grows v) (is around scope aim) (wrong_grows around place k made aim))

  -- of a kind that takes a wanted type further in
  pub wrong_inward : (cast guard made : Bool) (place : Place) (k : ℕ) (p : Part) (r : Run Item Item)
      → ((around : Around) (scope : Scope) → p.state around scope ≡ plain_state (p.walk around scope Aims.Free))
      → ((around : Around) (scope : Scope) (aim : Aim) → bind (wrong_value place) (node_end k made) ≡ p.walk around scope aim) → Fine q w cast guard p r
  wrong_inward cast guard made place k p r plain is = fine_by q w cast guard p r plain
      (λ names falls g n f facts scope aim there st.
      subst (λ v. Beside (at q w names falls) n f facts v r (λ m d i x. Comes q.set q.work d cast p.is_nested p.never_ends aim i x)) (is (here q) scope aim)
      (wrong_node (node_end k made) r (wrong_walks place)))
      (λ around scope aim. subst (λ v. Grows v) (is around scope aim) (grows_bind (wrong_value place) (node_end k made) (grows_wrong place) (grows_end k made)))

-- ---- what is owed of a part

pub part_grows : (around : Around) (nested : Bool) (place : Place) (i : Indices) (r : Reading) → Grows (part_owed around nested place i r)
part_grows around true place i r = grows_give tt
part_grows around false place i r = grows_fits place around.types i r

pub exponents_grow : (around : Around) (ns : List WrittenNumber) → Grows (exponents_owed around ns)
exponents_grow around [] = grows_give tt
exponents_grow around (t ∷ ns) = grows_bind (owe t.place (number_owed around t t.role)) (λ u. exponents_owed around ns)
    (grows_owe t.place (number_owed around t t.role)) (λ u. exponents_grow around ns)

written_grows : (around : Around) (place : Place) (k : ℕ) (t : Written) (nested : Bool) (i : Indices) → Grows (written_ended around place k t nested i)
written_grows around place k t nested i = grows_bind (cast_owed around place t nested i) (λ u. node_ended k (i ∷ []) i)
    (grows_bind (exponents_owed around t.numbers) (λ u. part_owed around nested place i (written_in around t)) (exponents_grow around t.numbers) (λ u.
    part_grows around nested place i (written_in around t))) (λ u. grows_ended k (i ∷ []) i)

-- ---- kinds without parts

module _ (fit : FitsSuffice) (q : Scene) (w : World Item) where
  pub local_kind : (name : List ℕ) → KindFine q w (K.Local name)
  local_kind name place k [] [] [] h right = fine_by q w false false (node q w place k (K.Local name) []) _ (λ around scope. refl)
      (λ names falls g n f facts scope aim there st. local_fine fit (at q w names falls) w f facts scope place k aim there st name)
      (λ around scope aim. settled_grows around place k aim (local_walk place k (held_in name scope)) (local_grows place k (held_in name scope)))
  local_kind name place k (s ∷ ss) (p ∷ ps) (r ∷ rs) h right =
      wrong_fine q w false false true place k (node q w place k (K.Local name) (p ∷ ps)) _ (λ around scope. refl) (λ around scope aim. refl)
  local_kind name place k [] [] (r ∷ rs) h right = absurd h
  local_kind name place k [] (p ∷ ps) rs h right = absurd h
  local_kind name place k (s ∷ ss) [] rs h right = absurd h
  local_kind name place k (s ∷ ss) (p ∷ ps) [] h right = absurd h

  pub variable_kind : (name : List ℕ) → KindFine q w (K.Variable name)
  variable_kind name place k [] [] [] h right = fine_by q w false false (node q w place k (K.Variable name) []) _ (λ around scope. refl)
      (λ names falls g n f facts scope aim there st. variable_fine fit (at q w names falls) w f facts scope place k aim there st name)
      (λ around scope aim. settled_grows around place k aim (variable_walk place k name (held_in name scope)) (variable_grows place k name
      (held_in name scope)))
  variable_kind name place k (s ∷ ss) (p ∷ ps) (r ∷ rs) h right =
      wrong_fine q w false false true place k (node q w place k (K.Variable name) (p ∷ ps)) _ (λ around scope. refl) (λ around scope aim. refl)
  variable_kind name place k [] [] (r ∷ rs) h right = absurd h
  variable_kind name place k [] (p ∷ ps) rs h right = absurd h
  variable_kind name place k (s ∷ ss) [] rs h right = absurd h
  variable_kind name place k (s ∷ ss) (p ∷ ps) [] h right = absurd h

  pub constant_kind : (l : Literal) → KindFine q w (K.Constant l)
  constant_kind l place k [] [] [] h right = fine_by q w false false (node q w place k (K.Constant l) []) _ (λ around scope. refl)
      (λ names falls g n f facts scope aim there st. constant_fine fit (at q w names falls) w f facts scope place k aim st l
      (and_parts (literal_right q.set.around.types l) true right).0)
      (λ around scope aim. grows_bind (bind (give (literal_indices l)) (settled around place aim)) (node_end k false)
      (grows_bind (give (literal_indices l)) (settled around place aim) (grows_give (literal_indices l)) (grows_settled around place aim)) (grows_end k false))
  constant_kind l place k (s ∷ ss) (p ∷ ps) (r ∷ rs) h right =
      wrong_fine q w false false false place k (node q w place k (K.Constant l) (p ∷ ps)) _ (λ around scope. refl) (λ around scope aim. refl)
  constant_kind l place k [] [] (r ∷ rs) h right = absurd h
  constant_kind l place k [] (p ∷ ps) rs h right = absurd h
  constant_kind l place k (s ∷ ss) [] rs h right = absurd h
  constant_kind l place k (s ∷ ss) (p ∷ ps) [] h right = absurd h

  -- ---- casts

  pub written_kind : (t : Written) → KindFine q w (K.Cast (Some t))
  written_kind t place k (s ∷ []) (p ∷ []) (r ∷ []) h right =
      let f = value_fine q w s p r (and_parts (is_value s) true right).0 h.0 in
      fine_by q w false false (node q w place k (K.Cast (Some t)) (p ∷ [])) _ (λ around scope. refl)
      (λ names falls g n f0 facts scope aim there st. written_fine fit (at q w names falls) w f0 facts scope place k there t aim st p r
      (fine_at q w names falls f))
      (λ around scope aim. settled_grows around place k aim (bind (p.walk around scope (aimed Aims.Given (written_in around t)))
      (written_ended around place k t p.is_nested))
      (grows_bind (p.walk around scope (aimed Aims.Given (written_in around t))) (written_ended around place k t p.is_nested)
      (f.grows around scope (aimed Aims.Given (written_in around t))) (written_grows around place k t p.is_nested)))
  written_kind t place k [] [] [] h right =
      wrong_fine q w false false true place k (node q w place k (K.Cast (Some t)) []) _ (λ around scope. refl) (λ around scope aim. refl)
  written_kind t place k (s ∷ s2 ∷ ss) (p ∷ p2 ∷ ps) (r ∷ r2 ∷ rs) h right =
      wrong_fine q w false false true place k (node q w place k (K.Cast (Some t)) (p ∷ p2 ∷ ps)) _ (λ around scope. refl) (λ around scope aim. refl)
  written_kind t place k [] [] (r ∷ rs) h right = absurd h
  written_kind t place k [] (p ∷ ps) rs h right = absurd h
  written_kind t place k (s ∷ ss) [] rs h right = absurd h
  written_kind t place k (s ∷ ss) (p ∷ ps) [] h right = absurd h
  written_kind t place k (s ∷ []) (p ∷ []) (r ∷ r2 ∷ rs) h right = absurd h.1
  written_kind t place k (s ∷ []) (p ∷ p2 ∷ ps) (r ∷ rs) h right = absurd h.1
  written_kind t place k (s ∷ s2 ∷ ss) (p ∷ []) (r ∷ rs) h right = absurd h.1
  written_kind t place k (s ∷ s2 ∷ ss) (p ∷ p2 ∷ ps) (r ∷ []) h right = absurd h.1

  pub cast_kind : KindFine q w (K.Cast None)
  cast_kind place k (s ∷ []) (p ∷ []) (r ∷ []) h right =
      let f = value_fine q w s p r right h.0 in
      fine_by q w true false (node q w place k (K.Cast None) (p ∷ [])) _ (λ around scope. refl)
      (λ names falls g n f0 facts scope aim there st. cast_fine fit (at q w names falls) w f0 facts scope place k there aim st p r (fine_at q w names falls f))
      (λ around scope aim. grows_bind (bind (p.walk around scope aim) (cast_ended k aim)) (node_given k)
      (grows_bind (p.walk around scope aim) (cast_ended k aim) (f.grows around scope aim) (λ i.
      grows_bind (node_made k (i ∷ []) (made_for (owed_type aim) i)) (λ u. give i) (grows_made k (i ∷ []) (made_for (owed_type aim) i)) (λ u. grows_give i)))
      (grows_given k))
  cast_kind place k [] [] [] h right =
      wrong_inward q w true false true place k (node q w place k (K.Cast None) []) _ (λ around scope. refl) (λ around scope aim. refl)
  cast_kind place k (s ∷ s2 ∷ ss) (p ∷ p2 ∷ ps) (r ∷ r2 ∷ rs) h right =
      wrong_inward q w true false true place k (node q w place k (K.Cast None) (p ∷ p2 ∷ ps)) _ (λ around scope. refl) (λ around scope aim. refl)
  cast_kind place k [] [] (r ∷ rs) h right = absurd h
  cast_kind place k [] (p ∷ ps) rs h right = absurd h
  cast_kind place k (s ∷ ss) [] rs h right = absurd h
  cast_kind place k (s ∷ ss) (p ∷ ps) [] h right = absurd h
  cast_kind place k (s ∷ []) (p ∷ []) (r ∷ r2 ∷ rs) h right = absurd h.1
  cast_kind place k (s ∷ []) (p ∷ p2 ∷ ps) (r ∷ rs) h right = absurd h.1
  cast_kind place k (s ∷ s2 ∷ ss) (p ∷ []) (r ∷ rs) h right = absurd h.1
  cast_kind place k (s ∷ s2 ∷ ss) (p ∷ p2 ∷ ps) (r ∷ []) h right = absurd h.1
