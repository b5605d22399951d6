-- What names mean in the worlds over some calls and some ways through mappings, and that builtins stand by their operators.
use Rattle.std.proofs.Common.{◌≡◌, ℕ, suc, ◌*◌, List, [], ◌∷◌, ◌++◌, ap, sym, ◌∙◌, refl, subst, true, false, Bool, Option, Some, None}
use Rattle.std.proofs.Common.{◌&&◌, if◌then◌else◌}
use Rattle.sail_base.specs.declared.operators.Operator.{Operator}
use Rattle.sail_base.specs.declared.operators.Prefix.{Prefix}
use Rattle.sail_types.specs.Shapes.{fits, shape, shares}
use Rattle.sail_types.specs.declared.shapes.Shape.{Shape}
use Rattle.sail_types.specs.declared.table.Types.{Types}
use Rattle.sail_types.specs.declared.types.Typ.{Typ}
use Rattle.sail_types.specs.declared.values.Value.{Value}
use Rattle.sail_kinds.specs.Scopes.{Within}
use Rattle.sail_core.specs.declared.tree.Callee.TheVariants as C
use Rattle.sail_core.specs.Numbers.{Givens}
use Rattle.sail_core.specs.Run.{Now}
use Rattle.sail_core.specs.Making as Making
use Rattle.sail_core.specs.Program as Core
use Rattle.shape_joins.proofs.Order.{no, two}
use Rattle.sail_meaning.specs.Calls as Source
use Rattle.sail_meaning.specs.Choice.{chosen_direction, first_fitting, operator_builtins, prefix_builtins}
use Rattle.sail_meaning.specs.Named.{constructor_named}
use Rattle.sail_meaning.specs.Text.{Callee, Called, Direction, alone, direction, mapping}
use Rattle.sail_meaning.specs.World as World
use Rattle.shape_rules.specs.declared.callees.Candidate.{Candidate}
use Rattle.shape_rules.specs.declared.callees.Doing.{Doing}
use Rattle.shape_rules.specs.declared.callees.Doing.TheVariants as D
use Rattle.shape_rules.specs.declared.callees.Mapping.{Mapping}
use Rattle.shape_rules.specs.declared.callees.Meant.{Meant}
use Rattle.shape_rules.specs.declared.callees.Meant.TheVariants as M
use Rattle.shape_rules.specs.Calls.{operator_members, prefix_members}
use Rattle.shape_rules.specs.Scopes.{Setting, answering, thrown_shape}
use Rattle.shape_meanings.specs.Keeping.{RegistersFit, AgreeApart}
use Rattle.shape_meanings.specs.Worlds.{Apply, Distinct, HeadAs, IsDirection, IsMapping, KeepsCall, KeepsWay, NameCalled, StandForEach, ValueAs}
use Rattle.shape_meanings.specs.Worlds.{direction_candidate}
use Rattle.shape_meanings.proofs.Sharing.{share}
use Rattle.row_meanings.specs.Rows.{AppliesBuiltins}
use Rattle.row_meanings.proofs.Standing.{operators_stand, prefixes_stand, rows_stand, texts_apply}
use Rattle.model_meanings.specs.Callees.{DirectionStands, DoesAs, Model, core_world, source_world, standing_in}
use Rattle.model_meanings.specs.Models.{MappingStands, ModelIs, NameStands, constructor_of}
use Rattle.model_meanings.proofs.Callees.{DirectionsKeep, FunctionsKeep, Measures, asked, candidate_stands, candidates_stand}

-- ---- the direction that a value chooses

-- of a mapping whose sides share no value each side's value chooses its direction
ahead_chosen : (types : Types) (f b : Direction) (v : Value) → fits types v (shape f.takes) ≡ true
    → Source.direction_chosen types (Some (mapping f b)) v ≡ Some f
ahead_chosen types f b v h =
    ap (λ x. chosen_direction (if x then Some (direction f) else first_fitting types (direction b ∷ []) (v ∷ [])))
    (two (fits types v (shape f.takes)) true h refl)

back_chosen : (types : Types) (f b : Direction) (v : Value) → shares (shape f.takes) (shape b.takes) ≡ false → fits types v (shape b.takes) ≡ true
    → Source.direction_chosen types (Some (mapping f b)) v ≡ Some b
back_chosen types f b v apart h = by_first (fits types v (shape f.takes)) refl
  where
    by_first : (x : Bool) → fits types v (shape f.takes) ≡ x → Source.direction_chosen types (Some (mapping f b)) v ≡ Some b
    by_first true is = no (sym apart ∙ share types v (shape f.takes) (shape b.takes) is h)
    by_first false is =
        ap (λ x. chosen_direction (if x && true then Some (direction f) else first_fitting types (direction b ∷ []) (v ∷ []))) is
        ∙ ap (λ x. chosen_direction (if x then Some (direction b) else None)) (two (fits types v (shape b.takes)) true h refl)

-- directions in patterns keep shapes and do the same on both sides, by whichever name a value chooses one
abbrev pub WaysKeep : Setting → List Shape → Model → (Measures → Core.Ways Value) → (Measures → Source.Converting) → Type 0
WaysKeep setting registers m ways convert =
    (it : Direction) (d : ℕ) (name : List ℕ) → DirectionStands setting m it d
    → ((v : Value) → fits setting.types v (shape it.takes) ≡ true
    → Source.direction_chosen m.source.text.types (m.source.text.called name) v ≡ Some it)
    → (active : Measures) (v : Value) (now : Now Value) → fits setting.types v (shape it.takes) ≡ true → RegistersFit setting.types registers now.state
    → AgreeApart setting.types registers (thrown_shape setting) (λ u. fits setting.types u (shape it.gives) ≡ true) now (ways active d v now)
    (convert active name v now)

-- ---- the worlds of a piece

module _ (setting : Setting) (registers : List Shape) (m : Model) (is : ModelIs setting registers m)
    (core_calls : Core.Calls Value) (calls : Source.Calls)
    (functions : FunctionsKeep setting registers m core_calls calls) (directions : DirectionsKeep setting registers m core_calls calls)
    (ways : Measures → Core.Ways Value) (convert : Measures → Source.Converting) (keeps_ways : WaysKeep setting registers m ways convert)
    (within : Within) (answer : Option Shape) (active : Measures) (numbers : Givens) (us : List Value) where
  abbrev inner : Setting
  inner = answering answer (standing_in within setting)

  abbrev wc : Making.World Value
  wc = asked m core_calls active (ways active) numbers us

  abbrev ws : World.World
  ws = Source.world_with m.source calls active (convert active) within numbers

  abbrev apply : Apply
  apply = Source.applied m.source calls active

  abbrev StandEach : List Candidate → List Callee → Type 0
  StandEach fs callees = StandForEach setting.types registers (thrown_shape setting) wc apply fs callees

  applies : AppliesBuiltins m.source.hart apply
  applies = texts_apply m.source calls active

  -- ---- names of values

  pub value_anywhere : (name : List ℕ) (meant : Option Meant)
      → ValueAs setting registers (core_world m 0 [] [] []) (source_world m 0 [] setting.within []) name meant → ValueAs inner registers wc ws name meant
  value_anywhere name (Some (M.Register r s)) h = h
  value_anywhere name (Some (M.Let i s)) h = h
  value_anywhere name (Some (M.Member i k)) h = h
  value_anywhere name meant h = h

  -- ---- callees

  direction_known : (d : ℕ) (it : Direction) → IsDirection setting d it → IsDirection inner d it
  direction_known d it h = record { takes = h.takes; gives = h.gives; given = h.given; taken = h.taken }

  way_kept : (name : List ℕ) (it : Direction) (d : ℕ) → DirectionStands setting m it d
      → ((v : Value) → fits setting.types v (shape it.takes) ≡ true
      → Source.direction_chosen setting.types (m.source.text.called name) v ≡ Some it)
      → KeepsWay setting.types registers (thrown_shape setting) wc ws name d it.takes it.gives
  way_kept name it d st chosen v now fit state =
      keeps_ways it d name st (λ u h. ap (λ t. Source.direction_chosen t (m.source.text.called name) u) is.types ∙ chosen u h) active v now fit state

  head_as : (name : List ℕ) (f : Candidate) (callee : Callee) (doing : Doing) → m.source.text.called name ≡ Some (alone callee)
      → constructor_named setting.types name ≡ constructor_of doing → DoesAs setting m f callee doing → HeadAs inner registers wc ws name f callee doing
  head_as name f callee (D.Calls (C.Constructor u k)) called h does = (h, does.1)
  head_as name f callee (D.Calls (C.Converts d)) called h does =
      let it : Direction = does.0 in
      let st : DirectionStands setting m it d = does.3 in
      let by_name : m.source.text.called name ≡ Some (alone (direction it)) = called ∙ ap (λ k. Some (alone k)) does.1 in (
        h,
        (
          it,
          does.1,
          direction_known d it st.known,
          does.2,
          way_kept name it d st (λ v fit. ap (λ (o : Option Called). Source.direction_chosen setting.types o v) by_name),
        ),
      )
  head_as name f callee doing called h does = h

  direction_kept : (name : List ℕ) (it : Direction) (d : ℕ) → DirectionStands setting m it d
      → KeepsCall setting.types registers (thrown_shape setting) wc apply (direction_candidate name d it.takes it.gives) (direction it)
  direction_kept name it d st = directions it d st active (ways active) numbers us

  mapping_is : (name : List ℕ) (it : Mapping) → MappingStands setting m name it → IsMapping inner registers wc ws apply name it
  mapping_is name it h = record {
    forwards = h.forwards;
    backwards = h.backwards;
    called = h.called;
    left = h.left;
    right = h.right;
    ahead = direction_known (2 * it.number) h.forwards h.ahead.known;
    back = direction_known (suc (2 * it.number)) h.backwards h.back.known;
    calls_ahead = λ apart. sides_called (2 * it.number) h.forwards it.left it.right h.left.0 h.right.0 (direction_kept name h.forwards (2 * it.number) h.ahead);
    calls_back = λ apart.
        sides_called (suc (2 * it.number)) h.backwards it.right it.left h.right.1 h.left.1
        (direction_kept name h.backwards (suc (2 * it.number)) h.back);
    ways_ahead = λ apart.
        sides_gone (2 * it.number) h.forwards it.left it.right h.left.0 h.right.0
        (way_kept name h.forwards (2 * it.number) h.ahead (λ v fit. by_name v ∙ ahead_chosen setting.types h.forwards h.backwards v fit));
    ways_back = λ apart.
        sides_gone (suc (2 * it.number)) h.backwards it.right it.left h.right.1 h.left.1
        (way_kept name h.backwards (suc (2 * it.number)) h.back
        (λ v fit. by_name v ∙ back_chosen setting.types h.forwards h.backwards v (own_sides apart) fit));
    no_constructor = h.no_constructor;
  }
    where
      by_name : (v : Value) → Source.direction_chosen setting.types (m.source.text.called name) v
          ≡ Source.direction_chosen setting.types (Some (mapping h.forwards h.backwards)) v
      by_name v = ap (λ (o : Option Called). Source.direction_chosen setting.types o v) h.called

      own_sides : shares (shape it.left) (shape it.right) ≡ false → shares (shape h.forwards.takes) (shape h.backwards.takes) ≡ false
      own_sides apart = (λ i. shares (shape (h.left.0 i)) (shape (h.right.1 i))) ∙ apart

      sides_called : (d : ℕ) (one : Direction) (from to : Typ) → one.takes ≡ from → one.gives ≡ to
          → KeepsCall setting.types registers (thrown_shape setting) wc apply (direction_candidate name d one.takes one.gives) (direction one)
          → KeepsCall setting.types registers (thrown_shape setting) wc apply (direction_candidate name d from to) (direction one)
      sides_called d one from to a b h =
          subst (λ t. KeepsCall setting.types registers (thrown_shape setting) wc apply (direction_candidate name d t to) (direction one)) a
          (subst (λ t. KeepsCall setting.types registers (thrown_shape setting) wc apply (direction_candidate name d one.takes t) (direction one)) b h)

      sides_gone : (d : ℕ) (one : Direction) (from to : Typ) → one.takes ≡ from → one.gives ≡ to
          → KeepsWay setting.types registers (thrown_shape setting) wc ws name d one.takes one.gives
          → KeepsWay setting.types registers (thrown_shape setting) wc ws name d from to
      sides_gone d one from to a b h =
          subst (λ t. KeepsWay setting.types registers (thrown_shape setting) wc ws name d t to) a
          (subst (λ t. KeepsWay setting.types registers (thrown_shape setting) wc ws name d one.takes t) b h)

  pub name_called : (name : List ℕ) (meant : Option Meant) → NameStands setting m name meant → NameCalled inner registers wc ws apply name meant
  name_called name (Some (M.Callee f)) h = (
    h.0,
    h.1,
    candidate_stands setting registers m core_calls calls functions directions active (ways active) numbers us f h.0 h.2,
    head_as name f h.0 f.doing h.1 h.3 h.2.does,
  )
  name_called name (Some (M.Row row)) h =
      let members = rows_stand setting.types registers (thrown_shape setting) wc m.source.hart apply refl applies row in
      (h, members.0, members.1)
  name_called name (Some (M.Mapping it)) h = mapping_is name it h
  name_called name (Some (M.Overload fs)) h = (
    h.0,
    h.1,
    candidates_stand setting registers m core_calls calls functions directions active (ways active) numbers us fs h.0 h.2,
    h.3,
  )
  name_called name meant h = tt

  -- ---- operators

  pub operator_stands : (operator : Operator)
      → StandEach (operator_members setting operator) (operator_builtins setting.types operator ++ m.source.text.added operator)
  operator_stands operator =
      operators_stand setting registers wc m.source.hart apply refl applies operator (m.source.text.added operator)
      (candidates_stand setting registers m core_calls calls functions directions active (ways active) numbers us (setting.added operator)
      (m.source.text.added operator) (is.added operator))

  pub prefix_stands : (prefix : Prefix)
      → StandEach (prefix_members setting prefix) (prefix_builtins setting.types prefix) × Distinct (prefix_members setting prefix)
  prefix_stands prefix = prefixes_stand setting registers wc m.source.hart apply refl applies prefix
