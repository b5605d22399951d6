-- What is written down behind statements, and what binds names with a body.
use Rattle.std.proofs.Common.{◌≡◌, ◌∙◌, ◌≤◌, ap, sym, ℕ, List, [], ◌∷◌, ◌++◌, length, Option, None, refl, arith}
use Rattle.sail_base.specs.declared.place.Place.{Place}
use Rattle.sail_types.specs.declared.numbers.Con.{Con}
use Rattle.sail_types.specs.declared.shapes.Shape.{Shape}
use Rattle.sail_core.specs.declared.tree.Core.{Core, out-Core}
use Rattle.sail_core.specs.declared.tree.Giver.{Giver}
use Rattle.sail_core.specs.declared.tree.Kind.{Kind}
use Rattle.sail_core.specs.declared.tree.Kind.TheVariants as K
use Rattle.value_indices.specs.Steps.{Walk}
use Rattle.value_indices.specs.Walking.{Written, got, run}
use Rattle.value_indices.specs.declared.indices.Indices.{Indices}
use Rattle.pattern_leaves.specs.Settings.{Around, Scope}
use Rattle.pattern_leaves.specs.declared.names.Bound.{Bound}
use Rattle.pattern_leaves.proofs.Walked.{made_got, made_run, then_got, then_run}
use Rattle.call_arguments.specs.Aims.{inner_aim}
use Rattle.call_arguments.specs.declared.aims.Aim.{Aim}
use Rattle.call_arguments.specs.declared.aims.Aim.TheVariants as Aims
use Rattle.expression_steps.specs.Coded.{bound_walk, each_part, names_bound}
use Rattle.expression_steps.specs.Expressions.{kind_state, kind_walk, part}
use Rattle.expression_steps.specs.Parts.{Part}
use Rattle.expression_steps.specs.Statements.{assert_state, branches_forms, claim_behind, plain_state, wrong_state}
use Rattle.expression_steps.specs.declared.binding.Binding.{Binding}
use Rattle.expression_steps.proofs.Opened.{state_is, walk_is}
use Rattle.expression_notes.proofs.Alike.{Alike}

-- ---- a `let` or `var` with its body

module _ (g : Giver) (binding : Binding) (a b : Part) (around : Around) (scope inside : Scope) (aim inner : Aim) (found : List Bound) (w v : Written)
    (is : found ≡ got (names_bound g binding a around scope) w) (was : v ≡ run (names_bound g binding a around scope) w)
    (within : inside ≡ found ++ scope) (wanted : inner ≡ inner_aim aim) where
  in_got : got (b.walk around inside inner) v ≡ got (bound_walk g binding a b around scope aim) w
  in_got =
      (λ j. got (b.walk around (within j) (wanted j)) v)
      ∙ then_got (names_bound g binding a around scope) (λ names. b.walk around (names ++ scope) (inner_aim aim)) w v found is was

  in_run : run (b.walk around inside inner) v ≡ run (bound_walk g binding a b around scope aim) w
  in_run =
      (λ j. run (b.walk around (within j) (wanted j)) v)
      ∙ then_run (names_bound g binding a around scope) (λ names. b.walk around (names ++ scope) (inner_aim aim)) w v found is was

  pub in_alike : Alike (got (b.walk around inside inner) v) (got (bound_walk g binding a b around scope aim) w) (run (b.walk around inside inner) v)
      (run (bound_walk g binding a b around scope aim) w)
  in_alike = record { value = in_got; walked = in_run }

-- ---- the claim of a statement

other_state : (place : Place) (k : ℕ) (kind : Kind) (ps : List Part) (around : Around) (scope : Scope) → ((shape : Shape) → kind ≡ K.If shape → ⊥)
    → ((text : Option (List ℕ)) → kind ≡ K.Assert text → ⊥)
    → kind_state place k kind ps around scope ≡ plain_state (kind_walk place k kind ps around scope Aims.Free)
other_state place k (K.If shape) ps around scope no_if no_assert = absurd (no_if shape refl)
other_state place k (K.Assert text) ps around scope no_if no_assert = absurd (no_assert text refl)
other_state place k kind ps around scope no_if no_assert = refl

module _ (core : Core) (cs : List Core) (around : Around) (scope : Scope) (same : cs ≡ (out-Core core).parts) (w : Written) where
  abbrev claim : Walk (Option Con)
  claim = (part core).state around scope

  abbrev state_of : Kind → Walk (Option Con)
  state_of kind = kind_state (out-Core core).place (out-Core core).number kind (each_part cs) around scope

  -- of a kind
  pub claim_got : (kind : Kind) → (out-Core core).kind ≡ kind → got (state_of kind) w ≡ got claim w
  claim_got kind is =
      ap (λ (k : Kind). got (state_of k) w) (sym is) ∙ sym (ap (λ (x : Walk (Option Con)). got x w) (state_is core cs around scope same))

  pub claim_run : (kind : Kind) → (out-Core core).kind ≡ kind → run (state_of kind) w ≡ run claim w
  claim_run kind is =
      ap (λ (k : Kind). run (state_of k) w) (sym is) ∙ sym (ap (λ (x : Walk (Option Con)). run x w) (state_is core cs around scope same))

  -- of an `if`, behind its branches
  module _ (shape : Shape) (is : (out-Core core).kind ≡ K.If shape) (met : Option (Con × Indices)) (v : Written) where
    abbrev branches : Walk (Option (Con × Indices))
    branches = branches_forms (out-Core core).place (out-Core core).number shape (each_part cs) around scope Aims.Free

    abbrev claims : Option (Con × Indices) → Walk (Option Con)
    claims = claim_behind (out-Core core).place (each_part cs)

    if_got : met ≡ got branches w → v ≡ run branches w → got (claims met) v ≡ got claim w
    if_got found was = then_got branches claims w v met found was ∙ claim_got (K.If shape) is

    if_run : met ≡ got branches w → v ≡ run branches w → run (claims met) v ≡ run claim w
    if_run found was = then_run branches claims w v met found was ∙ claim_run (K.If shape) is

    pub if_alike : met ≡ got branches w → v ≡ run branches w → Alike (got (claims met) v) (got claim w) (run (claims met) v) (run claim w)
    if_alike found was = record { value = if_got found was; walked = if_run found was }

  -- of an assertion
  module _ (text : Option (List ℕ)) (is : (out-Core core).kind ≡ K.Assert text) where
    abbrev asserted : List Core → Walk (Option Con)
    asserted qs = assert_state (out-Core core).place (each_part qs) around scope

    assert_got : (qs : List Core) → cs ≡ qs → got (asserted qs) w ≡ got claim w
    assert_got qs opens = ap (λ (ds : List Core). got (asserted ds) w) (sym opens) ∙ claim_got (K.Assert text) is

    assert_run : (qs : List Core) → cs ≡ qs → run (asserted qs) w ≡ run claim w
    assert_run qs opens = ap (λ (ds : List Core). run (asserted ds) w) (sym opens) ∙ claim_run (K.Assert text) is

    pub assert_alike : (qs : List Core) → cs ≡ qs → Alike (got (asserted qs) w) (got claim w) (run (asserted qs) w) (run claim w)
    assert_alike qs opens = record { value = assert_got qs opens; walked = assert_run qs opens }

    many : (qs : List Core) → 2 ≤ length qs → asserted qs ≡ wrong_state (out-Core core).place
    many [] more = absurd (omega arith)
    many (a ∷ []) more = absurd (omega arith)
    many (a ∷ b ∷ qs) more = refl

    more_got : 2 ≤ length cs → got (wrong_state (out-Core core).place) w ≡ got claim w
    more_got more = ap (λ (x : Walk (Option Con)). got x w) (sym (many cs more)) ∙ claim_got (K.Assert text) is

    more_run : 2 ≤ length cs → run (wrong_state (out-Core core).place) w ≡ run claim w
    more_run more = ap (λ (x : Walk (Option Con)). run x w) (sym (many cs more)) ∙ claim_run (K.Assert text) is

    pub more_alike : 2 ≤ length cs → Alike (got (wrong_state (out-Core core).place) w) (got claim w)
        (run (wrong_state (out-Core core).place) w) (run claim w)
    more_alike more = record { value = more_got more; walked = more_run more }

  -- of any other
  module _ (no_if : (shape : Shape) → (out-Core core).kind ≡ K.If shape → ⊥)
      (no_assert : (text : Option (List ℕ)) → (out-Core core).kind ≡ K.Assert text → ⊥) where
    abbrev walks : Walk Indices
    walks = (part core).walk around scope Aims.Free

    abbrev nothing : Option Con
    nothing = None

    opens : claim ≡ plain_state walks
    opens =
        state_is core cs around scope same
        ∙ other_state (out-Core core).place (out-Core core).number (out-Core core).kind (each_part cs) around scope no_if no_assert
        ∙ ap plain_state (sym (walk_is core cs around scope Aims.Free same))

    other_got : nothing ≡ got claim w
    other_got = made_got walks (λ i. nothing) w (got walks w) refl ∙ ap (λ (x : Walk (Option Con)). got x w) (sym opens)

    other_run : (v : Written) → v ≡ run walks w → v ≡ run claim w
    other_run v was = made_run walks (λ i. nothing) w v was ∙ ap (λ (x : Walk (Option Con)). run x w) (sym opens)

    pub other_alike : (v : Written) → v ≡ run walks w → Alike nothing (got claim w) v (run claim w)
    other_alike v was = record { value = other_got; walked = other_run v was }
