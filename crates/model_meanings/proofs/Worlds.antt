-- The worlds over some calls, and over some mappings in patterns, are described; and so directions in patterns go one further.
use Rattle.std.proofs.Common.{◌≡◌, ℕ, zero, suc, List, [], ◌∷◌, ◌++◌, length, ap, sym, refl, subst, Option, Some, None}
use Rattle.sail_base.specs.declared.place.Place.{Place}
use Rattle.sail_types.specs.declared.shapes.Shape.{Shape}
use Rattle.sail_types.specs.declared.values.Value.{Value}
use Rattle.sail_kinds.specs.Scopes.{Within}
use Rattle.sail_core.specs.Numbers.{Givens}
use Rattle.sail_core.specs.Run.{needs, ◌then◌}
use Rattle.sail_core.specs.Program as Core
use Rattle.sail_meaning.specs.Calls as Source
use Rattle.sail_meaning.specs.Choice.{arguments, choice, operator_builtins, operator_members}
use Rattle.sail_meaning.specs.Text.{Called, overload}
use Rattle.shape_rules.specs.Calls as Shapes
use Rattle.shape_rules.specs.Scopes.{Setting, answering, thrown_shape}
use Rattle.shape_meanings.specs.Worlds.{AnswerBelow, Describes, StandForEach, call_by}
use Rattle.body_meanings.proofs.Callees.{directions_keep_ways}
use Rattle.model_meanings.specs.Callees.{Model, core_of, standing_in}
use Rattle.model_meanings.specs.Models.{ModelIs}
use Rattle.row_meanings.proofs.Standing.{texts_apply}
use Rattle.model_meanings.proofs.Callees.{DirectionsKeep, FunctionsKeep, Measures, asked}
use Rattle.model_meanings.proofs.Names.{WaysKeep, name_called, operator_stands, prefix_stands, value_anywhere}

-- directions in patterns of both sides, of which at most so many may be inside one another
abbrev pub core_ways : Model → Core.Calls Value → ℕ → Measures → Core.Ways Value
core_ways m core_calls rank active = Core.ways (core_of m) core_calls active rank

abbrev pub source_ways : Model → Source.Calls → ℕ → Measures → Source.Converting
source_ways m calls rank active = Source.converting m.source calls active rank

-- in whatever types can be named, and whatever is around a piece, both worlds are described
abbrev pub AreDescribed : Setting → List Shape → Model → Core.Calls Value → Source.Calls → ℕ → ℕ → Type 0
AreDescribed setting registers m core_calls calls core_rank rank =
    (within : Within) (answer : Option Shape) → AnswerBelow answer → (active : Measures) (numbers : Givens) (us : List Value)
    → Describes (answering answer (standing_in within setting)) registers (asked m core_calls active (core_ways m core_calls core_rank active) numbers us)
    (Source.world_with m.source calls active (source_ways m calls rank active) within numbers)

module _ (setting : Setting) (registers : List Shape) (m : Model) (is : ModelIs setting registers m)
    (core_calls : Core.Calls Value) (calls : Source.Calls)
    (functions : FunctionsKeep setting registers m core_calls calls) (directions : DirectionsKeep setting registers m core_calls calls) where
  -- what a name or an operator does in a call
  called_by : (active : Measures) (place : Place) (o : Option Called) (vs : List Value)
      → Source.called m.source calls active place o vs ≡ call_by setting.types (Source.applied m.source calls active) place o vs
  called_by active place None vs = refl
  called_by active place (Some c) vs =
      ap (λ t. needs (choice t c (arguments c vs)) then λ callee. Source.applied m.source calls active place callee (arguments c vs)) is.types

  described : (rank : ℕ) → WaysKeep setting registers m (core_ways m core_calls rank) (source_ways m calls rank)
      → AreDescribed setting registers m core_calls calls rank rank
  described rank ways within answer below active numbers us = record {
    types = is.types;
    within = refl;
    numbers = refl;
    hart = refl;
    bare = refl;
    closed_registers = is.closed_registers;
    closed_thrown = is.closed_thrown;
    answer = below;
    fields_below = is.fields_below;
    structs = is.structs;
    values = λ name.
        value_anywhere setting registers m is core_calls calls functions directions (core_ways m core_calls rank) (source_ways m calls rank) ways within
        answer active numbers us name (setting.value name) (is.values name);
    apply = Source.applied m.source calls active;
    names = λ name.
        name_called setting registers m is core_calls calls functions directions (core_ways m core_calls rank) (source_ways m calls rank) ways within
        answer active numbers us name (setting.value name) (is.names name);
    calls = λ place name vs. called_by active place (m.source.text.called name) vs;
    members = operator_members m.source.text;
    operators = λ place operator v u. called_by active place (Some (overload (operator_members m.source.text operator))) (v ∷ u ∷ []);
    members_stand = λ operator. (
      subst (λ t. StandForEach setting.types registers (thrown_shape setting) (asked m core_calls active (core_ways m core_calls rank active) numbers us)
          (Source.applied m.source calls active) (Shapes.operator_members setting operator) (operator_builtins t operator ++ m.source.text.added operator))
          (sym is.types)
          (operator_stands setting registers m is core_calls calls functions directions (core_ways m core_calls rank) (source_ways m calls rank) ways
          within answer active numbers us operator),
      is.operators operator,
    );
    builtins_first = λ operator. (
      m.source.text.added operator,
      ap (λ t. operator_builtins t operator ++ m.source.text.added operator) is.types,
    );
    prefixes_stand = λ prefix.
        prefix_stands setting registers m is core_calls calls functions directions (core_ways m core_calls rank) (source_ways m calls rank) ways within
        answer active numbers us prefix;
    builtins_apply = texts_apply m.source calls active;
  }

  -- however many mappings may be inside one another in patterns
  ways_keep : (rank : ℕ) → WaysKeep setting registers m (core_ways m core_calls rank) (source_ways m calls rank)
  ways_keep zero it d name st chosen active v now fit state = (refl, tt)
  ways_keep (suc rank) it d name st chosen active v now fit state =
      directions_keep_ways (standing_in m.source.text.within setting) registers m.functions m.directions m.source.hart m.lets core_calls m.source calls st.core
      it active rank st.is st.known.takes st.known.gives (λ vs. described rank (ways_keep rank) m.source.text.within None tt active [] vs) name d st.there
      chosen v now fit state

  -- and so the worlds in which a model's pieces run
  pub all_described : AreDescribed setting registers m core_calls calls (length m.directions) m.source.text.directions
  all_described =
      subst (λ (r : ℕ). AreDescribed setting registers m core_calls calls (length m.directions) r) (sym is.directions)
      (described (length m.directions) (ways_keep (length m.directions)))
