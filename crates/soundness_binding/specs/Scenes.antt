-- Patterns in a scene: what holds of its moments, and what is taken of the table of types and of mappings.
use Rattle.std.specs.Prelude.{◌≡◌, true}
use Rattle.value_indices.specs.declared.notes.Made.{Made}
use Rattle.value_indices.specs.declared.notes.Made.TheVariants as Makes
use Rattle.checked_meaning.specs.Checked.{Noted}
use Rattle.pattern_laws.specs.Beside.{Ends}
use Rattle.sized_patterns.specs.Laws.{SizesFit}
use Rattle.value_laws.specs.Belonging.{Integers}
use Rattle.hanging_sizes.specs.Hanging.{payloads_alone}
use Rattle.soundness_steps.specs.Noted.{EachNoted, HasNumbers}
use Rattle.soundness_steps.specs.States.{IsAnswer, IsThrown, Sound}
use Rattle.soundness_steps.specs.Works.{IsExact, Scene, Setting, Work}
use Rattle.soundness_forms.specs.Mappings.{MappingsClosed}

-- sizes that are noted fit as patterns want it: those of types, where the types that values carry are of matter
abbrev pub SizesThere : Setting → Work → Integers → Made → Type 0
SizesThere set work g (Makes.ByIndices i) = SizesFit set.around.types work.own set.past work.types g (Makes.ByIndices i)
SizesThere set work g (Makes.ByType r) = IsExact set → SizesFit set.around.types work.own set.past work.types g (Makes.ByType r)

-- what holds of moments in a scene where these numbers are noted
abbrev pub ends : (q : Scene) → Noted → Ends (SizesThere q.set q.work)
ends q noted = record {
  keeps = Sound q;
  answer = IsAnswer q.set.around.types q.answer;
  thrown = IsThrown q.set q.set.around.exception;
  reached = q.reached;
  so = λ g vs. HasNumbers 0 q.work.instance.numbers g × EachNoted noted g vs;
}

-- what is taken of the model: payloads of unions without Type variables name none, and the types of mappings name no variable
pub record ModelFits (set : Setting) (work : Work) : Type 0 where
  pub alone : payloads_alone set.around.types ≡ true
  pub mappings : MappingsClosed set
