-- The names of a top-level let, as they are told elsewhere: of constant indices, or of a type that is read wherever the name is.
use Rattle.std.specs.Prelude.{◌≡◌, ◌&&◌, not, ℕ, Bool, true, List, [], ◌∷◌, map}
use Rattle.sail_core.specs.Run.{Local}
use Rattle.pattern_leaves.specs.declared.names.Bound.{Bound}
use Rattle.constraint_gen.specs.Models.{top_level}
use Rattle.checked_meaning.specs.Items.{Item}
use Rattle.value_laws.specs.Known.{Point}
use Rattle.pattern_laws.specs.Typing.{is_again}
use Rattle.soundness_steps.specs.Works.{Setting, nobody}
use Rattle.soundness_forms.specs.Patterns.{Binds}
use Rattle.soundness_forms.specs.Worlds.{LetsAre}
use Rattle.soundness_binding.specs.Told.{AreTold}

-- no name is another one too
abbrev pub are_apart : List Bound → Bool
are_apart [] = true
are_apart (b ∷ bs) = not (is_again b.name bs) && are_apart bs

abbrev pub NamesAreTold : Type 0
NamesAreTold = (set : Setting) (n : ℕ) (p : Point n) (found : List Bound) (locals : List (Local Item)) → are_apart found ≡ true
    → Binds set nobody p found locals → AreTold set nobody [] p found locals
    → LetsAre set nobody (map top_level found) (map (λ l. l.held.val) locals)
