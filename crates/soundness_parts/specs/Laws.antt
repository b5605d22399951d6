-- Parts of values, and values with other parts, end well beside their walks, where the values and the indexes do (Sail language manual, "Structs",
-- "Vectors", "Bitvectors").
use Rattle.std.specs.Prelude.{ℕ, List}
use Rattle.sail_core.specs.Making.{World}
use Rattle.sail_core.specs.declared.targets.Suffix.{Suffix}
use Rattle.sail_core.specs.declared.tree.Kind.TheVariants as K
use Rattle.checked_meaning.specs.Items.{Item}
use Rattle.soundness_steps.specs.Works.{Scene}
use Rattle.soundness_forms.specs.EachKind.{KindFine}
use Rattle.soundness_forms.specs.Forms.{FitsSuffice}
use Rattle.soundness_values.specs.Named.{TypesNarrow}

-- a part that suffixes take out of a value
abbrev pub PartsAreFine : Type 0
PartsAreFine = FitsSuffice → (q : Scene) (w : World Item) → TypesNarrow q.set.around.types → (suffixes : List Suffix) → KindFine q w (K.Part suffixes)

-- a value with another slice of bits, and with another bit or item
abbrev pub UpdatesAreFine : Type 0
UpdatesAreFine = (q : Scene) (w : World Item) → KindFine q w K.WithSlice × KindFine q w K.WithItem

-- a struct with other fields
abbrev pub WithsAreFine : Type 0
WithsAreFine = FitsSuffice → (q : Scene) (w : World Item) → TypesNarrow q.set.around.types → (u : ℕ) (ks : List ℕ) → KindFine q w (K.With u ks)
