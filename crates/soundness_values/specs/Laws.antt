-- Nodes that make values of their parts, and calls: they end well beside their walks, where their parts do.
use Rattle.std.specs.Prelude.{ℕ, List}
use Rattle.sail_types.specs.declared.rows.Row.{Row}
use Rattle.sail_types.specs.declared.shapes.Shape.{Shape}
use Rattle.sail_core.specs.Making.{World}
use Rattle.sail_core.specs.declared.tree.Callee.TheVariants as D
use Rattle.sail_core.specs.declared.tree.Kind.TheVariants as K
use Rattle.checked_meaning.specs.Items.{Item}
use Rattle.soundness_steps.specs.Works.{Scene}
use Rattle.soundness_forms.specs.Calls.{CalleeFits}
use Rattle.soundness_forms.specs.EachKind.{KindFine}
use Rattle.soundness_forms.specs.Forms.{FitsSuffice}
use Rattle.soundness_forms.specs.Mappings.{MappingsClosed}
use Rattle.soundness_values.specs.Named.{TypesNarrow}

-- tuples
abbrev pub TuplesAreFine : Type 0
TuplesAreFine = FitsSuffice → (q : Scene) (w : World Item) → KindFine q w K.Tuple

-- lists, vectors and `a :: b`
abbrev pub ListsAreFine : Type 0
ListsAreFine = FitsSuffice → (q : Scene) (w : World Item) (shape : Shape)
    → KindFine q w (K.List shape) × KindFine q w (K.Vector shape) × KindFine q w (K.Cons shape)

-- calls of builtins, of mappings, and of functions
abbrev pub BuiltinsAreFine : Type 0
BuiltinsAreFine = FitsSuffice → (q : Scene) (w : World Item) (row : Row) → KindFine q w (K.Call (D.Row row))

abbrev pub MappingsAreFine : Type 0
MappingsAreFine = FitsSuffice → (q : Scene) (w : World Item) → MappingsClosed q.set → (d : ℕ) → KindFine q w (K.Call (D.Converts d))

abbrev pub FunctionsAreFine : Type 0
FunctionsAreFine = FitsSuffice → (q : Scene) (w : World Item) (i : ℕ) → CalleeFits q.set i → KindFine q w (K.Call (D.Function i))

-- structs and constructors
abbrev pub StructsAreFine : Type 0
StructsAreFine = FitsSuffice → (q : Scene) (w : World Item) → TypesNarrow q.set.around.types → (u : ℕ) (ks : List ℕ) → KindFine q w (K.Struct u ks)

abbrev pub ConstructorsAreFine : Type 0
ConstructorsAreFine = FitsSuffice → (q : Scene) (w : World Item) → TypesNarrow q.set.around.types → (u c : ℕ)
    → KindFine q w (K.Call (D.Constructor u c))
