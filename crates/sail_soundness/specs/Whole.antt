-- Each expression of a core ends well beside its walk, where each of its nodes does.
use Rattle.std.specs.Prelude.{◌≡◌, ◌&&◌, Bool, true, ℕ, List, [], ◌∷◌, ◌++◌, map, slice_get, Some}
use Rattle.std.specs.List.{list_all}
use Rattle.sail_types.specs.declared.numbers.Index.{Index}
use Rattle.sail_types.specs.declared.table.Types.{Types}
use Rattle.sail_core.specs.Making.{World}
use Rattle.sail_core.specs.Meaning.{kind_meaning, meaning}
use Rattle.sail_core.specs.declared.model.Function.{Function}
use Rattle.sail_core.specs.declared.tree.Core.{Core, Core-F, fold-Core, para-Core}
use Rattle.sail_core.specs.declared.tree.Kind.{Kind}
use Rattle.call_fits.specs.Calls.{EachHasPlace}
use Rattle.expression_steps.specs.Expressions.{part}
use Rattle.checked_meaning.specs.Items.{Item}
use Rattle.soundness_steps.specs.Works.{Scene, Setting, Work}
use Rattle.soundness_forms.specs.EachKind.{PartsFine, node}
use Rattle.soundness_forms.specs.Forms.{Fine, z}
use Rattle.soundness_forms.specs.Registers.{RegistersClosed}
use Rattle.soundness_forms.specs.Standing.{is_cast, is_guard, kind_right, standing}
use Rattle.soundness_binding.specs.Patterned.{patterns_stand}
use Rattle.soundness_binding.specs.Scenes.{ModelFits}
use Rattle.soundness_sizes.specs.Kinds.{sizes_stand}
use Rattle.soundness_values.specs.Named.{TypesNarrow}

-- what a kind asks: its patterns stand, and numbers and conditions that it reads stand for themselves
abbrev pub kind_asks : Types → List Index → Kind → Bool
kind_asks types numbers kind = patterns_stand types numbers kind && sizes_stand numbers kind

-- what its kind asks holds of each node of an expression
abbrev pub node_fits : Types → List Index → Core-F Bool → Bool
node_fits types numbers c = kind_asks types numbers c.kind && list_all (λ b. b) c.parts

abbrev pub core_fits : Types → List Index → Core → Bool
core_fits types numbers = fold-Core Bool (node_fits types numbers)

-- ---- nodes of an expression, each with its parts

abbrev pub joined : List (List (Core-F Core)) → List (Core-F Core)
joined [] = []
joined (ns ∷ more) = ns ++ joined more

abbrev pub nodes_over : Core-F (Core × List (Core-F Core)) → List (Core-F Core)
nodes_over c = record { place = c.place; number = c.number; kind = c.kind; parts = map (λ p. p.0) c.parts } ∷ joined (map (λ p. p.1) c.parts)

abbrev pub nodes : Core → List (Core-F Core)
nodes = para-Core (List (Core-F Core)) nodes_over

-- variables of functions have places among their parameters
abbrev pub HavePlaces : Setting → Type 0
HavePlaces set = (i : ℕ) (f : Function) → slice_get set.around.functions i ≡ Some f → EachHasPlace 0 f.variables f.parameters

-- types of registers name no variable, nor do those of mappings; fields and payloads name no Type variables but those of their own type; and the table
-- of types passes the tests that patterns ask for
pub record ModelStands (set : Setting) (work : Work) : Type 0 where
  pub registers : RegistersClosed set
  pub places : HavePlaces set
  pub narrow : TypesNarrow set.around.types
  pub fits : ModelFits set work

module _ (q : Scene) (w : World Item) where
  -- a node is fine where its own parts are, as they stand
  abbrev pub NodeFine : Core-F Core → Type 0
  NodeFine c = PartsFine q w (map (standing q.set.around) c.parts) (map part c.parts) (map (meaning (z q w) w) c.parts)
      → kind_right q.set.around c.kind (map (standing q.set.around) c.parts) ≡ true
      → Fine q w (is_cast c.kind) (is_guard c.kind) (node q w c.place c.number c.kind (map part c.parts))
      (kind_meaning (z q w) w c.place c.number c.kind (map (meaning (z q w) w) c.parts))

  -- what is asked of each node
  pub record NodeStands (c : Core-F Core) : Type 0 where
    -- what its kind asks
    pub asks : kind_asks q.set.around.types q.numbers c.kind ≡ true

  abbrev pub EachFine : List (Core-F Core) → Type 0
  EachFine [] = Unit {0}
  EachFine (c ∷ cs) = NodeStands c × EachFine cs

  -- what kinds ask holds, in a model whose registers, functions, mappings and types are as the resolver has them
  abbrev pub OthersFine : List (Core-F Core) → Type 0
  OthersFine cs = ModelStands q.set q.work × EachFine cs

-- an expression in which casts, guards, literals and patterns stand as the resolver puts them is fine
abbrev pub EachFollows : Type 0
EachFollows = (q : Scene) (w : World Item) (c : Core) → (standing q.set.around c).right ≡ true → OthersFine q w (nodes c)
    → Fine q w (standing q.set.around c).cast (standing q.set.around c).guard (part c) (meaning (z q w) w c)

-- where each node of an expression passes these tests, nothing more is asked of them
abbrev pub CoresFit : Type 0
CoresFit = (q : Scene) (w : World Item) (c : Core) → core_fits q.set.around.types q.numbers c ≡ true → EachFine q w (nodes c)
