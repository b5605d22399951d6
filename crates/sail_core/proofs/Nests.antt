-- A block means what the nest of its statements means.
use Rattle.std.proofs.Common.{◌≡◌, ℕ, List, [], ◌∷◌, map, sym, ap, ◌∙◌}
use Rattle.sail_base.specs.declared.place.Place.{Place}
use Rattle.sail_types.specs.declared.values.Value.{Value}
use Rattle.sail_core.specs.declared.tree.Statement.TheVariants as S
use Rattle.sail_core.specs.declared.tree.Kind.{Kind}
use Rattle.sail_core.specs.declared.tree.Kind.TheVariants as K
use Rattle.sail_core.specs.declared.tree.Core.{Core, fold-roll-Core}
use Rattle.sail_core.specs.Run.{Run}
use Rattle.sail_core.specs.Making.{World, plainly}
use Rattle.sail_core.specs.Meaning.{kind_meaning, core_meaning}
use Rattle.sail_core.specs.Nodes.{node}
use Rattle.sail_core.specs.Laws.{BlocksAreNests, BlocksDeclare}

-- a node means what its kind makes of its parts
pub node_means : (w : World Value) (p : Place) (k : ℕ) (kind : Kind) (parts : List Core)
    → core_meaning w (node p k kind parts) ≡ kind_meaning plainly w p k kind (map (core_meaning w) parts)
node_means w p k kind parts =
    fold-roll-Core (Run Value Value) (λ c. kind_meaning plainly w c.place c.number c.kind c.parts)
    (record { place = p; number = k; kind = kind; parts = parts })

pub blocks_are_nests : BlocksAreNests
blocks_are_nests w p k l q arm ss a parts =
    node_means w p k (K.Block (S.Define q arm ∷ ss)) (a ∷ parts)
    ∙ ap (λ rest. kind_meaning plainly w q l (K.Let arm) (core_meaning w a ∷ rest ∷ [])) (sym (node_means w p k (K.Block ss) parts))
    ∙ sym (node_means w q l (K.Let arm) (a ∷ node p k (K.Block ss) parts ∷ []))

pub blocks_declare : BlocksDeclare
blocks_declare w p k l q x t ss a parts =
    node_means w p k (K.Block (S.Declare x t ∷ ss)) (a ∷ parts)
    ∙ ap (λ rest. kind_meaning plainly w q l (K.Var x t) (core_meaning w a ∷ rest ∷ [])) (sym (node_means w p k (K.Block ss) parts))
    ∙ sym (node_means w q l (K.Var x t) (a ∷ node p k (K.Block ss) parts ∷ []))
