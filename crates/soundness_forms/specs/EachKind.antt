-- What is to be shown of each kind of node: it ends well beside its walk, where its parts do.
use Rattle.std.specs.Prelude.{◌≡◌, ℕ, true, List, [], ◌∷◌}
use Rattle.sail_base.specs.declared.place.Place.{Place}
use Rattle.sail_core.specs.Making.{World}
use Rattle.sail_core.specs.Meaning.{kind_meaning}
use Rattle.sail_core.specs.Run.{Run}
use Rattle.sail_core.specs.declared.tree.Kind.{Kind}
use Rattle.expression_steps.specs.Expressions.{kind_nested, kind_never_ends, kind_place, kind_state, kind_walk}
use Rattle.expression_steps.specs.Parts.{Part}
use Rattle.checked_meaning.specs.Items.{Item}
use Rattle.soundness_steps.specs.Works.{Scene}
use Rattle.soundness_forms.specs.Forms.{Fine, z}
use Rattle.soundness_forms.specs.Standing.{Standing, is_cast, is_guard, kind_right}

module _ (q : Scene) (w : World Item) where
  -- parts of a node as they stand: each is fine as what it is
  abbrev pub PartsFine : List Standing → List Part → List (Run Item Item) → Type 0
  PartsFine [] [] [] = Unit {0}
  PartsFine (s ∷ ss) (p ∷ ps) (r ∷ rs) = (s.right ≡ true → Fine q w s.cast s.guard p r) × PartsFine ss ps rs
  PartsFine ss ps rs = ⊥

  -- a node of a kind over such parts
  abbrev pub node : Place → ℕ → Kind → List Part → Part
  node place k kind ps = record {
    place = kind_place place kind ps;
    is_nested = kind_nested kind ps;
    never_ends = kind_never_ends kind ps;
    walk = kind_walk place k kind ps;
    state = kind_state place k kind ps;
  }

  -- what is to be shown of each kind
  abbrev pub KindFine : Kind → Type 0
  KindFine kind = (place : Place) (k : ℕ) (ss : List Standing) (ps : List Part) (rs : List (Run Item Item)) → PartsFine ss ps rs
      → kind_right q.set.around kind ss ≡ true
      → Fine q w (is_cast kind) (is_guard kind) (node place k kind ps) (kind_meaning (z q w) w place k kind rs)
