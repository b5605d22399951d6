-- A way with an end of its own, behind others: the first one with a value, and what is written down.
use Rattle.std.proofs.Common.{◌≡◌, ℕ, List, ◌++◌, Bool, Option}
use Rattle.sail_types.specs.declared.shapes.Shape.{Shape}
use Rattle.sail_core.specs.declared.tree.Core.{Core}
use Rattle.value_indices.specs.Walking.{Written, got, remembering, restored, run}
use Rattle.value_indices.specs.declared.indices.Indices.{Indices}
use Rattle.pattern_leaves.specs.Settings.{Around, Scope}
use Rattle.pattern_leaves.specs.declared.names.Bound.{Bound}
use Rattle.call_arguments.specs.declared.aims.Aim.{Aim}
use Rattle.call_arguments.specs.Aims.{branch_aim}
use Rattle.expression_steps.specs.Coded.{end_walk, way_core, way_opened, way_seen}
use Rattle.expression_steps.specs.Expressions.{part}
use Rattle.expression_steps.specs.Statements.{one_way}
use Rattle.expression_steps.specs.declared.ways.Way.{Way}
use Rattle.expression_steps.proofs.Meeting.{Opened, way_got, way_run}
use Rattle.expression_notes.proofs.Alike.{Alike}

-- from what is found where it is opened, and of the value of its part
pub way_alike : (is_free : Bool) (m : ℕ) (shape : Shape) (around : Around) (scope : Scope) (aim : Aim) (way : Way) (first : Option Indices) (w1 w2 : Written)
    (core : Core) (inside : Scope) (given : Aim) (found : List Bound) → found ≡ got (way_opened around way) w1 → w2 ≡ run (way_opened around way) w1
    → inside ≡ found ++ scope → given ≡ branch_aim aim → core ≡ way_core way → (i : Indices) (v w3 : Written) → w1 ≡ remembering v
    → i ≡ got ((part core).walk around inside given) w2 → w3 ≡ run ((part core).walk around inside given) w2
    → Alike (got (end_walk around is_free m shape core first i) w3) (got (one_way around is_free m shape (way_seen around scope aim way) first) v)
    (restored (run (end_walk around is_free m shape core first i) w3)) (run (one_way around is_free m shape (way_seen around scope aim way) first) v)
way_alike is_free m shape around scope aim way first w1 w2 core inside given found names opens within due whose i v w3 one is was =
    let o : Opened around scope aim way w1 w2 core inside given = record {
      found = found;
      names = names;
      opens = opens;
      within = within;
      due = due;
      whose = whose;
    } in
    record {
      value = way_got is_free m shape around scope aim way first w1 w2 core inside given o i v w3 one is was;
      walked = way_run is_free m shape around scope aim way first w1 w2 core inside given o i v w3 one is was;
    }
