-- Branches, ways that meet, and turns: the value, and what is written down.
use Rattle.std.proofs.Common.{◌≡◌, ◌∙◌, ◌≤◌, ◌<◌, ◌+◌, ap, ℕ, List, [], ◌∷◌, ◌++◌, length, drop, take, get_or, Bool, Option, None, Some, is_none}
use Rattle.sail_base.specs.declared.place.Place.{Place}
use Rattle.sail_types.specs.declared.numbers.Con.{Con}
use Rattle.sail_types.specs.declared.numbers.Con.TheVariants as C
use Rattle.sail_types.specs.declared.numbers.Num.{Num}
use Rattle.sail_types.specs.declared.shapes.Shape.{Shape}
use Rattle.sail_core.specs.declared.tree.Core.{Core}
use Rattle.sail_core.specs.declared.tree.Counting.{Counting}
use Rattle.value_indices.specs.Steps.{Walk, assume}
use Rattle.value_indices.specs.Walking.{Written, got, remembering, restored, run}
use Rattle.value_indices.specs.declared.indices.Indices.{Indices}
use Rattle.value_indices.specs.declared.indices.Indices.TheVariants as I
use Rattle.pattern_leaves.specs.Settings.{Around, Scope}
use Rattle.pattern_leaves.specs.declared.names.Bound.{Bound}
use Rattle.call_arguments.specs.Aims.{wanted}
use Rattle.call_arguments.specs.declared.aims.Aim.{Aim}
use Rattle.call_arguments.specs.declared.aims.Aim.TheVariants as Aims
use Rattle.expression_steps.specs.Coded.{each_part, way_seen, ways_seen}
use Rattle.expression_steps.specs.Expressions.{part}
use Rattle.expression_steps.specs.Parts.{four, numbers_walk, truth_walk}
use Rattle.expression_steps.specs.Statements.{Way as Meeting}
use Rattle.expression_steps.specs.Statements.{bounds_of, branches_forms, each_way, either_walk, foreach_walk, meeting, met_value, one_way, step_owed}
use Rattle.expression_steps.specs.Statements.{turn_begun, two_ways, unit_of}
use Rattle.expression_steps.specs.declared.counting.Bounds.{Bounds}
use Rattle.expression_steps.specs.declared.ways.Way.{Way}
use Rattle.expression_steps.proofs.Meeting.{meeting_got, meeting_run, no_either_got, no_either_run, no_when_got, no_when_run, some_either_got}
use Rattle.expression_steps.proofs.Meeting.{some_either_run, some_when_got, some_when_run, ways_ended, ways_left, ways_step, ways_walked}
use Rattle.expression_steps.proofs.Turns.{foreach_got, foreach_none_got, foreach_none_run, foreach_run}
use Rattle.expression_notes.proofs.Alike.{Alike}

-- ---- `if`

module _ (around : Around) (scope : Scope) (c : Core) (met : Option Con) (v w : Written) (found : met ≡ got (truth_walk (part c) around scope) v)
    (was : w ≡ run (truth_walk (part c) around scope) v) (place : Place) (number : ℕ) (shape : Shape) (aim : Aim) where
  abbrev nothing : Option (Con × Indices)
  nothing = None

  module _ (cs : List Core) (a : Core) (two_is : cs ≡ c ∷ a ∷ []) where
    abbrev branches : Walk (Option (Con × Indices))
    branches = branches_forms place number shape (each_part cs) around scope aim

    pub no_when_alike : met ≡ None → Alike nothing (got branches v) w (run branches v)
    no_when_alike none = record {
      value = no_when_got around scope c met v w found was place number shape aim cs a two_is none;
      walked = no_when_run around scope c met v w found was place number shape aim cs a two_is none;
    }

    pub some_when_alike : (g : Con) → met ≡ Some g → (h : Con) (i : Indices) (w1 w2 w3 w4 w5 : Written) → h ≡ g → w1 ≡ remembering w
        → w2 ≡ run (assume h) w1 → i ≡ got ((part a).walk around scope Aims.Free) w2 → w3 ≡ run ((part a).walk around scope Aims.Free) w2
        → w4 ≡ run (unit_of (part a).place i) w3 → w5 ≡ restored w4 → Alike (Some (g, I.Unit)) (got branches v) w5 (run branches v)
    some_when_alike g some h i w1 w2 w3 w4 w5 same one two is three four five = record {
      value = some_when_got around scope c met v w found was place number shape aim cs a two_is g some;
      walked = some_when_run around scope c met v w found was place number shape aim cs a two_is g some h i w1 w2 w3 w4 w5 same one two is three
          four five;
    }

  module _ (a b : Core) where
    abbrev either : Walk (Option (Con × Indices))
    either = either_walk place number shape (part c) (part a) (part b) around scope aim

    abbrev meets : List Meeting → Walk Indices
    meets ws = meeting around place number shape (wanted aim) ws

    pub no_either_alike : met ≡ None → Alike nothing (got either v) w (run either v)
    no_either_alike none = record {
      value = no_either_got around scope c met v w found was place number shape aim a b none;
      walked = no_either_run around scope c met v w found was place number shape aim a b none;
    }

    pub some_either_alike : (g h : Con) → met ≡ Some g → h ≡ C.Not g → (ws : List Meeting) (i : Indices) (u : Written)
        → ws ≡ two_ways (part a) (part b) around scope aim g h → i ≡ got (meets ws) w → u ≡ run (meets ws) w
        → Alike (Some (g, i)) (got either v) u (run either v)
    some_either_alike g h some other ws i u ways is gone = record {
      value = some_either_got around scope c met v w found was place number shape aim a b g h some other i
          (is ∙ ap (λ (ms : List Meeting). got (meets ms) w) ways);
      walked = some_either_run around scope c met v w found was place number shape aim a b g h some other u
          (gone ∙ ap (λ (ms : List Meeting). run (meets ms) w) ways);
    }

-- ---- ways, one after the other, and where they meet

module _ (is_free : Bool) (m : ℕ) (shape : Shape) (around : Around) (scope : Scope) (aim : Aim) (ws : List Way) where
  abbrev from : ℕ → Option Indices → Walk (Option Indices)
  from k first = each_way around is_free m shape (ways_seen around scope aim (drop k ws)) first

  abbrev one : Way → Option Indices → Walk (Option Indices)
  one way first = one_way around is_free m shape (way_seen around scope aim way) first

  pub ways_onward : (first now : Option Indices) (k : ℕ) (way : Way) (v u : Written) → k < length ws → way ≡ get_or ws k way
      → now ≡ got (one way first) v → u ≡ run (one way first) v
      → Alike (got (from (k + 1) now) u) (got (from k first) v) (run (from (k + 1) now) u) (run (from k first) v)
  ways_onward first now k way v u within is found was = record {
    value = ways_step is_free m shape around scope aim ws first now k way v u within is found was;
    walked = ways_walked is_free m shape around scope aim ws first now k way v u within is found was;
  }

  module _ (place : Place) (number : ℕ) (free : is_free ≡ is_none (wanted aim)) (first shown : Option Indices) (k : ℕ) (v w : Written)
      (next : m ≡ v.next) (past : length ws ≤ k) (same : shown ≡ first) where
    abbrev all : Walk (Option Indices)
    all = each_way around is_free m shape (ways_seen around scope aim ws) None

    abbrev met : Walk Indices
    met = met_value around place number shape (wanted aim) m shown

    abbrev whole : Walk Indices
    whole = meeting around place number shape (wanted aim) (ways_seen around scope aim ws)

    pub ways_met : got (from k first) w ≡ got all v → run (from k first) w ≡ run all v → Alike (got met w) (got whole v) (run met w) (run whole v)
    ways_met found was =
        let is = ways_ended is_free m shape around scope aim ws first k w past ∙ found in
        let went = ways_left is_free m shape around scope aim ws first k w past ∙ was in
        record {
          value = meeting_got around place number shape (wanted aim) (ways_seen around scope aim ws) is_free free m first shown v w next is went same;
          walked = meeting_run around place number shape (wanted aim) (ways_seen around scope aim ws) is_free free m first shown v w next is went same;
        }

-- ---- a `foreach`

module _ (place : Place) (name : List ℕ) (way : Counting) (around : Around) (scope : Scope) (body : Core) (cs three : List Core)
    (numbers : Option (List Num)) (b : Option Bounds) (v w : Written) (some : 4 ≤ length cs) (few : length cs < 5) (is : body ≡ get_or cs 3 body)
    (firsts : three ≡ take 3 cs) (found : numbers ≡ got (numbers_walk (each_part three) around scope) v)
    (was : w ≡ run (numbers_walk (each_part three) around scope) v) (bounded : b ≡ bounds_of numbers) where
  abbrev turns : Walk Indices
  turns = four place (λ a b c d. foreach_walk place name way a b c d around scope) (each_part cs)

  pub no_turns : b ≡ None → Alike I.Never (got turns v) w (run turns v)
  no_turns none = record {
    value = foreach_none_got place name way around scope body cs three numbers b v w some few is firsts found was bounded none;
    walked = foreach_none_run place name way around scope body cs three numbers b v w some few is firsts found was bounded none;
  }

  module _ (d : Bounds) (just : b ≡ Some d) where
    abbrev begun : Walk (List Bound)
    begun = turn_begun name way d.from d.to

    abbrev started : Written
    started = remembering (run (step_owed place d.by) w)

    pub some_turns : (names : List Bound) (inside : Scope) (w2 w3 w4 : Written) → names ≡ got begun started → w2 ≡ run begun started
        → inside ≡ names ++ scope → w3 ≡ run ((part body).walk around inside Aims.Free) w2 → w4 ≡ restored w3
        → Alike I.Unit (got turns v) w4 (run turns v)
    some_turns names inside w2 w3 w4 named two within third four = record {
      value = foreach_got place name way around scope body cs three numbers b v w some few is firsts found was bounded d just;
      walked = foreach_run place name way around scope body cs three numbers b v w some few is firsts found was bounded d just names inside w2 w3 w4
          named two within third four;
    }
