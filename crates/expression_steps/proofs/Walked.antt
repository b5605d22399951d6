-- What is written down behind walks over several parts.
use Rattle.std.proofs.Common.{◌≡◌, ◌∙◌, ◌<◌, ◌≤◌, ◌+◌, sym, refl, ℕ, zero, suc, List, [], ◌∷◌, length, drop, get_or, slice_get, add-one}
use Rattle.std.proofs.Common.{Bool, Option}
use Rattle.sail_types.specs.declared.shapes.Shape.{Shape}
use Rattle.sail_core.specs.declared.targets.Suffix.{Suffix}
use Rattle.sail_core.specs.declared.tree.Core.{Core}
use Rattle.value_indices.specs.Steps.{bind, give}
use Rattle.value_indices.specs.declared.indices.Indices.{Indices}
use Rattle.value_indices.specs.declared.indices.Reading.{Reading}
use Rattle.pattern_leaves.specs.Settings.{Around, Scope}
use Rattle.pattern_leaves.proofs.Rests.{rest_is, all_behind}
use Rattle.pattern_leaves.proofs.Walked.{consed}
use Rattle.call_arguments.specs.declared.aims.Aim.{Aim}
use Rattle.expression_steps.specs.Coded.{aim_or_free, each_part, way_core, way_seen, ways_seen}
use Rattle.expression_steps.specs.Expressions.{part}
use Rattle.expression_steps.specs.Parts.{Part, each_walk}
use Rattle.expression_steps.specs.Statements.{each_way, one_way}
use Rattle.expression_steps.specs.Statements as statements
use Rattle.expression_steps.specs.Values.{item_like, items_like, suffix_walk, suffixes_walk, then_on}
use Rattle.expression_steps.specs.declared.ways.Way.{Way}
use Rattle.expression_steps.specs.declared.ways.Way.TheVariants as B

-- ---- parts, each with what is wanted of it

each_step : (a : Part) (ps : List Part) (around : Around) (scope : Scope) (aims : List Aim) (k : ℕ)
    → each_walk (a ∷ ps) around scope (drop k aims)
    ≡ consed (a.walk around scope (aim_or_free (slice_get aims k))) (each_walk ps around scope (drop (suc k) aims))
each_step a ps around scope [] zero = refl
each_step a ps around scope [] (suc k) = refl
each_step a ps around scope (x ∷ aims) zero = refl
each_step a ps around scope (x ∷ aims) (suc k) = each_step a ps around scope aims k

pub each_more : (cs : List Core) (around : Around) (scope : Scope) (aims : List Aim) (k : ℕ) (c : Core) → k < length cs → c ≡ get_or cs k c
    → each_walk (each_part (drop k cs)) around scope (drop k aims)
    ≡ consed ((part c).walk around scope (aim_or_free (slice_get aims k))) (each_walk (each_part (drop (k + 1) cs)) around scope (drop (k + 1) aims))
each_more cs around scope aims k c within is =
    (λ j. each_walk (each_part (rest_is cs k c within is j)) around scope (drop k aims))
    ∙ each_step (part c) (each_part (drop (k + 1) cs)) around scope aims k
    ∙ (λ j. consed ((part c).walk around scope (aim_or_free (slice_get aims k)))
    (each_walk (each_part (drop (k + 1) cs)) around scope (drop (sym (add-one k) j) aims)))

pub each_end : (cs : List Core) (around : Around) (scope : Scope) (aims : List Aim) (k : ℕ) → length cs ≤ k
    → each_walk (each_part (drop k cs)) around scope (drop k aims) ≡ give []
each_end cs around scope aims k past = (λ j. each_walk (each_part (all_behind cs k past j)) around scope (drop k aims))

-- ---- items

pub like_more : (cs : List Core) (around : Around) (scope : Scope) (r : Reading) (k : ℕ) (c : Core) → k < length cs → c ≡ get_or cs k c
    → items_like (each_part (drop k cs)) around scope r
    ≡ consed (item_like (part c) around scope r) (items_like (each_part (drop (k + 1) cs)) around scope r)
like_more cs around scope r k c within is = (λ j. items_like (each_part (rest_is cs k c within is j)) around scope r)

pub like_end : (cs : List Core) (around : Around) (scope : Scope) (r : Reading) (k : ℕ) → length cs ≤ k
    → items_like (each_part (drop k cs)) around scope r ≡ give []
like_end cs around scope r k past = (λ j. items_like (each_part (all_behind cs k past j)) around scope r)

-- ---- suffixes

pub suffixes_more : (is_target : Bool) (ss : List Suffix) (around : Around) (scope : Scope) (parts : List Part) (i : Indices) (k : ℕ) (s : Suffix)
    → k < length ss → s ≡ get_or ss k s
    → suffixes_walk is_target (drop k ss) around scope parts i
    ≡ bind (suffix_walk is_target s parts around scope i) (then_on (suffixes_walk is_target (drop (k + 1) ss) around scope))
suffixes_more is_target ss around scope parts i k s within is = (λ j. suffixes_walk is_target (rest_is ss k s within is j) around scope parts i)

pub suffixes_end : (is_target : Bool) (ss : List Suffix) (around : Around) (scope : Scope) (parts : List Part) (i : Indices) (k : ℕ) → length ss ≤ k
    → suffixes_walk is_target (drop k ss) around scope parts i ≡ suffixes_walk is_target [] around scope parts i
suffixes_end is_target ss around scope parts i k past = (λ j. suffixes_walk is_target (all_behind ss k past j) around scope parts i)

-- ---- ways

pub ways_more : (is_free : Bool) (m : ℕ) (shape : Shape) (around : Around) (scope : Scope) (aim : Aim) (ws : List Way) (first : Option Indices) (k : ℕ)
    (w : Way) → k < length ws → w ≡ get_or ws k w
    → each_way around is_free m shape (ways_seen around scope aim (drop k ws)) first
    ≡ bind (one_way around is_free m shape (way_seen around scope aim w) first)
    (each_way around is_free m shape (ways_seen around scope aim (drop (k + 1) ws)))
ways_more is_free m shape around scope aim ws first k w within is =
    (λ j. each_way around is_free m shape (ways_seen around scope aim (rest_is ws k w within is j)) first)

pub ways_end : (is_free : Bool) (m : ℕ) (shape : Shape) (around : Around) (scope : Scope) (aim : Aim) (ws : List Way) (first : Option Indices) (k : ℕ)
    → length ws ≤ k → each_way around is_free m shape (ways_seen around scope aim (drop k ws)) first ≡ give first
ways_end is_free m shape around scope aim ws first k past = (λ j. each_way around is_free m shape (ways_seen around scope aim (all_behind ws k past j)) first)

-- ---- what a way is, by its part

pub way_ending : (around : Around) (scope : Scope) (aim : Aim) (w : Way)
    → statements.Way.never_ends (way_seen around scope aim w) ≡ (part (way_core w)).never_ends
way_ending around scope aim (B.Under c a) = refl
way_ending around scope aim (B.Case g place arm body i) = refl
way_ending around scope aim (B.Whole a) = refl

pub way_place : (around : Around) (scope : Scope) (aim : Aim) (w : Way)
    → statements.Way.place (way_seen around scope aim w) ≡ (part (way_core w)).place
way_place around scope aim (B.Under c a) = refl
way_place around scope aim (B.Case g place arm body i) = refl
way_place around scope aim (B.Whole a) = refl
