-- In bodies whose numbers differ notes are told apart.
use Rattle.std.proofs.Common.{◌≡◌, true, ◌+◌, ◌≤◌, List, [], ◌∷◌, ◌++◌, Option, Some, None, arith}
use Rattle.sail_core.specs.Nodes.{AllDiffer, numbers}
use Rattle.sail_core.specs.declared.model.Direction.{Direction}
use Rattle.sail_core.specs.declared.model.Function.{Function}
use Rattle.sail_core.specs.declared.model.Opening.{Opening}
use Rattle.sail_core.specs.declared.tree.Core.{Core}
use Rattle.pattern_leaves.specs.Settings.{Around}
use Rattle.size_splits.specs.Bodies.{Body}
use Rattle.size_notes.specs.Bodies.{body_of, function_bodies, function_read, mapping_read, measure_bodies, measure_read, opening_body, opening_read}
use Rattle.node_counts.specs.Counts.{Counted, mass, own, times, weigh}
use Rattle.node_counts.proofs.Counting.{bodies_apart, bodies_single, masses, once}
use Rattle.node_counts.specs.Apart.{NotesAreApart, NumbersAreGivenOnce, function_numbers, measure_numbers}
use Rattle.node_counts.specs.Told.{all_noted, are_apart, are_single}
use Rattle.node_counts.proofs.Bodies.{function_in, mapping_in, measure_in, opening_in}
use Rattle.node_counts.proofs.Trees.{times_both}
use Rattle.node_counts.proofs.Targets.{targets_in}

measured_mass : (q : Counted) (around : Around) (f : Function) → (o : Option Core) (bs : List Body)
    → masses q (measure_bodies around f o ++ bs) ≤ times q (measure_numbers o) + masses q bs
measured_mass q around f None bs = omega arith
measured_mass q around f (Some measure) bs =
    let l : mass (weigh q) (measure_read around f measure [] 0).notes ≤ times q (numbers measure) = measure_in q (targets_in q) around f measure [] 0 in
    omega (arith, l)

function_mass : (q : Counted) (around : Around) (f : Function) → masses q (function_bodies around f) ≤ times q (function_numbers f)
function_mass q around f =
    let k : masses q (function_bodies around f)
    ≤ times q (measure_numbers f.measure) + masses q (body_of (function_read around f) ∷ []) =
    measured_mass q around f f.measure (body_of (function_read around f) ∷ []) in
    let l : mass (weigh q) (function_read around f [] 0).notes ≤ times q (numbers f.body) + own q f.last = function_in q (targets_in q) around f [] 0 in
    let e : times q (function_numbers f) ≡ times q (numbers f.body) + times q (measure_numbers f.measure ++ (f.last ∷ [])) =
    times_both q (numbers f.body) (measure_numbers f.measure ++ (f.last ∷ [])) in
    let g : times q (measure_numbers f.measure ++ (f.last ∷ [])) ≡ times q (measure_numbers f.measure) + (own q f.last + 0) =
    times_both q (measure_numbers f.measure) (f.last ∷ []) in
    omega (arith, k, l, e, g)

pub function_apart : (around : Around) (f : Function) → AllDiffer (function_numbers f) → are_apart (all_noted (function_bodies around f)) ≡ true
function_apart around f h =
    bodies_apart (function_bodies around f) (λ q e.
    let k : masses q (function_bodies around f) ≤ times q (function_numbers f) = function_mass q around f in
    let l : times q (function_numbers f) ≤ 1 = once q (function_numbers f) h in omega (arith, k, l))

pub mapping_apart : (around : Around) (m n : Direction) → AllDiffer (numbers m.body ++ numbers n.body)
    → are_apart (all_noted (body_of (mapping_read around m n) ∷ [])) ≡ true
mapping_apart around m n h =
    bodies_apart (body_of (mapping_read around m n) ∷ []) (λ q none.
    let k : mass (weigh q) (mapping_read around m n [] 0).notes ≤ times q (numbers m.body) + times q (numbers n.body) =
    mapping_in q (targets_in q) around m n [] 0 in
    let e : times q (numbers m.body ++ numbers n.body) ≡ times q (numbers m.body) + times q (numbers n.body) =
    times_both q (numbers m.body) (numbers n.body) in
    let l : times q (numbers m.body ++ numbers n.body) ≤ 1 = once q (numbers m.body ++ numbers n.body) h in omega (arith, k, e, l))

pub opening_apart : (around : Around) (o : Opening) → AllDiffer (numbers o.value) → are_apart (all_noted (opening_body around o ∷ [])) ≡ true
opening_apart around o h =
    bodies_apart (opening_body around o ∷ []) (λ q none.
    let k : mass (weigh q) (opening_read around o [] 0).notes ≤ times q (numbers o.value) = opening_in q (targets_in q) around o [] 0 in
    let l : times q (numbers o.value) ≤ 1 = once q (numbers o.value) h in omega (arith, k, l))

-- ---- the numbers that values give

pub function_single : (around : Around) (f : Function) → AllDiffer (function_numbers f)
    → are_single (all_noted (function_bodies around f)) ≡ true
function_single around f h =
    bodies_single (function_bodies around f) (λ q g.
    let k : masses q (function_bodies around f) ≤ times q (function_numbers f) = function_mass q around f in
    let l : times q (function_numbers f) ≤ 1 = once q (function_numbers f) h in omega (arith, k, l))

pub mapping_single : (around : Around) (m n : Direction) → AllDiffer (numbers m.body ++ numbers n.body)
    → are_single (all_noted (body_of (mapping_read around m n) ∷ [])) ≡ true
mapping_single around m n h =
    bodies_single (body_of (mapping_read around m n) ∷ []) (λ q g.
    let k : mass (weigh q) (mapping_read around m n [] 0).notes ≤ times q (numbers m.body) + times q (numbers n.body) =
    mapping_in q (targets_in q) around m n [] 0 in
    let e : times q (numbers m.body ++ numbers n.body) ≡ times q (numbers m.body) + times q (numbers n.body) =
    times_both q (numbers m.body) (numbers n.body) in
    let l : times q (numbers m.body ++ numbers n.body) ≤ 1 = once q (numbers m.body ++ numbers n.body) h in omega (arith, k, e, l))

pub opening_single : (around : Around) (o : Opening) → AllDiffer (numbers o.value)
    → are_single (all_noted (opening_body around o ∷ [])) ≡ true
opening_single around o h =
    bodies_single (opening_body around o ∷ []) (λ q g.
    let k : mass (weigh q) (opening_read around o [] 0).notes ≤ times q (numbers o.value) = opening_in q (targets_in q) around o [] 0 in
    let l : times q (numbers o.value) ≤ 1 = once q (numbers o.value) h in omega (arith, k, l))

pub notes_are_apart : NotesAreApart
notes_are_apart around = record {
  function = function_apart around;
  mapping = mapping_apart around;
  opening = opening_apart around;
}

pub numbers_are_given_once : NumbersAreGivenOnce
numbers_are_given_once around = record {
  function = function_single around;
  mapping = mapping_single around;
  opening = opening_single around;
}
