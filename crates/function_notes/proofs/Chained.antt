-- Walks one after the other, and what is written down behind them.
use Rattle.std.proofs.Common.{◌≡◌, ◌∙◌, ap, sym, true, List, [], Result, Ok, Err}
use Rattle.std.specs.Prelude.{OnOk}
use Rattle.sail_types.specs.declared.numbers.Index.{Index}
use Rattle.sail_types.specs.declared.types.Typ.{Typ}
use Rattle.sail_core.specs.declared.model.Function.{Function}
use Rattle.sail_core.specs.declared.tree.Core.{Core}
use Rattle.sail_core.specs.declared.written.WrittenNumber.{WrittenNumber}
use Rattle.value_indices.specs.declared.indices.Reading.{Reading}
use Rattle.value_indices.specs.Steps.{Walk, bind, scoped}
use Rattle.value_indices.specs.Walking.{Written, got, run, remembering, restored}
use Rattle.value_indices.proofs.Walks.{got_bind, run_bind, got_scoped, run_scoped}
use Rattle.pattern_leaves.specs.Settings.{Around}
use Rattle.call_arguments.specs.Aims.{aimed}
use Rattle.call_arguments.specs.declared.aims.Aim.{Aim}
use Rattle.call_arguments.specs.declared.aims.Aim.TheVariants as Aims
use Rattle.expression_notes.specs.Statements.{natural_type}
use Rattle.function_notes.specs.Functions.{own_indices, constrained, inside_function, reading_under, clauses_of}
use Rattle.function_notes.specs.Functions.{body_walk, function_clauses, function_walk, last_made, measure_walk, measured_walk}

module _ {A B C : Type 0} (first : Walk A) (second : Walk (Unit {0})) (third : A → Walk B) (last : B → Walk C) where
  abbrev chain : Walk C
  chain = bind first (λ x. bind second (λ t. bind (third x) last))

  run_chain : (w : Written) → run chain w
      ≡ run (last (got (third (got first w)) (run second (run first w)))) (run (third (got first w)) (run second (run first w)))
  run_chain w =
      run_bind first (λ x. bind second (λ t. bind (third x) last)) w
      ∙ (run_bind second (λ t. bind (third (got first w)) last) (run first w)
      ∙ run_bind (third (got first w)) last (run second (run first w)))

  got_chain : (w : Written) → got chain w
      ≡ got (last (got (third (got first w)) (run second (run first w)))) (run (third (got first w)) (run second (run first w)))
  got_chain w =
      got_bind first (λ x. bind second (λ t. bind (third x) last)) w
      ∙ (got_bind second (λ t. bind (third (got first w)) last) (run first w)
      ∙ got_bind (third (got first w)) last (run second (run first w)))

  module _ (w v u s r : Written) (x : A) (y : B) (remembered : v ≡ remembering w) (gives : x ≡ got first v) (walks : u ≡ run first v)
      (owes : s ≡ run second u) (finds : y ≡ got (third x) s) (meets : r ≡ run (third x) s) where
    there : s ≡ run second (run first v)
    there = owes ∙ ap (run second) walks

    pub chained_run : (q p : Written) → q ≡ run (last y) r → p ≡ restored q → p ≡ run (scoped chain) w
    chained_run q p ends restores =
        restores
        ∙ (ap restored (ends
        ∙ ((λ j. run (last (finds j)) (meets j))
        ∙ ((λ j. run (last (got (third (gives j)) (there j))) (run (third (gives j)) (there j)))
        ∙ (sym (run_chain v) ∙ ap (run chain) remembered))))
        ∙ sym (run_scoped chain w))

    pub chained_got : (z : C) → z ≡ got (last y) r → z ≡ got (scoped chain) w
    chained_got z ends =
        ends
        ∙ ((λ j. got (last (finds j)) (meets j))
        ∙ ((λ j. got (last (got (third (gives j)) (there j))) (run (third (gives j)) (there j)))
        ∙ (sym (got_chain v) ∙ (ap (got chain) remembered ∙ sym (got_scoped chain w)))))

module _ {A C : Type 0} (first : Walk A) (second : Walk (Unit {0})) (last : A → Walk C) where
  pub plain_run : (w v u s : Written) (x : A) → x ≡ got first w → v ≡ run first w → u ≡ run second v → s ≡ run (last x) u
      → s ≡ run (bind first (λ y. bind second (λ t. last y))) w
  plain_run w v u s x gives walks owes ends =
      ends
      ∙ ((λ j. run (last (gives j)) ((owes ∙ ap (run second) walks) j))
      ∙ (sym (run_bind second (λ t. last (got first w)) (run first w))
      ∙ sym (run_bind first (λ y. bind second (λ t. last y)) w)))

-- a function and its measure: type variables, the constraint, and the clauses
module _ (around : Around) (f : Function) (inner : Around) (ts : List Typ) (once : List WrittenNumber) (aim : Aim) (is : List Index) (w v u : Written)
    (gives : is ≡ got (own_indices f.variables) w) (walks : v ≡ run (own_indices f.variables) w) (owes : u ≡ run (constrained f.constraint) v)
    (inside : inner ≡ inside_function around f is) (types : ts ≡ f.parameters) where
  pub function_end : {A E : Type 0} (r : Result A E) (s t : Written) (last : Reading) → once ≡ f.numbers
      → aim ≡ aimed Aims.Due (reading_under f.result is) → last ≡ reading_under f.result is
      → s ≡ run (clauses_of inner ts once aim f.is_declared f.body) u → OnOk r (t ≡ run (last_made f.last last) s)
      → OnOk r (t ≡ run (function_walk around f) w)
  function_end (Ok x) s t last numbers wanted same went h =
      let within = inside_function around f is in
      let clauses : s ≡ run (function_clauses f within) u =
      went ∙ (λ j. run (clauses_of (inside j) (types j) (numbers j) (wanted j) f.is_declared f.body) u) in
      plain_run (own_indices f.variables) (constrained f.constraint) (λ (js : List Index). body_walk f (inside_function around f js)) w v u t is
      gives walks owes (h
      ∙ (λ j. run (last_made f.last (same j)) (clauses j))
      ∙ sym (run_bind (function_clauses f within) (λ y. last_made f.last (reading_under f.result is)) u))
  function_end (Err e) s t last numbers wanted same went h = tt

  pub measure_end : {A E : Type 0} (r : Result A E) (s : Written) (measure : Core) → once ≡ [] → aim ≡ Aims.Due natural_type
      → OnOk r (s ≡ run (clauses_of inner ts once aim true measure) u) → OnOk r (s ≡ run (measure_walk around f measure) w)
  measure_end (Ok x) s measure numbers wanted h =
      plain_run (own_indices f.variables) (constrained f.constraint) (λ (js : List Index). measured_walk f measure (inside_function around f js)) w v u s is
      gives walks owes (h ∙ (λ j. run (clauses_of (inside j) (types j) (numbers j) (wanted j) true measure) u))
  measure_end (Err e) s measure numbers wanted h = tt
