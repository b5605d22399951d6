-- The core of every text has numbers that differ in each definition: they are given one after the other.
use Rattle.std.proofs.Common.{◌≡◌, ◌≢◌, ℕ, zero, suc, ◌+◌, ◌<◌, ◌≤◌, List, [], ◌∷◌, ◌++◌, map, take, drop, Option, Some, None, append_assoc, refl, subst}
use Rattle.std.proofs.Common.{arith}
use Rattle.std.specs.Prelude.{slice_get}
use Rattle.sail_base.specs.declared.place.Place.{Place}
use Rattle.sail_types.specs.declared.shapes.Shape.{Shape}
use Rattle.sail_syntax.specs.declared.definitions.Def.{Def}
use Rattle.sail_syntax.specs.declared.definitions.Def.TheVariants as D
use Rattle.sail_syntax.specs.declared.definitions.FunctionClause.{FunctionClause}
use Rattle.sail_syntax.specs.declared.definitions.MappingClause.{MappingClause}
use Rattle.sail_kinds.specs.declared.scope.Variable.{Variable}
use Rattle.sail_signatures.specs.declared.signature.Signature.{Signature}
use Rattle.sail_core.specs.Nodes.{AllDiffer, is_new, numbers}
use Rattle.sail_core.specs.declared.model.Direction.{Direction}
use Rattle.sail_core.specs.declared.model.Function.{Function}
use Rattle.sail_core.specs.declared.model.Opening.{Opening}
use Rattle.sail_core.specs.declared.tree.Core.{Core}
use Rattle.core_numbers.specs.Numbers.{Numbered, numbered}
use Rattle.core_numbers.proofs.Differ.{Runs, both_differ, core_runs, numbers_differ, runs_behind}
use Rattle.shape_rules.specs.declared.locals.Local.{Local}
use Rattle.shape_rules.specs.Calls.{param_shapes}
use Rattle.shape_rules.specs.Scopes.{Setting}
use Rattle.shape_rules.specs.Written.{joined, shape_in}
use Rattle.shape_joins.proofs.JoinsLeast.{none, some_same}
use Rattle.shape_models.specs.Models.{Own, Tabled, mapping_of, setting_of}
use Rattle.shape_clauses.specs.Clauses.{clauses_core}
use Rattle.shape_clauses.specs.Functions.{Measure, function_in, functions_if, functions_of, measure_core, measure_of, measure_tree, signed_clauses}
use Rattle.shape_clauses.specs.Mappings.{backwards_clauses, directions_if, directions_of, forwards_clauses}
use Rattle.shapes.specs.Failures.{all_lets, initial_found, let_under, lets_with, own_in}
use Rattle.shapes.specs.Resolved.{all_openings, in_text_order, initial_openings, initials_left, initials_openings, let_openings, lets_left, lets_openings}
use Rattle.shapes.specs.Resolved.{registers_with, took}
use Rattle.shapes.specs.Tabled.{tabled_of}
use Rattle.text_progress.specs.Laws.{core_of}
use Rattle.met_notes.specs.Met.{Pair, pairs}
use Rattle.node_counts.specs.Apart.{function_numbers, measure_numbers}
use Rattle.covering_laws.specs.Apart.{NumbersApart}

-- ---- numbers that come one after the other, and a later one

no_later : (i n m k : ℕ) (xs : List ℕ) → i < n → Runs xs n m → m ≤ k → is_new i (xs ++ (k ∷ []))
no_later i n m k [] less h l = let e : n ≡ m = h in ((λ same. absurd (omega (arith, e, same, less, l))), tt)
no_later i n m k (x ∷ xs) less h l =
    let is : x ≡ n = h.0 in ((λ same. absurd (omega (arith, is, same, less))), no_later i (suc n) m k xs (omega (arith, less)) h.1 l)

with_later : (xs : List ℕ) (n m k : ℕ) → Runs xs n m → m ≤ k → AllDiffer (xs ++ (k ∷ []))
with_later [] n m k h l = (tt, tt)
with_later (x ∷ xs) n m k h l =
    let is : x ≡ n = h.0 in (no_later x (suc n) m k xs (omega (arith, is)) h.1 l, with_later xs (suc n) m k h.1 l)

-- ---- functions

measure_runs : (setting : Setting) (params : List Shape) (o : Option Measure) (n : ℕ)
    → Runs (measure_numbers (measure_core setting params o n).it) n (measure_core setting params o n).next
measure_runs setting params None n = refl
measure_runs setting params (Some m) n = core_runs (measure_tree setting params m) n

function_differs : (tabled : Tabled) (text : List Def) (setting : Setting) (place : Place) (name : List ℕ) (clauses : List FunctionClause) (s : Signature)
    (cycle : Option ℕ) → AllDiffer (function_numbers (function_in tabled text setting place name clauses s cycle))
function_differs tabled text setting place name clauses s cycle =
    let core : Core = clauses_core place (signed_clauses setting s clauses) in
    let body : Numbered Core = numbered core 0 in
    let measure : Numbered (Option Core) = measure_core setting (param_shapes s.from) (measure_of name text) body.next in
    let both : Runs (numbers body.it ++ measure_numbers measure.it) 0 measure.next =
    runs_behind (numbers body.it) (measure_numbers measure.it) 0 body.next measure.next (core_runs core 0)
    (measure_runs setting (param_shapes s.from) (measure_of name text) body.next) in
    subst AllDiffer (append_assoc (numbers body.it) (measure_numbers measure.it) (suc measure.next ∷ []))
    (with_later (numbers body.it ++ measure_numbers measure.it) 0 measure.next (suc measure.next) both (omega arith))

abbrev AllApart : List Function → Type 0
AllApart [] = Unit {0}
AllApart (f ∷ fs) = AllDiffer (function_numbers f) × AllApart fs

apart_at : (fs : List Function) → AllApart fs → (i : ℕ) (f : Function) → slice_get fs i ≡ Some f → AllDiffer (function_numbers f)
apart_at [] h i f e = none e
apart_at (x ∷ fs) h zero f e = subst (λ (g : Function). AllDiffer (function_numbers g)) (some_same x f e) h.0
apart_at (x ∷ fs) h (suc i) f e = apart_at fs h.1 i f e

apart_join : (fs gs : List Function) → AllApart fs → AllApart gs → AllApart (fs ++ gs)
apart_join [] gs h k = k
apart_join (f ∷ fs) gs h k = (h.0, apart_join fs gs h.1 k)

-- ---- mappings

abbrev PairsApart : List Pair → Type 0
PairsApart [] = Unit {0}
PairsApart (p ∷ ps) = AllDiffer (numbers p.forwards.body ++ numbers p.backwards.body) × PairsApart ps

pair_at : (ps : List Pair) → PairsApart ps → (i : ℕ) (p : Pair) → slice_get ps i ≡ Some p → AllDiffer (numbers p.forwards.body ++ numbers p.backwards.body)
pair_at [] h i p e = none e
pair_at (x ∷ ps) h zero p e = subst (λ (q : Pair). AllDiffer (numbers q.forwards.body ++ numbers q.backwards.body)) (some_same x p e) h.0
pair_at (x ∷ ps) h (suc i) p e = pair_at ps h.1 i p e

pairs_if : (setting : Setting) (place : Place) (name : List ℕ) (cs : List MappingClause) (o : Option Signature) (ds : List Direction) → PairsApart (pairs ds)
    → PairsApart (pairs (directions_if setting place name cs o ++ ds))
pairs_if setting place name cs None ds h = h
pairs_if setting place name cs (Some s) ds h = (
  both_differ (clauses_core place (forwards_clauses setting (mapping_of name 0 s) cs))
      (clauses_core place (backwards_clauses setting (mapping_of name 0 s) cs)) 0,
  h,
)

pairs_apart : (tabled : Tabled) (setting : Setting) (rest : List Def) → PairsApart (pairs (joined (map (directions_of tabled setting) rest)))
pairs_apart tabled setting [] = tt
pairs_apart tabled setting (D.Mapping place name sides cs ∷ rest) =
    pairs_if setting place name.text cs (tabled.signature name.text) (joined (map (directions_of tabled setting) rest)) (pairs_apart tabled setting rest)
pairs_apart tabled setting (d ∷ rest) = pairs_apart tabled setting rest

-- ---- openings

abbrev EachApart : List Opening → Type 0
EachApart [] = Unit {0}
EachApart (o ∷ os) = AllDiffer (numbers o.value) × EachApart os

opening_at : (os : List Opening) → EachApart os → (i : ℕ) (o : Opening) → slice_get os i ≡ Some o → AllDiffer (numbers o.value)
opening_at [] h i o e = none e
opening_at (x ∷ os) h zero o e = subst (λ (p : Opening). AllDiffer (numbers p.value)) (some_same x o e) h.0
opening_at (x ∷ os) h (suc i) o e = opening_at os h.1 i o e

both_apart : (os ps : List Opening) → EachApart os → EachApart ps → EachApart (os ++ ps)
both_apart [] ps h k = k
both_apart (o ∷ os) ps h k = (h.0, both_apart os ps h.1 k)

taken : (os : List Opening) → EachApart os → EachApart (take 1 os)
taken [] h = tt
taken (o ∷ os) h = (h.0, tt)

left : (os : List Opening) → EachApart os → EachApart (drop 1 os)
left [] h = tt
left (o ∷ os) h = h.1

took_apart : (d : Def) (os ps : List Opening) → EachApart os → EachApart ps → EachApart (took d os ps)
took_apart (D.Let place p value) os ps h k = taken os h
took_apart (D.Register place name typ (Some value)) os ps h k = taken ps k
took_apart (D.Register place name typ None) os ps h k = tt
took_apart d os ps h k = tt

lets_after : (d : Def) (os : List Opening) → EachApart os → EachApart (lets_left d os)
lets_after (D.Let place p value) os h = left os h
lets_after d os h = h

initials_after : (d : Def) (ps : List Opening) → EachApart ps → EachApart (initials_left d ps)
initials_after (D.Register place name typ (Some value)) ps k = left ps k
initials_after (D.Register place name typ None) ps k = k
initials_after d ps k = k

order_apart : (rest : List Def) (os ps : List Opening) → EachApart os → EachApart ps → EachApart (in_text_order rest os ps)
order_apart [] os ps h k = tt
order_apart (d ∷ rest) os ps h k =
    both_apart (took d os ps) (in_text_order rest (lets_left d os) (initials_left d ps)) (took_apart d os ps h k)
    (order_apart rest (lets_left d os) (initials_left d ps) (lets_after d os h) (initials_after d ps k))

module _ (tabled : Tabled) (text : List Def) where
  abbrev own : Own
  own = own_in tabled text

  let_apart : (lets : List Local) (d : Def) → EachApart (let_openings tabled own text lets d)
  let_apart lets (D.Let place p value) = (numbers_differ (let_under tabled own text lets place p value).part 0, tt)
  let_apart lets d = tt

  lets_apart : (lets : List Local) (rest : List Def) → EachApart (lets_openings tabled own text lets rest)
  lets_apart lets [] = tt
  lets_apart lets (d ∷ rest) =
      both_apart (let_openings tabled own text lets d) (lets_openings tabled own text (lets_with tabled own text lets d) rest) (let_apart lets d)
      (lets_apart (lets_with tabled own text lets d) rest)

  initial_apart : (setting : Setting) (r : ℕ) (d : Def) → EachApart (initial_openings setting r d)
  initial_apart setting r (D.Register place name typ None) = tt
  initial_apart setting r (D.Register place name typ (Some value)) =
      (numbers_differ (initial_found setting (shape_in setting.within typ) value).core 0, tt)
  initial_apart setting r d = tt

  initials_apart : (setting : Setting) (r : ℕ) (rest : List Def) → EachApart (initials_openings setting r rest)
  initials_apart setting r [] = tt
  initials_apart setting r (d ∷ rest) =
      both_apart (initial_openings setting r d) (initials_openings setting (registers_with r d) rest) (initial_apart setting r d)
      (initials_apart setting (registers_with r d) rest)

  -- ---- functions of definitions

  module _ (within : List Variable → Setting) (cycle : List ℕ → Option ℕ) where
    function_if : (place : Place) (name : List ℕ) (clauses : List FunctionClause) (o : Option Signature) (at : Option ℕ)
        → AllApart (functions_if tabled text within place name clauses o at)
    function_if place name clauses None at = tt
    function_if place name clauses (Some s) at = (function_differs tabled text (within s.variables) place name clauses s at, tt)

    function_apart : (d : Def) → AllApart (functions_of tabled text within cycle d)
    function_apart (D.Function place extent name clauses) = function_if place name.text clauses (tabled.signature name.text) (cycle name.text)
    function_apart d = tt

    functions_apart : (rest : List Def) → AllApart (joined (map (functions_of tabled text within cycle) rest))
    functions_apart [] = tt
    functions_apart (d ∷ rest) =
        apart_join (functions_of tabled text within cycle d) (joined (map (functions_of tabled text within cycle) rest)) (function_apart d)
        (functions_apart rest)

pub texts_apart : (text : List Def) (cycle : List ℕ → Option ℕ) → NumbersApart (core_of text cycle)
texts_apart text cycle =
    let tabled : Tabled = tabled_of text in
    let own : Own = own_in tabled text in
    let lets : List Local = all_lets tabled text in
    let within : List Variable → Setting = setting_of tabled own text lets in
    let all : Setting = within [] in
    record {
      functions = λ i f e. apart_at (joined (map (functions_of tabled text within cycle) text)) (functions_apart tabled text within cycle text) i f e;
      mappings = λ i p e. pair_at (pairs (joined (map (directions_of tabled all) text))) (pairs_apart tabled all text) i p e;
      openings = λ i o e. opening_at (all_openings tabled own text lets)
          (order_apart text (lets_openings tabled own text [] text) (initials_openings all 0 text) (lets_apart tabled text [] text)
          (initials_apart tabled text all 0 text)) i o e;
    }
