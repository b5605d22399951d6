-- The world of a plain expression, in which an operator means its builtin members alone.
use Rattle.std.proofs.Common.{◌≡◌, ℕ, List, [], ◌∷◌, ◌++◌, map, ap, sym, ◌∙◌, refl, subst, Bool, true, false, Option, Some, None, if◌then◌else◌}
use Rattle.std.proofs.Common.{append-nil}
use Rattle.sail_base.specs.declared.operators.Operator.{Operator}
use Rattle.sail_base.specs.declared.operators.Operator.TheVariants as O
use Rattle.sail_base.specs.declared.place.Place.{Place}
use Rattle.sail_types.specs.Rows.{members_of, operator_rows}
use Rattle.sail_types.specs.declared.members.Member.{Member}
use Rattle.sail_types.specs.declared.shapes.Shape.{Shape}
use Rattle.sail_types.specs.declared.table.Types.{Types}
use Rattle.sail_types.specs.declared.values.Value.{Value}
use Rattle.sail_core.specs.declared.tree.Callee.TheVariants as C
use Rattle.sail_core.specs.Run.{Now, needs, ◌then◌}
use Rattle.sail_core.specs.Making as Core
use Rattle.sail_meaning.specs.Text.{Callee, cons}
use Rattle.sail_meaning.specs.Choice.{accepts, first_fitting, builtins, operator_builtins}
use Rattle.sail_meaning.specs.World as Source
use Rattle.sail_meaning.specs.World.{apply_builtin, plain}
use Rattle.shape_rules.specs.declared.callees.Candidate.{Candidate}
use Rattle.shape_rules.specs.declared.callees.Doing.{Doing}
use Rattle.shape_rules.specs.declared.callees.Doing.TheVariants as D
use Rattle.shape_rules.specs.declared.callees.Meant.{Meant}
use Rattle.shape_rules.specs.declared.callees.Meant.TheVariants as M
use Rattle.shape_rules.specs.Scopes.{Setting, plainly, thrown_shape}
use Rattle.shape_rules.specs.Calls.{member_candidate, cons_candidate, operator_members}
use Rattle.shape_meanings.specs.Worlds.{Apply, StandForEach, ApartFrom, Distinct, HeadAs, NameCalled, ValueAs, IsMapping, IsDirection, Describes}
use Rattle.shape_meanings.specs.Worlds.{is_builtin}
use Rattle.shape_meanings.proofs.Operators.{builtins_applied}

-- ---- names mean the same

value_plain : (setting : Setting) (registers : List Shape) (wc : Core.World Value) (ws : Source.World) (name : List ℕ) (meant : Option Meant)
    → ValueAs setting registers wc ws name meant → ValueAs (plainly setting) registers wc (plain ws) name meant
value_plain setting registers wc ws name (Some (M.Register r s)) h = h
value_plain setting registers wc ws name (Some (M.Let i s)) h = h
value_plain setting registers wc ws name (Some (M.Member i k)) h = h
value_plain setting registers wc ws name meant h = h

direction_plain : (setting : Setting) (d : ℕ) (it : _) → IsDirection setting d it → IsDirection (plainly setting) d it
direction_plain setting d it h = record { takes = h.takes; gives = h.gives; given = h.given; taken = h.taken }

head_plain : (setting : Setting) (registers : List Shape) (wc : Core.World Value) (ws : Source.World) (name : List ℕ) (f : Candidate) (callee : Callee)
    (doing : Doing) → HeadAs setting registers wc ws name f callee doing → HeadAs (plainly setting) registers wc (plain ws) name f callee doing
head_plain setting registers wc ws name f callee (D.Calls (C.Constructor u k)) h = h
head_plain setting registers wc ws name f callee (D.Calls (C.Converts d)) h =
    (h.0, (h.1.0, h.1.1, direction_plain setting d h.1.0 h.1.2, h.1.3, h.1.4))
head_plain setting registers wc ws name f callee doing h = h

mapping_plain : (setting : Setting) (registers : List Shape) (wc : Core.World Value) (ws : Source.World) (apply : Apply) (name : List ℕ) (m : _)
    → IsMapping setting registers wc ws apply name m → IsMapping (plainly setting) registers wc (plain ws) apply name m
mapping_plain setting registers wc ws apply name m h = record {
  forwards = h.forwards;
  backwards = h.backwards;
  called = h.called;
  left = h.left;
  right = h.right;
  ahead = direction_plain setting _ h.forwards h.ahead;
  back = direction_plain setting _ h.backwards h.back;
  calls_ahead = h.calls_ahead;
  calls_back = h.calls_back;
  ways_ahead = h.ways_ahead;
  ways_back = h.ways_back;
  no_constructor = h.no_constructor;
}

called_plain : (setting : Setting) (registers : List Shape) (wc : Core.World Value) (ws : Source.World) (apply : Apply) (name : List ℕ) (meant : Option Meant)
    → NameCalled setting registers wc ws apply name meant → NameCalled (plainly setting) registers wc (plain ws) apply name meant
called_plain setting registers wc ws apply name (Some (M.Callee f)) h = (h.0, h.1, h.2, head_plain setting registers wc ws name f h.0 f.doing h.3)
called_plain setting registers wc ws apply name (Some (M.Row row)) h = h
called_plain setting registers wc ws apply name (Some (M.Mapping m)) h = mapping_plain setting registers wc ws apply name m h
called_plain setting registers wc ws apply name (Some (M.Overload fs)) h = h
called_plain setting registers wc ws apply name meant h = tt

-- ---- the builtin members of an operator

-- members that come first stand for the callees that come first
first_stand : (types : Types) (registers : List Shape) (thrown : Shape) (wc : Core.World Value) (apply : Apply) (ms : List Member) (fs : List Candidate)
    (callees : List Callee) → StandForEach types registers thrown wc apply (map member_candidate ms ++ fs) (builtins ms ++ callees)
    → StandForEach types registers thrown wc apply (map member_candidate ms ++ []) (builtins ms)
first_stand types registers thrown wc apply [] fs callees h = tt
first_stand types registers thrown wc apply (m ∷ ms) fs callees h = (h.0, first_stand types registers thrown wc apply ms fs callees h.1)

apart_first : (f : Candidate) (gs fs : List Candidate) → ApartFrom f (gs ++ fs) → ApartFrom f (gs ++ [])
apart_first f [] fs h = tt
apart_first f (g ∷ gs) fs h = (h.0, apart_first f gs fs h.1)

distinct_first : (gs fs : List Candidate) → Distinct (gs ++ fs) → Distinct (gs ++ [])
distinct_first [] fs h = tt
distinct_first (g ∷ gs) fs h = (apart_first g gs fs h.0, distinct_first gs fs h.1)

abbrev Standing : Setting → List Shape → Core.World Value → Apply → Operator → List Callee → Type 0
Standing setting registers wc apply operator callees =
    StandForEach setting.types registers (thrown_shape setting) wc apply (operator_members setting operator) callees

members_plain : (setting : Setting) (registers : List Shape) (wc : Core.World Value) (apply : Apply) (operator : Operator) (added : List Callee)
    → Standing setting registers wc apply operator (operator_builtins setting.types operator ++ added)
    → Standing (plainly setting) registers wc apply operator (operator_builtins setting.types operator)
members_plain setting registers wc apply O.Cons added h = (h.0, tt)
members_plain setting registers wc apply operator added h =
    first_stand setting.types registers (thrown_shape setting) wc apply (members_of setting.types (operator_rows operator)) (setting.added operator) added h

distinct_plain : (setting : Setting) (operator : Operator) → Distinct (operator_members setting operator)
    → Distinct (operator_members (plainly setting) operator)
distinct_plain setting O.Cons h =
    distinct_first (cons_candidate ∷ map member_candidate (members_of setting.types (operator_rows O.Cons))) (setting.added O.Cons) h
distinct_plain setting operator h =
    distinct_first (map member_candidate (members_of setting.types (operator_rows operator))) (setting.added operator) h

-- a builtin member is applied as any callee is
cons_applied : (types : Types) (apply : Apply) (hart : ℕ) (place : Place) (vs : List Value) (now : Now Value)
    → apply place cons vs ≡ apply_builtin hart cons vs
    → (needs (first_fitting types (cons ∷ []) vs) then λ callee. apply_builtin hart callee vs) now
    ≡ (needs (first_fitting types (cons ∷ []) vs) then λ callee. apply place callee vs) now
cons_applied types apply hart place vs now same = by_test (accepts types vs cons)
  where
    by_test : (b : Bool) → (needs (if b then Some cons else None) then λ callee. apply_builtin hart callee vs) now
        ≡ (needs (if b then Some cons else None) then λ callee. apply place callee vs) now
    by_test true = λ i. sym same i now
    by_test false = refl

pub plain_applied : (types : Types) (apply : Apply) (hart : ℕ) (place : Place) (operator : Operator) (vs : List Value) (now : Now Value)
    → ((callee : Callee) → is_builtin callee ≡ true → apply place callee vs ≡ apply_builtin hart callee vs)
    → (needs (first_fitting types (operator_builtins types operator) vs) then λ callee. apply_builtin hart callee vs) now
    ≡ (needs (first_fitting types (operator_builtins types operator) vs) then λ callee. apply place callee vs) now
plain_applied types apply hart place O.Cons vs now same = cons_applied types apply hart place vs now (same cons refl)
plain_applied types apply hart place operator vs now same = builtins_applied types apply hart place vs (members_of types (operator_rows operator)) now same

-- ---- what describes the worlds around an expression describes those around a plain one

pub plain_described : (setting : Setting) (registers : List Shape) (wc : Core.World Value) (ws : Source.World) → Describes setting registers wc ws
    → Describes (plainly setting) registers wc (plain ws)
plain_described setting registers wc ws d = record {
  types = d.types;
  within = d.within;
  numbers = d.numbers;
  hart = d.hart;
  bare = d.bare;
  closed_registers = d.closed_registers;
  closed_thrown = d.closed_thrown;
  answer = d.answer;
  fields_below = d.fields_below;
  structs = d.structs;
  values = λ name. value_plain setting registers wc ws name (setting.value name) (d.values name);
  apply = d.apply;
  names = λ name. called_plain setting registers wc ws d.apply name (setting.value name) (d.names name);
  calls = d.calls;
  members = operator_builtins setting.types;
  operators = λ place operator v u i now.
      (ap (λ t. (needs (first_fitting t (operator_builtins t operator) (v ∷ u ∷ [])) then λ callee. apply_builtin ws.hart callee (v ∷ u ∷ [])) now) d.types
      ∙ plain_applied setting.types d.apply ws.hart place operator (v ∷ u ∷ []) now (λ callee is. d.builtins_apply place callee (v ∷ u ∷ []) is)) i;
  members_stand = λ operator.
      let b = d.builtins_first operator in (
        members_plain setting registers wc d.apply operator b.0 (subst (Standing setting registers wc d.apply operator) b.1 (d.members_stand operator).0),
        distinct_plain setting operator (d.members_stand operator).1,
      );
  builtins_first = λ operator. ([], sym (append-nil (operator_builtins setting.types operator)));
  prefixes_stand = d.prefixes_stand;
  builtins_apply = d.builtins_apply;
}
