-- Functions of a module are valid: their slots, their results, and each instruction of their code.
use Rattle.std.proofs.Common.{◌≡◌, ◌∙◌, ℕ, zero, suc, ◌<◌, ◌≤◌, ◌+◌, ◌-◌, Bool, true}
use Rattle.std.proofs.Common.{List, [], ◌∷◌, length, map, Option, Some, refl, sym, ap, subst}
use Rattle.std.proofs.Common.{arith, eq-eqb}
use Rattle.std.specs.Prelude.{◌&&◌, ◌*◌, ◌++◌, nat_lt, option_map, slice_get}
use Rattle.sail_core.specs.declared.model.CoreModel.{CoreModel}
use Rattle.sail_core.specs.declared.tree.Core.{Core}
use Rattle.size_values.specs.declared.sized.Sized.{Sized}
use Rattle.sized_nodes.specs.declared.trees.SizedCore.{SizedCore}
use Rattle.sized_nodes.specs.declared.trees.SizedInstance.{SizedInstance}
use Rattle.jib.specs.declared.code.Instruction.{Instruction}
use Rattle.jib.specs.declared.code.Function.{Function as Made}
use Rattle.jib.specs.declared.code.Module.{Module}
use Rattle.jib.specs.Operands.{each}
use Rattle.jib.specs.Typing.{same}
use Rattle.jib.specs.Valid.{all_typs, function_right, instruction_right, is_end, is_typ, parameter_right}
use Rattle.lowered_slots.specs.declared.slots.Slot.{Slot}
use Rattle.lowered_slots.specs.Laws.{SlotsTyped}
use Rattle.lowered_slots.specs.Slots.{name_in}
use Rattle.lowered_laws.specs.CodeLaws.{sets}
use Rattle.lowered_pieces.specs.declared.coding.Coding.{Coding}
use Rattle.lowered_pieces.specs.Emitted.{Begins, UsesBelow}
use Rattle.lowered_pieces.specs.Forms.{Callees, Piece}
use Rattle.lowered_pieces.specs.Functions.{called_code, event_code, measure_of}
use Rattle.lowered_pieces.specs.Lowering.{kit_of, piece}
use Rattle.lowered_pieces.specs.Places.{Kit, Naming}
use Rattle.lowered_pieces.specs.Tables.{Tables}
use Rattle.lowered_steps.specs.declared.setting.Setting.{Setting}
use Rattle.lowered_steps.specs.Setting.{kit_for, number_for, size_for, tables_for, ways_for}
use Rattle.lowered_ends.specs.declared.around.Around.{Around}
use Rattle.lowered_ends.specs.Around.{callees_of}
use Rattle.lowered_functions.specs.Made.{first_slots, given_slots}
use Rattle.lowered_typed.specs.Judging.{signs_of}
use Rattle.lowered_validity.specs.Laws.{CalledAreRight, CodesAreRight, Ended, EventsAreRight, is_typed}
use Rattle.lowered_validity.specs.Right.{Signs}
use Rattle.lowered_laws.specs.FormLaws.{FunctionsOwnLabels, result_of}
use Rattle.jib_lower.specs.declared.functions.Head.{Head}
use Rattle.jib_lower.specs.Functions.{FunctionMade, are_types}
use Rattle.jib_lower.specs.Instances.{MadeAt}
use Rattle.jib_lower.specs.Lowered.{FlatFrom}
use Rattle.jib_lower.proofs.Basics.{and_left, and_right, both}
use Rattle.jib_lower.proofs.Placing.{LetsThere, exception_here, kit_here, numbered_are, numbered_here, placed, raised_is}

pub record Laws : Type 0 where
  pub called : CalledAreRight
  pub events : EventsAreRight
  pub codes : CodesAreRight
  pub own : FunctionsOwnLabels
  pub slots : SlotsTyped

same_self : (a b : ℕ) → a ≡ b → same (Some a) (Some b) ≡ true
same_self a b e = eq-eqb a b e

-- ---- slots

-- a list that stands behind others is found there
get_behind : (before ts rest : List ℕ) (t k : ℕ) → length before ≡ k → slice_get (before ++ (t ∷ (ts ++ rest))) k ≡ Some t
get_behind [] ts rest t zero e = refl
get_behind [] ts rest t (suc k) e = absurd (differs k e)
  where
    differs : (k : ℕ) → 0 ≡ suc k → ⊥
    differs k e = omega (arith, e)
get_behind (x ∷ before) ts rest t zero e = absurd (differs (length before) e)
  where
    differs : (k : ℕ) → suc k ≡ 0 → ⊥
    differs k e = omega (arith, e)
get_behind (x ∷ before) ts rest t (suc k) e = get_behind before ts rest t k (less (length before) k e)
  where
    less : (a b : ℕ) → suc a ≡ suc b → a ≡ b
    less a b e = omega (arith, e)

moved : (before : List ℕ) (t : ℕ) (ts : List ℕ) → (before ++ t ∷ []) ++ ts ≡ before ++ (t ∷ ts)
moved [] t ts = refl
moved (x ∷ before) t ts = ap (λ xs. x ∷ xs) (moved before t ts)

longer : (before : List ℕ) (t : ℕ) → length (before ++ t ∷ []) ≡ length before + 1
longer [] t = refl
longer (x ∷ before) t = ap suc (longer before t) ∙ next (length before)
  where
    next : (n : ℕ) → suc (n + 1) ≡ suc n + 1
    next n = omega arith

parameters_right : (slots before ts rest : List ℕ) (k : ℕ) → slots ≡ before ++ (ts ++ rest) → length before ≡ k + 1 → each (parameter_right slots) k ts ≡ true
parameters_right slots before [] rest k e l = refl
parameters_right slots before (t ∷ ts) rest k e l =
    both (same (slice_get slots (k + 1)) (Some t)) (each (parameter_right slots) (k + 1) ts)
    (ap (λ (o : Option ℕ). same o (Some t)) (ap (λ xs. slice_get xs (k + 1)) e ∙ get_behind before ts rest t (k + 1) l) ∙ same_self t t refl)
    (parameters_right slots (before ++ t ∷ []) ts rest (k + 1) (e ∙ sym (moved before t (ts ++ rest))) (longer before t ∙ ap (λ n. n + 1) l))

given_typs : (setting : Setting) (i : ℕ) (ts : List Sized) → map (λ (s : Slot). s.typ) (given_slots setting i ts) ≡ map (number_for setting) ts
given_typs setting i [] = refl
given_typs setting i (t ∷ ts) = ap (λ xs. number_for setting t ∷ xs) (given_typs setting (i + 1) ts)

map_behind : (xs ys : List Slot) → map (λ (s : Slot). s.typ) (xs ++ ys) ≡ map (λ (s : Slot). s.typ) xs ++ map (λ (s : Slot). s.typ) ys
map_behind [] ys = refl
map_behind (x ∷ xs) ys = ap (λ ts. x.typ ∷ ts) (map_behind xs ys)

module _ (m : Module) where
  all_of : (n : ℕ) (ts : List ℕ) (k : ℕ) → n ≡ length m.types → are_types n ts ≡ true → each (is_typ m) k ts ≡ true
  all_of n [] k e h = refl
  all_of n (t ∷ ts) k e h =
      both (nat_lt t (length m.types)) (each (is_typ m) (k + 1) ts) (ap (nat_lt t) (sym e) ∙ and_left (nat_lt t n) (are_types n ts) h)
      (all_of n ts (k + 1) e (and_right (nat_lt t n) (are_types n ts) h))

  -- the slots of a function, its result, and its code
  pub function_is_right : CodesAreRight → (n : ℕ) (f : Made) (setting : Setting) (head : Head) (coding : Coding) → FunctionMade setting head coding f
      → Begins (first_slots setting head.given.now) coding.slots → UsesBelow (length coding.slots) coding.code
      → length setting.numbered.now ≡ length m.types → setting.exception ≡ m.exception → Ended m f n f.code → ((k : ℕ) → sets k f.code ≤ 1)
      → function_right m n f ≡ true
  function_is_right codes n f setting head coding is first room many raised ended once =
      both (a && b && c && d && e) g
      (both (a && b && c && d) e (both (a && b && c) d (both (a && b) c (both a b first_is parameters_are) typs_are) result_is) ended.last)
      (codes m f n ended.right once uses)
    where
      a : Bool
      a = same (slice_get f.slots 0) (Some m.exception)

      b : Bool
      b = each (parameter_right f.slots) 0 f.parameters

      c : Bool
      c = all_typs m f.slots

      d : Bool
      d = is_typ m 0 f.result

      e : Bool
      e = is_end (slice_get f.code (length f.code - 1))

      g : Bool
      g = each (instruction_right m f n) 0 f.code

      rest : List ℕ
      rest = map (λ (s : Slot). s.typ) first.more

      slots_are : f.slots ≡ setting.exception ∷ (map (number_for setting) head.given.now ++ rest)
      slots_are =
          is.slots ∙ ap (map (λ (s : Slot). s.typ)) first.is ∙ map_behind (first_slots setting head.given.now) first.more
          ∙ ap (λ ts. setting.exception ∷ (ts ++ rest)) (given_typs setting 0 head.given.now)

      first_is : same (slice_get f.slots 0) (Some m.exception) ≡ true
      first_is = ap (λ ts. same (slice_get ts 0) (Some m.exception)) slots_are ∙ same_self setting.exception m.exception raised

      parameters_are : each (parameter_right f.slots) 0 f.parameters ≡ true
      parameters_are =
          ap (λ ts. each (parameter_right f.slots) 0 ts) is.parameters
          ∙ parameters_right f.slots (setting.exception ∷ []) (map (number_for setting) head.given.now) rest 0 slots_are refl

      typs_are : all_typs m f.slots ≡ true
      typs_are = all_of (length setting.numbered.now) f.slots 0 many is.typs

      result_is : is_typ m 0 f.result ≡ true
      result_is = ap (nat_lt f.result) (sym many) ∙ is.ends

      length_map : (xs : List Slot) → length (map (λ (s : Slot). s.typ) xs) ≡ length xs
      length_map [] = refl
      length_map (x ∷ xs) = ap suc (length_map xs)

      uses : UsesBelow (length f.slots) f.code
      uses i k x there used =
          subst (λ ts. k < length ts) (sym is.slots)
          (subst (λ z. k < z) (sym (length_map coding.slots)) (room i k x (ap (λ code. slice_get code i) (sym is.code) ∙ there) used))

-- ---- both functions of an instance

module _ (core : CoreModel) (sized : SizedCore) (m : Module) (low : FlatFrom core sized m) (laws : Laws) (lets : LetsThere core sized m low) where
  many_types : (xs : List Sized) → xs ≡ low.table.numbered → length xs ≡ length m.types
  many_types xs e = ap length e ∙ sym low.stands.same ∙ sym (ap length low.types)

  module _ (p : ℕ) (x : SizedInstance) (at : MadeAt low.model low.functions p x) where
    abbrev setting : Setting
    setting = at.walk.setting.now

    abbrev around : Around
    around = at.walk.around.now

    abbrev signs : Signs
    signs = signs_of setting at.judge.signs.now

    abbrev tables : Tables
    tables = tables_for setting around.instances.now

    abbrev callees : Callees
    callees = callees_of setting around

    numbers_are : setting.numbered.now ≡ low.table.numbered
    numbers_are = numbered_are core sized m low low.model low.is x.bodies x.instance.numbers setting at.setting

    abbrev measure : Option Core
    measure = measure_of at.function.cycle at.function.measure

    -- what is decided of its trees, where they are
    typed_here : (name : Naming)
        → is_typed setting.types.now setting.numbered.now callees tables signs name measure at.function.last at.function.body ≡ true
    typed_here name = subst (λ a. decided setting a ≡ true) at.judged.1 (subst (λ s. decided s at.judge.around.now ≡ true) at.judged.0 at.made.typed)
      where
        decided : Setting → Around → Bool
        decided s a =
            is_typed s.types.now s.numbered.now (callees_of s a) (tables_for s a.instances.now) (signs_of s at.judge.signs.now) name measure
            at.function.last at.function.body

    abbrev body_at : Kit → Piece
    body_at kit = result_of setting.types.now kit (number_for setting) callees tables at.function.last at.function.body

    abbrev called_at : Kit → List Instruction
    called_at kit =
        called_code kit at.function.place (option_map (piece setting.types.now kit (number_for setting) callees tables) measure) (body_at kit)

    abbrev event_at : Kit → List Instruction
    event_at kit = event_code kit at.function.place (body_at kit)

    kit_is : (name : Naming)
        → kit_for setting name ≡ kit_of setting.types.now name (number_for setting) signs.exception (size_for setting) (ways_for setting)
    kit_is name =
        kit_here core sized m low low.model low.is x.bodies x.instance.numbers setting at.setting name signs.exception
        (raised_is core sized m low laws.slots lets p x at)

    -- where they stand in the module
    abbrev pub called_place : ℕ
    called_place = length low.ways + 2 * p

    abbrev pub event_place : ℕ
    event_place = length low.ways + (2 * p + 1)

    behind : (k : ℕ) → length low.ways ≤ length low.ways + k
    behind k = more (length low.ways)
      where
        more : (n : ℕ) → n ≤ n + k
        more n = omega (arith)

    pub called_is_right : function_right m called_place at.called ≡ true
    called_is_right =
        function_is_right m laws.codes called_place at.called setting at.head at.made.called_coding at.made.called_is at.made.called_made.first
        at.made.called_made.room (many_types setting.numbered.now numbers_are)
        (exception_here core sized m low low.model low.is x.bodies x.instance.numbers setting at.setting) ended once
      where
        code_is : at.called.code ≡ called_at (kit_for setting (name_in at.made.called_coding.slots))
        code_is = at.made.called_is.code ∙ at.made.called_made.put

        ended : Ended m at.called called_place at.called.code
        ended =
            subst (Ended m at.called called_place) (sym (code_is ∙ ap called_at (kit_is (name_in at.made.called_coding.slots))))
            (laws.called setting.types.now setting.numbered.now callees tables signs m at.called called_place (name_in at.made.called_coding.slots)
            (placed core sized m low laws.slots lets p x at called_place (behind (2 * p)) at.called at.made.called_coding at.made.called_is)
            (numbered_here core sized m low low.model low.is x.bodies x.instance.numbers setting at.setting around.instances.now)
            (at.made.called_is.is_pure ∙ at.headed.is_pure) at.function.place measure at.function.last at.function.body
            (typed_here (name_in at.made.called_coding.slots)))

        once : (k : ℕ) → sets k at.called.code ≤ 1
        once k =
            subst (λ c. sets k c ≤ 1) (sym code_is)
            (laws.own setting.types.now (kit_for setting (name_in at.made.called_coding.slots)) (number_for setting) callees tables at.function.place measure
            at.function.last at.function.body k).0

    pub event_is_right : function_right m event_place at.event ≡ true
    event_is_right =
        function_is_right m laws.codes event_place at.event setting at.head at.made.event_coding at.made.event_is at.made.event_made.first
        at.made.event_made.room (many_types setting.numbered.now numbers_are)
        (exception_here core sized m low low.model low.is x.bodies x.instance.numbers setting at.setting) ended once
      where
        code_is : at.event.code ≡ event_at (kit_for setting (name_in at.made.event_coding.slots))
        code_is = at.made.event_is.code ∙ at.made.event_made.put

        ended : Ended m at.event event_place at.event.code
        ended =
            subst (Ended m at.event event_place) (sym (code_is ∙ ap event_at (kit_is (name_in at.made.event_coding.slots))))
            (laws.events setting.types.now setting.numbered.now callees tables signs m at.event event_place (name_in at.made.event_coding.slots)
            (placed core sized m low laws.slots lets p x at event_place (behind (2 * p + 1)) at.event at.made.event_coding at.made.event_is)
            (numbered_here core sized m low low.model low.is x.bodies x.instance.numbers setting at.setting around.instances.now) at.function.place measure
            at.function.last at.function.body (typed_here (name_in at.made.event_coding.slots)))

        once : (k : ℕ) → sets k at.event.code ≤ 1
        once k =
            subst (λ c. sets k c ≤ 1) (sym code_is)
            (laws.own setting.types.now (kit_for setting (name_in at.made.event_coding.slots)) (number_for setting) callees tables at.function.place measure
            at.function.last at.function.body k).1
