-- Definition by definition: the notes of clauses that are read by themselves are those of the clauses of the whole.
use Rattle.std.proofs.Common.{◌≡◌, ◌∙◌, ap, sym, refl, subst, ℕ, zero, suc, Bool, true, false, List, [], ◌∷◌, ◌++◌, length}
use Rattle.std.proofs.Common.{if◌then◌else◌}
use Rattle.sail_base.specs.declared.place.Place.{Place}
use Rattle.sail_types.specs.declared.numbers.Con.{Con, out-Con}
use Rattle.sail_types.specs.declared.numbers.Con.TheOpen as F
use Rattle.sail_types.specs.declared.numbers.Con.TheVariants as C
use Rattle.sail_types.specs.declared.numbers.Con.TheViews.{out-roll-Con}
use Rattle.sail_types.specs.declared.numbers.Index.{Index}
use Rattle.sail_types.specs.declared.table.Parameter.{Parameter}
use Rattle.sail_types.specs.declared.types.Typ.{Typ}
use Rattle.sail_core.specs.declared.model.Direction.{Direction}
use Rattle.sail_core.specs.declared.model.Function.{Function}
use Rattle.sail_core.specs.declared.model.Opening.{Opening}
use Rattle.sail_core.specs.declared.patterns.Arm.{Arm}
use Rattle.sail_core.specs.declared.tree.Core.{Core, Core-F, out-Core}
use Rattle.sail_core.specs.declared.tree.Giver.{Giver}
use Rattle.sail_core.specs.declared.tree.Giver.TheVariants as By
use Rattle.sail_core.specs.declared.tree.Kind.{Kind}
use Rattle.sail_core.specs.declared.tree.Kind.TheVariants as K
use Rattle.sail_core.specs.declared.written.WrittenNumber.{WrittenNumber}
use Rattle.value_indices.specs.declared.indices.Indices.{Indices}
use Rattle.value_indices.specs.declared.indices.Reading.{Reading}
use Rattle.value_indices.specs.declared.indices.Reading.TheVariants as R
use Rattle.value_indices.specs.declared.notes.Fact.{Fact}
use Rattle.value_indices.specs.declared.notes.Fact.TheVariants as Y
use Rattle.value_indices.specs.Steps.{Conditions, Note, goal_note, size_note, made_note, call_note, way_note, given_note, name_note, Walk, Went, went}
use Rattle.value_indices.specs.declared.notes.Made.TheVariants as Makes
use Rattle.value_indices.specs.Steps.{assume, bind, fresh_named, give, goals_under, note, owe, scoped}
use Rattle.pattern_leaves.specs.Settings.{Around, exponents_owed, number_owed}
use Rattle.pattern_notes.specs.Patterns.{looks}
use Rattle.call_arguments.specs.Aims.{aimed}
use Rattle.call_arguments.specs.Placing.{is_trivial_form}
use Rattle.call_arguments.specs.declared.aims.Aim.{Aim}
use Rattle.call_arguments.specs.declared.aims.Aim.TheVariants as Aims
use Rattle.expression_steps.specs.Expressions.{part}
use Rattle.expression_steps.specs.Parts.{Part}
use Rattle.expression_steps.specs.Statements.{natural_type}
use Rattle.function_notes.specs.Functions.{arm_of, arms_walk, body_part, body_walk, both_walk, clause_arms, clause_names, clause_walk, clauses_walk}
use Rattle.function_notes.specs.Functions.{constrained, direction_giver, direction_walk}
use Rattle.function_notes.specs.Functions.{function_walk, mapping_walk, measure_walk}
use Rattle.function_notes.specs.Functions.{in_function, inside_function, kind_clauses, last_made, measured_walk, own_indices}
use Rattle.function_notes.specs.Functions.{parameters_opened, reading_under, written_walk}
use Rattle.constraint_gen.specs.Models.{opening_walk}
use Rattle.size_notes.specs.declared.behind.Behind.{Behind}
use Rattle.size_notes.specs.Behind.{found_in, node_of, notes_with, sizes_behind, sizes_noted}
use Rattle.size_notes.specs.Bodies.{alone, arm_read, arms_read, beforehand, both_read, clause_inside, declared_read, kind_arms, last_read}
use Rattle.size_notes.specs.Bodies.{function_read, mapping_read, measure_read, opening_behind, opening_read, sized_body, way_read}
use Rattle.note_laws.specs.Notes.{BodiesHaveNotes, EachNote, IsAmong, OfOthers}

module _ (P : Note → Type 0) where
  -- ---- lists of notes

  front : (ns ms : List Note) → EachNote P (ns ++ ms) → EachNote P ns
  front [] ms h = tt
  front (n ∷ ns) ms h = (h.0, front ns ms h.1)

  back : (ns ms : List Note) → EachNote P (ns ++ ms) → EachNote P ms
  back [] ms h = h
  back (n ∷ ns) ms h = back ns ms h.1

  join : (ns ms : List Note) → EachNote (OfOthers P) ns → EachNote (OfOthers P) ms → EachNote (OfOthers P) (ns ++ ms)
  join [] ms a b = b
  join (n ∷ ns) ms a b = (a.0, join ns ms a.1 b)

  other : (n : Note) → P n → OfOthers P n
  other (goal_note facts place goal) h = tt
  other (size_note facts place made) h = h
  other (made_note facts k operands made) h = h
  other (call_note facts place k operands callee js qs) h = h
  other (way_note facts d) h = h
  other (given_note facts k i) h = h
  other (name_note v name) h = h

  others : (ns : List Note) → EachNote P ns → EachNote (OfOthers P) ns
  others [] h = tt
  others (n ∷ ns) h = (other n h.0, others ns h.1)

  -- ---- a body has the sizes of its types beside the notes of its walk

  without_sizes : (bs : List Behind) (ns : List Note) → EachNote P (notes_with bs ns) → EachNote P ns
  without_sizes bs [] h = tt
  without_sizes bs (made_note facts k operands made ∷ ns) h =
      (h.0, without_sizes bs ns (back (sizes_noted facts (sizes_behind k bs)) (notes_with bs ns) h.1))
  without_sizes bs (goal_note facts place goal ∷ ns) h = (h.0, without_sizes bs ns h.1)
  without_sizes bs (size_note facts place made ∷ ns) h = (h.0, without_sizes bs ns h.1)
  without_sizes bs (call_note facts place k operands callee js qs ∷ ns) h = (h.0, without_sizes bs ns h.1)
  without_sizes bs (way_note facts d ∷ ns) h = (h.0, without_sizes bs ns h.1)
  without_sizes bs (given_note facts k i ∷ ns) h = (h.0, without_sizes bs ns h.1)
  without_sizes bs (name_note v name ∷ ns) h = (h.0, without_sizes bs ns h.1)

  -- ---- exponents owe goals alone

  goals_other : (facts : List Fact) (place : Place) (cs : Conditions) → EachNote (OfOthers P) (goals_under facts place cs)
  goals_other facts place [] = tt
  goals_other facts place (c ∷ cs) = (tt, tt)

  exponents_facts : (around : Around) (ns : List WrittenNumber) (facts : List Fact) (n : ℕ) → (exponents_owed around ns facts n).facts ≡ facts
  unfolding bind give owe
  exponents_facts around [] facts n = refl
  exponents_facts around (x ∷ ns) facts n = exponents_facts around ns facts n

  exponents_next : (around : Around) (ns : List WrittenNumber) (facts : List Fact) (n : ℕ) → (exponents_owed around ns facts n).next ≡ n
  unfolding bind give owe
  exponents_next around [] facts n = refl
  exponents_next around (x ∷ ns) facts n = exponents_next around ns facts n

  exponents_other : (around : Around) (ns : List WrittenNumber) (facts : List Fact) (n : ℕ) → EachNote (OfOthers P) (exponents_owed around ns facts n).notes
  unfolding bind give owe
  exponents_other around [] facts n = tt
  exponents_other around (x ∷ ns) facts n =
      join (goals_under facts x.place (number_owed around x x.role)) (exponents_owed around ns facts n).notes
      (goals_other facts x.place (number_owed around x x.role)) (exponents_other around ns facts n)

  -- ---- one clause

  module _ (place : Place) (around : Around) (ts : List Typ) (aim : Aim) where
    abbrev behind_parameters : Giver → Arm → Part → List Indices → Walk Indices
    behind_parameters g arm body is = bind (clause_names place g around arm is) (λ found. body.walk around found aim)

    clause_next : (g : Giver) (once : List WrittenNumber) (arm : Arm) (body : Part) (facts : List Fact) (n : ℕ)
        → (clause_walk place g around ts once aim arm body facts n).next ≡ (clause_walk place g around ts [] aim arm body facts n).next
    unfolding bind give scoped
    clause_next g once arm body facts n =
        let first = parameters_opened (looks arm) around.numbers ts facts n in
        λ j. (behind_parameters g arm body first.value (exponents_facts around once first.facts first.next j) (exponents_next around once first.facts
        first.next j)).next

    clause_others : (g : Giver) (once : List WrittenNumber) (arm : Arm) (body : Part) (facts : List Fact) (n : ℕ)
        → EachNote P (clause_walk place g around ts [] aim arm body facts n).notes
        → EachNote (OfOthers P) (clause_walk place g around ts once aim arm body facts n).notes
    unfolding bind give scoped
    clause_others g once arm body facts n h =
        let first = parameters_opened (looks arm) around.numbers ts facts n in
        let owed = exponents_owed around once first.facts first.next in
        let rest = others (behind_parameters g arm body first.value first.facts first.next).notes (back first.notes _ h) in
        join first.notes _ (others first.notes (front first.notes _ h))
        (join owed.notes _ (exponents_other around once first.facts first.next)
        (subst (λ n. EachNote (OfOthers P) (behind_parameters g arm body first.value owed.facts n).notes)
        (sym (exponents_next around once first.facts first.next))
        (subst (λ fs. EachNote (OfOthers P) (behind_parameters g arm body first.value fs first.next).notes)
        (sym (exponents_facts around once first.facts first.next)) rest)))

    -- ---- all clauses: read by themselves, each begins with the constraint in force

    module _ (con : Con) (in_force : List Fact) (limit : (n : ℕ) → constrained con [] n ≡ went tt in_force n []) (declared : Bool) where
      read_next : (g : Giver) (arm : Arm) (c : Core) (n : ℕ)
          → (clause_inside con place g around ts aim declared arm c [] n).next
          ≡ (written_walk place g around ts [] aim declared arm c in_force n).next
      unfolding bind beforehand
      read_next g arm c n = λ j. (written_walk place g around ts [] aim declared arm c (limit n j).facts (limit n j).next).next

      read_notes : (g : Giver) (arm : Arm) (c : Core) (n : ℕ) → EachNote P (clause_inside con place g around ts aim declared arm c [] n).notes
          → EachNote P (written_walk place g around ts [] aim declared arm c in_force n).notes
      unfolding bind beforehand
      read_notes g arm c n h =
          let own = constrained con [] n in
          let sizes = arm_read around ts (arm_of declared arm) own.facts own.next in
          subst (λ o. EachNote P (written_walk place g around ts [] aim declared arm c o.facts o.next).notes) (limit n)
          (back sizes.notes _ (back own.notes _ h))

      clauses_others : (k : ℕ) (once : List WrittenNumber) (arms : List Arm) (cs : List Core) (facts : List Fact) (n : ℕ)
          → EachNote P (arms_read con place k around ts aim declared arms cs facts n).notes
          → EachNote (OfOthers P) (clauses_walk place k around ts once aim declared arms cs in_force n).notes
      unfolding bind give scoped owe alone
      clauses_others k once [] [] facts n h = tt
      clauses_others k once [] (c ∷ cs) facts n h = (tt, tt)
      clauses_others k once (arm ∷ arms) [] facts n h = (tt, tt)
      clauses_others k once (arm ∷ arms) (c ∷ cs) facts n h =
          let g = By.Arm k (length arms) in
          let bs : List Behind = found_in (node_of around.numbers (sized_body declared c)) in
          let inside = clause_inside con place g around ts aim declared arm c [] n in
          let one = written_walk place g around ts once aim declared arm c in_force n in
          let own = read_notes g arm c n (without_sizes bs inside.notes (front (notes_with bs inside.notes) _ h)) in
          let same : inside.next ≡ one.next =
          read_next g arm c n ∙ sym (clause_next g once (arm_of declared arm) (body_part declared c) in_force n) in
          join one.notes _ (clause_others g once (arm_of declared arm) (body_part declared c) in_force n own)
          (clauses_others k [] arms cs facts one.next
          (subst (λ n. EachNote P (arms_read con place k around ts aim declared arms cs facts n).notes) same (back (notes_with bs inside.notes) _ h)))

      clauses_end : (k : ℕ) (once : List WrittenNumber) (arms : List Arm) (cs : List Core) (facts : List Fact) (n : ℕ)
          → (arms_read con place k around ts aim declared arms cs facts n).next
          ≡ (clauses_walk place k around ts once aim declared arms cs in_force n).next
      unfolding bind give scoped owe alone
      clauses_end k once [] [] facts n = refl
      clauses_end k once [] (c ∷ cs) facts n = refl
      clauses_end k once (arm ∷ arms) [] facts n = refl
      clauses_end k once (arm ∷ arms) (c ∷ cs) facts n =
          let g = By.Arm k (length arms) in
          let same = read_next g arm c n ∙ sym (clause_next g once (arm_of declared arm) (body_part declared c) in_force n) in
          (λ j. (arms_read con place k around ts aim declared arms cs facts (same j)).next)
          ∙ clauses_end k [] arms cs facts (written_walk place g around ts once aim declared arm c in_force n).next

      clauses_force : (k : ℕ) (once : List WrittenNumber) (arms : List Arm) (cs : List Core) (n : ℕ)
          → (clauses_walk place k around ts once aim declared arms cs in_force n).facts ≡ in_force
      unfolding bind give scoped owe
      clauses_force k once [] [] n = refl
      clauses_force k once [] (c ∷ cs) n = refl
      clauses_force k once (arm ∷ arms) [] n = refl
      clauses_force k once (arm ∷ arms) (c ∷ cs) n =
          clauses_force k [] arms cs (written_walk place (By.Arm k (length arms)) around ts once aim declared arm c in_force n).next

      -- whatever the kind of the node

      kinds_others : (k : ℕ) (once : List WrittenNumber) (kind : Kind) (cs : List Core) (facts : List Fact) (n : ℕ)
          → EachNote P (arms_read con place k around ts aim declared (kind_arms kind) cs facts n).notes
          → EachNote (OfOthers P) (kind_clauses place k around ts once aim declared kind cs in_force n).notes
      unfolding owe
      kinds_others k once (K.Clauses arms) cs facts n h = clauses_others k once arms cs facts n h
      kinds_others k once kind cs facts n h = (tt, tt)

      kinds_end : (k : ℕ) (once : List WrittenNumber) (kind : Kind) (cs : List Core) (facts : List Fact) (n : ℕ)
          → (arms_read con place k around ts aim declared (kind_arms kind) cs facts n).next
          ≡ (kind_clauses place k around ts once aim declared kind cs in_force n).next
      unfolding give owe
      kinds_end k once (K.Clauses arms) cs facts n = clauses_end k once arms cs facts n
      kinds_end k once kind cs facts n = refl

      kinds_force : (k : ℕ) (once : List WrittenNumber) (kind : Kind) (cs : List Core) (n : ℕ)
          → (kind_clauses place k around ts once aim declared kind cs in_force n).facts ≡ in_force
      unfolding owe
      kinds_force k once (K.Clauses arms) cs n = clauses_force k once arms cs n
      kinds_force k once kind cs n = refl

  -- ---- what comes last, under the constraint too

  last_others : (con : Con) (in_force : List Fact) (limit : (n : ℕ) → constrained con [] n ≡ went tt in_force n []) (place : Place) (k : ℕ) (r : Reading)
      (facts : List Fact) (n : ℕ) → EachNote P (last_read con place k r facts n).notes → EachNote (OfOthers P) (last_made k r in_force n).notes
  unfolding bind note alone
  last_others con in_force limit place k r facts n h =
      let own = constrained con [] n in
      let last = (last_made k r own.facts own.next).notes in
      let inside = without_sizes [] (own.notes ++ size_note own.facts place (Makes.ByType r) ∷ last) h in
      subst (λ o. EachNote (OfOthers P) (last_made k r o.facts o.next).notes) (limit n) (others last (back own.notes _ inside).1)

  -- ---- functions and measures

  abbrev limit_facts : Bool → Con → List Fact
  limit_facts true c = []
  limit_facts false c = Y.Holds c ∷ []

  limited : (c : Con) (n : ℕ) → constrained c [] n ≡ went tt (limit_facts (is_trivial_form (out-Con c)) c) n []
  unfolding give assume
  limited c n = by (is_trivial_form (out-Con c))
    where
      by : (b : Bool) → (if b then give tt else assume c) [] n ≡ went tt (limit_facts b c) n []
      by true = refl
      by false = refl

  own_facts : (ps : List Parameter) (facts : List Fact) (n : ℕ) → (own_indices ps facts n).facts ≡ facts
  unfolding bind give fresh_named
  own_facts [] facts n = refl
  own_facts (p ∷ ps) facts n = own_facts ps facts (suc n)

  module _ (around : Around) (f : Function) where
    abbrev own : Went (List Index)
    own = own_indices f.variables [] 0

    abbrev in_force : List Fact
    in_force = limit_facts (is_trivial_form (out-Con f.constraint)) f.constraint

    abbrev inner : Around
    inner = inside_function around f own.value

    -- a walk behind the function's variables and its constraint
    behind_limit : (walk : Around → Walk (Unit {0})) → EachNote P own.notes → EachNote (OfOthers P) (walk inner in_force own.next).notes
        → EachNote (OfOthers P) (in_function around f walk [] 0).notes
    unfolding bind
    behind_limit walk h k =
        join own.notes _ (others own.notes h)
        (subst (λ fs. EachNote (OfOthers P) (bind (constrained f.constraint) (λ t. walk inner) fs own.next).notes) (sym (own_facts f.variables [] 0))
        (subst (λ o. EachNote (OfOthers P) (o.notes ++ (walk inner o.facts o.next).notes)) (sym (limited f.constraint own.next)) k))

    abbrev form : Core-F Core
    form = out-Core f.body

    abbrev aim : Aim
    aim = aimed Aims.Due (reading_under f.result own.value)

    abbrev clauses : Went (Unit {0})
    clauses = kind_clauses form.place form.number inner f.parameters f.numbers aim f.is_declared form.kind form.parts in_force own.next

    abbrev arms : Went (Unit {0})
    arms = arms_read f.constraint form.place form.number inner f.parameters aim f.is_declared (kind_arms form.kind) form.parts own.facts
        own.next

    body_others : EachNote P (declared_read around f own.value own.facts own.next).notes → EachNote (OfOthers P) (body_walk f inner in_force own.next).notes
    unfolding bind
    body_others h =
        let limit = limited f.constraint in
        let end = kinds_end form.place inner f.parameters aim f.constraint in_force limit f.is_declared form.number f.numbers form.kind
        form.parts own.facts own.next in
        let force = kinds_force form.place inner f.parameters aim f.constraint in_force limit f.is_declared form.number f.numbers form.kind
        form.parts own.next in
        let last = last_others f.constraint in_force limit f.place f.last (reading_under f.result own.value) arms.facts arms.next (back arms.notes _ h) in
        join clauses.notes _
        (kinds_others form.place inner f.parameters aim f.constraint in_force limit f.is_declared form.number f.numbers form.kind
        form.parts own.facts own.next (front arms.notes _ h))
        (subst (λ fs. EachNote (OfOthers P) (last_made f.last (reading_under f.result own.value) fs clauses.next).notes) (sym force)
        (subst (λ n. EachNote (OfOthers P) (last_made f.last (reading_under f.result own.value) in_force n).notes) end last))

    function_others : EachNote P (function_read around f [] 0).notes → EachNote (OfOthers P) (function_walk around f [] 0).notes
    unfolding bind
    function_others h = behind_limit (body_walk f) (front own.notes _ h) (body_others (back own.notes _ h))

    measure_others : (measure : Core) → EachNote P (measure_read around f measure [] 0).notes → EachNote (OfOthers P) (measure_walk around f measure [] 0).notes
    unfolding bind
    measure_others measure h =
        let m = out-Core measure in
        behind_limit (measured_walk f measure) (front own.notes _ h)
        (kinds_others m.place inner f.parameters (Aims.Due natural_type) f.constraint in_force (limited f.constraint) true m.number [] m.kind
        m.parts own.facts own.next (back own.notes _ h))

  -- ---- mappings: nothing is in force where a clause begins

  no_limit : (n : ℕ) → constrained (C.Truth true) [] n ≡ went tt [] n []
  unfolding give assume
  no_limit n = ap (λ c. (if is_trivial_form c then give tt else assume (C.Truth true)) [] n)
      (ap out-Con (sym (C.rolls-Truth true)) ∙ out-roll-Con (F.Truth true))

  module _ (place : Place) (around : Around) where
    way_others : (m : Direction) (behind : ℕ) (arm : Arm) (c : Core) (facts : List Fact) (n : ℕ)
        → EachNote P (way_read place around m behind arm c facts n).notes → EachNote (OfOthers P) (direction_walk place around m behind arm c [] n).notes
    unfolding alone
    way_others m behind arm c facts n h =
        let bs : List Behind = found_in (node_of around.numbers c) in
        let aim = aimed Aims.Due (R.Of m.result [] []) in
        let inside = clause_inside (C.Truth true) place (direction_giver m behind) around (m.parameter ∷ []) aim true arm c [] n in
        others (direction_walk place around m behind arm c [] n).notes
        (read_notes place around (m.parameter ∷ []) aim (C.Truth true) [] no_limit true (direction_giver m behind) arm c n
        (without_sizes bs inside.notes h))

    way_next : (m : Direction) (behind : ℕ) (arm : Arm) (c : Core) (facts : List Fact) (n : ℕ)
        → (way_read place around m behind arm c facts n).next ≡ (direction_walk place around m behind arm c [] n).next
    unfolding alone
    way_next m behind arm c facts n =
        read_next place around (m.parameter ∷ []) (aimed Aims.Due (R.Of m.result [] [])) (C.Truth true) [] no_limit true (direction_giver m behind) arm c
        n

    both_others : (m n : Direction) (aheads : List Arm) (cs : List Core) (backs : List Arm) (ds : List Core) (facts : List Fact) (k : ℕ)
        → EachNote P (both_read place around m n aheads cs backs ds facts k).notes
        → EachNote (OfOthers P) (both_walk place around m n aheads cs backs ds [] k).notes
    unfolding bind give scoped owe alone
    both_others m n [] [] [] [] facts k h = tt
    both_others m n [] [] [] (d ∷ ds) facts k h = (tt, tt)
    both_others m n [] [] (b ∷ backs) ds facts k h = (tt, tt)
    both_others m n [] (c ∷ cs) backs ds facts k h = (tt, tt)
    both_others m n (a ∷ aheads) [] backs ds facts k h = (tt, tt)
    both_others m n (a ∷ aheads) (c ∷ cs) [] ds facts k h = (tt, tt)
    both_others m n (a ∷ aheads) (c ∷ cs) (b ∷ backs) [] facts k h = (tt, tt)
    both_others m n (a ∷ aheads) (c ∷ cs) (b ∷ backs) (d ∷ ds) facts k h =
        let first = way_read place around m (length aheads) a c facts k in
        let ahead = direction_walk place around m (length aheads) a c [] k in
        let second = way_read place around n (length backs) b d facts first.next in
        let same : first.next ≡ ahead.next = way_next m (length aheads) a c facts k in
        let rest = back first.notes _ h in
        let other = subst (λ i. EachNote P ((way_read place around n (length backs) b d facts i).notes
        ++ (both_read place around m n aheads cs backs ds facts (way_read place around n (length backs) b d facts i).next).notes)) same rest in
        let behind = way_read place around n (length backs) b d facts ahead.next in
        let given = direction_walk place around n (length backs) b d [] ahead.next in
        join ahead.notes _ (way_others m (length aheads) a c facts k (front first.notes _ h))
        (join given.notes _ (way_others n (length backs) b d facts ahead.next (front behind.notes _ other))
        (both_others m n aheads cs backs ds facts given.next
        (subst (λ i. EachNote P (both_read place around m n aheads cs backs ds facts i).notes) (way_next n (length backs) b d facts ahead.next)
        (back behind.notes _ other))))

  forms_others : (around : Around) (m n : Direction) (x y : Kind) (cs ds : List Core) (facts : List Fact) (k : ℕ)
      → EachNote P (both_read m.place around m n (kind_arms x) cs (kind_arms y) ds facts k).notes
      → EachNote (OfOthers P) (arms_walk around m n (clause_arms x) cs (clause_arms y) ds [] k).notes
  unfolding owe
  forms_others around m n (K.Clauses aheads) (K.Clauses backs) cs ds facts k h = both_others m.place around m n aheads cs backs ds facts k h
  forms_others around m n (K.Clauses aheads) y cs ds facts k h = (tt, tt)
  forms_others around m n x y cs ds facts k h = (tt, tt)

  mapping_others : (around : Around) (m n : Direction) → EachNote P (mapping_read around m n [] 0).notes
      → EachNote (OfOthers P) (mapping_walk around m n [] 0).notes
  mapping_others around m n h =
      forms_others around m n (out-Core m.body).kind (out-Core n.body).kind (out-Core m.body).parts (out-Core n.body).parts [] 0 h

  opening_others : (around : Around) (o : Opening) → EachNote P (opening_read around o [] 0).notes
      → EachNote (OfOthers P) (opening_walk around o.place o.kind (part o.value) [] 0).notes
  unfolding alone
  opening_others around o h =
      let walked = (opening_walk around o.place o.kind (part o.value) [] 0).notes in
      others walked (without_sizes (opening_behind around o) walked h)

-- ---- all notes are among themselves

later : (n : Note) (ns ms : List Note) → EachNote (IsAmong ns) ms → EachNote (IsAmong (n ∷ ns)) ms
later n ns [] h = tt
later n ns (m ∷ ms) h = ((suc h.0.0, h.0.1), later n ns ms h.1)

all_among : (ns : List Note) → EachNote (IsAmong ns) ns
all_among [] = tt
all_among (n ∷ ns) = ((zero, refl), later n ns ns (all_among ns))

pub bodies_have : BodiesHaveNotes
bodies_have around = record {
  function = λ f. function_others (IsAmong (function_read around f [] 0).notes) around f (all_among (function_read around f [] 0).notes);
  measure = λ f measure.
      measure_others (IsAmong (measure_read around f measure [] 0).notes) around f measure (all_among (measure_read around f measure [] 0).notes);
  mapping = λ m n. mapping_others (IsAmong (mapping_read around m n [] 0).notes) around m n (all_among (mapping_read around m n [] 0).notes);
  opening = λ o. opening_others (IsAmong (opening_read around o [] 0).notes) around o (all_among (opening_read around o [] 0).notes);
}
