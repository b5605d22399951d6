-- Directions of mappings: a run of one passes over the clauses of the other.
use Rattle.std.proofs.Common.{◌≡◌, ◌∙◌, ap, sym, refl, subst, ℕ, ◌≤◌, arith, Bool, true, false, if◌then◌else◌, true≢false}
use Rattle.std.proofs.Common.{List, [], ◌∷◌, ◌++◌, length, map, Some, None, option_map}
use Rattle.std.specs.Prelude.{pos}
use Rattle.sail_base.specs.declared.place.Place.{Place}
use Rattle.sail_types.specs.Belongs.{assigned, belongs, no_readings, reading}
use Rattle.sail_types.specs.Numbers.{Positive}
use Rattle.sail_types.specs.Sums.{read}
use Rattle.sail_types.specs.declared.types.Typ.{Typ}
use Rattle.sail_types.specs.declared.values.Value.{Value}
use Rattle.sail_types.proofs.Substituted.{number_constant}
use Rattle.sail_core.specs.declared.model.Direction.{Direction}
use Rattle.sail_core.specs.declared.patterns.Arm.{Arm}
use Rattle.sail_core.specs.declared.tree.Core.{Core, out-Core}
use Rattle.sail_core.specs.declared.tree.Kind.{Kind}
use Rattle.sail_core.specs.declared.tree.Kind.TheVariants as K
use Rattle.sail_core.specs.Making.{World}
use Rattle.sail_core.specs.Meaning.{arm_taken, first_of, kind_meaning, meaning}
use Rattle.sail_core.specs.Program.{crossed, gone}
use Rattle.sail_core.specs.Run.{Ended, Now, Run, falls, gives, goes_on, leaving, needs, ◌then◌}
use Rattle.size_values.specs.declared.sized.Sized.{Sized}
use Rattle.value_indices.specs.declared.indices.Indices.{Indices}
use Rattle.value_indices.specs.declared.indices.Indices.TheFolds.{fold-roll-Reading}
use Rattle.value_indices.specs.declared.indices.Indices.TheOpen as W
use Rattle.value_indices.specs.declared.indices.Indices.TheViews.{out-roll-Reading}
use Rattle.value_indices.specs.declared.indices.Reading.TheVariants as Q
use Rattle.value_indices.specs.declared.notes.Fact.{Fact}
use Rattle.value_indices.specs.Steps.{Note, Walk, bind, give, owe, scoped}
use Rattle.pattern_notes.specs.Patterns.{looks}
use Rattle.call_arguments.specs.Aims.{aimed, is_hole, is_hole_form}
use Rattle.call_arguments.specs.Holes.{has_hole, type_holed, value_holed}
use Rattle.call_arguments.specs.declared.aims.Aim.TheVariants as Aims
use Rattle.expression_steps.specs.Expressions.{part}
use Rattle.function_notes.specs.Functions.{arms_walk, both_walk, clause_arms, clause_walk, direction_giver, direction_walk, in_clause}
use Rattle.function_notes.specs.Functions.{parameters_opened}
use Rattle.checked_meaning.specs.Checked.{Checks, Noted}
use Rattle.checked_meaning.specs.Items.{Item, item}
use Rattle.value_laws.specs.Belonging.{Integers, closed, is_of, standing}
use Rattle.value_laws.specs.Known.{Point}
use Rattle.value_laws.proofs.Numbers.{beyond_past, truth_is}
use Rattle.value_laws.proofs.Steps.{same}
use Rattle.value_laws.proofs.Values.{closed_is}
use Rattle.soundness_steps.specs.Points.{Later}
use Rattle.soundness_steps.proofs.Points.{later_on}
use Rattle.soundness_steps.specs.Works.{Scene, Setting, nobody, here, IsExact}
use Rattle.soundness_steps.specs.Noted.{OpensAs}
use Rattle.soundness_steps.specs.States.{IsAnswer, Sound, StateBelongs, nothing_stands}
use Rattle.soundness_steps.specs.Steps.{AllMet, Beside, EndsWell, Stands, Walks, well_given, well_no, well_returned, well_stopped, well_thrown}
use Rattle.soundness_steps.specs.Values.{AllAre, IsSteady, IsWanted}
use Rattle.soundness_steps.specs.Calls.{CallEnds, IsOf, SoundCalls, call_falls, call_gives, call_stops, call_throws}
use Rattle.soundness_steps.proofs.Steps.{grown, grown_later, met_behind, met_front, scopes, stands_on, walks_then, well_on}
use Rattle.soundness_forms.specs.Worlds.{AreGiven, LetsAre, Surrounds}
use Rattle.soundness_forms.proofs.Basics.{wanted_on}
use Rattle.soundness_calls.specs.Premises.{ArmIsSound, Results, read_as}
use Rattle.soundness_calls.specs.Laws.{running}
use Rattle.soundness_calls.specs.Directions.{ArmsOf, ClausesOf, CoveredDirection, WaysAreSound, WaysGrow, bare_type, below, bodies_of, is_ahead, is_back}
use Rattle.soundness_calls.specs.Directions.{Side}
use Rattle.soundness_calls.specs.Directions.{mapping_of, nowhere_scene, scene_across}
use Rattle.soundness_calls.proofs.Opens.{IsOf as IsMade, all_are_on, exponents, of_on, parameters_open}
use Rattle.soundness_calls.proofs.Clauses.{next_clause, nothing_noted, world_on, wrong_never}
use Rattle.soundness_calls.proofs.Functions.{core_out}

-- ---- types that name no variable

nothing_assigned : (past : Positive) (g : Integers) → assigned (standing past g) [] ≡ nothing_stands past
nothing_assigned past g = λ j. record {
  int = λ i. number_constant (standing past g) (pos 0) j;
  bool = λ i. truth_is (standing past g) false j;
  beyond = λ t. beyond_past past g (read [] t) j;
}

pub bare_closed : (set : Setting) (g : Integers) (t : Typ)
    → closed set.around.types (standing set.past g) [] (bare_type t) ≡ reading t (nothing_stands set.past) no_readings
bare_closed set g t =
    closed_is set.around.types (standing set.past g) [] (bare_type t) (W.Of t [] []) (Q.rolls-Of t [] [])
    ∙ (λ j. reading t (nothing_assigned set.past g j) no_readings)

bare_steady : (set : Setting) {n : ℕ} (p : Point n) (t : Typ) → IsSteady set nobody p (bare_type t)
bare_steady set p t g a = bare_closed set g t ∙ sym (bare_closed set p.integers t)

pub bare_wanted : (set : Setting) {n : ℕ} (p : Point n) (t : Typ) → IsWanted set nobody p (bare_type t)
bare_wanted set p t = (
  bare_steady set p t,
  ap has_hole (sym (Q.rolls-Of t [] [])) ∙ fold-roll-Reading Bool Bool value_holed type_holed (W.Of t [] []),
)

pub bare_aim : (t : Typ) → aimed Aims.Due (bare_type t) ≡ Aims.Due (bare_type t)
bare_aim t = ap (λ b. if b then Aims.Free else Aims.Due (bare_type t))
    (ap is_hole (sym (Q.rolls-Of t [] [])) ∙ ap is_hole_form (out-roll-Reading (W.Of t [] [])))

-- ---- one clause

-- what is known of what comes in, at every clause
pub record Crossing (q : Scene) (w : World Item) {n : ℕ} (p : Point n) (facts : List Fact) (m : Direction) (x : Item) (more : Noted) : Type 0 where
  pub stands : Stands q.set q.work more p facts
  pub world : Surrounds q w p []
  pub wanted : IsWanted q.set q.work p (bare_type m.result)
  pub made : IsMade q.set q.work p (bare_type m.parameter) x
  pub nowhere : q.numbers ≡ []
  pub may_fall : q.may_fall ≡ true

crossing_on : {q : Scene} {w : World Item} {n k : ℕ} {p : Point n} {g : Point k} {facts : List Fact} {m : Direction} {x : Item} {more : Noted} → Later p g
    → Crossing q w p facts m x more → Crossing q w g facts m x more
crossing_on {q} {m = m} l h = record {
  stands = stands_on l h.stands;
  world = world_on l h.world;
  wanted = wanted_on q.set q.work (bare_type m.result) l h.wanted;
  made = of_on l h.made;
  nowhere = h.nowhere;
  may_fall = h.may_fall;
}

way_ends : (q : Scene) {w : World Item} {n : ℕ} {p : Point n} {facts : List Fact} {m : Direction} {x : Item} {more : Noted} (place : Place) (left : ℕ)
    (arm : Arm) (body : Core) → Crossing q w p facts m x more → ArmIsSound q w place arm (part body) (meaning (read_as q) w body)
    → Beside q n p facts (direction_walk place (here q) m left arm body)
    ((read_as q).inside (arm_taken (read_as q) w (direction_giver m left) arm (meaning (read_as q) w body) (x ∷ [])))
    (λ j g i y. Results q g (bare_type m.result) y)
way_ends q {w} {n} {p} {facts} {m} {x} place left arm body h sound =
    subst (λ aim. Beside q n p facts (clause_walk place (direction_giver m left) (here q) (m.parameter ∷ []) [] aim arm (part body))
    ((read_as q).inside (arm_taken (read_as q) w (direction_giver m left) arm (meaning (read_as q) w body) (x ∷ [])))
    (λ j g i y. Results q g (bare_type m.result) y))
    (sym (bare_aim m.result))
    (scopes (walks_then _ come (λ j g fs is l are.
    walks_then _ (exponents (here q) []) (λ j2 g2 fs2 t l2 u.
    sound (direction_giver m left) j2 g2 (world_on (later_on l l2) h.world) fs2 in_clause (bare_type m.result)
    (wanted_on q.set q.work (bare_type m.result) (later_on l l2) h.wanted)
    is (x ∷ []) (all_are_on q.set q.work is (x ∷ []) l2 are)))))
  where
    come : Walks q n p facts (parameters_opened (looks arm) q.numbers (m.parameter ∷ [])) (λ j g is. AllAre q.set q.work g is (x ∷ []))
    come =
        subst (λ ns. Walks q n p facts (parameters_opened (looks arm) ns (m.parameter ∷ [])) (λ j g is. AllAre q.set q.work g is (x ∷ [])))
        (sym h.nowhere) (parameters_open q [] (looks arm) (m.parameter ∷ []) (x ∷ []) (h.made, tt))

-- ---- the clauses of both

module _ (q : Scene) (place : Place) (m n : Direction) where
  both_next : (arms : List Arm) (cs : List Core) (backs : List Arm) (ds : List Core) → WaysGrow q place m arms cs → WaysGrow q place n backs ds
      → (facts : List Fact) (k : ℕ) → k ≤ (both_walk place (here q) m n arms cs backs ds facts k).next
  unfolding bind give scoped owe
  both_next [] [] [] [] g h facts k = omega arith
  both_next [] [] [] (d ∷ ds) g h facts k = omega arith
  both_next [] [] (b ∷ backs) ds g h facts k = omega arith
  both_next [] (c ∷ cs) backs ds g h facts k = omega arith
  both_next (a ∷ arms) [] backs ds g h facts k = omega arith
  both_next (a ∷ arms) (c ∷ cs) [] ds g h facts k = omega arith
  both_next (a ∷ arms) (c ∷ cs) (b ∷ backs) [] g h facts k = omega arith
  both_next (a ∷ arms) (c ∷ cs) (b ∷ backs) (d ∷ ds) g h facts k =
      let first = direction_walk place (here q) m (length arms) a c facts k in
      let second = direction_walk place (here q) n (length backs) b d facts first.next in
      let one : k ≤ first.next = g.0 (length arms) facts k in
      let two : first.next ≤ second.next = h.0 (length backs) facts first.next in
      let rest : second.next ≤ (both_walk place (here q) m n arms cs backs ds facts second.next).next = both_next arms cs backs ds g.1 h.1 facts second.next in
      omega (arith, one, two, rest)

  abbrev both : List Arm → List Core → List Arm → List Core → Walk (Unit {0})
  both arms cs backs ds = both_walk place (here q) m n arms cs backs ds

  abbrev ahead : ℕ → Arm → Core → Walk Indices
  ahead left arm c = direction_walk place (here q) m left arm c

  abbrev behind : ℕ → Arm → Core → Walk Indices
  behind left back d = direction_walk place (here q) n left back d

  -- the walk over a clause both ways, and over those behind it
  module _ (a : Arm) (c : Core) (b : Arm) (d : Core) (arms : List Arm) (cs : List Core) (backs : List Arm) (ds : List Core) (facts : List Fact) (k : ℕ) where
    abbrev over : ℕ
    over = (ahead (length arms) a c facts k).next

    abbrev next : ℕ
    next = (behind (length backs) b d facts over).next

    split_next : (both arms cs backs ds facts next).next ≡ (both (a ∷ arms) (c ∷ cs) (b ∷ backs) (d ∷ ds) facts k).next
    unfolding bind scoped
    split_next = refl

    split_met : AllMet q (both (a ∷ arms) (c ∷ cs) (b ∷ backs) (d ∷ ds) facts k).notes
        → AllMet q (ahead (length arms) a c facts k).notes × AllMet q (behind (length backs) b d facts over).notes
        × AllMet q (both arms cs backs ds facts next).notes
    unfolding bind scoped
    split_met met =
        let rest : List Note = (both arms cs backs ds facts next).notes in
        let second : List Note = (behind (length backs) b d facts over).notes in
        let later = met_behind q (ahead (length arms) a c facts k).notes (second ++ rest) met in
        (met_front q (ahead (length arms) a c facts k).notes (second ++ rest) met, met_front q second rest later, met_behind q second rest later)

  module _ (w : World Item) (x : Item) (more : Noted) where
    abbrev run_of : Direction → List Arm → List Core → Run Item Item
    run_of o arms cs = first_of (read_as q) w (out-Core o.body).number arms (map (meaning (read_as q) w) cs) falls (x ∷ [])

    -- a run of the first
    abbrev AheadEnds : List Arm → List Core → List Arm → List Core → Type 0
    AheadEnds arms cs backs ds = (k : ℕ) (p : Point k) (facts : List Fact) → WaysGrow q place m arms cs → WaysGrow q place n backs ds
        → Crossing q w p facts m x more → WaysAreSound q w place arms cs → AllMet q (both arms cs backs ds facts k).notes
        → (now : Now Item) → now.opened ≡ more → Sound q now
        → EndsWell q p (both arms cs backs ds facts k).next facts (λ g y. Results q g (bare_type m.result) y) (run_of m arms cs now)

    ahead_more : (a : Arm) (c : Core) (b : Arm) (d : Core) (arms : List Arm) (cs : List Core) (backs : List Arm) (ds : List Core)
        → AheadEnds arms cs backs ds → AheadEnds (a ∷ arms) (c ∷ cs) (b ∷ backs) (d ∷ ds)
    unfolding scoped
    ahead_more a c b d arms cs backs ds others k p facts g grow h sound met now opened ok =
        let taken = arm_taken (read_as q) w (direction_giver m (length arms)) a (meaning (read_as q) w c) (x ∷ []) in
        let first : ℕ = over a c b d arms cs backs ds facts k in
        let then_on : ℕ = next a c b d arms cs backs ds facts k in
        let parts = split_met a c b d arms cs backs ds facts k met in
        let up : first ≤ then_on = grow.0 (length backs) facts first in
        let last : then_on ≤ (both arms cs backs ds facts then_on).next = both_next arms cs backs ds g.1 grow.1 facts then_on in
        subst (λ e. EndsWell q p e facts (λ g y. Results q g (bare_type m.result) y) (run_of m (a ∷ arms) (c ∷ cs) now))
        (split_next a c b d arms cs backs ds facts k)
        (next_clause q {p = p} {facts = facts} {r = bare_type m.result} first (both arms cs backs ds facts then_on).next taken taken
        (run_of m arms cs) refl (g.0 (length arms) facts k) (omega (arith, up, last)) now
        ((way_ends q place (length arms) a c h sound.0).run now (subst (λ o. Stands q.set q.work o p facts) (sym opened) h.stands) parts.0 ok)
        (λ at after l s. well_on (grown_later at up) (others then_on (grown at up) facts g.1 grow.1 (crossing_on (later_on l (grown_later at up)) h) sound.1
        parts.2 ((read_as q).back now after) opened (record { state = s.state; names = s.names }))))

    ahead_end : (arms : List Arm) (cs : List Core) (backs : List Arm) (ds : List Core) → AheadEnds arms cs backs ds
    ahead_end [] [] [] [] = λ k p facts g b h sound met now opened ok. well_no now h.may_fall ok
    ahead_end [] [] [] (d ∷ ds) = λ k p facts g b h sound met now opened ok. absurd (wrong_never q place h.stands met)
    ahead_end [] [] (e ∷ backs) ds = λ k p facts g b h sound met now opened ok. absurd (wrong_never q place h.stands met)
    ahead_end [] (c ∷ cs) backs ds = λ k p facts g b h sound met now opened ok. absurd (wrong_never q place h.stands met)
    ahead_end (a ∷ arms) [] backs ds = λ k p facts g b h sound met now opened ok. absurd (wrong_never q place h.stands met)
    ahead_end (a ∷ arms) (c ∷ cs) [] ds = λ k p facts g b h sound met now opened ok. absurd (wrong_never q place h.stands met)
    ahead_end (a ∷ arms) (c ∷ cs) (e ∷ backs) [] = λ k p facts g b h sound met now opened ok. absurd (wrong_never q place h.stands met)
    ahead_end (a ∷ arms) (c ∷ cs) (e ∷ backs) (d ∷ ds) = ahead_more a c e d arms cs backs ds (ahead_end arms cs backs ds)

    -- a run of the second
    abbrev BackEnds : List Arm → List Core → List Arm → List Core → Type 0
    BackEnds arms cs backs ds = (k : ℕ) (p : Point k) (facts : List Fact) → WaysGrow q place m arms cs → WaysGrow q place n backs ds
        → Crossing q w p facts n x more → WaysAreSound q w place backs ds → AllMet q (both arms cs backs ds facts k).notes
        → (now : Now Item) → now.opened ≡ more → Sound q now
        → EndsWell q p (both arms cs backs ds facts k).next facts (λ g y. Results q g (bare_type n.result) y) (run_of n backs ds now)

    back_more : (a : Arm) (c : Core) (b : Arm) (d : Core) (arms : List Arm) (cs : List Core) (backs : List Arm) (ds : List Core)
        → BackEnds arms cs backs ds → BackEnds (a ∷ arms) (c ∷ cs) (b ∷ backs) (d ∷ ds)
    unfolding scoped
    back_more a c b d arms cs backs ds others k p facts g grow h sound met now opened ok =
        let taken = arm_taken (read_as q) w (direction_giver n (length backs)) b (meaning (read_as q) w d) (x ∷ []) in
        let first : ℕ = over a c b d arms cs backs ds facts k in
        let then_on : ℕ = next a c b d arms cs backs ds facts k in
        let parts = split_met a c b d arms cs backs ds facts k met in
        let l = grown_later p (g.0 (length arms) facts k) in
        let at : Point first = grown p (g.0 (length arms) facts k) in
        let there : Crossing q w at facts n x more = crossing_on l h in
        subst (λ e. EndsWell q p e facts (λ g y. Results q g (bare_type n.result) y) (run_of n (b ∷ backs) (d ∷ ds) now))
        (split_next a c b d arms cs backs ds facts k)
        (well_on l (next_clause q {p = at} {facts = facts} {r = bare_type n.result} then_on (both arms cs backs ds facts then_on).next taken taken
        (run_of n backs ds) refl (grow.0 (length backs) facts first) (both_next arms cs backs ds g.1 grow.1 facts then_on) now
        ((way_ends q place (length backs) b d there sound.0).run now (subst (λ o. Stands q.set q.work o at facts) (sym opened) there.stands) parts.1 ok)
        (λ more_on after l2 s. others then_on more_on facts g.1 grow.1 (crossing_on l2 there) sound.1 parts.2 ((read_as q).back now after) opened
        (record { state = s.state; names = s.names }))))

    back_end : (arms : List Arm) (cs : List Core) (backs : List Arm) (ds : List Core) → BackEnds arms cs backs ds
    back_end [] [] [] [] = λ k p facts g b h sound met now opened ok. well_no now h.may_fall ok
    back_end [] [] [] (d ∷ ds) = λ k p facts g b h sound met now opened ok. absurd (wrong_never q place h.stands met)
    back_end [] [] (e ∷ backs) ds = λ k p facts g b h sound met now opened ok. absurd (wrong_never q place h.stands met)
    back_end [] (c ∷ cs) backs ds = λ k p facts g b h sound met now opened ok. absurd (wrong_never q place h.stands met)
    back_end (a ∷ arms) [] backs ds = λ k p facts g b h sound met now opened ok. absurd (wrong_never q place h.stands met)
    back_end (a ∷ arms) (c ∷ cs) [] ds = λ k p facts g b h sound met now opened ok. absurd (wrong_never q place h.stands met)
    back_end (a ∷ arms) (c ∷ cs) (e ∷ backs) [] = λ k p facts g b h sound met now opened ok. absurd (wrong_never q place h.stands met)
    back_end (a ∷ arms) (c ∷ cs) (e ∷ backs) (d ∷ ds) = back_more a c e d arms cs backs ds (back_end arms cs backs ds)

-- ---- a direction is entered

-- the frame is left
across_ends : {q : Scene} {n : ℕ} {p : Point n} {k : ℕ} {facts : List Fact} (t : Typ) (before : Now Item) (e : Ended Item Item) → q.work ≡ nobody
    → q.answer ≡ None → EndsWell q p k facts (λ g y. Results q g (bare_type t) y) e
    → CallEnds q.set true before (IsOf q.set t)
    (leaving (λ after. record after { locals = before.locals; opened = before.opened }) (goes_on e (λ y. gives y.val)))
across_ends {q} t before e alone none (well_given y now h s) =
    call_gives y.val (record now { locals = before.locals; opened = before.opened })
    (ap (belongs q.set.around.types y.val) (sym (bare_closed q.set h.point.integers t))
    ∙ subst (λ work. is_of q.set.around.types (standing q.set.past h.point.integers) work.types (bare_type t) y.val ≡ true) alone
    (h.holds.belongs h.point.integers (same h.point)))
    (record { state = s.state; locals = refl; opened = refl })
across_ends t before e alone none (well_no now a s) =
    call_falls (record now { locals = before.locals; opened = before.opened }) refl (record { state = s.state; locals = refl; opened = refl })
across_ends {q} t before e alone none (well_returned v now b s) = absurd (subst (λ o. IsAnswer q.set.around.types o v) none b)
across_ends t before e alone none (well_thrown v now b s) =
    call_throws v (record now { locals = before.locals; opened = before.opened }) b (record { state = s.state; locals = refl; opened = refl })
across_ends t before e alone none (well_stopped cause now) = call_stops cause (record now { locals = before.locals; opened = before.opened })

pub start_point : Point 0
start_point = record { fixed = λ i. false; integers = λ i. pos 0; before = λ i e. absurd (true≢false (sym e)) }

module _ (set : Setting) (k : Checks) (rank : ℕ → ℕ) (lets : List Value) (lets_are : LetsAre set nobody set.around.lets lets) (d : ℕ) (m : Direction)
    (covered : CoveredDirection set rank k d m) where
  abbrev q : Scene
  q = scene_across set k rank d

  -- of what comes in
  crossing : (w : World Item) (v : Value) → IsOf set m.parameter v → w.hart ≡ set.hart → w.numbers ≡ [] → w.lets ≡ lets
      → SoundCalls set (below set rank d) w → (s : Sized)
      → (IsExact set → (g : Integers) → OpensAs set.around.types set.past nobody g (bare_type m.parameter) v s)
      → Crossing q w start_point [] m (item s v) nothing_noted
  crossing w v is hart numbers let_values sound s made = record {
    stands = record { there = λ g a. record { numbers = tt; true_there = tt; given = tt } };
    world = record {
      names = tt;
      numbers = subst (λ ns. AreGiven q w start_point [] ns) (sym numbers) tt;
      answer = tt;
      lets = subst (LetsAre set nobody set.around.lets) (sym let_values) lets_are;
      hart = hart;
      calls = sound;
    };
    wanted = bare_wanted set start_point m.result;
    made = record {
      steady = bare_steady set start_point m.parameter;
      belongs = λ g a. ap (belongs set.around.types v) (bare_closed set g m.parameter) ∙ is;
      made = λ exact g a. made exact g;
    };
    nowhere = refl;
    may_fall = refl;
  }

  clauses_mean : (w : World Item) (kind : Kind) → (out-Core m.body).kind ≡ kind → meaning (read_as q) w m.body
      ≡ kind_meaning (read_as q) w (out-Core m.body).place (out-Core m.body).number kind (map (meaning (read_as q) w) (bodies_of m))
  clauses_mean w kind e = core_out (read_as q) w m.body kind e

  -- the clauses, one way or the other
  side_ends : (side : Side) (n : ℕ) (hold : ClausesOf q side m) (w : World Item) → ArmsOf q w side m hold → (x : Item) → w.arguments ≡ x ∷ []
      → Crossing q w start_point [] m x nothing_noted → AllMet q (mapping_of set side m [] 0).notes → (now : Now Item) → now.opened ≡ nothing_noted
      → Sound q now
      → EndsWell q start_point (mapping_of set side m [] 0).next [] (λ g y. Results q g (bare_type m.result) y) (meaning (read_as q) w m.body now)
  side_ends (is_ahead other) n hold w arms x arguments cross met now opened ok =
      let same : mapping_of set (is_ahead other) m ≡ both_walk m.place (here (nowhere_scene set)) m other hold.arms (bodies_of m) hold.backs (bodies_of other) =
      λ j. arms_walk (here (nowhere_scene set)) m other (clause_arms (hold.ahead j)) (bodies_of m) (clause_arms (hold.back j)) (bodies_of other) in
      subst (λ (c : Run Item Item). EndsWell q start_point (mapping_of set (is_ahead other) m [] 0).next [] (λ g y. Results q g (bare_type m.result) y) (c now))
      (sym (clauses_mean w (K.Clauses hold.arms) hold.ahead
      ∙ ap (first_of (read_as q) w (out-Core m.body).number hold.arms (map (meaning (read_as q) w) (bodies_of m)) falls) arguments))
      (subst (λ (o : Walk (Unit {0})). EndsWell q start_point (o [] 0).next [] (λ g y. Results q g (bare_type m.result) y)
      (first_of (read_as q) w (out-Core m.body).number hold.arms (map (meaning (read_as q) w) (bodies_of m)) falls (x ∷ []) now)) (sym same)
      (ahead_end q m.place m other w x nothing_noted hold.arms (bodies_of m) hold.backs (bodies_of other) 0 start_point [] hold.ahead_grows hold.back_grows
      cross arms
      (subst (λ (o : Walk (Unit {0})). AllMet q (o [] 0).notes) same met) now opened ok))
  side_ends (is_back other) n hold w arms x arguments cross met now opened ok =
      let same : mapping_of set (is_back other) m
      ≡ both_walk other.place (here (nowhere_scene set)) other m hold.arms (bodies_of other) hold.backs (bodies_of m) =
      λ j. arms_walk (here (nowhere_scene set)) other m (clause_arms (hold.ahead j)) (bodies_of other) (clause_arms (hold.back j)) (bodies_of m) in
      subst (λ (c : Run Item Item). EndsWell q start_point (mapping_of set (is_back other) m [] 0).next [] (λ g y. Results q g (bare_type m.result) y) (c now))
      (sym (clauses_mean w (K.Clauses hold.backs) hold.back
      ∙ ap (first_of (read_as q) w (out-Core m.body).number hold.backs (map (meaning (read_as q) w) (bodies_of m)) falls) arguments))
      (subst (λ (o : Walk (Unit {0})). EndsWell q start_point (o [] 0).next [] (λ g y. Results q g (bare_type m.result) y)
      (first_of (read_as q) w (out-Core m.body).number hold.backs (map (meaning (read_as q) w) (bodies_of m)) falls (x ∷ []) now)) (sym same)
      (back_end q other.place other m w x nothing_noted hold.arms (bodies_of other) hold.backs (bodies_of m) 0 start_point [] hold.ahead_grows hold.back_grows
      cross arms
      (subst (λ (o : Walk (Unit {0})). AllMet q (o [] 0).notes) same met) now opened ok))

  pub gone_ends : (world : List Item → World Item) → ((xs : List Item) → (world xs).hart ≡ set.hart) → ((xs : List Item) → (world xs).numbers ≡ [])
      → ((xs : List Item) → (world xs).lets ≡ lets) → ((xs : List Item) → (world xs).arguments ≡ xs)
      → ((xs : List Item) → SoundCalls set (below set rank d) (world xs)) → (v : Value) → IsOf set m.parameter v
      → (before : Now Item) → StateBelongs set before.state
      → CallEnds set true before (IsOf set m.result) (gone (running set k lets) world d v (Some m) before)
  gone_ends world hart numbers let_values arguments sound v is before s =
      let taken = covered.takes v is in
      let x : Item = item taken.0 v in
      let w : World Item = world (x ∷ []) in
      let start : Now Item = record before { locals = []; opened = nothing_noted } in
      subst (λ o. CallEnds set true before (IsOf set m.result) (goes_on (needs (option_map (λ z. item z v) o) before) (λ y.
      crossed (read_as q) (world (y ∷ [])) m))) (sym taken.1)
      (across_ends m.result before _ refl refl (side_ends covered.side 0 covered.clauses w (covered.arms w) x (arguments (x ∷ []))
      (crossing w v is (hart (x ∷ [])) (numbers (x ∷ [])) (let_values (x ∷ [])) (sound (x ∷ [])) taken.0 taken.2) covered.met start refl
      (record { state = s; names = tt })))
