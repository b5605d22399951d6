-- Clauses beside their walk: the parameters are opened anew for each, and each notes their numbers with those of its names.
use Rattle.std.proofs.Common.{◌≡◌, ◌∙◌, ap, sym, refl, subst, ℕ, ◌≤◌, arith, Bool, true, false, ◌&&◌, true≢false, List, [], ◌∷◌, map, Option}
use Rattle.std.proofs.Common.{length, Some, None}
use Rattle.sail_base.specs.declared.place.Place.{Place}
use Rattle.sail_types.specs.Numbers.{Assignment, form_true, true_in}
use Rattle.sail_types.specs.declared.numbers.Con.{fold-roll-Con}
use Rattle.sail_types.specs.declared.numbers.Con.TheOpen as F
use Rattle.sail_types.specs.declared.numbers.Con.TheVariants as C
use Rattle.sail_types.specs.Belongs.{Reading as Closed}
use Rattle.sail_types.specs.Places.{Given}
use Rattle.sail_types.specs.declared.numbers.Index.{Index}
use Rattle.sail_types.specs.declared.types.Typ.{Typ}
use Rattle.sail_core.specs.declared.model.Function.{Function}
use Rattle.sail_core.specs.declared.patterns.Arm.{Arm}
use Rattle.sail_core.specs.declared.tree.Core.{Core}
use Rattle.sail_core.specs.declared.tree.Giver.TheVariants as By
use Rattle.sail_core.specs.declared.tree.Giver.{Giver}
use Rattle.sail_core.specs.declared.written.WrittenNumber.{WrittenNumber}
use Rattle.sail_core.specs.Making.{World}
use Rattle.sail_core.specs.Meaning.{arm_taken, first_of, meaning, or_then}
use Rattle.sail_core.specs.Run.{Ended, Now, Run, falls, or_so}
use Rattle.value_indices.specs.declared.indices.Indices.{Indices}
use Rattle.value_indices.specs.declared.indices.Reading.{Reading}
use Rattle.value_indices.specs.declared.notes.Fact.{Fact}
use Rattle.value_indices.specs.Steps.{Walk, bind, give, owe, scoped, wrong}
use Rattle.pattern_notes.specs.Patterns.{looks}
use Rattle.call_arguments.specs.declared.aims.Aim.TheVariants as Aims
use Rattle.expression_steps.specs.Parts.{Part}
use Rattle.function_notes.specs.Functions.{arm_of, body_part, clause_walk, clauses_walk, in_clause, parameters_opened, written_walk}
use Rattle.checked_meaning.specs.Checked.{Noted}
use Rattle.checked_meaning.specs.Items.{Item}
use Rattle.value_laws.specs.Belonging.{standing}
use Rattle.value_laws.specs.Known.{Point}
use Rattle.value_laws.proofs.Numbers.{truth_is}
use Rattle.value_laws.proofs.Steps.{same}
use Rattle.soundness_steps.specs.Points.{Later}
use Rattle.soundness_steps.proofs.Points.{agree_on, later_on}
use Rattle.soundness_steps.specs.Works.{Kept, Scene, Setting, Work, here}
use Rattle.soundness_steps.specs.States.{Sound}
use Rattle.soundness_steps.specs.Steps.{AllMet, Beside, EndsWell, Stands, Walks, well_given, well_no, well_returned, well_stopped, well_thrown}
use Rattle.soundness_steps.specs.Values.{AllAre, InScope, IsWanted}
use Rattle.soundness_steps.proofs.Steps.{grown, grown_later, met_behind, met_front, scopes, stands_on, walks_then, well_on}
use Rattle.soundness_forms.specs.Worlds.{AnswerIs, AreGiven, Surrounds}
use Rattle.soundness_forms.proofs.Basics.{wanted_on}
use Rattle.soundness_calls.specs.Premises.{ArmIsSound, ArmsAreSound, ClausesGrow, Results, own_of, own_type, read_as}
use Rattle.soundness_calls.proofs.Bare.{taken_same}
use Rattle.soundness_calls.proofs.Opens.{AllOf, all_are_on, all_of_on, exponents, parameters_open}

-- no number is noted yet
abbrev pub nothing_noted : Noted
nothing_noted = λ i. None

-- ---- later on

given_on : (q : Scene) (w : World Item) {n m : ℕ} {p : Point n} {g : Point m} (is : List Index) (ys : List Given) → Later p g → AreGiven q w p is ys
    → AreGiven q w g is ys
given_on q w [] [] l h = tt
given_on q w [] (y ∷ ys) l h = absurd h
given_on q w (i ∷ is) [] l h = absurd h
given_on q w (i ∷ is) (y ∷ ys) l h = (λ k a. h.0 k (agree_on l a), given_on q w is ys l h.1)

answer_on : (q : Scene) (w : World Item) {n m : ℕ} {p : Point n} {g : Point m} (r : Option Reading) (t : Option Closed) → Later p g → AnswerIs q w p r t
    → AnswerIs q w g r t
answer_on q w None None l h = tt
answer_on q w None (Some t) l h = absurd h
answer_on q w (Some r) None l h = absurd h
answer_on q w (Some r) (Some t) l h = (λ k a. h.0 k (agree_on l a), h.1)

no_names : (set : Setting) (work : Work) {n m : ℕ} (p : Point n) (g : Point m) (ks : List Kept) → InScope set work p [] ks → InScope set work g [] ks
no_names set work p g [] h = tt
no_names set work p g (k ∷ ks) h = absurd h

pub world_on : {q : Scene} {n m : ℕ} {p : Point n} {g : Point m} {w : World Item} → Later p g → Surrounds q w p [] → Surrounds q w g []
world_on {q} {p = p} {g = g} {w = w} l s = record {
  names = no_names q.set q.work p g q.names s.names;
  numbers = given_on q w q.numbers w.numbers l s.numbers;
  answer = answer_on q w q.result q.answer l s.answer;
  lets = s.lets;
  hart = s.hart;
  calls = s.calls;
}

pub results_on : {q : Scene} {n m : ℕ} {p : Point n} {g : Point m} {r : Reading} {x : Item} → Later p g → Results q p r x → Results q g r x
results_on l h = record { belongs = λ k a. h.belongs k (agree_on l a); typ = λ exact k a. h.typ exact k (agree_on l a) }

-- ---- what is false is met nowhere

all_false : (nu : Assignment) → true_in nu (C.All (C.Truth false ∷ [])) ≡ false
all_false nu = ap (true_in nu) (sym (C.rolls-All (C.Truth false ∷ [])))
    ∙ fold-roll-Con Bool (form_true nu) (F.All (C.Truth false ∷ [])) ∙ ap (λ b. b && true) (truth_is nu false)

pub wrong_never : (q : Scene) {n : ℕ} {p : Point n} {facts : List Fact} {noted : Noted} (place : Place) → Stands q.set q.work noted p facts
    → AllMet q (wrong place facts n).notes → ⊥
unfolding owe
wrong_never q {p = p} place stands met =
    true≢false (sym (met.0 p.integers (stands.there p.integers (same p)).true_there) ∙ all_false (standing q.set.past p.integers))

-- ---- one clause

-- what is known of the call at every clause
pub record Entering (q : Scene) (w : World Item) (f : Function) {n : ℕ} (p : Point n) (facts : List Fact) (r : Reading) (xs : List Item) (more : Noted)
    : Type 0 where
  pub stands : Stands q.set q.work more p facts
  pub world : Surrounds q w p []
  pub wanted : IsWanted q.set q.work p r
  pub all : AllOf q.set q.work p (map (own_type f) f.parameters) xs
  pub numbers : q.numbers ≡ own_of f
  pub may_fall : q.may_fall ≡ true

entering_on : {q : Scene} {w : World Item} {f : Function} {n m : ℕ} {p : Point n} {g : Point m} {facts : List Fact} {r : Reading} {xs : List Item}
    {more : Noted} → Later p g → Entering q w f p facts r xs more → Entering q w f g facts r xs more
entering_on {q} {f = f} {r = r} {xs = xs} l h = record {
  stands = stands_on l h.stands;
  world = world_on l h.world;
  wanted = wanted_on q.set q.work r l h.wanted;
  all = all_of_on q.set q.work (map (own_type f) f.parameters) xs l h.all;
  numbers = h.numbers;
  may_fall = h.may_fall;
}

clause_ends : (q : Scene) {w : World Item} {f : Function} {n : ℕ} {p : Point n} {facts : List Fact} {r : Reading} {xs : List Item} {more : Noted}
    (place : Place) (giver : Giver) (once : List WrittenNumber) (arm : Arm) (body : Part) (run : Run Item Item) → Entering q w f p facts r xs more
    → ArmIsSound q w place arm body run
    → Beside q n p facts (clause_walk place giver (here q) f.parameters once (Aims.Due r) arm body)
    ((read_as q).inside (arm_taken (read_as q) w giver arm run xs)) (λ m g i x. Results q g r x)
clause_ends q {w} {f} {n} {p} {facts} {r} {xs} place giver once arm body run h sound =
    scopes (walks_then _ come (λ m g fs is l are.
    walks_then _ (exponents (here q) once) (λ m2 g2 fs2 t l2 u.
    sound giver m2 g2 (world_on (later_on l l2) h.world) fs2 in_clause r (wanted_on q.set q.work r (later_on l l2) h.wanted) is xs
    (all_are_on q.set q.work is xs l2 are))))
  where
    come : Walks q n p facts (parameters_opened (looks arm) q.numbers f.parameters) (λ m g is. AllAre q.set q.work g is xs)
    come =
        subst (λ ns. Walks q n p facts (parameters_opened (looks arm) ns f.parameters) (λ m g is. AllAre q.set q.work g is xs)) (sym h.numbers)
        (parameters_open q (own_of f) (looks arm) f.parameters xs h.all)

-- ---- all clauses

grow_well : {q : Scene} {n : ℕ} {p : Point n} {m k : ℕ} {facts : List Fact} {r : Reading} {e : Ended Item Item} (next : Run Item Item) → m ≤ k
    → EndsWell q p m facts (λ g x. Results q g r x) e
    → ((now : Now Item) → Sound q now → EndsWell q p k facts (λ g x. Results q g r x) (next now))
    → EndsWell q p k facts (λ g x. Results q g r x) (or_so e next)
grow_well next le (well_given x now a s) rest =
    let l = grown_later a.point le in
    well_given x now (record {
      point = grown a.point le;
      later = later_on a.later l;
      stands = stands_on l a.stands;
      holds = results_on l a.holds;
    }) s
grow_well next le (well_no now a s) rest = rest now s
grow_well next le (well_returned v now b s) rest = well_returned v now b s
grow_well next le (well_thrown v now b s) rest = well_thrown v now b s
grow_well next le (well_stopped cause now) rest = well_stopped cause now

-- behind all clauses is in force what was, and no variable is from before
pub clauses_facts : (q : Scene) (place : Place) (k : ℕ) (ts : List Typ) (once : List WrittenNumber) (r : Reading) (declared : Bool)
    (arms : List Arm) (bodies : List Core) (facts : List Fact) (n : ℕ)
    → (clauses_walk place k (here q) ts once (Aims.Due r) declared arms bodies facts n).facts ≡ facts
unfolding bind give scoped owe
clauses_facts q place k ts once r declared [] [] facts n = refl
clauses_facts q place k ts once r declared [] (b ∷ bodies) facts n = refl
clauses_facts q place k ts once r declared (a ∷ arms) [] facts n = refl
clauses_facts q place k ts once r declared (a ∷ arms) (b ∷ bodies) facts n =
    clauses_facts q place k ts [] r declared arms bodies facts
    (written_walk place (By.Arm k (length arms)) (here q) ts once (Aims.Due r) declared a b facts n).next

clauses_next : (q : Scene) (place : Place) (k : ℕ) (ts : List Typ) (once : List WrittenNumber) (r : Reading) (declared : Bool) (arms : List Arm)
    (bodies : List Core) → ClausesGrow q place ts r declared arms bodies → (facts : List Fact) (n : ℕ)
    → n ≤ (clauses_walk place k (here q) ts once (Aims.Due r) declared arms bodies facts n).next
unfolding bind give scoped owe
clauses_next q place k ts once r declared [] [] g facts n = omega arith
clauses_next q place k ts once r declared [] (b ∷ bodies) g facts n = omega arith
clauses_next q place k ts once r declared (a ∷ arms) [] g facts n = omega arith
clauses_next q place k ts once r declared (a ∷ arms) (b ∷ bodies) g facts n =
    let first = written_walk place (By.Arm k (length arms)) (here q) ts once (Aims.Due r) declared a b facts n in
    let one : n ≤ first.next = g.0 (By.Arm k (length arms)) once facts n in
    let others = clauses_next q place k ts [] r declared arms bodies g.1 facts first.next in
    omega (arith, one, others)

-- one clause, and those behind it
pub next_clause : (q : Scene) {n : ℕ} {p : Point n} {facts : List Fact} {r : Reading} (m k : ℕ) (walked taken rest : Run Item Item)
    → walked ≡ taken → n ≤ m → m ≤ k → (now : Now Item) → EndsWell q p m facts (λ g x. Results q g r x) ((read_as q).inside walked now)
    → ((g : Point m) (after : Now Item) → Later p g → Sound q after → EndsWell q g k facts (λ g x. Results q g r x) (rest ((read_as q).back now after)))
    → EndsWell q p k facts (λ g x. Results q g r x) (or_then (read_as q) ((read_as q).inside taken) rest now)
next_clause q {p = p} {facts = facts} {r = r} m k walked taken rest same up le now one others =
    grow_well (λ after. rest ((read_as q).back now after)) le
    (subst (λ (c : Run Item Item). EndsWell q p m facts (λ g x. Results q g r x) ((read_as q).inside c now)) same one)
    (λ after s. well_on (grown_later p up) (others (grown p up) after (grown_later p up) s))

module _ (q : Scene) (w : World Item) (f : Function) (r : Reading) (xs : List Item) (more : Noted) (place : Place) (number : ℕ) (declared : Bool)
  where
    abbrev clauses_from : List WrittenNumber → List Arm → List Core → Walk (Unit {0})
    clauses_from once arms bodies = clauses_walk place number (here q) f.parameters once (Aims.Due r) declared arms bodies

    abbrev first_from : List WrittenNumber → ℕ → Arm → Core → Walk Indices
    first_from once left arm body = written_walk place (By.Arm number left) (here q) f.parameters once (Aims.Due r) declared arm body

    abbrev run_of : List Arm → List Core → Run Item Item
    run_of arms bodies = first_of (read_as q) w number arms (map (meaning (read_as q) w) bodies) falls xs

    -- how clauses end, from wherever they begin
    abbrev ClausesEnd : List Arm → List Core → Type 0
    ClausesEnd arms bodies = (once : List WrittenNumber) (n : ℕ) (p : Point n) (facts : List Fact) → Entering q w f p facts r xs more
        → ArmsAreSound q w place declared arms bodies → ClausesGrow q place f.parameters r declared arms bodies
        → AllMet q (clauses_from once arms bodies facts n).notes → (now : Now Item) → now.opened ≡ more → Sound q now
        → EndsWell q p (clauses_from once arms bodies facts n).next facts (λ g x. Results q g r x) (run_of arms bodies now)

    split_next : (once : List WrittenNumber) (a : Arm) (b : Core) (arms : List Arm) (bodies : List Core) (facts : List Fact) (n : ℕ)
        → (clauses_from [] arms bodies facts (first_from once (length arms) a b facts n).next).next ≡ (clauses_from once (a ∷ arms) (b ∷ bodies) facts n).next
    unfolding bind scoped
    split_next once a b arms bodies facts n = refl

    split_front : (once : List WrittenNumber) (a : Arm) (b : Core) (arms : List Arm) (bodies : List Core) (facts : List Fact) (n : ℕ)
        → AllMet q (clauses_from once (a ∷ arms) (b ∷ bodies) facts n).notes → AllMet q (first_from once (length arms) a b facts n).notes
    unfolding bind scoped
    split_front once a b arms bodies facts n met =
        met_front q (first_from once (length arms) a b facts n).notes
        (clauses_from [] arms bodies facts (first_from once (length arms) a b facts n).next).notes met

    split_behind : (once : List WrittenNumber) (a : Arm) (b : Core) (arms : List Arm) (bodies : List Core) (facts : List Fact) (n : ℕ)
        → AllMet q (clauses_from once (a ∷ arms) (b ∷ bodies) facts n).notes
        → AllMet q (clauses_from [] arms bodies facts (first_from once (length arms) a b facts n).next).notes
    unfolding bind scoped
    split_behind once a b arms bodies facts n met =
        met_behind q (first_from once (length arms) a b facts n).notes
        (clauses_from [] arms bodies facts (first_from once (length arms) a b facts n).next).notes met

    clauses_more : (a : Arm) (b : Core) (arms : List Arm) (bodies : List Core) → ClausesEnd arms bodies → ClausesEnd (a ∷ arms) (b ∷ bodies)
    unfolding scoped
    clauses_more a b arms bodies others once n p facts h sound grow met now opened ok =
        let giver = By.Arm number (length arms) in
        let next : ℕ = (first_from once (length arms) a b facts n).next in
        subst (λ k. EndsWell q p k facts (λ g x. Results q g r x) (run_of (a ∷ arms) (b ∷ bodies) now)) (split_next once a b arms bodies facts n)
        (next_clause q {p = p} {facts = facts} {r = r} next (clauses_from [] arms bodies facts next).next
        (arm_taken (read_as q) w giver (arm_of declared a) (meaning (read_as q) w b) xs) (arm_taken (read_as q) w giver a (meaning (read_as q) w b) xs)
        (run_of arms bodies) (taken_same (read_as q) w giver declared a (meaning (read_as q) w b) xs) (grow.0 giver once facts n)
        (clauses_next q place number f.parameters [] r declared arms bodies grow.1 facts next) now
        ((clause_ends q place giver once (arm_of declared a) (body_part declared b) (meaning (read_as q) w b) h sound.0).run now
        (subst (λ o. Stands q.set q.work o p facts) (sym opened) h.stands) (split_front once a b arms bodies facts n met) ok)
        (λ g after l s. others [] next g facts (entering_on l h) sound.1 grow.1 (split_behind once a b arms bodies facts n met)
        ((read_as q).back now after) opened (record { state = s.state; names = s.names })))

    pub clauses_end : (arms : List Arm) (bodies : List Core) → ClausesEnd arms bodies
    clauses_end [] [] = λ once n p facts h sound grow met now opened ok. well_no now h.may_fall ok
    clauses_end [] (b ∷ bodies) = λ once n p facts h sound grow met now opened ok. absurd (wrong_never q place h.stands met)
    clauses_end (a ∷ arms) [] = λ once n p facts h sound grow met now opened ok. absurd (wrong_never q place h.stands met)
    clauses_end (a ∷ arms) (b ∷ bodies) = clauses_more a b arms bodies (clauses_end arms bodies)
