-- What conditions suffice for holds beside the walk that owes them.
use Rattle.std.proofs.Common.{◌≡◌, ℕ, Bool, true, false, List, [], ◌∷◌, ◌++◌, map, length, refl, sym, ap, ◌∙◌, subst}
use Rattle.sail_base.specs.declared.place.Place.{Place}
use Rattle.sail_types.specs.Belongs.{Reading as Closed}
use Rattle.sail_types.specs.Numbers.{Positive}
use Rattle.sail_types.specs.declared.numbers.Index.{Index}
use Rattle.sail_types.specs.declared.numbers.Index.TheVariants as N
use Rattle.sail_types.specs.declared.types.Typ.{Typ}
use Rattle.sail_types.specs.declared.values.Value.{Value}
use Rattle.value_indices.specs.declared.indices.Indices.{Indices}
use Rattle.value_indices.specs.declared.indices.Reading.{Reading}
use Rattle.value_indices.specs.declared.notes.Fact.{Fact}
use Rattle.value_indices.specs.declared.notes.Fact.TheVariants as Y
use Rattle.value_indices.specs.Steps.{Conditions, conditions, goals_under}
use Rattle.value_fits.specs.declared.fitted.Fitted.{Fitted}
use Rattle.value_fits.specs.Fitting.{fits, owe_fit, owe_made}
use Rattle.call_arguments.specs.Callees.{numbers_from}
use Rattle.call_arguments.specs.Placing.{call_conditions}
use Rattle.value_laws.specs.Belonging.{Integers, Meant, standing, closed, types_or_own}
use Rattle.value_laws.specs.Known.{AllTrue, given_in, Point, Agree}
use Rattle.value_laws.proofs.Steps.{no_later, same}
use Rattle.fitting_laws.specs.Fitting.{Said, Suffices}
use Rattle.fitting_laws.proofs.Deep.{fitting}
use Rattle.fitting_laws.proofs.Joining.{conjunction_said, suffice_as, true_both}
use Rattle.call_fits.specs.Calls as Fits
use Rattle.call_fits.proofs.Calling.{calls_fit}
use Rattle.call_fits.proofs.Types.{types_steady}
use Rattle.soundness_steps.proofs.Points.{agree_on, behind}
use Rattle.soundness_steps.specs.Works.{Scene}
use Rattle.soundness_steps.specs.Noted.{EachNoted}
use Rattle.soundness_steps.specs.Covers.{given_there}
use Rattle.soundness_steps.specs.Steps.{AllMet, Walks}
use Rattle.soundness_steps.proofs.Steps.{walks_mean}
use Rattle.soundness_forms.specs.Calls.{ArgumentsAre}
use Rattle.soundness_forms.specs.Forms.{FitsSuffice}
use Rattle.soundness_fits.specs.Calls.{StandingCallsFit}

given_more : (fs gs : List Fact) → given_in gs ≡ [] → given_in (fs ++ gs) ≡ given_in fs
given_more [] gs h = h
given_more (Y.Holds c ∷ fs) gs h = given_more fs gs h
given_more (Y.IsGiven v ∷ fs) gs h = ap (λ vs. v ∷ vs) (given_more fs gs h)

-- what is owed is said
goals_said : (q : Scene) (facts : List Fact) (place : Place) (cs : Conditions) → AllMet q (goals_under facts place cs) → (g : Integers)
    → AllTrue (standing q.set.past g) (conditions facts) → Said (standing q.set.past g) cs
goals_said q facts place [] met g t = tt
goals_said q facts place (c ∷ cs) met g t = conjunction_said (standing q.set.past g) (c ∷ cs) (met.0 g t)

-- what suffices holds behind it
pub suffices_walks : {q : Scene} {n : ℕ} {f : Point n} {facts : List Fact} {Then : Integers → Type 0} (place : Place) (made : ℕ → Fitted)
    → Suffices q.set.past n f (made n) Then → Walks q n f facts (owe_fit place made) (λ m p t. (g : Integers) → Agree p g → Then g)
unfolding owe_fit owe_made
suffices_walks {q} {n} {f} {facts} place made s = record {
  go = λ noted stands met.
      let there : (g : Integers) → Agree s.point g → AllTrue (standing q.set.past g) (conditions (facts ++ (made n).facts)) =
      λ g a. true_both (standing q.set.past g) facts (made n).facts (stands.there g (agree_on (behind s.later) a)).true_there (s.true_there g a) in
      record {
        point = s.point;
        later = behind s.later;
        stands = record {
          there = λ g a.
              let before = stands.there g (agree_on (behind s.later) a) in
              record {
                numbers = before.numbers;
                true_there = there g a;
                given = subst (EachNoted noted g) (sym (given_more facts (made n).facts s.given)) before.given;
              };
        };
        holds = λ g a. s.suffices s.point (no_later s.point)
            (λ h b. goals_said q (facts ++ (made n).facts) place (made n).conditions met h (there h b)) g a;
      };
}

pub fits_suffice : FitsSuffice
fits_suffice q n f facts place i r v has wanted =
    suffices_walks {q = q} place (fits q.set.around.types i r)
    (fitting q.set.around.types q.set.past q.work.types i r n f v wanted.1 (λ g a. has.steady g a ∙ sym (has.steady f.integers (same f))) wanted.0
    (ap (λ (m : Meant). m.holds v) (has.steady f.integers (same f)) ∙ has.is_so))

-- ---- calls

module _ (q : Scene) {n : ℕ} (f : Point n) where
  arguments_there : (bs : List Bool) (ts : List Typ) (is : List Indices) (vs : List Value)
      → ArgumentsAre q.set q.work f bs ts is vs → Fits.AreArguments q.set.around.types q.set.past q.work.types f bs ts is vs
  arguments_there [] [] [] [] h = tt
  arguments_there [] [] [] (v ∷ vs) h = absurd h
  arguments_there [] [] (i ∷ is) vs h = absurd h
  arguments_there [] (t ∷ ts) is vs h = absurd h
  arguments_there (b ∷ bs) [] is vs h = absurd h
  arguments_there (b ∷ bs) (t ∷ ts) [] vs h = absurd h
  arguments_there (b ∷ bs) (t ∷ ts) (i ∷ is) [] h = absurd h
  arguments_there (true ∷ bs) (t ∷ ts) (i ∷ is) (v ∷ vs) h = (
    record {
      steady = λ g a. h.0.steady g a ∙ sym (h.0.steady f.integers (same f));
      is_so = ap (λ (m : Meant). m.holds v) (h.0.steady f.integers (same f)) ∙ h.0.is_so;
    },
    h.1,
    arguments_there bs ts is vs h.2,
  )
  arguments_there (false ∷ bs) (t ∷ ts) (i ∷ is) (v ∷ vs) h = (
    record {
      steady = λ g a. h.0.steady g a ∙ sym (h.0.steady f.integers (same f));
      is_so = ap (λ (m : Meant). m.holds v) (h.0.steady f.integers (same f)) ∙ h.0.is_so;
    },
    tt,
    arguments_there bs ts is vs h.2,
  )

-- ---- what the callee's variables stand for, in the framework's words

there_same : (past : Positive) (g : Integers) (x : Index) → given_there past g x ≡ Fits.given_there (standing past g) x
there_same past g (N.Number t) = refl
there_same past g (N.Truth c) = refl

all_there : (past : Positive) (g : Integers) (xs : List Index) → map (given_there past g) xs ≡ map (Fits.given_there (standing past g)) xs
all_there past g [] = refl
all_there past g (x ∷ xs) = λ j. there_same past g x j ∷ all_there past g xs j

pub calls_fit_standing : StandingCallsFit
calls_fit_standing fn places q n f facts place bs is vs arguments =
    let types = q.set.around.types in
    let past = q.set.past in
    let own = q.work.types in
    let js : List Index = numbers_from 0 fn.variables fn.parameters is in
    let qs : List Reading = Fits.types_found n fn is in
    let there = arguments_there q f bs fn.parameters is vs arguments in
    let h : Integers = Fits.integers_there (standing past f.integers) js in
    let types_at : Integers → List Closed = λ g. map (closed types (standing past g) own) qs in
    let owed : Walks q n f facts (owe_fit place (call_conditions (fits types) fn js qs bs is)) (λ m p t.
    (g : Integers) → Agree p g → Fits.Enters types past own fn js qs vs h g × (types_at g ≡ types_at f.integers)) =
    suffices_walks {q = q} place (call_conditions (fits types) fn js qs bs is)
    (suffice_as (calls_fit types past own fn bs is vs n f places there)
    (λ g a e. (e, types_steady types past own f bs (length fn.type_variables) 0 fn.parameters is vs there g a))) in
    walks_mean (λ m p t e.
    let first = e p.integers (same p) in
    record {
      integers = h;
      types = types_or_own (types_at p.integers) own;
      same = λ g a. (e g a).0.same;
      same_types = λ g a. ap (λ cs. types_or_own cs own) ((e g a).1 ∙ sym first.1);
      given = λ g a. all_there past g js ∙ (e g a).0.given;
      belong = first.0.belong;
      constraint = first.0.constraint;
      are_given = first.0.are_given;
    }) owed
