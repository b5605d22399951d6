-- Types under the variables of the function at work are one and the same, and have no hole; what is owed at them.
use Rattle.std.proofs.Common.{◌≡◌, ℕ, pos, Bool, List, [], ◌∷◌, map, refl, sym, ap, ◌∙◌}
use Rattle.sail_base.specs.declared.place.Place.{Place}
use Rattle.sail_types.specs.Belongs.{assigned}
use Rattle.sail_types.specs.Numbers.{Positive}
use Rattle.sail_types.specs.Places.{Given, an_int, a_bool}
use Rattle.sail_types.specs.Sums.{constant}
use Rattle.sail_types.specs.declared.numbers.Con.TheVariants as C
use Rattle.sail_types.specs.declared.numbers.Index.{Index}
use Rattle.sail_types.specs.declared.numbers.Index.TheVariants as N
use Rattle.sail_types.specs.declared.types.Typ.{Typ}
use Rattle.sail_core.specs.Making.{World}
use Rattle.sail_core.specs.declared.written.WrittenNumber.{WrittenNumber}
use Rattle.sail_types.specs.Belongs.{reading}
use Rattle.value_indices.specs.declared.indices.Indices.TheFolds.{fold-roll-Reading}
use Rattle.value_indices.specs.declared.indices.Indices.TheOpen as W
use Rattle.value_indices.specs.declared.indices.Reading.TheVariants as R
use Rattle.value_indices.specs.declared.notes.Fact.{Fact}
use Rattle.value_indices.specs.Steps.{Conditions, owe}
use Rattle.pattern_leaves.specs.Settings.{exponents_owed, number_owed}
use Rattle.call_arguments.specs.Holes.{has_hole, type_holed, value_holed}
use Rattle.checked_meaning.specs.Items.{Item}
use Rattle.value_laws.specs.Belonging.{Integers, standing, closeds, index_there}
use Rattle.value_laws.specs.Known.{Point, Agree}
use Rattle.value_laws.proofs.Arguments.{assigned_there}
use Rattle.value_laws.proofs.Steps.{same}
use Rattle.value_laws.proofs.Values.{closed_is}
use Rattle.soundness_steps.proofs.Points.{no_later}
use Rattle.soundness_steps.specs.Works.{Scene, here}
use Rattle.soundness_steps.specs.Covers.{given_there}
use Rattle.soundness_steps.specs.Steps.{Walks}
use Rattle.soundness_steps.specs.Values.{IsWanted}
use Rattle.soundness_steps.proofs.Steps.{given_back, walks_on}
use Rattle.soundness_forms.specs.Worlds.{AreGiven}

-- ---- numbers that are given are the same wherever the variables are

abbrev given_index : Given → Index
given_index (an_int z) = N.Number (constant z)
given_index (a_bool b) = N.Truth (C.Truth b)

index_given : (past : Positive) (g : Integers) (i : Index) → index_there (standing past g) i ≡ given_index (given_there past g i)
index_given past g (N.Number t) = refl
index_given past g (N.Truth c) = refl

module _ (q : Scene) (w : World Item) {n : ℕ} (f : Point n) where
  each_given : (is : List Index) (ys : List Given) → AreGiven q w f is ys → (g : Integers) → Agree f g
      → map (index_there (standing q.set.past g)) is ≡ map given_index ys
  each_given [] [] h g a = refl
  each_given (i ∷ is) (y ∷ ys) h g a =
      λ j. (index_given q.set.past g i ∙ ap given_index (sym (h.0 g a))) j ∷ each_given is ys h.1 g a j
  each_given [] (y ∷ ys) h g a = absurd h
  each_given (i ∷ is) [] h g a = absurd h

  pub numbers_still : (is : List Index) (ys : List Given) → AreGiven q w f is ys → (g : Integers) → Agree f g
      → assigned (standing q.set.past g) is ≡ assigned (standing q.set.past f.integers) is
  numbers_still is ys h g a =
      sym (assigned_there q.set.past g is)
      ∙ ap (assigned (standing q.set.past (λ i. pos 0))) (each_given is ys h g a ∙ sym (each_given is ys h f.integers (same f)))
      ∙ assigned_there q.set.past f.integers is

  -- a type under them
  pub written_wanted : (t : Typ) (is : List Index) (ys : List Given) → AreGiven q w f is ys → IsWanted q.set q.work f (R.Of t is [])
  written_wanted t is ys h = (
    λ g a.
        closed_is q.set.around.types (standing q.set.past g) q.work.types (R.Of t is []) (W.Of t is []) (R.rolls-Of t is [])
        ∙ ap (λ mu. reading t mu (closeds q.work.types)) (numbers_still is ys h g a)
        ∙ sym (closed_is q.set.around.types (standing q.set.past f.integers) q.work.types (R.Of t is []) (W.Of t is []) (R.rolls-Of t is [])),
    ap has_hole (sym (R.rolls-Of t is [])) ∙ fold-roll-Reading Bool Bool value_holed type_holed (W.Of t is []),
  )

-- ---- what is owed of which nothing is asked here

pub owed_any : {q : Scene} {n : ℕ} {f : Point n} {facts : List Fact} (place : Place) (cs : Conditions) → Walks q n f facts (owe place cs) (λ m g t. Unit {0})
unfolding owe
owed_any {f} place cs = record { go = λ noted stands met. record { point = f; later = no_later f; stands = stands; holds = tt } }

pub exponents_any : {q : Scene} {n : ℕ} {f : Point n} {facts : List Fact} (ns : List WrittenNumber)
    → Walks q n f facts (exponents_owed (here q) ns) (λ m g t. Unit {0})
exponents_any [] = given_back tt tt
exponents_any {q} (k ∷ ns) = walks_on (λ t. exponents_owed (here q) ns) (owed_any k.place (number_owed (here q) k k.role)) (λ m g fs t l h. exponents_any ns)
