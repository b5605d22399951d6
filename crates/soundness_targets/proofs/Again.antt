-- What was noted before is met later too: a node makes another value there, and gives its numbers again.
use Rattle.std.proofs.Common.{◌≡◌, ◌∙◌, ℕ, true, List, [], ◌∷◌, ◌++◌, Some, refl, sym, ap, subst}
use Rattle.sail_types.proofs.SumNumbers.{some_same}
use Rattle.sail_types.specs.Numbers.{Assignment, Positive}
use Rattle.sail_types.specs.declared.values.Value.{Value}
use Rattle.sail_core.specs.Making.{made}
use Rattle.sail_core.specs.Run as R
use Rattle.sail_core.specs.Run.{Now, gives, goes_on, needs, ◌then◌}
use Rattle.sail_core.specs.declared.tree.Giver.TheVariants as By
use Rattle.size_values.specs.declared.sized.Sized.{Sized}
use Rattle.value_indices.specs.declared.indices.Indices.{Indices}
use Rattle.value_indices.specs.declared.notes.Fact.{Fact}
use Rattle.value_indices.specs.declared.notes.Fact.TheVariants as Y
use Rattle.value_indices.specs.declared.notes.Made.{Made}
use Rattle.value_indices.specs.Steps.{conditions}
use Rattle.checked_meaning.specs.Checked.{Noted, checked, noting}
use Rattle.checked_meaning.specs.Items.{Item, item, typs}
use Rattle.value_laws.specs.Belonging.{Integers, has, standing}
use Rattle.value_laws.specs.Known.{Agree, AllTrue, Point, given_in}
use Rattle.value_laws.proofs.Steps.{same}
use Rattle.soundness_steps.specs.Works.{Scene, Setting, Work}
use Rattle.soundness_steps.specs.Covers.{AreSized, HasCase, Notes}
use Rattle.soundness_steps.specs.Noted.{EachNoted, IsSo, is_made, variables_given, with_given}
use Rattle.soundness_steps.specs.Steps.{Stands}
use Rattle.soundness_steps.specs.Values.{AllTyped, Has}
use Rattle.soundness_steps.proofs.Steps.{all_sized}
use Rattle.soundness_forms.proofs.Basics.{has_there}

-- ---- what is so of more facts is so of the first of them

true_front : (mu : Assignment) (facts more : List Fact) → AllTrue mu (conditions (facts ++ more)) → AllTrue mu (conditions facts)
true_front mu [] more h = tt
true_front mu (Y.Holds c ∷ facts) more h = (h.0, true_front mu facts more h.1)
true_front mu (Y.IsGiven v ∷ facts) more h = true_front mu facts more h

given_front : (noted : Noted) (g : Integers) (facts more : List Fact) → EachNoted noted g (given_in (facts ++ more)) → EachNoted noted g (given_in facts)
given_front noted g [] more h = tt
given_front noted g (Y.Holds c ∷ facts) more h = given_front noted g facts more h
given_front noted g (Y.IsGiven v ∷ facts) more h = (h.0, given_front noted g facts more h.1)

so_front : {past : Positive} {work : Work} {noted : Noted} {g : Integers} (facts more : List Fact) → IsSo past work noted g (facts ++ more)
    → IsSo past work noted g facts
so_front {past} {work} {noted} {g} facts more s = record {
  numbers = s.numbers;
  true_there = true_front (standing past g) facts more s.true_there;
  given = given_front noted g facts more s.given;
}

pub stands_front : {set : Setting} {work : Work} {noted : Noted} {n : ℕ} {f : Point n} (facts more : List Fact) → Stands set work noted f (facts ++ more)
    → Stands set work noted f facts
stands_front facts more s = record { there = λ g a. so_front facts more (s.there g a) }

-- ---- notes that are met

module _ (q : Scene) where
  -- what a node makes, wherever these facts are so
  abbrev pub CanMake : List Fact → ℕ → List Indices → Made → Type 0
  CanMake facts k operands made = (g : Integers) (noted : Noted) → IsSo q.set.past q.work noted g facts → (ss : List Sized)
      → AreSized q.set q.work g operands ss → (v : Value) → is_made q.set.around.types q.set.past q.work g made v ≡ true
      → HasCase q.set q.work g made v (q.cases.makes k ss v noted)

  -- the numbers that it gives
  abbrev pub CanNote : List Fact → ℕ → Indices → Type 0
  CanNote facts k i = (g : Integers) (noted : Noted) → IsSo q.set.past q.work noted g facts → (v : Value)
      → has q.set.around.types (standing q.set.past g) q.work.types i v ≡ true
      → Notes q.set q.work g facts (variables_given i) (q.cases.notes (By.Node k) v noted)

  -- how a node makes a value and notes its numbers, at a moment
  pub record MadeThere {n : ℕ} (f : Point n) (facts : List Fact) (k : ℕ) (i : Indices) (xs : List Item) (v : Value) (now : Now Item) : Type 0 where
    pub value : Item
    pub noted : Noted
    pub is_v : value.val ≡ v
    pub is_there : made (checked q.set.around.types q.cases) k xs v now ≡ R.Gives value (record now { opened = noted })
    pub stands : Stands q.set q.work noted f (with_given facts (variables_given i))

  -- the case and the numbers are found
  made_is : (k : ℕ) (xs : List Item) (v : Value) (now : Now Item) (s : Sized) (more : Noted) → q.cases.makes k (typs xs) v now.opened ≡ Some s
      → q.cases.notes (By.Node k) v now.opened ≡ Some more
      → made (checked q.set.around.types q.cases) k xs v now ≡ R.Gives (item s v) (record now { opened = more })
  made_is k xs v now s more e h =
      ap (λ o. goes_on ((needs o then λ t. gives (item t v)) now) (λ x. (checked q.set.around.types q.cases).note (By.Node k) v then λ t. gives x)) e
      ∙ ap (λ o. goes_on (noting o now) (λ t. gives (item s v))) h

  module _ {n : ℕ} {f : Point n} (k : ℕ) (operands : List Indices) (made_of : Made) (i : Indices) (xs : List Item) (v : Value) (now : Now Item) where
    pub made_there : (earlier facts : List Fact) → CanMake earlier k operands made_of → CanNote facts k i → Stands q.set q.work now.opened f earlier
        → Stands q.set q.work now.opened f facts → AllTyped q.set q.work f operands xs
        → ((g : Integers) → Agree f g → is_made q.set.around.types q.set.past q.work g made_of v ≡ true) → Has q.set q.work f i v
        → MadeThere f facts k i xs v now
    made_there earlier facts makes notes before stands typed is_so has_it =
        let g : Integers = f.integers in
        let case : HasCase q.set q.work g made_of v (q.cases.makes k (typs xs) v now.opened) =
        makes g now.opened (before.there g (same f)) (typs xs) (all_sized q f operands xs g (same f) typed) v (is_so g (same f)) in
        let at : (h : Integers) → Agree f h → Notes q.set q.work h facts (variables_given i) (q.cases.notes (By.Node k) v now.opened) =
        λ h a. notes h now.opened (stands.there h a) v (has_there has_it h a) in
        let first = at g (same f) in
        record {
          value = item case.typ v;
          noted = first.more;
          is_v = refl;
          is_there = made_is k xs v now case.typ first.more case.is_there first.is_there;
          stands = record {
            there = λ h a.
                let other = at h a in
                subst (λ more. IsSo q.set.past q.work more h (with_given facts (variables_given i)))
                (some_same other.more first.more (sym other.is_there ∙ first.is_there)) other.is_so;
          };
        }
