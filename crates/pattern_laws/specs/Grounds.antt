-- What is known around a pattern: the numbers of the function at work, and the directions of mappings.
use Rattle.std.specs.Prelude.{◌≡◌, ℕ, true, List, [], slice_get, Option, Some}
use Rattle.sail_types.specs.Belongs.{Reading as Closed, assigned}
use Rattle.sail_types.specs.Numbers.{Positive, number}
use Rattle.sail_types.specs.declared.numbers.Index.TheVariants as N
use Rattle.sail_types.specs.declared.numbers.Num.{Num}
use Rattle.sail_types.specs.declared.types.Typ.{Typ}
use Rattle.sail_core.specs.declared.model.Direction.{Direction}
use Rattle.sail_core.specs.declared.written.Written.{Written}
use Rattle.sail_core.specs.Making.{World}
use Rattle.sail_core.specs.Numbers.{Givens, given_int}
use Rattle.sail_core.specs.Run.{Now}
use Rattle.value_indices.specs.declared.indices.Reading.TheVariants as R
use Rattle.checked_meaning.specs.Items.{Item}
use Rattle.pattern_leaves.specs.Settings.{Around, written_in}
use Rattle.pattern_notes.specs.declared.matching.Matching.{Matching}
use Rattle.value_laws.specs.Belonging.{Integers, standing, is_of}
use Rattle.value_laws.specs.Known.{Point, Agree}
use Rattle.pattern_laws.specs.Beside.{Ends, OfSizes, EndsWell}
use Rattle.pattern_laws.specs.Typing.{Typing}

-- what the type variables of the function stand for hangs on fixed variables alone, and is what they stand for in the run, which has all of them
pub record Grounded (past : Positive) (around : Around) (nu : Givens) {n : ℕ} (f : Point n) : Type 0 where
  pub still : (g : Integers) → Agree f g → assigned (standing past g) around.numbers ≡ assigned (standing past f.integers) around.numbers
  pub given : (g : Integers) → Agree f g → (i : ℕ) (t : Num) → slice_get around.numbers i ≡ Some (N.Number t)
      → given_int (slice_get nu i) ≡ Some (number (standing past g) t)

-- where what its type owes is owed already, a value is of the type that is written
abbrev pub IsOwed : Around → Positive → List Closed → {n : ℕ} → Point n → Matching → Option Written → Item → Type 0
IsOwed around past own f how written x =
    how.is_owed ≡ true → (w : Written) → written ≡ Some w → (g : Integers) → Agree f g
    → is_of around.types (standing past g) own (written_in around w) x.val ≡ true

module _ (around : Around) (past : Positive) (own : List Closed) {fit : OfSizes} (y : Typing around.types past own fit) where
  -- a value of a type that names no variable, as a direction gives it
  pub record IsGiven (t : Typ) (v : Item) : Type 0 where
    pub belongs_to : (g : Integers) → is_of around.types (standing past g) own (R.Of t [] []) v.val ≡ true
    pub reads : (g : Integers) → y.reads g (R.Of t [] []) v.typ

  -- on a value of what it takes a direction that patterns go through ends well, and gives a value of what it gives
  abbrev pub Ways : Ends fit → World Item → Type 0
  Ways q w = (d : ℕ) (m : Direction) (x : Item) → q.reached d ≡ true → slice_get around.directions d ≡ Some m
      → ((g : Integers) → is_of around.types (standing past g) own (R.Of m.parameter [] []) x.val ≡ true)
      → (now : Now Item) → q.keeps now → EndsWell q now.opened (λ v. IsGiven m.result v) (w.way d x now)
