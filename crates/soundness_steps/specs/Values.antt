-- What holds of values beside the walk: they have the indices that the walk gives and are of their types, whatever the variables stand for that
-- aren't fixed; and what is wanted of them is so.
use Rattle.std.specs.Prelude.{◌≡◌, ℕ, Bool, true, false, List, [], ◌∷◌, Option, Some, None}
use Rattle.sail_types.specs.Belongs.{Reading as Closed}
use Rattle.sail_types.specs.Numbers.{true_in}
use Rattle.sail_types.specs.declared.numbers.Con.{Con}
use Rattle.sail_types.specs.declared.values.Value.{Value}
use Rattle.size_values.specs.declared.sized.Sized.{Sized}
use Rattle.value_indices.specs.declared.indices.Indices.{Indices}
use Rattle.value_indices.specs.declared.indices.Reading.{Reading}
use Rattle.value_indices.specs.declared.notes.Made.{Made}
use Rattle.value_indices.specs.declared.notes.Made.TheVariants as Makes
use Rattle.pattern_leaves.specs.declared.names.Bound.{Bound}
use Rattle.pattern_leaves.specs.declared.names.Held.{Held}
use Rattle.pattern_leaves.specs.declared.names.Held.TheVariants as H
use Rattle.call_arguments.specs.Holes.{has_hole}
use Rattle.call_arguments.specs.declared.aims.Aim.{Aim}
use Rattle.call_arguments.specs.declared.aims.Aim.TheVariants as Aims
use Rattle.checked_meaning.specs.Items.{Item}
use Rattle.value_laws.specs.Belonging.{Integers, Meant, standing, meant, closed, is_of}
use Rattle.value_laws.specs.Known.{Point, Agree}
use Rattle.soundness_steps.specs.Works.{IsExact, Work, Setting, Kept, is_value, is_var}
use Rattle.soundness_steps.specs.Noted.{sized, MadeAs}

module _ (set : Setting) (work : Work) {n : ℕ} (f : Point n) where
  -- a value has these indices, which mean one and the same
  pub record Has (i : Indices) (v : Value) : Type 0 where
    pub meaning : Meant
    pub is_so : meaning.holds v ≡ true
    pub steady : (g : Integers) → Agree f g → meant set.around.types (standing set.past g) work.types i ≡ meaning

  -- an item has them, and is of their type
  pub record Is (i : Indices) (x : Item) : Type 0 where
    pub has : Has i x.val
    pub typ : IsExact set → (g : Integers) → Agree f g → x.typ ≡ sized set.around.types work.own g i

  -- items of the types of these indices
  abbrev pub AllTyped : List Indices → List Item → Type 0
  AllTyped [] [] = Unit {0}
  AllTyped (i ∷ is) (x ∷ xs) = (IsExact set → (g : Integers) → Agree f g → x.typ ≡ sized set.around.types work.own g i) × AllTyped is xs
  AllTyped is xs = ⊥

  abbrev pub AllHave : List Indices → List Value → Type 0
  AllHave [] [] = Unit {0}
  AllHave (i ∷ is) (v ∷ vs) = Has i v × AllHave is vs
  AllHave is vs = ⊥

  abbrev pub AllAre : List Indices → List Item → Type 0
  AllAre [] [] = Unit {0}
  AllAre (i ∷ is) (x ∷ xs) = Is i x × AllAre is xs
  AllAre is xs = ⊥

  -- a type that is one and the same
  abbrev pub IsSteady : Reading → Type 0
  IsSteady r = (g : Integers) → Agree f g
      → closed set.around.types (standing set.past g) work.types r ≡ closed set.around.types (standing set.past f.integers) work.types r

  abbrev pub Belongs : Reading → Value → Type 0
  Belongs r v = (g : Integers) → Agree f g → is_of set.around.types (standing set.past g) work.types r v ≡ true

  -- a condition that is true
  abbrev pub IsTrue : Con → Type 0
  IsTrue c = (g : Integers) → Agree f g → true_in (standing set.past g) c ≡ true

  -- a type at which a value is made
  abbrev pub IsMadeAs : Made → Value → Sized → Type 0
  IsMadeAs made v s = IsExact set → (g : Integers) → Agree f g → MadeAs set.around.types set.past work g made v s

  -- ---- what is wanted: of a type that is due, what the expression comes to belongs to it; where it is given, that is so of an expression that
  -- owes it further in; of a part of a tuple the tuple owes it

  abbrev pub IsMet : Aim → Bool → Value → Type 0
  IsMet Aims.Free nested v = Unit {0}
  IsMet (Aims.Given r) true v = Belongs r v
  IsMet (Aims.Given r) false v = Unit {0}
  IsMet (Aims.PartOf r) nested v = Unit {0}
  IsMet (Aims.Due r) nested v = Belongs r v

  -- a type that is wanted has no hole
  abbrev pub IsWanted : Reading → Type 0
  IsWanted r = IsSteady r × (has_hole r ≡ false)

  abbrev pub AimSteady : Aim → Type 0
  AimSteady Aims.Free = Unit {0}
  AimSteady (Aims.Given r) = IsWanted r
  AimSteady (Aims.PartOf r) = IsWanted r
  AimSteady (Aims.Due r) = IsWanted r

  -- the type of what an expression comes to: that of its indices; where a value comes to a type that is due, that type
  abbrev pub cast_made : Bool → Aim → Indices → Made
  cast_made true (Aims.Due r) i = Makes.ByType r
  cast_made is_cast aim i = Makes.ByIndices i

  -- what an expression comes to: whether it is a cast without a type, whether it owes what is wanted further in, and whether it never ends
  pub record Comes (is_cast nested never_ends : Bool) (aim : Aim) (i : Indices) (x : Item) : Type 0 where
    pub has : Has i x.val
    pub typ : IsMadeAs (cast_made is_cast aim i) x.val x.typ
    pub met : IsMet aim nested x.val
    pub ends : never_ends ≡ false

  -- what a statement comes to: the condition that it claims is true
  abbrev pub Claims : Option Con → Type 0
  Claims None = Unit {0}
  Claims (Some c) = IsTrue c

  -- ---- the names of the walk's scope are those of the run, in order

  abbrev pub HeldValue : Held → Item → Type 0
  HeldValue (H.Value i) x = Is i x
  HeldValue (H.Var r) x = ⊥

  abbrev pub HeldVar : Held → Closed → Type 0
  HeldVar (H.Value i) t = ⊥
  HeldVar (H.Var r) t = ((g : Integers) → Agree f g → closed set.around.types (standing set.past g) work.types r ≡ t) × (has_hole r ≡ false)

  abbrev pub IsHeld : Bound → Kept → Type 0
  IsHeld b (is_value name x) = (name ≡ b.name) × HeldValue b.held x
  IsHeld b (is_var name t) = (name ≡ b.name) × HeldVar b.held t

  abbrev pub InScope : List Bound → List Kept → Type 0
  InScope [] [] = Unit {0}
  InScope (b ∷ bs) (k ∷ ks) = IsHeld b k × InScope bs ks
  InScope bs ks = ⊥
