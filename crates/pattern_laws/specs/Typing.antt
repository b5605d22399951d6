-- What a value of some indices is at a point, and what the types are that values carry in the checked meaning.
use Rattle.std.specs.Prelude.{◌≡◌, ℕ, suc, pos, Bool, true, false, ◌||◌, List, [], ◌∷◌, length, slice_get, Option, Some, None}
use Rattle.std.specs.Str.{bytes_eq}
use Rattle.sail_types.specs.Belongs.{Reading as Closed}
use Rattle.sail_types.specs.Named.{payload as payload_type}
use Rattle.sail_types.specs.Numbers.{Positive, number}
use Rattle.sail_types.specs.declared.numbers.Index.{Index}
use Rattle.sail_types.specs.declared.numbers.Num.{Num}
use Rattle.sail_types.specs.declared.table.Types.{Types}
use Rattle.sail_types.specs.declared.types.Typ.{Typ, out-Typ}
use Rattle.sail_types.specs.declared.types.Typ.TheOpen as T
use Rattle.sail_types.specs.declared.values.Value.{Value}
use Rattle.size_values.specs.Numbers.{value_of}
use Rattle.size_values.specs.declared.constants.Constant.TheVariants as C
use Rattle.size_values.specs.declared.sized.Sized.{Sized}
use Rattle.sail_core.specs.Run.{Local}
use Rattle.sail_core.specs.Making.{component, payload, one_item}
use Rattle.sail_core.specs.Values.{bits_typ}
use Rattle.value_indices.specs.declared.indices.Indices.{Indices}
use Rattle.value_indices.specs.declared.indices.Indices.TheVariants as I
use Rattle.value_indices.specs.declared.indices.Naming.{Naming}
use Rattle.value_indices.specs.declared.indices.Reading.{Reading}
use Rattle.value_indices.specs.declared.indices.Reading.TheVariants as R
use Rattle.value_indices.specs.declared.notes.Fact.{Fact}
use Rattle.value_indices.specs.declared.notes.Made.TheVariants as Makes
use Rattle.value_indices.specs.Opening.{opened_for}
use Rattle.checked_meaning.specs.Items.{Item, fixed_typ, part_typ}
use Rattle.wide_types.specs.Widening.{parameters_of}
use Rattle.call_arguments.specs.Callees.{type_parameters}
use Rattle.pattern_leaves.specs.Payloads.{payload_readings}
use Rattle.pattern_notes.specs.Patterns.{part_type}
use Rattle.pattern_leaves.specs.declared.names.Bound.{Bound}
use Rattle.pattern_leaves.specs.declared.names.Held.{Held}
use Rattle.pattern_leaves.specs.declared.names.Held.TheVariants as H
use Rattle.value_laws.specs.Belonging.{Integers, standing, meant, has, is_of}
use Rattle.pattern_laws.specs.Beside.{OfSizes}
use Rattle.value_laws.specs.Known.{Point, Agree}

-- the parts of a tuple from this one on, and parts of these types
abbrev pub EachFits : Types → (Indices → Sized → Type 0) → Sized → ℕ → List Indices → Type 0
EachFits types fits s k [] = Unit {0}
EachFits types fits s k (i ∷ is) = fits i (part_typ types (component k) s) × EachFits types fits s (suc k) is

abbrev pub EachReads : Types → (Reading → Sized → Type 0) → Sized → ℕ → List Reading → Type 0
EachReads types reads s k [] = Unit {0}
EachReads types reads s k (r ∷ rs) = reads r (part_typ types (component k) s) × EachReads types reads s (suc k) rs

-- as many Type arguments as a named type has Type variables
abbrev pub AsMany : Types → ℕ → List Reading → Type 0
AsMany types u rs = length rs ≡ type_parameters (parameters_of (slice_get types.definitions u))

-- which types values carry, of indices and of types of the walk: parts keep it
pub record IsKept (types : Types) (past : Positive) (own : List Closed) (fit : OfSizes) (fits : Integers → Indices → Sized → Type 0)
    (reads : Integers → Reading → Sized → Type 0) : Type 0 where
  -- a value of a type whose sizes fit, opened
  pub opens : (g : Integers) (r : Reading) (s : Sized) (naming : Naming) (facts : List Fact) (n : ℕ) (v : Value)
      → fit g (Makes.ByType (part_type r)) → is_of types (standing past g) own r v ≡ true
      → has types (standing past g) own (opened_for naming r facts n).value v ≡ true → reads g r s
      → fits g (opened_for naming r facts n).value s
  -- the parts of a tuple, items, payloads, and parts of payloads
  pub parts : (g : Integers) (is : List Indices) (s : Sized) → fits g (I.Tuple is) s → EachFits types (fits g) s 0 is
  pub list_item : (g : Integers) (r : Reading) (s : Sized) → fits g (I.List r) s → reads g r (part_typ types one_item s)
  pub vector_item : (g : Integers) (t : Num) (r : Reading) (s : Sized) → fits g (I.Vector t r) s → reads g r (part_typ types one_item s)
  pub of_union : (g : Integers) (u c : ℕ) (is : List Index) (rs : List Reading) (s : Sized) (t : Typ) → payload_type types u c ≡ Some t
      → AsMany types u rs → fits g (I.Named u is rs) s → reads g (R.Of t is rs) (part_typ types (payload u c) s)
  pub of_tuple : (g : Integers) (t : Typ) (ts : List Typ) (is : List Index) (rs : List Reading) (s : Sized) → out-Typ t ≡ T.Tuple ts
      → reads g (R.Of t is rs) s → EachReads types (reads g) s 0 (payload_readings ts is rs)
  -- a part of bits whose size fits: that is a number from 0 on, none past the limits on the way to it
  pub width : (g : Integers) (t : Num) → fit g (Makes.ByIndices (I.Bits t)) → (k : ℕ) × (value_of (λ v. C.Number (g v)) t ≡ Some (pos k))
  pub cut : (g : Integers) (t : Num) (k : ℕ) → fit g (Makes.ByIndices (I.Bits t)) → number (standing past g) t ≡ pos k
      → fits g (I.Bits t) (fixed_typ types (bits_typ k))

pub record Typing (types : Types) (past : Positive) (own : List Closed) (fit : OfSizes) : Type 1 where
  pub fits : Integers → Indices → Sized → Type 0
  pub reads : Integers → Reading → Sized → Type 0
  pub kept : IsKept types past own fit fits reads

-- a name that one of these names is too
abbrev pub is_again : List ℕ → List Bound → Bool
is_again name [] = false
is_again name (b ∷ bs) = bytes_eq b.name name || is_again name bs

module _ (types : Types) (past : Positive) (own : List Closed) {fit : OfSizes} (y : Typing types past own fit) where
  -- a value has these indices, of which it is known what they widen to, whatever variables stand for that aren't fixed
  pub record Bears {n : ℕ} (f : Point n) (i : Indices) (x : Item) : Type 0 where
    pub wide : Closed
    pub has_it : (g : Integers) → Agree f g → has types (standing past g) own i x.val ≡ true
    pub is_wide : (g : Integers) → Agree f g → (meant types (standing past g) own i).wide ≡ wide
    pub typed : (g : Integers) → Agree f g → y.fits g i x.typ

  -- several, in order
  abbrev pub AllBear : {n : ℕ} → Point n → List Indices → List Item → Type 0
  AllBear f [] [] = Unit {0}
  AllBear f (i ∷ is) (x ∷ xs) = Bears f i x × AllBear f is xs
  AllBear f is xs = ⊥

  -- a name that a pattern binds
  abbrev pub HeldBears : {n : ℕ} → Point n → Held → Item → Type 0
  HeldBears f (H.Value i) x = Bears f i x
  HeldBears f (H.Var r) x = ⊥

  -- a type that is written at a name, under what the variables of the function stand for: the value is of it
  abbrev pub TypeBears : List Index → {n : ℕ} → Point n → Option Reading → Item → Type 0
  TypeBears numbers f None x = Unit {0}
  TypeBears numbers f (Some r) x =
      (t : Typ) × (r ≡ R.Of t numbers []) × ((g : Integers) → Agree f g → is_of types (standing past g) own r x.val ≡ true)

  -- so it is of a name that no name behind it is too
  abbrev pub NamesBear : List Index → (n : ℕ) → Point n → List Bound → List (Local Item) → Type 0
  NamesBear numbers n f [] [] = Unit {0}
  NamesBear numbers n f (b ∷ bs) (l ∷ ls) =
      (l.name ≡ b.name) × HeldBears f b.held l.held × (is_again b.name bs ≡ false → TypeBears numbers f b.written l.held) × NamesBear numbers n f bs ls
  NamesBear numbers n f bs ls = ⊥
