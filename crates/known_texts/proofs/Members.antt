-- A name that means a member of an enum means one that the enum has.
use Rattle.std.proofs.Common.{◌≡◌, ℕ, suc, ◌+◌, List, [], ◌∷◌, ◌++◌, length, subst, Bool, true, false, if◌then◌else◌, nat_lt, arith}
use Rattle.std.proofs.Common.{Option, Some, None}
use Rattle.std.proofs.lemmas.Bool.Decides.{nat_tests}
use Rattle.std.specs.Str.{bytes_eq}
use Rattle.sail_syntax.specs.declared.definitions.Def.{Def}
use Rattle.sail_syntax.specs.declared.definitions.Def.TheVariants as D
use Rattle.sail_types.specs.Named.{constructors, members}
use Rattle.sail_types.specs.declared.table.Field.{Field}
use Rattle.sail_signatures.specs.declared.signature.Signature.{Signature}
use Rattle.shape_joins.proofs.JoinsLeast.{none, some_same}
use Rattle.shape_rules.specs.declared.callees.Meant.{Meant}
use Rattle.shape_rules.specs.declared.callees.Meant.TheVariants as M
use Rattle.shape_models.specs.declared.entries.Counts.{Counts}
use Rattle.shape_models.specs.declared.entries.Entry.{Entry}
use Rattle.shape_models.specs.Models as Shapes
use Rattle.shape_models.specs.Models.{Tabled, counts_with, def_entries, entries, entries_from, meant_in, no_counts, params_variables, place_in_table}
use Rattle.shape_models.specs.Models.{type_variables}
use Rattle.shapes.specs.Failures.{own_in}

module _ (tabled : Tabled) where
  abbrev InRange : Meant → Type 0
  InRange (M.Member i k) = nat_lt k (length (members tabled.types i)) ≡ true
  InRange meant = Unit {0}

  abbrev AllIn : List Entry → Type 0
  AllIn [] = Unit {0}
  AllIn (e ∷ es) = InRange e.meant × AllIn es

  both_in : (xs ys : List Entry) → AllIn xs → AllIn ys → AllIn (xs ++ ys)
  both_in [] ys h k = k
  both_in (x ∷ xs) ys h k = (h.0, both_in xs ys h.1 k)

  in_front : (k n m : ℕ) → m ≡ (k + suc n) → nat_lt k m ≡ true
  in_front k n m e = grind (arith, nat_tests)

  one_less : (k n m : ℕ) → m ≡ (k + suc n) → m ≡ (suc k + n)
  one_less k n m e = omega arith

  members_in : (i k : ℕ) (ms : List (List ℕ)) → length (members tabled.types i) ≡ (k + length ms) → AllIn (Shapes.members_from i k ms)
  members_in i k [] e = tt
  members_in i k (m ∷ ms) e =
      let all : ℕ = length (members tabled.types i) in
      (in_front k (length ms) all e, members_in i (suc k) ms (one_less k (length ms) all e))

  from_none : (n : ℕ) → n ≡ (0 + n)
  from_none n = omega arith

  enum_in : (o : Option ℕ) → AllIn (Shapes.enum_entries tabled o)
  enum_in None = tt
  enum_in (Some i) = members_in i 0 (members tabled.types i) (from_none (length (members tabled.types i)))

  constructors_in : (u count k : ℕ) (fs : List Field) → AllIn (Shapes.constructors_from u count k fs)
  constructors_in u count k [] = tt
  constructors_in u count k (f ∷ fs) = (tt, constructors_in u count (suc k) fs)

  union_in : (count : ℕ) (o : Option ℕ) → AllIn (Shapes.union_entries tabled count o)
  union_in count None = tt
  union_in count (Some u) = constructors_in u count 0 (constructors tabled.types u)

  function_in : (name : List ℕ) (n : ℕ) (o : Option Signature) → AllIn (Shapes.function_entry name n o)
  function_in name n None = tt
  function_in name n (Some s) = (tt, tt)

  mapping_in : (name : List ℕ) (n : ℕ) (o : Option Signature) → AllIn (Shapes.mapping_entries name n o)
  mapping_in name n None = tt
  mapping_in name n (Some s) = (tt, (tt, (tt, tt)))

  def_in : (counts : Counts) (d : Def) → AllIn (def_entries tabled counts d)
  def_in counts (D.Register place name typ initial) = (tt, tt)
  def_in counts (D.Enum place name ms) = enum_in (place_in_table tabled name.text)
  def_in counts (D.Union place name variables cs) = union_in (type_variables (params_variables variables)) (place_in_table tabled name.text)
  def_in counts (D.Function place extent name clauses) = function_in name.text counts.functions (tabled.signature name.text)
  def_in counts (D.Mapping place name sides cs) = mapping_in name.text counts.mappings (tabled.signature name.text)
  def_in counts d = tt

  entries_in : (counts : Counts) (text : List Def) → AllIn (entries_from tabled counts text)
  entries_in counts [] = tt
  entries_in counts (d ∷ text) =
      both_in (def_entries tabled counts d) (entries_from tabled (counts_with counts d) text) (def_in counts d) (entries_in (counts_with counts d) text)

  meant_if : (b : Bool) (own m : Meant) (later : Option Meant) → InRange own → (later ≡ Some m → InRange m) → (if b then Some own else later) ≡ Some m
      → InRange m
  meant_if true own m later here next e = subst InRange (some_same own m e) here
  meant_if false own m later here next e = next e

  meant_range : (es : List Entry) → AllIn es → (name : List ℕ) (m : Meant) → meant_in es name ≡ Some m → InRange m
  meant_range [] h name m e = none e
  meant_range (x ∷ es) h name m e =
      meant_if (bytes_eq x.name name) x.meant m (meant_in es name) h.0 (λ k. meant_range es h.1 name m k) e

pub members_known : (tabled : Tabled) (text : List Def) (name : List ℕ) (i k : ℕ) → own_in tabled text name ≡ Some (M.Member i k)
    → nat_lt k (length (members tabled.types i)) ≡ true
members_known tabled text name i k e =
    meant_range tabled (entries tabled text)
    (both_in tabled (Shapes.union_entries tabled 1 (Some 0)) (entries_from tabled no_counts text) (union_in tabled 1 (Some 0))
    (entries_in tabled no_counts text))
    name (M.Member i k) e
