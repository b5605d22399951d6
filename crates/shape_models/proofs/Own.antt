-- Definitions give names meanings of their own.
use Rattle.std.proofs.Common.{◌≡◌, ℕ, Bool, true, false, cond, List, [], ◌∷◌, ◌++◌, refl, sym, ap, ◌∙◌, bytes_eq, suc}
use Rattle.std.proofs.Common.{Option, Some, None}
use Rattle.sail_syntax.specs.declared.definitions.Def.{Def}
use Rattle.sail_syntax.specs.declared.definitions.Def.TheVariants as D
use Rattle.sail_types.specs.Named.{constructors, members}
use Rattle.sail_types.specs.declared.table.Field.{Field}
use Rattle.sail_kinds.specs.Scopes.{Within}
use Rattle.sail_signatures.specs.declared.signature.Signature.{Signature}
use Rattle.shape_rules.specs.declared.callees.Meant.{Meant}
use Rattle.shape_models.specs.declared.entries.Entry.{Entry}
use Rattle.shape_models.specs.declared.entries.Counts.{Counts}
use Rattle.shape_models.specs.Models.{Tabled, meant_in, constructors_from, members_from, function_entry, mapping_entries, enum_entries, union_entries}
use Rattle.shape_models.specs.Models.{def_entries, counts_with, entries_from, entries, no_counts, type_variables, params_variables, place_in_table}
use Rattle.shape_models.specs.Held.{is_own, AreOwn}

abbrev AllOwn : List Entry → Type 0
AllOwn [] = Unit {0}
AllOwn (e ∷ es) = (is_own e.meant ≡ true) × AllOwn es

own_at : (t : Bool) (e : Meant) (rest : Option Meant) (m : Meant) → is_own e ≡ true → (rest ≡ Some m → is_own m ≡ true)
    → cond t (Some e) rest ≡ Some m → is_own m ≡ true
own_at true e rest m own behind h = let same : e ≡ m = cc in ap is_own (sym same) ∙ own
own_at false e rest m own behind h = behind h

own_of_all : (es : List Entry) → AllOwn es → AreOwn (meant_in es)
own_of_all [] all name m h = cc
own_of_all (e ∷ es) all name m h = own_at (bytes_eq e.name name) e.meant (meant_in es name) m all.0 (own_of_all es all.1 name m) h

all_behind : (es fs : List Entry) → AllOwn es → AllOwn fs → AllOwn (es ++ fs)
all_behind [] fs all more = more
all_behind (e ∷ es) fs all more = (all.0, all_behind es fs all.1 more)

constructors_own : (u count k : ℕ) (fs : List Field) → AllOwn (constructors_from u count k fs)
constructors_own u count k [] = tt
constructors_own u count k (f ∷ fs) = (refl, constructors_own u count (suc k) fs)

members_own : (i k : ℕ) (ms : List (List ℕ)) → AllOwn (members_from i k ms)
members_own i k [] = tt
members_own i k (m ∷ ms) = (refl, members_own i (suc k) ms)

enum_own : (tabled : Tabled) (place : Option ℕ) → AllOwn (enum_entries tabled place)
enum_own tabled None = tt
enum_own tabled (Some i) = members_own i 0 (members tabled.types i)

union_own : (tabled : Tabled) (count : ℕ) (place : Option ℕ) → AllOwn (union_entries tabled count place)
union_own tabled count None = tt
union_own tabled count (Some u) = constructors_own u count 0 (constructors tabled.types u)

function_own : (name : List ℕ) (n : ℕ) (s : Option Signature) → AllOwn (function_entry name n s)
function_own name n None = tt
function_own name n (Some s) = (refl, tt)

mapping_own : (name : List ℕ) (n : ℕ) (s : Option Signature) → AllOwn (mapping_entries name n s)
mapping_own name n None = tt
mapping_own name n (Some s) = (refl, (refl, (refl, tt)))

def_own : (tabled : Tabled) (counts : Counts) (d : Def) → AllOwn (def_entries tabled counts d)
def_own tabled counts (D.Register place name typ initial) = (refl, tt)
def_own tabled counts (D.Enum place name ms) = enum_own tabled (place_in_table tabled name.text)
def_own tabled counts (D.Union place name variables cs) =
    union_own tabled (type_variables (params_variables variables)) (place_in_table tabled name.text)
def_own tabled counts (D.Function place extent name clauses) = function_own name.text counts.functions (tabled.signature name.text)
def_own tabled counts (D.Mapping place name sides clauses) = mapping_own name.text counts.mappings (tabled.signature name.text)
def_own tabled counts d = tt

from_own : (tabled : Tabled) (counts : Counts) (text : List Def) → AllOwn (entries_from tabled counts text)
from_own tabled counts [] = tt
from_own tabled counts (d ∷ text) =
    all_behind (def_entries tabled counts d) (entries_from tabled (counts_with counts d) text) (def_own tabled counts d)
    (from_own tabled (counts_with counts d) text)

pub entries_are_own : (tabled : Tabled) (text : List Def) → AreOwn (meant_in (entries tabled text))
entries_are_own tabled text =
    own_of_all (entries tabled text)
    (all_behind (union_entries tabled 1 (Some 0)) (entries_from tabled no_counts text) (union_own tabled 1 (Some 0)) (from_own tabled no_counts text))
