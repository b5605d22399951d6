-- Which variables of functions are numbers of an instance: those that are in a width or length, or in the number that is given to such a
-- variable of a callee (Sail language manual, "Type variables").
use Rattle.std.specs.Prelude.{ℕ, zero, suc, ◌+◌, ◌-◌, nat_eq, nat_lt, Bool, true, false, ◌||◌, List, [], ◌∷◌, ◌++◌, length, slice_get, slice_set}
use Rattle.std.specs.Prelude.{Option, Some, None, if◌then◌else◌}
use Rattle.std.specs.List.{list_any}
use Rattle.sail_base.specs.declared.kind.Kind.{Kind}
use Rattle.sail_base.specs.declared.kind.Kind.TheVariants as K
use Rattle.sail_types.specs.declared.numbers.Index.{Index}
use Rattle.sail_types.specs.declared.rows.Row.{Row}
use Rattle.sail_types.specs.declared.rows.Row.TheVariants as Rows
use Rattle.sail_types.specs.declared.table.Parameter.{Parameter}
use Rattle.sail_types.specs.declared.table.Types.{Types}
use Rattle.sail_core.specs.declared.model.CoreModel.{CoreModel}
use Rattle.sail_core.specs.declared.model.Function.{Function}
use Rattle.sail_core.specs.declared.tree.Callee.{Callee}
use Rattle.sail_core.specs.declared.tree.Callee.TheVariants as D
use Rattle.value_indices.specs.declared.indices.Indices.{Indices}
use Rattle.value_indices.specs.declared.indices.Reading.{Reading}
use Rattle.value_indices.specs.declared.notes.Fact.{Fact}
use Rattle.value_indices.specs.declared.notes.Made.{Made}
use Rattle.value_indices.specs.declared.notes.Made.TheVariants as Makes
use Rattle.value_indices.specs.Steps.{Note, size_note, call_note, name_note}
use Rattle.value_indices.specs.Opening.{opened}
use Rattle.call_notes.specs.Rows.{argument_index}
use Rattle.size_values.specs.declared.constants.Constant.{Constant}
use Rattle.size_values.specs.Numbers.{all_but, index_under, is_free, known_at}
use Rattle.size_values.specs.Sizes.{is_one_open, reading_sizes, typ_names, value_sizes}
use Rattle.size_splits.specs.Bodies.{Body}

-- ---- what is opened behind a note by a type: its variables are those that the walk names next

abbrev pub names_type : List ℕ → Bool
names_type [] = false
names_type (c ∷ cs) = nat_eq c 39

-- the first type variable that is named before anything else is noted
abbrev pub first_named : List Note → Option ℕ
first_named (name_note v name ∷ ns) = if names_type name then Some v else first_named ns
first_named ns = None

abbrev pub less_by : ℕ → Option ℕ → Option ℕ → ℕ
less_by beyond (Some v) (Some w) = v - w
less_by beyond o p = beyond

-- the first type variable that is named where a type is opened from nothing
abbrev pub first_bound : Reading → Option ℕ
first_bound r = first_named (opened r [] 0).notes

-- a type, opened so that its variables are counted from this one on
abbrev pub indices_at : Reading → ℕ → Indices
indices_at r n = (opened r [] n).value

abbrev pub facts_at : Reading → ℕ → List Fact
facts_at r n = (opened r [] n).facts

-- the number of the first variable of a type that is opened where this one is named next; one past all where it binds none
abbrev pub opened_from : ℕ → Reading → Option ℕ → ℕ
opened_from beyond r named = less_by beyond named (first_bound r)

-- the indices of what is made, and the facts of its opening
abbrev pub made_indices : ℕ → Made → Option ℕ → Indices
made_indices beyond (Makes.ByIndices i) named = i
made_indices beyond (Makes.ByType r) named = indices_at r (opened_from beyond r named)

abbrev pub made_facts : ℕ → Made → Option ℕ → List Fact
made_facts beyond (Makes.ByIndices i) named = []
made_facts beyond (Makes.ByType r) named = facts_at r (opened_from beyond r named)

-- ---- what has to be constant at a note

-- the width of an access is a size
abbrev pub is_access : Row → Bool
is_access Rows.MemRead = true
is_access Rows.MemReserve = true
is_access Rows.MemWrite = true
is_access Rows.MemWriteCond = true
is_access Rows.MemMapped = true
is_access row = false

abbrev pub first_index : List Indices → List Index
first_index [] = []
first_index (i ∷ is) = argument_index i ∷ []

-- for each function, which of its Int and Bool variables are size variables; a Bool variable is none
abbrev pub Sizing : Type 0
Sizing = List (List Bool)

abbrev pub flags : Option (List Bool) → List Bool
flags None = []
flags (Some bs) = bs

abbrev pub flags_of : Sizing → ℕ → List Bool
flags_of sizing f = flags (slice_get sizing f)

abbrev pub index_where : Bool → Index → List Index
index_where true i = i ∷ []
index_where false i = []

-- those that are given to size variables
abbrev pub indices_where : List Bool → List Index → List Index
indices_where (b ∷ bs) (i ∷ is) = index_where b i ++ indices_where bs is
indices_where bs is = []

abbrev pub given_indices : Sizing → Callee → List Indices → List Index → List Index
given_indices sizing (D.Function f) operands js = indices_where (flags_of sizing f) js
given_indices sizing (D.Row row) operands js = if is_access row then first_index operands else []
given_indices sizing callee operands js = []

-- whether something isn't constant that has to be at a note, where the variables are these and this type variable is named behind it
abbrev pub is_open_index : (ℕ → Constant) → Index → Bool
is_open_index of i = is_free (index_under of i)

abbrev pub is_open_reading : Types → (ℕ → Constant) → Reading → Bool
is_open_reading types of r = is_one_open (reading_sizes types of r)

abbrev pub is_open_note : Types → Sizing → ℕ → (ℕ → Constant) → Note → Option ℕ → Bool
is_open_note types sizing beyond of (size_note facts place made) named = is_one_open (value_sizes types of (made_indices beyond made named))
is_open_note types sizing beyond of (call_note facts place k operands callee js qs) named =
    list_any (is_open_index of) (given_indices sizing callee operands js) || list_any (is_open_reading types of) qs
is_open_note types sizing beyond of note named = false

-- whether a variable is in it: it isn't constant where all others are known
abbrev pub note_names : Types → Sizing → ℕ → ℕ → Note → Option ℕ → Bool
note_names types sizing beyond v = is_open_note types sizing beyond (known_at (all_but v))

-- ---- size variables: in a width or length of the signature or the body, or in the number of a callee's size variable

abbrev pub in_signature : Types → Function → ℕ → Bool
in_signature types f v = list_any (typ_names types (length f.variables) v) (f.parameters ++ f.result ∷ [])

abbrev pub in_notes : Types → Sizing → ℕ → ℕ → List Note → Bool
in_notes types sizing beyond v [] = false
in_notes types sizing beyond v (n ∷ ns) =
    note_names types sizing beyond v n (first_named ns) || in_notes types sizing beyond v ns

abbrev pub in_body : Types → Sizing → ℕ → Body → Bool
in_body types sizing v b = in_notes types sizing b.variables v b.notes

-- a Bool variable is in none
abbrev pub is_truth_kind : Kind → Bool
is_truth_kind K.Bool = true
is_truth_kind kind = false

abbrev pub is_truth_of : Option Parameter → Bool
is_truth_of None = false
is_truth_of (Some p) = is_truth_kind p.kind

abbrev pub is_truth : Function → ℕ → Bool
is_truth f v = is_truth_of (slice_get f.variables v)

abbrev pub is_size : Types → Sizing → Function → List Body → ℕ → Bool
is_size types sizing f bs v = if is_truth f v then false else in_signature types f v || list_any (in_body types sizing v) bs

abbrev pub sizes_from : Types → Sizing → Function → List Body → ℕ → ℕ → List Bool
sizes_from types sizing f bs zero v = []
sizes_from types sizing f bs (suc n) v = is_size types sizing f bs v ∷ sizes_from types sizing f bs n (suc v)

-- with those of the function at a place, which may be the next one
abbrev pub with_sizes : Sizing → ℕ → List Bool → Sizing
with_sizes sizing k bs = if nat_lt k (length sizing) then slice_set sizing k bs else sizing ++ bs ∷ []

-- of functions from that place on, one after the other: each knows what came to those before it
abbrev pub sizing_behind : Types → Sizing → ℕ → List Function → List (List Body) → Sizing
sizing_behind types sizing k (f ∷ fs) (bs ∷ more) =
    sizing_behind types (with_sizes sizing k (sizes_from types sizing f bs (length f.variables) 0)) (k + 1) fs more
sizing_behind types sizing k fs more = sizing

abbrev pub sizing_again : Types → Sizing → List Function → List (List Body) → Sizing
sizing_again types sizing fs bs = sizing_behind types sizing 0 fs bs

abbrev pub sizing_for : ℕ → Types → Sizing → List Function → List (List Body) → Sizing
sizing_for zero types sizing fs bs = sizing
sizing_for (suc times) types sizing fs bs = sizing_for times types (sizing_again types sizing fs bs) fs bs

abbrev pub count_variables : List Function → ℕ
count_variables [] = 0
count_variables (f ∷ fs) = length f.variables + count_variables fs

-- so often that nothing more comes to them; of each function there is its measure, where it has one, and its body
abbrev pub sizing_of : CoreModel → List (List Body) → Sizing
sizing_of m bodies = sizing_for (suc (count_variables m.functions)) m.types [] m.functions bodies
