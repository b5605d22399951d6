-- What is tested of bodies as they are read for an instance: under each combination of numbers that counts at a note, what the note asks of instances
-- holds (Sail language manual, "Type variables").
use Rattle.std.specs.Prelude.{ℕ, ℤ, pos, int_le, nat_eq, Bool, true, false, not, ◌&&◌, ◌||◌, List, [], ◌∷◌, ◌++◌, length, Option, Some, None}
use Rattle.std.specs.List.{list_all, list_any}
use Rattle.sail_types.specs.declared.numbers.Num.{Num}
use Rattle.sail_types.specs.declared.table.Types.{Types}
use Rattle.sail_core.specs.declared.tree.Giver.{Giver}
use Rattle.value_indices.specs.Steps.{Note, size_note, made_note, call_note, way_note, given_note}
use Rattle.value_indices.specs.declared.indices.Indices.{Indices, fold-Indices, out-Indices}
use Rattle.value_indices.specs.declared.indices.Indices.TheOpen as W
use Rattle.value_indices.specs.declared.indices.Indices.TheOpen.{Indices-F, Reading-F}
use Rattle.value_indices.specs.declared.indices.Reading.{Reading}
use Rattle.value_indices.specs.declared.notes.Fact.{Fact}
use Rattle.value_indices.specs.declared.notes.Made.{Made}
use Rattle.value_indices.specs.declared.notes.Made.TheVariants as Makes
use Rattle.call_arguments.specs.Placing.{variable_in}
use Rattle.size_values.specs.declared.constants.Constant.{Constant}
use Rattle.size_values.specs.declared.constants.Picked.{Picked}
use Rattle.size_values.specs.declared.sized.Sized.{Sized}
use Rattle.size_values.specs.Numbers.{known_of, value_of}
use Rattle.size_splits.specs.Bodies.{Body}
use Rattle.size_splits.specs.Sizing.{Sizing}
use Rattle.size_splits.specs.Splits.{counted}
use Rattle.sized_nodes.specs.declared.trees.Instance.{Instance}
use Rattle.monomorph.specs.Reading.{Inside, reading_of, under}
use Rattle.sized_nodes.specs.declared.trees.NodeSizes.{NodeSizes}
use Rattle.sized_trees.specs.Bodies.{at_note}
use Rattle.sized_trees.specs.Combinations.{is_given}
use Rattle.sized_meanings.specs.Present.{gives_at}
use Rattle.soundness_steps.specs.Noted.{variables_given}
use Rattle.node_counts.specs.Told.{NoteIn, all_noted, are_apart}
use Rattle.told_sizes.specs.Exact.{reading_tells}
use Rattle.tabled_cores.specs.Notes.{call_tested, made_tested}

-- ---- sizes: a width or length within its limit; those of a type are told where a value of it is opened

abbrev pub in_limit : ℕ → Option ℤ → Bool
in_limit largest None = false
in_limit largest (Some z) = int_le (pos 0) z && int_le z (pos largest)

abbrev pub form_in_limit : (ℕ → Constant) → Indices-F Indices Reading → Bool
form_in_limit of (W.Bits t) = in_limit 128 (value_of of t)
form_in_limit of (W.Vector t r) = in_limit 4096 (value_of of t)
form_in_limit of form = true

abbrev pub size_passes : Inside → Made → List Picked → Bool
size_passes r (Makes.ByIndices i) ps = form_in_limit (under r ps) (out-Indices i)
size_passes r (Makes.ByType q) ps = reading_tells r.types (length r.own) (under r ps) q

abbrev pub size_tested : Inside → List Fact → Made → Bool
size_tested r facts made = list_all (size_passes r made) (counted (known_of r.numbers) r.split facts [])

-- ---- the numbers that a value gives: all that is said where it gives them gives one number to a variable that is noted by then, or that the note gives

abbrev pub is_needed : List Fact → Indices → ℕ → Bool
is_needed facts i v = is_given facts v || list_any (nat_eq v) (variables_given i)

-- other indices of the same value
abbrev pub Agreeing : Type 0
Agreeing = Indices → Bool

abbrev pub is_variable : Option ℕ → ℕ → Bool
is_variable None v = false
is_variable (Some w) v = nat_eq w v

-- a variable that isn't needed, or is the one there
abbrev pub is_it : (ℕ → Bool) → Option ℕ → Num → Bool
is_it needed None t = true
is_it needed (Some v) t = not (needed v) || is_variable (variable_in t) v

abbrev pub is_unneeded : (ℕ → Bool) → Option ℕ → Bool
is_unneeded needed None = true
is_unneeded needed (Some v) = not (needed v)

-- of an integer, a width and a length, which a value of another form doesn't have, be it not of a Type variable
abbrev pub integer_agrees : (ℕ → Bool) → Option ℕ → Indices-F Indices Reading → Bool
integer_agrees needed o (W.Integer t) = is_it needed o t
integer_agrees needed o (W.Variable i) = is_unneeded needed o
integer_agrees needed o form = true

abbrev pub width_agrees : (ℕ → Bool) → Option ℕ → Indices-F Indices Reading → Bool
width_agrees needed o (W.Bits t) = is_it needed o t
width_agrees needed o (W.Variable i) = is_unneeded needed o
width_agrees needed o form = true

abbrev pub length_agrees : (ℕ → Bool) → Option ℕ → Indices-F Indices Reading → Bool
length_agrees needed o (W.Vector t r) = is_it needed o t
length_agrees needed o (W.Variable i) = is_unneeded needed o
length_agrees needed o form = true

abbrev pub each_agrees : List Agreeing → List Indices → Bool
each_agrees [] [] = true
each_agrees (f ∷ fs) (i ∷ is) = f i && each_agrees fs is
each_agrees fs is = false

abbrev pub parts_agree : List Agreeing → Indices-F Indices Reading → Bool
parts_agree fs (W.Tuple is) = each_agrees fs is
parts_agree fs (W.Variable i) = false
parts_agree fs form = true

abbrev pub form_agrees : (ℕ → Bool) → Indices-F Agreeing Agreeing → Indices-F Indices Reading → Bool
form_agrees needed (W.Integer t) form = integer_agrees needed (variable_in t) form
form_agrees needed (W.Bits t) form = width_agrees needed (variable_in t) form
form_agrees needed (W.Vector t f) form = length_agrees needed (variable_in t) form
form_agrees needed (W.Tuple fs) form = parts_agree fs form
form_agrees needed x form = true

abbrev pub indices_agree : (ℕ → Bool) → Indices-F Agreeing Agreeing → Agreeing
indices_agree needed x i = form_agrees needed x (out-Indices i)

abbrev pub type_agrees : Reading-F Agreeing Agreeing → Agreeing
type_agrees x i = true

abbrev pub agrees_with : (ℕ → Bool) → Indices → Agreeing
agrees_with needed = fold-Indices Agreeing Agreeing (indices_agree needed) type_agrees

abbrev pub agrees_there : List Fact → Indices → Indices → Bool
agrees_there facts i j = agrees_with (is_needed facts i) j i

abbrev pub given_tested : List NodeSizes → List Fact → Giver → Indices → Bool
given_tested nodes facts g i = list_all (agrees_there facts i) (gives_at nodes g)

-- ---- a note; a body goes through these directions of mappings

abbrev pub note_tested : Bool → (ℕ → Bool) → List Instance → List NodeSizes → Inside → Note → Bool
note_tested given reached list nodes r (size_note facts place made) = size_tested r facts made
note_tested given reached list nodes r (made_note facts k operands made) = made_tested given r facts operands made
note_tested given reached list nodes r (call_note facts place k operands callee js qs) = call_tested r list facts operands callee js qs
note_tested given reached list nodes r (way_note facts d) = reached d
note_tested given reached list nodes r (given_note facts g i) = given_tested nodes facts g i
note_tested given reached list nodes r note = true

-- ---- bodies that are read together

module _ (types : Types) (sizing : Sizing) (zs : List (Option ℤ)) (own : List Sized) where
  abbrev pub inside : Body → Inside
  inside b = reading_of types sizing zs own b

  abbrev pub all_nodes : List Instance → List NoteIn → List NodeSizes
  all_nodes list [] = []
  all_nodes list (x ∷ xs) = at_note (inside x.body) list x.note ++ all_nodes list xs

  abbrev pub noted_tested : Bool → (ℕ → Bool) → List Instance → List NodeSizes → NoteIn → Bool
  noted_tested given reached list nodes x = note_tested given reached list nodes (inside x.body) x.note

  -- bodies that are read together, for these numbers and types
  abbrev pub bodies_tested : Bool → (ℕ → Bool) → List Instance → List Body → Bool
  bodies_tested given reached list bs =
      are_apart (all_noted bs) && list_all (noted_tested given reached list (all_nodes list (all_noted bs))) (all_noted bs)
