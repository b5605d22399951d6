-- The walk over a pattern counts its variables on, and what was in force stays so, whatever it is matched with.
use Rattle.std.proofs.Common.{ℕ, nat_eq, ℤ, Bool, true, false, List, [], ◌∷◌, length, map, Option, Some, None, slice_get, refl, sym, subst, append-nil}
use Rattle.std.proofs.Common.{if◌then◌else◌}
use Rattle.sail_base.specs.declared.place.Place.{Place}
use Rattle.sail_types.specs.Zero.{deepest}
use Rattle.sail_types.specs.Named.{payload}
use Rattle.sail_types.specs.declared.numbers.Num.{Num}
use Rattle.sail_types.specs.declared.table.Types.{Types}
use Rattle.sail_core.specs.declared.model.Direction.{Direction}
use Rattle.sail_core.specs.declared.patterns.Arm.{Arm}
use Rattle.sail_core.specs.declared.patterns.Arm.TheVariants as A
use Rattle.sail_core.specs.declared.patterns.Form.{Form}
use Rattle.sail_core.specs.declared.patterns.Form.TheVariants as F
use Rattle.sail_core.specs.declared.patterns.Head.{Head}
use Rattle.sail_core.specs.declared.patterns.Head.TheVariants as H
use Rattle.sail_core.specs.declared.patterns.Literal.{Literal}
use Rattle.sail_core.specs.declared.patterns.Literal.TheVariants as L
use Rattle.sail_core.specs.declared.patterns.Pattern.{Pattern, Pattern-F, roll-Pattern, fold-roll-Pattern, map-Pattern, ind-Pattern}
use Rattle.sail_core.specs.declared.written.Written.{Written}
use Rattle.sail_core.specs.declared.written.WrittenNumber.{WrittenNumber}
use Rattle.value_indices.specs.declared.indices.Indices.{Indices, out-Indices}
use Rattle.value_indices.specs.declared.indices.Indices.TheOpen as W
use Rattle.value_indices.specs.declared.indices.Indices.TheOpen.{Indices-F}
use Rattle.value_indices.specs.declared.indices.Indices.TheVariants as I
use Rattle.value_indices.specs.declared.indices.Naming.{Naming}
use Rattle.value_indices.specs.declared.indices.Reading.{Reading}
use Rattle.value_indices.specs.declared.notes.Fact.{Fact}
use Rattle.value_indices.specs.Steps.{Walk, Note, Conditions, note, owe, owe_under, facts_here}
use Rattle.value_indices.specs.Opening.{between, fresh_integer, number_or_fresh, opened_for}
use Rattle.value_fits.specs.Fitting.{fits, owe_fit_under, owe_made_under}
use Rattle.pattern_leaves.specs.declared.names.Bound.{Bound}
use Rattle.pattern_leaves.specs.Settings.{Around, exponents_owed, written_in}
use Rattle.pattern_leaves.specs.Literals.{no_names, wrong_pattern, integer_met, is_of, met_where, with_integer, with_bits, literal_met}
use Rattle.pattern_leaves.specs.Payloads.{payload_types, payload_readings}
use Rattle.pattern_leaves.specs.Widths.{bits_part, cut_width}
use Rattle.pattern_notes.specs.declared.matching.Matching.{Matching}
use Rattle.pattern_notes.specs.Patterns.{Look, inside, also, each_match, parts_match, taken_out, all_taken, item_met, items_met, cons_met}
use Rattle.pattern_notes.specs.Patterns.{after_inner, constructor_met, head_met, is_union, union_met}
use Rattle.pattern_notes.specs.Patterns.{each_met_never, opens_met, annotation_owed, written_owed, typed_met, direction_met, result_of, option_of, form_match}
use Rattle.pattern_notes.specs.Patterns.{look, look_form, looks, arm_match, one_match}
use Rattle.fitting_laws.proofs.Counted.{fits_count}
use Rattle.fitting_laws.proofs.Counting.{Grows, le_self, give_grows, bind_grows, assume_grows, fresh_grows, each_grows, opening_grows}

-- ---- what is owed, and what is noted

note_grows : (make : List Fact → Note) → Grows (note make)
unfolding note
note_grows make = record { onward = λ facts n. le_self n; more = λ facts n. []; extends = λ facts n. sym (append-nil facts) }

owe_grows : (place : Place) (cs : Conditions) → Grows (owe place cs)
unfolding owe
owe_grows place cs = record { onward = λ facts n. le_self n; more = λ facts n. []; extends = λ facts n. sym (append-nil facts) }

under_grows : (earlier : List Fact) (place : Place) (cs : Conditions) → Grows (owe_under earlier place cs)
unfolding owe_under
under_grows earlier place cs = record { onward = λ facts n. le_self n; more = λ facts n. []; extends = λ facts n. sym (append-nil facts) }

here_grows : Grows facts_here
unfolding facts_here
here_grows = record { onward = λ facts n. le_self n; more = λ facts n. []; extends = λ facts n. sym (append-nil facts) }

fit_grows : (types : Types) (earlier : List Fact) (place : Place) (i : Indices) (r : Reading) → Grows (owe_fit_under earlier place (fits types i r))
unfolding owe_fit_under owe_made_under
fit_grows types earlier place i r = record {
  onward = λ facts n. fits_count types deepest i r n;
  more = λ facts n. (fits types i r n).facts;
  extends = λ facts n. refl;
}

-- ---- numbers that can't be said, and values of a type

number_grows : (o : Option Num) → Grows (number_or_fresh o)
unfolding number_or_fresh fresh_integer between
number_grows None = bind_grows _ _ fresh_grows (λ v. bind_grows _ _ (bind_grows _ _ (assume_grows _) (λ x. assume_grows _)) (λ x. give_grows _))
number_grows (Some t) = give_grows t

opened_grows : (naming : Naming) (r : Reading) → Grows (opened_for naming r)
unfolding opened_for
opened_grows naming r = opening_grows r false naming

-- ---- one behind the other

after_grows : (inner : Walk (List Bound)) (owes : List Fact → Walk (Unit {0})) → Grows inner → ((e : List Fact) → Grows (owes e))
    → Grows (after_inner inner owes)
unfolding after_inner
after_grows inner owes c d = bind_grows _ _ here_grows (λ e. bind_grows _ _ c (λ found. bind_grows _ _ (d e) (λ t. give_grows found)))

also_grows : (first others : Walk (List Bound)) → Grows first → Grows others → Grows (also first others)
unfolding also
also_grows first others c d = bind_grows _ _ c (λ found. bind_grows _ _ d (λ more. give_grows _))

wrong_grows : (place : Place) → Grows (wrong_pattern place)
wrong_grows place = bind_grows _ _ (owe_grows place _) (λ t. give_grows [])

none_grows : Grows no_names
none_grows = give_grows []

-- ---- literals

integer_grows : (in_case : Bool) (z : ℤ) (t : Num) → Grows (integer_met in_case z t)
integer_grows true z t = bind_grows _ _ (assume_grows _) (λ u. none_grows)
integer_grows false z t = none_grows

where_grows : (place : Place) (b : Bool) → Grows (met_where place b)
where_grows place true = none_grows
where_grows place false = wrong_grows place

with_integer_grows : (place : Place) (in_case : Bool) (t : Num) (l : Literal) → Grows (with_integer place in_case t l)
with_integer_grows place in_case t (L.Integer z) = integer_grows in_case z t
with_integer_grows place in_case t l = wrong_grows place

with_bits_grows : (place : Place) (t : Num) (l : Literal) → Grows (with_bits place t l)
with_bits_grows place t (L.Bits bits) = bind_grows _ _ (owe_grows place _) (λ u. none_grows)
with_bits_grows place t l = wrong_grows place

literal_grows : (place : Place) (in_case : Bool) (l : Literal) (i : Indices-F Indices Reading) → Grows (literal_met place in_case l i)
literal_grows place in_case l W.Never = none_grows
literal_grows place in_case l (W.Integer t) = with_integer_grows place in_case t l
literal_grows place in_case l (W.Bits t) = with_bits_grows place t l
literal_grows place in_case l i = where_grows place (is_of l i)

part_grows : (place : Place) (o : Option Num) → Grows (bits_part place o)
part_grows place o = bind_grows _ _ (number_grows o) (λ n. bind_grows _ _ (note_grows _) (λ t. give_grows _))

width_grows : (place : Place) (rest : Option Num) (o : Option Num) → Grows (cut_width place rest o)
width_grows place rest None = part_grows place rest
width_grows place rest (Some t) = part_grows place (Some t)

pub exponents_grows : (around : Around) (ns : List WrittenNumber) → Grows (exponents_owed around ns)
exponents_grows around [] = give_grows tt
exponents_grows around (n ∷ ns) = bind_grows _ _ (owe_grows n.place _) (λ t. exponents_grows around ns)

-- ---- values that are taken out

taken_grows : (place : Place) (naming : Naming) (r : Reading) → Grows (taken_out place naming r)
taken_grows place naming r = bind_grows _ _ (note_grows _) (λ t. opened_grows naming r)

all_grows : (place : Place) (rs : List (Naming × Reading)) → Grows (all_taken place rs)
all_grows place [] = give_grows []
all_grows place (r ∷ rs) = bind_grows _ _ (taken_grows place r.0 r.1) (λ i. bind_grows _ _ (all_grows place rs) (λ is. give_grows _))

module _ (around : Around) where
  abbrev pub LookGrows : Look → Type 0
  LookGrows p = (how : Matching) (i : Indices) → Grows (p.match_with around how i)

  abbrev pub AllGrow : List Look → Type 0
  AllGrow [] = Unit {0}
  AllGrow (p ∷ ps) = LookGrows p × AllGrow ps

  in_order_grows : (place : Place) (how : Matching) (ps : List Look) → AllGrow ps → (is : List Indices) → Grows (each_match place ps around how is)
  in_order_grows place how [] c [] = none_grows
  in_order_grows place how [] c (i ∷ is) = wrong_grows place
  in_order_grows place how (p ∷ ps) c [] = wrong_grows place
  in_order_grows place how (p ∷ ps) c (i ∷ is) = also_grows _ _ (c.0 (inside how) i) (in_order_grows place how ps c.1 is)

  parts_grows : (place : Place) (how : Matching) (ps : List Look) → AllGrow ps → (is : List Indices) → Grows (parts_match place ps around how is)
  parts_grows place how ps c is = by (nat_eq (length ps) (length is))
    where
      by : (b : Bool) → Grows (if b then each_match place ps around how is else wrong_pattern place)
      by true = in_order_grows place how ps c is
      by false = wrong_grows place

  pub item_grows : (place : Place) (how : Matching) (p : Look) → LookGrows p → (r : Reading) → Grows (item_met place p around how r)
  item_grows place how p c r = bind_grows _ _ (taken_grows place p.naming r) (λ i. c (inside how) i)

  items_grows : (place : Place) (how : Matching) (ps : List Look) → AllGrow ps → (r : Reading) → Grows (items_met place ps around how r)
  items_grows place how [] c r = none_grows
  items_grows place how (p ∷ ps) c r = also_grows _ _ (item_grows place how p c.0 r) (items_grows place how ps c.1 r)

  cons_grows : (place : Place) (how : Matching) (ps : List Look) → AllGrow ps → (r : Reading) → Grows (cons_met place ps around how r)
  cons_grows place how [] c r = wrong_grows place
  cons_grows place how (p ∷ []) c r = wrong_grows place
  cons_grows place how (p ∷ k ∷ []) c r = also_grows _ _ (item_grows place how p c.0 r) (c.1.0 (inside how) (I.List r))
  cons_grows place how (p ∷ k ∷ l ∷ ps) c r = wrong_grows place

  never_grows : (how : Matching) (ps : List Look) → AllGrow ps → Grows (each_met_never ps around how)
  never_grows how [] c = none_grows
  never_grows how (p ∷ ps) c = also_grows _ _ (c.0 (inside how) I.Never) (never_grows how ps c.1)

  union_grows : (place : Place) (same_union : Bool) (walk : Walk (List Bound)) → Grows walk → Grows (union_met place same_union walk)
  union_grows place true walk c = c
  union_grows place false walk c = wrong_grows place

  head_grows : (place : Place) (head : Head) (how : Matching) (ps : List Look) → AllGrow ps → (i : Indices-F Indices Reading)
      → Grows (head_met place head ps around how i)
  head_grows place (H.Is l) how ps c i = literal_grows place how.in_case l i
  head_grows place H.Tuple how ps c (W.Tuple is) = parts_grows place how ps c is
  head_grows place H.Tuple how ps c i = wrong_grows place
  head_grows place (H.Constructor u k) how ps c (W.Named v is rs) =
      union_grows place (is_union around u v rs) (constructor_met place ps around how (payload_readings (payload_types (length ps) (payload around.types u k)) is rs))
      (bind_grows _ _ (all_grows place _) (λ js. parts_grows place how ps c js))
  head_grows place (H.Constructor u k) how ps c i = wrong_grows place
  head_grows place H.Vector how ps c (W.Vector n r) = after_grows _ _ (items_grows place how ps c r) (λ e. under_grows e place _)
  head_grows place H.Vector how ps c i = wrong_grows place
  head_grows place H.List how ps c (W.List r) = items_grows place how ps c r
  head_grows place H.List how ps c i = wrong_grows place
  head_grows place H.Cons how ps c (W.List r) = cons_grows place how ps c r
  head_grows place H.Cons how ps c i = wrong_grows place
  head_grows place (H.Cut ws) how ps c (W.Bits w) =
      after_grows _ _ (bind_grows _ _ (each_grows _ (width_grows place _) _) (λ js. parts_grows place how ps c js)) (λ e. under_grows e place _)
  head_grows place (H.Cut ws) how ps c i = wrong_grows place

  opens_grows : (place : Place) (head : Head) (how : Matching) (ps : List Look) → AllGrow ps → (i : Indices-F Indices Reading)
      → Grows (opens_met place head ps around how i)
  opens_grows place head how ps c W.Never = never_grows how ps c
  opens_grows place head how ps c i = head_grows place head how ps c i

  written_grows : (place : Place) (w : Written) (is_owed : Bool) (i : Indices) (e : List Fact) → Grows (written_owed around place w is_owed i e)
  written_grows place w is_owed i e = bind_grows _ _ (exponents_grows around w.numbers) (λ t. by is_owed)
    where
      by : (o : Bool) → Grows (annotation_owed around place o i (written_in around w) e)
      by true = give_grows tt
      by false = fit_grows around.types e place i (written_in around w)

  typed_grows : (place : Place) (w : Written) (how : Matching) (p : Look) → LookGrows p → (i : Indices) → Grows (typed_met place w p around how i)
  typed_grows place w how p c i =
      bind_grows _ _ (after_grows _ _ (c (inside how) i) (λ e. written_grows place w how.is_owed i e)) (λ found. give_grows _)

  direction_grows : (place : Place) (d : ℕ) (o : Option Direction) (gives : Direction → Reading) (how : Matching) (p : Look) → LookGrows p → (i : Indices)
      → Grows (direction_met place d o gives p around how i)
  direction_grows place d None gives how p c i = wrong_grows place
  direction_grows place d (Some m) gives how p c i =
      bind_grows _ _ (note_grows _) (λ t. after_grows _ _ (item_grows place how p c (gives m)) (λ e. fit_grows around.types e place i _))

  pub form_grows : (place : Place) (form : Form) (how : Matching) (ps : List Look) → AllGrow ps → (i : Indices)
      → Grows (form_match place form ps around how i)
  form_grows place F.Any how [] c i = none_grows
  form_grows place F.Any how (p ∷ ps) c i = wrong_grows place
  form_grows place (F.Binds name) how [] c i = give_grows _
  form_grows place (F.Binds name) how (p ∷ ps) c i = wrong_grows place
  form_grows place (F.As name) how [] c i = wrong_grows place
  form_grows place (F.As name) how (p ∷ []) c i = bind_grows _ _ (c.0 how i) (λ found. give_grows _)
  form_grows place (F.As name) how (p ∷ k ∷ ps) c i = wrong_grows place
  form_grows place (F.Typed w) how [] c i = wrong_grows place
  form_grows place (F.Typed w) how (p ∷ []) c i = typed_grows place w how p c.0 i
  form_grows place (F.Typed w) how (p ∷ k ∷ ps) c i = wrong_grows place
  form_grows place (F.Opens head) how ps c i = opens_grows place head how ps c (out-Indices i)
  form_grows place (F.Maps d) how [] c i = wrong_grows place
  form_grows place (F.Maps d) how (p ∷ []) c i = direction_grows place d (slice_get around.directions d) result_of how p c.0 i
  form_grows place (F.Maps d) how (p ∷ k ∷ ps) c i = wrong_grows place
  form_grows place (F.Sees d) how [] c i = wrong_grows place
  form_grows place (F.Sees d) how (p ∷ []) c i = direction_grows place d (slice_get around.directions d) option_of how p c.0 i
  form_grows place (F.Sees d) how (p ∷ k ∷ ps) c i = wrong_grows place

  -- ---- patterns and arms

  Such : Pattern → Type 0
  Such p = LookGrows (look p)

  such_parts : (ys : List ((p : Pattern) × Such p)) → AllGrow (map look (map (λ p. p.0) ys))
  unfolding Such
  such_parts [] = tt
  such_parts (p ∷ ys) = (p.1, such_parts ys)

  such_form : (p : Pattern-F ((p : Pattern) × Such p)) → Such (roll-Pattern (map-Pattern ((p : Pattern) × Such p) Pattern (λ q. q.0) p))
  unfolding Such
  such_form p =
      let bare : Pattern-F Pattern = map-Pattern ((p : Pattern) × Such p) Pattern (λ q. q.0) p in
      subst LookGrows (sym (fold-roll-Pattern Look look_form bare))
      (λ how i. form_grows p.place p.form how (map look (map (λ q. q.0) p.parts)) (such_parts p.parts) i)

  such : (p : Pattern) → Such p
  such = ind-Pattern Such (λ e p is. subst (λ d. Such (roll-Pattern d)) is (such_form p))

  pub look_grows : (p : Pattern) → LookGrows (look p)
  unfolding Such
  look_grows p = such p

  all_looks : (ps : List Pattern) → AllGrow (map look ps)
  all_looks [] = tt
  all_looks (p ∷ ps) = (look_grows p, all_looks ps)

  pub arm_grows : (place : Place) (arm : Arm) (how : Matching) (is : List Indices) → Grows (arm_match place arm around how is)
  arm_grows place (A.Nested ps) how is = parts_grows place how (map look ps) (all_looks ps) is
  arm_grows place (A.Flat count steps) how is = wrong_grows place

  pub let_grows : (place : Place) (arm : Arm) (how : Matching) (i : Indices) → Grows (one_match place (looks arm) around how i)
  let_grows place (A.Nested []) how i = wrong_grows place
  let_grows place (A.Nested (p ∷ [])) how i = look_grows p how i
  let_grows place (A.Nested (p ∷ k ∷ ps)) how i = wrong_grows place
  let_grows place (A.Flat count steps) how i = wrong_grows place
