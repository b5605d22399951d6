-- Targets of assignments have shapes whose named types have the arguments that they should have.
use Rattle.std.proofs.Common.{◌≡◌, ℕ, suc, List, [], ◌∷◌, ◌++◌, map, length, refl, subst, Bool, true, false, Option, Some, None, nat_eq}
use Rattle.std.proofs.Common.{if◌then◌else◌}
use Rattle.std.specs.Str.{bytes_eq}
use Rattle.std.proofs.lemmas.Bool.{and_parts}
use Rattle.sail_base.specs.declared.place.Place.{Place}
use Rattle.sail_types.specs.Named.{fields}
use Rattle.sail_types.specs.Shapes.{shape}
use Rattle.sail_types.specs.declared.shapes.Shape.{Shape, Shape-F, out-Shape}
use Rattle.sail_types.specs.declared.shapes.Shape.TheOpen as S
use Rattle.sail_types.specs.declared.shapes.Shape.TheVariants as V
use Rattle.sail_types.specs.declared.table.Field.{Field}
use Rattle.sail_types.specs.declared.table.Types.{Types}
use Rattle.sail_syntax.specs.declared.name.Name.{Name}
use Rattle.shape_joins.specs.Learning.{holes}
use Rattle.shape_joins.proofs.Order.{two}
use Rattle.shape_joins.proofs.JoinsLeast.{none}
use Rattle.shape_rules.specs.declared.callees.Candidate.{Candidate}
use Rattle.shape_rules.specs.declared.callees.Meant.{Meant}
use Rattle.shape_rules.specs.declared.callees.Meant.TheVariants as M
use Rattle.shape_rules.specs.declared.error.ShapeError.{ShapeError}
use Rattle.shape_rules.specs.declared.error.ShapeError.TheVariants as error
use Rattle.shape_rules.specs.declared.locals.Local.{Local}
use Rattle.shape_rules.specs.Scopes.{Setting, Locals, local_of}
use Rattle.shape_rules.specs.Calls.{Solved, solved, Args, args_found, Chosen, chosen}
use Rattle.shape_rules.specs.Targets.{Part, elaborations, SuffixPart, field_part, at_part, InStruct, field_in, field_named, one_further, Led}
use Rattle.shape_rules.specs.Targets.{led_form, led_index}
use Rattle.shape_rules.specs.Targets.{field_led, led_shape, walked, suffix_place, Aimed, TargetPart, aimed_nowhere, register_aimed, name_aimed}
use Rattle.shape_rules.specs.Targets.{callees_of}
use Rattle.shape_rules.specs.Targets.{one_of, last_param, read_shape, call_aimed, callee_aimed, meant_aim, call_aim, each_aimed, read_by}
use Rattle.shape_rules.specs.Targets.{read_aimed, written_by}
use Rattle.shape_meanings.specs.Whole.{all_of}
use Rattle.shape_meanings.specs.Counted.{counted, all_counted, AreCounted, LocalsCounted, MeantCounted, FieldsCounted, Counts}
use Rattle.shape_meanings.proofs.Counting.{never_counted, bit_counted, bits_counted, unit_counted, counted_out, named_parts, put_at_counted}
use Rattle.shape_meanings.proofs.Counting.{holes_counted}
use Rattle.shape_meanings.proofs.CallCounts.{ElsCount, local_counted, solved_counts, args_count, chosen_counted, ChosenCounted}

-- ---- ways into a value

-- what the type of each field has, the type of a named one has
further_has : (Q : Shape → Bool) (o : Option InStruct) (g : InStruct) → ((f : InStruct) → o ≡ Some f → Q (shape f.typ) ≡ true)
    → one_further o ≡ Some g → Q (shape g.typ) ≡ true
further_has Q None g f e = none e
further_has Q (Some x) g f e = subst (λ (y : InStruct). Q (shape y.typ) ≡ true) (same (record { place = suc x.place; typ = x.typ }) g e) (f x refl)
  where
    same : (x y : InStruct) → Some x ≡ Some y → x ≡ y
    same x y e = cc

named_has : (Q : Shape → Bool) (b : Bool) (f : Field) (o : Option InStruct) (g : InStruct) → Q (shape f.typ) ≡ true
    → ((x : InStruct) → o ≡ Some x → Q (shape x.typ) ≡ true)
    → (if b then Some (record { place = 0; typ = f.typ }) else one_further o) ≡ Some g → Q (shape g.typ) ≡ true
named_has Q true f o g h k e = subst (λ (y : InStruct). Q (shape y.typ) ≡ true) (same (record { place = 0; typ = f.typ }) g e) h
  where
    same : (x y : InStruct) → Some x ≡ Some y → x ≡ y
    same x y e = cc
named_has Q false f o g h k e = further_has Q o g k e

pub field_has : (Q : Shape → Bool) (name : List ℕ) (fs : List Field) (g : InStruct) → all_of (map Q (map (λ f. shape f.typ) fs)) ≡ true
    → field_named name fs ≡ Some g → Q (shape g.typ) ≡ true
field_has Q name [] g h e = none e
field_has Q name (f ∷ fs) g h e =
    let k = and_parts (Q (shape f.typ)) (all_of (map Q (map (λ f. shape f.typ) fs))) h in
    named_has Q (bytes_eq f.name name) f (field_named name fs) g k.0 (λ x is. field_has Q name fs x k.1 is) e

pub field_in_counted : (types : Types) (name : List ℕ) (o : Option (List Field)) (g : InStruct) → FieldsCounted types o → field_in name o ≡ Some g
    → counted types (shape g.typ) ≡ true
field_in_counted types name None g h e = none e
field_in_counted types name (Some fs) g h e = field_has (counted types) name fs g h e

abbrev LedCounted : Types → Option Led → Type 0
LedCounted types o = counted types (led_shape o) ≡ true

field_led_counted : (setting : Setting) (i : ℕ) (ss : List Shape) (o : Option InStruct) → all_counted setting.types ss ≡ true
    → ((g : InStruct) → o ≡ Some g → counted setting.types (shape g.typ) ≡ true) → LedCounted setting.types (field_led i ss o)
field_led_counted setting i ss None h f = never_counted setting.types
field_led_counted setting i ss (Some g) h f = put_at_counted setting.types ss (shape g.typ) h (f g refl)

pub led_counted : (setting : Setting) → Counts setting → (x : SuffixPart) (s : Shape) (y : Shape-F Shape) → out-Shape s ≡ y → counted setting.types s ≡ true
    → LedCounted setting.types (led_form setting x y)
led_counted setting c (field_part name) s (S.Named i ss) is h =
    field_led_counted setting i ss (field_in name.text (fields setting.types i)) (named_parts setting.types s i ss is h).1
    (λ g e. field_in_counted setting.types name.text (fields setting.types i) g (c.fields i) e)
led_counted setting c (field_part name) s y is h = never_counted setting.types
led_counted setting c (at_part place index) s y is h = by_last index.last y is
  where
    by_last : (last : Option Part) (y : Shape-F Shape) → out-Shape s ≡ y → LedCounted setting.types (led_index last y)
    by_last None S.Bits is = bit_counted setting.types
    by_last None (S.Vector t) is = counted_out setting.types s (S.Vector t) is h
    by_last (Some low) S.Bits is = bits_counted setting.types
    by_last last y is = never_counted setting.types

pub walked_counts : (setting : Setting) → Counts setting → (xs : List SuffixPart) (locals : Locals) (first base : Place) (s : Shape)
    → counted setting.types s ≡ true → counted setting.types (walked xs setting locals first base s).shape ≡ true
walked_counts setting c [] locals first base s h = h
walked_counts setting c (x ∷ xs) locals first base s h =
    walked_counts setting c xs locals first (suffix_place first x) (led_shape (led_form setting x (out-Shape s)))
    (led_counted setting c x s (out-Shape s) refl h)

-- ---- targets

-- a target's shape, and that of what it gives
abbrev pub AimCounted : Types → Aimed → Type 0
AimCounted types a = (counted types a.shape ≡ true) × (counted types a.answer ≡ true)

nowhere_counted : (types : Types) (place : Place) (faults : List ShapeError) → AimCounted types (aimed_nowhere place faults)
nowhere_counted types place faults = (never_counted types, never_counted types)

register_counts : (types : Types) (name : Name) (meant : Option Meant) → MeantCounted types meant → AimCounted types (register_aimed name meant)
register_counts types name (Some (M.Register r s)) m = (m, unit_counted types)
register_counts types name meant m = nowhere_counted types name.place []

pub name_aim_counts : (types : Types) (name : Name) (locals : Locals) (meant : Option Meant) → LocalsCounted types locals → MeantCounted types meant
    → AimCounted types (name_aimed name (local_of name.text locals) meant)
name_aim_counts types name locals meant l m = by_option (local_of name.text locals) refl
  where
    by_option : (o : Option Local) → local_of name.text locals ≡ o → AimCounted types (name_aimed name o meant)
    by_option None is = register_counts types name meant m
    by_option (Some x) is = (local_counted types locals name.text x l is, unit_counted types)

last_counted : (types : Types) (ps : List Shape) → all_counted types ps ≡ true → counted types (last_param ps) ≡ true
last_counted types [] h = never_counted types
last_counted types (p ∷ []) h = (and_parts (counted types p) true h).0
last_counted types (p ∷ q ∷ ps) h = last_counted types (q ∷ ps) (and_parts (counted types p) (all_counted types (q ∷ ps)) h).1

pub callees_counted : (types : Types) (meant : Option Meant) → MeantCounted types meant → AreCounted types (callees_of types meant)
callees_counted types (Some (M.Callee f)) m = m
callees_counted types (Some (M.Row row)) m = m
callees_counted types (Some (M.Overload fs)) m = m
callees_counted types (Some (M.Register r s)) m = tt
callees_counted types (Some (M.Let i s)) m = tt
callees_counted types (Some (M.Member i k)) m = tt
callees_counted types (Some (M.Mapping p)) m = tt
callees_counted types None m = tt

-- a callee that is the only one
pub only_one : (meant : Option Meant) (fs : List Candidate) (f : Candidate) → one_of meant fs ≡ Some f → fs ≡ (f ∷ [])
only_one meant [] f e = absurd (none_at meant e)
  where
    none_at : (meant : Option Meant) → one_of meant [] ≡ Some f → ⊥
    none_at (Some (M.Overload gs)) e = none e
    none_at (Some (M.Callee g)) e = none e
    none_at (Some (M.Row row)) e = none e
    none_at (Some (M.Register r s)) e = none e
    none_at (Some (M.Let i s)) e = none e
    none_at (Some (M.Member i k)) e = none e
    none_at (Some (M.Mapping p)) e = none e
    none_at None e = none e
only_one meant (g ∷ []) f e = by_meant meant e
  where
    same : Some g ≡ Some f → (g ∷ []) ≡ (f ∷ [])
    same e = cc

    by_meant : (meant : Option Meant) → one_of meant (g ∷ []) ≡ Some f → (g ∷ []) ≡ (f ∷ [])
    by_meant (Some (M.Overload gs)) e = none e
    by_meant (Some (M.Callee h)) e = same e
    by_meant (Some (M.Row row)) e = same e
    by_meant (Some (M.Register r s)) e = same e
    by_meant (Some (M.Let i s)) e = same e
    by_meant (Some (M.Member i k)) e = same e
    by_meant (Some (M.Mapping p)) e = same e
    by_meant None e = same e
only_one meant (g ∷ h ∷ gs) f e = absurd (none_at meant e)
  where
    none_at : (meant : Option Meant) → one_of meant (g ∷ h ∷ gs) ≡ Some f → ⊥
    none_at (Some (M.Overload fs)) e = none e
    none_at (Some (M.Callee x)) e = none e
    none_at (Some (M.Row row)) e = none e
    none_at (Some (M.Register r s)) e = none e
    none_at (Some (M.Let i s)) e = none e
    none_at (Some (M.Member i k)) e = none e
    none_at (Some (M.Mapping p)) e = none e
    none_at None e = none e

only_counted : (types : Types) (meant : Option Meant) (fs : List Candidate) (f : Candidate) → AreCounted types fs → one_of meant fs ≡ Some f
    → (all_counted types f.params ≡ true) × (counted types f.answer ≡ true)
only_counted types meant fs f are e = let k = subst (AreCounted types) (only_one meant fs f e) are in (k.0, k.1)

if_aimed : (types : Types) (b : Bool) (a c : Aimed) → AimCounted types a → AimCounted types c → AimCounted types (if b then a else c)
if_aimed types true a c h k = h
if_aimed types false a c h k = k

chosen_aimed : (types : Types) (name : Name) (faults : List ShapeError) (args : Args) (reader o : Option Chosen)
    → ((x : Chosen) → o ≡ Some x → ChosenCounted types x) → AimCounted types (call_aimed name faults args reader o)
chosen_aimed types name faults args reader None f = nowhere_counted types name.place (faults ++ error.NoMember name.place name.text ∷ [])
chosen_aimed types name faults args reader (Some x) f =
    let k = f x refl in (
      put_at_counted types x.known (last_param x.candidate.params) k.2 (last_counted types x.candidate.params k.0),
      put_at_counted types x.known x.candidate.answer k.2 k.1,
    )

more_counted : (types : Types) (ss : List Shape) (s : Shape) → all_counted types ss ≡ true → counted types s ≡ true → all_counted types (ss ++ s ∷ []) ≡ true
more_counted types [] s h k = two (counted types s) true k refl
more_counted types (t ∷ ss) s h k =
    let h2 = and_parts (counted types t) (all_counted types ss) h in
    two (counted types t) (all_counted types (ss ++ s ∷ [])) h2.0 (more_counted types ss s h2.1 k)

read_counted : (types : Types) (o : Option Chosen) → ((x : Chosen) → o ≡ Some x → ChosenCounted types x) → counted types (read_shape o) ≡ true
read_counted types None f = never_counted types
read_counted types (Some x) f = let k = f x refl in put_at_counted types x.known x.candidate.answer k.2 k.1

module _ (setting : Setting) (locals : Locals) (name : Name) (args : List Part) (are : ElsCount setting locals (elaborations args)) where
  abbrev found : Args
  found = args_found (elaborations args) setting locals

  shapes : all_counted setting.types found.shapes ≡ true
  shapes = args_count setting locals (elaborations args) are

  meant_counts : (meant : Option Meant) (fs : List Candidate) (o : Option Candidate) → AreCounted setting.types fs → one_of meant fs ≡ o
      → AimCounted setting.types (meant_aim name args fs o setting locals)
  meant_counts meant fs (Some f) fine is =
      let k = only_counted setting.types meant fs f fine is in
      let s : Solved = solved (elaborations args) setting locals f.params (holes f.variables) in
      let known = (solved_counts setting locals (elaborations args) f.params (holes f.variables) are k.0 (holes_counted setting.types f.variables)).0 in
      let wrong : List ShapeError = error.Arity name.place (length f.params) (suc (length args)) ∷ [] in
      if_aimed setting.types (nat_eq (length f.params) (suc (length args))) (callee_aimed name f (length args) s) (aimed_nowhere name.place wrong) (
        put_at_counted setting.types s.known (last_param f.params) known (last_counted setting.types f.params k.0),
        put_at_counted setting.types s.known f.answer known k.1,
      ) (nowhere_counted setting.types name.place wrong)
  meant_counts meant fs None fine is =
      chosen_aimed setting.types name found.faults found (chosen fs found.shapes) (chosen fs (found.shapes ++ V.Never ∷ []))
      (λ x e. chosen_counted setting.types fs (found.shapes ++ V.Never ∷ []) x fine
      (more_counted setting.types found.shapes V.Never shapes (never_counted setting.types)) e)

  pub call_aim_counts : MeantCounted setting.types (setting.value name.text) → AimCounted setting.types (call_aim name args setting locals)
  call_aim_counts m =
      let meant = setting.value name.text in
      let fs : List Candidate = callees_of setting.types meant in
      meant_counts meant fs (one_of meant fs) (callees_counted setting.types meant m) refl

  reader_counts : (meant : Option Meant) (fs : List Candidate) (base : Aimed) → AreCounted setting.types fs → AimCounted setting.types base
      → AimCounted setting.types (read_by name (length args) meant fs found base)
  reader_counts meant fs base fine b = by_one (one_of meant fs)
    where
      read : counted setting.types (read_shape (chosen fs found.shapes)) ≡ true
      read = read_counted setting.types (chosen fs found.shapes) (λ x e. chosen_counted setting.types fs found.shapes x fine shapes e)

      by_one : (o : Option Candidate) → (counted setting.types (read_shape (chosen fs found.shapes)) ≡ true)
          × (counted setting.types (written_by name fs found (chosen fs found.shapes) o base).answer ≡ true)
      by_one (Some f) = (read, b.1)
      by_one None = (
        read,
        (chosen_aimed setting.types name found.faults found (chosen fs found.shapes) (chosen fs (found.shapes ++ read_shape (chosen fs found.shapes) ∷ []))
            (λ x e. chosen_counted setting.types fs (found.shapes ++ read_shape (chosen fs found.shapes) ∷ []) x fine
            (more_counted setting.types found.shapes (read_shape (chosen fs found.shapes)) shapes read) e)).1,
      )

  pub call_base_counts : MeantCounted setting.types (setting.value name.text)
      → AimCounted setting.types (read_aimed (Some (name, args)) setting locals (call_aim name args setting locals))
  call_base_counts m =
      let meant = setting.value name.text in
      reader_counts meant (callees_of setting.types meant) (call_aim name args setting locals) (callees_counted setting.types meant m) (call_aim_counts m)

abbrev pub TargetCounts : Setting → Locals → TargetPart → Type 0
TargetCounts setting locals t =
    AimCounted setting.types (t.aim setting locals) × AimCounted setting.types (read_aimed t.call setting locals (t.aim setting locals))

abbrev pub TargetsCount : Setting → Locals → List TargetPart → Type 0
TargetsCount setting locals [] = Unit {0}
TargetsCount setting locals (t ∷ ts) = TargetCounts setting locals t × TargetsCount setting locals ts

pub each_aim_counts : (setting : Setting) (locals : Locals) (ts : List TargetPart) → TargetsCount setting locals ts
    → all_counted setting.types (each_aimed ts setting locals).shapes ≡ true
each_aim_counts setting locals [] are = refl
each_aim_counts setting locals (t ∷ ts) are =
    two (counted setting.types (t.aim setting locals).shape) (all_counted setting.types (each_aimed ts setting locals).shapes) are.0.0.0
    (each_aim_counts setting locals ts are.1)
