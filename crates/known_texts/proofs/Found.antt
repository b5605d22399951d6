-- The function of a name that is in a text without clashes is what shapes find by the name.
use Rattle.std.proofs.Common.{◌≡◌, ℕ, ◌+◌, List, [], ◌∷◌, ◌++◌, map, filter, refl, sym, ap, ◌∙◌, subst, Bool, true, false, cond, if◌then◌else◌}
use Rattle.std.proofs.Common.{Option, Some, None, inl, inr}
use Rattle.std.specs.Prelude.{is_some}
use Rattle.std.specs.List.{list_any}
use Rattle.std.specs.Str.{bytes_eq}
use Rattle.sail_base.specs.declared.place.Place.{Place}
use Rattle.sail_syntax.specs.declared.name.Name.{Name}
use Rattle.sail_syntax.specs.declared.words.Arrow.{Arrow}
use Rattle.sail_syntax.specs.declared.words.Arrow.TheVariants as A
use Rattle.sail_syntax.specs.declared.definitions.Def.{Def}
use Rattle.sail_syntax.specs.declared.definitions.Def.TheVariants as D
use Rattle.sail_syntax.specs.declared.definitions.Member.{Member}
use Rattle.sail_syntax.specs.declared.definitions.Overloaded.TheVariants as O
use Rattle.sail_types.specs.declared.shapes.Shape.{Shape}
use Rattle.sail_globals.specs.declared.naming.Alone.{Alone}
use Rattle.sail_globals.specs.declared.naming.Alone.TheVariants as is
use Rattle.sail_globals.specs.declared.naming.Called.TheVariants.{Direction, Function, Mapping}
use Rattle.sail_globals.specs.declared.naming.Naming.{Naming}
use Rattle.sail_globals.specs.declared.naming.Role.{Role}
use Rattle.sail_globals.specs.declared.naming.Role.TheVariants.{Declared, Defined}
use Rattle.sail_globals.specs.declared.naming.Space.TheVariants.{Values}
use Rattle.sail_globals.specs.Bound.{bound, is_among, is_plain, members}
use Rattle.sail_globals.specs.Clashes.{builtin_constructors, has, taken, takes}
use Rattle.sail_globals.specs.Globals.{is_body}
use Rattle.sail_globals.specs.Namings.{all_namings, body_namings, constructor_naming, let_naming, namings, namings_from, own_naming, val_namings}
use Rattle.sail_globals.specs.Namings.{value_naming}
use Rattle.sail_signatures.specs.declared.signature.Signature.{Signature}
use Rattle.sail_core.specs.declared.tree.Callee.TheVariants as C
use Rattle.shape_joins.proofs.JoinsLeast.{none, some_same}
use Rattle.shape_joins.proofs.Order.{no}
use Rattle.shape_rules.specs.Calls.{param_shapes}
use Rattle.shape_rules.specs.declared.callees.Candidate.{Candidate}
use Rattle.shape_rules.specs.declared.callees.Doing.{Doing}
use Rattle.shape_rules.specs.declared.callees.Doing.TheVariants as Does
use Rattle.shape_rules.specs.declared.callees.Meant.{Meant}
use Rattle.shape_rules.specs.declared.callees.Meant.TheVariants as M
use Rattle.shape_models.specs.declared.entries.Counts.{Counts}
use Rattle.shape_models.specs.declared.entries.Entry.{Entry}
use Rattle.shape_models.specs.Models as Shapes
use Rattle.shape_models.specs.Models.{Tabled, counts_with, def_entries, entries, entries_from, meant_in, no_counts}
use Rattle.shape_meanings.specs.Naming.{is_function}
use Rattle.shape_meanings.proofs.Settling.{same_name}
use Rattle.shapes.specs.Tabled.{tabled_of}
use Rattle.known_texts.specs.Functions.{IsFunctionNamed}
use Rattle.known_texts.specs.Accepted.{IsTyped, NothingFails}
use Rattle.known_texts.proofs.Entries.{CalleeIs, EntriesAre, MeantIs, both_are, entries_are, is_register_role, union_is}
use Rattle.known_texts.proofs.Roles.{IsTaken, all_free, are_free, body_alone, or_elim, or_left, or_right}
use Rattle.known_texts.proofs.TableRows.{AreRows, is_constructor_role, is_member_role, rows_are}

-- ---- a name that is taken by a function's body is that of a function

module _ (tabled : Tabled) (all : List Naming) (name : List ℕ) (params : List Shape) (s : Signature) (free : are_free [] (taken all Values name) ≡ true)
    (body : IsTaken all name (is_body Function)) (new : has builtin_constructors name ≡ false) (found : tabled.signature name ≡ Some s)
    (takes_so : param_shapes s.from ≡ params) where
  abbrev Found : Option Meant → Type 0
  Found o = (f : Candidate) × (o ≡ Some (M.Callee f)) × (is_function f.doing ≡ true) × (f.params ≡ params)

  otherwise : {B : Type 0} (test : Role → Bool) → test (Declared Function) ≡ false → test (Defined Function) ≡ false → IsTaken all name test → B
  otherwise test declared defined h = absurd (body_alone test (taken all Values name) declared defined free body h)

  callee_found : (f : Candidate) (doing : Doing) → f.doing ≡ doing → CalleeIs tabled all name doing f.params → Found (Some (M.Callee f))
  callee_found f (Does.Calls (C.Function n)) its h =
      let same : h.1.0 ≡ s = some_same h.1.0 s (sym h.1.1 ∙ found) in
      (f, refl, ap is_function its, h.1.2 ∙ ap (λ (t : Signature). param_shapes t.from) same ∙ takes_so)
  callee_found f (Does.Calls (C.Converts n)) its h = otherwise (is_body Direction) refl refl h
  callee_found f (Does.Calls (C.Constructor u k)) its h =
      elim h [ inl e ↦ otherwise is_constructor_role refl refl e | inr e ↦ no (sym new ∙ e) ]
  callee_found f doing its h = absurd h

  meant_found : (m : Meant) → MeantIs tabled all name m → Found (Some m)
  meant_found (M.Register r t) h = otherwise is_register_role refl refl h
  meant_found (M.Member i k) h = otherwise is_member_role refl refl h
  meant_found (M.Mapping m) h = otherwise (is_body Mapping) refl refl h
  meant_found (M.Callee f) h = callee_found f f.doing refl h
  meant_found m h = absurd h

  if_found : (b : Bool) (e : Entry) (later : Option Meant) → (b ≡ true → e.name ≡ name) → MeantIs tabled all e.name e.meant
      → (is_some later ≡ true → Found later) → is_some (if b then Some e.meant else later) ≡ true → Found (if b then Some e.meant else later)
  if_found true e later same its next h = meant_found e.meant (subst (λ n. MeantIs tabled all n e.meant) (same refl) its)
  if_found false e later same its next h = next h

  found_among : (es : List Entry) → EntriesAre tabled all es → is_some (meant_in es name) ≡ true → Found (meant_in es name)
  found_among [] are h = no h
  found_among (e ∷ es) are h =
      if_found (bytes_eq e.name name) e (meant_in es name) (λ k. same_name e.name name k) are.0 (λ k. found_among es are.1 k) h

-- ---- and there it is

abbrev passes : (Role → Bool) → List Naming → Bool
passes test fs = list_any test (map (λ one. one.role) fs)

module _ (test : Role → Bool) (name : List ℕ) {P : Type 0} where
  either_step : (b : Bool) (x : Naming) (fs hs : List Naming) → passes test (cond b (x ∷ hs) hs) ≡ true → (passes test (cond b (x ∷ fs) fs) ≡ true → P)
      → (passes test hs ≡ true → (passes test fs ≡ true → P) → P) → P
  either_step true x fs hs h f next =
      or_elim (test x.role) (passes test hs) h (λ e. f (or_left (test x.role) (passes test fs) e))
      (λ e. next e (λ k. f (or_right (test x.role) (passes test fs) k)))
  either_step false x fs hs h f next = next h f

  either_taken : (xs ys : List Naming) → IsTaken (xs ++ ys) name test → (IsTaken xs name test → P) → (IsTaken ys name test → P) → P
  either_taken [] ys h f g = g h
  either_taken (x ∷ xs) ys h f g =
      either_step (takes Values name x) x (filter (takes Values name) xs) (filter (takes Values name) (xs ++ ys)) h f
      (λ e k. either_taken xs ys e k g)

-- names that no function's body takes
abbrev AreOthers : List Naming → Type 0
AreOthers [] = Unit {0}
AreOthers (n ∷ ns) = (is_body Function n.role ≡ false) × AreOthers ns

own_others : (at : ℕ) (what : Alone) (ns : List Name) → AreOthers (map (own_naming at what) ns)
own_others at what [] = tt
own_others at what (n ∷ ns) = (refl, own_others at what ns)

constructors_others : (at : ℕ) (cs : List Member) → AreOthers (map (constructor_naming at) cs)
constructors_others at [] = tt
constructors_others at (c ∷ cs) = (refl, constructors_others at cs)

lets_others : (at : ℕ) (place : Place) (plain : Bool) (ns : List Name) → AreOthers (map (let_naming at place plain) ns)
lets_others at place plain [] = tt
lets_others at place plain (n ∷ ns) = (refl, lets_others at place plain ns)

val_others : (at : ℕ) (place : Place) (name : List ℕ) (arrow : Arrow) → AreOthers (val_namings at place name arrow)
val_others at place name A.Function = (refl, tt)
val_others at place name A.Mapping = (refl, (refl, (refl, tt)))

mapping_others : (at : ℕ) (place : Place) (name : List ℕ) (b : Bool) → AreOthers (body_namings at place name b)
mapping_others at place name true = (refl, (refl, (refl, tt)))
mapping_others at place name false = (refl, (refl, (refl, tt)))

module _ (tabled : Tabled) (name : List ℕ) (s : Signature) (found : tabled.signature name ≡ Some s) (is_member : List ℕ → Bool) where
  other_step : (b : Bool) (x : Naming) (fs : List Naming) → is_body Function x.role ≡ false → (passes (is_body Function) fs ≡ true → ⊥)
      → passes (is_body Function) (cond b (x ∷ fs) fs) ≡ true → ⊥
  other_step true x fs other next h = or_elim (is_body Function x.role) (passes (is_body Function) fs) h (λ e. no (sym other ∙ e)) next
  other_step false x fs other next h = next h

  none_taken : (ns : List Naming) → AreOthers ns → IsTaken ns name (is_body Function) → ⊥
  none_taken [] others h = no h
  none_taken (n ∷ ns) others h =
      other_step (takes Values name n) n (filter (takes Values name) ns) others.0 (λ e. none_taken ns others.1 e) h

  abbrev IsThere : List Entry → Type 0
  IsThere es = is_some (meant_in es name) ≡ true

  some_later : (b : Bool) (m : Meant) (later : Option Meant) → is_some later ≡ true → is_some (if b then Some m else later) ≡ true
  some_later true m later h = refl
  some_later false m later h = h

  some_here : (b : Bool) (m : Meant) (later : Option Meant) → b ≡ true → is_some (if b then Some m else later) ≡ true
  some_here true m later h = refl
  some_here false m later h = no h

  there_behind : (xs ys : List Entry) → IsThere ys → IsThere (xs ++ ys)
  there_behind [] ys h = h
  there_behind (x ∷ xs) ys h = some_later (bytes_eq x.name name) x.meant (meant_in (xs ++ ys) name) (there_behind xs ys h)

  function_there : (own : List ℕ) (k : ℕ) (o : Option Signature) (later : List Entry) → o ≡ Some s → bytes_eq own name ≡ true
      → IsThere (Shapes.function_entry own k o ++ later)
  function_there own k None later e h = none e
  function_there own k (Some t) later e h =
      some_here (bytes_eq own name) (M.Callee (Shapes.function_candidate own k t)) (meant_in later name) h

  name_is : (b : Bool) (x : Naming) → passes (is_body Function) (cond b (x ∷ []) []) ≡ true → b ≡ true
  name_is true x h = refl
  name_is false x h = no h

  own_there : (at : ℕ) (counts : Counts) (d : Def) (later : List Entry) → IsTaken (namings is_member at d) name (is_body Function)
      → IsThere (def_entries tabled counts d ++ later)
  own_there at counts (D.Function place extent own clauses) later h =
      let same : bytes_eq own.text name ≡ true = name_is (bytes_eq own.text name) (value_naming at (Defined Function) place own.text) h in
      function_there own.text counts.functions (tabled.signature own.text) later (ap tabled.signature (same_name own.text name same) ∙ found) same
  own_there at counts (D.Alias place own parameters kind typ) later h =
      absurd (none_taken (namings is_member at (D.Alias place own parameters kind typ)) (refl, tt) h)
  own_there at counts (D.Enum place own ms) later h =
      absurd (none_taken (namings is_member at (D.Enum place own ms)) (refl, own_others at is.Member ms) h)
  own_there at counts (D.Struct place own parameters fs) later h =
      absurd (none_taken (namings is_member at (D.Struct place own parameters fs)) (refl, tt) h)
  own_there at counts (D.Union place own parameters cs) later h =
      absurd (none_taken (namings is_member at (D.Union place own parameters cs)) (refl, constructors_others at cs) h)
  own_there at counts (D.Val place own quantifier from arrow to) later h =
      absurd (none_taken (val_namings at place own.text arrow) (val_others at place own.text arrow) h)
  own_there at counts (D.Measure place own parameters value) later h =
      absurd (none_taken (namings is_member at (D.Measure place own parameters value)) (refl, tt) h)
  own_there at counts (D.Mapping place own sides clauses) later h =
      absurd (none_taken (body_namings at place own.text (is_some sides)) (mapping_others at place own.text (is_some sides)) h)
  own_there at counts (D.Let place p value) later h =
      absurd (none_taken (map (let_naming at place (is_plain p)) (bound is_member p)) (lets_others at place (is_plain p) (bound is_member p)) h)
  own_there at counts (D.Register place own typ initial) later h =
      absurd (none_taken (namings is_member at (D.Register place own typ initial)) (refl, tt) h)
  own_there at counts (D.Overload place (O.Named own) added) later h =
      absurd (none_taken (namings is_member at (D.Overload place (O.Named own) added)) (refl, tt) h)
  own_there at counts d later h = no h

  there_from : (at : ℕ) (counts : Counts) (text : List Def) → IsTaken (namings_from is_member at text) name (is_body Function)
      → IsThere (entries_from tabled counts text)
  there_from at counts [] h = no h
  there_from at counts (d ∷ text) h =
      let later : List Entry = entries_from tabled (counts_with counts d) text in
      either_taken (is_body Function) name (namings is_member at d) (namings_from is_member (at + 1) text) h (λ e. own_there at counts d later e)
      (λ e. there_behind (def_entries tabled counts d) later (there_from (at + 1) (counts_with counts d) text e))

-- ---- a text without failures

pub function_named : (text : List Def) → NothingFails text → (name : List ℕ) (params : List Shape) → has builtin_constructors name ≡ false
    → IsTyped text name params → IsFunctionNamed (tabled_of text) text name params
function_named text clear name params new typed =
    let tabled : Tabled = tabled_of text in
    let all : List Naming = all_namings text in
    let is_member : List ℕ → Bool = is_among (members text) in
    let rows : AreRows all tabled.types.definitions = rows_are all is_member text (λ other test h. h) in
    let first : List Entry = Shapes.union_entries tabled 1 (Some 0) in
    let later : List Entry = entries_from tabled no_counts text in
    let are : EntriesAre tabled all (entries tabled text) =
    both_are tabled all first later (union_is tabled all rows 1 (Some 0)) (entries_are tabled all is_member rows 0 no_counts text (λ other test h. h)) in
    found_among tabled all name params typed.signature (all_free [] all clear.names name) typed.body new typed.found typed.takes (entries tabled text) are
    (there_behind tabled name typed.signature typed.found is_member first later
    (there_from tabled name typed.signature typed.found is_member 0 no_counts text typed.body))
