-- A name that has a body of a function is that of a function of the core, at the place where the name first stands.
use Rattle.std.proofs.Common.{◌≡◌, ◌∙◌, ◌⊎◌, inl, inr, sym, refl, subst, ℕ, suc, ◌+◌, Bool, true, false, true≢false, ◌||◌, List, [], ◌∷◌, ◌++◌}
use Rattle.std.proofs.Common.{map, cond, if◌then◌else◌, Some, slice_get}
use Rattle.std.specs.List.{list_any}
use Rattle.std.specs.Prelude.{filter, filter_map, is_some}
use Rattle.std.specs.Str.{bytes_eq}
use Rattle.sail_base.specs.declared.place.Place.{Place}
use Rattle.sail_syntax.specs.declared.name.Name.{Name}
use Rattle.sail_syntax.specs.declared.words.Arrow.{Arrow}
use Rattle.sail_syntax.specs.declared.words.Arrow.TheVariants as A
use Rattle.sail_syntax.specs.declared.definitions.Def.{Def}
use Rattle.sail_syntax.specs.declared.definitions.Def.TheVariants as D
use Rattle.sail_syntax.specs.declared.definitions.FunctionClause.{FunctionClause}
use Rattle.sail_syntax.specs.declared.definitions.Member.{Member}
use Rattle.sail_syntax.specs.declared.definitions.Overloaded.TheVariants as O
use Rattle.sail_globals.specs.declared.naming.Called.TheVariants.{Function}
use Rattle.sail_globals.specs.declared.naming.Naming.{Naming}
use Rattle.sail_globals.specs.declared.naming.Role.TheVariants.{Defined}
use Rattle.sail_globals.specs.declared.naming.Alone.{Alone}
use Rattle.sail_globals.specs.declared.naming.Alone.TheVariants as Alones
use Rattle.sail_globals.specs.declared.naming.Space.TheVariants.{Values}
use Rattle.sail_globals.specs.Bound.{bound, is_among, is_plain, members}
use Rattle.sail_globals.specs.Clashes.{taken, takes}
use Rattle.sail_globals.specs.Globals.{has_body, is_body}
use Rattle.sail_globals.specs.Namings.{all_namings, body_namings, constructor_naming, let_naming, namings, namings_from, own_naming, val_namings, value_naming}
use Rattle.sail_kinds.specs.declared.scope.Variable.{Variable}
use Rattle.sail_signatures.specs.declared.signature.Signature.{Signature}
use Rattle.sail_tables.specs.Refused.{signature_in}
use Rattle.sail_core.specs.declared.model.Function.{Function as CoreFunction}
use Rattle.known_texts.specs.Signed.{EachSigned}
use Rattle.shape_rules.specs.Scopes.{Setting}
use Rattle.shape_rules.specs.Written.{joined}
use Rattle.shape_clauses.specs.Functions.{function_in, functions_if, functions_of}
use Rattle.shapes.specs.Resolved.{function_names, place_among}
use Rattle.shapes.specs.Tabled.{tabled_of}
use Rattle.safe_models.specs.Safe.{Cycles}

-- ---- where the body of a name stands

module _ (name : List ℕ) where
  -- whether a body of a function of this name is among them
  abbrev has : List Naming → Bool
  has ns = list_any (is_body Function) (taken ns Values name)

  abbrev NoBody : List Naming → Type 0
  NoBody [] = Unit {0}
  NoBody (n ∷ ns) = (is_body Function n.role ≡ false) × NoBody ns

  skip : (b : Bool) (n : Naming) (ns : List Naming) → is_body Function n.role ≡ false
      → list_any (is_body Function) (map (λ (one : Naming). one.role) (cond b (n ∷ ns) ns)) ≡ true
      → list_any (is_body Function) (map (λ (one : Naming). one.role) ns) ≡ true
  skip true n ns other e = subst (λ c. (c || list_any (is_body Function) (map (λ (one : Naming). one.role) ns)) ≡ true) other e
  skip false n ns other e = e

  behind : (ns ms : List Naming) → NoBody ns → has (ns ++ ms) ≡ true → has ms ≡ true
  behind [] ms other e = e
  behind (n ∷ ns) ms other e =
      behind ns ms other.1 (skip (takes Values name n) n (filter (takes Values name) (ns ++ ms)) other.0 e)

  -- names that are defined otherwise
  members_no : (at : ℕ) (what : Alone) (names : List Name) → NoBody (map (own_naming at what) names)
  members_no at what [] = tt
  members_no at what (n ∷ names) = (refl, members_no at what names)

  constructors_no : (at : ℕ) (cs : List Member) → NoBody (map (constructor_naming at) cs)
  constructors_no at [] = tt
  constructors_no at (c ∷ cs) = (refl, constructors_no at cs)

  lets_no : (at : ℕ) (place : Place) (plain : Bool) (names : List Name) → NoBody (map (let_naming at place plain) names)
  lets_no at place plain [] = tt
  lets_no at place plain (n ∷ names) = (refl, lets_no at place plain names)

  val_no : (at : ℕ) (place : Place) (own : List ℕ) (arrow : Arrow) → NoBody (val_namings at place own arrow)
  val_no at place own A.Function = (refl, tt)
  val_no at place own A.Mapping = (refl, (refl, (refl, tt)))

  mapping_no : (at : ℕ) (place : Place) (own : List ℕ) (whole : Bool) → NoBody (body_namings at place own whole)
  mapping_no at place own true = (refl, (refl, (refl, tt)))
  mapping_no at place own false = (refl, (refl, (refl, tt)))

  -- definitions among which a function of the name stands
  abbrev Stands : List Def → Type 0
  Stands [] = ⊥
  Stands ((D.Function place extent own clauses) ∷ ds) = (bytes_eq own.text name ≡ true) ⊎ Stands ds
  Stands (d ∷ ds) = Stands ds

  here_or_later : (b : Bool) (ns : List Naming) (Later : Type 0) (n : Naming)
      → (list_any (is_body Function) (map (λ (one : Naming). one.role) ns) ≡ true → Later)
      → list_any (is_body Function) (map (λ (one : Naming). one.role) (cond b (n ∷ ns) ns)) ≡ true → (b ≡ true) ⊎ Later
  here_or_later true ns Later n next e = inl refl
  here_or_later false ns Later n next e = inr (next e)

  stands : (is_member : List ℕ → Bool) (at : ℕ) (ds : List Def) → has (namings_from is_member at ds) ≡ true → Stands ds
  stands is_member at [] e = absurd (cc)
  stands is_member at ((D.Function place extent own clauses) ∷ ds) e =
      here_or_later (bytes_eq own.text name) (filter (takes Values name) (namings_from is_member (at + 1) ds)) (Stands ds)
      (value_naming at (Defined Function) place own.text) (λ k. stands is_member (at + 1) ds k) e
  stands is_member at ((D.Alias place own variables kind typ) ∷ ds) e =
      stands is_member (at + 1) ds
      (behind (namings is_member at (D.Alias place own variables kind typ)) (namings_from is_member (at + 1) ds) (refl, tt) e)
  stands is_member at ((D.Enum place own names) ∷ ds) e =
      stands is_member (at + 1) ds
      (behind (namings is_member at (D.Enum place own names)) (namings_from is_member (at + 1) ds) (refl, members_no at Alones.Member names) e)
  stands is_member at ((D.Struct place own variables fields) ∷ ds) e =
      stands is_member (at + 1) ds
      (behind (namings is_member at (D.Struct place own variables fields)) (namings_from is_member (at + 1) ds) (refl, tt) e)
  stands is_member at ((D.Union place own variables cs) ∷ ds) e =
      stands is_member (at + 1) ds
      (behind (namings is_member at (D.Union place own variables cs)) (namings_from is_member (at + 1) ds) (refl, constructors_no at cs) e)
  stands is_member at ((D.Val place own quantifier from arrow to) ∷ ds) e =
      stands is_member (at + 1) ds
      (behind (val_namings at place own.text arrow) (namings_from is_member (at + 1) ds) (val_no at place own.text arrow) e)
  stands is_member at ((D.Measure place own parameters value) ∷ ds) e =
      stands is_member (at + 1) ds
      (behind (namings is_member at (D.Measure place own parameters value)) (namings_from is_member (at + 1) ds) (refl, tt) e)
  stands is_member at ((D.Mapping place own sides clauses) ∷ ds) e =
      stands is_member (at + 1) ds
      (behind (body_namings at place own.text (is_some sides)) (namings_from is_member (at + 1) ds) (mapping_no at place own.text (is_some sides)) e)
  stands is_member at ((D.Let place pattern value) ∷ ds) e =
      stands is_member (at + 1) ds
      (behind (map (let_naming at place (is_plain pattern)) (bound is_member pattern)) (namings_from is_member (at + 1) ds)
      (lets_no at place (is_plain pattern) (bound is_member pattern)) e)
  stands is_member at ((D.Register place own typ initial) ∷ ds) e =
      stands is_member (at + 1) ds
      (behind (namings is_member at (D.Register place own typ initial)) (namings_from is_member (at + 1) ds) (refl, tt) e)
  stands is_member at ((D.Overload place (O.Named own) added) ∷ ds) e =
      stands is_member (at + 1) ds
      (behind (namings is_member at (D.Overload place (O.Named own) added)) (namings_from is_member (at + 1) ds) (refl, tt) e)
  stands is_member at (d ∷ ds) e = stands is_member (at + 1) ds e

-- ---- the function of the core

module _ (text : List Def) (cycles : Cycles) (setting : List Variable → Setting) where
  -- the function at a place is what a name's definition comes to
  pub record IsAt (name : List ℕ) (fs : List CoreFunction) (k : ℕ) : Type 0 where
    pub place : Place
    pub own : List ℕ
    pub clauses : List FunctionClause
    pub signature : Signature
    pub named : bytes_eq own name ≡ true
    pub signed : signature_in text own ≡ Some signature
    pub there : slice_get fs k ≡ Some (function_in (tabled_of text) text (setting signature.variables) place own clauses signature (cycles own))

  module _ (name : List ℕ) where
    one_at : (place : Place) (own : List ℕ) (clauses : List FunctionClause) (s : Signature) (fs : List CoreFunction) (k : ℕ) (b : Bool)
        → bytes_eq own name ≡ b → signature_in text own ≡ Some s → (b ≡ false → IsAt name fs k)
        → IsAt name (function_in (tabled_of text) text (setting s.variables) place own clauses s (cycles own) ∷ fs) (if b then 0 else suc k)
    one_at place own clauses s fs k true is signed next =
        record { place = place; own = own; clauses = clauses; signature = s; named = is; signed = signed; there = refl }
    one_at place own clauses s fs k false is signed next =
        let r = next refl in
        record { place = r.place; own = r.own; clauses = r.clauses; signature = r.signature; named = r.named; signed = r.signed; there = r.there }

    later : {Later : Type 0} (b : Bool) → (b ≡ true) ⊎ Later → b ≡ false → Later
    later b (inl is) other = absurd (true≢false (sym is ∙ other))
    later b (inr h) other = h

    find_in : (ds : List Def) → EachSigned text ds → Stands name ds
        → IsAt name (joined (map (functions_of (tabled_of text) text setting cycles) ds)) (place_among name (filter_map function_names ds))
    find_in [] signed h = absurd h
    find_in ((D.Function place extent own clauses) ∷ ds) signed h =
        let s : Signature = signed.0.0 in
        let fs : List CoreFunction = joined (map (functions_of (tabled_of text) text setting cycles) ds) in
        let k : ℕ = place_among name (filter_map function_names ds) in
        subst (λ o. IsAt name (functions_if (tabled_of text) text setting place own.text clauses o (cycles own.text) ++ fs)
        (if bytes_eq own.text name then 0 else suc k)) (sym signed.0.1)
        (one_at place own.text clauses s fs k (bytes_eq own.text name) refl signed.0.1
        (λ other. find_in ds signed.1 (later (bytes_eq own.text name) h other)))
    find_in (d ∷ ds) signed h = find_in ds signed.1 h

    pub find_body : EachSigned text text → has_body (all_namings text) Function name ≡ true
        → IsAt name (joined (map (functions_of (tabled_of text) text setting cycles) text)) (place_among name (filter_map function_names text))
    find_body signed h = find_in text signed (stands name (is_among (members text)) 0 text h)
