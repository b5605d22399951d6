-- No top-level let of an accepted text binds a name twice: the tables refuse a pattern that does.
use Rattle.std.proofs.Common.{◌≡◌, ◌&&◌, ◌||◌, not, ℕ, Bool, true, false, List, [], ◌∷◌, ◌++◌, map, take, drop, refl, sym, ap, ◌∙◌}
use Rattle.std.proofs.Common.{Option, Some, None, append-nil, bytes_eq, if◌then◌else◌, is_some}
use Rattle.std.proofs.lemmas.Bool.{and_parts}
use Rattle.std.proofs.lemmas.Slice.Eq.{bytes_eq-Decides}
use Rattle.sail_base.specs.declared.place.Place.{Place}
use Rattle.sail_core.specs.declared.model.Opening.{Opening}
use Rattle.sail_names.specs.Locals as Bound
use Rattle.sail_names.specs.Locals.{Locals, binding_of, constant}
use Rattle.sail_names.specs.Patterns.{binds, clash_if, clashes, clashes_behind, uses_failures}
use Rattle.sail_syntax.specs.declared.definitions.Def.{Def}
use Rattle.sail_syntax.specs.declared.definitions.Def.TheVariants as D
use Rattle.sail_syntax.specs.declared.expressions.Exp.{Exp}
use Rattle.sail_syntax.specs.declared.name.Name.{Name}
use Rattle.sail_syntax.specs.declared.patterns.Pat.{Pat}
use Rattle.sail_syntax.specs.declared.types.TyExp.{TyExp}
use Rattle.sail_types.specs.declared.shapes.Shape.{Shape}
use Rattle.shape_models.specs.Models.{Own, Tabled, setting_of}
use Rattle.shape_joins.proofs.Order.{two}
use Rattle.shape_rules.specs.declared.locals.Local.{Local}
use Rattle.shape_rules.specs.Expressions.{part}
use Rattle.shape_rules.specs.Patterns.{look, no_widths, wanted_by}
use Rattle.shape_rules.specs.Scopes.{Setting, plainly}
use Rattle.shape_meanings.proofs.Binds.{as_bound, pat_binds, texts}
use Rattle.shape_stands.proofs.Standing.{both_empty}
use Rattle.shapes.specs.Failures.{all_lets, let_under, lets_with, own_in}
use Rattle.shapes.specs.Resolved.{binding_opening, in_text_order, initials_left, initials_openings, initial_openings, let_openings, lets_left, lets_openings}
use Rattle.shapes.specs.Resolved.{register_openings, registers_with, took}
use Rattle.shapes.specs.Tabled.{tabled_of}
use Rattle.known_texts.specs.Opened.{LetKnown, OpeningKnown, OpeningsKnown, OpeningsKnownFrom}
use Rattle.text_progress.specs.Laws.{core_of}
use Rattle.value_laws.proofs.Basics.{no}
use Rattle.safe_models.specs.Names.{is_among, once_each, pattern_names}
use Rattle.safe_models.specs.OpeningTests.{opening_once, openings_once}
use Rattle.safe_models.proofs.LookedNames.{local_names, look_says}

-- ---- names without a clash

abbrev spelled : List Name → List (List ℕ)
spelled ns = map (λ (n : Name). n.text) ns

unclashed : (b : Bool) (n : Name) → clash_if b n ≡ [] → b ≡ false
unclashed true n e = absurd (cc)
unclashed false n e = refl

bound_more : (x : List ℕ) (n : Name) (before : Locals) → bytes_eq n.text x ≡ false → is_some (binding_of x before) ≡ true
    → is_some (binding_of x (constant n ∷ before)) ≡ true
bound_more x n before e h =
    ap (λ b. is_some (if b then Some (constant n).binding else binding_of x before)) e ∙ h

bound_last : (n : Name) (before : Locals) → is_some (binding_of n.text (constant n ∷ before)) ≡ true
bound_last n before =
    ap (λ b. is_some (if b then Some (constant n).binding else binding_of n.text before)) ((bytes_eq-Decides n.text n.text).1 refl)

-- a name that is bound before isn't among them
not_among : (x : List ℕ) (before : Locals) → is_some (binding_of x before) ≡ true → (ns : List Name) → clashes_behind before ns ≡ []
    → is_among x (spelled ns) ≡ false
not_among x before h [] e = refl
not_among x before h (n ∷ ns) e =
    let both = both_empty (clash_if (is_some (binding_of n.text before)) n) (clashes_behind (constant n ∷ before) ns) e in
    let other : bytes_eq n.text x ≡ false = differs (bytes_eq n.text x) refl (unclashed (is_some (binding_of n.text before)) n both.0) in
    ap (λ b. b || is_among x (spelled ns)) other ∙ not_among x (constant n ∷ before) (bound_more x n before other h) ns both.1
  where
    differs : (b : Bool) → bytes_eq n.text x ≡ b → is_some (binding_of n.text before) ≡ false → bytes_eq n.text x ≡ false
    differs false is k = is
    differs true is k =
        no (sym k ∙ ap (λ name. is_some (binding_of name before)) ((bytes_eq-Decides n.text x).0 is) ∙ h)

once_of : (before : Locals) (ns : List Name) → clashes_behind before ns ≡ [] → once_each (spelled ns) ≡ true
once_of before [] e = refl
once_of before (n ∷ ns) e =
    let both = both_empty (clash_if (is_some (binding_of n.text before)) n) (clashes_behind (constant n ∷ before) ns) e in
    ap (λ b. not b && once_each (spelled ns)) (not_among n.text (constant n ∷ before) (bound_last n before) ns both.1)
    ∙ once_of (constant n ∷ before) ns both.1

-- ---- the names of a let

same_names : (ls : List Local) → map (λ (b : Bound.Local). b.name) (map as_bound ls) ≡ local_names ls
same_names [] = refl
same_names (l ∷ ls) = ap (λ ns. l.name ∷ ns) (same_names ls)

same_texts : (ns : List Name) → map (λ (b : Bound.Local). b.name) (texts ns) ≡ spelled ns
same_texts [] = refl
same_texts (n ∷ ns) = ap (λ ms. n.text ∷ ms) (same_texts ns)

abbrev EachOnce : List Opening → Type 0
EachOnce os = openings_once os ≡ true

module _ (text : List Def) where
  abbrev tabled : Tabled
  tabled = tabled_of text

  abbrev own : Own
  own = own_in tabled text

  let_once : (lets : List Local) (p : Pat) (value : Exp) → LetKnown (setting_of tabled own text lets []) p value → (shape : Shape)
      → once_each (pattern_names (look p (plainly (setting_of tabled own text lets [])) no_widths shape).pattern ++ []) ≡ true
  let_once lets p value known shape =
      let setting : Setting = plainly (setting_of tabled own text lets []) in
      let names = known.value.names in
      let l = look p setting no_widths shape in
      let both = both_empty (uses_failures names p) (clashes (binds names.known p)) known.named in
      ap once_each (append-nil (pattern_names l.pattern) ∙ look_says p setting no_widths shape ∙ sym (same_names l.binds)
      ∙ ap (map (λ (b : Bound.Local). b.name)) (pat_binds p setting names known.value.known both.0 no_widths shape) ∙ same_texts (binds names.known p))
      ∙ once_of [] (binds names.known p) both.1

  first_once : (o : Opening) (os : List Opening) → EachOnce (o ∷ os) → (opening_once o.kind ≡ true) × EachOnce os
  first_once o os h = and_parts (opening_once o.kind) (openings_once os) h

  more_once : (o : Opening) (os : List Opening) → opening_once o.kind ≡ true → EachOnce os → EachOnce (o ∷ os)
  more_once o os h k = two (opening_once o.kind) (openings_once os) h k

  both_once : (xs ys : List Opening) → EachOnce xs → EachOnce ys → EachOnce (xs ++ ys)
  both_once [] ys h k = k
  both_once (x ∷ xs) ys h k =
      let both = first_once x xs h in
      more_once x (xs ++ ys) both.0 (both_once xs ys both.1 k)

  def_once : (lets : List Local) (d : Def) → OpeningKnown tabled text lets d → EachOnce (let_openings tabled own text lets d)
  def_once lets (D.Let place p value) known =
      let setting : Setting = plainly (setting_of tabled own text lets []) in
      more_once (binding_opening place (let_under tabled own text lets place p value)) []
      (let_once lets p value known ((part value).elaborate setting [] (wanted_by setting p)).shape) refl
  def_once lets d known = refl

  lets_once : (lets : List Local) (rest : List Def) → OpeningsKnownFrom tabled text lets rest → EachOnce (lets_openings tabled own text lets rest)
  lets_once lets [] known = refl
  lets_once lets (d ∷ rest) known =
      both_once (let_openings tabled own text lets d) (lets_openings tabled own text (lets_with tabled own text lets d) rest) (def_once lets d known.0)
      (lets_once (lets_with tabled own text lets d) rest known.1)

  -- ---- initial values bind nothing

  register_once : (setting : Setting) (r : ℕ) (place : Place) (typ : TyExp) (o : Option Exp) → EachOnce (register_openings setting r place typ o)
  register_once setting r place typ None = refl
  register_once setting r place typ (Some value) = refl

  initial_once : (setting : Setting) (r : ℕ) (d : Def) → EachOnce (initial_openings setting r d)
  initial_once setting r (D.Register place name typ initial) = register_once setting r place typ initial
  initial_once setting r d = refl

  initials_once : (setting : Setting) (r : ℕ) (rest : List Def) → EachOnce (initials_openings setting r rest)
  initials_once setting r [] = refl
  initials_once setting r (d ∷ rest) =
      both_once (initial_openings setting r d) (initials_openings setting (registers_with r d) rest) (initial_once setting r d)
      (initials_once setting (registers_with r d) rest)

  -- ---- in the order of the text

  taken : (os : List Opening) → EachOnce os → EachOnce (take 1 os)
  taken [] h = refl
  taken (o ∷ os) h = more_once o [] (first_once o os h).0 refl

  left : (os : List Opening) → EachOnce os → EachOnce (drop 1 os)
  left [] h = refl
  left (o ∷ os) h = (first_once o os h).1

  took_once : (d : Def) (os ps : List Opening) → EachOnce os → EachOnce ps → EachOnce (took d os ps)
  took_once (D.Let place p value) os ps h k = taken os h
  took_once (D.Register place name typ (Some value)) os ps h k = taken ps k
  took_once (D.Register place name typ None) os ps h k = refl
  took_once d os ps h k = refl

  lets_after : (d : Def) (os : List Opening) → EachOnce os → EachOnce (lets_left d os)
  lets_after (D.Let place p value) os h = left os h
  lets_after d os h = h

  initials_after : (d : Def) (ps : List Opening) → EachOnce ps → EachOnce (initials_left d ps)
  initials_after (D.Register place name typ (Some value)) ps k = left ps k
  initials_after (D.Register place name typ None) ps k = k
  initials_after d ps k = k

  order_once : (rest : List Def) (os ps : List Opening) → EachOnce os → EachOnce ps → EachOnce (in_text_order rest os ps)
  order_once [] os ps h k = refl
  order_once (d ∷ rest) os ps h k =
      both_once (took d os ps) (in_text_order rest (lets_left d os) (initials_left d ps)) (took_once d os ps h k)
      (order_once rest (lets_left d os) (initials_left d ps) (lets_after d os h) (initials_after d ps k))

  pub all_once : OpeningsKnown tabled text → (cycle : List ℕ → Option ℕ) → openings_once (core_of text cycle).openings ≡ true
  all_once known cycle =
      order_once text (lets_openings tabled own text [] text) (initials_openings (setting_of tabled own text (all_lets tabled text) []) 0 text)
      (lets_once [] text known) (initials_once (setting_of tabled own text (all_lets tabled text) []) 0 text)
