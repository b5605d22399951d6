-- Patterns with a head: `C(p, q)` and `m(p)`.
use Rattle.std.proofs.Common.{◌≡◌, ℕ, zero, suc, List, [], ◌∷◌, ◌++◌, map, length, append-nil, ap, sym, ◌∙◌, refl, subst, Bool, true, false, ◌&&◌}
use Rattle.std.proofs.Common.{Option, Some, None, option_map, nat_eq, if◌then◌else◌, arith}
use Rattle.std.proofs.lemmas.Bool.{and_parts}
use Rattle.sail_base.specs.declared.place.Place.{Place}
use Rattle.sail_types.specs.Named.{payload}
use Rattle.sail_types.specs.Shapes.{at, fits, form_fits, payload_fits, put, shape, Asked}
use Rattle.sail_types.specs.declared.shapes.Shape.{Shape, out-Shape}
use Rattle.sail_types.specs.declared.shapes.Shape.TheOpen as S
use Rattle.sail_types.specs.declared.shapes.Shape.TheVariants as V
use Rattle.sail_types.specs.declared.shapes.Shape.TheViews.{out-roll-Shape}
use Rattle.sail_types.specs.declared.types.Typ.{Typ, Typ-F, out-Typ}
use Rattle.sail_types.specs.declared.types.Typ.TheOpen as T
use Rattle.sail_types.specs.declared.values.Value.{Value, Value-F, out-Value}
use Rattle.sail_types.specs.declared.values.Value.TheFolds.{map-Value}
use Rattle.sail_types.specs.declared.values.Value.TheOpen as W
use Rattle.sail_syntax.specs.declared.name.Name.{Name}
use Rattle.sail_syntax.specs.declared.words.Brackets.TheVariants as B
use Rattle.sail_core.specs.declared.patterns.Form.TheVariants as F
use Rattle.sail_core.specs.declared.patterns.Head.TheVariants as H
use Rattle.sail_core.specs.Run as R
use Rattle.sail_core.specs.Run.{Now, Ended, gives, falls, goes_on, ◌then◌}
use Rattle.sail_core.specs.Values.{form_parts}
use Rattle.sail_core.specs.Making as Core
use Rattle.sail_core.specs.Making.{plainly}
use Rattle.sail_core.specs.Patterns as Steps
use Rattle.sail_core.specs.Patterns.{Parts, as_run, so_many, constructed, payload_parts}
use Rattle.shape_joins.specs.Learning.{learn}
use Rattle.shape_joins.proofs.Order.{no, two}
use Rattle.sail_meaning.specs.World as Source
use Rattle.sail_meaning.specs.World.{Bindings}
use Rattle.sail_meaning.specs.Named.{constructor_named}
use Rattle.sail_meaning.specs.Patterns as Written
use Rattle.sail_meaning.specs.Patterns.{whole_matches, constructor_matches, construct_matches, unit_matches}
use Rattle.shape_rules.specs.declared.callees.Candidate.{Candidate}
use Rattle.shape_rules.specs.declared.error.ShapeError.TheVariants as error
use Rattle.shape_rules.specs.declared.locals.Local.{Local}
use Rattle.shape_rules.specs.Scopes.{Setting}
use Rattle.shape_rules.specs.Calls.{takes_unit, parameters_form, parameters_of}
use Rattle.shape_rules.specs.Patterns.{LookedAll, Widths, Piece, pattern, opened, each_looked, shape_faults, nevers, known_or_nevers}
use Rattle.shape_rules.specs.Patterns.{unit_piece, pieces_for, constructor_parts, constructor_look}
use Rattle.shape_meanings.specs.Whole.{Choice}
use Rattle.shape_meanings.specs.Keeping.{Fits, Suits, Reach, Good, reach_of, Keeps, Agree}
use Rattle.shape_meanings.specs.Worlds.{Describes, IsConstructor, variables_from, is_payload_form}
use Rattle.shape_meanings.specs.Matching.{with_widths, LooksRight, PiecesAre}
use Rattle.shape_meanings.proofs.Orders.{at_below, put_more, put_args}
use Rattle.shape_meanings.proofs.Values.{widens, opened_at, out_put}
use Rattle.shape_meanings.proofs.Settling.{both_empty}
use Rattle.shape_meanings.proofs.Matching.{form_given}
use Rattle.shape_meanings.proofs.Tested.{unit_pattern_right}
use Rattle.shape_meanings.proofs.Opening.{opens_means, opened_agree, pieces_count, patterns_count, mapped_count, same_count, all_or_stuck, form_tuple}
use Rattle.shape_meanings.proofs.Arguments.{fit_count}
use Rattle.shape_meanings.proofs.Aims.{same_components}
use Rattle.shape_meanings.proofs.Constructing.{union_taught, is_union, named_puts, shape_of_tuple, tuple_puts, variables_put, nevers_count}

-- ---- `C()` holds `()`, where that is what it takes

abbrev unit_matcher : Written.Matcher
unit_matcher = record { matches = λ w v. unit_matches (out-Value v); width = λ w. None }

abbrev matchers_if : Bool → List Written.Matcher
matchers_if b = if b then unit_matcher ∷ [] else []

abbrev matchers_for : List Shape → List Written.Matcher → List Written.Matcher
matchers_for params [] = matchers_if (takes_unit params)
matchers_for params (m ∷ ms) = m ∷ ms

unit_if_are : (setting : Setting) (widths : Widths) (place : Place) (b : Bool)
    → PiecesAre setting widths (if b then unit_piece place ∷ [] else []) (matchers_if b)
unit_if_are setting widths place true = (λ subject e. unit_pattern_right setting widths subject place e, tt)
unit_if_are setting widths place false = tt

pieces_are : (setting : Setting) (widths : Widths) (place : Place) (params : List Shape) (ps : List Piece) (ms : List Written.Matcher)
    → PiecesAre setting widths ps ms → PiecesAre setting widths (pieces_for place params ps) (matchers_for params ms)
pieces_are setting widths place params [] [] are = unit_if_are setting widths place (takes_unit params)
pieces_are setting widths place params (p ∷ ps) (m ∷ ms) are = are
pieces_are setting widths place params [] (m ∷ ms) are = absurd are
pieces_are setting widths place params (p ∷ ps) [] are = absurd are

whole_if : (b : Bool) (w : Source.World) (v : Value) → whole_matches (matchers_if b) w v ≡ whole_matches [] w v
whole_if true w v = refl
whole_if false w v = refl

whole_for : (params : List Shape) (ms : List Written.Matcher) (w : Source.World) (v : Value)
    → whole_matches (matchers_for params ms) w v ≡ whole_matches ms w v
whole_for params [] w v = whole_if (takes_unit params) w v
whole_for params (m ∷ ms) w v = refl

-- ---- a payload against its parts

-- what the core does with a payload
abbrev payload_run : List (Steps.Matcher Value) → Value → Now Value → Ended Value Bindings
payload_run qs x now = goes_on (as_run (so_many (length qs) (Steps.parts_or_wrong (payload_parts plainly (length qs) x))) now) (Steps.parts_match qs)

abbrev matchers : Core.World Value → List Piece → Setting → Widths → List Shape → List (Steps.Matcher Value)
matchers wc ps setting widths ss = map (Steps.matcher plainly wc) (each_looked ps setting widths ss).patterns

matchers_count : (wc : Core.World Value) (ps : List Piece) (setting : Setting) (widths : Widths) (ss : List Shape)
    → length (matchers wc ps setting widths ss) ≡ length ps
matchers_count wc ps setting widths ss =
    mapped_count (Steps.matcher plainly wc) (each_looked ps setting widths ss).patterns ∙ patterns_count ps setting widths ss

-- one part: the payload itself
one_part : (qs : List (Steps.Matcher Value)) (x : Value) (now : Now Value) → length qs ≡ 1
    → payload_run qs x now ≡ goes_on (as_run (so_many (length qs) (Parts (x ∷ []))) now) (Steps.parts_match qs)
one_part qs x now is =
    ap (λ n. goes_on (as_run (so_many n (Steps.parts_or_wrong (payload_parts plainly n x))) now) (Steps.parts_match qs)) is
    ∙ sym (ap (λ n. goes_on (as_run (so_many n (Parts (x ∷ []))) now) (Steps.parts_match qs)) is)

-- several: the parts of a tuple
some_parts : (qs : List (Steps.Matcher Value)) (x : Value) (vs : List Value) (n : ℕ) (now : Now Value) → length qs ≡ suc (suc n) → out-Value x ≡ W.Tuple vs
    → payload_run qs x now ≡ goes_on (as_run (so_many (length qs) (Parts vs)) now) (Steps.parts_match qs)
some_parts qs x vs n now is out =
    ap (λ m. goes_on (as_run (so_many m (Steps.parts_or_wrong (payload_parts plainly m x))) now) (Steps.parts_match qs)) is
    ∙ ap (λ o. goes_on (as_run (so_many (suc (suc n)) (Steps.parts_or_wrong (option_map (Steps.components plainly x 0) (form_parts o))))
    now) (Steps.parts_match qs)) out
    ∙ ap (λ us. goes_on (as_run (so_many (suc (suc n)) (Parts us)) now) (Steps.parts_match qs)) (same_components x 0 vs)
    ∙ sym (ap (λ m. goes_on (as_run (so_many m (Parts vs)) now) (Steps.parts_match qs)) is)

abbrev Binds : Setting → Choice → List Piece → Widths → List Shape → List (R.Local Value) → Type 0
Binds setting c ps widths ss = Suits setting.types c (each_looked ps setting widths ss).binds

zero_not : {A : Type 0} (n : ℕ) → zero ≡ suc n → A
zero_not n h = grind (arith, h)

not_zero : {A : Type 0} (n : ℕ) → suc n ≡ zero → A
not_zero n h = grind (arith, h)

two_not : {A : Type 0} (n : ℕ) → suc (suc n) ≡ suc zero → A
two_not n h = grind (arith, h)

-- one part against the payload
one_agrees : (setting : Setting) (widths : Widths) (ps : List Piece) (ms : List Written.Matcher) (s : Shape) → PiecesAre setting widths ps ms
    → length ps ≡ 1 → (each_looked ps setting widths (s ∷ [])).faults ≡ []
    → (registers : List Shape) (c : Choice) (wc : Core.World Value) (ws : Source.World) → Describes setting registers wc ws → (slots : List Local)
    → (x : Value) → Fits setting.types c s x → (now : Now Value) → Good (reach_of setting registers c slots) now
    → Agree (reach_of setting registers c slots) (Binds setting c ps widths (s ∷ [])) (payload_run (matchers wc ps setting widths (s ∷ [])) x now)
    (whole_matches ms (with_widths widths ws) x now)
one_agrees setting widths [] ms s are many e registers c wc ws d slots x h now good = zero_not 0 many
one_agrees setting widths (p ∷ q ∷ ps) ms s are many e registers c wc ws d slots x h now good = two_not (length ps) many
one_agrees setting widths (p ∷ []) [] s are many e registers c wc ws d slots x h now good = absurd are
one_agrees setting widths (p ∷ []) (m ∷ n ∷ ms) s are many e registers c wc ws d slots x h now good = absurd are.1
one_agrees setting widths (p ∷ []) (m ∷ []) s are many e registers c wc ws d slots x h now good =
    let reach : Reach = reach_of setting registers c slots in
    let r = opened_agree setting widths (p ∷ []) (m ∷ []) (s ∷ []) (x ∷ []) 1 are refl e registers c wc ws d slots
    (two (fits setting.types x (put c s)) true h refl) now good refl in
    let source = same_match (m.matches (with_widths widths ws) x now) in
    (r.0 ∙ source, subst (Keeps reach (Binds setting c (p ∷ []) widths (s ∷ []))) source r.1)
  where
    same_match : (e : Ended Value Bindings)
        → goes_on e (λ found. Written.parts_match [] (with_widths widths ws) [] then λ others. gives (found ++ others)) ≡ e
    same_match (R.Gives found now) = ap (λ f. R.Gives f now) (append-nil found)
    same_match (R.No now) = refl
    same_match (R.Returns v now) = refl
    same_match (R.Throws v now) = refl
    same_match (R.Stops cause now) = refl
    same_match R.Stuck = refl

-- several parts against those of a tuple
some_agree : (setting : Setting) (widths : Widths) (ps : List Piece) (ms : List Written.Matcher) (s t : Shape) (ss : List Shape)
    → PiecesAre setting widths ps ms
    → length (s ∷ t ∷ ss) ≡ length ps → (each_looked ps setting widths (s ∷ t ∷ ss)).faults ≡ []
    → (registers : List Shape) (c : Choice) (wc : Core.World Value) (ws : Source.World) → Describes setting registers wc ws → (slots : List Local)
    → (x : Value) → Fits setting.types c (V.Tuple (s ∷ t ∷ ss)) x → (now : Now Value) → Good (reach_of setting registers c slots) now
    → Agree (reach_of setting registers c slots) (Binds setting c ps widths (s ∷ t ∷ ss)) (payload_run (matchers wc ps setting widths (s ∷ t ∷ ss)) x now)
    (whole_matches ms (with_widths widths ws) x now)
some_agree setting widths [] ms s t ss are many e registers c wc ws d slots x h now good = not_zero (suc (length ss)) many
some_agree setting widths (p ∷ []) ms s t ss are many e registers c wc ws d slots x h now good = two_not (length ss) many
some_agree setting widths (p ∷ q ∷ ps) [] s t ss are many e registers c wc ws d slots x h now good = absurd are
some_agree setting widths (p ∷ q ∷ ps) (m ∷ []) s t ss are many e registers c wc ws d slots x h now good = absurd are.1
some_agree setting widths (p ∷ q ∷ ps) (m ∷ n ∷ ms) s t ss are many e registers c wc ws d slots x h now good =
    let reach : Reach = reach_of setting registers c slots in
    let all : List Shape = s ∷ t ∷ ss in
    let pieces : List Piece = p ∷ q ∷ ps in
    let out : out-Shape (put c (V.Tuple all)) ≡ S.Tuple (map (put c) all) =
    out_put c (V.Tuple all) ∙ ap (opened_at c) (ap out-Shape (sym (V.rolls-Tuple all)) ∙ out-roll-Shape (S.Tuple all)) in
    let f = form_tuple setting.types (out-Value x) (map (put c) all) (form_given setting.types c (V.Tuple all) (S.Tuple (map (put c) all)) x out h) in
    let qs : List (Steps.Matcher Value) = matchers wc pieces setting widths all in
    let r = opened_agree setting widths pieces (m ∷ n ∷ ms) all f.0 (length qs) are (sym many) e registers c wc ws d slots f.2 now good refl in
    let source : whole_matches (m ∷ n ∷ ms) (with_widths widths ws) x now ≡ Written.parts_match (m ∷ n ∷ ms) (with_widths widths ws) f.0 now =
    ap (λ y. Written.group_matches B.Tuple (m ∷ n ∷ ms) (with_widths widths ws) y now) f.1
    ∙ all_or_stuck (m ∷ n ∷ ms) (with_widths widths ws) f.0 now
    (pieces_count setting widths pieces (m ∷ n ∷ ms) are ∙ sym many ∙ sym (fit_count setting.types c all f.0 f.2)) in (
      some_parts qs x f.0 (length ps) now (matchers_count wc pieces setting widths all) f.1 ∙ r.0 ∙ sym source,
      subst (Keeps reach (Binds setting c pieces widths all)) (sym source) r.1,
    )

-- what a payload of a type does against pieces for the parameters
abbrev PayloadAgrees : Setting → Widths → List Piece → List Written.Matcher → List Shape → Typ → List Typ → Type 0
PayloadAgrees setting widths ps ms known t params =
    PiecesAre setting widths ps ms → length (map (put (at known)) (map shape params)) ≡ length ps
    → (each_looked ps setting widths (map (put (at known)) (map shape params))).faults ≡ []
    → (registers : List Shape) (c : Choice) (wc : Core.World Value) (ws : Source.World) → Describes setting registers wc ws → (slots : List Local)
    → (x : Value) → Fits setting.types c (put (at known) (shape t)) x → (now : Now Value) → Good (reach_of setting registers c slots) now
    → Agree (reach_of setting registers c slots) (Binds setting c ps widths (map (put (at known)) (map shape params)))
    (payload_run (matchers wc ps setting widths (map (put (at known)) (map shape params))) x now) (whole_matches ms (with_widths widths ws) x now)

whole_payload : (setting : Setting) (widths : Widths) (ps : List Piece) (ms : List Written.Matcher) (known : List Shape) (t : Typ)
    → PayloadAgrees setting widths ps ms known t (t ∷ [])
whole_payload setting widths ps ms known t are many e registers c wc ws d slots x h now good =
    one_agrees setting widths ps ms (put (at known) (shape t)) are (sym many) e registers c wc ws d slots x h now good

tuple_payload : (setting : Setting) (widths : Widths) (ps : List Piece) (ms : List Written.Matcher) (known : List Shape) (t a b : Typ) (ts : List Typ)
    → out-Typ t ≡ T.Tuple (a ∷ b ∷ ts) → PayloadAgrees setting widths ps ms known t (a ∷ b ∷ ts)
tuple_payload setting widths ps ms known t a b ts is are many e registers c wc ws d slots x h now good =
    let all : List Shape = map (put (at known)) (map shape (a ∷ b ∷ ts)) in
    let same : put (at known) (shape t) ≡ V.Tuple all =
    ap (put (at known)) (shape_of_tuple t (a ∷ b ∷ ts) is) ∙ tuple_puts (at known) (map shape (a ∷ b ∷ ts)) in
    some_agree setting widths ps ms (put (at known) (shape a)) (put (at known) (shape b)) (map (put (at known)) (map shape ts)) are many e
    registers c wc ws d slots x (subst (λ s. Fits setting.types c s x) same h) now good

payload_agrees : (setting : Setting) (widths : Widths) (ps : List Piece) (ms : List Written.Matcher) (known : List Shape) (t : Typ) (form : Typ-F Typ)
    → out-Typ t ≡ form → is_payload_form form ≡ true → PayloadAgrees setting widths ps ms known t (parameters_form t form)
payload_agrees setting widths ps ms known t (T.Tuple []) is several = no several
payload_agrees setting widths ps ms known t (T.Tuple (a ∷ [])) is several = no several
payload_agrees setting widths ps ms known t (T.Tuple (a ∷ b ∷ ts)) is several = tuple_payload setting widths ps ms known t a b ts is
payload_agrees setting widths ps ms known t form is several = whole_payload setting widths ps ms known t

-- ---- `C(p, q)`

-- a value of a union: it has the constructor, and a payload of its type, or it has another one, or it is no union's
union_agrees : (setting : Setting) (widths : Widths) (ps : List Piece) (ms : List Written.Matcher) (ss params : List Shape) (u k : ℕ) (typ : Typ)
    → payload setting.types u k ≡ Some typ
    → (registers : List Shape) (c : Choice) (wc : Core.World Value) (ws : Source.World) → Describes setting registers wc ws → (slots : List Local)
    → (y : Value-F Value) → form_fits setting.types (map-Value Value Asked (fits setting.types) y) (S.Named u (map (put c) ss)) ≡ true
    → (now : Now Value) → Good (reach_of setting registers c slots) now
    → ((x : Value) → Fits setting.types c (put (at ss) (shape typ)) x
    → Agree (reach_of setting registers c slots) (Binds setting c ps widths params) (payload_run (matchers wc ps setting widths params) x now)
    (whole_matches ms (with_widths widths ws) x now))
    → (v : Value)
    → Agree (reach_of setting registers c slots) (Binds setting c ps widths params)
    (goes_on (as_run (so_many (length (matchers wc ps setting widths params)) (Steps.opened plainly wc.numbers (H.Constructor u k)
    (length (matchers wc ps setting widths params)) v y)) now) (Steps.parts_match (matchers wc ps setting widths params)))
    (constructor_matches (u, k) ms (with_widths widths ws) y now)
union_agrees setting widths ps ms ss params u k typ there registers c wc ws d slots (W.Union i j x) h now good next v =
    by_test (nat_eq i u && nat_eq j k) refl
  where
    fit : nat_eq i u ≡ true → nat_eq j k ≡ true → Fits setting.types c (put (at ss) (shape typ)) x
    fit same_u same_k =
        let p = and_parts (nat_eq i u) (payload_fits (fits setting.types x) (map (put c) ss) (payload setting.types i j)) h in
        let typed : payload setting.types i j ≡ Some typ =
        ap (λ n. payload setting.types n j) (same_count i u same_u) ∙ ap (payload setting.types u) (same_count j k same_k) ∙ there in
        subst (λ s. fits setting.types x s ≡ true) (put_args (shape typ) c ss)
        (subst (λ o. payload_fits (fits setting.types x) (map (put c) ss) o ≡ true) typed p.1)

    by_test : (b : Bool) → (nat_eq i u && nat_eq j k) ≡ b
        → Agree (reach_of setting registers c slots) (Binds setting c ps widths params)
        (goes_on (as_run (so_many (length (matchers wc ps setting widths params)) (constructed b (payload_parts plainly (length
        (matchers wc ps setting widths params)) x))) now) (Steps.parts_match (matchers wc ps setting widths params)))
        ((if b then whole_matches ms (with_widths widths ws) x else falls) now)
    by_test true is =
        let p = and_parts (nat_eq i u) (nat_eq j k) is in
        next x (fit p.0 p.1)
    by_test false is = (refl, good)
union_agrees setting widths ps ms ss params u k typ there registers c wc ws d slots y h now good next v = (refl, tt)

pub constructor_right : (setting : Setting) (widths : Widths) (subject : Shape) (name : Name) (f : Candidate) (u k : ℕ) (ps : List Piece)
    (ms : List Written.Matcher)
    → ((registers : List Shape) (wc : Core.World Value) (ws : Source.World) → Describes setting registers wc ws
    → (constructor_named setting.types name.text ≡ Some (u, k)) × IsConstructor setting.types f u k)
    → PiecesAre setting widths ps ms
    → (constructor_look name (H.Constructor u k) f (pieces_for name.place f.params ps) setting widths subject).faults ≡ []
    → LooksRight setting widths subject (constructor_look name (H.Constructor u k) f (pieces_for name.place f.params ps) setting widths subject)
    (λ w v. construct_matches name.text ms w v (constructor_named w.text.types name.text))
constructor_right setting widths subject name f u k ps ms there are e = by_count (nat_eq (length f.params) (length pieces)) refl e
  where
    pieces : List Piece
    pieces = pieces_for name.place f.params ps

    known : Option (List Shape)
    known = learn f.answer subject (nevers f.variables)

    by_count : (b : Bool) → nat_eq (length f.params) (length pieces) ≡ b
        → (if b then constructor_parts name (H.Constructor u k) f pieces known setting widths subject
        else opened name.place (H.Constructor u k) (error.Arity name.place (length f.params) (length pieces) ∷ [])
        (each_looked pieces setting widths [])).faults ≡ []
        → LooksRight setting widths subject (if b then constructor_parts name (H.Constructor u k) f pieces known setting widths subject
        else opened name.place (H.Constructor u k) (error.Arity name.place (length f.params) (length pieces) ∷ []) (each_looked pieces setting widths []))
        (λ w v. construct_matches name.text ms w v (constructor_named w.text.types name.text))
    by_count false is e = absurd (not_none e)
      where
        not_none : {A : Type 0} {x : A} {xs : List A} → (x ∷ xs) ≡ [] → ⊥
        not_none e = cc
    by_count true is e = record {
      runs = λ registers c wc ws d slots v h now good.
          let found = there registers wc ws d in
          let made : IsConstructor setting.types f u k = found.1 in
          let q = both_empty (shape_faults name.place subject (put (at (nevers f.variables)) f.answer)) _ e in
          let own : put (at (nevers f.variables)) f.answer ≡ V.Named u (nevers f.variables) =
          ap (put (at (nevers f.variables))) made.answer ∙ named_puts (at (nevers f.variables)) u (variables_from 0 f.variables)
          ∙ ap (V.Named u) (variables_put (nevers f.variables) f.variables (nevers_count f.variables)) in
          let union = is_union setting.types c name.place subject u f.variables v
          (subst (λ s. shape_faults name.place subject s ≡ []) own q.0) h in
          let taught = union_taught subject f.answer u f.variables made.answer union in
          let params_are : f.params ≡ map shape (parameters_of made.typ) = made.params in
          let looks : List Shape → LookedAll = each_looked pieces setting widths in
          let ks : List Shape = taught.0 in
          let all : List Shape = map (put (at ks)) (map shape (parameters_of made.typ)) in
          let same : map (put (at (known_or_nevers f.variables known))) f.params ≡ all =
          ap (λ o. map (put (at (known_or_nevers f.variables o))) f.params) taught.1 ∙ ap (map (put (at ks))) params_are in
          let Goes : List Shape → Type 0 = λ ss. Agree (reach_of setting registers c slots) (Suits setting.types c (looks ss).binds)
          (Steps.matcher plainly wc (pattern name.place (F.Opens (H.Constructor u k)) (looks ss).patterns) v now)
          (construct_matches name.text ms (with_widths widths ws) v (constructor_named ws.text.types name.text) now) in
          let head : constructor_named ws.text.types name.text ≡ Some (u, k) = ap (λ t. constructor_named t name.text) d.types ∙ found.0 in
          let r = union_agrees setting widths pieces (matchers_for f.params ms) union.0 all u k made.typ made.there registers c wc ws d slots (out-Value v)
          (form_given setting.types c subject (S.Named u (map (put c) union.0)) v (out_put c subject ∙ ap (opened_at c) union.1) h) now good
          (λ x fit.
          payload_agrees setting widths pieces (matchers_for f.params ms) ks made.typ (out-Typ made.typ) refl made.several
          (pieces_are setting widths name.place f.params ps ms are)
          (mapped_count (put (at ks)) (map shape (parameters_of made.typ)) ∙ ap length (sym params_are) ∙ same_count (length f.params) (length pieces) is)
          (subst (λ ss. (looks ss).faults ≡ []) same q.1) registers c wc ws d slots x
          (widens setting.types x c (put (at union.0) (shape made.typ)) (put (at ks) (shape made.typ))
          (put_more (shape made.typ) (at union.0) (at ks) (at_below union.0 ks taught.2)) fit) now good) v in
          subst Goes (sym same) (
            opens_means wc name.place (H.Constructor u k) (looks all).patterns v now ∙ r.0
                ∙ same_source registers c wc ws slots v now head,
            subst (Keeps (reach_of setting registers c slots) (Suits setting.types c (looks all).binds)) (same_source registers c wc ws slots v now head) r.1,
          );
    }
      where
        union_source : (ws : Source.World) (y : Value-F Value) (now : Now Value)
            → constructor_matches (u, k) (matchers_for f.params ms) (with_widths widths ws) y now ≡ constructor_matches (u, k) ms (with_widths widths ws) y now
        union_source ws (W.Union i j x) now =
            λ l. (if nat_eq i u && nat_eq j k then whole_for f.params ms (with_widths widths ws) x l else falls) now
        union_source ws y now = refl

        same_source : (registers : List Shape) (c : Choice) (wc : Core.World Value) (ws : Source.World) (slots : List Local) (v : Value) (now : Now Value)
            → constructor_named ws.text.types name.text ≡ Some (u, k)
            → constructor_matches (u, k) (matchers_for f.params ms) (with_widths widths ws) (out-Value v) now
            ≡ construct_matches name.text ms (with_widths widths ws) v (constructor_named ws.text.types name.text) now
        same_source registers c wc ws slots v now head =
            union_source ws (out-Value v) now ∙ sym (ap (λ o. construct_matches name.text ms (with_widths widths ws) v o now) head)
