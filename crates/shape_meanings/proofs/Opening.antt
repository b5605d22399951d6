-- Patterns that open a value: tuples, vectors, lists, and `p :: q`.
use Rattle.std.proofs.Common.{◌≡◌, ℕ, zero, suc, List, [], ◌∷◌, map, length, replicate, ap, sym, ◌∙◌, refl, subst}
use Rattle.std.proofs.Common.{true, Option, Some, None, nat_eq, if◌then◌else◌, arith}
use Rattle.std.proofs.lemmas.Bool.{and_parts}
use Rattle.sail_base.specs.declared.place.Place.{Place}
use Rattle.sail_types.specs.Shapes.{fits, each_fits, form_fits, put, Asked}
use Rattle.sail_types.specs.declared.shapes.Shape.{Shape, out-Shape}
use Rattle.sail_types.specs.declared.shapes.Shape.TheOpen as S
use Rattle.sail_types.specs.declared.shapes.Shape.TheVariants as V
use Rattle.sail_types.specs.declared.table.Types.{Types}
use Rattle.sail_types.specs.declared.values.Value.{Value, Value-F, out-Value}
use Rattle.sail_types.specs.declared.values.Value.TheFolds.{map-Value}
use Rattle.sail_types.specs.declared.values.Value.TheOpen as W
use Rattle.sail_syntax.specs.declared.words.Brackets.TheVariants as B
use Rattle.sail_core.specs.declared.patterns.Form.TheVariants as F
use Rattle.sail_core.specs.declared.patterns.Head.{Head}
use Rattle.sail_core.specs.declared.patterns.Head.TheVariants as H
use Rattle.sail_core.specs.declared.patterns.Pattern.{Pattern}
use Rattle.sail_core.specs.Run.{Now, Run, stuck, goes_on, ◌then◌}
use Rattle.sail_core.specs.Making as Core
use Rattle.sail_core.specs.Making.{plainly}
use Rattle.sail_core.specs.Patterns as Steps
use Rattle.sail_core.specs.Patterns.{Parts, Wrong, as_run, so_many}
use Rattle.shape_joins.specs.Joins.{join}
use Rattle.shape_joins.specs.Filling.{fills, fill_all}
use Rattle.shape_joins.proofs.Order.{no}
use Rattle.shape_joins.proofs.JoinsLeast.{joins_are_above}
use Rattle.sail_meaning.specs.World as Source
use Rattle.sail_meaning.specs.World.{Bindings}
use Rattle.sail_meaning.specs.Patterns as Written
use Rattle.shape_rules.specs.declared.locals.Local.{Local}
use Rattle.shape_rules.specs.Scopes.{Setting}
use Rattle.shape_rules.specs.Patterns.{Widths, Piece, pattern, opened, each_looked, group_look, seen_as, or_never, shape_faults}
use Rattle.shape_rules.specs.Patterns.{unless_joined, tuple_parts}
use Rattle.shape_meanings.specs.Whole.{Choice}
use Rattle.shape_meanings.specs.Keeping.{Fits, FitAll, Suits, Reach, Good, reach_of, Keeps, Agree}
use Rattle.shape_meanings.specs.Worlds.{Describes}
use Rattle.shape_meanings.specs.Matching.{with_widths, LooksRight, PiecesAre}
use Rattle.shape_meanings.proofs.Values.{opened_at, out_put}
use Rattle.shape_meanings.proofs.Settling.{both_empty}
use Rattle.shape_meanings.proofs.Matching.{rolled_pattern, form_given}
use Rattle.shape_meanings.proofs.Patterns.{parts_agree, seen_fits}
use Rattle.shape_meanings.proofs.Aims.{tuple_above, same_components}
use Rattle.shape_meanings.proofs.Arguments.{fit_count}

-- ---- counts

pub same_count : (n k : ℕ) → nat_eq n k ≡ true → n ≡ k
same_count n k h = grind (arith, h)

pub turned : (n k : ℕ) → nat_eq n k ≡ nat_eq k n
turned zero zero = refl
turned zero (suc k) = grind arith
turned (suc n) zero = grind arith
turned (suc n) (suc k) = grind (arith, turned n k)

pub patterns_count : (ps : List Piece) (setting : Setting) (widths : Widths) (ss : List Shape)
    → length (each_looked ps setting widths ss).patterns ≡ length ps
patterns_count [] setting widths ss = refl
patterns_count (p ∷ ps) setting widths [] = ap suc (patterns_count ps setting widths [])
patterns_count (p ∷ ps) setting widths (s ∷ ss) = ap suc (patterns_count ps setting widths ss)

pub mapped_count : {A B : Type 0} (f : A → B) (xs : List A) → length (map f xs) ≡ length xs
mapped_count f [] = refl
mapped_count f (x ∷ xs) = ap suc (mapped_count f xs)

pub pieces_count : (setting : Setting) (widths : Widths) (ps : List Piece) (ms : List Written.Matcher) → PiecesAre setting widths ps ms → length ms ≡ length ps
pieces_count setting widths [] [] are = refl
pieces_count setting widths (p ∷ ps) (m ∷ ms) are = ap suc (pieces_count setting widths ps ms are.1)
pieces_count setting widths [] (m ∷ ms) are = absurd are
pieces_count setting widths (p ∷ ps) [] are = absurd are

-- ---- a head that opens a value into parts

-- what the core does with what a head sees of a value
pub opens_means : (wc : Core.World Value) (place : Place) (head : Head) (ps : List Pattern) (v : Value) (now : Now Value)
    → Steps.matcher plainly wc (pattern place (F.Opens head) ps) v now
    ≡ goes_on (as_run (so_many (length (map (Steps.matcher plainly wc) ps)) (Steps.opened plainly wc.numbers head (length (map (Steps.matcher plainly wc) ps))
    v (out-Value v))) now) (Steps.parts_match (map (Steps.matcher plainly wc) ps))
opens_means wc place head ps v now = λ i. rolled_pattern wc place (F.Opens head) ps i v now

-- as many parts as patterns, each of its shape
pub opened_agree : (setting : Setting) (widths : Widths) (ps : List Piece) (ms : List Written.Matcher) (ss : List Shape) (vs : List Value) (count : ℕ)
    → PiecesAre setting widths ps ms → length ps ≡ length ss → (each_looked ps setting widths ss).faults ≡ []
    → (registers : List Shape) (c : Choice) (wc : Core.World Value) (ws : Source.World) → Describes setting registers wc ws → (slots : List Local)
    → FitAll setting.types c ss vs → (now : Now Value) → Good (reach_of setting registers c slots) now
    → count ≡ length (map (Steps.matcher plainly wc) (each_looked ps setting widths ss).patterns)
    → Agree (reach_of setting registers c slots) (Suits setting.types c (each_looked ps setting widths ss).binds)
    (goes_on (as_run (so_many count (Parts vs)) now) (Steps.parts_match (map (Steps.matcher plainly wc) (each_looked ps setting widths ss).patterns)))
    (Written.parts_match ms (with_widths widths ws) vs now)
opened_agree setting widths ps ms ss vs count are many e registers c wc ws d slots h now good counts =
    let reach : Reach = reach_of setting registers c slots in
    let qs : List (Steps.Matcher Value) = map (Steps.matcher plainly wc) (each_looked ps setting widths ss).patterns in
    let long : length vs ≡ count =
    fit_count setting.types c ss vs h ∙ sym many ∙ sym (patterns_count ps setting widths ss)
    ∙ sym (mapped_count (Steps.matcher plainly wc) (each_looked ps setting widths ss).patterns) ∙ sym counts in
    let r = parts_agree ps ms ss vs setting widths are many e registers c wc ws d slots h now good in
    (ap (λ b. goes_on (as_run (if b then Parts vs else Wrong) now) (Steps.parts_match qs)) (is_equal (length vs) count long) ∙ r.0, r.1)
  where
    is_equal : (n k : ℕ) → n ≡ k → nat_eq n k ≡ true
    is_equal n k h = grind (arith, h)

-- all parts against values of as many shapes; another count is stuck on both sides
pub all_or_stuck : (ms : List Written.Matcher) (w : Source.World) (vs : List Value) (now : Now Value) → length ms ≡ length vs
    → Written.all_match ms w vs now ≡ Written.parts_match ms w vs now
all_or_stuck ms w vs now h = ap (λ b. (if b then Written.parts_match ms w vs else stuck) now) (is_equal (length ms) (length vs) h)
  where
    is_equal : (n k : ℕ) → n ≡ k → nat_eq n k ≡ true
    is_equal n k h = grind (arith, h)

-- ---- tuples

pub joined_is : (place : Place) (subject own : Shape) (o : Option Shape) → join own subject ≡ o → unless_joined place subject own o ≡ []
    → (t : Shape) × (or_never o ≡ t) × (fills own t ≡ true) × (fills subject t ≡ true)
joined_is place subject own None is e = absurd (not_none e)
  where
    not_none : {A : Type 0} {x : A} → (x ∷ []) ≡ [] → ⊥
    not_none e = cc
joined_is place subject own (Some t) is e =
    let above = joins_are_above own subject t is in
    (t, refl, above.0, above.1)

fill_count : (ss ts : List Shape) → fill_all ss ts ≡ true → length ts ≡ length ss
fill_count [] [] h = refl
fill_count [] (t ∷ ts) h = no h
fill_count (s ∷ ss) [] h = no h
fill_count (s ∷ ss) (t ∷ ts) h = ap suc (fill_count ss ts (and_parts (fills s t) (fill_all ss ts) h).1)

pub replicated : {A : Type 0} (n : ℕ) (x : A) → length (replicate n x) ≡ n
replicated zero x = refl
replicated (suc n) x = ap suc (replicated n x)

-- what a tuple of so many parts sees
abbrev tuple_of : ℕ → Shape
tuple_of n = V.Tuple (replicate n V.Never)

tuple_seen : (place : Place) (subject : Shape) (n : ℕ) → shape_faults place subject (tuple_of n) ≡ []
    → (ss : List Shape) × (t : Shape) × (seen_as subject (tuple_of n) ≡ t) × (out-Shape t ≡ S.Tuple ss) × (length ss ≡ n)
tuple_seen place subject n e =
    let j = joined_is place subject (tuple_of n) (join (tuple_of n) subject) refl e in
    let a = tuple_above (replicate n V.Never) j.0 j.2 in
    (a.0, j.0, j.1, a.1, fill_count (replicate n V.Never) a.0 a.2 ∙ replicated n V.Never)

pub form_tuple : (types : Types) (x : Value-F Value) (us : List Shape) → form_fits types (map-Value Value Asked (fits types) x) (S.Tuple us) ≡ true
    → (vs : List Value) × (x ≡ W.Tuple vs) × (each_fits (map (fits types) vs) us ≡ true)
form_tuple types (W.Tuple vs) us h = (vs, refl, h)
form_tuple types x us h = no h

-- the parts of a tuple, in the source
abbrev tuple_matches : List Written.Matcher → Source.World → Value-F Value → Run Value Bindings
tuple_matches ms w (W.Tuple vs) = Written.all_match ms w vs
tuple_matches ms w x = stuck

tuple_agrees : (setting : Setting) (widths : Widths) (place : Place) (ps : List Piece) (ms : List Written.Matcher) (t : Shape) (ss : List Shape)
    → out-Shape t ≡ S.Tuple ss → length ss ≡ length ps → PiecesAre setting widths ps ms → (each_looked ps setting widths ss).faults ≡ []
    → (registers : List Shape) (c : Choice) (wc : Core.World Value) (ws : Source.World) → Describes setting registers wc ws → (slots : List Local)
    → (v : Value) → Fits setting.types c t v → (now : Now Value) → Good (reach_of setting registers c slots) now
    → Agree (reach_of setting registers c slots) (Suits setting.types c (each_looked ps setting widths ss).binds)
    (Steps.matcher plainly wc (pattern place (F.Opens H.Tuple) (each_looked ps setting widths ss).patterns) v now)
    (tuple_matches ms (with_widths widths ws) (out-Value v) now)
tuple_agrees setting widths place ps ms t ss out many are e registers c wc ws d slots v h now good =
    let reach : Reach = reach_of setting registers c slots in
    let qs : List Pattern = (each_looked ps setting widths ss).patterns in
    let P : Bindings → Type 0 = Suits setting.types c (each_looked ps setting widths ss).binds in
    let f = form_tuple setting.types (out-Value v) (map (put c) ss) (form_given setting.types c t (S.Tuple (map (put c) ss)) v
    (out_put c t ∙ ap (opened_at c) out) h) in
    let k : ℕ = length (map (Steps.matcher plainly wc) qs) in
    let r = opened_agree setting widths ps ms ss f.0 k are (sym many) e registers c wc ws d slots f.2 now good refl in
    let source : tuple_matches ms (with_widths widths ws) (out-Value v) now ≡ Written.parts_match ms (with_widths widths ws) f.0 now =
    ap (λ x. tuple_matches ms (with_widths widths ws) x now) f.1
    ∙ all_or_stuck ms (with_widths widths ws) f.0 now
    (pieces_count setting widths ps ms are ∙ sym many ∙ sym (fit_count setting.types c ss f.0 f.2)) in (
      opens_means wc place H.Tuple qs v now
          ∙ ap (λ x. goes_on (as_run (so_many k (Steps.opened plainly wc.numbers H.Tuple k v x)) now)
          (Steps.parts_match (map (Steps.matcher plainly wc) qs))) f.1
          ∙ ap (λ us. goes_on (as_run (so_many k (Parts us)) now) (Steps.parts_match (map (Steps.matcher plainly wc) qs))) (same_components v 0 f.0)
          ∙ r.0 ∙ sym source,
      subst (Keeps reach P) (sym source) r.1,
    )

-- a tuple of one part or more
pub tuple_pattern_right : (setting : Setting) (widths : Widths) (subject : Shape) (place : Place) (p : Piece) (ps : List Piece) (m : Written.Matcher)
    (ms : List Written.Matcher)
    → PiecesAre setting widths (p ∷ ps) (m ∷ ms) → (group_look place B.Tuple (p ∷ ps) setting widths subject).faults ≡ []
    → LooksRight setting widths subject (group_look place B.Tuple (p ∷ ps) setting widths subject)
    (λ w v. Written.group_matches B.Tuple (m ∷ ms) w (out-Value v))
tuple_pattern_right setting widths subject place p ps m ms are e =
    let n : ℕ = length (p ∷ ps) in
    let h = both_empty (shape_faults place subject (tuple_of n)) _ e in
    let seen = tuple_seen place subject n h.0 in
    let is : tuple_parts (out-Shape (seen_as subject (tuple_of n))) ≡ seen.0 = ap (λ t. tuple_parts (out-Shape t)) seen.2 ∙ ap tuple_parts seen.3 in
    subst (λ ss. LooksRight setting widths subject (opened place H.Tuple (shape_faults place subject (tuple_of n)) (each_looked (p ∷ ps) setting widths ss))
    (λ w v. Written.group_matches B.Tuple (m ∷ ms) w (out-Value v))) (sym is) (record {
      runs = λ registers c wc ws d slots v fit now good.
          let fit_t = subst (λ t. Fits setting.types c t v) seen.2 (seen_fits setting.types c place subject (tuple_of n) v h.0 fit) in
          let r = tuple_agrees setting widths place (p ∷ ps) (m ∷ ms) seen.1 seen.0 seen.3 seen.4 are
          (subst (λ ss. (each_looked (p ∷ ps) setting widths ss).faults ≡ []) is h.1) registers c wc ws d slots v fit_t now good in
          subst (λ (run : Run Value Bindings). Agree (reach_of setting registers c slots)
          (Suits setting.types c (each_looked (p ∷ ps) setting widths seen.0).binds)
          (Steps.matcher plainly wc (pattern place (F.Opens H.Tuple) (each_looked (p ∷ ps) setting widths seen.0).patterns) v now) (run now))
          (group_is (with_widths widths ws) (out-Value v)) r;
    })
  where
    group_is : (w : Source.World) (x : Value-F Value) → tuple_matches (m ∷ ms) w x ≡ Written.group_matches B.Tuple (m ∷ ms) w x
    group_is w (W.Tuple vs) = refl
    group_is w x = refl
