-- Patterns of vectors and lists, and `p :: q`.
use Rattle.std.proofs.Common.{◌≡◌, ℕ, zero, suc, List, [], ◌∷◌, map, length, replicate, reverse, ap, sym, ◌∙◌, refl, subst}
use Rattle.std.proofs.Common.{Bool, true, false, nat_eq, if◌then◌else◌, arith}
use Rattle.std.proofs.lemmas.Bool.{and_parts}
use Rattle.std.specs.List.{list_all}
use Rattle.sail_base.specs.declared.place.Place.{Place}
use Rattle.sail_types.specs.Shapes.{fits, each_fits, form_fits, put, Asked}
use Rattle.sail_types.specs.declared.shapes.Shape.{Shape, Shape-F, out-Shape}
use Rattle.sail_types.specs.declared.shapes.Shape.TheOpen as S
use Rattle.sail_types.specs.declared.shapes.Shape.TheVariants as V
use Rattle.sail_types.specs.declared.shapes.Shape.TheViews.{out-roll-Shape}
use Rattle.sail_types.specs.declared.table.Types.{Types}
use Rattle.sail_types.specs.declared.values.Value.{Value, Value-F, out-Value}
use Rattle.sail_types.specs.declared.values.Value.TheFolds.{map-Value}
use Rattle.sail_types.specs.declared.values.Value.TheOpen as W
use Rattle.sail_types.specs.declared.values.Value.TheVariants as Val
use Rattle.sail_syntax.specs.declared.words.Brackets.TheVariants as B
use Rattle.sail_core.specs.declared.patterns.Form.TheVariants as F
use Rattle.sail_core.specs.declared.patterns.Head.TheVariants as H
use Rattle.sail_core.specs.Run as R
use Rattle.sail_core.specs.Run.{Now, Run, falls, stuck, goes_on, ◌then◌}
use Rattle.sail_core.specs.Making as Core
use Rattle.sail_core.specs.Making.{plainly}
use Rattle.sail_core.specs.Patterns as Steps
use Rattle.sail_core.specs.Patterns.{Parts, Wrong, as_run, so_many, items, parts_if}
use Rattle.shape_joins.specs.Joins.{join}
use Rattle.shape_joins.specs.Filling.{fill_form}
use Rattle.shape_joins.proofs.Order.{no, two, tests, at_forms}
use Rattle.sail_meaning.specs.World as Source
use Rattle.sail_meaning.specs.World.{Bindings}
use Rattle.sail_meaning.specs.Patterns as Written
use Rattle.shape_rules.specs.declared.locals.Local.{Local}
use Rattle.shape_rules.specs.Scopes.{Setting}
use Rattle.shape_rules.specs.Patterns.{LookedAll, Widths, Piece, pattern, each_looked, group_look, cons_look, shape_faults}
use Rattle.shape_rules.specs.Patterns.{vector_item, list_item}
use Rattle.shape_rules.specs.Targets.{is_open_form}
use Rattle.shape_meanings.specs.Whole.{Choice}
use Rattle.shape_meanings.specs.Keeping.{Fits, FitAll, Suits, Good, reach_of, Keeps, Agree}
use Rattle.shape_meanings.specs.Worlds.{Describes}
use Rattle.shape_meanings.specs.Matching.{with_widths, LooksRight, PieceIs, PiecesAre}
use Rattle.shape_meanings.proofs.Values.{opened_at, out_put}
use Rattle.shape_meanings.proofs.Settling.{both_empty, form_has}
use Rattle.shape_meanings.proofs.Matching.{form_given}
use Rattle.shape_meanings.proofs.Groups.{AllFit}
use Rattle.shape_meanings.proofs.Suffixes.{open_fits}
use Rattle.shape_meanings.proofs.Vectors.{reversed_fit}
use Rattle.shape_meanings.proofs.Opening.{same_count, turned, pieces_count, replicated, mapped_count, patterns_count, opens_means, opened_agree}
use Rattle.shape_meanings.proofs.Opening.{joined_is}

-- ---- items of one shape

same_items : (x : Value) (vs : List Value) → items plainly x vs ≡ vs
same_items x [] = refl
same_items x (v ∷ vs) = ap (λ us. v ∷ us) (same_items x vs)

pub all_fit : (types : Types) (c : Choice) (s : Shape) (vs : List Value) (n : ℕ) → length vs ≡ n → AllFit types c s vs → FitAll types c (replicate n s) vs
all_fit types c s [] zero many h = refl
all_fit types c s [] (suc n) many h = absurd (zero_not n many)
  where
    zero_not : (n : ℕ) → zero ≡ suc n → ⊥
    zero_not n h = grind (arith, h)
all_fit types c s (v ∷ vs) zero many h = absurd (not_zero (length vs) many)
  where
    not_zero : (n : ℕ) → suc n ≡ zero → ⊥
    not_zero n h = grind (arith, h)
all_fit types c s (v ∷ vs) (suc n) many h =
    let k = and_parts (fits types v (put c s)) (list_all (λ (f : Asked). f (put c s)) (map (fits types) vs)) h in
    two (fits types v (put c s)) (each_fits (map (fits types) vs) (map (put c) (replicate n s))) k.0 (all_fit types c s vs n (one_less (length vs) n many) k.1)
  where
    one_less : (n k : ℕ) → suc n ≡ suc k → n ≡ k
    one_less n k h = grind (arith, h)

-- what the core's patterns are, over whatever shape comes to each
abbrev matchers : Core.World Value → List Piece → Setting → Widths → Shape → List (Steps.Matcher Value)
matchers wc ps setting widths s = map (Steps.matcher plainly wc) (each_looked ps setting widths (replicate (length ps) s)).patterns

matchers_count : (wc : Core.World Value) (ps : List Piece) (setting : Setting) (widths : Widths) (s : Shape)
    → length (matchers wc ps setting widths s) ≡ length ps
matchers_count wc ps setting widths s =
    mapped_count (Steps.matcher plainly wc) (each_looked ps setting widths (replicate (length ps) s)).patterns
    ∙ patterns_count ps setting widths (replicate (length ps) s)

abbrev Binds : Setting → Choice → List Piece → Widths → Shape → List (R.Local Value) → Type 0
Binds setting c ps widths s = Suits setting.types c (each_looked ps setting widths (replicate (length ps) s)).binds

as_many : (setting : Setting) (widths : Widths) (ps : List Piece) (ms : List Written.Matcher) (s : Shape) (vs : List Value)
    → PiecesAre setting widths ps ms → (each_looked ps setting widths (replicate (length ps) s)).faults ≡ []
    → (registers : List Shape) (c : Choice) (wc : Core.World Value) (ws : Source.World) → Describes setting registers wc ws → (slots : List Local)
    → AllFit setting.types c s vs → (now : Now Value) → Good (reach_of setting registers c slots) now
    → nat_eq (length vs) (length (matchers wc ps setting widths s)) ≡ true
    → Agree (reach_of setting registers c slots) (Binds setting c ps widths s)
    (goes_on (as_run (so_many (length (matchers wc ps setting widths s)) (Parts vs)) now) (Steps.parts_match (matchers wc ps setting widths s)))
    (Written.parts_match ms (with_widths widths ws) vs now)
as_many setting widths ps ms s vs are e registers c wc ws d slots h now good many =
    opened_agree setting widths ps ms (replicate (length ps) s) vs (length (matchers wc ps setting widths s)) are (sym (replicated (length ps) s)) e
    registers c wc ws d slots
    (all_fit setting.types c s vs (length ps) (same_count (length vs) (length (matchers wc ps setting widths s)) many
    ∙ matchers_count wc ps setting widths s) h)
    now good refl

-- patterns of the source, compared in number with values
source_count : (setting : Setting) (widths : Widths) (ps : List Piece) (ms : List Written.Matcher) (s : Shape) (wc : Core.World Value) (vs : List Value)
    (b : Bool)
    → PiecesAre setting widths ps ms → nat_eq (length vs) (length (matchers wc ps setting widths s)) ≡ b → nat_eq (length ms) (length vs) ≡ b
source_count setting widths ps ms s wc vs b are h =
    ap (λ n. nat_eq n (length vs)) (pieces_count setting widths ps ms are ∙ sym (matchers_count wc ps setting widths s))
    ∙ turned (length (matchers wc ps setting widths s)) (length vs) ∙ h

-- ---- vectors

vector_items : (setting : Setting) (widths : Widths) (ps : List Piece) (ms : List Written.Matcher) (s : Shape) (vs : List Value)
    → PiecesAre setting widths ps ms → (each_looked ps setting widths (replicate (length ps) s)).faults ≡ []
    → (registers : List Shape) (c : Choice) (wc : Core.World Value) (ws : Source.World) → Describes setting registers wc ws → (slots : List Local)
    → AllFit setting.types c s vs → (now : Now Value) → Good (reach_of setting registers c slots) now
    → (b : Bool) → nat_eq (length vs) (length (matchers wc ps setting widths s)) ≡ b
    → Agree (reach_of setting registers c slots) (Binds setting c ps widths s)
    (goes_on (as_run (so_many (length (matchers wc ps setting widths s)) (Parts vs)) now) (Steps.parts_match (matchers wc ps setting widths s)))
    (Written.all_match ms (with_widths widths ws) vs now)
vector_items setting widths ps ms s vs are e registers c wc ws d slots h now good true many =
    let source = ap (λ b. (if b then Written.parts_match ms (with_widths widths ws) vs else stuck) now)
    (source_count setting widths ps ms s wc vs true are many) in
    let r = as_many setting widths ps ms s vs are e registers c wc ws d slots h now good many in
    (r.0 ∙ sym source, subst (Keeps (reach_of setting registers c slots) (Binds setting c ps widths s)) (sym source) r.1)
vector_items setting widths ps ms s vs are e registers c wc ws d slots h now good false many =
    let source = ap (λ b. (if b then Written.parts_match ms (with_widths widths ws) vs else stuck) now)
    (source_count setting widths ps ms s wc vs false are many) in (
      ap (λ b. goes_on (as_run (if b then Parts vs else Wrong) now) (Steps.parts_match (matchers wc ps setting widths s))) many ∙ sym source,
      subst (Keeps (reach_of setting registers c slots) (Binds setting c ps widths s)) (sym source) tt,
    )

-- a shape that is joined with a vector's or a list's, and that has a value, is one
abbrev IsVector : Shape → Type 0
IsVector s = (t : Shape) × (out-Shape s ≡ S.Vector t)

vector_step : (types : Types) (c : Choice) (subject t : Shape) (v : Value) (y z : Shape-F Shape) → out-Shape subject ≡ y → out-Shape t ≡ z
    → fill_form (tests (S.Vector V.Never)) z ≡ true → fill_form (tests y) z ≡ true → (is_open_form y ≡ true → ⊥) → IsVector subject
vector_step types c subject t v (S.Vector s) (S.Vector x) is isz h k hollow = (s, is)
vector_step types c subject t v S.Hole (S.Vector x) is isz h k hollow = absurd (hollow refl)
vector_step types c subject t v S.Never (S.Vector x) is isz h k hollow = absurd (hollow refl)
vector_step types c subject t v y (S.Vector x) is isz h k hollow = no k
vector_step types c subject t v y z is isz h k hollow = no h

is_vector : (types : Types) (c : Choice) (place : Place) (subject : Shape) (v : Value) → shape_faults place subject (V.Vector V.Never) ≡ []
    → Fits types c subject v → IsVector subject
is_vector types c place subject v e fit =
    let j = joined_is place subject (V.Vector V.Never) (join (V.Vector V.Never) subject) refl e in
    vector_step types c subject j.0 v (out-Shape subject) (out-Shape j.0) refl refl
    (ap (λ y. fill_form (tests y) (out-Shape j.0)) (sym (out-roll-Shape (S.Vector V.Never)) ∙ ap out-Shape (V.rolls-Vector V.Never))
    ∙ sym (at_forms (V.Vector V.Never) j.0) ∙ j.2)
    (sym (at_forms subject j.0) ∙ j.3) (λ hollow. open_fits types c subject v hollow fit)

form_vector : (types : Types) (x : Value-F Value) (s : Shape) → form_fits types (map-Value Value Asked (fits types) x) (S.Vector s) ≡ true
    → (vs : List Value) × (x ≡ W.Vector vs) × (list_all (λ (f : Asked). f s) (map (fits types) vs) ≡ true)
form_vector types (W.Vector vs) s h = (vs, refl, h)
form_vector types x s h = no h

pub vector_pattern_right : (setting : Setting) (widths : Widths) (subject : Shape) (place : Place) (ps : List Piece) (ms : List Written.Matcher)
    → PiecesAre setting widths ps ms → (group_look place B.Vector ps setting widths subject).faults ≡ []
    → LooksRight setting widths subject (group_look place B.Vector ps setting widths subject) (λ w v. Written.group_matches B.Vector ms w (out-Value v))
vector_pattern_right setting widths subject place ps ms are e = record {
  runs = λ registers c wc ws d slots v fit now good.
      let h = both_empty (shape_faults place subject (V.Vector V.Never)) _ e in
      let t = is_vector setting.types c place subject v h.0 fit in
      let item : vector_item (out-Shape subject) ≡ t.0 = ap vector_item t.1 in
      let f = form_vector setting.types (out-Value v) (put c t.0)
      (form_given setting.types c subject (S.Vector (put c t.0)) v (out_put c subject ∙ ap (opened_at c) t.1) fit) in
      subst (λ s. Agree (reach_of setting registers c slots) (Binds setting c ps widths s)
      (Steps.matcher plainly wc (pattern place (F.Opens H.Vector) (each_looked ps setting widths (replicate (length ps) s)).patterns) v now)
      (Written.group_matches B.Vector ms (with_widths widths ws) (out-Value v) now)) (sym item)
      (let k : ℕ = length (matchers wc ps setting widths t.0) in
      let next : List Value → Run Value Bindings = Steps.parts_match (matchers wc ps setting widths t.0) in
      let r = vector_items setting widths ps ms t.0 (reverse f.0) are
      (subst (λ s. (each_looked ps setting widths (replicate (length ps) s)).faults ≡ []) item h.1) registers c wc ws d slots
      (reversed_fit setting.types c t.0 f.0 f.2) now good (nat_eq (length (reverse f.0)) k) refl in
      let source : Written.group_matches B.Vector ms (with_widths widths ws) (out-Value v) now ≡ Written.all_match ms (with_widths widths ws)
      (reverse f.0) now =
      ap (λ x. Written.group_matches B.Vector ms (with_widths widths ws) x now) f.1 in (
        opens_means wc place H.Vector (each_looked ps setting widths (replicate (length ps) t.0)).patterns v now
            ∙ ap (λ x. goes_on (as_run (so_many k (Steps.opened plainly wc.numbers H.Vector k v x)) now) next) f.1
            ∙ ap (λ us. goes_on (as_run (so_many k (Parts us)) now) next) (same_items v (reverse f.0)) ∙ r.0 ∙ sym source,
        subst (Keeps (reach_of setting registers c slots) (Binds setting c ps widths t.0)) (sym source) r.1,
      ));
}

-- ---- lists

list_items : (setting : Setting) (widths : Widths) (ps : List Piece) (ms : List Written.Matcher) (s : Shape) (vs : List Value)
    → PiecesAre setting widths ps ms → (each_looked ps setting widths (replicate (length ps) s)).faults ≡ []
    → (registers : List Shape) (c : Choice) (wc : Core.World Value) (ws : Source.World) → Describes setting registers wc ws → (slots : List Local)
    → AllFit setting.types c s vs → (now : Now Value) → Good (reach_of setting registers c slots) now
    → (b : Bool) → nat_eq (length vs) (length (matchers wc ps setting widths s)) ≡ b
    → Agree (reach_of setting registers c slots) (Binds setting c ps widths s)
    (goes_on (as_run (so_many (length (matchers wc ps setting widths s)) (parts_if b vs)) now) (Steps.parts_match (matchers wc ps setting widths s)))
    ((if nat_eq (length ms) (length vs) then Written.parts_match ms (with_widths widths ws) vs else falls) now)
list_items setting widths ps ms s vs are e registers c wc ws d slots h now good true many =
    let source = ap (λ b. (if b then Written.parts_match ms (with_widths widths ws) vs else falls) now)
    (source_count setting widths ps ms s wc vs true are many) in
    let r = as_many setting widths ps ms s vs are e registers c wc ws d slots h now good many in
    (r.0 ∙ sym source, subst (Keeps (reach_of setting registers c slots) (Binds setting c ps widths s)) (sym source) r.1)
list_items setting widths ps ms s vs are e registers c wc ws d slots h now good false many =
    let source = ap (λ b. (if b then Written.parts_match ms (with_widths widths ws) vs else falls) now)
    (source_count setting widths ps ms s wc vs false are many) in
    (sym source, subst (Keeps (reach_of setting registers c slots) (Binds setting c ps widths s)) (sym source) good)

abbrev IsList : Shape → Type 0
IsList s = (t : Shape) × (out-Shape s ≡ S.List t)

list_step : (types : Types) (c : Choice) (subject t : Shape) (v : Value) (y z : Shape-F Shape) → out-Shape subject ≡ y → out-Shape t ≡ z
    → fill_form (tests (S.List V.Never)) z ≡ true → fill_form (tests y) z ≡ true → (is_open_form y ≡ true → ⊥) → IsList subject
list_step types c subject t v (S.List s) (S.List x) is isz h k hollow = (s, is)
list_step types c subject t v S.Hole (S.List x) is isz h k hollow = absurd (hollow refl)
list_step types c subject t v S.Never (S.List x) is isz h k hollow = absurd (hollow refl)
list_step types c subject t v y (S.List x) is isz h k hollow = no k
list_step types c subject t v y z is isz h k hollow = no h

is_list : (types : Types) (c : Choice) (place : Place) (subject : Shape) (v : Value) → shape_faults place subject (V.List V.Never) ≡ []
    → Fits types c subject v → IsList subject
is_list types c place subject v e fit =
    let j = joined_is place subject (V.List V.Never) (join (V.List V.Never) subject) refl e in
    list_step types c subject j.0 v (out-Shape subject) (out-Shape j.0) refl refl
    (ap (λ y. fill_form (tests y) (out-Shape j.0)) (sym (out-roll-Shape (S.List V.Never)) ∙ ap out-Shape (V.rolls-List V.Never))
    ∙ sym (at_forms (V.List V.Never) j.0) ∙ j.2)
    (sym (at_forms subject j.0) ∙ j.3) (λ hollow. open_fits types c subject v hollow fit)

pub form_list : (types : Types) (x : Value-F Value) (s : Shape) → form_fits types (map-Value Value Asked (fits types) x) (S.List s) ≡ true
    → (vs : List Value) × (x ≡ W.List vs) × (list_all (λ (f : Asked). f s) (map (fits types) vs) ≡ true)
form_list types (W.List vs) s h = (vs, refl, h)
form_list types x s h = no h

pub list_pattern_right : (setting : Setting) (widths : Widths) (subject : Shape) (place : Place) (ps : List Piece) (ms : List Written.Matcher)
    → PiecesAre setting widths ps ms → (group_look place B.List ps setting widths subject).faults ≡ []
    → LooksRight setting widths subject (group_look place B.List ps setting widths subject) (λ w v. Written.group_matches B.List ms w (out-Value v))
list_pattern_right setting widths subject place ps ms are e = record {
  runs = λ registers c wc ws d slots v fit now good.
      let h = both_empty (shape_faults place subject (V.List V.Never)) _ e in
      let t = is_list setting.types c place subject v h.0 fit in
      let item : list_item (out-Shape subject) ≡ t.0 = ap list_item t.1 in
      let f = form_list setting.types (out-Value v) (put c t.0)
      (form_given setting.types c subject (S.List (put c t.0)) v (out_put c subject ∙ ap (opened_at c) t.1) fit) in
      subst (λ s. Agree (reach_of setting registers c slots) (Binds setting c ps widths s)
      (Steps.matcher plainly wc (pattern place (F.Opens H.List) (each_looked ps setting widths (replicate (length ps) s)).patterns) v now)
      (Written.group_matches B.List ms (with_widths widths ws) (out-Value v) now)) (sym item)
      (let k : ℕ = length (matchers wc ps setting widths t.0) in
      let next : List Value → Run Value Bindings = Steps.parts_match (matchers wc ps setting widths t.0) in
      let r = list_items setting widths ps ms t.0 f.0 are
      (subst (λ s. (each_looked ps setting widths (replicate (length ps) s)).faults ≡ []) item h.1) registers c wc ws d slots
      f.2 now good (nat_eq (length f.0) k) refl in
      let source : Written.group_matches B.List ms (with_widths widths ws) (out-Value v) now
      ≡ (if nat_eq (length ms) (length f.0) then Written.parts_match ms (with_widths widths ws) f.0 else falls) now =
      ap (λ x. Written.group_matches B.List ms (with_widths widths ws) x now) f.1 in (
        opens_means wc place H.List (each_looked ps setting widths (replicate (length ps) t.0)).patterns v now
            ∙ ap (λ x. goes_on (as_run (so_many k (Steps.opened plainly wc.numbers H.List k v x)) now) next) f.1
            ∙ ap (λ us. goes_on (as_run (so_many k (parts_if (nat_eq (length f.0) k) us)) now) next) (same_items v f.0) ∙ r.0 ∙ sym source,
        subst (Keeps (reach_of setting registers c slots) (Binds setting c ps widths t.0)) (sym source) r.1,
      ));
}

-- ---- `p :: q`

-- the first item and the others
cons_agrees : (setting : Setting) (widths : Widths) (p q : Piece) (m n : Written.Matcher) (s : Shape) (vs : List Value)
    → PiecesAre setting widths (p ∷ q ∷ []) (m ∷ n ∷ []) → (each_looked (p ∷ q ∷ []) setting widths (s ∷ V.List s ∷ [])).faults ≡ []
    → (registers : List Shape) (c : Choice) (wc : Core.World Value) (ws : Source.World) → Describes setting registers wc ws → (slots : List Local)
    → (whole : Value) → AllFit setting.types c s vs → (now : Now Value) → Good (reach_of setting registers c slots) now
    → Agree (reach_of setting registers c slots) (Suits setting.types c (each_looked (p ∷ q ∷ []) setting widths (s ∷ V.List s ∷ [])).binds)
    (goes_on (as_run (so_many 2 (Steps.split plainly whole vs)) now)
    (Steps.parts_match (map (Steps.matcher plainly wc) (each_looked (p ∷ q ∷ []) setting widths (s ∷ V.List s ∷ [])).patterns)))
    (Written.cons_matches m n (with_widths widths ws) (W.List vs) now)
cons_agrees setting widths p q m n s [] are e registers c wc ws d slots whole h now good = (refl, good)
cons_agrees setting widths p q m n s (v ∷ vs) are e registers c wc ws d slots whole h now good =
    let k = and_parts (fits setting.types v (put c s)) (list_all (λ (f : Asked). f (put c s)) (map (fits setting.types) vs)) h in
    let rest = form_has setting.types c (W.List vs) (S.List s) (Val.List vs) (V.List s) (Val.rolls-List vs) (V.rolls-List s) k.1 in
    opened_agree setting widths (p ∷ q ∷ []) (m ∷ n ∷ []) (s ∷ V.List s ∷ []) (v ∷ Val.List vs ∷ []) 2 are refl e registers c wc ws d slots
    (two (fits setting.types v (put c s)) (each_fits (map (fits setting.types) (Val.List vs ∷ [])) (map (put c) (V.List s ∷ []))) k.0
    (two (fits setting.types (Val.List vs) (put c (V.List s))) true rest refl)) now good refl

pub cons_pattern_right : (setting : Setting) (widths : Widths) (subject : Shape) (place : Place) (p q : Piece) (m n : Written.Matcher)
    → PieceIs setting widths p (λ w v. m.matches w v) → PieceIs setting widths q (λ w v. n.matches w v)
    → (cons_look place p q setting widths subject).faults ≡ []
    → LooksRight setting widths subject (cons_look place p q setting widths subject) (λ w v. Written.cons_matches m n w (out-Value v))
cons_pattern_right setting widths subject place p q m n rp rq e = record {
  runs = λ registers c wc ws d slots v fit now good.
      let h = both_empty (shape_faults place subject (V.List V.Never)) _ e in
      let t = is_list setting.types c place subject v h.0 fit in
      let item : list_item (out-Shape subject) ≡ t.0 = ap list_item t.1 in
      let f = form_list setting.types (out-Value v) (put c t.0)
      (form_given setting.types c subject (S.List (put c t.0)) v (out_put c subject ∙ ap (opened_at c) t.1) fit) in
      subst (λ s. Agree (reach_of setting registers c slots)
      (Suits setting.types c (each_looked (p ∷ q ∷ []) setting widths (s ∷ V.List s ∷ [])).binds)
      (Steps.matcher plainly wc (pattern place (F.Opens H.Cons) (each_looked (p ∷ q ∷ []) setting widths (s ∷ V.List s ∷ [])).patterns) v now)
      (Written.cons_matches m n (with_widths widths ws) (out-Value v) now)) (sym item)
      (let looks : LookedAll = each_looked (p ∷ q ∷ []) setting widths (t.0 ∷ V.List t.0 ∷ []) in
      let next : List Value → Run Value Bindings = Steps.parts_match (map (Steps.matcher plainly wc) looks.patterns) in
      let r = cons_agrees setting widths p q m n t.0 f.0 (rp, (rq, tt))
      (subst (λ s. (each_looked (p ∷ q ∷ []) setting widths (s ∷ V.List s ∷ [])).faults ≡ []) item h.1) registers c wc ws d slots v f.2 now good in
      let source : Written.cons_matches m n (with_widths widths ws) (out-Value v) now ≡ Written.cons_matches m n (with_widths widths ws) (W.List f.0) now =
      ap (λ x. Written.cons_matches m n (with_widths widths ws) x now) f.1 in (
        opens_means wc place H.Cons looks.patterns v now
            ∙ ap (λ x. goes_on (as_run (so_many 2 (Steps.opened plainly wc.numbers H.Cons 2 v x)) now) next) f.1 ∙ r.0 ∙ sym source,
        subst (Keeps (reach_of setting registers c slots) (Suits setting.types c looks.binds)) (sym source) r.1,
      ));
}
