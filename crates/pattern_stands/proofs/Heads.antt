-- Patterns with a head: `C(p, q)` and `m(p)`.
use Rattle.std.proofs.Common.{◌≡◌, inl, inr, ℕ, suc, ◌*◌, List, [], ◌∷◌, map, length, ap, sym, ◌∙◌, refl, subst}
use Rattle.std.proofs.Common.{Bool, true, false, Option, Some, None, is_some, nat_eq, nat_le, arith, if◌then◌else◌}
use Rattle.sail_base.specs.declared.place.Place.{Place}
use Rattle.sail_syntax.specs.declared.name.Name.{Name}
use Rattle.sail_types.specs.Shapes.{at, put, shape, shares}
use Rattle.sail_types.specs.declared.shapes.Shape.{Shape, out-Shape}
use Rattle.sail_types.specs.declared.shapes.Shape.TheOpen as S
use Rattle.sail_types.specs.declared.shapes.Shape.TheVariants as V
use Rattle.sail_types.specs.declared.shapes.Shape.TheViews.{out-roll-Shape}
use Rattle.sail_types.specs.declared.types.Typ.{Typ, Typ-F, out-Typ}
use Rattle.sail_types.specs.declared.types.Typ.TheOpen as T
use Rattle.sail_types.specs.declared.values.Value.{Value}
use Rattle.sail_core.specs.declared.patterns.Form.TheVariants as F
use Rattle.sail_core.specs.declared.patterns.Head.TheVariants as H
use Rattle.sail_core.specs.declared.tree.Callee.TheVariants as C
use Rattle.sail_core.specs.Making.{World}
use Rattle.shape_joins.specs.Filling.{fills}
use Rattle.shape_joins.specs.Joins.{join}
use Rattle.shape_joins.specs.Learning.{learn}
use Rattle.shape_joins.proofs.JoinsLeast.{joins_are_above}
use Rattle.shape_joins.proofs.Order.{no}
use Rattle.sail_names.specs.declared.names.Global.{Global}
use Rattle.sail_names.specs.declared.names.Global.TheVariants as G
use Rattle.sail_names.specs.Known.{is_global_construction}
use Rattle.shape_rules.specs.declared.callees.Candidate.{Candidate}
use Rattle.shape_rules.specs.declared.callees.Doing.TheVariants as D
use Rattle.shape_rules.specs.declared.callees.Mapping.{Mapping}
use Rattle.shape_rules.specs.declared.callees.Meant.{Meant}
use Rattle.shape_rules.specs.declared.error.ShapeError.TheVariants as error
use Rattle.shape_rules.specs.declared.locals.Local.{Local}
use Rattle.shape_rules.specs.Calls.{parameters_form, takes_unit}
use Rattle.shape_rules.specs.Patterns.{Looked, Piece, Which, Widths, as_one, backwards, callee_head, callee_look, construct_look, constructor_look}
use Rattle.shape_rules.specs.Patterns.{constructor_parts, direction_look, direction_of, each_looked, either, first_param, forwards, known_or_nevers}
use Rattle.shape_rules.specs.Patterns.{mapping_look_as, neither, nevers, opened, pattern, pieces_for, shape_faults, unit_piece, which_side}
use Rattle.shape_meanings.specs.Keeping.{Fits, reach_of}
use Rattle.shape_meanings.specs.Naming.{MeantAs}
use Rattle.shape_meanings.specs.Whole.{Choice, closed}
use Rattle.shape_meanings.specs.Worlds.{IsConstructor, is_payload_form}
use Rattle.shape_meanings.proofs.Constructing.{shape_of_tuple, tuple_puts}
use Rattle.shape_meanings.proofs.Mappings.{SideIs, side_facts}
use Rattle.shape_meanings.proofs.Opening.{mapped_count, same_count}
use Rattle.shape_meanings.proofs.Orders.{exact}
use Rattle.shape_meanings.proofs.PatternsSound.{constructor_doing, conversion_doing}
use Rattle.shape_progress.specs.PatternRules.{IsUnion, PatternBinds, PayloadOpens}
use Rattle.shape_stands.specs.Inside.{GoesTo, HeadDoes, Inside, MappingHead, MeantHead, Position}
use Rattle.shape_stands.specs.Stands.{LooksShaped, PiecesStand}
use Rattle.shape_stands.proofs.Standing.{both_empty}
use Rattle.pattern_stands.proofs.Binding.{form_binds, opens}
use Rattle.pattern_stands.proofs.Forms.{as_one_stands, unit_stands}
use Rattle.pattern_stands.proofs.Seen.{comes_as, out_of, union_seen}

no_faults : {A : Type 0} {x : A} {xs : List A} → (x ∷ xs) ≡ [] → ⊥
no_faults e = cc

-- ---- constructors

-- `C()` holds `()`, where that is what it takes
pieces_stand : (here : Position) (widths : Widths) (place : Place) (params : List Shape) (ps : List Piece) → PiecesStand here widths ps
    → PiecesStand here widths (pieces_for place params ps)
pieces_stand here widths place params [] stand = by_unit (takes_unit params)
  where
    by_unit : (b : Bool) → PiecesStand here widths (if b then unit_piece place ∷ [] else [])
    by_unit true = ((λ subject e. unit_stands here widths subject place e), tt)
    by_unit false = tt
pieces_stand here widths place params (p ∷ ps) stand = stand

-- a payload is what one parameter takes, or the parts of a tuple are what several do
pub payload_opens : (e : ℕ → Shape) (t : Typ) (form : Typ-F Typ) → out-Typ t ≡ form → is_payload_form form ≡ true
    → PayloadOpens (put e (shape t)) (map (put e) (map shape (parameters_form t form)))
payload_opens e t (T.Tuple []) is several = no several
payload_opens e t (T.Tuple (a ∷ [])) is several = no several
payload_opens e t (T.Tuple (a ∷ b ∷ ts)) is several =
    let all : List Shape = map (put e) (map shape (a ∷ b ∷ ts)) in
    inr (
      ap out-Shape (ap (put e) (shape_of_tuple t (a ∷ b ∷ ts) is) ∙ tuple_puts e (map shape (a ∷ b ∷ ts)) ∙ sym (V.rolls-Tuple all))
          ∙ out-roll-Shape (S.Tuple all),
      two_or_more (length (map (put e) (map shape ts))),
    )
  where
    two_or_more : (n : ℕ) → nat_le 2 (suc (suc n)) ≡ true
    two_or_more n = grind arith
payload_opens e t form is several = inl refl

constructor_stands : (here : Position) (widths : Widths) (subject : Shape) (name : Name) (f : Candidate) (u k : ℕ) (ps : List Piece)
    → ((registers : List Shape) (c : Choice) (w : World Value) → Inside here registers c w
    → IsConstructor here.setting.types f u k × IsUnion here.setting.types u)
    → PiecesStand here widths ps
    → (constructor_look name (H.Constructor u k) f (pieces_for name.place f.params ps) here.setting widths subject).faults ≡ []
    → LooksShaped here widths subject (constructor_look name (H.Constructor u k) f (pieces_for name.place f.params ps) here.setting widths subject)
constructor_stands here widths subject name f u k ps there stand e = by_count (nat_eq (length f.params) (length pieces)) refl e
  where
    pieces : List Piece
    pieces = pieces_for name.place f.params ps

    known : Option (List Shape)
    known = learn f.answer subject (nevers f.variables)

    ks : List Shape
    ks = known_or_nevers f.variables known

    by_count : (b : Bool) → nat_eq (length f.params) (length pieces) ≡ b
        → (if b then constructor_parts name (H.Constructor u k) f pieces known here.setting widths subject
        else opened name.place (H.Constructor u k) (error.Arity name.place (length f.params) (length pieces) ∷ [])
        (each_looked pieces here.setting widths [])).faults ≡ []
        → LooksShaped here widths subject (if b then constructor_parts name (H.Constructor u k) f pieces known here.setting widths subject
        else opened name.place (H.Constructor u k) (error.Arity name.place (length f.params) (length pieces) ∷ [])
        (each_looked pieces here.setting widths []))
    by_count false is e = absurd (no_faults e)
    by_count true is e =
        let own : Shape = put (at (nevers f.variables)) f.answer in
        let q = both_empty (shape_faults name.place subject own) _ e in
        opens here widths subject (V.Named u ks) name.place (H.Constructor u k) (shape_faults name.place subject own) pieces (map (put (at ks)) f.params)
        (pieces_stand here widths name.place f.params ps stand)
        (sym (mapped_count (put (at ks)) f.params ∙ same_count (length f.params) (length pieces) is)) q.1
        (λ registers c w inside given.
        let made = there registers c w inside in (
          union_seen name.place subject f.answer u f.variables made.0.answer q.0,
          (
            made.1,
            (
              ks,
              made.0.typ,
              out_of (S.Named u ks) (V.Named u ks) (V.rolls-Named u ks),
              made.0.there,
              subst (λ ss. PayloadOpens (put (at ks) (shape made.0.typ)) (map (put (at ks)) ss)) (sym made.0.params)
                  (payload_opens (at ks) made.0.typ (out-Typ made.0.typ) refl made.0.several),
            ),
          ),
        ))

-- ---- directions of mappings

-- by a direction, and then what it gives is matched
maps_binds : (here : Position) (subject t answer : Shape) (place : Place) (d : ℕ) (part : Looked) (registers : List Shape) (c : Choice) (w : World Value)
    (slots : List Local)
    → fills subject t ≡ true → ((v : Value) → Fits here.setting.types c t v → GoesTo here registers c w c answer (w.way d v))
    → (n : ℕ) × PatternBinds n (reach_of here.setting registers c slots) w answer part.binds part.pattern
    → (n : ℕ) × PatternBinds n (reach_of here.setting registers c slots) w subject part.binds (pattern place (F.Maps d) (part.pattern ∷ []))
maps_binds here subject t answer place d part registers c w slots above goes inner = (
  suc inner.0,
  form_binds inner.0 (reach_of here.setting registers c slots) w subject t part.binds place (F.Maps d) (part.pattern ∷ []) above
      (answer, (λ v fit. goes v fit slots), inner.1),
)

direction_stands : (here : Position) (widths : Widths) (subject : Shape) (name : Name) (d : ℕ) (f : Candidate) (ps : List Piece)
    → ((registers : List Shape) (c : Choice) (w : World Value) → Inside here registers c w → HeadDoes here registers c w f (D.Calls (C.Converts d)))
    → PiecesStand here widths ps → (direction_look name d f ps here.setting widths subject).faults ≡ []
    → LooksShaped here widths subject (direction_look name d f ps here.setting widths subject)
direction_stands here widths subject name d f ps there stand e registers c w inside given slots =
    let q = both_empty (shape_faults name.place subject (first_param f.params)) _ e in
    let does = there registers c w inside in
    let part : Looked = as_one name.place ps here.setting widths f.answer in
    maps_binds here subject does.0 f.answer name.place d part registers c w slots
    (comes_as name.place subject does.0 0 does.2 (subst (λ ss. shape_faults name.place subject (first_param ss) ≡ []) does.1 q.0)) does.4
    (as_one_stands here widths f.answer name.place ps stand q.1 registers c w inside given slots)

-- what comes is the side of a mapping that it joins
side_filled : (own subject : Shape) → closed own ≡ true → is_some (join own subject) ≡ true → fills subject own ≡ true
side_filled own subject whole h = by_join (join own subject) refl h
  where
    by_join : (o : Option Shape) → join own subject ≡ o → is_some o ≡ true → fills subject own ≡ true
    by_join None is h = no h
    by_join (Some t) is h =
        let above = joins_are_above own subject t is in
        subst (λ s. fills subject s ≡ true) (exact own t 0 above.0 whole) above.1

mapping_stands : (here : Position) (widths : Widths) (subject : Shape) (name : Name) (m : Mapping) (ps : List Piece)
    → ((registers : List Shape) (c : Choice) (w : World Value) → Inside here registers c w → MappingHead here registers c w m)
    → PiecesStand here widths ps → (mapping_look_as name.place m ps (which_side m subject) here.setting widths subject).faults ≡ []
    → LooksShaped here widths subject (mapping_look_as name.place m ps (which_side m subject) here.setting widths subject)
mapping_stands here widths subject name m ps there stand e =
    by_side (which_side m subject)
    (side_facts (shares (shape m.left) (shape m.right)) (is_some (join (shape m.left) subject)) (is_some (join (shape m.right) subject))) e
  where
    by_side : (side : Which)
        → SideIs (shares (shape m.left) (shape m.right)) (is_some (join (shape m.left) subject)) (is_some (join (shape m.right) subject)) side
        → (mapping_look_as name.place m ps side here.setting widths subject).faults ≡ []
        → LooksShaped here widths subject (mapping_look_as name.place m ps side here.setting widths subject)
    by_side forwards facts e = λ registers c w inside given slots.
        let head = there registers c w inside in
        maps_binds here subject (shape m.left) (shape m.right) name.place (2 * m.number) (as_one name.place ps here.setting widths (shape m.right)) registers c
        w slots (side_filled (shape m.left) subject head.left facts.1) head.ahead
        (as_one_stands here widths (shape m.right) name.place ps stand e registers c w inside given slots)
    by_side backwards facts e = λ registers c w inside given slots.
        let head = there registers c w inside in
        maps_binds here subject (shape m.right) (shape m.left) name.place (suc (2 * m.number)) (as_one name.place ps here.setting widths (shape m.left))
        registers c w slots (side_filled (shape m.right) subject head.right facts.1) head.back
        (as_one_stands here widths (shape m.left) name.place ps stand e registers c w inside given slots)
    by_side neither facts e = absurd (no_faults e)
    by_side either facts e = absurd (no_faults e)

-- ---- whatever the head is

abbrev ConstructStands : Position → Widths → Name → List Piece → Option Meant → Type 0
ConstructStands here widths name ps meant =
    (subject : Shape) → (construct_look name ps meant here.setting widths subject).faults ≡ []
    → LooksShaped here widths subject (construct_look name ps meant here.setting widths subject)

abbrev Headed : Position → Option Meant → Type 0
Headed here meant = (registers : List Shape) (c : Choice) (w : World Value) → Inside here registers c w → MeantHead here registers c w meant

pub construct_stands : (here : Position) (widths : Widths) (name : Name) (ps : List Piece) (o : Option Global) (meant : Option Meant)
    → MeantAs here.names o meant → is_global_construction here.names.allowed o ≡ true → Headed here meant → PiecesStand here widths ps
    → ConstructStands here widths name ps meant
construct_stands here widths name ps (Some G.Constructor) meant is h headed stand =
    let doing = constructor_doing is.0.doing is.2 in
    subst (ConstructStands here widths name ps) (sym is.1)
    (subst (λ x. (subject : Shape) → (callee_look name ps is.0 (direction_of x) (callee_head x) here.setting widths subject).faults ≡ []
    → LooksShaped here widths subject (callee_look name ps is.0 (direction_of x) (callee_head x) here.setting widths subject)) (sym doing.2)
    (λ subject e. constructor_stands here widths subject name is.0 doing.0 doing.1 ps
    (λ registers c w inside. subst (HeadDoes here registers c w is.0) doing.2
    (subst (MeantHead here registers c w) is.1 (headed registers c w inside))) stand e))
construct_stands here widths name ps (Some (G.Mapping n)) meant m h headed stand =
    let is = m h in
    subst (ConstructStands here widths name ps) (sym is.1)
    (λ subject e. mapping_stands here widths subject name is.0 ps
    (λ registers c w inside. subst (MeantHead here registers c w) is.1 (headed registers c w inside)) stand e)
construct_stands here widths name ps (Some (G.Direction n)) meant m h headed stand =
    let is = m h in
    let doing = conversion_doing is.0.doing is.2 in
    subst (ConstructStands here widths name ps) (sym is.1)
    (subst (λ x. (subject : Shape) → (callee_look name ps is.0 (direction_of x) (callee_head x) here.setting widths subject).faults ≡ []
    → LooksShaped here widths subject (callee_look name ps is.0 (direction_of x) (callee_head x) here.setting widths subject)) (sym doing.1)
    (λ subject e. direction_stands here widths subject name doing.0 is.0 ps
    (λ registers c w inside. subst (HeadDoes here registers c w is.0) doing.1
    (subst (MeantHead here registers c w) is.1 (headed registers c w inside))) stand e))
construct_stands here widths name ps o meant m h headed stand = no h
