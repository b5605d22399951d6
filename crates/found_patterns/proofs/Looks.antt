-- Forms of patterns: what is found of each passes the test, where what is found of its parts does.
use Rattle.std.proofs.Common.{◌≡◌, ℕ, suc, List, [], ◌∷◌, ◌++◌, map, length, replicate, ap, sym, ◌∙◌, refl, Bool, true, false, ◌&&◌}
use Rattle.std.proofs.Common.{Option, Some, None, nat_eq, if◌then◌else◌, ℤ}
use Rattle.std.proofs.lemmas.Bool.Decides.{Decides-eqb}
use Rattle.sail_base.specs.declared.place.Place.{Place}
use Rattle.sail_syntax.specs.declared.name.Literal.{Literal}
use Rattle.sail_syntax.specs.declared.name.Literal.TheVariants as N
use Rattle.sail_syntax.specs.declared.name.Name.{Name}
use Rattle.sail_syntax.specs.declared.types.TyExp.{TyExp}
use Rattle.sail_syntax.specs.declared.words.Brackets.{Brackets}
use Rattle.sail_syntax.specs.declared.words.Brackets.TheVariants as B
use Rattle.sail_types.specs.declared.numbers.Index.{Index}
use Rattle.sail_types.specs.declared.numbers.Num.{Num}
use Rattle.sail_types.specs.declared.shapes.Shape.{Shape}
use Rattle.sail_types.specs.declared.shapes.Shape.TheVariants as V
use Rattle.sail_types.specs.declared.table.Types.{Types}
use Rattle.sail_types.specs.Shapes.{at, put}
use Rattle.sail_core.specs.declared.patterns.Form.{Form}
use Rattle.sail_core.specs.declared.patterns.Form.TheVariants as F
use Rattle.sail_core.specs.declared.patterns.Head.{Head}
use Rattle.sail_core.specs.declared.patterns.Head.TheVariants as H
use Rattle.sail_core.specs.declared.patterns.Literal.{Literal as CoreLiteral}
use Rattle.sail_core.specs.declared.patterns.Literal.TheVariants as L
use Rattle.sail_core.specs.declared.patterns.Pattern.{Pattern, fold-roll-Pattern}
use Rattle.sail_core.specs.declared.tree.Callee.TheVariants as C
use Rattle.sail_core.specs.declared.written.Written.{Written}
use Rattle.sail_names.specs.Known as Tables
use Rattle.sail_names.specs.Known.{is_construction}
use Rattle.shape_joins.specs.Learning.{learn}
use Rattle.shape_joins.proofs.Order.{two}
use Rattle.shape_rules.specs.declared.callees.Candidate.{Candidate}
use Rattle.shape_rules.specs.declared.callees.Doing.{Doing}
use Rattle.shape_rules.specs.declared.callees.Doing.TheVariants as D
use Rattle.shape_rules.specs.declared.callees.Mapping.{Mapping}
use Rattle.shape_rules.specs.declared.callees.Meant.{Meant}
use Rattle.shape_rules.specs.declared.callees.Meant.TheVariants as M
use Rattle.shape_rules.specs.declared.error.ShapeError.{ShapeError}
use Rattle.shape_rules.specs.declared.error.ShapeError.TheVariants as error
use Rattle.shape_rules.specs.Calls.{takes_unit}
use Rattle.shape_rules.specs.Patterns.{Looked, LookedAll, Piece, Which, Widths, as_look, as_one, callee_head, callee_look, concat_look, cons_look}
use Rattle.shape_rules.specs.Patterns.{construct_look, constructor_look, constructor_parts, core_literal, direction_look, direction_of, each_looked}
use Rattle.shape_rules.specs.Patterns.{either, forwards, backwards, neither, group_look, is_found, known_or_nevers, mapping_look_as, name_look, opened}
use Rattle.shape_rules.specs.Patterns.{nevers, pattern, pieces_for, seen_as, shape_faults, typed_form, typed_look, unit_piece, which_side, width_faults}
use Rattle.shape_rules.specs.Scopes.{Setting}
use Rattle.shape_rules.specs.Written.{shape_in, written, written_faults}
use Rattle.shape_meanings.proofs.Opening.{mapped_count, same_count}
use Rattle.shape_stands.proofs.Standing.{both_empty}
use Rattle.pattern_laws.specs.Standing.{constructor_stands, each_stands, form_stands, head_stands, literal_stands, number_owns, stands, widths_stand}
use Rattle.found_patterns.specs.Meant.{NamesStand}

no_faults : {A : Type 0} {x : A} {xs : List A} → (x ∷ xs) ≡ [] → ⊥
no_faults e = cc

pub itself : (n : ℕ) → nat_eq n n ≡ true
itself n = (Decides-eqb n n).1 refl

module _ (types : Types) (numbers : List Index) where
  abbrev test : Pattern → Bool
  test = stands types numbers

  -- it passes, where nothing is wrong with it
  abbrev pub IsFine : Looked → Type 0
  IsFine l = l.faults ≡ [] → test l.pattern ≡ true

  abbrev pub PieceFine : Setting → Widths → Piece → Type 0
  PieceFine setting widths p = (subject : Shape) → IsFine (p.look setting widths subject)

  abbrev pub EachFine : Setting → Widths → List Piece → Type 0
  EachFine setting widths [] = Unit {0}
  EachFine setting widths (p ∷ ps) = PieceFine setting widths p × EachFine setting widths ps

  -- and so does its width as a part of `@`
  abbrev pub WidthFine : Setting → Widths → Piece → Type 0
  WidthFine setting widths p = (n : Num) → p.width setting widths ≡ Some n → number_owns numbers n ≡ true

  abbrev pub EachWidth : Setting → Widths → List Piece → Type 0
  EachWidth setting widths [] = Unit {0}
  EachWidth setting widths (p ∷ ps) = WidthFine setting widths p × EachWidth setting widths ps

  -- ---- a pattern by its form

  pub formed : (place : Place) (form : Form) (parts : List Pattern) → form_stands types numbers form (map test parts) ≡ true
      → test (pattern place form parts) ≡ true
  formed place form parts h =
      fold-roll-Pattern Bool (λ p. form_stands types numbers p.form p.parts) (record { place = place; form = form; parts = parts }) ∙ h

  is_fine : (place : Place) (own : Shape) (literal : CoreLiteral) (setting : Setting) (widths : Widths) (subject : Shape)
      → literal_stands types literal ≡ true → test (is_found place own literal setting widths subject).pattern ≡ true
  is_fine place own literal setting widths subject h = formed place (F.Opens (H.Is literal)) [] h

  pub unit_fine : (place : Place) (setting : Setting) (widths : Widths) (subject : Shape)
      → test (is_found place V.Unit L.Unit setting widths subject).pattern ≡ true
  unit_fine place setting widths subject = is_fine place V.Unit L.Unit setting widths subject refl

  pub number_fine : (place : Place) (z : ℤ) (setting : Setting) (widths : Widths) (subject : Shape)
      → test (is_found place V.Int (L.Integer z) setting widths subject).pattern ≡ true
  number_fine place z setting widths subject = is_fine place V.Int (L.Integer z) setting widths subject refl

  literal_in : (literal : Literal) → literal_stands types (core_literal literal) ≡ true
  literal_in (N.Number n) = refl
  literal_in (N.Bits bits) = refl
  literal_in (N.String text) = refl
  literal_in (N.Bool b) = refl
  literal_in (N.Bit b) = refl

  pub literal_fine : (place : Place) (own : Shape) (literal : Literal) (setting : Setting) (widths : Widths) (subject : Shape)
      → test (is_found place own (core_literal literal) setting widths subject).pattern ≡ true
  literal_fine place own literal setting widths subject = is_fine place own (core_literal literal) setting widths subject (literal_in literal)

  -- a bare identifier is a member, or binds
  pub name_fine : (name : Name) (meant : Option Meant) (setting : Setting) (names : Tables.Setting) (widths : Widths) (subject : Shape)
      → setting.value name.text ≡ meant → NamesStand types setting names → test (name_look name meant setting widths subject).pattern ≡ true
  name_fine name (Some (M.Member e k)) setting names widths subject is stand =
      is_fine name.place (V.Named e []) (L.Member e k) setting widths subject (stand.members name.text e k is)
  name_fine name meant setting names widths subject is stand = formed name.place (F.Binds name.text) [] refl

  -- ---- several parts

  pub each_fine : (ps : List Piece) (setting : Setting) (widths : Widths) (ss : List Shape) → EachFine setting widths ps
      → (each_looked ps setting widths ss).faults ≡ [] → each_stands (map test (each_looked ps setting widths ss).patterns) ≡ true
  each_fine [] setting widths ss fine e = refl
  each_fine (p ∷ ps) setting widths [] fine e =
      let first : Looked = p.look setting widths V.Never in
      let others : LookedAll = each_looked ps setting widths [] in
      let h = both_empty first.faults others.faults e in
      two (test first.pattern) (each_stands (map test others.patterns)) (fine.0 V.Never h.0) (each_fine ps setting widths [] fine.1 h.1)
  each_fine (p ∷ ps) setting widths (s ∷ ss) fine e =
      let first : Looked = p.look setting widths s in
      let others : LookedAll = each_looked ps setting widths ss in
      let h = both_empty first.faults others.faults e in
      two (test first.pattern) (each_stands (map test others.patterns)) (fine.0 s h.0) (each_fine ps setting widths ss fine.1 h.1)

  -- as many as there are parts
  so_many : (ps : List Piece) (setting : Setting) (widths : Widths) (ss : List Shape) → length (each_looked ps setting widths ss).patterns ≡ length ps
  so_many [] setting widths ss = refl
  so_many (p ∷ ps) setting widths [] = ap suc (so_many ps setting widths [])
  so_many (p ∷ ps) setting widths (s ∷ ss) = ap suc (so_many ps setting widths ss)

  tested_many : (ps : List Piece) (setting : Setting) (widths : Widths) (ss : List Shape)
      → length (map test (each_looked ps setting widths ss).patterns) ≡ length ps
  tested_many ps setting widths ss = mapped_count test (each_looked ps setting widths ss).patterns ∙ so_many ps setting widths ss

  -- a head that asks nothing but its parts
  opens_fine : (place : Place) (head : Head) (faults : List ShapeError) (ps : List Piece) (setting : Setting) (widths : Widths) (ss : List Shape)
      → EachFine setting widths ps
      → (each_stands (map test (each_looked ps setting widths ss).patterns) ≡ true
      → head_stands types numbers head (map test (each_looked ps setting widths ss).patterns) ≡ true)
      → IsFine (opened place head faults (each_looked ps setting widths ss))
  opens_fine place head faults ps setting widths ss fine passes e =
      let parts : LookedAll = each_looked ps setting widths ss in
      let h = both_empty faults parts.faults e in
      formed place (F.Opens head) parts.patterns (passes (each_fine ps setting widths ss fine h.1))

  pub group_fine : (place : Place) (brackets : Brackets) (ps : List Piece) (setting : Setting) (widths : Widths) → EachFine setting widths ps
      → (subject : Shape) → IsFine (group_look place brackets ps setting widths subject)
  group_fine place B.Tuple [] setting widths fine subject e = unit_fine place setting widths subject
  group_fine place B.Tuple (p ∷ ps) setting widths fine subject e = opens_fine place H.Tuple _ (p ∷ ps) setting widths _ fine (λ h. h) e
  group_fine place B.Vector ps setting widths fine subject e = opens_fine place H.Vector _ ps setting widths _ fine (λ h. h) e
  group_fine place B.List ps setting widths fine subject e = opens_fine place H.List _ ps setting widths _ fine (λ h. h) e

  as_one_fine : (place : Place) (ps : List Piece) (setting : Setting) (widths : Widths) → EachFine setting widths ps
      → (subject : Shape) → IsFine (as_one place ps setting widths subject)
  as_one_fine place [] setting widths fine subject e = unit_fine place setting widths subject
  as_one_fine place (p ∷ []) setting widths fine subject e = fine.0 subject e
  as_one_fine place (p ∷ q ∷ ps) setting widths fine subject e = opens_fine place H.Tuple _ (p ∷ q ∷ ps) setting widths _ fine (λ h. h) e

  -- a head and the rest of a list
  pair_last : (a b : Bool) → each_stands (a ∷ b ∷ []) ≡ true → (a && b) ≡ true
  pair_last true true h = refl
  pair_last true false h = h
  pair_last false b h = h

  pub cons_fine : (place : Place) (p q : Piece) (setting : Setting) (widths : Widths) → PieceFine setting widths p → PieceFine setting widths q
      → (subject : Shape) → IsFine (cons_look place p q setting widths subject)
  cons_fine place p q setting widths first others subject e =
      opens_fine place H.Cons _ (p ∷ q ∷ []) setting widths (_ ∷ _ ∷ []) (first, (others, tt)) (λ h. pair_last _ _ h) e

  -- ---- parts of `@`, each with its width

  width_in : (o : Option Num) (ws : List (Option Num)) → ((n : Num) → o ≡ Some n → number_owns numbers n ≡ true)
      → widths_stand numbers ws ≡ true → widths_stand numbers (o ∷ ws) ≡ true
  width_in None ws is others = others
  width_in (Some n) ws is others = two (number_owns numbers n) (widths_stand numbers ws) (is n refl) others

  widths_in : (ps : List Piece) (setting : Setting) (widths : Widths) → EachWidth setting widths ps
      → widths_stand numbers (map (λ (p : Piece). p.width setting widths) ps) ≡ true
  widths_in [] setting widths fine = refl
  widths_in (p ∷ ps) setting widths fine =
      width_in (p.width setting widths) (map (λ (p : Piece). p.width setting widths) ps) fine.0 (widths_in ps setting widths fine.1)

  same_many : (n k m : ℕ) → n ≡ m → k ≡ m → nat_eq n k ≡ true
  same_many n k m a b = ap (λ (x : ℕ). nat_eq x k) (a ∙ sym b) ∙ itself k

  pub concat_fine : (place : Place) (ps : List Piece) (setting : Setting) (widths : Widths) → EachFine setting widths ps → EachWidth setting widths ps
      → (subject : Shape) → IsFine (concat_look place ps setting widths subject)
  concat_fine place ps setting widths fine wide subject e =
      let ws : List (Option Num) = map (λ (p : Piece). p.width setting widths) ps in
      let parts : LookedAll = each_looked ps setting widths (replicate (length ps) V.Bits) in
      opens_fine place (H.Cut ws) (shape_faults place subject V.Bits ++ width_faults false setting widths ps) ps setting widths (replicate (length ps) V.Bits)
      fine
      (λ h. two (nat_eq (length ws) (length (map test parts.patterns)) && widths_stand numbers ws) (each_stands (map test parts.patterns))
      (two (nat_eq (length ws) (length (map test parts.patterns))) (widths_stand numbers ws)
      (same_many (length ws) (length (map test parts.patterns)) (length ps) (mapped_count (λ (p : Piece). p.width setting widths) ps)
      (tested_many ps setting widths (replicate (length ps) V.Bits)))
      (widths_in ps setting widths wide)) h) e

  -- ---- `p as x`, `p : T`

  pub as_fine : (place : Place) (p : Piece) (name : Name) (setting : Setting) (widths : Widths) → PieceFine setting widths p
      → (subject : Shape) → IsFine (as_look place p name setting widths subject)
  as_fine place p name setting widths fine subject e =
      formed place (F.As name.text) ((p.look setting widths subject).pattern ∷ []) (fine subject e)

  typed_in : (o : Option Written) (x : Written) (b : Bool) → o ≡ Some x → b ≡ true → form_stands types numbers (typed_form o) (b ∷ []) ≡ true
  typed_in o x b is h = ap (λ (y : Option Written). form_stands types numbers (typed_form y) (b ∷ [])) is ∙ h

  pub typed_fine : (place : Place) (p : Piece) (typ : TyExp) (setting : Setting) (widths : Widths) (x : Written) → written setting.within typ ≡ Some x
      → PieceFine setting widths p → (subject : Shape) → IsFine (typed_look place p typ setting widths subject)
  typed_fine place p typ setting widths x is fine subject e =
      let inner : Looked = p.look setting widths (seen_as subject (shape_in setting.within typ)) in
      let h = both_empty (written_faults setting.within typ ++ shape_faults place subject (shape_in setting.within typ)) inner.faults e in
      formed place (typed_form (written setting.within typ)) (inner.pattern ∷ [])
      (typed_in (written setting.within typ) x (test inner.pattern) is (fine (seen_as subject (shape_in setting.within typ)) h.1))

  -- ---- `id(p, q)`

  maps_fine : (place : Place) (d : ℕ) (part : Looked) → test part.pattern ≡ true → test (pattern place (F.Maps d) (part.pattern ∷ [])) ≡ true
  maps_fine place d part h = formed place (F.Maps d) (part.pattern ∷ []) h

  mapping_fine : (place : Place) (m : Mapping) (ps : List Piece) (side : Which) (setting : Setting) (widths : Widths) → EachFine setting widths ps
      → (subject : Shape) → IsFine (mapping_look_as place m ps side setting widths subject)
  mapping_fine place m ps forwards setting widths fine subject e =
      maps_fine place _ (as_one place ps setting widths _) (as_one_fine place ps setting widths fine _ e)
  mapping_fine place m ps backwards setting widths fine subject e =
      maps_fine place _ (as_one place ps setting widths _) (as_one_fine place ps setting widths fine _ e)
  mapping_fine place m ps neither setting widths fine subject e = absurd (no_faults e)
  mapping_fine place m ps either setting widths fine subject e = absurd (no_faults e)

  direction_fine : (name : Name) (d : ℕ) (f : Candidate) (ps : List Piece) (setting : Setting) (widths : Widths) → EachFine setting widths ps
      → (subject : Shape) → IsFine (direction_look name d f ps setting widths subject)
  direction_fine name d f ps setting widths fine subject e =
      let part : Looked = as_one name.place ps setting widths f.answer in
      let h = both_empty _ part.faults e in
      maps_fine name.place d part (as_one_fine name.place ps setting widths fine f.answer h.1)

  pieces_fine : (place : Place) (params : List Shape) (ps : List Piece) (setting : Setting) (widths : Widths) → EachFine setting widths ps
      → EachFine setting widths (pieces_for place params ps)
  pieces_fine place params [] setting widths fine = by_unit (takes_unit params)
    where
      by_unit : (b : Bool) → EachFine setting widths (if b then unit_piece place ∷ [] else [])
      by_unit true = ((λ subject e. unit_fine place setting widths subject), tt)
      by_unit false = tt
  pieces_fine place params (p ∷ ps) setting widths fine = fine

  -- the shapes of a constructor's parts, where values of this shape come
  abbrev part_shapes : Candidate → Shape → List Shape
  part_shapes f subject = map (put (at (known_or_nevers f.variables (learn f.answer subject (nevers f.variables))))) f.params

  constructor_fine : (name : Name) (u k : ℕ) (f : Candidate) (pieces : List Piece) (setting : Setting) (widths : Widths)
      → constructor_stands types u k (length f.params) ≡ true → EachFine setting widths pieces
      → (subject : Shape) → IsFine (constructor_look name (H.Constructor u k) f pieces setting widths subject)
  constructor_fine name u k f pieces setting widths has fine subject = by_count (nat_eq (length f.params) (length pieces)) refl
    where
      tested : List Bool
      tested = map test (each_looked pieces setting widths (part_shapes f subject)).patterns

      by_count : (b : Bool) → nat_eq (length f.params) (length pieces) ≡ b
          → IsFine (if b
          then constructor_parts name (H.Constructor u k) f pieces (learn f.answer subject (nevers f.variables)) setting widths subject
          else opened name.place (H.Constructor u k) (error.Arity name.place (length f.params) (length pieces) ∷ [])
          (each_looked pieces setting widths []))
      by_count false is = λ e. absurd (no_faults e)
      by_count true is = λ e.
          opens_fine name.place (H.Constructor u k) _ pieces setting widths (part_shapes f subject) fine
          (λ h. two (constructor_stands types u k (length tested)) (each_stands tested)
          (ap (constructor_stands types u k)
          (tested_many pieces setting widths (part_shapes f subject) ∙ sym (same_count (length f.params) (length pieces) is)) ∙ has) h) e

  callee_fine : (name : Name) (f : Candidate) (doing : Doing) (ps : List Piece) (setting : Setting) (names : Tables.Setting) (widths : Widths)
      → is_construction names name.text ≡ true → setting.value name.text ≡ Some (M.Callee f) → f.doing ≡ doing
      → NamesStand types setting names → EachFine setting widths ps
      → (subject : Shape) → IsFine (callee_look name ps f (direction_of doing) (callee_head doing) setting widths subject)
  callee_fine name f (D.Calls (C.Constructor u k)) ps setting names widths constructs is does stand fine subject =
      constructor_fine name u k f (pieces_for name.place f.params ps) setting widths (stand.constructors name.text f u k constructs is does)
      (pieces_fine name.place f.params ps setting widths fine) subject
  callee_fine name f (D.Calls (C.Converts d)) ps setting names widths constructs is does stand fine subject =
      direction_fine name d f ps setting widths fine subject
  callee_fine name f doing ps setting names widths constructs is does stand fine subject = λ e. formed name.place F.Any [] refl

  pub construct_fine : (name : Name) (meant : Option Meant) (ps : List Piece) (setting : Setting) (names : Tables.Setting) (widths : Widths)
      → is_construction names name.text ≡ true → setting.value name.text ≡ meant
      → NamesStand types setting names → EachFine setting widths ps → (subject : Shape) → IsFine (construct_look name ps meant setting widths subject)
  construct_fine name (Some (M.Callee f)) ps setting names widths constructs is stand fine subject =
      callee_fine name f f.doing ps setting names widths constructs is refl stand fine subject
  construct_fine name (Some (M.Mapping m)) ps setting names widths constructs is stand fine subject =
      mapping_fine name.place m ps (which_side m subject) setting widths fine subject
  construct_fine name meant ps setting names widths constructs is stand fine subject = λ e. formed name.place F.Any [] refl
