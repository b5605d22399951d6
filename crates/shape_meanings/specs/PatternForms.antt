-- Forms of patterns, each over whatever its parts are.
use Rattle.std.specs.Prelude.{◌≡◌, true, ℕ, ℤ, pos, ◌-ℤ◌, neg_ℤ, List, [], ◌∷◌, ◌++◌, Option, Some}
use Rattle.sail_base.specs.declared.place.Place.{Place}
use Rattle.sail_types.specs.declared.shapes.Shape.{Shape}
use Rattle.sail_types.specs.declared.shapes.Shape.TheVariants as V
use Rattle.sail_types.specs.declared.values.Value.{Value, out-Value}
use Rattle.sail_syntax.specs.declared.name.Name.{Name}
use Rattle.sail_syntax.specs.declared.name.Literal.{Literal}
use Rattle.sail_syntax.specs.declared.types.TyExp.{TyExp}
use Rattle.sail_syntax.specs.declared.patterns.Pat.{Pat}
use Rattle.sail_syntax.specs.declared.words.Brackets.TheVariants as B
use Rattle.sail_core.specs.declared.patterns.Literal.TheVariants as L
use Rattle.sail_core.specs.declared.patterns.Head.TheVariants as H
use Rattle.sail_core.specs.declared.tree.Callee.TheVariants as C
use Rattle.sail_core.specs.declared.written.Written.{Written}
use Rattle.sail_core.specs.Run.{gives, local, ◌then◌}
use Rattle.sail_core.specs.Making as Core
use Rattle.sail_meaning.specs.Named.{member_named, constructor_named}
use Rattle.sail_meaning.specs.World as Source
use Rattle.sail_meaning.specs.Patterns.{Matcher, literal_matches, integer_matches, unit_matches, identifier_matches, group_matches, cons_matches}
use Rattle.sail_meaning.specs.Patterns.{construct_matches, concat_matches}
use Rattle.sail_names.specs.Known as Tables
use Rattle.sail_names.specs.Patterns.{pattern_failures}
use Rattle.shape_rules.specs.declared.callees.Candidate.{Candidate}
use Rattle.shape_rules.specs.declared.callees.Doing.TheVariants as D
use Rattle.shape_rules.specs.declared.callees.Mapping.{Mapping}
use Rattle.shape_rules.specs.declared.callees.Meant.{Meant}
use Rattle.shape_rules.specs.declared.callees.Meant.TheVariants as M
use Rattle.shape_rules.specs.Scopes.{Setting}
use Rattle.shape_rules.specs.Written.{written}
use Rattle.shape_rules.specs.Patterns.{Widths, Piece, literal_shape, core_literal, is_found, name_look, group_look, cons_look, as_look, typed_look}
use Rattle.shape_rules.specs.Patterns.{pieces_for, constructor_look, direction_look, mapping_look_as, which_side, concat_look}
use Rattle.shape_meanings.specs.Trees.{pattern_written}
use Rattle.shape_meanings.specs.Worlds.{Describes, IsConstructor}
use Rattle.shape_meanings.specs.Naming.{AreKnown}
use Rattle.shape_meanings.specs.Parts.{PatternIs}
use Rattle.shape_meanings.specs.Matching.{Match, LooksRight, PieceIs, PiecesAre, WidthsAre}

-- ---- one value

abbrev pub LiteralPatternsAreRight : Type 0
LiteralPatternsAreRight =
    (setting : Setting) (widths : Widths) (subject : Shape) (place : Place) (literal : Literal)
    → (is_found place (literal_shape literal) (core_literal literal) setting widths subject).faults ≡ []
    → LooksRight setting widths subject (is_found place (literal_shape literal) (core_literal literal) setting widths subject)
    (λ w v. literal_matches literal (out-Value v))

abbrev pub NegativePatternsAreRight : Type 0
NegativePatternsAreRight =
    (setting : Setting) (widths : Widths) (subject : Shape) (place : Place) (n : ℤ)
    → (is_found place V.Int (L.Integer (pos 0 -ℤ n)) setting widths subject).faults ≡ []
    → LooksRight setting widths subject (is_found place V.Int (L.Integer (pos 0 -ℤ n)) setting widths subject)
    (λ w v. integer_matches (neg_ℤ n) (out-Value v))

-- `()`
abbrev pub UnitPatternsAreRight : Type 0
UnitPatternsAreRight =
    (setting : Setting) (widths : Widths) (subject : Shape) (place : Place) → (is_found place V.Unit L.Unit setting widths subject).faults ≡ []
    → LooksRight setting widths subject (is_found place V.Unit L.Unit setting widths subject) (λ w v. unit_matches (out-Value v))

-- ---- a bare identifier: a member where an enum has the name, else it binds

abbrev pub IsNoMember : Option Meant → Type 0
IsNoMember (Some (M.Member i k)) = ⊥
IsNoMember meant = Unit {0}

abbrev pub MemberPatternsAreRight : Type 0
MemberPatternsAreRight =
    (setting : Setting) (widths : Widths) (subject : Shape) (name : Name) (i k : ℕ) → setting.value name.text ≡ Some (M.Member i k)
    → (name_look name (Some (M.Member i k)) setting widths subject).faults ≡ []
    → LooksRight setting widths subject (name_look name (Some (M.Member i k)) setting widths subject)
    (λ w v. identifier_matches (member_named w.text.types name.text) name.text v)

abbrev pub NamePatternsAreRight : Type 0
NamePatternsAreRight =
    (setting : Setting) (widths : Widths) (subject : Shape) (name : Name) (meant : Option Meant) → setting.value name.text ≡ meant
    → IsNoMember meant
    → LooksRight setting widths subject (name_look name meant setting widths subject)
    (λ w v. identifier_matches (member_named w.text.types name.text) name.text v)

-- ---- `p as x`, `p : T`

abbrev pub AsPatternsAreRight : Type 0
AsPatternsAreRight =
    (setting : Setting) (widths : Widths) (subject : Shape) (place : Place) (p : Piece) (name : Name) (m : Match) → PieceIs setting widths p m
    → (as_look place p name setting widths subject).faults ≡ []
    → LooksRight setting widths subject (as_look place p name setting widths subject) (λ w v. m w v then λ found. gives (found ++ local name.text v ∷ []))

abbrev pub TypedPatternsAreRight : Type 0
TypedPatternsAreRight =
    (setting : Setting) (widths : Widths) (subject : Shape) (place : Place) (p : Piece) (typ : TyExp) (w : Written) (m : Match)
    → written setting.within typ ≡ Some w → PieceIs setting widths p m → (typed_look place p typ setting widths subject).faults ≡ []
    → LooksRight setting widths subject (typed_look place p typ setting widths subject) m

-- ---- several parts

abbrev pub TuplePatternsAreRight : Type 0
TuplePatternsAreRight =
    (setting : Setting) (widths : Widths) (subject : Shape) (place : Place) (p : Piece) (ps : List Piece) (m : Matcher) (ms : List Matcher)
    → PiecesAre setting widths (p ∷ ps) (m ∷ ms) → (group_look place B.Tuple (p ∷ ps) setting widths subject).faults ≡ []
    → LooksRight setting widths subject (group_look place B.Tuple (p ∷ ps) setting widths subject) (λ w v. group_matches B.Tuple (m ∷ ms) w (out-Value v))

abbrev pub VectorPatternsAreRight : Type 0
VectorPatternsAreRight =
    (setting : Setting) (widths : Widths) (subject : Shape) (place : Place) (ps : List Piece) (ms : List Matcher)
    → PiecesAre setting widths ps ms → (group_look place B.Vector ps setting widths subject).faults ≡ []
    → LooksRight setting widths subject (group_look place B.Vector ps setting widths subject) (λ w v. group_matches B.Vector ms w (out-Value v))

abbrev pub ListPatternsAreRight : Type 0
ListPatternsAreRight =
    (setting : Setting) (widths : Widths) (subject : Shape) (place : Place) (ps : List Piece) (ms : List Matcher)
    → PiecesAre setting widths ps ms → (group_look place B.List ps setting widths subject).faults ≡ []
    → LooksRight setting widths subject (group_look place B.List ps setting widths subject) (λ w v. group_matches B.List ms w (out-Value v))

abbrev pub ConsPatternsAreRight : Type 0
ConsPatternsAreRight =
    (setting : Setting) (widths : Widths) (subject : Shape) (place : Place) (p q : Piece) (m n : Matcher)
    → PieceIs setting widths p (λ w v. m.matches w v) → PieceIs setting widths q (λ w v. n.matches w v)
    → (cons_look place p q setting widths subject).faults ≡ []
    → LooksRight setting widths subject (cons_look place p q setting widths subject) (λ w v. cons_matches m n w (out-Value v))

-- ---- heads

-- `C(p, q)`: a constructor of a union, in each world
abbrev pub ConstructorPatternsAreRight : Type 0
ConstructorPatternsAreRight =
    (setting : Setting) (widths : Widths) (subject : Shape) (name : Name) (f : Candidate) (u k : ℕ) (ps : List Piece) (ms : List Matcher)
    → ((registers : List Shape) (wc : Core.World Value) (ws : Source.World) → Describes setting registers wc ws
    → (constructor_named setting.types name.text ≡ Some (u, k)) × IsConstructor setting.types f u k)
    → PiecesAre setting widths ps ms
    → (constructor_look name (H.Constructor u k) f (pieces_for name.place f.params ps) setting widths subject).faults ≡ []
    → LooksRight setting widths subject (constructor_look name (H.Constructor u k) f (pieces_for name.place f.params ps) setting widths subject)
    (λ w v. construct_matches name.text ms w v (constructor_named w.text.types name.text))

-- `m(p)`, by a mapping of one way and by one of two
abbrev pub DirectionPatternsAreRight : Type 0
DirectionPatternsAreRight =
    (setting : Setting) (widths : Widths) (subject : Shape) (name : Name) (f : Candidate) (number : ℕ) (ps : List Piece) (ms : List Matcher)
    → setting.value name.text ≡ Some (M.Callee f) → f.doing ≡ D.Calls (C.Converts number) → PiecesAre setting widths ps ms
    → (direction_look name number f ps setting widths subject).faults ≡ []
    → LooksRight setting widths subject (direction_look name number f ps setting widths subject)
    (λ w v. construct_matches name.text ms w v (constructor_named w.text.types name.text))

abbrev pub MappingPatternsAreRight : Type 0
MappingPatternsAreRight =
    (setting : Setting) (widths : Widths) (subject : Shape) (name : Name) (m : Mapping) (ps : List Piece) (ms : List Matcher)
    → setting.value name.text ≡ Some (M.Mapping m) → PiecesAre setting widths ps ms
    → (mapping_look_as name.place m ps (which_side m subject) setting widths subject).faults ≡ []
    → LooksRight setting widths subject (mapping_look_as name.place m ps (which_side m subject) setting widths subject)
    (λ w v. construct_matches name.text ms w v (constructor_named w.text.types name.text))

-- `p @ q`, where the parts have the same widths of their own
abbrev pub WordPatternsAreRight : Type 0
WordPatternsAreRight =
    (setting : Setting) (widths : Widths) (subject : Shape) (place : Place) (ps : List Piece) (ms : List Matcher)
    → PiecesAre setting widths ps ms → WidthsAre setting widths ps ms → (concat_look place ps setting widths subject).faults ≡ []
    → LooksRight setting widths subject (concat_look place ps setting widths subject) (λ w v. concat_matches ms w (out-Value v))

-- ---- all of them

-- a pattern without a failure of names or shapes is right, and binds no name twice
abbrev pub PatternsAreRight : Type 0
PatternsAreRight =
    (p : Pat) → pattern_written p ≡ true → (setting : Setting) (names : Tables.Setting) → AreKnown setting names
    → pattern_failures names p ≡ [] → PatternIs setting p
