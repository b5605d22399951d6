-- The rule of shapes of each pattern of the core: which values it is for, and which names it binds (Sail language manual, "Pattern matching").
use Rattle.std.specs.Prelude.{◌≡◌, ◌⊎◌, ℕ, zero, suc, List, [], ◌∷◌, ◌++◌, length, replicate, nat_le, slice_get, true, Some}
use Rattle.sail_types.specs.Named.{payload}
use Rattle.sail_types.specs.Shapes.{at, put, shape}
use Rattle.sail_types.specs.declared.shapes.Shape.{Shape, Shape-F, out-Shape}
use Rattle.sail_types.specs.declared.shapes.Shape.TheOpen as S
use Rattle.sail_types.specs.declared.shapes.Shape.TheVariants as V
use Rattle.sail_types.specs.declared.table.Definition.{Definition}
use Rattle.sail_types.specs.declared.table.Field.{Field}
use Rattle.sail_types.specs.declared.table.Form.TheVariants as D
use Rattle.sail_types.specs.declared.table.Types.{Types}
use Rattle.sail_types.specs.declared.types.Typ.{Typ}
use Rattle.sail_types.specs.declared.values.Value.{Value}
use Rattle.sail_core.specs.declared.patterns.Arm.{Arm}
use Rattle.sail_core.specs.declared.patterns.Arm.TheVariants as A
use Rattle.sail_core.specs.declared.patterns.Form.{Form}
use Rattle.sail_core.specs.declared.patterns.Form.TheVariants as F
use Rattle.sail_core.specs.declared.patterns.Head.{Head}
use Rattle.sail_core.specs.declared.patterns.Head.TheVariants as H
use Rattle.sail_core.specs.declared.patterns.Literal.{Literal}
use Rattle.sail_core.specs.declared.patterns.Literal.TheVariants as L
use Rattle.sail_core.specs.declared.patterns.Pattern.{Pattern, out-Pattern}
use Rattle.sail_core.specs.Making.{World}
use Rattle.sail_core.specs.Numbers.{Givens}
use Rattle.shape_joins.specs.Filling.{fills}
use Rattle.shape_rules.specs.declared.locals.Local.{Local}
use Rattle.shape_rules.specs.Scopes.{constant}
use Rattle.shape_meanings.specs.Keeping.{Fits, Reach}
use Rattle.shape_progress.specs.Conditions.{widths_given}
use Rattle.shape_progress.specs.Checks.{checked_pattern, checked_arm}
use Rattle.shape_progress.specs.Going.{Has, Binds, BindAll}

-- the named type of this place is an enum, or a union
abbrev pub IsEnum : Types → ℕ → Type 0
IsEnum types i = (d : Definition) × (ms : List (List ℕ)) × (slice_get types.definitions i ≡ Some d) × (d.form ≡ D.Enum ms)

abbrev pub IsUnion : Types → ℕ → Type 0
IsUnion types i = (d : Definition) × (cs : List Field) × (slice_get types.definitions i ≡ Some d) × (d.form ≡ D.Union cs)

-- ---- one level

-- the shape of a literal
abbrev pub IsOf : Types → Literal → Shape-F Shape → Type 0
IsOf types L.Unit s = s ≡ S.Unit
IsOf types (L.Integer z) s = s ≡ S.Int
IsOf types (L.Truth b) s = s ≡ S.Bool
IsOf types (L.Bit b) s = s ≡ S.Bit
IsOf types (L.Bits bs) s = s ≡ S.Bits
IsOf types (L.String text) s = s ≡ S.String
IsOf types (L.Member i k) s = IsEnum types i × ((ss : List Shape) × (s ≡ S.Named i ss))

-- a payload is one part, or the parts of a tuple, of which there are several
abbrev pub PayloadOpens : Shape → List Shape → Type 0
PayloadOpens s ss = (ss ≡ s ∷ []) ⊎ ((out-Shape s ≡ S.Tuple ss) × (nat_le 2 (length ss) ≡ true))

-- a head on values of a shape, and the shapes of the parts into which it opens them
abbrev pub HeadOpens : Types → Givens → Head → Shape → List Shape → Type 0
HeadOpens types nu (H.Is literal) s ss = IsOf types literal (out-Shape s) × (ss ≡ [])
HeadOpens types nu H.Tuple s ss = out-Shape s ≡ S.Tuple ss
HeadOpens types nu (H.Constructor u k) s ss =
    IsUnion types u × ((args : List Shape) × (typ : Typ) × (out-Shape s ≡ S.Named u args) × (payload types u k ≡ Some typ)
    × PayloadOpens (put (at args) (shape typ)) ss)
HeadOpens types nu H.Vector s ss = (t : Shape) × (out-Shape s ≡ S.Vector t) × (ss ≡ replicate (length ss) t)
HeadOpens types nu H.List s ss = (t : Shape) × (out-Shape s ≡ S.List t) × (ss ≡ replicate (length ss) t)
HeadOpens types nu H.Cons s ss = (t : Shape) × (out-Shape s ≡ S.List t) × (ss ≡ t ∷ s ∷ [])
HeadOpens types nu (H.Cut ws) s ss = (out-Shape s ≡ S.Bits) × (ss ≡ replicate (length ws) V.Bits) × (widths_given nu ws ≡ true)

-- ---- nested patterns, whose parts are as P says of a shape, the names that are bound and a pattern

-- patterns for several values, from left to right
abbrev pub PartsBind : (Shape → List Local → Pattern → Type 0) → List Shape → List Pattern → List Local → Type 0
PartsBind P [] [] binds = binds ≡ []
PartsBind P (s ∷ ss) (p ∷ ps) binds =
    (first : List Local) × (others : List Local) × P s first p × PartsBind P ss ps others × (binds ≡ first ++ others)
PartsBind P ss ps binds = ⊥

-- a direction of a mapping in a pattern takes values of one shape and gives those of another
abbrev pub WayHas : Reach → World Value → ℕ → Shape → Shape → Type 0
WayHas reach w d s t = (v : Value) → Fits reach.types reach.choice s v → Has reach w t (w.way d v)

-- one case for each form
abbrev pub FormBinds : (Shape → List Local → Pattern → Type 0) → Reach → World Value → Form → List Pattern → Shape → List Local → Type 0
FormBinds P reach w F.Any [] s binds = binds ≡ []
FormBinds P reach w (F.Binds name) [] s binds = binds ≡ constant name s ∷ []
FormBinds P reach w (F.As name) (p ∷ []) s binds = (inner : List Local) × P s inner p × (binds ≡ inner ++ constant name s ∷ [])
FormBinds P reach w (F.Typed written) (p ∷ []) s binds = (t : Shape) × (fills s t ≡ true) × P t binds p
FormBinds P reach w (F.Opens head) ps s binds = (ss : List Shape) × HeadOpens reach.types w.numbers head s ss × PartsBind P ss ps binds
FormBinds P reach w (F.Maps d) (p ∷ []) s binds = (t : Shape) × WayHas reach w d s t × P t binds p
FormBinds P reach w form ps s binds = ⊥

-- a pattern on values of a shape, no deeper than this; one for a shape is one for each that can be filled to it
abbrev pub PatternBinds : ℕ → Reach → World Value → Shape → List Local → Pattern → Type 0
PatternBinds zero reach w s binds p = ⊥
PatternBinds (suc n) reach w s binds p =
    (t : Shape) × (fills s t ≡ true) × FormBinds (PatternBinds n reach w) reach w (out-Pattern p).form (out-Pattern p).parts t binds

-- the patterns of an arm on values of these shapes
abbrev pub ArmBinds : ℕ → Reach → World Value → List Shape → List Local → Arm → Type 0
ArmBinds n reach w ss binds (A.Nested ps) = PartsBind (PatternBinds n reach w) ss ps binds
ArmBinds n reach w ss binds (A.Flat k steps) = ⊥

-- ---- the law: a pattern by its rule is never stuck, but where a condition on sizes fails, and binds names of these shapes

abbrev pub PatternsGoOn : Type 0
PatternsGoOn = (n : ℕ) (reach : Reach) (w : World Value) (s : Shape) (binds : List Local) (p : Pattern) → PatternBinds n reach w s binds p
    → Binds reach w s binds (checked_pattern w p)

abbrev pub ArmsGoOn : Type 0
ArmsGoOn = (n : ℕ) (reach : Reach) (w : World Value) (ss : List Shape) (binds : List Local) (arm : Arm) → ArmBinds n reach w ss binds arm
    → BindAll reach w ss binds (checked_arm w arm)
