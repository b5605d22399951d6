-- The rule of shapes of each form of the core: what its parts have to be for it to have a shape (Sail language manual, "Expressions",
-- "Statements", "Loops", "Exceptions").
use Rattle.std.specs.Prelude.{◌≡◌, ◌⊎◌, ℕ, zero, suc, true, List, [], ◌∷◌, length, slice_get, Some}
use Rattle.sail_types.specs.Named.{fields, field_types}
use Rattle.sail_types.specs.Shapes.{at, put, shape}
use Rattle.sail_types.specs.declared.shapes.Shape.{Shape, out-Shape}
use Rattle.sail_types.specs.declared.shapes.Shape.TheOpen as S
use Rattle.sail_types.specs.declared.shapes.Shape.TheVariants as V
use Rattle.sail_types.specs.declared.table.Field.{Field}
use Rattle.sail_types.specs.declared.types.Typ.{Typ}
use Rattle.sail_types.specs.declared.values.Value.{Value}
use Rattle.sail_core.specs.declared.patterns.Arm.{Arm}
use Rattle.sail_core.specs.declared.targets.Suffix.{Suffix}
use Rattle.sail_core.specs.declared.tree.Core.{Core, out-Core}
use Rattle.sail_core.specs.declared.tree.Kind.{Kind}
use Rattle.sail_core.specs.declared.tree.Kind.TheVariants as K
use Rattle.sail_core.specs.declared.tree.Statement.{Statement}
use Rattle.sail_core.specs.declared.tree.Statement.TheVariants as T
use Rattle.sail_core.specs.Making.{World}
use Rattle.sail_core.specs.Values.{literal_value}
use Rattle.shape_joins.specs.Filling.{fills}
use Rattle.shape_rules.specs.declared.locals.Local.{Local}
use Rattle.shape_rules.specs.Scopes.{local_of, constant, variable}
use Rattle.shape_meanings.specs.Keeping.{Fits, FitAll, Reach}
use Rattle.shape_progress.specs.Conditions.{given_in, truth_given}
use Rattle.shape_progress.specs.Checks.{Table, checked}
use Rattle.shape_progress.specs.Going.{Has, under}
use Rattle.shape_progress.specs.PatternRules.{ArmBinds}
use Rattle.shape_progress.specs.TargetRules.{AllHave, Takes, ItemHas, WayLeads, AssignHas}

-- what is asked of a part: in such a reach it has a shape
abbrev pub Rule : Type 1
Rule = Reach → Shape → Core → Type 0

-- ---- several parts

abbrev pub EachHas : (Shape → Core → Type 0) → Shape → List Core → Type 0
EachHas P s [] = Unit {0}
EachHas P s (c ∷ cs) = P s c × EachHas P s cs

-- ---- parts of values

-- no value has this shape: what would give one never ends
abbrev pub IsEmpty : Reach → Shape → Type 0
IsEmpty reach s = (v : Value) → Fits reach.types reach.choice s v → ⊥

-- a value of a shape, and what suffixes take out of it; behind a part that no value is nothing is reached
abbrev pub SuffixesHave : Reach → (Shape → Core → Type 0) → List Suffix → List Core → Shape → Shape → Type 0
SuffixesHave reach P [] [] s t = (s ≡ t) ⊎ IsEmpty reach s
SuffixesHave reach P [] (c ∷ cs) s t = IsEmpty reach s
SuffixesHave reach P (suffix ∷ ss) cs s t = WayLeads reach.types P suffix.way cs s (λ ds u. SuffixesHave reach P ss ds u t)

-- a part that no value is, so that nothing behind it is reached
abbrev pub NeverGives : Rule → Reach → Core → Type 0
NeverGives P reach a = (t : Shape) × P reach t a × IsEmpty reach t

-- ---- fields of a struct whose arguments are these shapes

-- the fields at these places have these shapes
abbrev pub FieldsAre : List Shape → List Field → List ℕ → List Shape → Type 0
FieldsAre us fs [] [] = Unit {0}
FieldsAre us fs (k ∷ ks) (s ∷ ss) =
    ((typ : Typ) × (slice_get (field_types fs) k ≡ Some typ) × (s ≡ put (at us) (shape typ))) × FieldsAre us fs ks ss
FieldsAre us fs ks ss = ⊥

abbrev pub NotAmong : ℕ → List ℕ → Type 0
NotAmong k [] = Unit {0}
NotAmong k (p ∷ ps) = ((p ≡ k) → ⊥) × NotAmong k ps

-- no place comes twice
abbrev pub Once : List ℕ → Type 0
Once [] = Unit {0}
Once (k ∷ ks) = NotAmong k ks × Once ks

-- ---- arms and statements

-- arms on values of these shapes, and a body for each
abbrev pub ArmsHave : Rule → World Value → Reach → List Shape → Shape → List Arm → List Core → Type 0
ArmsHave P w reach ss s [] [] = Unit {0}
ArmsHave P w reach ss s (arm ∷ arms) (body ∷ bodies) =
    ((n : ℕ) × (binds : List Local) × ArmBinds n reach w ss binds arm × P (under reach binds) s body) × ArmsHave P w reach ss s arms bodies
ArmsHave P w reach ss s arms bodies = ⊥

-- statements, each with the rest of the block behind it
abbrev pub BlockHas : Rule → World Value → Reach → Shape → List Statement → List Core → Type 0
BlockHas P w reach s [] [] = s ≡ V.Unit
BlockHas P w reach s [] (value ∷ []) = P reach s value
BlockHas P w reach s (T.Evaluate ∷ ss) (a ∷ cs) = ((t : Shape) × P reach t a) × BlockHas P w reach s ss cs
BlockHas P w reach s (T.Define place arm ∷ ss) (a ∷ cs) =
    (t : Shape) × (n : ℕ) × (binds : List Local) × P reach t a × ArmBinds n reach w (t ∷ []) binds arm × BlockHas P w (under reach binds) s ss cs
BlockHas P w reach s (T.Declare name written ∷ ss) (a ∷ cs) =
    (t : Shape) × P reach t a × BlockHas P w (under reach (variable name t ∷ [])) s ss cs
BlockHas P w reach s ss cs = ⊥

-- ---- one case for each kind, with its count of parts

-- what is thrown has the shape of exceptions
abbrev pub IsThrown : Reach → Shape → Type 0
IsThrown reach s = put reach.choice s ≡ reach.thrown

abbrev pub KindHas : Rule → World Value → Reach → Shape → Kind → List Core → Type 0
KindHas P w reach s (K.Constant literal) [] = Fits reach.types reach.choice s (literal_value literal)
KindHas P w reach s (K.Local name) [] = (l : Local) × (local_of name reach.slots ≡ Some l) × (l.shape ≡ s)
KindHas P w reach s (K.Variable name) [] = (l : Local) × (local_of name reach.slots ≡ Some l) × (l.shape ≡ s)
KindHas P w reach s (K.TopLevel i) [] = (v : Value) × (slice_get w.lets i ≡ Some v) × Fits reach.types reach.choice s v
KindHas P w reach s (K.Register r) [] = slice_get reach.registers r ≡ Some (put reach.choice s)
KindHas P w reach s (K.Call callee) args = (ss : List Shape) × AllHave (P reach) ss args × Takes w reach ss (Some s) callee
KindHas P w reach s K.And (a ∷ b ∷ []) = (s ≡ V.Bool) × P reach V.Bool a × P reach V.Bool b
KindHas P w reach s K.Or (a ∷ b ∷ []) = (s ≡ V.Bool) × P reach V.Bool a × P reach V.Bool b
KindHas P w reach s (K.Cast written) (a ∷ []) = P reach s a
KindHas P w reach s K.Tuple parts = (ss : List Shape) × (s ≡ V.Tuple ss) × AllHave (P reach) ss parts
KindHas P w reach s (K.Vector item) parts = (t : Shape) × (s ≡ V.Vector t) × EachHas (P reach) t parts
KindHas P w reach s (K.List item) parts = (t : Shape) × (s ≡ V.List t) × EachHas (P reach) t parts
KindHas P w reach s (K.Cons item) (a ∷ b ∷ []) = (t : Shape) × (s ≡ V.List t) × P reach t a × P reach s b
KindHas P w reach s (K.Struct i places) parts =
    (us : List Shape) × (fs : List Field) × (ss : List Shape) × (out-Shape s ≡ S.Named i us) × (fields reach.types i ≡ Some fs)
    × (length places ≡ length (field_types fs)) × Once places × FieldsAre us fs places ss × AllHave (P reach) ss parts
KindHas P w reach s (K.With i places) (a ∷ parts) =
    NeverGives P reach a
    ⊎ ((us : List Shape) × (fs : List Field) × (ss : List Shape) × (out-Shape s ≡ S.Named i us) × (fields reach.types i ≡ Some fs)
    × P reach s a × FieldsAre us fs places ss × AllHave (P reach) ss parts)
KindHas P w reach s (K.Part suffixes) (a ∷ indexes) =
    (t : Shape) × P reach t a × SuffixesHave reach (P reach) suffixes indexes t s
KindHas P w reach s K.WithItem (a ∷ b ∷ c ∷ []) =
    NeverGives P reach a ⊎ (P reach s a × P reach V.Int b × ((t : Shape) × ItemHas s t × P reach t c))
KindHas P w reach s K.WithSlice (a ∷ b ∷ c ∷ d ∷ []) =
    NeverGives P reach a ⊎ ((out-Shape s ≡ S.Bits) × P reach s a × P reach V.Int b × P reach V.Int c × P reach V.Bits d)
KindHas P w reach s (K.SizeOf t numbers) [] = (s ≡ V.Int) × (given_in w.numbers t ≡ true)
KindHas P w reach s (K.Constraint c numbers) [] = (s ≡ V.Bool) × (truth_given w.numbers c ≡ true)
KindHas P w reach s (K.Assign targets) parts = AssignHas (P reach) w reach s targets parts
KindHas P w reach s (K.Block statements) parts = BlockHas P w reach s statements parts
KindHas P w reach s (K.Let arm) (a ∷ b ∷ []) =
    (t : Shape) × (n : ℕ) × (binds : List Local) × P reach t a × ArmBinds n reach w (t ∷ []) binds arm × P (under reach binds) s b
KindHas P w reach s (K.Var name written) (a ∷ b ∷ []) = (t : Shape) × P reach t a × P (under reach (variable name t ∷ [])) s b
KindHas P w reach s (K.If of) (a ∷ b ∷ []) = (s ≡ V.Unit) × P reach V.Bool a × P reach V.Unit b
KindHas P w reach s (K.If of) (a ∷ b ∷ c ∷ []) = P reach V.Bool a × P reach s b × P reach s c
KindHas P w reach s (K.Match arms of) (a ∷ bodies) = (t : Shape) × P reach t a × ArmsHave P w reach (t ∷ []) s arms bodies
KindHas P w reach s (K.Try arms of) (a ∷ bodies) = (e : Shape) × IsThrown reach e × P reach s a × ArmsHave P w reach (e ∷ []) s arms bodies
KindHas P w reach s (K.Clauses arms) bodies =
    (ss : List Shape) × FitAll reach.types reach.choice ss w.arguments × ArmsHave P w reach ss s arms bodies
KindHas P w reach s K.When (a ∷ b ∷ []) = P reach V.Bool a × P reach s b
KindHas P w reach s (K.Foreach name way) (a ∷ b ∷ c ∷ body ∷ []) =
    (s ≡ V.Unit) × P reach V.Int a × P reach V.Int b × P reach V.Int c × ((t : Shape) × P (under reach (constant name V.Int ∷ [])) t body)
KindHas P w reach s K.While (measure ∷ condition ∷ body ∷ []) =
    (s ≡ V.Unit) × P reach V.Int measure × P reach V.Bool condition × ((t : Shape) × P reach t body)
KindHas P w reach s K.Repeat (measure ∷ body ∷ condition ∷ []) =
    (s ≡ V.Unit) × P reach V.Int measure × P reach V.Bool condition × ((t : Shape) × P reach t body)
KindHas P w reach s K.Return (a ∷ []) = (t : Shape) × (reach.answer ≡ Some t) × P reach t a
KindHas P w reach s K.Throw (a ∷ []) = (e : Shape) × IsThrown reach e × P reach e a
KindHas P w reach s K.Exit (a ∷ []) = (t : Shape) × P reach t a
KindHas P w reach s (K.Assert text) (a ∷ []) = (s ≡ V.Unit) × P reach V.Bool a
KindHas P w reach s kind parts = ⊥

-- a name in scope has a shape that no value has: then nothing here is reached
abbrev pub IsUnreached : Reach → Type 0
IsUnreached reach = (name : List ℕ) × (l : Local) × (local_of name reach.slots ≡ Some l) × IsEmpty reach l.shape

-- a core of a shape, by these rules, no deeper than this; a shape with what it leaves open filled is one too, and what isn't reached has each
abbrev pub IsShaped : ℕ → World Value → Reach → Shape → Core → Type 0
IsShaped zero w reach s c = ⊥
IsShaped (suc n) w reach s c =
    IsUnreached reach ⊎ ((t : Shape) × (fills t s ≡ true) × KindHas (IsShaped n w) w reach t (out-Core c).kind (out-Core c).parts)

-- ---- the law: a core by these rules is never stuck, but where a condition on sizes fails, and gives values of its shape

abbrev pub CoresGoOn : Type 0
CoresGoOn = (n : ℕ) (t : Table) (w : World Value) (reach : Reach) (s : Shape) (c : Core) → t.types ≡ reach.types → IsShaped n w reach s c
    → Has reach w s (checked t w c)
