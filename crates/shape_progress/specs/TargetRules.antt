-- The rule of shapes of each callee, and of each target of an assignment: which values it takes, and which ones it gives (Sail language manual,
-- "Functions", "Variables and assignment").
use Rattle.std.specs.Prelude.{◌≡◌, ◌⊎◌, ℕ, zero, suc, Bool, true, false, List, [], ◌∷◌, ◌++◌, length, slice_get, Option, Some, None, Contains}
use Rattle.sail_base.specs.declared.place.Place.{Place}
use Rattle.sail_types.specs.Named.{fields, field_types}
use Rattle.sail_types.specs.Rows.{row_members}
use Rattle.sail_types.specs.Shapes.{at, put, shape}
use Rattle.sail_types.specs.declared.members.Member.{Member}
use Rattle.sail_types.specs.declared.shapes.Shape.{Shape, out-Shape}
use Rattle.sail_types.specs.declared.shapes.Shape.TheOpen as S
use Rattle.sail_types.specs.declared.shapes.Shape.TheVariants as V
use Rattle.sail_types.specs.declared.table.Field.{Field}
use Rattle.sail_types.specs.declared.table.Types.{Types}
use Rattle.sail_types.specs.declared.types.Typ.{Typ}
use Rattle.sail_types.specs.declared.values.Value.{Value}
use Rattle.sail_types.specs.declared.values.Value.TheVariants as Val
use Rattle.sail_core.specs.declared.targets.Caller.{Caller}
use Rattle.sail_core.specs.declared.targets.Suffix.{Suffix}
use Rattle.sail_core.specs.declared.targets.Target.{Target, out-Target}
use Rattle.sail_core.specs.declared.targets.TargetKind.{TargetKind}
use Rattle.sail_core.specs.declared.targets.TargetKind.TheVariants as T
use Rattle.sail_core.specs.declared.targets.Way.{Way}
use Rattle.sail_core.specs.declared.targets.Way.TheVariants as Y
use Rattle.sail_core.specs.declared.tree.Callee.{Callee}
use Rattle.sail_core.specs.declared.tree.Callee.TheVariants as C
use Rattle.sail_core.specs.declared.tree.Core.{Core}
use Rattle.sail_core.specs.Making.{World}
use Rattle.sail_core.specs.Values.{payload_of}
use Rattle.shape_joins.specs.Filling.{fills}
use Rattle.shape_rules.specs.declared.locals.Local.{Local}
use Rattle.shape_rules.specs.Scopes.{local_of}
use Rattle.shape_meanings.specs.Whole.{Choice}
use Rattle.shape_meanings.specs.Keeping.{Fits, FitAll, Reach}
use Rattle.shape_progress.specs.Going.{GoesOn}

-- several parts, each as P says of a shape and a core
abbrev pub AllHave : (Shape → Core → Type 0) → List Shape → List Core → Type 0
AllHave P [] [] = Unit {0}
AllHave P (s ∷ ss) (c ∷ cs) = P s c × AllHave P ss cs
AllHave P ss cs = ⊥

-- ---- callees

-- a value of this shape, or any, where it doesn't count
abbrev pub GivesAs : Reach → Option Shape → Value → Type 0
GivesAs reach None v = Unit {0}
GivesAs reach (Some s) v = Fits reach.types reach.choice s v

-- a callee takes values of these shapes and gives one of this shape, where that counts: a builtin's member whatever its variable stands for, a constructor
-- a payload; a function and a direction of a mapping are as they are known to be: called on such values, they go on and give such a value
abbrev pub Takes : World Value → Reach → List Shape → Option Shape → Callee → Type 0
Takes w reach ss answer (C.Row row) =
    (m : Member) × (c : Choice) × Contains (row_members reach.types row) m × (m.row ≡ row)
    × ((vs : List Value) → FitAll reach.types reach.choice ss vs → FitAll reach.types c m.params vs)
    × ((v : Value) → Fits reach.types c m.answer v → GivesAs reach answer v)
Takes w reach ss answer (C.Constructor u k) =
    (vs : List Value) → FitAll reach.types reach.choice ss vs → GivesAs reach answer (Val.Union u k (payload_of vs))
Takes w reach ss answer (C.Function f) =
    (place : Place) (vs : List Value) → FitAll reach.types reach.choice ss vs → GoesOn reach w (GivesAs reach answer) (w.call place f None vs)
Takes w reach ss answer (C.Converts d) =
    (t : Shape) × (ss ≡ t ∷ []) × ((v : Value) → Fits reach.types reach.choice t v → GoesOn reach w (GivesAs reach answer) (w.enter d v))
Takes w reach ss answer callee = ⊥

-- ---- ways into values

-- bits have bits as items, a vector those of its shape
abbrev pub ItemHas : Shape → Shape → Type 0
ItemHas s t = ((out-Shape s ≡ S.Bits) × (t ≡ V.Bit)) ⊎ (out-Shape s ≡ S.Vector t)

-- a way into values of a shape, and what is asked of what it leads to and of the parts that are left
abbrev pub WayLeads : Types → (Shape → Core → Type 0) → Way → List Core → Shape → (List Core → Shape → Type 0) → Type 0
WayLeads types P (Y.Field i k) cs s more =
    (us : List Shape) × (fs : List Field) × (typ : Typ) × (out-Shape s ≡ S.Named i us) × (fields types i ≡ Some fs)
    × (slice_get (field_types fs) k ≡ Some typ) × more cs (put (at us) (shape typ))
WayLeads types P Y.Item (i ∷ cs) s more = P V.Int i × ((t : Shape) × ItemHas s t × more cs t)
WayLeads types P Y.Slice (hi ∷ lo ∷ cs) s more = P V.Int hi × P V.Int lo × (out-Shape s ≡ S.Bits) × more cs V.Bits
WayLeads types P way cs s more = ⊥

-- suffixes lead from values of a shape to parts of another one, by the first of these cores; the others are left
abbrev pub SuffixesLead : Types → (Shape → Core → Type 0) → List Suffix → List Core → List Core → Shape → Shape → Type 0
SuffixesLead types P [] cs rest s t = (cs ≡ rest) × (s ≡ t)
SuffixesLead types P (suffix ∷ ss) cs rest s t = WayLeads types P suffix.way cs s (λ ds u. SuffixesLead types P ss ds rest u t)

-- ---- targets

-- what is asked of a target inside: whether it is read too, which values it takes and gives, and which of these cores it leaves
abbrev pub Targeted : Type 1
Targeted = Bool → Shape → Option Shape → Target → List Core → List Core → Type 0

-- targets of a tuple, from left to right
abbrev pub EachTargeted : Targeted → List Shape → List Target → List Core → List Core → Type 0
EachTargeted Q [] [] cs rest = cs ≡ rest
EachTargeted Q (s ∷ ss) (t ∷ ts) cs rest = (left : List Core) × Q false s None t cs left × EachTargeted Q ss ts left rest
EachTargeted Q ss ts cs rest = ⊥

-- what reads the base of a part takes the arguments, and gives what the writer takes behind them
abbrev pub Reads : World Value → Reach → List Shape → Shape → Bool → Option Caller → Type 0
Reads w reach ss s false reader = Unit {0}
Reads w reach ss s true (Some caller) = Takes w reach ss (Some s) caller.callee
Reads w reach ss s true None = ⊥

-- what gives `()`
abbrev pub GivesUnit : Option Shape → Type 0
GivesUnit None = Unit {0}
GivesUnit (Some s) = s ≡ V.Unit

-- one case for each kind of target: for values of the shape s, giving those of `answer`, where that counts
abbrev pub TargetKindHas : Targeted → (Shape → Core → Type 0) → World Value → Reach → TargetKind → List Target → Bool → Shape → Option Shape → List Core
    → List Core → Type 0
TargetKindHas Q P w reach (T.Variable name) [] is_base s answer cs rest =
    (l : Local) × (local_of name reach.slots ≡ Some l) × (l.shape ≡ s) × GivesUnit answer × (cs ≡ rest)
TargetKindHas Q P w reach (T.Register r) [] is_base s answer cs rest =
    (slice_get reach.registers r ≡ Some (put reach.choice s)) × GivesUnit answer × (cs ≡ rest)
TargetKindHas Q P w reach (T.Call n reader writer) [] is_base s answer cs rest =
    (args : List Core) × (ss : List Shape) × (cs ≡ args ++ rest) × (n ≡ length args) × AllHave P ss args
    × Takes w reach (ss ++ s ∷ []) answer writer.callee × Reads w reach ss s is_base reader
TargetKindHas Q P w reach T.Tuple targets false s answer cs rest =
    (ss : List Shape) × (s ≡ V.Tuple ss) × GivesUnit answer × EachTargeted Q ss targets cs rest
TargetKindHas Q P w reach (T.Part suffixes) (base ∷ []) is_base s answer cs rest =
    (q : Shape) × (left : List Core) × Q true q answer base cs left × SuffixesLead reach.types P suffixes left rest q s
TargetKindHas Q P w reach kind targets is_base s answer cs rest = ⊥

-- a target, no deeper than this
abbrev pub TargetHas : ℕ → (Shape → Core → Type 0) → World Value → Reach → Targeted
TargetHas zero P w reach is_base s answer target cs rest = ⊥
TargetHas (suc n) P w reach is_base s answer target cs rest =
    TargetKindHas (TargetHas n P w reach) P w reach (out-Target target).kind (out-Target target).parts is_base s answer cs rest

-- a chain of targets, and behind their cores the value; what is on the right of a target is of its shape, once filled
abbrev pub AssignHas : (Shape → Core → Type 0) → World Value → Reach → Shape → List Target → List Core → Type 0
AssignHas P w reach s [] (value ∷ []) = P s value
AssignHas P w reach s (target ∷ targets) cs =
    (n : ℕ) × (q : Shape) × (a : Shape) × (left : List Core) × TargetHas n P w reach false q (Some s) target cs left × (fills a q ≡ true)
    × AssignHas P w reach a targets left
AssignHas P w reach s [] cs = ⊥
