-- What is needed of the parts of a form so that the form is right.
use Rattle.std.specs.Prelude.{◌≡◌, ℕ, Bool, true, false, bytes_eq, List, [], ◌∷◌, reverse, Option, Some, None}
use Rattle.sail_base.specs.declared.operators.Operator.{Operator}
use Rattle.sail_base.specs.declared.operators.Operator.TheVariants as O
use Rattle.sail_types.specs.declared.shapes.Shape.{Shape}
use Rattle.sail_types.specs.Shapes.{shape}
use Rattle.sail_types.specs.declared.types.Typ.{Typ}
use Rattle.sail_types.specs.declared.values.Value.{Value}
use Rattle.sail_syntax.specs.declared.types.TyExp.{TyExp}
use Rattle.sail_syntax.specs.declared.patterns.Pat.{Pat}
use Rattle.sail_core.specs.declared.tree.Statement.{Statement as CoreStatement}
use Rattle.sail_core.specs.declared.tree.Statement.TheVariants as T
use Rattle.sail_core.specs.declared.tree.Kind.{Kind}
use Rattle.sail_core.specs.declared.tree.Kind.TheVariants as K
use Rattle.sail_core.specs.Run.{Now, Run, gives, within, local, ◌then◌}
use Rattle.sail_core.specs.Making as Core
use Rattle.sail_core.specs.Making.{plainly}
use Rattle.sail_core.specs.declared.tree.Giver.TheVariants as Gives
use Rattle.sail_core.specs.Meaning as Means
use Rattle.sail_core.specs.Meaning.{core_meaning}
use Rattle.sail_meaning.specs.World as Source
use Rattle.sail_meaning.specs.Expressions.{Case, Statement, Field, index_of}
use Rattle.sail_meaning.specs.Targets.{Suffix, into_field}
use Rattle.sail_meaning.specs.Patterns.{matching}
use Rattle.shape_rules.specs.declared.locals.Local.{Local}
use Rattle.shape_rules.specs.Scopes.{Setting, Locals, local_of, under}
use Rattle.shape_rules.specs.Written.{typ_in}
use Rattle.shape_rules.specs.Calls.{Elaborate}
use Rattle.shape_rules.specs.Patterns.{look, no_widths}
use Rattle.shape_rules.specs.Targets.{Part, IndexPart, SuffixPart, field_part, at_part}
use Rattle.shape_rules.specs.Values.{FieldPart}
use Rattle.shape_rules.specs.Statements.{CasePart, StatementPart}
use Rattle.shape_meanings.specs.Whole.{Choice, below}
use Rattle.shape_meanings.specs.Keeping.{Fits, SeenAs, Good, reach_of, Agree}
use Rattle.shape_meanings.specs.Worlds.{Describes}
use Rattle.shape_meanings.specs.Matching.{LooksRight}
use Rattle.shape_meanings.specs.Sound.{Right}

-- what is elaborated so is right for what means this, whatever is wanted
abbrev pub IsRight : Setting → Locals → Elaborate → Source.Meaning → Type 0
IsRight setting locals el m = (want : Shape) → (el setting locals want).faults ≡ [] → Right setting locals want (el setting locals want) m

abbrev pub AreRight : Setting → Locals → List Elaborate → List Source.Meaning → Type 0
AreRight setting locals [] [] = Unit {0}
AreRight setting locals (e ∷ es) (m ∷ ms) = IsRight setting locals e m × AreRight setting locals es ms
AreRight setting locals es ms = ⊥

-- names of a pattern, of which no two are equal: whichever comes first
abbrev pub EitherWay : List Local → Type 0
EitherWay new = (name : List ℕ) → local_of name (reverse new) ≡ local_of name new

-- a part that can be left out
abbrev pub MaybeIs : Setting → Locals → Option Part → Option Source.Meaning → Type 0
MaybeIs setting locals None None = Unit {0}
MaybeIs setting locals (Some g) (Some m) = IsRight setting locals g.elaborate m
MaybeIs setting locals part m = ⊥

-- a case to which values of this shape come is right: its pattern, and under the names that this binds its guard and its body
abbrev pub CaseIs : Setting → Locals → Shape → CasePart → Case → Type 0
CaseIs setting locals subject c m =
    (m.pattern ≡ c.pattern)
    × ((look c.pattern setting no_widths subject).faults ≡ []
    → LooksRight setting no_widths subject (look c.pattern setting no_widths subject) (λ w. matching w c.pattern)
    × EitherWay (look c.pattern setting no_widths subject).binds
    × MaybeIs setting (under (look c.pattern setting no_widths subject).binds locals) c.guard m.guard
    × IsRight setting (under (look c.pattern setting no_widths subject).binds locals) c.body.elaborate m.body)

abbrev pub CasesAre : Setting → Locals → Shape → List CasePart → List Case → Type 0
CasesAre setting locals subject [] [] = Unit {0}
CasesAre setting locals subject (c ∷ cs) (m ∷ ms) = CaseIs setting locals subject c m × CasesAre setting locals subject cs ms
CasesAre setting locals subject cs ms = ⊥

-- two runs that agree, whatever they are made of, and give values of a shape
abbrev pub PairRuns : Setting → Locals → Shape → (Core.World Value → Run Value Value) → Source.Meaning → Type 0
PairRuns setting locals s kc m =
    (registers : List Shape) (c : Choice) (wc : Core.World Value) (ws : Source.World) → Describes setting registers wc ws
    → (slots : List Local) → SeenAs slots locals → (now : Now Value) → Good (reach_of setting registers c slots) now
    → Agree (reach_of setting registers c slots) (Fits setting.types c s) (kc wc now) (m ws now)

-- a statement of the core, over its part and the rest of its block
abbrev pub stated_run : Core.World Value → CoreStatement → Run Value Value → Run Value Value → Run Value Value
stated_run w T.Evaluate a rest = a then λ x. rest
stated_run w (T.Define place arm) a rest = a then λ x. Means.let_in plainly w (Gives.Node 0) place arm x rest
stated_run w (T.Declare name written) a rest = a then λ x. within (local name x ∷ []) rest

-- a statement that fails in nothing does what it means with whatever agrees behind it
abbrev pub StatementIs : Setting → Locals → StatementPart → Statement → Type 0
StatementIs setting locals part m =
    (part setting locals).faults ≡ [] → (t : Shape) (kc : Core.World Value → Run Value Value) (km : Source.Meaning)
    → PairRuns setting (part setting locals).locals t kc km
    → PairRuns setting locals t (λ wc. stated_run wc (part setting locals).statement (core_meaning wc (part setting locals).part) (kc wc)) (λ w. m w (km w))

-- and those behind one that fails in nothing are so where its names are in scope
abbrev pub StatementsAre : Setting → Locals → List StatementPart → List Statement → Type 0
StatementsAre setting locals [] [] = Unit {0}
StatementsAre setting locals (s ∷ ss) (m ∷ ms) =
    StatementIs setting locals s m × ((s setting locals).faults ≡ [] → StatementsAre setting (s setting locals).locals ss ms)
StatementsAre setting locals ss ms = ⊥

-- a type that is written, where one is, stands for one that leaves nothing open
abbrev pub TypIs : Setting → Option TyExp → Type 0
TypIs setting None = Unit {0}
TypIs setting (Some typ) = (t : Typ) × (typ_in setting.within typ ≡ Some t) × ((n : ℕ) × (below n (shape t) ≡ true))

-- a pattern is right, whatever shape comes to it, and binds no name twice
abbrev pub PatternIs : Setting → Pat → Type 0
PatternIs setting p =
    (subject : Shape) → (look p setting no_widths subject).faults ≡ []
    → LooksRight setting no_widths subject (look p setting no_widths subject) (λ w. matching w p) × EitherWay (look p setting no_widths subject).binds

-- `&`, or `|`
abbrev pub operator_of : Bool → Operator
operator_of true = O.And
operator_of false = O.Or

abbrev pub kind_of : Bool → Kind
kind_of true = K.And
kind_of false = K.Or

-- ---- indexes and suffixes

-- an index or a slice, and what it means
abbrev pub IndexIs : Setting → Locals → IndexPart → Suffix → Type 0
IndexIs setting locals index m =
    (first : Source.Meaning) × (last : Option Source.Meaning) × (m ≡ index_of first last)
    × IsRight setting locals index.first.elaborate first × MaybeIs setting locals index.last last

abbrev pub SuffixIs : Setting → Locals → SuffixPart → Suffix → Type 0
SuffixIs setting locals (field_part name) m = m ≡ (λ w. gives (into_field w.text.types name.text))
SuffixIs setting locals (at_part place index) m = IndexIs setting locals index m

abbrev pub SuffixesAre : Setting → Locals → List SuffixPart → List Suffix → Type 0
SuffixesAre setting locals [] [] = Unit {0}
SuffixesAre setting locals (s ∷ ss) (m ∷ ms) = SuffixIs setting locals s m × SuffixesAre setting locals ss ms
SuffixesAre setting locals ss ms = ⊥

-- fields with their values
abbrev pub FieldsAre : Setting → Locals → List FieldPart → List Field → Type 0
FieldsAre setting locals [] [] = Unit {0}
FieldsAre setting locals (f ∷ fs) (m ∷ ms) =
    (m.name ≡ f.name.text) × IsRight setting locals f.value.elaborate m.value × FieldsAre setting locals fs ms
FieldsAre setting locals fs ms = ⊥

-- no field is written twice
abbrev pub NotNamed : List ℕ → List FieldPart → Type 0
NotNamed name [] = Unit {0}
NotNamed name (f ∷ fs) = (bytes_eq f.name.text name ≡ false) × NotNamed name fs

abbrev pub NamesApart : List FieldPart → Type 0
NamesApart [] = Unit {0}
NamesApart (f ∷ fs) = NotNamed f.name.text fs × NamesApart fs
