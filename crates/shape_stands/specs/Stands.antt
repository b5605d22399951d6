-- What is found of a form in which no failure is found stands by the rules of shapes: one statement for each of the trees of expressions.
use Rattle.std.specs.Prelude.{◌≡◌, ◌⊎◌, ℕ, Bool, true, false, List, [], ◌∷◌, ◌++◌, Option, Some, None}
use Rattle.std.specs.List.{list_all}
use Rattle.sail_base.specs.declared.place.Place.{Place}
use Rattle.sail_syntax.specs.declared.patterns.Pat.{Pat}
use Rattle.sail_types.specs.declared.numbers.Num.{Num}
use Rattle.sail_types.specs.declared.shapes.Shape.{Shape}
use Rattle.sail_types.specs.declared.values.Value.{Value}
use Rattle.sail_core.specs.declared.tree.Core.{Core}
use Rattle.sail_core.specs.declared.tree.Kind.{Kind}
use Rattle.sail_core.specs.declared.tree.Statement.{Statement}
use Rattle.sail_core.specs.Making.{World}
use Rattle.shape_joins.specs.Filling.{fills}
use Rattle.sail_names.specs.Known.{is_any}
use Rattle.shape_rules.specs.declared.locals.Local.{Local}
use Rattle.shape_rules.specs.Calls.{Elaborate}
use Rattle.shape_rules.specs.Findings.{Found, over}
use Rattle.shape_rules.specs.Patterns.{Looked, Piece, Widths, look, no_widths}
use Rattle.shape_rules.specs.Scopes.{Locals, under}
use Rattle.shape_rules.specs.Statements.{CasePart, FurtherPart, RangePart, StatementPart, chained_faults}
use Rattle.shape_rules.specs.Targets.{Aimed, IndexPart, Part, SuffixPart, TargetPart, field_part, at_part}
use Rattle.shape_rules.specs.Values.{FieldPart}
use Rattle.shape_meanings.specs.Keeping.{Reach, SeenAs, reach_of}
use Rattle.shape_meanings.specs.Parts.{EitherWay}
use Rattle.shape_meanings.specs.Whole.{Choice}
use Rattle.shape_progress.specs.Conditions.{given_in}
use Rattle.shape_progress.specs.PatternRules.{PatternBinds}
use Rattle.shape_progress.specs.Rules.{BlockHas, IsShaped, IsUnreached, KindHas, Rule}
use Rattle.shape_progress.specs.TargetRules.{TargetHas}
use Rattle.shape_stands.specs.Inside.{Inside, Position}

-- a core of this shape in a world, by the rules, whatever its depth
abbrev pub HasShape : World Value → Rule
HasShape w reach s core = (n : ℕ) × IsShaped n w reach s core

-- so it is in each world around it, whatever its variables stand for
abbrev pub Shaped : Position → Locals → Shape → Core → Type 0
Shaped here locals s core =
    (registers : List Shape) (c : Choice) (w : World Value) → Inside here registers c w → (slots : List Local) → SeenAs slots locals
    → HasShape w (reach_of here.setting registers c slots) s core

-- what is found where this shape is wanted stands: its shape is the wanted one, once filled, and its core has it
abbrev pub Stands : Position → Locals → Shape → Found → Type 0
Stands here locals want found = (fills want found.shape ≡ true) × Shaped here locals found.shape found.core

-- where no failure is found
abbrev pub FoundShaped : Position → Locals → Found → Type 0
FoundShaped here locals found = found.faults ≡ [] → Shaped here locals found.shape found.core

-- what is elaborated so has its shape, and stands, wherever no failure is found
abbrev pub IsShapedAt : Position → Locals → Elaborate → Type 0
IsShapedAt here locals el = (want : Shape) → FoundShaped here locals (el here.setting locals want)

abbrev pub StandsAt : Position → Locals → Elaborate → Type 0
StandsAt here locals el = (want : Shape) → (el here.setting locals want).faults ≡ [] → Stands here locals want (el here.setting locals want)

abbrev pub AllStandAt : Position → Locals → List Elaborate → Type 0
AllStandAt here locals [] = Unit {0}
AllStandAt here locals (e ∷ es) = StandsAt here locals e × AllStandAt here locals es

abbrev pub MaybeStandsAt : Position → Locals → Option Part → Type 0
MaybeStandsAt here locals None = Unit {0}
MaybeStandsAt here locals (Some part) = StandsAt here locals part.elaborate

-- the mappings by which a part converts in patterns are among those by which it can: nothing is asked of what is plain, in which there are none
abbrev pub Converting : Position → List ℕ → Type 0
Converting here numbers = is_any here.names.allowed ≡ true → list_all here.converts numbers ≡ true

-- ---- patterns

-- widths of bare names are numbers over what variables stand for
abbrev pub AreGiven : Widths → World Value → Type 0
AreGiven widths w = (name : List ℕ) (n : Num) → widths name ≡ Some n → given_in w.numbers n ≡ true

-- what is found of a pattern, to which values of this shape come, binds the names that are found
abbrev pub LooksShaped : Position → Widths → Shape → Looked → Type 0
LooksShaped here widths subject p =
    (registers : List Shape) (c : Choice) (w : World Value) → Inside here registers c w → AreGiven widths w → (slots : List Local)
    → (n : ℕ) × PatternBinds n (reach_of here.setting registers c slots) w subject p.binds p.pattern

-- a part of a pattern does, whatever shape comes to it
abbrev pub PieceStands : Position → Widths → Piece → Type 0
PieceStands here widths p =
    (subject : Shape) → (p.look here.setting widths subject).faults ≡ [] → LooksShaped here widths subject (p.look here.setting widths subject)

abbrev pub PiecesStand : Position → Widths → List Piece → Type 0
PiecesStand here widths [] = Unit {0}
PiecesStand here widths (p ∷ ps) = PieceStands here widths p × PiecesStand here widths ps

-- a pattern where no name has a width of its own, which binds no name twice
abbrev pub PatternStands : Position → Pat → Type 0
PatternStands here p =
    (subject : Shape) → (look p here.setting no_widths subject).faults ≡ []
    → LooksShaped here no_widths subject (look p here.setting no_widths subject) × EitherWay (look p here.setting no_widths subject).binds

-- ---- cases, statements, suffixes, fields, indexes, ranges

-- a case to which values of this shape come: its pattern, and under the names that this binds its guard and its body
abbrev pub CaseStands : Position → Locals → Shape → CasePart → Type 0
CaseStands here locals subject c =
    (look c.pattern here.setting no_widths subject).faults ≡ []
    → LooksShaped here no_widths subject (look c.pattern here.setting no_widths subject)
    × EitherWay (look c.pattern here.setting no_widths subject).binds
    × MaybeStandsAt here (under (look c.pattern here.setting no_widths subject).binds locals) c.guard
    × StandsAt here (under (look c.pattern here.setting no_widths subject).binds locals) c.body.elaborate

abbrev pub CasesStand : Position → Locals → Shape → List CasePart → Type 0
CasesStand here locals subject [] = Unit {0}
CasesStand here locals subject (c ∷ cs) = CaseStands here locals subject c × CasesStand here locals subject cs

-- a statement with whatever stands behind it, in each world
abbrev pub StatementStands : Position → Locals → StatementPart → Type 0
StatementStands here locals part =
    (part here.setting locals).faults ≡ []
    → (registers : List Shape) (c : Choice) (w : World Value) → Inside here registers c w → (slots : List Local) → SeenAs slots locals
    → (s : Shape) (ss : List Statement) (cs : List Core)
    → ((more : List Local) → SeenAs more (part here.setting locals).locals → BlockHas (HasShape w) w (reach_of here.setting registers c more) s ss cs)
    → BlockHas (HasShape w) w (reach_of here.setting registers c slots) s ((part here.setting locals).statement ∷ ss) ((part here.setting locals).part ∷ cs)

abbrev pub StatementsStand : Position → Locals → List StatementPart → Type 0
StatementsStand here locals [] = Unit {0}
StatementsStand here locals (s ∷ ss) =
    StatementStands here locals s × ((s here.setting locals).faults ≡ [] → StatementsStand here (s here.setting locals).locals ss)

abbrev pub IndexStands : Position → Locals → IndexPart → Type 0
IndexStands here locals index = StandsAt here locals index.first.elaborate × MaybeStandsAt here locals index.last

abbrev pub SuffixStands : Position → Locals → SuffixPart → Type 0
SuffixStands here locals (field_part name) = Unit {0}
SuffixStands here locals (at_part place index) = IndexStands here locals index

abbrev pub SuffixesStand : Position → Locals → List SuffixPart → Type 0
SuffixesStand here locals [] = Unit {0}
SuffixesStand here locals (s ∷ ss) = SuffixStands here locals s × SuffixesStand here locals ss

abbrev pub FieldsStand : Position → Locals → List FieldPart → Type 0
FieldsStand here locals [] = Unit {0}
FieldsStand here locals (f ∷ fs) = StandsAt here locals f.value.elaborate × FieldsStand here locals fs

abbrev pub RangeStands : Position → Locals → RangePart → Type 0
RangeStands here locals range =
    StandsAt here locals range.from.elaborate × StandsAt here locals range.to.elaborate × MaybeStandsAt here locals range.by

-- ---- targets

-- what is found of a target, with whatever is on its right, takes values of this shape and gives those of that one, where it counts; a base of parts is
-- read too
abbrev pub AimShaped : Position → Locals → Bool → Shape → Option Shape → Aimed → Type 0
AimShaped here locals is_base s answer a =
    (registers : List Shape) (c : Choice) (w : World Value) → Inside here registers c w → (slots : List Local) → SeenAs slots locals → (rest : List Core)
    → IsUnreached (reach_of here.setting registers c slots)
    ⊎ ((n : ℕ) × TargetHas n (HasShape w (reach_of here.setting registers c slots)) w (reach_of here.setting registers c slots) is_base s answer a.target
    (a.parts ++ rest) rest)

-- it takes those of its shape, once filled: as a target of an assignment, as one in a tuple, of which it doesn't count what it gives, and as the base of
-- parts, which is read too
abbrev pub AimStands : Position → Locals → Aimed → Type 0
AimStands here locals a = (s : Shape) → fills a.shape s ≡ true → AimShaped here locals false s (Some a.answer) a

abbrev pub PartAimStands : Position → Locals → Aimed → Type 0
PartAimStands here locals a = (s : Shape) → fills a.shape s ≡ true → AimShaped here locals false s None a

abbrev pub BaseStands : Position → Locals → Aimed → Type 0
BaseStands here locals a = AimShaped here locals true a.shape (Some a.answer) a

abbrev pub AimsStand : Position → Locals → List TargetPart → Type 0
AimsStand here locals [] = Unit {0}
AimsStand here locals (t ∷ ts) = ((t.aim here.setting locals).faults ≡ [] → PartAimStands here locals (t.aim here.setting locals)) × AimsStand here locals ts

-- further targets of an assignment, of each of which it is known in each part what it gives
abbrev pub FurtherStand : Position → Locals → List FurtherPart → Type 0
FurtherStand here locals [] = Unit {0}
FurtherStand here locals (f ∷ fs) =
    (chained_faults f.place (f.to.aim here.setting locals) ≡ [] → AimStands here locals (f.to.aim here.setting locals)) × FurtherStand here locals fs

-- ---- the laws: a node stands by its rule whatever the depths of its parts, and what has a shape has it with what that leaves open filled

abbrev pub NodesStand : Type 0
NodesStand =
    (w : World Value) (reach : Reach) (t s : Shape) (place : Place) (kind : Kind) (parts : List Core) → fills t s ≡ true
    → KindHas (HasShape w) w reach t kind parts → HasShape w reach s (over place kind parts)

abbrev pub FilledShapesStand : Type 0
FilledShapesStand =
    (w : World Value) (reach : Reach) (t s : Shape) (c : Core) → fills t s ≡ true → HasShape w reach t c → HasShape w reach s c
