-- What is assigned to: behind the arguments and indexes of a target, which come first, the core and the source write alike.
use Rattle.std.specs.Prelude.{◌≡◌, true, List, [], ◌∷◌, ◌++◌, map, Some}
use Rattle.sail_types.specs.declared.shapes.Shape.{Shape, out-Shape}
use Rattle.sail_types.specs.declared.values.Value.{Value}
use Rattle.sail_core.specs.declared.targets.Target.{Target}
use Rattle.sail_core.specs.declared.tree.Core.{Core}
use Rattle.sail_core.specs.Run.{Now, Run, ◌then◌}
use Rattle.sail_core.specs.Making as Core
use Rattle.sail_core.specs.Making.{plainly}
use Rattle.sail_core.specs.Meaning.{core_meaning}
use Rattle.sail_core.specs.Targets as Spots
use Rattle.sail_core.specs.Targets.{spotting}
use Rattle.shape_joins.specs.Filling.{fills}
use Rattle.sail_meaning.specs.World as Source
use Rattle.sail_meaning.specs.Targets as Written
use Rattle.shape_rules.specs.declared.locals.Local.{Local}
use Rattle.shape_rules.specs.Scopes.{Setting, Locals}
use Rattle.shape_rules.specs.Targets.{Aimed, TargetPart, SuffixPart, Led, led_form}
use Rattle.shape_rules.specs.Statements.{FurtherPart, chained_faults}
use Rattle.shape_meanings.specs.Whole.{Choice}
use Rattle.shape_meanings.specs.Keeping.{Fits, SeenAs, Reach, Good, reach_of, Agree}
use Rattle.shape_meanings.specs.Worlds.{Describes}

-- both write a value of this shape, or of one above it, alike, and give values of which this holds
abbrev pub WritesAlike : Reach → Shape → (Value → Type 0) → (Value → Run Value Value) → (Value → Run Value Value) → Type 0
WritesAlike reach s P kc km =
    (t : Shape) → fills s t ≡ true → (v : Value) → Fits reach.types reach.choice t v → (now : Now Value) → Good reach now
    → Agree reach P (kc v now) (km v now)

-- and give values of a shape
abbrev pub WritesAs : Reach → Shape → Shape → (Value → Run Value Value) → (Value → Run Value Value) → Type 0
WritesAs reach s answer kc km = WritesAlike reach s (Fits reach.types reach.choice answer) kc km

-- both read values of this shape alike, and write one that is made of what was read
abbrev pub ReadsAs : Reach → Shape → Run Value Value → Run Value Value → Type 0
ReadsAs reach s kc km = (now : Now Value) → Good reach now → Agree reach (Fits reach.types reach.choice s) (kc now) (km now)

abbrev pub RenewsAs : Reach → Shape → Shape → (Value → Run Value Value) → (Value → Run Value Value) → Type 0
RenewsAs reach s answer kc km =
    (v : Value) → Fits reach.types reach.choice s v → (now : Now Value) → Good reach now
    → Agree reach (Fits reach.types reach.choice answer) (kc v now) (km v now)

-- both find a target behind its parts, and whatever they go on with agrees, if it agrees on targets that are alike
abbrev pub SpotRuns : Setting → Locals → (Reach → Spots.Spot Value → Written.Spot → Type 0) → Target → List Core → Written.Target → Type 0
SpotRuns setting locals Alike target parts m =
    (registers : List Shape) (c : Choice) (wc : Core.World Value) (ws : Source.World) → Describes setting registers wc ws
    → (slots : List Local) → SeenAs slots locals
    → (t : Shape) (rest : List (Run Value Value)) (kc : Spots.Spotted Value (Spots.Spot Value) → Run Value Value) (km : Written.Spot → Run Value Value)
    → ((x : Spots.Spot Value) (y : Written.Spot) → Alike (reach_of setting registers c slots) x y → (here : Now Value)
    → Good (reach_of setting registers c slots) here
    → Agree (reach_of setting registers c slots) (Fits setting.types c t) (kc (record { found = x; left = rest }) here) (km y here))
    → (now : Now Value) → Good (reach_of setting registers c slots) now
    → Agree (reach_of setting registers c slots) (Fits setting.types c t)
    ((spotting plainly wc target (map (core_meaning wc) parts ++ rest) then kc) now) ((m ws then km) now)

-- a target of an assignment, one in a tuple, of which it doesn't count what it gives, and one in which a part is replaced
abbrev pub AimIs : Setting → Locals → Aimed → Written.Target → Type 0
AimIs setting locals a m = SpotRuns setting locals (λ reach x y. WritesAs reach a.shape a.answer x.write y.write) a.target a.parts m

abbrev pub PartAimIs : Setting → Locals → Aimed → Written.Target → Type 0
PartAimIs setting locals a m = SpotRuns setting locals (λ reach x y. WritesAlike reach a.shape (λ v. Unit {0}) x.write y.write) a.target a.parts m

abbrev pub BaseIs : Setting → Locals → Aimed → Written.Target → Type 0
BaseIs setting locals a m =
    SpotRuns setting locals (λ reach x y. ReadsAs reach a.shape x.read y.read × RenewsAs reach a.shape a.answer x.renew y.write) a.target a.parts m

abbrev pub AimsAre : Setting → Locals → List TargetPart → List Written.Target → Type 0
AimsAre setting locals [] [] = Unit {0}
AimsAre setting locals (t ∷ ts) (m ∷ ms) =
    ((t.aim setting locals).faults ≡ [] → PartAimIs setting locals (t.aim setting locals) m) × AimsAre setting locals ts ms
AimsAre setting locals ts ms = ⊥

-- further targets of an assignment, each of which gives what is known in each part
abbrev pub FurtherAre : Setting → Locals → List FurtherPart → List Written.Target → Type 0
FurtherAre setting locals [] [] = Unit {0}
FurtherAre setting locals (f ∷ fs) (m ∷ ms) =
    (chained_faults f.place (f.to.aim setting locals) ≡ [] → AimIs setting locals (f.to.aim setting locals) m) × FurtherAre setting locals fs ms
FurtherAre setting locals fs ms = ⊥

-- each suffix leads into what is there
abbrev pub Leads : List SuffixPart → Setting → Shape → Type 0
Leads [] setting s = Unit {0}
Leads (x ∷ xs) setting s = (led : Led) × (led_form setting x (out-Shape s) ≡ Some led) × Leads xs setting led.shape
