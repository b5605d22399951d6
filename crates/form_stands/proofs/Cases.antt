-- `match` and `try`: their cases, under the names that each pattern binds.
use Rattle.std.proofs.Common.{◌≡◌, List, [], ◌∷◌, ◌++◌, append-nil, sym, refl, true, Option, Some, None}
use Rattle.sail_base.specs.declared.place.Place.{Place}
use Rattle.sail_syntax.specs.declared.words.Choosing.TheVariants.{Match, Try}
use Rattle.sail_types.specs.declared.shapes.Shape.{Shape}
use Rattle.sail_types.specs.declared.shapes.Shape.TheVariants as V
use Rattle.sail_types.specs.declared.values.Value.{Value}
use Rattle.sail_core.specs.declared.patterns.Arm.{Arm}
use Rattle.sail_core.specs.declared.tree.Core.{Core}
use Rattle.sail_core.specs.declared.tree.Kind.TheVariants as K
use Rattle.sail_core.specs.Making.{World}
use Rattle.shape_joins.specs.Filling.{fills}
use Rattle.shape_joins.proofs.JoinsLeast.{none}
use Rattle.shape_joins.proofs.Order.{fills_itself, fills_twice}
use Rattle.shape_rules.specs.declared.error.ShapeError.{ShapeError}
use Rattle.shape_rules.specs.declared.locals.Local.{Local}
use Rattle.shape_rules.specs.Findings.{Found, cast, given_on}
use Rattle.shape_rules.specs.Patterns.{Looked, look, no_widths}
use Rattle.shape_rules.specs.Scopes.{Locals, thrown_shape, under}
use Rattle.shape_rules.specs.Statements.{CasePart, Cases, cases_found, choose_found, guard_faults, guarded_core}
use Rattle.shape_rules.specs.Targets.{Part}
use Rattle.shape_meanings.specs.Keeping.{SeenAs, reach_of}
use Rattle.shape_meanings.specs.Whole.{Choice}
use Rattle.shape_meanings.proofs.Branches.{bool_exact, given_over}
use Rattle.shape_meanings.proofs.Lets.{seen_under}
use Rattle.shape_meanings.proofs.Trying.{thrown_put}
use Rattle.shape_progress.specs.Rules.{ArmsHave}
use Rattle.shape_stands.specs.Inside.{Inside, Position}
use Rattle.shape_stands.specs.Stands.{AreGiven, CasesStand, HasShape, IsShapedAt, MaybeStandsAt, Shaped, StandsAt}
use Rattle.shape_stands.proofs.Standing.{both_empty, cast_shaped, filled, has_wanted, ruled}

-- no name has a width of its own
pub none_given : (w : World Value) → AreGiven no_widths w
none_given w name n e = none e

-- a guard is a truth
pub guarded_shaped : (here : Position) (locals : Locals) (t : Shape) (guard : Option Part) (body : Core) → MaybeStandsAt here locals guard
    → guard_faults guard here.setting locals ≡ [] → Shaped here locals t body → Shaped here locals t (guarded_core guard here.setting locals body)
guarded_shaped here locals t None body maybe e h = h
guarded_shaped here locals t (Some g) body maybe e h =
    let found : Found = g.elaborate here.setting locals V.Bool in
    let truth = has_wanted here locals V.Bool V.Bool found (bool_exact found.shape) (maybe V.Bool e) in
    ruled here locals t g.place K.When (found.core ∷ body ∷ [])
    (λ registers c w inside slots seen. (truth registers c w inside slots seen, h registers c w inside slots seen))

-- cases to which values of this shape come, with bodies of that one
abbrev pub CasesShaped : Position → Locals → Shape → Shape → List Arm → List Core → Type 0
CasesShaped here locals subject t arms bodies =
    (registers : List Shape) (c : Choice) (w : World Value) → Inside here registers c w → (slots : List Local) → SeenAs slots locals
    → ArmsHave (HasShape w) w (reach_of here.setting registers c slots) (subject ∷ []) t arms bodies

pub cases_shaped : (cs : List CasePart) (here : Position) (locals : Locals) (subject want : Shape) → CasesStand here locals subject cs
    → (cases_found cs here.setting locals subject want).faults ≡ []
    → (fills want (cases_found cs here.setting locals subject want).shape ≡ true)
    × CasesShaped here locals subject (cases_found cs here.setting locals subject want).shape (cases_found cs here.setting locals subject want).arms
    (cases_found cs here.setting locals subject want).bodies
cases_shaped [] here locals subject want stand e = (fills_itself want, λ registers c w inside slots seen. tt)
cases_shaped (k ∷ cs) here locals subject want stand e =
    let p : Looked = look k.pattern here.setting no_widths subject in
    let inner : Locals = under p.binds locals in
    let a : Found = k.body.elaborate here.setting inner want in
    let next : Cases = cases_found cs here.setting locals subject (given_on want a.shape) in
    let guards : List ShapeError = guard_faults k.guard here.setting inner in
    let h = both_empty (p.faults ++ (guards ++ a.faults)) next.faults e in
    let h2 = both_empty p.faults (guards ++ a.faults) h.0 in
    let h3 = both_empty guards a.faults h2.1 in
    let case = stand.0 h2.0 in
    let body = case.3 want h3.1 in
    let given = given_over want a.shape body.0 in
    let others = cases_shaped cs here locals subject (given_on want a.shape) stand.1 h.1 in
    let t : Shape = next.shape in
    let whole = filled here inner a.shape t a.core (fills_twice a.shape (given_on want a.shape) t given.1 others.0) body.1 in
    let taken = guarded_shaped here inner t k.guard (cast a.core k.body.place) case.2 h3.0 (cast_shaped here inner t a.core k.body.place whole) in (
      fills_twice want (given_on want a.shape) t given.0 others.0,
      λ registers c w inside slots seen.
          let looks = case.0 registers c w inside (none_given w) slots in (
            (
              looks.0,
              p.binds,
              (p.binds, [], looks.1, refl, sym (append-nil p.binds)),
              taken registers c w inside (p.binds ++ slots) (seen_under p.binds slots locals case.1 seen),
            ),
            others.1 registers c w inside slots seen,
          ),
    )

pub match_shaped : (here : Position) (locals : Locals) (place : Place) (value : Part) (cs : List CasePart) → StandsAt here locals value.elaborate
    → CasesStand here locals (value.elaborate here.setting locals V.Never).shape cs → IsShapedAt here locals (choose_found place Match value cs)
match_shaped here locals place value cs stand cases want e =
    let a : Found = value.elaborate here.setting locals V.Never in
    let found : Cases = cases_found cs here.setting locals a.shape want in
    let h = both_empty a.faults found.faults e in
    let one = cast_shaped here locals a.shape a.core value.place (stand V.Never h.0).1 in
    let r = cases_shaped cs here locals a.shape want cases h.1 in
    ruled here locals found.shape place (K.Match found.arms found.shape) (cast a.core value.place ∷ found.bodies)
    (λ registers c w inside slots seen. (a.shape, one registers c w inside slots seen, r.1 registers c w inside slots seen))

-- what is thrown comes to the cases of a `try`
pub try_shaped : (here : Position) (locals : Locals) (place : Place) (value : Part) (cs : List CasePart) → StandsAt here locals value.elaborate
    → CasesStand here locals (thrown_shape here.setting) cs → IsShapedAt here locals (choose_found place Try value cs)
try_shaped here locals place value cs stand cases want e =
    let a : Found = value.elaborate here.setting locals want in
    let thrown : Shape = thrown_shape here.setting in
    let found : Cases = cases_found cs here.setting locals thrown (given_on want a.shape) in
    let h = both_empty a.faults found.faults e in
    let body = stand want h.0 in
    let given = given_over want a.shape body.0 in
    let r = cases_shaped cs here locals thrown (given_on want a.shape) cases h.1 in
    let whole = filled here locals a.shape found.shape a.core (fills_twice a.shape (given_on want a.shape) found.shape given.1 r.0) body.1 in
    let one = cast_shaped here locals found.shape a.core value.place whole in
    ruled here locals found.shape place (K.Try found.arms found.shape) (cast a.core value.place ∷ found.bodies)
    (λ registers c w inside slots seen. (
      thrown,
      thrown_put c here.setting.exception,
      one registers c w inside slots seen,
      r.1 registers c w inside slots seen,
    ))
