-- `let` and `var` with what stands behind them, and `var` in a block.
use Rattle.std.proofs.Common.{◌≡◌, [], ◌∷◌, ◌++◌, ap, ◌∙◌, refl, subst, Option, Some, None, is_some}
use Rattle.sail_base.specs.declared.place.Place.{Place}
use Rattle.sail_types.specs.declared.values.Value.{Value}
use Rattle.sail_syntax.specs.declared.name.Name.{Name}
use Rattle.sail_syntax.specs.declared.types.TyExp.{TyExp}
use Rattle.sail_syntax.specs.declared.patterns.Pat.{Pat}
use Rattle.sail_core.specs.Run.{Run, goes_on, within, local}
use Rattle.sail_core.specs.Meaning.{core_meaning}
use Rattle.sail_meaning.specs.World as Source
use Rattle.sail_meaning.specs.Expressions.{let_in, var_in}
use Rattle.shape_rules.specs.declared.locals.Local.{Local}
use Rattle.shape_rules.specs.Findings.{Found}
use Rattle.shape_rules.specs.Scopes.{Setting, Locals, under}
use Rattle.shape_rules.specs.Written.{shape_in, shape_or_never}
use Rattle.shape_rules.specs.Patterns.{Looked, look, no_widths, wanted_by, written_shape, has_typ}
use Rattle.shape_rules.specs.Targets.{Part}
use Rattle.shape_rules.specs.Statements.{bound, hole_faults, typ_faults, written_if, declared_shape, Declaring, declaring, declared_as, let_found}
use Rattle.shape_rules.specs.Statements.{var_found}
use Rattle.shape_meanings.specs.Whole.{below}
use Rattle.shape_meanings.specs.Keeping.{Fits, Reach, reach_of}
use Rattle.shape_meanings.specs.Parts.{IsRight, PatternIs, StatementIs, TypIs}
use Rattle.shape_meanings.specs.Sound.{Right}
use Rattle.shape_meanings.proofs.Orders.{exact}
use Rattle.shape_meanings.proofs.Runs.{then_agree, within_agrees}
use Rattle.shape_meanings.proofs.Settling.{RunsAs, both_empty}
use Rattle.shape_meanings.proofs.Branches.{cast_means}
use Rattle.shape_meanings.proofs.Lets.{let_runs, var_runs, seen_behind}

-- the values that a `var` begins with have its shape
declared_runs : (setting : Setting) (locals : Locals) (typ : Option TyExp) (found : Found) (m : Source.Meaning) → TypIs setting typ
    → Right setting locals (written_shape setting typ) found m → RunsAs setting locals (declared_shape setting typ found.shape) found.core m
declared_runs setting locals None found m is r = r.runs
declared_runs setting locals (Some typ) found m is r =
    subst (λ s. RunsAs setting locals s found.core m)
    (exact (shape_in setting.within typ) found.shape is.2.0 r.above (ap (below is.2.0) (ap shape_or_never is.1) ∙ is.2.1)) r.runs

-- ---- `let .. in` and `var .. in`

pub let_right : (setting : Setting) (locals : Locals) (place : Place) (p : Pat) (a body : Part) (ma mb : Source.Meaning)
    → IsRight setting locals a.elaborate ma → PatternIs setting p → IsRight setting (under (bound place p a setting locals).binds locals) body.elaborate mb
    → IsRight setting locals (let_found place p a body) (λ w. let_in w place p (ma w) (mb w))
let_right setting locals place p a body ma mb ra pattern rb want e =
    let found : Found = a.elaborate setting locals (wanted_by setting p) in
    let looks : Looked = look p setting no_widths found.shape in
    let inner : Found = body.elaborate setting (under looks.binds locals) want in
    let h = both_empty ((found.faults ++ hole_faults place (has_typ p) found.shape) ++ looks.faults) inner.faults e in
    let h2 = both_empty (found.faults ++ hole_faults place (has_typ p) found.shape) looks.faults h.0 in
    let h3 = both_empty found.faults (hole_faults place (has_typ p) found.shape) h2.0 in
    let q = pattern found.shape h2.1 in
    let r = rb want h.1 in
    record {
      above = r.above;
      runs = let_runs setting locals place a.place found.shape inner.shape found.core inner.core looks p ma mb (ra (wanted_by setting p) h3.0).runs q.0 q.1
          r.runs;
    }

pub var_right : (setting : Setting) (locals : Locals) (place : Place) (name : Name) (typ : Option TyExp) (a body : Part) (ma mb : Source.Meaning)
    → TypIs setting typ → IsRight setting locals a.elaborate ma
    → ((declaring place name typ a setting locals).faults ≡ []
    → IsRight setting ((declaring place name typ a setting locals).local ∷ locals) body.elaborate mb)
    → IsRight setting locals (var_found place name typ a body) (λ w. var_in name.text (ma w) (mb w))
var_right setting locals place name typ a body ma mb is ra rb want e =
    let found : Found = a.elaborate setting locals (written_shape setting typ) in
    let d : Declaring = declaring place name typ a setting locals in
    let inner : Found = body.elaborate setting (d.local ∷ locals) want in
    let h = both_empty d.faults inner.faults e in
    let h2 = both_empty (typ_faults setting typ ++ found.faults) (hole_faults place (is_some typ) found.shape) h.0 in
    let h3 = both_empty (typ_faults setting typ) found.faults h2.0 in
    let r = rb h.0 want h.1 in
    record {
      above = r.above;
      runs = var_runs setting locals place a.place d.local (written_if setting typ) inner.shape found.core inner.core ma mb
          (declared_runs setting locals typ found ma is (ra (written_shape setting typ) h3.1)) r.runs;
    }

-- ---- `var` in a block

pub declare_is : (setting : Setting) (locals : Locals) (place : Place) (name : Name) (typ : Option TyExp) (a : Part) (m : Source.Meaning)
    → TypIs setting typ → IsRight setting locals a.elaborate m
    → StatementIs setting locals (λ setting locals. declared_as name (declaring place name typ a setting locals) locals) (λ w rest. var_in name.text (m w) rest)
declare_is setting locals place name typ a m is right e t kc km rest registers c wc ws d slots seen now good =
    let found : Found = a.elaborate setting locals (written_shape setting typ) in
    let l : Local = (declaring place name typ a setting locals).local in
    let h = both_empty (typ_faults setting typ ++ found.faults) (hole_faults place (is_some typ) found.shape) e in
    let h2 = both_empty (typ_faults setting typ) found.faults h.0 in
    let reach : Reach = reach_of setting registers c slots in
    let Q : Value → Type 0 = Fits setting.types c t in
    let r = then_agree reach (Fits setting.types c l.shape) Q (core_meaning wc found.core now) (m ws now)
    (λ v. within (local name.text v ∷ []) (kc wc)) (λ v. within (local name.text v ∷ []) (km ws))
    (declared_runs setting locals typ found m is (right (written_shape setting typ) h2.1) registers c wc ws d slots seen now good)
    (λ v later fit good2. within_agrees reach Q (l ∷ []) (local name.text v ∷ []) (kc wc) (km ws) later good2 (refl, fit, tt)
    (λ here good3. rest registers c wc ws d (l ∷ slots) (seen_behind l slots locals seen) here good3)) in (
      ap (λ (x : Run Value Value). goes_on (x now) (λ v. within (local name.text v ∷ []) (kc wc))) (cast_means wc found.core a.place) ∙ r.0,
      r.1,
    )
