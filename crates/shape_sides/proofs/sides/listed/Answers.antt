use Rattle.std.proofs.Common.{◌≡◌, length, refl, sym, ap, ◌∙◌, Result, Ok, Err, IfOk}
use Rattle.shape_rules.specs.Around.{setting_of}
use Rattle.shape_rules.specs.Findings.{first_failure, Found}
use Rattle.shape_rules.specs.Scopes.{Locals}
use Rattle.shape_calls.specs.Made.{made_of}
use Rattle.shape_sides.proofs.Listed.{listed_bare, listed_refused}
use Rattle.shape_sides.proofs.sides.listed.Goals as goal

-- what is made whatever names are in scope
at_names : {A E : Type 0} (r : Result A E) (x : Locals → A) (locals : Locals) (y : A) → IfOk r (λ made. (names : Locals) → made ≡ x names) → x locals ≡ y
    → IfOk r (λ made. made ≡ y)
at_names (Ok made) x locals y h is = h locals ∙ is
at_names (Err e) x locals y h is = tt

pub returns-then-count-eq0-clause-made : goal.returns-then-count-eq0-clause-made
returns-then-count-eq0-clause-made g c =
    at_names c.bare.result _ c.args.locals.now _ c.bare.ensures.made
    (ap made_of (sym (listed_bare c.args.head c.args.parts.now (setting_of c.args.around.now) c.args.locals.now c.args.want.now
    (length c.args.parts.now) refl c.if-count-eq0.true)))

pub returns-in-Some-clause-failures : goal.returns-in-Some-clause-failures
returns-in-Some-clause-failures g c =
    c.refused.ensures.failures
    ∙ ap (λ (a : Found). first_failure c.args.first.now.error a.faults)
    (sym (listed_refused c.args.head c.args.parts.now (setting_of c.args.around.now) c.args.locals.now c.args.want.now
    (length c.args.parts.now) c.in-Some.error refl c.if-count-eq0.false (sym c.count_failure.ensures ∙ c.in-Some.is)))
