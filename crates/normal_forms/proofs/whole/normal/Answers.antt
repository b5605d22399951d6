use Rattle.std.proofs.Common.{◌≡◌, sym, ap, ◌∙◌, subst, Option, None}
use Rattle.std.specs.Option.{IsSome}
use Rattle.sail_kinds.specs.declared.error.TableError.{TableError}
use Rattle.sail_kinds.specs.Failures.{first_failure}
use Rattle.sail_kinds.specs.Normal.{reading}
use Rattle.sail_kinds.specs.Scopes.{within}
use Rattle.normal_forms.proofs.Readings.{whole_read}
use Rattle.normal_forms.proofs.whole.normal.Goals as goal

pub unwrap-requires : goal.unwrap-requires
unwrap-requires c =
    let t = c.args.typ.now in
    let w = within c.args.scope.now in
    let fs = (reading t w).failures in
    let none : first_failure None fs ≡ None =
    ap (λ (kept : Option TableError). first_failure kept fs) (sym c.none-first.ensures)
    ∙ sym c.in_ok-normal.ensures.failures ∙ sym c.take.ensures.value ∙ c.in-None.is in
    subst IsSome (sym c.in_ok-normal.ensures.normal) (whole_read t w c.requires (c.first_failures_are_least.ensures.none fs none))
