use Rattle.std.proofs.Common.{length, refl, arith}
use Rattle.std.proofs.lemmas.Option.{slice_get_read}
use Rattle.sail_parse_def.proofs.Refusals.{unfit_within, forbidden_within, refuse_unfit, refuse_forbidden}
use Rattle.sail_parse_def.proofs.model.refuse.Goals as goal

pub overflow_sub-count : goal.overflow_sub-count
overflow_sub-count c =
    unfit_within c.args.all.now c.args.count c.args.end c.requires.within c.requires.first c.args.error c.in-Unfit.left c.in-Unfit.is c.requires.stop

pub refuse_token-requires : goal.refuse_token-requires
refuse_token-requires c =
    let le = unfit_within c.args.all.now c.args.count c.args.end c.requires.within c.requires.first c.args.error c.in-Unfit.left c.in-Unfit.is
    c.requires.stop in
    omega (arith, le, c.requires.within, c.if-left-eq0.false)

pub returns-else-left-eq0 : goal.returns-else-left-eq0
returns-else-left-eq0 c =
    refuse_unfit c.args.all.now c.args.count c.args.end c.requires.within c.requires.first c.args.error c.in-Unfit.left c.refuse_token.result
    c.in-Unfit.is c.requires.stop (omega (arith, c.if-left-eq0.false)) c.refuse_token.ensures

pub overflow_sub-count-in-Forbidden : goal.overflow_sub-count-in-Forbidden
overflow_sub-count-in-Forbidden c =
    (forbidden_within c.args.all.now c.args.count c.args.end c.requires.within c.requires.first c.args.error _
    c.in-Forbidden.begun c.in-Forbidden.is c.requires.stop).1

pub bounds-all-count : goal.bounds-all-count
bounds-all-count c =
    let le = forbidden_within c.args.all.now c.args.count c.args.end c.requires.within c.requires.first c.args.error _
    c.in-Forbidden.begun c.in-Forbidden.is c.requires.stop in
    omega (arith, le.0, le.1, c.requires.within)

pub returns-in-Forbidden : goal.returns-in-Forbidden
returns-in-Forbidden c =
    let le = forbidden_within c.args.all.now c.args.count c.args.end c.requires.within c.requires.first c.args.error _
    c.in-Forbidden.begun c.in-Forbidden.is c.requires.stop in
    refuse_forbidden c.args.all.now c.args.count c.args.end c.requires.within c.requires.first c.args.error _
    c.in-Forbidden.begun c.index-all-count.result c.outside.result c.in-Forbidden.is c.requires.stop
    (slice_get_read c.args.all.now (length c.args.all.now) _ c.index-all-count.result refl (omega (arith, le.0, le.1, c.requires.within))
    c.index-all-count.is) c.outside.ensures
