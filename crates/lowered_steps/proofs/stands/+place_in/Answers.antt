use Rattle.std.proofs.Common.{◌∙◌, map, sym, ap}
use Rattle.lowered_steps.proofs.Standing.{found_place, no_place}
use Rattle.lowered_steps.specs.Stands.{scope_of, named_of}
use Rattle.lowered_pieces.specs.Forms.{place_of}
use Rattle.lowered_steps.proofs.stands.+place_in.Goals as goal

pub returns-in-Some : goal.returns-in-Some
returns-in-Some t c =
    sym (ap (λ s. place_of (scope_of s) c.args.name.now) c.in-Inside.is
    ∙ found_place (map named_of c.in-Inside.names.now) (scope_of c.in-Inside.outer.now) c.args.name.now c.in-Some.place
    (sym c.place_among.ensures ∙ c.in-Some.is))

pub returns-in-None : goal.returns-in-None
returns-in-None t c =
    c.place_in.ensures ∙ sym (ap (λ s. place_of (scope_of s) c.args.name.now) c.in-Inside.is
    ∙ no_place (map named_of c.in-Inside.names.now) (scope_of c.in-Inside.outer.now) c.args.name.now (sym c.place_among.ensures ∙ c.in-None.is))
