use Rattle.std.proofs.Common.{◌≡◌, ◌∙◌, ℕ, [], ◌∷◌, ◌++◌, map, sym, ap, append_assoc, append-nil}
use Rattle.lowered_steps.proofs.Lists.{none_of, others, head_of}
use Rattle.std.proofs.lemmas.Result.{on_ok_weaker}
use Rattle.jib.specs.declared.code.Source.TheVariants as R
use Rattle.jib.specs.declared.code.Literal.TheVariants as L
use Rattle.lowered_steps.proofs.making.+push_units.Goals as goal

pub returns-in-empty : goal.returns-in-empty
returns-in-empty t c =
    sym (append-nil c.args.units.now) ∙ ap (λ us. c.args.units.now ++ map (λ (field : ℕ). R.Constant c.args.unit L.Unit) us)
    (sym (none_of c.args.fields.now c.in-empty.len_below))

pub returns-in_ok-push-in-len1-up : goal.returns-in_ok-push-in-len1-up
returns-in_ok-push-in-len1-up t c =
    on_ok_weaker c.push_units.result (λ (e : c.push_units.new.units ≡ c.push.new.self ++ map (λ (field : ℕ). R.Constant c.args.unit L.Unit)
    (others c.args.fields.now)).
    e ∙ ap (λ us. us ++ map (λ (field : ℕ). R.Constant c.args.unit L.Unit) (others c.args.fields.now)) c.in_ok-push-in-len1-up.ensures.pushed
    ∙ append_assoc c.args.units.now (R.Constant c.args.unit L.Unit ∷ []) (map (λ (field : ℕ). R.Constant c.args.unit L.Unit) (others c.args.fields.now))
    ∙ ap (λ us. c.args.units.now ++ map (λ (field : ℕ). R.Constant c.args.unit L.Unit) us) (sym (head_of c.args.fields.now 0 c.in-len1-up.len_at_least)))
    c.push_units.ensures
