use Rattle.std.proofs.Common.{◌≡◌, ◌∙◌, ◌∷◌, ◌++◌, ap, [], SFits, of_z, rules, to_z}
use Rattle.std.proofs.lemmas.Int.{to_z-of_z}
use Rattle.std.proofs.lemmas.Result.{on_ok_weaker}
use Rattle.std.specs.Int.{w128}
use Rattle.std.specs.Prelude.{ℤ}
use Rattle.size_values.specs.declared.sized.Sized.TheVariants as Z
use Rattle.lowered_typed.proofs.heads.push_bits.Goals as goal

pub returns : goal.returns
returns c =
    let z : ℤ = to_z w128 (of_z w128 c.in_ok-bits.bits) in let fits : SFits w128 c.in_ok-bits.bits = search rules in
    on_ok_weaker c.push.result (λ (e : c.push.new.self ≡ c.args.types.now ++ Z.Bits z ∷ []). e
    ∙ ap (λ (y : ℤ). c.args.types.now ++ Z.Bits y ∷ []) (to_z-of_z w128 c.in_ok-bits.bits fits ∙ c.in_ok-bits.ensures)) c.push.ensures.pushed
