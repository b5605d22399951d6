-- Local names go out of scope one after the other.
use Rattle.std.proofs.Common.{◌≡◌, ℕ, ◌+◌, ◌-◌, ◌<◌, suc, List, [], ◌∷◌, length, drop, sym, ap, ◌∙◌, arith}
use Rattle.std.proofs.lemmas.Grind.{common_steps}
use Rattle.sail_names.specs.Locals.{Local}

pub drop_one : (n : ℕ) (local : Local) (inner : List Local) → drop (n + 1) (local ∷ inner) ≡ drop n inner
drop_one n local inner = grind (arith, common_steps)

-- leaving one and then the rest is leaving them all
pub leave_more : (count : ℕ) (locals : List Local) → count < length locals
    → drop (length (drop 1 locals) - count) (drop 1 locals) ≡ drop (length locals - count) locals
leave_more count [] h = elim h [ ]
leave_more count (local ∷ locals) h =
    let less : count < suc (length locals) = h in
    let one : suc (length locals) - count ≡ (length locals - count) + 1 = omega arith in
    sym (ap (λ n. drop n (local ∷ locals)) one ∙ drop_one (length locals - count) local locals)
