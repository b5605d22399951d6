use Rattle.std.proofs.Common.{◌≡◌, ◌++◌, drop, map, Some}
use Rattle.linear.specs.Choices.{all_of, then_do, choice_of}
use Rattle.linear.proofs.choosing.+choosing.Given as goal

abbrev pub invariant-choose_each-loop-con : goal.invariant-choose_each-loop-con
invariant-choose_each-loop-con l = then_do (all_of (map (λ con. choice_of l.atoms con l.truth) (drop l.con-index l.cons))) (λ rest. Some (l.choices
    ++ rest)) ≡ all_of (map (λ con. choice_of l.atoms con l.truth) l.cons)
