use Rattle.std.proofs.Common.{◌≡◌, ◌∷◌, subst, reverse, rules}
use Rattle.sail_names.specs.parts.Entries.{AreKept}
use Rattle.sail_names.proofs.Kept.{bound_after, kept_outside, without_last}
use Rattle.sail_names.proofs.locals.Locals.leave_one.Goals as goal

pub invariant_of-self-2 : goal.invariant_of-self-2
invariant_of-self-2 c =
    let old = c.self.inside.bindings in
    let items : reverse c.self.inside.entered.items ≡ c.in-Some.last ∷ reverse c.pop.new.self.items =
    without_last c.self.inside.entered.items c.pop.new.self.items c.in-Some.last c.pop.result (search rules) c.pop.ensures.items (search rules) in
    kept_outside old c.insert.new.self c.in-Some.last (reverse c.pop.new.self.items)
    (bound_after old c.insert.new.self c.in-Some.last.name.now _ c.in_ok-insert.ensures.updates)
    (subst (AreKept old) items c.self.invariant)
