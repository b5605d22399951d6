use Rattle.std.proofs.Common.{◌≡◌, ◌∷◌, subst, reverse, rules, ◌∙◌}
use Rattle.shape_rules.specs.parts.Entries.{AreKept}
use Rattle.shape_rules.proofs.Kept.{place_after, kept_outside, without_last}
use Rattle.shape_rules.proofs.locals.Locals.leave_one.Goals as goal

pub invariant_of-self-2 : goal.invariant_of-self-2
invariant_of-self-2 c =
    let old = c.self.inside.places in
    let now = c.insert.new.self in
    let last = c.in-Some.last.now in
    let rest = c.pop.new.self.items in
    let items : reverse c.self.inside.entered.items ≡ last ∷ reverse rest =
    without_last c.self.inside.entered.items rest last c.pop.result (search rules) c.pop.ensures.items (search rules) in
    kept_outside old now last (reverse rest)
    (place_after old now c.in_ok-key.key last.local.name last.hidden (c.in_ok-key.ensures.ok ∙ c.as_str.ensures) c.in_ok-insert.ensures.updates)
    (subst (AreKept old) items c.self.invariant)
