use Rattle.std.proofs.Common.{◌≡◌, ◌∷◌, sym, subst, reverse, map, ap, ◌∙◌}
use Rattle.sail_names.specs.declared.locals.Entered.{Entered}
use Rattle.sail_names.specs.Locals.{binding_of}
use Rattle.sail_names.specs.parts.Entries.{AreKept, local_of}
use Rattle.sail_names.proofs.Kept.{bound_after, kept_inside, reverse_more}
use Rattle.sail_names.proofs.locals.Locals.enter.Goals as goal

pub invariant_of-self-in-Ok : goal.invariant_of-self-in-Ok
invariant_of-self-in-Ok c =
    let old = c.self.inside.bindings in
    let outer = reverse c.self.inside.entered.items in
    let inner : Entered = record { name = c.args.name; binding = c.args.binding; hidden = c.binding_of-hidden.result } in
    let items : reverse c.push.new.self.items ≡ inner ∷ outer = ap reverse c.in_ok-push.ensures.items ∙ reverse_more c.self.inside.entered.items inner in
    let hidden : inner.hidden ≡ binding_of c.args.name.now (map local_of outer) =
    c.binding_of-hidden.ensures ∙ ap (binding_of c.args.name.now) (sym c.self.view_is) in
    subst (AreKept c.insert.new.self) (sym items)
    (kept_inside old c.insert.new.self inner outer
    (bound_after old c.insert.new.self c.args.name.now _ c.in-Ok.ensures.updates) hidden c.self.invariant)
