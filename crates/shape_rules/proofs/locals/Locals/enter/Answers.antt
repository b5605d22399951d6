use Rattle.std.proofs.Common.{◌≡◌, ℕ, ◌∷◌, List, Some, cond, bytes_eq, length, sym, subst, reverse, ap, ◌∙◌, rules, arith}
use Rattle.std.proofs.lemmas.List.{length-reverse}
use Rattle.shape_rules.specs.declared.locals.Entered.{Entered}
use Rattle.shape_rules.specs.parts.Entries.{AreKept, place_in, place_of}
use Rattle.shape_rules.proofs.Kept.{place_after, kept_inside, reverse_more}
use Rattle.shape_rules.proofs.locals.Locals.enter.Goals as goal

pub invariant_of-self-in-Ok : goal.invariant_of-self-in-Ok
invariant_of-self-in-Ok c =
    let old = c.self.inside.places in
    let now = c.insert.new.self in
    let entered = c.self.inside.entered.items in
    let name = c.args.local.name in
    let inner : Entered = record { local = c.args.local; hidden = c.place_in-hidden.result } in
    let items : reverse c.push.new.self.items ≡ inner ∷ reverse entered = ap reverse c.in_ok-push.ensures.items ∙ reverse_more entered inner in
    let hidden : inner.hidden ≡ place_of name (reverse entered) =
    c.place_in-hidden.ensures ∙ ap (place_in old) c.as_str-2.ensures ∙ c.self.invariant.found name in
    let count : c.len-place.result ≡ length entered = first_of (search rules, grind (arith, rules)) in
    let place : c.len-place.result ≡ length (reverse entered) = count ∙ sym (length-reverse entered) in
    let after : (other : List ℕ) → place_in now other ≡ cond (bytes_eq name other) (Some (length (reverse entered))) (place_in old other) =
    λ other. place_after old now c.in_ok-key.key name (Some c.len-place.result) (c.in_ok-key.ensures.ok ∙ c.as_str.ensures) c.in-Ok.ensures.updates other
    ∙ ap (λ (n : ℕ). cond (bytes_eq name other) (Some n) (place_in old other)) place in
    subst (AreKept now) (sym items) (kept_inside old now inner (reverse entered) after hidden c.self.invariant)
