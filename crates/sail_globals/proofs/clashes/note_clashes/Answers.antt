use Rattle.std.proofs.Common.{◌≡◌, ◌+◌, ◌∷◌, [], ◌++◌, take, drop, sym, ap, ◌∙◌, subst}
use Rattle.std.proofs.lemmas.List.{drop_more, take_more}
use Rattle.sail_kinds.specs.Failures.{first_failure}
use Rattle.sail_kinds.proofs.Firsts.{first_failure_append}
use Rattle.sail_globals.specs.Clashes.{clash, clashes_behind}
use Rattle.sail_globals.specs.Held.{spaces_at, AreHeld}
use Rattle.sail_globals.proofs.clashes.note_clashes.Goals as goal

pub loop-naming-preserved : goal.loop-naming-preserved
loop-naming-preserved c =
    let namings = c.args.namings.now in
    let index = c.loop-naming.naming-index in
    let naming = c.naming-item.result in
    let earlier = take index namings in
    let rest = drop (index + 1) namings in
    let next : drop index namings ≡ naming ∷ rest = drop_more namings index naming c.loop-naming-test.true ∙ ap (λ x. x ∷ rest) (sym c.naming-item.is) in
    let grown : take (index + 1) namings ≡ earlier ++ naming ∷ [] =
    take_more namings index naming c.loop-naming-test.true ∙ ap (λ x. earlier ++ x ∷ []) (sym c.naming-item.is) in record {
      held = subst (λ all. AreHeld all (spaces_at c.read.new.self.names)) (sym grown) (c.in_ok-read.ensures.held earlier c.loop-naming.invariant.held);
      failures = ap (λ all. first_failure c.read.new.first.error (clashes_behind all rest)) grown
          ∙ ap (λ kept. first_failure kept (clashes_behind (earlier ++ naming ∷ []) rest)) (c.in_ok-read.ensures.failures earlier c.loop-naming.invariant.held)
          ∙ sym (first_failure_append c.loop-naming.first.error (clash earlier naming) (clashes_behind (earlier ++ naming ∷ []) rest))
          ∙ ap (λ left. first_failure c.loop-naming.first.error (clashes_behind earlier left)) (sym next) ∙ c.loop-naming.invariant.failures;
    }
