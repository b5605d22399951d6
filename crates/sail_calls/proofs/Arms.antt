-- The patterns of an arm, and its body under the names that they bind.
use Rattle.std.proofs.Common.{◌≡◌, refl, subst, ap, true, List, [], ◌∷◌, ◌++◌}
use Rattle.sail_core.specs.Meaning.{names_noted}
use Rattle.sail_core.specs.Run.{within, ◌then◌}
use Rattle.value_indices.specs.Steps.{bind}
use Rattle.pattern_leaves.specs.declared.names.Bound.{Bound}
use Rattle.pattern_notes.specs.Patterns.{arm_match}
use Rattle.call_arguments.specs.declared.aims.Aim.TheVariants as Aims
use Rattle.call_notes.specs.Noted.{names_given}
use Rattle.checked_meaning.specs.Checked.{checked}
use Rattle.soundness_steps.proofs.Points.{later_on}
use Rattle.soundness_steps.specs.Works.{here}
use Rattle.soundness_steps.proofs.Scenes.{naming}
use Rattle.soundness_steps.proofs.Steps.{binds, means}
use Rattle.soundness_forms.specs.Worlds.{Surrounds}
use Rattle.soundness_forms.proofs.Basics.{aim_on}
use Rattle.soundness_forms.proofs.NamesGiven.{names_run, nests}
use Rattle.soundness_forms.proofs.Worlds.{scope_on, surrounds_more, surrounds_on}
use Rattle.soundness_calls.proofs.Opens.{all_are_on}
use Rattle.sail_calls.specs.ArmLaws.{ArmsAreSound, clause_scene}

nothing_behind : (bs : List Bound) → bs ++ [] ≡ bs
nothing_behind [] = refl
nothing_behind (b ∷ bs) = ap (λ cs. b ∷ cs) (nothing_behind bs)

pub arms_sound : ArmsAreSound
arms_sound q w place arm body run guard matches h = λ giver n p there facts how r wanted is xs are.
    let s = clause_scene q w in
    let behind = λ (found : List Bound). body.walk (here q) found (Aims.Due r) in
    nests (arm_match place arm (here q) how is) (names_given giver is) behind
    (binds (λ found. bind (names_given giver is found) behind)
    (λ found. names_noted (checked q.set.around.types q.cases) giver xs found then λ t. within found run)
    (matches n p facts [] place how is xs there are) (λ m g fs found ls l b.
    names_run giver is xs (all_are_on q.set q.work is xs l are) found ls behind run b (λ m2 g2 fs2 l2.
    let known = subst (λ scope. Surrounds (naming b.names s) w g2 scope) (nothing_behind found)
    (surrounds_more s w g2 [] found b.names (scope_on q.set q.work l2 found b.names b.in_scope) (surrounds_on s w [] (later_on l l2) there)) in
    means (λ j g3 i x l3 c. record { belongs = c.met; typ = c.typ })
    (h.walks (b.names ++ q.names) true (λ e. refl) m2 g2 fs2 found (Aims.Due r) known (aim_on q.set q.work (Aims.Due r) (later_on l l2) wanted)))))
