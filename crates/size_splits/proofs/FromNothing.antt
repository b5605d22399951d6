-- Types that are opened from nothing, as the code opens them.
use Rattle.std.proofs.Common.{◌≡◌, ◌∙◌, ℕ, List, ap, sym}
use Rattle.value_indices.specs.Opening.{opened}
use Rattle.value_indices.specs.Walking.{Written, begun, got, run, seen, steps_read}
use Rattle.value_indices.specs.declared.indices.Reading.{Reading}
use Rattle.value_indices.specs.declared.notes.Step.{Step}
use Rattle.value_indices.specs.declared.walking.Walking.{Walking}
use Rattle.size_splits.specs.Reading.{named_in}
use Rattle.size_splits.specs.Sizing.{facts_at, first_bound, first_named, indices_at}
use Rattle.size_splits.proofs.Notes.{named_behind}

pub opened_named : (walking : Walking) (r : Reading) (steps : List Step) (u : Written) → u ≡ begun 0 → seen walking ≡ run (opened r) u
    → steps ≡ walking.steps → named_in steps ≡ first_bound r
unfolding run seen
opened_named walking r steps u start walked is =
    sym (named_behind (begun 0) steps)
    ∙ (ap (λ ss. first_named (steps_read (begun 0) ss).notes) is
    ∙ ap (λ (v : Written). first_named v.notes) (walked ∙ ap (run (opened r)) start))

pub opened_value : (r : Reading) (n : ℕ) (u : Written) → u ≡ begun n → got (opened r) u ≡ indices_at r n
unfolding got
opened_value r n u start = ap (got (opened r)) start

pub opened_facts : (r : Reading) (n : ℕ) (u v : Written) → u ≡ begun n → v ≡ run (opened r) u → v.facts ≡ facts_at r n
unfolding run
opened_facts r n u v start walked = ap (λ (w : Written). w.facts) (walked ∙ ap (run (opened r)) start)
