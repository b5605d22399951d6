use Rattle.std.proofs.Common.{◌≡◌, length, sym, ap, ◌∙◌, subst, take, Result, Ok, Err}
use Rattle.std.specs.Prelude.{OnOk}
use Rattle.value_indices.specs.Force.{IsInForce}
use Rattle.value_indices.specs.Walking.{step_read}
use Rattle.fact_index.specs.Filed.{IsFiled, IsFiledBelow}
use Rattle.fact_index.proofs.Filing.{kept_filed}
use Rattle.constraint_gen.proofs.Keeping.{kept_read}
use Rattle.constraint_gen.proofs.goals.read_step.Goals as goal

-- what holds for each walk where a call succeeds, and what follows from it
for_each : {A E W Q : Type 0} {R : W → Type 0} (P : Type 0) (r : Result A E) → ((w : W) → R w → Q → OnOk r P) → OnOk r ((w : W) → R w → Q → P)
for_each P (Ok x) h = h
for_each P (Err x) h = tt

then_ok : {A E : Type 0} (P Q : Type 0) (r : Result A E) → (P → Q) → OnOk r P → OnOk r Q
then_ok P Q (Ok x) f h = f h
then_ok P Q (Err x) f h = tt

pub returns-clause-filed : goal.returns-clause-filed
returns-clause-filed c =
    for_each _ c.file.result (λ w h filed.
    let old = c.args.facts.now.items in
    let new = c.read.new.facts.items in
    let given = c.as_slice-3.result.now in
    let kept = c.kept_behind-kept.result in
    let left = c.unfile.new.lists.items in
    let force : IsInForce (step_read w c.args.step) new c.read.new.marks = c.in_ok-read.ensures w h in
    let count : length old ≡ c.len.result = ap length (sym c.as_slice-2.ensures.value) ∙ (c.as_slice-2.ensures.len ∙ sym c.len.ensures) in
    let same : take kept new ≡ take kept old =
    kept_read w old new c.read.new.marks c.args.step kept
    (c.kept_behind-kept.ensures w old (subst (IsInForce w old) (sym c.as_slice.ensures) h) count) force in
    let below : IsFiledBelow kept given left =
    subst (λ fs. IsFiledBelow kept fs left) (sym c.as_slice-3.ensures.value)
    (kept_filed kept old new c.args.lists.now.items left same c.in_ok-unfile.ensures filed) in
    then_ok _ (IsFiled new c.file.new.lists.items) c.file.result
    (λ g. subst (λ fs. IsFiled fs c.file.new.lists.items) c.as_slice-3.ensures.value (g below)) c.file.ensures)
