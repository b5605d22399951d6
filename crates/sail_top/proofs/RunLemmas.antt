-- A run is that of its definition, part by part.
use Rattle.std.proofs.Common.{◌≡◌, ℕ, List, replicate, length, Option, sym, ap, ◌∙◌}
use Rattle.std.proofs.lemmas.List.{length-replicate}
use Rattle.sail_base.specs.declared.elf_refusal.ElfRefusal.{ElfRefusal}
use Rattle.elf_load.specs.Placed.{place_refusal, placed}
use Rattle.elf_load.specs.declared.image.Image.{Image}
use Rattle.model_state.specs.Folds.{Meaning, RunEnd}
use Rattle.model_state.specs.Report.{report_text}
use Rattle.model_state.specs.RunState.{RunState, fresh}
use Rattle.model_state.specs.declared.cause.Cause.{Cause}
use Rattle.model_state.specs.declared.state.Register.{Register}
use Rattle.sail_types.specs.declared.table.Types.{Types}
use Rattle.sail_words.specs.declared.run.Setup.{Setup}
use Rattle.sail_top.specs.Run.{beginning, ram, end_from, end_of, run_text}

-- the report of a run's end is what the run writes
pub text_is : (setup : Setup) (types : Types) (m : Meaning) (entry base : ℕ) (bytes kept : List ℕ) (registers : List Register) (before after : RunState)
    (why : Cause) (steps : ℕ) → m.registers ≡ registers → before ≡ fresh types registers setup.harts base bytes → base ≡ setup.ram_base → kept ≡ bytes
    → why ≡ (end_from setup m entry before).cause
    → steps ≡ (end_from setup m entry before).steps
    → after ≡ (end_from setup m entry before).state
    → report_text after kept why steps ≡ run_text setup types m entry bytes
text_is setup types m entry base bytes kept registers before after why steps same before_is base_is kept_is why_is steps_is after_is =
    let begins : before ≡ beginning setup types m bytes = before_is ∙ (λ i. fresh types (sym same i) setup.harts (base_is i) bytes) in
    let ends : end_from setup m entry before ≡ end_of setup types m entry bytes = λ i. end_from setup m entry (begins i) in
    λ i. report_text ((after_is ∙ ap (λ (end : RunEnd). end.state) ends) i) (kept_is i) ((why_is ∙ ap (λ (end : RunEnd). end.cause) ends) i)
    ((steps_is ∙ ap (λ (end : RunEnd). end.steps) ends) i)

-- why an image can't be placed over zeros
pub refused_over : (setup : Setup) (image : Image) (base : ℕ) (bytes : List ℕ) (refused : Option ElfRefusal)
    → base ≡ setup.ram_base → bytes ≡ replicate setup.ram_size 0 → place_refusal image base (length bytes) ≡ refused
    → place_refusal image setup.ram_base setup.ram_size ≡ refused
refused_over setup image base bytes refused base_is bytes_are is =
    let size : length bytes ≡ setup.ram_size = ap length bytes_are ∙ length-replicate setup.ram_size 0 in
    (λ i. place_refusal image (sym base_is i) (sym size i)) ∙ is

-- RAM with the image
pub ram_is : (setup : Setup) (image : Image) (base : ℕ) (bytes now : List ℕ)
    → base ≡ setup.ram_base → bytes ≡ replicate setup.ram_size 0 → now ≡ placed image base bytes → now ≡ ram setup image
ram_is setup image base bytes now base_is bytes_are is = is ∙ (λ i. placed image (base_is i) (bytes_are i))
