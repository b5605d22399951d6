-- How many files a command has.
use Rattle.std.proofs.Common.{◌≡◌, ℕ, ◌<◌, ◌≤◌, ◌+◌, List, [], ◌∷◌, length, map, sym, ap, ◌∙◌, arith, length-append}
use Rattle.std.proofs.lemmas.List.{length-map}
use Rattle.sail_words.specs.Line.{IsAllowed}
use Rattle.sail_words.specs.declared.command.Command.{Command}
use Rattle.sail_words.specs.declared.command.Command.TheVariants as C
use Rattle.sail_words.specs.declared.run.Run.{Run}
use Rattle.sail_top.specs.Reading.{wanted_model, wanted_elf, wanted_by}
use Rattle.sail_top.specs.parts.Borrowed.{as_wanted}
use Rattle.sail_top.specs.declared.reading.Wanted as declared

-- a program behind at most 64 models
pub run_count : (run : Run) → length (wanted_by (C.Run run)) ≡ length run.models + 1
run_count run =
    length-append (map wanted_model run.models) (wanted_elf run.elf ∷ []) ∙ ap (λ n. n + 1) (length-map run.models wanted_model)

pub few_files : (command : Command) → IsAllowed command → length (wanted_by command) ≤ 65
few_files (C.Run run) allowed = omega (arith, run_count run, allowed.0.1)
few_files (C.Check models) allowed = omega (arith, allowed.1, length-map models wanted_model)
few_files (C.Certs models) allowed = omega (arith, allowed.1, length-map models wanted_model)
few_files (C.Synth synth) allowed = omega arith

-- so many are wanted
pub count_of : (command : Command) (wanted : List declared.Wanted) → map as_wanted wanted ≡ wanted_by command → length wanted ≡ length (wanted_by command)
count_of command wanted same = sym (length-map wanted as_wanted) ∙ ap length same

-- models alone are few
pub few_models : (models : List (List ℕ)) (count : ℕ) → length models ≤ 64 → count ≡ length (map wanted_model models) → count ≤ 64
few_models models count few same = omega (arith, few, same, length-map models wanted_model)
