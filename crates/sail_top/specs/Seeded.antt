-- What `synth` judges and runs: a model and a program that are made of a seed.
use Rattle.std.specs.Prelude.{ℕ, ◌+◌, List, [], ◌∷◌, ◌++◌, codes}
use Rattle.model_state.specs.Report.{number_text}
use Rattle.sail_gen.specs.Image.{image}
use Rattle.sail_gen.specs.Model.{model_text}
use Rattle.sail_words.specs.declared.run.Setup.{Setup}
use Rattle.sail_words.specs.declared.synth.Synth.{Synth}

-- the model's text
abbrev pub seeded_texts : Synth → List (List ℕ)
seeded_texts synth = model_text synth.seed synth.size ∷ []

-- the program's file
abbrev pub seeded_image : Synth → List ℕ
seeded_image synth = image synth.seed synth.size

-- one hart, over 65,536 bytes of RAM; each code is an event, and so is what stands behind them
abbrev pub seeded_setup : ℕ → Setup
seeded_setup size = record { steps = size + 1; harts = 1; order = 0 ∷ []; ram_base = 0x80000000; ram_size = 65536 }

-- what is told before the report: the numbers, and this text of the counts
abbrev pub seeded_front : Synth → List ℕ → List ℕ
seeded_front synth counts = codes "synth " ++ number_text synth.seed ++ codes " " ++ number_text synth.size ++ codes "\n" ++ counts
