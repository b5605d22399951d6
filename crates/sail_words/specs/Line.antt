-- What the words of a command line ask for.
use Rattle.std.specs.Prelude.{ℕ, ◌+◌, ◌^◌, ◌<◌, ◌≤◌, ◌&&◌, nat_le, ◌==◌, All, List, length, codes, Option, Some, None}
use Rattle.std.specs.Prelude.{if◌then◌else◌, option_and_then, option_map}
use Rattle.std.specs.Option.{option_map_or}
use Rattle.std.specs.Str.{bytes_eq}
use Rattle.clap.specs.Words.{Row, fault_of, subcommand_of, first_of, all_of}
use Rattle.sail_words.specs.declared.command.Command.{Command}
use Rattle.sail_words.specs.declared.command.Command.TheVariants as C
use Rattle.sail_words.specs.declared.numbers.Numbers.{Numbers}
use Rattle.sail_words.specs.declared.run.Run.{Run}
use Rattle.sail_words.specs.declared.run.Setup.{Setup}
use Rattle.sail_words.specs.declared.synth.Synth.{Synth}
use Rattle.sail_words.specs.Numbers.{number_in, order_in, all_harts}
use Rattle.sail_words.specs.Program.{program}

-- what is there, handed on
abbrev ◌>>=◌ : {A B : Type 0} → Option A → (A → Option B) → Option B
◌>>=◌ found next = option_and_then next found

-- the number of an option, or the default where it isn't given
abbrev pub number_of : List ℕ → ℕ → ℕ → ℕ → List Row → Option ℕ
number_of name default least most rows = option_map_or (number_in least most) (first_of name rows) (Some default)

-- the number of an argument, where it is given
abbrev pub given_number : List ℕ → ℕ → ℕ → List Row → Option ℕ
given_number name least most rows = option_and_then (number_in least most) (first_of name rows)

-- the order of the harts, or from 0 on where none is given
abbrev pub order_of : ℕ → List Row → Option (List ℕ)
order_of harts rows = option_map_or (order_in harts) (first_of (codes "order") rows) (Some (all_harts harts))

-- the numbers of the options
abbrev pub numbers_of : List Row → Option Numbers
numbers_of rows = do
  steps ← number_of (codes "steps") 1000 0 4294967295 rows
  harts ← number_of (codes "harts") 1 1 8 rows
  ram_base ← number_of (codes "ram-base") 2147483648 0 18446744073709551615 rows
  ram_size ← number_of (codes "ram-size") 1048576 1 67108864 rows
  Some (record { steps = steps; harts = harts; ram_base = ram_base; ram_size = ram_size })

-- a run with 1 to 64 models and a RAM that doesn't pass the address space
abbrev pub within_limits : Run → Option Run
within_limits run =
    if nat_le 1 (length run.models) && (nat_le (length run.models) 64 && nat_le (run.setup.ram_base + run.setup.ram_size) (2 ^ 64))
    then Some run
    else None

-- what `run` asks for, by the values that clap found for its options and models
abbrev pub run_of : List Row → Option Run
run_of rows = do
  elf ← first_of (codes "elf") rows
  models ← all_of (codes "model") rows
  numbers ← numbers_of rows
  order ← order_of numbers.harts rows
  within_limits (record {
    elf = elf;
    models = models;
    setup = record {
      steps = numbers.steps;
      harts = numbers.harts;
      order = order;
      ram_base = numbers.ram_base;
      ram_size = numbers.ram_size;
    };
  })

-- 1 to 64 models
abbrev pub few_models : List (List ℕ) → Option (List (List ℕ))
few_models models = if nat_le 1 (length models) && nat_le (length models) 64 then Some models else None

-- what `check` and `certs` ask for
abbrev pub models_of : List Row → Option (List (List ℕ))
models_of rows = option_and_then few_models (all_of (codes "model") rows)

-- what `synth` asks for
abbrev pub synth_of : List Row → Option Synth
synth_of rows = do
  seed ← given_number (codes "seed") 0 65535 rows
  size ← given_number (codes "size") 1 4000 rows
  Some (record { seed = seed; size = size })

-- what a subcommand asks for
abbrev pub command_of : List ℕ → List Row → Option Command
command_of name rows =
    if bytes_eq name (codes "run") then option_map C.Run (run_of rows)
    else if bytes_eq name (codes "check") then option_map C.Check (models_of rows)
    else if bytes_eq name (codes "certs") then option_map C.Certs (models_of rows)
    else if bytes_eq name (codes "synth") then option_map C.Synth (synth_of rows)
    else None

-- how every program is run that words ask for
pub record IsWithinLimits (setup : Setup) : Type 0 where
  pub harts : (1 ≤ setup.harts) × (setup.harts ≤ 8)
  pub order : (0 < length setup.order) × All (λ hart. hart < setup.harts) setup.order
  pub size : (1 ≤ setup.ram_size) × (setup.ram_size ≤ 67108864)
  pub space : setup.ram_base + setup.ram_size ≤ 2 ^ 64

-- 1 to 64 models
abbrev pub AreFew : List (List ℕ) → Type 0
AreFew models = (1 ≤ length models) × (length models ≤ 64)

-- the numbers of `synth`
pub record IsSized (synth : Synth) : Type 0 where
  pub seed : synth.seed ≤ 65535
  pub size : (1 ≤ synth.size) × (synth.size ≤ 4000)

-- what every command that words ask for keeps to
abbrev pub IsAllowed : Command → Type 0
IsAllowed (C.Run run) = AreFew run.models × IsWithinLimits run.setup
IsAllowed (C.Check models) = AreFew models
IsAllowed (C.Certs models) = AreFew models
IsAllowed (C.Synth synth) = IsSized synth

-- the words without the program's name: none where clap finds a fault, or a number or an order is none
abbrev pub line_of : List (List ℕ) → Option Command
line_of words =
    if length (fault_of program words) == 0
    then option_and_then (λ named. command_of named.0 named.1) (subcommand_of program words)
    else None
