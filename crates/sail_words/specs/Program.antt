-- The command line as `clap` is told of it: the subcommand `run` with its options and its models, `check` and `certs` with their models,
-- and `synth` with its numbers.
use Rattle.std.specs.Prelude.{true, Some, List, ℕ, codes}
use Rattle.clap.specs.Lexer.{usize_max}
use Rattle.clap.specs.Words.{App, Rule, new_app, new_rule, with_rule, with_subcommand}

-- `--NAME VALUE` or `--NAME=VALUE`, at most once
abbrev pub option : List ℕ → Rule
option name = record (new_rule name) { long = Some name }

-- the same, exactly once
abbrev pub required_option : List ℕ → Rule
required_option name = record (option name) { required = true }

-- one word or more that belong to no option
abbrev pub models : Rule
models = record (new_rule (codes "model")) {
  required = true;
  range = Some (record { start_inclusive = 1; end_inclusive = usize_max });
}

-- one word that belongs to no option
abbrev pub operand : List ℕ → Rule
operand name = record (new_rule name) { required = true }

-- the options that take a number
abbrev pub with_numbers : App → App
with_numbers command =
    with_rule (with_rule (with_rule (with_rule command
    (option (codes "steps"))) (option (codes "harts"))) (option (codes "ram-base"))) (option (codes "ram-size"))

-- `run --elf FILE [--order DIGITS] [--steps N] [--harts N] [--ram-base N] [--ram-size N] MODEL..`, in any order
abbrev pub run_command : App
run_command = with_numbers (with_rule (with_rule (with_rule (new_app (codes "run"))
    (required_option (codes "elf"))) (option (codes "order"))) models)

-- `NAME MODEL..`
abbrev pub models_command : List ℕ → App
models_command name = with_rule (new_app name) models

-- `synth SEED SIZE`
abbrev pub synth_command : App
synth_command = with_rule (with_rule (new_app (codes "synth")) (operand (codes "seed"))) (operand (codes "size"))

-- the words without the program's name: a subcommand, and no help, no version
abbrev pub bare : App
bare = record (new_app (codes "sail-run")) {
  top = record (new_app (codes "sail-run")).top {
    no_binary_name = true;
    disable_help_flag = true;
    disable_version_flag = true;
    disable_help_subcommand = true;
    subcommand_required = true;
  };
}

-- with the subcommands that take files
abbrev pub with_files : App
with_files =
    with_subcommand (with_subcommand (with_subcommand bare run_command.top)
    (models_command (codes "check")).top) (models_command (codes "certs")).top

abbrev pub program : App
program = with_subcommand with_files synth_command.top
