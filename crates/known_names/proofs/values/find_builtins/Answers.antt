use Rattle.std.proofs.Common.{◌≡◌, Bool, true, false, ◌||◌, cond, codes, bytes_eq, refl, ap, ◌∙◌, Option, Some}
use Rattle.std.specs.Prelude.{option_map}
use Rattle.sail_types.specs.Rows.{all_rows, row_named}
use Rattle.sail_names.specs.declared.names.Global.{Global}
use Rattle.sail_names.specs.declared.names.Global.TheVariants as G
use Rattle.known_names.specs.Meanings.{builtin_row}
use Rattle.known_names.proofs.values.find_builtins.Goals as goal

constructors_over : (some none : Bool) (rows : Option Global)
    → cond none (Some G.Constructor) (cond some (Some G.Constructor) rows) ≡ cond (some || (none || false)) (Some G.Constructor) rows
constructors_over true true rows = refl
constructors_over true false rows = refl
constructors_over false true rows = refl
constructors_over false false rows = refl

pub returns : goal.returns
unfolding all_rows
returns c =
    λ name. c.in_ok-put-2.ensures name
    ∙ ap (cond (bytes_eq (codes "None") name) (Some G.Constructor))
    (c.in_ok-put.ensures name ∙ ap (cond (bytes_eq (codes "Some") name) (Some G.Constructor)) (c.in_ok-values.ensures name))
    ∙ constructors_over (bytes_eq (codes "Some") name) (bytes_eq (codes "None") name) (option_map builtin_row (row_named name))
