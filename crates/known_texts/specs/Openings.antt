-- Texts without openings: no top-level let, and no register with an initial value (Sail language manual, "Registers", "Let bindings").
use Rattle.std.specs.Prelude.{ℕ, List, [], ◌∷◌, Option, Some}
use Rattle.sail_syntax.specs.declared.definitions.Def.{Def}
use Rattle.sail_syntax.specs.declared.definitions.Def.TheVariants as D
use Rattle.shape_models.specs.Models.{Tabled}
use Rattle.shapes.specs.Resolved.{resolved}
use Rattle.model_meanings.specs.Events.{OpeningsAreAlike}
use Rattle.known_texts.specs.Texts.{text_of}
use Rattle.known_texts.specs.Whole.{LetsAreAlike}

abbrev pub IsNoOpening : Def → Type 0
IsNoOpening (D.Let place p value) = ⊥
IsNoOpening (D.Register place name typ (Some value)) = ⊥
IsNoOpening d = Unit {0}

abbrev pub HasNoOpening : List Def → Type 0
HasNoOpening [] = Unit {0}
HasNoOpening (d ∷ text) = IsNoOpening d × HasNoOpening text

-- nothing is opened on either side
abbrev pub NothingIsOpened : Type 0
NothingIsOpened =
    (tabled : Tabled) (cycle : List ℕ → Option ℕ) (text : List Def) → HasNoOpening text
    → OpeningsAreAlike (text_of tabled cycle text) (resolved tabled cycle text) × LetsAreAlike tabled cycle text
