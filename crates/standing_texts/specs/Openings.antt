-- Openings of an accepted text: each node of their values passes the tests of its kind, where patterns pass theirs, and so do the patterns of lets.
use Rattle.std.specs.Prelude.{◌≡◌, ◌&&◌, ℕ, Bool, true, false, List, [], ◌∷◌, Option, Some, None}
use Rattle.std.specs.List.{list_all}
use Rattle.sail_base.specs.declared.place.Place.{Place}
use Rattle.sail_core.specs.declared.model.Opening.{Opening}
use Rattle.sail_core.specs.declared.model.OpeningKind.{OpeningKind}
use Rattle.sail_core.specs.declared.model.OpeningKind.TheVariants as O
use Rattle.sail_core.specs.declared.patterns.Pattern.{Pattern}
use Rattle.sail_syntax.specs.declared.definitions.Def.{Def}
use Rattle.sail_syntax.specs.declared.definitions.Def.TheVariants as D
use Rattle.sail_syntax.specs.declared.expressions.Exp.{Exp}
use Rattle.sail_syntax.specs.declared.patterns.Pat.{Pat}
use Rattle.sail_names.specs.Known as Tables
use Rattle.sail_names.specs.Known.{is_any}
use Rattle.sail_names.specs.Patterns.{uses_failures}
use Rattle.sail_names.specs.Uses.{expression_failures}
use Rattle.sail_tables.specs.Refused.{IsAccepted}
use Rattle.pattern_leaves.specs.Settings.{Around}
use Rattle.shape_models.specs.Models.{Tabled, setting_of}
use Rattle.shape_rules.specs.declared.locals.Local.{Local}
use Rattle.shape_rules.specs.Scopes.{Setting, plainly}
use Rattle.shape_meanings.specs.Naming.{AreKnown}
use Rattle.shapes.specs.Failures.{all_lets, lets_with, own_in, refusal}
use Rattle.shapes.specs.Resolved.{resolved}
use Rattle.shapes.specs.Tabled.{tabled_of}
use Rattle.known_texts.specs.Written.{IsWritten}
use Rattle.standing_models.specs.Tests.{Converts, Fits, arm_tested, passes, unit_pattern}
use Rattle.sail_cycles.specs.declared.expressions.Which.TheVariants.{Patterns}
use Rattle.sail_cycles.specs.Callees.{expression_callees, pattern_callees}
use Rattle.standing_texts.specs.Bodies.{PatternsPass}
use Rattle.text_progress.specs.Laws.{core_of}

module _ (around : Around) (fits : Pattern → Bool) where
  -- ---- settings that fit

  pub record ValueFits (setting : Setting) (e : Exp) : Type 0 where
    pub names : Tables.Setting
    pub named : expression_failures e names [] ≡ []
    pub fit : Fits around [] fits (plainly setting) names
    pub converts : Converts fit.converts names (expression_callees Patterns names.known e)

  pub record LetFits (setting : Setting) (p : Pat) (e : Exp) : Type 0 where
    pub value : ValueFits setting e
    pub named : uses_failures value.names p ≡ []
    pub converts : Converts value.fit.converts value.names (pattern_callees value.names.known p)

  abbrev pub OpeningFits : Tabled → List Def → List Local → Def → Type 0
  OpeningFits tabled text lets (D.Let place p value) = LetFits (setting_of tabled (own_in tabled text) text lets []) p value
  OpeningFits tabled text lets (D.Register place name typ (Some value)) =
      ValueFits (setting_of tabled (own_in tabled text) text (all_lets tabled text) []) value
  OpeningFits tabled text lets d = Unit {0}

  -- behind lets that bind these names
  abbrev pub OpeningsFitFrom : Tabled → List Def → List Local → List Def → Type 0
  OpeningsFitFrom tabled text lets [] = Unit {0}
  OpeningsFitFrom tabled text lets (d ∷ more) =
      OpeningFits tabled text lets d × OpeningsFitFrom tabled text (lets_with tabled (own_in tabled text) text lets d) more

  -- ---- tests that pass

  abbrev pub kind_passes : OpeningKind → Bool
  kind_passes (O.Let arm) = arm_tested fits arm
  kind_passes (O.Register r) = true

  abbrev pub opening_passes : Opening → Bool
  opening_passes o = passes around [] fits o.value && kind_passes o.kind

  abbrev pub openings_pass : List Opening → Bool
  openings_pass os = list_all opening_passes os

-- in a text as the grammar has it that nothing is refused for
abbrev pub FoundOpeningsPass : Type 0
FoundOpeningsPass =
    (around : Around) (fits : Pattern → Bool) (tabled : Tabled) (cycle : List ℕ → Option ℕ) (text : List Def) → refusal tabled text ≡ None
    → IsWritten text → OpeningsFitFrom around fits tabled text [] text
    → openings_pass around fits (resolved tabled cycle text).openings ≡ true

-- ---- in accepted texts

-- patterns of lets, and those in values, whatever lets stand before them: they are plain
pub record OpeningPatterns (text : List Def) (fits : Pattern → Bool) : Type 0 where
  pub unit : (place : Place) → fits (unit_pattern place) ≡ true
  pub values : (lets : List Local) (names : Tables.Setting) → is_any names.allowed ≡ false
      → AreKnown (plainly (setting_of (tabled_of text) (own_in (tabled_of text) text) text lets [])) names
      → PatternsPass fits (plainly (setting_of (tabled_of text) (own_in (tabled_of text) text) text lets [])) names

abbrev pub OpeningsPass : Type 0
OpeningsPass =
    (text : List Def) (end : Place) (cycle : List ℕ → Option ℕ) → IsAccepted text end → refusal (tabled_of text) text ≡ None → IsWritten text
    → (fits : Pattern → Bool) → OpeningPatterns text fits
    → (around : Around) → around.types ≡ (core_of text cycle).types → around.functions ≡ (core_of text cycle).functions
    → openings_pass around fits (core_of text cycle).openings ≡ true
