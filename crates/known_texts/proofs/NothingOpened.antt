-- A text without openings opens nothing on either side.
use Rattle.std.proofs.Common.{◌≡◌, ℕ, suc, List, [], ◌∷◌, ◌++◌, ap, sym, ◌∙◌, refl, subst, Option, Some, None}
use Rattle.sail_types.specs.declared.values.Value.{Value}
use Rattle.sail_syntax.specs.declared.definitions.Def.{Def}
use Rattle.sail_syntax.specs.declared.definitions.Def.TheVariants as D
use Rattle.sail_core.specs.declared.model.Opening.{Opening as CoreOpening}
use Rattle.sail_core.specs.Program.{plain as plain_sizing}
use Rattle.sail_core.specs.Start as CoreStart
use Rattle.sail_meaning.specs.Start as SourceStart
use Rattle.sail_meaning.specs.World.{Bindings}
use Rattle.shape_rules.specs.declared.locals.Local.{Local}
use Rattle.shape_models.specs.Models.{Own, Tabled}
use Rattle.shape_meanings.specs.Models.{LeavesFitting}
use Rattle.shapes.specs.Failures.{all_lets, lets_behind, own_in}
use Rattle.shapes.specs.Resolved.{in_text_order, initials_left, lets_left, resolved}
use Rattle.model_meanings.specs.Events.{OpeningsAreAlike}
use Rattle.known_texts.specs.Openings.{HasNoOpening}
use Rattle.known_texts.specs.Texts.{openings_from, text_of}
use Rattle.known_texts.specs.Values.{LetsAre}
use Rattle.known_texts.specs.Whole.{LetsAreAlike}

-- nothing of the core is opened
none_in_order : (text : List Def) (os ps : List CoreOpening) → HasNoOpening text → in_text_order text os ps ≡ []
none_in_order [] os ps h = refl
none_in_order ((D.Let place p value) ∷ text) os ps h = absurd h.0
none_in_order ((D.Register place name typ (Some value)) ∷ text) os ps h = absurd h.0
none_in_order (d ∷ text) os ps h = none_in_order text (lets_left d os) (initials_left d ps) h.1

-- and nothing of the text
none_written : (r : ℕ) (text : List Def) → HasNoOpening text → openings_from r text ≡ []
none_written r [] h = refl
none_written r ((D.Let place p value) ∷ text) h = absurd h.0
none_written r ((D.Register place name typ (Some value)) ∷ text) h = absurd h.0
none_written r ((D.Register place name typ None) ∷ text) h = none_written (suc r) text h.1
none_written r (d ∷ text) h = none_written r text h.1

none_more : (lets : List Local) → (lets ++ []) ≡ lets
none_more [] = refl
none_more (l ∷ lets) = ap (λ ls. l ∷ ls) (none_more lets)

none_bound : (tabled : Tabled) (own : Own) (text : List Def) (lets : List Local) (more : List Def) → HasNoOpening more
    → lets_behind tabled own text lets more ≡ lets
none_bound tabled own text lets [] h = refl
none_bound tabled own text lets ((D.Let place p value) ∷ more) h = absurd h.0
none_bound tabled own text lets ((D.Register place name typ (Some value)) ∷ more) h = absurd h.0
none_bound tabled own text lets (d ∷ more) h = none_bound tabled own text (lets ++ []) more h.1 ∙ none_more lets

pub nothing_opened : (tabled : Tabled) (cycle : List ℕ → Option ℕ) (text : List Def) → HasNoOpening text
    → OpeningsAreAlike (text_of tabled cycle text) (resolved tabled cycle text) × LetsAreAlike tabled cycle text
nothing_opened tabled cycle text none =
    let core : (resolved tabled cycle text).openings ≡ [] = none_in_order text _ _ none in
    let source : (text_of tabled cycle text).openings ≡ [] = none_written 0 text none in
    let core_lets : CoreStart.lets_of plain_sizing (resolved tabled cycle text) ≡ [] =
    ap (λ os. CoreStart.lets_in (CoreStart.openings_from plain_sizing 0 os [] (CoreStart.nowhere tabled.types))) core in
    let source_lets : SourceStart.lets_of (text_of tabled cycle text) ≡ [] =
    ap (λ os. SourceStart.lets_in (SourceStart.openings_of (text_of tabled cycle text) os [] (CoreStart.nowhere tabled.types))) source in
    let bound : all_lets tabled text ≡ [] = none_bound tabled (own_in tabled text) text [] text none in (
      (λ state kept. (
        ap (λ os. CoreStart.ran_from (CoreStart.openings_from plain_sizing 0 os [] state)) core
            ∙ sym (ap (λ os. SourceStart.ran_from (SourceStart.openings_of (text_of tabled cycle text) os [] state)) source),
        subst (LeavesFitting (text_of tabled cycle text))
            (sym (ap (λ os. SourceStart.ran_from (SourceStart.openings_of (text_of tabled cycle text) os [] state)) source)) kept,
      )),
      subst (λ (ls : List Local). LetsAre tabled.types ls (CoreStart.lets_of plain_sizing (resolved tabled cycle text))
          (SourceStart.lets_of (text_of tabled cycle text))) (sym bound)
          (subst (λ (vs : List Value). LetsAre tabled.types [] vs (SourceStart.lets_of (text_of tabled cycle text))) (sym core_lets)
          (subst (λ (bs : Bindings). LetsAre tabled.types [] [] bs) (sym source_lets) tt)),
    )
