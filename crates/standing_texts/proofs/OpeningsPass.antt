-- Openings of an accepted text pass the tests of their nodes.
use Rattle.std.proofs.Common.{◌≡◌, ℕ, List, [], ◌∷◌, sym, refl, Bool, Option, Some, None}
use Rattle.sail_syntax.specs.declared.definitions.Def.{Def}
use Rattle.sail_syntax.specs.declared.definitions.Def.TheVariants as D
use Rattle.sail_syntax.specs.declared.expressions.Exp.{Exp}
use Rattle.sail_core.specs.declared.patterns.Pattern.{Pattern}
use Rattle.sail_names.specs.Patterns.{binds, clashes, uses_failures}
use Rattle.pattern_leaves.specs.Settings.{Around}
use Rattle.shape_rules.specs.declared.locals.Local.{Local}
use Rattle.shape_rules.specs.Scopes.{Setting}
use Rattle.shape_models.specs.Models.{Tabled, setting_of, within_variables}
use Rattle.shape_meanings.proofs.Settling.{both_empty}
use Rattle.shapes.specs.Failures.{all_lets, lets_with, own_in}
use Rattle.shapes.specs.Tabled.{tabled_of}
use Rattle.known_texts.specs.Accepted.{NothingFails}
use Rattle.known_texts.specs.Known.{DefinitionsKnown}
use Rattle.known_texts.specs.Opened.{OpeningKnown, OpeningsKnownFrom, PlainKnown}
use Rattle.known_texts.specs.Values.{RegistersTyped}
use Rattle.known_texts.specs.Whole.{setting_in}
use Rattle.known_texts.proofs.Assembled.{definitions_known}
use Rattle.known_texts.proofs.Failures.{nothing_fails}
use Rattle.known_texts.proofs.Openings.{openings_known}
use Rattle.known_texts.proofs.Parts.{tuples_have_parts}
use Rattle.known_texts.proofs.Registers.{registers_typed}
use Rattle.known_texts.proofs.Tuples.{TuplesHaveParts}
use Rattle.known_texts.proofs.Types.{types_known}
use Rattle.text_progress.proofs.TextInsides as Insides
use Rattle.sail_cycles.specs.declared.expressions.Which.TheVariants.{Patterns}
use Rattle.sail_cycles.specs.Callees.{expression_callees, pattern_callees}
use Rattle.standing_models.proofs.Converting.{any_convert, any_mapping}
use Rattle.standing_texts.specs.Openings.{OpeningFits, OpeningPatterns, OpeningsFitFrom, OpeningsPass, ValueFits}
use Rattle.standing_texts.proofs.FoundOpenings.{found_openings}
use Rattle.standing_texts.proofs.NamesFit.{value_fits}
use Rattle.standing_texts.proofs.OwnSizes.{sizes_own, truths_own}

module _ (text : List Def) (cycle : List ℕ → Option ℕ) (known : DefinitionsKnown (tabled_of text) text (setting_in (tabled_of text) text))
    (typed : RegistersTyped (tabled_of text) text) (fits : Pattern → Bool) (patterns : OpeningPatterns text fits) (around : Around)
    (types : around.types ≡ (Insides.parts text cycle known typed).types)
    (functions : around.functions ≡ (Insides.parts text cycle known typed).functions) where
  abbrev tabled : Tabled
  tabled = tabled_of text

  -- behind lets that bind these names
  abbrev behind : List Local → Setting
  behind lets = setting_of (tabled_of text) (own_in (tabled_of text) text) text lets []

  value_fit : (lets : List Local) (e : Exp) → PlainKnown (behind lets) e → ValueFits around fits (behind lets) e
  value_fit lets e h =
      let pass = patterns.values lets h.names h.plain h.known in
      record {
        names = h.names;
        named = h.named;
        fit = record {
          types = sym types;
          known = h.known;
          values = λ name.
              value_fits around (Insides.parts text cycle known typed) types functions lets ((behind lets).value name)
              (Insides.values text cycle known typed lets [] name);
          added = λ operator. refl;
          sizes = λ typ n u e. sizes_own [] (within_variables (tabled_of text) []) refl typ n e;
          truths = λ typ c u e. truths_own [] (within_variables (tabled_of text) []) refl typ c e;
          converts = any_mapping;
          patterns = λ p subject u written any e. pass.0 p subject u written e;
          measures = λ p subject u written any e. pass.1 p subject u written e;
          unit = patterns.unit;
        };
        converts = any_convert h.names (expression_callees Patterns h.names.known e);
      }

  opening_fit : (lets : List Local) (d : Def) → OpeningKnown tabled text lets d → OpeningFits around fits tabled text lets d
  unfolding value_fit
  opening_fit lets (D.Let place p value) h = record {
    value = value_fit lets value h.value;
    named = (both_empty (uses_failures h.value.names p) (clashes (binds h.value.names.known p)) h.named).0;
    converts = any_convert h.value.names (pattern_callees h.value.names.known p);
  }
  opening_fit lets (D.Register place name typ (Some value)) h = value_fit (all_lets (tabled_of text) text) value h
  opening_fit lets (D.Register place name typ None) h = tt
  opening_fit lets d h = tt

  openings_fit : (lets : List Local) (rest : List Def) → OpeningsKnownFrom tabled text lets rest → OpeningsFitFrom around fits tabled text lets rest
  openings_fit lets [] h = tt
  openings_fit lets (d ∷ rest) h =
      (opening_fit lets d h.0, openings_fit (lets_with (tabled_of text) (own_in (tabled_of text) text) text lets d) rest h.1)

pub text_openings : OpeningsPass
text_openings text end cycle accepted kept is_written fits patterns around types functions =
    let clear : NothingFails text = nothing_fails text end accepted in
    let tuples : TuplesHaveParts text = tuples_have_parts text is_written in
    let known : DefinitionsKnown (tabled_of text) text (setting_in (tabled_of text) text) = definitions_known text clear is_written tuples kept in
    let typed : RegistersTyped (tabled_of text) text = registers_typed text (types_known text clear.types) 0 text clear.bodies in
    found_openings around fits (tabled_of text) cycle text kept is_written
    (openings_fit text cycle known typed fits patterns around types functions [] text (openings_known text clear is_written tuples))
