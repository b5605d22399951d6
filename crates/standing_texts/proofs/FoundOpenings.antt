-- Each opening that is found passes its tests, in the order of the text.
use Rattle.std.proofs.Common.{◌≡◌, ◌&&◌, ℕ, Bool, true, List, [], ◌∷◌, ◌++◌, map, take, drop, Some, None, ap, ◌∙◌, refl}
use Rattle.std.proofs.lemmas.Bool.{and_parts}
use Rattle.sail_base.specs.declared.place.Place.{Place}
use Rattle.sail_core.specs.declared.model.Opening.{Opening}
use Rattle.sail_core.specs.declared.patterns.Pattern.{Pattern}
use Rattle.sail_core.specs.declared.tree.Core.{Core}
use Rattle.sail_syntax.specs.declared.definitions.Def.{Def}
use Rattle.sail_syntax.specs.declared.definitions.Def.TheVariants as D
use Rattle.sail_syntax.specs.declared.expressions.Exp.{Exp}
use Rattle.sail_syntax.specs.declared.patterns.Pat.{Pat}
use Rattle.sail_syntax.specs.declared.types.TyExp.{TyExp}
use Rattle.core_numbers.specs.Numbers.{numbered}
use Rattle.pattern_leaves.specs.Settings.{Around}
use Rattle.shape_joins.proofs.Order.{two}
use Rattle.shape_models.specs.Models.{Own, Tabled, setting_of}
use Rattle.shape_rules.specs.declared.error.ShapeError.{ShapeError}
use Rattle.shape_rules.specs.declared.locals.Local.{Local}
use Rattle.shape_rules.specs.Expressions.{part}
use Rattle.shape_rules.specs.Findings.{cast}
use Rattle.shape_rules.specs.Patterns.{look, no_widths, wanted_by}
use Rattle.shape_rules.specs.Scopes.{Setting, plainly}
use Rattle.shape_rules.specs.Written.{joined, shape_in}
use Rattle.shape_rules.proofs.Firsts.{none_failed}
use Rattle.shape_meanings.proofs.Settling.{both_empty}
use Rattle.shapes.specs.Failures.{all_faults, all_lets, initial_found, let_under, lets_faults, lets_with, others_faults, own_in, state_faults}
use Rattle.shapes.specs.Resolved.{binding_opening, in_text_order, initial_openings, initials_left, initials_openings, let_openings, lets_left}
use Rattle.shapes.specs.Resolved.{lets_openings, register_opening, registers_with, took}
use Rattle.shape_meanings.specs.Trees.{pattern_written, written}
use Rattle.shape_meanings.specs.Whole.{all_of}
use Rattle.known_texts.specs.Written.{definition_written, type_written}
use Rattle.standing_models.specs.Tests.{passes}
use Rattle.standing_models.proofs.CorePasses.{cast_passes}
use Rattle.standing_models.proofs.PassingFound.{found_passes}
use Rattle.standing_models.proofs.PassingNumbered.{passes_numbered}
use Rattle.standing_texts.specs.Openings.{FoundOpeningsPass, LetFits, OpeningFits, OpeningsFitFrom, ValueFits, opening_passes, openings_pass}

module _ (around : Around) (fits : Pattern → Bool) where
  abbrev EachPasses : List Opening → Type 0
  EachPasses os = openings_pass around fits os ≡ true

  -- ---- lists

  first_passes : (o : Opening) (os : List Opening) → EachPasses (o ∷ os) → (opening_passes around fits o ≡ true) × EachPasses os
  first_passes o os h = and_parts (opening_passes around fits o) (openings_pass around fits os) h

  more_pass : (o : Opening) (os : List Opening) → opening_passes around fits o ≡ true → EachPasses os → EachPasses (o ∷ os)
  more_pass o os h k = two (opening_passes around fits o) (openings_pass around fits os) h k

  both_pass : (xs ys : List Opening) → EachPasses xs → EachPasses ys → EachPasses (xs ++ ys)
  both_pass [] ys h k = k
  both_pass (x ∷ xs) ys h k =
      let both = first_passes x xs h in
      more_pass x (xs ++ ys) both.0 (both_pass xs ys both.1 k)

  numbered_passes : (c : Core) → passes around [] fits c ≡ true → passes around [] fits (numbered c 0).it ≡ true
  numbered_passes c h = passes_numbered around [] fits c 0 ∙ h

  module _ (tabled : Tabled) (text : List Def) where
    abbrev own : Own
    own = own_in tabled text

    -- ---- top-level lets

    let_passes : (lets : List Local) (place : Place) (p : Pat) (value : Exp) → LetFits around fits (setting_of tabled own text lets []) p value
        → (pattern_written p && written value) ≡ true → (let_under tabled own text lets place p value).faults ≡ []
        → opening_passes around fits (binding_opening place (let_under tabled own text lets place p value)) ≡ true
    let_passes lets place p value its within e =
        let setting : Setting = plainly (setting_of tabled own text lets []) in
        let a = (part value).elaborate setting [] (wanted_by setting p) in
        let l = look p setting no_widths a.shape in
        let limits = and_parts (pattern_written p) (written value) within in
        let faults = both_empty _ l.faults e in
        let found = both_empty a.faults _ faults.0 in
        let core : passes around [] fits a.core ≡ true =
        found_passes around [] fits value limits.1 its.value.names [] its.value.named setting its.value.fit its.value.converts []
        (wanted_by setting p) found.0 in
        two _ _ (numbered_passes (cast a.core (part value).place) (cast_passes around [] fits a.core (part value).place core))
        (two (fits l.pattern) true (its.value.fit.patterns p a.shape its.named limits.0 its.converts faults.1) refl)

    def_passes : (lets : List Local) (d : Def) → OpeningFits around fits tabled text lets d → definition_written d ≡ true
        → lets_faults tabled own text lets (d ∷ []) ≡ [] → EachPasses (let_openings tabled own text lets d)
    def_passes lets (D.Let place p value) its within e =
        more_pass (binding_opening place (let_under tabled own text lets place p value)) []
        (let_passes lets place p value its within (both_empty (let_under tabled own text lets place p value).faults [] e).0) refl
    def_passes lets d its within e = refl

    lets_pass : (lets : List Local) (rest : List Def) → OpeningsFitFrom around fits tabled text lets rest → all_of (map definition_written rest) ≡ true
        → lets_faults tabled own text lets rest ≡ [] → EachPasses (lets_openings tabled own text lets rest)
    lets_pass lets [] its within e = refl
    lets_pass lets (d ∷ rest) its within e =
        let limits = and_parts (definition_written d) (all_of (map definition_written rest)) within in
        let faults = both_empty _ (lets_faults tabled own text (lets_with tabled own text lets d) rest) e in
        both_pass (let_openings tabled own text lets d) (lets_openings tabled own text (lets_with tabled own text lets d) rest)
        (def_passes lets d its.0 limits.0 (ap (λ es. es ++ []) faults.0)) (lets_pass (lets_with tabled own text lets d) rest its.1 limits.1 faults.1)

    -- ---- initial values

    abbrev all : Setting
    all = setting_of tabled own text (all_lets tabled text) []

    register_passes : (r : ℕ) (place : Place) (typ : TyExp) (value : Exp) → ValueFits around fits all value → written value ≡ true
        → (initial_found all (shape_in all.within typ) value).faults ≡ [] → EachPasses (register_opening all r place typ value ∷ [])
    register_passes r place typ value its within e =
        let want = shape_in all.within typ in
        let found = initial_found all want value in
        more_pass (register_opening all r place typ value) []
        (two (passes around [] fits (numbered found.core 0).it) true (numbered_passes found.core
        (found_passes around [] fits value within its.names [] its.named (plainly all) its.fit its.converts [] want e)) refl) refl

    initial_passes : (lets : List Local) (r : ℕ) (d : Def) → OpeningFits around fits tabled text lets d → definition_written d ≡ true
        → state_faults all d ≡ [] → EachPasses (initial_openings all r d)
    initial_passes lets r (D.Register place name typ None) its within e = refl
    initial_passes lets r (D.Register place name typ (Some value)) its within e =
        register_passes r place typ value its (and_parts (type_written typ) (written value) within).1
        (both_empty _ (initial_found all (shape_in all.within typ) value).faults e).1
    initial_passes lets r d its within e = refl

    initials_pass : (lets : List Local) (r : ℕ) (rest : List Def) → OpeningsFitFrom around fits tabled text lets rest
        → all_of (map definition_written rest) ≡ true → joined (map (state_faults all) rest) ≡ [] → EachPasses (initials_openings all r rest)
    initials_pass lets r [] its within e = refl
    initials_pass lets r (d ∷ rest) its within e =
        let limits = and_parts (definition_written d) (all_of (map definition_written rest)) within in
        let faults = both_empty (state_faults all d) (joined (map (state_faults all) rest)) e in
        both_pass (initial_openings all r d) (initials_openings all (registers_with r d) rest) (initial_passes lets r d its.0 limits.0 faults.0)
        (initials_pass (lets_with tabled own text lets d) (registers_with r d) rest its.1 limits.1 faults.1)

    -- ---- in the order of the text

    taken : (os : List Opening) → EachPasses os → EachPasses (take 1 os)
    taken [] h = refl
    taken (o ∷ os) h = more_pass o [] (first_passes o os h).0 refl

    left : (os : List Opening) → EachPasses os → EachPasses (drop 1 os)
    left [] h = refl
    left (o ∷ os) h = (first_passes o os h).1

    took_pass : (d : Def) (os ps : List Opening) → EachPasses os → EachPasses ps → EachPasses (took d os ps)
    took_pass (D.Let place p value) os ps h k = taken os h
    took_pass (D.Register place name typ (Some value)) os ps h k = taken ps k
    took_pass (D.Register place name typ None) os ps h k = refl
    took_pass d os ps h k = refl

    lets_after : (d : Def) (os : List Opening) → EachPasses os → EachPasses (lets_left d os)
    lets_after (D.Let place p value) os h = left os h
    lets_after d os h = h

    initials_after : (d : Def) (ps : List Opening) → EachPasses ps → EachPasses (initials_left d ps)
    initials_after (D.Register place name typ (Some value)) ps k = left ps k
    initials_after (D.Register place name typ None) ps k = k
    initials_after d ps k = k

    order_passes : (rest : List Def) (os ps : List Opening) → EachPasses os → EachPasses ps → EachPasses (in_text_order rest os ps)
    order_passes [] os ps h k = refl
    order_passes (d ∷ rest) os ps h k =
        both_pass (took d os ps) (in_text_order rest (lets_left d os) (initials_left d ps)) (took_pass d os ps h k)
        (order_passes rest (lets_left d os) (initials_left d ps) (lets_after d os h) (initials_after d ps k))

pub found_openings : FoundOpeningsPass
found_openings around fits tabled cycle text accepted within its =
    let own : Own = own_in tabled text in
    let lets : List Local = all_lets tabled text in
    let all : Setting = setting_of tabled own text lets [] in
    let states : List ShapeError = joined (map (state_faults all) text) in
    let faults = both_empty _ (others_faults tabled own text lets) (none_failed (all_faults tabled text) accepted) in
    let firsts = both_empty _ (lets_faults tabled own text [] text) faults.0 in
    let last = both_empty _ states faults.1 in
    order_passes around fits tabled text text (lets_openings tabled own text [] text) (initials_openings all 0 text)
    (lets_pass around fits tabled text [] text its within firsts.1) (initials_pass around fits tabled text [] 0 text its within last.1)
