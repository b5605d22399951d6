-- One opening does in the core what it does in the text.
use Rattle.std.proofs.Common.{◌≡◌, ℕ, List, [], ◌∷◌, ◌++◌, append-nil, ap, sym, ◌∙◌, refl, subst, true, false, ◌&&◌}
use Rattle.std.proofs.lemmas.Bool.{and_parts}
use Rattle.sail_base.specs.declared.place.Place.{Place}
use Rattle.sail_syntax.specs.declared.expressions.Exp.{Exp}
use Rattle.sail_syntax.specs.declared.patterns.Pat.{Pat}
use Rattle.sail_types.specs.Shapes.{fits, put}
use Rattle.sail_types.specs.declared.shapes.Shape.{Shape}
use Rattle.sail_types.specs.declared.shapes.Shape.TheVariants as V
use Rattle.sail_types.specs.declared.values.Value.{Value}
use Rattle.model_state.specs.RunState.{RunState}
use Rattle.model_state.specs.declared.cause.Cause.TheVariants.{MatchFailure}
use Rattle.sail_core.specs.declared.model.OpeningKind.TheVariants as O
use Rattle.sail_core.specs.declared.patterns.Arm.TheVariants as A
use Rattle.sail_core.specs.declared.patterns.Pattern.{Pattern}
use Rattle.sail_core.specs.declared.tree.Core.{Core}
use Rattle.sail_core.specs.Making as Making
use Rattle.sail_core.specs.Making.{plainly as plain_making}
use Rattle.sail_core.specs.Meaning.{core_meaning}
use Rattle.sail_core.specs.Patterns as Steps
use Rattle.sail_core.specs.Run as R
use Rattle.sail_core.specs.Run.{Ended, Now, Run, gives, goes_on, or_so, stops, ◌then◌, ◌or_else◌}
use Rattle.sail_core.specs.Start as CoreStart
use Rattle.sail_core.specs.Start.{begun, set_all}
use Rattle.core_numbers.specs.Numbers.{numbered}
use Rattle.sail_meaning.specs.Expressions.{meaning}
use Rattle.sail_meaning.specs.Patterns.{matching}
use Rattle.sail_meaning.specs.Start as SourceStart
use Rattle.sail_meaning.specs.Text.{Text, let_of, register_of}
use Rattle.sail_meaning.specs.World as World
use Rattle.sail_meaning.specs.World.{Bindings}
use Rattle.sail_names.specs.Known as Tables
use Rattle.sail_names.specs.Known.{is_any}
use Rattle.sail_names.specs.Patterns.{binds, clashes, pattern_failures, uses_failures}
use Rattle.sail_names.specs.Uses.{expression_failures}
use Rattle.shape_joins.proofs.JoinsLeast.{none}
use Rattle.shape_rules.specs.declared.locals.Local.{Local}
use Rattle.shape_rules.specs.Expressions.{part}
use Rattle.shape_rules.specs.Findings.{Found, cast}
use Rattle.shape_rules.specs.Patterns.{Looked, has_typ, look, no_widths, wanted_by}
use Rattle.shape_rules.specs.Scopes.{Setting, plainly}
use Rattle.shape_rules.specs.Statements.{Binding, bound, hole_faults}
use Rattle.shape_meanings.specs.Keeping.{Agree, Fits, Good, Reach, RegistersFit, Suits, reach_of}
use Rattle.shape_meanings.specs.Matching.{LooksRight}
use Rattle.shape_meanings.specs.Naming.{AreKnown}
use Rattle.shape_meanings.specs.Sound.{Right, VarsSettled}
use Rattle.shape_meanings.specs.Trees.{pattern_written, written}
use Rattle.shape_meanings.specs.Whole.{Choice, closed}
use Rattle.shape_meanings.specs.Worlds.{Describes}
use Rattle.shape_meanings.proofs.Branches.{cast_means}
use Rattle.shape_meanings.proofs.Expressions.{expressions_right}
use Rattle.shape_meanings.proofs.Lets.{no_widths_there}
use Rattle.shape_meanings.proofs.Naming.{closed_is}
use Rattle.shape_meanings.proofs.Orders.{exact}
use Rattle.shape_meanings.proofs.PatternsSound.{patterns_sound}
use Rattle.shape_meanings.proofs.Runs.{or_agree}
use Rattle.shape_meanings.proofs.Settling.{both_empty}
use Rattle.body_meanings.proofs.Numbers.{numbers_mean_nothing}
use Rattle.shapes.specs.Failures.{initial_found, let_bound}
use Rattle.shapes.specs.Resolved.{binding_opening, opening}
use Rattle.opening_meanings.specs.Openings.{EndsAlike, InitialsOpenAlike, LetAdds, LetsOpenAlike, RegisterAdds}
use Rattle.opening_meanings.specs.Plain.{uncalled}
use Rattle.opening_meanings.specs.Worlds.{Opens}
use Rattle.opening_meanings.proofs.Ends.{BoundFor, bound_all, bound_for, each_choice, ends_as, goes_alike}
use Rattle.opening_meanings.proofs.Expressions.{expressions_call_nothing, patterns_call_nothing}
use Rattle.opening_meanings.proofs.Forms.{bound_same}
use Rattle.opening_meanings.proofs.Known.{known_uncalled}
use Rattle.opening_meanings.proofs.Worlds.{openings_described}

-- ---- an arm of one pattern

after_one : (e : Ended Value Bindings)
    → goes_on e (λ found. Steps.parts_match {X = Value} [] [] then λ others. gives (found ++ others)) ≡ e
after_one (R.Gives found now) = ap (λ f. R.Gives f now) (append-nil found)
after_one (R.No now) = refl
after_one (R.Returns v now) = refl
after_one (R.Throws v now) = refl
after_one (R.Stops cause now) = refl
after_one R.Stuck = refl

arm_alone : (wc : Making.World Value) (p : Pattern) (v : Value) (now : Now Value)
    → Steps.arm_meaning plain_making wc (A.Nested (p ∷ [])) (v ∷ []) now ≡ Steps.matcher plain_making wc p v now
arm_alone wc p v now = after_one (Steps.matcher plain_making wc p v now)

-- ---- no name is in scope

none_settled : (setting : Setting) → VarsSettled setting []
none_settled setting name l is var = none is

begun_good : (setting : Setting) (registers : List Shape) (c : Choice) (state : RunState) → RegistersFit setting.types registers state
    → Good (reach_of setting registers c []) (begun 0 state)
begun_good setting registers c state fit = record { locals = tt; state = fit }

-- what a let's pattern binds, on both sides
abbrev Adds : Setting → Choice → List Local → CoreStart.Added → SourceStart.Added → Type 0
Adds setting c binds core source =
    BoundFor setting.types c binds core.values source.names × ((state : RunState) → core.change state ≡ state)
    × ((state : RunState) → source.change state ≡ state)

module _ (setting : Setting) (registers : List Shape) (text : Text) (values : List Value) (bindings : Bindings)
    (opens : Opens setting registers text values bindings) (names : Tables.Setting) (known : AreKnown (plainly setting) names)
    (plain : is_any names.allowed ≡ false) where
  abbrev outer : Setting
  outer = plainly setting

  abbrev inner : Setting
  inner = plainly (uncalled setting)

  abbrev wc : Making.World Value
  wc = CoreStart.opening_world values

  abbrev ws : World.World
  ws = SourceStart.opening_world text bindings

  described : Describes inner registers wc ws
  described = openings_described setting registers text values bindings opens

  inner_known : AreKnown inner names
  inner_known = known_uncalled outer names known plain

  -- ---- the expression of an opening

  value_right : (value : Exp) (want : Shape) → written value ≡ true → expression_failures value names [] ≡ []
      → ((part value).elaborate inner [] want).faults ≡ []
      → Right inner [] want ((part value).elaborate inner [] want) (λ w. meaning value w)
  value_right value want w u e =
      expressions_right value w inner names inner_known [] [] (λ name. tt) (none_settled inner) tt want u e

  -- what its core comes to
  value_runs : (value : Exp) (want : Shape) (core : Core) (c : Choice) (state : RunState)
      → Right inner [] want ((part value).elaborate inner [] want) (λ w. meaning value w)
      → RegistersFit setting.types registers state
      → core_meaning wc core ≡ core_meaning wc ((part value).elaborate inner [] want).core
      → Agree (reach_of inner registers c []) (Fits setting.types c ((part value).elaborate inner [] want).shape)
      (core_meaning wc (numbered core 0).it (begun 0 state)) (meaning value ws (begun 0 state))
  value_runs value want core c state right fit same =
      let r = right.runs registers c wc ws described [] (λ name. refl) (begun 0 state) (begun_good inner registers c state fit) in
      (ap (λ (f : Run Value Value). f (begun 0 state)) (numbers_mean_nothing wc core 0 ∙ same) ∙ r.0, r.1)

  -- ---- a let

  -- behind its value
  pattern_opens : (p : Pat) (place : Place) (subject : Shape) (looks : Looked) (c : Choice)
      → LooksRight inner no_widths subject looks (λ w. matching w p)
      → (v : Value) (now : Now Value) → Fits setting.types c subject v → Good (reach_of inner registers c []) now
      → EndsAlike (Adds setting c looks.binds)
      (CoreStart.opening_kind plain_making wc place (O.Let (A.Nested (looks.pattern ∷ []))) v now)
      (((matching ws p v or_else stops (MatchFailure place)) then λ found. gives (record { names = found; change = λ state. state })) now)
  pattern_opens p place subject looks c right v now fit good =
      let reach : Reach = reach_of inner registers c [] in
      let Q : Bindings → Type 0 = Suits setting.types c looks.binds in
      let failed : Run Value Bindings = stops (MatchFailure place) in
      let core_next : Bindings → Run Value CoreStart.Added =
      λ found. gives (record { values = CoreStart.values_of plain_making found; change = λ state. state }) in
      let source_next : Bindings → Run Value SourceStart.Added = λ found. gives (record { names = found; change = λ state. state }) in
      let matched : Agree reach Q (Steps.matcher plain_making wc looks.pattern v now) (matching ws p v now) =
      subst (λ u. Agree reach Q (Steps.matcher plain_making wc looks.pattern v now) (matching u p v now)) (no_widths_there inner registers wc ws described)
      (right.runs registers c wc ws described [] v fit now good) in
      let both = or_agree reach Q (Steps.matcher plain_making wc looks.pattern v now) (matching ws p v now) failed failed matched
      (λ here good2. (refl, good2)) in
      let same : or_so (Steps.arm_meaning plain_making wc (A.Nested (looks.pattern ∷ [])) (v ∷ []) now) failed ≡ or_so (matching ws p v now) failed =
      ap (λ e. or_so e failed) (arm_alone wc looks.pattern v now) ∙ both.0 in
      subst (λ e. EndsAlike (Adds setting c looks.binds) (goes_on e core_next) (goes_on (or_so (matching ws p v now) failed) source_next)) (sym same)
      (goes_alike reach Q (Adds setting c looks.binds) (or_so (matching ws p v now) failed) core_next source_next both.1
      (λ found here suits good2. (bound_for setting.types c looks.binds found suits, (λ state. refl), (λ state. refl))))

  inner_let : (place : Place) (p : Pat) (value : Exp) → pattern_written p ≡ true → written value ≡ true → pattern_failures names p ≡ []
      → expression_failures value names [] ≡ [] → (bound place p (part value) inner []).faults ≡ []
      → (state : RunState) → RegistersFit setting.types registers state
      → EndsAlike (LetAdds setting.types (bound place p (part value) inner []).binds)
      (CoreStart.opening_run plain_making values (binding_opening place (bound place p (part value) inner [])) (begun 0 state))
      (SourceStart.opening_run ws (let_of place p value) (begun 0 state))
  inner_let place p value pw vw pu vu e state fit =
      let want : Shape = wanted_by inner p in
      let found : Found = (part value).elaborate inner [] want in
      let looks : Looked = look p inner no_widths found.shape in
      let h = both_empty (found.faults ++ hole_faults place (has_typ p) found.shape) looks.faults e in
      let k = both_empty found.faults (hole_faults place (has_typ p) found.shape) h.0 in
      let right = value_right value want vw vu k.0 in
      let looks_right : LooksRight inner no_widths found.shape looks (λ w. matching w p) =
      patterns_sound p pw inner names inner_known no_widths found.shape (both_empty (uses_failures names p) (clashes (binds names.known p)) pu).0 h.1 in
      let core : Core = cast found.core (part value).place in
      let core_next : Value → Run Value CoreStart.Added =
      CoreStart.opening_kind plain_making wc place (O.Let (A.Nested (looks.pattern ∷ []))) in
      let source_next : Value → Run Value SourceStart.Added =
      λ v. (matching ws p v or_else stops (MatchFailure place)) then λ found. gives (record { names = found; change = λ state. state }) in
      let at_choice : (c : Choice) → EndsAlike (Adds setting c looks.binds)
      (goes_on (core_meaning wc (numbered core 0).it (begun 0 state)) core_next) (goes_on (meaning value ws (begun 0 state)) source_next) =
      λ c.
      let r = value_runs value want core c state right fit (cast_means wc found.core (part value).place) in
      subst (λ d. EndsAlike (Adds setting c looks.binds) (goes_on d core_next) (goes_on (meaning value ws (begun 0 state)) source_next)) (sym r.0)
      (goes_alike (reach_of inner registers c []) (Fits setting.types c found.shape) (Adds setting c looks.binds) (meaning value ws (begun 0 state))
      core_next source_next r.1 (λ v here fits_it good. pattern_opens p place found.shape looks c looks_right v here fits_it good)) in
      ends_as (λ a b. (c : Choice) → Adds setting c looks.binds a b) (LetAdds setting.types looks.binds)
      (goes_on (core_meaning wc (numbered core 0).it (begun 0 state)) core_next) (goes_on (meaning value ws (begun 0 state)) source_next)
      (λ a b all. record {
        names = bound_all setting.types looks.binds a.values b.names (λ c. (all c).0);
        core_state = (all V.Variable).1;
        source_state = (all V.Variable).2;
      })
      (each_choice (λ c. Adds setting c looks.binds) (goes_on (core_meaning wc (numbered core 0).it (begun 0 state)) core_next)
      (goes_on (meaning value ws (begun 0 state)) source_next) at_choice)

  same_bound : (place : Place) (p : Pat) (value : Exp) → pattern_failures names p ≡ [] → expression_failures value names [] ≡ []
      → let_bound setting place p value ≡ bound place p (part value) inner []
  same_bound place p value pu vu =
      bound_same outer place p (part value)
      (λ subject. patterns_call_nothing p outer names known plain (both_empty (uses_failures names p) (clashes (binds names.known p)) pu).0 no_widths subject)
      (λ locals want. expressions_call_nothing value outer names known plain [] vu locals want) []

  let_opens : (place : Place) (p : Pat) (value : Exp) → (pattern_written p && written value) ≡ true → pattern_failures names p ≡ []
      → expression_failures value names [] ≡ [] → (let_bound setting place p value).faults ≡ []
      → (state : RunState) → RegistersFit setting.types registers state
      → EndsAlike (LetAdds setting.types (let_bound setting place p value).binds)
      (CoreStart.opening_run plain_making values (binding_opening place (let_bound setting place p value)) (begun 0 state))
      (SourceStart.opening_run ws (let_of place p value) (begun 0 state))
  let_opens place p value w pu vu e state fit =
      let k = and_parts (pattern_written p) (written value) w in
      let same = same_bound place p value pu vu in
      subst (λ (b : Binding). EndsAlike (LetAdds setting.types b.binds)
      (CoreStart.opening_run plain_making values (binding_opening place b) (begun 0 state))
      (SourceStart.opening_run ws (let_of place p value) (begun 0 state))) (sym same)
      (inner_let place p value k.0 k.1 pu vu (subst (λ (b : Binding). b.faults ≡ []) same e) state fit)

  -- ---- an initial value

  inner_initial : (place : Place) (r : ℕ) (s : Shape) (value : Exp) → closed s ≡ true → written value ≡ true → expression_failures value names [] ≡ []
      → ((part value).elaborate inner [] s).faults ≡ []
      → (state : RunState) → RegistersFit setting.types registers state
      → EndsAlike (RegisterAdds setting.types r s)
      (CoreStart.opening_run plain_making values (opening place (O.Register r) ((part value).elaborate inner [] s).core) (begun 0 state))
      (SourceStart.opening_run ws (register_of r value) (begun 0 state))
  inner_initial place r s value whole vw vu e state fit =
      let found : Found = (part value).elaborate inner [] s in
      let right = value_right value s vw vu e in
      let c : Choice = V.Variable in
      let run = value_runs value s found.core c state right fit refl in
      let core_next : Value → Run Value CoreStart.Added = CoreStart.opening_kind plain_making wc place (O.Register r) in
      let source_next : Value → Run Value SourceStart.Added = λ v. gives (record { names = []; change = set_all r v }) in
      subst (λ d. EndsAlike (RegisterAdds setting.types r s) (goes_on d core_next) (goes_on (meaning value ws (begun 0 state)) source_next)) (sym run.0)
      (goes_alike (reach_of inner registers c []) (Fits setting.types c found.shape) (RegisterAdds setting.types r s) (meaning value ws (begun 0 state))
      core_next source_next run.1 (λ v here has good. record {
        no_values = refl;
        no_names = refl;
        value = v;
        fit = subst (λ t. fits setting.types v t ≡ true) (closed_is s c whole)
            (subst (λ t. fits setting.types v (put c t) ≡ true) (exact s found.shape 0 right.above whole) has);
        core_state = λ state. refl;
        source_state = λ state. refl;
      }))

  initial_opens : (place : Place) (r : ℕ) (s : Shape) (value : Exp) → closed s ≡ true → written value ≡ true → expression_failures value names [] ≡ []
      → (initial_found setting s value).faults ≡ []
      → (state : RunState) → RegistersFit setting.types registers state
      → EndsAlike (RegisterAdds setting.types r s)
      (CoreStart.opening_run plain_making values (opening place (O.Register r) (initial_found setting s value).core) (begun 0 state))
      (SourceStart.opening_run ws (register_of r value) (begun 0 state))
  initial_opens place r s value whole vw vu e state fit =
      let same = expressions_call_nothing value outer names known plain [] vu [] s in
      subst (λ (f : Found). EndsAlike (RegisterAdds setting.types r s)
      (CoreStart.opening_run plain_making values (opening place (O.Register r) f.core) (begun 0 state))
      (SourceStart.opening_run ws (register_of r value) (begun 0 state))) (sym same)
      (inner_initial place r s value whole vw vu (subst (λ (f : Found). f.faults ≡ []) same e) state fit)

pub lets_open_alike : LetsOpenAlike
lets_open_alike setting registers text values bindings opens names known plain place p value w pu vu e state fit =
    let_opens setting registers text values bindings opens names known plain place p value w pu vu e state fit

pub initials_open_alike : InitialsOpenAlike
initials_open_alike setting registers text values bindings opens names known plain place r s value whole vw vu e state fit =
    initial_opens setting registers text values bindings opens names known plain place r s value whole vw vu e state fit
