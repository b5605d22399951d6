-- What the tables give of a text that they accept: constraints of functions, and the functions that a hart enters.
use Rattle.std.proofs.Common.{◌≡◌, ◌∙◌, sym, refl, subst, ap, arith, ◌<◌, ◌≤◌, ◌&&◌, ℕ, Bool, true, List, [], ◌∷◌, codes, Option, Some, None, slice_get}
use Rattle.std.proofs.lemmas.Bool.{and_parts}
use Rattle.sail_types.specs.Numbers.{Positive}
use Rattle.sail_types.specs.declared.numbers.Con.{Con, Con-F, out-Con, roll-Con}
use Rattle.sail_types.specs.declared.numbers.Con.TheOpen as C
use Rattle.sail_types.specs.declared.numbers.Con.TheVariants as V
use Rattle.sail_types.specs.declared.numbers.Con.TheViews.{roll-out-Con}
use Rattle.sail_types.specs.declared.types.Typ.{Typ, Typ-F, out-Typ}
use Rattle.sail_types.specs.declared.values.Value.TheVariants as W
use Rattle.sail_syntax.specs.declared.definitions.Def.{Def}
use Rattle.sail_kinds.specs.declared.scope.Variable.{Variable}
use Rattle.sail_signatures.specs.Starts.{binds_nothing, form_bool, form_start, form_truth, form_unit, is_reset, is_step}
use Rattle.sail_signatures.specs.Starts.{is_unquantified}
use Rattle.sail_signatures.specs.declared.signature.Signature.{Signature}
use Rattle.sail_tables.specs.Refused.{has_reset, has_step, is_function, signature_in}
use Rattle.sail_core.specs.declared.model.CoreModel.{CoreModel}
use Rattle.sail_core.specs.declared.model.Function.{Function}
use Rattle.known_texts.specs.Signed.{EachSigned}
use Rattle.shape_declarations.specs.Signatures.{number_parameters}
use Rattle.shape_joins.proofs.JoinsLeast.{none, some_same}
use Rattle.shape_joins.proofs.Order.{no}
use Rattle.shape_meanings.proofs.Settling.{same_name}
use Rattle.shape_clauses.specs.Functions.{function_in}
use Rattle.shapes.specs.Resolved.{function_place}
use Rattle.shapes.specs.Tabled.{tabled_of}
use Rattle.soundness_steps.specs.Works.{Coverage, Setting}
use Rattle.soundness_calls.specs.Events.{EventEnters, entered_by, reset_arguments}
use Rattle.whole_runs.specs.Never.{setting_in}
use Rattle.whole_runs.proofs.Events.{functions_kept}
use Rattle.text_progress.specs.Laws.{core_of}
use Rattle.whole_runs.specs.Safe.{IsFoundThroughout}
use Rattle.safe_models.specs.Safe.{Cycles}
use Rattle.safe_models.proofs.Entries.{entering, start_taken, unit_taken}
use Rattle.safe_models.proofs.Functions.{constraints_own, setting_at}
use Rattle.safe_models.proofs.Named.{IsAt, find_body}
use Rattle.safe_models.proofs.Sides.{side_of, text_pairs}

-- a signature that is one of an entry point, under a test of what it takes
nothing_bound : (vs : List Variable) → binds_nothing vs ≡ true → number_parameters vs ≡ []
nothing_bound [] h = refl
nothing_bound (v ∷ vs) h = no h

truth_alone : (c : Con) (o : Con-F Con) → out-Con c ≡ o → form_truth o ≡ true → c ≡ V.Truth true
truth_alone c (C.Truth b) is h = sym (roll-out-Con c) ∙ ap roll-Con (is ∙ ap C.Truth h) ∙ V.rolls-Truth true
truth_alone c o is h = no h

-- no variable, no condition, and this test of what it takes
record Enters (test : Typ-F Typ → Bool) (s : Signature) : Type 0 where
  bound : number_parameters s.variables ≡ []
  free : s.constraint ≡ V.Truth true
  from : test (out-Typ s.from) ≡ true

entering_by : (test : Typ-F Typ → Bool) (more : Bool) (s : Signature) → (is_unquantified s && (test (out-Typ s.from) && more)) ≡ true → Enters test s
entering_by test more s h =
    let k = and_parts (is_unquantified s) (test (out-Typ s.from) && more) h in
    let l = and_parts (binds_nothing s.variables) (form_truth (out-Con s.constraint)) k.0 in
    record {
      bound = nothing_bound s.variables l.0;
      free = truth_alone s.constraint (out-Con s.constraint) refl l.1;
      from = (and_parts (test (out-Typ s.from)) more k.1).0;
    }

step_parts : (o : Option Signature) (s : Signature) → o ≡ Some s → is_step o ≡ true → Enters form_unit s
step_parts None s e h = none e
step_parts (Some x) s e h = subst (Enters form_unit) (some_same x s e) (entering_by form_unit (form_bool (out-Typ x.to)) x h)

reset_parts : (o : Option Signature) (s : Signature) → o ≡ Some s → is_reset o ≡ true → Enters form_start s
reset_parts None s e h = none e
reset_parts (Some x) s e h = subst (Enters form_start) (some_same x s e) (entering_by form_start (form_unit (out-Typ x.to)) x h)

module _ (text : List Def) (cycles : Cycles) (signed : EachSigned text text) (step : has_step text ≡ true) (reset : has_reset text ≡ true)
    (past : Positive) (covered : Coverage) (hart : ℕ) (low : hart < 8) where
  abbrev set : Setting
  set = setting_in (core_of text cycles) past hart covered

  there_in : (i : ℕ) (f : Function) → slice_get (core_of text cycles).functions i ≡ Some f → slice_get set.around.functions i ≡ Some f
  there_in i f e =
      let m : CoreModel = core_of text cycles in subst (λ fs. slice_get fs i ≡ Some f) (sym (functions_kept m [] m.openings)) e

  -- the signature is that of the name
  signed_as : (name : List ℕ) (a : IsAt text cycles (setting_at text) name (core_of text cycles).functions (function_place text name))
      → signature_in text name ≡ Some a.signature
  signed_as name a = ap (signature_in text) (sym (same_name a.own name a.named)) ∙ a.signed

  abbrev found_function : {name : List ℕ} {k : ℕ} → IsAt text cycles (setting_at text) name (core_of text cycles).functions k → Function
  found_function a = function_in (tabled_of text) text (setting_at text a.signature.variables) a.place a.own a.clauses a.signature (cycles a.own)

  step_enters : set.covered.function (entered_by (core_of text cycles).step) ≡ true → EventEnters set (core_of text cycles).step (W.Unit ∷ [])
  step_enters covers =
      let name : List ℕ = codes "step" in
      let k = and_parts (is_function text name) (is_step (signature_in text name)) step in
      let a = find_body text cycles (setting_at text) name signed k.0 in
      let f : Function = found_function a in
      let parts = step_parts (signature_in text name) a.signature (signed_as name a) k.1 in
      entering set f parts.bound (core_of text cycles).step (W.Unit ∷ []) covers (there_in (core_of text cycles).step f a.there) parts.free
      (unit_taken set f parts.bound a.signature.from parts.from)

  reset_enters : set.covered.function (entered_by (core_of text cycles).reset) ≡ true → (entry : ℕ)
      → EventEnters set (core_of text cycles).reset (reset_arguments hart entry)
  reset_enters covers entry =
      let name : List ℕ = codes "reset" in
      let k = and_parts (is_function text name) (is_reset (signature_in text name)) reset in
      let a = find_body text cycles (setting_at text) name signed k.0 in
      let f : Function = found_function a in
      let parts = reset_parts (signature_in text name) a.signature (signed_as name a) k.1 in
      entering set f parts.bound (core_of text cycles).reset (reset_arguments hart entry) covers (there_in (core_of text cycles).reset f a.there) parts.free
      (start_taken set f parts.bound hart entry low a.signature.from parts.from)

pub found_throughout : (text : List Def) (cycles : Cycles) → EachSigned text text → has_step text ≡ true → has_reset text ≡ true
    → (past : Positive) (covered : Coverage) (count : ℕ) → count ≤ 8
    → IsFoundThroughout (core_of text cycles) past covered count
found_throughout text cycles signed step reset past covered count few hart low =
    let less : hart < 8 = omega arith in
    record {
      constraints = constraints_own text cycles;
      sides = side_of (core_of text cycles).directions (text_pairs (tabled_of text) (setting_at text []) text);
      step = step_enters text cycles signed step reset past covered hart less;
      reset = reset_enters text cycles signed step reset past covered hart less;
    }
