-- Kinds of nodes that are fine.
use Rattle.std.proofs.Common.{◌≡◌, ℕ, true, false, List, [], ◌∷◌, Some, None, refl}
use Rattle.sail_core.specs.Making.{World}
use Rattle.sail_core.specs.declared.patterns.Arm.{Arm}
use Rattle.sail_core.specs.declared.tree.Callee.{Callee}
use Rattle.sail_core.specs.declared.tree.Callee.TheVariants as C
use Rattle.sail_core.specs.declared.tree.Kind.{Kind}
use Rattle.sail_core.specs.declared.tree.Kind.TheVariants as K
use Rattle.fitting_laws.proofs.Counting as Counting
use Rattle.pattern_notes.specs.Patterns.{arm_match}
use Rattle.pattern_laws.proofs.Growing as Growing
use Rattle.expression_steps.specs.Parts.{Part}
use Rattle.checked_meaning.specs.Items.{Item}
use Rattle.soundness_steps.specs.Works.{Kept, Scene}
use Rattle.soundness_forms.specs.Calls.{CalleeFits}
use Rattle.soundness_forms.specs.EachKind.{KindFine}
use Rattle.soundness_forms.specs.Forms.{at}
use Rattle.soundness_forms.specs.Joins.{AllArmsGrow, FreeJoining}
use Rattle.soundness_forms.specs.Patterns.{AllMatch}
use Rattle.soundness_forms.proofs.Guards.{applies_kind, clauses_kind, optional_kind, when_kind}
use Rattle.soundness_forms.proofs.LeavingKinds.{exit_kind, return_kind, top_level_kind}
use Rattle.soundness_forms.proofs.Matching.{match_kind}
use Rattle.soundness_forms.proofs.PlainKinds.{cast_kind, constant_kind, local_kind, variable_kind, written_kind}
use Rattle.soundness_forms.proofs.Registers.{register_kind}
use Rattle.soundness_forms.proofs.Throwing.{assert_kind, throw_kind}
use Rattle.soundness_binding.specs.Patterned.{arms_stand, patterns_stand}
use Rattle.soundness_binding.proofs.BindingKinds.{block_kind, let_kind, var_kind}
use Rattle.soundness_binding.proofs.Matched.{all_lets_match, all_match, lets_match}
use Rattle.soundness_fits.proofs.Owing.{calls_fit_standing, fits_suffice}
use Rattle.soundness_parts.proofs.PartKinds.{part_kind, with_item_kind, with_slice_kind}
use Rattle.soundness_parts.proofs.WithKinds.{with_kind}
use Rattle.soundness_targets.proofs.AssignKind.{assign_kind}
use Rattle.soundness_sizes.specs.Kinds.{sizes_stand}
use Rattle.soundness_sizes.proofs.SizeKinds.{constraint_kind, size_kind}
use Rattle.soundness_values.proofs.Filled.{filled_value, met_grows}
use Rattle.soundness_values.proofs.Functions.{function_kind}
use Rattle.soundness_values.proofs.MadeKinds.{cons_kind, list_kind, row_kind, tuple_kind, vector_kind}
use Rattle.soundness_values.proofs.Mappings.{converts_kind}
use Rattle.soundness_values.proofs.NamedKinds.{constructor_kind, struct_kind}
use Rattle.soundness_values.proofs.Taken.{widening}
use Rattle.soundness_joins.proofs.AgreementCounts.{agreement_counts}
use Rattle.soundness_joins.proofs.FreeJoins.{free_joining}
use Rattle.soundness_joins.proofs.IfKind.{if_kind}
use Rattle.soundness_joins.proofs.JoinedKinds.{and_kind, foreach_kind, or_kind, repeat_kind, while_kind}
use Rattle.soundness_joins.proofs.TryKind.{try_kind}
use Rattle.sail_soundness.specs.Whole.{ModelStands}

-- ---- ways that meet

arms_grow : AllArmsGrow
arms_grow around place arm i =
    let h : Counting.Grows (arm_match place arm around (record { in_case = true; is_owed = false }) (i ∷ [])) =
    Growing.arm_grows around place arm (record { in_case = true; is_owed = false }) (i ∷ []) in
    record { onward = h.onward; more = h.more; extends = h.extends }

joining : FreeJoining
joining = free_joining fits_suffice met_grows

module _ (q : Scene) (w : World Item) (model : ModelStands q.set q.work) where
  callees_fit : (i : ℕ) → CalleeFits q.set i
  callees_fit i f is = calls_fit_standing f (model.places i f is)

  calls : (callee : Callee) → KindFine q w (K.Call callee)
  calls (C.Applies d) = applies_kind q w d
  calls (C.Function i) = function_kind fits_suffice q w i (callees_fit i)
  calls (C.Row row) = row_kind fits_suffice q w widening row
  calls (C.Constructor u c) = constructor_kind fits_suffice q w model.narrow u c
  calls (C.Converts d) = converts_kind fits_suffice q w model.fits.mappings d

  arms : (cases : List Arm) → arms_stand q.set.around.types q.numbers cases ≡ true → (names : List Kept) → AllMatch (at q w names true) w cases
  arms cases stand names = all_match (at q w names true) w model.fits refl cases stand

  pub proved : (kind : Kind) → patterns_stand q.set.around.types q.numbers kind ≡ true → sizes_stand q.numbers kind ≡ true → KindFine q w kind
  proved (K.Constant l) p s = constant_kind fits_suffice q w l
  proved (K.Local name) p s = local_kind fits_suffice q w name
  proved (K.Variable name) p s = variable_kind fits_suffice q w name
  proved (K.TopLevel i) p s = top_level_kind (λ types s j. filled_value types 0 s j) fits_suffice q w i
  proved (K.Register i) p s = register_kind fits_suffice q w model.registers i
  proved (K.Call callee) p s = calls callee
  proved K.And p s = and_kind fits_suffice q w
  proved K.Or p s = or_kind fits_suffice q w
  proved (K.Cast None) p s = cast_kind fits_suffice q w
  proved (K.Cast (Some written)) p s = written_kind fits_suffice q w written
  proved K.Tuple p s = tuple_kind fits_suffice q w
  proved (K.Vector shape) p s = vector_kind fits_suffice q w shape
  proved (K.List shape) p s = list_kind fits_suffice q w shape
  proved (K.Cons shape) p s = cons_kind fits_suffice q w shape
  proved (K.Struct u fields) p s = struct_kind fits_suffice q w model.narrow u fields
  proved (K.With u fields) p s = with_kind fits_suffice q w model.narrow u fields
  proved (K.Part suffixes) p s = part_kind q w fits_suffice model.narrow suffixes
  proved K.WithItem p s = with_item_kind q w fits_suffice
  proved K.WithSlice p s = with_slice_kind q w fits_suffice
  proved (K.SizeOf t ns) p s = size_kind fits_suffice q w t ns s
  proved (K.Constraint c ns) p s = constraint_kind fits_suffice q w c ns s
  proved (K.Assign targets) p s = assign_kind fits_suffice q w model.narrow model.registers callees_fit model.fits.mappings targets
  proved (K.Block statements) p s = block_kind q w fits_suffice statements (all_lets_match q w model.fits statements p)
  proved (K.Let arm) p s = let_kind q w arm (lets_match q w model.fits arm p)
  proved (K.Var name written) p s = var_kind q w name written
  proved (K.If shape) p s = if_kind fits_suffice joining met_grows agreement_counts q w shape
  proved (K.Match cases shape) p s = match_kind arms_grow q w joining met_grows agreement_counts cases shape (arms cases p)
  proved (K.Try cases shape) p s = try_kind arms_grow q w joining met_grows agreement_counts cases shape (arms cases p)
  proved (K.Clauses cases) p s = clauses_kind q w cases
  proved K.When p s = when_kind q w
  proved (K.Foreach name way) p s = foreach_kind fits_suffice q w name way
  proved K.While p s = while_kind fits_suffice q w
  proved K.Repeat p s = repeat_kind fits_suffice q w
  proved K.Return p s = return_kind fits_suffice q w
  proved K.Throw p s = throw_kind fits_suffice q w
  proved K.Exit p s = exit_kind fits_suffice q w
  proved (K.Assert text) p s = assert_kind fits_suffice q w text
  proved (K.Optional x) p s = optional_kind q w x
