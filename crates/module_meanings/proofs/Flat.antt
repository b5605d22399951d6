-- The core without mappings and with flat arms under the checks of the core as it is written.
use Rattle.std.proofs.Common.{◌≡◌, ◌∙◌, ℕ, true, List, [], ◌∷◌, map, refl, sym, ap}
use Rattle.std.specs.Prelude.{Option, Some, None, option_map, slice_get}
use Rattle.std.proofs.lemmas.Option.{slice_get-map}
use Rattle.sail_types.specs.declared.types.Typ.{Typ}
use Rattle.sail_types.specs.declared.values.Value.{Value}
use Rattle.model_state.specs.RunState.{RunState}
use Rattle.sail_core.specs.Fragments.{model_in}
use Rattle.sail_core.specs.Meaning.{option_typ}
use Rattle.sail_core.specs.Nodes.{node}
use Rattle.sail_core.specs.declared.tree.Core.{Core, Core-F, fold-roll-Core, out-Core}
use Rattle.sail_core.specs.declared.tree.Core.TheViews.{out-roll-Core}
use Rattle.sail_core.specs.declared.tree.Kind.TheVariants as K
use Rattle.sail_core.specs.Start.{init_ran, ran_from}
use Rattle.sail_core.specs.declared.fragments.Fragment.TheVariants as G
use Rattle.sail_core.specs.declared.model.CoreModel.{CoreModel}
use Rattle.sail_core.specs.declared.model.Direction.{Direction}
use Rattle.mappings.proofs.FreeModels as free
use Rattle.mappings.specs.Rewriting.{free_core, free_direction, last_number, without_mappings}
use Rattle.match_rewrite.specs.Rewriting.{flat_core, flat_direction, flat_kind, with_flat_arms}
use Rattle.match_rewrite.proofs.FlatModels.{runs_kept}
use Rattle.checked_meaning.specs.Checked.{Checks, checking}
use Rattle.sized_nodes.specs.declared.trees.SizedCore.{SizedCore}
use Rattle.sized_meanings.specs.Sized.{noted_checks_of, taken}
use Rattle.safe_models.specs.Options.{OptionFirst}
use Rattle.safe_models.proofs.Options.{keeps_parts}

none_is : {A X : Type 0} (x : A) → None ≡ Some x → X
none_is x e = cc

some_same : {A : Type 0} (x y : A) → Some x ≡ Some y → x ≡ y
some_same x y e = cc

-- what each direction gives is an option of what its clauses give
abbrev pub GiveOptions : List Direction → Type 0
GiveOptions ds = (d : ℕ) (n : Direction) (t : Typ) → slice_get ds d ≡ Some n → (out-Core n.body).kind ≡ K.Optional t → n.result ≡ option_typ t

module _ (m : CoreModel) (c : SizedCore) where
  abbrev flat : CoreModel
  flat = with_flat_arms (without_mappings m)

  taken_at : (v : Value) (o : Option Direction)
      → taken m.types v (option_map flat_direction (option_map free_direction o)) ≡ taken m.types v o
  taken_at v None = refl
  taken_at v (Some d) = refl

  taken_same : (d : ℕ) (v : Value) → taken m.types v (slice_get flat.directions d) ≡ taken m.types v (slice_get m.directions d)
  taken_same d v =
      ap (taken m.types v) (slice_get-map flat_direction (map free_direction m.directions) d)
      ∙ ap (λ o. taken m.types v (option_map flat_direction o)) (slice_get-map free_direction m.directions d) ∙ taken_at v (slice_get m.directions d)

  pub checks_flat : noted_checks_of flat c ≡ noted_checks_of m c
  checks_flat = λ i. record (noted_checks_of m c) { takes = λ d v. taken_same d v i }

  optional_kind : (d : Direction) → (out-Core (flat_direction (free_direction d)).body).kind ≡ K.Optional d.result
  optional_kind d =
      let optional : Core-F Core = record {
        place = d.place;
        number = last_number;
        kind = K.Optional d.result;
        parts = free_core d.body ∷ [];
      } in
      ap (λ (c : Core). (out-Core c).kind) (fold-roll-Core Core (λ c. node c.place c.number (flat_kind c.kind) c.parts) optional)
      ∙ ap (λ (c : Core-F Core). c.kind) (out-roll-Core (record {
        place = d.place;
        number = last_number;
        kind = K.Optional d.result;
        parts = flat_core (free_core d.body) ∷ [];
      }))

  option_same : (s t : Typ) → K.Optional s ≡ K.Optional t → s ≡ t
  option_same s t e = cc

  -- so in a model without mappings
  options_there : (o : Option Direction) (n : Direction) (t : Typ) → option_map flat_direction (option_map free_direction o) ≡ Some n
      → (out-Core n.body).kind ≡ K.Optional t → n.result ≡ option_typ t
  options_there None n t e k = none_is n e
  options_there (Some d) n t e k =
      let is : flat_direction (free_direction d) ≡ n = some_same (flat_direction (free_direction d)) n e in
      ap (λ (x : Direction). x.result) (sym is)
      ∙ ap option_typ (option_same d.result t (sym (optional_kind d) ∙ ap (λ (x : Direction). (out-Core x.body).kind) is ∙ k))

  pub give_options : GiveOptions flat.directions
  give_options d n t e k =
      options_there (slice_get m.directions d) n t
      (sym (ap (option_map flat_direction) (slice_get-map free_direction m.directions d))
      ∙ sym (slice_get-map flat_direction (map free_direction m.directions) d) ∙ e) k

  -- what is worked out once comes to the same
  pub start_flat : model_in G.Resolved m ≡ true → OptionFirst m.types → (state : RunState)
      → init_ran (checking (noted_checks_of flat c)) flat state ≡ init_ran (checking (noted_checks_of m c)) m state
  start_flat resolved first state =
      let k : Checks = noted_checks_of m c in
      ap (λ (l : Checks). init_ran (checking l) flat state) checks_flat
      ∙ ap ran_from ((runs_kept (checking k) (without_mappings m)).openings state
      ∙ (free.runs_kept (checking k) (keeps_parts k first) m resolved).openings state)
