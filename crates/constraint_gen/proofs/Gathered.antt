-- What is gathered of a model's definitions, one after the other.
use Rattle.std.proofs.Common.{◌≡◌, ℕ, ◌+◌, ◌<◌, ◌≤◌, List, [], ◌∷◌, ◌++◌, length, map, drop, get_or}
use Rattle.std.proofs.Common.{sym, ap, ◌∙◌, refl, append_assoc, append-nil}
use Rattle.std.proofs.lemmas.List.{map-append}
use Rattle.linear.specs.Choices.{joined}
use Rattle.sail_core.specs.declared.model.CoreModel.{CoreModel}
use Rattle.value_indices.specs.declared.walking.Walking.{Walking}
use Rattle.value_indices.specs.Steps.{Note}
use Rattle.value_indices.specs.Walking.{Written, begun, run, seen}
use Rattle.pattern_leaves.specs.Settings.{Around}
use Rattle.obligations.specs.declared.obligation.Obligation.{Obligation}
use Rattle.constraint_gen.specs.declared.defined.Placed.{Placed}
use Rattle.constraint_gen.specs.Defined.{walk_of, definition_of, definitions_of}
use Rattle.constraint_gen.specs.Models as models
use Rattle.constraint_gen.specs.Models.{Definition, from_nothing, definitions_under}
use Rattle.constraint_gen.specs.Obligations.{obligations_in}
use Rattle.constraint_gen.specs.Reading.{notes_of, obligations_of}
use Rattle.function_notes.proofs.Lists.{rest_at, none_left}

abbrev pub gathered : {A : Type 0} → (Definition → List A) → CoreModel → Around → List Placed → List A
gathered f core around list = joined (map f (definitions_of core around list))

module _ {A : Type 0} (f : Definition → List A) (core : CoreModel) (around : Around) where
  one_gathered : (list : List Placed) (k : ℕ) (x : Placed) (made new all : List A) → k < length list → x ≡ get_or list k x
      → new ≡ made ++ f (definition_of core around x) → made ++ gathered f core around (drop k list) ≡ all
      → new ++ gathered f core around (drop (k + 1) list) ≡ all
  one_gathered list k x made new all within read put h =
      ap (λ l. l ++ gathered f core around (drop (k + 1) list)) put
      ∙ (append_assoc made (f (definition_of core around x)) (gathered f core around (drop (k + 1) list))
      ∙ (ap (λ l. made ++ gathered f core around l) (sym (rest_at list k x within read)) ∙ h))

  pub all_gathered : (list : List Placed) (k : ℕ) (made all : List A) → length list ≤ k
      → made ++ gathered f core around (drop k list) ≡ all → made ≡ all
  all_gathered list k made all past h =
      sym (append-nil made) ∙ (ap (λ l. made ++ gathered f core around l) (sym (none_left list k past)) ∙ h)

  -- of the whole model
  pub first_gathered : (list : List Placed) → around ≡ models.around_of core → definitions_of core around list ≡ definitions_under core around
      → gathered f core around list ≡ joined (map f (models.definitions core))
  first_gathered list settings listed = ap (λ l. joined (map f l)) (listed ∙ ap (definitions_under core) settings)

-- ---- obligations, and notes, of a walk from nothing

abbrev pub owed_by : Definition → List Obligation
owed_by d = obligations_in (from_nothing d)

abbrev pub noted_by : Definition → List (List Note)
noted_by d = (from_nothing d).notes ∷ []

noted_alone : (ds : List Definition) → joined (map noted_by ds) ≡ map (λ d. (from_nothing d).notes) ds
noted_alone [] = refl
noted_alone (d ∷ ds) = ap (λ l. (from_nothing d).notes ∷ l) (noted_alone ds)

pub all_noted : (core : CoreModel) → joined (map noted_by (models.definitions core)) ≡ models.notes core
all_noted core = noted_alone (models.definitions core)

owed_from_nothing : (d : Definition) → obligations_of (run d.walk (begun 0)) ≡ owed_by d
unfolding run
owed_from_nothing d = refl

noted_from_nothing : (d : Definition) → (run d.walk (begun 0)).notes ≡ (from_nothing d).notes
unfolding run
noted_from_nothing d = refl

module _ (core : CoreModel) (around : Around) (list : List Placed) (k : ℕ) (x : Placed) (w : Walking) (within : k < length list)
    (read : x ≡ get_or list k x) (walked : seen w ≡ run (walk_of core around x.defined) (begun 0)) where
  pub one_owed : (made new all : List Obligation) → new ≡ made ++ obligations_of (seen w) → made ++ gathered owed_by core around (drop k list) ≡ all
      → new ++ gathered owed_by core around (drop (k + 1) list) ≡ all
  one_owed made new all put h =
      one_gathered owed_by core around list k x made new all within read
      (put ∙ ap (λ l. made ++ l) (ap obligations_of walked ∙ owed_from_nothing (definition_of core around x))) h

  pub one_noted : (made new : List Walking) (all : List (List Note)) → new ≡ made ++ w ∷ []
      → map notes_of made ++ gathered noted_by core around (drop k list) ≡ all
      → map notes_of new ++ gathered noted_by core around (drop (k + 1) list) ≡ all
  one_noted made new all put h =
      one_gathered noted_by core around list k x (map notes_of made) (map notes_of new) all within read
      (ap (map notes_of) put
      ∙ (map-append notes_of made (w ∷ [])
      ∙ ap (λ n. map notes_of made ++ n ∷ []) (ap (λ (v : Written). v.notes) walked ∙ noted_from_nothing (definition_of core around x)))) h
