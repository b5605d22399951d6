-- Parts from left to right, and new values of fields, as the code has them.
use Rattle.std.proofs.Common.{◌≡◌, ◌∙◌, ap, sym, ℕ, List, ◌∷◌, Option, None, Some, length, take}
use Rattle.std.proofs.lemmas.List.{length-map}
use Rattle.sail_base.specs.declared.place.Place.{Place}
use Rattle.sail_core.specs.declared.tree.Core.{Core}
use Rattle.sail_core.specs.declared.tree.Kind.{Kind}
use Rattle.value_indices.specs.Steps.{Walk}
use Rattle.value_indices.specs.Walking.{Written, got, run}
use Rattle.value_indices.specs.declared.indices.Indices.{Indices, out-Indices}
use Rattle.pattern_leaves.proofs.Walked.{then_got, then_run}
use Rattle.pattern_leaves.specs.Settings.{Around, Scope}
use Rattle.call_arguments.specs.declared.aims.Aim.{Aim}
use Rattle.call_arguments.specs.declared.aims.Aim.TheVariants as Aims
use Rattle.expression_steps.specs.Coded.{each_part}
use Rattle.expression_steps.specs.Expressions.{part, made_plain}
use Rattle.expression_steps.specs.Filling.{with_ended}
use Rattle.expression_steps.specs.Making.{made_aims, made_count, made_end}
use Rattle.expression_steps.specs.Parts.{each_walk, led}
use Rattle.expression_steps.specs.Values.{no_struct, with_aims, with_behind, with_walk}
use Rattle.expression_steps.proofs.Rests.{others}
use Rattle.expression_notes.proofs.Alike.{Alike}
use Rattle.expression_notes.proofs.Arguments.{parts_taken}
use Rattle.expression_notes.proofs.MadeKinds.{made_kind_got, made_kind_run}

-- ---- so many parts, and what is made of their values

module _ (around : Around) (scope : Scope) (place : Place) (k : ℕ) (kind : Kind) (cs firsts : List Core) (aim : Aim) (aims : List Aim) (count : ℕ)
    (values : List Indices) (w v : Written) (some : count ≡ made_count around kind (length cs)) (first : firsts ≡ take count cs)
    (asks : aims ≡ made_aims around kind (length cs) aim) (is : values ≡ got (each_walk (each_part firsts) around scope aims) w)
    (was : v ≡ run (each_walk (each_part firsts) around scope aims) w) where
  abbrev each : Walk (List Indices)
  each = each_walk (take (made_count around kind (length cs)) (each_part cs)) around scope (made_aims around kind (length cs) aim)

  abbrev next : List Indices → Walk Indices
  next = made_end around scope place k kind (each_part cs) aim

  opens : each_walk (each_part firsts) around scope aims ≡ each
  opens = λ j. each_walk (sym (parts_taken cs (made_count around kind (length cs)) firsts (first ∙ ap (λ n. take n cs) some)) j) around scope (asks j)

  gave : values ≡ got each w
  gave = is ∙ ap (λ (a : Walk (List Indices)). got a w) opens

  went : v ≡ run each w
  went = was ∙ ap (λ (a : Walk (List Indices)). run a w) opens

  pub made_ends : Alike (got (next values) v) (got (made_plain place k kind (each_part cs) around scope aim) w) (run (next values) v)
      (run (made_plain place k kind (each_part cs) around scope aim) w)
  made_ends = record {
    value = then_got each next w v values gave went
        ∙ made_kind_got around scope w place k aim kind (each_part cs) (length cs) (sym (length-map cs part));
    walked = then_run each next w v values gave went
        ∙ made_kind_run around scope w place k aim kind (each_part cs) (length cs) (sym (length-map cs part));
  }

-- ---- `{ e with f = e }`

module _ (place : Place) (k u : ℕ) (ks : List ℕ) (a : Core) (cs : List Core) (around : Around) (scope : Scope) (i : Indices) (w v : Written)
    (parts : cs ≡ a ∷ others cs) (is : i ≡ got ((part a).walk around scope Aims.Free) w) (was : v ≡ run ((part a).walk around scope Aims.Free) w) where
  abbrev whole : List Core → Walk Indices
  whole xs = led place (λ b values. with_walk place k u ks b values around scope) (each_part xs)

  abbrev first : Walk Indices
  first = (part a).walk around scope Aims.Free

  abbrev behind : Indices → Option (List Aim) → Walk Indices
  behind x = with_behind place k u ks (each_part (others cs)) around scope x

  abbrev after : Indices → Walk Indices
  after x = behind x (with_aims around u ks (length (each_part (others cs))) (out-Indices x))

  counted : with_aims around u ks (length (others cs)) (out-Indices i) ≡ with_aims around u ks (length (each_part (others cs))) (out-Indices i)
  counted = sym (λ j. with_aims around u ks (length-map (others cs) part j) (out-Indices i))

  pub without : (asked : Option (List Aim)) → asked ≡ with_aims around u ks (length (others cs)) (out-Indices i) → asked ≡ None
      → Alike (got (no_struct place (out-Indices i)) v) (got (whole cs) w) (run (no_struct place (out-Indices i)) v) (run (whole cs) w)
  without asked asks none =
      let opens = ap (behind i) (sym none ∙ asks ∙ counted) in
      record {
        value = ap (λ (x : Walk Indices). got x v) opens ∙ then_got first after w v i is was ∙ sym (ap (λ (xs : List Core). got (whole xs) w) parts);
        walked = ap (λ (x : Walk Indices). run x v) opens ∙ then_run first after w v i is was ∙ sym (ap (λ (xs : List Core). run (whole xs) w) parts);
      }

  abbrev ended : List Indices → Walk Indices
  ended = with_ended around place k u ks i

  pub with_values : (asked : Option (List Aim)) (aims wants : List Aim) (firsts : List Core) (values : List Indices) (z : Written)
      → asked ≡ with_aims around u ks (length (others cs)) (out-Indices i) → asked ≡ Some aims → firsts ≡ take (length aims) (others cs) → wants ≡ aims
      → values ≡ got (each_walk (each_part firsts) around scope wants) v → z ≡ run (each_walk (each_part firsts) around scope wants) v
      → Alike (got (ended values) z) (got (whole cs) w) (run (ended values) z) (run (whole cs) w)
  with_values asked aims wants firsts values z asks some taken wanted gave went =
      let second = each_walk (take (length aims) (each_part (others cs))) around scope aims in
      let opens = ap (behind i) (sym some ∙ asks ∙ counted) in
      let same = sym (parts_taken (others cs) (length aims) firsts taken) in
      let found : values ≡ got second v = gave ∙ (λ j. got (each_walk (same j) around scope (wanted j)) v) in
      let walked : z ≡ run second v = went ∙ (λ j. run (each_walk (same j) around scope (wanted j)) v) in
      record {
        value = then_got second ended v z values found walked ∙ ap (λ (x : Walk Indices). got x v) opens ∙ then_got first after w v i is was
            ∙ sym (ap (λ (xs : List Core). got (whole xs) w) parts);
        walked = then_run second ended v z values found walked ∙ ap (λ (x : Walk Indices). run x v) opens ∙ then_run first after w v i is was
            ∙ sym (ap (λ (xs : List Core). run (whole xs) w) parts);
      }
