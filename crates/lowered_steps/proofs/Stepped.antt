-- Steps of an arm, as they are put.
use Rattle.std.proofs.Common.{◌≡◌, ◌∙◌, ℕ, ◌+◌, List, [], ◌∷◌, ◌++◌, map, refl, sym, ap, append-nil}
use Rattle.std.proofs.lemmas.List.{map-append}
use Rattle.sail_types.specs.declared.table.Types.{Types}
use Rattle.sail_core.specs.declared.patterns.Head.{Head}
use Rattle.sail_core.specs.declared.patterns.Step.{Step}
use Rattle.sail_core.specs.declared.patterns.Step.TheVariants as S
use Rattle.lowered_pieces.specs.declared.coding.Coding.{Coding}
use Rattle.lowered_pieces.specs.Arms.{Hand, Held, at_hand, head_taken, held_at, seen_code, step_code, step_hand, with_taken}
use Rattle.lowered_pieces.specs.Emitted.{Emits, no_labels}
use Rattle.lowered_pieces.specs.Forms.{Named}
use Rattle.lowered_pieces.specs.Places.{Kit, Naming}
use Rattle.lowered_pieces.proofs.Emitting.{emits_as, emits_none}
use Rattle.lowered_steps.specs.declared.hands.Held.{Held as HeldValue}
use Rattle.lowered_steps.specs.declared.setting.Setting.{Setting}
use Rattle.lowered_steps.specs.declared.stands.Named.{Named as NamedPlace}
use Rattle.lowered_steps.specs.Hands.{held_of}
use Rattle.lowered_steps.specs.Setting.{kit_for, ways_for}
use Rattle.lowered_steps.specs.Stands.{named_of}
use Rattle.lowered_steps.proofs.Framed.{at_same}

abbrev no_slots : Naming
no_slots p t = 0

-- what a hand that the code holds is
abbrev hand_made : List HeldValue → List NamedPlace → List HeldValue → ℕ → Hand
hand_made vs ns ms q = record { values = map held_of vs; names = map named_of ns; named = map held_of ms; free = q }

module _ (setting : Setting) (step : Step) (i : ℕ) (vs : List HeldValue) (ns : List NamedPlace) (ms : List HeldValue) (q throw fail : ℕ) (v : HeldValue)
    (found : held_of v ≡ at_hand setting.types.now (kit_for setting no_slots) (map held_of vs) i) where
  abbrev types : Types
  types = setting.types.now

  abbrev none : Kit
  none = kit_for setting no_slots

  abbrev hand : Hand
  hand = hand_made vs ns ms q

  module _ (head : Head) (k : ℕ) (is : step ≡ S.Opens i head k) where
    pub opened : (old new : Coding) → Emits old new (λ name l. (head_taken types (kit_for setting name) (held_of v) head k q fail).code) no_labels
        → Emits old new (λ name l. step_code types (kit_for setting name) step hand throw fail) no_labels
    opened old new x =
        emits_as old new (λ name l. (head_taken types (kit_for setting name) (held_of v) head k q fail).code)
        (λ name l. step_code types (kit_for setting name) step hand throw fail) no_labels no_labels
        (λ name.
        ap (λ (h : Held). (head_taken types (kit_for setting name) h head k q fail).code) (found ∙ at_same types setting no_slots name (map held_of vs) i)
        ∙ ap (λ (s : Step). step_code types (kit_for setting name) s hand throw fail) (sym is)) (λ name. refl) x

    pub opens : (us : List HeldValue) (q2 : ℕ) → map held_of us ≡ map held_of vs ++ (head_taken types none (held_of v) head k q fail).parts
        → q2 ≡ (head_taken types none (held_of v) head k q fail).free → hand_made us ns ms q2 ≡ step_hand types none step hand fail
    opens us q2 parts free =
        ap (λ (xs : List Held). record { values = xs; names = map named_of ns; named = map held_of ms; free = q2 }) parts
        ∙ ap (λ (p : ℕ). record {
          values = map held_of vs ++ (head_taken types none (held_of v) head k q fail).parts;
          names = map named_of ns;
          named = map held_of ms;
          free = p;
        }) free
        ∙ ap (λ (h : Held). with_taken hand (head_taken types none h head k q fail)) found
        ∙ ap (λ (s : Step). step_hand types none s hand fail) (sym is)

  module _ (name : List ℕ) (is : step ≡ S.Names i name) where
    pub named_code : (old : Coding) → Emits old old (λ n l. step_code types (kit_for setting n) step hand throw fail) no_labels
    named_code old =
        emits_as old old (λ n l. []) (λ n l. step_code types (kit_for setting n) step hand throw fail) no_labels no_labels
        (λ n. ap (λ (s : Step). step_code types (kit_for setting n) s hand throw fail) (sym is)) (λ n. refl) (emits_none old)

    pub names_put : (x : NamedPlace) (ns2 : List NamedPlace) (ms2 : List HeldValue) → ns2 ≡ ns ++ x ∷ [] → ms2 ≡ ms ++ v ∷ []
        → named_of x ≡ record { name = name; place = v.place } → hand_made vs ns2 ms2 q ≡ step_hand types none step hand fail
    names_put x ns2 ms2 names named same =
        let one : map named_of ns2 ≡ map named_of ns ++ record { name = name; place = (held_of v).place } ∷ [] =
        ap (map named_of) names ∙ map-append named_of ns (x ∷ []) ∙ ap (λ (y : Named). map named_of ns ++ y ∷ []) same in
        let all : map held_of ms2 ≡ map held_of ms ++ held_of v ∷ [] = ap (map held_of) named ∙ map-append held_of ms (v ∷ []) in
        ap (λ (xs : List Named). record { values = map held_of vs; names = xs; named = map held_of ms2; free = q }) one
        ∙ ap (λ (xs : List Held). record {
          values = map held_of vs;
          names = map named_of ns ++ record { name = name; place = (held_of v).place } ∷ [];
          named = xs;
          free = q;
        }) all
        ∙ ap (λ (h : Held). record {
          values = map held_of vs;
          names = map named_of ns ++ record { name = name; place = h.place } ∷ [];
          named = map held_of ms ++ h ∷ [];
          free = q;
        }) found
        ∙ ap (λ (xs : List Held). record {
          values = xs;
          names = map named_of ns ++ record { name = name; place = (at_hand types none (map held_of vs) i).place } ∷ [];
          named = map held_of ms ++ at_hand types none (map held_of vs) i ∷ [];
          free = q;
        }) (sym (append-nil (map held_of vs)))
        ∙ ap (λ (s : Step). step_hand types none s hand fail) (sym is)

  module _ (d : ℕ) (is : step ≡ S.Sees i d) where
    pub seen : (old new : Coding) → Emits old new (λ name l. seen_code types (kit_for setting name) (ways_for setting d) (held_of v) q throw) no_labels
        → Emits old new (λ name l. step_code types (kit_for setting name) step hand throw fail) no_labels
    seen old new x =
        emits_as old new (λ name l. seen_code types (kit_for setting name) (ways_for setting d) (held_of v) q throw)
        (λ name l. step_code types (kit_for setting name) step hand throw fail) no_labels no_labels
        (λ name.
        ap (λ (h : Held). seen_code types (kit_for setting name) (ways_for setting d) h q throw)
        (found ∙ at_same types setting no_slots name (map held_of vs) i)
        ∙ ap (λ (s : Step). step_code types (kit_for setting name) s hand throw fail) (sym is)) (λ name. refl) x

    pub sees : (us : List HeldValue) (q2 : ℕ) → map held_of us ≡ map held_of vs ++ held_at q (ways_for setting d).gives ∷ [] → q2 ≡ q + 1
        → hand_made us ns ms q2 ≡ step_hand types none step hand fail
    sees us q2 parts free =
        ap (λ (xs : List Held). record { values = xs; names = map named_of ns; named = map held_of ms; free = q2 }) parts
        ∙ ap (λ (p : ℕ). record {
          values = map held_of vs ++ held_at q (ways_for setting d).gives ∷ [];
          names = map named_of ns;
          named = map held_of ms;
          free = p;
        }) free
        ∙ ap (λ (s : Step). step_hand types none s hand fail) (sym is)
