-- What is said of a node or an arm, one by one.
use Rattle.std.proofs.Common.{◌≡◌, ◌∙◌, ℕ, ◌+◌, List, [], ◌∷◌, ◌++◌, map, sym, ap, subst, append_assoc, append-nil}
use Rattle.std.specs.Prelude.{OnOk, Result}
use Rattle.std.specs.Borrow.{Bor}
use Rattle.std.proofs.lemmas.Result.{on_ok_weaker}
use Rattle.sail_core.specs.declared.tree.Giver.{Giver}
use Rattle.value_indices.specs.declared.indices.Indices.{Indices, out-Indices}
use Rattle.size_values.specs.declared.sized.Sized.{Sized}
use Rattle.sized_nodes.specs.declared.trees.NodeSizes.{NodeSizes}
use Rattle.sized_meanings.specs.Present.{gives_at}
use Rattle.sized_meanings.specs.Sized.{joined_nodes}
use Rattle.lowered_pieces.specs.declared.coding.Coding.{Coding}
use Rattle.lowered_pieces.specs.Arms.{Held, arm_noted, tuple_noted}
use Rattle.lowered_pieces.specs.Emitted.{Emits, no_labels}
use Rattle.lowered_pieces.specs.Forms.{all_notes, kit_at, note_code, noter_of, notes_of}
use Rattle.lowered_pieces.specs.Places.{Kit, Naming, Temp, from}
use Rattle.lowered_pieces.proofs.Emitting.{ok_next}
use Rattle.lowered_steps.specs.Found.{indices_of}
use Rattle.lowered_steps.specs.declared.setting.Setting.{Setting}
use Rattle.lowered_steps.specs.declared.stands.Levels.{Levels}
use Rattle.lowered_steps.specs.Setting.{kit_for, number_for}
use Rattle.lowered_steps.specs.Stands.{depths_of}
use Rattle.lowered_steps.proofs.Searched.{gives_both}

module _ {T E : Type 0} (r : Result T E) (setting : Setting) (levels : Levels) (old mid new : Coding) where
  abbrev kit : Naming → Kit
  kit name = kit_at (kit_for setting name) (depths_of levels)

  pub all_put : (temp free : ℕ) (s : Sized) (x : Bor Indices) (xs us : List (Bor Indices)) → us ≡ x ∷ xs → free ≡ temp + 1
      → Emits old mid (λ name l. noter_of (kit name) (number_for setting) x.now (from (kit_for setting name) (Temp temp) (number_for setting s)) s free)
      no_labels
      → OnOk r (Emits mid new (λ name l. note_code (kit name) (number_for setting) temp (map indices_of xs) s) no_labels)
      → OnOk r (Emits old new (λ name l. note_code (kit name) (number_for setting) temp (map indices_of us) s) no_labels)
  all_put temp free s x xs us is on e h =
      subst (λ vs. OnOk r (Emits old new (λ name l. note_code (kit name) (number_for setting) temp (map indices_of vs) s) no_labels)) (sym is)
      (ok_next r old mid new
      (λ name. noter_of (kit name) (number_for setting) x.now (from (kit_for setting name) (Temp temp) (number_for setting s)) s (temp + 1))
      (λ name. note_code (kit name) (number_for setting) temp (map indices_of xs) s)
      (subst (λ k. Emits old mid
      (λ name l. noter_of (kit name) (number_for setting) x.now (from (kit_for setting name) (Temp temp) (number_for setting s)) s k) no_labels) on e) h)

  pub arms_put : (hs : List Held) (free : ℕ) (x : Bor Indices) (xs us : List (Bor Indices)) → us ≡ x ∷ xs
      → Emits old mid (λ name l. tuple_noted (kit name) (out-Indices x.now) hs free) no_labels
      → OnOk r (Emits mid new (λ name l. arm_noted (kit name) (map indices_of xs) hs free) no_labels)
      → OnOk r (Emits old new (λ name l. arm_noted (kit name) (map indices_of us) hs free) no_labels)
  arms_put hs free x xs us is e h =
      subst (λ vs. OnOk r (Emits old new (λ name l. arm_noted (kit name) (map indices_of vs) hs free) no_labels)) (sym is)
      (ok_next r old mid new (λ name. tuple_noted (kit name) (out-Indices x.now) hs free) (λ name. arm_noted (kit name) (map indices_of xs) hs free) e h)

pub found_listed : {T E : Type 0} (r : Result T E) (x : Bor Indices) (xs us : List (Bor Indices)) (old mid new : List ℕ) → us ≡ x ∷ xs
    → mid ≡ old ++ notes_of x.now → OnOk r (new ≡ mid ++ all_notes (map indices_of xs)) → OnOk r (new ≡ old ++ all_notes (map indices_of us))
found_listed r x xs us old mid new is e h =
    on_ok_weaker r (λ (k : new ≡ mid ++ all_notes (map indices_of xs)).
    k ∙ ap (λ ns. ns ++ all_notes (map indices_of xs)) e ∙ append_assoc old (notes_of x.now) (all_notes (map indices_of xs))
    ∙ ap (λ vs. old ++ all_notes (map indices_of vs)) (sym is)) h

pub none_listed : (us : List (Bor Indices)) (old : List ℕ) → us ≡ [] → old ≡ old ++ all_notes (map indices_of us)
none_listed us old is = sym (append-nil old) ∙ ap (λ vs. old ++ all_notes (map indices_of vs)) (sym is)

pub all_found : {T E : Type 0} (r : Result T E) (g : Giver) (b : List NodeSizes) (bs us : List (List NodeSizes)) (old mid new : List (Bor Indices)) → us ≡
    b ∷ bs
    → map indices_of mid ≡ map indices_of old ++ gives_at b g → OnOk r (map indices_of new ≡ map indices_of mid ++ gives_at (joined_nodes bs) g)
    → OnOk r (map indices_of new ≡ map indices_of old ++ gives_at (joined_nodes us) g)
all_found r g b bs us old mid new is e h =
    on_ok_weaker r (λ (k : map indices_of new ≡ map indices_of mid ++ gives_at (joined_nodes bs) g).
    k ∙ ap (λ ns. ns ++ gives_at (joined_nodes bs) g) e ∙ append_assoc (map indices_of old) (gives_at b g) (gives_at (joined_nodes bs) g)
    ∙ ap (λ ns. map indices_of old ++ ns) (sym (gives_both b (joined_nodes bs) g))
    ∙ ap (λ vs. map indices_of old ++ gives_at (joined_nodes vs) g) (sym is)) h

pub none_found : (g : Giver) (us : List (List NodeSizes)) (old : List (Bor Indices)) → us ≡ []
    → map indices_of old ≡ map indices_of old ++ gives_at (joined_nodes us) g
none_found g us old is = sym (append-nil (map indices_of old)) ∙ ap (λ vs. map indices_of old ++ gives_at (joined_nodes vs) g) (sym is)
