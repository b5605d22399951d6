-- What an arm has in hand is the same under all numberings of slots.
use Rattle.std.proofs.Common.{◌≡◌, ◌∙◌, ℕ, zero, suc, pos, ◌+◌, ◌-◌, map, Bool, true, false, List, [], ◌∷◌, ◌++◌, refl, ap, if◌then◌else◌}
use Rattle.std.specs.Prelude.{nat_eq}
use Rattle.sail_types.specs.declared.table.Types.{Types}
use Rattle.sail_core.specs.declared.patterns.Head.{Head}
use Rattle.sail_core.specs.declared.patterns.Head.TheVariants as H
use Rattle.sail_core.specs.declared.patterns.Step.{Step}
use Rattle.sail_core.specs.declared.patterns.Step.TheVariants as S
use Rattle.sail_core.specs.Making.{component, one_item, payload}
use Rattle.size_values.specs.declared.sized.Sized.{out-Sized}
use Rattle.size_values.specs.declared.sized.Sized.TheVariants as T
use Rattle.checked_meaning.specs.Items.{part_typ}
use Rattle.lowered_pieces.specs.Places.{Kit, Naming}
use Rattle.lowered_pieces.specs.Arms.{Hand, Held, Taken, arm_hand, at_hand, fields_held, head_taken, held_at, is_union, many_taken}
use Rattle.lowered_pieces.specs.Arms.{cut_takes, cut_widths, list_held, part_at, part_width, rest_at, word_width}
use Rattle.lowered_pieces.specs.Arms.{one_taken, payload_taken, skipped, step_hand, step_taken, steps_hand, takes_held, vector_takes, with_taken}
use Rattle.lowered_steps.specs.declared.setting.Setting.{Setting}
use Rattle.lowered_steps.specs.Setting.{kit_for, size_for}

-- what is taken out, but for its code
pub record SameTaken (a b : Taken) : Type 0 where
  pub parts : a.parts ≡ b.parts
  pub free : a.free ≡ b.free

module _ (types : Types) (setting : Setting) (n m : Naming) where
  abbrev K : Kit
  K = kit_for setting n

  abbrev L : Kit
  L = kit_for setting m

  pub at_same : (hs : List Held) (i : ℕ) → at_hand types K hs i ≡ at_hand types L hs i
  at_same [] i = refl
  at_same (h ∷ hs) zero = refl
  at_same (h ∷ hs) (suc i) = at_same hs i

  pub fields_same : (h : Held) (j q k : ℕ) → fields_held types K h j q k ≡ fields_held types L h j q k
  fields_same h j q zero = refl
  fields_same h j q (suc k) = ap (λ hs. held_at q (part_typ types (component j) h.typ) ∷ hs) (fields_same h (suc j) (q + 1) k)

  pub items_same : (h : Held) (k q : ℕ) → takes_held types K (vector_takes types K h k) q ≡ takes_held types L (vector_takes types L h k) q
  items_same h zero q = refl
  items_same h (suc k) q = ap (λ hs. held_at q (part_typ types one_item h.typ) ∷ hs) (items_same h k (q + 1))

  pub list_same : (h : Held) (k q : ℕ) → list_held types K h k q ≡ list_held types L h k q
  list_same h zero q = refl
  list_same h (suc k) q = ap (λ hs. part_at types K one_item h q ∷ hs) (list_same (rest_at types K h q) k (q + 2))

  pub cut_same : (h : Held) (m : ℕ) (ns : List ℕ) (q : ℕ)
      → takes_held types K (cut_takes types K h m ns) q ≡ takes_held types L (cut_takes types L h m ns) q
  cut_same h m [] q = refl
  cut_same h m (zero ∷ ns) q = ap (λ hs. held_at q (T.Bits (pos 0)) ∷ hs) (cut_same h (m - 0) ns (q + 1))
  cut_same h m (suc n ∷ ns) q = ap (λ hs. held_at q (T.Bits (pos (suc n))) ∷ hs) (cut_same h (m - suc n) ns (q + 1))

  pub payload_same : (h : Held) (u c k q fail : ℕ) → SameTaken (payload_taken types K h u c k q fail) (payload_taken types L h u c k q fail)
  payload_same h u c k q fail = by (nat_eq k 1)
    where
      by : (b : Bool) → SameTaken (if b then one_taken types K h u c q fail else many_taken types K h u c k q fail)
          (if b then one_taken types L h u c q fail else many_taken types L h u c k q fail)
      by true = record { parts = refl; free = refl }
      by false = record { parts = fields_same (held_at q (part_typ types (payload u c) h.typ)) 0 (q + 1) k; free = refl }

  pub head_same : (h : Held) (head : Head) (k q fail : ℕ) → SameTaken (head_taken types K h head k q fail) (head_taken types L h head k q fail)
  head_same h (H.Is literal) k q fail = record { parts = refl; free = refl }
  head_same h H.Tuple k q fail = record { parts = fields_same h 0 q k; free = refl }
  head_same h (H.Constructor u c) k q fail = by (is_union u (out-Sized h.typ)) (payload_same h u c k q fail)
    where
      by : (b : Bool) → SameTaken (payload_taken types K h u c k q fail) (payload_taken types L h u c k q fail)
          → SameTaken (if b then payload_taken types K h u c k q fail else skipped fail (payload_taken types K h u c k q fail))
          (if b then payload_taken types L h u c k q fail else skipped fail (payload_taken types L h u c k q fail))
      by true s = s
      by false s = record { parts = s.parts; free = s.free }
  head_same h H.Vector k q fail = record { parts = items_same h k q; free = refl }
  head_same h H.List k q fail = record { parts = list_same h k q; free = refl }
  head_same h H.Cons k q fail = record { parts = refl; free = refl }
  head_same h (H.Cut ws) k q fail =
      let n = word_width (out-Sized h.typ) in
      record { parts = cut_same h n (cut_widths n (map (part_width (size_for setting)) ws)) q; free = refl }

  taken_same : (hand : Hand) (a b : Taken) → SameTaken a b → with_taken hand a ≡ with_taken hand b
  taken_same hand a b s = ap (λ hs. record hand { values = hand.values ++ hs; free = a.free }) s.parts
      ∙ ap (λ q. record hand { values = hand.values ++ b.parts; free = q }) s.free

  pub step_same : (step : Step) (hand : Hand) (fail : ℕ) → step_hand types K step hand fail ≡ step_hand types L step hand fail
  step_same (S.Opens i head k) hand fail =
      taken_same hand (step_taken types K (S.Opens i head k) hand fail) (head_taken types L (at_hand types K hand.values i) head k hand.free fail)
      (head_same (at_hand types K hand.values i) head k hand.free fail)
      ∙ ap (λ h. with_taken hand (head_taken types L h head k hand.free fail)) (at_same hand.values i)
  step_same (S.Names i name) hand fail =
      ap (λ h. with_taken (record hand {
        names = hand.names ++ record { name = name; place = h.place } ∷ [];
        named = hand.named ++ h ∷ [];
      }) (record { code = []; parts = []; free = hand.free })) (at_same hand.values i)
  step_same (S.Sees a b) hand fail = refl

  pub steps_same : (ss : List Step) (hand : Hand) (fail : ℕ) → steps_hand types K ss hand fail ≡ steps_hand types L ss hand fail
  steps_same [] hand fail = refl
  steps_same (s ∷ ss) hand fail =
      steps_same ss (step_hand types K s hand fail) fail ∙ ap (λ h. steps_hand types L ss h fail) (step_same s hand fail)

  pub arm_same : (ss : List Step) (q fail : ℕ) (hs : List Held) → arm_hand types K ss q fail hs ≡ arm_hand types L ss q fail hs
  arm_same ss q fail hs = steps_same ss (record { values = hs; names = []; named = []; free = q }) fail
