-- Walks of a body one after the other, and bodies in lists.
use Rattle.std.proofs.Common.{◌≡◌, ◌∙◌, ap, sym, refl, ℕ, ◌+◌, ◌<◌, ◌≤◌, List, [], ◌∷◌, ◌++◌, take, drop, length, get_or, map, subst, true, arith}
use Rattle.std.proofs.Common.{append_assoc, append-nil, length-drop, Result, Ok, Err}
use Rattle.std.specs.Prelude.{OnOk, IfOk}
use Rattle.std.proofs.lemmas.List.{map-append}
use Rattle.sail_types.specs.declared.numbers.Index.{Index}
use Rattle.sail_types.specs.declared.table.Parameter.{Parameter}
use Rattle.sail_types.specs.declared.types.Typ.{Typ}
use Rattle.sail_core.specs.declared.model.Direction.{Direction}
use Rattle.sail_core.specs.declared.model.Function.{Function}
use Rattle.sail_core.specs.declared.model.Opening.{Opening}
use Rattle.sail_core.specs.declared.tree.Core.{Core, out-Core}
use Rattle.value_indices.specs.declared.indices.Reading.{Reading}
use Rattle.value_indices.specs.Steps.{Walk, bind}
use Rattle.value_indices.specs.Walking.{Written, begun, run, got, remembering, restored}
use Rattle.value_indices.proofs.Walks.{run_bind}
use Rattle.pattern_leaves.specs.Settings.{Around}
use Rattle.call_arguments.specs.Aims.{aimed}
use Rattle.call_arguments.specs.declared.aims.Aim.{Aim}
use Rattle.call_arguments.specs.declared.aims.Aim.TheVariants as Aims
use Rattle.constraint_gen.specs.Statements.{natural_type}
use Rattle.constraint_gen.specs.Models.{behind_opening, lets_behind}
use Rattle.constraint_gen.proofs.LetsBefore.{next_opening}
use Rattle.constraint_gen.proofs.Lists.{rest_at, none_left}
use Rattle.constraint_gen.specs.Functions.{inside_function, own_indices, reading_under}
use Rattle.size_splits.specs.declared.bodies.BodySteps.{BodySteps}
use Rattle.size_splits.specs.Bodies.{Body, body_read}
use Rattle.size_notes.specs.declared.behind.Behind.{Behind}
use Rattle.size_notes.specs.Bodies.{alone, body_of, clauses_read, declared_read, function_arms, kind_arms, last_read, mapping_bodies, mapping_read}
use Rattle.size_notes.specs.Bodies.{measured_read, opening_bodies, opening_body}
use Rattle.size_notes.specs.Reading.{IsAtRest, body_seen, with_alone}
use Rattle.size_notes.proofs.Walked.{arms_rest, run_alone, whole_body}

-- ---- a walk of its own behind others

pub appended_alone : {A C E : Type 0} (r : Result C E) (bs found : List Behind) (walk : Walk A) (n : ℕ) (w v new : Written) → n ≡ w.next
    → v ≡ restored (run walk (remembering (begun n))) → found ≡ bs → OnOk r (new ≡ with_alone found v w) → OnOk r (new ≡ run (alone bs walk) w)
appended_alone (Ok x) bs found walk n w v new here walked same h =
    h
    ∙ ((λ j. with_alone (same j) ((walked ∙ ap (λ (k : ℕ). restored (run walk (remembering (begun k)))) here) j) w)
    ∙ sym (run_alone bs walk w))
appended_alone (Err e) bs found walk n w v new here walked same h = tt

-- the first of a body
pub opening_end : {A : Type 0} (bs found : List Behind) (walk : Walk A) (w v new : Written) → w ≡ begun 0
    → v ≡ restored (run walk (remembering (begun 0))) → found ≡ bs → new ≡ with_alone found v w → new ≡ run (alone bs walk) (begun 0)
opening_end bs found walk w v new start walked same h =
    h ∙ ((λ j. with_alone (same j) (walked j) (start j)) ∙ sym (run_alone bs walk (begun 0)))

-- ---- functions and their measures

module _ (around : Around) (f : Function) (is : List Index) (inner : Around) (ts : List Typ) (aim : Aim) (w s : Written)
    (inside : inner ≡ inside_function around f is) (types : ts ≡ f.parameters) where
  arms_are : aim ≡ aimed Aims.Due (reading_under f.result is)
      → s ≡ run (clauses_read f.constraint inner ts aim f.is_declared f.body) w → s ≡ run (function_arms around f is) w
  arms_are wanted h = h ∙ (λ j. run (clauses_read f.constraint (inside j) (types j) (wanted j) f.is_declared f.body) w)

  -- behind the clauses nothing is in force
  pub arms_end : aim ≡ aimed Aims.Due (reading_under f.result is)
      → s ≡ run (clauses_read f.constraint inner ts aim f.is_declared f.body) w → IsAtRest w → IsAtRest s
  arms_end wanted h rest =
      subst (λ (v : Written). IsAtRest v) (sym (arms_are wanted h))
      (arms_rest f.constraint (out-Core f.body).place (out-Core f.body).number (inside_function around f is) f.parameters
      (aimed Aims.Due (reading_under f.result is)) f.is_declared (kind_arms (out-Core f.body).kind) (out-Core f.body).parts w rest)

  pub declared_end : {A E : Type 0} (r : Result A E) (t : Written) (answer : Reading) → aim ≡ aimed Aims.Due (reading_under f.result is)
      → answer ≡ reading_under f.result is → s ≡ run (clauses_read f.constraint inner ts aim f.is_declared f.body) w
      → OnOk r (t ≡ run (last_read f.constraint f.place f.last answer) s) → OnOk r (t ≡ run (declared_read around f is) w)
  declared_end (Ok x) t answer wanted same went h =
      h
      ∙ ((λ j. run (last_read f.constraint f.place f.last (same j)) (arms_are wanted went j))
      ∙ sym (run_bind (function_arms around f is) (λ y. last_read f.constraint f.place f.last (reading_under f.result is)) w))
  declared_end (Err e) t answer wanted same went h = tt

  pub measured_end : {A E : Type 0} (r : Result A E) (measure : Core) → aim ≡ Aims.Due natural_type
      → OnOk r (s ≡ run (clauses_read f.constraint inner ts aim true measure) w) → OnOk r (s ≡ run (measured_read around f measure is) w)
  measured_end (Ok x) measure wanted h =
      h ∙ (λ j. run (clauses_read f.constraint (inside j) (types j) (wanted j) true measure) w)
  measured_end (Err e) measure wanted h = tt

-- a definition, from its type variables on
pub own_then : (vs : List Parameter) (next : List Index → Walk (Unit {0})) (is : List Index) (w u s : Written) → w ≡ begun 0
    → is ≡ got (own_indices vs) w → u ≡ run (own_indices vs) w → s ≡ run (next is) u → s ≡ run (bind (own_indices vs) next) (begun 0)
own_then vs next is w u s start gives walks ends =
    ends
    ∙ ((λ j. run (next (gives j)) (walks j))
    ∙ ((λ j. run (next (got (own_indices vs) (start j))) (run (own_indices vs) (start j)))
    ∙ sym (run_bind (own_indices vs) next (begun 0))))

pub read_end : {E : Type 0} (r : Result BodySteps E) (walk : Walk (Unit {0})) (w : Written) → w ≡ run walk (begun 0)
    → IfOk r (λ b. body_read b ≡ body_seen w) → IfOk r (λ b. body_read b ≡ body_of walk)
read_end (Ok b) walk w walked h = h ∙ (ap body_seen walked ∙ whole_body walk)
read_end (Err e) walk w walked h = tt

-- ---- lists of bodies

module _ {A B C : Type 0} (g : A → C) (f : B → C) where
  pub mapped_next : (xs : List B) (k : ℕ) (x : B) (made new : List A) (y : A) (all : List C) → k < length xs → x ≡ get_or xs k x → g y ≡ f x
      → new ≡ made ++ y ∷ [] → map g made ++ map f (drop k xs) ≡ all → map g new ++ map f (drop (k + 1) xs) ≡ all
  mapped_next xs k x made new y all within read own put h =
      let rest = map f (drop (k + 1) xs) in
      ap (λ l. map g l ++ rest) put
      ∙ (ap (λ l. l ++ rest) (map-append g made (y ∷ []))
      ∙ (append_assoc (map g made) (g y ∷ []) rest
      ∙ (ap (λ z. map g made ++ z ∷ rest) own
      ∙ (ap (λ l. map g made ++ map f l) (sym (rest_at xs k x within read)) ∙ h))))

  pub mapped_end : (xs : List B) (k : ℕ) (made : List A) (all : List C) → length xs ≤ k → map g made ++ map f (drop k xs) ≡ all → map g made ≡ all
  mapped_end xs k made all past h =
      sym (append-nil (map g made)) ∙ (ap (λ l. map g made ++ map f l) (sym (none_left xs k past)) ∙ h)

  pub mapped_pushed : (made new : List A) (y : A) (c : C) → g y ≡ c → new ≡ made ++ y ∷ [] → map g new ≡ map g made ++ c ∷ []
  mapped_pushed made new y c own put = ap (map g) put ∙ (map-append g made (y ∷ []) ∙ ap (λ z. map g made ++ z ∷ []) own)

-- openings, each behind those before it
module _ (around : Around) where
  pub opening_next : (os : List Opening) (k : ℕ) (o : Opening) (made new : List BodySteps) (y : BodySteps) (all : List Body) (settings : Around)
      → k < length os → o ≡ get_or os k o → settings ≡ lets_behind around (take k os) → body_read y ≡ opening_body settings o → new ≡ made ++ y ∷ []
      → map body_read made ++ opening_bodies (lets_behind around (take k os)) (drop k os) ≡ all
      → map body_read new ++ opening_bodies (lets_behind around (take (k + 1) os)) (drop (k + 1) os) ≡ all
  opening_next os k o made new y all settings within read is own put h =
      let here : Around = lets_behind around (take k os) in
      let rest : List Body = opening_bodies (behind_opening here o) (drop (k + 1) os) in
      ap (λ (s : Around). map body_read new ++ opening_bodies s (drop (k + 1) os)) (next_opening around os k o within read)
      ∙ (ap (λ l. map body_read l ++ rest) put
      ∙ (ap (λ l. l ++ rest) (map-append body_read made (y ∷ []))
      ∙ (append_assoc (map body_read made) (body_read y ∷ []) rest
      ∙ (ap (λ (z : Body). map body_read made ++ z ∷ rest) (own ∙ ap (λ (s : Around). opening_body s o) is)
      ∙ (ap (λ l. map body_read made ++ opening_bodies here l) (sym (rest_at os k o within read)) ∙ h)))))

  pub openings_read : (os : List Opening) (k : ℕ) (made : List BodySteps) (all : List Body) → length os ≤ k
      → map body_read made ++ opening_bodies around (drop k os) ≡ all → map body_read made ≡ all
  openings_read os k made all past h =
      sym (append-nil (map body_read made)) ∙ (ap (λ l. map body_read made ++ opening_bodies around l) (sym (none_left os k past)) ∙ h)

module _ (around : Around) where
  pub pair_read : (ds : List Direction) (k : ℕ) (m n : Direction) (made new : List BodySteps) (y : BodySteps) (all : List Body)
      → k + 1 < length ds → m ≡ get_or ds k m → n ≡ get_or ds (k + 1) n → body_read y ≡ body_of (mapping_read around m n)
      → new ≡ made ++ y ∷ [] → map body_read made ++ mapping_bodies around (drop k ds) ≡ all
      → map body_read new ++ mapping_bodies around (drop (k + 2) ds) ≡ all
  pair_read ds k m n made new y all within at_first at_second own put h =
      let two : k + 1 + 1 ≡ k + 2 = omega arith in
      let second : drop (k + 1) ds ≡ n ∷ drop (k + 2) ds = rest_at ds (k + 1) n within at_second ∙ ap (λ i. n ∷ drop i ds) two in
      let whole : drop k ds ≡ m ∷ n ∷ drop (k + 2) ds = rest_at ds k m (omega arith) at_first ∙ ap (λ l. m ∷ l) second in
      let rest = mapping_bodies around (drop (k + 2) ds) in
      ap (λ l. map body_read l ++ rest) put
      ∙ (ap (λ l. l ++ rest) (map-append body_read made (y ∷ []))
      ∙ (append_assoc (map body_read made) (body_read y ∷ []) rest
      ∙ (ap (λ z. map body_read made ++ z ∷ rest) own
      ∙ (ap (λ l. map body_read made ++ mapping_bodies around l) (sym whole) ∙ h))))

  few_left : (ds : List Direction) → length ds ≤ 1 → mapping_bodies around ds ≡ []
  few_left [] le = refl
  few_left (m ∷ []) le = refl
  few_left (m ∷ n ∷ ds) le = absurd (omega arith)

  pub pairs_read : (ds : List Direction) (k : ℕ) (made : List BodySteps) (all : List Body) → length ds ≤ k + 1
      → map body_read made ++ mapping_bodies around (drop k ds) ≡ all → map body_read made ≡ all
  pairs_read ds k made all past h =
      let none : length (drop k ds) ≤ 1 = (let e = length-drop k ds in omega arith) in
      sym (append-nil (map body_read made)) ∙ (ap (λ l. map body_read made ++ l) (sym (few_left (drop k ds) none)) ∙ h)
