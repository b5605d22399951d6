-- Patterns, form by form, and arms.
use Rattle.std.proofs.Common.{◌≡◌, ℕ, suc, Bool, true, List, [], ◌∷◌, ◌++◌, map, length, refl, sym, ap, ◌∙◌, subst, if◌then◌else◌}
use Rattle.std.proofs.lemmas.Bool.Decides.{Decides-eqb}
use Rattle.std.proofs.lemmas.Bool.{and_parts}
use Rattle.std.proofs.lemmas.List.{length-map}
use Rattle.sail_base.specs.declared.place.Place.{Place}
use Rattle.sail_types.specs.Belongs.{Reading as Closed}
use Rattle.sail_types.specs.Numbers.{Positive}
use Rattle.sail_types.specs.declared.values.Value.{out-Value}
use Rattle.sail_core.specs.declared.patterns.Arm.{Arm}
use Rattle.sail_core.specs.declared.patterns.Arm.TheVariants as A
use Rattle.sail_core.specs.declared.patterns.Form.{Form}
use Rattle.sail_core.specs.declared.patterns.Form.TheVariants as F
use Rattle.sail_core.specs.declared.patterns.Head.{Head}
use Rattle.sail_core.specs.declared.patterns.Head.TheVariants as H
use Rattle.sail_core.specs.declared.patterns.Pattern.{Pattern, Pattern-F, roll-Pattern, fold-roll-Pattern, map-Pattern, ind-Pattern}
use Rattle.sail_core.specs.Run.{Local, Run, stuck, ◌then◌}
use Rattle.sail_core.specs.Making.{Making, World}
use Rattle.sail_core.specs.Patterns.{parts_of, Matcher, named, parts_match as run_parts, pattern_meaning, matcher, counted, arm_meaning}
use Rattle.value_indices.specs.declared.indices.Indices.{Indices, out-Indices, roll-Indices}
use Rattle.value_indices.specs.declared.indices.Indices.TheOpen as W
use Rattle.value_indices.specs.declared.indices.Indices.TheOpen.{Indices-F}
use Rattle.value_indices.specs.declared.indices.Indices.TheVariants as I
use Rattle.value_indices.specs.declared.indices.Indices.TheViews.{roll-out-Indices}
use Rattle.value_indices.specs.declared.indices.Reading.{Reading}
use Rattle.value_indices.specs.declared.notes.Fact.{Fact}
use Rattle.value_indices.specs.Steps.{Walk}
use Rattle.checked_meaning.specs.Items.{Item}
use Rattle.checked_meaning.specs.Checked.{Cases}
use Rattle.pattern_leaves.specs.declared.names.Bound.{Bound}
use Rattle.pattern_leaves.specs.Settings.{Around, bound}
use Rattle.pattern_notes.specs.declared.matching.Matching.{Matching}
use Rattle.pattern_notes.specs.Patterns.{Look, look_form, look, looks, form_match, form_written, opens_met, arm_match, arm_written, one_match}
use Rattle.value_laws.specs.Belonging.{standing, has}
use Rattle.value_laws.specs.Known.{Point}
use Rattle.value_laws.proofs.Basics.{no}
use Rattle.value_laws.proofs.Steps.{same}
use Rattle.pattern_laws.specs.Beside.{Ends, OfSizes, Behind, Beside}
use Rattle.pattern_laws.specs.Typing.{Typing, Bears, AllBear}
use Rattle.pattern_laws.specs.Standing.{each_stands, form_stands, head_stands, stands, arm_stands}
use Rattle.pattern_laws.specs.Grounds.{IsOwed, Ways}
use Rattle.pattern_laws.specs.Laws.{PatternIsSound, ArmIsSound, LetIsSound, ends_of, typing_of, PatternsAreSound, ArmsAreSound, LetsAreSound}
use Rattle.pattern_laws.proofs.Growing.{AllGrow, form_grows}
use Rattle.pattern_laws.proofs.Steps.{rests, wrongs, binds}
use Rattle.pattern_laws.proofs.Values.{never_had}
use Rattle.pattern_laws.proofs.Points.{bears_on, names_both}
use Rattle.pattern_laws.proofs.Parts.{reads, Grounds, Names, Well, AllWell, all_stand, parts_beside}
use Rattle.pattern_laws.proofs.Whole.{AllWhole, form_gives}
use Rattle.pattern_laws.proofs.Literals.{literal_beside}
use Rattle.pattern_laws.proofs.Heads.{alone, by_count, tuple_beside, list_beside, cons_beside, vector_beside}
use Rattle.pattern_laws.proofs.Unions.{union_beside}
use Rattle.pattern_laws.proofs.Cuts.{cut_beside}
use Rattle.pattern_laws.proofs.Annotated.{typed_beside, maps_beside}

module _ (around : Around) (past : Positive) (own : List Closed) {fit : OfSizes} (y : Typing around.types past own fit) (q : Ends fit) (cases : Cases)
    (w : World Item)
    (ways : Ways around past own y q w) where
  abbrev Found : Behind (List Bound) (List (Local Item))
  Found = Names around past own y q cases w

  abbrev Good : {n : ℕ} → Point n → Type 0
  Good f = Grounds around past own y q cases w f

  abbrev Has : {n : ℕ} → Point n → Indices → Item → Type 0
  Has f i x = Bears around.types past own y f i x

  abbrev Fine : List Look → List (Matcher Item) → List Bool → Type 0
  Fine ps ms ss = AllWell around past own y q cases w ps ms ss

  abbrev z : Making Item
  z = reads around past own y q cases w

  all_grow : (ps : List Look) (ms : List (Matcher Item)) (ss : List Bool) → Fine ps ms ss → AllGrow around ps
  all_grow [] [] [] h = tt
  all_grow [] [] (k ∷ ss) h = absurd h
  all_grow [] (m ∷ ms) ss h = absurd h
  all_grow (a ∷ ps) [] ss h = absurd h
  all_grow (a ∷ ps) (m ∷ ms) [] h = absurd h
  all_grow (a ∷ ps) (m ∷ ms) (k ∷ ss) h = (h.0.grows, all_grow ps ms ss h.1)

  -- ---- a head, of a value of these indices

  abbrev Opens : (n : ℕ) → Point n → List Fact → Place → Head → Matching → List Look → List (Matcher Item) → Item → Indices-F Indices Reading → Type 0
  Opens n f facts place head how ps ms x i =
      Beside q past n f facts (opens_met place head ps around how i) (parts_of z w head (length ms) x then run_parts ms) Found

  moved : {n : ℕ} {f : Point n} {i j : Indices} (x : Item) → i ≡ j → Has f i x → Has f j x
  moved {f = f} x e b = subst (λ k. Has f k x) e b

  -- a first item, and the others
  cons_of : {n : ℕ} {f : Point n} {facts : List Fact} (place : Place) (how : Matching) (ps : List Look) (ms : List (Matcher Item)) (ss : List Bool)
      → Fine ps ms ss → (r : Reading) (x : Item) → Has f (I.List r) x → Good f → head_stands around.types around.numbers H.Cons ss ≡ true
      → Opens n f facts place H.Cons how ps ms x (W.List r)
  cons_of place how ps ms [] h r x b s t = no t
  cons_of place how ps ms (p ∷ []) h r x b s t = no t
  cons_of place how ps ms (p ∷ p2 ∷ p3 ∷ ss) h r x b s t = no t
  cons_of place how (a ∷ c ∷ []) (m ∷ k ∷ []) (p ∷ p2 ∷ []) h r x b s t =
      cons_beside around past own y q cases w place how a c m k p p2 h.0 h.1.0 r x b s t (out-Value x.val) refl
  cons_of place how [] [] (p ∷ p2 ∷ []) h r x b s t = absurd h
  cons_of place how [] (m ∷ ms) (p ∷ p2 ∷ []) h r x b s t = absurd h
  cons_of place how (a ∷ ps) [] (p ∷ p2 ∷ []) h r x b s t = absurd h
  cons_of place how (a ∷ []) (m ∷ []) (p ∷ p2 ∷ []) h r x b s t = absurd h.1
  cons_of place how (a ∷ []) (m ∷ k ∷ ms) (p ∷ p2 ∷ []) h r x b s t = absurd h.1
  cons_of place how (a ∷ c ∷ ps) (m ∷ []) (p ∷ p2 ∷ []) h r x b s t = absurd h.1
  cons_of place how (a ∷ c ∷ []) (m ∷ k ∷ l ∷ ms) (p ∷ p2 ∷ []) h r x b s t = absurd h.1.1
  cons_of place how (a ∷ c ∷ d ∷ ps) (m ∷ k ∷ []) (p ∷ p2 ∷ []) h r x b s t = absurd h.1.1
  cons_of place how (a ∷ c ∷ d ∷ ps) (m ∷ k ∷ l ∷ ms) (p ∷ p2 ∷ []) h r x b s t = absurd h.1.1

  head_beside : {n : ℕ} {f : Point n} {facts : List Fact} (place : Place) (head : Head) (how : Matching) (ps : List Look) (ms : List (Matcher Item))
      (ss : List Bool) → Fine ps ms ss → (i : Indices) (x : Item) → Has f i x → Good f → head_stands around.types around.numbers head ss ≡ true
      → (form : Indices-F Indices Reading) → roll-Indices form ≡ i → Opens n f facts place head how ps ms x form
  head_beside {f = f} place head how ps ms ss h i x b s t W.Never e =
      let held = subst (λ j. has around.types (standing past f.integers) own j x.val ≡ true) (sym e ∙ I.rolls-Never) (b.has_it f.integers (same f)) in
      absurd (never_had around.types past own f.integers x.val held)
  head_beside place (H.Is l) how [] [] [] h i x b s t W.Unit e = literal_beside around.types past own y around.numbers q place how.in_case l i W.Unit e x b t
  head_beside place (H.Is l) how [] [] [] h i x b s t form e = literal_beside around.types past own y around.numbers q place how.in_case l i form e x b t
  head_beside place (H.Is l) how ps ms (k ∷ ss) h i x b s t form e = no t
  head_beside place (H.Is l) how (a ∷ more) [] [] h i x b s t form e = absurd h
  head_beside place (H.Is l) how (a ∷ more) (m ∷ ms) [] h i x b s t form e = absurd h
  head_beside place (H.Is l) how [] (m ∷ ms) [] h i x b s t form e = absurd h
  head_beside place H.Tuple how ps ms ss h i x b s t (W.Tuple is) e =
      tuple_beside around past own y q cases w place how ps ms ss h is x (moved x (sym e ∙ I.rolls-Tuple is) b) s t (out-Value x.val) refl
  head_beside place H.Tuple how ps ms ss h i x b s t form e = wrongs place
  head_beside place (H.Constructor u c) how ps ms ss h i x b s t (W.Named v is rs) e =
      union_beside around past own y q cases w place how u c v is rs x (moved x (sym e ∙ I.rolls-Named v is rs) b) s ps ms ss h t
  head_beside place (H.Constructor u c) how ps ms ss h i x b s t form e = wrongs place
  head_beside place H.Vector how ps ms ss h i x b s t (W.Vector l r) e =
      vector_beside around past own y q cases w place how ps ms ss h l r x (moved x (sym e ∙ I.rolls-Vector l r) b) s t (out-Value x.val) refl
  head_beside place H.Vector how ps ms ss h i x b s t form e = wrongs place
  head_beside place H.List how ps ms ss h i x b s t (W.List r) e =
      list_beside around past own y q cases w place how ps ms ss h r x (moved x (sym e ∙ I.rolls-List r) b) s t (out-Value x.val) refl
  head_beside place H.List how ps ms ss h i x b s t form e = wrongs place
  head_beside place H.Cons how ps ms ss h i x b s t (W.List r) e =
      cons_of place how ps ms ss h r x (moved x (sym e ∙ I.rolls-List r) b) s t
  head_beside place H.Cons how ps ms ss h i x b s t form e = wrongs place
  head_beside place (H.Cut ws) how ps ms ss h i x b s t (W.Bits v) e =
      cut_beside around past own y q cases w place how ps ms ss h ws v x (moved x (sym e ∙ I.rolls-Bits v) b) s t (out-Value x.val) refl
  head_beside place (H.Cut ws) how ps ms ss h i x b s t form e = wrongs place

  -- ---- forms

  abbrev Walks : (n : ℕ) → Point n → List Fact → Place → Form → Matching → List Look → List (Matcher Item) → Indices → Item → Type 0
  Walks n f facts place form how ps ms i x = Beside q past n f facts (form_match place form ps around how i) (pattern_meaning z w form ms x) Found

  form_beside : {n : ℕ} {f : Point n} {facts : List Fact} (place : Place) (form : Form) (how : Matching) (ps : List Look) (ms : List (Matcher Item))
      (ss : List Bool) → Fine ps ms ss → (i : Indices) (x : Item) → Has f i x → Good f
      → IsOwed around past own f how (form_written form ps) x → form_stands around.types around.numbers form ss ≡ true
      → Walks n f facts place form how ps ms i x
  form_beside place (F.Opens head) how ps ms ss h i x b s o t = head_beside place head how ps ms ss h i x b s t (out-Indices i) (roll-out-Indices i)
  form_beside place F.Any how [] [] [] h i x b s o t = rests [] [] tt
  form_beside place (F.Binds name) how [] [] [] h i x b s o t = rests (bound name i ∷ []) (named name x) (refl, b, (λ e. tt), tt)
  form_beside {n} {f} {facts} place (F.As name) how (a ∷ []) (m ∷ []) (k ∷ []) h i x b s o t =
      binds (h.0.beside how i x n f facts b s o t) (λ m2 g fs bs ls l found.
      rests (bs ++ bound name i ∷ []) (ls ++ named name x)
      (names_both around.types past own y around.numbers g bs (bound name i ∷ []) ls (named name x) found
      (refl, bears_on around.types past own y l b, (λ e. tt), tt)))
  form_beside place (F.Typed wr) how (a ∷ []) (m ∷ []) (k ∷ []) h i x b s o t = typed_beside around past own y q cases w place wr how a m k h.0 i x b s o t
  form_beside place (F.Maps d) how (a ∷ []) (m ∷ []) (k ∷ []) h i x b s o t =
      maps_beside around past own y q cases w ways place how d a m k h.0 i x b s t
  form_beside place F.Any how ps ms (k ∷ ss) h i x b s o t = no t
  form_beside place F.Any how [] (m ∷ ms) [] h i x b s o t = absurd h
  form_beside place F.Any how (a ∷ more) [] [] h i x b s o t = absurd h
  form_beside place F.Any how (a ∷ more) (m ∷ ms) [] h i x b s o t = absurd h
  form_beside place (F.Binds name) how ps ms (k ∷ ss) h i x b s o t = no t
  form_beside place (F.Binds name) how [] (m ∷ ms) [] h i x b s o t = absurd h
  form_beside place (F.Binds name) how (a ∷ more) [] [] h i x b s o t = absurd h
  form_beside place (F.Binds name) how (a ∷ more) (m ∷ ms) [] h i x b s o t = absurd h
  form_beside place (F.As name) how ps ms [] h i x b s o t = no t
  form_beside place (F.As name) how ps ms (k ∷ k2 ∷ ss) h i x b s o t = no t
  form_beside place (F.As name) how [] ms (k ∷ []) h i x b s o t = wrongs place
  form_beside place (F.As name) how (a ∷ []) [] (k ∷ []) h i x b s o t = absurd h
  form_beside place (F.As name) how (a ∷ []) (m ∷ m2 ∷ ms) (k ∷ []) h i x b s o t = absurd h.1
  form_beside place (F.As name) how (a ∷ a2 ∷ ps) ms (k ∷ []) h i x b s o t = wrongs place
  form_beside place (F.Typed wr) how ps ms [] h i x b s o t = no t
  form_beside place (F.Typed wr) how ps ms (k ∷ k2 ∷ ss) h i x b s o t = no t
  form_beside place (F.Typed wr) how [] ms (k ∷ []) h i x b s o t = wrongs place
  form_beside place (F.Typed wr) how (a ∷ []) [] (k ∷ []) h i x b s o t = absurd h
  form_beside place (F.Typed wr) how (a ∷ []) (m ∷ m2 ∷ ms) (k ∷ []) h i x b s o t = absurd h.1
  form_beside place (F.Typed wr) how (a ∷ a2 ∷ ps) ms (k ∷ []) h i x b s o t = wrongs place
  form_beside place (F.Maps d) how ps ms [] h i x b s o t = no t
  form_beside place (F.Maps d) how ps ms (k ∷ k2 ∷ ss) h i x b s o t = no t
  form_beside place (F.Maps d) how [] ms (k ∷ []) h i x b s o t = wrongs place
  form_beside place (F.Maps d) how (a ∷ []) [] (k ∷ []) h i x b s o t = absurd h
  form_beside place (F.Maps d) how (a ∷ []) (m ∷ m2 ∷ ms) (k ∷ []) h i x b s o t = absurd h.1
  form_beside place (F.Maps d) how (a ∷ a2 ∷ ps) ms (k ∷ []) h i x b s o t = wrongs place
  form_beside place (F.Sees d) how ps ms ss h i x b s o t = no t

  -- ---- patterns

  abbrev standing_of : Pattern → Bool
  standing_of p = stands around.types around.numbers p

  Such : Pattern → Type 0
  Such p = Well around past own y q cases w (look p) (matcher z w p) (standing_of p)

  such_parts : (ys : List ((p : Pattern) × Such p))
      → Fine (map look (map (λ p. p.0) ys)) (map (matcher z w) (map (λ p. p.0) ys)) (map standing_of (map (λ p. p.0) ys))
  unfolding Such
  such_parts [] = tt
  such_parts (p ∷ ys) = (p.1, such_parts ys)

  all_whole : (ps : List Look) (ms : List (Matcher Item)) (ss : List Bool) → Fine ps ms ss → AllWhole z w ps ms
  all_whole [] [] [] h = tt
  all_whole [] [] (k ∷ ss) h = absurd h
  all_whole [] (m ∷ ms) ss h = absurd h
  all_whole (a ∷ ps) [] ss h = absurd h
  all_whole (a ∷ ps) (m ∷ ms) [] h = absurd h
  all_whole (a ∷ ps) (m ∷ ms) (k ∷ ss) h = (h.0.whole, all_whole ps ms ss h.1)

  such_form : (p : Pattern-F ((p : Pattern) × Such p)) → Such (roll-Pattern (map-Pattern ((p : Pattern) × Such p) Pattern (λ q. q.0) p))
  unfolding Such
  such_form p =
      let bare : Pattern-F Pattern = map-Pattern ((p : Pattern) × Such p) Pattern (λ q. q.0) p in
      let parts : List Pattern = map (λ q. q.0) p.parts in
      let fine = such_parts p.parts in
      let made : Well around past own y q cases w (look_form (map-Pattern Pattern Look look bare)) (pattern_meaning z w p.form (map (matcher z w) parts))
      (form_stands around.types around.numbers p.form (map standing_of parts)) = record {
        beside = λ how i x n f facts b s o t.
            form_beside p.place p.form how (map look parts) (map (matcher z w) parts) (map standing_of parts) fine i x b s o t;
        whole = form_gives z w p.form (map look parts) (map (matcher z w) parts)
            (all_whole (map look parts) (map (matcher z w) parts) (map standing_of parts) fine);
        grows = λ how i. form_grows around p.place p.form how (map look parts)
            (all_grow (map look parts) (map (matcher z w) parts) (map standing_of parts) fine) i;
      } in
      subst (λ l. Well around past own y q cases w l (matcher z w (roll-Pattern bare)) (standing_of (roll-Pattern bare)))
      (sym (fold-roll-Pattern Look look_form bare))
      (subst (λ m. Well around past own y q cases w (look_form (map-Pattern Pattern Look look bare)) m (standing_of (roll-Pattern bare)))
      (sym (fold-roll-Pattern (Matcher Item) (λ p. pattern_meaning z w p.form p.parts) bare))
      (subst (λ k. Well around past own y q cases w (look_form (map-Pattern Pattern Look look bare)) (pattern_meaning z w p.form (map (matcher z w) parts)) k)
      (sym (fold-roll-Pattern Bool (λ p. form_stands around.types around.numbers p.form p.parts) bare)) made))

  such : (p : Pattern) → Such p
  such = ind-Pattern Such (λ e p is. subst (λ d. Such (roll-Pattern d)) is (such_form p))

  pub pattern_well : (p : Pattern) → Well around past own y q cases w (look p) (matcher z w p) (standing_of p)
  unfolding Such
  pattern_well p = such p

  -- ---- arms

  patterns_well : (ps : List Pattern) → Fine (map look ps) (map (matcher z w) ps) (map standing_of ps)
  patterns_well [] = tt
  patterns_well (p ∷ ps) = (pattern_well p, patterns_well ps)

  all_long : {n : ℕ} (f : Point n) (is : List Indices) (xs : List Item) → AllBear around.types past own y f is xs → length xs ≡ length is
  all_long f [] [] h = refl
  all_long f [] (x ∷ xs) h = absurd h
  all_long f (i ∷ is) [] h = absurd h
  all_long f (i ∷ is) (x ∷ xs) h = ap suc (all_long f is xs h.1)

  as_counted : {n : ℕ} {f : Point n} {facts : List Fact} {walk : Walk (List Bound)} {c : Run Item (List (Local Item))} (k : ℕ) (xs : List Item) → length xs ≡ k
      → Beside q past n f facts walk c Found → Beside q past n f facts walk (counted k xs c) Found
  as_counted {n} {f} {facts} {walk} {c} k xs e b =
      subst (λ t. Beside q past n f facts walk (if t then c else stuck) Found) (sym ((Decides-eqb (length xs) k).1 e)) b

  pub arm_beside : {n : ℕ} {f : Point n} {facts : List Fact} (place : Place) (arm : Arm) (how : Matching) (is : List Indices) (xs : List Item)
      → AllBear around.types past own y f is xs → Good f → arm_stands around.types around.numbers arm ≡ true
      → Beside q past n f facts (arm_match place arm around how is) (arm_meaning z w arm xs) Found
  arm_beside {f = f} place (A.Nested ps) how is xs b s t =
      by_count around past own y q cases w place how (map look ps) is (λ count.
      as_counted (length ps) xs (all_long f is xs b ∙ sym count ∙ length-map ps look)
      (parts_beside around past own y q cases w place how (map look ps) (map (matcher z w) ps) (map standing_of ps) (patterns_well ps) is xs b s
      (all_stand around past own y q cases w (map standing_of ps) t)))
  arm_beside place (A.Flat count steps) how is xs b s t = no t

  pub let_beside : {n : ℕ} {f : Point n} {facts : List Fact} (place : Place) (arm : Arm) (how : Matching) (i : Indices) (x : Item)
      → Has f i x → Good f → IsOwed around past own f how (arm_written arm) x → arm_stands around.types around.numbers arm ≡ true
      → Beside q past n f facts (one_match place (looks arm) around how i) (arm_meaning z w arm (x ∷ [])) Found
  let_beside place (A.Flat count steps) how i x b s o t = no t
  let_beside place (A.Nested []) how i x b s o t = wrongs place
  let_beside {n} {f} {facts} place (A.Nested (p ∷ [])) how i x b s o t =
      let both = and_parts (standing_of p) (each_stands []) t in
      alone around past own y q cases w ((pattern_well p).beside how i x n f facts b s o both.0)
  let_beside place (A.Nested (p ∷ p2 ∷ ps)) how i x b s o t = wrongs place

pub pattern_is_sound : (around : Around) (past : Positive) (own : List Closed) {fit : OfSizes} (y : Typing around.types past own fit) (q : Ends fit)
    → PatternIsSound around past own y q
pattern_is_sound around past own y q cases w ways p how i x n f facts b s o t =
    (pattern_well around past own y q cases w ways p).beside how i x n f facts b s o t

pub arm_is_sound : (around : Around) (past : Positive) (own : List Closed) {fit : OfSizes} (y : Typing around.types past own fit) (q : Ends fit)
    → ArmIsSound around past own y q
arm_is_sound around past own y q cases w ways place arm how is xs n f facts b s t = arm_beside around past own y q cases w ways place arm how is xs b s t

pub let_is_sound : (around : Around) (past : Positive) (own : List Closed) {fit : OfSizes} (y : Typing around.types past own fit) (q : Ends fit)
    → LetIsSound around past own y q
let_is_sound around past own y q cases w ways place arm how i x n f facts b s o t = let_beside around past own y q cases w ways place arm how i x b s o t

pub patterns_are_sound : PatternsAreSound
patterns_are_sound around past own t = pattern_is_sound around past own (typing_of t) (ends_of t)

pub arms_are_sound : ArmsAreSound
arms_are_sound around past own t = arm_is_sound around past own (typing_of t) (ends_of t)

pub lets_are_sound : LetsAreSound
lets_are_sound around past own t = let_is_sound around past own (typing_of t) (ends_of t)
