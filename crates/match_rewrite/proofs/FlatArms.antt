-- Flat arms match what the nested ones match.
use Rattle.std.proofs.Common.{◌≡◌, ℕ, suc, ◌+◌, List, [], ◌∷◌, ◌++◌, map, length, slice_get, Some, refl, sym, ap, subst, subst₂, ◌∙◌, arith}
use Rattle.std.proofs.Common.{append_assoc, append-nil, length-append}
use Rattle.std.proofs.lemmas.List.{length-map}
use Rattle.std.proofs.lemmas.Option.{slice_get_past}
use Rattle.sail_types.specs.declared.values.Value.{out-Value}
use Rattle.sail_core.specs.declared.patterns.Head.{Head}
use Rattle.sail_core.specs.declared.patterns.Form.{Form}
use Rattle.sail_core.specs.declared.patterns.Form.TheVariants as F
use Rattle.sail_core.specs.declared.patterns.Pattern.{Pattern, roll-Pattern, fold-roll-Pattern, map-Pattern, ind-Pattern}
use Rattle.sail_core.specs.declared.patterns.Step.{Step}
use Rattle.sail_core.specs.declared.patterns.Step.TheVariants as S
use Rattle.sail_core.specs.declared.patterns.Arm.{Arm}
use Rattle.sail_core.specs.declared.patterns.Arm.TheVariants as A
use Rattle.sail_core.specs.declared.written.Written.{Written}
use Rattle.sail_core.specs.Run.{Local, Run, gives, stuck, needs, ◌then◌}
use Rattle.sail_core.specs.Making.{Making, World}
use Rattle.sail_core.specs.Patterns.{Matcher, named, opened, parts_of, parts_match, pattern_meaning, matcher, Hand, with_values, with_name, value_of}
use Rattle.sail_core.specs.Patterns.{step_meaning, steps_meaning, found_in, arm_meaning}
use Rattle.match_rewrite.specs.Rewriting.{Steps, Flatten, flat_parts, flat_form, flat_pattern, flat_arm}
use Rattle.match_rewrite.proofs.Sequences.{then_assoc, then_gives, then_same, looked_same, counted_same, get_longer, get_end, Stand, stand_longer, stand_end}

-- a hand behind some steps: what was there, further values up to the next number, and further names
pub record Later {X : Type 0} (a b : Hand X) (next : ℕ) (found : List (Local X)) : Type 0 where
  pub new : List X
  pub values : b.values ≡ a.values ++ new
  pub count : length b.values ≡ next
  pub names : b.found ≡ a.found ++ found

later_none : {X : Type 0} (a : Hand X) (next : ℕ) → length a.values ≡ next → Later a a next []
later_none a next h = record { new = []; values = sym (append-nil a.values); count = h; names = sym (append-nil a.found) }

later_then : {X : Type 0} (a b c : Hand X) (n m : ℕ) (f g : List (Local X)) → Later a b n f → Later b c m g → Later a c m (f ++ g)
later_then a b c n m f g p q = record {
  new = p.new ++ q.new;
  values = q.values ∙ ap (λ l. l ++ q.new) p.values ∙ append_assoc a.values p.new q.new;
  count = q.count;
  names = q.names ∙ ap (λ l. l ++ g) p.names ∙ append_assoc a.found f g;
}

-- further values in the hand, and then some steps
later_values : {X : Type 0} (a c : Hand X) (xs : List X) (m : ℕ) (g : List (Local X)) → Later (with_values a xs) c m g → Later a c m g
later_values a c xs m g q = record {
  new = xs ++ q.new;
  values = q.values ∙ append_assoc a.values xs q.new;
  count = q.count;
  names = q.names;
}

later_name : {X : Type 0} (a : Hand X) (next : ℕ) (name : List ℕ) (x : X) → length a.values ≡ next → Later a (with_name a name x) next (named name x)
later_name a next name x h = record { new = []; values = sym (append-nil a.values); count = h; names = refl }

no_count : {A : Type 0} {n : ℕ} → suc n ≡ 0 → A
no_count h = absurd (omega arith)

module _ {X : Type 0} (z : Making X) (w : World X) where
  abbrev Found : Type 0
  Found = Run X (List (Local X))

  -- what steps find
  abbrev said : List Step → Hand X → Found
  said ss hand = steps_meaning z w ss hand then found_in

  said_step : (s : Step) (ss : List Step) (hand : Hand X) → said (s ∷ ss) hand ≡ (step_meaning z w s hand then said ss)
  said_step s ss hand = then_assoc (step_meaning z w s hand) (steps_meaning z w ss) found_in

  -- the steps, and whatever comes behind them, find what the pattern finds and whatever is made of it
  abbrev Ok : Matcher X → Flatten → Type 0
  Ok m fl = (at next : ℕ) (x : X) (hand : Hand X) → slice_get hand.values at ≡ Some x → length hand.values ≡ next
      → (rest : List Step) (more : List (Local X) → Found)
      → ((after : Hand X) (found : List (Local X)) → Later hand after (fl at next).next found → said rest after ≡ more found)
      → said ((fl at next).steps ++ rest) hand ≡ (m x then more)

  abbrev Each : List (Matcher X) → List Flatten → Type 0
  Each [] [] = Unit {0}
  Each (m ∷ ms) (fl ∷ fls) = Ok m fl × Each ms fls
  Each ms fls = ⊥

  each_count : (ms : List (Matcher X)) (fls : List Flatten) → Each ms fls → length ms ≡ length fls
  each_count [] [] h = refl
  each_count (m ∷ ms) (fl ∷ fls) h = ap suc (each_count ms fls h.1)
  each_count [] (fl ∷ fls) h = absurd h
  each_count (m ∷ ms) [] h = absurd h

  abbrev OkParts : List (Matcher X) → List Flatten → Type 0
  OkParts ms fls = (at next : ℕ) (xs : List X) (hand : Hand X) → length xs ≡ length ms → Stand at xs hand.values → length hand.values ≡ next
      → (rest : List Step) (more : List (Local X) → Found)
      → ((after : Hand X) (found : List (Local X)) → Later hand after (flat_parts fls at next).next found → said rest after ≡ more found)
      → said ((flat_parts fls at next).steps ++ rest) hand ≡ (parts_match ms xs then more)

  parts_ok : (ms : List (Matcher X)) (fls : List Flatten) → Each ms fls → OkParts ms fls
  parts_ok [] [] h at next [] hand e st l rest more k = k hand [] (later_none hand next l)
  parts_ok [] [] h at next (x ∷ xs) hand e st l rest more k = no_count e
  parts_ok (m ∷ ms) (fl ∷ fls) h at next [] hand e st l rest more k = no_count (sym e)
  parts_ok (m ∷ ms) (fl ∷ fls) h at next (x ∷ xs) hand e st l rest more k =
      ap (λ ss. said ss hand) (append_assoc (fl at next).steps others.steps rest)
      ∙ h.0 at next x hand st.0 l (others.steps ++ rest) and_then (λ after found la.
      parts_ok ms fls h.1 (suc at) (fl at next).next xs after (omega (arith, e))
      (subst (Stand (suc at) xs) (sym la.values) (stand_longer (suc at) xs hand.values la.new st.1)) la.count rest (λ names. more (found ++ names))
      (λ last names lb. k last (found ++ names) (later_then hand after last (fl at next).next others.next found names la lb))
      ∙ sym (then_assoc (parts_match ms xs) (λ names. gives (found ++ names)) more))
      ∙ sym (then_assoc (m x) (λ found. parts_match ms xs then λ names. gives (found ++ names)) more)
    where
      others : Steps
      others = flat_parts fls (suc at) (fl at next).next

      and_then : List (Local X) → Found
      and_then found = (parts_match ms xs then λ names. gives (found ++ names)) then more
  parts_ok [] (fl ∷ fls) h at next xs hand e st l rest more k = absurd h
  parts_ok (m ∷ ms) [] h at next xs hand e st l rest more k = absurd h

  -- ---- one lemma for each form of pattern

  there : (hand : Hand X) (at : ℕ) (x : X) → slice_get hand.values at ≡ Some x → value_of hand at ≡ gives x
  there hand at x h = ap needs h

  any_ok : Ok (pattern_meaning z w F.Any []) (flat_form F.Any [])
  any_ok at next x hand h l rest more k = k hand [] (later_none hand next l)

  names_step : (at : ℕ) (name : List ℕ) (x : X) (hand : Hand X) → slice_get hand.values at ≡ Some x → (rest : List Step)
      → said (S.Names at name ∷ rest) hand ≡ said rest (with_name hand name x)
  names_step at name x hand h rest =
      said_step (S.Names at name) rest hand
      ∙ ap (λ (r : Run X X). (r then λ u. gives (with_name hand name u)) then said rest) (there hand at x h)

  binds_ok : (name : List ℕ) → Ok (pattern_meaning z w (F.Binds name) []) (flat_form (F.Binds name) [])
  binds_ok name at next x hand h l rest more k =
      names_step at name x hand h rest ∙ k (with_name hand name x) (named name x) (later_name hand next name x l)

  as_ok : (name : List ℕ) (m : Matcher X) (fl : Flatten) → Ok m fl → Ok (pattern_meaning z w (F.As name) (m ∷ [])) (flat_form (F.As name) (fl ∷ []))
  as_ok name m fl ok at next x hand h l rest more k =
      ap (λ ss. said ss hand) (append_assoc (fl at next).steps (S.Names at name ∷ []) rest)
      ∙ ok at next x hand h l (S.Names at name ∷ rest) (λ found. more (found ++ named name x)) (λ after found la.
      names_step at name x after (subst (λ l. slice_get l at ≡ Some x) (sym la.values) (get_longer hand.values la.new at x h)) rest
      ∙ k (with_name after name x) (found ++ named name x)
      (later_then hand after (with_name after name x) (fl at next).next (fl at next).next found (named name x) la
      (later_name after (fl at next).next name x la.count)))
      ∙ sym (then_assoc (m x) (λ found. gives (found ++ named name x)) more)

  typed_ok : (written : Written) (m : Matcher X) (fl : Flatten) → Ok m fl
      → Ok (pattern_meaning z w (F.Typed written) (m ∷ [])) (flat_form (F.Typed written) (fl ∷ []))
  typed_ok written m fl ok = ok

  opens_ok : (head : Head) (ms : List (Matcher X)) (fls : List Flatten) → Each ms fls
      → Ok (pattern_meaning z w (F.Opens head) ms) (flat_form (F.Opens head) fls)
  opens_ok head ms fls each at next x hand h l rest more k =
      said_step (S.Opens at head (length fls)) (others.steps ++ rest) hand
      ∙ ap (λ (r : Run X X). (r then λ u. parts_of z w head (length fls) u then λ xs. gives (with_values hand xs)) then said (others.steps ++ rest))
      (there hand at x h)
      ∙ then_assoc (parts_of z w head (length fls) x) (λ xs. gives (with_values hand xs)) (said (others.steps ++ rest))
      ∙ looked_same (length fls) (opened z w.numbers head (length fls) x (out-Value (z.val x))) (λ xs. said (others.steps ++ rest) (with_values hand xs))
      (λ xs. parts_match ms xs then more) (λ xs e.
      parts_ok ms fls each next (next + length fls) xs (with_values hand xs) (e ∙ sym (each_count ms fls each))
      (subst (λ n. Stand n xs (hand.values ++ xs)) l (stand_end xs hand.values)) (length-append hand.values xs ∙ (λ i. l i + e i)) rest more
      (λ after found la. k after found (later_values hand after xs others.next found la)))
      ∙ sym (then_assoc (parts_of z w head (length fls) x) (parts_match ms) more)
      ∙ ap (λ n. (parts_of z w head n x then parts_match ms) then more) (sym (each_count ms fls each))
    where
      others : Steps
      others = flat_parts fls next (next + length fls)

  sees_ok : (d : ℕ) (m : Matcher X) (fl : Flatten) → Ok m fl → Ok (pattern_meaning z w (F.Sees d) (m ∷ [])) (flat_form (F.Sees d) (fl ∷ []))
  sees_ok d m fl ok at next x hand h l rest more k =
      said_step (S.Sees at d) ((fl next (suc next)).steps ++ rest) hand
      ∙ ap (λ (r : Run X X). (r then λ u. w.way d u then λ y. gives (with_values hand (y ∷ []))) then said ((fl next (suc next)).steps ++ rest))
      (there hand at x h)
      ∙ then_assoc (w.way d x) (λ y. gives (with_values hand (y ∷ []))) (said ((fl next (suc next)).steps ++ rest))
      ∙ then_same (w.way d x) (λ y. said ((fl next (suc next)).steps ++ rest) (with_values hand (y ∷ []))) (λ y. m y then more) (λ y.
      ok next (suc next) y (with_values hand (y ∷ [])) (subst (λ n. slice_get (hand.values ++ y ∷ []) n ≡ Some y) l (get_end hand.values y []))
      (length-append hand.values (y ∷ []) ∙ omega (arith, l)) rest more
      (λ after found la. k after found (later_values hand after (y ∷ []) (fl next (suc next)).next found la)))
      ∙ sym (then_assoc (w.way d x) m more)

  -- no value stands at the next number
  never_ok : (next : ℕ) (hand : Hand X) → length hand.values ≡ next → (rest : List Step) (more : List (Local X) → Found)
      → said (S.Names next [] ∷ rest) hand ≡ (stuck {A = List (Local X)} then more)
  never_ok next hand l rest more =
      said_step (S.Names next []) rest hand
      ∙ ap (λ (r : Run X X). (r then λ u. gives (with_name hand [] u)) then said rest) (ap needs (slice_get_past hand.values next (omega (arith, l))))

  abbrev never : Flatten
  never at next = record { steps = S.Names next [] ∷ []; next = next }

  wrong : Ok (λ x. stuck) never
  wrong at next x hand h l rest more k = never_ok next hand l rest more

  form_ok : (form : Form) (ms : List (Matcher X)) (fls : List Flatten) → Each ms fls → Ok (pattern_meaning z w form ms) (flat_form form fls)
  form_ok F.Any [] [] each = any_ok
  form_ok (F.Binds name) [] [] each = binds_ok name
  form_ok (F.As name) (m ∷ []) (fl ∷ []) each = as_ok name m fl each.0
  form_ok (F.Typed written) (m ∷ []) (fl ∷ []) each = typed_ok written m fl each.0
  form_ok (F.Opens head) ms fls each = opens_ok head ms fls each
  form_ok (F.Maps d) (m ∷ []) (fl ∷ []) each = sees_ok d m fl each.0
  form_ok (F.Sees d) (m ∷ []) (fl ∷ []) each = sees_ok d m fl each.0
  form_ok F.Any (m ∷ ms) (fl ∷ fls) each = wrong
  form_ok (F.Binds name) (m ∷ ms) (fl ∷ fls) each = wrong
  form_ok (F.As name) [] [] each = wrong
  form_ok (F.As name) (m ∷ n ∷ ms) (fl ∷ gl ∷ fls) each = wrong
  form_ok (F.Typed written) [] [] each = wrong
  form_ok (F.Typed written) (m ∷ n ∷ ms) (fl ∷ gl ∷ fls) each = wrong
  form_ok (F.Maps d) [] [] each = wrong
  form_ok (F.Maps d) (m ∷ n ∷ ms) (fl ∷ gl ∷ fls) each = wrong
  form_ok (F.Sees d) [] [] each = wrong
  form_ok (F.Sees d) (m ∷ n ∷ ms) (fl ∷ gl ∷ fls) each = wrong
  form_ok form [] (fl ∷ fls) each = absurd each
  form_ok form (m ∷ ms) [] each = absurd each
  form_ok form (m ∷ []) (fl ∷ gl ∷ fls) each = absurd each.1
  form_ok form (m ∷ n ∷ ms) (fl ∷ []) each = absurd each.1

  -- ---- the induction over patterns

  abbrev P : Pattern → Type 0
  P p = Ok (matcher z w p) (flat_pattern p)

  abbrev Such : Type 0
  Such = (p : Pattern) × P p

  each_of : (ys : List Such) → Each (map (matcher z w) (map (λ y. y.0) ys)) (map flat_pattern (map (λ y. y.0) ys))
  each_of [] = tt
  each_of (y ∷ ys) = (y.1, each_of ys)

  pattern_ok : (p : Pattern) → P p
  pattern_ok = ind-Pattern P (λ p y is. subst (λ d. P (roll-Pattern d)) is
      (subst₂ Ok (sym (fold-roll-Pattern (Matcher X) (λ p. pattern_meaning z w p.form p.parts) (map-Pattern Such Pattern (λ q. q.0) y)))
      (sym (fold-roll-Pattern Flatten (λ p. flat_form p.form p.parts) (map-Pattern Such Pattern (λ q. q.0) y)))
      (form_ok y.form (map (matcher z w) (map (λ q. q.0) y.parts)) (map flat_pattern (map (λ q. q.0) y.parts)) (each_of y.parts))))

  -- ---- arms

  each_pattern : (ps : List Pattern) → Each (map (matcher z w) ps) (map flat_pattern ps)
  each_pattern [] = tt
  each_pattern (p ∷ ps) = (pattern_ok p, each_pattern ps)

  pub arm_flat : (arm : Arm) (xs : List X) → arm_meaning z w (flat_arm arm) xs ≡ arm_meaning z w arm xs
  arm_flat (A.Flat k ss) xs = refl
  arm_flat (A.Nested ps) xs = counted_same (length ps) xs (said all.steps hand) (parts_match (map (matcher z w) ps) xs) (λ e.
      ap (λ ss. said ss hand) (sym (append-nil all.steps))
      ∙ parts_ok (map (matcher z w) ps) (map flat_pattern ps) (each_pattern ps) 0 (length ps) xs hand (e ∙ sym (length-map ps (matcher z w)))
      (stand_end xs []) e []
      gives (λ after found la. ap gives la.names)
      ∙ then_gives (parts_match (map (matcher z w) ps) xs))
    where
      all : Steps
      all = flat_parts (map flat_pattern ps) 0 (length ps)

      hand : Hand X
      hand = record { values = xs; found = [] }
