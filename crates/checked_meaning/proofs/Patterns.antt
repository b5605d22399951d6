-- Patterns, checked and plain.
use Rattle.std.proofs.Common.{◌≡◌, ℕ, zero, suc, ◌-◌, nat_eq, nat_le, Bool, true, false, ◌&&◌, List, [], ◌∷◌, ◌++◌, length, take, drop, map, reverse}
use Rattle.std.proofs.Common.{slice_get, Option, Some, None, option_map, if◌then◌else◌, refl, sym, ap, ◌∙◌, subst}
use Rattle.std.specs.Bool.{beq}
use Rattle.std.specs.Ordering.{int_eq}
use Rattle.std.specs.Str.{bytes_eq}
use Rattle.sail_base.specs.Bits.{eq_bits}
use Rattle.sail_types.specs.Sums.{and_then}
use Rattle.sail_types.specs.declared.table.Types.{Types}
use Rattle.sail_types.specs.declared.values.Value.{Value, Value-F, out-Value}
use Rattle.sail_types.specs.declared.values.Value.TheOpen as W
use Rattle.sail_types.specs.declared.values.Value.TheVariants as V
use Rattle.sail_core.specs.declared.patterns.Literal.{Literal}
use Rattle.sail_core.specs.declared.patterns.Literal.TheVariants as L
use Rattle.sail_core.specs.declared.patterns.Head.{Head}
use Rattle.sail_core.specs.declared.patterns.Head.TheVariants as H
use Rattle.sail_core.specs.declared.patterns.Form.{Form}
use Rattle.sail_core.specs.declared.patterns.Form.TheVariants as F
use Rattle.sail_core.specs.declared.patterns.Pattern.{Pattern, roll-Pattern, fold-roll-Pattern, map-Pattern, ind-Pattern}
use Rattle.sail_core.specs.declared.patterns.Step.{Step}
use Rattle.sail_core.specs.declared.patterns.Step.TheVariants as S
use Rattle.sail_core.specs.declared.patterns.Arm.{Arm}
use Rattle.sail_core.specs.declared.patterns.Arm.TheVariants as A
use Rattle.sail_core.specs.Run.{Local, Run, gives, stuck, ◌then◌}
use Rattle.sail_core.specs.Values.{bits_typ, parts_in}
use Rattle.sail_core.specs.Numbers.{Givens}
use Rattle.sail_core.specs.Making.{plainly, payload}
use Rattle.sail_core.specs.Patterns.{Seen, Parts, Other, Wrong, tested, parts_if, parts_or_wrong, literal_seen, components, items, payload_parts, constructed}
use Rattle.sail_core.specs.Patterns.{split, widths_of, known_sum, solved, cut, cut_by, opened, so_many, looked, as_run, parts_of, Matcher, named, parts_match}
use Rattle.sail_core.specs.Patterns.{pattern_meaning, matcher, Hand, with_values, with_name, value_of, step_meaning, steps_meaning, counted, arm_meaning}
use Rattle.checked_meaning.specs.Items.{Item, vals}
use Rattle.checked_meaning.specs.Checked.{Cases, checked}
use Rattle.checked_meaning.specs.Alike.{plain_local, plain_locals, Is, Alike, value_in, Around, WorldsAlike, checked_world, plain_world}
use Rattle.checked_meaning.proofs.Pieces.{then_is, gives_is, stuck_alike, falls_alike, needs_at}
use Rattle.checked_meaning.proofs.Names.{map-both, map-got}

vals-length : (xs : List Item) → length (vals xs) ≡ length xs
vals-length [] = refl
vals-length (x ∷ xs) = ap suc (vals-length xs)

-- ---- one level

abbrev pub plain_seen : Seen Item → Seen Value
plain_seen (Parts xs) = Parts (vals xs)
plain_seen Other = Other
plain_seen Wrong = Wrong

tested_alike : (b : Bool) → tested {X = Value} b ≡ plain_seen (tested {X = Item} b)
tested_alike true = refl
tested_alike false = refl

seen_if : (b : Bool) (s t : Seen Item) (u v : Seen Value) → u ≡ plain_seen s → v ≡ plain_seen t → (if b then u else v) ≡ plain_seen (if b then s else t)
seen_if true s t u v h k = h
seen_if false s t u v h k = k

parts_if_alike : (b : Bool) (xs : List Item) (ys : List Value) → ys ≡ vals xs → parts_if b ys ≡ plain_seen (parts_if b xs)
parts_if_alike true xs ys h = ap Parts h
parts_if_alike false xs ys h = refl

or_wrong_alike : (o : Option (List Item)) (p : Option (List Value)) → p ≡ option_map vals o → parts_or_wrong p ≡ plain_seen (parts_or_wrong o)
or_wrong_alike None p h = ap parts_or_wrong h
or_wrong_alike (Some xs) p h = ap parts_or_wrong h

literal_alike : (l : Literal) (v : Value-F Value) → literal_seen {X = Value} l v ≡ plain_seen (literal_seen {X = Item} l v)
literal_alike L.Unit W.Unit = refl
literal_alike (L.Integer n) (W.Integer m) = tested_alike (int_eq n m)
literal_alike (L.Truth a) (W.Truth b) = tested_alike (beq a b)
literal_alike (L.Bit a) (W.Bit b) = tested_alike (beq a b)
literal_alike (L.Bits bs) (W.Bits cs) = seen_if (nat_eq (length bs) (length cs)) (tested (eq_bits bs cs)) Wrong (tested (eq_bits bs cs)) Wrong
    (tested_alike (eq_bits bs cs)) refl
literal_alike (L.String s) (W.String t) = tested_alike (bytes_eq s t)
literal_alike (L.Member e k) (W.Member f l) = seen_if (nat_eq e f) (tested (nat_eq k l)) Wrong (tested (nat_eq k l)) Wrong (tested_alike (nat_eq k l)) refl
literal_alike l v = refl

module _ (types : Types) (cases : Cases) where
  pub components_alike : (x : Item) (i : ℕ) (vs : List Value) → components plainly x.val i vs ≡ vals (components (checked types cases) x i vs)
  components_alike x i [] = refl
  components_alike x i (v ∷ vs) = ap (λ ws. v ∷ ws) (components_alike x (suc i) vs)

  items_alike : (x : Item) (vs : List Value) → items plainly x.val vs ≡ vals (items (checked types cases) x vs)
  items_alike x [] = refl
  items_alike x (v ∷ vs) = ap (λ ws. v ∷ ws) (items_alike x vs)

  option_components : (x : Item) (o : Option (List Value))
      → option_map (components plainly x.val 0) o ≡ option_map vals (option_map (components (checked types cases) x 0) o)
  option_components x None = refl
  option_components x (Some vs) = ap Some (components_alike x 0 vs)

  payload_alike : (k : ℕ) (x : Item) → payload_parts plainly k x.val ≡ option_map vals (payload_parts (checked types cases) k x)
  payload_alike zero x = option_components x (parts_in x.val)
  payload_alike (suc zero) x = refl
  payload_alike (suc (suc k)) x = option_components x (parts_in x.val)

  constructed_alike : (b : Bool) (o : Option (List Item)) (p : Option (List Value)) → p ≡ option_map vals o → constructed b p ≡ plain_seen (constructed b o)
  constructed_alike true o p h = or_wrong_alike o p h
  constructed_alike false o p h = refl

  split_alike : (x : Item) (vs : List Value) → split plainly x.val vs ≡ plain_seen (split (checked types cases) x vs)
  split_alike x [] = refl
  split_alike x (v ∷ vs) = refl

  more_alike : (x : Item) (b : Bool) (o : Option (List Item)) (p : Option (List Value)) → p ≡ option_map vals o
      → (if b then option_map (λ ys. x.val ∷ ys) p else None) ≡ option_map vals (if b then option_map (λ xs. x ∷ xs) o else None)
  more_alike x true None p h = ap (option_map (λ ys. x.val ∷ ys)) h
  more_alike x true (Some xs) p h = ap (option_map (λ ys. x.val ∷ ys)) h
  more_alike x false o p h = refl

  cut_alike : (ns : List ℕ) (bs : List Bool) → cut plainly ns bs ≡ option_map vals (cut (checked types cases) ns bs)
  cut_alike [] [] = refl
  cut_alike [] (b ∷ bs) = refl
  cut_alike (n ∷ ns) bs =
      more_alike ((checked types cases).fixed (bits_typ n) (V.Bits (drop (length bs - n) bs))) (nat_le n (length bs))
      (cut (checked types cases) ns (take (length bs - n) bs)) (cut plainly ns (take (length bs - n) bs)) (cut_alike ns (take (length bs - n) bs))

  cut_by_alike : (bs : List Bool) (o : Option (List (Option ℕ)))
      → and_then o (cut_by plainly bs) ≡ option_map vals (and_then o (cut_by (checked types cases) bs))
  cut_by_alike bs None = refl
  cut_by_alike bs (Some ws) = cut_alike (map (solved (length bs - known_sum ws)) ws) bs

  opened_alike : (nu : Givens) (head : Head) (k : ℕ) (x : Item) (v : Value-F Value)
      → opened plainly nu head k x.val v ≡ plain_seen (opened (checked types cases) nu head k x v)
  opened_alike nu (H.Is literal) k x v = literal_alike literal v
  opened_alike nu H.Tuple k x (W.Tuple vs) = ap Parts (components_alike x 0 vs)
  opened_alike nu (H.Constructor u c) k x (W.Union i j v) =
      constructed_alike (nat_eq i u && nat_eq j c) (payload_parts (checked types cases) k ((checked types cases).part (payload u c) x v))
      (payload_parts plainly k v) (payload_alike k ((checked types cases).part (payload u c) x v))
  opened_alike nu H.Vector k x (W.Vector vs) = ap Parts (items_alike x (reverse vs))
  opened_alike nu H.List k x (W.List vs) = parts_if_alike (nat_eq (length vs) k) (items (checked types cases) x vs) (items plainly x.val vs) (items_alike x vs)
  opened_alike nu H.Cons k x (W.List vs) = split_alike x vs
  opened_alike nu (H.Cut ws) k x (W.Bits bs) =
      or_wrong_alike (and_then (widths_of nu ws) (cut_by (checked types cases) bs)) (and_then (widths_of nu ws) (cut_by plainly bs))
      (cut_by_alike bs (widths_of nu ws))
  opened_alike nu head k x v = refl

  counted_seen : (k n m : ℕ) (xs : List Item) → n ≡ m
      → (if nat_eq n k then Parts (vals xs) else Wrong) ≡ plain_seen (if nat_eq m k then Parts xs else Wrong)
  counted_seen k n m xs h = subst (λ l. (if nat_eq l k then Parts (vals xs) else Wrong) ≡ plain_seen (if nat_eq m k then Parts xs else Wrong)) (sym h)
      (seen_if (nat_eq m k) (Parts xs) Wrong (Parts (vals xs)) Wrong refl refl)

  so_many_alike : (k : ℕ) (s : Seen Item) → so_many k (plain_seen s) ≡ plain_seen (so_many k s)
  so_many_alike k (Parts xs) = counted_seen k (length (vals xs)) (length xs) xs (vals-length xs)
  so_many_alike k Other = refl
  so_many_alike k Wrong = refl

  looked_alike : (nu : Givens) (head : Head) (k : ℕ) (x : Item) → looked plainly nu head k x.val ≡ plain_seen (looked (checked types cases) nu head k x)
  looked_alike nu head k x = ap (so_many k) (opened_alike nu head k x (out-Value x.val)) ∙ so_many_alike k (opened
      (checked types cases) nu head k x (out-Value x.val))

  seen_alike : (s : Seen Item) → Alike (Is vals) (as_run s) (as_run (plain_seen s))
  seen_alike (Parts xs) = gives_is {f = vals} xs
  seen_alike Other = falls_alike
  seen_alike Wrong = stuck_alike _

  pub opens_alike : (a : Around) (head : Head) (k : ℕ) (x : Item)
      → Alike (Is vals) (parts_of (checked types cases) (checked_world a) head k x) (parts_of plainly (plain_world a) head k x.val)
  opens_alike a head k x = subst (λ s. Alike (Is vals) (as_run (looked (checked types cases) a.numbers head k x)) (as_run s)) (sym (looked_alike
      a.numbers head k x)) (seen_alike (looked (checked types cases) a.numbers head k x))

  -- ---- nested patterns

  abbrev pub MatchersAlike : Matcher Item → Matcher Value → Type 0
  MatchersAlike m n = (x : Item) → Alike (Is plain_locals) (m x) (n x.val)

  abbrev pub AllMatchers : List (Matcher Item) → List (Matcher Value) → Type 0
  AllMatchers [] [] = Unit {0}
  AllMatchers [] (n ∷ ns) = ⊥
  AllMatchers (m ∷ ms) [] = ⊥
  AllMatchers (m ∷ ms) (n ∷ ns) = MatchersAlike m n × AllMatchers ms ns

  both_alike : (found others : List (Local Item)) → Alike (Is plain_locals) (gives (found ++ others)) (gives (plain_locals found ++ plain_locals others))
  both_alike found others = subst (λ ls. Alike (Is plain_locals) (gives (found ++ others)) (gives ls)) (sym (map-both plain_local found others))
      (gives_is {f = plain_locals} (found ++ others))

  pub match_alike : (ms : List (Matcher Item)) (ns : List (Matcher Value)) → AllMatchers ms ns → (xs : List Item)
      → Alike (Is plain_locals) (parts_match ms xs) (parts_match ns (vals xs))
  match_alike [] [] h [] = gives_is {f = plain_locals} []
  match_alike [] [] h (x ∷ xs) = stuck_alike _
  match_alike [] (n ∷ ns) h xs = absurd h
  match_alike (m ∷ ms) [] h xs = absurd h
  match_alike (m ∷ ms) (n ∷ ns) h [] = stuck_alike _
  match_alike (m ∷ ms) (n ∷ ns) h (x ∷ xs) = then_is _ (h.0 x) (λ found. then_is _ (match_alike ms ns h.1 xs) (λ others. both_alike found others))

  all-length : (ms : List (Matcher Item)) (ns : List (Matcher Value)) → AllMatchers ms ns → length ns ≡ length ms
  all-length [] [] h = refl
  all-length [] (n ∷ ns) h = absurd h
  all-length (m ∷ ms) [] h = absurd h
  all-length (m ∷ ms) (n ∷ ns) h = ap suc (all-length ms ns h.1)

  opens_then : (a : Around) (head : Head) (ms : List (Matcher Item)) (ns : List (Matcher Value)) → AllMatchers ms ns → (x : Item) (k : ℕ) → k ≡ length ms
      → Alike (Is plain_locals) (parts_of (checked types cases) (checked_world a) head (length ms) x then parts_match ms)
      (parts_of plainly (plain_world a) head k x.val then parts_match ns)
  opens_then a head ms ns h x k e = subst (λ l. Alike (Is plain_locals) (parts_of (checked types cases)
      (checked_world a) head (length ms) x then parts_match ms) (parts_of plainly (plain_world a) head l x.val then parts_match ns)) (sym e)
      (then_is _ (opens_alike a head (length ms) x) (match_alike ms ns h))

  form_alike : (a : Around) → WorldsAlike a → (form : Form) (ms : List (Matcher Item)) (ns : List (Matcher Value)) → AllMatchers ms ns
      → MatchersAlike (pattern_meaning (checked types cases) (checked_world a) form ms) (pattern_meaning plainly (plain_world a) form ns)
  form_alike a s F.Any [] [] h x = gives_is {f = plain_locals} []
  form_alike a s (F.Binds name) [] [] h x = gives_is {f = plain_locals} (named name x)
  form_alike a s (F.As name) (m ∷ []) (n ∷ []) h x = then_is _ (h.0 x) (λ found. both_alike found (named name x))
  form_alike a s (F.Typed written) (m ∷ []) (n ∷ []) h x = h.0 x
  form_alike a s (F.Opens head) ms ns h x = opens_then a head ms ns h x (length ns) (all-length ms ns h)
  form_alike a s (F.Maps d) (m ∷ []) (n ∷ []) h x = then_is _ (s.way d x) h.0
  form_alike a s (F.Sees d) (m ∷ []) (n ∷ []) h x = then_is _ (s.way d x) h.0
  form_alike a s F.Any [] (n ∷ ns) h x = absurd h
  form_alike a s (F.Binds name) [] (n ∷ ns) h x = absurd h
  form_alike a s (F.As name) (m ∷ []) [] h x = absurd h
  form_alike a s (F.As name) (m ∷ []) (n ∷ o ∷ ns) h x = absurd h.1
  form_alike a s (F.Typed written) (m ∷ []) [] h x = absurd h
  form_alike a s (F.Typed written) (m ∷ []) (n ∷ o ∷ ns) h x = absurd h.1
  form_alike a s (F.Maps d) (m ∷ []) [] h x = absurd h
  form_alike a s (F.Maps d) (m ∷ []) (n ∷ o ∷ ns) h x = absurd h.1
  form_alike a s (F.Sees d) (m ∷ []) [] h x = absurd h
  form_alike a s (F.Sees d) (m ∷ []) (n ∷ o ∷ ns) h x = absurd h.1
  form_alike a s form ms ns h x = stuck_alike _

  module _ (a : Around) (s : WorldsAlike a) where
    Such : Pattern → Type 0
    Such p = MatchersAlike (matcher (checked types cases) (checked_world a) p) (matcher plainly (plain_world a) p)

    such_parts : (ys : List ((p : Pattern) × Such p))
        → AllMatchers (map (matcher (checked types cases) (checked_world a)) (map (λ y. y.0) ys)) (map (matcher plainly (plain_world a)) (map (λ y. y.0) ys))
    unfolding Such
    such_parts [] = tt
    such_parts (y ∷ ys) = (y.1, such_parts ys)

    pub pattern_alike : (p : Pattern) → MatchersAlike (matcher (checked types cases) (checked_world a) p) (matcher plainly (plain_world a) p)
    unfolding Such
    pattern_alike = ind-Pattern Such (λ p y e. subst (λ d. Such (roll-Pattern d)) e (
        subst (λ m. MatchersAlike m (matcher plainly (plain_world a) (roll-Pattern (map-Pattern ((p : Pattern) × Such p) Pattern (λ q. q.0) y))))
        (sym (fold-roll-Pattern (Matcher Item) (λ p. pattern_meaning (checked types cases) (checked_world a) p.form p.parts) (map-Pattern
        ((p : Pattern) × Such p) Pattern (λ q. q.0) y)))
        (subst (λ n. MatchersAlike (pattern_meaning (checked types cases) (checked_world a) y.form (map (matcher (checked types cases)
        (checked_world a)) (map (λ q. q.0) y.parts))) n)
        (sym (fold-roll-Pattern (Matcher Value) (λ p. pattern_meaning plainly (plain_world a) p.form p.parts) (map-Pattern
        ((p : Pattern) × Such p) Pattern (λ q. q.0) y)))
        (form_alike a s y.form (map (matcher (checked types cases) (checked_world a)) (map (λ q. q.0) y.parts)) (map
        (matcher plainly (plain_world a)) (map (λ q. q.0) y.parts)) (such_parts y.parts)))))

    patterns_alike : (ps : List Pattern) → AllMatchers (map (matcher (checked types cases) (checked_world a)) ps) (map (matcher plainly (plain_world a)) ps)
    patterns_alike [] = tt
    patterns_alike (p ∷ ps) = (pattern_alike p, patterns_alike ps)

    -- ---- steps

    abbrev pub plain_hand : Hand Item → Hand Value
    plain_hand hand = record { values = vals hand.values; found = plain_locals hand.found }

    value_alike : (hand : Hand Item) (i : ℕ) → Alike (Is value_in) (value_of hand i) (value_of (plain_hand hand) i)
    value_alike hand i = needs_at value_in (slice_get hand.values i) (slice_get (vals hand.values) i) (map-got value_in hand.values i)

    abbrev valued : Hand Item → List Value → Hand Value
    valued hand vs = record { values = vs; found = plain_locals hand.found }

    with_alike : (hand : Hand Item) (xs : List Item) → Alike (Is plain_hand) (gives (with_values hand xs)) (gives (with_values (plain_hand hand) (vals xs)))
    with_alike hand xs = subst (λ vs. Alike (Is plain_hand) (gives (with_values hand xs)) (gives (valued hand vs))) (sym (map-both value_in hand.values xs))
        (gives_is {f = plain_hand} (with_values hand xs))

    abbrev naming : Hand Item → List (Local Value) → Hand Value
    naming hand ls = record { values = vals hand.values; found = ls }

    name_alike : (hand : Hand Item) (name : List ℕ) (x : Item)
        → Alike (Is plain_hand) (gives (with_name hand name x)) (gives (with_name (plain_hand hand) name x.val))
    name_alike hand name x = subst (λ ls. Alike (Is plain_hand) (gives (with_name hand name x)) (gives (naming hand ls))) (sym (map-both plain_local hand.found
        (named name x))) (gives_is {f = plain_hand} (with_name hand name x))

    step_alike : (st : Step) (hand : Hand Item)
        → Alike (Is plain_hand) (step_meaning (checked types cases) (checked_world a) st hand) (step_meaning plainly (plain_world a) st (plain_hand hand))
    step_alike (S.Opens i head k) hand = then_is _ (value_alike hand i) (λ x. then_is _ (opens_alike a head k x) (λ xs. with_alike hand xs))
    step_alike (S.Sees i d) hand = then_is _ (value_alike hand i) (λ x. then_is _ (s.way d x) (λ y. with_alike hand (y ∷ [])))
    step_alike (S.Names i name) hand = then_is _ (value_alike hand i) (λ x. name_alike hand name x)

    steps_alike : (ss : List Step) (hand : Hand Item)
        → Alike (Is plain_hand) (steps_meaning (checked types cases) (checked_world a) ss hand) (steps_meaning plainly (plain_world a) ss (plain_hand hand))
    steps_alike [] hand = gives_is {f = plain_hand} hand
    steps_alike (st ∷ ss) hand = then_is _ (step_alike st hand) (steps_alike ss)

    -- ---- arms

    counted_alike : {A B : Type 0} {P : A → B → Type 0} {c : Run Item A} {d : Run Value B} (k : ℕ) (xs : List Item) → Alike P c d
        → Alike P (counted k xs c) (counted k (vals xs) d)
    counted_alike {P} {c} {d} k xs h =
        subst (λ n. Alike P (counted k xs c) (if nat_eq n k then d else stuck)) (sym (vals-length xs)) (go (nat_eq (length xs) k))
      where
        go : (b : Bool) → Alike P (if b then c else stuck) (if b then d else stuck)
        go true = h
        go false = stuck_alike _

    same-length : (ps : List Pattern) (xs : List Item)
        → Alike (Is plain_locals) (counted (length ps) xs (parts_match (map (matcher (checked types cases) (checked_world a)) ps) xs))
        (counted (length ps) (vals xs) (parts_match (map (matcher plainly (plain_world a)) ps) (vals xs)))
    same-length ps xs = counted_alike (length ps) xs (match_alike (map (matcher (checked types cases) (checked_world a)) ps) (map
        (matcher plainly (plain_world a)) ps) (patterns_alike ps) xs)

    pub arm_alike : (arm : Arm) (xs : List Item)
        → Alike (Is plain_locals) (arm_meaning (checked types cases) (checked_world a) arm xs) (arm_meaning plainly (plain_world a) arm (vals xs))
    arm_alike (A.Nested ps) xs = same-length ps xs
    arm_alike (A.Flat k ss) xs = counted_alike k xs (then_is _ (steps_alike ss (record { values = xs; found = [] })) (λ hand. gives_is {f = plain_locals}
        hand.found))
