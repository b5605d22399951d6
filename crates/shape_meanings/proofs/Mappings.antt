-- Calls of mappings: they take one value, and go by the side that it fits.
use Rattle.std.proofs.Common.{◌≡◌, ℕ, zero, suc, arith, ◌*◌, List, [], ◌∷◌, length, ap, sym, ◌∙◌, refl, subst, Bool, true, false, ◌&&◌, Option}
use Rattle.std.proofs.Common.{Some, None}
use Rattle.std.proofs.Common.{is_some, if◌then◌else◌}
use Rattle.sail_base.specs.declared.place.Place.{Place}
use Rattle.sail_types.specs.Shapes.{fits, put, shape, shares}
use Rattle.sail_types.specs.declared.shapes.Shape.{Shape}
use Rattle.sail_types.specs.declared.shapes.Shape.TheVariants as V
use Rattle.sail_types.specs.declared.table.Types.{Types}
use Rattle.sail_types.specs.declared.types.Typ.{Typ}
use Rattle.sail_types.specs.declared.values.Value.{Value}
use Rattle.sail_types.specs.declared.values.Value.TheVariants as Val
use Rattle.sail_syntax.specs.declared.name.Name.{Name}
use Rattle.sail_syntax.specs.declared.words.Brackets.TheVariants as B
use Rattle.sail_core.specs.declared.tree.Callee.TheVariants as C
use Rattle.sail_core.specs.declared.tree.Kind.TheVariants as K
use Rattle.sail_core.specs.declared.tree.Core.{Core}
use Rattle.sail_core.specs.Run as R
use Rattle.sail_core.specs.Run.{Now, Ended, Run, needs, gives, goes_on, in_turn, ◌then◌}
use Rattle.sail_core.specs.Values.{payload_of}
use Rattle.sail_core.specs.Making as Core
use Rattle.sail_core.specs.Meaning.{core_meaning}
use Rattle.shape_joins.specs.Joins.{join}
use Rattle.shape_joins.proofs.Order.{no, two}
use Rattle.shape_joins.proofs.JoinsLeast.{joins_are_above}
use Rattle.sail_meaning.specs.Text.{Callee, direction, alone, Direction}
use Rattle.sail_meaning.specs.Choice.{first_fitting, arguments, choice, parameters}
use Rattle.sail_meaning.specs.World as Source
use Rattle.sail_meaning.specs.World.{Piece}
use Rattle.sail_meaning.specs.Expressions.{each, group}
use Rattle.shape_rules.specs.declared.callees.Candidate.{Candidate}
use Rattle.shape_rules.specs.declared.callees.Doing.TheVariants as D
use Rattle.shape_rules.specs.declared.callees.Mapping.{Mapping}
use Rattle.shape_rules.specs.declared.callees.Meant.TheVariants as M
use Rattle.shape_rules.specs.Findings.{Found, over, unknown, behind}
use Rattle.shape_rules.specs.Scopes.{Setting, Locals, thrown_shape}
use Rattle.shape_rules.specs.Calls.{one_called, is_unsure_of, has_some, has_never}
use Rattle.shape_rules.specs.Patterns.{Which, forwards, backwards, neither, either, which_side}
use Rattle.shape_rules.specs.Targets.{Part, elaborations}
use Rattle.shape_rules.specs.Values.{as_one, does_convert, mapping_called, mapping_found, direction_found}
use Rattle.shape_meanings.specs.Whole.{Choice, closed}
use Rattle.shape_meanings.specs.Keeping.{Fits, Reach, reach_of, Keeps}
use Rattle.shape_meanings.specs.Worlds.{Apply, doing_run, Describes, KeepsCall, IsMapping, NameCalled, call_by, direction_candidate, is_direction}
use Rattle.shape_meanings.specs.Parts.{IsRight, AreRight}
use Rattle.shape_meanings.specs.Sound.{Right}
use Rattle.shape_meanings.proofs.Orders.{exact}
use Rattle.shape_meanings.proofs.Values.{widens}
use Rattle.shape_meanings.proofs.Sharing.{share}
use Rattle.shape_meanings.proofs.Runs.{then_agree, call_agrees}
use Rattle.shape_meanings.proofs.Settling.{RunsAs, settled_right, behind_right, both_empty, unrolled}
use Rattle.shape_meanings.proofs.Naming.{closed_is}
use Rattle.shape_meanings.proofs.Operators.{one_turn, right_via}
use Rattle.shape_meanings.proofs.Calling.{unit_right, right_where}
use Rattle.shape_meanings.proofs.Solved.{one_right}
use Rattle.shape_meanings.proofs.Groups.{tuple_right}
use Rattle.shape_meanings.proofs.Callees.{alone_called, by_alone, call_alone, applied_once}
use Rattle.shape_meanings.proofs.Suffixes.{then_then}

-- ---- several arguments are one

-- what the arguments mean as one value
abbrev as_one_meant : List Source.Meaning → Source.Meaning
as_one_meant ms w = in_turn (each ms w) then group B.Tuple

pub as_one_right : (setting : Setting) (locals : Locals) (place : Place) (args : List Part) (ms : List Source.Meaning)
    → AreRight setting locals (elaborations args) ms → IsRight setting locals (as_one place args).elaborate (as_one_meant ms)
as_one_right setting locals place [] [] right want e =
    right_via setting locals want ((as_one place []).elaborate setting locals want) (λ w. gives Val.Unit) (as_one_meant []) refl
    (unit_right setting locals place want e)
as_one_right setting locals place (a ∷ []) (m ∷ []) right want e =
    right_via setting locals want (a.elaborate setting locals want) m (as_one_meant (m ∷ [])) (λ i w now. (sym (after_gives (m w now)) ∙ one_turn (m w now)
    (group B.Tuple)) i) (right.0 want e)
  where
    after_gives : (e : Ended Value Value) → goes_on e (λ v. group B.Tuple (v ∷ [])) ≡ e
    after_gives (R.Gives x now) = refl
    after_gives (R.No now) = refl
    after_gives (R.Returns v now) = refl
    after_gives (R.Throws v now) = refl
    after_gives (R.Stops cause now) = refl
    after_gives R.Stuck = refl
as_one_right setting locals place (a ∷ b ∷ parts) ms right want e =
    tuple_right setting locals place a.elaborate b.elaborate (elaborations parts) ms right want e
as_one_right setting locals place [] (m ∷ ms) right want e = absurd right
as_one_right setting locals place (a ∷ []) [] right want e = absurd right
as_one_right setting locals place (a ∷ []) (m ∷ n ∷ ms) right want e = absurd right.1

-- arguments, and then a call that takes them as one
as_one_turn : (ms : List Source.Meaning) (w : Source.World) (now : Now Value) (goes : List Value → Piece Value)
    → ((vs : List Value) → goes vs ≡ goes (payload_of vs ∷ []))
    → (in_turn (each ms w) then goes) now ≡ (in_turn (each (as_one_meant ms ∷ []) w) then goes) now
as_one_turn ms w now goes same =
    (λ j. goes_on (in_turn (each ms w) now) (λ vs. same vs j))
    ∙ sym (then_then (in_turn (each ms w) now) (group B.Tuple) (λ v. goes (v ∷ [])))
    ∙ one_turn (as_one_meant ms w now) goes

-- ---- a mapping that goes one way

conversion : (callee : Callee) (vs : List Value) → is_direction callee ≡ true → arguments (alone callee) vs ≡ (payload_of vs ∷ [])
conversion (direction d) vs h = refl
conversion callee vs h = no h

pub conversion_right : (setting : Setting) (locals : Locals) (want : Shape) (name : Name) (f : Candidate) (args : List Part) (ms : List Source.Meaning)
    → setting.value name.text ≡ Some (M.Callee f) → does_convert f.doing ≡ true → AreRight setting locals (elaborations args) ms
    → (one_called name.place f ((as_one name.place args).elaborate ∷ []) setting locals want).faults ≡ []
    → Right setting locals want (one_called name.place f ((as_one name.place args).elaborate ∷ []) setting locals want)
    (λ w. in_turn (each ms w) then w.call name.place name.text)
conversion_right setting locals want name f args ms is converts right e =
    let goes : Source.World → List Value → Piece Value = λ w vs. w.call name.place name.text vs in
    right_where setting locals want (one_called name.place f ((as_one name.place args).elaborate ∷ []) setting locals want)
    (λ w. in_turn (each (as_one_meant ms ∷ []) w) then goes w) (λ w. in_turn (each ms w) then goes w)
    (λ registers wc ws d now.
    let a = alone_called setting registers wc ws d name.text f is in
    as_one_turn ms ws now (goes ws)
    (λ vs. by_alone setting registers wc ws d name.place name.text a.0 vs a.1
    ∙ ap (λ us. needs (choice setting.types (alone a.0) us) then λ callee. d.apply name.place callee us)
    (conversion a.0 vs (a.2.converts ∙ converts) ∙ sym (conversion a.0 (payload_of vs ∷ []) (a.2.converts ∙ converts)))
    ∙ sym (by_alone setting registers wc ws d name.place name.text a.0 (payload_of vs ∷ []) a.1)))
    (one_right setting locals want name.place f ((as_one name.place args).elaborate ∷ []) (as_one_meant ms ∷ []) goes
    (as_one_right setting locals name.place args ms right, tt)
    (λ registers c wc ws d vs many.
    let a = alone_called setting registers wc ws d name.text f is in (
      a.0,
      a.2,
      λ now. (λ i. by_alone setting registers wc ws d name.place name.text a.0 vs a.1 i now) ∙ one_value a.0 vs now
          (λ v. conversion a.0 (v ∷ []) (a.2.converts ∙ converts)) (many ∙ ap length (sym a.2.params)) (is_one a.0 (a.2.converts ∙ converts)) d.apply,
    )) e)
  where
    is_one : (callee : Callee) → is_direction callee ≡ true → length (parameters callee) ≡ 1
    is_one (direction d) h = refl
    is_one callee h = no h

    one_value : (callee : Callee) (vs : List Value) (now : Now Value) → ((v : Value) → arguments (alone callee) (v ∷ []) ≡ (v ∷ []))
        → length vs ≡ length (parameters callee) → length (parameters callee) ≡ 1 → (apply : Apply)
        → call_by setting.types apply name.place (Some (alone callee)) vs now ≡ apply name.place callee vs now
    one_value callee [] now stay many one apply = absurd (zero_not (many ∙ one))
      where
        zero_not : zero ≡ suc zero → ⊥
        zero_not h = grind (arith, h)
    one_value callee (v ∷ []) now stay many one apply =
        call_alone setting.types apply name.place callee (v ∷ []) (v ∷ []) now (stay v) ∙ applied_once setting.types apply name.place callee (v ∷ []) now many
    one_value callee (v ∷ u ∷ vs) now stay many one apply = absurd (too_many (length vs) (many ∙ one))
      where
        too_many : (n : ℕ) → suc (suc n) ≡ suc zero → ⊥
        too_many n h = grind (arith, h)

-- ---- a mapping that goes both ways

-- what a value that is one of two sides chooses
first_side : (types : Types) (f b : Direction) (v : Value) → fits types v (shape f.takes) ≡ true
    → first_fitting types (direction f ∷ direction b ∷ []) (v ∷ []) ≡ Some (direction f)
first_side types f b v h =
    ap (λ x. if x then Some (direction f) else first_fitting types (direction b ∷ []) (v ∷ [])) (two (fits types v (shape f.takes)) true h refl)

second_side : (types : Types) (f b : Direction) (v : Value) → fits types v (shape f.takes) ≡ false → fits types v (shape b.takes) ≡ true
    → first_fitting types (direction f ∷ direction b ∷ []) (v ∷ []) ≡ Some (direction b)
second_side types f b v g h =
    ap (λ x. if x && true then Some (direction f) else first_fitting types (direction b ∷ []) (v ∷ [])) g
    ∙ ap (λ x. if x then Some (direction b) else None) (two (fits types v (shape b.takes)) true h refl)

-- a value that comes to a side of a closed shape has it
pub comes_to_side : (types : Types) (c : Choice) (side s : Shape) (v : Value) → closed side ≡ true → is_some (join side s) ≡ true → Fits types c s v
    → fits types v side ≡ true
comes_to_side types c side s v whole h fit = by_join (join side s) refl h
  where
    by_join : (o : Option Shape) → join side s ≡ o → is_some o ≡ true → fits types v side ≡ true
    by_join None is h = no h
    by_join (Some t) is h =
        let above = joins_are_above side s t is in
        subst (λ x. fits types v x ≡ true) (ap (put c) (exact side t 0 above.0 whole) ∙ closed_is side c whole) (widens types v c s t above.1 fit)

not_both : (types : Types) (v : Value) (left right : Shape) (b : Bool) → fits types v left ≡ b → fits types v right ≡ true → shares left right ≡ false
    → fits types v left ≡ false
not_both types v left right true is h apart = absurd (true_false (sym (share types v left right is h) ∙ apart))
  where
    true_false : true ≡ false → ⊥
    true_false h = cc
not_both types v left right false is h apart = is

pub mapping_there : (setting : Setting) (registers : List Shape) (wc : Core.World Value) (ws : Source.World) (d : Describes setting registers wc ws)
    (name : List ℕ) (m : Mapping) → setting.value name ≡ Some (M.Mapping m) → IsMapping setting registers wc ws d.apply name m
mapping_there setting registers wc ws d name m is = subst (NameCalled setting registers wc ws d.apply name) is (d.names name)

-- a call of one direction, on a value of its side
way_runs : (setting : Setting) (locals : Locals) (place : Place) (name : List ℕ) (s : Shape) (number : ℕ) (from to : Typ) (a : Core) (ma : Source.Meaning)
    (goes : Source.World → List Value → Piece Value)
    → RunsAs setting locals s a ma
    → ((registers : List Shape) (c : Choice) (wc : Core.World Value) (ws : Source.World) (d : Describes setting registers wc ws) (v : Value)
    → Fits setting.types c s v
    → (callee : Callee) × KeepsCall setting.types registers (thrown_shape setting) wc d.apply (direction_candidate name number from to) callee
    × (closed (shape from) ≡ true) × (fits setting.types v (shape from) ≡ true)
    × ((now : Now Value) → goes ws (v ∷ []) now ≡ d.apply place callee (v ∷ []) now))
    → RunsAs setting locals (shape to) (over place (K.Call (C.Converts number)) (a ∷ [])) (λ w. in_turn (each (ma ∷ []) w) then goes w)
way_runs setting locals place name s number from to a ma goes ra there registers c wc ws d slots seen now good =
    let reach : Reach = reach_of setting registers c slots in
    let Q : Value → Type 0 = Fits setting.types c (shape to) in
    let go : List Value → Run Value Value = doing_run wc place (D.Calls (C.Converts number)) in
    let r = then_agree reach (Fits setting.types c s) Q (core_meaning wc a now) (ma ws now) (λ v. go (v ∷ [])) (λ v. goes ws (v ∷ []))
    (ra registers c wc ws d slots seen now good)
    (λ v later fit good2.
    let t = there registers c wc ws d v fit in
    let one = subst (λ x. fits setting.types v x ≡ true) (sym (closed_is (shape from) c t.2)) t.3 in
    let k = t.1 c place (v ∷ []) later (two (fits setting.types v (put c (shape from))) true one refl) good2.state in
    let q = call_agrees reach Q later (go (v ∷ []) later) (d.apply place t.0 (v ∷ []) later) good2 k in
    (q.0 ∙ sym (t.4 later), subst (Keeps reach Q) (sym (t.4 later)) q.1)) in (
      ap (λ (x : Run Value Value). x now) (unrolled wc place 0 (K.Call (C.Converts number)) (a ∷ []))
          ∙ sym (one_turn (core_meaning wc a now) go) ∙ r.0 ∙ one_turn (ma ws now) (goes ws),
      subst (Keeps reach Q) (one_turn (ma ws now) (goes ws)) r.1,
    )

-- a call of a mapping on values
mapping_call : (setting : Setting) (registers : List Shape) (wc : Core.World Value) (ws : Source.World) (d : Describes setting registers wc ws)
    (name : Name) (m : Mapping) (there : IsMapping setting registers wc ws d.apply name.text m) (vs : List Value)
    → ws.call name.place name.text vs
    ≡ (needs (first_fitting setting.types (direction there.forwards ∷ direction there.backwards ∷ []) (payload_of vs ∷ [])) then λ callee.
    d.apply name.place callee (payload_of vs ∷ []))
mapping_call setting registers wc ws d name m there vs =
    d.calls name.place name.text vs ∙ ap (λ o. call_by setting.types d.apply name.place o vs) there.called

sure_of : (a : Found) → a.faults ≡ [] → is_unsure_of a ≡ false
sure_of a h = ap (λ fs. has_some fs && has_never a.shape) h

not_none : {A : Type 0} {x : A} → (x ∷ []) ≡ [] → ⊥
not_none e = cc

-- what is known of a side that is chosen
abbrev pub SideIs : Bool → Bool → Bool → Which → Type 0
SideIs b f g forwards = (b ≡ false) × (f ≡ true)
SideIs b f g backwards = (b ≡ false) × (g ≡ true)
SideIs b f g w = Unit {0}

pub side_facts : (b f g : Bool) → SideIs b f g (if b then either else (if f then forwards else (if g then backwards else neither)))
side_facts true f g = tt
side_facts false true g = (refl, refl)
side_facts false false true = (refl, refl)
side_facts false false false = tt

-- a call that goes forwards, and one that goes backwards
goes_ahead : (setting : Setting) (name : Name) (m : Mapping) (s : Shape) → setting.value name.text ≡ Some (M.Mapping m)
    → shares (shape m.left) (shape m.right) ≡ false → is_some (join (shape m.left) s) ≡ true
    → (registers : List Shape) (c : Choice) (wc : Core.World Value) (ws : Source.World) (d : Describes setting registers wc ws) (v : Value)
    → Fits setting.types c s v
    → (callee : Callee)
    × KeepsCall setting.types registers (thrown_shape setting) wc d.apply (direction_candidate name.text (2 * m.number) m.left m.right) callee
    × (closed (shape m.left) ≡ true) × (fits setting.types v (shape m.left) ≡ true)
    × ((now : Now Value) → ws.call name.place name.text (v ∷ []) now ≡ d.apply name.place callee (v ∷ []) now)
goes_ahead setting name m s is apart joined registers c wc ws d v fit =
    let there = mapping_there setting registers wc ws d name.text m is in
    let whole : closed (shape m.left) ≡ true = subst (λ t. closed (shape t) ≡ true) there.left.0 there.ahead.takes in
    let fit_left = comes_to_side setting.types c (shape m.left) s v whole joined fit in
    let first = first_side setting.types there.forwards there.backwards v (subst (λ t. fits setting.types v (shape t) ≡ true) (sym there.left.0) fit_left) in (
      direction there.forwards,
      there.calls_ahead apart,
      whole,
      fit_left,
      λ now. (λ i. mapping_call setting registers wc ws d name m there (v ∷ []) i now)
          ∙ ap (λ o. (needs o then λ callee. d.apply name.place callee (v ∷ [])) now) first,
    )

goes_back : (setting : Setting) (name : Name) (m : Mapping) (s : Shape) → setting.value name.text ≡ Some (M.Mapping m)
    → shares (shape m.left) (shape m.right) ≡ false → is_some (join (shape m.right) s) ≡ true
    → (registers : List Shape) (c : Choice) (wc : Core.World Value) (ws : Source.World) (d : Describes setting registers wc ws) (v : Value)
    → Fits setting.types c s v
    → (callee : Callee)
    × KeepsCall setting.types registers (thrown_shape setting) wc d.apply (direction_candidate name.text (suc (2 * m.number)) m.right m.left) callee
    × (closed (shape m.right) ≡ true) × (fits setting.types v (shape m.right) ≡ true)
    × ((now : Now Value) → ws.call name.place name.text (v ∷ []) now ≡ d.apply name.place callee (v ∷ []) now)
goes_back setting name m s is apart joined registers c wc ws d v fit =
    let there = mapping_there setting registers wc ws d name.text m is in
    let whole : closed (shape m.right) ≡ true = subst (λ t. closed (shape t) ≡ true) there.right.1 there.back.takes in
    let fit_right = comes_to_side setting.types c (shape m.right) s v whole joined fit in
    let not_left = not_both setting.types v (shape m.left) (shape m.right) (fits setting.types v (shape m.left)) refl fit_right apart in
    let second = second_side setting.types there.forwards there.backwards v
    (subst (λ t. fits setting.types v (shape t) ≡ false) (sym there.left.0) not_left)
    (subst (λ t. fits setting.types v (shape t) ≡ true) (sym there.right.1) fit_right) in (
      direction there.backwards,
      there.calls_back apart,
      whole,
      fit_right,
      λ now. (λ i. mapping_call setting registers wc ws d name m there (v ∷ []) i now)
          ∙ ap (λ o. (needs o then λ callee. d.apply name.place callee (v ∷ [])) now) second,
    )

pub mapping_right : (setting : Setting) (locals : Locals) (want : Shape) (name : Name) (m : Mapping) (args : List Part) (ms : List Source.Meaning)
    → setting.value name.text ≡ Some (M.Mapping m) → AreRight setting locals (elaborations args) ms
    → (mapping_called name.place m (as_one name.place args) setting locals want).faults ≡ []
    → Right setting locals want (mapping_called name.place m (as_one name.place args) setting locals want)
    (λ w. in_turn (each ms w) then w.call name.place name.text)
mapping_right setting locals want name m args ms is right e =
    right_where setting locals want (mapping_called name.place m (as_one name.place args) setting locals want) n (λ w. in_turn (each ms w) then goes w)
    (λ registers wc ws d now.
    let there = mapping_there setting registers wc ws d name.text m is in
    as_one_turn ms ws now (goes ws)
    (λ vs. mapping_call setting registers wc ws d name m there vs ∙ sym (mapping_call setting registers wc ws d name m there (payload_of vs ∷ []))))
    (by_side (which_side m a.shape)
    (side_facts (shares (shape m.left) (shape m.right)) (is_some (join (shape m.left) a.shape)) (is_some (join (shape m.right) a.shape))) e)
  where
    goes : Source.World → List Value → Piece Value
    goes w vs = w.call name.place name.text vs

    n : Source.Meaning
    n w = in_turn (each (as_one_meant ms ∷ []) w) then goes w

    a : Found
    a = (as_one name.place args).elaborate setting locals V.Never

    -- the one way that is left
    by_sure : (number : ℕ) (from to : Typ) (b : Bool) → is_unsure_of a ≡ b
        → ((registers : List Shape) (c : Choice) (wc : Core.World Value) (ws : Source.World) (d : Describes setting registers wc ws) (v : Value)
        → Fits setting.types c a.shape v
        → (callee : Callee) × KeepsCall setting.types registers (thrown_shape setting) wc d.apply (direction_candidate name.text number from to) callee
        × (closed (shape from) ≡ true) × (fits setting.types v (shape from) ≡ true)
        × ((now : Now Value) → goes ws (v ∷ []) now ≡ d.apply name.place callee (v ∷ []) now))
        → (if b then behind a.faults (unknown name.place) else direction_found name.place want number (shape to) a).faults ≡ []
        → Right setting locals want (if b then behind a.faults (unknown name.place) else direction_found name.place want number (shape to) a) n
    by_sure number from to true unsure there e =
        absurd (true_false (sym unsure ∙ sure_of a (both_empty a.faults [] e).0))
      where
        true_false : true ≡ false → ⊥
        true_false h = cc
    by_sure number from to false sure there e =
        let h = both_empty a.faults _ e in
        behind_right setting locals want a.faults _ n
        (settled_right setting locals name.place want (shape to) (λ s. over name.place (K.Call (C.Converts number)) (a.core ∷ [])) n h.1
        (λ t. way_runs setting locals name.place name.text a.shape number from to a.core (as_one_meant ms) goes
        (as_one_right setting locals name.place args ms right V.Never h.0).runs there))

    by_side : (w : Which)
        → SideIs (shares (shape m.left) (shape m.right)) (is_some (join (shape m.left) a.shape)) (is_some (join (shape m.right) a.shape)) w
        → (mapping_found name.place (as_one name.place args).place want m a w).faults ≡ []
        → Right setting locals want (mapping_found name.place (as_one name.place args).place want m a w) n
    by_side forwards side e =
        by_sure (2 * m.number) m.left m.right (is_unsure_of a) refl (goes_ahead setting name m a.shape is side.0 side.1) e
    by_side backwards side e =
        by_sure (suc (2 * m.number)) m.right m.left (is_unsure_of a) refl (goes_back setting name m a.shape is side.0 side.1) e
    by_side neither side e = absurd (not_none (both_empty a.faults _ e).1)
    by_side either side e = absurd (not_none (both_empty a.faults _ e).1)
