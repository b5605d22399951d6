-- Arguments of calls, and what is called with them: a candidate takes arguments that were found for its parameters.
use Rattle.std.proofs.Common.{arith, ◌≡◌, ℕ, zero, suc, Bool, true, false, List, [], ◌∷◌, ◌++◌, map, length, ap, sym, ◌∙◌, refl, subst, nat_eq}
use Rattle.std.proofs.Common.{Option, Some, None, if◌then◌else◌}
use Rattle.std.proofs.lemmas.Bool.{and_parts}
use Rattle.sail_base.specs.declared.place.Place.{Place}
use Rattle.sail_types.specs.Shapes.{at, each_fits, fits, put}
use Rattle.sail_types.specs.declared.shapes.Shape.{Shape}
use Rattle.sail_types.specs.declared.shapes.Shape.TheOpen as S
use Rattle.sail_types.specs.declared.shapes.Shape.TheVariants as V
use Rattle.sail_types.specs.declared.values.Value.{Value}
use Rattle.sail_types.specs.declared.values.Value.TheVariants as Val
use Rattle.sail_core.specs.declared.tree.Callee.{Callee}
use Rattle.sail_core.specs.declared.tree.Callee.TheVariants as C
use Rattle.sail_core.specs.declared.tree.Core.{Core, out-Core}
use Rattle.sail_core.specs.declared.tree.Kind.TheVariants as K
use Rattle.sail_core.specs.Making.{World}
use Rattle.sail_core.specs.Values.{payload_of}
use Rattle.shape_joins.specs.Filling.{fills, fill_all}
use Rattle.shape_joins.specs.Learning.{holes, learn, learn_all}
use Rattle.shape_joins.proofs.JoinsLeast.{none}
use Rattle.shape_joins.proofs.Learnt.{learning_fills}
use Rattle.shape_joins.proofs.Order.{fills_twice, no, two}
use Rattle.shape_rules.specs.declared.callees.Candidate.{Candidate}
use Rattle.shape_rules.specs.declared.callees.Doing.{Doing}
use Rattle.shape_rules.specs.declared.callees.Doing.TheVariants as D
use Rattle.shape_rules.specs.declared.error.ShapeError.TheVariants as error
use Rattle.shape_rules.specs.declared.locals.Local.{Local}
use Rattle.shape_rules.specs.Calls.{Args, Chosen, Elaborate, Solved, args_found, call_found, chosen, chosen_or, cons_candidate, doing_kind, has_some}
use Rattle.shape_rules.specs.Calls.{member_found, one_called, place_in, several_called, solved, solved_behind}
use Rattle.shape_rules.specs.Calls.{solved_found, taught}
use Rattle.shape_rules.specs.Findings.{Found, mismatched, refused, unknown}
use Rattle.shape_rules.specs.Scopes.{Locals}
use Rattle.shape_meanings.specs.Keeping.{FitAll, Fits, Reach, reach_of}
use Rattle.shape_meanings.specs.Whole.{Choice}
use Rattle.shape_meanings.proofs.Arguments.{args_sure}
use Rattle.shape_meanings.proofs.Choosing.{is_taken}
use Rattle.shape_meanings.proofs.Learning.{all_twice, learnt_all}
use Rattle.shape_meanings.proofs.Orders.{all_itself, all_put_put, at_below, put_more, put_put, puts}
use Rattle.shape_meanings.proofs.Bases.{not_none}
use Rattle.shape_progress.specs.Rules.{KindHas}
use Rattle.shape_progress.specs.TargetRules.{AllHave, GivesAs, Takes}
use Rattle.shape_progress.proofs.Runs.{goes_as}
use Rattle.shape_stands.specs.Inside.{CanBeCalled, Does, EachCalled, Inside, Position}
use Rattle.shape_stands.specs.Stands.{AllStandAt, FoundShaped, HasShape, Shaped}
use Rattle.shape_stands.proofs.Standing.{AllShaped, both_empty, filled, has_filled, more_shaped, settled_node}

-- ---- arguments that are wanted as their parameters

-- the parameters of so many arguments
abbrev pub firsts : List Elaborate → List Shape → List Shape
firsts [] ps = []
firsts (e ∷ es) [] = []
firsts (e ∷ es) (p ∷ ps) = p ∷ firsts es ps

abbrev Solves : Position → Locals → List Shape → List Shape → Solved → Type 0
Solves here locals params known found =
    (fill_all known found.known ≡ true) × AllShaped here locals (map (put (at found.known)) params) found.cores

-- an argument that fails in nothing, and of which something is learnt, with those behind it
abbrev Teaches : Found → (List Shape → Solved) → Option (List Shape) → Type 0
Teaches a next learnt = (later : List Shape) × (learnt ≡ Some later) × (a.faults ≡ []) × ((next later).faults ≡ [])

teaches : (want : Shape) (a : Found) (next : List Shape → Solved) (known : List Shape) (learnt : Option (List Shape))
    → (solved_behind want a next known learnt).faults ≡ [] → Teaches a next learnt
teaches want a next known None e =
    let h = both_empty (a.faults ++ taught want a None) (next known).faults e in
    let k = both_empty a.faults (taught want a None) h.0 in
    not_none (sym (ap (λ fs. if has_some fs then [] else mismatched (place_in (out-Core a.core)) want a.shape ∷ []) k.0) ∙ k.1)
teaches want a next known (Some later) e =
    let h = both_empty (a.faults ++ taught want a (Some later)) (next later).faults e in
    (later, refl, (both_empty a.faults [] h.0).0, h.1)

pub solved_shaped : (es : List Elaborate) (here : Position) (locals : Locals) (params known : List Shape) → AllStandAt here locals es
    → (solved es here.setting locals params known).faults ≡ []
    → Solves here locals (firsts es params) known (solved es here.setting locals params known)
solved_shaped [] here locals params known stand e = (all_itself known, λ registers c w inside slots seen. tt)
solved_shaped (x ∷ es) here locals [] known stand e = (all_itself known, λ registers c w inside slots seen. tt)
solved_shaped (x ∷ es) here locals (p ∷ ps) known stand e =
    let want : Shape = put (at known) p in
    let a : Found = x here.setting locals want in
    let teach = teaches want a (solved es here.setting locals ps) known (learn p a.shape known) e in
    let next : Solved = solved es here.setting locals ps teach.0 in
    let is : solved (x ∷ es) here.setting locals (p ∷ ps) known ≡ solved_behind want a (solved es here.setting locals ps) known (Some teach.0) =
    ap (solved_behind want a (solved es here.setting locals ps) known) teach.1 in
    let l = learning_fills p a.shape known teach.0 teach.1 in
    let r = solved_shaped es here locals ps teach.0 stand.1 teach.3 in
    let t : Shape = put (at next.known) p in
    let above = fills_twice a.shape (put (at teach.0) p) t l.1 (put_more p (at teach.0) (at next.known) (at_below teach.0 next.known r.0)) in
    subst (Solves here locals (p ∷ firsts es ps) known) (sym is) (
      all_twice known teach.0 next.known l.0 r.0,
      more_shaped here locals t (map (put (at next.known)) (firsts es ps)) a.core next.cores
          (filled here locals a.shape t a.core above (stand.0 want teach.2).1) r.1,
    )

-- ---- arguments of which nothing is wanted

pub args_shaped : (es : List Elaborate) (here : Position) (locals : Locals) → AllStandAt here locals es → (args_found es here.setting locals).faults ≡ []
    → AllShaped here locals (args_found es here.setting locals).shapes (args_found es here.setting locals).cores
args_shaped [] here locals stand e = λ registers c w inside slots seen. tt
args_shaped (x ∷ es) here locals stand e =
    let a : Found = x here.setting locals V.Never in
    let more : Args = args_found es here.setting locals in
    let h = both_empty a.faults more.faults e in
    more_shaped here locals a.shape more.shapes a.core more.cores (stand.0 V.Never h.0).1 (args_shaped es here locals stand.1 h.1)

pub all_filled : (w : World Value) (reach : Reach) (ss ts : List Shape) (cs : List Core) → fill_all ss ts ≡ true → AllHave (HasShape w reach) ss cs
    → AllHave (HasShape w reach) ts cs
all_filled w reach [] [] cs above h = h
all_filled w reach [] (t ∷ ts) cs above h = no above
all_filled w reach (s ∷ ss) [] cs above h = no above
all_filled w reach (s ∷ ss) (t ∷ ts) [] above h = absurd h
all_filled w reach (s ∷ ss) (t ∷ ts) (c ∷ cs) above h =
    let k = and_parts (fills s t) (fill_all ss ts) above in
    (has_filled w reach s t c k.0 h.0, all_filled w reach ss ts cs k.1 h.1)

-- ---- what is called

variable_put : (e : ℕ → Shape) (i : ℕ) → put e (V.Variable i) ≡ e i
variable_put e i = ap (put e) (sym (V.rolls-Variable i)) ∙ puts e (S.Variable i)

list_put : (e : ℕ → Shape) (s : Shape) → put e (V.List s) ≡ V.List (put e s)
list_put e s = ap (put e) (sym (V.rolls-List s)) ∙ puts e (S.List s) ∙ V.rolls-List (put e s)

cons_ruled : (w : World Value) (reach : Reach) (known : List Shape) (item : Shape) (cores : List Core)
    → AllHave (HasShape w reach) (map (put (at known)) cons_candidate.params) cores
    → KindHas (HasShape w) w reach (put (at known) cons_candidate.answer) (K.Cons item) cores
cons_ruled w reach known item [] h = absurd h
cons_ruled w reach known item (a ∷ []) h = absurd h.1
cons_ruled w reach known item (a ∷ b ∷ []) h =
    let e : ℕ → Shape = at known in (
      e 0,
      list_put e (V.Variable 0) ∙ ap V.List (variable_put e 0),
      subst (λ s. HasShape w reach s a) (variable_put e 0) h.0,
      h.1.0,
    )
cons_ruled w reach known item (a ∷ b ∷ c ∷ cs) h = absurd h.1.1

-- a candidate takes values that fit its parameters for some shapes in the place of its variables, and gives what fits its result for these
pub candidate_takes : (here : Position) (registers : List Shape) (c : Choice) (w : World Value) (slots : List Local) (f : Candidate) (callee : Callee)
    (ss : List Shape) (answer : Option Shape) (e : Choice) → Does here registers c w f (D.Calls callee)
    → ((t : Shape) → f.params ≡ t ∷ [] → (u : Shape) × (ss ≡ u ∷ []))
    → ((vs : List Value) → FitAll here.setting.types c ss vs → FitAll here.setting.types e f.params vs)
    → ((v : Value) → Fits here.setting.types e f.answer v → GivesAs (reach_of here.setting registers c slots) answer v)
    → Takes w (reach_of here.setting registers c slots) ss answer callee
candidate_takes here registers c w slots f (C.Row row) ss answer e does one fit gives = (
  does.0,
  e,
  does.1,
  does.2,
  λ vs h. subst (λ ps. FitAll here.setting.types e ps vs) does.3 (fit vs h),
  λ v h. gives v (subst (λ s. Fits here.setting.types e s v) (sym does.4) h),
)
candidate_takes here registers c w slots f (C.Constructor u k) ss answer e does one fit gives =
    λ vs h. gives (Val.Union u k (payload_of vs)) (does e vs (fit vs h))
candidate_takes here registers c w slots f (C.Function i) ss answer e does one fit gives =
    let reach : Reach = reach_of here.setting registers c slots in
    λ place vs h.
    goes_as reach w (Fits reach.types e f.answer) (GivesAs reach answer) (w.call place i None vs) gives (does e place vs (fit vs h) slots)
candidate_takes here registers c w slots f (C.Converts n) ss answer e does one fit gives =
    let reach : Reach = reach_of here.setting registers c slots in
    let u = one does.0 does.1 in (
      u.0,
      u.1,
      λ v h.
          goes_as reach w (Fits reach.types e f.answer) (GivesAs reach answer) (w.enter n v) gives
          (does.2 e v (one_fits e does.0 v (subst (λ ps. FitAll reach.types e ps (v ∷ [])) does.1
          (fit (v ∷ []) (subst (λ us. FitAll reach.types c us (v ∷ [])) (sym u.1) (two (fits reach.types v (put c u.0)) true h refl))))) slots),
    )
  where
    one_fits : (e : Choice) (t : Shape) (v : Value) → FitAll here.setting.types e (t ∷ []) (v ∷ []) → Fits here.setting.types e t v
    one_fits e t v h = (and_parts (fits here.setting.types v (put e t)) true h).0
candidate_takes here registers c w slots f callee ss answer e does one fit gives = absurd does

doing_ruled : (here : Position) (registers : List Shape) (c : Choice) (w : World Value) (slots : List Local) (f : Candidate) (known : List Shape)
    (doing : Doing) (cores : List Core) → Does here registers c w f doing
    → AllHave (HasShape w (reach_of here.setting registers c slots)) (map (put (at known)) f.params) cores
    → KindHas (HasShape w) w (reach_of here.setting registers c slots) (put (at known) f.answer) (doing_kind doing known) cores
doing_ruled here registers c w slots f known (D.Calls callee) cores does h = (
  map (put (at known)) f.params,
  h,
  candidate_takes here registers c w slots f callee (map (put (at known)) f.params) (Some (put (at known) f.answer)) (λ i. put c (at known i)) does
      (λ t is. (put (at known) t, ap (map (put (at known))) is))
      (λ vs fit. subst (λ ts. each_fits (map (fits here.setting.types) vs) ts ≡ true) (all_put_put f.params c (at known)) fit)
      (λ v fit. subst (λ t. fits here.setting.types v t ≡ true) (sym (put_put f.answer c (at known))) fit),
)
doing_ruled here registers c w slots f known D.Conses cores does h =
    let reach : Reach = reach_of here.setting registers c slots in
    subst (λ s. KindHas (HasShape w) w reach (put (at known) s) (K.Cons (at known 0)) cores) (sym does.1)
    (cons_ruled w reach known (at known 0) cores (subst (λ ps. AllHave (HasShape w reach) (map (put (at known)) ps) cores) does.0 h))

-- a call of a candidate that can be called in each world, whose arguments' shapes its parameters fill
call_shaped : (here : Position) (locals : Locals) (place : Place) (want : Shape) (f : Candidate) (known ss : List Shape) (cores : List Core)
    → ((registers : List Shape) (c : Choice) (w : World Value) → Inside here registers c w → CanBeCalled here registers c w f)
    → fill_all ss (map (put (at known)) f.params) ≡ true → AllShaped here locals ss cores
    → FoundShaped here locals (call_found place want f known cores)
call_shaped here locals place want f known ss cores called above shaped e =
    settled_node here locals place place want (put (at known) f.answer) (λ s. doing_kind f.doing known) cores e
    (λ t registers c w inside slots seen.
    doing_ruled here registers c w slots f known f.doing cores (called registers c w inside).does
    (all_filled w (reach_of here.setting registers c slots) ss (map (put (at known)) f.params) cores above (shaped registers c w inside slots seen)))

-- ---- one callee

counted_step : (place : Place) (b : Bool) (wanted found : ℕ) (next : Found)
    → (if b then next else refused (error.Arity place wanted found)).faults ≡ [] → b ≡ true
counted_step place true wanted found next e = refl
counted_step place false wanted found next e = not_none e

pub all_firsts : (es : List Elaborate) (params : List Shape) → length params ≡ length es → firsts es params ≡ params
all_firsts [] [] h = refl
all_firsts [] (p ∷ ps) h = absurd (not_zero (length ps) h)
  where
    not_zero : (n : ℕ) → suc n ≡ zero → ⊥
    not_zero n h = grind (arith, h)
all_firsts (e ∷ es) [] h = absurd (zero_not (length es) h)
  where
    zero_not : (n : ℕ) → zero ≡ suc n → ⊥
    zero_not n h = grind (arith, h)
all_firsts (e ∷ es) (p ∷ ps) h = ap (λ qs. p ∷ qs) (all_firsts es ps (one_less (length ps) (length es) h))
  where
    one_less : (n k : ℕ) → suc n ≡ suc k → n ≡ k
    one_less n k h = grind (arith, h)

equal_counts : (n k : ℕ) → nat_eq n k ≡ true → n ≡ k
equal_counts n k h = grind (arith, h)

pub one_shaped : (here : Position) (locals : Locals) (want : Shape) (place : Place) (f : Candidate) (es : List Elaborate)
    → ((registers : List Shape) (c : Choice) (w : World Value) → Inside here registers c w → CanBeCalled here registers c w f)
    → AllStandAt here locals es → FoundShaped here locals (one_called place f es here.setting locals want)
one_shaped here locals want place f es called stand e =
    let args : Solved = solved es here.setting locals f.params (holes f.variables) in
    let next : Found = solved_found place want f args in
    let many = counted_step place (nat_eq (length f.params) (length es)) (length f.params) (length es) next e in
    let is : one_called place f es here.setting locals want ≡ next =
    ap (λ b. if b then next else refused (error.Arity place (length f.params) (length es))) many in
    let h = both_empty args.faults (call_found place want f args.known args.cores).faults (ap (λ (x : Found). x.faults) (sym is) ∙ e) in
    let r = solved_shaped es here locals f.params (holes f.variables) stand h.0 in
    let cores = subst (λ ps. AllShaped here locals (map (put (at args.known)) ps) args.cores)
    (all_firsts es f.params (equal_counts (length f.params) (length es) many)) r.1 in
    let shaped = call_shaped here locals place want f args.known (map (put (at args.known)) f.params) args.cores called
    (all_itself (map (put (at args.known)) f.params)) cores h.1 in
    subst (λ (x : Found). Shaped here locals x.shape x.core) (sym is) shaped

-- ---- several callees

same_chosen : (x y : Chosen) → Some x ≡ Some y → x ≡ y
same_chosen x y e = cc

called_step : (here : Position) (registers : List Shape) (c : Choice) (w : World Value) (f : Candidate) (o : Option (List Shape)) (next : Option Chosen)
    (x : Chosen) → CanBeCalled here registers c w f → (next ≡ Some x → CanBeCalled here registers c w x.candidate) → chosen_or f o next ≡ Some x
    → CanBeCalled here registers c w x.candidate
called_step here registers c w f None next x one others e = others e
called_step here registers c w f (Some known) next x one others e =
    subst (λ (y : Chosen). CanBeCalled here registers c w y.candidate) (same_chosen (record { candidate = f; known = known }) x e) one

-- the one that is chosen is one of them
pub chosen_called : (here : Position) (registers : List Shape) (c : Choice) (w : World Value) (fs : List Candidate) (ss : List Shape) (x : Chosen)
    → chosen fs ss ≡ Some x → EachCalled here registers c w fs → CanBeCalled here registers c w x.candidate
chosen_called here registers c w [] ss x e called = none e
chosen_called here registers c w (f ∷ fs) ss x e called =
    called_step here registers c w f (learn_all (map learn f.params) ss (holes f.variables)) (chosen fs ss) x called.0
    (λ later. chosen_called here registers c w fs ss x later called.1) e

member_shaped : (here : Position) (locals : Locals) (want : Shape) (place : Place) (name : List ℕ) (fs : List Candidate) (args : Args) (o : Option Chosen)
    → ((registers : List Shape) (c : Choice) (w : World Value) → Inside here registers c w → EachCalled here registers c w fs)
    → chosen fs args.shapes ≡ o → args.is_unsure ≡ false → AllShaped here locals args.shapes args.cores
    → FoundShaped here locals (member_found place name want args o)
member_shaped here locals want place name fs args None called is sure shaped e = not_none e
member_shaped here locals want place name fs args (Some x) called is sure shaped e =
    let taken = learnt_all x.candidate.params args.shapes (holes x.candidate.variables) x.known (is_taken fs args.shapes x is) in
    subst (λ b. FoundShaped here locals (if b then unknown place else call_found place want x.candidate x.known args.cores)) (sym sure)
    (call_shaped here locals place want x.candidate x.known args.shapes args.cores
    (λ registers c w inside. chosen_called here registers c w fs args.shapes x is (called registers c w inside)) taken.1 shaped) e

pub several_shaped : (here : Position) (locals : Locals) (want : Shape) (place : Place) (name : List ℕ) (fs : List Candidate) (es : List Elaborate)
    → ((registers : List Shape) (c : Choice) (w : World Value) → Inside here registers c w → EachCalled here registers c w fs)
    → AllStandAt here locals es → FoundShaped here locals (several_called place name fs es here.setting locals want)
several_shaped here locals want place name fs es called stand e =
    let args : Args = args_found es here.setting locals in
    let h = both_empty args.faults (member_found place name want args (chosen fs args.shapes)).faults e in
    member_shaped here locals want place name fs args (chosen fs args.shapes) called refl (args_sure es here.setting locals h.0)
    (args_shaped es here locals stand h.0) h.1
