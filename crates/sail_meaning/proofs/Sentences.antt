-- Sentences of the language's rules hold of the meaning.
use Rattle.std.proofs.Common.{subst, ℕ, Bool, true, false, Option, List, None, ◌≡◌, [], ◌∷◌, Some, cond, if◌then◌else◌, refl, ap, ◌∙◌}
use Rattle.std.proofs.lemmas.Cmp.{nat_eq_equiv}
use Rattle.std.specs.Str.{bytes_eq}
use Rattle.sail_base.specs.declared.operators.Operator.TheVariants as O
use Rattle.sail_types.specs.declared.values.Value.{Value, out-Value}
use Rattle.sail_types.specs.declared.values.Value.TheVariants as V
use Rattle.model_state.specs.declared.cause.Cause.TheVariants as Cause
use Rattle.sail_core.specs.Run as R
use Rattle.sail_core.specs.Run.{Local, Now, Ended, goes_on, or_so, caught, within, apart, gives, throws, stops, needs, if_so, tick, tick_at, ◌then◌}
use Rattle.sail_core.specs.Run.{local, held_in, kept, changed_in}
use Rattle.sail_core.specs.Values.{item_way}
use Rattle.sail_meaning.specs.Choice.{first_fitting}
use Rattle.sail_meaning.specs.World.{Piece, Bindings, integer, truth}
use Rattle.sail_meaning.specs.Patterns.{whole_matches}
use Rattle.sail_meaning.specs.Targets.{name_spot, part_spot, constant_named, not_local, local_or, name_read, local_changed}
use Rattle.sail_meaning.specs.Expressions.{guarded, first_case, infix_of}
use Rattle.sail_meaning.specs.Calls.{nearest, crossed, world_with, converting}
use Rattle.sail_meaning.specs.Sentences.{FirstMemberIsTaken, OthersArePassedOver, AssignmentsRead, GuardsComeLater, LeftDecides, NoTurnNoTick}
use Rattle.sail_meaning.specs.Sentences.{TicksFirst, MeasuresFall, LastIsNearest, CountsDown, BlocksAreNests, ThrowsTakeNothingBack}
use Rattle.sail_meaning.specs.Sentences.{NoClauseInAPattern, NoClauseInACall, ConversionsAreNoTicks, VarsAreReadAnew}

pub first_member_is_taken : FirstMemberIsTaken
first_member_is_taken types c cs vs h = ap (λ b. cond b (Some c) (first_fitting types cs vs)) h

pub others_are_passed_over : OthersArePassedOver
others_are_passed_over types c cs vs h = ap (λ b. cond b (Some c) (first_fitting types cs vs)) h

pub guards_come_later : GuardsComeLater
guards_come_later w c cs none v h =
    λ i now. or_so (goes_on (h i now) (λ found. within found (guarded c.guard c.body w))) (first_case w cs none v)

pub left_decides : LeftDecides
unfolding out-Value denote.Hole.Carrier.out
left_decides w p a b now after h = ap (λ e. goes_on e (λ v. infix_of w p O.And v (out-Value v) (b w))) h

-- a condition that is false leads to the second of two pieces
not_so : (condition a b : Piece Value) (now after : Now Value) → condition now ≡ R.Gives (V.Truth false) after
    → ((condition then truth) then if_so a b) now ≡ b after
unfolding out-Value denote.Hole.Carrier.out
not_so condition a b now after h = ap (λ e. goes_on (goes_on e truth) (if_so a b)) h

pub no_turn_no_tick : NoTurnNoTick
no_turn_no_tick w p measure condition body now after h = not_so (condition w) _ _ now after h

-- a piece behind a tick that isn't there
no_tick : {A : Type 0} (next : Unit {0} → Piece A) (now : Now Value) → now.ticks ≡ 0 → (tick then next) now ≡ R.Stops Cause.WorkLimit now
no_tick next now h = ap (λ n. goes_on (tick_at n now) next) h

pub ticks_first : TicksFirst
ticks_first s calls active p f vs now h = no_tick _ now h

pub measures_fall : MeasuresFall
measures_fall p cycle active before n now h = ap (λ b. (if b then gives ((cycle, n) ∷ active) else stops (Cause.Measure p)) now) h

pub last_is_nearest : LastIsNearest
last_is_nearest cycle n active = ap (λ b. if b then Some n else nearest cycle active) (nat_eq_equiv.refl cycle)

pub counts_down : CountsDown
counts_down turns name i to by body = refl

pub blocks_are_nests : BlocksAreNests
blocks_are_nests w p q pattern a ss value = refl

pub throws_take_nothing_back : ThrowsTakeNothingBack
throws_take_nothing_back w p a cs v now after h = ap (λ e. caught e (λ u. first_case w cs (throws u) u)) h

pub no_clause_in_a_pattern : NoClauseInAPattern
no_clause_in_a_pattern w name ps v h = λ i now. goes_on (h i now) (whole_matches ps w)

pub no_clause_in_a_call : NoClauseInACall
no_clause_in_a_call s calls active p d v h = λ i. tick then λ t now. or_so (h i now) (stops (Cause.MatchFailure p))

pub conversions_are_no_ticks : ConversionsAreNoTicks
conversions_are_no_ticks s calls active rank name v u d h g =
    ap (λ o. needs o then λ e. crossed (world_with s calls active (converting s calls active rank) s.text.within []) e v) h ∙ ap apart g

-- ---- an assigned name

-- what a list holds of a name that was changed in it
abbrev Held : List ℕ → Value → Option Bindings → Type 0
Held name v None = Unit {0}
Held name v (Some locals) = held_in name locals ≡ Some v

held_if : (name : List ℕ) (v : Value) (l : Local Value) (ls : Bindings) (b : Bool) (o : Option Bindings)
    → bytes_eq l.name name ≡ b → Held name v o → Held name v (if b then Some (local l.name v ∷ ls) else kept l o)
held_if name v l ls true o e r = ap (λ c. if c then Some v else held_in name ls) e
held_if name v l ls false None e r = tt
held_if name v l ls false (Some ms) e r = ap (λ c. if c then Some l.held else held_in name ms) e ∙ r

changed_is_held : (name : List ℕ) (v : Value) (ls : Bindings) → Held name v (changed_in name v ls)
changed_is_held name v [] = tt
changed_is_held name v (l ∷ ls) = held_if name v l ls (bytes_eq l.name name) (changed_in name v ls) refl (changed_is_held name v ls)

pub vars_are_read_anew : VarsAreReadAnew
vars_are_read_anew w name v locals now h =
    ap (λ o. goes_on (local_changed w name v o now) (λ done. name_read w name)) h
    ∙ ap (λ o. local_or o (not_local w name (constant_named w name)) (record now { locals = locals }))
    (subst (Held name v) h (changed_is_held name v now.locals))

-- ---- `a[i] = e`

after_goes : {A B C : Type 0} (e : Ended Value A) (f : A → Piece B) (g : B → Piece C) → goes_on (goes_on e f) g ≡ goes_on e (λ x. f x then g)
after_goes (R.Gives x now) f g = refl
after_goes (R.No now) f g = refl
after_goes (R.Returns v now) f g = refl
after_goes (R.Throws v now) f g = refl
after_goes (R.Stops cause now) f g = refl
after_goes R.Stuck f g = refl

pub then_assoc : {A B C : Type 0} (r : Piece A) (f : A → Piece B) (g : B → Piece C) → ((r then f) then g) ≡ (r then λ x. f x then g)
then_assoc r f g = λ i now. after_goes (r now) f g i

thrice : {A B C D G : Type 0} (r : Piece A) (f : A → Piece B) (g : B → Piece C) (h : C → Piece D) (k : D → Piece G)
    → ((((r then f) then g) then h) then k) ≡ (r then λ x. ((f x then g) then h) then k)
thrice r f g h k =
    ap (λ q. (q then h) then k) (then_assoc r f g)
    ∙ ap (λ q. q then k) (then_assoc r (λ x. f x then g) h)
    ∙ then_assoc r (λ x. (f x then g) then h) k

pub assignments_read : AssignmentsRead
assignments_read w p q name i e =
    thrice (i w) (λ u. integer u then λ index. gives (item_way index)) (λ way. gives (way ∷ [])) (λ ways. gives (part_spot (name_spot w name.text) ways))
    (λ spot. e w then spot.write)
    ∙ (λ n. i w then λ u. thrice (integer u) (λ index. gives (item_way index)) (λ way. gives (way ∷ []))
    (λ ways. gives (part_spot (name_spot w name.text) ways)) (λ spot. e w then spot.write) n)
