-- Calls of what is known to be another callee, with other parts.
use Rattle.std.proofs.Common.{◌≡◌, ℕ, List, ◌++◌, Option, sym, ap, ◌∙◌, subst, IfOk, OnOk}
use Rattle.std.specs.Prelude.{Result, Ok, Err, option_map}
use Rattle.std.specs.declared.alloc.AllocError.{AllocError}
use Rattle.sail_base.specs.declared.place.Place.{Place}
use Rattle.sail_types.specs.declared.shapes.Shape.{Shape}
use Rattle.sail_core.specs.declared.tree.Core.{Core}
use Rattle.shape_rules.specs.declared.callees.Candidate.{Candidate}
use Rattle.shape_rules.specs.declared.error.ShapeError.{ShapeError}
use Rattle.shape_rules.specs.Findings.{Found, first_failure}
use Rattle.shape_rules.specs.Calls.{Chosen, call_found, member_found}
use Rattle.shape_rules.proofs.Firsts.{first_failure_append}
use Rattle.shape_calls.specs.Made.{made_of}
use Rattle.shape_calls.specs.declared.made.Made.{Made}
use Rattle.shape_calls.specs.declared.choosing.Picked.{Picked}
use Rattle.shape_calls.specs.Picked.{picked_of, arguments_of, member_picked}
use Rattle.shape_calls.proofs.Choices.{member_again}
use Rattle.shape_walks.specs.declared.walks.Walk.{Walk}
use Rattle.shape_walks.specs.Walks.{args_of}

-- a member that was picked is the one that is chosen
pub picked_made : (result : Result Made AllocError) (place : Place) (called name : List ℕ) (want : Shape) (w : Walk) (picked : Option Picked)
    (x y : Option Chosen) → called ≡ name → x ≡ y → picked ≡ option_map picked_of x
    → IfOk result (λ made. made ≡ made_of (member_picked place called want (arguments_of (args_of w)) picked))
    → IfOk result (λ made. made ≡ made_of (member_found place name want (args_of w) y))
picked_made result place called name want w picked x y same other found h =
    subst (λ (f : Found). IfOk result (λ made. made ≡ made_of f))
    (ap (member_picked place called want (arguments_of (args_of w))) found ∙ member_again place called want (args_of w) x
    ∙ ap (λ (n : List ℕ). member_found place n want (args_of w) x) same ∙ ap (member_found place name want (args_of w)) other) h

pub picked_noted : (result : Result Made AllocError) (place : Place) (called name : List ℕ) (want : Shape) (w : Walk) (picked : Option Picked)
    (x y : Option Chosen) (before after : Option ShapeError) → called ≡ name → x ≡ y → picked ≡ option_map picked_of x
    → OnOk result (after ≡ first_failure before (member_picked place called want (arguments_of (args_of w)) picked).faults)
    → OnOk result (after ≡ first_failure before (member_found place name want (args_of w) y).faults)
picked_noted result place called name want w picked x y before after same other found h =
    subst (λ (f : Found). OnOk result (after ≡ first_failure before f.faults))
    (ap (member_picked place called want (arguments_of (args_of w))) found ∙ member_again place called want (args_of w) x
    ∙ ap (λ (n : List ℕ). member_found place n want (args_of w) x) same ∙ ap (member_found place name want (args_of w)) other) h

pub called_made : (result : Result Made AllocError) (place : Place) (want : Shape) (f : Candidate) (known learnt : List Shape) (xs ys : List Core)
    → known ≡ learnt → xs ≡ ys → IfOk result (λ made. made ≡ made_of (call_found place want f known xs))
    → IfOk result (λ made. made ≡ made_of (call_found place want f learnt ys))
called_made result place want f known learnt xs ys same cores h =
    subst (λ (zs : List Core). IfOk result (λ made. made ≡ made_of (call_found place want f learnt zs))) cores
    (subst (λ (ks : List Shape). IfOk result (λ made. made ≡ made_of (call_found place want f ks xs))) same h)

on_ok : (result : Result Made AllocError) {P Q : Type 0} → (P → Q) → OnOk result P → OnOk result Q
on_ok (Ok made) f h = f h
on_ok (Err e) f h = h

-- failures behind others
pub behind_others : (result : Result Made AllocError) (before mid last : Option ShapeError) (es fs : List ShapeError)
    → mid ≡ first_failure before es → OnOk result (last ≡ first_failure mid fs) → OnOk result (last ≡ first_failure before (es ++ fs))
behind_others result before mid last es fs h k =
    on_ok result (λ (e : last ≡ first_failure mid fs). e ∙ ap (λ m. first_failure m fs) h ∙ sym (first_failure_append before es fs)) k

pub called_noted : (result : Result Made AllocError) (place : Place) (want : Shape) (f : Candidate) (known learnt : List Shape) (xs ys : List Core)
    (before mid last : Option ShapeError) (faults : List ShapeError) → known ≡ learnt → xs ≡ ys → mid ≡ first_failure before faults
    → OnOk result (last ≡ first_failure mid (call_found place want f known xs).faults)
    → OnOk result (last ≡ first_failure before (faults ++ (call_found place want f learnt ys).faults))
called_noted result place want f known learnt xs ys before mid last faults same cores noted h =
    behind_others result before mid last faults (call_found place want f learnt ys).faults noted
    (subst (λ (zs : List Core). OnOk result (last ≡ first_failure mid (call_found place want f learnt zs).faults)) cores
    (subst (λ (ks : List Shape). OnOk result (last ≡ first_failure mid (call_found place want f ks xs).faults)) same h))
