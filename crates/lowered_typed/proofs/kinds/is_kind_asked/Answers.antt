use Rattle.std.proofs.Common.{◌≡◌, ◌∙◌, ℕ, Bool, List, length, sym, ap}
use Rattle.lowered_pieces.specs.Forms.{in_fields}
use Rattle.lowered_typed.proofs.Parts.{many_here}
use Rattle.lowered_typed.specs.Judging.{cases_typed}
use Rattle.sail_core.specs.declared.patterns.Arm.{Arm}
use Rattle.sail_core.specs.declared.tree.Kind.{Kind}
use Rattle.sized_nodes.specs.declared.trees.Case.{Case}
use Rattle.std.proofs.lemmas.Result.{IfOk-weaker}
use Rattle.jib.specs.declared.code.Operation.TheVariants as O
use Rattle.lowered_typed.specs.declared.cases.Order.TheVariants as OA
use Rattle.lowered_typed.specs.Here as here
use Rattle.lowered_typed.specs.Judged as judged
use Rattle.lowered_typed.proofs.kinds.is_kind_asked.Goals as goal

pub returns-in-Constant : goal.returns-in-Constant
returns-in-Constant c =
    IfOk-weaker c.is_literal_asked.result _
    (λ (a : Bool). a ≡ judged.kind_asked c.args.judge.now c.args.kind.now c.args.number (judged.all_here c.args.judge.now c.args.parts.now))
    (λ a e. e ∙ ap (λ (k : Kind). judged.kind_asked c.args.judge.now k c.args.number (judged.all_here c.args.judge.now c.args.parts.now))
    (sym c.in-Constant.is)) c.is_literal_asked.ensures

pub returns-in-Local : goal.returns-in-Local
returns-in-Local c =
    IfOk-weaker c.are_as_asked.result _
    (λ (a : Bool). a ≡ judged.kind_asked c.args.judge.now c.args.kind.now c.args.number (judged.all_here c.args.judge.now c.args.parts.now))
    (λ a e. e ∙ ap (λ (cs : List Case). cases_typed c.args.judge.now (here.is_cast c.args.judge.now) cs) c.cases.ensures
    ∙ ap (λ (k : Kind). judged.kind_asked c.args.judge.now k c.args.number (judged.all_here c.args.judge.now c.args.parts.now))
    (sym c.in-Local.is)) c.are_as_asked.ensures

pub returns-in-TopLevel : goal.returns-in-TopLevel
returns-in-TopLevel c =
    IfOk-weaker c.is_let_asked.result _
    (λ (a : Bool). a ≡ judged.kind_asked c.args.judge.now c.args.kind.now c.args.number (judged.all_here c.args.judge.now c.args.parts.now))
    (λ a e. e ∙ ap (λ (k : Kind). judged.kind_asked c.args.judge.now k c.args.number (judged.all_here c.args.judge.now c.args.parts.now))
    (sym c.in-TopLevel.is)) c.is_let_asked.ensures

pub returns-in-Register : goal.returns-in-Register
returns-in-Register c =
    IfOk-weaker c.is_register_asked.result _
    (λ (a : Bool). a ≡ judged.kind_asked c.args.judge.now c.args.kind.now c.args.number (judged.all_here c.args.judge.now c.args.parts.now))
    (λ a e. e ∙ ap (λ (k : Kind). judged.kind_asked c.args.judge.now k c.args.number (judged.all_here c.args.judge.now c.args.parts.now))
    (sym c.in-Register.is)) c.is_register_asked.ensures

pub returns-in-Call : goal.returns-in-Call
returns-in-Call c =
    IfOk-weaker c.is_call_asked.result _
    (λ (a : Bool). a ≡ judged.kind_asked c.args.judge.now c.args.kind.now c.args.number (judged.all_here c.args.judge.now c.args.parts.now))
    (λ a e. e ∙ ap (λ (k : Kind). judged.kind_asked c.args.judge.now k c.args.number (judged.all_here c.args.judge.now c.args.parts.now))
    (sym c.in-Call.is)) c.is_call_asked.ensures

pub returns-in-Tuple : goal.returns-in-Tuple
returns-in-Tuple c =
    IfOk-weaker c.is_built.result _
    (λ (a : Bool). a ≡ judged.kind_asked c.args.judge.now c.args.kind.now c.args.number (judged.all_here c.args.judge.now c.args.parts.now))
    (λ a e. e ∙ ap (λ (n : ℕ). judged.built_asked c.args.judge.now O.Build OA.Forwards c.args.number n) (sym
    (many_here c.args.judge.now c.args.parts.now))
    ∙ ap (λ (k : Kind). judged.kind_asked c.args.judge.now k c.args.number (judged.all_here c.args.judge.now c.args.parts.now))
    (sym c.in-Tuple.is)) c.is_built.ensures

pub returns-in-Vector : goal.returns-in-Vector
returns-in-Vector c =
    IfOk-weaker c.is_built-in-Vector.result _
    (λ (a : Bool). a ≡ judged.kind_asked c.args.judge.now c.args.kind.now c.args.number (judged.all_here c.args.judge.now c.args.parts.now))
    (λ a e. e ∙ ap (λ (n : ℕ). judged.built_asked c.args.judge.now O.Build OA.Backwards c.args.number n) (sym
    (many_here c.args.judge.now c.args.parts.now))
    ∙ ap (λ (k : Kind). judged.kind_asked c.args.judge.now k c.args.number (judged.all_here c.args.judge.now c.args.parts.now))
    (sym c.in-Vector.is)) c.is_built-in-Vector.ensures

pub returns-in-List : goal.returns-in-List
returns-in-List c =
    IfOk-weaker c.is_built-in-List.result _
    (λ (a : Bool). a ≡ judged.kind_asked c.args.judge.now c.args.kind.now c.args.number (judged.all_here c.args.judge.now c.args.parts.now))
    (λ a e. e ∙ ap (λ (n : ℕ). judged.built_asked c.args.judge.now O.Build OA.Forwards c.args.number n) (sym
    (many_here c.args.judge.now c.args.parts.now))
    ∙ ap (λ (k : Kind). judged.kind_asked c.args.judge.now k c.args.number (judged.all_here c.args.judge.now c.args.parts.now))
    (sym c.in-List.is)) c.is_built-in-List.ensures

pub returns-in-Cons : goal.returns-in-Cons
returns-in-Cons c =
    IfOk-weaker c.is_built-in-Cons.result _
    (λ (a : Bool). a ≡ judged.kind_asked c.args.judge.now c.args.kind.now c.args.number (judged.all_here c.args.judge.now c.args.parts.now))
    (λ a e. e ∙ ap (λ (n : ℕ). judged.built_asked c.args.judge.now O.Cons OA.Forwards c.args.number n) (sym
    (many_here c.args.judge.now c.args.parts.now))
    ∙ ap (λ (k : Kind). judged.kind_asked c.args.judge.now k c.args.number (judged.all_here c.args.judge.now c.args.parts.now))
    (sym c.in-Cons.is)) c.is_built-in-Cons.ensures

pub returns-in-Struct : goal.returns-in-Struct
returns-in-Struct c =
    IfOk-weaker c.is_built-in-Struct.result _
    (λ (a : Bool). a ≡ judged.kind_asked c.args.judge.now c.args.kind.now c.args.number (judged.all_here c.args.judge.now c.args.parts.now))
    (λ a e. e ∙ ap (λ (is : List ℕ). cases_typed c.args.judge.now (here.is_work c.args.judge.now O.Build (in_fields
    (here.no_value c.args.judge.now) is)) (judged.cases_at c.args.judge.now c.args.number (length c.args.parts.now))) c.as_slice.ensures
    ∙ ap (λ (n : ℕ). cases_typed c.args.judge.now (here.is_work c.args.judge.now O.Build (in_fields
    (here.no_value c.args.judge.now) c.in-Struct.fields)) (judged.cases_at c.args.judge.now c.args.number n)) (sym
    (many_here c.args.judge.now c.args.parts.now))
    ∙ ap (λ (k : Kind). judged.kind_asked c.args.judge.now k c.args.number (judged.all_here c.args.judge.now c.args.parts.now))
    (sym c.in-Struct.is)) c.is_built-in-Struct.ensures

pub returns-in-With : goal.returns-in-With
returns-in-With c =
    IfOk-weaker c.is_with_asked.result _
    (λ (a : Bool). a ≡ judged.kind_asked c.args.judge.now c.args.kind.now c.args.number (judged.all_here c.args.judge.now c.args.parts.now))
    (λ a e. e ∙ (λ i. judged.with_asked c.args.judge.now (c.as_slice-in-With.ensures i) (judged.cases_at c.args.judge.now c.args.number (sym
    (many_here c.args.judge.now c.args.parts.now) i)))
    ∙ ap (λ (k : Kind). judged.kind_asked c.args.judge.now k c.args.number (judged.all_here c.args.judge.now c.args.parts.now))
    (sym c.in-With.is)) c.is_with_asked.ensures

pub returns-in-Part : goal.returns-in-Part
returns-in-Part c =
    IfOk-weaker c.is_part_asked.result _
    (λ (a : Bool). a ≡ judged.kind_asked c.args.judge.now c.args.kind.now c.args.number (judged.all_here c.args.judge.now c.args.parts.now))
    (λ a e. e ∙ (λ i. judged.part_asked c.args.judge.now (c.as_slice-in-Part.ensures i) (sym (many_here c.args.judge.now c.args.parts.now) i))
    ∙ ap (λ (k : Kind). judged.kind_asked c.args.judge.now k c.args.number (judged.all_here c.args.judge.now c.args.parts.now))
    (sym c.in-Part.is)) c.is_part_asked.ensures

pub returns-in-WithItem : goal.returns-in-WithItem
returns-in-WithItem c =
    IfOk-weaker c.is_built-in-WithItem.result _
    (λ (a : Bool). a ≡ judged.kind_asked c.args.judge.now c.args.kind.now c.args.number (judged.all_here c.args.judge.now c.args.parts.now))
    (λ a e. e ∙ ap (λ (k : Kind). judged.kind_asked c.args.judge.now k c.args.number (judged.all_here c.args.judge.now c.args.parts.now))
    (sym c.in-WithItem.is)) c.is_built-in-WithItem.ensures

pub returns-in-WithSlice : goal.returns-in-WithSlice
returns-in-WithSlice c =
    IfOk-weaker c.is_built-in-WithSlice.result _
    (λ (a : Bool). a ≡ judged.kind_asked c.args.judge.now c.args.kind.now c.args.number (judged.all_here c.args.judge.now c.args.parts.now))
    (λ a e. e ∙ ap (λ (k : Kind). judged.kind_asked c.args.judge.now k c.args.number (judged.all_here c.args.judge.now c.args.parts.now))
    (sym c.in-WithSlice.is)) c.is_built-in-WithSlice.ensures

pub returns-in-Cast : goal.returns-in-Cast
returns-in-Cast c =
    IfOk-weaker c.are_as_asked-in-Cast.result _
    (λ (a : Bool). a ≡ judged.kind_asked c.args.judge.now c.args.kind.now c.args.number (judged.all_here c.args.judge.now c.args.parts.now))
    (λ a e. e ∙ ap (λ (cs : List Case). cases_typed c.args.judge.now (here.is_recast c.args.judge.now) cs) c.cases-in-Cast.ensures
    ∙ ap (λ (k : Kind). judged.kind_asked c.args.judge.now k c.args.number (judged.all_here c.args.judge.now c.args.parts.now))
    (sym c.in-Cast.is)) c.are_as_asked-in-Cast.ensures

pub returns-in-SizeOf : goal.returns-in-SizeOf
returns-in-SizeOf c =
    IfOk-weaker c.is_size_asked.result _
    (λ (a : Bool). a ≡ judged.kind_asked c.args.judge.now c.args.kind.now c.args.number (judged.all_here c.args.judge.now c.args.parts.now))
    (λ a e. e ∙ ap (λ (k : Kind). judged.kind_asked c.args.judge.now k c.args.number (judged.all_here c.args.judge.now c.args.parts.now))
    (sym c.in-SizeOf.is)) c.is_size_asked.ensures

pub returns-in-Constraint : goal.returns-in-Constraint
returns-in-Constraint c =
    IfOk-weaker c.is_condition_asked.result _
    (λ (a : Bool). a ≡ judged.kind_asked c.args.judge.now c.args.kind.now c.args.number (judged.all_here c.args.judge.now c.args.parts.now))
    (λ a e. e ∙ ap (λ (k : Kind). judged.kind_asked c.args.judge.now k c.args.number (judged.all_here c.args.judge.now c.args.parts.now))
    (sym c.in-Constraint.is)) c.is_condition_asked.ensures

pub returns-in-Assign : goal.returns-in-Assign
returns-in-Assign c =
    IfOk-weaker c.is_assign_asked.result _
    (λ (a : Bool). a ≡ judged.kind_asked c.args.judge.now c.args.kind.now c.args.number (judged.all_here c.args.judge.now c.args.parts.now))
    (λ a e. e ∙ ap (λ ts. judged.assign_asked c.args.judge.now ts (judged.all_here c.args.judge.now c.args.parts.now)) c.as_slice-in-Assign.ensures
    ∙ ap (λ (k : Kind). judged.kind_asked c.args.judge.now k c.args.number (judged.all_here c.args.judge.now c.args.parts.now))
    (sym c.in-Assign.is)) c.is_assign_asked.ensures

pub returns-in-If : goal.returns-in-If
returns-in-If c =
    IfOk-weaker c.is_if_asked.result _
    (λ (a : Bool). a ≡ judged.kind_asked c.args.judge.now c.args.kind.now c.args.number (judged.all_here c.args.judge.now c.args.parts.now))
    (λ a e. e ∙ ap (λ (k : Kind). judged.kind_asked c.args.judge.now k c.args.number (judged.all_here c.args.judge.now c.args.parts.now))
    (sym c.in-If.is)) c.is_if_asked.ensures

pub returns-in-While : goal.returns-in-While
returns-in-While c =
    ap (λ (k : Kind). judged.kind_asked c.args.judge.now k c.args.number (judged.all_here c.args.judge.now c.args.parts.now)) (sym c.in-While.is)

pub returns-in-Repeat : goal.returns-in-Repeat
returns-in-Repeat c =
    ap (λ (k : Kind). judged.kind_asked c.args.judge.now k c.args.number (judged.all_here c.args.judge.now c.args.parts.now)) (sym c.in-Repeat.is)

pub returns-in-Foreach : goal.returns-in-Foreach
returns-in-Foreach c =
    ap (λ (k : Kind). judged.kind_asked c.args.judge.now k c.args.number (judged.all_here c.args.judge.now c.args.parts.now)) (sym c.in-Foreach.is)

pub returns-in-Throw : goal.returns-in-Throw
returns-in-Throw c =
    IfOk-weaker c.is_first_of.result _
    (λ (a : Bool). a ≡ judged.kind_asked c.args.judge.now c.args.kind.now c.args.number (judged.all_here c.args.judge.now c.args.parts.now))
    (λ a e. e ∙ ap (λ (k : Kind). judged.kind_asked c.args.judge.now k c.args.number (judged.all_here c.args.judge.now c.args.parts.now))
    (sym c.in-Throw.is)) c.is_first_of.ensures

pub returns-in-Return : goal.returns-in-Return
returns-in-Return c =
    IfOk-weaker c.is_first_of-in-Return.result _
    (λ (a : Bool). a ≡ judged.kind_asked c.args.judge.now c.args.kind.now c.args.number (judged.all_here c.args.judge.now c.args.parts.now))
    (λ a e. e ∙ ap (λ (k : Kind). judged.kind_asked c.args.judge.now k c.args.number (judged.all_here c.args.judge.now c.args.parts.now))
    (sym c.in-Return.is)) c.is_first_of-in-Return.ensures

pub returns-in-Let : goal.returns-in-Let
returns-in-Let c =
    IfOk-weaker c.is_bound.result _
    (λ (a : Bool). a ≡ judged.kind_asked c.args.judge.now c.args.kind.now c.args.number (judged.all_here c.args.judge.now c.args.parts.now))
    (λ a e. e ∙ ap (λ (k : Kind). judged.kind_asked c.args.judge.now k c.args.number (judged.all_here c.args.judge.now c.args.parts.now))
    (sym c.in-Let.is)) c.is_bound.ensures

pub returns-in-Match : goal.returns-in-Match
returns-in-Match c =
    IfOk-weaker c.is_match_asked.result _
    (λ (a : Bool). a ≡ judged.kind_asked c.args.judge.now c.args.kind.now c.args.number (judged.all_here c.args.judge.now c.args.parts.now))
    (λ a e. e ∙ ap (λ (arms : List Arm). judged.match_asked c.args.judge.now arms c.args.number
    (judged.all_here c.args.judge.now c.args.parts.now)) c.as_slice-in-Match.ensures
    ∙ ap (λ (k : Kind). judged.kind_asked c.args.judge.now k c.args.number (judged.all_here c.args.judge.now c.args.parts.now))
    (sym c.in-Match.is)) c.is_match_asked.ensures

pub returns-in-Try : goal.returns-in-Try
returns-in-Try c =
    IfOk-weaker c.is_try_asked.result _
    (λ (a : Bool). a ≡ judged.kind_asked c.args.judge.now c.args.kind.now c.args.number (judged.all_here c.args.judge.now c.args.parts.now))
    (λ a e. e ∙ ap (λ (arms : List Arm). judged.try_asked c.args.judge.now arms c.args.number
    (judged.all_here c.args.judge.now c.args.parts.now)) c.as_slice-in-Try.ensures
    ∙ ap (λ (k : Kind). judged.kind_asked c.args.judge.now k c.args.number (judged.all_here c.args.judge.now c.args.parts.now))
    (sym c.in-Try.is)) c.is_try_asked.ensures

pub returns-in-Clauses : goal.returns-in-Clauses
returns-in-Clauses c =
    IfOk-weaker c.is_clauses_asked.result _
    (λ (a : Bool). a ≡ judged.kind_asked c.args.judge.now c.args.kind.now c.args.number (judged.all_here c.args.judge.now c.args.parts.now))
    (λ a e. e ∙ (λ i. judged.clauses_asked c.args.judge.now (c.as_slice-in-Clauses.ensures i) (sym
    (many_here c.args.judge.now c.args.parts.now) i))
    ∙ ap (λ (k : Kind). judged.kind_asked c.args.judge.now k c.args.number (judged.all_here c.args.judge.now c.args.parts.now))
    (sym c.in-Clauses.is)) c.is_clauses_asked.ensures

pub returns-in-Optional : goal.returns-in-Optional
returns-in-Optional c =
    IfOk-weaker c.is_option_asked.result _
    (λ (a : Bool). a ≡ judged.kind_asked c.args.judge.now c.args.kind.now c.args.number (judged.all_here c.args.judge.now c.args.parts.now))
    (λ a e. e ∙ ap (λ (k : Kind). judged.kind_asked c.args.judge.now k c.args.number (judged.all_here c.args.judge.now c.args.parts.now))
    (sym c.in-Optional.is)) c.is_option_asked.ensures

pub returns-in-Variable : goal.returns-in-Variable
returns-in-Variable c =
    IfOk-weaker c.is_variable_asked.result _
    (λ (a : Bool). a ≡ judged.kind_asked c.args.judge.now c.args.kind.now c.args.number (judged.all_here c.args.judge.now c.args.parts.now))
    (λ a e. e ∙ ap (λ (k : Kind). judged.kind_asked c.args.judge.now k c.args.number (judged.all_here c.args.judge.now c.args.parts.now))
    (sym c.in-Variable.is)) c.is_variable_asked.ensures

pub returns-in-And : goal.returns-in-And
returns-in-And c =
    ap (λ (k : Kind). judged.kind_asked c.args.judge.now k c.args.number (judged.all_here c.args.judge.now c.args.parts.now)) (sym c.in-And.is)

pub returns-in-Or : goal.returns-in-Or
returns-in-Or c =
    ap (λ (k : Kind). judged.kind_asked c.args.judge.now k c.args.number (judged.all_here c.args.judge.now c.args.parts.now)) (sym c.in-Or.is)

pub returns-in-Block : goal.returns-in-Block
returns-in-Block c =
    ap (λ (k : Kind). judged.kind_asked c.args.judge.now k c.args.number (judged.all_here c.args.judge.now c.args.parts.now)) (sym c.in-Block.is)

pub returns-in-Var : goal.returns-in-Var
returns-in-Var c =
    IfOk-weaker c.is_var_asked.result _
    (λ (a : Bool). a ≡ judged.kind_asked c.args.judge.now c.args.kind.now c.args.number (judged.all_here c.args.judge.now c.args.parts.now))
    (λ a e. e ∙ ap (λ (k : Kind). judged.kind_asked c.args.judge.now k c.args.number (judged.all_here c.args.judge.now c.args.parts.now))
    (sym c.in-Var.is)) c.is_var_asked.ensures

pub returns-in-When : goal.returns-in-When
returns-in-When c =
    ap (λ (k : Kind). judged.kind_asked c.args.judge.now k c.args.number (judged.all_here c.args.judge.now c.args.parts.now)) (sym c.in-When.is)

pub returns-in-Exit : goal.returns-in-Exit
returns-in-Exit c =
    ap (λ (k : Kind). judged.kind_asked c.args.judge.now k c.args.number (judged.all_here c.args.judge.now c.args.parts.now)) (sym c.in-Exit.is)

pub returns-in-Assert : goal.returns-in-Assert
returns-in-Assert c =
    ap (λ (k : Kind). judged.kind_asked c.args.judge.now k c.args.number (judged.all_here c.args.judge.now c.args.parts.now)) (sym c.in-Assert.is)
