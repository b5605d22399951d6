use Rattle.std.proofs.Common.{sym, ap}
use Rattle.lowered_typed.specs.Counts.{count_fits}
use Rattle.sail_core.specs.declared.tree.Kind.{Kind}
use Rattle.lowered_typed.proofs.counts.has_count.Goals as goal

pub returns-in-Constant : goal.returns-in-Constant
returns-in-Constant c = ap (λ (k : Kind). count_fits k c.args.count) (sym c.in-Constant.is)

pub returns-in-Local : goal.returns-in-Local
returns-in-Local c = ap (λ (k : Kind). count_fits k c.args.count) (sym c.in-Local.is)

pub returns-in-Variable : goal.returns-in-Variable
returns-in-Variable c = ap (λ (k : Kind). count_fits k c.args.count) (sym c.in-Variable.is)

pub returns-in-TopLevel : goal.returns-in-TopLevel
returns-in-TopLevel c = ap (λ (k : Kind). count_fits k c.args.count) (sym c.in-TopLevel.is)

pub returns-in-Register : goal.returns-in-Register
returns-in-Register c = ap (λ (k : Kind). count_fits k c.args.count) (sym c.in-Register.is)

pub returns-in-Call : goal.returns-in-Call
returns-in-Call c = ap (λ (k : Kind). count_fits k c.args.count) (sym c.in-Call.is)

pub returns-in-And : goal.returns-in-And
returns-in-And c = ap (λ (k : Kind). count_fits k c.args.count) (sym c.in-And.is)

pub returns-in-Or : goal.returns-in-Or
returns-in-Or c = ap (λ (k : Kind). count_fits k c.args.count) (sym c.in-Or.is)

pub returns-in-Cast : goal.returns-in-Cast
returns-in-Cast c = ap (λ (k : Kind). count_fits k c.args.count) (sym c.in-Cast.is)

pub returns-in-Tuple : goal.returns-in-Tuple
returns-in-Tuple c = ap (λ (k : Kind). count_fits k c.args.count) (sym c.in-Tuple.is)

pub returns-in-Vector : goal.returns-in-Vector
returns-in-Vector c = ap (λ (k : Kind). count_fits k c.args.count) (sym c.in-Vector.is)

pub returns-in-List : goal.returns-in-List
returns-in-List c = ap (λ (k : Kind). count_fits k c.args.count) (sym c.in-List.is)

pub returns-in-Cons : goal.returns-in-Cons
returns-in-Cons c = ap (λ (k : Kind). count_fits k c.args.count) (sym c.in-Cons.is)

pub returns-in-Struct : goal.returns-in-Struct
returns-in-Struct c = ap (λ (k : Kind). count_fits k c.args.count) (sym c.in-Struct.is)

pub returns-in-Part : goal.returns-in-Part
returns-in-Part c = ap (λ (k : Kind). count_fits k c.args.count) (sym c.in-Part.is)

pub returns-in-WithItem : goal.returns-in-WithItem
returns-in-WithItem c = ap (λ (k : Kind). count_fits k c.args.count) (sym c.in-WithItem.is)

pub returns-in-WithSlice : goal.returns-in-WithSlice
returns-in-WithSlice c = ap (λ (k : Kind). count_fits k c.args.count) (sym c.in-WithSlice.is)

pub returns-in-SizeOf : goal.returns-in-SizeOf
returns-in-SizeOf c = ap (λ (k : Kind). count_fits k c.args.count) (sym c.in-SizeOf.is)

pub returns-in-Constraint : goal.returns-in-Constraint
returns-in-Constraint c = ap (λ (k : Kind). count_fits k c.args.count) (sym c.in-Constraint.is)

pub returns-in-Block : goal.returns-in-Block
returns-in-Block c = ap (λ (k : Kind). count_fits k c.args.count) (sym c.in-Block.is)

pub returns-in-Let : goal.returns-in-Let
returns-in-Let c = ap (λ (k : Kind). count_fits k c.args.count) (sym c.in-Let.is)

pub returns-in-Var : goal.returns-in-Var
returns-in-Var c = ap (λ (k : Kind). count_fits k c.args.count) (sym c.in-Var.is)

pub returns-in-Match : goal.returns-in-Match
returns-in-Match c = ap (λ (k : Kind). count_fits k c.args.count) (sym c.in-Match.is)

pub returns-in-Try : goal.returns-in-Try
returns-in-Try c = ap (λ (k : Kind). count_fits k c.args.count) (sym c.in-Try.is)

pub returns-in-Clauses : goal.returns-in-Clauses
returns-in-Clauses c = ap (λ (k : Kind). count_fits k c.args.count) (sym c.in-Clauses.is)

pub returns-in-When : goal.returns-in-When
returns-in-When c = ap (λ (k : Kind). count_fits k c.args.count) (sym c.in-When.is)

pub returns-in-Foreach : goal.returns-in-Foreach
returns-in-Foreach c = ap (λ (k : Kind). count_fits k c.args.count) (sym c.in-Foreach.is)

pub returns-in-While : goal.returns-in-While
returns-in-While c = ap (λ (k : Kind). count_fits k c.args.count) (sym c.in-While.is)

pub returns-in-Repeat : goal.returns-in-Repeat
returns-in-Repeat c = ap (λ (k : Kind). count_fits k c.args.count) (sym c.in-Repeat.is)

pub returns-in-Return : goal.returns-in-Return
returns-in-Return c = ap (λ (k : Kind). count_fits k c.args.count) (sym c.in-Return.is)

pub returns-in-Throw : goal.returns-in-Throw
returns-in-Throw c = ap (λ (k : Kind). count_fits k c.args.count) (sym c.in-Throw.is)

pub returns-in-Exit : goal.returns-in-Exit
returns-in-Exit c = ap (λ (k : Kind). count_fits k c.args.count) (sym c.in-Exit.is)

pub returns-in-Assert : goal.returns-in-Assert
returns-in-Assert c = ap (λ (k : Kind). count_fits k c.args.count) (sym c.in-Assert.is)

pub returns-in-Optional : goal.returns-in-Optional
returns-in-Optional c = ap (λ (k : Kind). count_fits k c.args.count) (sym c.in-Optional.is)
