use Rattle.shape_meanings.proofs.Callees.{callee_right}
use Rattle.shape_meanings.proofs.Calling.{overload_right}
use Rattle.shape_meanings.proofs.Logical.{logicals_right}
use Rattle.shape_meanings.proofs.Mappings.{conversion_right, mapping_right}
use Rattle.shape_meanings.proofs.Operators.{infix_right, prefix_right}
use Rattle.shape_meanings.proofs.Rows.{row_right}
use Rattle.shape_meanings.proofs.laws.calls_are_right.Goals as goal

pub returns-clause-overloads : goal.returns-clause-overloads
returns-clause-overloads c = overload_right

pub returns-clause-prefixes : goal.returns-clause-prefixes
returns-clause-prefixes c = prefix_right

pub returns-clause-operators : goal.returns-clause-operators
returns-clause-operators c = infix_right

pub returns-clause-logicals : goal.returns-clause-logicals
returns-clause-logicals c = logicals_right

pub returns-clause-callees : goal.returns-clause-callees
returns-clause-callees c = callee_right

pub returns-clause-rows : goal.returns-clause-rows
returns-clause-rows c = row_right

pub returns-clause-conversions : goal.returns-clause-conversions
returns-clause-conversions c = conversion_right

pub returns-clause-mappings : goal.returns-clause-mappings
returns-clause-mappings c = mapping_right
