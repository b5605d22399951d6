use Rattle.shape_meanings.proofs.Matching.{literal_right}
use Rattle.shape_meanings.proofs.Tested.{negative_right, unit_pattern_right, member_right, name_binds_right}
use Rattle.shape_meanings.proofs.Patterns.{as_right, typed_right}
use Rattle.shape_meanings.proofs.Opening.{tuple_pattern_right}
use Rattle.shape_meanings.proofs.Items.{vector_pattern_right, list_pattern_right, cons_pattern_right}
use Rattle.shape_meanings.proofs.Heads.{constructor_right}
use Rattle.shape_meanings.proofs.Crossing.{direction_right, mapping_pattern_right}
use Rattle.shape_meanings.proofs.Concats.{concat_right}
use Rattle.shape_meanings.proofs.PatternsSound.{patterns_sound}
use Rattle.shape_meanings.proofs.PatternNames.{pattern_is}
use Rattle.shape_meanings.proofs.laws.patterns_are_right.Goals as goal

pub returns-clause-literals : goal.returns-clause-literals
returns-clause-literals c = literal_right

pub returns-clause-negatives : goal.returns-clause-negatives
returns-clause-negatives c = negative_right

pub returns-clause-units : goal.returns-clause-units
returns-clause-units c = unit_pattern_right

pub returns-clause-members : goal.returns-clause-members
returns-clause-members c = member_right

pub returns-clause-names : goal.returns-clause-names
returns-clause-names c = name_binds_right

pub returns-clause-others : goal.returns-clause-others
returns-clause-others c = as_right

pub returns-clause-types : goal.returns-clause-types
returns-clause-types c = typed_right

pub returns-clause-tuples : goal.returns-clause-tuples
returns-clause-tuples c = tuple_pattern_right

pub returns-clause-vectors : goal.returns-clause-vectors
returns-clause-vectors c = vector_pattern_right

pub returns-clause-lists : goal.returns-clause-lists
returns-clause-lists c = list_pattern_right

pub returns-clause-conses : goal.returns-clause-conses
returns-clause-conses c = cons_pattern_right

pub returns-clause-constructors : goal.returns-clause-constructors
returns-clause-constructors c = constructor_right

pub returns-clause-directions : goal.returns-clause-directions
returns-clause-directions c = direction_right

pub returns-clause-mappings : goal.returns-clause-mappings
returns-clause-mappings c = mapping_pattern_right

pub returns-clause-words : goal.returns-clause-words
returns-clause-words c = concat_right

pub returns-clause-all : goal.returns-clause-all
returns-clause-all c = patterns_sound

pub returns-clause-once : goal.returns-clause-once
returns-clause-once c = pattern_is
