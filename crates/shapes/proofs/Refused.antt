-- A first failure of a text is its refusal.
use Rattle.std.proofs.Common.{◌≡◌, List, Some}
use Rattle.sail_syntax.specs.declared.definitions.Def.{Def}
use Rattle.shape_rules.specs.declared.error.ShapeError.{ShapeError}
use Rattle.shape_rules.specs.declared.error.ShapeError.TheVariants as error
use Rattle.shapes.specs.Failures.{refusal}
use Rattle.shapes.specs.Tabled.{tabled_of, IsRefused}

pub refused_for : (text : List Def) (e : ShapeError) → refusal (tabled_of text) text ≡ Some e → IsRefused text e
refused_for text (error.Overlap place first second) h = h
refused_for text (error.IllShaped place mismatch) h = h
refused_for text (error.Arity place wanted found) h = h
refused_for text (error.NoMember place name) h = h
refused_for text (error.NoNumber place name) h = h
refused_for text (error.WidthUnknown place) h = h
refused_for text error.OutOfMemory h = tt
