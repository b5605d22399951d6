-- What the conditions of a call suffice for, where its callee's variables have places.
use Rattle.sail_core.specs.declared.model.Function.{Function}
use Rattle.call_fits.specs.Calls.{EachHasPlace}
use Rattle.soundness_forms.specs.Calls.{CallsFit}

abbrev pub StandingCallsFit : Type 0
StandingCallsFit = (fn : Function) → EachHasPlace 0 fn.variables fn.parameters → CallsFit fn
