use Rattle.std.proofs.Common.{◌≡◌, ◌-◌, length}
use Rattle.std.specs.List.{range_with_len}
use Rattle.model_state.specs.Folds.{Keeps, resets}
use Rattle.harts.proofs.Resets.{AreAlike}
use Rattle.harts.proofs.starting.reset_all.Given as goal

abbrev pub invariant-loop-hart : goal.invariant-loop-hart
invariant-loop-hart g l =
    let model = g.P.Stepper.meaning l.fn.stepper in
    let count = length l.fn.state.harts in
    record {
      same : g.P.Stepper.meaning l.stepper ≡ model;
      keeps : Keeps l.fn.state l.state;
      alike : AreAlike (resets model l.entry (range_with_len l.hart (count - l.hart)) l.state) (resets model l.entry (range_with_len 0 count) l.fn.state);
    }
