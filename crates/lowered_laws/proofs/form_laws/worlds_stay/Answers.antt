use Rattle.lowered_laws.specs.Returning.{WorldsStay}
use Rattle.lowered_laws.proofs.QuietWorlds.{worlds_stay}
use Rattle.lowered_laws.proofs.form_laws.worlds_stay.Goals as goal

stay : WorldsStay
stay types s read each n active nu xs = worlds_stay types s read each n active nu xs

pub returns : goal.returns
returns c = record { stay = stay }
