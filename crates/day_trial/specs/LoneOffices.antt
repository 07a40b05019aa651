-- What contracts see of an office that nobody else calls.
use Rattle.std.specs.Prelude.{◌≡◌, IfSome}
use Rattle.std.specs.Arc.{arc_value}
use Rattle.office_core.specs.Offices.{Opened}
use Rattle.day_trial.specs.declared.lone.LoneOffice.TheInside.{Inside}
use Rattle.day_trial.specs.Serving.{FollowsOffice}

abbrev pub office_in : {F O : Type 0} → Inside F O → Opened
office_in lone = lone.office.office

-- the office is about the base; and what is known of the trucks is of this base, and of a version that the office has or had
pub record IsAboutBase {F O : Type 0} (lone : Inside F O) : Type 0 where
  pub base : lone.office.office.base ≡ arc_value lone.base
  pub follows : IfSome lone.finder.follower (FollowsOffice lone.office.office)
