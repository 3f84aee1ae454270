-- How a view is kept.
use Rattle.lg_dict.specs.Changed.{changed, IsLaid}
use Rattle.lg_dict.specs.Dictionary.{Dictionary, NoWordIsLonger}
use Rattle.lg_dict.specs.declared.view.View.TheInside.{Inside}

abbrev pub viewed : Inside → Dictionary
viewed a = changed a.base.now a.changes

-- its changes are in order, and no word is longer
pub record IsViewed (a : Inside) : Type 0 where
  pub laid : IsLaid a.changes
  pub longest : NoWordIsLonger (viewed a) a.longest
