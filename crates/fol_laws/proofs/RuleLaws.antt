-- The rules of the grid at every point of every history.
use Rattle.fol_laws.specs.RuleLaws.{RulesHold, ReadyMarginHolds, RecordedMarginHolds, TickingStayApart, NoneWaitsAlone, LiveStayFew}
use Rattle.fol_model.specs.Run.{world}
use Rattle.fol_laws.proofs.Consequences.{few_live, none_waits, ready_has_margin, ticking_apart}
use Rattle.fol_laws.proofs.WholeRuns.{good_run}

pub rules_hold : RulesHold
rules_hold o es rest ok run = (good_run o es rest ok run).sound.rules

pub ready_margin_holds : ReadyMarginHolds
ready_margin_holds o es rest ok run = let s = (good_run o es rest ok run).sound in ready_has_margin (world o es).grid s.rules s.grid

pub recorded_margin_holds : RecordedMarginHolds
recorded_margin_holds o es rest ok run = (good_run o es rest ok run).recorded.margin

pub ticking_stay_apart : TickingStayApart
ticking_stay_apart o es rest ok run = ticking_apart (world o es).grid (good_run o es rest ok run).sound.rules

pub none_waits_alone : NoneWaitsAlone
none_waits_alone o es rest ok run = none_waits (world o es).grid (good_run o es rest ok run).sound.rules

pub live_stay_few : LiveStayFew
live_stay_few o es rest ok run = few_live (world o es).grid (good_run o es rest ok run).sound.rules
