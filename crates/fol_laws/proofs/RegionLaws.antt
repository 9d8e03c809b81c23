-- The steps of the grid, over any state that keeps the rules.
use Rattle.fol_laws.specs.Steps.{EmptyHasRules, AddKeepsRules, DropKeepsRules, BeginKeepsRules, ReleaseKeepsRules, AddKeepsTickingSections, ReleaseKeepsTickingSections}
use Rattle.fol_laws.specs.Target.{AddTargetsTheLargest}
use Rattle.fol_laws.specs.Parts.{ReleaseSplitsByPaths}
use Rattle.fol_laws.specs.Consequences.{RulesGiveMargin, RulesKeepTickingApart, RulesLetNoneWaitAlone, RulesKeepLiveFew}
use Rattle.fol_laws.proofs.AddKeeps.{add_keeps}
use Rattle.fol_laws.proofs.AddSections.{add_ticking_sections, target_largest}
use Rattle.fol_laws.proofs.SmallSteps.{begin_keeps, drop_keeps, empty_keeps}
use Rattle.fol_laws.proofs.Consequences.{few_live, none_waits, ready_has_margin, ticking_apart}
use Rattle.fol_laws.proofs.PartClasses.{parts_are_classes}
use Rattle.fol_laws.proofs.ReleaseKeeps.{release_keeps, release_ticking_sections}

pub empty_has_rules : EmptyHasRules
empty_has_rules = empty_keeps

pub add_keeps_rules : AddKeepsRules
add_keeps_rules = add_keeps

pub drop_keeps_rules : DropKeepsRules
drop_keeps_rules = drop_keeps

pub begin_keeps_rules : BeginKeepsRules
begin_keeps_rules = begin_keeps

pub release_keeps_rules : ReleaseKeepsRules
release_keeps_rules = release_keeps

pub add_keeps_ticking_sections : AddKeepsTickingSections
add_keeps_ticking_sections = add_ticking_sections

pub release_keeps_ticking_sections : ReleaseKeepsTickingSections
release_keeps_ticking_sections = release_ticking_sections

pub add_targets_the_largest : AddTargetsTheLargest
add_targets_the_largest = target_largest

pub release_splits_by_paths : ReleaseSplitsByPaths
release_splits_by_paths = parts_are_classes

pub rules_give_margin : RulesGiveMargin
rules_give_margin = ready_has_margin

pub rules_keep_ticking_apart : RulesKeepTickingApart
rules_keep_ticking_apart = ticking_apart

pub rules_let_none_wait_alone : RulesLetNoneWaitAlone
rules_let_none_wait_alone = none_waits

pub rules_keep_live_few : RulesKeepLiveFew
rules_keep_live_few = few_live
