use Rattle.std.proofs.Common.{◌≡◌, ◌-◌, length}
use Rattle.fol_report.specs.Histories.{lines_left}
use Rattle.fol_report.proofs.history.Lines.make.Given as goal

abbrev pub invariant-loop-self : goal.invariant-loop-self
invariant-loop-self l = (lines_left l.self ≡ lines_left l.initial.self) × (l.self.given ≡ 0)

abbrev pub decreases-loop-self : goal.decreases-loop-self
decreases-loop-self l = 1024 - length l.self.page
