-- The rules of the grid, and what follows from them, at every point of every history.
use Rattle.fol_model.specs.Rules.{Rules}
use Rattle.fol_laws.specs.Consequences.{ReadyHasMargin, TickingApart, NoneWaits, FewLive}
use Rattle.fol_laws.specs.Ownership.{RecordedHasMargin}
use Rattle.fol_laws.specs.Points.{AtEveryPoint}

abbrev pub RulesHold : Type 0
RulesHold = AtEveryPoint (λ o w. Rules w.grid)

-- a Ready region has the margin of its loaded chunks
abbrev pub ReadyMarginHolds : Type 0
ReadyMarginHolds = AtEveryPoint (λ o w. ReadyHasMargin w.grid)

-- a Ticking region has the margin of its recorded chunks
abbrev pub RecordedMarginHolds : Type 0
RecordedMarginHolds = AtEveryPoint (λ o. RecordedHasMargin)

-- two Ticking regions have no sections within the merge radius of each other
abbrev pub TickingStayApart : Type 0
TickingStayApart = AtEveryPoint (λ o w. TickingApart w.grid)

-- where no region is Ticking, none is Transient
abbrev pub NoneWaitsAlone : Type 0
NoneWaitsAlone = AtEveryPoint (λ o w. NoneWaits w.grid)

-- at most 1,820 regions are Ready or Ticking
abbrev pub LiveStayFew : Type 0
LiveStayFew = AtEveryPoint (λ o w. FewLive w.grid)
