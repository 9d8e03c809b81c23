-- places, and the lists of all of them
pub mod Tests
pub mod SamePlaces
pub mod Distances
pub mod FloorDivision
pub mod NumbersBelow
pub mod CountBelow
pub mod GreatestBelow
pub mod ListCounts
pub mod Coordinates
pub mod AllSections
pub mod OrderSteps
pub mod SortedRows
pub mod Listed
pub mod SectionOrder
pub mod ChunkOrder
pub mod BlockOrder
pub mod NumberOrder
pub mod OrderLaws
-- the steps of the grid
pub mod SmallSteps
pub mod AddTarget
pub mod AddEffect
pub mod AddKeeps
pub mod AddSections
pub mod Joins
pub mod HeldKeeps
pub mod Linked
pub mod CleanedGrid
pub mod CleanedKeeps
pub mod ReleaseKeeps
pub mod Consequences
pub mod PartClasses
pub mod RegionLaws
pub mod GridFields
-- what every run keeps
pub mod FunctionsChanged
pub mod SoundState
pub mod SoundSteps
pub mod WishLimits
pub mod SoundRuns
pub mod OwedNone
pub mod LongerRuns
pub mod SameEventRuns
-- a region that ticks
pub mod TickingKept
pub mod TickedBefore
pub mod RecordedMargins
-- where the entities are
pub mod EntityCounts
pub mod EntityTotals
pub mod PlaceOfEntity
-- all of it, at every point
pub mod CounterGrowth
pub mod NumberGrowth
pub mod NewCounters
pub mod WholeRuns
-- ownership and the detached tick
pub mod UnseenTicks
pub mod UnseenEnds
pub mod TickReads
pub mod TaskFates
pub mod OwnedRuns
-- the due rule
pub mod DueNames
pub mod DueAlong
pub mod RepeatPosted
pub mod DueRuleHolds
pub mod OutcomesAgain
-- the late begin
pub mod Resting
pub mod RestingHolds
pub mod RestingEnds
pub mod LateBegins
-- the laws, named as the functions of src/
pub mod RuleLaws
pub mod OwnershipLaws
pub mod DetachedLaws
pub mod DueLaws
pub mod PlaceLaws
pub mod HoldLaws
pub mod GrowthLaws
pub mod PhaseLaws
pub mod LateLaws
pub mod OutcomeLaws
pub mod MoreWorkers
pub mod HistoryLaws
