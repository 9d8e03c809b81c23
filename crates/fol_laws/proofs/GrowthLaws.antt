-- How far the numbers of a world grow.
use Rattle.fol_laws.specs.Tasks.{EachTaskIsWithinLimits, EachTaskIsBelowNext}
use Rattle.fol_laws.specs.Growth.{CountersCountEnds, NewRegionsBeginAtZero, TaskNumbersGrow, RegionIdsGrow}
use Rattle.fol_laws.proofs.WholeRuns.{counters_most, good_run}
use Rattle.fol_laws.proofs.NumberGrowth.{ids_grow, jobs_grow}
use Rattle.fol_laws.proofs.NewCounters.{new_counters}

pub each_task_is_within_limits : EachTaskIsWithinLimits
each_task_is_within_limits o es rest ok run = (good_run o es rest ok run).sound.each

pub each_task_is_below_next : EachTaskIsBelowNext
each_task_is_below_next o es rest ok run = (good_run o es rest ok run).sound.numbers

pub counters_count_ends : CountersCountEnds
counters_count_ends = counters_most

pub task_numbers_grow : TaskNumbersGrow
task_numbers_grow = jobs_grow

pub region_ids_grow : RegionIdsGrow
region_ids_grow = ids_grow

pub new_regions_begin_at_zero : NewRegionsBeginAtZero
new_regions_begin_at_zero = new_counters
