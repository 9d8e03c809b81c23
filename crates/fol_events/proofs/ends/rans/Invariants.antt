use Rattle.std.proofs.Common.{◌≡◌, ◌++◌, length, flat_map}
use Rattle.std.specs.List.{AllByRecursion}
use Rattle.fol_model.specs.ReportWords.{ran_words}
use Rattle.fol_events.specs.InRange.{RanInRange}
use Rattle.fol_events.proofs.ends.rans.Given as goal

abbrev pub invariant-loop-turn : goal.invariant-loop-turn
invariant-loop-turn l = record { count : length l.items ≡ l._turn; in_range : AllByRecursion RanInRange l.items; so_far : l.initial.words ≡ flat_map ran_words l.items ++ l.words }
