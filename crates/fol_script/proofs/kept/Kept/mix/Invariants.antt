use Rattle.std.proofs.Common.{◌≡◌, length}
use Rattle.std.specs.List.Sorted.{IsStrictlySortedBy}
use Rattle.std.specs.Map.{keys_of}
use Rattle.fol_script.specs.Kept.{entries_in}
use Rattle.fol_script.proofs.kept.Kept.mix.Given as goal

abbrev pub invariant-loop-key : goal.invariant-loop-key
invariant-loop-key g l = IsStrictlySortedBy g.K.Ord.cmp (keys_of (entries_in l.initial.self)) → entries_in l.self ≡ entries_in l.initial.self

abbrev pub decreases-loop-key : goal.decreases-loop-key
decreases-loop-key g l = length l.self.rising.items
