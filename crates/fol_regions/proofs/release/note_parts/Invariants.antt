use Rattle.std.proofs.Common.{◌≡◌, ◌++◌}
use Rattle.std.specs.List.{range_with_len}
use Rattle.fol_regions.proofs.release.note_parts.Given as goal

abbrev pub invariant-loop-i : goal.invariant-loop-i
invariant-loop-i l = l.change ≡ record l.initial.change { created = l.initial.change.created ++ range_with_len l.first l.i; parts = l.initial.change.parts ++ range_with_len l.first l.i }
