use Rattle.std.proofs.Common.{◌≡◌, ◌++◌, flat_map}
use Rattle.std.specs.Prelude.{All, IsOk}
use Rattle.fol_report.specs.Shares.{text_of}
use Rattle.fol_report.proofs.shares.gather.Given as goal

abbrev pub invariant-loop-lines : goal.invariant-loop-lines
invariant-loop-lines l = record {
  text : flat_map (λ share. share.items) l.shares.items ≡ l.fn.head.items ++ flat_map text_of l.yielded;
  made : All IsOk l.yielded;
}
