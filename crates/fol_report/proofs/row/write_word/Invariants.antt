use Rattle.std.proofs.Common.{◌≡◌, ◌+◌, ◌++◌, take}
use Rattle.fol_report.proofs.row.write_word.Given as goal

abbrev pub invariant-loop-byte : goal.invariant-loop-byte
invariant-loop-byte l = (l.end ≡ l.at + l.byte-index) × (take l.end l.bytes ≡ take l.at l.initial.bytes ++ take l.byte-index l.word)
