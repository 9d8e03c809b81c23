use Rattle.std.proofs.Common.{drop, arith, length-drop}
use Rattle.std.specs.Prelude.{nat_eq}
use Rattle.std.proofs.lemmas.List.Sums.{common_prefix_len-le}
use Rattle.fol_check.proofs.verdicts.common_length.Goals as goal

pub returns-else-place-b-clause-length : goal.returns-else-place-b-clause-length
returns-else-place-b-clause-length c =
    let so_far = c.bytes.invariant.so_far in
    let all = c.if-place-b.false in
    let left = length-drop c.bytes.place c.args.b.now in
    let few = (common_prefix_len-le nat_eq (drop c.bytes.place c.args.a.now) (drop c.bytes.place c.args.b.now)).1 in
    omega arith
