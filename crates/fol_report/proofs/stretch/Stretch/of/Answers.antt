use Rattle.std.proofs.Common.{◌+◌, [], ◌∷◌, arith, append_assoc, decimal, length-set}
use Rattle.std.proofs.lemmas.Grind.{take-set_at}
use Rattle.fol_report.proofs.Lengths.{ten_digits, twenty_digits}
use Rattle.fol_report.proofs.stretch.Stretch.of.Goals as goal

pub put_digits-space-requires : goal.put_digits-space-requires
put_digits-space-requires c = omega (arith, ten_digits c.args.worker (omega arith))

pub bounds-bytes-space : goal.bounds-bytes-space
bounds-bytes-space c = omega (arith, ten_digits c.args.worker (omega arith), c.put_digits-space.ensures.end)

pub put_digits-len-requires : goal.put_digits-len-requires
put_digits-len-requires c =
    let space = c.put_digits-space in
    omega (arith, length-set space.new.bytes space.result 32, ten_digits c.args.worker (omega arith), twenty_digits c.args.region (omega arith), space.ensures.end)

pub returns : goal.returns
returns c =
    let space = c.put_digits-space in
    let short = ten_digits c.args.worker (omega arith) in
    rw (c.put_digits-len.ensures.written, take-set_at space.new.bytes space.result (space.result + 1) 32 (omega arith) (omega (arith, short, space.ensures.end)), space.ensures.written) (append_assoc (decimal c.args.worker) (32 ∷ []) (decimal c.args.region))

pub invariant_of-result : goal.invariant_of-result
invariant_of-result c = record {
  within = omega (arith, ten_digits c.args.worker (omega arith), twenty_digits c.args.region (omega arith), c.put_digits-space.ensures.end, c.put_digits-len.ensures.end);
  room = omega (arith, length-set c.put_digits-space.new.bytes c.put_digits-space.result 32);
  text = returns c;
}
