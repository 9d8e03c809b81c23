use Rattle.std.proofs.Common.{◌/◌, ◌%◌, ◌+◌, [], ◌∷◌, set, take, arith, append_assoc, length-set}
use Rattle.std.proofs.lemmas.Grind.{take-set_at}
use Rattle.itoa.proofs.Decimal.{PAIRS_at}
use Rattle.fol_report.proofs.digits.put_pair.Goals as goal

pub returns : goal.returns
returns c =
    let p = PAIRS_at c.args.pair c.requires.0 in
    let at = c.args.at in
    let bytes = c.args.bytes.now in
    let tens = 48 + c.args.pair / 10 in
    rw (p.0, p.1, take-set_at (set bytes at tens) (at + 1) (at + 2) _ (omega arith) (omega (arith, length-set bytes at tens)), take-set_at bytes at (at + 1) tens (omega arith) (omega arith)) (append_assoc (take at bytes) (tens ∷ []) ((48 + c.args.pair % 10) ∷ []))
