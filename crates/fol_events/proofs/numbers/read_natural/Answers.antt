use Rattle.std.proofs.Common.{◌≡◌, true, false, sym, arith}
use Rattle.fol_script.proofs.Digits.{natural_digits}
use Rattle.fol_events.proofs.Naturals.{value_spelt, value_again}
use Rattle.fol_events.proofs.numbers.read_natural.Goals as goal

pub returns-then-not-is_natural : goal.returns-then-not-is_natural
returns-then-not-is_natural c n h e =
    let v = value_again c.args.word.now n (omega arith) e in
    let test = c.if-not-is_natural.ensures in
    absurd (let t : false ≡ true = cc (test, v.0) in cc)

pub value_of-requires : goal.value_of-requires
value_of-requires c = natural_digits c.args.word.now (sym c.if-not-is_natural.ensures)

pub returns-in_err-value : goal.returns-in_err-value
returns-in_err-value c = rw c.from_residual.ensures (λ n h e. let v = value_again c.args.word.now n (omega arith) e in let w = v.1 in c.in_err-value.ensures (omega arith))

pub returns-then-value-most : goal.returns-then-value-most
returns-then-value-most c =
    let v = c.in_ok-value.ensures in
    let small = v.0 in
    let same = v.1 in
    (c.if-value-most.true, value_spelt c.args.word.now c.in_ok-value.value (sym c.if-not-is_natural.ensures) same (omega arith))

pub returns-else-value-most : goal.returns-else-value-most
returns-else-value-most c n h e =
    let v = value_again c.args.word.now n (omega arith) e in
    let same = v.1 in
    let value = c.in_ok-value.ensures.1 in
    absurd (omega arith)
