use Rattle.std.proofs.Common.{◌+◌, ◌<◌, take, length, arith}
use Rattle.std.proofs.lemmas.Int.{to_z-of_z}
use mir.Syntax.{w64}
use Rattle.fol_script.proofs.Cuts.{first_word, rest_of}
use Rattle.fol_script.proofs.Digits.{one_number, space_behind, front_is_digits}
use Rattle.fol_script.proofs.numbers.next_number.Goals as goal

pub returns-then-digits-text-clause-number : goal.returns-then-digits-text-clause-number
returns-then-digits-text-clause-number c =
    let fl = c.ranges.low in
    let fh = c.ranges.high in (
      c.args.text.now,
      one_number c.args.text.now c.front_digits-digits.result.0 c.front_digits-digits.ensures.place c.if-digits-text.true,
      rw (to_z-of_z w64 c.args.low fl, to_z-of_z w64 c.args.high fh) at c.read_digits.ensures,
    )

pub read_digits-number-requires-clause-digits : goal.read_digits-number-requires-clause-digits
read_digits-number-requires-clause-digits c = front_is_digits c.args.text.now c.front_digits-digits.result.0 c.front_digits-digits.ensures.place

pub returns-then-text-digits-eq32-clause-number : goal.returns-then-text-digits-eq32-clause-number
returns-then-text-digits-eq32-clause-number c =
    let fl = c.ranges.low in
    let fh = c.ranges.high in
    let text = c.args.text.now in
    let n = c.front_digits-digits.result.0 in
    let digits = c.front_digits-digits.ensures in
    let inside : n < length text = omega (arith, digits.within, c.if-digits-text.false) in
    let space = space_behind text n digits.place digits.within c.if-text-digits-eq32.true in (
      take n text,
      rw (rest_of text (n + 1)) (first_word text n inside space),
      rw (to_z-of_z w64 c.args.low fl, to_z-of_z w64 c.args.high fh) at c.read_digits-number.ensures,
    )
