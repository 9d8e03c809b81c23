use Rattle.std.proofs.Common.{sym, ◌∙◌, arith}
use Rattle.std.proofs.lemmas.Int.{to_z-of_z}
use borrow.Author.Differences.{ints}
use mir.Syntax.{w64}
use Rattle.fol_text_laws.proofs.Numerals.{reading_is}
use Rattle.fol_events.proofs.Places.{not_read, same32, same64}
use Rattle.fol_events.proofs.words.Words.integer.Goals as goal

pub overflow_cast-result : goal.overflow_cast-result
overflow_cast-result c =
    let read = rw (to_z-of_z w64 c.args.low c.ranges.low, to_z-of_z w64 c.args.high c.ranges.high) at c.in-Is.ensures in
    let r = reading_is c.args.low c.args.high c.in-Is.z c.in_ok-word.word.now (omega (arith, ints)) (omega (arith, ints)) (sym read) in
    rw (same64 c.args.low c.args.high c.in-Is.z c.requires.low c.requires.high r.0 r.1) (omega (arith, ints, r.0, r.1))

pub returns-in-Is-clause-found : goal.returns-in-Is-clause-found
returns-in-Is-clause-found c =
    let read = rw (to_z-of_z w64 c.args.low c.ranges.low, to_z-of_z w64 c.args.high c.ranges.high) at c.in-Is.ensures in
    let r = reading_is c.args.low c.args.high c.in-Is.z c.in_ok-word.word.now (omega (arith, ints)) (omega (arith, ints)) (sym read) in
    rw (same64 c.args.low c.args.high c.in-Is.z c.requires.low c.requires.high r.0 r.1) (rw (same32 c.args.low c.args.high c.in-Is.z c.requires.low c.requires.high r.0 r.1) (r.0, r.1, cc (c.in_ok-word.ensures.found, r.2)))

pub returns-in_default : goal.returns-in_default
returns-in_default c =
    let read = rw (to_z-of_z w64 c.args.low c.ranges.low, to_z-of_z w64 c.args.high c.ranges.high) at c.read_number.ensures in
    record {
      found = tt;
      none = λ z more h e. not_read c.args.low c.args.high c.in_ok-word.word.now (omega (arith, ints)) (omega (arith, ints)) (λ y k. c.in_default.not-Is y (read ∙ k)) z h.0 h.1 (cc (c.in_ok-word.ensures.found, e));
    }
