use Rattle.std.proofs.Common.{pos, arith}
use borrow.Author.Differences.{ints}
use Rattle.fol_events.proofs.Steps.{on_err}
use Rattle.fol_events.proofs.Places.{side_low, side_high, same32, no_block_x, no_block_y, no_block_z, is_block_of}
use Rattle.fol_events.proofs.words.Words.block.Goals as goal

pub returns-in_err-x-clause-none : goal.returns-in_err-x-clause-none
returns-in_err-x-clause-none c = on_err c.from_residual.result (no_block_x c.args.self.now c.in_err-x.ensures.none)

pub returns-in_err-y-clause-none : goal.returns-in_err-y-clause-none
returns-in_err-y-clause-none c = on_err c.from_residual-in_err-y.result (no_block_y c.args.self.now c.integer.new.self c.in_ok-x.x c.in_ok-x.ensures.found.2 c.in_err-y.ensures.none)

pub returns-in_err-z-clause-none : goal.returns-in_err-z-clause-none
returns-in_err-z-clause-none c = on_err c.from_residual-in_err-z.result (no_block_z c.args.self.now c.integer.new.self c.integer-2.new.self c.in_ok-x.x c.in_ok-y.y c.in_ok-x.ensures.found.2 c.in_ok-y.ensures.found.2 c.in_err-z.ensures.none)

pub returns-clause-found : goal.returns-clause-found
returns-clause-found c =
    let x = c.in_ok-x.ensures.found in
    let y = c.in_ok-y.ensures.found in
    let z = c.in_ok-z.ensures.found in
    let wide = same32 side_low side_high c.in_ok-x.x (omega (arith, ints)) (omega (arith, ints)) x.0 x.1 in
    let high = same32 (pos 0) (pos 255) c.in_ok-y.y (omega (arith, ints)) (omega (arith, ints)) y.0 y.1 in
    let deep = same32 side_low side_high c.in_ok-z.z (omega (arith, ints)) (omega (arith, ints)) z.0 z.1 in
    rw (wide, high, deep) (is_block_of c.in_ok-x.x c.in_ok-y.y c.in_ok-z.z (x.0, x.1) (y.0, y.1) (z.0, z.1), cc (x.2, y.2, z.2))
