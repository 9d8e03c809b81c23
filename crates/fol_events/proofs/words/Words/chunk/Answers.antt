use Rattle.std.proofs.Common.{arith}
use borrow.Author.Differences.{ints}
use Rattle.fol_events.proofs.Steps.{on_err}
use Rattle.fol_events.proofs.Places.{chunk_low, chunk_high, same32, no_chunk_x, no_chunk_z, is_chunk_of}
use Rattle.fol_events.proofs.words.Words.chunk.Goals as goal

pub returns-in_err-x-clause-none : goal.returns-in_err-x-clause-none
returns-in_err-x-clause-none c = on_err c.from_residual.result (no_chunk_x c.args.self.now c.in_err-x.ensures.none)

pub returns-in_err-z-clause-none : goal.returns-in_err-z-clause-none
returns-in_err-z-clause-none c = on_err c.from_residual-in_err-z.result (no_chunk_z c.args.self.now c.integer.new.self c.in_ok-x.x c.in_ok-x.ensures.found.2 c.in_err-z.ensures.none)

pub returns-clause-found : goal.returns-clause-found
returns-clause-found c =
    let x = c.in_ok-x.ensures.found in
    let z = c.in_ok-z.ensures.found in
    let wide = same32 chunk_low chunk_high c.in_ok-x.x (omega (arith, ints)) (omega (arith, ints)) x.0 x.1 in
    let deep = same32 chunk_low chunk_high c.in_ok-z.z (omega (arith, ints)) (omega (arith, ints)) z.0 z.1 in
    rw (wide, deep) (is_chunk_of c.in_ok-x.x c.in_ok-z.z (x.0, x.1) (z.0, z.1), cc (x.2, z.2))
