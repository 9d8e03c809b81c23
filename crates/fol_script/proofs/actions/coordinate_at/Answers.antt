use Rattle.std.proofs.Common.{arith}
use Rattle.std.proofs.lemmas.Int.{to_z-of_z}
use borrow.Author.Differences.{ints}
use mir.Syntax.{w32, w64}
use mir.Val.{SFits}
use Rattle.fol_script.proofs.actions.coordinate_at.Goals as goal

pub overflow_cast-result : goal.overflow_cast-result
overflow_cast-result c =
    let fits : SFits w64 c.number_at.result = omega (arith, ints, c.number_at.ensures, c.requires.low, c.requires.high) in
    rw (to_z-of_z w64 c.number_at.result fits) (omega (arith, ints, c.number_at.ensures, c.requires.low, c.requires.high))

pub returns : goal.returns
returns c =
    let fits : SFits w64 c.number_at.result = omega (arith, ints, c.number_at.ensures, c.requires.low, c.requires.high) in
    let near : SFits w32 c.number_at.result = omega (arith, ints, c.number_at.ensures, c.requires.low, c.requires.high) in
    rw (to_z-of_z w64 c.number_at.result fits, to_z-of_z w32 c.number_at.result near) c.number_at.ensures
