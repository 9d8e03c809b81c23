use Rattle.std.proofs.Common.{◌≡◌, ◌-◌, sym, ap, arith, Some}
use Rattle.std.specs.Map.{lookup}
use Rattle.std.specs.Option.{is_some, unwrap_or}
use Rattle.fol_blocks.specs.Cells.{same_key}
use Rattle.fol_chunks.specs.Tallies.{number_of}
use Rattle.fol_chunks.proofs.Tallies.{lowered}
use Rattle.fol_chunks.proofs.tally.lower_there.Goals as goal

pub returns-clause-numbers : goal.returns-clause-numbers
returns-clause-numbers c =
    let there : lookup (same_key c.args.key) c.args.tally.now.entries ≡ Some c.in-Some.number.now = sym c.in-Some.ensures.value in
    let n : number_of c.args.tally.now.entries c.args.key ≡ c.in-Some.number.now = ap (λ o. unwrap_or o 0) there in
    let w = c.get_mut.follows.holds (c.in-Some.number.now - 1) in
    lowered c.args.tally.now.entries _ c.args.key (Some (c.in-Some.number.now - 1)) (w.3 (ap is_some there)).0 (omega (arith, n, c.requires))
