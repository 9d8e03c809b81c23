use Rattle.std.proofs.Common.{◌≤◌, ◌+◌, rules, arith}
use Rattle.fol_pages.proofs.PageRuns.{run_end}
use Rattle.fol_region_tables.proofs.pages.run_on.Goals as goal

pub slice_bounds-result-end : goal.slice_bounds-result-end
slice_bounds-result-end c =
    let e = run_end c.args.s c.args.len c.requires in
    let f : c.place_of-start.result + c.args.len ≤ 32 = omega (arith, e, c.place_of-start.ensures.value) in
    search rules
