use Rattle.std.proofs.Common.{sym, ◌∙◌, ap}
use Rattle.std.specs.Prelude.{pos, ◌+ℤ◌}
use Rattle.fol_split.specs.declared.runs.Run.{Run}
use Rattle.fol_split.specs.Runs.{is_met, run_at}
use Rattle.fol_split.proofs.Near.{rows-none, rows-more}
use Rattle.fol_split.proofs.Taking.{takes_none, takes_both, takes_like}
use Rattle.fol_split.proofs.runs.Runs.take_rows.Goals as goal

pub loop-row-init : goal.loop-row-init
loop-row-init c = takes_none c.args.self.now _ (λ k _. rows-none c.args.window.z c.args.window.from c.args.window.to (run_at c.args.self.now.runs k))

pub loop-row-preserved : goal.loop-row-preserved
loop-row-preserved c =
    let window = c.args.window in
    let inv = c.loop-row.invariant in
    let step = takes_like _ _ _ (λ k. is_met (window.z +ℤ pos c.loop-row.row) window.from window.to (run_at c.args.self.now.runs k)) c.take_row.ensures
    (λ k _. ap (λ (w : Run). is_met w.z w.from w.to (run_at c.args.self.now.runs k)) (sym c.behind.ensures)
    ∙ ap (λ rs. is_met c.behind.result.z c.behind.result.from c.behind.result.to (run_at rs k)) (sym inv.runs)) in
    takes_both _ _ _ _ _ _ inv step (λ k. rows-more window.z c.loop-row.row window.from window.to (run_at c.args.self.now.runs k))
