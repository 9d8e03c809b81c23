use Rattle.std.proofs.Common.{◌+◌, ◌++◌, sym, ◌∙◌, ap, arith}
use Rattle.fol_model.specs.declared.places.SectionPos.{SectionPos}
use Rattle.fol_sections.specs.Rows.{row_of, section_at}
use Rattle.fol_sections.specs.SquareRuns.{rest}
use Rattle.fol_sections.proofs.SquareWalks.{come_none, come_run, to_come}
use Rattle.fol_sections.proofs.walks.SquareRuns.next_run.Goals as goal

pub returns-then-self-2-clause-end : goal.returns-then-self-2-clause-end
unfolding rest
returns-then-self-2-clause-end c = let w = c.args.self.now in come_none w.first.x w.first.z w.side w.row w.column c.if-self.true c.if-self-2.true

pub returns-clause-run : goal.returns-clause-run
unfolding rest
returns-clause-run c =
    let w = c.leave_row.new.self in
    let len = c.run_len-len.result in
    sym c.leave_row.ensures.rest ∙ come_run w.first.x w.first.z w.side w.row w.column len (omega (arith, c.run_len-len.ensures.few, c.leave_row.ensures.within))
    ∙ ap (λ (q : SectionPos). row_of section_at q.x q.z len ++ to_come w.first.x w.first.z w.side w.row (w.column + len)) (sym c.beside-s.ensures)
