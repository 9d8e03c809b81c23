use Rattle.std.proofs.Common.{sym, ◌∙◌, ap, arith, ◌++◌, length}
use Rattle.fol_split.proofs.RunLists.{places-all}
use Rattle.fol_split.proofs.runs.Runs.append_class.Goals as goal

pub returns-then-took_all-clause-found : goal.returns-then-took_all-clause-found
returns-then-took_all-clause-found c =
    let took = c.took_all.ensures in
    let same = places-all c.args.self.now.runs c.args.self.now.class (took.value.0 c.if-took_all.true) c.requires.rising (λ k h. (took.marked.gone k h).0) ∙ c.requires.order in
    let ok = c.extend_from_slice.ensures.succeeds (omega (arith, c.requires.room, ap length same)) in
    (rw ok at c.extend_from_slice.ensures.items) ∙ ap (λ xs. c.args.found.now.items ++ xs) (sym same)
