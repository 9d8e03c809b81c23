use Rattle.std.proofs.Common.{◌≡◌, ◌∙◌, ◌++◌, ap, arith, length, length-append, take}
use Rattle.std.proofs.Math.Seq.{take-append_seam}
use Rattle.std.proofs.lemmas.List.{length-set}
use Rattle.fol_lists.specs.Numbered.{list_at, total, with_list}
use Rattle.fol_region_tables.specs.Rows.{united}
use Rattle.fol_region_tables.proofs.Totals.{list_with, total_with, with_with}
use Rattle.fol_region_tables.proofs.rows.add.Goals as goal

pub merge-requires-clause-number : goal.merge-requires-clause-number
merge-requires-clause-number c =
    let all = list_at c.args.lists.now c.args.n ++ c.args.sections.now in
    omega (arith, c.requires.number, ap (λ v. length v.lists) c.extend.ensures, length-set c.args.lists.now.lists c.args.n all)

pub merge-requires-clause-row : goal.merge-requires-clause-row
merge-requires-clause-row c =
    let row = list_at c.args.lists.now c.args.n in
    let all = row ++ c.args.sections.now in
    let listed : list_at c.extend.new.self c.args.n ≡ all = ap (λ v. list_at v c.args.n) c.extend.ensures ∙ list_with c.args.lists.now c.args.n all c.requires.number in
    let front : take (length c.get-len.result.now) (list_at c.extend.new.self c.args.n) ≡ row = ap (λ k. take k (list_at c.extend.new.self c.args.n)) (ap length c.get-len.ensures) ∙ ap (take (length row)) listed ∙ take-append_seam row c.args.sections.now in
    rw front c.requires.row

pub merge-requires-clause-apart : goal.merge-requires-clause-apart
merge-requires-clause-apart c =
    let row = list_at c.args.lists.now c.args.n in
    let all = row ++ c.args.sections.now in
    let listed : list_at c.extend.new.self c.args.n ≡ all = ap (λ v. list_at v c.args.n) c.extend.ensures ∙ list_with c.args.lists.now c.args.n all c.requires.number in
    let front : take (length c.get-len.result.now) (list_at c.extend.new.self c.args.n) ≡ row = ap (λ k. take k (list_at c.extend.new.self c.args.n)) (ap length c.get-len.ensures) ∙ ap (take (length row)) listed ∙ take-append_seam row c.args.sections.now in
    rw front c.requires.apart

pub merge-requires-clause-long : goal.merge-requires-clause-long
merge-requires-clause-long c =
    let row = list_at c.args.lists.now c.args.n in
    let all = row ++ c.args.sections.now in
    let listed : list_at c.extend.new.self c.args.n ≡ all = ap (λ v. list_at v c.args.n) c.extend.ensures ∙ list_with c.args.lists.now c.args.n all c.requires.number in
    omega (arith, ap length listed, length-append row c.args.sections.now, ap length c.get-len.ensures)

pub returns-clause-added : goal.returns-clause-added
returns-clause-added c =
    let row = list_at c.args.lists.now c.args.n in
    let all = row ++ c.args.sections.now in
    let listed : list_at c.extend.new.self c.args.n ≡ all = ap (λ v. list_at v c.args.n) c.extend.ensures ∙ list_with c.args.lists.now c.args.n all c.requires.number in
    let front : take (length c.get-len.result.now) (list_at c.extend.new.self c.args.n) ≡ row = ap (λ k. take k (list_at c.extend.new.self c.args.n)) (ap length c.get-len.ensures) ∙ ap (take (length row)) listed ∙ take-append_seam row c.args.sections.now in
    c.merge.ensures.united ∙ ap (λ xs. with_list c.extend.new.self c.args.n (united xs c.args.sections.now)) front
    ∙ ap (λ v. with_list v c.args.n (united row c.args.sections.now)) c.extend.ensures ∙ with_with c.args.lists.now c.args.n all (united row c.args.sections.now)

pub returns-clause-total : goal.returns-clause-total
returns-clause-total c =
    let row = list_at c.args.lists.now c.args.n in
    let all = row ++ c.args.sections.now in
    omega (arith, c.merge.ensures.total, ap total c.extend.ensures, total_with c.args.lists.now c.args.n all c.requires.number, length-append row c.args.sections.now)
