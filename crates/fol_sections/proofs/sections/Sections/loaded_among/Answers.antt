use Rattle.std.proofs.Common.{sym, ◌∙◌, ap, arith}
use Rattle.std.specs.Prelude.{sum_by}
use Rattle.std.proofs.lemmas.List.Sums.{sum_by-le}
use Rattle.std.proofs.Math.Path.{fun_ext}
use Rattle.fol_sections.specs.Pages.{chunks_at}
use Rattle.fol_sections.proofs.Bounds.{chunks_few}
use Rattle.fol_sections.proofs.Tables.{table-loaded}
use Rattle.fol_sections.proofs.sections.Sections.loaded_among.Goals as goal

pub count_list-requires : goal.count_list-requires
count_list-requires c =
    omega (arith, c.requires, sum_by-le (chunks_at c.self.inside.pages.entries) 1024 c.args.list.now (λ k d l. chunks_few c.self.inside.grid c.self.inside.holds.entries c.self.inside.pages.entries c.self.inside.count _ c.self.invariant.0))

pub returns-clause-value : goal.returns-clause-value
returns-clause-value c = rw (← c.self.view_is) (c.count_list.ensures ∙ ap (λ f. sum_by f c.args.list.now) (fun_ext (λ s. c.self.invariant.0.chunks s
    ∙ sym (table-loaded c.self.inside.grid c.self.inside.holds.entries c.self.inside.pages.entries c.self.inside.filled.items c.self.inside.died.items c.self.inside.spare s).1)))

pub returns-clause-few : goal.returns-clause-few
returns-clause-few c =
    omega (arith, c.count_list.ensures, sum_by-le (chunks_at c.self.inside.pages.entries) 1024 c.args.list.now (λ k d l. chunks_few c.self.inside.grid c.self.inside.holds.entries c.self.inside.pages.entries c.self.inside.count _ c.self.invariant.0))
