use Rattle.std.proofs.Common.{◌≡◌, ◌∙◌, ap, refl, sym, subst}
use Rattle.std.proofs.lemmas.Map.Made.{lookup_key_passes}
use Rattle.indexmap.specs.IndexMap.{get}
use Rattle.fol_pages.specs.Pages.{page_at}
use Rattle.fol_pages.specs.Table.{LiesAt, Table}
use Rattle.fol_pages.proofs.TableSteps.{same_key, key_same, lies_there}
use Rattle.fol_pages.proofs.table.PageTable.look_up.Goals as goal

pub returns-in-Some : goal.returns-in-Some
unfolding page_at
returns-in-Some g c =
    let m = c.self.inside.map in
    let found = c.in-Some.field-0-1.now in
    let e : found ≡ c.args.key = sym (key_same c.args.key found (lookup_key_passes (same_key c.args.key) m.entries found (sym c.in-Some.ensures.key))) in
    let is = ap (λ k. get same_key m k) e ∙ sym c.in-Some.ensures.value in
    record {
      same = c.note.ensures;
      found = subst (λ (t : Table g.row.P.Denot). LiesAt t.entries c.args.key.0 c.args.key.1 c.in-Some.index) c.self.view_is (lies_there m c.args.key found c.in-Some.index c.in-Some.field-0-2.now e c.in-Some.ensures.entry is);
      absent = tt;
    }

pub returns-in-None : goal.returns-in-None
unfolding page_at
returns-in-None g c = record {
  same = refl;
  found = tt;
  absent = ap (λ (t : Table g.row.P.Denot). page_at t.entries c.args.key.0 c.args.key.1) (sym c.self.view_is) ∙ sym c.in-None.ensures.value;
}
