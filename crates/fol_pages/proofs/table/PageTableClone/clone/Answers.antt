use Rattle.std.proofs.Common.{◌≡◌, subst}
use Rattle.std.specs.List.{AllZip}
use Rattle.fol_pages.specs.Table.{Table}
use Rattle.fol_pages.proofs.TableSteps.{zip_weaker}
use Rattle.fol_pages.proofs.table.PageTableClone.clone.Goals as goal

pub returns : goal.returns
returns g c = record {
  cases = subst (λ (t : Table g.row.P.Denot). AllZip (λ p q. (q.0 ≡ p.0) × g.P.Clone.is_clone p.1 q.1) t.entries c.in_ok-map.map.entries) c.self.view_is
      (zip_weaker _ _ (λ x y r. ((λ i. (r.0.0 i, r.0.1 i)), r.1)) c.self.inside.map.entries c.in_ok-map.map.entries c.in_ok-map.ensures.cases);
}
