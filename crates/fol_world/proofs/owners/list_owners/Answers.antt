use Rattle.std.proofs.Common.{◌≡◌, ℕ, ◌<◌, ◌∙◌, ◌++◌, not, rules, ap, List}
use Rattle.std.specs.Prelude.{flat_map}
use Rattle.std.proofs.lemmas.List.Elements.{All-from_recursion}
use Rattle.std.proofs.lemmas.List.Sorted.{answers_always}
use Rattle.fol_model.specs.GridState.{is_dead}
use Rattle.fol_model.specs.Universe.{section_cmp}
use Rattle.fol_model.specs.declared.closings.OwnerRow.{OwnerRow}
use Rattle.fol_regions.specs.Table.{grid_state}
use Rattle.fol_world.specs.Closings.{live_in, owners_of}
use Rattle.fol_world.proofs.CalmStore.{dead_not}
use Rattle.fol_world.proofs.KeyedRows.{passing}
use Rattle.fol_world.proofs.OwnerRows.{owners_are}
use Rattle.fol_world.proofs.owners.list_owners.Goals as goal

pub add_regions-requires : goal.add_regions-requires
add_regions-requires c =
    let g = grid_state c.args.regions.now in
    let laws = c.keeps_rules.ensures in
    record {
      given = rw c.requires.live (All-from_recursion (λ id. (0 < id) × (id < g.next)) (live_in g)
          (passing (λ r. not (is_dead (g.state r))) (λ id. (0 < id) × (id < g.next)) (λ id h. let d = dead_not (g.state id) h in (laws.given id d, laws.below_next id d)) _));
    }

pub returns : goal.returns
unfolding section_cmp
returns c =
    let g = grid_state c.args.regions.now in
    let f : ℕ → List OwnerRow = owners_of g in
    let listed : c.add_regions.new.rows.items ≡ flat_map f (live_in g) = c.in_ok-add_regions.ensures ∙ ap (λ (xs : List OwnerRow). xs ++ flat_map f c.args.live.now) c.new-rows.ensures.items
    ∙ ap (λ (ids : List ℕ). flat_map f ids) c.requires.live in
    owners_are g c.keeps_rules.ensures c.sort_by_key.new.self.items (rw listed at c.sort_by_key.ensures.permutation)
    (c.in_ok-sort_by_key.ensures.sorted (λ (r : OwnerRow). (r.at.z, r.at.x)) (answers_always _ _ _ (λ f a r g h. search rules)))
