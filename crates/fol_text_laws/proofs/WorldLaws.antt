-- The laws of world texts.
use Rattle.std.proofs.Common.{◌≡◌, ◌≤◌, true, ℕ, List, None, sym, subst, ◌∙◌}
use Rattle.std.specs.List.{flat_map, list_all}
use Rattle.std.specs.Ordering.{nat_cmp}
use Rattle.std.specs.List.Sorted.{IsPermutation}
use Rattle.std.proofs.lemmas.Cmp.{nat_cmp_total}
use Rattle.std.proofs.lemmas.List.Sorted.{IsPermutation-refl}
use Rattle.fol_model.specs.declared.openings.BlockAt.{BlockAt}
use Rattle.fol_model.specs.declared.openings.Opening.{Opening}
use Rattle.fol_model.specs.declared.entities.Entity.{Entity}
use Rattle.fol_model.specs.declared.words.TextKind.TheVariants as kinds
use Rattle.fol_model.specs.Limits.{is_entity}
use Rattle.fol_model.specs.GridNumbers.{IsGrid}
use Rattle.fol_model.specs.OpeningParts.{is_block_at}
use Rattle.fol_model.specs.Universe.{block_cmp}
use Rattle.fol_model.specs.TextCauses.{first_bad}
use Rattle.fol_model.specs.TextRows.{Spells}
use Rattle.fol_model.specs.Texts.{Item, IsWorldText, world_rows, blocks_in, entities_in}
use Rattle.fol_text_laws.specs.Laws.{WorldHasOpening, OneOpening, WorldGivesOpening, WorldPrinted}
use Rattle.fol_text_laws.specs.Printed.{world_text, items_of}
use Rattle.fol_text_laws.proofs.Valid.{valid_is_spelled, spelled_is_valid}
use Rattle.fol_text_laws.proofs.PrintedLines.{rows_spelled}
use Rattle.fol_text_laws.proofs.Sorting.{one_order, all_permuted}
use Rattle.fol_text_laws.proofs.Items.{block_total}
use Rattle.fol_text_laws.proofs.Worlds.{world_at, is_item, same_world, blocks_within, entities_within, all_pass, opening_follows, own_blocks, own_entities}

opening_at : (bytes : List ℕ) → first_bad kinds.World bytes ≡ None → (o : Opening) × IsWorldText bytes o
opening_at bytes e =
    let v = valid_is_spelled kinds.World bytes e in
    let w = world_at v.0 v.1.follow in (
      record { version = w.version; grid = w.grid; blocks = w.order.blocks; entities = w.order.entities },
      record {
        items = w.items;
        lines = subst (Spells kinds.World bytes) (sym w.are) v.1;
        blocks = w.order.from_blocks;
        entities = w.order.from_entities;
        blocks_in_order = w.order.blocks_in_order;
        entities_in_order = w.order.entities_in_order;
      },
    )

pub world_has_opening : WorldHasOpening
world_has_opening bytes = (λ e. opening_at bytes e, λ s. (spelled_is_valid kinds.World bytes (world_rows s.0.version s.0.grid s.1.items) s.1.lines).0)

pub one_opening : OneOpening
one_opening bytes o p s t =
    let e : world_rows o.version o.grid s.items ≡ world_rows p.version p.grid t.items =
    sym (spelled_is_valid kinds.World bytes (world_rows o.version o.grid s.items) s.lines).1 ∙ (spelled_is_valid kinds.World bytes (world_rows p.version p.grid t.items) t.lines).1 in
    let w = same_world o.version p.version o.grid p.grid s.items t.items e in
    let blocks : o.blocks ≡ p.blocks = one_order (λ (b : BlockAt). b.at) block_cmp block_total (flat_map blocks_in s.items) o.blocks p.blocks s.blocks
    (subst (λ (l : List Item). IsPermutation (flat_map blocks_in l) p.blocks) (sym w.items) t.blocks) s.blocks_in_order t.blocks_in_order in
    let entities : o.entities ≡ p.entities = one_order (λ (b : Entity). b.id) nat_cmp nat_cmp_total (flat_map entities_in s.items) o.entities p.entities s.entities
    (subst (λ (l : List Item). IsPermutation (flat_map entities_in l) p.entities) (sym w.items) t.entities) s.entities_in_order t.entities_in_order in
    let version = w.version in
    let grid = w.grid in
    λ i. record { version = version i; grid = grid i; blocks = blocks i; entities = entities i }

pub world_gives_opening : WorldGivesOpening
world_gives_opening bytes o s =
    let w = world_at (world_rows o.version o.grid s.items) s.lines.follow in
    let e = same_world w.version o.version w.grid o.grid w.items s.items w.are in
    let each = subst (λ (l : List Item). list_all is_item l ≡ true) e.items w.each in
    record {
      version_low = subst (λ (n : ℕ). 1 ≤ n) e.version w.low;
      version_high = subst (λ (n : ℕ). n ≤ 2) e.version w.high;
      grid = subst IsGrid e.grid w.within;
      each_block = all_pass is_block_at o.blocks (all_permuted (λ b. is_block_at b ≡ true) (flat_map blocks_in s.items) o.blocks s.blocks (blocks_within s.items each));
      each_entity = all_pass is_entity o.entities (all_permuted (λ b. is_entity b ≡ true) (flat_map entities_in s.items) o.entities s.entities (entities_within s.items each));
      block_order = s.blocks_in_order;
      entity_order = s.entities_in_order;
    }

pub world_printed : WorldPrinted
unfolding world_text
world_printed o is = record {
  items = items_of o;
  lines = rows_spelled kinds.World (world_rows o.version o.grid (items_of o)) (opening_follows o is);
  blocks = subst (λ (l : List BlockAt). IsPermutation l o.blocks) (sym (own_blocks o.blocks o.entities is.each_block)) (IsPermutation-refl o.blocks);
  entities = subst (λ (l : List Entity). IsPermutation l o.entities) (sym (own_entities o.blocks o.entities)) (IsPermutation-refl o.entities);
  blocks_in_order = is.block_order;
  entities_in_order = is.entity_order;
}
