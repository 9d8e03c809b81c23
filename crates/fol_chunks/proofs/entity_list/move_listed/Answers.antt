use Rattle.std.proofs.Common.{◌≡◌, ◌++◌, not, refl, ap, arith, length, length-append}
use Rattle.std.specs.List.{filter}
use Rattle.std.specs.List.Sorted.{IsPermutation}
use Rattle.std.proofs.lemmas.List.Sorted.{length_permutation}
use Rattle.std.proofs.lemmas.List.Sums.{length-filter}
use Rattle.std.proofs.lemmas.List.Filters.{length-filter_both}
use Rattle.fol_model.specs.Geometry.{chunk_of}
use Rattle.fol_model.specs.declared.entities.Entity.{Entity}
use Rattle.fol_keyed.specs.Members.{is_listed}
use Rattle.fol_chunks.proofs.EntityLists.{order_filtered, entities_untied, joined_parts, left_rest, none_passes}
use Rattle.fol_chunks.proofs.entity_list.move_listed.Goals as goal

pub move_listed-requires-clause-apart : goal.move_listed-requires-clause-apart
move_listed-requires-clause-apart c =
    rw c.of.ensures
    (entities_untied c.args.into.now.items _ c.requires.into_order (order_filtered c.args.entities.now.items (λ e. is_listed c.args.chunks.now (chunk_of e.at)) c.requires.order)
    (none_passes (λ s. is_listed c.args.chunks.now (chunk_of s.at)) c.args.into.now.items c.args.entities.now.items c.requires.order c.requires.apart))

left : (c : goal.After-move_listed) → c.move_listed.new.rows.items ≡ filter (λ (e : Entity). not (is_listed c.args.chunks.now (chunk_of e.at))) c.args.entities.now.items
left c = rw c.of.ensures at c.move_listed.ensures.left

moved : (c : goal.After-move_listed) → IsPermutation (c.args.into.now.items ++ filter (λ (e : Entity). is_listed c.args.chunks.now (chunk_of e.at)) c.args.entities.now.items) c.move_listed.new.into.items
moved c = rw c.of.ensures at c.move_listed.ensures.moved

pub returns-clause-rest : goal.returns-clause-rest
returns-clause-rest c = left c

pub returns-clause-parts : goal.returns-clause-parts
returns-clause-parts c = moved c

pub returns-clause-left : goal.returns-clause-left
returns-clause-left c = left_rest (λ s. is_listed c.args.chunks.now (chunk_of s.at)) c.args.entities.now.items _ c.requires.order (left c)

pub returns-clause-moved : goal.returns-clause-moved
returns-clause-moved c = joined_parts (λ s. is_listed c.args.chunks.now (chunk_of s.at)) c.args.entities.now.items _ c.requires.order c.args.into.now.items c.requires.into_order c.requires.apart (moved c)

pub returns-clause-order : goal.returns-clause-order
returns-clause-order c = rw (left c) (order_filtered c.args.entities.now.items (λ e. not (is_listed c.args.chunks.now (chunk_of e.at))) c.requires.order)

pub returns-clause-len : goal.returns-clause-len
returns-clause-len c =
    let all = length-filter_both (λ (e : Entity). is_listed c.args.chunks.now (chunk_of e.at)) (λ e. not (is_listed c.args.chunks.now (chunk_of e.at))) (λ e. refl) c.args.entities.now.items in
    omega (arith, all, length-filter (λ (e : Entity). is_listed c.args.chunks.now (chunk_of e.at)) c.args.entities.now.items, ap length (left c))

pub returns-clause-into_len : goal.returns-clause-into_len
returns-clause-into_len c =
    let passing = filter (λ (e : Entity). is_listed c.args.chunks.now (chunk_of e.at)) c.args.entities.now.items in
    omega (arith, length_permutation _ _ (moved c), length-append c.args.into.now.items passing, length-filter (λ (e : Entity). is_listed c.args.chunks.now (chunk_of e.at)) c.args.entities.now.items)
