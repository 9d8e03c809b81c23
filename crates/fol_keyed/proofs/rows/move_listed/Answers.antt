use Rattle.std.proofs.Common.{◌≡◌, not, refl, ◌∙◌, ap, length, take, arith, rules}
use Rattle.std.specs.List.{filter}
use Rattle.std.proofs.lemmas.Fn.{filter_same}
use Rattle.std.proofs.lemmas.List.{take_at, length-append}
use Rattle.std.proofs.lemmas.List.Filters.{length-filter_both}
use Rattle.std.proofs.lemmas.List.Kept.{IsStrictlySortedBy-filter}
use Rattle.fol_keyed.specs.Members.{is_listed}
use Rattle.fol_keyed.proofs.Behind.{behind, none_passed, passed_on}
use Rattle.fol_keyed.proofs.rows.move_listed.Goals as goal

pub unreachable-requires : goal.unreachable-requires
unreachable-requires g c =
    let kept : c.retain.new.self.items ≡ filter (λ r. not (is_listed c.args.list.now.chunks.now (g.T.Row.place r))) c.args.rows.now.items =
    filter_same _ (λ r. not (is_listed c.args.list.now.chunks.now (g.T.Row.place r))) _ (λ x b f k. search rules) _ _ c.retain.ensures.filtered in
    let both = length-filter_both (λ r. is_listed c.args.list.now.chunks.now (g.T.Row.place r)) (λ r. not (is_listed c.args.list.now.chunks.now (g.T.Row.place r))) (λ r. refl) c.args.rows.now.items in
    let tail = behind c.args.into.now.items (filter (λ r. is_listed c.args.list.now.chunks.now (g.T.Row.place r)) c.args.rows.now.items) c.copy_listed.new.into.items c.len-kept.result (rw c.deref.ensures.value at c.copy_listed.ensures.items) (omega arith) in
    let full = rw (c.deref-2.ensures.value, tail) at c.in-Err.ensures.full in
    omega (arith, both, ap length kept, full, c.retain.ensures.capacity)

pub merge-requires-clause-others_order : goal.merge-requires-clause-others_order
merge-requires-clause-others_order g c =
    let joined = rw (c.deref-2.ensures.value) at c.in-Ok.ensures.items in
    let tail = passed_on (λ r. is_listed c.args.list.now.chunks.now (g.T.Row.place r)) c.args.rows.now.items c.args.into.now.items c.copy_listed.new.into.items c.retain.new.self.items c.extend_from_slice.new.self.items c.len-kept.result c.len-left.result
    (rw c.deref.ensures.value at c.copy_listed.ensures.items) (omega arith) joined (omega arith) in
    rw (c.deref-3.ensures.value, tail) (IsStrictlySortedBy-filter g.T.Row.order (λ r. is_listed c.args.list.now.chunks.now (g.T.Row.place r)) c.args.rows.now.items c.requires.order)

pub merge-requires-clause-apart : goal.merge-requires-clause-apart
merge-requires-clause-apart g c =
    let copied = rw c.deref.ensures.value at c.copy_listed.ensures.items in
    let joined = rw (c.deref-2.ensures.value) at c.in-Ok.ensures.items in
    let tail = passed_on (λ r. is_listed c.args.list.now.chunks.now (g.T.Row.place r)) c.args.rows.now.items c.args.into.now.items c.copy_listed.new.into.items c.retain.new.self.items c.extend_from_slice.new.self.items c.len-kept.result c.len-left.result
    copied (omega arith) joined (omega arith) in
    let front : take c.len-kept.result c.copy_listed.new.into.items ≡ c.args.into.now.items = rw copied (take_at c.args.into.now.items _ c.len-kept.result (omega arith)) in
    rw (c.deref_mut.ensures.value, front, c.deref-3.ensures.value, tail) c.requires.apart

pub returns-clause-left : goal.returns-clause-left
returns-clause-left g c =
    let kept : c.retain.new.self.items ≡ filter (λ r. not (is_listed c.args.list.now.chunks.now (g.T.Row.place r))) c.args.rows.now.items =
    filter_same _ (λ r. not (is_listed c.args.list.now.chunks.now (g.T.Row.place r))) _ (λ x b f k. search rules) _ _ c.retain.ensures.filtered in
    c.truncate.ensures.items ∙ rw c.in-Ok.ensures.items (take_at c.retain.new.self.items _ c.len-left.result (omega arith)) ∙ kept

pub returns-then-len-kept-clause-left : goal.returns-then-len-kept-clause-left
returns-then-len-kept-clause-left g c =
    let copied = rw c.deref.ensures.value at c.copy_listed.ensures.items in
    none_passed (λ r. is_listed c.args.list.now.chunks.now (g.T.Row.place r)) c.args.rows.now.items
    (omega (arith, length-append c.args.into.now.items (filter (λ r. is_listed c.args.list.now.chunks.now (g.T.Row.place r)) c.args.rows.now.items), ap length copied))
