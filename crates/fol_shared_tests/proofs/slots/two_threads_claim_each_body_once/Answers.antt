use Rattle.std.proofs.Common.{◌≡◌, sym, subst, IsSome, None, arith}
use Rattle.std.proofs.lemmas.List.Elements.{All-take, All-drop, All-same}
use Rattle.fol_slots.specs.Shown.{place_at}
use Rattle.fol_slots.specs.Table.{slots_id}
use Rattle.fol_slots.proofs.Callers.{kept_new, new_free}
use Rattle.fol_shared_tests.proofs.slots.two_threads_claim_each_body_once.Goals as goal

pub offer_all-requires-clause-kept : goal.offer_all-requires-clause-kept
offer_all-requires-clause-kept g = λ c i low.
    let made = c.in_ok-slots.ensures in
    subst (λ k. IsSome (place_at k i).kept) (sym made.keeper) (kept_new (slots_id c.in_ok-slots.field-0.slots) c.in_ok-numbered_bodies.field-0.items i (grind (arith, made.slots, low)))

pub claim_from_both-first-requires-clause-first : goal.claim_from_both-first-requires-clause-first
claim_from_both-first-requires-clause-first g = λ c.
    let z = slots_id c.in_ok-slots.field-0.slots in
    let free = new_free z _ _ c.in_ok-slots.ensures.seats in
    All-same (λ s. (s.slots ≡ z) × (s.slot ≡ None)) _ _ c.in_ok-others.ensures.items (All-take (λ s. (s.slots ≡ z) × (s.slot ≡ None)) 16 _ (All-same (λ s. (s.slots ≡ z) × (s.slot ≡ None)) _ _ c.into_vec-seats.ensures free))

pub claim_from_both-first-requires-clause-second : goal.claim_from_both-first-requires-clause-second
claim_from_both-first-requires-clause-second g = λ c.
    let z = slots_id c.in_ok-slots.field-0.slots in
    let free = new_free z _ _ c.in_ok-slots.ensures.seats in
    All-same (λ s. (s.slots ≡ z) × (s.slot ≡ None)) _ _ c.in_ok-others.ensures.tail (All-drop (λ s. (s.slots ≡ z) × (s.slot ≡ None)) 16 _ (All-same (λ s. (s.slots ≡ z) × (s.slot ≡ None)) _ _ c.into_vec-seats.ensures free))
