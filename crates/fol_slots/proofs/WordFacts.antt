-- What the words are while the seats know what they show.
use Rattle.std.proofs.Common.{◌≡◌, ℕ, ◌+◌, ◌<◌, List, length, sym, refl, ap, ◌∙◌, subst, arith, Option, Some, None, IsSome}
use Rattle.atomic_table.specs.Seated.{TableId}
use Rattle.fol_slots.specs.declared.answer.Keep.{Keep}
use Rattle.fol_slots.specs.declared.answer.Keep.TheVariants as answers
use Rattle.fol_slots.specs.declared.view.Place.{Place}
use Rattle.fol_slots.specs.declared.word.Word.TheVariants.{Kept, Ticking}
use Rattle.fol_slots.specs.Hands.{place}
use Rattle.fol_slots.specs.Hands as hands
use Rattle.fol_slots.specs.Shown.{Worker, Keeper, place_at, held_slot, new_keeper, knowing, keeping, finding}
use Rattle.fol_slots.specs.Keeping.{Keeps, WordAfter}
use Rattle.fol_slots.specs.Moments.{WordIs, WordIsOf}
use Rattle.fol_slots.proofs.Callers.{as_many, place_here, new_as_many, kept_new}
use Rattle.fol_slots.proofs.Changes.{not_true, is_some, some_and}

module _ {T : Type 0} (fit : T → Type 0) where
  word_kept : (k : Keeper T) (i : ℕ) → i < k.slots.slots → (i < length k.places → IsSome (place_at k i).kept) → WordIs fit k i Kept
  word_kept k i low some = record {
    word = λ s m.
        let r = m.ruled in
        let long = r.long in
        let is : k.places ≡ r.ps = sym m.places ∙ ((r.each_seat m.seat m.knows m.there).keeper_is m.keeper).1 in
        (r.each_slot i low).keeps (subst (λ (ps : List (Place T)). IsSome (hands.place_at ps i).kept) is (some (subst (λ (ps : List (Place T)). i < length ps) (sym is) (omega arith))));
  }

  word_found : (k : Keeper T) (i w : ℕ) → i < k.slots.slots → (i < length k.places → (place_at k i).found ≡ Some w) → WordIs fit k i (Ticking w)
  word_found k i w low found = record {
    word = λ s m.
        let r = m.ruled in
        let long = r.long in
        let is : k.places ≡ r.ps = sym m.places ∙ ((r.each_seat m.seat m.knows m.there).keeper_is m.keeper).1 in
        ((r.each_slot i low).found w (subst (λ (ps : List (Place T)). (hands.place_at ps i).found ≡ Some w) is (found (subst (λ (ps : List (Place T)). i < length ps) (sym is) (omega arith))))).0;
  }

  pub slot_held : (w : Worker T) → IsSome w.slot → w.slot ≡ Some (held_slot w)
  slot_held w some = go w.slot some
    where
      go : (o : Option ℕ) → IsSome o → o ≡ Some (Rattle.std.specs.Option.unwrap_or o 0)
      go None e = absurd (not_true e)
      go (Some x) e = refl

  pub word_held : (k : Keeper T) (w : Worker T) (i : ℕ) → w.slot ≡ Some i → WordIsOf fit k w i (Ticking w.number)
  word_held k w i slot = record {
    word = λ s m u.
        let me = m.ruled.each_seat u.seat u.knows u.there in
        let mine = me.worker u.worker in
        let has = me.claims u.worker i (u.slot ∙ slot) in
        ((m.ruled.each_slot i has.0).held u.knows.number (mine.1 ∙ (u.slot ∙ slot))).0 ∙ ap (λ (a : ℕ). a + 1) u.number;
  }

  at_once : (k : Keeper T) (i : ℕ) (p : Place T) → i < length (knowing k i p).places → place_at (knowing k i p) i ≡ p
  at_once k i p low = let long = as_many k i p in place_here k i p (omega arith)

  pub word_keeping : (k l : Keeper T) (i : ℕ) (body : Option T) → i < k.slots.slots → IsSome body → l ≡ keeping k i body → WordIs fit l i Kept
  word_keeping k l i body low some is = subst (λ (x : Keeper T). WordIs fit x i Kept) (sym is)
      (word_kept (keeping k i body) i low (λ inside. subst (λ (p : Place T). IsSome p.kept) (sym (at_once k i (place body (place_at k i).offered None) inside)) some))

  pub word_finding : (k l : Keeper T) (i w : ℕ) → i < k.slots.slots → l ≡ finding k i w → WordIs fit l i (Ticking w)
  word_finding k l i w low is = subst (λ (x : Keeper T). WordIs fit x i (Ticking w)) (sym is)
      (word_found (finding k i w) i w low (λ inside. ap (λ (p : Place T). p.found) (at_once k i (place (place_at k i).kept (place_at k i).offered (Some w)) inside)))

  pub word_new : (k : Keeper T) (z : TableId) (bodies : List T) (workers i : ℕ) → k ≡ new_keeper z bodies workers → i < z.slots → WordIs fit k i Kept
  word_new k z bodies workers i is low = subst (λ (x : Keeper T). WordIs fit x i Kept) (sym is) (word_kept (new_keeper z bodies workers) i low (λ inside. let long = new_as_many z bodies in kept_new z bodies i (omega arith)))

  pub word_after : (k l : Keeper T) (i : ℕ) (answer : Keep) → i < k.slots.slots → Keeps fit k i answer l → WordAfter fit answer i l
  word_after k l i answers.Kept low h = let body = some_and (place_at k i).offered fit h.0 in word_keeping k l i (place_at k i).offered low (is_some (place_at k i).offered body.0 body.1) h.1
  word_after k l i (answers.Busy w) low h = word_finding k l i w low h.4
