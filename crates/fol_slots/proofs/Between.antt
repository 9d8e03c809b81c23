-- What is known between the steps of `meet` and of `take_in`.
use Rattle.std.proofs.Common.{◌≡◌, ℕ, ◌<◌, List, [], ◌∷◌, sym, ap, ◌∙◌, subst, Option, Some, None}
use Rattle.std.specs.Option.{unwrap_or}
use Rattle.atomic_table.specs.Table.{Me, rest}
use Rattle.atomic_table.specs.Seated.{TableId}
use Rattle.fol_slots.specs.declared.view.View.{View}
use Rattle.fol_slots.specs.Hands.{place}
use Rattle.fol_slots.specs.Hands as hands
use Rattle.fol_slots.specs.Steps.{out_at, taking_in, both_of, parted_left, parted_right}
use Rattle.fol_slots.specs.Shown.{Worker, Keeper, worker, keeper, IsWorker, IsKeeper, held_slot, freed, keeping}
use Rattle.fol_slots.proofs.MeetSteps.{Joined}

-- the view of a seat, and the slots that it has out
abbrev Mine : Type 0 → Type 0
Mine T = Me (Option T) (View T)

module _ {T : Type 0} where
  -- Of a worker's seat that holds slot i: the table has the slot, and callers see it.
  pub record Held (t : TableId) (s : Worker T) (i : ℕ) : Type 0 where
    pub word : i < t.words
    pub slot : i < t.slots
    pub shown : held_slot s ≡ i

  pub held_at : (z t : TableId) (number : ℕ) (slot : Option ℕ) (m : Mine T) (s : Worker T) (i : ℕ) → IsWorker z number slot m → worker z m.0 ≡ s → s.slots ≡ t → slot ≡ Some i → t.words ≡ t.slots → Held t s i
  held_at z t number slot m s i works is at some same =
      let low : i < t.slots = subst (λ (y : TableId). i < y.slots) (ap (λ (x : Worker T). x.slots) is ∙ at) (works.inside i some) in record {
        word = subst (λ (n : ℕ). i < n) (sym same) low;
        slot = low;
        shown = ap (λ (o : Option ℕ). unwrap_or o 0) (sym (ap (λ (x : Worker T). x.slot) is) ∙ (works.slot_is ∙ some));
      }

  pub joined : (z : TableId) (number : ℕ) (slot : Option ℕ) (i : ℕ) (k w m : Mine T) → IsKeeper k → IsWorker z number slot w → slot ≡ Some i → m ≡ (both_of k.0 w.0, k.1) → Joined i m.0 × (m.0.out ≡ None)
  joined z number slot i k w m kp wk some is = (
    record { keeper = ap (λ (x : Mine T). x.0.keeper) is ∙ kp.keeper; worker = ap (λ (x : Mine T). x.0.worker) is ∙ wk.worker; slot = ap (λ (x : Mine T). x.0.slot) is ∙ (wk.slot_is ∙ some) },
    ap (λ (x : Mine T). x.0.out) is ∙ kp.out,
  )

  -- The view before the store of `take_in`, and the one after it.
  abbrev pub at_store : View T → View T → ℕ → View T
  at_store k w i = out_at (both_of k w) (Some i)

  abbrev pub at_end : View T → View T → ℕ → T → View T
  at_end k w i x = taking_in (at_store k w i) i (place (Some x) (hands.place_at k.places i).offered None)

  pub is_at_store : (i : ℕ) (k w a b c : Mine T) (x : T) → k.1 ≡ [] → a ≡ (both_of k.0 w.0, k.1) → b ≡ (out_at a.0 (Some i), (i, None) ∷ a.1) → c ≡ (b.0, (i, Some x) ∷ rest b.1) → c ≡ (at_store k.0 w.0 i, (i, Some x) ∷ [])
  is_at_store i k w a b c x empty e f h =
      h ∙ (ap (λ (m : Mine T). (m.0, (i, Some x) ∷ rest m.1)) f ∙ (ap (λ (m : Mine T). (out_at m.0 (Some i), (i, Some x) ∷ m.1)) e ∙ ap (λ (l : List (ℕ × Option T)). (at_store k.0 w.0 i, (i, Some x) ∷ l)) empty))

  is_at_end : (i : ℕ) (k w c d : Mine T) (x : T) → c ≡ (at_store k.0 w.0 i, (i, Some x) ∷ [])
      → ((y : T) → c.1 ≡ (i, Some y) ∷ [] → d ≡ (taking_in c.0 i (place (Some y) (hands.place_at c.0.places i).offered None), [])) → d ≡ (at_end k.0 w.0 i x, [])
  is_at_end i k w c d x e f = f x (ap (λ (m : Mine T). m.1) e) ∙ ap (λ (m : Mine T). (taking_in m.0 i (place (Some x) (hands.place_at m.0.places i).offered None), [])) e

  pub ends : (i : ℕ) (k w a b c d : Mine T) (x : T) → k.1 ≡ [] → a ≡ (both_of k.0 w.0, k.1) → b ≡ (out_at a.0 (Some i), (i, None) ∷ a.1) → c ≡ (b.0, (i, Some x) ∷ rest b.1)
      → ((y : T) → c.1 ≡ (i, Some y) ∷ [] → d ≡ (taking_in c.0 i (place (Some y) (hands.place_at c.0.places i).offered None), [])) → d ≡ (at_end k.0 w.0 i x, [])
  ends i k w a b c d x empty e f h tells = is_at_end i k w c d x (is_at_store i k w a b c x empty e f h) tells

  pub is_freed : (i : ℕ) (y z : TableId) (k w u : View T) (x : T) (s : Worker T) → y ≡ s.slots → u ≡ parted_right (at_end k w i x) → worker z w ≡ s → worker y u ≡ freed s
  is_freed i y z k w u x s table is we = λ n. record { slots = table n; number = (ap (λ (v : View T). v.number) is ∙ ap (λ (q : Worker T). q.number) we) n; slot = (is n).slot; claimed = (is n).claimed; found = (is n).found }

  pub is_keeping : (i j : ℕ) (y z : TableId) (k w u : View T) (x : T) (ks : Keeper T) → y ≡ z → u ≡ parted_left (at_end k w i x) → keeper z k ≡ ks → j ≡ i → keeper y u ≡ keeping ks j (Some x)
  is_keeping i j y z k w u x ks table is ke same =
      let a : keeper y u ≡ keeping (keeper z k) i (Some x) = λ n. record { slots = table n; places = (is n).places; workers = (is n).made } in
      a ∙ ap (λ (t : Keeper T × ℕ). keeping t.0 t.1 (Some x)) (λ n. (ke n, sym same n))
