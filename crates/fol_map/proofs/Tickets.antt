-- One more event, and one more hold.
use Rattle.std.proofs.Common.{◌≡◌, ℕ, ◌+◌, ◌-◌, ◌<◌, ◌≤◌, refl, sym, ap, ◌∙◌, subst, arith, zero-add, Bool, true, false, inl, inr, List, [], ◌∷◌, ◌++◌}
use Rattle.std.specs.Prelude.{count_by, cond, Option, Some}
use Rattle.std.specs.Option.{IfSome, unwrap_or}
use Rattle.std.specs.BTreeMap.{BTreeMap, get, is_at}
use Rattle.std.proofs.lemmas.Bool.{cases_Bool}
use Rattle.std.proofs.lemmas.List.Sums.{sum_by-append}
use Rattle.fol_model.specs.declared.places.ChunkPos.{ChunkPos}
use Rattle.fol_model.specs.declared.events.Loaded.TheVariants as loaded
use Rattle.fol_model.specs.declared.events.Unloaded.TheVariants as unloaded
use Rattle.fol_model.specs.declared.events.Event.{Event}
use Rattle.fol_model.specs.declared.events.Event.TheVariants.{Load, Unload, Post, PhaseOpen, Begin, End, PhaseClose, Finish, Stop}
use Rattle.fol_model.specs.declared.events.Entry.{Entry}
use Rattle.fol_model.specs.declared.closings.TaskRow.{TaskRow}
use Rattle.fol_model.specs.Geometry.{same_chunk}
use Rattle.fol_model.proofs.PlaceKeys.{same_chunk-true}
use Rattle.fol_map.specs.Counts.{AreCounted, by_place, count_in}
use Rattle.fol_map.specs.Holds.{holds, one_at, ticketed, tickets_from}
use Rattle.fol_map.proofs.Chunks.{place_test}

pub tickets_more : (f : ChunkPos → ℕ) (es : List Entry) (e : Entry) → tickets_from f (es ++ e ∷ []) ≡ ticketed (tickets_from f es) e.event
tickets_more f [] e = refl
tickets_more f (d ∷ ds) e = tickets_more (ticketed f d.event) ds e

-- what an event does to the tickets follows from them
pub ticketed_same : (f g : ChunkPos → ℕ) → ((c : ChunkPos) → f c ≡ g c) → (e : Event) (c : ChunkPos) → ticketed f e c ≡ ticketed g e c
ticketed_same f g h (Load caller d loaded.Counted) c = ap (λ (n : ℕ). n + one_at d c) (h c)
ticketed_same f g h (Load caller d (loaded.Full present wanted)) c = h c
ticketed_same f g h (Load caller d loaded.Over) c = h c
ticketed_same f g h (Unload caller d unloaded.Lowered) c = ap (λ (n : ℕ). n - one_at d c) (h c)
ticketed_same f g h (Unload caller d unloaded.NoTicket) c = h c
ticketed_same f g h (Unload caller d unloaded.Over) c = h c
ticketed_same f g h (Post caller d n a answer) c = h c
ticketed_same f g h (PhaseOpen n) c = h c
ticketed_same f g h (Begin worker r) c = h c
ticketed_same f g h (End worker r tick ran accepts) c = h c
ticketed_same f g h PhaseClose c = h c
ticketed_same f g h Finish c = h c
ticketed_same f g h (Stop caller) c = h c

one_small : (d c : ChunkPos) → one_at d c ≤ 1
one_small d c = elim (cases_Bool (same_chunk d c)) [ inl h ↦ rw h (omega arith) | inr h ↦ rw h (omega arith) ]

-- and it adds one at most
pub ticketed_small : (f : ChunkPos → ℕ) (e : Event) (c : ChunkPos) → ticketed f e c ≤ f c + 1
ticketed_small f (Load caller d loaded.Counted) c = omega (arith, one_small d c)
ticketed_small f (Load caller d (loaded.Full present wanted)) c = omega arith
ticketed_small f (Load caller d loaded.Over) c = omega arith
ticketed_small f (Unload caller d unloaded.Lowered) c = omega arith
ticketed_small f (Unload caller d unloaded.NoTicket) c = omega arith
ticketed_small f (Unload caller d unloaded.Over) c = omega arith
ticketed_small f (Post caller d n a answer) c = omega arith
ticketed_small f (PhaseOpen n) c = omega arith
ticketed_small f (Begin worker r) c = omega arith
ticketed_small f (End worker r tick ran accepts) c = omega arith
ticketed_small f PhaseClose c = omega arith
ticketed_small f Finish c = omega arith
ticketed_small f (Stop caller) c = omega arith

-- ---- a map with another count of one chunk

-- the values of a map after a change at one key
abbrev pub Changed : BTreeMap ChunkPos ℕ → BTreeMap ChunkPos ℕ → ChunkPos → Option ℕ → Type 0
Changed m n d w = (q : ChunkPos) → get by_place n q ≡ cond (is_at (by_place d) q) w (get by_place m q)

at_self : (m n : BTreeMap ChunkPos ℕ) (d q : ChunkPos) (w : Option ℕ) → Changed m n d w → same_chunk d q ≡ true → get by_place n q ≡ w
at_self m n d q w h e = h q ∙ ap (λ (b : Bool). cond b w (get by_place m q)) (place_test d q ∙ e)

at_other : (m n : BTreeMap ChunkPos ℕ) (d q : ChunkPos) (w : Option ℕ) → Changed m n d w → same_chunk d q ≡ false → get by_place n q ≡ get by_place m q
at_other m n d q w h e = h q ∙ ap (λ (b : Bool). cond b w (get by_place m q)) (place_test d q ∙ e)

same_count : (m : BTreeMap ChunkPos ℕ) (d q : ChunkPos) → same_chunk d q ≡ true → count_in m d ≡ count_in m q
same_count m d q e = ap (count_in m) (same_chunk-true d q e)

pub raised_at : (m n : BTreeMap ChunkPos ℕ) (d : ChunkPos) (k : ℕ) → k ≡ count_in m d → Changed m n d (Some (k + 1)) → (q : ChunkPos) → count_in n q ≡ count_in m q + one_at d q
raised_at m n d k e h q = elim (cases_Bool (same_chunk d q)) [
  | inl s ↦ let a = ap (λ (o : Option ℕ). unwrap_or o 0) (at_self m n d q (Some (k + 1)) h s) in let b = same_count m d q s in rw s (omega (arith, a, b, e))
  | inr s ↦ let a = ap (λ (o : Option ℕ). unwrap_or o 0) (at_other m n d q (Some (k + 1)) h s) in rw s (omega (arith, a))
]

pub lowered_at : (m n : BTreeMap ChunkPos ℕ) (d : ChunkPos) (w : Option ℕ) → unwrap_or w 0 ≡ count_in m d - 1 → Changed m n d w → (q : ChunkPos) → count_in n q ≡ count_in m q - one_at d q
lowered_at m n d w e h q = elim (cases_Bool (same_chunk d q)) [
  | inl s ↦ let a = ap (λ (o : Option ℕ). unwrap_or o 0) (at_self m n d q w h s) in let b = same_count m d q s in rw s (omega (arith, a, b, e))
  | inr s ↦ let a = ap (λ (o : Option ℕ). unwrap_or o 0) (at_other m n d q w h s) in rw s (omega (arith, a))
]

-- counts above 0 stay so
pub counted_at : (m n : BTreeMap ChunkPos ℕ) (d : ChunkPos) (w : Option ℕ) → IfSome w (λ k. 0 < k) → Changed m n d w → AreCounted m → AreCounted n
counted_at m n d w e h all q = elim (cases_Bool (same_chunk d q)) [
  | inl s ↦ subst (λ (o : Option ℕ). IfSome o (λ k. 0 < k)) (sym (at_self m n d q w h s)) e
  | inr s ↦ subst (λ (o : Option ℕ). IfSome o (λ k. 0 < k)) (sym (at_other m n d q w h s)) (all q)
]

-- ---- one more task

count_more : {X : Type 0} (p : X → Bool) (xs : List X) (x : X) → count_by p (xs ++ x ∷ []) ≡ count_by p xs + cond (p x) 1 0
count_more {X} p xs x = sum_by-append (λ (y : X). cond (p y) 1 0) xs (x ∷ []) ∙ ap (λ (n : ℕ). count_by p xs + n) (zero-add (cond (p x) 1 0))

pub holds_more : (es : List Entry) (ts : List TaskRow) (t : TaskRow) (c : ChunkPos) → holds es (ts ++ t ∷ []) c ≡ holds es ts c + one_at t.task.chunk c
holds_more es ts t c = omega (arith, count_more (λ (r : TaskRow). same_chunk r.task.chunk c) ts t)
