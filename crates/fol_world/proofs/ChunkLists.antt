-- The loaded chunks of a region as a list.
use Rattle.std.proofs.Common.{◌≡◌, ℕ, zero, suc, refl, sym, ◌∙◌, ap, arith, Bool, true, inl, inr, ◌&&◌, List, [], ◌∷◌, filter}
use Rattle.std.specs.Prelude.{All, IsTrue, nat_eq, nat_lt}
use Rattle.std.specs.List.{list_any}
use Rattle.std.specs.List.Sorted.{IsStrictlySortedBy}
use Rattle.std.proofs.Math.Path.{fun_ext}
use Rattle.std.proofs.lemmas.Bool.{cases_Bool, and_parts, or_left, or_right, eqb-true, ltb-true}
use Rattle.std.proofs.lemmas.List.Kept.{IsStrictlySortedBy-filter}
use Rattle.std.proofs.lemmas.Map.Views.{any-filter_same}
use Rattle.fol_model.specs.declared.places.ChunkPos.{ChunkPos}
use Rattle.fol_model.specs.Geometry.{is_chunk, same_chunk, section_of}
use Rattle.fol_model.specs.Universe.{all_chunks}
use Rattle.fol_model.specs.GridState.{GridState}
use Rattle.fol_model.specs.Outputs.{is_chunk_of}
use Rattle.fol_model.specs.Rules.{Rules}
use Rattle.fol_laws.specs.ChunkOrder as order
use Rattle.fol_laws.proofs.AllSections.{some_chunk-is, some_chunk-gives}
use Rattle.fol_laws.proofs.ChunkOrder.{chunks_sorted}
use Rattle.fol_laws.proofs.SamePlaces.{same_chunk-true, same_chunk-self}
use Rattle.fol_chunks.specs.Contents.{is_recorded}
use Rattle.fol_chunks.specs.Order.{chunk_cmp}

-- what is kept of all chunks is in order
pub kept_sorted : (p : ChunkPos → Bool) → IsStrictlySortedBy chunk_cmp (filter p all_chunks)
unfolding order.chunk_cmp
kept_sorted p = IsStrictlySortedBy-filter chunk_cmp p all_chunks chunks_sorted

-- it has just the chunks within the limits that pass
pub listed : (p : ChunkPos → Bool) (xs : List ChunkPos) (c : ChunkPos) → is_recorded (filter p xs) c ≡ (p c && is_recorded xs c)
listed p xs c = any-filter_same (same_chunk c) p (p c) (λ k e. ap p (sym (same_chunk-true c k e))) xs

pub in_all : (c : ChunkPos) → is_chunk c ≡ true → is_recorded all_chunks c ≡ true
in_all c l = some_chunk-is (same_chunk c) c l (same_chunk-self c)

pub kept_listed : (p : ChunkPos → Bool) → ((c : ChunkPos) → p c ≡ true → is_chunk c ≡ true) → is_recorded (filter p all_chunks) ≡ p
kept_listed p within = fun_ext (λ c. listed p all_chunks c ∙ elim (cases_Bool (p c)) [
  | inl e ↦ let a = in_all c (within c e) in rw (e, a) refl
  | inr e ↦ rw e refl
])

-- a chunk of the list passes
pub kept_passes : (p : ChunkPos → Bool) (c : ChunkPos) → is_recorded (filter p all_chunks) c ≡ true → p c ≡ true
kept_passes p c h = (and_parts (p c) (is_recorded all_chunks c) (sym (listed p all_chunks c) ∙ h)).0

-- what holds of each member of a list holds at each place of it
at_places : (P : ChunkPos → Type 0) (xs : List ChunkPos) → ((c : ChunkPos) → is_recorded xs c ≡ true → P c) → All P xs
at_places P [] h k d l = absurd (omega arith)
at_places P (x ∷ xs) h zero d l = h x (or_left (same_chunk x x) (list_any (same_chunk x) xs) (same_chunk-self x))
at_places P (x ∷ xs) h (suc k) d l = at_places P xs (λ c m. h c (or_right (same_chunk c x) (list_any (same_chunk c) xs) m)) k d (omega arith)

all_within : (c : ChunkPos) → is_recorded all_chunks c ≡ true → is_chunk c ≡ true
all_within c h = let s = some_chunk-gives (same_chunk c) h in let e : c ≡ s.0 = same_chunk-true c s.0 s.2 in rw e s.1

pub kept_within : (p : ChunkPos → Bool) → All (λ c. IsTrue (is_chunk c)) (filter p all_chunks)
kept_within p = at_places (λ c. IsTrue (is_chunk c)) (filter p all_chunks) (λ c h. all_within c (and_parts (p c) (is_recorded all_chunks c) (sym (listed p all_chunks c) ∙ h)).1)

pub loaded_within : (g : GridState) (r : ℕ) → Rules g → (c : ChunkPos) → is_chunk_of g r c ≡ true → is_chunk c ≡ true
loaded_within g r rules c h = rules.chunk_limits c (ltb-true 0 (g.holds c) (and_parts (nat_lt 0 (g.holds c)) (nat_eq (g.owner (section_of g.grid c)) r) h).0)

pub owned : (g : GridState) (r : ℕ) (c : ChunkPos) → is_chunk_of g r c ≡ true → g.owner (section_of g.grid c) ≡ r
owned g r c h = eqb-true _ r (and_parts (nat_lt 0 (g.holds c)) (nat_eq (g.owner (section_of g.grid c)) r) h).1
