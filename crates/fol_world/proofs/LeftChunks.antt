-- The chunks that a region that is over has left, while its parts take theirs.
use Rattle.std.proofs.Common.{◌≡◌, ◌≢◌, ℕ, ◌+◌, ◌≤◌, ◌<◌, refl, ◌∙◌, ap, arith, Bool, true, false, inl, inr, not, ◌&&◌, ◌||◌, List, length, filter}
use Rattle.std.specs.Prelude.{nat_eq, nat_le, nat_lt}
use Rattle.std.proofs.lemmas.Bool.{and_from, and_parts, cases_eq, eq-eqb, eqb-true, leb-true, le-leb, lt-leb, ne_eqb, or_cases, or_left, or_right, and_right}
use Rattle.fol_model.specs.declared.places.ChunkPos.{ChunkPos}
use Rattle.fol_model.specs.Geometry.{section_of}
use Rattle.fol_model.specs.GridState.{GridState}
use Rattle.fol_model.specs.Outputs.{is_chunk_of}
use Rattle.fol_model.specs.Universe.{all_chunks}
use Rattle.fol_laws.proofs.Tests.{same_answer}
use Rattle.fol_world.specs.Bags.{Follow}
use Rattle.fol_world.specs.Parts.{is_left}
use Rattle.fol_world.specs.Released.{HasChunksOf, is_chunk_among, is_within}
use Rattle.fol_world.proofs.AddBags.{same_filter}
use Rattle.fol_world.proofs.FollowedIds.{among_above, among_below}
use Rattle.fol_world.proofs.JoinedBags.{among}
use Rattle.fol_world.proofs.KeptUp.{kept_twice}

-- ---- o: the owner of a chunk's section; m: whether it is a part
-- of the parts from n on, but for the heir, one is fewer from n + 1 on
next_others : (m : Bool) (o heir n : ℕ) → o ≢ n → (nat_eq o heir || (nat_le n o && m)) ≡ (nat_eq o heir || (nat_le (n + 1) o && m))
next_others m o heir n d = ap (λ b. nat_eq o heir || (b && m)) (same_answer (nat_le n o) (nat_le (n + 1) o)
    (λ e. let l : n ≤ o = leb-true n o e in le-leb (n + 1) o (omega arith))
    (λ e. let l : n + 1 ≤ o = leb-true (n + 1) o e in le-leb n o (omega arith)))

one_out : (m : Bool) (o heir n : ℕ) → n ≢ heir → ((nat_eq o heir || (nat_le n o && m)) && not (nat_eq o n)) ≡ (nat_eq o heir || (nat_le (n + 1) o && m))
one_out m o heir n d = elim (cases_eq o n) [
  | inl e ↦
      let a : nat_eq n heir ≡ false = ne_eqb n heir d in
      let b : nat_eq n n ≡ true = eq-eqb n n refl in
      let l : nat_le (n + 1) n ≡ false = lt-leb (n + 1) n (omega arith) in
      rw (e, a, b, l) (and_right (false || (nat_le n n && m)) false refl)
  | inr k ↦ let b : nat_eq o n ≡ false = ne_eqb o n k in rw b (and_true (nat_eq o heir || (nat_le n o && m)) ∙ next_others m o heir n k)
]
  where
    and_true : (b : Bool) → (b && true) ≡ b
    and_true true = refl
    and_true false = refl

taken_out : (h m : Bool) (o heir n : ℕ) → n ≢ heir → ((h && (nat_eq o heir || (nat_le n o && m))) && not (h && nat_eq o n)) ≡ (h && (nat_eq o heir || (nat_le (n + 1) o && m)))
taken_out false m o heir n d = refl
taken_out true m o heir n d = one_out m o heir n d

module _ (g : GridState) (heir : ℕ) (ids : List ℕ) where
  abbrev owner : ChunkPos → ℕ
  owner c = g.owner (section_of g.grid c)

  -- before the first part takes its chunks all are there
  pub all_left : (n : ℕ) → Follow n ids → among heir ids ≡ true → filter (is_chunk_among g ids) all_chunks ≡ filter (is_left g heir ids n) all_chunks
  all_left n follow m = same_filter (is_chunk_among g ids) (is_left g heir ids n) all_chunks (λ c. ap (λ b. nat_lt 0 (g.holds c) && b)
      (same_answer (among (owner c) ids) (nat_eq (owner c) heir || (nat_le n (owner c) && among (owner c) ids))
      (λ e. let l : n ≤ owner c = among_above n ids (owner c) follow e in or_right (nat_eq (owner c) heir) (nat_le n (owner c) && among (owner c) ids) (and_from (nat_le n (owner c)) (among (owner c) ids) (le-leb n (owner c) l) e))
      (λ e. elim (or_cases (nat_eq (owner c) heir) (nat_le n (owner c) && among (owner c) ids) e) [
        | inl k ↦ let o : owner c ≡ heir = eqb-true (owner c) heir k in rw o m
        | inr k ↦ (and_parts (nat_le n (owner c)) (among (owner c) ids) k).1
      ])))

  -- behind the last part the heir's are left
  pub heir_left : (n : ℕ) → Follow n ids → filter (is_left g heir ids (n + length ids)) all_chunks ≡ filter (is_chunk_of g heir) all_chunks
  heir_left n follow = same_filter (is_left g heir ids (n + length ids)) (is_chunk_of g heir) all_chunks (λ c. ap (λ b. nat_lt 0 (g.holds c) && b)
      (same_answer (nat_eq (owner c) heir || (nat_le (n + length ids) (owner c) && among (owner c) ids)) (nat_eq (owner c) heir)
      (λ e. elim (or_cases (nat_eq (owner c) heir) (nat_le (n + length ids) (owner c) && among (owner c) ids) e) [
        | inl k ↦ k
        | inr k ↦
            let p = and_parts (nat_le (n + length ids) (owner c)) (among (owner c) ids) k in
            let l : n + length ids ≤ owner c = leb-true (n + length ids) (owner c) p.0 in
            let b : owner c < n + length ids = among_below n ids (owner c) follow p.1 in
            absurd (omega arith)
      ])
      (λ e. or_left (nat_eq (owner c) heir) (nat_le (n + length ids) (owner c) && among (owner c) ids) e)))

  -- a part takes its own
  pub left_next : (id : ℕ) → id ≢ heir → filter (λ c. not (is_chunk_of g id c)) (filter (is_left g heir ids id) all_chunks) ≡ filter (is_left g heir ids (id + 1)) all_chunks
  left_next id d = kept_twice (is_left g heir ids id) (λ c. not (is_chunk_of g id c))
      ∙ same_filter (λ c. is_left g heir ids id c && not (is_chunk_of g id c)) (is_left g heir ids (id + 1)) all_chunks (λ c. taken_out (nat_lt 0 (g.holds c)) (among (owner c) ids) (owner c) heir id d)

  -- the heir takes none
  pub left_heir : (id : ℕ) → id ≡ heir → filter (is_left g heir ids id) all_chunks ≡ filter (is_left g heir ids (id + 1)) all_chunks
  left_heir id e = same_filter (is_left g heir ids id) (is_left g heir ids (id + 1)) all_chunks (λ c. ap (λ b. nat_lt 0 (g.holds c) && b) (elim (cases_eq (owner c) id) [
    | inl k ↦ let h : nat_eq (owner c) heir ≡ true = eq-eqb (owner c) heir (k ∙ e) in rw h refl
    | inr k ↦ next_others (among (owner c) ids) (owner c) heir id k
  ]))

  -- the next part's own are there
  pub left_has : (id : ℕ) → among id ids ≡ true → HasChunksOf g (filter (is_left g heir ids id) all_chunks) id
  left_has id m = kept_twice (is_left g heir ids id) (is_within g id)
      ∙ same_filter (λ c. is_left g heir ids id c && is_within g id c) (is_chunk_of g id) all_chunks (λ c. same_answer (is_left g heir ids id c && is_within g id c) (is_chunk_of g id c)
      (λ e.
      let a = and_parts (is_left g heir ids id c) (is_within g id c) e in
      let b = and_parts (nat_lt 0 (g.holds c)) (nat_eq (owner c) heir || (nat_le id (owner c) && among (owner c) ids)) a.0 in
      and_from (nat_lt 0 (g.holds c)) (nat_eq (owner c) id) b.0 a.1)
      (λ e.
      let b = and_parts (nat_lt 0 (g.holds c)) (nat_eq (owner c) id) e in
      let o : owner c ≡ id = eqb-true (owner c) id b.1 in
      let l : nat_le id (owner c) ≡ true = le-leb id (owner c) (omega (arith, o)) in
      let k : among (owner c) ids ≡ true = rw o m in
      and_from (is_left g heir ids id c) (is_within g id c)
      (and_from (nat_lt 0 (g.holds c)) (nat_eq (owner c) heir || (nat_le id (owner c) && among (owner c) ids)) b.0
      (or_right (nat_eq (owner c) heir) (nat_le id (owner c) && among (owner c) ids) (and_from (nat_le id (owner c)) (among (owner c) ids) l k))) b.1))
