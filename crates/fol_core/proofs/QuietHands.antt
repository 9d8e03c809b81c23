-- What a quiet tick leaves in nobody's hands.
use Rattle.std.proofs.Common.{◌≡◌, ◌≢◌, ℕ, ◌≤◌, ◌<◌, refl, sym, ◌∙◌, ap, arith, true, false, not, inl, inr}
use Rattle.std.specs.Prelude.{nat_eq, nat_le, Option, Some, None}
use Rattle.std.proofs.Math.Path.{fun_ext}
use Rattle.std.proofs.lemmas.Bool.{cases_Bool, and_parts, and_from, and_right, eqb-true, ne_eqb, lt-leb, true≢false}
use Rattle.fol_model.specs.declared.places.ChunkPos.{ChunkPos}
use Rattle.fol_model.specs.declared.regions.State.TheVariants.{Ready}
use Rattle.fol_model.specs.Geometry.{chunk_of}
use Rattle.fol_model.specs.GridState.{GridState, is_loaded, is_ticking}
use Rattle.fol_model.specs.ActionStep.{Flat, Recorded, Standing, at_id}
use Rattle.fol_model.specs.FlatTick.{ahead, moved, walked}
use Rattle.fol_model.specs.Job.{Job, is_taken}
use Rattle.fol_model.specs.Outputs.{is_chunk_of}
use Rattle.fol_model.specs.QueuedTask.{counted_down, is_queued_in}
use Rattle.fol_laws.proofs.FunctionsChanged.{at_other}
use Rattle.fol_chunks.specs.Contents.{option_filter, outside}
use Rattle.fol_store.specs.Passing.{nearer}
use Rattle.fol_world.specs.Hands.{at_rest, in_hands, owner_of, ticker, went}
use Rattle.fol_world.proofs.Flats.{flat_ext}

-- ---- entities that walk on chunks which are in nobody's hands
module _ (rec hands : Recorded) (free : (c : ChunkPos) → rec c ≡ true → hands c ≡ false) where
  walks_outside : (o : Option Standing) → walked rec (option_filter (λ s. not (hands (chunk_of s.at))) o) ≡ option_filter (λ s. not (hands (chunk_of s.at))) (walked rec o)
  walks_outside None = refl
  walks_outside (Some s) = elim (cases_Bool (rec (chunk_of s.at))) [
    | inl e ↦ let here = free (chunk_of s.at) e in elim (cases_Bool (rec (chunk_of (ahead s.vx s.vz s.at)))) [
      | inl f ↦ let there = free (chunk_of (ahead s.vx s.vz s.at)) f in rw (e, here, e, f, there) refl
      | inr f ↦ rw (e, here, e, f, here) refl
    ]
    | inr e ↦ elim (cases_Bool (hands (chunk_of s.at))) [ inl f ↦ rw (e, f) refl | inr f ↦ rw (e, f, e) refl ]
  ]

  pub moved_outside : (f : Flat) → moved rec (outside hands f) ≡ outside hands (moved rec f)
  moved_outside f = flat_ext (moved rec (outside hands f)) (outside hands (moved rec f)) (λ b. refl) (λ id. walks_outside (f.standing id))

module _ (g : GridState) (id : ℕ) (ready : g.state id ≡ Ready) (positive : 0 < id) where
  -- a Ready region ticks nowhere
  not_ticker : (c : ChunkPos) → ticker g c ≢ id
  unfolding ticker
  not_ticker c e = elim (cases_Bool (is_ticking (g.state (owner_of g c)))) [
    | inl k ↦ let own : owner_of g c ≡ id = rw k at e in
        let no : is_ticking (g.state (owner_of g c)) ≡ false = ap (λ r. is_ticking (g.state r)) own ∙ rw ready refl in absurd (true≢false (sym k ∙ no))
    | inr k ↦ let z : 0 ≡ id = rw k at e in absurd (omega arith)
  ]

  pub quiet_hands : (recorded : ℕ → Recorded) (x : Recorded) → in_hands g (at_id recorded id x) ≡ in_hands g recorded
  unfolding in_hands
  quiet_hands recorded x = fun_ext (λ c. let e = at_other recorded id x (ticker g c) (not_ticker c) in rw e refl)

  quiet_went : (f : ℕ → ℕ) (next : ℕ) (c : ChunkPos) (n : ℕ) → went g (at_id f id next) c n ≡ went g f c n
  unfolding went
  quiet_went f next c n = let e = at_other f id next (ticker g c) (not_ticker c) in rw e refl

  -- its chunks are in no hands
  here_rests : (f : ℕ → ℕ) (c : ChunkPos) (n : ℕ) → owner_of g c ≡ id → went g f c n ≡ false
  unfolding went ticker
  here_rests f c n e = let s : is_ticking (g.state (owner_of g c)) ≡ false = ap (λ r. is_ticking (g.state r)) e ∙ rw ready refl in rw s refl

  -- one task, by what the world has under its number; where it is queued on the region's chunks it is due in a later tick
  module _ (f : ℕ → ℕ) (n next : ℕ) (recorded : Recorded) (same : recorded ≡ is_chunk_of g id) where
    queued_rests : (j : Job) → is_queued_in g id j ≡ true → at_rest g f n (Some j) ≡ Some j
    queued_rests j k = let p = and_parts (nat_eq j.taker 0) (nat_eq (owner_of g j.chunk) id) k in
        let q = here_rests f j.chunk n (eqb-true (owner_of g j.chunk) id p.1) in let z = p.0 in rw (z, q) refl

    queued_there : (j : Job) → is_queued_in g id j ≡ true → is_loaded g j.chunk ≡ true → recorded j.chunk ≡ true
    queued_there j k l = ap (λ (r : Recorded). r j.chunk) same ∙ and_from (is_loaded g j.chunk) (nat_eq (owner_of g j.chunk) id) l (and_parts (nat_eq j.taker 0) (nat_eq (owner_of g j.chunk) id) k).1

    else_there : (j : Job) → is_queued_in g id j ≡ false → nat_eq j.taker 0 ≡ true → recorded j.chunk ≡ false
    else_there j k z = ap (λ (r : Recorded). r j.chunk) same ∙ and_right (is_loaded g j.chunk) (nat_eq (owner_of g j.chunk) id) (rw z at k)

    -- a task that is queued there has not the rest 1
    late : (j : Job) → ((i : Job) → at_rest g f n (Some j) ≡ Some i → recorded i.chunk ≡ true → 2 ≤ i.rest) → is_loaded g j.chunk ≡ true → is_queued_in g id j ≡ true → nat_le j.rest 1 ≡ false
    late j later l k = let two : 2 ≤ j.rest = later j (queued_rests j k) (queued_there j k l) in lt-leb j.rest 1 (omega (arith, two))

    -- the tick takes none
    pub quiet_untaken : (o : Option Job) → ((j : Job) → at_rest g f n o ≡ Some j → recorded j.chunk ≡ true → 2 ≤ j.rest) → ((j : Job) → o ≡ Some j → is_loaded g j.chunk ≡ true)
        → ((j : Job) → o ≡ Some j → j.taker ≢ id) → is_taken id (counted_down g id o) ≡ false
    quiet_untaken None later loaded other = refl
    quiet_untaken (Some j) later loaded other = elim (cases_Bool (is_queued_in g id j)) [
      | inl k ↦ let m = late j later (loaded j refl) k in let z : nat_eq 0 id ≡ false = ne_eqb 0 id (λ x. omega arith) in rw (k, m, z) refl
      | inr k ↦ let z : nat_eq j.taker id ≡ false = ne_eqb j.taker id (other j refl) in rw (k, z) refl
    ]

    -- and the rests of those that are queued there fall by one
    pub quiet_rest : (o : Option Job) → ((j : Job) → at_rest g f n o ≡ Some j → recorded j.chunk ≡ true → 2 ≤ j.rest) → ((j : Job) → o ≡ Some j → is_loaded g j.chunk ≡ true)
        → nearer recorded (at_rest g f n o) ≡ at_rest g (at_id f id next) n (counted_down g id o)
    quiet_rest None later loaded = refl
    quiet_rest (Some j) later loaded = let w = quiet_went f next j.chunk n in elim (cases_Bool (is_queued_in g id j)) [
      | inl k ↦ let p = and_parts (nat_eq j.taker 0) (nat_eq (owner_of g j.chunk) id) k in let t : j.taker ≡ 0 = eqb-true j.taker 0 p.0 in
          let a = queued_rests j k in let m = late j later (loaded j refl) k in let r = queued_there j k (loaded j refl) in
          let q : went g (at_id f id next) j.chunk n ≡ false = w ∙ here_rests f j.chunk n (eqb-true (owner_of g j.chunk) id p.1) in
          rw (a, r, k, m, q, t) refl
      | inr k ↦ elim (cases_Bool (nat_eq j.taker 0)) [
        | inl z ↦ let r = else_there j k z in elim (cases_Bool (went g f j.chunk n)) [ inl x ↦ rw (k, z, w, x) refl | inr x ↦ rw (k, z, w, x, r) refl ]
        | inr z ↦ rw (k, z) refl
      ]
    ]
