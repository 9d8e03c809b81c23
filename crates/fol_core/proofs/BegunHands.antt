-- What goes into a worker's hands at a Begin.
use Rattle.std.proofs.Common.{◌≡◌, ◌≢◌, ℕ, ◌<◌, refl, sym, ◌∙◌, ap, arith, Bool, true, false, inl, inr, not, ◌&&◌, ◌||◌, List, [], ◌∷◌}
use Rattle.std.specs.Prelude.{nat_eq, nat_lt, nat_le, Option, Some, None}
use Rattle.std.proofs.lemmas.Bool.{cases_Bool, cases_eq, and_parts, and_from, and_right, eqb-true, eqb-false, eq-eqb, ne_eqb, lt-ltb}
use Rattle.fol_model.specs.declared.places.ChunkPos.{ChunkPos}
use Rattle.fol_model.specs.declared.tasks.Task.{Task}
use Rattle.fol_model.specs.declared.regions.State.TheVariants.{Ready}
use Rattle.fol_model.specs.Geometry.{chunk_of, section_of}
use Rattle.fol_model.specs.GridState.{GridState, is_loaded, is_ticking}
use Rattle.fol_model.specs.Begin.{begin}
use Rattle.fol_model.specs.ActionStep.{Flat, Recorded, Standing, at_id}
use Rattle.fol_model.specs.Job.{Job, taken_task}
use Rattle.fol_model.specs.Outputs.{is_chunk_of}
use Rattle.fol_model.specs.QueuedTask.{counted_down, queued_in}
use Rattle.fol_chunks.specs.Contents.{option_filter as kept_standing, outside, within}
use Rattle.fol_queues.specs.Waiting.{option_filter}
use Rattle.fol_world.specs.Begun.{due_task, left_job}
use Rattle.fol_world.specs.Hands.{at_rest, in_hands, owner_of, ticker, went}
use Rattle.fol_world.proofs.Flats.{flat_ext}

-- one or no task as a list
abbrev pub listed : Option Task → List Task
listed None = []
listed (Some t) = t ∷ []

twice_outside : (p q r : Recorded) (o : Option Standing) → ((c : ChunkPos) → r c ≡ (q c || p c))
    → kept_standing (λ s. not (p (chunk_of s.at))) (kept_standing (λ s. not (q (chunk_of s.at))) o) ≡ kept_standing (λ s. not (r (chunk_of s.at))) o
twice_outside p q r None h = refl
twice_outside p q r (Some s) h = let e = h (chunk_of s.at) in elim (cases_Bool (q (chunk_of s.at))) [
  | inl k ↦ rw (e, k) refl
  | inr k ↦ elim (cases_Bool (p (chunk_of s.at))) [ inl m ↦ rw (e, k, m) refl | inr m ↦ rw (e, k, m) refl ]
]

pub outside_outside : (p q r : Recorded) (f : Flat) → ((c : ChunkPos) → r c ≡ (q c || p c)) → outside p (outside q f) ≡ outside r f
outside_outside p q r f h = flat_ext (outside p (outside q f)) (outside r f)
    (λ b. let e = h (chunk_of b) in elim (cases_Bool (q (chunk_of b))) [
      | inl k ↦ elim (cases_Bool (p (chunk_of b))) [ inl m ↦ rw (e, k, m) refl | inr m ↦ rw (e, k, m) refl ]
      | inr k ↦ elim (cases_Bool (p (chunk_of b))) [ inl m ↦ rw (e, k, m) refl | inr m ↦ rw (e, k, m) refl ]
    ])
    (λ id. twice_outside p q r (f.standing id) h)

in_and_out : (p q : Recorded) (o : Option Standing) → ((c : ChunkPos) → p c ≡ true → q c ≡ false)
    → kept_standing (λ s. p (chunk_of s.at)) (kept_standing (λ s. not (q (chunk_of s.at))) o) ≡ kept_standing (λ s. p (chunk_of s.at)) o
in_and_out p q None h = refl
in_and_out p q (Some s) h = elim (cases_Bool (p (chunk_of s.at))) [
  | inl m ↦ let k = h (chunk_of s.at) m in rw (k, m) refl
  | inr m ↦ elim (cases_Bool (q (chunk_of s.at))) [ inl k ↦ rw (k, m) refl | inr k ↦ rw (k, m) refl ]
]

pub within_outside : (p q : Recorded) (f : Flat) → ((c : ChunkPos) → p c ≡ true → q c ≡ false) → within p (outside q f) ≡ within p f
within_outside p q f h = flat_ext (within p (outside q f)) (within p f)
    (λ b. elim (cases_Bool (p (chunk_of b))) [ inl m ↦ let k = h (chunk_of b) m in rw (m, k) refl | inr m ↦ rw m refl ])
    (λ id. in_and_out p q (f.standing id) h)

module _ (g : GridState) (id : ℕ) (ready : g.state id ≡ Ready) (positive : 0 < id) where
  -- where the region's chunks are nobody ticks before, and the region after
  quiet : (c : ChunkPos) → owner_of g c ≡ id → ticker g c ≡ 0
  unfolding ticker
  quiet c e = let s : is_ticking (g.state (owner_of g c)) ≡ false = ap (λ r. is_ticking (g.state r)) e ∙ rw ready refl in rw s refl

  pub here_after : (c : ChunkPos) → owner_of g c ≡ id → ticker (begin g id) c ≡ id
  unfolding ticker begin
  here_after c e = let k : nat_eq id (owner_of g c) ≡ true = eq-eqb id (owner_of g c) (sym e) in rw k e

  pub else_after : (c : ChunkPos) → owner_of g c ≢ id → ticker (begin g id) c ≡ ticker g c
  unfolding ticker begin
  else_after c d = let k : nat_eq id (owner_of g c) ≡ false = ne_eqb id (owner_of g c) (λ x. d (sym x)) in rw k refl

  else_ticker : (c : ChunkPos) → owner_of g c ≢ id → ticker g c ≢ id
  unfolding ticker
  else_ticker c d e = elim (cases_Bool (is_ticking (g.state (owner_of g c)))) [
    | inl k ↦ d (rw k at e)
    | inr k ↦ let z : 0 ≡ id = rw k at e in absurd (omega arith)
  ]

  pub not_in_hands : (recorded : ℕ → Recorded) (c : ChunkPos) → owner_of g c ≡ id → in_hands g recorded c ≡ false
  unfolding in_hands
  not_in_hands recorded c e = let k = quiet c e in rw k refl

  pub hands_after : (recorded : ℕ → Recorded) (c : ChunkPos) → in_hands (begin g id) (at_id recorded id (λ q. is_loaded g q && nat_eq (g.owner (section_of g.grid q)) id)) c ≡ (in_hands g recorded c || is_chunk_of g id c)
  unfolding in_hands
  hands_after recorded c = elim (cases_eq (owner_of g c) id) [
    | inl e ↦ let k = quiet c e in let a = here_after c e in let l : nat_lt 0 id ≡ true = lt-ltb 0 id positive in
        let z : nat_eq id id ≡ true = eq-eqb id id refl in rw (a, k, l, z) refl
    | inr d ↦ let a = else_after c d in let n = else_ticker c d in
        let z : nat_eq id (ticker g c) ≡ false = ne_eqb id (ticker g c) (λ x. n (sym x)) in
        let y : nat_eq (owner_of g c) id ≡ false = ne_eqb (owner_of g c) id d in
        let x : is_chunk_of g id c ≡ false = and_right (is_loaded g c) (nat_eq (owner_of g c) id) y in
        rw (a, z, x) (grow (nat_lt 0 (ticker g c) && recorded (ticker g c) c))
  ]
    where
      grow : (b : Bool) → b ≡ (b || false)
      grow true = refl
      grow false = refl

  pub went_quiet : (f : ℕ → ℕ) (c : ChunkPos) (n : ℕ) → owner_of g c ≡ id → went g f c n ≡ false
  unfolding went
  went_quiet f c n e = let k = quiet c e in rw k refl

  pub went_here : (f : ℕ → ℕ) (c : ChunkPos) (n next : ℕ) → owner_of g c ≡ id → n < next → went (begin g id) (at_id f id next) c n ≡ true
  unfolding went
  went_here f c n next e l = let a = here_after c e in let p : nat_lt 0 id ≡ true = lt-ltb 0 id positive in let z : nat_eq id id ≡ true = eq-eqb id id refl in
      let k : nat_lt n next ≡ true = lt-ltb n next l in rw (a, p, z, k) refl

  pub went_else : (f : ℕ → ℕ) (c : ChunkPos) (n next : ℕ) → owner_of g c ≢ id → went (begin g id) (at_id f id next) c n ≡ went g f c n
  unfolding went
  went_else f c n next d = let a = else_after c d in let m = else_ticker c d in
      let z : nat_eq id (ticker g c) ≡ false = ne_eqb id (ticker g c) (λ x. m (sym x)) in rw (a, z) refl

  -- one task, by what the world has under its number
  module _ (f : ℕ → ℕ) (n next : ℕ) (recorded : Recorded) (same : recorded ≡ is_chunk_of g id) where
    abbrev here : Job → Bool
    here j = nat_eq j.taker 0 && nat_eq (g.owner (section_of g.grid j.chunk)) id

    zero_id : nat_eq id 0 ≡ false
    zero_id = ne_eqb id 0 (λ x. omega arith)

    is_here : (j : Job) → here j ≡ true → is_loaded g j.chunk ≡ true → recorded j.chunk ≡ true
    is_here j k l = ap (λ (r : Recorded). r j.chunk) same ∙ and_from (is_loaded g j.chunk) (nat_eq (owner_of g j.chunk) id) l (and_parts (nat_eq j.taker 0) (nat_eq (owner_of g j.chunk) id) k).1

    not_here : (j : Job) → here j ≡ false → nat_eq j.taker 0 ≡ true → recorded j.chunk ≡ false
    not_here j k z = ap (λ (r : Recorded). r j.chunk) same ∙ and_right (is_loaded g j.chunk) (nat_eq (owner_of g j.chunk) id) (rw z at k)

    rest_here : (j : Job) → here j ≡ true → at_rest g f n (Some j) ≡ Some j
    rest_here j k = let p = and_parts (nat_eq j.taker 0) (nat_eq (owner_of g j.chunk) id) k in
        let q = went_quiet f j.chunk n (eqb-true (owner_of g j.chunk) id p.1) in let z = p.0 in rw (z, q) refl

    pub left_is : (o : Option Job) → ((j : Job) → o ≡ Some j → is_loaded g j.chunk ≡ true) → left_job recorded (at_rest g f n o) ≡ queued_in g id (counted_down g id o)
    unfolding queued_in
    left_is None h = refl
    left_is (Some j) h = let l = h j refl in elim (cases_Bool (here j)) [
      | inl k ↦ let a = rest_here j k in let r = is_here j k l in let p = and_parts (nat_eq j.taker 0) (nat_eq (owner_of g j.chunk) id) k in let own = p.1 in
          elim (cases_Bool (nat_le j.rest 1)) [ inl m ↦ let z = zero_id in rw (a, r, k, m, z) refl | inr m ↦ let t : j.taker ≡ 0 = eqb-true j.taker 0 p.0 in rw (a, r, k, m, own, t) refl ]
      | inr k ↦ elim (cases_Bool (nat_eq j.taker 0)) [
        | inl z ↦ let r = not_here j k z in let y : nat_eq (owner_of g j.chunk) id ≡ false = rw z at k in
            elim (cases_Bool (went g f j.chunk n)) [ inl x ↦ rw (k, z, x, y) refl | inr x ↦ rw (k, z, x, r, y) refl ]
        | inr z ↦ rw (k, z) refl
      ]
    ]

    pub rest_is : (o : Option Job) → ((j : Job) → o ≡ Some j → n < next) → ((j : Job) → o ≡ Some j → is_loaded g j.chunk ≡ true)
        → option_filter (λ j. not (recorded j.chunk)) (at_rest g f n o) ≡ at_rest (begin g id) (at_id f id next) n (counted_down g id o)
    rest_is None b h = refl
    rest_is (Some j) b h = let l = h j refl in elim (cases_Bool (here j)) [
      | inl k ↦ let a = rest_here j k in let r = is_here j k l in let p = and_parts (nat_eq j.taker 0) (nat_eq (owner_of g j.chunk) id) k in
          let w = went_here f j.chunk n next (eqb-true (owner_of g j.chunk) id p.1) (b j refl) in
          elim (cases_Bool (nat_le j.rest 1)) [ inl m ↦ let z = zero_id in rw (a, r, k, m, z) refl | inr m ↦ rw (a, r, k, m, w) refl ]
      | inr k ↦ elim (cases_Bool (nat_eq j.taker 0)) [
        | inl z ↦ let r = not_here j k z in
            let y : nat_eq (owner_of g j.chunk) id ≡ false = rw z at k in
            let w = went_else f j.chunk n next (eqb-false (owner_of g j.chunk) id y) in
            elim (cases_Bool (went g f j.chunk n)) [ inl x ↦ rw (k, z, w, x) refl | inr x ↦ rw (k, z, w, x, r) refl ]
        | inr z ↦ rw (k, z) refl
      ]
    ]

    pub due_is : (o : Option Job) → ((j : Job) → o ≡ Some j → is_loaded g j.chunk ≡ true) → ((j : Job) → o ≡ Some j → j.taker ≢ id)
        → taken_task id n (counted_down g id o) ≡ listed (due_task recorded n (at_rest g f n o))
    due_is None h t = refl
    due_is (Some j) h t = let l = h j refl in elim (cases_Bool (here j)) [
      | inl k ↦ let a = rest_here j k in let r = is_here j k l in
          elim (cases_Bool (nat_le j.rest 1)) [
            | inl m ↦ let z : nat_eq id id ≡ true = eq-eqb id id refl in rw (a, r, k, m, z) refl
            | inr m ↦ let z : nat_eq 0 id ≡ false = ne_eqb 0 id (λ x. omega arith) in rw (a, r, k, m, z) refl
          ]
      | inr k ↦ let q : nat_eq j.taker id ≡ false = ne_eqb j.taker id (t j refl) in elim (cases_Bool (nat_eq j.taker 0)) [
        | inl z ↦ let r = not_here j k z in elim (cases_Bool (went g f j.chunk n)) [ inl x ↦ rw (k, z, x, q) refl | inr x ↦ rw (k, z, x, r, q) refl ]
        | inr z ↦ rw (k, z, q) refl
      ]
    ]
