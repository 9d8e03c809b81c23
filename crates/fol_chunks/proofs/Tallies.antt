-- What the numbers of chunks say of the entities.
use Rattle.std.proofs.Common.{◌≡◌, ℕ, ◌+◌, ◌<◌, ◌≤◌, ◌||◌, Bool, true, false, cond, not, List, [], ◌∷◌, ◌++◌, length, get_or, take, refl, sym, ◌∙◌, ap, inl, inr, arith, Option}
use Rattle.std.specs.Map.{lookup}
use Rattle.std.specs.Option.{unwrap_or}
use Rattle.std.specs.Prelude.{ℤ, sum_by}
use Rattle.std.specs.List.{AllByRecursion, count_by, filter}
use Rattle.std.specs.List.Sorted.{IsStrictlySortedBy, IsPermutation}
use Rattle.std.specs.Cmp.{tied_itself}
use Rattle.std.specs.declared.cmp.Ordering.TheVariants.{Less, Equal}
use Rattle.std.proofs.lemmas.Bool.{cases_Bool}
use Rattle.std.proofs.lemmas.List.{append-nil, nil_from_length}
use Rattle.std.proofs.lemmas.List.Sorted.{IsPermutation-refl, sum_by-IsPermutation}
use Rattle.std.proofs.lemmas.List.Sums.{sum_by-append, sum_by-cons, sum_by_more, sum_by-take-le}
use Rattle.fol_model.specs.declared.entities.Entity.{Entity}
use Rattle.fol_model.specs.declared.places.ChunkPos.{ChunkPos}
use Rattle.fol_model.specs.Geometry.{chunk_of, same_chunk}
use Rattle.fol_model.specs.Universe.{chunk_cmp}
use Rattle.fol_keyed.specs.Members.{is_listed}
use Rattle.fol_keyed.proofs.Places.{same_chunk-true, chunk_cmp_total}
use Rattle.fol_blocks.specs.Cells.{chunk_at, key_at, same_key}
use Rattle.fol_chunks.specs.Rows.{by_id}
use Rattle.fol_chunks.specs.Tallies.{AreCounted, is_key_of, number_of, stands_in, total_of}
use Rattle.fol_blocks.proofs.CellSums.{key_laws, key_same, key_self}
use Rattle.fol_blocks.proofs.ChunkLists.{either_apart, listed_more, not_before}
use Rattle.fol_blocks.proofs.Weighing.{sum_two}

abbrev pub Numbers : Type 0
Numbers = List ((ℤ × ℤ) × ℕ)

-- ---- the number of one chunk changes
module _ (ns ms : Numbers) (key : ℤ × ℤ) (o : Option ℕ) (u : (q : ℤ × ℤ) → lookup (same_key q) ms ≡ cond (same_key key q) o (lookup (same_key q) ns)) where
  pub written : (q : ℤ × ℤ) → number_of ms q ≡ cond (same_key key q) (unwrap_or o 0) (number_of ns q)
  written q = ap (λ p. unwrap_or p 0) (u q) ∙ either (same_key key q) (lookup (same_key q) ns)
    where
      either : (b : Bool) (p : Option ℕ) → unwrap_or (cond b o p) 0 ≡ cond b (unwrap_or o 0) (unwrap_or p 0)
      either true p = refl
      either false p = refl

  pub raised : (more : ℕ) → unwrap_or o 0 ≡ number_of ns key + more → (q : ℤ × ℤ) → number_of ms q ≡ number_of ns q + cond (same_key key q) more 0
  raised more e q =
      elim (cases_Bool (same_key key q)) [
        | inl t ↦
            let there : number_of ms q ≡ unwrap_or o 0 = written q ∙ ap (λ b. cond b (unwrap_or o 0) (number_of ns q)) t in
            omega (arith, there, e, ap (number_of ns) (key_same key q t), ap (λ b. cond {A = ℕ} b more 0) t)
        | inr n ↦
            let there : number_of ms q ≡ number_of ns q = written q ∙ ap (λ b. cond b (unwrap_or o 0) (number_of ns q)) n in
            omega (arith, there, ap (λ b. cond {A = ℕ} b more 0) n)
      ]

  pub lowered : unwrap_or o 0 + 1 ≡ number_of ns key → (q : ℤ × ℤ) → number_of ms q + cond (same_key key q) 1 0 ≡ number_of ns q
  lowered e q =
      elim (cases_Bool (same_key key q)) [
        | inl t ↦
            let there : number_of ms q ≡ unwrap_or o 0 = written q ∙ ap (λ b. cond b (unwrap_or o 0) (number_of ns q)) t in
            omega (arith, there, e, ap (number_of ns) (key_same key q t), ap (λ b. cond {A = ℕ} b 1 0) t)
        | inr n ↦
            let there : number_of ms q ≡ number_of ns q = written q ∙ ap (λ b. cond b (unwrap_or o 0) (number_of ns q)) n in
            omega (arith, there, ap (λ b. cond {A = ℕ} b 1 0) n)
      ]

  -- a number is kept no more that was 0
  pub unkept : unwrap_or o 0 ≡ number_of ns key → (q : ℤ × ℤ) → number_of ms q ≡ number_of ns q
  unkept e q =
      elim (cases_Bool (same_key key q)) [
        | inl t ↦ written q ∙ ap (λ b. cond b (unwrap_or o 0) (number_of ns q)) t ∙ e ∙ ap (number_of ns) (key_same key q t)
        | inr n ↦ written q ∙ ap (λ b. cond b (unwrap_or o 0) (number_of ns q)) n
      ]

-- ---- no numbers
module _ (ns : Numbers) (none : length ns ≡ 0) where
  pub no_number : (q : ℤ × ℤ) → number_of ns q ≡ 0
  no_number q = ap (λ l. number_of l q) (nil_from_length ns none)

  pub no_total : (chunks : List ChunkPos) → total_of ns chunks ≡ 0
  no_total [] = refl
  no_total (c ∷ cs) = omega (arith, sum_by-cons (λ (d : ChunkPos). number_of ns (d.x, d.z)) c cs, no_number (c.x, c.z), no_total cs)

  -- none is left, and none moves
  pub none_left : (b : Bool) (q : ℤ × ℤ) → number_of ns q ≡ cond b 0 (number_of ns q)
  none_left true q = no_number q
  none_left false q = refl

  pub none_comes : (b : Bool) (n : ℕ) (q : ℤ × ℤ) → n ≡ n + cond b (number_of ns q) 0
  none_comes true n q = omega (arith, no_number q)
  none_comes false n q = omega arith

-- ---- entities in a chunk
stands_key : (q : ℤ × ℤ) (e : Entity) → stands_in q e ≡ same_key (key_at e.at) q
unfolding same_chunk
stands_key q e = refl

-- 1 where the entity stands in the chunk
one_here : (q : ℤ × ℤ) (e : Entity) → cond {A = ℕ} (stands_in q e) 1 0 ≡ cond (same_key (key_at e.at) q) 1 0
one_here q e = ap (λ b. cond {A = ℕ} b 1 0) (stands_key q e)

-- no entity, and no number
pub none_counted : AreCounted [] []
unfolding IsStrictlySortedBy
none_counted = record { order = tt; numbers = λ q. refl }

-- the same entities, each as often
pub counted_kept : (es fs : List Entity) (ns : Numbers) → AreCounted es ns → IsStrictlySortedBy by_id fs → ((f : Entity → ℕ) → sum_by f fs + sum_by f [] ≡ sum_by f es) → AreCounted fs ns
counted_kept es fs ns a s h = record { order = s; numbers = λ q. omega (arith, a.numbers q, h (λ x. cond (stands_in q x) 1 0)) }

-- the same numbers
pub counted_same : (es : List Entity) (ns ms : Numbers) → AreCounted es ns → ((q : ℤ × ℤ) → number_of ms q ≡ number_of ns q) → AreCounted es ms
counted_same es ns ms a u = record { order = a.order; numbers = λ q. u q ∙ a.numbers q }

module _ (es fs : List Entity) (ns ms : Numbers) (e : Entity) (a : AreCounted es ns) (s : IsStrictlySortedBy by_id fs) where
  -- an entity comes
  pub counted_put : ((f : Entity → ℕ) → sum_by f fs ≡ sum_by f es + f e) → ((q : ℤ × ℤ) → number_of ms q ≡ number_of ns q + cond (same_key (key_at e.at) q) 1 0) → AreCounted fs ms
  counted_put h u = record {
    order = s;
    numbers = λ q. omega (arith, u q, a.numbers q, h (λ x. cond (stands_in q x) 1 0), one_here q e);
  }

  -- an entity goes
  module _ (h : (f : Entity → ℕ) → sum_by f fs + sum_by f (e ∷ []) ≡ sum_by f es) where
    pub one_there : 0 < number_of ns (key_at e.at)
    one_there =
        let one : cond {A = ℕ} (stands_in (key_at e.at) e) 1 0 ≡ 1 = one_here (key_at e.at) e ∙ ap (λ b. cond {A = ℕ} b 1 0) (key_self (key_at e.at)) in
        omega (arith, one, a.numbers (key_at e.at), h (λ x. cond (stands_in (key_at e.at) x) 1 0), sum_by-cons (λ x. cond {A = ℕ} (stands_in (key_at e.at) x) 1 0) e [])

    pub counted_take : ((q : ℤ × ℤ) → number_of ms q + cond (same_key (key_at e.at) q) 1 0 ≡ number_of ns q) → AreCounted fs ms
    counted_take u = record {
      order = s;
      numbers = λ q. omega (arith, u q, a.numbers q, h (λ x. cond (stands_in q x) 1 0), sum_by-cons (λ x. cond {A = ℕ} (stands_in q x) 1 0) e [], one_here q e);
    }

-- ---- the numbers of several chunks
abbrev pub in_chunks : List ChunkPos → Entity → Bool
in_chunks chunks e = is_listed chunks (chunk_of e.at)

not_behind : (c : ChunkPos) (cs : List ChunkPos) → AllByRecursion (λ d. chunk_cmp c d ≡ Less) cs → is_listed cs c ≡ false
not_behind c [] h = refl
not_behind c (d ∷ ds) h =
    elim (cases_Bool (same_chunk c d)) [
      | inl e ↦
          let less : chunk_cmp c c ≡ Less = ap (chunk_cmp c) (same_chunk-true c d e) ∙ h.0 in
          let w : Less ≡ Equal = sym less ∙ tied_itself chunk_cmp_total c in
          absurd cc
      | inr e ↦ rw e (not_behind c ds h.1)
    ]

none_in : (es : List Entity) → 0 ≡ count_by (in_chunks []) es
none_in [] = refl
none_in (e ∷ es) = omega (arith, none_in es, sum_by-cons (λ x. cond {A = ℕ} (in_chunks [] x) 1 0) e es)

module _ (es : List Entity) (ns : Numbers) (a : AreCounted es ns) where
  pub total_is : (chunks : List ChunkPos) → IsStrictlySortedBy chunk_cmp chunks → total_of ns chunks ≡ count_by (in_chunks chunks) es
  unfolding IsStrictlySortedBy
  total_is [] s = none_in es
  total_is (c ∷ cs) s =
      omega (
        arith,
        sum_by-cons (λ (d : ChunkPos). number_of ns (d.x, d.z)) c cs,
        a.numbers (c.x, c.z),
        total_is cs s.1,
        sum_two (λ x. cond (stands_in (c.x, c.z) x) 1 0) (λ x. cond (in_chunks cs x) 1 0) (λ x. cond (in_chunks (c ∷ cs) x) 1 0) each es,
      )
    where
      each : (x : Entity) → cond {A = ℕ} (in_chunks (c ∷ cs) x) 1 0 ≡ cond (stands_in (c.x, c.z) x) 1 0 + cond (in_chunks cs x) 1 0
      each x = either_apart 1 (same_chunk (chunk_of x.at) c) (in_chunks cs x) (λ t. ap (is_listed cs) (same_chunk-true (chunk_of x.at) c t) ∙ not_behind c cs s.0)

-- ---- what moves and what stays
module _ {X : Type 0} (p : X → Bool) where
  none_pass : (xs : List X) → count_by p xs ≡ 0 → filter p xs ≡ []
  none_pass [] h = refl
  none_pass (x ∷ xs) h =
      elim (cases_Bool (p x)) [
        | inl e ↦ let w : cond {A = ℕ} (p x) 1 0 ≡ 1 = rw e refl in absurd (omega (arith, w, h, sum_by-cons (λ (y : X). cond (p y) 1 0) x xs))
        | inr e ↦ rw e (none_pass xs (omega (arith, h, sum_by-cons (λ (y : X). cond (p y) 1 0) x xs)))
      ]

  pub all_stay : (xs : List X) → count_by p xs ≡ 0 → filter (λ x. not (p x)) xs ≡ xs
  all_stay [] h = refl
  all_stay (x ∷ xs) h =
      elim (cases_Bool (p x)) [
        | inl e ↦ let w : cond {A = ℕ} (p x) 1 0 ≡ 1 = rw e refl in absurd (omega (arith, w, h, sum_by-cons (λ (y : X). cond (p y) 1 0) x xs))
        | inr e ↦ rw e (ap (λ l. x ∷ l) (all_stay xs (omega (arith, h, sum_by-cons (λ (y : X). cond (p y) 1 0) x xs))))
      ]

  pub none_moved : (xs ys : List X) → count_by p xs ≡ 0 → IsPermutation (ys ++ filter p xs) ys
  none_moved xs ys h = rw (none_pass xs h, append-nil ys) (IsPermutation-refl ys)

  module _ (q : X → Bool) where
    all_kept : ((x : X) → q x ≡ true → p x ≡ true) → (xs : List X) → count_by q (filter p xs) ≡ count_by q xs
    all_kept h [] = refl
    all_kept h (x ∷ xs) =
        elim (cases_Bool (p x)) [
          | inl e ↦ rw e (omega (arith, all_kept h xs, sum_by-cons (λ (y : X). cond (q y) 1 0) x (filter p xs), sum_by-cons (λ (y : X). cond (q y) 1 0) x xs))
          | inr e ↦
              elim (cases_Bool (q x)) [
                | inl t ↦ let w : true ≡ false = sym (h x t) ∙ e in absurd cc
                | inr t ↦ let w : cond {A = ℕ} (q x) 1 0 ≡ 0 = rw t refl in rw e (omega (arith, w, all_kept h xs, sum_by-cons (λ (y : X). cond (q y) 1 0) x xs))
              ]
        ]

    none_kept : ((x : X) → q x ≡ true → p x ≡ false) → (xs : List X) → count_by q (filter p xs) ≡ 0
    none_kept h [] = refl
    none_kept h (x ∷ xs) =
        elim (cases_Bool (p x)) [
          | inr e ↦ rw e (none_kept h xs)
          | inl e ↦
              elim (cases_Bool (q x)) [
                | inl t ↦ let w : true ≡ false = sym e ∙ h x t in absurd cc
                | inr t ↦ let w : cond {A = ℕ} (q x) 1 0 ≡ 0 = rw t refl in rw e (omega (arith, w, none_kept h xs, sum_by-cons (λ (y : X). cond (q y) 1 0) x (filter p xs)))
              ]
        ]

    -- where all that are counted pass, or none of them
    count_kept : (b : Bool) → ((x : X) → q x ≡ true → p x ≡ b) → (xs : List X) → count_by q (filter p xs) ≡ cond b (count_by q xs) 0
    count_kept true h xs = all_kept h xs
    count_kept false h xs = none_kept h xs

module _ (chunks : List ChunkPos) (es fs : List Entity) (ns ms : Numbers) (a : AreCounted es ns) where
  alike : (q : ℤ × ℤ) (e : Entity) → stands_in q e ≡ true → in_chunks chunks e ≡ is_key_of chunks q
  alike q e h = ap (is_listed chunks) (same_chunk-true (chunk_of e.at) (chunk_at q) h)

  pub counted_left : fs ≡ filter (λ (e : Entity). not (is_listed chunks (chunk_of e.at))) es → ((q : ℤ × ℤ) → number_of ms q ≡ cond (is_key_of chunks q) 0 (number_of ns q)) → IsStrictlySortedBy by_id fs → AreCounted fs ms
  counted_left rest u s = record {
    order = s;
    numbers = λ q.
        u q ∙ ap (λ n. cond (is_key_of chunks q) 0 n) (a.numbers q) ∙ turned (is_key_of chunks q) (count_by (stands_in q) es)
        ∙ sym (count_kept (λ e. not (in_chunks chunks e)) (stands_in q) (not (is_key_of chunks q)) (λ e h. ap not (alike q e h)) es)
        ∙ ap (count_by (stands_in q)) (sym rest);
  }
    where
      turned : (b : Bool) (n : ℕ) → cond b 0 n ≡ cond (not b) n 0
      turned true n = refl
      turned false n = refl

  pub counted_more : (is js : List Entity) (ks ls : Numbers) → AreCounted is ks → IsPermutation (is ++ filter (λ (e : Entity). is_listed chunks (chunk_of e.at)) es) js
      → ((q : ℤ × ℤ) → number_of ls q ≡ number_of ks q + cond (is_key_of chunks q) (number_of ns q) 0) → IsStrictlySortedBy by_id js → AreCounted js ls
  counted_more is js ks ls b m u s = record {
    order = s;
    numbers = λ q.
        omega (
          arith,
          u q,
          b.numbers q,
          ap (λ n. cond (is_key_of chunks q) n 0) (a.numbers q),
          count_kept (in_chunks chunks) (stands_in q) (is_key_of chunks q) (alike q) es,
          sum_by-append (λ (x : Entity). cond (stands_in q x) 1 0) is (filter (in_chunks chunks) es),
          sum_by-IsPermutation (λ (x : Entity). cond (stands_in q x) 1 0) (is ++ filter (in_chunks chunks) es) js m,
        );
  }

-- ---- one chunk more
chunk_key : (c : ChunkPos) (q : ℤ × ℤ) → same_chunk (chunk_at q) c ≡ same_key (c.x, c.z) q
unfolding same_chunk
chunk_key c q = key_laws.symm q (c.x, c.z)

module _ (chunks : List ChunkPos) (i : ℕ) (d : ChunkPos) (l : i < length chunks) where
  abbrev key : ℤ × ℤ
  key = ((get_or chunks i d).x, (get_or chunks i d).z)

  key_more : (q : ℤ × ℤ) → is_key_of (take (i + 1) chunks) q ≡ (is_key_of (take i chunks) q || same_key key q)
  key_more q = listed_more chunks i d (chunk_at q) l ∙ ap (λ b. is_key_of (take i chunks) q || b) (chunk_key (get_or chunks i d) q)

  pub total_more : (ns : Numbers) → total_of ns (take (i + 1) chunks) ≡ total_of ns (take i chunks) + number_of ns key
  total_more ns = sum_by_more (λ (c : ChunkPos). number_of ns (c.x, c.z)) chunks i d l

  pub total_within : (ns : Numbers) → total_of ns (take (i + 1) chunks) ≤ total_of ns chunks
  total_within ns = sum_by-take-le (λ (c : ChunkPos). number_of ns (c.x, c.z)) chunks (i + 1)

  module _ (s : IsStrictlySortedBy chunk_cmp chunks) (ns ms : Numbers) where
    key_new : is_key_of (take i chunks) key ≡ false
    key_new = not_before chunks i d s l

    module _ (left : (q : ℤ × ℤ) → number_of ms q ≡ cond (is_key_of (take i chunks) q) 0 (number_of ns q)) where
      pub number_stays : number_of ms key ≡ number_of ns key
      number_stays = left key ∙ ap (λ b. cond b 0 (number_of ns key)) key_new

      pub left_more : (us : Numbers) → ((q : ℤ × ℤ) → number_of us q ≡ cond (same_key key q) 0 (number_of ms q)) → (q : ℤ × ℤ) → number_of us q ≡ cond (is_key_of (take (i + 1) chunks) q) 0 (number_of ns q)
      left_more us u q = u q ∙ ap (λ n. cond (same_key key q) 0 n) (left q) ∙ either (is_key_of (take i chunks) q) (same_key key q) (number_of ns q) ∙ ap (λ b. cond b 0 (number_of ns q)) (sym (key_more q))
        where
          either : (a b : Bool) (n : ℕ) → cond b 0 (cond a 0 n) ≡ cond (a || b) 0 n
          either true true n = refl
          either true false n = refl
          either false b n = refl

      module _ (ks ls : Numbers) (moved : (q : ℤ × ℤ) → number_of ls q ≡ number_of ks q + cond (is_key_of (take i chunks) q) (number_of ns q) 0) where
        pub number_as_before : number_of ls key ≡ number_of ks key
        number_as_before = omega (arith, moved key, ap (λ b. cond b (number_of ns key) 0) key_new)

        pub moved_more : (vs : Numbers) → ((q : ℤ × ℤ) → number_of vs q ≡ number_of ls q + cond (same_key key q) (number_of ms key) 0) → (q : ℤ × ℤ)
            → number_of vs q ≡ number_of ks q + cond (is_key_of (take (i + 1) chunks) q) (number_of ns q) 0
        moved_more vs u q =
            elim (cases_Bool (same_key key q)) [
              | inl t ↦
                  let same : key ≡ q = key_same key q t in
                  let new : is_key_of (take i chunks) q ≡ false = ap (is_key_of (take i chunks)) (sym same) ∙ key_new in
                  let number : number_of ms key ≡ number_of ns q = number_stays ∙ ap (number_of ns) same in
                  let more : is_key_of (take (i + 1) chunks) q ≡ true = key_more q ∙ ap (λ b. b || same_key key q) new ∙ t in
                  omega (arith, number, u q, moved q, ap (λ b. cond b (number_of ns q) 0) new, ap (λ b. cond b (number_of ns q) 0) more, ap (λ b. cond b (number_of ms key) 0) t)
              | inr n ↦
                  let more : is_key_of (take (i + 1) chunks) q ≡ is_key_of (take i chunks) q = key_more q ∙ ap (λ b. is_key_of (take i chunks) q || b) n ∙ or_false (is_key_of (take i chunks) q) in
                  omega (arith, u q, moved q, ap (λ b. cond b (number_of ns q) 0) more, ap (λ b. cond b (number_of ms key) 0) n)
            ]
          where
            or_false : (b : Bool) → (b || false) ≡ b
            or_false true = refl
            or_false false = refl
