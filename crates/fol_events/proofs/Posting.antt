-- The words of an action that may be asked for.
use Rattle.std.proofs.Common.{◌≡◌, ℕ, ◌-◌, ◌<◌, ◌≤◌, refl, sym, ap, subst, ◌∙◌, arith, Bool, true, false, not, ◌&&◌, List, [], ◌∷◌, ◌++◌, drop, length, Some, None, decimal}
use Rattle.std.specs.Prelude.{codes, nat_le}
use Rattle.std.specs.List.{list_all}
use Rattle.std.proofs.lemmas.Bool.{and_parts, and_from, le-leb, leb-true}
use Rattle.fol_model.specs.declared.places.ChunkPos.{ChunkPos}
use Rattle.fol_model.specs.declared.words.Keyword.{Keyword}
use Rattle.fol_model.specs.declared.words.Keyword.TheVariants as keys
use Rattle.fol_model.specs.declared.actions.Action.{Action}
use Rattle.fol_model.specs.declared.actions.Action.TheVariants as action
use Rattle.fol_model.specs.Deed.{Deed, Plain, Wrap, set, copy, load, unload, send, arrive, post, every}
use Rattle.fol_model.specs.Nesting.{deed_of, wrapped, bare}
use Rattle.fol_model.specs.Geometry.{is_chunk, is_block}
use Rattle.fol_model.specs.Limits.{is_delay, is_count, is_plain, is_wrap, is_post, is_arrival, is_simple, may_post}
use Rattle.fol_model.specs.LineWords.{Word}
use Rattle.fol_model.specs.TextForms.{key_of, key_spelled}
use Rattle.fol_model.specs.ReportWords.{chunk_words, deed_words}
use Rattle.fol_text_laws.proofs.OneSpelling.{key_again}
use Rattle.fol_text_laws.proofs.Ranges.{in_range, range_in}
use Rattle.fol_events.specs.Pieces.{NoneIn, NotSpelt, one_word}
use Rattle.fol_events.specs.Postable.{IsPostable, IsSimple, NoPlain, posted_words}
use Rattle.fol_events.proofs.Steps.{step}

-- ---- numbers

pub delay_is : (d : ℕ) → 1 ≤ d → d ≤ 1000000 → is_delay d ≡ true
unfolding is_delay
delay_is d l h = in_range 1 d 1000000 l h

pub is_delay_in : (d : ℕ) → is_delay d ≡ true → (1 ≤ d) × (d ≤ 1000000)
unfolding is_delay
is_delay_in d h = range_in 1 d 1000000 h

pub count_is : (n : ℕ) → 1 ≤ n → n ≤ 10000 → is_count n ≡ true
unfolding is_count
count_is n l h = in_range 1 n 10000 l h

pub is_count_in : (n : ℕ) → is_count n ≡ true → (1 ≤ n) × (n ≤ 10000)
unfolding is_count
is_count_in n h = range_in 1 n 10000 h

-- ---- the first word

abbrev pub plain_key : Plain → Keyword
plain_key (set at id) = keys.Set
plain_key (copy at to) = keys.Copy
plain_key (load c) = keys.Load
plain_key (unload c) = keys.Unload
plain_key (send entity to) = keys.Send
plain_key (arrive e) = keys.Arrive

abbrev deed : List Wrap → Plain → Deed
deed xs p = record { wraps = xs; plain = p }

abbrev deed_key : List Wrap → Plain → Keyword
deed_key [] p = plain_key p
deed_key (post c d ∷ xs) p = keys.Post
deed_key (every period left ∷ xs) p = keys.Every

begins : (xs : List Wrap) (p : Plain) → deed_words (deed xs p) ≡ key_spelled (deed_key xs p) ∷ drop 1 (deed_words (deed xs p))
begins [] (set at id) = refl
begins [] (copy at to) = refl
begins [] (load c) = refl
begins [] (unload c) = refl
begins [] (send entity to) = refl
begins [] (arrive e) = refl
begins (post c d ∷ xs) p = refl
begins (every period left ∷ xs) p = refl

same_key : (j k : Keyword) → key_spelled j ≡ key_spelled k → j ≡ k
same_key j k e = let s : Some j ≡ Some k = sym (key_again j) ∙ ap key_of e ∙ key_again k in cc

first_word : (w : Word) (ws : List Word) (xs : List Wrap) (p : Plain) → w ∷ ws ≡ deed_words (deed xs p) → w ≡ key_spelled (deed_key xs p)
first_word w ws xs p e = let b = begins xs p in cc

first_key : (k : Keyword) (ws : List Word) (xs : List Wrap) (p : Plain) → key_spelled k ∷ ws ≡ deed_words (deed xs p) → k ≡ deed_key xs p
first_key k ws xs p e = same_key k (deed_key xs p) (first_word (key_spelled k) ws xs p e)

plain_no_post : (p : Plain) → keys.Post ≡ plain_key p → ⊥
plain_no_post (set at id) e = absurd cc
plain_no_post (copy at to) e = absurd cc
plain_no_post (load c) e = absurd cc
plain_no_post (unload c) e = absurd cc
plain_no_post (send entity to) e = absurd cc
plain_no_post (arrive x) e = absurd cc

-- ---- a post

pub record AsPost (n : ℕ) (ws : List Word) : Type 0 where
  pub chunk : ChunkPos
  pub delay : ℕ
  pub inner : Deed
  pub in_chunk : is_chunk chunk ≡ true
  pub in_delay : is_delay delay ≡ true
  pub simple : IsSimple (n - 1) inner
  pub words_are : ws ≡ chunk_words chunk ++ decimal delay ∷ deed_words inner

at_post : (n : ℕ) (xs : List Wrap) (p : Plain) (ws : List Word) → IsSimple n (deed xs p) → codes "post" ∷ ws ≡ deed_words (deed xs p) → AsPost n ws
at_post n [] p ws h e = absurd (plain_no_post p (first_key keys.Post ws [] p e))
at_post n (every period left ∷ xs) p ws h e = absurd (let k : false ≡ true = h.posts in cc)
at_post n (post c d ∷ xs) p ws h e =
    let all = and_parts (is_wrap (post c d) && list_all is_wrap xs) (is_plain p) h.within in
    let wraps = and_parts (is_wrap (post c d)) (list_all is_wrap xs) all.0 in
    let first = and_parts (is_chunk c) (is_delay d) wraps.0 in
    let few : length (post c d ∷ xs) ≤ n = h.few in
    record {
      chunk = c;
      delay = d;
      inner = deed xs p;
      in_chunk = first.0;
      in_delay = first.1;
      simple = record { posts = h.posts; few = omega arith; no_arrival = h.no_arrival; within = and_from (list_all is_wrap xs) (is_plain p) wraps.1 all.1; entity = h.entity };
      words_are = cc;
    }

pub as_post : (n : ℕ) (d : Deed) (ws : List Word) → IsSimple n d → codes "post" ∷ ws ≡ deed_words d → AsPost n ws
as_post n d ws h e = at_post n d.wraps d.plain ws h e

abbrev deed_some : Deed → Type 0
deed_some d = [] ≡ deed_words d → ⊥

some_words : (d : Deed) → deed_some d
some_words d e = let b = begins d.wraps d.plain in let k : [] ≡ key_spelled (deed_key d.wraps d.plain) ∷ drop 1 (deed_words d) = e ∙ b in absurd cc

-- an action has a word
pub no_words : (n : ℕ) (ws : List Word) → ws ≡ [] → NotSpelt deed_words (IsSimple n) ws
no_words n ws none d h e = some_words d (sym none ∙ e)

at_post_word : (n : ℕ) (w : Word) (ws : List Word) (d : Deed) → w ≡ codes "post" → IsSimple n d → w ∷ ws ≡ deed_words d → AsPost n ws
at_post_word n w ws d first h e = as_post n d ws h (ap (λ (x : Word). x ∷ ws) (sym first) ∙ e)

-- where no chunk, no delay or no action inside follows, there is no post

pub no_chunk : (n : ℕ) (w : Word) (ws : List Word) → w ≡ codes "post" → NoneIn chunk_words (λ c. is_chunk c ≡ true) ws → NotSpelt deed_words (IsSimple n) (w ∷ ws)
no_chunk n w ws first none d h e = let p = at_post_word n w ws d first h e in none p.chunk (decimal p.delay ∷ deed_words p.inner) p.in_chunk p.words_are

pub no_delay : (n : ℕ) (w : Word) (ws now : List Word) (c : ChunkPos) → w ≡ codes "post" → ws ≡ chunk_words c ++ now → NoneIn one_word (λ k. (1 ≤ k) × (k ≤ 1000000)) now → NotSpelt deed_words (IsSimple n) (w ∷ ws)
no_delay n w ws now c first f none d h e = let p = at_post_word n w ws d first h e in none p.delay (deed_words p.inner) (is_delay_in p.delay p.in_delay) (step 2 f p.words_are)

pub no_inner : (n : ℕ) (w : Word) (ws now next : List Word) (c : ChunkPos) (k : ℕ) → w ≡ codes "post" → ws ≡ chunk_words c ++ now → now ≡ decimal k ∷ next → NotSpelt deed_words (IsSimple (n - 1)) next → NotSpelt deed_words (IsSimple n) (w ∷ ws)
no_inner n w ws now next c k first f g none d h e = let p = at_post_word n w ws d first h e in none p.inner p.simple (step 1 g (step 2 f p.words_are))

pub post_words : (w : Word) (ws now next : List Word) (c : ChunkPos) (k : ℕ) (d : Deed) → w ≡ codes "post" → ws ≡ chunk_words c ++ now → now ≡ decimal k ∷ next → next ≡ deed_words d → w ∷ ws ≡ deed_words (wrapped (post c k) d)
post_words w ws now next c k d first f g e = cc

pub simple_post : (n : ℕ) (c : ChunkPos) (d : ℕ) (inner : Deed) → 0 < n → is_chunk c ≡ true → is_delay d ≡ true → IsSimple (n - 1) inner → IsSimple n (wrapped (post c d) inner)
simple_post n c d inner some chunk delay h =
    let few : length inner.wraps ≤ n - 1 = h.few in
    let all = and_parts (list_all is_wrap inner.wraps) (is_plain inner.plain) h.within in
    record {
      posts = h.posts;
      few = omega arith;
      no_arrival = h.no_arrival;
      within = and_from (is_wrap (post c d) && list_all is_wrap inner.wraps) (is_plain inner.plain) (and_from (is_wrap (post c d)) (list_all is_wrap inner.wraps) (and_from (is_chunk c) (is_delay d) chunk delay) all.0) all.1;
      entity = h.entity;
    }

-- ---- nothing round it

at_no_post : (n : ℕ) (w : Word) (ws : List Word) → NotSpelt deed_words (IsSimple 0) (w ∷ ws) → ((0 < n) × (w ≡ codes "post") → ⊥) → (xs : List Wrap) (p : Plain) → IsSimple n (deed xs p) → w ∷ ws ≡ deed_words (deed xs p) → ⊥
at_no_post n w ws none why [] p h e = none (deed [] p) (record { posts = refl; few = omega arith; no_arrival = h.no_arrival; within = h.within; entity = h.entity }) e
at_no_post n w ws none why (every period left ∷ xs) p h e = absurd (let k : false ≡ true = h.posts in cc)
at_no_post n w ws none why (post c d ∷ xs) p h e = let few : length (post c d ∷ xs) ≤ n = h.few in why (omega arith, first_word w ws (post c d ∷ xs) p e)

-- where no post begins, what is not spelt bare is not spelt at all
pub no_post : (n : ℕ) (w : Word) (ws : List Word) → NotSpelt deed_words (IsSimple 0) (w ∷ ws) → ((0 < n) × (w ≡ codes "post") → ⊥) → NotSpelt deed_words (IsSimple n) (w ∷ ws)
no_post n w ws none why d h e = at_no_post n w ws none why d.wraps d.plain h e

no_plain : (p : Plain) (ws : List Word) → NoPlain (plain_key p) ws → IsSimple 0 (bare p) → key_spelled (plain_key p) ∷ ws ≡ deed_words (bare p) → ⊥
no_plain (set at id) ws none h e = let p = and_parts (is_block at) (nat_le id 65535) h.within in none at id p.0 (leb-true id 65535 p.1) cc
no_plain (copy at to) ws none h e = let p = and_parts (is_block at) (is_block to) h.within in none at to p.0 p.1 cc
no_plain (load c) ws none h e = none c h.within cc
no_plain (unload c) ws none h e = none c h.within cc
no_plain (send entity to) ws none h e = none entity to h.entity h.within cc
no_plain (arrive x) ws none h e = absurd (let k : true ≡ false = h.no_arrival in cc)

at_no_key : (key : Keyword) (ws : List Word) → NoPlain key ws → (xs : List Wrap) (p : Plain) → IsSimple 0 (deed xs p) → key_spelled key ∷ ws ≡ deed_words (deed xs p) → ⊥
at_no_key key ws none (x ∷ xs) p h e = absurd (let few : length (x ∷ xs) ≤ 0 = h.few in omega arith)
at_no_key key ws none [] p h e =
    let k : key ≡ plain_key p = first_key key ws [] p e in
    no_plain p ws (subst (λ (x : Keyword). NoPlain x ws) k none) h (ap (λ (x : Keyword). key_spelled x ∷ ws) (sym k) ∙ e)

pub no_key : (key : Keyword) (ws : List Word) → NoPlain key ws → NotSpelt deed_words (IsSimple 0) (key_spelled key ∷ ws)
no_key key ws none d h e = at_no_key key ws none d.wraps d.plain h e

-- a word that is no key begins no action
pub no_word : (w : Word) (ws : List Word) → key_of w ≡ None → NotSpelt deed_words (IsSimple 0) (w ∷ ws)
no_word w ws none d h e =
    let k : key_of w ≡ Some (deed_key d.wraps d.plain) = ap key_of (first_word w ws d.wraps d.plain e) ∙ key_again (deed_key d.wraps d.plain) in
    let n : None ≡ Some (deed_key d.wraps d.plain) = sym none ∙ k in
    absurd cc

-- ---- a task that repeats, and one that does not

simple_is : (d : Deed) → IsSimple 7 d → is_simple d ≡ true
simple_is d h = and_from (list_all is_post d.wraps) (nat_le (length d.wraps) 7 && not (is_arrival d.plain)) h.posts (and_from (nat_le (length d.wraps) 7) (not (is_arrival d.plain)) (le-leb (length d.wraps) 7 h.few) (ap not h.no_arrival))

no_arrival_is : (b : Bool) → not b ≡ true → b ≡ false
no_arrival_is true e = absurd cc
no_arrival_is false e = refl

pub record SimpleParts (d : Deed) : Type 0 where
  pub posts : list_all is_post d.wraps ≡ true
  pub few : length d.wraps ≤ 7
  pub no_arrival : is_arrival d.plain ≡ false

simple_parts : (d : Deed) → is_simple d ≡ true → SimpleParts d
simple_parts d h =
    let a = and_parts (list_all is_post d.wraps) (nat_le (length d.wraps) 7 && not (is_arrival d.plain)) h in
    let b = and_parts (nat_le (length d.wraps) 7) (not (is_arrival d.plain)) a.1 in
    record { posts = a.0; few = leb-true (length d.wraps) 7 b.0; no_arrival = no_arrival_is (is_arrival d.plain) b.1 }

pub every_postable : (period left : ℕ) (inner : Deed) → is_delay period ≡ true → is_count left ≡ true → IsSimple 7 inner → IsPostable (action.Every period left inner)
every_postable period left inner delay count h =
    let all = and_parts (list_all is_wrap inner.wraps) (is_plain inner.plain) h.within in
    record {
      action = and_from (is_wrap (every period left) && list_all is_wrap inner.wraps) (is_plain inner.plain) (and_from (is_wrap (every period left)) (list_all is_wrap inner.wraps) (and_from (is_delay period) (is_count left) delay count) all.0) all.1;
      may_post = simple_is inner h;
      entity = h.entity;
    }

pub record AsEvery (ws : List Word) : Type 0 where
  pub period : ℕ
  pub left : ℕ
  pub inner : Deed
  pub in_delay : is_delay period ≡ true
  pub in_count : is_count left ≡ true
  pub simple : IsSimple 7 inner
  pub words_are : ws ≡ decimal period ∷ decimal left ∷ deed_words inner

pub as_every : (a : Action) (ws : List Word) → IsPostable a → codes "every" ∷ ws ≡ posted_words a → AsEvery ws
as_every (action.Set at id) ws h e = absurd (let k = first_key keys.Every ws [] (set at id) e in cc)
as_every (action.Copy at to) ws h e = absurd (let k = first_key keys.Every ws [] (copy at to) e in cc)
as_every (action.Load c) ws h e = absurd (let k = first_key keys.Every ws [] (load c) e in cc)
as_every (action.Unload c) ws h e = absurd (let k = first_key keys.Every ws [] (unload c) e in cc)
as_every (action.Send entity to) ws h e = absurd (let k = first_key keys.Every ws [] (send entity to) e in cc)
as_every (action.Arrive x) ws h e = absurd (let k = first_key keys.Every ws [] (arrive x) e in cc)
as_every (action.Post c d inner) ws h e = absurd (let k = first_key keys.Every ws (post c d ∷ inner.wraps) inner.plain e in cc)
as_every (action.Every period left inner) ws h e =
    let all = and_parts (is_wrap (every period left) && list_all is_wrap inner.wraps) (is_plain inner.plain) h.action in
    let wraps = and_parts (is_wrap (every period left)) (list_all is_wrap inner.wraps) all.0 in
    let first = and_parts (is_delay period) (is_count left) wraps.0 in
    let s = simple_parts inner h.may_post in
    record {
      period = period;
      left = left;
      inner = inner;
      in_delay = first.0;
      in_count = first.1;
      simple = record { posts = s.posts; few = s.few; no_arrival = s.no_arrival; within = and_from (list_all is_wrap inner.wraps) (is_plain inner.plain) wraps.1 all.1; entity = h.entity };
      words_are = cc;
    }

-- where no period, no count or no action inside follows, there is no task that repeats

pub no_period : (ws : List Word) → NoneIn one_word (λ k. (1 ≤ k) × (k ≤ 1000000)) ws → NotSpelt posted_words IsPostable (key_spelled keys.Every ∷ ws)
no_period ws none a h e = let p = as_every a ws h e in none p.period (decimal p.left ∷ deed_words p.inner) (is_delay_in p.period p.in_delay) p.words_are

pub no_left : (ws now : List Word) (k : ℕ) → ws ≡ decimal k ∷ now → NoneIn one_word (λ j. (1 ≤ j) × (j ≤ 10000)) now → NotSpelt posted_words IsPostable (key_spelled keys.Every ∷ ws)
no_left ws now k f none a h e = let p = as_every a ws h e in none p.left (deed_words p.inner) (is_count_in p.left p.in_count) (step 1 f p.words_are)

pub no_repeated : (ws now next : List Word) (k j : ℕ) → ws ≡ decimal k ∷ now → now ≡ decimal j ∷ next → NotSpelt deed_words (IsSimple 7) next → NotSpelt posted_words IsPostable (key_spelled keys.Every ∷ ws)
no_repeated ws now next k j f g none a h e = let p = as_every a ws h e in none p.inner p.simple (step 1 g (step 1 f p.words_are))

pub every_words : (ws now next : List Word) (k j : ℕ) (d : Deed) → ws ≡ decimal k ∷ now → now ≡ decimal j ∷ next → next ≡ deed_words d → key_spelled keys.Every ∷ ws ≡ deed_words (wrapped (every k j) d)
every_words ws now next k j d f g e = cc

-- an action that does not repeat

pub postable_no_arrival : (a : Action) → may_post a ≡ true → is_arrival (deed_of a).plain ≡ false
postable_no_arrival (action.Set at id) h = refl
postable_no_arrival (action.Copy at to) h = refl
postable_no_arrival (action.Load c) h = refl
postable_no_arrival (action.Unload c) h = refl
postable_no_arrival (action.Send entity to) h = refl
postable_no_arrival (action.Arrive x) h = absurd cc
postable_no_arrival (action.Post c d inner) h = (simple_parts inner (and_parts (nat_le (length inner.wraps) 6) (is_simple inner) h).1).no_arrival
postable_no_arrival (action.Every period left inner) h = (simple_parts inner h).no_arrival
