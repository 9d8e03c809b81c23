-- What a drainer keeps, and what a call does to it, letter by letter.
use Rattle.std.proofs.Common.{◌≡◌, ℕ, zero, suc, ◌+◌, List, [], ◌∷◌, ◌++◌, length, map, take, sym, refl, ap, ◌∙◌, subst, arith, append-nil, append_assoc, length-append, Option, Some, None}
use Rattle.std.specs.Prelude.{◌<◌, Result, Ok, Err, IsErr}
use Rattle.std.specs.declared.alloc.AllocError.{AllocError}
use Rattle.std.proofs.lemmas.List.{map-append}
use lib.ListN.{length-map}
use Rattle.fol_model.specs.declared.events.Entry.{Entry}
use Rattle.fol_live.specs.Goes.{Does, does_both, does_none}
use Rattle.fol_live.specs.Seat.{Shown, held_in}
use Rattle.fol_live.specs.Seat as seats
use Rattle.fol_inbox.specs.declared.drain.Drained.{Drained}
use Rattle.fol_inbox.specs.declared.drain.Step.{Step}
use Rattle.fol_inbox.specs.declared.letter.Letter.{Letter}
use Rattle.fol_inbox.specs.declared.letter.Receipt.{Receipt}
use Rattle.fol_inbox.specs.declared.notes.Notes.{Notes}
use Rattle.fol_inbox.specs.Draining.{Draining, draining}
use Rattle.fol_inbox.specs.Drains.{Drains, IsSameDrainer, PostsMore, PostsNone, PostsOne, Steps, TakesUp}
use Rattle.fol_inbox.specs.Letters.{held_list, post_of, posts_of}
use Rattle.fol_inbox.specs.Notes.{drainer_notes, notes_taken}
use Rattle.fol_inbox.specs.Receipts.{AreReceipts, IsDrainer, letter_names, post_places, receipt_entries, receipt_names}
use Rattle.fol_inbox.specs.Rule.{CanPost}
use Rattle.fol_inbox.specs.Sending.{IsIdle, Pass}

-- ---- lists

take_front : {X : Type 0} (xs ys : List X) (n : ℕ) → length xs ≡ n → take n (xs ++ ys) ≡ xs
take_front [] ys zero e = refl
take_front [] ys (suc n) e = absurd (omega arith)
take_front (x ∷ xs) ys zero e = absurd (omega arith)
take_front (x ∷ xs) ys (suc n) e = ap (λ l. x ∷ l) (take_front xs ys n (omega arith))

posts_append : (n : ℕ) (ls ms : List Letter) (rs qs : List Receipt) → length ls ≡ length rs → posts_of n (ls ++ ms) (rs ++ qs) ≡ posts_of n ls rs ++ posts_of n ms qs
posts_append n [] ms [] qs e = refl
posts_append n [] ms (r ∷ rs) qs e = absurd (omega arith)
posts_append n (l ∷ ls) ms [] qs e = absurd (omega arith)
posts_append n (l ∷ ls) ms (r ∷ rs) qs e = ap (λ es. post_of n l r ∷ es) (posts_append n ls ms rs qs (omega arith))

named_as_many : (ls : List Letter) (rs : List Receipt) → receipt_names rs ≡ letter_names ls → length ls ≡ length rs
named_as_many ls rs same = sym (length-map ls (λ (l : Letter). (l.sender, l.place))) ∙ ap length (sym same) ∙ length-map rs (λ (r : Receipt). (r.sender, r.place))

-- ---- what was taken

-- the letters that a step took from the queue
abbrev fresh : Option Letter → Option Letter → List Letter
fresh (Some m) result = []
fresh None (Some l) = l ∷ []
fresh None None = []

taken_on : (v w : Notes) (held result : Option Letter) → TakesUp v w held result → w.taken ≡ v.taken ++ fresh held result
taken_on v w (Some m) result t = ap (λ (x : Notes). x.taken) t.1 ∙ sym (append-nil v.taken)
taken_on v w None (Some l) t = ap (λ (x : Notes). x.taken) t
taken_on v w None None t = ap (λ (x : Notes). x.taken) t ∙ sym (append-nil v.taken)

notes_on : (v w : Notes) (held result : Option Letter) → TakesUp v w held result → v ≡ drainer_notes v.dealt v.taken [] → w ≡ drainer_notes w.dealt w.taken []
notes_on v w (Some m) result t is = subst (λ (x : Notes). x ≡ drainer_notes x.dealt x.taken []) (sym t.1) is
notes_on v w None (Some l) t is = subst (λ (x : Notes). x ≡ drainer_notes x.dealt x.taken []) (sym t) (ap (λ (x : Notes). notes_taken x l) is)
notes_on v w None None t is = subst (λ (x : Notes). x ≡ drainer_notes x.dealt x.taken []) (sym t) is

dealt_on : (v w : Notes) (held result : Option Letter) → TakesUp v w held result → w.dealt ≡ v.dealt
dealt_on v w (Some m) result t = ap (λ (x : Notes). x.dealt) t.1
dealt_on v w None (Some l) t = ap (λ (x : Notes). x.dealt) t
dealt_on v w None None t = ap (λ (x : Notes). x.dealt) t

-- the letter that was taken up is the last one that was taken
last_taken : (v w : Notes) (ls : List Letter) (held : Option Letter) (l : Letter) → v.taken ≡ ls ++ held_list held → TakesUp v w held (Some l) → w.taken ≡ ls ++ l ∷ []
last_taken v w ls (Some m) l is t = let same : l ≡ m = let e = t.0 in cc in ap (λ (x : Notes). x.taken) t.1 ∙ is ∙ ap (λ (x : Letter). ls ++ x ∷ []) (sym same)
last_taken v w ls None l is t = ap (λ (x : Notes). x.taken) t ∙ ap (λ xs. xs ++ l ∷ []) (is ∙ append-nil ls)

-- ---- one letter

module _ (s since : Shown) (p q : Pass) (rs : List Receipt) (held : Option Letter) (l : Letter) (h : IsDrainer s since p rs held) (idle : IsIdle q) (t : TakesUp p.me.view.client q.me.view.client held (Some l)) where
  ls : List Letter
  ls = take (length rs) p.me.view.client.taken

  as_many : length ls ≡ length rs
  unfolding ls
  as_many = named_as_many ls rs h.law.names

  last : q.me.view.client.taken ≡ ls ++ l ∷ []
  unfolding ls
  last = last_taken p.me.view.client q.me.view.client ls held l h.taken t

  -- ---- it was posted

  module _ (u : Shown) (r : Receipt) (posted : PostsOne s u l r) where
    letters_more : take (length (rs ++ r ∷ [])) q.me.view.client.taken ≡ ls ++ l ∷ []
    letters_more =
        let n : length (ls ++ l ∷ []) ≡ length (rs ++ r ∷ []) = length-append ls (l ∷ []) ∙ ap (λ k. k + 1) as_many ∙ sym (length-append rs (r ∷ [])) in
        ap (λ x. take (length (rs ++ r ∷ [])) x) (last ∙ sym (append-nil (ls ++ l ∷ []))) ∙ take_front (ls ++ l ∷ []) [] (length (rs ++ r ∷ [])) n

    number : s.number ≡ since.number
    number = h.law.does.goes.number

    law_more : AreReceipts (draining u since q (rs ++ r ∷ []) None)
    unfolding ls
    law_more =
        let does : Does since u (posts_of since.number ls rs ++ post_of s.number l r ∷ []) = does_both since s u (posts_of since.number ls rs) (post_of s.number l r ∷ []) h.law.does posted.does in
        let posts : posts_of since.number ls rs ++ post_of s.number l r ∷ [] ≡ posts_of since.number (take (length (rs ++ r ∷ [])) q.me.view.client.taken) (rs ++ r ∷ [])
        = ap (λ n. posts_of since.number ls rs ++ post_of n l r ∷ []) number ∙ sym (posts_append since.number ls (l ∷ []) rs (r ∷ []) as_many)
        ∙ ap (λ xs. posts_of since.number xs (rs ++ r ∷ [])) (sym letters_more) in
        let place : post_places since.number 0 u.seen ≡ post_places since.number 0 s.seen ++ r.entry ∷ [] = subst (λ n. post_places n 0 u.seen ≡ post_places n 0 s.seen ++ r.entry ∷ []) number posted.place in
        record {
          does = subst (λ es. Does since u es) posts does;
          places = place ∙ ap (λ ps. ps ++ r.entry ∷ []) h.law.places ∙ append_assoc (post_places since.number 0 since.seen) (receipt_entries rs) (r.entry ∷ [])
              ∙ ap (λ ps. post_places since.number 0 since.seen ++ ps) (sym (map-append (λ (x : Receipt). x.entry) rs (r ∷ [])));
          names = map-append (λ (x : Receipt). (x.sender, x.place)) rs (r ∷ []) ∙ ap (λ xs. xs ++ (r.sender, r.place) ∷ []) h.law.names
              ∙ ap (λ (x : ℕ × ℕ). letter_names ls ++ x ∷ []) (λ i. (posted.sender i, posted.letter i))
              ∙ sym (map-append (λ (x : Letter). (x.sender, x.place)) ls (l ∷ [])) ∙ ap letter_names (sym letters_more);
        }

    pub drainer_more : IsDrainer u since q (rs ++ r ∷ []) None
    drainer_more = record {
      idle = idle;
      notes = notes_on p.me.view.client q.me.view.client held (Some l) t h.notes;
      taken = last ∙ sym letters_more ∙ sym (append-nil (take (length (rs ++ r ∷ [])) q.me.view.client.taken));
      may = tt;
      no_tick = ap held_in posted.hand ∙ h.no_tick;
      law = law_more;
    }

    pub posts_more : PostsMore 1 (draining s since p rs held) (draining u since q (rs ++ r ∷ []) None)
    unfolding ls
    posts_more = record {
      more = l ∷ [];
      answers = r ∷ [];
      as_many = refl;
      each = refl;
      letters = letters_more;
      receipts = refl;
      does = posted.does;
      taken = fresh held (Some l);
      in_turn = append-nil (take (length (rs ++ r ∷ [])) q.me.view.client.taken) ∙ letters_more ∙ sym last
          ∙ taken_on p.me.view.client q.me.view.client held (Some l) t ∙ ap (λ xs. xs ++ fresh held (Some l)) h.taken;
    }

  -- ---- it was not posted, and is held

  module _ (u : Shown) (may : CanPost l) (none : PostsNone s u) where
    letters_same : take (length rs) q.me.view.client.taken ≡ ls
    letters_same = ap (λ x. take (length rs) x) last ∙ take_front ls (l ∷ []) (length rs) as_many

    pub drainer_holds : IsDrainer u since q rs (Some l)
    unfolding ls
    drainer_holds =
        let posts : posts_of since.number ls rs ++ [] ≡ posts_of since.number (take (length rs) q.me.view.client.taken) rs
        = append-nil (posts_of since.number ls rs) ∙ ap (λ xs. posts_of since.number xs rs) (sym letters_same) in
        record {
          idle = idle;
          notes = notes_on p.me.view.client q.me.view.client held (Some l) t h.notes;
          taken = last ∙ ap (λ xs. xs ++ l ∷ []) (sym letters_same);
          may = may;
          no_tick = ap held_in none.hand ∙ h.no_tick;
          law = record {
            does = subst (λ es. Does since u es) posts (does_both since s u (posts_of since.number ls rs) [] h.law.does none.does);
            places = subst (λ n. post_places n 0 u.seen ≡ post_places n 0 s.seen) h.law.does.goes.number none.place ∙ h.law.places;
            names = h.law.names ∙ ap letter_names (sym letters_same);
          };
        }

    pub posts_none : PostsMore 0 (draining s since p rs held) (draining u since q rs (Some l))
    unfolding ls
    posts_none = record {
      more = [];
      answers = [];
      as_many = refl;
      each = refl;
      letters = letters_same ∙ sym (append-nil ls);
      receipts = sym (append-nil rs);
      does = none.does;
      taken = fresh held (Some l);
      in_turn = ap (λ xs. xs ++ l ∷ []) letters_same ∙ sym last ∙ taken_on p.me.view.client q.me.view.client held (Some l) t ∙ ap (λ xs. xs ++ fresh held (Some l)) h.taken;
    }

-- ---- there was none

none_taken : (v w : Notes) (held : Option Letter) → TakesUp v w held None → (held ≡ None) × (w ≡ v)
none_taken v w (Some m) t = let never = t.0 in absurd (cc)
none_taken v w None t = (refl, t)

module _ (s since : Shown) (p q : Pass) (rs : List Receipt) (held : Option Letter) (h : IsDrainer s since p rs held) (idle : IsIdle q) (t : TakesUp p.me.view.client q.me.view.client held None) where
  same : q.me.view.client ≡ p.me.view.client
  same = (none_taken p.me.view.client q.me.view.client held t).1

  nothing : held ≡ None
  nothing = (none_taken p.me.view.client q.me.view.client held t).0

  pub drainer_empty : IsDrainer s since q rs None
  drainer_empty = record {
    idle = idle;
    notes = notes_on p.me.view.client q.me.view.client held None t h.notes;
    taken = subst (λ (x : Notes × Option Letter). x.0.taken ≡ take (length rs) x.0.taken ++ held_list x.1) (λ i. (sym same i, nothing i)) h.taken;
    may = tt;
    no_tick = h.no_tick;
    law = record {
      does = subst (λ (x : Notes). Does since s (posts_of since.number (take (length rs) x.taken) rs)) (sym same) h.law.does;
      places = h.law.places;
      names = h.law.names ∙ ap (λ (x : Notes). letter_names (take (length rs) x.taken)) (sym same);
    };
  }

  pub posts_empty : PostsMore 0 (draining s since p rs held) (draining s since q rs None)
  posts_empty =
      let ls : List Letter = take (length rs) p.me.view.client.taken in
      let letters : take (length rs) q.me.view.client.taken ≡ ls = ap (λ (x : Notes). take (length rs) x.taken) same in
      record {
        more = [];
        answers = [];
        as_many = refl;
        each = refl;
        letters = letters ∙ sym (append-nil ls);
        receipts = sym (append-nil rs);
        does = does_none s;
        taken = [];
        in_turn = ap (λ xs. xs ++ []) letters ∙ ap (λ (x : Option Letter). ls ++ held_list x) (sym nothing) ∙ sym (append-nil (ls ++ held_list held));
      }

-- ---- whole calls

pub posts_still : (a b : Draining) → b ≡ a → PostsMore 0 a b
posts_still a b same = subst (λ (d : Draining). PostsMore 0 a d) (sym same) record {
  more = [];
  answers = [];
  as_many = refl;
  each = refl;
  letters = sym (append-nil a.letters);
  receipts = sym (append-nil a.receipts);
  does = does_none a.seat;
  taken = [];
  in_turn = sym (append-nil (a.letters ++ held_list a.held));
}

pub posts_both : (m n : ℕ) (a b c : Draining) → PostsMore m a b → PostsMore n b c → PostsMore (m + n) a c
posts_both m n a b c f g =
    let f_many = f.as_many in
    let g_many = g.as_many in
    let f_each = f.each in
    let g_each = g.each in
    let posts : posts_of a.seat.number f.more f.answers ++ posts_of b.seat.number g.more g.answers ≡ posts_of a.seat.number (f.more ++ g.more) (f.answers ++ g.answers)
    = ap (λ k. posts_of a.seat.number f.more f.answers ++ posts_of k g.more g.answers) f.does.goes.number ∙ sym (posts_append a.seat.number f.more g.more f.answers g.answers (f_many ∙ sym f_each)) in
    record {
      more = f.more ++ g.more;
      answers = f.answers ++ g.answers;
      as_many = length-append f.more g.more ∙ omega (arith, f_many, g_many);
      each = length-append f.answers g.answers ∙ omega (arith, f_each, g_each);
      letters = g.letters ∙ ap (λ xs. xs ++ g.more) f.letters ∙ append_assoc a.letters f.more g.more;
      receipts = g.receipts ∙ ap (λ xs. xs ++ g.answers) f.receipts ∙ append_assoc a.receipts f.answers g.answers;
      does = subst (λ es. Does a.seat c.seat es) posts (does_both a.seat b.seat c.seat _ _ f.does g.does);
      taken = f.taken ++ g.taken;
      in_turn = g.in_turn ∙ ap (λ xs. xs ++ g.taken) f.in_turn ∙ append_assoc (a.letters ++ held_list a.held) f.taken g.taken;
    }

-- a call that posted nothing
pub posts_on : (n : ℕ) (a b c : Draining) → PostsMore n a b → PostsMore 0 b c → PostsMore n a c
posts_on n a b c f g = subst (λ (k : ℕ). PostsMore k a c) (omega arith) (posts_both n 0 a b c f g)

pub same_drainer : (a : Draining) → IsSameDrainer a a
same_drainer a = record { inbox = refl; senders = refl; since = refl; lock = refl; number = refl; hand = refl }

pub same_both : (a b c : Draining) → IsSameDrainer a b → IsSameDrainer b c → IsSameDrainer a c
same_both a b c f g = record {
  inbox = g.inbox ∙ f.inbox;
  senders = g.senders ∙ f.senders;
  since = g.since ∙ f.since;
  lock = g.lock ∙ f.lock;
  number = g.number ∙ f.number;
  hand = g.hand ∙ f.hand;
}

-- ---- out of memory

pub steps_err : (a b : Draining) (r : Result Step AllocError) → IsErr r → PostsMore 0 a b → Steps a b r
steps_err a b (Ok s) err more = absurd (cc)
steps_err a b (Err e) err more = more

pub drains_err : (max n : ℕ) (a b : Draining) (r : Result Drained AllocError) → IsErr r → n < max → PostsMore n a b → Drains max a b r
drains_err max n a b (Ok d) err low more = absurd (cc)
drains_err max n a b (Err e) err low more = (n, low, more)

pub new_drainer : (seat since : Shown) (p : Pass) (n : ℕ) → since ≡ seat → seats.held seat ≡ None → IsIdle p → p.me.view.client ≡ drainer_notes n [] [] → IsDrainer seat since p [] None
new_drainer seat since p n is no_tick idle notes = record {
  idle = idle;
  notes = notes ∙ ap (λ (v : Notes). drainer_notes v.dealt v.taken []) (sym notes);
  taken = ap (λ (v : Notes). v.taken) notes;
  may = tt;
  no_tick = no_tick;
  law =
      let none : take 0 p.me.view.client.taken ≡ [] = ap (λ (v : Notes). take 0 v.taken) notes in
      subst (λ (x : Shown). AreReceipts (draining seat x p [] None)) (sym is) record {
        does = subst (λ xs. Does seat seat (posts_of seat.number xs [])) (sym none) (does_none seat);
        places = sym (append-nil (post_places seat.number 0 seat.seen));
        names = ap letter_names (sym none);
      };
}
