-- Each step on the queue keeps the rule. They are lemmas on the notes, whatever the queue holds and the other passes note.
use Rattle.std.proofs.Common.{◌≡◌, ◌≢◌, ℕ, ◌+◌, ◌<◌, Bool, true≢false, nat_eq, if◌then◌else◌, List, [], ◌∷◌, ◌++◌, length, set, map, All, Contains, sym, refl, ap, ◌∙◌, subst, inl, inr, ⊎_elim, arith, append_assoc}
use mathlib.Core.Option.{some}
use lib.ListN.{get_elem?}
use Rattle.std.proofs.lemmas.Bool.{cases_Bool}
use Rattle.std.proofs.lemmas.List.Elements.{All-nil, All-cons, All-head, All-append, All-push, All-map, All-contains, All-weaker}
use Rattle.crossbeam_queue.specs.Fifo.{Pushes, Pops, Forks, Merges, Learns}
use Rattle.crossbeam_queue.proofs.Lists.{at_set}
use Rattle.fol_inbox.specs.declared.letter.Letter.{Letter}
use Rattle.fol_inbox.specs.declared.notes.Claim.{Claim}
use Rattle.fol_inbox.specs.declared.notes.Notes.{Notes}
use Rattle.fol_inbox.specs.Notes.{claim, first_notes, drainer_notes, last_notes, sender_notes, spent_notes, notes_sent, notes_taken, notes_left}
use Rattle.fol_inbox.specs.Rule.{sent_by, HasSent, AreSent, ClaimsAll, IsClaimed, Books, CanPost, IsLetter, Fits, Ruled}
use Rattle.fol_inbox.proofs.Lists.{eq_true, eq_false, sent_more, sent_other, sent_none, snoc_at, only_at, inside}

-- one view changes
all_set : (F : ℕ → Notes → Type 0) (views : List Notes) (pass : ℕ) (w : Notes) → F pass w → ((j : ℕ) (u : Notes) → j ≢ pass → get_elem? views j ≡ some u → F j u) → (j : ℕ) (u : Notes) → get_elem? (set views pass w) j ≡ some u → F j u
all_set F views pass w mine others j u e = ⊎_elim (λ (t : (j ≡ pass) × (w ≡ u)). subst (λ (y : ℕ × Notes). F y.0 y.1) (λ i. (sym t.0 i, t.1 i)) mine)
    (λ (t : (j ≢ pass) × (get_elem? views j ≡ some u)). others j u t.0 t.1) (at_set views pass j w u e)

abbrev each_set : (books : Books) (items : List Letter) (views : List Notes) (pass : ℕ) (w : Notes) → Fits books items pass w
    → ((j : ℕ) (u : Notes) → j ≢ pass → get_elem? views j ≡ some u → Fits books items j u)
    → (j : ℕ) (u : Notes) → get_elem? (set views pass w) j ≡ some u → Fits books items j u
each_set books items = all_set (Fits books items)

-- a claim among them is owned here
owned : (dealt : ℕ) (owner : ℕ → ℕ) (all : List Letter) (pass : ℕ) (cs : List Claim) → All (IsClaimed dealt owner all pass) cs → (n : ℕ) → Contains (map (λ (c : Claim). c.number) cs) n → owner n ≡ pass
owned dealt owner all pass cs claims n there = All-contains (λ (m : ℕ). owner m ≡ pass) (map (λ (c : Claim). c.number) cs) n
    (All-map (λ (m : ℕ). owner m ≡ pass) (λ (c : Claim). c.number) cs (All-weaker (IsClaimed dealt owner all pass) (λ (c : Claim). owner c.number ≡ pass) (λ c y. y.owned) cs claims)) there

idle : (books : Books) (items : List Letter) (pass : ℕ) → Fits books items pass spent_notes
idle books items pass = record { claims = All-nil (IsClaimed books.dealt books.owner (books.taken ++ items) pass); drains = λ e. absurd (true≢false (sym e)); alone = λ e. absurd (true≢false (sym e)) }

pub begins : Ruled [] (first_notes ∷ [])
begins = record {
  books = record { taken = []; dealt = 0; drainer = 0; owner = λ n. 0 };
  authors = All-nil (IsLetter 0);
  each = λ j v e. let t = only_at first_notes v j e in subst (λ (y : ℕ × Notes). Fits (record { taken = []; dealt = 0; drainer = 0; owner = λ n. 0 }) [] y.0 y.1) (λ i. (sym t.0 i, t.1 i))
      record { claims = All-nil (IsClaimed 0 (λ n. 0) [] 0); drains = λ e. (refl, refl, refl); alone = λ e. absurd (true≢false (sym e)) };
}

-- a letter of sender k
pub sends : (n pass k : ℕ) (sent : List Letter) (x : Letter) → x.sender ≡ k → CanPost x → Pushes Ruled n pass (sender_notes k sent) x (λ w. w ≡ notes_sent (sender_notes k sent) x)
sends n pass k sent x of may items views room h at =
    let b = h.books in
    let all = b.taken ++ items in
    let more : b.taken ++ (items ++ x ∷ []) ≡ all ++ x ∷ [] = sym (append_assoc b.taken items (x ∷ [])) in
    let cl = All-head (IsClaimed b.dealt b.owner all pass) (claim k sent) [] (h.each pass (sender_notes k sent) at).claims in
    let P : List Letter → Type 0 = λ l. All (IsLetter b.dealt) l in (
      sender_notes k (sent ++ x ∷ []),
      record {
        books = b;
        authors = subst P (sym more) (All-push (IsLetter b.dealt) all x h.authors (subst (λ (m : ℕ). m < b.dealt) (sym of) cl.low, may));
        each = each_set b (items ++ x ∷ []) views pass (sender_notes k (sent ++ x ∷ []))
            record {
              claims = All-cons (IsClaimed b.dealt b.owner (b.taken ++ (items ++ x ∷ [])) pass) (claim k (sent ++ x ∷ [])) []
                  record { sent = ap (λ l. sent_by k l) more ∙ (sent_more k all x of ∙ ap (λ l. l ++ x ∷ []) cl.sent); low = cl.low; owned = cl.owned }
                  (All-nil (IsClaimed b.dealt b.owner (b.taken ++ (items ++ x ∷ [])) pass));
              drains = λ e. absurd (true≢false (sym e));
              alone = λ e. absurd (true≢false (sym e));
            }
            (λ j u other e. let f = h.each j u e in record {
              claims = All-weaker (IsClaimed b.dealt b.owner all j) (IsClaimed b.dealt b.owner (b.taken ++ (items ++ x ∷ [])) j)
                  (λ c y. record {
                    sent = ap (λ l. sent_by c.number l) more ∙ (sent_other c.number all x (λ same. other (sym y.owned ∙ (ap b.owner (sym same ∙ of) ∙ cl.owned))) ∙ y.sent);
                    low = y.low;
                    owned = y.owned;
                  }) u.claims f.claims;
              drains = f.drains;
              alone = λ so. absurd (other (sym ((f.alone so).2 k cl.low) ∙ cl.owned));
            });
      },
      refl,
    )

-- what a step of the drainer leaves to the others
module _ (b b' : Books) (items items' : List Letter) (pass : ℕ) (here : pass ≡ b.drainer) where
  apart : (j : ℕ) (u : Notes) → j ≢ pass → Fits b items j u
      → ((c : Claim) → IsClaimed b.dealt b.owner (b.taken ++ items) j c → IsClaimed b'.dealt b'.owner (b'.taken ++ items') j c) → Fits b' items' j u
  apart j u other f claims = record {
    claims = All-weaker (IsClaimed b.dealt b.owner (b.taken ++ items) j) (IsClaimed b'.dealt b'.owner (b'.taken ++ items') j) claims u.claims f.claims;
    drains = λ e. absurd (other ((f.drains e).0 ∙ sym here));
    alone = λ e. absurd (other ((f.alone e).0 ∙ sym here));
  }

module _ (pass d : ℕ) (t : List Letter) (cs : List Claim) where
  pub takes : Pops Ruled pass (drainer_notes d t cs) (λ x w. (w ≡ notes_taken (drainer_notes d t cs) x) × IsLetter d x)
  takes x items views h at =
      let b = h.books in
      let f = h.each pass (drainer_notes d t cs) at in
      let k = f.drains refl in
      let b' : Books = record { taken = b.taken ++ x ∷ []; dealt = b.dealt; drainer = b.drainer; owner = b.owner } in
      let same : b.taken ++ x ∷ items ≡ (b.taken ++ x ∷ []) ++ items = sym (append_assoc b.taken (x ∷ []) items) in (
        drainer_notes d (t ++ x ∷ []) cs,
        record {
          books = b';
          authors = subst (λ l. All (IsLetter b.dealt) l) same h.authors;
          each = each_set b' items views pass (drainer_notes d (t ++ x ∷ []) cs)
              record {
                claims = subst (λ l. All (IsClaimed b.dealt b.owner l pass) cs) same f.claims;
                drains = λ e. (k.0, ap (λ l. l ++ x ∷ []) k.1, k.2);
                alone = λ e. absurd (true≢false (sym e));
              }
              (λ j u other e. apart b b' (x ∷ items) items pass k.0 j u other (h.each j u e) (λ c y. subst (λ l. IsClaimed b.dealt b.owner l j c) same y));
        },
        (refl, subst (λ (n : ℕ). IsLetter n x) (sym k.2) (All-contains (IsLetter b.dealt) (b.taken ++ x ∷ items) x h.authors (inside b.taken x items))),
      )

  pub deals : Forks Ruled pass (drainer_notes d t cs) (drainer_notes (d + 1) t cs) (sender_notes d [])
  deals items views h at =
      let b = h.books in
      let f = h.each pass (drainer_notes d t cs) at in
      let k = f.drains refl in
      let left : Notes = drainer_notes (d + 1) t cs in
      let right : Notes = sender_notes d [] in
      let vs : List Notes = set views pass left in
      let owner : ℕ → ℕ = λ n. if nat_eq n b.dealt then length vs else b.owner n in
      let b' : Books = record { taken = b.taken; dealt = b.dealt + 1; drainer = b.drainer; owner = owner } in
      let all = b.taken ++ items in
      let goes_on : (j : ℕ) (c : Claim) → IsClaimed b.dealt b.owner all j c → IsClaimed (b.dealt + 1) owner all j c
      = λ j c y. let low = y.low in record { sent = y.sent; low = omega arith; owned = ap (λ (z : Bool). if z then length vs else b.owner c.number) (eq_false c.number b.dealt (λ e. absurd (omega arith))) ∙ y.owned } in
      let old : (j : ℕ) (u : Notes) → get_elem? vs j ≡ some u → Fits b' items j u
      = each_set b' items views pass left
      record {
        claims = All-weaker (IsClaimed b.dealt b.owner all pass) (IsClaimed (b.dealt + 1) owner all pass) (goes_on pass) cs f.claims;
        drains = λ e. (k.0, k.1, ap (λ n. n + 1) k.2);
        alone = λ e. absurd (true≢false (sym e));
      }
      (λ j u other e. apart b b' items items pass k.0 j u other (h.each j u e) (goes_on j)) in
      let new : Fits b' items (length vs) right
      = record {
        claims = All-cons (IsClaimed (b.dealt + 1) owner all (length vs)) (claim d []) []
            record {
              sent = ap (λ n. sent_by n all) k.2 ∙ sent_none b.dealt all (All-weaker (IsLetter b.dealt) (λ (l : Letter). l.sender < b.dealt) (λ l y. y.0) all h.authors);
              low = let e = k.2 in omega arith;
              owned = ap (λ (z : Bool). if z then length vs else b.owner d) (eq_true d b.dealt k.2);
            }
            (All-nil (IsClaimed (b.dealt + 1) owner all (length vs)));
        drains = λ e. absurd (true≢false (sym e));
        alone = λ e. absurd (true≢false (sym e));
      } in record {
        books = b';
        authors = All-weaker (IsLetter b.dealt) (IsLetter (b.dealt + 1)) (λ l y. let low = y.0 in (omega arith, y.1)) all h.authors;
        each = λ j u e. ⊎_elim (λ (z : get_elem? vs j ≡ some u). old j u z)
            (λ (z : (j ≡ length vs) × (right ≡ u)). subst (λ (y : ℕ × Notes). Fits b' items y.0 y.1) (λ i. (sym z.0 i, z.1 i)) new) (snoc_at vs right u j e);
      }

  pub gathers : (other k : ℕ) (sent : List Letter) → Merges Ruled pass (drainer_notes d t cs) other (sender_notes k sent) (drainer_notes d t (cs ++ claim k sent ∷ [])) spent_notes
  gathers other k sent items views h at two there =
      let b = h.books in
      let f = h.each pass (drainer_notes d t cs) at in
      let me = f.drains refl in
      let both : Notes = drainer_notes d t (cs ++ claim k sent ∷ []) in
      let was : get_elem? views other ≡ some (sender_notes k sent)
      = ⊎_elim (λ (z : (other ≡ pass) × (both ≡ sender_notes k sent)). absurd (two z.0)) (λ (z : (other ≢ pass) × (get_elem? views other ≡ some (sender_notes k sent))). z.1) (at_set views pass other both (sender_notes k sent) there) in
      let all = b.taken ++ items in
      let theirs = All-head (IsClaimed b.dealt b.owner all other) (claim k sent) [] (h.each other (sender_notes k sent) was).claims in
      let owner : ℕ → ℕ = λ n. if nat_eq n k then pass else b.owner n in
      let b' : Books = record { taken = b.taken; dealt = b.dealt; drainer = b.drainer; owner = owner } in
      let mine : (c : Claim) → IsClaimed b.dealt b.owner all pass c → IsClaimed b.dealt owner all pass c
      = λ c y. record { sent = y.sent; low = y.low; owned = elim (cases_Bool (nat_eq c.number k)) [ inl z ↦ ap (λ (v : Bool). if v then pass else b.owner c.number) z | inr z ↦ ap (λ (v : Bool). if v then pass else b.owner c.number) z ∙ y.owned ] } in
      let else' : (j : ℕ) → j ≢ other → (c : Claim) → IsClaimed b.dealt b.owner all j c → IsClaimed b.dealt owner all j c
      = λ j ne c y. record { sent = y.sent; low = y.low; owned = ap (λ (v : Bool). if v then pass else b.owner c.number) (eq_false c.number k (λ e. ne (sym y.owned ∙ (ap b.owner e ∙ theirs.owned)))) ∙ y.owned } in
      let now : IsClaimed b.dealt owner all pass (claim k sent)
      = record { sent = theirs.sent; low = theirs.low; owned = ap (λ (v : Bool). if v then pass else b.owner k) (eq_true k k refl) } in record {
        books = b';
        authors = h.authors;
        each = all_set (Fits b' items) (set views pass both) other spent_notes (idle b' items other)
            (λ j u ne e. all_set (λ i v. i ≢ other → Fits b' items i v) views pass both
            (λ _. record {
              claims = All-append (IsClaimed b.dealt owner all pass) cs (claim k sent ∷ []) (All-weaker (IsClaimed b.dealt b.owner all pass) (IsClaimed b.dealt owner all pass) mine cs f.claims)
                  (All-cons (IsClaimed b.dealt owner all pass) (claim k sent) [] now (All-nil (IsClaimed b.dealt owner all pass)));
              drains = λ e. me;
              alone = λ e. absurd (true≢false (sym e));
            })
            (λ i v ni ei no. apart b b' items items pass me.0 i v ni (h.each i v ei) (else' i no)) j u e ne);
      }

  -- the letters that the books have are those of the claims
  are_sent : (b : Books) (all letters : List Letter) → d ≡ b.dealt → letters ≡ all → All (IsClaimed b.dealt b.owner all pass) cs → All (IsLetter b.dealt) all → AreSent (drainer_notes d t cs) letters
  are_sent b all letters dealt same claims authors = record {
    sent = subst (λ l. All (HasSent l) cs) (sym same) (All-weaker (IsClaimed b.dealt b.owner all pass) (HasSent all) (λ c y. y.sent) cs claims);
    authors = subst (λ (y : ℕ × List Letter). All (IsLetter y.0) y.1) (λ i. (sym dealt i, sym same i)) authors;
  }

  -- the drainer has every sender
  pub takes_first : ClaimsAll d cs → Pops Ruled pass (drainer_notes d t cs) (λ x w. (w ≡ notes_left (drainer_notes d t cs) x w.rest) × AreSent (drainer_notes d t cs) ((t ++ x ∷ []) ++ w.rest))
  takes_first whole x items views h at =
      let b = h.books in
      let f = h.each pass (drainer_notes d t cs) at in
      let k = f.drains refl in
      let b' : Books = record { taken = b.taken ++ x ∷ []; dealt = b.dealt; drainer = b.drainer; owner = b.owner } in
      let same : b.taken ++ x ∷ items ≡ (b.taken ++ x ∷ []) ++ items = sym (append_assoc b.taken (x ∷ []) items) in
      let claims : All (IsClaimed b.dealt b.owner ((b.taken ++ x ∷ []) ++ items) pass) cs = subst (λ l. All (IsClaimed b.dealt b.owner l pass) cs) same f.claims in (
        last_notes d (t ++ x ∷ []) cs items,
        record {
          books = b';
          authors = subst (λ l. All (IsLetter b.dealt) l) same h.authors;
          each = each_set b' items views pass (last_notes d (t ++ x ∷ []) cs items)
              record {
                claims = claims;
                drains = λ e. (k.0, ap (λ l. l ++ x ∷ []) k.1, k.2);
                alone = λ e. (k.0, refl, λ n low. owned b.dealt b.owner ((b.taken ++ x ∷ []) ++ items) pass cs claims n (whole n (subst (λ (m : ℕ). n < m) (sym k.2) low)));
              }
              (λ j u other e. apart b b' (x ∷ items) items pass k.0 j u other (h.each j u e) (λ c y. subst (λ l. IsClaimed b.dealt b.owner l j c) same y));
        },
        (refl, are_sent b ((b.taken ++ x ∷ []) ++ items) ((t ++ x ∷ []) ++ items) k.2 (ap (λ l. (l ++ x ∷ []) ++ items) k.1) claims (subst (λ l. All (IsLetter b.dealt) l) same h.authors)),
      )

  pub learns_first : Learns Ruled pass (drainer_notes d t cs) (λ items. AreSent (drainer_notes d t cs) (t ++ items))
  learns_first items views h at =
      let b = h.books in
      let f = h.each pass (drainer_notes d t cs) at in
      let k = f.drains refl in
      are_sent b (b.taken ++ items) (t ++ items) k.2 (ap (λ l. l ++ items) k.1) f.claims h.authors

  -- the one that knows what is left
  pub takes_next : (rest : List Letter) → Pops Ruled pass (last_notes d t cs rest) (λ x w. (rest ≡ x ∷ w.rest) × (w ≡ notes_left (last_notes d t cs rest) x w.rest))
  takes_next rest x items views h at =
      let b = h.books in
      let f = h.each pass (last_notes d t cs rest) at in
      let k = f.drains refl in
      let l = f.alone refl in
      let b' : Books = record { taken = b.taken ++ x ∷ []; dealt = b.dealt; drainer = b.drainer; owner = b.owner } in
      let same : b.taken ++ x ∷ items ≡ (b.taken ++ x ∷ []) ++ items = sym (append_assoc b.taken (x ∷ []) items) in (
        last_notes d (t ++ x ∷ []) cs items,
        record {
          books = b';
          authors = subst (λ l. All (IsLetter b.dealt) l) same h.authors;
          each = each_set b' items views pass (last_notes d (t ++ x ∷ []) cs items)
              record {
                claims = subst (λ l. All (IsClaimed b.dealt b.owner l pass) cs) same f.claims;
                drains = λ e. (k.0, ap (λ l. l ++ x ∷ []) k.1, k.2);
                alone = λ e. (k.0, refl, l.2);
              }
              (λ j u other e. apart b b' (x ∷ items) items pass k.0 j u other (h.each j u e) (λ c y. subst (λ l. IsClaimed b.dealt b.owner l j c) same y));
        },
        (l.1, refl),
      )

  pub learns_next : (rest : List Letter) → Learns Ruled pass (last_notes d t cs rest) (λ items. rest ≡ items)
  learns_next rest items views h at = ((h.each pass (last_notes d t cs rest) at).alone refl).1
