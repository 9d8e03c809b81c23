-- The end of an inbox.
use Rattle.std.proofs.Common.{◌≡◌, ◌<◌, ℕ, zero, suc, List, [], ◌∷◌, ◌++◌, length, map, All, Contains, sym, refl, ap, ◌∙◌, subst, arith, append_assoc, Option, Some, None}
use Rattle.std.proofs.lemmas.List.Elements.{All-cons, All-weaker, All-map, All-contains}
use Rattle.fol_inbox.specs.declared.letter.Letter.{Letter}
use Rattle.fol_inbox.specs.declared.notes.Claim.{Claim}
use Rattle.fol_inbox.specs.declared.notes.Notes.{Notes}
use Rattle.fol_inbox.specs.Law.{InboxLaw}
use Rattle.fol_inbox.specs.Letters.{held_list}
use Rattle.fol_inbox.specs.Notes.{claim}
use Rattle.fol_inbox.specs.Rest.{TakesOne, left}
use Rattle.fol_inbox.specs.Rule.{AreSent, ClaimsAll, HasSent, IsLetter, sent_by}
use Rattle.fol_inbox.specs.Sending.{AreAllSenders, HasClaim, Pass, Sending}
use Rattle.fol_inbox.proofs.Lists.{inside}

contains_longer : {A : Type 0} (xs ys : List A) (x : A) → Contains xs x → Contains (xs ++ ys) x
contains_longer [] ys x (k, low, is) = absurd (omega arith)
contains_longer (z ∷ zs) ys x (zero, low, is) = (zero, omega arith, is)
contains_longer (z ∷ zs) ys x (suc k, low, is) = let t = contains_longer zs ys x (k, omega arith, is) in let l = t.1 in (suc t.0, omega arith, t.2)

contains_map : {A B : Type 0} (f : A → B) (xs : List A) (x : A) → Contains xs x → Contains (map f xs) (f x)
contains_map f [] x (k, low, is) = absurd (omega arith)
contains_map f (z ∷ zs) x (zero, low, is) = (zero, omega arith, ap f is)
contains_map f (z ∷ zs) x (suc k, low, is) = let t = contains_map f zs x (k, omega arith, is) in let l = t.1 in (suc t.0, omega arith, t.2)

-- one sender more is gathered
pub more_claims : (claims claims' : List Claim) (n : ℕ) (sent : List Letter) (s : Sending) (done : List Sending) → claims' ≡ claims ++ claim n sent ∷ [] → n ≡ s.number → sent ≡ s.sends → All (HasClaim claims) done
    → All (HasClaim claims') (s ∷ done)
more_claims claims claims' n sent s done is num same have = subst (λ (cs : List Claim). All (HasClaim cs) (s ∷ done)) (sym is)
    (All-cons (HasClaim (claims ++ claim n sent ∷ [])) s done (subst (λ (c : Claim). Contains (claims ++ claim n sent ∷ []) c) (λ i. claim (num i) (same i)) (inside claims (claim n sent) []))
    (All-weaker (HasClaim claims) (HasClaim (claims ++ claim n sent ∷ [])) (λ x y. contains_longer claims (claim n sent ∷ []) (claim x.number x.sends) y) done have))

pub all_claims : (d : ℕ) (claims : List Claim) (senders : List Sending) → AreAllSenders d senders → All (HasClaim claims) senders → ClaimsAll d claims
all_claims d claims senders all have n low = All-contains (λ (m : ℕ). Contains (map (λ (c : Claim). c.number) claims) m) (map (λ (s : Sending). s.number) senders) n
    (All-map (λ (m : ℕ). Contains (map (λ (c : Claim). c.number) claims) m) (λ (s : Sending). s.number) senders
    (All-weaker (HasClaim claims) (λ (s : Sending). Contains (map (λ (c : Claim). c.number) claims) s.number) (λ s y. contains_map (λ (c : Claim). c.number) claims (claim s.number s.sends) y) senders have)) (all n low)

-- after the first pop
pub left_sent : (v : Notes) (p : Pass) (first : Option Letter) → v.rest ≡ [] → TakesOne v p.me.view.client first → AreSent v (v.taken ++ left p first)
left_sent v p None none t = subst (λ (l : List Letter). AreSent v (v.taken ++ l)) (sym (ap (λ (w : Notes). w.rest) t.0 ∙ none)) t.1
left_sent v p (Some x) none t = subst (λ (l : List Letter). AreSent v l) (append_assoc v.taken (x ∷ []) p.me.view.client.rest) t.1

pub law_of : (v : Notes) (count : ℕ) (letters rest : List Letter) (held : Option Letter) (senders : List Sending) → v.taken ≡ letters ++ held_list held → v.dealt ≡ count → AreSent v (v.taken ++ rest) → All (HasClaim v.claims) senders
    → InboxLaw count senders ((letters ++ held_list held) ++ rest)
law_of v count letters rest held senders is dealt sent have =
    let all : List Letter = (letters ++ held_list held) ++ rest in
    let now : AreSent v all = subst (λ (l : List Letter). AreSent v (l ++ rest)) is sent in
    record {
      sent = All-weaker (HasClaim v.claims) (λ (s : Sending). sent_by s.number all ≡ s.sends) (λ s y. All-contains (HasSent all) v.claims (claim s.number s.sends) now.sent y) senders have;
      others = subst (λ n. All (λ (l : Letter). l.sender < n) all) dealt (All-weaker (IsLetter v.dealt) (λ (l : Letter). l.sender < v.dealt) (λ l y. y.0) all now.authors);
    }

pub no_items : {A : Type 0} (xs : List A) → length xs ≡ 0 → xs ≡ []
no_items [] e = refl
no_items (x ∷ xs) e = absurd (omega arith)
