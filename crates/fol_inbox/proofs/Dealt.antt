-- The senders that a new inbox deals.
use Rattle.std.proofs.Common.{◌≡◌, ℕ, zero, suc, ◌+◌, ◌<◌, List, [], ◌∷◌, ◌++◌, length, sym, refl, ap, ◌∙◌, subst, arith, Some, All, length-append}
use Rattle.std.specs.Prelude.{slice_get}
use Rattle.std.specs.Option.{unwrap_or}
use Rattle.std.proofs.lemmas.List.Elements.{All-nil, All-cons}
use mathlib.Core.Logic.{dite}
use native.Mathlib.Decide.{ℕ_discrete}
use Rattle.fol_inbox.specs.Notes.{sender_notes}
use Rattle.fol_inbox.specs.Sending.{Pass, InboxId, Sending, sending, new_sender, first_sent, AreNewSenders}

module _ {X : Type 0} where
  get_longer : (xs ys : List X) (k : ℕ) (x : X) → slice_get xs k ≡ Some x → slice_get (xs ++ ys) k ≡ Some x
  get_longer [] ys k x there = absurd (cc)
  get_longer (z ∷ zs) ys zero x there = there
  get_longer (z ∷ zs) ys (suc k) x there = get_longer zs ys k x there

  get_last : (xs : List X) (x : X) (k : ℕ) → k ≡ length xs → slice_get (xs ++ x ∷ []) k ≡ Some x
  get_last [] x zero last = refl
  get_last [] x (suc k) last = absurd (omega arith)
  get_last (z ∷ zs) x zero last = absurd (omega arith)
  get_last (z ∷ zs) x (suc k) last = get_last zs x k (omega arith)

pub no_senders : (inbox : InboxId) → AreNewSenders inbox 0 []
no_senders inbox = record { as_many = refl; each = λ n low. absurd (omega arith) }

pub one_more : (inbox : InboxId) (count : ℕ) (senders : List Sending) (s : Sending) → s ≡ new_sender inbox count → AreNewSenders inbox count senders → AreNewSenders inbox (count + 1) (senders ++ s ∷ [])
one_more inbox count senders s is new = let as_many = new.as_many in record {
  as_many = length-append senders (s ∷ []) ∙ omega (arith, as_many);
  each = λ n low. dite (ℕ_discrete n count)
      (λ last. get_last senders s n (last ∙ sym as_many) ∙ ap (λ (x : Sending). Some x) (is ∙ ap (λ (i : ℕ). new_sender inbox i) (sym last)))
      (λ before. get_longer senders (s ∷ []) n (new_sender inbox n) (new.each n (omega arith)));
}

pub shows_new : (inbox : InboxId) (n : ℕ) (p : Pass) → p.web ≡ inbox.web → p.heap ≡ inbox.heap → p.me.view.client ≡ sender_notes n [] → sending n p ≡ new_sender inbox n
shows_new inbox n p web heap knows = λ i. record { inbox = record { web = web i; heap = heap i }; number = n; sends = first_sent (knows i).claims }

from_get : {X : Type 0} (P : X → Type 0) (xs : List X) → ((k : ℕ) → k < length xs → (x : X) × (slice_get xs k ≡ Some x) × P x) → All P xs
from_get P [] each = All-nil P
from_get P (x ∷ xs) each =
    let first = each zero (omega arith) in
    All-cons P x xs (subst P (ap (λ o. unwrap_or o x) (sym first.1)) first.2) (from_get P xs (λ k low. each (suc k) (omega arith)))

pub new_inboxes : (inbox : InboxId) (count : ℕ) (senders : List Sending) → AreNewSenders inbox count senders → All (λ (s : Sending). s.inbox ≡ inbox) senders
new_inboxes inbox count senders new = let as_many = new.as_many in from_get (λ (s : Sending). s.inbox ≡ inbox) senders (λ n low. (new_sender inbox n, new.each n (omega arith), refl))
