-- The entries of quiet ticks are of their worker, and signed.
use Rattle.std.proofs.Common.{◌≡◌, ℕ, refl, List, [], ◌∷◌}
use Rattle.std.specs.Prelude.{All}
use Rattle.std.specs.List.{AllByRecursion}
use Rattle.std.proofs.lemmas.List.Elements.{All-nil, All-cons}
use Rattle.fol_model.specs.declared.events.Entry.{Entry}
use Rattle.fol_model.specs.declared.events.Event.TheVariants.{Begin, End}
use Rattle.fol_seat_laws.specs.Signed.{IsSigned}
use Rattle.fol_offers.specs.PassedTicks.{QuietTick, quiet_entries}

module _ (worker : ℕ) where
  pub quiet_own : (ts : List QuietTick) → All (λ (e : Entry). e.by ≡ worker) (quiet_entries worker ts)
  unfolding quiet_entries
  quiet_own [] = All-nil (λ (e : Entry). e.by ≡ worker)
  quiet_own (t ∷ ts) =
      let begin : Entry = record { by = worker; event = Begin worker t.region } in
      let end : Entry = record { by = worker; event = End worker t.region t.counter [] [] } in
      let rest : List Entry = quiet_entries worker ts in
      All-cons (λ (e : Entry). e.by ≡ worker) begin (end ∷ rest) refl (All-cons (λ (e : Entry). e.by ≡ worker) end rest refl (quiet_own ts))

  pub quiet_signed : (ts : List QuietTick) → AllByRecursion IsSigned (quiet_entries worker ts)
  unfolding quiet_entries
  quiet_signed [] = tt
  quiet_signed (t ∷ ts) = ((λ named. refl), ((λ named. refl), quiet_signed ts))
