-- What the passes note, and how a step changes it.
use Rattle.std.specs.Prelude.{ℕ, ◌+◌, Bool, true, false, List, [], ◌∷◌, ◌++◌}
use Rattle.fol_inbox.specs.declared.letter.Letter.{Letter}
use Rattle.fol_inbox.specs.declared.notes.Claim.{Claim}
use Rattle.fol_inbox.specs.declared.notes.Notes.{Notes}

abbrev pub claim : ℕ → List Letter → Claim
claim n sent = record { number = n; sent = sent }

abbrev pub notes : Bool → ℕ → List Letter → List Claim → Bool → List Letter → Notes
notes drains dealt taken claims alone rest = record { drains = drains; dealt = dealt; taken = taken; claims = claims; alone = alone; rest = rest }

-- of the pass that takes letters, after so many senders were made
abbrev pub drainer_notes : ℕ → List Letter → List Claim → Notes
drainer_notes dealt taken claims = notes true dealt taken claims false []

abbrev pub first_notes : Notes
first_notes = drainer_notes 0 [] []

-- of the pass that takes letters, when it knows what is left
abbrev pub last_notes : ℕ → List Letter → List Claim → List Letter → Notes
last_notes dealt taken claims rest = notes true dealt taken claims true rest

abbrev pub sender_notes : ℕ → List Letter → Notes
sender_notes n sent = notes false 0 [] (claim n sent ∷ []) false []

-- of a pass that was joined into another
abbrev pub spent_notes : Notes
spent_notes = notes false 0 [] [] false []

-- ---- steps

-- a sender was made
abbrev pub notes_dealing : Notes → Notes
notes_dealing v = notes v.drains (v.dealt + 1) v.taken v.claims v.alone v.rest

-- and these are its notes
abbrev pub notes_dealt : Notes → Notes
notes_dealt v = sender_notes v.dealt []

abbrev pub notes_joined : Notes → Notes → Notes
notes_joined v w = notes v.drains v.dealt v.taken (v.claims ++ w.claims) v.alone v.rest

-- the first of these senders has sent this too
abbrev pub claims_sent : List Claim → Letter → List Claim
claims_sent [] x = []
claims_sent (c ∷ cs) x = claim c.number (c.sent ++ x ∷ []) ∷ cs

-- a letter was sent
abbrev pub notes_sent : Notes → Letter → Notes
notes_sent v x = notes v.drains v.dealt v.taken (claims_sent v.claims x) v.alone v.rest

-- a letter was taken
abbrev pub notes_taken : Notes → Letter → Notes
notes_taken v x = notes v.drains v.dealt (v.taken ++ x ∷ []) v.claims v.alone v.rest

-- and this is what is left
abbrev pub notes_left : Notes → Letter → List Letter → Notes
notes_left v x rest = last_notes v.dealt (v.taken ++ x ∷ []) v.claims rest
