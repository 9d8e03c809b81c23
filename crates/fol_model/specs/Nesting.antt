-- An action as a deed and back.
use Rattle.std.specs.Prelude.{List, [], ◌∷◌}
use Rattle.fol_model.specs.Deed.{Deed, Plain, Wrap, set, copy, load, unload, send, arrive, post, every}
use Rattle.fol_model.specs.declared.actions.Action.{Action}
use Rattle.fol_model.specs.declared.actions.Action.TheVariants.{Set, Copy, Load, Unload, Post, Send, Arrive, Every}

abbrev pub wrapped : Wrap → Deed → Deed
wrapped w d = record { wraps = w ∷ d.wraps; plain = d.plain }

abbrev pub bare : Plain → Deed
bare p = record { wraps = []; plain = p }

abbrev pub deed_of : Action → Deed
deed_of (Set at id) = bare (set at id)
deed_of (Copy at to) = bare (copy at to)
deed_of (Load chunk) = bare (load chunk)
deed_of (Unload chunk) = bare (unload chunk)
deed_of (Post chunk delay inner) = wrapped (post chunk delay) inner
deed_of (Send entity to) = bare (send entity to)
deed_of (Arrive entity) = bare (arrive entity)
deed_of (Every period left inner) = wrapped (every period left) inner

abbrev pub plain_action : Plain → Action
plain_action (set at id) = Set at id
plain_action (copy at to) = Copy at to
plain_action (load chunk) = Load chunk
plain_action (unload chunk) = Unload chunk
plain_action (send entity to) = Send entity to
plain_action (arrive entity) = Arrive entity

abbrev pub wrap_action : Wrap → Deed → Action
wrap_action (post chunk delay) d = Post chunk delay d
wrap_action (every period left) d = Every period left d

-- the action that a deed is
abbrev pub action_at : List Wrap → Plain → Action
action_at [] p = plain_action p
action_at (w ∷ ws) p = wrap_action w (record { wraps = ws; plain = p })

abbrev pub action_of : Deed → Action
action_of d = action_at d.wraps d.plain
