-- What is left of a line.
use Rattle.std.specs.Prelude.{List, [], ◌∷◌, ◌++◌, codes, decimal, flat_map, length}
use Rattle.fol_model.specs.LineWords.{Word}
use Rattle.fol_model.specs.ReportWords.{accept_words, action_words, ran_words}
use Rattle.fol_report.specs.declared.rest.Rest.{Rest}
use Rattle.fol_report.specs.declared.rest.Rest.TheVariants.{Done, Deed, Tasks, Answers}

-- its words
abbrev pub rest_words : Rest → List Word
rest_words Done = []
rest_words (Deed action) = action_words action.now
rest_words (Tasks ran accepts) = flat_map ran_words ran.now ++ codes "accepted" ∷ decimal (length accepts.now) ∷ flat_map accept_words accepts.now
rest_words (Answers accepts) = flat_map accept_words accepts.now
