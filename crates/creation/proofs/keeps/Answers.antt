-- `creation::keeps` meets its contract, rule by rule.
-- Assumes nothing.
use Rattle.creation.proofs.keeps.Goals as goal

pub returns-in-Length : goal.returns-in-Length
returns-in-Length c = cc c.keeps_length.ensures

pub returns-in-Fresh : goal.returns-in-Fresh
returns-in-Fresh c = cc c.keeps_fresh.ensures

pub returns-in-Windowed : goal.returns-in-Windowed
returns-in-Windowed c = cc c.keeps_window.ensures
