-- `charge::of_class` meets its contract, class by class.
-- Assumes nothing.
use Rattle.charge.specs.Classes.{of_class}
use Rattle.charge.proofs.of_class.Goals as goal

pub returns-in-Sol : goal.returns-in-Sol
unfolding of_class
returns-in-Sol c = cc c.is_sol.ensures

pub returns-in-Tokens : goal.returns-in-Tokens
unfolding of_class
returns-in-Tokens c = cc c.is_token.ensures
