-- `run::wanted` meets its contract: what the lengths in bytes can say bounds a size.
-- Assumes nothing.
use Rattle.run.specs.declared.Stage.TheVariants.{Opening, Calls}
use Rattle.run.proofs.Gathering.{wanted_at_most}
use Rattle.run.proofs.wanted.Goals as goal

pub returns-in-Opening-clause-upper_bound : goal.returns-in-Opening-clause-upper_bound
returns-in-Opening-clause-upper_bound c = rw (c.opening_size.ensures, c.in-Opening.is) (wanted_at_most Opening c.args.bytes.now (λ i. (c.type_inv.bytes i).fits))

pub returns-in-Calls-clause-upper_bound : goal.returns-in-Calls-clause-upper_bound
returns-in-Calls-clause-upper_bound c = rw (c.call_size.ensures, c.in-Calls.is) (wanted_at_most Calls c.args.bytes.now (λ i. (c.type_inv.bytes i).fits))
