-- That each public function's contract leaves one outcome: the rules, the judged call and the C functions.
-- Assumes nothing.
use mathlib.Core.Path.{refl}
use Rattle.limit.proofs as limit
use Rattle.limit.specs.contracts as limit-contracts
use Rattle.charge.proofs as charge
use Rattle.charge.specs.contracts as charge-contracts
use Rattle.programs.proofs as programs
use Rattle.programs.specs.contracts as programs-contracts
use Rattle.freeze.proofs as freeze
use Rattle.freeze.specs.contracts as freeze-contracts
use Rattle.outflow.proofs as outflow
use Rattle.outflow.specs.contracts as outflow-contracts
use Rattle.judge.proofs as judge
use Rattle.judge.specs.contracts as judge-contracts
use Rattle.thimbleford.proofs as thimbleford
use Rattle.thimbleford.specs.contracts as thimbleford-contracts
use Rattle.outcomes.specs.Outcome.{OneOutcome}
use Rattle.outcomes.proofs.Laws.{both, one-outcome}

pub limit-rule_answer : OneOutcome limit-contracts.rule_answer.ended limit.rule_answer.Reads.Pre limit.rule_answer.Reads.Post
limit-rule_answer _ _ = (tt, λ _ _ p q. both (one-outcome p q) refl)

pub limit-change_of : OneOutcome limit-contracts.change_of.ended limit.change_of.Reads.Pre limit.change_of.Reads.Post
limit-change_of _ _ = (tt, λ _ _ p q. both (one-outcome p q) refl)

pub charge-class_answer : OneOutcome charge-contracts.class_answer.ended charge.class_answer.Reads.Pre charge.class_answer.Reads.Post
charge-class_answer _ _ = (tt, λ _ _ p q. both (one-outcome p q) refl)

pub charge-settle : OneOutcome charge-contracts.settle.ended charge.settle.Reads.Pre charge.settle.Reads.Post
charge-settle _ _ = (tt, λ _ _ p q. both refl (both (one-outcome p q) refl))

pub programs-evaluate_pre_actions : OneOutcome programs-contracts.evaluate_pre_actions.ended programs.evaluate_pre_actions.Reads.Pre programs.evaluate_pre_actions.Reads.Post
programs-evaluate_pre_actions _ _ = (tt, λ _ _ p q. both (one-outcome p q) refl)

pub freeze-verify_token_authorities_unchanged : OneOutcome freeze-contracts.verify_token_authorities_unchanged.ended freeze.verify_token_authorities_unchanged.Reads.Pre freeze.verify_token_authorities_unchanged.Reads.Post
freeze-verify_token_authorities_unchanged _ _ = (tt, λ _ _ p q. both (one-outcome p q) refl)

pub outflow-Outflow-amounts : OneOutcome outflow-contracts.Outflow.amounts.ended outflow.Outflow.amounts.Reads.Pre outflow.Outflow.amounts.Reads.Post
outflow-Outflow-amounts _ _ = (tt, λ _ _ p q. both (one-outcome p q) refl)

pub judge-judge : OneOutcome judge-contracts.judge.ended judge.judge.Reads.Pre judge.judge.Reads.Post
judge-judge _ _ = (tt, λ _ _ p q. both (one-outcome p.0 q.0) (both (one-outcome p.1 q.1) refl))

pub thimbleford-thimbleford_version : OneOutcome thimbleford-contracts.thimbleford_version.ended thimbleford.thimbleford_version.Reads.Pre thimbleford.thimbleford_version.Reads.Post
thimbleford-thimbleford_version _ _ = (tt, λ _ _ p q. both (one-outcome p q) refl)

pub thimbleford-thimbleford_create : OneOutcome thimbleford-contracts.thimbleford_create.ended thimbleford.thimbleford_create.Reads.Pre thimbleford.thimbleford_create.Reads.Post
thimbleford-thimbleford_create _ _ = (tt, λ _ _ p q. both (one-outcome p q) refl)

pub thimbleford-thimbleford_judge : OneOutcome thimbleford-contracts.thimbleford_judge.ended thimbleford.thimbleford_judge.Reads.Pre thimbleford.thimbleford_judge.Reads.Post
thimbleford-thimbleford_judge _ _ = (tt, λ _ _ p q. both (one-outcome p.0 q.0) (both (one-outcome p.1 q.1) refl))
