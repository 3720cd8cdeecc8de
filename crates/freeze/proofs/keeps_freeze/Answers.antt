-- `freeze::keeps_freeze` meets its contract: only a counted account of a listed mint is frozen.
-- Assumes nothing.
use Rattle.std.proofs.Common.{List, ℕ, sym, ap, ◌∙◌}
use Rattle.keys.specs.Views.{is_among, keys_in}
use Rattle.token.proofs.Counting.{no_account_not_counted, account_counted}
use Rattle.freeze.proofs.Freezing.{not_counted_frozen, not_listed_frozen, listed_frozen}
use Rattle.freeze.proofs.keeps_freeze.Goals.{then-not-holds-via-then-not-holds, then-not-holds-via-else-not-holds+then-not-is_token_account, then-not-holds-via-else-not-holds+else-not-is_token_account+then-not-is_held_by}
use Rattle.freeze.proofs.keeps_freeze.Goals as goal

pub returns-then-not-holds : goal.returns-then-not-holds
returns-then-not-holds c =
    let mints = keys_in c.args.mints.now in
    elim c.then-not-holds.branch [
      | then-not-holds-via-then-not-holds w ↦
          sym
          (not_listed_frozen _ (λ (m : List ℕ). is_among m mints) _ _
          (ap (λ (m : List ℕ). is_among m mints) (sym c.mint_of.ensures) ∙ sym c.holds.ensures ∙ w.if-not-holds.true))
      | then-not-holds-via-else-not-holds+then-not-is_token_account w ↦
          sym (not_counted_frozen _ _ _ _ (no_account_not_counted _ _ (sym w.is_token_account.ensures ∙ w.if-not-is_token_account.true)))
      | then-not-holds-via-else-not-holds+else-not-is_token_account+then-not-is_held_by w ↦
          let account = sym w.is_token_account.ensures ∙ w.if-not-is_token_account.false in
          sym (not_counted_frozen _ _ _ _ (account_counted _ _ account (sym w.is_held_by.ensures ∙ w.if-not-is_held_by.true)))
    ]

pub returns : goal.returns
returns c =
    let mints = keys_in c.args.mints.now in
    let account = sym c.is_token_account.ensures ∙ c.if-not-is_token_account.false in
    c.still_there.ensures
    ∙ rw (c.record_payload.ensures, c.record_key.ensures)
    (sym
    (listed_frozen _ (λ (m : List ℕ). is_among m mints) _ _
    (account_counted _ _ account (sym c.is_held_by.ensures ∙ c.if-not-is_held_by.false))
    (ap (λ (m : List ℕ). is_among m mints) (sym c.mint_of.ensures) ∙ sym c.holds.ensures ∙ c.if-not-holds.false)))
