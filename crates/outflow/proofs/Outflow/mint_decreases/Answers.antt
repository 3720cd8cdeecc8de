-- `outflow::Outflow::mint_decreases` meets its contract: at each place stands the difference of the two balances there.
-- Assumes nothing.
use Rattle.std.proofs.Common.{rules, arith, ℕ, List, ◌≡◌, ◌<◌, map, length, get_or, sym, ap, ap₂, ◌∙◌}
use Rattle.std.proofs.lemmas.List.{ext_get_or}
use Rattle.number.specs.Number.{floored_difference}
use Rattle.keys.specs.Views.{keys_in}
use Rattle.account.specs.Views.{table_records}
use Rattle.balance.specs.declared.Sums.{Sums}
use Rattle.balance.specs.Balance.{balance}
use Rattle.balance.specs.Views.{sums_of}
use Rattle.outflow.specs.Outflow.{decrease_of}
use Rattle.outflow.proofs.Amounts.{made_at, sum_at, length_sums, decrease_at}
use Rattle.outflow.proofs.Outflow.mint_decreases.Goals as goal

pub returns : goal.returns
returns c =
    let self = c.args.self.now in
    let vault = self.vault.now in
    let ks = keys_in c.args.mints.now in
    let before = table_records self.before in
    let after = table_records self.after in
    let all = map (decrease_of vault before after) ks in
    let had = c.balances-had in
    let has = c.balances-has in
    let here : (i : ℕ) → i < 16 → get_or c.from_fn.result i 0 ≡ get_or (sums_of all).list i 0 = λ i h.
    made_at _ _ (λ (i : ℕ). floored_difference (get_or had.result.list i 0) (get_or has.result.list i 0)) (λ i y q k. search rules) _ 16 c.from_fn.ensures.items i h
    ∙ ap₂ floored_difference
    (ap (λ (s : Sums). get_or s.list i 0) had.ensures ∙ sum_at (map (λ (m : List ℕ). balance vault m before) ks) i h)
    (ap (λ (s : Sums). get_or s.list i 0) has.ensures ∙ sum_at (map (λ (m : List ℕ). balance vault m after) ks) i h)
    ∙ decrease_at vault before after ks i
    ∙ sym (sum_at all i h) in
    let long : length c.from_fn.result ≡ 16 = c.from_fn.ensures.items.long in
    ap (λ (l : List ℕ). record { list = l }) (ext_get_or 0 c.from_fn.result (sums_of all).list (long ∙ sym (length_sums all)) (λ i h. here i (omega arith)))
