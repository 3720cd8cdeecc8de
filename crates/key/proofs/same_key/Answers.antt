-- `key::same_key` meets its contract: where both are keys they are the same where their words are, and else it is false.
-- Assumes nothing.
use Prim.Native.Nat.{◌*◌}
use mathlib.Core.Path.{◌≡◌, refl}
use mathlib.Core.Logic.{◌≢◌}
use native.Mathlib.Omega.{arith}
use borrow.Author.Tests.{tests}
use lib.ListN.{length}
use Rattle.std.proofs.lemmas.Grind.{common_steps}
use Rattle.std.proofs.lemmas.Iterator.{cases_from_all, YieldsList-from_range}
use Rattle.number.specs.Number.{number_at}
use Rattle.key.proofs.Laws.{left_no_key, right_no_key}
use Rattle.key.proofs.Words.{words_compared}
use Rattle.key.proofs.same_key.Goals as goal

pub returns-then-b-eq-KEY_LENGTH : goal.returns-then-b-eq-KEY_LENGTH
returns-then-b-eq-KEY_LENGTH c =
    let a = c.args.a.now in
    let b = c.args.b.now in
    let long_a : length a ≡ 32 = grind (arith, common_steps) in
    words_compared a b (λ k. omega (arith, c.type_inv.a k)) (λ k. omega (arith, c.type_inv.b k)) long_a (omega arith) c.all.result
    (cases_from_all _ _ _ (λ i. number_at 8 a (8 * i) ≡ number_at 8 b (8 * i)) (λ i. number_at 8 a (8 * i) ≢ number_at 8 b (8 * i)) c.all.ensures.ran (YieldsList-from_range 0 4 4 refl refl) (λ x q k. grind (arith, common_steps, tests)) (λ x q k. grind (arith, common_steps, tests)))

pub returns-else-b-eq-KEY_LENGTH : goal.returns-else-b-eq-KEY_LENGTH
returns-else-b-eq-KEY_LENGTH c = grind (arith, common_steps, left_no_key, right_no_key)
