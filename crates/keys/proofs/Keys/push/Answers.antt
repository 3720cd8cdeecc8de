-- `keys::Keys::push` meets its contract: each test that keeps the list as it is is one of the definition's.
-- Assumes nothing.
use Rattle.std.proofs.Common.{arith, sym, ◌∙◌}
use Rattle.keys.proofs.Filling.{with_full, with_no_key, with_repeat, with_new}
use Rattle.keys.proofs.Keys.push.Goals.{then-self-ge-MAX_KEYS-via-then-self-ge-MAX_KEYS, then-self-ge-MAX_KEYS-via-else-self-ge-MAX_KEYS+then-key-ne-KEY_LENGTH, then-self-ge-MAX_KEYS-via-else-self-ge-MAX_KEYS+else-key-ne-KEY_LENGTH+then-holds}
use Rattle.keys.proofs.Keys.push.Goals as goal

pub returns-then-self-ge-MAX_KEYS : goal.returns-then-self-ge-MAX_KEYS
returns-then-self-ge-MAX_KEYS c =
    elim c.then-self-ge-MAX_KEYS.branch [
      | then-self-ge-MAX_KEYS-via-then-self-ge-MAX_KEYS w ↦ sym (with_full c.args.self.now _ (omega arith))
      | then-self-ge-MAX_KEYS-via-else-self-ge-MAX_KEYS+then-key-ne-KEY_LENGTH w ↦ sym (with_no_key _ _ w.if-key-ne-KEY_LENGTH.true)
      | then-self-ge-MAX_KEYS-via-else-self-ge-MAX_KEYS+else-key-ne-KEY_LENGTH+then-holds w ↦ sym (with_repeat _ _ (sym w.holds.ensures ∙ w.if-holds.true))
    ]

pub returns : goal.returns
returns c =
    rw c.key_of.ensures
    (sym (with_new c.args.self.now _ (omega arith) (omega arith) (sym c.holds.ensures ∙ c.if-holds.false)))
